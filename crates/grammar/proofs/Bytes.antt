-- The records of a flow and its bytes: cut apart and joined again. Assumes nothing.
use Prim.Native.Nat.{ℕ}
use mathlib.Core.List.{List, [], ◌∷◌, ◌++◌, append-nil, map, map-map, map-append, flatten}
use mathlib.Core.Path.{◌≡◌, sym, ◌∙◌, ap}
use Rattle.sequences.proofs.Flatten.{flatten-append, flatten-flatten, map-flatten}
use Rattle.records.specs.declared.kind.RecordKind.TheVariants.{Im, Ef}
use Rattle.grammar.specs.Grammar.{Typed, Parts, records_in, bytes_of}

-- the records of a flow that is taken apart, in order
abbrev pub typed_of : Parts → List Typed
typed_of p = record { kind = Im; bytes = p.header } ∷ (flatten p.dispositions ++ (record { kind = Ef; bytes = p.trailer } ∷ []))

bytes-within : (ds : List (List Typed)) → flatten (records_in (flatten ds)) ≡ flatten (map (λ (d : List Typed). flatten (records_in d)) ds)
bytes-within ds = ap flatten (map-flatten (λ (r : Typed). r.bytes) ds) ∙ sym (flatten-flatten (map records_in ds)) ∙ ap flatten (map-map flatten records_in ds)

pub parts_joined : (p : Parts) → flatten (records_in (typed_of p)) ≡ bytes_of p
unfolding flatten
parts_joined p =
    let back : List Typed = record { kind = Ef; bytes = p.trailer } ∷ [] in
    ap (λ (l : List ℕ). p.header ++ l)
    (ap flatten (map-append (λ (r : Typed). r.bytes) (flatten p.dispositions) back)
    ∙ flatten-append (records_in (flatten p.dispositions)) (records_in back)
    ∙ ap (λ (l : List ℕ). l ++ (p.trailer ++ [])) (bytes-within p.dispositions)
    ∙ ap (λ (l : List ℕ). flatten (map (λ (d : List Typed). flatten (records_in d)) p.dispositions) ++ l) (append-nil p.trailer))
