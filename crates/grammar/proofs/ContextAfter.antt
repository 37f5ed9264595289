-- What a record is asked after the records before it, said by the state of the walk and said by those records themselves. Assumes
-- nothing.
use Prim.Native.Nat.{ℕ, suc, ◌+◌}
use mathlib.Core.Bool.{cond}
use mathlib.Core.List.{List, [], ◌∷◌, ◌++◌, map, head-eq_of_cons-eq, tail-eq_of_cons-eq, nil≢cons}
use mathlib.Core.Logic.{◌↔◌}
use mathlib.Core.Path.{◌≡◌, refl, sym, ◌∙◌, subst}
use native.Mathlib.Omega.{arith}
use lib.ListN.{length, take, length-map}
use Rattle.sequences.proofs.All.{all_at}
use Rattle.sequences.proofs.Map.{map_split}
use Rattle.records.specs.Checks.{checks}
use Rattle.records.specs.Context.{Context, header_of}
use Rattle.records.specs.RecordVerdict.{Hold, FirstBroken}
use Rattle.records.specs.Kinds.{type_of, opens}
use Rattle.records.specs.declared.kind.RecordKind.{RecordKind}
use Rattle.records.proofs.ByKind.{types_differ}
use Rattle.records.proofs.FirstFault.{right-not-refused}
use Rattle.flow.specs.Order.{In, permitted, place_due}
use Rattle.flow.specs.Walking.{start}
use Rattle.flow.specs.ExactTotals.{opening_count, amount_sum}
use Rattle.flow.specs.declared.order.Due.TheVariants.{OnlyIm}
use Rattle.flow.specs.declared.order.Place.{Place}
use Rattle.flow.proofs.Cut.{Whole}
use Rattle.grammar.specs.Fault.{HaveKinds, MayFollow, context_after, RightRecord, EachRight, Fault, FaultAfter, bad_byte_lem, wrong_type, broken}
use Rattle.grammar.specs.Grammar.{Typed, kinds_of, records_in}
use Rattle.grammar.specs.Shape.{InOrder}
use Rattle.grammar.proofs.AtPlace.{asks, May, RightAt, FaultAt, right_judged, fault_judged}
use Rattle.grammar.proofs.Order.{place_through, may_go_on, went_on}
use Rattle.grammar.proofs.Walked.{state_after, code_after, Walked, walked_append, walked_allowed, AllFormed, walked_formed, state_place, Outcome, all_right, stops, outcome, state_counts}

-- types tell their kinds
kinds-differ : (ks ls : List RecordKind) → map type_of ks ≡ map type_of ls → ks ≡ ls
kinds-differ [] [] e = refl
kinds-differ [] (l ∷ ls) e = absurd (nil≢cons e)
kinds-differ (k ∷ ks) [] e = absurd (nil≢cons (sym e))
kinds-differ (k ∷ ks) (l ∷ ls) e =
    let one = types_differ k l (head-eq_of_cons-eq e) in
    let rest = kinds-differ ks ls (tail-eq_of_cons-eq e) in
    cc

pub have-kinds : (rs : List Typed) → AllFormed rs → HaveKinds (kinds_of rs) (records_in rs)
have-kinds [] formed = refl
have-kinds (r ∷ rs) formed =
    let one = formed.0.type in
    let rest = have-kinds rs formed.1 in
    cc

-- a fault where the same kinds may stand and are asked the same
fault_same :
    {may may' : RecordKind → Type 0} {asked_so asked-so' : RecordKind → Context} → ((k : RecordKind) → may k ↔ may' k) → ((k : RecordKind) → asked_so k ≡ asked-so' k)
    → (rec : List ℕ) {n p : ℕ} → Fault may asked_so rec n p → Fault may' asked-so' rec n p
fault_same mays asks-same rec (bad_byte_lem bs b cs e printable bad) = bad_byte_lem bs b cs e printable bad
fault_same mays asks-same rec (wrong_type printable none) = wrong_type printable (λ k e may. none k e ((mays k).1 may))
fault_same mays asks-same rec (broken k n p printable type may first) =
    broken k n p printable type ((mays k).0 may) (subst (λ (ctx : Context). FirstBroken (checks k ctx rec) n p) (asks-same k) first)

-- right records from the front of the flow f on
abbrev pub FromStart : List ℕ → List Typed → Type 0
FromStart f rs = Walked (header_of (take 120 f)) start [] 0 rs

-- a record after them, by the state of the walk
abbrev pub RightNext : List ℕ → List Typed → RecordKind → List ℕ → Type 0
RightNext f rs k rec = RightAt (header_of (take 120 f)) (state_after start rs) (code_after [] rs) (suc (0 + length rs)) k rec

abbrev pub FaultNext : List ℕ → List Typed → List ℕ → ℕ → ℕ → Type 0
FaultNext f rs rec n p = FaultAt (header_of (take 120 f)) (state_after start rs) (code_after [] rs) (suc (0 + length rs)) rec n p

module _ (f : List ℕ) (rs : List Typed) (walked : FromStart f rs) where
  pub formed_so : AllFormed rs
  formed_so = walked_formed (header_of (take 120 f)) start [] 0 rs walked

  -- the kinds of the records are those that their types name
  pub same-kinds : (ks : List RecordKind) → HaveKinds ks (records_in rs) → ks ≡ kinds_of rs
  same-kinds ks e = kinds-differ ks (kinds_of rs) (e ∙ sym (have-kinds rs formed_so))

  pub may_follow : (k : RecordKind) → May (state_after start rs) k → MayFollow (records_in rs) k
  may_follow k may =
      let here : In k (permitted (place_through (place_due OnlyIm) (kinds_of rs)).due) = subst (λ (p : Place). In k (permitted p.due)) (state_place start rs) may in
      let goes = may_go_on (kinds_of rs) k (walked_allowed (header_of (take 120 f)) start [] 0 rs walked) here in
      record { kinds = kinds_of rs; rest = goes.0; have = have-kinds rs formed_so; order = goes.1 }

  pub follows_may : (k : RecordKind) → MayFollow (records_in rs) k → May (state_after start rs) k
  follows_may k follow =
      let order : InOrder (kinds_of rs ++ (k ∷ follow.rest)) = subst (λ (ks : List RecordKind). InOrder (ks ++ (k ∷ follow.rest))) (same-kinds follow.kinds follow.have) follow.order in
      subst (λ (p : Place). In k (permitted p.due)) (sym (state_place start rs)) (went_on (kinds_of rs) k follow.rest order).1

  asks_after : (k : RecordKind) → asks (header_of (take 120 f)) (state_after start rs) (code_after [] rs) (suc (0 + length rs)) k ≡ context_after f (records_in rs) k
  asks_after k =
      let counts = state_counts start [] rs formed_so in
      let opened : ℕ = cond (opens k) 1 0 in
      let dispositions : (state_after start rs).dispositions + opened ≡ opening_count (records_in rs) + opened = omega arith in
      let cents : (state_after start rs).cents ≡ amount_sum (records_in rs) = omega arith in
      let records : suc (0 + length rs) ≡ suc (length (records_in rs)) = omega (arith, length-map rs (λ (r : Typed). r.bytes)) in
      λ i. record { header = header_of (take 120 f); company = counts.2 i; kind = counts.3 i; counts = record { dispositions = dispositions i; cents = cents i; records = records i } }

  pub right_after : (k : RecordKind) (rec : List ℕ) → RightNext f rs k rec → RightRecord f (records_in rs) rec
  right_after k rec r =
      record {
        kind = k;
        printable = r.formed.printable;
        type = r.formed.type;
        permitted = may_follow k r.may;
        keeps = subst (λ (ctx : Context). Hold (checks k ctx rec)) (asks_after k) r.keeps;
      }

  pub right_next : (rec : List ℕ) → length rec ≡ 120 → (r : RightRecord f (records_in rs) rec) → RightNext f rs r.kind rec
  right_next rec whole r =
      record {
        may = follows_may r.kind r.permitted;
        formed = record { whole = whole; printable = r.printable; type = r.type };
        keeps = subst (λ (ctx : Context). Hold (checks r.kind ctx rec)) (sym (asks_after r.kind)) r.keeps;
      }

  pub fault_after : (rec : List ℕ) (n p : ℕ) → FaultNext f rs rec n p → FaultAfter f (records_in rs) rec n p
  fault_after rec n p fault = fault_same (λ k. (may_follow k, follows_may k)) asks_after rec fault

  pub fault_next : (rec : List ℕ) (n p : ℕ) → FaultAfter f (records_in rs) rec n p → FaultNext f rs rec n p
  fault_next rec n p fault = fault_same (λ k. (follows_may k, may_follow k)) (λ k. sym (asks_after k)) rec fault

  -- no record is both right and faulty
  pub not-both : (k : RecordKind) (rec : List ℕ) (n p : ℕ) → RightNext f rs k rec → ¬ FaultNext f rs rec n p
  not-both k rec n p r fault =
      let h = header_of (take 120 f) in
      let w = state_after start rs in
      let code = code_after [] rs in
      let whole = r.formed.whole in
      right-not-refused (sym (fault_judged h w code (suc (0 + length rs)) rec whole n p fault) ∙ right_judged h w code (suc (0 + length rs)) rec whole k r)

-- records each right at its place are right one after the other
pub walked_of : (f : List ℕ) (recs : List (List ℕ)) → Whole recs → EachRight f recs → (rs : List Typed) × (records_in rs ≡ recs) × FromStart f rs
walked_of f recs whole each = go whole each (outcome (header_of (take 120 f)) start [] 0 recs whole)
  where
    go : {recs : List (List ℕ)} → Whole recs → EachRight f recs → Outcome (header_of (take 120 f)) start [] 0 recs → (rs : List Typed) × (records_in rs ≡ recs) × FromStart f rs
    go whole each (all_right rs walked) = (rs, refl, walked)
    go whole each (stops rs rec rest m p walked fault) =
        let r = each (records_in rs) rec rest refl in
        let size = all_at (λ (l : List ℕ). length l ≡ 120) (records_in rs) rec rest whole in
        absurd (not-both f rs walked r.kind rec m p (right_next f rs walked rec size r) fault)

-- and the other way round
pub each_of : (f : List ℕ) (rs : List Typed) → FromStart f rs → EachRight f (records_in rs)
each_of f rs walked before rec after e = go (map_split (λ (r : Typed). r.bytes) rs before (rec ∷ after) e)
  where
    here : (xs ys : List Typed) → FromStart f (xs ++ ys) → records_in xs ≡ before → records_in ys ≡ rec ∷ after → RightRecord f before rec
    here xs [] w front back = absurd (nil≢cons back)
    here xs (y ∷ ys) w front back =
        let parts = (walked_append (header_of (take 120 f)) start [] 0 xs (y ∷ ys)).0 w in
        let r = right_after f xs parts.0 y.kind y.bytes parts.1.0 in
        subst (λ (l : List (List ℕ)). RightRecord f l rec) front (subst (λ (l : List ℕ). RightRecord f (records_in xs) l) (head-eq_of_cons-eq back) r)

    go : (xs ys : List Typed) × (rs ≡ xs ++ ys) × (records_in xs ≡ before) × (records_in ys ≡ rec ∷ after) → RightRecord f before rec
    go s = here s.0 s.1 (subst (FromStart f) s.2 walked) s.3 s.4
