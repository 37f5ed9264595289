-- The carried bytes of a record, stored span by span. Assumes nothing.
use Prim.Native.Nat.{ℕ, ◌+◌, ◌≤◌}
use mathlib.Core.Bool.{true}
use mathlib.Core.List.{List, [], ◌∷◌, map, flatten, append-nil}
use mathlib.Core.Path.{◌≡◌, refl, sym, ◌∙◌}
use native.Mathlib.Omega.{arith}
use lib.Dec.{leb}
use lib.ListN.{length, drop_of_length-le}
use borrow.Author.Tests.{leb-true}
use Rattle.sequences.specs.All.{All}
use Rattle.sequences.specs.Part.{put}
use Rattle.sequences.specs.Sum.{sum}
use Rattle.sequences.proofs.Part.{put-append, put-length, put-nothing}
use Rattle.records.specs.Field.{Span, ◌to◌, field, width}
use Rattle.list.specs.ReadBack.{gather}
use Rattle.list.specs.Table.{carried, body_length}
use Rattle.list.specs.declared.table.ItemKind.{ItemKind}
use Rattle.list.proofs.Carried.{span_length, gather-length}
use Rattle.list.proofs.ItemKinds.{each_item}
use Rattle.list.proofs.TableSpans.{Within, carried-within}

-- no body is longer than the positions after a record's number
pub body_at_most : (k : ItemKind) → body_length k ≤ 110
body_at_most k = leb-true (body_length k) 110 (each_item (λ (k : ItemKind). leb (body_length k) 110 ≡ true) (refl, (refl, (refl, (refl, (refl, (refl, (refl, (refl, (refl, (refl, (refl, tt))))))))))) k)

-- the carried bytes are a body
pub body_gathered : (rec : List ℕ) → length rec ≡ 120 → (k : ItemKind) → length (gather (carried k) rec) ≡ body_length k
body_gathered rec whole k = sym (gather-length (carried k) rec (carried-within k) whole)

-- a turn of the code that stores the bytes at spans: those at the spans that are left find room from an index on, and make `all` of the output
pub record Storing (ss : List Span) (from : ℕ) (rec out all : List ℕ) : Type 0 where
  pub within : All Within ss
  pub room : from + sum (map width ss) ≡ length out
  pub left : put from (gather ss rec) out ≡ all

-- at first all of a kind's are left
pub storing : (k : ItemKind) (rec out : List ℕ) → length rec ≡ 120 → length out ≡ body_length k → Storing (carried k) 0 rec out (gather (carried k) rec)
storing k rec out whole fits =
    let body = gather (carried k) rec in
    let size : length body ≡ body_length k = body_gathered rec whole k in
    let far : length out ≤ 0 + length body = omega arith in
    record { within = carried-within k; room = omega arith; left = rw (drop_of_length-le out far, append-nil) refl }

-- in a turn there is room for the bytes of the first span
pub stored_turn : {a e : ℕ} {ss : List Span} {from : ℕ} {rec out all : List ℕ} → length rec ≡ 120 → Storing ((a to e) ∷ ss) from rec out all → from + length (field a e rec) ≤ length out
stored_turn {a} {e} {rec = rec} whole s = let room = s.room in omega (arith, span_length a e rec s.within.0 whole)

-- one span's bytes written, and none left
pub stored_next :
    {a e : ℕ} {ss : List Span} {from : ℕ} {rec out after all : List ℕ} → length rec ≡ 120 → after ≡ put from (field a e rec) out
    → Storing ((a to e) ∷ ss) from rec out all → Storing ss (from + length (field a e rec)) rec after all
unfolding flatten
stored_next {a} {e} {ss} {from} {rec} {out} whole here s =
    let bytes = field a e rec in
    let size : length bytes ≡ width (a to e) = span_length a e rec s.within.0 whole in
    let rest : sum (map width ss) ≡ length (gather ss rec) = gather-length ss rec s.within.1 whole in
    let room = s.room in
    let fits : from + length bytes + length (gather ss rec) ≤ length out = omega arith in
    let kept : length (put from bytes out) ≡ length out = put-length from bytes out (omega arith) in
    record {
      within = s.within.1;
      room = rw (here, kept) (omega arith);
      left = rw (here, ← put-append from bytes (gather ss rec) out fits) s.left;
    }

pub stored_all : {from : ℕ} {rec out all : List ℕ} → Storing [] from rec out all → out ≡ all
unfolding flatten
stored_all {from} {out = out} s = sym (put-nothing from out) ∙ s.left
