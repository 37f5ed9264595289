-- The walk over the records of dispositions, and what the grammar says of them. Assumes nothing.
use Prim.Native.Nat.{ℕ, zero, suc, ◌+◌}
use mathlib.Core.Bool.{Bool, true, false, cond, ◌&&◌, true≢false}
use mathlib.Core.List.{List, [], ◌∷◌, ◌++◌, map, flatten, nil≢cons, head-eq_of_cons-eq, tail-eq_of_cons-eq, map-append}
use mathlib.Core.Logic.{◌↔◌}
use mathlib.Core.Path.{◌≡◌, refl, sym, ◌∙◌, ap, subst}
use native.Mathlib.Omega.{arith}
use lib.ListN.{length, replicate}
use Rattle.sequences.specs.All.{All}
use Rattle.sequences.specs.Sum.{sum}
use Rattle.sequences.proofs.All.{all_append}
use Rattle.fields.specs.Digits.{number}
use Rattle.records.specs.Amount.{amount_in}
use Rattle.records.specs.Company.{company_in, is_none, agrees}
use Rattle.records.specs.Context.{Header}
use Rattle.records.specs.FlowKinds.{kind_in, first_known}
use Rattle.records.specs.Judge.{asked}
use Rattle.records.specs.Kinds.{opens, goes_on, opened}
use Rattle.records.specs.declared.kind.RecordKind.{RecordKind}
use Rattle.records.specs.declared.kind.RecordKind.TheVariants.{Im, R14, R16, R20, R30, R40, R50, R59, R51, R70, Ef}
use Rattle.flow.specs.Walking.{kind_after, step, company_after}
use Rattle.flow.specs.declared.order.Place.{Place}
use Rattle.flow.specs.declared.walk.Walk.{Walk}
use Rattle.grammar.specs.Grammar.{Typed, kinds_of, opening, disposition_amount, disposition_code, RightDisposition, RightDispositions}
use Rattle.grammar.specs.Rules.{Formed, MemberRules}
use Rattle.grammar.specs.Shape.{Coordinates, no_16, with_16, Reasons, one_50, some_59, Disposition, disposition}
use Rattle.grammar.proofs.AtPlace.{asks, May, RightAt}
use Rattle.grammar.proofs.Codes.{code_stands, first_found, Agreeing}
use Rattle.grammar.proofs.Order.{Allowed, allowed_before, allowed_after}
use Rattle.grammar.proofs.Rules.{Agrees, member_rules}
use Rattle.grammar.proofs.KindsOfFlow.{SomeKind, kind_through, Kindred}
use Rattle.grammar.proofs.Walked.{state_after, code_after, Walked, walked_append, state_append, walked_allowed, state_place}
use Rattle.records.specs.declared.flow_kind.FlowKind.{FlowKind}
use Rattle.std.specs.Prelude.{Option}

-- a kind of record that stands in a disposition and does not open it
abbrev pub Detail : RecordKind → Type 0
Detail k = goes_on k ≡ true

-- what holds of each of these
pub each_detail : (P : RecordKind → Type 0) → All P (R16 ∷ R20 ∷ R30 ∷ R40 ∷ R50 ∷ R59 ∷ R51 ∷ R70 ∷ []) → (k : RecordKind) → Detail k → P k
each_detail P all Im d = absurd (true≢false (sym d))
each_detail P all R14 d = absurd (true≢false (sym d))
each_detail P all R16 d = all.0
each_detail P all R20 d = all.1.0
each_detail P all R30 d = all.1.1.0
each_detail P all R40 d = all.1.1.1.0
each_detail P all R50 d = all.1.1.1.1.0
each_detail P all R59 d = all.1.1.1.1.1.0
each_detail P all R51 d = all.1.1.1.1.1.1.0
each_detail P all R70 d = all.1.1.1.1.1.1.1.0
each_detail P all Ef d = absurd (true≢false (sym d))

pub detail_opens : (k : RecordKind) → Detail k → opens k ≡ false
detail_opens = each_detail (λ (k : RecordKind). opens k ≡ false) (refl, (refl, (refl, (refl, (refl, (refl, (refl, (refl, tt))))))))

-- a disposition is a 14 and its details
coordinates_details : {cs : List RecordKind} → Coordinates cs → All Detail cs
coordinates_details no_16 = tt
coordinates_details with_16 = (refl, tt)

reasons_details : {rs : List RecordKind} → Reasons rs → All Detail rs
reasons_details one_50 = (refl, tt)
reasons_details (some_59 n some few) = go n
  where
    go : (n : ℕ) → All Detail (replicate n R59)
    go zero = tt
    go (suc n) = (refl, go n)

-- the records of a disposition: the one that opens it, and its details
pub data Opened : List Typed → Type 0 where
  opened_by : (r : Typed) (rs : List Typed) → r.kind ≡ R14 → All Detail (kinds_of rs) → Opened (r ∷ rs)

pub opened_so : (d : List Typed) → Disposition (kinds_of d) → Opened d
opened_so d order = go d (kinds_of d) refl order
  where
    details : {ks : List RecordKind} → Disposition ks → (ls : List RecordKind) × (ks ≡ R14 ∷ ls) × All Detail ls
    details (disposition {cs = cs} {rs = rs} c r) =
        let rest = R51 ∷ R70 ∷ [] in
        let middle = R20 ∷ R30 ∷ R40 ∷ (rs ++ rest) in
        (cs ++ middle, refl, all_append Detail cs middle (coordinates_details c) (refl, (refl, (refl, all_append Detail rs rest (reasons_details r) (refl, (refl, tt))))))

    go : (d : List Typed) (ks : List RecordKind) → kinds_of d ≡ ks → Disposition ks → Opened d
    go [] ks e o = absurd (nil≢cons (e ∙ (details o).1))
    go (r ∷ rs) ks e o =
        let split = details o in
        let same = e ∙ split.1 in
        opened_by r rs (head-eq_of_cons-eq same) (subst (All Detail) (sym (tail-eq_of_cons-eq same)) split.2)

-- after details the state is as before, but for its place
details_state :
    (w : Walk) (code : List ℕ) (rs : List Typed) → All Detail (kinds_of rs)
    → ((state_after w rs).dispositions ≡ w.dispositions) × ((state_after w rs).cents ≡ w.cents) × (code_after code rs ≡ code) × ((state_after w rs).kind ≡ w.kind)
details_state w code [] details = (refl, refl, refl, refl)
details_state w code (r ∷ rs) details =
    let k = r.kind in
    let shut = detail_opens k details.0 in
    let count : opened k ≡ 0 = ap (λ (b : Bool). cond b 1 0) shut in
    let cents : asked k r.bytes ≡ 0 = ap (λ (b : Bool). cond b (number (amount_in r.bytes)) 0) shut in
    let same : company_after code k r.bytes ≡ code = ap (λ (b : Bool). cond (b && is_none code) (company_in r.bytes) code) shut in
    let rest = details_state (step w k (asked k r.bytes) r.bytes) (company_after code k r.bytes) rs details.1 in
    let kind : kind_after w.kind k r.bytes ≡ w.kind = ap (λ (b : Bool). cond b (first_known w.kind (kind_in r.bytes)) w.kind) shut in
    (omega arith, omega arith, rest.2 ∙ same, rest.3 ∙ kind)

-- after a disposition one more is counted, and its amount; and the kind is known
pub disposition_state :
    (w : Walk) (code : List ℕ) (d : List Typed) → Opened d
    → ((state_after w d).dispositions ≡ suc w.dispositions) × ((state_after w d).cents ≡ w.cents + disposition_amount d) × (code_after code d ≡ first_found code (disposition_code d))
    × ((state_after w d).kind ≡ first_known w.kind (kind_in (opening d)))
disposition_state w code d (opened_by r rs e details) =
    let k = r.kind in
    let count : opened k ≡ 1 = ap opened e in
    let cents : asked k r.bytes ≡ number (amount_in r.bytes) = ap (λ (l : RecordKind). asked l r.bytes) e in
    let code-so : company_after code k r.bytes ≡ first_found code (company_in r.bytes) = ap (λ (l : RecordKind). company_after code l r.bytes) e in
    let rest = details_state (step w k (asked k r.bytes) r.bytes) (company_after code k r.bytes) rs details in
    let kind : kind_after w.kind k r.bytes ≡ first_known w.kind (kind_in r.bytes) = ap (λ (l : RecordKind). kind_after w.kind l r.bytes) e in
    (omega arith, omega arith, rest.2 ∙ code-so, rest.3 ∙ kind)

-- a record of the n-th disposition, as the grammar says it
abbrev pub Member : List ℕ → ℕ → Typed → Type 0
Member abi n r = Formed r.kind r.bytes × MemberRules r.kind abi n r.bytes

-- and as the walk finds it
member_exact :
    (h : Header) (w : Walk) (code : List ℕ) (i n : ℕ) (r : Typed) → (r.kind ≡ Im → ⊥) → (r.kind ≡ Ef → ⊥) → w.dispositions + opened r.kind ≡ n
    → RightAt h w code (suc i) r.kind r.bytes ↔ (May w r.kind × Member h.abi n r × Agrees r.kind code w.kind r.bytes)
member_exact h w code i n r not-header not-trailer number-due =
    let k = r.kind in
    let rec = r.bytes in
    let rules = member_rules k (asks h w code (suc i) k) rec not-header not-trailer in (
      λ a.
          let kept = rules.0 a.keeps in
          (a.may, (a.formed, subst (λ (m : ℕ). MemberRules k h.abi m rec) number-due kept.0), kept.1),
      λ g. record {
        may = g.0;
        formed = g.1.0;
        keeps = rules.1 (subst (λ (m : ℕ). MemberRules k h.abi m rec) (sym number-due) g.1.1, g.2);
      },
    )

detail_agrees : (k : RecordKind) (code : List ℕ) (q : Option FlowKind) (rec : List ℕ) → Detail k → Agrees k code q rec
detail_agrees k code q rec = each_detail (λ (l : RecordKind). Agrees l code q rec) (tt, (tt, (tt, (tt, (tt, (tt, (tt, (tt, tt)))))))) k

details_exact :
    (h : Header) (w : Walk) (code : List ℕ) (i n : ℕ) (rs : List Typed) → All Detail (kinds_of rs) → w.dispositions ≡ n
    → Walked h w code i rs ↔ (Allowed w.place (kinds_of rs) × All (Member h.abi n) rs)
details_exact h w code i n [] details same = (λ u. (tt, tt), λ u. tt)
details_exact h w code i n (r ∷ rs) details same =
    let k = r.kind in
    let shut : opened k ≡ 0 = ap (λ (b : Bool). cond b 1 0) (detail_opens k details.0) in
    let due : w.dispositions + opened k ≡ n = omega arith in
    let one = member_exact h w code i n r (λ e. true≢false (sym (subst Detail e details.0))) (λ e. true≢false (sym (subst Detail e details.0))) due in
    let rest = details_exact h (step w k (asked k r.bytes) r.bytes) (company_after code k r.bytes) (suc i) n rs details.1 due in (
      λ walked.
          let front = one.0 walked.0 in
          let back = rest.0 walked.1 in
          ((front.0, back.0), (front.1, back.1)),
      λ g. (one.1 (g.0.0, g.1.0, detail_agrees k code w.kind r.bytes details.0), rest.1 (g.0.1, g.1.1)),
    )

-- the n-th disposition
disposition_exact :
    (h : Header) (w : Walk) (code : List ℕ) (i n : ℕ) (d : List Typed) → Disposition (kinds_of d) → suc w.dispositions ≡ n
    → Walked h w code i d ↔ (Allowed w.place (kinds_of d) × RightDisposition h.abi n d × ((agrees code (disposition_code d) ≡ true) × SomeKind w.kind (opening d)))
disposition_exact h w code i n d order same = go d order (opened_so d order)
  where
    go : (d : List Typed) → Disposition (kinds_of d) → Opened d → Walked h w code i d ↔ (Allowed w.place (kinds_of d) × RightDisposition h.abi n d × ((agrees code (disposition_code d) ≡ true) × SomeKind w.kind (opening d)))
    go d order (opened_by r rs e details) =
        let k = r.kind in
        let opens_one : opened k ≡ 1 = ap opened e in
        let due : w.dispositions + opened k ≡ n = omega arith in
        let one = member_exact h w code i n r (λ s. apart (sym e ∙ s)) (λ s. apart_trailer (sym e ∙ s)) due in
        let rest = details_exact h (step w k (asked k r.bytes) r.bytes) (company_after code k r.bytes) (suc i) n rs details due in (
          λ walked.
              let front = one.0 walked.0 in
              let back = rest.0 walked.1 in
              ((front.0, back.0), record { order = order; records = (front.1, back.1) }, subst (λ (l : RecordKind). Agrees l code w.kind r.bytes) e front.2),
          λ g. (one.1 (g.0.0, g.1.records.0, subst (λ (l : RecordKind). Agrees l code w.kind r.bytes) (sym e) g.2), rest.1 (g.0.1, g.1.records.1)),
        )
      where
        apart : R14 ≡ Im → ⊥
        apart s = let z : ◌≡◌ {A = ℕ} 0 1 = cc in omega arith

        apart_trailer : R14 ≡ Ef → ⊥
        apart_trailer s = let z : ◌≡◌ {A = ℕ} 0 1 = cc in omega arith

abbrev pub InShape : List (List Typed) → Type 0
InShape ds = All (λ (d : List Typed). Disposition (kinds_of d)) ds

pub numbered_shape : (abi : List ℕ) (n : ℕ) (ds : List (List Typed)) → RightDispositions abi n ds → InShape ds
numbered_shape abi n [] each = tt
numbered_shape abi n (d ∷ ds) each = (each.0.order, numbered_shape abi (suc n) ds each.1)

-- each has a company code
pub codes_stand : (abi : List ℕ) (n : ℕ) (ds : List (List Typed)) → RightDispositions abi n ds → All (λ (c : List ℕ). is_none c ≡ false) (map disposition_code ds)
codes_stand abi n [] each = tt
codes_stand abi n (d ∷ ds) each = (in_opening d (opened_so d each.0.order) each.0.records, codes_stand abi (suc n) ds each.1)
  where
    in_opening : (d : List Typed) → Opened d → All (Member abi n) d → is_none (disposition_code d) ≡ false
    in_opening d (opened_by r rs e details) members = code_stands r.bytes members.0.0.whole

-- after dispositions they are counted, and their amounts; and the kind is known
pub dispositions_state :
    (w : Walk) (ds : List (List Typed)) → InShape ds
    → ((state_after w (flatten ds)).dispositions ≡ w.dispositions + length ds) × ((state_after w (flatten ds)).cents ≡ w.cents + sum (map disposition_amount ds))
    × ((state_after w (flatten ds)).kind ≡ kind_through w.kind (map opening ds))
unfolding flatten
dispositions_state w [] shape = (omega arith, omega arith, refl)
dispositions_state w (d ∷ ds) shape =
    let one = disposition_state w [] d (opened_so d shape.0) in
    let rest = dispositions_state (state_after w d) ds shape.1 in
    let same = state_append w d (flatten ds) in
    let count = ap (λ (v : Walk). v.dispositions) same in
    let cents = ap (λ (v : Walk). v.cents) same in
    let kind = ap (λ (v : Walk). v.kind) same in
    (omega arith, omega arith, kind ∙ rest.2 ∙ ap (λ (q : Option FlowKind). kind_through q (map opening ds)) one.3)

-- dispositions numbered after n
pub dispositions_exact :
    (h : Header) (w : Walk) (code : List ℕ) (i n : ℕ) (ds : List (List Typed)) → InShape ds → suc w.dispositions ≡ n
    → Walked h w code i (flatten ds) ↔ (Allowed w.place (kinds_of (flatten ds)) × RightDispositions h.abi n ds × (Agreeing code (map disposition_code ds) × Kindred w.kind (map opening ds)))
unfolding flatten
dispositions_exact h w code i n [] shape same = (λ u. (tt, tt, (tt, tt)), λ u. tt)
dispositions_exact h w code i n (d ∷ ds) shape same =
    let w' = state_after w d in
    let code' = code_after code d in
    let state = disposition_state w code d (opened_so d shape.0) in
    let next : suc w'.dispositions ≡ suc n = omega arith in
    let one = disposition_exact h w code i n d shape.0 same in
    let rest = dispositions_exact h w' code' (i + length d) (suc n) ds shape.1 next in
    let parts = walked_append h w code i d (flatten ds) in
    let kinds = map-append (λ (r : Typed). r.kind) d (flatten ds) in (
      λ walked.
          let both = parts.0 walked in
          let front = one.0 both.0 in
          let back = rest.0 both.1 in
          (walked_allowed h w code i (d ++ flatten ds) walked, (front.1, back.1), ((front.2.0, subst (λ (c : List ℕ). Agreeing c (map disposition_code ds)) state.2 back.2.0), (front.2.1, subst (λ (q : Option FlowKind). Kindred q (map opening ds)) state.3 back.2.1))),
      λ g.
          let allowed = subst (Allowed w.place) kinds g.0 in
          let front = one.1 (allowed_before w.place (kinds_of d) (kinds_of (flatten ds)) allowed, g.1.0, (g.2.0.0, g.2.1.0)) in
          let here = subst (λ (p : Place). Allowed p (kinds_of (flatten ds))) (sym (state_place w d)) (allowed_after w.place (kinds_of d) (kinds_of (flatten ds)) allowed) in
          parts.1 (front, rest.1 (here, g.1.1, (subst (λ (c : List ℕ). Agreeing c (map disposition_code ds)) (sym state.2) g.2.0.1, subst (λ (q : Option FlowKind). Kindred q (map opening ds)) (sym state.3) g.2.1.1))),
    )
