-- Records that items encode, with another number, another amount or other counts written over: what the items encode then. Assumes
-- nothing.
use Prim.Native.Nat.{ℕ, ◌+◌, ◌-◌, ◌≤◌}
use mathlib.Core.Bool.{false}
use mathlib.Core.List.{List, [], ◌∷◌, ◌++◌}
use mathlib.Core.Logic.{inl}
use mathlib.Core.Path.{◌≡◌, refl, sym, ◌∙◌, ap, subst}
use native.Mathlib.Omega.{arith}
use lib.ListN.{length, take, drop, length-drop}
use lib.Seq.{length-take-le, drop-drop}
use Rattle.sequences.specs.All.{All}
use Rattle.sequences.specs.Part.{put}
use Rattle.sequences.proofs.All.{all_append}
use Rattle.sequences.proofs.Part.{part_at_most, part-put, take_put, drop-put}
use Rattle.fields.specs.Digits.{digits}
use Rattle.fields.proofs.Decimal.{written-length}
use Rattle.records.specs.Constants.{currency}
use Rattle.records.specs.Field.{◌to◌, first_of}
use Rattle.records.specs.FlowKinds.{causale, sign, total_span, total_at}
use Rattle.records.specs.Kinds.{type_of, Opens, role, heads}
use Rattle.records.specs.declared.flow_kind.FlowKind.{FlowKind}
use Rattle.records.specs.declared.flow_kind.FlowKind.TheVariants.{Requests, Recalls}
use Rattle.records.specs.declared.kind.RecordKind.{RecordKind}
use Rattle.records.specs.declared.kind.RecordKind.TheVariants.{R14, Ef}
use Rattle.records.proofs.EachKind.{each-kind}
use Rattle.grammar.proofs.Dispositions.{Detail, each_detail}
use Rattle.list.specs.Encode.{Placed, place, fill, blanks, abi_in, copied_in, supplied, body_placed, HeaderMeant, encode_item, encode_trailer}
use Rattle.list.specs.Items.{Item, record_kind, Proper}
use Rattle.list.specs.Table.{record_of, carried, body_length}
use Rattle.list.proofs.Carried.{body-fits, body_outside}
use Rattle.list.proofs.OneRecord.{causale-length, sign-length, abi-short}
use Rattle.list.proofs.Placing.{Fits, Outside, fill_again}
use Rattle.list.proofs.RecordsAgain.{kind_for}
use Rattle.list.proofs.TableSpans.{carried-within, carried_after_number}
use Rattle.flow.specs.declared.answer.Totals.{Totals}
use Rattle.amend.specs.Withdraw.{renumbered, recounted}
use Rattle.claims.specs.Ledger.{repriced}

-- the trailer with other totals of the same kind
module _ (header : List ℕ) (t u : Totals) (same : t.kind ≡ u.kind) where
  abbrev front : List Placed
  front = place 2 (type_of Ef) ∷ place 4 (copied_in header) ∷ []

  abbrev money : Placed
  money = place 114 currency

  sizes : (w v u : ℕ) → length (digits w v) ≡ length (digits w u)
  sizes w v u = written-length w v ∙ sym (written-length w u)

  seven : (v : ℕ) → length (digits 7 v) ≡ 7
  seven = written-length 7

  fifteen : (v : ℕ) → length (digits 15 v) ≡ 15
  fifteen = written-length 15

  -- each place lies within the record
  front_fits : All Fits front
  front_fits = (omega arith, (omega (arith, part_at_most 0 42 header), tt))

  count : (v : ℕ) → Fits (place 46 (digits 7 v))
  count v = omega (arith, seven v)

  asked : (v : ℕ) → Fits (place 53 (digits 15 v))
  asked v = omega (arith, fifteen v)

  recalled : (v : ℕ) → Fits (place 68 (digits 15 v))
  recalled v = omega (arith, fifteen v)

  records : (v : ℕ) → Fits (place 83 (digits 7 v))
  records v = omega (arith, seven v)

  last : Fits money
  last = omega arith

  -- with a count d, the sum c at the place of the kind and n records
  abbrev told : FlowKind → ℕ → ℕ → ℕ → List ℕ
  told q d c n = encode_trailer header (record { kind = q; dispositions = d; cents = c; records = n })

  counted : (q : FlowKind) (d c n d' : ℕ) → put 45 (digits 7 d') (told q d c n) ≡ told q d' c n
  unfolding encode_trailer
  counted q d c n d' =
      let a = total_at q 53 c in
      let b = total_at q 68 c in
      fill_again front 46 (digits 7 d) (digits 7 d') (place 53 (digits 15 a) ∷ place 68 (digits 15 b) ∷ place 83 (digits 7 n) ∷ money ∷ []) blanks
      front_fits (asked a, (recalled b, (records n, (last, tt)))) (count d) refl (sizes 7 d' d)
      (inl (omega (arith, seven d')), (inl (omega (arith, seven d')), (inl (omega (arith, seven d')), (inl (omega (arith, seven d')), tt))))

  -- the sum is written at the place of the kind, and the zeros at the other stay
  totalled : (q : FlowKind) (d c n c' : ℕ) → put (first_of (total_span q) - 1) (digits 15 c') (told q d c n) ≡ told q d c' n
  unfolding encode_trailer
  totalled Requests d c n c' =
      fill_again (front ++ (place 46 (digits 7 d) ∷ [])) 53 (digits 15 c) (digits 15 c') (place 68 (digits 15 0) ∷ place 83 (digits 7 n) ∷ money ∷ []) blanks
      (front_fits.0, (front_fits.1.0, (count d, tt))) (recalled 0, (records n, (last, tt))) (asked c) refl (sizes 15 c' c)
      (inl (omega (arith, fifteen c')), (inl (omega (arith, fifteen c')), (inl (omega (arith, fifteen c')), tt)))
  totalled Recalls d c n c' =
      fill_again (front ++ (place 46 (digits 7 d) ∷ place 53 (digits 15 0) ∷ [])) 68 (digits 15 c) (digits 15 c') (place 83 (digits 7 n) ∷ money ∷ []) blanks
      (front_fits.0, (front_fits.1.0, (count d, (asked 0, tt)))) (records n, (last, tt)) (recalled c) refl (sizes 15 c' c)
      (inl (omega (arith, fifteen c')), (inl (omega (arith, fifteen c')), tt))

  recorded : (q : FlowKind) (d c n n' : ℕ) → put 82 (digits 7 n') (told q d c n) ≡ told q d c n'
  unfolding encode_trailer
  recorded q d c n n' =
      let a = total_at q 53 c in
      let b = total_at q 68 c in
      fill_again (front ++ (place 46 (digits 7 d) ∷ place 53 (digits 15 a) ∷ place 68 (digits 15 b) ∷ [])) 83 (digits 7 n) (digits 7 n') (money ∷ []) blanks
      (front_fits.0, (front_fits.1.0, (count d, (asked a, (recalled b, tt))))) (last, tt) (records n) refl (sizes 7 n' n)
      (inl (omega (arith, seven n')), tt)

  pub trailer-recounted : recounted u (encode_trailer header t) ≡ encode_trailer header u
  trailer-recounted =
      let q = u.kind in
      let at = first_of (total_span q) - 1 in
      let d = u.dispositions in
      let c = u.cents in
      let n = u.records in
      ap (recounted u) (λ i. told (same i) t.dispositions t.cents t.records)
      ∙ ap (λ (l : List ℕ). put 82 (digits 7 n) (put at (digits 15 c) l)) (counted q t.dispositions t.cents t.records d)
      ∙ ap (put 82 (digits 7 n)) (totalled q d t.cents t.records c)
      ∙ recorded q d c t.records n

pub detail_heads : (k : RecordKind) → Detail k → heads k ≡ false
detail_heads = each_detail (λ (k : RecordKind). heads k ≡ false) (refl, (refl, (refl, (refl, (refl, (refl, (refl, (refl, tt))))))))

-- what a record that is neither a 14 nor header nor trailer has beside its type and its body
detail_supplied : (q : FlowKind) (k : RecordKind) (n : ℕ) (abi : List ℕ) → Detail k → supplied (role k) q (digits 7 n) abi ≡ place 4 (digits 7 n) ∷ []
detail_supplied q k n abi = each_detail (λ (l : RecordKind). supplied (role l) q (digits 7 n) abi ≡ place 4 (digits 7 n) ∷ []) (refl, (refl, (refl, (refl, (refl, (refl, (refl, (refl, tt)))))))) k

type-fits : (k : RecordKind) → Fits (place 2 (type_of k))
type-fits = each-kind (λ (k : RecordKind). Fits (place 2 (type_of k))) (omega arith, (omega arith, (omega arith, (omega arith, (omega arith, (omega arith, (omega arith, (omega arith, (omega arith, (omega arith, (omega arith, tt)))))))))))

-- a number that was placed after the type, with others after it, written over
number_again :
    (k : RecordKind) (i j : ℕ) (qs : List Placed) → All Fits qs → All (Outside 3 7) qs
    → renumbered j (fill (place 2 (type_of k) ∷ place 4 (digits 7 i) ∷ qs) blanks) ≡ fill (place 2 (type_of k) ∷ place 4 (digits 7 j) ∷ qs) blanks
number_again k i j qs fits outside =
    let size : (v : ℕ) → length (digits 7 v) ≡ 7 = written-length 7 in
    fill_again (place 2 (type_of k) ∷ []) 4 (digits 7 i) (digits 7 j) qs blanks (type-fits k, tt) fits (omega (arith, size i)) refl (size j ∙ sym (size i))
    (subst (λ (w : ℕ). All (Outside 3 w) qs) (sym (size j)) outside)

-- the record of a D
encoded_d :
    (header : HeaderMeant) (it : Item) → it.kind ≡ kind_for header.kind R14 → (n : ℕ)
    → encode_item n header it ≡ fill (place 2 (type_of R14) ∷ (supplied Opens header.kind (digits 7 n) (abi_in header.body) ++ body_placed (carried (kind_for header.kind R14)) it.body)) blanks
unfolding encode_item
encoded_d header it e n = λ i. fill (place 2 (type_of (record_of (e i))) ∷ (supplied (role (record_of (e i))) header.kind (digits 7 n) (abi_in header.body) ++ body_placed (carried (e i)) it.body)) blanks

-- what a 14 has after its number and before its body: the values that are fixed or go by the kind, and the ABI
abbrev fixed : HeaderMeant → List Placed
fixed header = place 29 (causale header.kind) ∷ place 47 (sign header.kind) ∷ place 48 (abi_in header.body) ∷ place 120 currency ∷ []

fixed_fits : (header : HeaderMeant) → All Fits (fixed header)
fixed_fits header =
    let short = abi-short header.body in
    (omega (arith, causale-length header.kind), (omega (arith, sign-length header.kind), (omega arith, (omega arith, tt))))

-- the record of an item, with another number
module _ (i j : ℕ) (header : HeaderMeant) (it : Item) (proper : Proper it) where
  abbrev placed : List Placed
  placed = body_placed (carried it.kind) it.body

  placed_fits : All Fits placed
  placed_fits = body-fits (carried it.kind) it.body (carried-within it.kind) (sym proper.sized)

  -- its body carries no position of the number
  placed_outside : heads (record_kind it) ≡ false → All (Outside 3 7) placed
  placed_outside member = body_outside 3 7 (carried it.kind) it.body (carried_after_number it.kind member)

  pub detail_renumbered : Detail (record_kind it) → renumbered j (encode_item i header it) ≡ encode_item j header it
  unfolding encode_item
  detail_renumbered detail =
      let k = record_kind it in
      let told : (n : ℕ) → encode_item n header it ≡ fill (place 2 (type_of k) ∷ place 4 (digits 7 n) ∷ placed) blanks = λ n. ap (λ (ps : List Placed). fill (place 2 (type_of k) ∷ (ps ++ placed)) blanks) (detail_supplied header.kind k n (abi_in header.body) detail) in
      ap (renumbered j) (told i) ∙ number_again k i j placed placed_fits (placed_outside (detail_heads k detail)) ∙ sym (told j)

  pub opening-renumbered : record_kind it ≡ R14 → renumbered j (encode_item i header it) ≡ encode_item j header it
  unfolding encode_item
  opening-renumbered e =
      let told : (n : ℕ) → encode_item n header it ≡ fill (place 2 (type_of R14) ∷ place 4 (digits 7 n) ∷ (fixed header ++ placed)) blanks = λ n. ap (λ (k : RecordKind). fill (place 2 (type_of k) ∷ (supplied (role k) header.kind (digits 7 n) (abi_in header.body) ++ placed)) blanks) e in
      let outside : All (Outside 3 7) (fixed header) = (inl (omega arith), (inl (omega arith), (inl (omega arith), (inl (omega arith), tt)))) in
      ap (renumbered j) (told i)
      ∙ number_again R14 i j (fixed header ++ placed) (all_append Fits (fixed header) placed (fixed_fits header) placed_fits) (all_append (Outside 3 7) (fixed header) placed outside (placed_outside (ap heads e)))
      ∙ sym (told j)

-- the record of a D, with another amount
module _ (n new : ℕ) (header : HeaderMeant) (it : Item) (proper : Proper it) (e : it.kind ≡ kind_for header.kind R14) where
  abbrev body : List ℕ
  body = it.body

  body-length : length body ≡ 58
  body-length = proper.sized ∙ ap body_length e

  -- what is placed before the amount, and after it
  abbrev before : List Placed
  before = place 2 (type_of R14) ∷ place 4 (digits 7 n) ∷ (fixed header ++ (place 23 (take 6 body) ∷ []))

  abbrev after : List Placed
  after = body_placed ((53 to 69) ∷ (92 to 113) ∷ []) (drop 13 (drop 6 body))

  before-fits : All Fits before
  before-fits =
      let f = fixed_fits header in
      (type-fits R14, (omega (arith, written-length 7 n), (f.0, (f.1.0, (f.1.1.0, (f.1.1.1.0, (omega (arith, length-take-le 6 body (omega (arith, body-length))), tt)))))))

  after-sized : 39 ≡ length (drop 13 (drop 6 body))
  after-sized = omega (arith, length-drop 13 (drop 6 body), length-drop 6 body, body-length)

  within : 6 + length (digits 13 new) ≤ length body
  within = omega (arith, written-length 13 new, body-length)

  pub opening-repriced : put 33 (digits 13 new) (encode_item n header it) ≡ encode_item n header (repriced new it)
  unfolding encode_item body_placed
  opening-repriced =
      let amount = take 13 (drop 6 body) in
      let other = repriced new it in
      let thirteen : length (digits 13 new) ≡ 13 = written-length 13 new in
      let own : length amount ≡ 13 = length-take-le 13 (drop 6 body) (omega (arith, length-drop 6 body, body-length)) in
      let spans = carried-within (kind_for header.kind R14) in
      let fits : All Fits after = body-fits ((53 to 69) ∷ (92 to 113) ∷ []) (drop 13 (drop 6 body)) spans.1.1 after-sized in
      let outside : All (Outside 33 (length (digits 13 new))) after = body_outside 33 (length (digits 13 new)) ((53 to 69) ∷ (92 to 113) ∷ []) (drop 13 (drop 6 body)) (omega arith, (omega arith, tt)) in
      let date : take 6 body ≡ take 6 other.body = sym (take_put 6 (digits 13 new) body within 6 (omega arith)) in
      let cents : digits 13 new ≡ take 13 (drop 6 other.body) = sym (ap (λ (w : ℕ). take w (drop 6 other.body)) (sym thirteen) ∙ part-put 6 (digits 13 new) body within) in
      let rest : drop 13 (drop 6 body) ≡ drop 13 (drop 6 other.body) = drop-drop 13 6 body ∙ sym (drop-drop 13 6 other.body ∙ drop-put 6 (digits 13 new) body within (6 + 13) (omega arith)) in
      ap (put 33 (digits 13 new)) (encoded_d header it e n)
      ∙ fill_again before 34 amount (digits 13 new) after blanks before-fits fits (omega arith) refl (thirteen ∙ sym own) outside
      ∙ (λ i. fill (place 2 (type_of R14) ∷ (supplied Opens header.kind (digits 7 n) (abi_in header.body) ++ (place 23 (date i) ∷ place 34 (cents i) ∷ body_placed ((53 to 69) ∷ (92 to 113) ∷ []) (rest i)))) blanks)
      ∙ sym (encoded_d header other e n)
