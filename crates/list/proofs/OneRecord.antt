-- The record that an item encodes: its length, its type, its number, and its carried bytes. Assumes nothing.
use Prim.Native.Nat.{ℕ, ◌+◌, ◌≤◌}
use mathlib.Core.Bool.{true, false, true≢false}
use mathlib.Core.List.{List, [], ◌∷◌, ◌++◌}
use mathlib.Core.Logic.{inl, inr}
use mathlib.Core.Path.{◌≡◌, refl, sym, ◌∙◌, ap, subst}
use native.Mathlib.Omega.{arith}
use lib.ListN.{length, take, length-take}
use Rattle.sequences.specs.All.{All}
use Rattle.sequences.specs.Part.{part, put}
use Rattle.sequences.proofs.All.{all_append}
use Rattle.sequences.proofs.Part.{part_at_most, part-put, put-length}
use Rattle.fields.specs.Digits.{digits}
use Rattle.fields.proofs.Decimal.{written-length}
use Rattle.records.specs.Constants.{currency}
use Rattle.records.specs.Field.{◌to◌, field}
use Rattle.records.specs.FlowKinds.{causale, sign}
use Rattle.records.specs.Kinds.{type_of, Role, Heads, Opens, GoesOn, Closes, role, by_role, heads}
use Rattle.records.specs.declared.flow_kind.FlowKind.{FlowKind}
use Rattle.records.specs.declared.flow_kind.FlowKind.TheVariants.{Requests, Recalls}
use Rattle.records.specs.declared.kind.RecordKind.{RecordKind}
use Rattle.records.specs.declared.kind.RecordKind.TheVariants.{R14}
use Rattle.records.proofs.EachKind.{each-kind}
use Rattle.list.specs.Encode.{Placed, place, fill, blanks, carried_at, abi_in, HeaderMeant, supplied, body_placed, encode_item}
use Rattle.list.specs.Items.{Item, item, record_kind, Proper}
use Rattle.list.specs.ReadBack.{gather}
use Rattle.list.specs.Table.{record_of, carried, body_length}
use Rattle.list.specs.declared.table.ItemKind.{ItemKind}
use Rattle.list.specs.declared.table.ItemKind.TheVariants.{D}
use Rattle.list.proofs.Carried.{body-fits, body_outside, gather_placed, in_one, gather_at}
use Rattle.list.proofs.ItemKinds.{item_open}
use Rattle.list.proofs.Placing.{Fits, Outside, fill-length, fill_outside, fill-append}
use Rattle.list.proofs.TableSpans.{carried-within, carried_rising, carried_after, carried_after_number}

-- a type has two bytes
pub type-length : (k : RecordKind) → length (type_of k) ≡ 2
type-length = each-kind (λ (k : RecordKind). length (type_of k) ≡ 2) (refl, (refl, (refl, (refl, (refl, (refl, (refl, (refl, (refl, (refl, (refl, tt)))))))))))

-- a causale has five bytes, and a sign one
pub causale-length : (q : FlowKind) → length (causale q) ≡ 5
causale-length Requests = refl
causale-length Recalls = refl

pub sign-length : (q : FlowKind) → length (sign q) ≡ 1
sign-length Requests = refl
sign-length Recalls = refl

-- what is supplied lies within the record, and after the type
module _ (q : FlowKind) (n : ℕ) (abi : List ℕ) (short : length abi ≤ 5) where
  number-length : length (digits 7 n) ≡ 7
  number-length = written-length 7 n

  number_fits : 3 + length (digits 7 n) ≤ 120
  number_fits = omega (arith, number-length)

  supplied-fits : (r : Role) → All Fits (supplied r q (digits 7 n) abi)
  supplied-fits Heads = (omega arith, tt)
  supplied-fits Opens = (number_fits, (omega (arith, causale-length q), (omega (arith, sign-length q), (omega arith, (omega arith, tt)))))
  supplied-fits GoesOn = (number_fits, tt)
  supplied-fits Closes = tt

supplied_outside : (q : FlowKind) (n : ℕ) (abi : List ℕ) (r : Role) → All (Outside 1 2) (supplied r q (digits 7 n) abi)
supplied_outside q n abi Heads = (inl (omega arith), tt)
supplied_outside q n abi Opens = (inl (omega arith), (inl (omega arith), (inl (omega arith), (inl (omega arith), (inl (omega arith), tt)))))
supplied_outside q n abi GoesOn = (inl (omega arith), tt)
supplied_outside q n abi Closes = tt

-- a record of a disposition is supplied with its number, and with nothing more at 4-10
record NumberFirst (n : ℕ) (ps : List Placed) : Type 0 where
  others : List Placed
  first : ps ≡ place 4 (digits 7 n) ∷ others
  outside : All (Outside 3 7) others

supplied-number : (q : FlowKind) (n : ℕ) (abi : List ℕ) (k : ItemKind) → heads (record_of k) ≡ false → NumberFirst n (supplied (role (record_of k)) q (digits 7 n) abi)
supplied-number q n abi k e = by (role (record_of k)) e (item_open k)
  where
    by : (r : Role) → by_role r true false false false ≡ false → by_role r false false false true ≡ false → NumberFirst n (supplied r q (digits 7 n) abi)
    by Heads head last = absurd (true≢false head)
    by Opens head last = record { others = _; first = refl; outside = (inl (omega arith), (inl (omega arith), (inl (omega arith), (inl (omega arith), tt)))) }
    by GoesOn head last = record { others = []; first = refl; outside = tt }
    by Closes head last = absurd (true≢false last)

-- the ABI that is copied has five bytes, or none
pub abi-short : (header : List ℕ) → length (abi_in header) ≤ 5
abi-short header = part_at_most 5 5 header

-- the record of a D: after the causale nothing is written at 29-33
disposition-causale : (n : ℕ) (header : HeaderMeant) (body : List ℕ) → length body ≡ body_length D → field 29 33 (encode_item n header (item D body)) ≡ causale header.kind
unfolding encode_item fill body_placed
disposition-causale n header body sized =
    let q = header.kind in
    let abi = abi_in header.body in
    let base = put 3 (digits 7 n) (put 1 (type_of R14) blanks) in
    let typed : length (put 1 (type_of R14) blanks) ≡ 120 = put-length 1 (type_of R14) blanks (omega arith) in
    let whole : length base ≡ 120 = put-length 3 (digits 7 n) (put 1 (type_of R14) blanks) (omega (arith, written-length 7 n)) ∙ typed in
    let within : 28 + length (causale q) ≤ length base = omega (arith, causale-length q) in
    let rest : List Placed = place 47 (sign q) ∷ place 48 abi ∷ place 120 currency ∷ body_placed (carried D) body in
    let fits : All Fits rest = (omega (arith, sign-length q), (omega (arith, abi-short header.body), (omega arith, body-fits (carried D) body (carried-within D) (sym sized)))) in
    let first : length (take 6 body) ≤ 6 = rw length-take (omega arith) in
    let outside : All (Outside 28 5) rest = (inl (omega arith), (inl (omega arith), (inl (omega arith), (inr (omega arith), (inl (omega arith), (inl (omega arith), (inl (omega arith), tt))))))) in
    fill_outside 28 5 rest (put 28 (causale q) base) fits (put-length 28 (causale q) base within ∙ whole) outside
    ∙ ap (λ (m : ℕ). part 28 m (put 28 (causale q) base)) (sym (causale-length q))
    ∙ part-put 28 (causale q) base within

module _ (n : ℕ) (header : HeaderMeant) (it : Item) (proper : Proper it) where
  abbrev kind : ItemKind
  kind = it.kind

  -- that of its record
  abbrev own_kind : RecordKind
  own_kind = record_kind it

  -- what is placed after the type
  abbrev own : List Placed
  own = supplied (role own_kind) header.kind (digits 7 n) (abi_in header.body)

  abbrev body : List Placed
  body = body_placed (carried kind) it.body

  abbrev with_type : List ℕ
  with_type = put 1 (type_of own_kind) blanks

  type-within : 1 + length (type_of own_kind) ≤ length blanks
  type-within = rw type-length (omega arith)

  type-size : length with_type ≡ 120
  type-size = put-length 1 (type_of own_kind) blanks type-within

  body-size : body_length kind ≡ length it.body
  body-size = sym proper.sized

  own_fits : All Fits own
  own_fits = supplied-fits header.kind n (abi_in header.body) (abi-short header.body) (role own_kind)

  all_fit : All Fits (own ++ body)
  all_fit = all_append Fits own body own_fits (body-fits (carried kind) it.body (carried-within kind) body-size)

  pub encoded-length : length (encode_item n header it) ≡ 120
  unfolding encode_item fill
  encoded-length = fill-length (own ++ body) with_type all_fit type-size

  pub encoded-type : field 2 3 (encode_item n header it) ≡ type_of own_kind
  unfolding encode_item fill
  encoded-type =
      let outside : All (Outside 1 2) (own ++ body) = all_append (Outside 1 2) own body (supplied_outside header.kind n (abi_in header.body) (role own_kind)) (body_outside 1 2 (carried kind) it.body (carried_after kind)) in
      fill_outside 1 2 (own ++ body) with_type all_fit type-size outside
      ∙ ap (λ (m : ℕ). part 1 m with_type) (sym (type-length own_kind))
      ∙ part-put 1 (type_of own_kind) blanks type-within

  -- a record of a disposition has its number at 4-10
  pub encoded-number : heads own_kind ≡ false → field 4 10 (encode_item n header it) ≡ digits 7 n
  unfolding encode_item fill
  encoded-number member =
      let numbered = supplied-number header.kind n (abi_in header.body) kind member in
      let qs = numbered.others in
      let fits : All Fits (qs ++ body) = all_append Fits qs body (subst (All Fits) numbered.first own_fits).1 (body-fits (carried kind) it.body (carried-within kind) body-size) in
      let outside : All (Outside 3 7) (qs ++ body) = all_append (Outside 3 7) qs body numbered.outside (body_outside 3 7 (carried kind) it.body (carried_after_number kind member)) in
      let within : 3 + length (digits 7 n) ≤ length with_type = omega (arith, written-length 7 n, type-size) in
      ap (λ (ps : List Placed). field 4 10 (fill (ps ++ body) with_type)) numbered.first
      ∙ fill_outside 3 7 (qs ++ body) (put 3 (digits 7 n) with_type) fits (put-length 3 (digits 7 n) with_type within ∙ type-size) outside
      ∙ ap (λ (m : ℕ). part 3 m (put 3 (digits 7 n) with_type)) (sym (written-length 7 n))
      ∙ part-put 3 (digits 7 n) with_type within

  -- and the 14 has the causale of the header meant
  pub encoded-causale : it.kind ≡ D → field 29 33 (encode_item n header it) ≡ causale header.kind
  encoded-causale e =
      let same : encode_item n header it ≡ encode_item n header (item D it.body) = λ i. encode_item n header (record { kind = e i; body = it.body }) in
      ap (field 29 33) same ∙ disposition-causale n header it.body (proper.sized ∙ ap body_length e)

  pub encoded-body : gather (carried kind) (encode_item n header it) ≡ it.body
  unfolding encode_item fill
  encoded-body =
      ap (gather (carried kind)) (fill-append own body with_type)
      ∙ gather_placed (carried kind) it.body (fill own with_type) (carried-within kind) (carried_rising kind) body-size (fill-length own with_type own_fits type-size)

  -- positions that the body carries stand in the record as they stand in the body
  pub encoded_at : (a e : ℕ) → in_one (carried kind) a e ≡ true → field a e (encode_item n header it) ≡ carried_at kind (a to e) it.body
  encoded_at a e t =
      sym (gather_at (carried kind) a e (encode_item n header it) (carried-within kind) encoded-length t) ∙ ap (carried_at kind (a to e)) encoded-body
