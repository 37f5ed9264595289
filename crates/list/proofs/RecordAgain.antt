-- A right record and the record that its own item encodes: alike at every position that is checked, so that the one is right at its place
-- where the other is. Assumes nothing.
use Prim.Native.Nat.{ℕ, ◌-◌}
use mathlib.Core.Bool.{Bool, true, false, true≢false}
use mathlib.Core.List.{List, [], ◌∷◌, ◌++◌}
use mathlib.Core.Logic.{inl}
use mathlib.Core.Path.{◌≡◌, refl, sym, ◌∙◌, ap, subst}
use native.Mathlib.Omega.{arith}
use lib.ListN.{length}
use Rattle.sequences.specs.All.{All}
use Rattle.sequences.specs.Part.{part}
use Rattle.sequences.proofs.All.{all_append}
use Rattle.sequences.proofs.Part.{part_length}
use Rattle.fields.specs.Digits.{number, digits}
use Rattle.fields.proofs.Decimal.{written-length}
use Rattle.records.specs.Bytes.{bad_from}
use Rattle.records.specs.Checked.{checked, Alike}
use Rattle.records.specs.Checks.{checks}
use Rattle.records.specs.Constants.{currency}
use Rattle.records.specs.Context.{Header}
use Rattle.records.specs.Field.{field}
use Rattle.records.specs.FlowKinds.{flow_kinds, causale, sign, kind_among, first_known}
use Rattle.records.specs.RecordVerdict.{Hold}
use Rattle.records.specs.Judge.{asked}
use Rattle.records.specs.Kinds.{type_of, Opens, role, heads, opens, closes}
use Rattle.records.specs.declared.flow_kind.FlowKind.{FlowKind}
use Rattle.records.specs.declared.kind.RecordKind.{RecordKind}
use Rattle.records.specs.declared.kind.RecordKind.TheVariants.{Im, R14, R16, R20, R30, R40, R50, R59, R51, R70, Ef}
use Rattle.records.proofs.Checked.{checks_by_position}
use Rattle.records.proofs.EachKind.{each-kind, heads_im, opens_14}
use Rattle.flow.specs.Walking.{dispositions_with, first_company, company_after, kind_after}
use Rattle.flow.specs.declared.walk.Walk.{Walk}
use Rattle.grammar.specs.Rules.{Says, Printable, Formed, KindRules, MemberRules}
use Rattle.grammar.proofs.AtPlace.{asks, RightAt}
use Rattle.grammar.proofs.KindsOfFlow.{kind_rules}
use Rattle.grammar.proofs.Rules.{printable_exact, header_rules, member_rules, says_digits}
use Rattle.list.specs.Encode.{Placed, place, blanks, abi_in, HeaderMeant, supplied, body_placed, encode_item}
use Rattle.list.specs.Items.{Item, item, Proper}
use Rattle.list.specs.ReadBack.{gather}
use Rattle.list.specs.Table.{record_of, carried}
use Rattle.list.specs.declared.table.ItemKind.{ItemKind}
use Rattle.list.proofs.Carried.{gather-length, gather_matches}
use Rattle.list.proofs.ItemKinds.{item_open}
use Rattle.list.proofs.OneRecord.{type-length, causale-length, sign-length, encoded-length, encoded-type}
use Rattle.list.proofs.Placing.{Matches, Agrees, AllPlaced, matches_agrees, fill-agrees, fill-all, all-part}
use Rattle.list.proofs.Covering.{Spanned, spanned_append, spanned_covers, body_spanned, supplied_spanned, spanned_fits, written_spans, written-within, checked-written, checked-within, alike_by_bytes}
use Rattle.list.proofs.TableSpans.{carried-within}
use Rattle.std.specs.Prelude.{Option}

-- bytes that stand in the record
stands : (rec : List ℕ) (p w : ℕ) (bs : List ℕ) → length bs ≡ w → part (p - 1) w rec ≡ bs → Matches rec (place p bs)
stands rec p w bs size e = ap (λ (n : ℕ). part (p - 1) n rec) size ∙ e

-- what is supplied stands in a record that keeps the rules of its kind
module _ (q : FlowKind) (n : ℕ) (bank abi rec : List ℕ) (same : bank ≡ abi) (whole : length rec ≡ 120) where
  number_stands : Says n (field 4 10 rec) → Matches rec (place 4 (digits 7 n))
  number_stands said =
      let size : length (field 4 10 rec) ≡ 7 = part_length 3 7 rec (omega (arith, whole)) in
      stands rec 4 7 (digits 7 n) (written-length 7 n) (says_digits 7 n (field 4 10 rec) size said)

  abi-length : field 48 52 rec ≡ bank → length abi ≡ 5
  abi-length e = ap (λ (l : List ℕ). length l) (sym (e ∙ same)) ∙ part_length 47 5 rec (omega (arith, whole))

  disposition_stands : KindRules q rec → MemberRules R14 bank n rec → All (Matches rec) (supplied Opens q (digits 7 n) abi)
  disposition_stands rules m =
      let bank-said = m.others.bank.1 in
      let row = (kind_rules q rec).0 rules in
      (number_stands m.number-said, (stands rec 29 5 (causale q) (causale-length q) row.0, (stands rec 47 1 (sign q) (sign-length q) row.1, (stands rec 48 5 abi (abi-length bank-said) (bank-said ∙ same), (m.others.currency_code, tt)))))

  member_stands : (k : RecordKind) → (heads k ≡ true → ⊥) → (opens k ≡ true → KindRules q rec) → MemberRules k bank n rec → All (Matches rec) (supplied (role k) q (digits 7 n) abi)
  member_stands Im f r m = absurd (f refl)
  member_stands R14 f r m = disposition_stands (r refl) m
  member_stands R16 f r m = (number_stands m.number-said, tt)
  member_stands R20 f r m = (number_stands m.number-said, tt)
  member_stands R30 f r m = (number_stands m.number-said, tt)
  member_stands R40 f r m = (number_stands m.number-said, tt)
  member_stands R50 f r m = (number_stands m.number-said, tt)
  member_stands R59 f r m = (number_stands m.number-said, tt)
  member_stands R51 f r m = (number_stands m.number-said, tt)
  member_stands R70 f r m = (number_stands m.number-said, tt)
  member_stands Ef f r m = tt

  member_abi : (k : RecordKind) → opens k ≡ true → MemberRules k bank n rec → length abi ≡ 5
  member_abi k o m = abi-length (subst (λ (l : RecordKind). MemberRules l bank n rec) (opens_14 k o) m).others.bank.1

-- what is supplied to a record, by the rules that it keeps
pub record Supplied (k : RecordKind) (q : FlowKind) (n : ℕ) (abi rec : List ℕ) : Type 0 where
  pub places : All (Matches rec) (supplied (role k) q (digits 7 n) abi)
  pub bank : opens k ≡ true → length abi ≡ 5

header-supplied : (k : RecordKind) (q : FlowKind) (n : ℕ) (abi rec : List ℕ) → k ≡ Im → field 114 114 rec ≡ currency → Supplied k q n abi rec
header-supplied k q n abi rec e code =
    record { places = subst (λ (l : RecordKind). All (Matches rec) (supplied (role l) q (digits 7 n) abi)) (sym e) (code, tt); bank = λ o. absurd (true≢false (sym o ∙ ap opens e)) }

-- a record that an item of kind k encodes, right at its place; `header` is the header meant, whose ABI is the header's, and whose kind that
-- of a 14
module _
    (h : Header) (w : Walk) (company : List ℕ) (i : ℕ) (k : ItemKind) (rec : List ℕ) (header : HeaderMeant) (right-at : RightAt h w company i (record_of k) rec)
    (meant : heads (record_of k) ≡ false → h.abi ≡ abi_in header.body) (of_kind : opens (record_of k) ≡ true → KindRules header.kind rec)
  where
    abbrev abi : List ℕ
    abi = abi_in header.body

    abbrev flow : FlowKind
    flow = header.kind

    abbrev kind : RecordKind
    kind = record_of k

    abbrev own : Item
    own = item k (gather (carried k) rec)

    -- the record that its item encodes
    abbrev pub again : List ℕ
    again = encode_item (dispositions_with w kind) header own

    whole : length rec ≡ 120
    whole = right-at.formed.whole

    pub own_proper : Proper own
    own_proper = record { sized = sym (gather-length (carried k) rec (carried-within k) whole) }

    supplied_so : Supplied kind flow (dispositions_with w kind) abi rec
    supplied_so = by (heads kind) refl
      where
        by : (b : Bool) → heads kind ≡ b → Supplied kind flow (dispositions_with w kind) abi rec
        by true e =
            let head : kind ≡ Im = heads_im kind e in
            let keeps : Hold (checks Im (asks h w company i Im) rec) = subst (λ (l : RecordKind). Hold (checks l (asks h w company i l) rec)) head right-at.keeps in
            header-supplied kind flow (dispositions_with w kind) abi rec head ((header_rules (asks h w company i Im) rec).0 keeps).currency_code
        by false e =
            let not-im : kind ≡ Im → ⊥ = λ f. true≢false (sym (ap heads f) ∙ e) in
            let not_ef : kind ≡ Ef → ⊥ = λ f. true≢false (sym (ap closes f) ∙ item_open k) in
            let m = ((member_rules kind (asks h w company i kind) rec not-im not_ef).0 right-at.keeps).0 in
            record {
              places = member_stands flow (dispositions_with w kind) h.abi abi rec (meant e) whole kind (λ t. true≢false (sym t ∙ e)) of_kind m;
              bank = λ f. member_abi flow (dispositions_with w kind) h.abi abi rec (meant e) whole kind f m;
            }

    abbrev placed : List Placed
    placed = place 2 (type_of kind) ∷ (supplied (role kind) flow (digits 7 (dispositions_with w kind)) abi ++ body_placed (carried k) (gather (carried k) rec))

    all_stand : All (Matches rec) placed
    all_stand =
        let type : part 1 (length (type_of kind)) rec ≡ type_of kind = ap (λ (n : ℕ). part 1 n rec) (type-length kind) ∙ right-at.formed.type in
        (type, all_append (Matches rec) (supplied (role kind) flow (digits 7 (dispositions_with w kind)) abi) (body_placed (carried k) (gather (carried k) rec)) supplied_so.places (gather_matches (carried k) rec (carried-within k) whole))

    all_spanned : Spanned placed (written_spans k)
    all_spanned = ((refl, type-length kind), spanned_append (supplied (role kind) flow (digits 7 (dispositions_with w kind)) abi) (body_placed (carried k) (gather (carried k) rec)) _ (carried k) (supplied_spanned flow (dispositions_with w kind) abi (role kind) supplied_so.bank) (body_spanned (carried k) (gather (carried k) rec) (gather-length (carried k) rec (carried-within k) whole)))

    all_agree : (j : ℕ) (ps : List Placed) → All (Matches rec) ps → All (Agrees j rec) ps
    all_agree j [] location = tt
    all_agree j (q ∷ ps) location = (matches_agrees j rec q location.0, all_agree j ps location.1)

    pub again_whole : length again ≡ 120
    again_whole = encoded-length (dispositions_with w kind) header own own_proper

    pub again_alike : Alike (checked kind) rec again
    unfolding encode_item
    again_alike = alike_by_bytes (checked kind) rec again whole again_whole (checked-within kind) (λ j small t.
        let covered = spanned_covers placed (written_spans k) j all_spanned (checked-written k j small t) in
        sym (fill-agrees j rec placed blanks (spanned_fits placed (written_spans k) all_spanned (written-within k)) refl (all_agree j placed all_stand) (inl covered)))

    -- its bytes are the record's, and blanks
    all-printable : (ps : List Placed) → All (Matches rec) ps → All (AllPlaced Printable) ps
    all-printable [] location = tt
    all-printable (place p bs ∷ ps) location =
        (subst (All Printable) location.0 (all-part Printable (p - 1) (length bs) rec right-at.formed.printable), all-printable ps location.1)

    pub again_formed : Formed kind again
    unfolding encode_item bad_from
    again_formed =
        record {
          whole = again_whole;
          printable = fill-all Printable placed blanks (all-printable placed all_stand) ((printable_exact blanks).0 refl);
          type = encoded-type (dispositions_with w kind) header own own_proper;
        }

    pub again_right : RightAt h w company i kind again
    again_right =
        record {
          may = right-at.may;
          formed = again_formed;
          keeps = subst Hold (checks_by_position kind (asks h w company i kind) rec again again_alike) right-at.keeps;
        }

-- alike records ask for the same cents, and leave the same company code and the same kind of flow
pub alike_asked : (k : RecordKind) (rec other : List ℕ) → Alike (checked k) rec other → asked k rec ≡ asked k other
alike_asked k rec other = each-kind (λ (k : RecordKind). Alike (checked k) rec other → asked k rec ≡ asked k other) (λ a. refl, (λ a. ap number a.1.1.1.1.0, (λ a. refl, (λ a. refl, (λ a. refl, (λ a. refl, (λ a. refl, (λ a. refl, (λ a. refl, (λ a. refl, (λ a. refl, tt))))))))))) k

pub alike_company : (company : List ℕ) (k : RecordKind) (rec other : List ℕ) → Alike (checked k) rec other → company_after company k rec ≡ company_after company k other
alike_company company k rec other = each-kind (λ (k : RecordKind). Alike (checked k) rec other → company_after company k rec ≡ company_after company k other) (λ a. refl, (λ a. ap (λ (code : List ℕ). first_company company R14 code) a.1.1.1.1.1.1.1.1.0, (λ a. refl, (λ a. refl, (λ a. refl, (λ a. refl, (λ a. refl, (λ a. refl, (λ a. refl, (λ a. refl, (λ a. refl, tt))))))))))) k

pub alike_kind : (k : RecordKind) (q : Option FlowKind) (rec other : List ℕ) → Alike (checked k) rec other → kind_after q k rec ≡ kind_after q k other
alike_kind k q rec other = each-kind (λ (k : RecordKind). Alike (checked k) rec other → kind_after q k rec ≡ kind_after q k other) (λ a. refl, (λ a. ap (λ (bs : List ℕ). first_known q (kind_among flow_kinds bs)) a.1.1.1.0, (λ a. refl, (λ a. refl, (λ a. refl, (λ a. refl, (λ a. refl, (λ a. refl, (λ a. refl, (λ a. refl, (λ a. refl, tt))))))))))) k
