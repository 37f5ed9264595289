-- An accepted flow and its own list: written again the list is accepted with the same numbers, and what it encodes is like the flow at
-- every position that is checked. Assumes nothing.
use Prim.Native.Nat.{ℕ, suc, ◌+◌, ◌*◌, ◌/◌, ◌≤◌, ◌<◌}
use mathlib.Core.Bool.{true, false, true≢false}
use mathlib.Core.List.{List, [], ◌∷◌, ◌++◌, append-nil, map, map-append, drop_last, flatten}
use mathlib.Core.Path.{◌≡◌, refl, sym, ◌∙◌, ap, subst}
use native.Mathlib.Omega.{arith}
use lib.Dec.{leb}
use lib.ListN.{length, take, get_or, length-map, length-append}
use lib.Seq.{take_at}
use borrow.Author.Tests.{le-leb}
use Rattle.sequences.specs.All.{All}
use Rattle.sequences.specs.Pairs.{Pairs}
use Rattle.sequences.specs.Part.{part}
use Rattle.sequences.proofs.All.{all-before}
use Rattle.sequences.proofs.DropLast.{drop_last_append}
use Rattle.sequences.proofs.Flatten.{flatten-append}
use Rattle.sequences.proofs.Part.{part_length, part-put}
use Rattle.records.specs.Checked.{checked, Alike}
use Rattle.records.specs.Context.{Header, header_of}
use Rattle.records.specs.Field.{field}
use Rattle.records.specs.FlowKinds.{or_requests}
use Rattle.records.specs.Kinds.{type_of, heads, opens, closes, is_opening}
use Rattle.records.specs.Limits.{most_cents, cents_limit}
use Rattle.records.specs.declared.flow_kind.FlowKind.{FlowKind}
use Rattle.records.specs.declared.flow_kind.FlowKind.TheVariants.{Requests, Recalls}
use Rattle.records.specs.declared.kind.RecordKind.{RecordKind}
use Rattle.records.specs.declared.kind.RecordKind.TheVariants.{Im, Ef}
use Rattle.records.proofs.ByKind.{type_tested, opens-type}
use Rattle.flow.specs.ExactTotals.{kind_of}
use Rattle.flow.specs.Judge.{judge}
use Rattle.flow.specs.Order.{permitted, may_close, place_due}
use Rattle.flow.specs.Output.{Output, output}
use Rattle.flow.specs.Records.{record_at, records_of}
use Rattle.flow.specs.Walking.{start, dispositions_with, step, counts_at}
use Rattle.flow.specs.Verdict.{Verdict, accepted}
use Rattle.flow.specs.declared.answer.Totals.{Totals}
use Rattle.flow.specs.declared.order.Due.TheVariants.{OnlyIm}
use Rattle.flow.specs.declared.walk.Walk.{Walk}
use Rattle.flow.proofs.Accepted.{accepted_exact}
use Rattle.flow.proofs.Cut.{cut_at}
use Rattle.grammar.specs.Grammar.{Typed, kinds_of, records_in, Grammar}
use Rattle.grammar.specs.Rules.{Says, Formed, KindRules, TotalRules, TrailerRules}
use Rattle.grammar.proofs.AtPlace.{asks, RightAt}
use Rattle.grammar.proofs.ContextAfter.{FromStart}
use Rattle.grammar.proofs.Grammar.{parts_exact, counts_below, grammar_exact, header_first, grammar_shape, grammar_records, grammar_start}
use Rattle.grammar.proofs.Parts.{one-kind}
use Rattle.grammar.proofs.Order.{Allowed, header_only_first, all_open}
use Rattle.grammar.proofs.Rules.{header_rules, trailer_rules, says_digits, said_below, counts_told}
use Rattle.grammar.proofs.Walked.{state_after, code_after, Walked, walked_append, walked_allowed, walked_formed, AllFormed}
use Rattle.list.specs.Encode.{abi_in, HeaderMeant, no_header, encode_item, encode_from, encode_trailer, last_header, list_totals, records_for, trailer_for, encode}
use Rattle.list.specs.Items.{Item, Proper, list_bytes, items, parse, items_or, items_in}
use Rattle.list.specs.Laws.{OwnItem, OwnList, OwnItems, RewrittenExact, RewrittenSame, UncheckedOnly}
use Rattle.list.specs.ReadBack.{gather, item_of, items_of, list_of}
use Rattle.list.specs.Table.{carried, row_in}
use Rattle.list.specs.Write.{closed, judge_items, judge_list, write}
use Rattle.list.specs.declared.table.ItemKind.TheVariants.{H}
use Rattle.list.proofs.RecordAgain.{again_alike, again_right, own_proper}
use Rattle.list.proofs.Carried.{gather-length, gather_at}
use Rattle.list.proofs.AllRecords.{row_in_lem, no_row_in, encode-records, encode-length}
use Rattle.list.proofs.Judging.{front, RightItems, right_judged, right-sums, kinds_in, close_tested, header_stays}
use Rattle.list.proofs.ListItems.{read-items}
use Rattle.list.proofs.RecordsAgain.{kind_for, record_for, suits_for, own_item, AllOpen, OpeningsOf, own_kinds, again_from, Like, Again, again_walked, all_kinds, like_at, like_append}
use Rattle.list.proofs.TableSpans.{carried-within}
use Rattle.list.proofs.Trailer.{Meant, Counted, trailer_formed, trailer-keeps}
use Rattle.list.proofs.WriteRefused.{fitting_judged}
use Rattle.list.proofs.Written.{written_exact}
use Rattle.std.specs.Prelude.{Some}

-- the total at the place of the kind, and the zeros at the other
by_kind :
    (rec other : List ℕ) (q : FlowKind) (cents : ℕ) → ((v : ℕ) → Says v (field 53 67 rec) → Says v (field 53 67 other) → field 53 67 rec ≡ field 53 67 other)
    → ((v : ℕ) → Says v (field 68 82 rec) → Says v (field 68 82 other) → field 68 82 rec ≡ field 68 82 other)
    → TotalRules q cents rec → TotalRules q cents other → (field 53 67 rec ≡ field 53 67 other) × (field 68 82 rec ≡ field 68 82 other)
by_kind rec other Requests cents asked recalled a b = (asked cents a.0 b.0, recalled 0 a.1 b.1)
by_kind rec other Recalls cents asked recalled a b = (asked 0 a.0 b.0, recalled cents a.1 b.1)

-- a trailer says one sum
same_total : (q : FlowKind) (c d : ℕ) (rec : List ℕ) → TotalRules q c rec → TotalRules q d rec → c ≡ d
same_total Requests c d rec a b = sym a.0.1 ∙ b.0.1
same_total Recalls c d rec a b = sym a.1.1 ∙ b.1.1

-- two trailers of one header that say the same are alike
trailers_alike : (h : Header) (t : Totals) (rec other : List ℕ) → Formed Ef rec → Formed Ef other → TrailerRules h t rec → TrailerRules h t other → Alike (checked Ef) rec other
trailers_alike h t rec other f g a b =
    let said : (i w v : ℕ) → i + w ≤ 120 → Says v (part i w rec) → Says v (part i w other) → part i w rec ≡ part i w other = λ i w v fits x y.
    says_digits w v (part i w rec) (part_length i w rec (omega (arith, f.whole))) x ∙ sym (says_digits w v (part i w other) (part_length i w other (omega (arith, g.whole))) y) in
    let total = by_kind rec other t.kind t.cents (λ v. said 52 15 v (omega arith)) (λ v. said 67 15 v (omega arith)) a.cents_said b.cents_said in (
      f.type ∙ sym g.type,
      (
        a.mittente ∙ sym b.mittente,
        (
          a.ricevente ∙ sym b.ricevente,
          (
            a.created ∙ sym b.created,
            (
              a.name ∙ sym b.name,
              (
                said 45 7 t.dispositions (omega arith) a.dispositions-said b.dispositions-said,
                (
                  total.0,
                  (
                    total.1,
                    (
                      said 82 7 t.records (omega arith) a.records-said b.records-said,
                      (a.currency_code ∙ sym b.currency_code, tt),
                    ),
                  ),
                ),
              ),
            ),
          ),
        ),
      ),
    )

-- the row of a record of a known kind
pub own_row : (q : FlowKind) (r : Typed) → Formed r.kind r.bytes → closes r.kind ≡ false → row_in q r.bytes ≡ Some (kind_for q r.kind)
own_row q r formed not_last = row_in_lem q (kind_for q r.kind) r.bytes (suits_for q r.kind) (formed.type ∙ ap type_of (sym (record_for q r.kind not_last)))

-- the items of records
single_items : (q : FlowKind) (rs : List Typed) → AllFormed rs → AllOpen rs → flatten (map (item_of q) (records_in rs)) ≡ map (own_item q) rs
unfolding flatten
single_items q [] formed not_last = refl
single_items q (r ∷ rs) formed not_last =
    rw (own_row q r formed.0 not_last.0) (ap (λ (l : List Item). own_item q r ∷ l) (single_items q rs formed.1 not_last.1))

-- records 14 by their type, and by their kind
openings_typed : (q : FlowKind) (rs : List Typed) → AllFormed rs → All (λ (rec : List ℕ). is_opening rec ≡ true → KindRules q rec) (records_in rs) → OpeningsOf q rs
openings_typed q [] formed kept = tt
openings_typed q (r ∷ rs) formed kept =
    (λ o. kept.0 (sym (opens-type r.kind r.bytes (type_tested r.kind r.bytes formed.0.type)) ∙ o), openings_typed q rs formed.1 kept.1)

module _ (f : List ℕ) (t : Totals) (g : Grammar f t) where
  abbrev im : List ℕ
  im = g.parts.header

  abbrev ef : List ℕ
  ef = g.parts.trailer

  abbrev members : List Typed
  members = flatten g.parts.dispositions

  -- the records but the last, and the last
  abbrev before : List Typed
  before = record { kind = Im; bytes = im } ∷ members

  abbrev last : List Typed
  last = record { kind = Ef; bytes = ef } ∷ []

  abbrev h : Header
  h = header_of (take 120 f)

  im_first : take 120 f ≡ im
  im_first = header_first g.parts f g.bytes g.right.header_formed.whole

  all_walked : FromStart f (before ++ last)
  all_walked = grammar_start f t g

  walked : Walked h start [] 0 before
  walked = ((walked_append h start [] 0 before last).0 all_walked).0

  abbrev after : Walk
  after = state_after start before

  closing : RightAt h after (code_after [] before) (suc (0 + length before)) Ef ef
  closing = ((walked_append h start [] 0 before last).0 all_walked).1.0

  formed : AllFormed (before ++ last)
  formed = walked_formed h start [] 0 (before ++ last) all_walked

  -- none but the last is an EF, and none but the first an IM
  not_last : AllOpen before
  not_last =
      let allowed = subst (Allowed (place_due OnlyIm)) (map-append (λ (r : Typed). r.kind) before last) (walked_allowed h start [] 0 (before ++ last) all_walked) in
      all_kinds (λ (k : RecordKind). closes k ≡ false) before (all_open (place_due OnlyIm) (kinds_of before) Ef allowed)

  later : All (λ (k : RecordKind). heads k ≡ false) (kinds_of members)
  later = (header_only_first Im (kinds_of members) (walked_allowed h start [] 0 before walked)).1

  -- the flow is accepted, and of the kind that is answered
  read : judge f ≡ accepted t
  read = (grammar_exact f t).1 g

  pub kind_so : kind_of (records_of f) ≡ t.kind
  kind_so = sym (accepted_exact f t read).3

  -- so the flow's own list
  abbrev own : List Item
  own = map (own_item t.kind) before

  records : records_of f ≡ records_in before ++ (ef ∷ [])
  records = grammar_records f t g ∙ map-append (λ (r : Typed). r.bytes) before last

  pub own_list_items : items_of f ≡ own
  unfolding flatten
  own_list_items =
      let q = t.kind in
      let none : item_of q ef ≡ [] = rw (no_row_in q ef closing.formed.type) in
      ap (λ (p : FlowKind). flatten (map (item_of p) (records_of f))) kind_so
      ∙ ap (λ (recs : List (List ℕ)). flatten (map (item_of q) recs)) records
      ∙ ap flatten (map-append (item_of q) (records_in before) (ef ∷ []))
      ∙ flatten-append (map (item_of q) (records_in before)) (item_of q ef ∷ [])
      ∙ cc (single_items q before (walked_formed h start [] 0 before walked) not_last, none, append-nil own)

  -- the header as its item carries it
  abbrev header : HeaderMeant
  header = record { kind = t.kind; body = gather (carried (H t.kind)) im }

  im_right : RightAt h start [] 1 Im im
  im_right = walked.0

  meant : Meant im header.body
  meant =
      record {
        sized = sym (gather-length (carried (H t.kind)) im (carried-within (H t.kind)) im_right.formed.whole);
        carries = λ a e inside. sym (gather_at (carried (H t.kind)) a e im (carried-within (H t.kind)) im_right.formed.whole inside);
        printable = im_right.formed.printable;
        code = ((header_rules (asks h start [] 1 Im) im).0 im_right.keeps).currency_code;
      }

  abi-meant : h.abi ≡ abi_in header.body
  abi-meant = ap (field 9 13) im_first ∙ meant.carries 9 13 refl

  -- its records, encoded again
  no_abi : heads Im ≡ false → h.abi ≡ abi_in []
  no_abi e = absurd (true≢false e)

  no_opening : opens Im ≡ true → KindRules Requests im
  no_opening e = absurd (true≢false (sym e))

  openings : OpeningsOf t.kind members
  openings = openings_typed t.kind members (walked_formed h start [] 0 before walked).1 (all-before Kept (records_in members) (ef ∷ []) (subst (All Kept) records (one-kind f t read)).1)
    where
      Kept : List ℕ → Type 0
      Kept rec = is_opening rec ≡ true → KindRules t.kind rec

  abbrev im_again : List ℕ
  im_again = encode_item (dispositions_with start Im) no_header (own_item t.kind (record { kind = Im; bytes = im }))

  im_alike : Alike (checked Im) im im_again
  im_alike = again_alike h start [] 1 (H t.kind) im no_header im_right no_abi no_opening

  members_again : Again h (step start Im 0 im) [] 1 header members
  members_again = again_walked h header abi-meant (step start Im 0 im) [] 1 members walked.1 not_last.1 (all_kinds (λ (k : RecordKind). heads k ≡ false) members later) openings

  abbrev again : List Typed
  again = record { kind = Im; bytes = im_again } ∷ again_from 0 header members

  again_walked_all : Walked h start [] 0 again
  again_walked_all = (again_right h start [] 1 (H t.kind) im no_header im_right no_abi no_opening, members_again.walked)

  pub own_proper_all : All Proper own
  own_proper_all = (own_proper h start [] 1 (H t.kind) im no_header im_right no_abi no_opening, members_again.proper)

  again_records : records_in again ≡ records_for own
  unfolding encode_from
  again_records = ap (λ (l : List (List ℕ)). im_again ∷ l) members_again.same

  -- the header of the encoding is the flow's
  header_again : header_of (take 120 (front own)) ≡ h
  unfolding encode_from flatten
  header_again =
      let first : take 120 (front own) ≡ im_again = take_at im_again _ 120 again_walked_all.0.formed.whole in
      let a = im_alike in
      ap header_of first ∙ (λ i. record {
        mittente = sym a.1.0 i;
        abi = sym a.1.1.0 i;
        date = sym a.1.1.1.0 i;
        name = sym a.1.1.1.1.0 i;
        currency = sym a.1.1.1.1.1.1.0 i;
      }) ∙ ap header_of (sym im_first)

  abbrev right-items : RightItems own
  right-items = record { typed = again; same = again_records; walked = subst (λ (x : Header). Walked x start [] 0 again) (sym header_again) again_walked_all }

  -- the counts that the trailer says
  rules : TrailerRules (header_of im) t ef
  rules = subst (λ (u : Totals). TrailerRules (header_of im) u ef) g.totals g.right.trailer_rules

  walk_rules : TrailerRules h (counts_told (or_requests after.kind) (counts_at after (suc (0 + length before)) Ef)) ef
  walk_rules = (trailer_rules (asks h after (code_after [] before) (suc (0 + length before)) Ef) ef).0 closing.keeps

  counted_so : Counted t
  counted_so =
      let size : (i w : ℕ) → i + w ≤ 120 → length (part i w ef) ≡ w = λ i w fits. part_length i w ef (omega (arith, closing.formed.whole)) in
      record {
        dispositions = said_below 7 t.dispositions (field 46 52 ef) (size 45 7 (omega arith)) rules.dispositions-said;
        cents = subst (λ (u : Totals). u.cents < cents_limit) g.totals (counts_below g.parts g.right).1;
        records = said_below 7 t.records (field 83 89 ef) (size 82 7 (omega arith)) rules.records-said;
      }

  dispositions_so : after.dispositions ≡ t.dispositions
  dispositions_so = omega (arith, rules.dispositions-said.1, walk_rules.dispositions-said.1)

  -- the kind that the walk has found, and its sum
  known_so : or_requests after.kind ≡ t.kind
  known_so = ((parts_exact g.parts g.right.some (grammar_shape f t g)).1 g.right).1 ∙ ap (λ (u : Totals). u.kind) g.totals

  cents_so : after.cents ≡ t.cents
  cents_so = same_total t.kind after.cents t.cents ef (subst (λ (q : FlowKind). TotalRules q after.cents ef) known_so walk_rules.cents_said) rules.cents_said

  pub items_so : suc (length own) ≡ t.records
  items_so = omega (arith, rules.records-said.1, walk_rules.records-said.1, length-map before (own_item t.kind))

  -- the list is accepted with the same numbers
  own_judged : judge_items own ≡ accepted t
  own_judged =
      let state : state_after start again ≡ after = members_again.state in
      let may : may_close (permitted after.place.due) ≡ true = close_tested (permitted after.place.due) closing.may in
      let cents = counted_so.cents in
      let small : leb after.cents most_cents ≡ true = le-leb after.cents most_cents (omega (arith, cents_so)) in
      right_judged own own_proper_all right-items
      ∙ ap (λ (w : Walk). closed w (length own)) state
      ∙ rw (may, small) (λ i. accepted (record { kind = known_so i; dispositions = dispositions_so i; cents = cents_so i; records = items_so i }))

  pub own_read : parse (list_of f) ≡ items (items_of f)
  own_read = read-items (list_of f) (items_of f) refl (subst (All Proper) (sym own_list_items) own_proper_all)

  pub own_accepted : (room : ℕ) → length f ≡ 120 * t.records → length f ≤ room → judge_list (list_of f) room ≡ accepted t
  own_accepted room size roomy =
      let few = counted_so.records in
      let count = items_so in
      fitting_judged (list_of f) room own (record { said = own_read ∙ ap items own_list_items; few = omega arith; roomy = omega arith }) ∙ own_judged

  -- the header meant by all of it is its first item
  last_so : last_header no_header own ≡ header
  unfolding last_header
  last_so =
      let kinds : kinds_in (map (own_item t.kind) members) ≡ kinds_of members = own_kinds t.kind members not_last.1 in
      header_stays header (map (own_item t.kind) members) (subst (All (λ (k : RecordKind). heads k ≡ false)) (sym kinds) later)

  -- and encodes records like the flow's
  pub own_sums : list_totals own ≡ t
  own_sums =
      let sums = right-sums own own_proper_all right-items in
      let state : state_after start again ≡ after = members_again.state in
      let count = sym sums.0 ∙ ap (λ (w : Walk). w.dispositions) state ∙ dispositions_so in
      let cents = sym sums.1 ∙ ap (λ (w : Walk). w.cents) state ∙ cents_so in
      λ i. record { kind = ap (λ (x : HeaderMeant). x.kind) last_so i; dispositions = count i; cents = cents i; records = items_so i }

  pub trailer_so : trailer_for own ≡ encode_trailer header.body t
  unfolding last_header
  trailer_so =
      λ i. encode_trailer (last_so i).body (own_sums i)

  trailer_alike : Alike (checked Ef) ef (trailer_for own)
  trailer_alike =
      subst (Alike (checked Ef) ef) (sym trailer_so)
      (trailers_alike (header_of im) t ef (encode_trailer header.body t) closing.formed (trailer_formed im header.body meant t) rules (trailer-keeps im header.body meant t counted_so))

  all_like : Like (before ++ last) (records_for own ++ (trailer_for own ∷ []))
  all_like = like_append before last (records_for own) (trailer_for own ∷ []) (subst (Like before) again_records (im_alike, members_again.like)) (trailer_alike, tt)

  pub encoding_like : (i : ℕ) (k : RecordKind) → i < t.records → length f ≡ 120 * t.records → field 2 3 (record_at i f) ≡ type_of k → Alike (checked k) (record_at i f) (record_at i (encode own))
  encoding_like i k small size type =
      let count : length f / 120 ≡ t.records = omega arith in
      let size-again = encode-length own own_proper_all in
      let number = items_so in
      let here : get_or (records_in (before ++ last)) i [] ≡ record_at i f = ap (λ (recs : List (List ℕ)). get_or recs i []) (sym (grammar_records f t g)) ∙ cut_at (length f / 120) i f (omega arith) in
      let there : get_or (records_for own ++ (trailer_for own ∷ [])) i [] ≡ record_at i (encode own) = ap (λ (recs : List (List ℕ)). get_or recs i []) (sym (encode-records own own_proper_all)) ∙ cut_at (length (encode own) / 120) i (encode own) (omega arith) in
      let within : i < length (before ++ last) = omega (arith, length-append before last, length-map before (own_item t.kind)) in
      subst (λ (A : Type 0). A) (λ j. Alike (checked k) (here j) (there j)) (like_at (before ++ last) (records_for own ++ (trailer_for own ∷ [])) all_like formed i k within (ap (field 2 3) here ∙ type))

records-length : (f : List ℕ) (t : Totals) → judge f ≡ accepted t → length f ≡ 120 * t.records
records-length f t e = omega (arith, (accepted_exact f t e).2)

own_pairs : (q : FlowKind) (rs : List Typed) → AllFormed rs → AllOpen rs → Pairs (OwnItem q) (records_in rs) (map (own_item q) rs)
own_pairs q [] formed_each open_each = tt
own_pairs q (r ∷ rs) formed_each open_each = ((own_row q r formed_each.0 open_each.0, refl), own_pairs q rs formed_each.1 open_each.1)

pub own_list : OwnList
own_list f t e =
    let g = (grammar_exact f t).0 e in
    let rs = before f t g in
    let formed_so = all-before (λ (r : Typed). Formed r.kind r.bytes) rs (last f t g) (formed f t g) in
    let same : drop_last (records_of f) ≡ records_in rs = ap drop_last (records f t g) ∙ drop_last_append (records_in rs) (ef f t g) in
    subst (λ (A : Type 0). A) (λ i. Pairs (OwnItem t.kind) (sym same i) (sym (own_list_items f t g) i)) (own_pairs t.kind rs formed_so (not_last f t g))

pub own_items : OwnItems
own_items f t e = own_read f t ((grammar_exact f t).0 e)

pub rewritten_exact : RewrittenExact
rewritten_exact f t room e roomy = own_accepted f t ((grammar_exact f t).0 e) room (records-length f t e) roomy

pub rewritten_same : RewrittenSame
unfolding write
rewritten_same f out t e roomy =
    let g = (grammar_exact f t).0 e in
    let size = records-length f t e in
    let judged_so = own_accepted f t g (length out) size roomy in
    let same : items_in (list_of f) ≡ items_of f = ap items_or (own_read f t g) in
    let again = encode (items_in (list_of f)) in
    let number = items_so f t g in
    let long : length again ≡ 120 * suc (length (own f t g)) = ap (λ (is : List Item). length (encode is)) (same ∙ own_list_items f t g) ∙ encode-length (own f t g) (own_proper_all f t g) in
    let written : write (list_of f) out ≡ output (accepted t) again out = ap (λ (v : Verdict Totals). output v again out) judged_so in
    let bytes : take (write (list_of f) out).written (write (list_of f) out).bytes ≡ encode (items_of f) = ap (λ (w : Output Totals). take w.written w.bytes) written ∙ part-put 0 again out (omega arith) ∙ ap encode same in
    (λ x. sym bytes ∙ x, λ y. bytes ∙ y)

pub unchecked_only : UncheckedOnly
unchecked_only f t e =
    let g = (grammar_exact f t).0 e in
    let size = records-length f t e in
    let same = own_list_items f t g in
    let number = items_so f t g in
    let back : list_of (encode (own f t g)) ≡ list_bytes (own f t g) = ap (λ (is : List Item). list_of (encode is)) (sym (ap items_or (own_read f t g) ∙ same)) ∙ (written_exact (list_of f) (length f) t (own_accepted f t g (length f) size (omega arith))).1 ∙ ap list_bytes same in
    subst (λ (is : List Item). (length (encode is) ≡ length f) × (list_of (encode is) ≡ list_bytes is) × ((i : ℕ) (k : RecordKind) → i < t.records → field 2 3 (record_at i f) ≡ type_of k → Alike (checked k) (record_at i f) (record_at i (encode is)))) (sym same)
    (omega (arith, encode-length (own f t g) (own_proper_all f t g)), back, λ i k small type. encoding_like f t g i k small size type)
