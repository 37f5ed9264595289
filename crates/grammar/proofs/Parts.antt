-- The dispositions found in a flow are those of the grammar; their parts are the bytes between header and trailer. Assumes nothing.
use Prim.Native.Nat.{ℕ, zero, suc, ◌+◌, ◌-◌, ◌*◌, ◌≤◌, ◌<◌}
use mathlib.Core.Bool.{true, false, true≢false}
use mathlib.Core.List.{List, [], ◌∷◌, ◌++◌, append_assoc, map, map-map, map-append, flatten, drop_last, Memᴰ}
use mathlib.Core.Path.{◌≡◌, refl, sym, ◌∙◌, ap, subst}
use native.Mathlib.Nat.{le_of_suc-le-suc, not-suc-le-zero}
use native.Mathlib.Omega.{arith}
use lib.ListN.{length, take, drop, get_or, length-append, length-map, get_or-map}
use lib.Seq.{take_all, split_at}
use Rattle.sequences.specs.All.{All}
use Rattle.sequences.specs.Groups.{groups}
use Rattle.sequences.specs.Part.{part}
use Rattle.sequences.specs.Sum.{sum, up_to}
use Rattle.sequences.proofs.All.{all_append, all-before, all_after, all_get_d}
use Rattle.sequences.proofs.DropLast.{drop_last_append}
use Rattle.sequences.proofs.Flatten.{flatten-append, flatten-flatten, map-flatten, flatten_next}
use Rattle.sequences.proofs.Groups.{Opens, groups_joined}
use Rattle.sequences.proofs.Map.{by_number}
use Rattle.fields.specs.Digits.{number}
use Rattle.records.specs.Amount.{amount_in}
use Rattle.records.specs.Company.{company_in}
use Rattle.records.specs.Context.{header_of}
use Rattle.records.specs.Field.{field}
use Rattle.records.specs.Kinds.{type_of, is_opening, opens}
use Rattle.records.specs.declared.kind.RecordKind.{RecordKind}
use Rattle.records.specs.declared.kind.RecordKind.TheVariants.{Im, R14, Ef}
use Rattle.records.proofs.ByKind.{type_tested, opens-type}
use Rattle.flow.specs.Find.{dispositions_in, start_of, find, bytes_at, part_of}
use Rattle.flow.specs.Judge.{judge}
use Rattle.flow.specs.Records.{record_at, records_of}
use Rattle.flow.specs.Verdict.{Verdict, accepted, refused}
use Rattle.flow.specs.Verdict.{Refusal}
use Rattle.flow.specs.declared.answer.Totals.{Totals}
use Rattle.flow.specs.declared.location.Location.{Location}
use Rattle.flow.proofs.Accepted.{accepted_exact}
use Rattle.flow.proofs.Cut.{Whole, flatten-length, part_joined}
use Rattle.flow.proofs.Dispositions.{dispositions-counted, disposition_at, find_so, found-has}
use Rattle.grammar.specs.Fault.{company_of}
use Rattle.grammar.specs.Grammar.{Typed, kinds_of, records_in, opening, disposition_code, AllEqual, RightDisposition, RightDispositions, Grammar}
use Rattle.grammar.specs.Laws.{OneKind, OneCompany, DispositionsExact, cents_at, first_at, end_at, PartsExact, PlacesExact, OpeningExact, PartEmpty}
use Rattle.grammar.specs.Rules.{Digits, Says, Formed, KindRules, MemberRules}
use Rattle.grammar.proofs.Dispositions.{Detail, detail_opens, Opened, opened_by, opened_so, Member}
use Rattle.grammar.proofs.Grammar.{grammar_records, grammar_whole, grammar_bytes, grammar_exact}

-- a record opens a disposition by its type where it does by its kind
pub opening_so : (k : RecordKind) (rec : List ℕ) → Formed k rec → is_opening rec ≡ opens k
opening_so k rec formed = sym (opens-type k rec (type_tested k rec formed.type))

module _ (abi : List ℕ) where
  details_shut : (n : ℕ) (rs : List Typed) → All Detail (kinds_of rs) → All (Member abi n) rs → All (λ (rec : List ℕ). is_opening rec ≡ false) (records_in rs)
  details_shut n [] details members = tt
  details_shut n (r ∷ rs) details members =
      (opening_so r.kind r.bytes members.0.0 ∙ detail_opens r.kind details.0, details_shut n rs details.1 members.1)

  -- a disposition of the grammar starts with a record that opens it, and has no other
  opens_so : (n : ℕ) (d : List Typed) → RightDisposition abi n d → Opens is_opening (records_in d)
  opens_so n d r = go d (opened_so d r.order) r.records
    where
      go : (d : List Typed) → Opened d → All (Member abi n) d → Opens is_opening (records_in d)
      go d (opened_by x xs e details) members =
          record {
            first = x.bytes;
            others = records_in xs;
            whole = refl;
            passes = opening_so x.kind x.bytes members.0.0 ∙ ap opens e;
            none = details_shut n xs details members.1;
          }

  pub all_open : (n : ℕ) (ds : List (List Typed)) → RightDispositions abi n ds → All (Opens is_opening) (map records_in ds)
  all_open n [] each = tt
  all_open n (d ∷ ds) each = (opens_so n d each.0, all_open (suc n) ds each.1)

-- the records between header and trailer
module _ (f : List ℕ) (t : Totals) (g : Grammar f t) where
  pub between : records_of f ≡ (g.parts.header ∷ flatten (map records_in g.parts.dispositions)) ++ (g.parts.trailer ∷ [])
  between =
      let ms = flatten g.parts.dispositions in
      let bytes : Typed → List ℕ = λ r. r.bytes in
      grammar_records f t g
      ∙ ap (λ (l : List (List ℕ)). g.parts.header ∷ l) (map-append bytes ms (record { kind = Ef; bytes = g.parts.trailer } ∷ []) ∙ ap (λ (l : List (List ℕ)). l ++ (g.parts.trailer ∷ [])) (map-flatten bytes g.parts.dispositions))

  -- each record 14 is the one that opens a disposition: what holds of those that open one holds of every 14
  each-opening : (P : List ℕ → Type 0) → All P (map opening g.parts.dispositions) → All (λ (rec : List ℕ). is_opening rec ≡ true → P rec) (records_of f)
  unfolding flatten
  each-opening P openings =
      subst (All Kept) (sym between)
      (shut Im g.parts.header g.right.header_formed refl, all_append Kept (flatten (map records_in ds)) (g.parts.trailer ∷ []) (members 1 ds g.right.each openings) (shut Ef g.parts.trailer g.right.trailer_formed refl, tt))
    where
      ds : List (List Typed)
      ds = g.parts.dispositions

      Kept : List ℕ → Type 0
      Kept rec = is_opening rec ≡ true → P rec

      shut : (k : RecordKind) (rec : List ℕ) → Formed k rec → opens k ≡ false → Kept rec
      shut k rec formed other opened = absurd (true≢false (sym opened ∙ opening_so k rec formed ∙ other))

      others : (recs : List (List ℕ)) → All (λ (rec : List ℕ). is_opening rec ≡ false) recs → All Kept recs
      others [] none = tt
      others (rec ∷ recs) none = (λ opened. absurd (true≢false (sym opened ∙ none.0)), others recs none.1)

      members : (n : ℕ) (ds : List (List Typed)) → RightDispositions (header_of g.parts.header).abi n ds → All P (map opening ds) → All Kept (flatten (map records_in ds))
      members n [] each all = tt
      members n (d ∷ ds) each all =
          let o = opens_so (header_of g.parts.header).abi n d each.0 in
          let first : P o.first = subst P (ap (λ (l : List (List ℕ)). get_or l 0 []) o.whole) all.0 in
          all_append Kept (records_in d) (flatten (map records_in ds)) (subst (All Kept) (sym o.whole) (λ opened. first, others o.others o.none)) (members (suc n) ds each.1 all.1)

  -- the company code of a flow is that of its first disposition
  pub company_first : company_of (records_of f) ≡ disposition_code (get_or g.parts.dispositions 0 [])
  unfolding company_of flatten
  company_first = ap company_of between ∙ rw (opening_so Im g.parts.header g.right.header_formed) (go g.parts.dispositions g.right.some g.right.each)
    where
      go : (ds : List (List Typed)) → 1 ≤ length ds → RightDispositions (header_of g.parts.header).abi 1 ds → company_of (flatten (map records_in ds) ++ (g.parts.trailer ∷ [])) ≡ disposition_code (get_or ds 0 [])
      go [] none each = absurd (omega arith)
      go (d ∷ ds) some each =
          let o = opens_so (header_of g.parts.header).abi 1 d each.0 in
          rw (o.whole, o.passes)

pub one-kind : OneKind
one-kind f t e =
    let g = (grammar_exact f t).0 e in
    each-opening f t g (KindRules t.kind) (subst (λ (u : Totals). All (KindRules u.kind) (map opening g.parts.dispositions)) g.totals g.right.kinds)

pub one-company : OneCompany
one-company f t e =
    let g = (grammar_exact f t).0 e in
    each-opening f t g (λ (rec : List ℕ). company_in rec ≡ company_of (records_of f)) (by g.parts.dispositions (company_first f t g) g.right.codes)
  where
    same : (ds : List (List Typed)) {company : List ℕ} → ((x : List ℕ) → Memᴰ x (map disposition_code ds) → x ≡ company) → All (λ (rec : List ℕ). company_in rec ≡ company) (map opening ds)
    same [] each = tt
    same (d ∷ ds) each = (each (disposition_code d) (Memᴰ.head refl), same ds (λ x m. each x (Memᴰ.tail m)))

    by : (ds : List (List Typed)) {company : List ℕ} → company ≡ disposition_code (get_or ds 0 []) → AllEqual (map disposition_code ds) → All (λ (rec : List ℕ). company_in rec ≡ company) (map opening ds)
    by [] first equal = tt
    by (d ∷ ds) first equal = same (d ∷ ds) (λ x m. equal x (disposition_code d) m (Memᴰ.head refl) ∙ sym first)

pub dispositions_exact : DispositionsExact
unfolding groups
dispositions_exact f t g =
    let p = g.parts in
    let ds = map records_in p.dispositions in
    let header-shut : is_opening p.header ≡ false = opening_so Im p.header g.right.header_formed in
    ap (λ (l : List (List ℕ)). groups is_opening (drop_last l)) (between f t g)
    ∙ ap (groups is_opening) (drop_last_append (p.header ∷ flatten ds) p.trailer)
    ∙ rw header-shut (groups_joined is_opening ds (all_open (header_of p.header).abi 1 p.dispositions g.right.each))

-- where disposition k + 1 of an accepted flow stands
module _ (f : List ℕ) (t : Totals) (e : judge f ≡ accepted t) where
  g : Grammar f t
  g = (grammar_exact f t).0 e

  pub find-known : (k : ℕ) → k < t.dispositions
      → find f (suc k) ≡ accepted (record { first = suc (suc (length (flatten (take k (dispositions_in f))))); records = length (get_or (dispositions_in f) k []); cents = number (amount_in (get_or (get_or (dispositions_in f) k []) 0 [])) })
  find-known k h =
      let one : suc k - 1 ≡ k = omega arith in
      find_so f k e h ∙ rw one

  count_so : length (dispositions_in f) ≡ t.dispositions
  count_so = dispositions-counted f e

  -- the records of the flow: the header, those of the dispositions, the trailer
  records_so : records_of f ≡ (g.parts.header ∷ flatten (dispositions_in f)) ++ (g.parts.trailer ∷ [])
  records_so = between f t g ∙ ap (λ (l : List (List (List ℕ))). (g.parts.header ∷ flatten l) ++ (g.parts.trailer ∷ [])) (sym (dispositions_exact f t g))

  whole_so : Whole ((g.parts.header ∷ flatten (dispositions_in f)) ++ (g.parts.trailer ∷ []))
  whole_so = subst Whole (sym (grammar_records f t g) ∙ records_so) (grammar_whole f t g)

  bytes_so : flatten ((g.parts.header ∷ flatten (dispositions_in f)) ++ (g.parts.trailer ∷ [])) ≡ f
  bytes_so = ap flatten (sym records_so ∙ grammar_records f t g) ∙ grammar_bytes f t g

  part_so : (k : ℕ) → k < t.dispositions → Whole (get_or (dispositions_in f) k []) × (part_of f (suc k) ≡ flatten (get_or (dispositions_in f) k []))
  unfolding flatten
  part_so k h =
      let found = dispositions_in f in
      let here = get_or found k [] in
      let xs = g.parts.header ∷ flatten (take k found) in
      let zs = flatten (drop (suc k) found) ++ (g.parts.trailer ∷ []) in
      let less : k < length found = omega (arith, count_so) in
      let split : flatten found ≡ flatten (take k found) ++ (here ++ flatten (drop (suc k) found)) = ap flatten (split_at found k [] less) ∙ flatten-append (take k found) (here ∷ drop (suc k) found) in
      let all : (g.parts.header ∷ flatten found) ++ (g.parts.trailer ∷ []) ≡ xs ++ (here ++ zs) = ap (λ (l : List (List ℕ)). (g.parts.header ∷ l) ++ (g.parts.trailer ∷ [])) split ∙ ap (λ (l : List (List ℕ)). g.parts.header ∷ l) (simp append_assoc) in
      let whole : Whole (xs ++ (here ++ zs)) = subst Whole all whole_so in
      let front : Whole xs = all-before (λ (l : List ℕ). length l ≡ 120) xs (here ++ zs) whole in
      let within : Whole here = all-before (λ (l : List ℕ). length l ≡ 120) here zs (all_after (λ (l : List ℕ). length l ≡ 120) xs (here ++ zs) whole) in
      let joined : f ≡ flatten (xs ++ (here ++ zs)) = sym bytes_so ∙ ap flatten all in
      let first : suc (suc (length (flatten (take k found)))) - 1 ≡ length xs = omega arith in
      let bytes = ap (λ (m : ℕ). part (120 * m) (120 * length here) f) first ∙ ap (part (120 * length xs) (120 * length here)) joined ∙ part_joined xs here zs front within in
      (within, ap (λ (l : Verdict Location). bytes_at l f) (find-known k h) ∙ bytes)

  -- the flow has the header, their records and the trailer
  size_so : length f ≡ 120 * (2 + length (flatten (dispositions_in f)))
  size_so =
      let all = (g.parts.header ∷ flatten (dispositions_in f)) ++ (g.parts.trailer ∷ []) in
      let count = length-append (flatten (dispositions_in f)) (g.parts.trailer ∷ []) in
      ap (λ (l : List ℕ). length l) (sym bytes_so) ∙ flatten-length all whole_so ∙ omega arith

  -- all of them, in order
  parts_so : flatten (map (part_of f) (up_to t.dispositions)) ≡ part 120 (length f - 240) f
  unfolding flatten
  parts_so =
      let found = dispositions_in f in
      let zs = g.parts.trailer ∷ [] in
      let within : Whole (flatten found) = all-before (λ (l : List ℕ). length l ≡ 120) (flatten found) zs whole_so.1 in
      let less : 120 * length (flatten found) ≡ length f - 240 = omega (arith, size_so) in
      let numbered : map (part_of f) (up_to (length found)) ≡ map flatten found = by_number (part_of f) flatten found [] (λ k h. (part_so k (omega (arith, count_so))).1) in
      ap (λ (m : ℕ). flatten (map (part_of f) (up_to m))) (sym count_so) ∙ ap flatten numbered ∙ flatten-flatten found
      ∙ sym (ap (part 120 (120 * length (flatten found))) (sym bytes_so) ∙ part_joined (g.parts.header ∷ []) (flatten found) zs (whole_so.0, tt) within)
      ∙ ap (λ (m : ℕ). part 120 m f) less

  sum_so : sum (map (λ (k : ℕ). cents_at (find f k)) (up_to t.dispositions)) ≡ t.cents
  sum_so =
      let found = dispositions_in f in
      let numbered = by_number (λ (k : ℕ). cents_at (find f k)) (λ (x : List (List ℕ)). number (amount_in (get_or x 0 []))) found [] (λ k h. ap cents_at (find-known k (omega (arith, count_so)))) in
      ap (λ (m : ℕ). sum (map (λ (k : ℕ). cents_at (find f k)) (up_to m))) (sym count_so) ∙ ap sum numbered
      ∙ ap (λ (l : List (List (List ℕ))). sum (map (λ (x : List (List ℕ)). number (amount_in (get_or x 0 []))) l)) (dispositions_exact f t g)
      ∙ ap sum (map-map (λ (x : List (List ℕ)). number (amount_in (get_or x 0 []))) records_in g.parts.dispositions) ∙ ap (λ (u : Totals). u.cents) g.totals

  -- where each starts and ends, in records
  first_so : (k : ℕ) → k < t.dispositions → first_at (find f (suc k)) ≡ 2 + length (flatten (take k (dispositions_in f)))
  first_so k h = ap first_at (find-known k h) ∙ omega arith

  end_so : (k : ℕ) → k < t.dispositions → end_at (find f (suc k)) ≡ 2 + length (flatten (take (suc k) (dispositions_in f)))
  end_so k h =
      let found = dispositions_in f in
      let next = ap (λ (l : List (List ℕ)). length l) (flatten_next found k (omega (arith, count_so))) in
      let join = length-append (flatten (take k found)) (get_or found k []) in
      ap end_at (find-known k h) ∙ omega arith

  places_so : (first_at (find f 1) ≡ 2) × ((k : ℕ) → 1 ≤ k → k < t.dispositions → first_at (find f (suc k)) ≡ end_at (find f k)) × (end_at (find f t.dispositions) ≡ t.records)
  unfolding flatten
  places_so =
      let d = t.dispositions in
      let some : 1 ≤ d = omega (arith, g.right.some, ap (λ (u : Totals). u.dispositions) g.totals) in
      let all : take d (dispositions_in f) ≡ dispositions_in f = take_all d (dispositions_in f) (omega (arith, count_so)) in
      let last_one : suc (d - 1) ≡ d = omega arith in
      let ends = end_so (d - 1) (omega arith) in (
        first_so 0 some,
        λ k h l.
            let one : suc (k - 1) ≡ k = omega arith in
            first_so k l ∙ sym (rw one at (end_so (k - 1) (omega arith))),
        (rw last_one at ends) ∙ ap (λ (l : List (List (List ℕ))). 2 + length (flatten l)) all ∙ omega (arith, size_so, (accepted_exact f t e).2),
      )

pub parts_exact : PartsExact
parts_exact f t e = (parts_so f t e, sum_so f t e)

pub places_exact : PlacesExact
places_exact f t e = places_so f t e

-- a disposition of an accepted flow has bytes
some_bytes : (f : List ℕ) (t : Totals) → judge f ≡ accepted t → (k : ℕ) → k < t.dispositions → ¬ (part_of f (suc k) ≡ [])
some_bytes f t e k h none =
    let g = (grammar_exact f t).0 e in
    let found = map records_in g.parts.dispositions in
    let same = dispositions_exact f t g in
    let less : k < length found = omega (arith, length-map g.parts.dispositions records_in, ap (λ (u : Totals). u.dispositions) g.totals) in
    let opens_one = all_get_d (Opens is_opening) found k [] less (all_open (header_of g.parts.header).abi 1 g.parts.dispositions g.right.each) in
    let here = part_so f t e k h in
    let size = flatten-length (get_or (dispositions_in f) k []) here.0 in
    let empty : length (flatten (get_or (dispositions_in f) k [])) ≡ 0 = ap (λ (l : List ℕ). length l) (sym here.1 ∙ none) in
    let one : length (get_or (dispositions_in f) k []) ≡ suc (length opens_one.others) = ap (λ (l : List (List (List ℕ))). length (get_or l k [])) same ∙ ap (λ (l : List (List ℕ)). length l) opens_one.whole in
    omega arith

pub part-empty : PartEmpty
part-empty f k = (λ none. go none (find f k) refl, λ o. ap (λ (l : Verdict Location). bytes_at l f) o.1)
  where
    go : part_of f k ≡ [] → (l : Verdict Location) → find f k ≡ l → (x : Refusal) × (find f k ≡ refused x)
    go none (refused x) e = (x, e)
    go none (accepted place) e =
        let s = (found-has f k e).0 in
        let some = s.some in
        let within = s.within in
        let same : suc (k - 1) ≡ k = omega arith in
        absurd (some_bytes f s.totals s.read (k - 1) (omega arith) (ap (part_of f) same ∙ none))

-- the number and the amount of a disposition stand in the record that opens it
pub numbered_at : (abi : List ℕ) (n : ℕ) (ds : List (List Typed)) (k : ℕ) → k < length ds → RightDispositions abi n ds → RightDisposition abi (n + k) (get_or ds k [])
numbered_at abi n [] k h each = absurd (not-suc-le-zero h)
numbered_at abi n (d ∷ ds) zero h each = let same : n ≡ n + 0 = omega arith in subst (λ (m : ℕ). RightDisposition abi m d) same each.0
numbered_at abi n (d ∷ ds) (suc k) h each =
    let same : suc n + k ≡ n + suc k = omega arith in
    subst (λ (m : ℕ). RightDisposition abi m (get_or ds k [])) same (numbered_at abi (suc n) ds k (le_of_suc-le-suc h) each.1)

opening_says : (abi : List ℕ) (n : ℕ) (d : List Typed) → RightDisposition abi n d → (field 2 3 (opening d) ≡ type_of R14) × Says n (field 4 10 (opening d)) × Digits (amount_in (opening d))
opening_says abi n d r = go d (opened_so d r.order) r.records
  where
    go : (d : List Typed) → Opened d → All (Member abi n) d → (field 2 3 (opening d) ≡ type_of R14) × Says n (field 4 10 (opening d)) × Digits (amount_in (opening d))
    go d (opened_by x xs e details) members =
        let rules = subst (λ (k : RecordKind). MemberRules k abi n x.bytes) e members.0.1 in
        (members.0.0.type ∙ ap type_of e, rules.number-said, rules.others.amount.0)

pub opening_exact : OpeningExact
opening_exact f k place e =
    let found = found-has f k e in
    let s = found.0 in
    let some = s.some in
    let within = s.within in
    let g = (grammar_exact f s.totals).0 s.read in
    let ds = g.parts.dispositions in
    let abi = (header_of g.parts.header).abi in
    let less : k - 1 < length ds = omega (arith, ap (λ (u : Totals). u.dispositions) g.totals) in
    let first : place.first ≡ suc (start_of (dispositions_in f) k) = ap (λ (x : Location). x.first) found.1 in
    let start : start_of (dispositions_in f) k ≡ place.first - 1 = omega arith in
    let same = dispositions_exact f s.totals g in
    let own : get_or (get_or (dispositions_in f) (k - 1) []) 0 [] ≡ opening (get_or ds (k - 1) []) = ap (λ (l : List (List (List ℕ))). get_or (get_or l (k - 1) []) 0 []) same ∙ ap (λ (l : List (List ℕ)). get_or l 0 []) (get_or-map records_in ds (k - 1) []) in
    let here : opening (get_or ds (k - 1) []) ≡ record_at (place.first - 1) f = sym own ∙ (disposition_at f k s).opening ∙ ap (λ (m : ℕ). record_at m f) start in
    let one : 1 + (k - 1) ≡ k = omega arith in
    let says = opening_says abi (1 + (k - 1)) (get_or ds (k - 1) []) (numbered_at abi 1 ds (k - 1) less g.right.each) in
    let amount = ap (λ (r : List ℕ). number (amount_in r)) (sym here ∙ sym own) ∙ sym (ap (λ (x : Location). x.cents) found.1) in
    let number-said = subst (λ (r : List ℕ). Says (1 + (k - 1)) (field 4 10 r)) here says.1 in
    let digits = subst (λ (r : List ℕ). Digits (amount_in r)) here says.2 in
    (ap (field 2 3) (sym here) ∙ says.0, subst (λ (m : ℕ). Says m (field 4 10 (record_at (place.first - 1) f))) one number-said, (digits, amount), ap (λ (l : Verdict Location). bytes_at l f) e)
