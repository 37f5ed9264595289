-- An accepted flow's own list, written again: it is accepted with the same numbers, and its records are like the flow's at every position
-- that is checked. Assumes nothing.
use Prim.Native.Nat.{ℕ, zero, suc, ◌+◌, ◌<◌}
use mathlib.Core.Bool.{Bool, true, false, cond, true≢false}
use mathlib.Core.List.{List, [], ◌∷◌, ◌++◌, map}
use mathlib.Core.Path.{◌≡◌, refl, sym, ◌∙◌, ap, ap₂, subst}
use native.Mathlib.Nat.{le_of_suc-le-suc, not-suc-le-zero}
use lib.ListN.{length, get_or}
use Rattle.sequences.specs.All.{All}
use Rattle.records.specs.Checked.{checked, Alike}
use Rattle.records.specs.Context.{Header}
use Rattle.records.specs.Field.{field}
use Rattle.records.specs.Judge.{asked}
use Rattle.records.specs.Kinds.{type_of, heads, opens, opened, closes}
use Rattle.records.specs.declared.flow_kind.FlowKind.{FlowKind}
use Rattle.records.specs.declared.kind.RecordKind.{RecordKind}
use Rattle.records.specs.declared.kind.RecordKind.TheVariants.{Im, R14, R16, R20, R30, R40, R50, R59, R51, R70, Ef}
use Rattle.records.proofs.ByKind.{types_differ}
use Rattle.records.proofs.EachKind.{each-kind}
use Rattle.flow.specs.Order.{place_after}
use Rattle.flow.specs.Walking.{dispositions_with, kind_after, step, company_after}
use Rattle.flow.specs.declared.walk.Walk.{Walk}
use Rattle.grammar.specs.Grammar.{Typed, kinds_of, records_in}
use Rattle.grammar.specs.Rules.{KindRules}
use Rattle.grammar.proofs.AtPlace.{RightAt}
use Rattle.grammar.proofs.Walked.{state_after, Walked, AllFormed}
use Rattle.list.specs.Encode.{abi_in, HeaderMeant, encode_item, body_meant, header_after, encode_from}
use Rattle.list.specs.Items.{Item, item, record_kind, Proper}
use Rattle.list.specs.ReadBack.{gather}
use Rattle.list.specs.Table.{record_of, carried}
use Rattle.list.specs.declared.table.ItemKind.{ItemKind}
use Rattle.list.specs.declared.table.ItemKind.TheVariants.{H, D, S, C, B, A, R, X, K, Z}
use Rattle.list.proofs.AllRecords.{Suits}
use Rattle.list.proofs.RecordAgain.{again_alike, again_right, own_proper, alike_asked, alike_company, alike_kind}

-- the kind of item of a record's kind, in a flow of the kind; EF has none, and nothing is said of what stands here for it
abbrev pub kind_for : FlowKind → RecordKind → ItemKind
kind_for q Im = H q
kind_for q R14 = D
kind_for q R16 = S
kind_for q R20 = C
kind_for q R30 = B
kind_for q R40 = A
kind_for q R50 = R
kind_for q R59 = X
kind_for q R51 = K
kind_for q R70 = Z
kind_for q Ef = Z

pub record_for : (q : FlowKind) (k : RecordKind) → closes k ≡ false → record_of (kind_for q k) ≡ k
record_for q = each-kind (λ (k : RecordKind). closes k ≡ false → record_of (kind_for q k) ≡ k) (λ e. refl, (λ e. refl, (λ e. refl, (λ e. refl, (λ e. refl, (λ e. refl, (λ e. refl, (λ e. refl, (λ e. refl, (λ e. refl, (λ e. absurd (true≢false e), tt)))))))))))

pub suits_for : (q : FlowKind) (k : RecordKind) → Suits q (kind_for q k)
suits_for q = each-kind (λ (k : RecordKind). Suits q (kind_for q k)) (refl, (refl, (refl, (refl, (refl, (refl, (refl, (refl, (refl, (refl, (refl, tt)))))))))))

-- the item of a record of a known kind
abbrev pub own_item : FlowKind → Typed → Item
own_item q r = item (kind_for q r.kind) (gather (carried (kind_for q r.kind)) r.bytes)

-- records that are none of EF
abbrev pub AllOpen : List Typed → Type 0
AllOpen rs = All (λ (r : Typed). closes r.kind ≡ false) rs

pub own_kinds : (q : FlowKind) (rs : List Typed) → AllOpen rs → map record_kind (map (own_item q) rs) ≡ kinds_of rs
own_kinds q [] not_last = refl
own_kinds q (r ∷ rs) not_last = ap₂ (λ (k : RecordKind) (ks : List RecordKind). k ∷ ks) (record_for q r.kind not_last.0) (own_kinds q rs not_last.1)

-- records encoded again, after n dispositions and with one header meant
abbrev pub again_from : ℕ → HeaderMeant → List Typed → List Typed
again_from n header [] = []
again_from n header (r ∷ rs) = record { kind = r.kind; bytes = encode_item (n + opened r.kind) header (own_item header.kind r) } ∷ again_from (n + opened r.kind) header rs

-- records like those of kinds that are known
abbrev pub Like : List Typed → List (List ℕ) → Type 0
Like [] [] = Unit
Like [] (b ∷ bs) = ⊥
Like (r ∷ rs) [] = ⊥
Like (r ∷ rs) (b ∷ bs) = Alike (checked r.kind) r.bytes b × Like rs bs

pub record Again (h : Header) (w : Walk) (code : List ℕ) (i : ℕ) (header : HeaderMeant) (rs : List Typed) : Type 0 where
  pub walked : Walked h w code i (again_from w.dispositions header rs)
  pub state : state_after w (again_from w.dispositions header rs) ≡ state_after w rs
  pub like : Like rs (records_in (again_from w.dispositions header rs))
  pub proper : All Proper (map (own_item header.kind) rs)
  pub same : records_in (again_from w.dispositions header rs) ≡ encode_from w.dispositions header (map (own_item header.kind) rs)

-- one record, encoded again from its item
record OneAgain (h : Header) (w : Walk) (code : List ℕ) (i : ℕ) (k : RecordKind) (rec enc : List ℕ) (it : Item) : Type 0 where
  alike : Alike (checked k) rec enc
  right : RightAt h w code i k enc
  proper : Proper it

one_again :
    (h : Header) (w : Walk) (code : List ℕ) (i : ℕ) (rec : List ℕ) (header : HeaderMeant) (l : ItemKind) (k : RecordKind) → record_of l ≡ k → RightAt h w code i k rec
    → (heads k ≡ false → h.abi ≡ abi_in header.body) → (opens k ≡ true → KindRules header.kind rec) → let it = item l (gather (carried l) rec) in
    OneAgain h w code i k rec (encode_item (dispositions_with w k) header it) it
one_again h w code i rec header l k same =
    subst (λ (k : RecordKind). RightAt h w code i k rec → (heads k ≡ false → h.abi ≡ abi_in header.body) → (opens k ≡ true → KindRules header.kind rec) → let it = item l (gather (carried l) rec) in OneAgain h w code i k rec (encode_item (dispositions_with w k) header it) it) same
    (λ right meant kind. record { alike = again_alike h w code i l rec header right meant kind; right = again_right h w code i l rec header right meant kind; proper = own_proper h w code i l rec header right meant kind })

-- each record 14 has the kind of the header meant
abbrev pub OpeningsOf : FlowKind → List Typed → Type 0
OpeningsOf q rs = All (λ (r : Typed). opens r.kind ≡ true → KindRules q r.bytes) rs

module _ (h : Header) (header : HeaderMeant) (meant : h.abi ≡ abi_in header.body) where
  pub again_walked :
      (w : Walk) (code : List ℕ) (i : ℕ) (rs : List Typed) → Walked h w code i rs → AllOpen rs → All (λ (r : Typed). heads r.kind ≡ false) rs → OpeningsOf header.kind rs
      → Again h w code i header rs
  unfolding encode_from
  again_walked w code i [] walked not_last later kinds = record { walked = tt; state = refl; like = tt; proper = tt; same = refl }
  again_walked w code i (r ∷ rs) walked not_last later kinds =
      let k = r.kind in
      let rec = r.bytes in
      let q = header.kind in
      let it = own_item q r in
      let same : k ≡ record_kind it = sym (record_for q k not_last.0) in
      let one = one_again h w code (suc i) rec header (kind_for q k) k (record_for q k not_last.0) walked.0 (λ e. meant) kinds.0 in
      let enc = encode_item (dispositions_with w k) header it in
      let cents : asked k rec ≡ asked k enc = alike_asked k rec enc one.alike in
      let company : company_after code k rec ≡ company_after code k enc = alike_company code k rec enc one.alike in
      let kind : kind_after w.kind k rec ≡ kind_after w.kind k enc = alike_kind k w.kind rec enc one.alike in
      let rest = again_walked (step w k (asked k rec) rec) (company_after code k rec) (suc i) rs walked.1 not_last.1 later.1 kinds.1 in
      let after = again_from (dispositions_with w k) header rs in
      let stepped : step w k (asked k rec) rec ≡ step w k (asked k enc) enc = λ j. record { place = place_after w.place.further k; kind = kind j; dispositions = dispositions_with w k; cents = w.cents + cents j } in
      let body-stays : header.body ≡ body_meant header.body it = ap (λ (b : Bool). cond b it.body header.body) (sym later.0 ∙ ap heads same) in
      let stays : header ≡ header_after header it = λ j. record { kind = sym (suits_for q k) j; body = body-stays j } in
      record {
        walked = (one.right, subst (λ (A : Type 0). A) (λ j. Walked h (stepped j) (company j) (suc i) after) rest.walked);
        state = ap (λ (v : Walk). state_after v after) (sym stepped) ∙ rest.state;
        like = (one.alike, rest.like);
        proper = (one.proper, rest.proper);
        same = ap (λ (l : List (List ℕ)). enc ∷ l) rest.same ∙ (λ j. encode_item (dispositions_with w (same j)) header it ∷ encode_from (dispositions_with w (same j)) (stays j) (map (own_item q) rs));
      }

-- of records and of their kinds
pub all_kinds : (P : RecordKind → Type 0) (rs : List Typed) → All P (kinds_of rs) → All (λ (r : Typed). P r.kind) rs
all_kinds P [] all = tt
all_kinds P (r ∷ rs) all = (all.0, all_kinds P rs all.1)

-- a record by its number
pub like_at :
    (rs : List Typed) (bs : List (List ℕ)) → Like rs bs → AllFormed rs → (i : ℕ) (k : RecordKind) → i < length rs → field 2 3 (get_or (records_in rs) i []) ≡ type_of k
    → Alike (checked k) (get_or (records_in rs) i []) (get_or bs i [])
like_at [] bs like formed i k h type = absurd (not-suc-le-zero h)
like_at (r ∷ rs) [] like formed i k h type = absurd like
like_at (r ∷ rs) (b ∷ bs) like formed zero k h type = subst (λ (l : RecordKind). Alike (checked l) r.bytes b) (types_differ r.kind k (sym formed.0.type ∙ type)) like.0
like_at (r ∷ rs) (b ∷ bs) like formed (suc i) k h type = like_at rs bs like.1 formed.1 i k (le_of_suc-le-suc h) type

pub like_append : (rs qs : List Typed) (bs cs : List (List ℕ)) → Like rs bs → Like qs cs → Like (rs ++ qs) (bs ++ cs)
like_append [] qs [] cs p q = q
like_append [] qs (b ∷ bs) cs p q = absurd p
like_append (r ∷ rs) qs [] cs p q = absurd p
like_append (r ∷ rs) qs (b ∷ bs) cs p q = (p.0, like_append rs qs bs cs p.1 q)
