-- What holds of each of the eleven kinds. Assumes nothing.
use Prim.Native.Nat.{ℕ}
use mathlib.Core.Bool.{Bool, true, false, not, ◌||◌, true≢false}
use mathlib.Core.List.{List, [], ◌∷◌}
use mathlib.Core.Path.{◌≡◌, refl, sym}
use denote.Enum.Declared.{tag_of}
use mir.Val.{has_key}
use types.Run.{OneOf}
use Rattle.sequences.specs.All.{All}
use Rattle.sequences.proofs.Tags.{fails_listed}
use Rattle.records.specs.Kinds.{heads, opens, closes}
use Rattle.records.specs.declared.kind.RecordKind.{RecordKind}
use Rattle.records.specs.declared.kind.RecordKind.TheVariants.{Im, R14, R16, R20, R30, R40, R50, R59, R51, R70, Ef}
use Rattle.records.specs.contracts.kind.RecordKind.{the_type}

abbrev pub kinds : List RecordKind
kinds = Im ∷ R14 ∷ R16 ∷ R20 ∷ R30 ∷ R40 ∷ R50 ∷ R59 ∷ R51 ∷ R70 ∷ Ef ∷ []

pub each-kind : (P : RecordKind → Type 0) → All P kinds → (k : RecordKind) → P k
each-kind P all Im = all.0
each-kind P all R14 = all.1.0
each-kind P all R16 = all.1.1.0
each-kind P all R20 = all.1.1.1.0
each-kind P all R30 = all.1.1.1.1.0
each-kind P all R40 = all.1.1.1.1.1.0
each-kind P all R50 = all.1.1.1.1.1.1.0
each-kind P all R59 = all.1.1.1.1.1.1.1.0
each-kind P all R51 = all.1.1.1.1.1.1.1.1.0
each-kind P all R70 = all.1.1.1.1.1.1.1.1.1.0
each-kind P all Ef = all.1.1.1.1.1.1.1.1.1.1.0

-- a test that fails at each kind whose tag is listed
pub fails_at : (t : RecordKind → Bool) (tags : List ℕ) → All (λ (k : RecordKind). (not (t k) || not (has_key tags (tag_of the_type k))) ≡ true) kinds → (k : RecordKind) → OneOf tags (tag_of the_type k) → false ≡ t k
fails_at t tags all k listed = fails_listed tags (tag_of the_type k) (t k) (each-kind (λ (k : RecordKind). (not (t k) || not (has_key tags (tag_of the_type k))) ≡ true) all k) listed

-- the one kind that heads a flow, that opens a disposition, that closes a flow
pub heads_im : (k : RecordKind) → heads k ≡ true → k ≡ Im
heads_im = each-kind (λ (k : RecordKind). heads k ≡ true → k ≡ Im) (λ e. refl, (λ e. absurd (true≢false (sym e)), (λ e. absurd (true≢false (sym e)), (λ e. absurd (true≢false (sym e)), (λ e. absurd (true≢false (sym e)), (λ e. absurd (true≢false (sym e)), (λ e. absurd (true≢false (sym e)), (λ e. absurd (true≢false (sym e)), (λ e. absurd (true≢false (sym e)), (λ e. absurd (true≢false (sym e)), (λ e. absurd (true≢false (sym e)), tt)))))))))))

pub opens_14 : (k : RecordKind) → opens k ≡ true → k ≡ R14
opens_14 = each-kind (λ (k : RecordKind). opens k ≡ true → k ≡ R14) (λ e. absurd (true≢false (sym e)), (λ e. refl, (λ e. absurd (true≢false (sym e)), (λ e. absurd (true≢false (sym e)), (λ e. absurd (true≢false (sym e)), (λ e. absurd (true≢false (sym e)), (λ e. absurd (true≢false (sym e)), (λ e. absurd (true≢false (sym e)), (λ e. absurd (true≢false (sym e)), (λ e. absurd (true≢false (sym e)), (λ e. absurd (true≢false (sym e)), tt)))))))))))

pub closes_ef : (k : RecordKind) → closes k ≡ true → k ≡ Ef
closes_ef = each-kind (λ (k : RecordKind). closes k ≡ true → k ≡ Ef) (λ e. absurd (true≢false (sym e)), (λ e. absurd (true≢false (sym e)), (λ e. absurd (true≢false (sym e)), (λ e. absurd (true≢false (sym e)), (λ e. absurd (true≢false (sym e)), (λ e. absurd (true≢false (sym e)), (λ e. absurd (true≢false (sym e)), (λ e. absurd (true≢false (sym e)), (λ e. absurd (true≢false (sym e)), (λ e. absurd (true≢false (sym e)), (λ e. refl, tt)))))))))))
