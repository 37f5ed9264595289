-- Company codes, each compared with the first: that any two are equal. Assumes nothing.
use Prim.Native.Nat.{ℕ}
use mathlib.Core.Bool.{Bool, true, false, cond, ◌&&◌}
use mathlib.Core.List.Memᴰ
use mathlib.Core.List.{List, [], ◌∷◌, Memᴰ}
use mathlib.Core.Logic.{◌↔◌, ⊎_elim}
use mathlib.Core.Path.{◌≡◌, refl, sym, ◌∙◌}
use native.Mathlib.Omega.{arith}
use lib.ListN.{length}
use borrow.Author.Tests.{ne_eqb}
use Rattle.sequences.specs.All.{All}
use Rattle.sequences.proofs.Part.{part_length}
use Rattle.fields.proofs.Bytes.{equal_exact}
use Rattle.records.specs.Company.{company_in, is_none, agrees}
use Rattle.grammar.specs.Grammar.{AllEqual}

-- a whole record has a code: five bytes, be they blanks
pub code_stands : (rec : List ℕ) → length rec ≡ 120 → is_none (company_in rec) ≡ false
code_stands rec whole = rw (part_length 91 5 rec (omega arith))

-- of two codes the one that was found first, and what was found stays found
abbrev pub first_found : List ℕ → List ℕ → List ℕ
first_found company later = cond (is_none company) later company

some : (b : ℕ) (bs : List ℕ) → is_none (b ∷ bs) ≡ false
some b bs = ne_eqb (length (b ∷ bs)) 0 (λ e. omega arith)

pub none_later : (company : List ℕ) → first_found company [] ≡ company
none_later [] = refl
none_later (b ∷ bs) = rw (some b bs)

pub found_stays : (company code later : List ℕ) (opened : Bool) → is_none code ≡ false → first_found (cond (opened && is_none company) code company) later ≡ first_found company (cond opened code later)
found_stays company code later false stands = refl
found_stays [] code later true stands = rw stands
found_stays (b ∷ bs) code later true stands = rw (some b bs, some b bs)

-- each agrees with the first
abbrev pub Agreeing : List ℕ → List (List ℕ) → Type 0
Agreeing company [] = Unit
Agreeing company (c ∷ cs) = (agrees company c ≡ true) × Agreeing (first_found company c) cs

-- where that was found already, each is the same
abbrev Each : List ℕ → List (List ℕ) → Type 0
Each code cs = (x : List ℕ) → Memᴰ x cs → x ≡ code

in_front : (code c : List ℕ) (cs : List (List ℕ)) → c ≡ code → Each code cs → Each code (c ∷ cs)
in_front code c cs same each x m = ⊎_elim (λ e. e ∙ same) (each x) (Memᴰ.cases_cons m)

agreeing_found : (company : List ℕ) (cs : List (List ℕ)) → is_none company ≡ false → Agreeing company cs ↔ Each company cs
agreeing_found company [] found = (λ u x m. absurd (Memᴰ.not-nil m), λ h. tt)
agreeing_found company (c ∷ cs) found =
    let same = equal_exact c company in
    let rest = agreeing_found company cs found in
    rw found (
      λ a. in_front company c cs (same.0 a.0) (rest.0 a.1),
      λ h. (same.1 (h c (Memᴰ.head refl)), rest.1 (λ x m. h x (Memᴰ.tail m))),
    )

-- from the front of the flow, where none was found yet
pub all-equal_exact : (cs : List (List ℕ)) → All (λ (c : List ℕ). is_none c ≡ false) cs → Agreeing [] cs ↔ AllEqual cs
all-equal_exact [] stand = (λ u a b m k. absurd (Memᴰ.not-nil m), λ h. tt)
all-equal_exact (c ∷ cs) stand =
    let rest = agreeing_found c cs stand.0 in (
      λ a x y m k. in_front c c cs refl (rest.0 a.1) x m ∙ sym (in_front c c cs refl (rest.0 a.1) y k),
      λ equal. (refl, rest.1 (λ x m. equal x c (Memᴰ.tail m) (Memᴰ.head refl))),
    )
