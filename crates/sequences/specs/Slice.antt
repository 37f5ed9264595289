-- Where a slice lies in another (document 01, "Questions and changes": "its part of the lent flow"): its bytes alone do not tell, since
-- the same bytes may stand elsewhere too. Assumes nothing.
use Rattle.std.specs.Prelude.{ℕ, ◌+◌, List, ◌≡◌}
use Rattle.std.specs.Borrow.{Bor}

-- the slice r starts at index a of the slice s: in the same memory, and a bytes further on
abbrev pub StartsAt : Bor (List ℕ) → Bor (List ℕ) → ℕ → Type 0
StartsAt r s a = (r.ref_ptr.0 ≡ s.ref_ptr.0) × (r.ref_ptr.1 ≡ a + s.ref_ptr.1)
