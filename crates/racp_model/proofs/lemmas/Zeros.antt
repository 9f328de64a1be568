-- A row of zeros.
use Rattle.std.proofs.Common.{◌≡◌, ℕ, ◌≤◌, replicate, take, slice_index, inl, inr}
use Rattle.std.proofs.lemmas.Bool.{cases_lt}
use Rattle.std.proofs.lemmas.List.{take-replicate, get_or-replicate}
use Rattle.std.proofs.Math.ListN.{get_or-eq_default, length-replicate}

-- each place of a row of zeros is 0, and so is each beyond it
pub zeros : (n i : ℕ) → slice_index (replicate n 0) i ≡ 0
zeros n i = elim (cases_lt i n) [
  | inl l ↦ get_or-replicate n i 0 0 l
  | inr l ↦ get_or-eq_default (replicate n 0) 0 (simp length-replicate l)
]

-- the same of its front
pub zeros_front : (m n i : ℕ) → m ≤ n → slice_index (take m (replicate n 0)) i ≡ 0
zeros_front m n i l = rw (take-replicate {X = ℕ} m n 0 l) (zeros m i)
