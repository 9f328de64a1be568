-- Contracts of private functions: rows of numbers, one for each job or resource, that are compared place by place.
use Rattle.std.specs.Prelude.{◌≡◌, ℕ, ◌<◌, ◌≤◌, max, List, length, slice_index}

-- no number of the second row is above that of the first
abbrev pub IsAtLeastRow : List ℕ → List ℕ → Type 0
IsAtLeastRow high low = (i : ℕ) → i < length high → slice_index low i ≤ slice_index high i

-- at each place of a stretch the first row's number is at most the second's, or the limit
abbrev pub IsSoonerWithin : List ℕ → ℕ → List ℕ → ℕ → ℕ → Type 0
IsSoonerWithin first limit second from to =
    (i : ℕ) → from ≤ i → i < to → slice_index first i ≤ max limit (slice_index second i)

-- at each place of the first row
abbrev pub IsSoonerRow : List ℕ → ℕ → List ℕ → Type 0
IsSoonerRow first limit second = (i : ℕ) → i < length first → slice_index first i ≤ max limit (slice_index second i)

-- at each place the end if the early start is before the time, and the lower bound elsewhere
pub record AreBounds (early : List ℕ) (time : ℕ) (ends lower bounds : List ℕ) : Type 0 where
  pub places : length bounds ≡ length early
  pub before : (i : ℕ) → i < length early → slice_index early i < time → slice_index bounds i ≡ slice_index ends i
  pub after : (i : ℕ) → i < length early → time ≤ slice_index early i → slice_index bounds i ≡ slice_index lower i
