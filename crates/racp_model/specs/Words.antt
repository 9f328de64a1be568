-- Contracts of private functions: those on the words of a set of jobs.
use Rattle.std.specs.Prelude.{◌≡◌, ℕ, ◌<◌, ◌^◌, List, length, slice_index, bit_and}
use Rattle.std.specs.Int.{bit_at, bit_not, w64}

-- eight words of 64 bits
pub record AreWords (words : List ℕ) : Type 0 where
  pub eight : length words ≡ 8
  pub fits : (q : ℕ) → slice_index words q < 2 ^ 64

-- all words are 0
abbrev pub AreZero : List ℕ → Type 0
AreZero words = (q : ℕ) → q < 8 → slice_index words q ≡ 0

-- word q is the first that is not 0
pub record IsFirstWord (words : List ℕ) (q : ℕ) : Type 0 where
  pub word : q < 8
  pub before : (i : ℕ) → i < q → slice_index words i ≡ 0
  pub here : 0 < slice_index words q

-- bit k of word q is the first that is set: the words before it are 0, and so are the bits below it
pub record IsLowestBit (words : List ℕ) (q k : ℕ) : Type 0 where
  pub word : q < 8
  pub before : (i : ℕ) → i < q → slice_index words i ≡ 0
  pub bit : k < 64
  pub set : bit_at (slice_index words q) k ≡ 1
  pub below : (i : ℕ) → i < k → bit_at (slice_index words q) i ≡ 0

-- no bit of eight words is set that is not set in eight other words
abbrev pub AreBitsWithin : List ℕ → List ℕ → Type 0
AreBitsWithin part whole = (q : ℕ) → q < 8 → bit_and (slice_index part q) (bit_not w64 (slice_index whole q)) ≡ 0
