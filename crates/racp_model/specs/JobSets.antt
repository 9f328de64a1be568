-- Sets of jobs, as bits.
use Rattle.std.specs.Prelude.{◌≡◌, ◌↔◌, ◌⊎◌, ℕ, ◌/◌, ◌%◌, Bool, List, nat_eq, slice_index, Contains, All}
use Rattle.std.specs.Int.{bit_at}
use Rattle.std.specs.List.{filter, range_with_len}
use Rattle.std.specs.List.Sorted.{IsStrictlyIncreasing}
use Rattle.racp_model.specs.Project.{place, IsNumber}

-- the bit of a job in words of 64 bits: the job at place i has bit i % 64 of word i / 64
abbrev pub bit_of : List ℕ → ℕ → ℕ
bit_of words job = bit_at (slice_index words (place job / 64)) (place job % 64)

-- whether it is set
abbrev pub has_bit : List ℕ → ℕ → Bool
has_bit words job = nat_eq (bit_of words job) 1

-- the jobs of a set: of the numbers from 1 to 512 those whose bit is set
unfoldable pub members : List ℕ → List ℕ
members words = filter (has_bit words) (range_with_len 1 512)

-- what is true of each set of jobs: the numbers rise, and are from 1 to 512
pub record AreJobs (jobs : List ℕ) : Type 0 where
  pub rises : IsStrictlyIncreasing jobs
  pub numbers : All (IsNumber 512) jobs

-- a set after one job more came in
abbrev pub IsInserted : List ℕ → ℕ → List ℕ → Type 0
IsInserted old job new = (other : ℕ) → Contains new other ↔ ((other ≡ job) ⊎ Contains old other)

-- each job of the first set is in the second
abbrev pub IsSubset : List ℕ → List ℕ → Type 0
IsSubset part whole = (job : ℕ) → Contains part job → Contains whole job
