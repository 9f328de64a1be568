-- Which units serve which jobs. A unit has the places of its jobs, in the order in which it serves them; a book has all units of a
-- resource, and there is one for each resource.
use Rattle.std.specs.Prelude.{◌≡◌, ℕ, ◌+◌, ◌<◌, ◌==◌, ◌&&◌, Bool, true, List, [], ◌∷◌, length, nat_le, slice_index, slice_index_or, if◌then◌else◌}
use Rattle.std.specs.List.{list_all, list_any}
use Rattle.racp_model.specs.Project.{Project, duration, request}

-- the jobs of a unit follow one another, from a time on: each starts when those before it have ended
abbrev pub are_in_turn : Project → List ℕ → ℕ → List ℕ → Bool
are_in_turn p starts from [] = true
are_in_turn p starts from (i ∷ jobs) =
    nat_le from (slice_index starts i) && are_in_turn p starts (slice_index starts i + duration p i) jobs

-- a unit serves the job at place i
abbrev pub serves : List ℕ → ℕ → Bool
serves jobs i = list_any (λ job. job == i) jobs

-- how many units of a book do
abbrev pub served : List (List ℕ) → ℕ → ℕ
served [] i = 0
served (jobs ∷ book) i = (if serves jobs i then 1 else 0) + served book i

-- how many units of the resource at place k the job at place i has to have: none if it takes no time
unfoldable pub wanted : Project → ℕ → ℕ → ℕ
wanted p k i = if duration p i == 0 then 0 else request p i k

-- no unit serves two jobs at once, and each job has as many units of the resource at place k as it needs
pub record IsBook (p : Project) (starts : List ℕ) (k units : ℕ) (book : List (List ℕ)) : Type 0 where
  pub all : length book ≡ units
  pub in_turn : list_all (are_in_turn p starts 0) book ≡ true
  pub enough : (i : ℕ) → i < length p.jobs → served book i ≡ wanted p k i

-- a book for each resource, with as many units as there are
pub record AreBooks (p : Project) (starts capacities : List ℕ) (books : List (List (List ℕ))) : Type 0 where
  pub all : length books ≡ p.resources
  pub each : (k : ℕ) → k < p.resources → IsBook p starts k (slice_index capacities k) (slice_index_or books k [])
