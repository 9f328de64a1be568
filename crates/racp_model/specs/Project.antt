-- A project network (activity on node): jobs that run for a time and request renewable resources, and precedence
-- between them, from finish to start with lag 0 (Möhring 1984).
use Rattle.std.specs.Prelude.{◌≡◌, ℕ, ◌+◌, ◌-◌, ◌<◌, ◌≤◌, ◌⊎◌, List, [], length, slice_index, slice_index_or, Contains, All, AllPairs}

-- a job: how long it runs, and what it requests of each resource while it runs
pub record Activity : Type 0 where
  pub duration : ℕ
  pub requests : List ℕ

-- a project: how many resources there are, the jobs, and the pairs of job numbers (i, j) of which j starts only when i
-- has ended
pub record Project : Type 0 where
  pub resources : ℕ
  pub jobs : List Activity
  pub arcs : List (ℕ × ℕ)

-- the number of what stands at a place: jobs and resources are numbered from 1, and places in lists count from 0
abbrev pub number : ℕ → ℕ
number i = i + 1

-- the place, from 0, of the job with a number
abbrev pub place : ℕ → ℕ
place job = job - 1

-- what stands for a job that is not there
abbrev pub no_job : Activity
no_job = record { duration = 0; requests = [] }

-- the duration of the job at place i
unfoldable pub duration : Project → ℕ → ℕ
duration p i = (slice_index_or p.jobs i no_job).duration

-- what the job at place i requests of the resource at place k
unfoldable pub request : Project → ℕ → ℕ → ℕ
request p i k = slice_index (slice_index_or p.jobs i no_job).requests k

-- the job at place j starts only when the one at place i has ended
abbrev pub Precedes : Project → ℕ → ℕ → Type 0
Precedes p i j = Contains p.arcs (number i, number j)

-- a job has a request for each resource, and its duration and requests are at most 10,000
pub record IsJobWithinLimits (resources : ℕ) (job : Activity) : Type 0 where
  pub duration : job.duration ≤ 10000
  pub row : length job.requests ≡ resources
  pub requests : All (λ x. x ≤ 10000) job.requests

-- 1 to 16 resources, 1 to 512 jobs, and each job within its limits
pub record IsWithinLimits (resources : ℕ) (jobs : List Activity) : Type 0 where
  pub some_resource : 1 ≤ resources
  pub most_resources : resources ≤ 16
  pub some_job : 1 ≤ length jobs
  pub most_jobs : length jobs ≤ 512
  pub each : All (IsJobWithinLimits resources) jobs

-- a is the number of one of n jobs
abbrev pub IsNumber : ℕ → ℕ → Type 0
IsNumber n a = (1 ≤ a) × (a ≤ n)

-- each pair names two of n jobs
abbrev pub AreNumbers : ℕ → List (ℕ × ℕ) → Type 0
AreNumbers n arcs = All (λ arc. IsNumber n arc.0 × IsNumber n arc.1) arcs

-- a pair stands before another: by its first number, and at equal first numbers by its second
abbrev pub IsArcBefore : ℕ × ℕ → ℕ × ℕ → Type 0
IsArcBefore a b = (a.0 < b.0) ⊎ ((a.0 ≡ b.0) × (a.1 < b.1))

-- the rank rises along each pair
abbrev pub Rises : Project → (ℕ → ℕ) → Type 0
Rises p rank = (i j : ℕ) → Precedes p i j → rank i < rank j

-- the jobs can be ranked so that the rank rises along each pair, so that no job waits for itself
abbrev pub IsAcyclic : Project → Type 0
IsAcyclic p = (rank : ℕ → ℕ) × Rises p rank

-- what is true of each network: it is within the limits, its pairs name its jobs, each pair stands once and in rising
-- order, and no job waits for itself
pub record IsSound (p : Project) : Type 0 where
  pub limits : IsWithinLimits p.resources p.jobs
  pub named : AreNumbers (length p.jobs) p.arcs
  pub rising : AllPairs IsArcBefore p.arcs
  pub acyclic : IsAcyclic p
