-- Delaying alternatives: which of the jobs that are active at a conflict have to go so that the others fit the
-- capacities (Demeulemeester and Herroelen 1992). Lists of jobs hold job numbers, from 1.
use Rattle.std.specs.Prelude.{◌≡◌, ◌≢◌, ◌⊎◌, ℕ, ◌+◌, ◌<◌, ◌≤◌, Bool, MatchBool, List, [], ◌∷◌, map, slice_index, Contains, AllPairs}
use Rattle.smallvec.specs.SmallVec.{SmallVec}
use Rattle.racp_model.specs.Project.{Project, place, request}
use Rattle.racp_model.specs.Terms.{IsLexBefore}

-- a list of jobs is split into those that go and those that stay, each in the order of the list
pub data Splits : List ℕ → List ℕ → List ℕ → Type 0 where
  none : Splits [] [] []
  goes : {job : ℕ} {jobs gone kept : List ℕ} → Splits jobs gone kept → Splits (job ∷ jobs) (job ∷ gone) kept
  stays : {job : ℕ} {jobs gone kept : List ℕ} → Splits jobs gone kept → Splits (job ∷ jobs) gone (job ∷ kept)

-- what the jobs of a list request together of the resource at place k
unfoldable pub load : Project → ℕ → List ℕ → ℕ
load p k [] = 0
load p k (job ∷ jobs) = request p (place job) k + load p k jobs

-- the jobs of a list can run at once
abbrev pub CanRun : Project → List ℕ → List ℕ → Type 0
CanRun p capacities jobs = (k : ℕ) → k < p.resources → load p k jobs ≤ slice_index capacities k

-- if these jobs go, the other active jobs can run at once
abbrev pub IsDelaying : Project → List ℕ → List ℕ → List ℕ → Type 0
IsDelaying p capacities active gone = (kept : List ℕ) × Splits active gone kept × CanRun p capacities kept

-- a minimal delaying alternative: the other active jobs can run at once, but not with some of these that stay
pub record IsMinimalDelayingAlternative (p : Project) (capacities active gone : List ℕ) : Type 0 where
  pub delays : IsDelaying p capacities active gone
  pub least : (part others : List ℕ) → Splits gone part others → others ≢ [] → IsDelaying p capacities active part → ⊥

-- all minimal delaying alternatives of the active jobs and nothing else, each once, in lexicographic order
pub record AreAlternatives (p : Project) (capacities active : List ℕ) (lists : List (List ℕ)) : Type 0 where
  pub all : (gone : List ℕ) → IsMinimalDelayingAlternative p capacities active gone → Contains lists gone
  pub only : (gone : List ℕ) → Contains lists gone → IsMinimalDelayingAlternative p capacities active gone
  pub in_order : AllPairs IsLexBefore lists

-- the job numbers of each of some short vectors
abbrev pub job_lists : List (SmallVec ℕ) → List (List ℕ)
job_lists vectors = map (λ (v : SmallVec ℕ). v.items) vectors

-- a minimal delaying alternative in which only free jobs go
pub record IsFreeAlternative (p : Project) (capacities active free gone : List ℕ) : Type 0 where
  pub minimal : IsMinimalDelayingAlternative p capacities active gone
  pub only : (job : ℕ) → Contains gone job → Contains free job

-- the first of them that stands after a list in lexicographic order
pub record IsNextAlternative (p : Project) (capacities active free last gone : List ℕ) : Type 0 where
  pub is : IsFreeAlternative p capacities active free gone
  pub behind : IsLexBefore last gone
  pub first : (other : List ℕ) → IsFreeAlternative p capacities active free other → IsLexBefore last other →
      (other ≡ gone) ⊎ IsLexBefore gone other

-- none of them stands after a list
abbrev pub IsLastAlternative : Project → List ℕ → List ℕ → List ℕ → List ℕ → Type 0
IsLastAlternative p capacities active free last =
    (other : List ℕ) → IsFreeAlternative p capacities active free other → IsLexBefore last other → ⊥

-- what looking for the one after a list answers: there is one more, and it is the next, or there is none
abbrev pub IsFollowing : Project → List ℕ → List ℕ → List ℕ → List ℕ → Bool → List ℕ → Type 0
IsFollowing p capacities active free last more gone =
    MatchBool more (IsNextAlternative p capacities active free last gone)
    (IsLastAlternative p capacities active free last)
