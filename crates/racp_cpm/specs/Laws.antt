-- Laws of early and late starts, in the words of the field. Each is the contract of a public function.
use Rattle.std.specs.Prelude.{◌≡◌, ◌↔◌, ℕ, ◌<◌, ◌≤◌, List, length, slice_index, Option, None}
use Rattle.racp_model.specs.Project.{Project, IsSound}
use Rattle.racp_model.specs.Schedule.{KeepsPrecedence, EndsBy, IsInTime, FitsInTime, roof}
use Rattle.racp_model.specs.Path.{IsEarly, IsCriticalLength}
use Rattle.racp_model.specs.Window.{Bounds, LiesIn, IsRootWindow}
use Rattle.racp_cpm.specs.Ends.{IsLastEnd, IsRootAnswer}

-- early starts that end by the due times are a schedule if there is enough of each resource
abbrev pub EarlyIsSchedule : Type 0
EarlyIsSchedule =
    (p : Project) (release due : ℕ → ℕ) (capacities early : List ℕ) → IsEarly p release early → EndsBy p due early →
    ((k : ℕ) → k < p.resources → roof p k ≤ slice_index capacities k) → FitsInTime p release due capacities early

-- the critical length is the greatest early finish
abbrev pub CriticalIsGreatestFinish : Type 0
CriticalIsGreatestFinish =
    (p : Project) (release : ℕ → ℕ) (early : List ℕ) (length : ℕ) → IsSound p → IsEarly p release early →
    IsCriticalLength p release length ↔ IsLastEnd p early length

-- with one deadline for all jobs there is no root window exactly if the critical length exceeds it
abbrev pub NoRootIsTooLong : Type 0
NoRootIsTooLong =
    (p : Project) (release : ℕ → ℕ) (critical deadline : ℕ) (answer : Option Bounds) → IsSound p →
    IsCriticalLength p release critical →
    IsRootAnswer p release (λ _. deadline) answer → (answer ≡ None) ↔ (deadline < critical)

-- there is no root window exactly if no starts keep precedence and are in time
abbrev pub NoRootIsNoSchedule : Type 0
NoRootIsNoSchedule =
    (p : Project) (release due : ℕ → ℕ) (answer : Option Bounds) → IsRootAnswer p release due answer →
    (answer ≡ None) ↔ ((starts : List ℕ) → KeepsPrecedence p starts → IsInTime p release due starts → ⊥)

-- of the starts that keep precedence, those in time are those in the root window
abbrev pub RootIsInTime : Type 0
RootIsInTime =
    (p : Project) (release due : ℕ → ℕ) (root : Bounds) (starts : List ℕ) → IsRootWindow p release due root →
    length starts ≡ length p.jobs → KeepsPrecedence p starts → LiesIn p root starts ↔ IsInTime p release due starts
