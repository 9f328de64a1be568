-- The greatest finish, and what it says of the critical length and of root windows.
use Rattle.std.proofs.Common.{◌≡◌, ℕ, ◌<◌, ◌≤◌, List, Option, Some, None, true, false, true≢false, arith, sym, subst, refl}
use Rattle.std.specs.Option.{is_some}
use Rattle.racp_model.specs.Schedule.{EndsBy}
use Rattle.racp_model.specs.Project.{Project, IsSound}
use Rattle.racp_model.specs.Path.{IsEarly, IsCriticalLength, IsFirstLate}
use Rattle.racp_model.specs.Window.{Bounds, IsRootWindow}
use Rattle.racp_cpm.specs.Ends.{IsLastEnd, HasNoRoot, IsFirstLateAnswer}
use Rattle.racp_cpm.specs.Laws.{NoRootIsTooLong, NoRootIsNoSchedule}
use Rattle.racp_cpm.proofs.lemmas.LastEnds.{some_last_end}
use Rattle.racp_cpm.proofs.Paths.{critical_is}

-- there is one critical length
pub critical-unique : (p : Project) (release : ℕ → ℕ) (a b : ℕ) → IsCriticalLength p release a → IsCriticalLength p release b → a ≡ b
critical-unique p release a b h k = omega (arith, k.most h.some.0 h.some.1, h.some.2, h.most k.some.0 k.some.1, k.some.2)

-- the critical length is the greatest early finish
pub last_is : (p : Project) (release : ℕ → ℕ) (early : List ℕ) (critical : ℕ) → IsSound p → IsEarly p release early → IsCriticalLength p release critical → IsLastEnd p early critical
last_is p release early critical sound h c =
    let last = some_last_end p early sound in
    subst (IsLastEnd p early) (critical-unique p release last.0 critical (critical_is p release early last.0 sound h last.1) c) last.1

-- with one deadline, a late job shows that the critical length exceeds it
pub no_root-long : (p : Project) (release : ℕ → ℕ) (critical deadline : ℕ) → IsSound p → IsCriticalLength p release critical → HasNoRoot p release (λ _. deadline) → deadline < critical
no_root-long p release critical deadline sound c none =
    omega (arith, none.3.late, (last_is p release none.0 critical sound none.1 c).most none.2 none.3.job)

-- with one deadline, a root window shows that the critical length does not exceed it
pub root-not_long : (p : Project) (release : ℕ → ℕ) (critical deadline : ℕ) (root : Bounds) → IsSound p → IsCriticalLength p release critical → IsRootWindow p release (λ _. deadline) root → critical ≤ deadline
root-not_long p release critical deadline root sound c h =
    let last = last_is p release root.lower critical sound h.early c in
    omega (arith, h.ends last.some.0 last.some.1, last.some.2)

-- so there is none exactly where the critical length exceeds the deadline
pub no_root_exactly : NoRootIsTooLong
no_root_exactly p release critical deadline None sound c h = (λ e. no_root-long p release critical deadline sound c h, λ long. refl)
no_root_exactly p release critical deadline (Some root) sound c h = (λ e. cc, λ long. absurd (omega (arith, long, root-not_long p release critical deadline root sound c h)))

-- there is none exactly where no starts keep precedence and are in time: the early starts are at most any that do
pub no_schedule_exactly : NoRootIsNoSchedule
no_schedule_exactly p release due None h = (
  λ e starts keeps in_time. omega (arith, h.3.late, h.1.least starts in_time.released keeps h.2 h.3.job, in_time.ends h.2 h.3.job),
  λ none. refl,
)
no_schedule_exactly p release due (Some root) h = (λ e. cc, λ none. absurd (none root.lower h.early.precedence (record { released = h.early.above; ends = h.ends })))

-- an answer that names a late job names the first one
pub late_found : (p : Project) (due : ℕ → ℕ) (starts : List ℕ) (found : Option ℕ) → true ≡ is_some found → IsFirstLateAnswer p due starts found → (i : ℕ) × IsFirstLate p due starts i
late_found p due starts None some h = absurd (true≢false some)
late_found p due starts (Some job) some h = (h.0, h.2)

-- one that names none says that each ends in time
pub none_found : (p : Project) (due : ℕ → ℕ) (starts : List ℕ) (found : Option ℕ) → false ≡ is_some found → IsFirstLateAnswer p due starts found → EndsBy p due starts
none_found p due starts None none h = h
none_found p due starts (Some job) none h = absurd (true≢false (sym none))
