-- What is said of the jobs of a plan: how much room they have, and what comes before them.
use Rattle.std.specs.Prelude.{◌≡◌, ℕ, ◌==◌, List, slice_index, option_map, flat_map, map, nat_le, [], ◌∷◌, if◌then◌else◌}
use Rattle.racp_model.specs.Project.{Project, number, place, duration}
use Rattle.racp_model.specs.Path.{IsEarly, IsLate, IsCriticalLength}
use Rattle.racp_model.specs.Terms.{Terms, due_of, release_of}
use Rattle.racp_show.specs.Called.{name_at}
use Rattle.racp_show.specs.declared.latest.Room.{Room}
use Rattle.racp_show.specs.declared.predecessor.Predecessor.{Predecessor}
use Rattle.racp_show.specs.declared.task.Task.{Task}

-- late starts by the critical length
pub record IsLateByCritical (p : Project) (terms : Terms) (late : List ℕ) : Type 0 where
  pub critical : ℕ
  pub length : IsCriticalLength p (release_of terms) critical
  pub is_late : IsLate p (λ _. critical) late

-- how much room the jobs have: the late starts by the due times and the deadline, the early starts, and the late starts
-- by the critical length
pub record IsRoom (p : Project) (terms : Terms) (room : Room) : Type 0 where
  pub latest : IsLate p (due_of terms) room.latest
  pub early : IsEarly p (release_of terms) room.early
  pub late : IsLateByCritical p terms room.late

-- the numbers of the jobs that come right before the job at place i, in the pairs of a network
abbrev pub precedent : ℕ → ℕ × ℕ → List ℕ
precedent i arc = if arc.1 == number i then arc.0 ∷ [] else []

abbrev pub precedents : ℕ → List (ℕ × ℕ) → List ℕ
precedents i arcs = flat_map (precedent i) arcs

-- what a task waits for, where the first so many jobs are tasks, by a job right before it: for a task that itself, and for a
-- job that waits each of those right before that, with its duration as a lag
abbrev pub lagging : ℕ → ℕ → Predecessor
lagging lag job = record { job = job; lag = lag }

abbrev pub awaited : Project → ℕ → ℕ → List Predecessor
awaited p tasks job =
    if nat_le job tasks then lagging 0 job ∷ []
    else map (lagging (duration p (place job))) (precedents (place job) p.arcs)

-- what the job at place i waits for
abbrev pub predecessors : Project → ℕ → ℕ → List Predecessor
predecessors p tasks i = flat_map (awaited p tasks) (precedents i p.arcs)

-- what is said of the job at place i, where the first so many jobs are tasks. It is on the critical chain exactly if its
-- early start is its late start by the critical length
pub record IsTask (p : Project) (starts : List ℕ) (room : Room) (names : List (List ℕ)) (tasks i : ℕ) (task : Task) :
    Type 0 where
  pub numbered : task.job ≡ number i
  pub called : option_map (λ name. name.now) task.name ≡ name_at names i
  pub runs : task.duration ≡ duration p i
  pub begins : task.start ≡ slice_index starts i
  pub latest_is : task.latest ≡ slice_index room.latest i
  pub critical_is : task.is_critical ≡ (slice_index room.early i == slice_index room.late i)
  pub after : task.predecessors.items ≡ predecessors p tasks i
