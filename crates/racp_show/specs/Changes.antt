-- Contracts of private functions: when a usage may change next.
use Rattle.std.specs.Prelude.{ℕ, ◌+◌, ◌<◌, ◌≤◌, List, length, slice_index}
use Rattle.racp_model.specs.Project.{Project, duration}

-- no job starts or ends after `time` and before `next`, which is after it
pub record IsNextChange (p : Project) (starts : List ℕ) (time next : ℕ) : Type 0 where
  pub after : time < next
  pub begins : (i : ℕ) → i < length p.jobs → time < slice_index starts i → next ≤ slice_index starts i
  pub stops : (i : ℕ) → i < length p.jobs → time < slice_index starts i + duration p i →
      next ≤ slice_index starts i + duration p i
