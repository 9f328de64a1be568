use Rattle.std.proofs.Common.{◌≡◌, ◌<◌, ℕ, slice_index_or}
use Rattle.racp_model.specs.Project.{no_job}
use Rattle.racp_tables.proofs.same.are_same_jobs.Given as goal

abbrev pub invariant-loop-i : goal.invariant-loop-i
invariant-loop-i l = (k : ℕ) → k < l.i → slice_index_or l.a.jobs k no_job ≡ slice_index_or l.b.jobs k no_job
