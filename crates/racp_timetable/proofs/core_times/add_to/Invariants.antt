use Rattle.std.proofs.Common.{◌≡◌, ◌+◌, length, slice_index}
use Rattle.racp_model.specs.Project.{request}
use Rattle.racp_model.proofs.lemmas.Rows.{AreWritten}
use Rattle.racp_timetable.proofs.core_times.add_to.Given as goal

abbrev pub invariant-loop-k : goal.invariant-loop-k
invariant-loop-k l = record {
  written : AreWritten l.k (λ q. slice_index l.fn.loads q + request l.net l.i q) l.fn.loads l.loads;
  places : length l.loads ≡ 16;
}
