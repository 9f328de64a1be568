use Rattle.std.proofs.Common.{◌≡◌, ◌++◌, drop, string_bytes}
use Rattle.racp_whatif.specs.Lines.{each_job}
use Rattle.racp_whatif.proofs.needed.push_jobs.Given as goal

abbrev pub invariant-loop-place : goal.invariant-loop-place
invariant-loop-place l = string_bytes l.text ++ each_job l.called.names.now l.place (drop l.place l.jobs) ≡ string_bytes l.initial.text ++ each_job l.called.names.now 0 l.jobs
