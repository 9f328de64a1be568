use Rattle.std.proofs.Common.{◌≡◌, ◌++◌, drop, map, string_bytes}
use Rattle.racp_tables.specs.Names.{jobs_lines}
use Rattle.racp_tables.proofs.names.push_jobs.Given as goal

abbrev pub invariant-loop-i : goal.invariant-loop-i
invariant-loop-i l = string_bytes l.text ++ jobs_lines l.headings l.tasks l.i (map string_bytes (drop l.i l.jobs)) ≡ string_bytes l.initial.text ++ jobs_lines l.headings l.tasks 0 (map string_bytes l.jobs)
