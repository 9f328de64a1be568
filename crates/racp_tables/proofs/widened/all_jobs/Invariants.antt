use Rattle.std.proofs.Common.{◌≡◌, ◌++◌, drop, map, string_bytes}
use Rattle.std.specs.List.{flat_map}
use Rattle.racp_tables.specs.Joined.{tasks_of, waits_of}
use Rattle.racp_tables.proofs.widened.all_jobs.Given as goal

abbrev pub invariant-loop-i : goal.invariant-loop-i
invariant-loop-i l = l.jobs.items ++ flat_map (tasks_of (map string_bytes l.all)) (drop l.i l.parts) ≡ flat_map (tasks_of (map string_bytes l.all)) l.parts

abbrev pub invariant-loop-k : goal.invariant-loop-k
invariant-loop-k l = l.jobs.items ++ flat_map (waits_of (map string_bytes l.all)) (drop l.k l.parts) ≡
    flat_map (tasks_of (map string_bytes l.all)) l.parts ++ flat_map (waits_of (map string_bytes l.all)) l.parts
