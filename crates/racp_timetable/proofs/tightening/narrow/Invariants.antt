use Rattle.racp_timetable.specs.Narrowing.{IsNarrowed}
use Rattle.racp_timetable.proofs.tightening.narrow.Given as goal

abbrev pub invariant-rounds : goal.invariant-rounds
invariant-rounds l = IsNarrowed l.net l.capacities l.from l.fn.window l.window
