use Rattle.std.proofs.Common.{◌≡◌, IfSome, None}
use Rattle.racp_whatif.specs.Fitting.{AllWorkFits}
use Rattle.racp_whatif.specs.Within.{IsOver}
use Rattle.racp_whatif.proofs.overload.overload.Given as goal

abbrev pub invariant-loop-i : goal.invariant-loop-i
invariant-loop-i l = record {
  over : IfSome l.best (IsOver l.net l.window l.k l.units);
  none : l.best ≡ None → AllWorkFits l.net l.window l.k l.units l.i;
}
