use Rattle.std.proofs.Common.{◌≡◌, ℕ, ◌+◌, ◌<◌, IfSome, None, slice_index}
use Rattle.racp_model.specs.Project.{duration}
use Rattle.racp_whatif.specs.Fitting.{WorkFits}
use Rattle.racp_whatif.specs.Within.{IsOver}
use Rattle.racp_whatif.proofs.overload.tried_from.Given as goal

abbrev pub invariant-loop-j : goal.invariant-loop-j
invariant-loop-j l = record {
  over : IfSome l.found (IsOver l.net l.window l.k l.units);
  none : l.found ≡ None → l.fn.best ≡ None;
  core : l.found ≡ None → WorkFits l.net l.window l.k l.units (slice_index l.window.upper l.i) (slice_index l.window.upper l.i + 1);
  spans : l.found ≡ None → (j : ℕ) → j < l.j → WorkFits l.net l.window l.k l.units (slice_index l.window.lower l.i) (slice_index l.window.upper j + duration l.net j);
}
