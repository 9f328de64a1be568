use Rattle.racp_model.specs.Window.{Answers}
use Rattle.racp_reference.proofs.Counts.{left}
use Rattle.racp_reference.proofs.Searching.{IsReached}
use Rattle.racp_reference.proofs.answers.first_answer.Given as goal

abbrev pub invariant-starts : goal.invariant-starts
invariant-starts l = IsReached l.window.lower l.window.upper (Answers l.net l.capacities l.window) l.starts

abbrev pub decreases-starts : goal.decreases-starts
decreases-starts l = left l.window.lower l.window.upper l.starts
