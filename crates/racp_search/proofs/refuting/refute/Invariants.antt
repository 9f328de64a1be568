use Rattle.racp_search.proofs.Lines.{AreLines, stack_weight}
use Rattle.racp_search.proofs.refuting.refute.Given as goal

abbrev pub invariant-loop-window : goal.invariant-loop-window
invariant-loop-window l = AreLines l.net l.question.capacities l.question.window l.steps.items l.windows.items

abbrev pub decreases-loop-window : goal.decreases-loop-window
decreases-loop-window l = stack_weight l.net l.question.capacities l.question.window l.windows.items
