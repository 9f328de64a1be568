use Rattle.std.proofs.Common.{◌∙◌, sym}
use Rattle.std.proofs.lemmas.Bool.{false≢true}
use Rattle.racp_by_questions.proofs.Choosing.{enough_bounds}
use Rattle.racp_by_questions.proofs.Telling.{first_floors}
use Rattle.racp_by_questions.proofs.bounds.first_ends.Goals as goal

pub returns-then-not-is_below : goal.returns-then-not-is_below
returns-then-not-is_below c = λ vector e.
    let bounds = enough_bounds c.args.task.now.net.now c.args.task.now.order.now c.args.task.now.root.now c.in_ok-floors.floors c.in_ok-roofs.roofs c.args.task.now.terms c.args.task.now.root_is c.in_ok-floors.ensures c.in_ok-roofs.ensures vector e in
    false≢true (sym c.if-not-is_below.true ∙ c.is_below.ensures.1 bounds)

pub returns : goal.returns
returns c = record {
  lowest = c.in_ok-floors.ensures;
  most = c.in_ok-roofs.ensures;
  bounds = c.is_below.ensures.0 c.if-not-is_below.false;
  least = first_floors c.args.task.now.net.now c.args.task.now.order.now c.args.task.now.root.now c.in_ok-floors.floors c.in_ok-roofs.roofs c.args.task.now.terms c.args.task.now.root_is c.in_ok-floors.ensures c.in_ok-roofs.ensures;
}
