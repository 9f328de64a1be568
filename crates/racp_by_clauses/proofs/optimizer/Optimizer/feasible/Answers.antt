use Rattle.racp_by_clauses.proofs.Parts.{part_of}
use Rattle.racp_by_clauses.proofs.optimizer.Optimizer.feasible.Goals as goal

pub find_any-requires-clause-are_of : goal.find_any-requires-clause-are_of
find_any-requires-clause-are_of g c = record {
  of_whole = c.requires.whole;
  of_part = c.requires.part;
  is_part = part_of g.P.OfProblem.problem g.N.OfProblem.problem c.args.part.root.now c.args.whole.root.now c.requires.akin c.requires.part.root c.requires.whole.root
      (c.lies_within.ensures.0 c.if-not-lies_within.false);
}
