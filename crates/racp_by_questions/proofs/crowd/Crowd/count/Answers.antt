use Rattle.std.proofs.Common.{arith}
use Rattle.racp_by_questions.proofs.crowd.Crowd.count.Goals as goal

pub returns-clause-left : goal.returns-clause-left
returns-clause-left g c = omega (arith, c.requires.pieces)

pub invariant_of-self : goal.invariant_of-self
invariant_of-self g c =
    let crowd = c.args.self.now in
    record {
      workers_some = crowd.workers_some;
      workers_few = crowd.workers_few;
      turns_few = crowd.turns_few;
      counted = omega (arith, crowd.counted, c.requires.pieces);
      taken = c.requires.taken;
      nodes_few = omega (arith, crowd.nodes_few, c.requires.nodes);
      ahead_formed = crowd.ahead_formed;
    }
