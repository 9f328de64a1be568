use Rattle.racp_cutset.proofs.Built.{covering_refutes}
use Rattle.racp_cutset.proofs.nogood.Nogood.covers.Goals as goal

pub returns-clause-refutes : goal.returns-clause-refutes
returns-clause-refutes g c = λ e. covering_refutes g.N.OfNetwork.network c.args.self.now c.args.node.now c.is_over.ensures.sound c.is_over.ensures.own c.is_over.ensures.node (c.is_over.ensures.exact.0 e) c.is_over.ensures.refuted.refuted
