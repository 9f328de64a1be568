use Rattle.racp_model.proofs.lemmas.Zeros.{zeros_front}
use Rattle.racp_model.proofs.topology.topological.Goals as goal

pub ordered-requires-clause-clear : goal.ordered-requires-clause-clear
ordered-requires-clause-clear c = λ i. zeros_front c.args.count 512 i c.requires.most
