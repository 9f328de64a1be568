use Rattle.racp_trees.proofs.Gathering.{IsCertifying}
use Rattle.racp_trees.proofs.certifying.push_blocks.Given as goal

abbrev pub invariant-loop : goal.invariant-loop
invariant-loop g l = IsCertifying l.given.claim.net.now l.given.root.now l.blocks.items l.text.items l.maker.reader
