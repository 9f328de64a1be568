use Rattle.std.proofs.Common.{subst, sym}
use Rattle.racp_trees.specs.Records.{AreNamed}
use Rattle.racp_trees.specs.declared.closed.Closed.{Closed}
use Rattle.racp_trees.proofs.Vectors.{no_first_line, blocks_answered}
use Rattle.racp_trees.proofs.blocks.block_vectors_until.Goals as goal

pub returns-in_default-clause-vectors : goal.returns-in_default-clause-vectors
returns-in_default-clause-vectors g c = no_first_line c.args.net.now c.args.root.now c.args.text.now c.in_default.ensures

pub read_blocks-requires-clause-between : goal.read_blocks-requires-clause-between
read_blocks-requires-clause-between g c =
    let named : AreNamed c.in-Some.rest.now c.in_ok-reader.reader.closed = subst (λ (closed : Closed). AreNamed c.in-Some.rest.now closed) (sym c.in_ok-reader.ensures.closed) c.in_ok-for_text.ensures in
    record { rows = λ number kept e. absurd (named.empty number kept e); none_open = c.in_ok-reader.ensures.branches }

pub read_blocks-requires-clause-places : goal.read_blocks-requires-clause-places
read_blocks-requires-clause-places g c =
    let named : AreNamed c.in-Some.rest.now c.in_ok-reader.reader.closed = subst (λ (closed : Closed). AreNamed c.in-Some.rest.now closed) (sym c.in_ok-reader.ensures.closed) c.in_ok-for_text.ensures in
    named.named

pub returns-clause-vectors : goal.returns-clause-vectors
returns-clause-vectors g c =
    blocks_answered c.args.net.now c.args.root.now c.args.text.now c.in-Some.rest.now c.in_ok-reader.reader c.read_blocks.result c.in-Some.ensures c.in_ok-reader.ensures.branches c.in_ok-reader.ensures.number
    (subst (λ (closed : Closed). AreNamed c.in-Some.rest.now closed) (sym c.in_ok-reader.ensures.closed) c.in_ok-for_text.ensures) c.read_blocks.ensures.blocks
