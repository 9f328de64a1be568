use Rattle.std.proofs.Common.{rules}
use Rattle.std.proofs.lemmas.List.{take_rest}
use Rattle.racp_streams.proofs.Writing.{writes_on}
use Rattle.racp_streams.proofs.streams.write_whole.Goals as goal

pub loop-rest-preserved : goal.loop-rest-preserved
loop-rest-preserved g c =
    writes_on _ _ _ _ c.loop-rest.rest.now _ c.in-Ok.count c.loop-rest.invariant c.in-Ok.ensures.bytes (search (rules, take_rest))
