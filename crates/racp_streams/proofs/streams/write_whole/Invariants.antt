use Rattle.std.proofs.Common.{length}
use Rattle.racp_streams.proofs.Writing.{IsWriting}
use Rattle.racp_streams.proofs.streams.write_whole.Given as goal

abbrev pub invariant-loop-rest : goal.invariant-loop-rest
invariant-loop-rest g l = IsWriting (g.W.Write.contents l.initial.writer) (g.W.Write.contents l.writer) l.text l.rest

abbrev pub decreases-loop-rest : goal.decreases-loop-rest
decreases-loop-rest g l = length l.rest
