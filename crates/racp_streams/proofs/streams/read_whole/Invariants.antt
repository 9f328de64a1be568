use Rattle.std.proofs.Common.{◌+◌, ◌-◌, vec_len}
use Rattle.racp_streams.proofs.Inputs.{IsReadSoFar}
use Rattle.racp_streams.specs.Streams.{input_limit}
use Rattle.racp_streams.proofs.streams.read_whole.Given as goal

abbrev pub invariant-loop-buffer : goal.invariant-loop-buffer
invariant-loop-buffer g l = IsReadSoFar (g.R.Read.remaining l.initial.reader) (g.R.Read.remaining l.reader) l.input.items

abbrev pub decreases-loop-buffer : goal.decreases-loop-buffer
decreases-loop-buffer g l = input_limit + 1 - vec_len l.input
