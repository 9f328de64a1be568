use Rattle.std.proofs.Common.{◌≡◌, length}
use Rattle.racp_sm.specs.Steps.{stream_of}
use Rattle.racp_sm.proofs.stream.Stream.next_word.Given as goal

abbrev pub invariant-loop-word : goal.invariant-loop-word
invariant-loop-word l = l.fn.self ≡ stream_of l.self-inside.part l.self-inside.title l.self-inside.words l.self-inside.lines

abbrev pub decreases-loop-word : goal.decreases-loop-word
decreases-loop-word l = length l.self-inside.lines
