use Rattle.std.proofs.Common.{[]}
use Rattle.racp_xml.specs.Nesting.{IsNested}
use Rattle.racp_xml.proofs.nesting.marks.Given as goal

abbrev pub invariant-loop-piece : goal.invariant-loop-piece
invariant-loop-piece l = IsNested [] l.read.found.items l.read.opened.items
