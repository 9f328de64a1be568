use Rattle.racp_derivations.proofs.Splitting.{IsReadingOn}
use Rattle.racp_derivations.proofs.reading.read_lines.Given as goal

abbrev pub invariant-loop : goal.invariant-loop
invariant-loop g l = IsReadingOn l.given.net.now l.given.order.now l.fn.checking l.text l.checking l.rest l.counter
