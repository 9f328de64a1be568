use Rattle.racp_reference.proofs.Carrying.{IsCarried}
use Rattle.racp_reference.proofs.boxes.next_in.Given as goal

abbrev pub invariant-loop-i : goal.invariant-loop-i
invariant-loop-i l = IsCarried l.lower l.upper l.fn.vector.items l.i l.vector.items
