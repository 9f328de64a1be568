use Rattle.std.proofs.Common.{string_bytes}
use Rattle.racp_show.specs.Labels.{IsWithinColumns}
use Rattle.racp_show.proofs.Cutting.{GoesOn}
use Rattle.racp_show.proofs.label.cut.Given as goal

abbrev pub invariant-loop-letter : goal.invariant-loop-letter
invariant-loop-letter l = IsWithinColumns l.most l.label × GoesOn l.most l.yielded (string_bytes l.label)
