use Rattle.racp_sm.proofs.Naming.{IsNaming}
use Rattle.racp_sm.proofs.cut.after_words.Given as goal

abbrev pub invariant-loop-name : goal.invariant-loop-name
invariant-loop-name l = IsNaming l.names l.name-index l.bytes l.rest
