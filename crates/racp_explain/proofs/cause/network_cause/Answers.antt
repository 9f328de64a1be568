use Rattle.std.proofs.Common.{subst, inl, inr}
use Rattle.std.proofs.lemmas.Result.{IfOk-weaker}
use Rattle.racp_sm.specs.Reading.{IsReadingOrMemory}
use Rattle.racp_explain.proofs.cause.network_cause.Goals as goal
use Rattle.racp_explain.proofs.cause.network_cause.Goals.{in-Ok, in-Err}

pub returns : goal.returns
returns c = elim c.match-read_sm.branch [
  | in-Ok w ↦ rw w.result-is (inr (w.in-Ok.field-0, subst (IsReadingOrMemory c.args.net.now.bytes.now) w.in-Ok.is c.read_sm.ensures, w.new.ensures.bytes))
  | in-Err w ↦
      rw w.result-is
      (IfOk-weaker w.of_network.result _ _ (λ text begins. inl (w.in-Err.fault, subst (IsReadingOrMemory c.args.net.now.bytes.now) w.in-Err.is c.read_sm.ensures, begins)) w.of_network.ensures)
]
