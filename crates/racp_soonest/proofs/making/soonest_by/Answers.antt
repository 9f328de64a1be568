use Rattle.racp_soonest.proofs.Spans.{soonest_own}
use Rattle.racp_soonest.proofs.making.soonest_by.Goals as goal

pub returns-in-Plan : goal.returns-in-Plan
returns-in-Plan c = λ p terms none is. soonest_own p terms c.in-Plan.plan c.args.answer c.in-Plan.is none is
