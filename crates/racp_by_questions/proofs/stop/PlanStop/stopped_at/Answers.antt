use Rattle.std.proofs.Common.{◌≡◌, ◌∙◌, List, ℕ, Option, Some, ap, sym}
use Rattle.racp_questions.specs.declared.asker.AskStop.{AskStop}
use Rattle.racp_questions.specs.declared.asker.AskStop.TheVariants.{Stopped}
use Rattle.racp_by_questions.specs.Stops.{stopped_at}
use Rattle.racp_by_questions.proofs.stop.PlanStop.stopped_at.Goals as goal

pub returns-in-Stopped-Some : goal.returns-in-Stopped-Some
returns-in-Stopped-Some c =
    let is : c.args.stop ≡ Stopped (Some c.in-Stopped-Some.not_before) = c.in-Stopped-Some.is ∙ ap (λ (o : Option (List ℕ)). Stopped o) c.in-Stopped-Some.reached-is in
    ap (λ (stop : AskStop). stopped_at stop c.args.floors) (sym is)
