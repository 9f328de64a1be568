use Rattle.std.proofs.Common.{inl, inr}
use Rattle.std.proofs.lemmas.Result.{IfOk-weaker}
use Rattle.racp.proofs.commands.of_plan.Goals as goal

pub returns : goal.returns
returns g = IfOk-weaker g.args.ended _ _ (λ status of. inr (inl of)) g.requires
