use Rattle.std.proofs.Common.{option_map}
use Rattle.racp_cli.specs.WhatIfAnswers.{IsWhatIfAnswer}
use Rattle.racp_cli.proofs.Responding.{answered_as, made_right}
use Rattle.racp_cli.proofs.Asking.{memory_right}
use Rattle.racp_cli.proofs.whatif.whatif_to.Goals as goal

pub returns : goal.returns
returns g c =
    let plan = option_map (λ plan. plan.now) c.args.texts.plan in
    answered_as _ (IsWhatIfAnswer c.args.crew.turns (g.P.Stop.is_quiet c.args.crew.stop.now) c.args.texts.is_json c.args.texts.net.now c.args.texts.order.now plan c.args.texts.names.now) _ _ c.respond.result
    (made_right (IsWhatIfAnswer c.args.crew.turns (g.P.Stop.is_quiet c.args.crew.stop.now) c.args.texts.is_json c.args.texts.net.now c.args.texts.order.now plan c.args.texts.names.now) c.answer.result c.answer.ensures
    (memory_right c.args.crew.turns (g.P.Stop.is_quiet c.args.crew.stop.now) c.args.texts.is_json c.args.texts.net.now c.args.texts.order.now plan c.args.texts.names.now)) c.respond.ensures
