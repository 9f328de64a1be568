use Rattle.std.proofs.Common.{[], ◌∷◌, IfOk, inr, refl}
use Rattle.racp_cli.specs.CurveAnswers.{IsCurveCrowdAnswer}
use Rattle.racp_streams.specs.Streams.{Reader, AreInputs, ToTwo}
use Rattle.racp_cli.proofs.Responding.{answered_as, made_right, run_answered}
use Rattle.racp_cli.proofs.curve_crowd.curve_crowd_over.Goals as goal

pub returns : goal.returns
returns g c =
    let net = c.in_ok-net.net.items in
    let order = c.in_ok-order.order.items in
    let first : Reader = record { unread = g.N.Read.remaining c.args.net.now; left = g.N.Read.remaining c.read_whole.new.reader } in
    let second : Reader = record { unread = g.O.Read.remaining c.args.order.now; left = g.O.Read.remaining c.read_whole-2.new.reader } in
    let are : AreInputs (first ∷ (second ∷ [])) (net ∷ (order ∷ [])) = (c.in_ok-net.ensures, (c.in_ok-order.ensures, tt)) in
    let made : IfOk c.answer.result (λ answer. IsCurveCrowdAnswer c.args.crew.turns (g.P.Stop.is_quiet c.args.crew.stop.now) c.args.form net order answer.0 answer.1.items) = rw (← c.deref.ensures.value, ← c.deref-2.ensures.value) c.answer.ensures in
    run_answered (ToTwo (IsCurveCrowdAnswer c.args.crew.turns (g.P.Stop.is_quiet c.args.crew.stop.now) c.args.form)) (first ∷ (second ∷ [])) (net ∷ (order ∷ [])) _ _ c.respond.result are
    (answered_as _ (IsCurveCrowdAnswer c.args.crew.turns (g.P.Stop.is_quiet c.args.crew.stop.now) c.args.form net order) _ _ c.respond.result (made_right (IsCurveCrowdAnswer c.args.crew.turns (g.P.Stop.is_quiet c.args.crew.stop.now) c.args.form net order) c.answer.result made (inr (inr (inr (refl, refl))))) c.respond.ensures)
