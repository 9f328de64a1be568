use Rattle.std.proofs.Common.{[], ◌∷◌, IfOk, inr, refl}
use Rattle.racp_cli.specs.OrderAnswers.{IsOrderAnswer}
use Rattle.racp_streams.specs.Streams.{Reader, AreInputs, ToOne}
use Rattle.racp_cli.proofs.Responding.{answered_as, made_right, run_answered}
use Rattle.racp_cli.proofs.order.order_over.Goals as goal

pub returns : goal.returns
returns g c =
    let input = c.in_ok-net.net.items in
    let reader : Reader = record { unread = g.N.Read.remaining c.args.net.now; left = g.N.Read.remaining c.read_whole.new.reader } in
    let are : AreInputs (reader ∷ []) (input ∷ []) = (c.in_ok-net.ensures, tt) in
    let made : IfOk c.answer.result (λ answer. IsOrderAnswer c.args.asked input answer.0 answer.1.items) = rw (← c.deref.ensures.value) c.answer.ensures in
    run_answered (ToOne (IsOrderAnswer c.args.asked)) (reader ∷ []) (input ∷ []) _ _ c.respond.result are
    (answered_as _ (IsOrderAnswer c.args.asked input) _ _ c.respond.result (made_right (IsOrderAnswer c.args.asked input) c.answer.result made (inr (inr (refl, refl)))) c.respond.ensures)
