use Rattle.std.proofs.Common.{[], ◌∷◌, IfOk, inr, refl}
use Rattle.racp_cli.specs.VerifyBounds.{IsBoundAnswer}
use Rattle.racp_streams.specs.Streams.{Reader, AreInputs, ToThree}
use Rattle.racp_cli.proofs.Responding.{answered_as, made_right, run_answered}
use Rattle.racp_cli.proofs.verify_bound.verify_bound_over.Goals as goal

pub returns : goal.returns
returns g c =
    let net = c.in_ok-net.net.items in
    let order = c.in_ok-order.order.items in
    let proof = c.in_ok-proof.proof.items in
    let quiet = g.S.Stop.is_quiet c.args.stop.now in
    let first : Reader = record { unread = g.N.Read.remaining c.args.net.now; left = g.N.Read.remaining c.read_whole.new.reader } in
    let second : Reader = record { unread = g.O.Read.remaining c.args.order.now; left = g.O.Read.remaining c.read_whole-2.new.reader } in
    let third : Reader = record { unread = g.C.Read.remaining c.args.proof.now; left = g.C.Read.remaining c.read_whole-3.new.reader } in
    let are : AreInputs (first ∷ (second ∷ (third ∷ []))) (net ∷ (order ∷ (proof ∷ []))) = (c.in_ok-net.ensures, (c.in_ok-order.ensures, (c.in_ok-proof.ensures, tt))) in
    let made : IfOk c.answer.result (λ answer. IsBoundAnswer quiet net order proof answer.0 answer.1.items) =
    rw (← c.deref.ensures.value, ← c.deref-2.ensures.value, ← c.deref-3.ensures.value) c.answer.ensures in
    run_answered (ToThree (IsBoundAnswer quiet)) (first ∷ (second ∷ (third ∷ []))) (net ∷ (order ∷ (proof ∷ []))) _ _ c.respond.result are
    (answered_as _ (IsBoundAnswer quiet net order proof) _ _ c.respond.result (made_right (IsBoundAnswer quiet net order proof) c.answer.result made (inr (inr (inr (refl, refl))))) c.respond.ensures)
