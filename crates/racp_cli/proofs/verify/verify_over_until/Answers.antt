use Rattle.std.proofs.Common.{Err, [], ◌∷◌, IfOk, inl, refl}
use Rattle.racp_cli.specs.Verifies.{IsVerifyAnswerUntil}
use Rattle.racp_streams.specs.Streams.{Reader, AreInputs, ToThree}
use Rattle.racp_cli.specs.Texts.{memory_line}
use Rattle.racp_cli.specs.declared.check_fault.CheckFault.TheVariants.{OutOfMemory}
use Rattle.racp_cli.proofs.Responding.{answered_as, made_right, run_answered}
use Rattle.racp_cli.proofs.verify.verify_over_until.Goals as goal

pub returns : goal.returns
returns g c =
    let net = c.in_ok-net.net.items in
    let order = c.in_ok-order.order.items in
    let plan = c.in_ok-plan.plan.items in
    let quiet = g.S.Stop.is_quiet c.args.certificate.stop.now in
    let proof = c.args.certificate.text.now in
    let first : Reader = record { unread = g.N.Read.remaining c.args.net.now; left = g.N.Read.remaining c.read_whole.new.reader } in
    let second : Reader = record { unread = g.O.Read.remaining c.args.order.now; left = g.O.Read.remaining c.read_whole-2.new.reader } in
    let third : Reader = record { unread = g.P.Read.remaining c.args.plan.now; left = g.P.Read.remaining c.read_whole-3.new.reader } in
    let are : AreInputs (first ∷ (second ∷ (third ∷ []))) (net ∷ (order ∷ (plan ∷ []))) = (c.in_ok-net.ensures, (c.in_ok-order.ensures, (c.in_ok-plan.ensures, tt))) in
    let made : IfOk c.answer.result (λ answer. IsVerifyAnswerUntil quiet net order plan proof answer.0 answer.1.items) =
    rw (← c.deref.ensures.value, ← c.deref-2.ensures.value, ← c.deref-3.ensures.value) c.answer.ensures in
    let memory : IsVerifyAnswerUntil quiet net order plan proof 6 memory_line = inl (record { answer = Err OutOfMemory; right = tt; with_status = refl; with_text = refl }) in
    run_answered (ToThree (λ first second third. IsVerifyAnswerUntil quiet first second third proof)) (first ∷ (second ∷ (third ∷ []))) (net ∷ (order ∷ (plan ∷ []))) _ _ c.respond.result are
    (answered_as _ (IsVerifyAnswerUntil quiet net order plan proof) _ _ c.respond.result (made_right (IsVerifyAnswerUntil quiet net order plan proof) c.answer.result made memory) c.respond.ensures)
