use Rattle.std.proofs.Common.{Err, [], ◌∷◌, IfOk, inr, refl}
use Rattle.racp_cli.specs.ExportAnswers.{IsExportAnswer}
use Rattle.racp_streams.specs.Streams.{Reader, AreInputs, ToThree}
use Rattle.racp_cli.specs.Texts.{memory_line}
use Rattle.racp_cli.specs.declared.check_fault.CheckFault.TheVariants.{OutOfMemory}
use Rattle.racp_cli.proofs.Responding.{answered_as, made_right, run_answered}
use Rattle.racp_cli.proofs.export.export_over.Goals as goal

pub returns : goal.returns
returns g c =
    let net = c.in_ok-net.net.items in
    let order = c.in_ok-order.order.items in
    let plan = c.in_ok-plan.plan.items in
    let first : Reader = record { unread = g.N.Read.remaining c.args.net.now; left = g.N.Read.remaining c.read_whole.new.reader } in
    let second : Reader = record { unread = g.O.Read.remaining c.args.order.now; left = g.O.Read.remaining c.read_whole-2.new.reader } in
    let third : Reader = record { unread = g.P.Read.remaining c.args.plan.now; left = g.P.Read.remaining c.read_whole-3.new.reader } in
    let are : AreInputs (first ∷ (second ∷ (third ∷ []))) (net ∷ (order ∷ (plan ∷ []))) = (c.in_ok-net.ensures, (c.in_ok-order.ensures, (c.in_ok-plan.ensures, tt))) in
    let made : IfOk c.answer.result (λ answer. IsExportAnswer c.args.target net order plan answer.0 answer.1.items) =
    rw (← c.deref.ensures.value, ← c.deref-2.ensures.value, ← c.deref-3.ensures.value) c.answer.ensures in
    let memory : IsExportAnswer c.args.target net order plan 6 memory_line = inr (record { fault = OutOfMemory; right = tt; with_status = refl; with_text = refl }) in
    run_answered (ToThree (IsExportAnswer c.args.target)) (first ∷ (second ∷ (third ∷ []))) (net ∷ (order ∷ (plan ∷ []))) _ _ c.respond.result are
    (answered_as _ (IsExportAnswer c.args.target net order plan) _ _ c.respond.result (made_right (IsExportAnswer c.args.target net order plan) c.answer.result made memory) c.respond.ensures)
