use Rattle.std.proofs.Common.{◌≡◌, ℕ, true, Err, [], ◌∷◌, Option, List, IfOk, inl, inr, refl, sym, subst, rules}
use Rattle.std.specs.Prelude.{Result}
use Rattle.std.proofs.lemmas.Result.{IfOk-weaker}
use Rattle.std.specs.Io.KnownBytes.{Keeps}
use Rattle.racp_cli.specs.Verifies.{IsVerifyAnswer, IsVerifyAnswerUntil}
use Rattle.racp_streams.specs.Streams.{Reader, AreInputs, IsStopped, ToFour}
use Rattle.racp_cli.specs.Runs.{IsVerifyRun}
use Rattle.racp_cli.specs.Texts.{memory_line}
use Rattle.racp_streams.specs.declared.fault.StreamFault.{StreamFault}
use Rattle.racp_cli.specs.declared.check_fault.CheckFault.TheVariants.{OutOfMemory}
use Rattle.racp_cli.proofs.Verifying.{never_stopped}
use Rattle.racp_cli.proofs.Responding.{answered_as, made_right, run_answered, run_stopped}
use Rattle.racp_cli.proofs.verify.verify_over.Goals as goal

pub returns : goal.returns
returns g c =
    let net = c.in_ok-net.net.items in
    let order = c.in_ok-order.order.items in
    let plan = c.in_ok-plan.plan.items in
    let first : Reader = record { unread = g.N.Read.remaining c.args.net.now; left = g.N.Read.remaining c.read_whole.new.reader } in
    let second : Reader = record { unread = g.O.Read.remaining c.args.order.now; left = g.O.Read.remaining c.read_whole-2.new.reader } in
    let proof = c.in_ok-proof.proof.items in
    let third : Reader = record { unread = g.P.Read.remaining c.args.plan.now; left = g.P.Read.remaining c.read_whole-3.new.reader } in
    let fourth : Reader = record { unread = g.C.Read.remaining c.args.proof.now; left = g.C.Read.remaining c.read_whole-4.new.reader } in
    let are : AreInputs (first ∷ (second ∷ (third ∷ (fourth ∷ [])))) (net ∷ (order ∷ (plan ∷ (proof ∷ [])))) = (c.in_ok-net.ensures, (c.in_ok-order.ensures, (c.in_ok-plan.ensures, (c.in_ok-proof.ensures, tt)))) in
    let until : IfOk c.answer.result (λ answer. IsVerifyAnswerUntil true net order plan proof answer.0 answer.1.items) =
    rw (← c.deref.ensures.value, ← c.deref-2.ensures.value, ← c.deref-3.ensures.value, ← c.deref-4.ensures.value) c.answer.ensures in
    let made : IfOk c.answer.result (λ answer. IsVerifyAnswer net order plan proof answer.0 answer.1.items) =
    IfOk-weaker c.answer.result _ _ (λ answer. never_stopped net order plan proof answer.0 answer.1.items) until in
    let memory : IsVerifyAnswer net order plan proof 6 memory_line = record { answer = Err OutOfMemory; right = tt; with_status = refl; with_text = refl } in
    run_answered (ToFour IsVerifyAnswer) (first ∷ (second ∷ (third ∷ (fourth ∷ [])))) (net ∷ (order ∷ (plan ∷ (proof ∷ [])))) _ _ c.respond.result are
    (answered_as _ (IsVerifyAnswer net order plan proof) _ _ c.respond.result (made_right (IsVerifyAnswer net order plan proof) c.answer.result made memory) c.respond.ensures)

pub returns-in_err-proof : goal.returns-in_err-proof
returns-in_err-proof g c =
    let first : Reader = record { unread = g.N.Read.remaining c.args.net.now; left = g.N.Read.remaining c.read_whole.new.reader } in
    let second : Reader = record { unread = g.O.Read.remaining c.args.order.now; left = g.O.Read.remaining c.read_whole-2.new.reader } in
    let third : Reader = record { unread = g.P.Read.remaining c.args.plan.now; left = g.P.Read.remaining c.read_whole-3.new.reader } in
    let fourth : Reader = record { unread = g.C.Read.remaining c.args.proof.now; left = g.C.Read.remaining c.read_whole-4.new.reader } in
    let out : Option (List ℕ) = g.W.Write.contents c.args.out.now in
    let fault : StreamFault = c.in_err-proof.field-0.0 in
    let stopped : IsStopped (first ∷ (second ∷ (third ∷ (fourth ∷ [])))) fault =
    inr (c.in_ok-net.net.items, c.in_ok-net.ensures, inr (c.in_ok-order.order.items, c.in_ok-order.ensures, inr (c.in_ok-plan.plan.items, c.in_ok-plan.ensures, inl (c.in_err-proof.ensures, tt)))) in
    let keeps : Keeps out out = search rules in
    let is : c.from_residual-in_err-proof.result ≡ Err fault = search rules in
    subst (λ (r : Result ℕ StreamFault). IsVerifyRun first second third fourth out out r) (sym is)
    (run_stopped (ToFour IsVerifyAnswer) (first ∷ (second ∷ (third ∷ (fourth ∷ [])))) out out fault fourth.unread fourth.left c.in_err-proof.ensures stopped keeps)
