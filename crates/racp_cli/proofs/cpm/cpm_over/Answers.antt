use Rattle.std.proofs.Common.{[], ◌∷◌, IfOk}
use Rattle.racp_cli.specs.Answers.{IsCpmAnswer}
use Rattle.racp_streams.specs.Streams.{Reader, AreInputs, ToOne}
use Rattle.racp_cli.proofs.Answering.{answers_memory}
use Rattle.racp_cli.proofs.Responding.{answered_as, made_right, run_answered}
use Rattle.racp_cli.proofs.cpm.cpm_over.Goals as goal

pub returns : goal.returns
returns g c =
    let input = c.in_ok-input.input.items in
    let reader : Reader = record { unread = g.R.Read.remaining c.args.net.now; left = g.R.Read.remaining c.read_whole.new.reader } in
    let are : AreInputs (reader ∷ []) (input ∷ []) = (c.in_ok-input.ensures, tt) in
    let made : IfOk c.answer.result (λ answer. IsCpmAnswer input answer.0 answer.1.items) = rw (← c.deref.ensures.value) c.answer.ensures in
    run_answered (ToOne IsCpmAnswer) (reader ∷ []) (input ∷ []) _ _ c.respond.result are
    (answered_as _ (IsCpmAnswer input) _ _ c.respond.result (made_right (IsCpmAnswer input) c.answer.result made (answers_memory input)) c.respond.ensures)
