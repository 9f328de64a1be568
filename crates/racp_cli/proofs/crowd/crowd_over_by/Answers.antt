use Rattle.std.proofs.Common.{[], ◌∷◌, inl, Ok, Err}
use Rattle.std.proofs.lemmas.Result.{err_from_is_err_and}
use Rattle.racp_lexfix.specs.Printing.{IsCrowdPrinting}
use Rattle.racp_cli.specs.Crowds.{IsCrowdAnswer}
use Rattle.racp_streams.specs.Streams.{Reader, AreInputs, ToTwo}
use Rattle.racp_cli.proofs.Planning.{plan_memory}
use Rattle.racp_cli.proofs.Responding.{answered_as, made_right, run_answered}
use Rattle.racp_cli.proofs.crowd.crowd_over_by.Goals as goal

pub returns-in_err-status-clause-run : goal.returns-in_err-status-clause-run
returns-in_err-status-clause-run g c =
    let net = c.in_ok-net.net.items in
    let order = c.in_ok-order.order.items in
    let first : Reader = record { unread = g.N.Read.remaining c.args.net.now; left = g.N.Read.remaining c.read_whole.new.reader } in
    let second : Reader = record { unread = g.O.Read.remaining c.args.order.now; left = g.O.Read.remaining c.read_whole-2.new.reader } in
    let are : AreInputs (first ∷ (second ∷ [])) (net ∷ (order ∷ [])) = (c.in_ok-net.ensures, (c.in_ok-order.ensures, tt)) in
    let turns = c.args.crew.turns in
    let quiet = g.P.Stop.is_quiet c.args.crew.stop.now in
    let planned : IsCrowdPrinting turns quiet net order c.plan_crowd_by-planned.result = rw (← c.deref.ensures.value, ← c.deref-2.ensures.value) c.plan_crowd_by-planned.ensures in
    let p = err_from_is_err_and c.from_residual-in_err-status.result c.from_residual-in_err-status.ensures.1 in
    rw (p.1, p.2)
    (run_answered (ToTwo (IsCrowdAnswer turns quiet)) (first ∷ (second ∷ [])) (net ∷ (order ∷ [])) _ _ (Err c.in_err-status.field-0.0) are
    (answered_as _ (IsCrowdAnswer turns quiet net order) _ _ (Err c.in_err-status.field-0.0)
    (made_right (IsCrowdAnswer turns quiet net order) c.answer-answer.result.0 (c.answer-answer.ensures.right turns quiet net order planned) (inl (plan_memory net order))) c.in_err-status.ensures))

pub returns-clause-run : goal.returns-clause-run
returns-clause-run g c =
    let net = c.in_ok-net.net.items in
    let order = c.in_ok-order.order.items in
    let first : Reader = record { unread = g.N.Read.remaining c.args.net.now; left = g.N.Read.remaining c.read_whole.new.reader } in
    let second : Reader = record { unread = g.O.Read.remaining c.args.order.now; left = g.O.Read.remaining c.read_whole-2.new.reader } in
    let are : AreInputs (first ∷ (second ∷ [])) (net ∷ (order ∷ [])) = (c.in_ok-net.ensures, (c.in_ok-order.ensures, tt)) in
    let turns = c.args.crew.turns in
    let quiet = g.P.Stop.is_quiet c.args.crew.stop.now in
    let planned : IsCrowdPrinting turns quiet net order c.plan_crowd_by-planned.result = rw (← c.deref.ensures.value, ← c.deref-2.ensures.value) c.plan_crowd_by-planned.ensures in
    run_answered (ToTwo (IsCrowdAnswer turns quiet)) (first ∷ (second ∷ [])) (net ∷ (order ∷ [])) _ _ (Ok c.in_ok-status.status) are
    (answered_as _ (IsCrowdAnswer turns quiet net order) _ _ (Ok c.in_ok-status.status)
    (made_right (IsCrowdAnswer turns quiet net order) c.answer-answer.result.0 (c.answer-answer.ensures.right turns quiet net order planned) (inl (plan_memory net order))) c.in_ok-status.ensures)

pub returns-clause-effort : goal.returns-clause-effort
returns-clause-effort g c =
    let net = c.in_ok-net.net.items in
    let order = c.in_ok-order.order.items in
    let turns = c.args.crew.turns in
    let quiet = g.P.Stop.is_quiet c.args.crew.stop.now in
    let planned : IsCrowdPrinting turns quiet net order c.plan_crowd_by-planned.result = rw (← c.deref.ensures.value, ← c.deref-2.ensures.value) c.plan_crowd_by-planned.ensures in
    c.answer-answer.ensures.effort turns quiet net order c.in_ok-status.ensures.0 c.in_ok-status.status planned c.in_ok-status.ensures.1
