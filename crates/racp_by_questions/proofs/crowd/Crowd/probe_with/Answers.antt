use Rattle.std.proofs.Common.{◌≡◌, ◌⊎◌, ◌∙◌, false, IfOk, IfErr, Result, List, refl, subst, sym}
use Rattle.std.specs.Prelude.{◌↔◌, ⊤, IsTrue, option_map}
use Rattle.std.specs.VecDeque.{deque_items}
use Rattle.racp_model.specs.Formed.{AreFormed}
use Rattle.racp_candidates.specs.AnySeries.{any_questions}
use Rattle.racp_questions.specs.FirstYes.{IsProbed, IsProbeStop}
use Rattle.racp_questions.specs.declared.asker.Probe.{Probe}
use Rattle.racp_questions.specs.declared.asker.AskStop.{AskStop}
use Rattle.racp_desk.specs.declared.log.Entry.{Entry}
use Rattle.racp_by_questions.specs.Crowds.{IsOver, behind}
use Rattle.racp_by_questions.proofs.Asking.{formed_with, probe_right, probe_stop_right}
use Rattle.racp_by_questions.proofs.crowd.Crowd.probe_with.Goals as goal

pub returns-clause-probed : goal.returns-clause-probed
returns-clause-probed g c =
    let over : IsTrue c.is_over-is_over.result ↔ IsOver c.args.most c.closed.new.self.left c.in_ok-closed.closed.log.items =
    subst (λ (log : List Entry). IsTrue c.is_over-is_over.result ↔ IsOver c.args.most c.closed.new.self.left log) c.deref.ensures.value c.is_over-is_over.ensures in
    subst (λ (r : Result Probe AskStop). IfOk r (IsProbed g.N.OfNetwork.network c.args.question c.args.most)) (sym c.probe_of.ensures)
    (probe_right g.N.OfNetwork.network g.N.OfNetwork.network c.args.question (behind (option_map deque_items c.args.ahead)) (any_questions c.in_ok-series.series) c.args.most c.turns_for-turns.result c.closed.new.self.left g.M.OfTurns.quiet c.in_ok-closed.closed c.is_over-is_over.result refl
    c.in_ok-series.ensures c.in_ok-closed.ensures.closed over)

pub returns-clause-stop : goal.returns-clause-stop
returns-clause-stop g c =
    let over : IsTrue c.is_over-is_over.result ↔ IsOver c.args.most c.closed.new.self.left c.in_ok-closed.closed.log.items =
    subst (λ (log : List Entry). IsTrue c.is_over-is_over.result ↔ IsOver c.args.most c.closed.new.self.left log) c.deref.ensures.value c.is_over-is_over.ensures in
    let may_stop = (c.closed.new.self.left ≡ 0) ⊎ (g.M.OfTurns.quiet ≡ false) in
    subst (λ (r : Result Probe AskStop). IfErr r (IsProbeStop c.closed.new.self.told may_stop ⊤)) (sym c.probe_of.ensures)
    (probe_stop_right g.N.OfNetwork.network (any_questions c.in_ok-series.series) c.args.most c.turns_for-turns.result c.args.self.now.left c.closed.new.self.left g.M.OfTurns.quiet c.in_ok-closed.closed c.is_over-is_over.result
    c.closed.new.self.told c.in_ok-closed.ensures.closed c.in_ok-closed.ensures.left c.turns_for-turns.ensures.all over (c.in_ok-closed.ensures.told ∙ c.requires.untold))

pub closed-requires-clause-formed : goal.closed-requires-clause-formed
closed-requires-clause-formed g c = subst (AreFormed g.N.OfNetwork.network) (sym c.in_ok-series.ensures)
    (formed_with g.N.OfNetwork.network c.args.question c.args.ahead deque_items c.requires.formed c.requires.ahead)
