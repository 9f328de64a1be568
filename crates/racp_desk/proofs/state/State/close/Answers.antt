use Rattle.std.proofs.Common.{◌≡◌, ◌∙◌, List, length, subst, sym, ap}
use Rattle.racp_core.specs.Replies.{IsOutcomeKnown}
use Rattle.racp_model.specs.declared.question.Question.{Question}
use Rattle.racp_questions.specs.FirstYes.{IsReached}
use Rattle.racp_desk.specs.declared.log.Entry.{Entry}
use Rattle.racp_desk.specs.Log.{tally, IsLegal}
use Rattle.racp_desk.specs.Closing.{Shows, told_of}
use Rattle.racp_desk.proofs.Closings.{shows_outcome, told_is}
use Rattle.racp_desk.proofs.state.State.close.Goals as goal

pub returns-clause-closed : goal.returns-clause-closed
returns-clause-closed g c =
    let i = c.self.inside in
    let parts = c.into_parts-log.ensures in
    let answer = c.into_answer-outcome.ensures in
    let out = c.into_answer-outcome.result in
    let log = c.into_parts-log.result.0.items in
    let same : log ≡ i.book.entries = parts.entries in
    record {
      known = subst (λ (qs : List Question). IsOutcomeKnown g.N.OfNetwork.network qs out.0) c.self.invariant.1.series_is answer.known;
      told = subst (λ (es : List Entry). out.1 ≡ told_of g.M.RunNames.series (length (tally es).ready) out.0) (sym same) (answer.capacities ∙ told_is (tally i.book.entries) i.core g.M.RunNames.series out.0 c.self.invariant.1.counts c.self.invariant.1.series_is);
      reached = subst (λ (qs : List Question). IsReached g.N.OfNetwork.network qs out.1) c.self.invariant.1.series_is answer.reached;
      legal = subst (λ (es : List Entry). IsLegal g.M.Rules.turns g.M.Rules.quiet es) (sym same) parts.legal;
      shows = subst (λ (es : List Entry). Shows (tally es) out.0) (sym same) (shows_outcome (tally i.book.entries) i.core out.0 c.self.invariant.1.counts answer.answer);
      pieces = parts.pieces ∙ ap (λ (es : List Entry). length (tally es).taken) (sym same);
      nodes = parts.nodes ∙ ap (λ (es : List Entry). (tally es).nodes) (sym same);
      nodes_few = parts.few;
    }
