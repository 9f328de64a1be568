use Rattle.std.proofs.Common.{rules, ◌≡◌, ◌∙◌, ℕ, List, Option, Some, None, ap, refl, sym, subst}
use Rattle.std.proofs.lemmas.Result.{err_from_is_err_and}
use Rattle.racp_search.specs.Truth.{SearchPiece}
use Rattle.racp_core.specs.Machine.{all_questions}
use Rattle.racp_core.specs.Steps.{IsOut, IsAnswered}
use Rattle.racp_core.specs.Replies.{IsMerged}
use Rattle.racp_core.proofs.States.{returned_all, answered_all}
use Rattle.racp_core.proofs.collector.Core.hand.Goals.{in-Some-found, in_default-found}
use Rattle.racp_core.proofs.collector.Core.hand.Goals as goal

pub returns-then-is_none-clause-questions : goal.returns-then-is_none-clause-questions
returns-then-is_none-clause-questions g c = returned_all c.args.self.now _ _ c.put.new.self c.in_ok-put.ensures.ok

pub returns-clause-questions : goal.returns-clause-questions
returns-clause-questions g c = elim c.match-found.branch [
  | in-Some-found w ↦ ap all_questions w.self-is ∙ answered_all c.args.self.now c.into_parts-piece.result.0 w.in-Some-found.starts w.put_yes.new.self w.put_yes.ensures
  | in_default-found w ↦ ap all_questions w.self-is
]

pub returns-in_default-clause-step : goal.returns-in_default-clause-step
returns-in_default-clause-step g c = (λ out. c.in_default.ensures.none (subst (λ (x : SearchPiece). IsOut c.args.self.now x) (sym c.piece.ensures.piece) out), refl)

pub returns-in_err-put-clause-err : goal.returns-in_err-put-clause-err
returns-in_err-put-clause-err g c =
    let p = err_from_is_err_and c.from_residual.result c.from_residual.ensures.1 in
    let none : c.args.finding.found ≡ None = search (rules, c.if-is_none.ensures, c.found.ensures) in
    rw (p.1, p.2) (c.in_err-put.ensures.err.0, c.in_err-put.ensures.err.1, none, c.in_err-put.ensures.err.2)

pub returns-then-is_none-clause-step : goal.returns-then-is_none-clause-step
returns-then-is_none-clause-step g c =
    let none : c.args.finding.found ≡ None = search (rules, c.if-is_none.ensures, c.found.ensures) in
    subst (λ (found : Option (List ℕ)). IsMerged c.args.self.now c.args.finding found c.put.new.self) (sym none) c.in_ok-put.ensures.ok

pub returns-clause-step : goal.returns-clause-step
returns-clause-step g c = elim c.match-found.branch [
  | in-Some-found w ↦ rw w.self-is
      (let found : c.args.finding.found ≡ Some w.in-Some-found.starts = sym c.into_parts-piece.ensures.found ∙ w.in-Some-found.is in
      subst (λ (x : Option (List ℕ)). IsMerged c.args.self.now c.args.finding x w.put_yes.new.self) (sym found)
      (subst (λ (x : SearchPiece). IsAnswered c.args.self.now x w.in-Some-found.starts w.put_yes.new.self) c.into_parts-piece.ensures.piece w.put_yes.ensures))
  | in_default-found w ↦ absurd
      (let none : c.args.finding.found ≡ None = sym c.into_parts-piece.ensures.found ∙ w.in_default-found.is in
      search (rules, none, c.if-is_none.ensures, c.found.ensures))
]
