use Rattle.std.proofs.Common.{Some, sym, subst}
use Rattle.racp_model.specs.Formed.{AreFormed}
use Rattle.racp_questions.specs.FirstYes.{IsFirstYes}
use Rattle.racp_candidates.specs.Questions.{start_questions}
use Rattle.racp_candidates.proofs.lemmas.Forms.{starts_formed}
use Rattle.racp_questions.proofs.lemmas.Answered.{yes_of, no_of}
use Rattle.racp_by_questions.specs.Fixing.{IsLeastStart}
use Rattle.racp_by_questions.proofs.Fixing.{start_within, start_least, some_start}
use Rattle.racp_by_questions.proofs.starts.least_start.Goals as goal

pub first-requires-clause-formed : goal.first-requires-clause-formed
first-requires-clause-formed g c = subst (AreFormed c.args.net.now) (sym c.in_ok-values.ensures)
    (starts_formed c.args.net.now c.args.capacities.now c.args.window.now c.args.j c.requires.capacities c.requires.window)

pub start_at-requires-clause-within : goal.start_at-requires-clause-within
start_at-requires-clause-within g c =
    let first : IsFirstYes c.args.net.now (start_questions c.args.capacities.now c.args.window.now c.args.j) (Some c.in-Yes.index) =
    yes_of c.args.net.now _ _ _ _ _ c.in_ok-values.ensures c.in-Yes.is c.in_ok-index.ensures.answer in
    start_within c.args.net.now c.args.capacities.now c.args.window.now c.args.j c.in-Yes.index first

pub unreachable-requires : goal.unreachable-requires
unreachable-requires g c = some_start c.args.net.now c.args.capacities.now c.args.window.now c.args.j c.requires.job c.requires.window c.requires.yes
    (no_of c.args.net.now _ _ _ c.in_ok-values.ensures c.in-None.is c.in_ok-index.ensures.answer)

pub returns-clause-least : goal.returns-clause-least
returns-clause-least g c =
    let first : IsFirstYes c.args.net.now (start_questions c.args.capacities.now c.args.window.now c.args.j) (Some c.in-Yes.index) =
    yes_of c.args.net.now _ _ _ _ _ c.in_ok-values.ensures c.in-Yes.is c.in_ok-index.ensures.answer in
    subst (IsLeastStart c.args.net.now c.args.capacities.now c.args.window.now c.args.j) (sym c.start_at.ensures)
    (start_least c.args.net.now c.args.capacities.now c.args.window.now c.args.j c.in-Yes.index first)
