use Rattle.std.proofs.Common.{◌≡◌, ◌∙◌, ap, sym, subst, is_some, not}
use Rattle.racp_core.specs.declared.replies.Merged.{Merged}
use Rattle.racp_core.specs.Replies.{IsHanded}
use Rattle.racp_by_questions.proofs.Working.{copied_some, handed_in, is_out}
use Rattle.racp_by_questions.proofs.settling.hand_in.Goals as goal

pub returns-in-Ok-Taken-clause-handed : goal.returns-in-Ok-Taken-clause-handed
returns-in-Ok-Taken-clause-handed g c =
    let more : is_some c.args.finding.found ≡ not c.is_none-more.result = ap is_some (sym c.found.ensures) ∙ (copied_some c.found.result ∙ c.is_none-more.ensures) in
    let merged = subst (λ (reply : Merged). IsHanded c.args.core.now c.args.finding reply c.hand.new.self) c.in-Ok-Taken.field-0-is c.in-Ok-Taken.ensures.step in
    handed_in c.args.core.now c.hand.new.self c.args.finding c.args.finding.found c.is_none-more.result more c.requires.work c.requires.whole merged

pub returns-in-Err-clause-questions : goal.returns-in-Err-clause-questions
returns-in-Err-clause-questions g c = tt

pub returns-in-Err-clause-handed : goal.returns-in-Err-clause-handed
returns-in-Err-clause-handed g c = tt

pub returns-in-Ok-Taken-clause-questions : goal.returns-in-Ok-Taken-clause-questions
returns-in-Ok-Taken-clause-questions g c = c.in-Ok-Taken.ensures.questions

pub unreachable-requires : goal.unreachable-requires
unreachable-requires g c =
    let stale = subst (λ (reply : Merged). IsHanded c.args.core.now c.args.finding reply c.hand.new.self) c.in-Ok-Stale.field-0-is c.in-Ok-Stale.ensures.step in
    stale.0 (is_out c.args.core.now c.args.finding.piece c.requires.work)
