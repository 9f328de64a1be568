use Rattle.std.proofs.Common.{sym, ◌∙◌, ap, subst, refl, inl, inr, Err}
use Rattle.racp_model.specs.Made.{IsMade}
use Rattle.racp_sm.specs.Reading.{IsReadingOrMemory}
use Rattle.racp_sm.specs.Faults.{SmFault}
use Rattle.racp_sm.proofs.Limits.{kept_read, made_limit, made_bad_job}
use Rattle.racp_sm.proofs.read.read_sm.Goals as goal

pub unreachable-requires : goal.unreachable-requires
unreachable-requires c =
    made_limit c.args.bytes.now _ _ _ (kept_read _ _ _ _ c.in-Some.is c.in_ok-parts.ensures) c.new.ensures c.in-Err-Limit.is c.in-Err-Limit.field-0-is

pub unreachable-requires-in-Err-BadJob : goal.unreachable-requires-in-Err-BadJob
unreachable-requires-in-Err-BadJob c =
    made_bad_job c.args.bytes.now _ _ _ (kept_read _ _ _ _ c.in-Some.is c.in_ok-parts.ensures) c.new.ensures c.in-Err-BadJob.is c.in-Err-BadJob.field-0-is

pub returns-in-Err-Cycle : goal.returns-in-Err-Cycle
returns-in-Err-Cycle c =
    let made = subst (IsMade _) (c.in-Err-Cycle.is ∙ ap Err c.in-Err-Cycle.field-0-is) c.new.ensures in
    subst (λ (fault : SmFault). IsReadingOrMemory c.args.bytes.now (Err fault)) (sym c.at-in-Err-Cycle.ensures)
    (inl (inr (_, kept_read _ _ _ _ c.in-Some.is c.in_ok-parts.ensures, made.2, refl)))
