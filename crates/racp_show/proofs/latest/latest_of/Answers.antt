use Rattle.std.proofs.Common.{◌≡◌, ◌∙◌, ℕ, map, min, subst, sym}
use Rattle.std.specs.Prelude.{IfOk}
use Rattle.racp_model.specs.Path.{IsLate}
use Rattle.racp_model.specs.Schedule.{EndsBy}
use Rattle.racp_cpm.proofs.lemmas.Openings.{due-is}
use Rattle.racp_show.proofs.latest.latest_of.Goals as goal

pub late_by-requires-clause-ends : goal.late_by-requires-clause-ends
late_by-requires-clause-ends c =
    let terms = c.args.order.now in
    let due : c.as_slice.result.now ≡ map (λ time. min time terms.deadline) terms.due = c.as_slice.ensures.value ∙ c.in_ok-due.ensures in
    subst (λ (times : ℕ → ℕ). EndsBy c.args.net.now times c.args.plan.now.starts) (sym (due-is terms c.as_slice.result.now due)) c.requires.fits.in_time.ends

pub returns : goal.returns
returns c =
    let terms = c.args.order.now in
    let due : c.as_slice.result.now ≡ map (λ time. min time terms.deadline) terms.due = c.as_slice.ensures.value ∙ c.in_ok-due.ensures in
    subst (λ (times : ℕ → ℕ). IfOk c.late_by.result (IsLate c.args.net.now times)) (due-is terms c.as_slice.result.now due) c.late_by.ensures
