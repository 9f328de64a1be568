use Rattle.std.proofs.Common.{subst}
use Rattle.racp_root.specs.Openings.{IsOpening}
use Rattle.racp_root.specs.declared.opening.Opening.{Opening}
use Rattle.racp_root.specs.declared.opening.Opening.TheVariants.{TooLong, TooLate}
use Rattle.racp_check.proofs.Certified.{no_certificate, not_too_long, not_too_late}
use Rattle.racp_check.proofs.proof.is_certificate.Goals as goal

pub returns-in-TooLong-clause-exact : goal.returns-in-TooLong-clause-exact
returns-in-TooLong-clause-exact g c =
    let p = c.args.net.now in
    let terms = c.args.order.now in
    let opened : IsOpening p terms (TooLong c.in-TooLong.critical) = subst (λ (o : Opening). IsOpening p terms o) c.in-TooLong.is c.in_ok-window.ensures in
    no_certificate p terms c.args.capacities.now c.args.text.now (not_too_long p terms c.args.capacities.now c.args.text.now c.critical_is_greatest_finish.ensures c.job_count.ensures.sound c.in-TooLong.critical opened)

pub returns-in-TooLate-clause-exact : goal.returns-in-TooLate-clause-exact
returns-in-TooLate-clause-exact g c =
    let p = c.args.net.now in
    let terms = c.args.order.now in
    let opened : IsOpening p terms (TooLate c.in-TooLate.job) = subst (λ (o : Opening). IsOpening p terms o) c.in-TooLate.is c.in_ok-window.ensures in
    no_certificate p terms c.args.capacities.now c.args.text.now (not_too_late p terms c.args.capacities.now c.args.text.now opened.0 opened.2)
