use Rattle.std.proofs.Common.{List, ℕ, subst}
use Rattle.racp_trees.specs.Certificates.{IsCertificate}
use Rattle.racp_check.proofs.Certified.{long_enough}
use Rattle.racp_check.proofs.proof.check_proof_until.Goals as goal

pub returns-clause-in_time : goal.returns-clause-in_time
returns-clause-in_time g c = λ yes'.
    let h = subst (λ (xs : List ℕ). IsCertificate c.args.net.now c.args.order.now xs c.args.bytes.now) c.as_slice.ensures (c.in_ok-proved.ensures.exact.0 yes') in
    long_enough c.args.net.now c.args.order.now c.args.plan.now.capacities c.args.bytes.now c.critical_is_greatest_finish.ensures c.job_count.ensures.sound h
