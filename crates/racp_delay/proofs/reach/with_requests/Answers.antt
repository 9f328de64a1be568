use Rattle.std.proofs.Common.{◌∙◌, arith, refl, set}
use Rattle.std.proofs.lemmas.List.{length-set}
use Rattle.racp_model.specs.Project.{place}
use Rattle.racp_delay.proofs.Reaching.{joined-next}
use Rattle.racp_delay.proofs.reach.with_requests.Goals as goal

pub loop-k-preserved : goal.loop-k-preserved
loop-k-preserved c =
    let k = c.loop-k.k in
    let old = c.loop-k.divisors in
    let v = c.common_divisor.result in
    record {
      joined = joined-next c.args.net.now (place c.args.job) k c.args.row.now old (set old k v) _ _ v c.loop-k.invariant.joined (omega arith) refl refl (c.requests-requests.ensures.requests k) c.common_divisor.ensures;
      places = length-set old k v ∙ c.loop-k.invariant.places;
    }
