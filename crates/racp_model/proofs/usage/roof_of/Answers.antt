use Rattle.std.proofs.Common.{arith}
use Rattle.racp_model.specs.Project.{request}
use Rattle.racp_model.proofs.lemmas.Sums.{sum_below-step, request-small}
use Rattle.racp_model.proofs.usage.roof_of.Goals as goal

pub loop-i-preserved : goal.loop-i-preserved
loop-i-preserved c =
    let net = c.args.net.now in
    let i = c.loop-i.i in
    let step = sum_below-step i (λ j. request net j c.args.k) in
    let small = request-small net i c.args.k c.job_count-i-end.ensures.sound (omega (arith, c.loop-i-test.true, c.job_count-i-end.ensures.count)) c.requires in
    record {
      sum = omega (arith, step, c.loop-i.invariant.sum);
      small = omega (arith, small, c.loop-i.invariant.small);
    }
