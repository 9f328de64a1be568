use Rattle.std.proofs.Common.{◌∙◌, ◌<◌, ◌∷◌, [], length, ap, arith, length-append}
use Rattle.racp_desk.proofs.worker.publish.Goals as goal

pub loop-local-smaller : goal.loop-local-smaller
loop-local-smaller g c =
    let left = c.take_kept.new.self.records in
    let long = ap (λ rs. length rs) c.in-Some.ensures.0 ∙ length-append left (c.in-Some.nogood ∷ []) in
    let fewer : length left < length c.loop-local.local.records = omega (arith, long) in
    fewer
