use Rattle.std.proofs.Common.{ℕ, ◌+◌, ◌*◌, arith}
use Rattle.std.proofs.Math.Nat.{mul-le-mul_right}
use Rattle.racp_model.proofs.lemmas.Lists.{each-push}
use Rattle.racp_show.specs.Uses.{IsGreatestUsage}
use Rattle.racp_show.proofs.Rows.{places_push}
use Rattle.racp_show.proofs.chart.levels.Goals as goal

pub overflow_mul-from : goal.overflow_mul-from
overflow_mul-from c =
    let scale = c.args.scale.now in
    omega (arith, scale.small, mul-le-mul_right {m = c.loop-column.column} {n = scale.columns} scale.span (omega arith))

pub overflow_add-from : goal.overflow_add-from
overflow_add-from c =
    let scale = c.args.scale.now in
    omega (arith, scale.small, mul-le-mul_right {m = c.loop-column.column + 1} {n = scale.columns} scale.span (omega arith))

pub loop-column-preserved : goal.loop-column-preserved
loop-column-preserved c =
    let span : ℕ = c.args.scale.now.span in
    record {
      places = places_push c.loop-column.levels.items c.push.new.self.items c.greatest_usage.result c.loop-column.column c.loop-column.invariant.places c.in_ok-push.ensures.items;
      each = each-push (λ q units. IsGreatestUsage c.args.net.now c.args.starts.now c.args.k (q * span) (q * span + span) units) c.loop-column.levels.items c.push.new.self.items c.greatest_usage.result c.loop-column.column c.loop-column.invariant.places c.in_ok-push.ensures.items c.loop-column.invariant.each c.greatest_usage.ensures;
    }
