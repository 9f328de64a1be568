use Rattle.std.proofs.Common.{arith}
use Rattle.racp_show.specs.Charts.{IsJobRow}
use Rattle.racp_show.proofs.Rows.{each_push, places_push}
use Rattle.racp_show.proofs.chart.job_rows.Goals as goal

pub loop-i-preserved : goal.loop-i-preserved
loop-i-preserved c = record {
  places = places_push c.loop-i.rows.items c.push.new.self.items c.job_row.result c.loop-i.i c.loop-i.invariant.places c.in_ok-push.ensures.items;
  each = each_push (IsJobRow c.args.times.now.net.now c.args.times.now.starts.now c.args.scale.now) c.loop-i.rows.items c.push.new.self.items c.job_row.result c.loop-i.i c.loop-i.invariant.places c.in_ok-push.ensures.items c.loop-i.invariant.each c.job_row.ensures;
}

pub returns : goal.returns
returns c = record {
  places = omega (arith, c.loop-i.invariant.places, c.job_count-i-end.ensures.count);
  each = λ i d l. c.loop-i.invariant.each i d (omega (arith, l, c.job_count-i-end.ensures.count));
}
