use Rattle.std.proofs.Common.{arith}
use Rattle.racp_show.specs.Sheets.{IsJobEntry}
use Rattle.racp_show.proofs.Rows.{each_push, places_push}
use Rattle.racp_show.proofs.sheet.job_entries.Goals as goal

pub loop-i-preserved : goal.loop-i-preserved
loop-i-preserved c = record {
  places = places_push c.loop-i.entries.items c.push.new.self.items c.in_ok-job_entry.field-0 c.loop-i.i c.loop-i.invariant.places c.in_ok-push.ensures.items;
  each = each_push (IsJobEntry c.args.calendar c.args.times.now.net.now c.args.times.now.starts.now c.args.room.now.latest c.args.names.now) c.loop-i.entries.items c.push.new.self.items c.in_ok-job_entry.field-0 c.loop-i.i c.loop-i.invariant.places c.in_ok-push.ensures.items c.loop-i.invariant.each c.in_ok-job_entry.ensures;
}

pub returns : goal.returns
returns c = record {
  places = omega (arith, c.loop-i.invariant.places, c.job_count-i-end.ensures.count);
  each = λ i d l. c.loop-i.invariant.each i d (omega (arith, l, c.job_count-i-end.ensures.count));
}
