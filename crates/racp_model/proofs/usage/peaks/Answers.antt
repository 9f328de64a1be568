use Rattle.std.proofs.Common.{arith, rules}
use Rattle.racp_model.specs.Schedule.{IsPeak}
use Rattle.racp_model.proofs.lemmas.Lists.{each-push}
use Rattle.racp_model.proofs.usage.peaks.Goals as goal

pub loop-k-preserved : goal.loop-k-preserved
loop-k-preserved c = record {
  places = search rules;
  each = each-push (IsPeak c.args.net.now c.args.starts.now) c.loop-k.units.items c.push.new.self.items c.peak.result c.loop-k.k c.loop-k.invariant.places c.in_ok-push.ensures.items c.loop-k.invariant.each (rw (← c.as_slice.ensures) c.peak.ensures);
}

pub returns : goal.returns
returns c = record { places = search rules; each = λ k l. rw c.new.ensures (c.loop-k.invariant.each k (omega (arith, c.resource_count-k-end.ensures.count))) }
