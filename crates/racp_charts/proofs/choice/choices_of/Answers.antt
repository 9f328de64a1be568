use Rattle.std.proofs.Common.{arith}
use Rattle.racp_charts.specs.Choices.{IsChoice}
use Rattle.racp_charts.proofs.Rows.{each_push, places_push}
use Rattle.racp_charts.proofs.choice.choices_of.Goals as goal

pub loop-k-preserved : goal.loop-k-preserved
loop-k-preserved c = record {
  places = places_push c.loop-k.choices.items c.push.new.self.items c.in_ok-choice_of.field-0 c.loop-k.k c.loop-k.invariant.places c.in_ok-push.ensures.items;
  each = each_push (IsChoice c.args.net.now c.args.order.now c.args.plan.now c.args.names.now) c.loop-k.choices.items c.push.new.self.items c.in_ok-choice_of.field-0 c.loop-k.k c.loop-k.invariant.places c.in_ok-push.ensures.items c.loop-k.invariant.each c.in_ok-choice_of.ensures;
}

pub returns : goal.returns
returns c = record {
  places = omega (arith, c.loop-k.invariant.places, c.resource_count-k-end.ensures.count);
  each = λ k d l. c.loop-k.invariant.each k d (omega (arith, l, c.resource_count-k-end.ensures.count));
}
