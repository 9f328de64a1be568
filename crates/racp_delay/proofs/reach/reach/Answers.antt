use Rattle.std.proofs.Common.{◌≡◌, ◌<◌, ◌∙◌, Some, slice_get, slice_index, length, set, refl, ap, sym, arith}
use Rattle.std.proofs.lemmas.List.{length-set}
use Rattle.std.proofs.lemmas.Option.{slice_get-get_or}
use Rattle.racp_delay.proofs.Reaching.{reach-left, reach-less, reached-next, row-of}
use Rattle.racp_delay.proofs.reach.reach.Goals as goal

pub returns-in_default : goal.returns-in_default
returns-in_default c = reach-left c.args.choice.now c.requires.choice

pub loop-k-preserved : goal.loop-k-preserved
loop-k-preserved c =
    let now = c.args.choice.now in
    let k = c.loop-k.k in
    let few : k < now.net.now.resources = omega (arith, c.loop-k-test.true, c.resource_count-k-end.ensures.count) in
    let at : slice_get c.args.rows.now (length now.undecided.now) ≡ Some c.in-Some.row.now =
    slice_get-get_or c.args.rows.now (length now.undecided.now) c.in-Some.row.now c.in-Some.ensures.lookup.3.0 ∙ ap Some (sym c.in-Some.ensures.lookup.1) in
    record {
      reached = reached-next now k c.loop-k.most (set c.loop-k.most k c.last_multiple.result) c.last_multiple.result c.loop-k.invariant.reached (omega (arith, c.loop-k.invariant.places, few)) refl
          (reach-less now c.requires.choice k (slice_index c.in-Some.row.now k) c.last_multiple.result few (row-of now.net.now now.undecided.now c.in-Some.row.now c.args.rows.now c.requires.rows at k few) c.last_multiple.ensures.left c.last_multiple.ensures.most);
      places = length-set c.loop-k.most k c.last_multiple.result ∙ c.loop-k.invariant.places;
    }

pub last_multiple-requires : goal.last_multiple-requires
last_multiple-requires c = omega (arith, c.requires.choice.sums c.loop-k.k (omega (arith, c.loop-k-test.true, c.resource_count-k-end.ensures.count)))
