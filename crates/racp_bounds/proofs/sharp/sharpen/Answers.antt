use Rattle.std.proofs.Common.{◌≡◌, ℕ, List, ◌+◌, ◌-◌, ◌<◌, arith, sym, subst}
use Rattle.racp_bounds.specs.Sharp.{AreSharpenedBefore, pair_count}
use Rattle.racp_bounds.proofs.Counting.{gives_up, gives_up_within}
use Rattle.racp_bounds.proofs.Raising.{one_sharpened}
use Rattle.racp_bounds.proofs.sharp.sharpen.Goals as goal

pub loop-k-preserved : goal.loop-k-preserved
loop-k-preserved g c = record {
  network = c.raised.ensures.network;
  answered = omega (arith, c.in-Ok.ensures.answered, c.loop-k.invariant.answered);
  sharpened =
      subst (λ (xs : List ℕ). AreSharpenedBefore c.args.net.now c.args.root.now c.args.floors c.args.roofs.now (c.loop-k.k + 1) xs) (sym c.with_units-reached.ensures)
      (one_sharpened c.args.net.now c.args.root.now c.args.floors c.args.roofs.now c.loop-k.k c.in-Ok.units c.loop-k.reached
      (omega (arith, c.loop-k-test.true, c.resource_count-k-end.ensures.count)) c.loop-k.invariant.sharpened c.in-Ok.ensures.sharp);
}

pub hear-requires : goal.hear-requires
hear-requires g c = c.requires.heard c.loop-k.k _ c.loop-k.invariant.sharpened

pub hear-requires-2 : goal.hear-requires-2
hear-requires-2 g c = c.requires.heard c.loop-k.k _ c.loop-k.invariant.sharpened

pub returns-in-Err-clause-refusal : goal.returns-in-Err-clause-refusal
returns-in-Err-clause-refusal g c =
    let answered = g.A.Asker.answered c.raised.new.asker - g.A.Asker.answered c.args.asker.now in
    let same : c.loop-k.k ≡ answered = omega (arith, c.in-Err.ensures.unanswered, c.loop-k.invariant.answered) in
    let left : answered < c.args.net.now.resources + pair_count c.args.net.now.resources = omega (arith, same, c.loop-k-test.true, c.resource_count-k-end.ensures.count) in
    record {
      reached = subst (λ (n : ℕ). AreSharpenedBefore c.args.net.now c.args.root.now c.args.floors c.args.roofs.now n c.loop-k.reached) same c.loop-k.invariant.sharpened;
      given_up = gives_up (g.A.Asker.may_stop c.raised.new.asker) (g.A.Asker.may_want_thread c.raised.new.asker) (answered < c.args.net.now.resources + pair_count c.args.net.now.resources) c.in-Err.stop left c.in-Err.ensures.stop;
    }

pub returns-in-Err-refuted_pairs-clause-refusal : goal.returns-in-Err-refuted_pairs-clause-refusal
returns-in-Err-refuted_pairs-clause-refusal g c =
    let before = g.A.Asker.answered c.loop-k.asker in
    let answered = g.A.Asker.answered c.refuted_pairs.new.asker - g.A.Asker.answered c.args.asker.now in
    let before_is = c.loop-k.invariant.answered in
    let no_fewer = c.in-Err-refuted_pairs.ensures.no_fewer in
    let last = c.loop-k-test.false in
    let count = c.resource_count-k-end.ensures.count in
    let end = c.loop-k.auto.k-end in
    record {
      reached = record {
        places = c.loop-k.invariant.sharpened.places;
        sharpened = λ q less within. c.loop-k.invariant.sharpened.sharpened q (omega (arith, within, last, count)) within;
        first = λ q more within. c.loop-k.invariant.sharpened.first q (omega (arith, more, within, before_is, no_fewer, last, count)) within;
      };
      given_up =
          gives_up_within (g.A.Asker.may_stop c.refuted_pairs.new.asker) (g.A.Asker.may_want_thread c.refuted_pairs.new.asker) (g.A.Asker.answered c.refuted_pairs.new.asker - before < pair_count c.args.net.now.resources)
          (answered < c.args.net.now.resources + pair_count c.args.net.now.resources) c.in-Err-refuted_pairs.stop (λ part. omega (arith, part, before_is, no_fewer, last, count, end)) c.in-Err-refuted_pairs.ensures.stop;
    }
