use Rattle.std.proofs.Common.{◌≡◌, ◌∙◌, ◌<◌, ◌+◌, ◌-◌, ℕ, List, [], ◌∷◌, ◌++◌, arith, refl, sym, subst}
use Rattle.std.proofs.lemmas.Bool.{false≢true}
use Rattle.std.proofs.lemmas.Result.{err_from_is_err_and}
use Rattle.racp_model.specs.Project.{number}
use Rattle.racp_model.proofs.lemmas.Sums.{sum_below-none}
use Rattle.racp_bounds.specs.Sharp.{pair_count}
use Rattle.racp_bounds.proofs.Counting.{row_counted, fewer_pairs, gives_up}
use Rattle.racp_bounds.proofs.Refuting.{ArePairsBefore, none_before, row_begun, row_ended, pair_added, pair_kept, all_before}
use Rattle.racp_bounds.proofs.sharp.refuted_pairs.Goals.{then-branch+in_ok-add_pair, else-branch}
use Rattle.racp_bounds.proofs.sharp.refuted_pairs.Goals as goal

pub loop-l-init : goal.loop-l-init
loop-l-init g c = record {
  network = c.loop-k.invariant.network;
  answered = omega (arith, c.loop-k.invariant.answered);
  refuted = row_begun c.args.net.now c.args.root.now c.args.bounds.now.floors.now c.args.bounds.now.roofs.now c.loop-k.k 0 c.loop-k.pairs.items refl c.loop-k.invariant.refuted;
}

pub loop-l-preserved : goal.loop-l-preserved
loop-l-preserved g c =
    let last : c.loop-l.l < c.args.net.now.resources = omega (arith, c.loop-l-test.true, c.resource_count-l-end.ensures.count) in
    let before = λ (pairs : List (ℕ × ℕ)). ArePairsBefore c.args.net.now c.args.root.now c.args.bounds.now.floors.now c.args.bounds.now.roofs.now c.loop-k.k (c.loop-l.l + 1) pairs in
    record {
      network = c.is_refuted.ensures.network;
      answered = omega (arith, c.in_ok-is_refuted.ensures.answered, c.loop-l.invariant.answered, c.loop-l.auto.l);
      refuted = elim c.if-branch.branch [
        | then-branch+in_ok-add_pair w ↦
            let more : c.loop-l.pairs.items ++ (number c.loop-k.k, number c.loop-l.l) ∷ [] ≡ c.if-branch.pairs.items = cc (w.pairs-is, w.in_ok-add_pair.ensures) in
            subst before more
            (pair_added c.args.net.now c.args.root.now c.args.bounds.now.floors.now c.args.bounds.now.roofs.now c.loop-k.k c.loop-l.l c.loop-l.pairs.items (omega (arith, c.loop-l.auto.l)) last
            (c.in_ok-is_refuted.ensures.refuted.0 w.if-branch.true) c.loop-l.invariant.refuted)
        | else-branch w ↦
            let same : c.loop-l.pairs.items ≡ c.if-branch.pairs.items = cc (w.pairs-is) in
            subst before same
            (pair_kept c.args.net.now c.args.root.now c.args.bounds.now.floors.now c.args.bounds.now.roofs.now c.loop-k.k c.loop-l.l c.loop-l.pairs.items
            (λ refuted. false≢true (sym w.if-branch.false ∙ c.in_ok-is_refuted.ensures.refuted.1 refuted)) c.loop-l.invariant.refuted)
      ];
    }

pub loop-k-preserved : goal.loop-k-preserved
loop-k-preserved g c = record {
  network = c.loop-l.invariant.network;
  answered = omega (
    arith,
    c.loop-l.invariant.answered,
    row_counted c.args.net.now.resources c.loop-k.k c.loop-l.l (omega (arith, c.loop-k-test.true, c.resource_count-k-end.ensures.count))
        (omega (arith, c.loop-l-test.false, c.resource_count-l-end.ensures.count)) (omega (arith, c.loop-k-test.true, c.resource_count-k-end.ensures.count, c.loop-l.auto.l-end, c.resource_count-l-end.ensures.count)),
  );
  refuted = row_ended c.args.net.now c.args.root.now c.args.bounds.now.floors.now c.args.bounds.now.roofs.now c.loop-k.k c.loop-l.l c.loop-l.pairs.items
      (omega (arith, c.loop-l-test.false, c.resource_count-l-end.ensures.count)) c.loop-l.invariant.refuted;
}

pub returns-clause-refuted : goal.returns-clause-refuted
returns-clause-refuted g c = all_before c.args.net.now c.args.root.now c.args.bounds.now.floors.now c.args.bounds.now.roofs.now c.loop-k.k c.loop-k.pairs.items
    (omega (arith, c.loop-k-test.false, c.resource_count-k-end.ensures.count)) c.loop-k.invariant.refuted

pub loop-k-init : goal.loop-k-init
loop-k-init g c = record {
  network = c.requires.named;
  answered = omega (arith, sum_below-none (λ i. c.args.net.now.resources - (i + 1)));
  refuted = subst (λ (pairs : List (ℕ × ℕ)). ArePairsBefore c.args.net.now c.args.root.now c.args.bounds.now.floors.now c.args.bounds.now.roofs.now 0 0 pairs) (sym c.new-pairs.ensures.items)
      (none_before c.args.net.now c.args.root.now c.args.bounds.now.floors.now c.args.bounds.now.roofs.now);
}

pub returns-in_err-is_refuted-clause-stop : goal.returns-in_err-is_refuted-clause-stop
returns-in_err-is_refuted-clause-stop g c =
    let last : c.loop-l.l < c.args.net.now.resources = omega (arith, c.loop-l-test.true, c.resource_count-l-end.ensures.count) in
    let left : g.A.Asker.answered c.is_refuted.new.asker - g.A.Asker.answered c.args.asker.now < pair_count c.args.net.now.resources =
    omega (arith, c.in_err-is_refuted.ensures.unanswered, c.loop-l.invariant.answered, fewer_pairs c.args.net.now.resources c.loop-k.k c.loop-l.l (omega (arith, c.loop-l.auto.l)) last) in
    let p = err_from_is_err_and c.from_residual.result c.from_residual.ensures.1 in
    rw (p.1, p.2) (gives_up (g.A.Asker.may_stop c.is_refuted.new.asker) (g.A.Asker.may_want_thread c.is_refuted.new.asker) (g.A.Asker.answered c.is_refuted.new.asker - g.A.Asker.answered c.args.asker.now < pair_count c.args.net.now.resources) c.in_err-is_refuted.field-0.0 left c.in_err-is_refuted.ensures.stop)
