use Rattle.std.proofs.Common.{◌≡◌, ℕ, length, replicate, slice_index, rules, arith}
use Rattle.racp_model.proofs.lemmas.Zeros.{zeros}
use Rattle.racp_reference.specs.Boxes.{IsInBox, IsNext, IsLast}
use Rattle.racp_reference.proofs.Counts.{fewer_left}
use Rattle.racp_reference.proofs.Searching.{lower-within, lower-first}
use Rattle.racp_reference.proofs.Choosing.{IsEarlier, best-next, best-cheapest, zeros_places, one_more-next, one_more-last}
use Rattle.racp_reference.proofs.choice.cheapest.Goals as goal

pub vectors-init : goal.vectors-init
vectors-init c =
    let least = c.in_ok-least.least.items in
    let most = c.args.most.now in
    let start : c.new-capacities.result ≡ least = search rules in
    let filled : least ≡ replicate (length most) 0 = search rules in
    let same : length least ≡ length most = zeros_places least (length most) filled in
    let none : (k : ℕ) → slice_index least k ≡ 0 = λ k. rw filled (zeros (length most) k) in
    rw start record {
      within = lower-within least most same (λ i l. omega (arith, none i));
      best = λ a seen. lower-first least most a seen.seen.within seen.seen.less;
    }

pub vectors-smaller : goal.vectors-smaller
vectors-smaller c =
    let least = c.in_ok-least.least.items in
    let most = c.args.most.now in
    let next : IsNext least most c.vectors.capacities c.new-capacities-in-Some.result = rw (c.new-capacities-in-Some.ensures, ← c.into_vec.ensures, ← c.deref-in-vectors.ensures.value) c.in-Some.ensures in
    fewer_left least most c.vectors.capacities c.new-capacities-in-Some.result c.vectors.invariant.within next.is.within next.is.greater

pub vectors-preserved : goal.vectors-preserved
vectors-preserved c =
    let least = c.in_ok-least.least.items in
    let most = c.args.most.now in
    let vector = c.vectors.capacities in
    let next : IsNext least most vector c.new-capacities-in-Some.result = rw (c.new-capacities-in-Some.ensures, ← c.into_vec.ensures, ← c.deref-in-vectors.ensures.value) c.in-Some.ensures in
    record {
      within = next.is.within;
      best = rw c.cheaper-best.ensures
          (best-next c.args.net.now c.args.order.now c.args.window.now (IsEarlier least most vector) (IsEarlier least most c.new-capacities-in-Some.result) vector
          (one_more-next least most vector c.new-capacities-in-Some.result c.vectors.invariant.within next)
          c.vectors.best c.in_ok-other.other c.vectors.invariant.best c.in_ok-other.ensures);
    }

pub returns-in-None : goal.returns-in-None
returns-in-None c =
    let least = c.in_ok-least.least.items in
    let most = c.args.most.now in
    let vector = c.vectors.capacities in
    let last : IsLast least most vector = rw (← c.into_vec.ensures, ← c.deref-in-vectors.ensures.value) c.in-None.ensures in
    let filled : least ≡ replicate (length most) 0 = search rules in
    let none : (k : ℕ) → slice_index least k ≡ 0 = λ k. rw filled (zeros (length most) k) in
    rw c.cheaper-best.ensures
    (best-cheapest c.args.net.now c.args.order.now c.args.window.now least most _ (zeros_places least (length most) filled) (λ k l. none k)
    (best-next c.args.net.now c.args.order.now c.args.window.now (IsEarlier least most vector) (IsInBox least most) vector
    (one_more-last least most vector c.vectors.invariant.within last)
    c.vectors.best c.in_ok-other.other c.vectors.invariant.best c.in_ok-other.ensures))
