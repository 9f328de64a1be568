use Rattle.std.proofs.Common.{◌-◌, ◌<◌, ◌≤◌, ℕ, List, arith, ap, length, refl, slice_index, subst, sym}
use Rattle.racp_model.specs.Path.{IsEarly}
use Rattle.racp_delay.specs.Alternatives.{AreAlternatives, job_lists}
use Rattle.racp_delay.proofs.lemmas.Conflicts.{conflict_numbers}
use Rattle.racp_search.proofs.Lines.{divided_into}
use Rattle.racp_search.proofs.refuting.line_of.Goals as goal

pub returns-in-Some : goal.returns-in-Some
returns-in-Some c =
    let early : IsEarly c.args.net.now (slice_index c.args.window.now.lower) c.in_ok-early.early = subst (λ (xs : List ℕ). IsEarly c.args.net.now (slice_index xs) c.in_ok-early.early) c.lower.ensures.bounds c.in_ok-early.ensures in
    let same = c.as_slice.ensures in
    record {
      node = record { capacities = c.args.capacities.now; window = c.args.window.now; early = c.in_ok-early.early; time = 0 };
      of_window = record { of_resources = refl; placed = refl; early = early };
      late = record {
        named = (c.in-Some.ensures.0.0, omega (arith, c.in-Some.ensures.0.1, ap (λ (xs : List ℕ). length xs) same, early.places));
        late = omega (arith, c.in-Some.ensures.1, ap (λ (xs : List ℕ). slice_index xs (c.in-Some.job - 1)) same, ap (λ (xs : List ℕ). slice_index xs (c.in-Some.job - 1)) c.upper.ensures.bounds);
      };
      same = refl;
    }

pub find-requires-clause-active : goal.find-requires-clause-active
find-requires-clause-active c = conflict_numbers c.args.net.now c.args.capacities.now c.in_ok-early.early c.in-Some-conflict.clash.time c.in-Some-conflict.clash.active c.in-Some-conflict.ensures

pub put_on-requires-clause-some : goal.put_on-requires-clause-some
put_on-requires-clause-some c =
    let are : AreAlternatives c.args.net.now c.args.capacities.now c.in-Some-conflict.clash.active (job_lists c.lists.result.now) = subst (AreAlternatives c.args.net.now c.args.capacities.now c.in-Some-conflict.clash.active) (sym c.lists.ensures) c.in_ok-find.ensures in
    λ gone there. c.some_job_goes.ensures c.args.net.now c.args.capacities.now c.in_ok-early.early c.in-Some-conflict.clash.time c.in-Some-conflict.clash.active gone c.in-Some-conflict.ensures (are.only gone there)

pub returns : goal.returns
returns c =
    let early : IsEarly c.args.net.now (slice_index c.args.window.now.lower) c.in_ok-early.early = subst (λ (xs : List ℕ). IsEarly c.args.net.now (slice_index xs) c.in_ok-early.early) c.lower.ensures.bounds c.in_ok-early.ensures in
    let are : AreAlternatives c.args.net.now c.args.capacities.now c.in-Some-conflict.clash.active (job_lists c.lists.result.now) = subst (AreAlternatives c.args.net.now c.args.capacities.now c.in-Some-conflict.clash.active) (sym c.lists.ensures) c.in_ok-find.ensures in
    let below : (i : ℕ) → i < length c.args.net.now.jobs → slice_index c.in_ok-early.early i ≤ slice_index c.args.window.now.upper i = λ i l.
    let at = c.in_default.ensures i (omega (arith, l, ap (λ (xs : List ℕ). length xs) c.as_slice.ensures, early.places)) in
    omega (arith, at, ap (λ (xs : List ℕ). slice_index xs i) c.as_slice.ensures, ap (λ (xs : List ℕ). slice_index xs i) c.upper.ensures.bounds) in
    divided_into c.job_count.ensures.sound c.subsets_go.ensures
    (record {
      places = c.requires.capacities;
      bounds = c.requires.bounds;
      conflict = record {
        early = early;
        below = below;
        small = λ i l. omega (arith, below i l, c.upper.ensures.small i 0 (omega (arith, l, c.requires.bounds.upper)));
        first = c.in-Some-conflict.ensures;
      };
    })
    are c.in_ok-put_on.ensures
