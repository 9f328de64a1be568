use Rattle.std.proofs.Common.{◌<◌, ◌≤◌, ℕ, List, arith, ap, length, slice_index, subst}
use Rattle.racp_model.specs.Path.{IsEarly}
use Rattle.racp_delay.specs.Branching.{IsConflictAnswer}
use Rattle.racp_search.proofs.glance.look_at.Goals as goal

pub returns-in-Some : goal.returns-in-Some
returns-in-Some c =
    let early : IsEarly c.args.net.now (slice_index c.args.window.now.lower) c.in_ok-starts.starts = subst (λ (xs : List ℕ). IsEarly c.args.net.now (slice_index xs) c.in_ok-starts.starts) c.lower.ensures.bounds c.in_ok-starts.ensures in
    let below : (i : ℕ) → i < length c.args.net.now.jobs → slice_index c.in_ok-starts.starts i ≤ slice_index c.args.window.now.upper i = λ i l.
    let at = c.are_below.ensures.0 c.if-not-are_below.false i (omega (arith, l, ap (λ (xs : List ℕ). length xs) c.as_slice.ensures, early.places)) in
    omega (arith, at, ap (λ (xs : List ℕ). slice_index xs i) c.as_slice.ensures, ap (λ (xs : List ℕ). slice_index xs i) c.upper.ensures.bounds) in
    record {
      early = early;
      below = below;
      small = λ i l. omega (arith, below i l, c.upper.ensures.small i 0 (omega (arith, l, c.requires.bounds.upper)));
      first = subst (IsConflictAnswer c.args.net.now c.args.capacities.now c.in_ok-starts.starts) c.in-Some.is c.conflict_from.ensures;
    }
