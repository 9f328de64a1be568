-- A frame settles: the windows in which each active job alone is put off take the place of all that is left.
use Rattle.std.proofs.Common.{ℕ, ◌-◌, ◌+◌, ◌*◌, ◌^◌, ◌≤◌, List, [], ◌∷◌, length, slice_index, Contains, true, false, arith, refl}
use Rattle.std.proofs.Math.Nat.{mul-le-mul_left}
use Rattle.racp_model.specs.Project.{Project}
use Rattle.racp_model.specs.Window.{Bounds}
use Rattle.racp_model.specs.JobSets.{AreJobs}
use Rattle.racp_model.proofs.lemmas.Sums.{sum_below-bound}
use Rattle.racp_model.proofs.lemmas.Relations.{member_first, member_later}
use Rattle.racp_delay.specs.Laws.{lower_sum}
use Rattle.racp_cutset.specs.Covering.{SearchNode}
use Rattle.racp_search.specs.DepthFirst.{HasActive, IsFrame, IsGoneOn, IsEachAlone, child_windows, rank, most_lists, weight, weights}
use Rattle.racp_search.specs.DepthFirst.Part.{all_of, behind}
use Rattle.racp_search.specs.declared.child.Child.{Child}
use Rattle.racp_search.proofs.Going.{child_parts, frame_with}
use Rattle.racp_search.proofs.Ranks.{place-room}
use Rattle.racp_search.proofs.Weights.{weights-append, weights-one, child-weight}

-- windows that weigh no more than a bound each
children-weight : (p : Project) (most : ℕ) (cs : List Child) → ((w : Bounds) → Contains (child_windows cs) w → weight p (all_of w) ≤ most) → weights p (child_parts cs) ≤ most * length cs
unfolding weights
children-weight p most [] light = omega arith
children-weight p most (c ∷ cs) light =
    omega (arith, light c.window (member_first c.window (child_windows cs) c.window refl), children-weight p most cs (λ w has. light w (member_later c.window (child_windows cs) w has)))

-- what lies behind a set of jobs weighs as much as 512 such windows at least
behind-heavy : (p : Project) (v : SearchNode) (active last : List ℕ) (n : ℕ) → AreJobs last → n ≤ 512 → (most_lists + 1) ^ (length p.jobs * 10000000 - lower_sum p v.window) * n ≤ weight p (behind v active last)
unfolding weight
behind-heavy p v active last n jobs few =
    let most : ℕ = (most_lists + 1) ^ (length p.jobs * 10000000 - lower_sum p v.window) in
    let up : most * n ≤ most * (most_lists - rank 512 last) = mul-le-mul_left most (let l : n ≤ most_lists - rank 512 last = omega (arith, few, place-room last jobs) in l) in
    omega (arith, up)

module _ (p : Project) (capacities : List ℕ) (v : SearchNode) (active last : List ℕ) (cs new : List Child) (is : HasActive p v active) (jobs : AreJobs last) (each : IsEachAlone p capacities (frame_with v active cs last true) new) where
  pub gone-settled : IsGoneOn p capacities (frame_with v active cs last true) (frame_with v active new last false)
  gone-settled = record {
    node = refl;
    covers = each.rest.covers;
    lighter = omega (
      arith,
      weights-append p (behind v active last ∷ []) (child_parts cs),
      weights-one p (behind v active last),
      children-weight p ((most_lists + 1) ^ (length p.jobs * 10000000 - lower_sum p v.window)) new (λ w has. child-weight p v w (each.rest.below w has).higher (sum_below-bound (length p.jobs) 10000000 (slice_index v.window.lower) (λ i l. omega (arith, is.node.early.above i l, is.small i l)))),
      behind-heavy p v active last (length new) jobs each.few,
    );
  }

  pub frame-settled : IsFrame p (frame_with v active new last false)
  frame-settled = record { active = is; below = each.rest.below; quiet = each.quiet; last = jobs }
