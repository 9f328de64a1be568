use Rattle.std.proofs.Common.{ℕ, List, IsTrue, subst, sym}
use Rattle.racp_model.specs.Project.{number}
use Rattle.racp_derivations.specs.Pairs.{HasPairAt, IsPlaceIn}
use Rattle.racp_derivations.proofs.Halving.{pair-found, pair-missing}
use Rattle.racp_derivations.proofs.pairs.pair_at.Goals as goal

pub returns-then-is_at : goal.returns-then-is_at
returns-then-is_at c =
    let wanted : ℕ × ℕ = (number c.args.first, number c.args.second) in
    let place : IsPlaceIn c.args.net.now.arcs wanted c.place_in-at.result c.place_in-at.result = subst (λ (xs : List (ℕ × ℕ)). IsPlaceIn xs wanted c.place_in-at.result c.place_in-at.result) c.arcs-arcs.ensures.arcs c.place_in-at.ensures in
    pair-found c.args.net.now c.args.first c.args.second c.place_in-at.result place
    (subst (λ (xs : List (ℕ × ℕ)). HasPairAt xs c.place_in-at.result wanted) c.arcs-arcs.ensures.arcs (c.is_at.ensures.0 c.if-is_at.true))

pub returns-else-is_at : goal.returns-else-is_at
returns-else-is_at c =
    let wanted : ℕ × ℕ = (number c.args.first, number c.args.second) in
    let place : IsPlaceIn c.args.net.now.arcs wanted c.place_in-at.result c.place_in-at.result = subst (λ (xs : List (ℕ × ℕ)). IsPlaceIn xs wanted c.place_in-at.result c.place_in-at.result) c.arcs-arcs.ensures.arcs c.place_in-at.ensures in
    pair-missing c.args.net.now c.args.first c.args.second c.place_in-at.result place c.arcs-arcs.ensures.sound.rising
    (λ h.
    let back : HasPairAt c.arcs-arcs.result.now c.place_in-at.result wanted = subst (λ (xs : List (ℕ × ℕ)). HasPairAt xs c.place_in-at.result wanted) (sym c.arcs-arcs.ensures.arcs) h in
    let so : IsTrue c.is_at.result = c.is_at.ensures.1 back in
    cc (so, c.if-is_at.false))
