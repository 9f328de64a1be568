use Rattle.std.proofs.Common.{◌≡◌, ℕ, ◌+◌, ◌-◌, arith, refl, subst}
use Rattle.racp_cpm.proofs.Lowering.{IsLoweredFrom, lowered_all, lowered-set, lowered-none}
use Rattle.racp_cpm.proofs.latest.lower.Goals as goal

pub returns-then-starts-j : goal.returns-then-starts-j
returns-then-starts-j c =
    let e : c.loop-k.k ≡ c.loop-k.k - 1 + 1 = omega arith in
    let P : ℕ → Type 0 = λ n. IsLoweredFrom c.args.net.now c.topological_arcs-arcs.result.now n c.args.starts.now c.loop-k.starts in
    let after = subst P e c.loop-k.invariant in
    lowered-none c.args.net.now c.topological_arcs-arcs.result.now c.args.starts.now c.loop-k.starts (c.loop-k.k - 1) _ _ c.topological_arcs-arcs.ensures.order (omega arith) after refl
    (rw (← c.duration-duration.ensures) c.if-starts-j.true)

pub loop-k-preserved-then-start-starts : goal.loop-k-preserved-then-start-starts
loop-k-preserved-then-start-starts c =
    let e : c.loop-k.k ≡ c.loop-k.k - 1 + 1 = omega arith in
    let P : ℕ → Type 0 = λ n. IsLoweredFrom c.args.net.now c.topological_arcs-arcs.result.now n c.args.starts.now c.loop-k.starts in
    let after = subst P e c.loop-k.invariant in
    lowered-set c.args.net.now c.topological_arcs-arcs.result.now c.args.starts.now c.loop-k.starts (c.loop-k.k - 1) _ _ _ c.topological_arcs-arcs.ensures.order c.requires (omega arith) after refl
    (omega (arith, c.duration-duration.ensures)) c.if-start-starts.true

pub returns : goal.returns
returns c =
    let e : c.loop-k.k ≡ 0 = omega arith in
    let P : ℕ → Type 0 = λ n. IsLoweredFrom c.args.net.now c.topological_arcs-arcs.result.now n c.args.starts.now c.loop-k.starts in
    lowered_all c.args.net.now c.topological_arcs-arcs.result.now c.args.starts.now c.loop-k.starts c.topological_arcs-arcs.ensures.order (subst P e c.loop-k.invariant)
