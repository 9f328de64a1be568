use Rattle.std.proofs.Common.{◌≡◌, ℕ, ◌+◌, ◌-◌, ◌<◌, length, slice_index, arith, subst}
use Rattle.std.proofs.lemmas.List.{get_or_default}
use Rattle.racp_reference.proofs.Carrying.{IsCarried, carried_all, raised_at, raised-next}
use Rattle.racp_reference.proofs.boxes.next_in.Goals as goal

pub returns-then-index-upper : goal.returns-then-index-upper
returns-then-index-upper c =
    let items = c.loop-i.vector.items in
    let e : c.loop-i.i ≡ c.loop-i.i - 1 + 1 = omega arith in
    let P : ℕ → Type 0 = λ n. IsCarried c.args.lower.now c.args.upper.now c.args.vector.items n items in
    let after = subst P e c.loop-i.invariant in
    let place : c.loop-i.i - 1 < length items = omega (arith, after.places) in
    let read : c.index.result.now ≡ slice_index items (c.loop-i.i - 1) = omega (arith, get_or_default items (c.loop-i.i - 1) 0 c.index.result.now place) in
    let raised : c.index_mut.result.now ≡ slice_index items (c.loop-i.i - 1) = omega (arith, get_or_default items (c.loop-i.i - 1) 0 c.index_mut.result.now place) in
    rw raised
    (raised-next c.args.lower.now c.args.upper.now c.args.vector.items (c.loop-i.i - 1) _ c.requires (omega (arith, after.places))
    (raised_at c.args.lower.now c.args.upper.now c.args.vector.items (c.loop-i.i - 1) items (omega (arith, after.places)) after (omega (arith, read, c.if-index-upper.true))))

pub returns : goal.returns
returns c =
    let e : c.loop-i.i ≡ 0 = omega arith in
    let P : ℕ → Type 0 = λ n. IsCarried c.args.lower.now c.args.upper.now c.args.vector.items n c.loop-i.vector.items in
    carried_all c.args.lower.now c.args.upper.now c.args.vector.items c.loop-i.vector.items c.requires (subst P e c.loop-i.invariant)
