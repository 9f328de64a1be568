use Rattle.std.proofs.Common.{ℕ, get_or, length, ◌<◌, arith, ap, List}
use Rattle.std.proofs.Math.Seq.{drop-cons}
use Rattle.racp_calendar.proofs.Frees.{none_left, worked_and_free}
use Rattle.racp_calendar.proofs.pattern.Pattern.below.Goals as goal

pub loop-free-init : goal.loop-free-init
loop-free-init c =
    let pattern = c.args.self.now in
    let all = worked_and_free pattern.week pattern.free.items c.args.day pattern.rising in
    (omega (arith, all, c.weekly_below-count.ensures.value), omega (arith, c.weekly_below-count.ensures.within), (0, pattern.rising))

pub returns-then-day-free-clause-value : goal.returns-then-day-free-clause-value
returns-then-day-free-clause-value c =
    let days = c.args.self.now.free.items in
    let here : c.loop-free.free-index < length days = omega arith in
    let first = drop-cons days c.loop-free.free-index 0 here in
    let same = ap (λ (all : List ℕ). get_or all c.loop-free.free-index 0) c.as_slice-free-items.ensures.value in
    let none = none_left c.args.self.now.week c.loop-free.invariant.2.0 _ _ _ c.args.day first c.loop-free.invariant.2.1 (omega (arith, c.if-day-free.true, same)) in
    omega (arith, c.loop-free.invariant.0, none)
