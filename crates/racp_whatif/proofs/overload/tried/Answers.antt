use Rattle.std.proofs.Common.{ℕ, ◌-◌, ◌*◌, ◌<◌, inl, inr, IfSome, arith, ap, subst, sym}
use Rattle.racp_whatif.specs.Within.{IsOver}
use Rattle.racp_whatif.proofs.Overloads.{over-found}
use Rattle.racp_whatif.proofs.overload.tried.Goals as goal

pub returns-in-Some-clause-over : goal.returns-in-Some-clause-over
returns-in-Some-clause-over c =
    let Over = IsOver c.args.net.now c.args.window.now c.args.k c.args.units in
    let known : Over c.in-Some.best = subst (λ found. IfSome found Over) c.in-Some.is c.requires.best in
    let more : c.args.units * (c.args.times.until - c.args.times.from) < c.work_at-work.result.amount = omega (arith, c.if-work-room.false, ap (λ (n : ℕ). c.args.units * n) c.saturating_sub.ensures) in
    let tried : Over c.work_at-work.result = over-found c.args.net.now c.args.window.now c.args.k c.args.units c.work_at-work.result c.args.times c.work_at-work.ensures.times c.work_at-work.ensures.amount more in
    elim c.fewer.ensures [ inl is ↦ subst Over (sym is) known | inr is ↦ subst Over (sym is) tried ]

pub returns-in-None-clause-over : goal.returns-in-None-clause-over
returns-in-None-clause-over c =
    over-found c.args.net.now c.args.window.now c.args.k c.args.units c.work_at-work.result c.args.times c.work_at-work.ensures.times c.work_at-work.ensures.amount
    (omega (arith, c.if-work-room.false, ap (λ (n : ℕ). c.args.units * n) c.saturating_sub.ensures))
