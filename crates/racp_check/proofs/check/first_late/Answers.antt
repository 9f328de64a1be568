use Rattle.std.proofs.Common.{◌≡◌, ◌∙◌, ℕ, ◌+◌, ◌<◌, ◌≤◌, ap, arith, length, min, refl, slice_index, subst, sym}
use Rattle.std.proofs.lemmas.List.{get_or_read_under}
use Rattle.racp_model.specs.Project.{number, duration}
use Rattle.racp_model.specs.Path.{IsFirstLate}
use Rattle.racp_model.specs.Terms.{Terms, due_of}
use Rattle.racp_model.proofs.lemmas.Lists.{below_suc}
use Rattle.racp_check.proofs.check.first_late.Goals as goal

pub loop-i-preserved : goal.loop-i-preserved
loop-i-preserved c =
    let p = c.args.net.now in
    let order = c.order.inside in
    let i : ℕ = c.loop-i.i in
    let due : c.index.result.now ≡ slice_index order.due.items i = get_or_read_under order.due.items i (length p.jobs) c.index.result.now 0 c.index.ensures (omega (arith, c.loop-i-test.true, c.job_count-i-end.ensures.count)) (sym (ap (λ (t : Terms). length t.due) c.order.view_is ∙ c.requires.terms.due_places)) in
    let least : c.min-due.result ≡ min (slice_index order.due.items i) order.deadline = grind (arith, c.min-due.ensures, due) in
    let P : ℕ → Type 0 = λ q. slice_index c.args.starts.now q + duration p q ≤ min (slice_index order.due.items q) order.deadline in
    λ q l. below_suc P i c.loop-i.invariant (omega (arith, c.if-due-starts.false, c.duration.ensures, least)) q (omega (arith, l))

pub returns-then-due-starts : goal.returns-then-due-starts
returns-then-due-starts c =
    let p = c.args.net.now in
    let order = c.order.inside in
    let i : ℕ = c.loop-i.i in
    let job : i < length p.jobs = omega (arith, c.loop-i-test.true, c.job_count-i-end.ensures.count) in
    let due : c.index.result.now ≡ slice_index order.due.items i = get_or_read_under order.due.items i (length p.jobs) c.index.result.now 0 c.index.ensures job (sym (ap (λ (t : Terms). length t.due) c.order.view_is ∙ c.requires.terms.due_places)) in
    let least : c.min-due.result ≡ min (slice_index order.due.items i) order.deadline = grind (arith, c.min-due.ensures, due) in
    subst (λ (t : Terms). (x : ℕ) × (number x ≡ i + 1) × IsFirstLate p (due_of t) c.args.starts.now x) c.order.view_is
    (i, refl, record { job = job; late = omega (arith, c.if-due-starts.true, c.duration.ensures, least); first = c.loop-i.invariant })
