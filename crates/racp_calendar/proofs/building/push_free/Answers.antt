use Rattle.std.proofs.Common.{◌≡◌, ◌∙◌, ◌+◌, ◌&&◌, ◌||◌, ℕ, Bool, List, ap, arith, max, nat_le, subst, sym}
use Rattle.racp_calendar.specs.Holidays.{day_number}
use Rattle.racp_calendar.specs.Work.{is_free}
use Rattle.racp_calendar.proofs.Offs.{all_pushed, between, nothing_yet, pushed}
use Rattle.racp_calendar.proofs.building.push_free.Goals as goal

pub loop-number-init : goal.loop-number-init
loop-number-init c =
    let a = day_number c.args.holiday.now.first in
    let start = c.number_of-start.result in
    let free = c.args.days.now.items in
    let from : c.later-from.result ≡ max a start = c.later-from.ensures ∙ ap (λ (n : ℕ). max n start) c.number_of.ensures.value in
    (λ day. subst (λ (n : ℕ). is_free free day ≡ (is_free free day || between a start n day)) (sym from) (nothing_yet a start day (is_free free day)), c.requires, omega (arith, from), omega (arith, from), omega (arith, from))

pub loop-number-preserved : goal.loop-number-preserved
loop-number-preserved c =
    let a = day_number c.args.holiday.now.first in
    let start = c.number_of-start.result in
    let free = c.args.days.now.items in
    let kept = c.loop-number.invariant in (
      λ day. subst (λ (all : List ℕ). is_free all day ≡ (is_free free day || between a start (c.loop-number.number + 1) day)) (sym c.in_ok-push.ensures.items) (pushed free c.loop-number.days.items a start c.loop-number.number day kept.2 kept.3 (kept.0 day)),
      omega (arith, c.in_ok-push.ensures.len),
      omega arith,
      omega arith,
      omega arith,
    )

pub returns-clause-free : goal.returns-clause-free
returns-clause-free c =
    let a = day_number c.args.holiday.now.first in
    let start = c.number_of-start.result in
    let last = day_number c.args.holiday.now.last in
    let free = c.args.days.now.items in
    let kept = c.loop-number.invariant in
    let from : c.later-from.result ≡ max a start = c.later-from.ensures ∙ ap (λ (n : ℕ). max n start) c.number_of.ensures.value in
    let end = c.number_of-end.ensures.value in
    λ day. kept.0 day
    ∙ ap (λ (b : Bool). is_free free day || b) (all_pushed a start last c.loop-number.number day (omega (arith, end)) (omega (arith, end, from)) (omega (arith, from)))
    ∙ ap (λ (s : ℕ). is_free free day || (nat_le a (s + day) && nat_le (s + day) last)) c.number_of-start.ensures.value
