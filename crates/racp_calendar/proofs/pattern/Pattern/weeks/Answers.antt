use Rattle.std.proofs.Common.{◌≡◌, ℕ, List, not, subst, sym, true}
use Rattle.racp_calendar.specs.Work.{are_rising, has_work, is_worked}
use Rattle.racp_calendar.proofs.Weeks.{all_days, all_have, weeks_rise, weeks_worked}
use Rattle.racp_calendar.proofs.pattern.Pattern.weeks.Goals as goal

pub invariant_of-result-clause-some : goal.invariant_of-result-clause-some
invariant_of-result-clause-some c = all_have

pub invariant_of-result-clause-rising : goal.invariant_of-result-clause-rising
invariant_of-result-clause-rising c =
    let pattern = c.args.self.now in
    subst (λ (free : List ℕ). are_rising all_days 0 free ≡ true) (sym c.in_ok-free.ensures.weeks) (weeks_rise (λ (n : ℕ). not (has_work (is_worked pattern.week pattern.free.items) 7 n)) 0 pattern.free.items)

pub returns : goal.returns
returns c =
    let pattern = c.args.self.now in
    λ week. subst (λ (free : List ℕ). is_worked all_days free week ≡ has_work (is_worked pattern.week pattern.free.items) 7 week) (sym c.in_ok-free.ensures.weeks) (weeks_worked pattern.week pattern.free.items week pattern.rising pattern.some)
