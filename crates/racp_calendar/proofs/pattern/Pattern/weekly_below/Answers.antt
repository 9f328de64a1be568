use Rattle.std.proofs.Common.{◌≡◌, ℕ, ◌+◌, ◌*◌, ◌/◌, ◌%◌, arith, subst}
use Rattle.racp_calendar.specs.Work.{count_below, is_weekly}
use Rattle.racp_calendar.proofs.Places.{weeks_and_days}
use Rattle.racp_calendar.proofs.pattern.Pattern.weekly_below.Goals as goal

pub returns-clause-value : goal.returns-clause-value
returns-clause-value c =
    let day : c.args.day / 7 * 7 + c.args.day % 7 ≡ c.args.day = omega arith in
    let counted = subst (λ (n : ℕ). count_below (is_weekly c.args.self.now.week) n ≡ c.args.day / 7 * count_below (is_weekly c.args.self.now.week) 7 + count_below (is_weekly c.args.self.now.week) (c.args.day % 7)) day (weeks_and_days c.args.self.now.week (c.args.day / 7) (c.args.day % 7)) in
    cc
