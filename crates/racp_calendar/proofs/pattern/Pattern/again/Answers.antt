use Rattle.std.proofs.Common.{◌≡◌, ℕ, ◌∙◌, List, subst, sym}
use Rattle.racp_calendar.specs.Work.{has_work, is_worked}
use Rattle.racp_calendar.proofs.Weeks.{day_worked}
use Rattle.racp_calendar.proofs.pattern.Pattern.again.Goals as goal

pub returns : goal.returns
returns c =
    let pattern = c.args.self.now in
    λ day. subst (λ (free : List ℕ). is_worked pattern.week free day ≡ has_work (is_worked pattern.week pattern.free.items) 1 day)
    (sym (c.in_ok-free.ensures.items ∙ c.as_slice.ensures.value)) (day_worked (is_worked pattern.week pattern.free.items) day)
