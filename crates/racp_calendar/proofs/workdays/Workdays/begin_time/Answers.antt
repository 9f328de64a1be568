use Rattle.std.proofs.Common.{arith}
use Rattle.racp_calendar.proofs.Numbers.{begun}
use Rattle.racp_calendar.proofs.workdays.Workdays.begin_time.Goals as goal

pub returns-then-number-first : goal.returns-then-number-first
returns-then-number-first c =
    begun c.args.self.now c.args.number 0 (omega arith)
    (omega (arith, c.if-number-first.true, c.capped-number.ensures, c.number_of-first.ensures.value))
    (λ sooner less. absurd (omega (arith, less)))

pub returns : goal.returns
returns c =
    let time = c.first_time.ensures.time in
    begun c.args.self.now c.args.number c.first_time.result c.first_time.ensures.small
    (omega (arith, time.keeps, c.if-number-first.false, c.capped-number.ensures, c.number_of-first.ensures.value))
    (λ sooner less. omega (arith, time.least sooner less, c.if-number-first.false, c.capped-number.ensures, c.number_of-first.ensures.value))
