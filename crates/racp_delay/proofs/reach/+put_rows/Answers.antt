use Rattle.std.proofs.Common.{ℕ, ◌∷◌, List, subst, sym}
use Rattle.racp_delay.specs.Reach.{AreDivisors, AreRows}
use Rattle.racp_delay.proofs.Reaching.{divisors-more, rows-more}
use Rattle.racp_delay.proofs.reach.+put_rows.Goals as goal

pub returns-clause-all : goal.returns-clause-all
returns-clause-all t c =
    let more : AreDivisors c.args.net.now (c.in-Some.job.now ∷ c.in-Some.others.now) c.with_requests-row.result =
    divisors-more c.args.net.now c.in-Some.job.now c.in-Some.others.now c.in_ok-row.row c.with_requests-row.result c.in_ok-row.ensures.all c.with_requests-row.ensures.row c.with_requests-row.ensures.job in
    subst (λ (xs : List ℕ). AreDivisors c.args.net.now xs c.with_requests-row.result) (sym c.in-Some.ensures.cases.0) more

pub returns-clause-rows : goal.returns-clause-rows
returns-clause-rows t c =
    let more : AreDivisors c.args.net.now (c.in-Some.job.now ∷ c.in-Some.others.now) c.with_requests-row.result =
    divisors-more c.args.net.now c.in-Some.job.now c.in-Some.others.now c.in_ok-row.row c.with_requests-row.result c.in_ok-row.ensures.all c.with_requests-row.ensures.row c.with_requests-row.ensures.job in
    subst (λ (xs : List ℕ). AreRows c.args.net.now xs c.push-2.new.self.items) (sym c.in-Some.ensures.cases.0)
    (subst (λ (rs : List (List ℕ)). AreRows c.args.net.now (c.in-Some.job.now ∷ c.in-Some.others.now) rs) (sym c.in_ok-push-2.ensures.items)
    (rows-more c.args.net.now c.in-Some.job.now c.in-Some.others.now c.with_requests-row.result c.put_rows.new.rows.items c.in_ok-row.ensures.count c.in_ok-row.ensures.rows more))
