-- Work that is more than units can do.
use Rattle.std.proofs.Common.{◌≡◌, ℕ, ◌-◌, ◌*◌, ◌<◌, inl, inr, length, arith, subst, sym}
use Rattle.std.proofs.lemmas.Bool.{cases_lt}
use Rattle.racp_clauses.specs.Rules.{least_work}
use Rattle.racp_clauses.specs.declared.time_table.Times.{Times}
use Rattle.racp_model.specs.Project.{Project}
use Rattle.racp_model.specs.Schedule.{sum_below}
use Rattle.racp_model.specs.Window.{Bounds}
use Rattle.racp_whatif.specs.Within.{IsOver}
use Rattle.racp_whatif.specs.declared.work.Work.{Work}
use Rattle.racp_whatif.proofs.Works.{work-none}

-- there are such times only if there are some
pub over-found : (p : Project) (window : Bounds) (k units : ℕ) (work : Work) (times : Times) → work.times ≡ times → work.amount ≡ sum_below (length p.jobs) (least_work p window k times.from times.until) →
    units * (times.until - times.from) < work.amount → IsOver p window k units work
over-found p window k units work times same amount more =
    let P : Times → Type 0 = λ t. (work.amount ≡ sum_below (length p.jobs) (least_work p window k t.from t.until)) × (units * (t.until - t.from) < work.amount) in
    let at : P work.times = subst P (sym same) (amount, more) in
    record {
      some = elim (cases_lt work.times.from work.times.until) [ inl is ↦ is | inr past ↦ absurd (omega (arith, at.0, at.1, work-none p window k work.times.from work.times.until past)) ];
      amount = at.0;
      more = at.1;
    }
