-- An order for a network has an answer: its critical length, its first late job, its plan, or that its ceilings are too low.
use Rattle.std.proofs.Common.{◌⊎◌, ℕ, zero, suc, ◌+◌, ◌<◌, ◌≤◌, inl, inr, List, length, slice_index, refl, arith}
use Rattle.std.proofs.lemmas.Bool.{cases_lt}
use Rattle.racp_model.specs.Project.{Project, duration, number}
use Rattle.racp_model.specs.Schedule.{EndsBy}
use Rattle.racp_model.specs.Path.{IsFirstLate, IsCriticalLength}
use Rattle.racp_model.specs.Terms.{release_of, due_of, cost}
use Rattle.racp_model.proofs.lemmas.Lists.{below_suc}
use Rattle.racp_cpm.specs.Laws.{CriticalIsGreatestFinish}
use Rattle.racp_cpm.proofs.lemmas.Openings.{not_too_long}
use Rattle.racp_cpm.proofs.lemmas.LastEnds.{some_last_end}
use Rattle.racp_cpm.proofs.lemmas.SomeEarly.{some_early}
use Rattle.racp_lexfix.specs.declared.answer.Answer.TheVariants.{Plan as ThePlan, Impossible, Due, Ceiling}
use Rattle.racp_lexfix.specs.Laws.{AnswerExists}
use Rattle.racp_lexfix.proofs.Existing.{plan_or_none}

-- the first number below n for which P holds, or Q for each
first_or_each : (P Q : ℕ → Type 0) (n : ℕ) → ((k : ℕ) → k < n → P k ⊎ Q k) → ((k : ℕ) × (k < n) × P k × ((q : ℕ) → q < k → Q q)) ⊎ ((k : ℕ) → k < n → Q k)
first_or_each P Q zero h = inr (λ k l. absurd (omega (arith, l)))
first_or_each P Q (suc n) h = elim (first_or_each P Q n (λ k l. h k (omega (arith, l)))) [
  | inl some ↦ inl (some.0, omega (arith, some.1), some.2, some.3)
  | inr each ↦ elim (h n (omega arith)) [
    | inl here ↦ inl (n, omega arith, here, each)
    | inr other ↦ inr (below_suc Q n each other)
  ]
]

-- a first job is late, or each is in time
late_or_ends : (p : Project) (due : ℕ → ℕ) (starts : List ℕ) → ((i : ℕ) × IsFirstLate p due starts i) ⊎ EndsBy p due starts
late_or_ends p due starts =
    elim (first_or_each (λ i. due i < slice_index starts i + duration p i) (λ i. slice_index starts i + duration p i ≤ due i) (length p.jobs) (λ i l. cases_lt (due i) (slice_index starts i + duration p i))) [
      | inl late ↦ inl (late.0, record { job = late.1; late = late.2; first = late.3 })
      | inr ends ↦ inr ends
    ]

-- so there is an answer
pub some_answer : CriticalIsGreatestFinish → AnswerExists
some_answer finish p terms sound t =
    let early = some_early p sound (release_of terms) 10000000 (λ i l. t.release i 0 (omega (arith, l, t.release_places))) in
    let last = some_last_end p early.0 sound in
    let critical : IsCriticalLength p (release_of terms) last.0 = (finish p (release_of terms) early.0 last.0 sound early.1).1 last.1 in
    elim (cases_lt terms.deadline last.0) [
      | inl long ↦ (Impossible last.0, record { length = critical; exceeds = long })
      | inr short ↦ elim (late_or_ends p (due_of terms) early.0) [
        | inl late ↦ (Due (number late.0), (late.0, refl, record { not_long = not_too_long p terms last.0 critical short; late = (early.0, early.1, late.1) }))
        | inr ends ↦ elim (plan_or_none p terms sound t) [
          | inl plan ↦ (
            ThePlan (record { deadline = terms.deadline; critical = last.0; cost = cost terms plan.0; capacities = plan.0; starts = plan.1 }),
            record { is_plan = plan.2; deadline = refl; cost = refl; critical = critical },
          )
          | inr none ↦ (Ceiling, record { in_time = (early.0, early.1, ends); none = none })
        ]
      ]
    ]
