use Rattle.std.proofs.Common.{◌∙◌, sym, true≢false}
use Rattle.racp_cutset.proofs.nogood.Nogood.is_over.Goals.{then-is_no_later_than, else-is_no_later_than, then-has_capacities_of, else-has_capacities_of, then-has_cutset_of, else-has_cutset_of}
use Rattle.racp_cutset.proofs.nogood.Nogood.is_over.Goals as goal

pub returns-then-is_sooner_than-clause-exact : goal.returns-then-is_sooner_than-clause-exact
returns-then-is_sooner_than-clause-exact g c = elim c.if-has_cutset_of.branch [
  | then-has_cutset_of sooner ↦ elim c.if-has_capacities_of.branch [
    | then-has_capacities_of cutset ↦ elim c.if-is_no_later_than.branch [
      | then-is_no_later_than room ↦
          let rows = sooner.is_sooner_than.ensures.0 (sym sooner.value-is ∙ c.if-is_sooner_than.true) in (
            λ yes. record {
              room = record { capacities = room.has_capacities_of.ensures.0 (sym room.value-is ∙ cutset.if-has_capacities_of.true); upper = c.has_upper_of.ensures.0 yes };
              cutset = cutset.has_cutset_of.ensures.0 (sym cutset.value-is ∙ sooner.if-has_cutset_of.true);
              ends = rows.0;
              lower = rows.1;
              fits = c.is_no_later_than.ensures.refuted.fits;
            },
            λ covered. c.has_upper_of.ensures.1 covered.room.upper,
          )
      | else-is_no_later_than w ↦ absurd (true≢false (sym cutset.if-has_capacities_of.true ∙ w.value-is ∙ w.if-is_no_later_than.false))
    ]
    | else-has_capacities_of w ↦ absurd (true≢false (sym sooner.if-has_cutset_of.true ∙ w.value-is ∙ w.if-has_capacities_of.false))
  ]
  | else-has_cutset_of w ↦ absurd (true≢false (sym c.if-is_sooner_than.true ∙ w.value-is ∙ w.if-has_cutset_of.false))
]

pub returns-else-is_sooner_than-clause-exact : goal.returns-else-is_sooner_than-clause-exact
returns-else-is_sooner_than-clause-exact g c = (
  λ yes. absurd (true≢false (sym yes ∙ c.if-is_sooner_than.false)),
  λ covered. elim c.if-has_cutset_of.branch [
    | then-has_cutset_of sooner ↦ sooner.value-is ∙ sooner.is_sooner_than.ensures.1 (covered.ends, covered.lower)
    | else-has_cutset_of w ↦ absurd (true≢false (elim c.if-has_capacities_of.branch [
      | then-has_capacities_of cutset ↦ sym (cutset.has_cutset_of.ensures.1 covered.cutset) ∙ sym cutset.value-is ∙ w.if-has_cutset_of.false
      | else-has_capacities_of u ↦ elim c.if-is_no_later_than.branch [
        | then-is_no_later_than room ↦ sym (room.has_capacities_of.ensures.1 covered.room.capacities) ∙ sym room.value-is ∙ u.if-has_capacities_of.false
        | else-is_no_later_than v ↦ sym (c.is_no_later_than.ensures.exact.1 covered.cutset.time) ∙ v.if-is_no_later_than.false
      ]
    ]))
  ],
)
