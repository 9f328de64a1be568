use Rattle.std.proofs.Common.{◌≡◌, ℕ, ◌+◌, ◌≤◌, inl, inr, slice_index, arith, subst}
use Rattle.std.proofs.lemmas.Bool.{cases_lt}
use Rattle.racp_model.specs.Project.{duration}
use Rattle.racp_model.specs.Schedule.{roof}
use Rattle.racp_whatif.specs.Fitting.{WorkFitsFrom}
use Rattle.racp_whatif.proofs.Works.{fits-roof}
use Rattle.racp_whatif.proofs.overload.overload.Goals as goal

pub returns-then-roof_of-units-clause-none : goal.returns-then-roof_of-units-clause-none
returns-then-roof_of-units-clause-none c =
    let p = c.args.net.now in
    let w = c.args.window.now in
    let enough : roof p c.args.k ≤ c.args.units = omega (arith, c.if-roof_of-units.true, c.roof_of.ensures) in
    λ e i l. record {
      core = fits-roof p w c.args.k (slice_index w.upper i) (slice_index w.upper i + 1) c.args.units enough;
      spans = λ j m. fits-roof p w c.args.k (slice_index w.lower i) (slice_index w.upper j + duration p j) c.args.units enough;
    }

pub loop-i-preserved : goal.loop-i-preserved
loop-i-preserved c = record {
  over = c.tried_from-best.ensures.over;
  none = λ e i l.
      let none = c.tried_from-best.ensures.none e in
      elim (cases_lt i c.loop-i.i) [
        | inl before ↦ c.loop-i.invariant.none none.0 i before
        | inr at ↦ let same : c.loop-i.i ≡ i = omega (arith, l, at) in subst (λ (q : ℕ). WorkFitsFrom c.args.net.now c.args.window.now c.args.k c.args.units q) same none.1
      ];
}

pub returns-clause-none : goal.returns-clause-none
returns-clause-none c = λ e i l. c.loop-i.invariant.none e i (omega (arith, l, c.loop-i-test.false, c.loop-i.auto.i-end, c.job_count-i-end.ensures.count))
