use Rattle.std.proofs.Common.{◌≡◌, ◌∙◌, ◌<◌, List, [], ℕ, length, subst, arith, refl}
use Rattle.std.specs.Ordering.{nat_cmp}
use Rattle.std.specs.List.Sorted.{IsStrictlySortedBy}
use Rattle.std.proofs.lemmas.List.{get_or_read}
use Rattle.racp_core.specs.Machine.{QuestionRow, row_at, no_row}
use Rattle.racp_core.proofs.Places.{look_start, look_step, look_found, look_end, none_ready}
use Rattle.racp_core.proofs.undecided.Undecided.first_ready.Goals.{else-place-rows-via-then-place-rows+else-has_open, else-place-rows-via-else-place-rows}
use Rattle.racp_core.proofs.undecided.Undecided.first_ready.Goals as goal

pub loop-place-init : goal.loop-place-init
loop-place-init c =
    let given = c.into_iter-place-iterator.ensures.into_iter_gives in
    (tt, tt, look_start c.args.rows.now c.args.self.now c.into_iter-place-iterator.result (given.0 ∙ c.self.view_is) (subst (λ (xs : List ℕ). IsStrictlySortedBy nat_cmp xs) c.self.view_is given.4))

pub returns-then-has_open-clause-some : goal.returns-then-has_open-clause-some
returns-then-has_open-clause-some c =
    let row : c.index-rows-place.result ≡ row_at c.args.rows.now c.in-Some.field-0.now =
    get_or_read c.args.rows.now c.in-Some.field-0.now c.index-rows-place.result c.if-place-rows.true c.index-rows-place.is no_row in
    look_found c.args.rows.now c.args.self.now c.loop-place.place-iterator c.next.new.self c.in-Some.field-0.now c.loop-place.invariant.2 c.in-Some.ensures.steps c.if-place-rows.true
    (subst (λ (r : QuestionRow). 0 < length r.ready) row (c.if-has_open.ensures.0 refl))

pub loop-place-preserved : goal.loop-place-preserved
loop-place-preserved c =
    let step = look_step c.args.rows.now c.args.self.now c.loop-place.place-iterator c.next.new.self c.in-Some.field-0.now c.loop-place.invariant.2 c.in-Some.ensures.steps in
    elim c.else-place-rows.branch [
      | else-place-rows-via-then-place-rows+else-has_open w ↦
          let row : w.index-rows-place.result ≡ row_at c.args.rows.now c.in-Some.field-0.now =
          get_or_read c.args.rows.now c.in-Some.field-0.now w.index-rows-place.result w.if-place-rows.true w.index-rows-place.is no_row in
          (tt, tt, step (λ l. subst (λ (r : QuestionRow). r.ready ≡ []) row (none_ready w.index-rows-place.result (λ some. (let e = w.if-has_open.ensures.1 some in absurd (cc e))))))
      | else-place-rows-via-else-place-rows w ↦ (tt, tt, step (λ l. absurd (omega (arith, l, w.if-place-rows.false))))
    ]

pub returns-clause-none : goal.returns-clause-none
returns-clause-none c = look_end c.args.rows.now c.args.self.now c.loop-place.place-iterator c.loop-place.invariant.2 c.in-None.ensures.steps.0
