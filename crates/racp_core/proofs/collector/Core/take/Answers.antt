use Rattle.std.proofs.Common.{◌≡◌, ◌++◌, ◌+◌, ◌<◌, ℕ, false, List, [], length, slice_set, Contains, subst, refl}
use Rattle.std.specs.Option.{option_to_list}
use Rattle.racp_core.specs.Machine.{QuestionRow, Machine, all_questions, row_at}
use Rattle.racp_core.specs.Steps.{HasNoOpen, IsPieceTaken}
use Rattle.racp_core.specs.Rows.{IsFirstReady}
use Rattle.racp_core.proofs.States.{state_read, taken_all}
use Rattle.racp_core.proofs.Taking.{none_ready, state_taken, taken_step, taken_formed}
use Rattle.racp_core.proofs.collector.Core.take.Goals as goal

pub returns-in_default-clause-step : goal.returns-in_default-clause-step
returns-in_default-clause-step g c =
    let i = c.self.inside in
    let m : Machine = record { asked = i.rows.items; to_come = option_to_list i.next ++ g.S.Series.questions i.series; least = i.least; taken = i.taken; ended = i.ended; halted = i.halted } in
    let none = subst (λ (rows : List QuestionRow). (k : ℕ) → Contains i.undecided k → k < length rows → (row_at rows k).ready ≡ []) c.deref.ensures.value c.in_default.ensures.none in (
      λ settled. (let e = c.if-is_settled.ensures.1 settled in absurd (cc e)),
      subst (λ (x : Machine). x.halted ≡ false) c.self.view_is c.if-self.false,
      subst (λ (x : Machine). HasNoOpen x) c.self.view_is (none_ready g.N.OfNetwork.network m i.undecided c.self.invariant none),
      refl,
    )

pub invariant_of-self : goal.invariant_of-self
invariant_of-self g c =
    let i = c.self.inside in
    let m : Machine = record { asked = i.rows.items; to_come = option_to_list i.next ++ g.S.Series.questions i.series; least = i.least; taken = i.taken; ended = i.ended; halted = i.halted } in
    let first : IsFirstReady i.rows.items i.undecided c.in-Some.index = subst (λ (rows : List QuestionRow). IsFirstReady rows i.undecided c.in-Some.index) c.deref.ensures.value c.in-Some.ensures.some in
    state_read g.N.OfNetwork.network m i.undecided c.in-Some.index c.index_mut-row.result.now c.take.new.self first.asked_there c.index_mut-row.ensures.value c.in_err-piece.ensures.err c.self.invariant

pub invariant_of-self-2 : goal.invariant_of-self-2
invariant_of-self-2 g c =
    let i = c.self.inside in
    let m : Machine = record { asked = i.rows.items; to_come = option_to_list i.next ++ g.S.Series.questions i.series; least = i.least; taken = i.taken; ended = i.ended; halted = i.halted } in
    let first : IsFirstReady i.rows.items i.undecided c.in-Some.index = subst (λ (rows : List QuestionRow). IsFirstReady rows i.undecided c.in-Some.index) c.deref.ensures.value c.in-Some.ensures.some in
    state_taken g.N.OfNetwork.network m i.undecided c.self.invariant c.in-Some.index i.taken c.args.seat c.index_mut-row.result.now c.take.new.self c.in_ok-piece.piece first c.index_mut-row.ensures.value c.in_ok-piece.ensures.ok (i.taken + 1)

pub returns-clause-step : goal.returns-clause-step
returns-clause-step g c =
    let i = c.self.inside in
    let m : Machine = record { asked = i.rows.items; to_come = option_to_list i.next ++ g.S.Series.questions i.series; least = i.least; taken = i.taken; ended = i.ended; halted = i.halted } in
    let first : IsFirstReady i.rows.items i.undecided c.in-Some.index = subst (λ (rows : List QuestionRow). IsFirstReady rows i.undecided c.in-Some.index) c.deref.ensures.value c.in-Some.ensures.some in (
      λ settled. (let e = c.if-is_settled.ensures.1 settled in absurd (cc e)),
      subst (λ (x : Machine). x.halted ≡ false) c.self.view_is c.if-self.false,
      subst (λ (x : Machine). IsPieceTaken x c.args.seat c.in_ok-piece.piece (record m { asked = slice_set i.rows.items c.in-Some.index c.take.new.self; taken = i.taken + 1 })) c.self.view_is (taken_step g.N.OfNetwork.network m i.undecided c.self.invariant c.in-Some.index i.taken c.args.seat c.index_mut-row.result.now c.take.new.self c.in_ok-piece.piece first c.index_mut-row.ensures.value c.in_ok-piece.ensures.ok refl),
    )

pub returns-clause-formed : goal.returns-clause-formed
returns-clause-formed g c =
    let i = c.self.inside in
    let m : Machine = record { asked = i.rows.items; to_come = option_to_list i.next ++ g.S.Series.questions i.series; least = i.least; taken = i.taken; ended = i.ended; halted = i.halted } in
    let first : IsFirstReady i.rows.items i.undecided c.in-Some.index = subst (λ (rows : List QuestionRow). IsFirstReady rows i.undecided c.in-Some.index) c.deref.ensures.value c.in-Some.ensures.some in
    taken_formed g.N.OfNetwork.network m i.undecided c.self.invariant c.in-Some.index i.taken c.args.seat c.index_mut-row.result.now c.take.new.self c.in_ok-piece.piece first c.index_mut-row.ensures.value c.in_ok-piece.ensures.ok

pub returns-clause-questions : goal.returns-clause-questions
returns-clause-questions g c =
    let i = c.self.inside in
    let m : Machine = record { asked = i.rows.items; to_come = option_to_list i.next ++ g.S.Series.questions i.series; least = i.least; taken = i.taken; ended = i.ended; halted = i.halted } in
    let first : IsFirstReady i.rows.items i.undecided c.in-Some.index = subst (λ (rows : List QuestionRow). IsFirstReady rows i.undecided c.in-Some.index) c.deref.ensures.value c.in-Some.ensures.some in
    let new : Machine = record m { asked = slice_set i.rows.items c.in-Some.index c.take.new.self; taken = i.taken + 1 } in
    subst (λ (x : Machine). all_questions new ≡ all_questions x) c.self.view_is (taken_all m c.args.seat c.in_ok-piece.piece new (taken_step g.N.OfNetwork.network m i.undecided c.self.invariant c.in-Some.index i.taken c.args.seat c.index_mut-row.result.now c.take.new.self c.in_ok-piece.piece first c.index_mut-row.ensures.value c.in_ok-piece.ensures.ok refl))
