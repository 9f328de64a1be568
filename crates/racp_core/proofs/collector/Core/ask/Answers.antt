use Rattle.std.proofs.Common.{◌≡◌, ◌∙◌, ◌++◌, ◌-◌, Bool, true, false, true≢false, List, [], Option, None, length, ap, refl, sym, subst, arith}
use Rattle.std.proofs.lemmas.Result.{err_from_is_err_and}
use Rattle.std.specs.Option.{option_to_list, is_some}
use Rattle.racp_model.specs.declared.question.Question.{Question}
use Rattle.racp_core.specs.Machine.{Machine, KnownYes, all_questions}
use Rattle.racp_core.specs.Steps.{IsNextAsked}
use Rattle.racp_core.specs.Rows.{IsOpenedIf}
use Rattle.racp_core.proofs.Asking.{state_held, state_opened, opened_step, opened_all, state_ended, come_none, ended_is, none_from}
use Rattle.racp_core.proofs.collector.Core.ask.Goals as goal

pub invariant_of-self-in_err-open : goal.invariant_of-self-in_err-open
invariant_of-self-in_err-open g c =
    let i = c.self.inside in
    let m : Machine = record { asked = i.rows.items; to_come = option_to_list i.next ++ g.S.Series.questions i.series; least = i.least; taken = i.taken; ended = i.ended; halted = i.halted } in
    rw (c.in_err-open.ensures.rows, c.in_err-open.ensures.next, c.in_err-open.ensures.undecided) (state_held g.N.OfNetwork.network m i.undecided (option_to_list c.fetch.new.next ++ g.S.Series.questions c.fetch.new.series) c.in_ok-fetch.ensures.same c.self.invariant)

pub invariant_of-self-then-branch : goal.invariant_of-self-then-branch
invariant_of-self-then-branch g c =
    let i = c.self.inside in
    let m : Machine = record { asked = i.rows.items; to_come = option_to_list i.next ++ g.S.Series.questions i.series; least = i.least; taken = i.taken; ended = i.ended; halted = i.halted } in
    let opening = subst (λ (b : Bool). IsOpenedIf c.fetch.new.next i.rows.items i.undecided b c.open.new.next c.open.new.rows.items c.open.new.undecided) c.if-branch.true c.in_ok-open.ensures.ok in
    state_opened g.N.OfNetwork.network m i.undecided c.open.new.undecided c.fetch.new.next c.open.new.next (g.S.Series.questions c.fetch.new.series) c.open.new.rows.items (none_from i.least (sym c.if-is_some.ensures)) c.in_ok-fetch.ensures.same opening c.self.invariant

pub invariant_of-self-else-branch : goal.invariant_of-self-else-branch
invariant_of-self-else-branch g c =
    let i = c.self.inside in
    let m : Machine = record { asked = i.rows.items; to_come = option_to_list i.next ++ g.S.Series.questions i.series; least = i.least; taken = i.taken; ended = i.ended; halted = i.halted } in
    let opening = subst (λ (b : Bool). IsOpenedIf c.fetch.new.next i.rows.items i.undecided b c.open.new.next c.open.new.rows.items c.open.new.undecided) c.if-branch.false c.in_ok-open.ensures.ok in
    state_ended g.N.OfNetwork.network m i.undecided c.open.new.undecided c.fetch.new.next c.open.new.next (g.S.Series.questions c.fetch.new.series) c.open.new.rows.items c.in_ok-fetch.ensures.same c.in_ok-fetch.ensures.ended opening c.self.invariant

pub returns-then-branch-clause-step : goal.returns-then-branch-clause-step
returns-then-branch-clause-step g c =
    let i = c.self.inside in
    let m : Machine = record { asked = i.rows.items; to_come = option_to_list i.next ++ g.S.Series.questions i.series; least = i.least; taken = i.taken; ended = i.ended; halted = i.halted } in
    let opening = subst (λ (b : Bool). IsOpenedIf c.fetch.new.next i.rows.items i.undecided b c.open.new.next c.open.new.rows.items c.open.new.undecided) c.if-branch.true c.in_ok-open.ensures.ok in
    let new : Machine = record m { asked = c.open.new.rows.items; to_come = option_to_list c.open.new.next ++ g.S.Series.questions c.fetch.new.series } in
    let last : c.len.result - 1 ≡ length c.open.new.rows.items - 1 = omega (arith, c.open.new.rows.ok.0) in
    subst (λ (x : Machine). IsNextAsked x new (c.len.result - 1)) c.self.view_is
    (opened_step g.N.OfNetwork.network m i.undecided c.open.new.undecided c.fetch.new.next c.open.new.next (g.S.Series.questions c.fetch.new.series) c.open.new.rows.items (none_from i.least (sym c.if-is_some.ensures)) c.in_ok-fetch.ensures.same opening (c.len.result - 1) c.if-self.false last)

pub returns-then-self-clause-step : goal.returns-then-self-clause-step
returns-then-self-clause-step g c = (subst (λ (x : Machine). x.halted ≡ true) c.self.view_is c.if-self.true, refl)

pub returns-then-is_some-clause-step : goal.returns-then-is_some-clause-step
returns-then-is_some-clause-step g c = (
  subst (λ (x : Machine). x.halted ≡ false) c.self.view_is c.if-self.false,
  λ none. absurd (true≢false (c.if-is_some.ensures ∙ ap (λ (o : Option KnownYes). is_some o) (ap (λ (x : Machine). x.least) c.self.view_is ∙ none))),
  refl,
)

pub returns-else-branch-clause-step : goal.returns-else-branch-clause-step
returns-else-branch-clause-step g c =
    let i = c.self.inside in
    let m : Machine = record { asked = i.rows.items; to_come = option_to_list i.next ++ g.S.Series.questions i.series; least = i.least; taken = i.taken; ended = i.ended; halted = i.halted } in
    let opening = subst (λ (b : Bool). IsOpenedIf c.fetch.new.next i.rows.items i.undecided b c.open.new.next c.open.new.rows.items c.open.new.undecided) c.if-branch.false c.in_ok-open.ensures.ok in (
      subst (λ (x : Machine). x.halted ≡ false) c.self.view_is c.if-self.false,
      subst (λ (x : Machine). x.least ≡ None) c.self.view_is (none_from i.least (sym c.if-is_some.ensures)),
      subst (λ (x : Machine). x.to_come ≡ []) c.self.view_is (come_none g.N.OfNetwork.network m i.undecided c.open.new.undecided c.fetch.new.next c.open.new.next (g.S.Series.questions c.fetch.new.series) c.open.new.rows.items c.in_ok-fetch.ensures.same c.in_ok-fetch.ensures.ended opening),
      ended_is g.N.OfNetwork.network m i.undecided c.open.new.undecided c.fetch.new.next c.open.new.next (g.S.Series.questions c.fetch.new.series) c.open.new.rows.items c.in_ok-fetch.ensures.same c.in_ok-fetch.ensures.ended opening
          ∙ ap (λ (x : Machine). record x { ended = true }) c.self.view_is,
    )

pub returns-else-branch-clause-questions : goal.returns-else-branch-clause-questions
returns-else-branch-clause-questions g c =
    let i = c.self.inside in
    let m : Machine = record { asked = i.rows.items; to_come = option_to_list i.next ++ g.S.Series.questions i.series; least = i.least; taken = i.taken; ended = i.ended; halted = i.halted } in
    let opening = subst (λ (b : Bool). IsOpenedIf c.fetch.new.next i.rows.items i.undecided b c.open.new.next c.open.new.rows.items c.open.new.undecided) c.if-branch.false c.in_ok-open.ensures.ok in
    ap all_questions
    (ended_is g.N.OfNetwork.network m i.undecided c.open.new.undecided c.fetch.new.next c.open.new.next (g.S.Series.questions c.fetch.new.series) c.open.new.rows.items c.in_ok-fetch.ensures.same c.in_ok-fetch.ensures.ended opening)
    ∙ ap all_questions c.self.view_is

pub returns-in_err-fetch-clause-err : goal.returns-in_err-fetch-clause-err
returns-in_err-fetch-clause-err g c =
    let i = c.self.inside in
    let m : Machine = record { asked = i.rows.items; to_come = option_to_list i.next ++ g.S.Series.questions i.series; least = i.least; taken = i.taken; ended = i.ended; halted = i.halted } in
    let p = err_from_is_err_and c.from_residual.result c.from_residual.ensures.1 in
    rw p.1 (ap (λ (qs : List Question). record m { to_come = qs }) c.fetch.ensures.same ∙ c.self.view_is)

pub returns-in_err-fetch-clause-questions : goal.returns-in_err-fetch-clause-questions
returns-in_err-fetch-clause-questions g c =
    let i = c.self.inside in
    let m : Machine = record { asked = i.rows.items; to_come = option_to_list i.next ++ g.S.Series.questions i.series; least = i.least; taken = i.taken; ended = i.ended; halted = i.halted } in
    ap (λ (qs : List Question). all_questions (record m { to_come = qs })) c.fetch.ensures.same ∙ ap all_questions c.self.view_is

pub returns-in_err-open-clause-err : goal.returns-in_err-open-clause-err
returns-in_err-open-clause-err g c =
    let i = c.self.inside in
    let m : Machine = record { asked = i.rows.items; to_come = option_to_list i.next ++ g.S.Series.questions i.series; least = i.least; taken = i.taken; ended = i.ended; halted = i.halted } in
    let p = err_from_is_err_and c.from_residual-in_err-open.result c.from_residual-in_err-open.ensures.1 in
    rw (p.1, c.in_err-open.ensures.rows, c.in_err-open.ensures.next) (ap (λ (qs : List Question). record m { to_come = qs }) c.fetch.ensures.same ∙ c.self.view_is)

pub returns-in_err-open-clause-questions : goal.returns-in_err-open-clause-questions
returns-in_err-open-clause-questions g c =
    let i = c.self.inside in
    let m : Machine = record { asked = i.rows.items; to_come = option_to_list i.next ++ g.S.Series.questions i.series; least = i.least; taken = i.taken; ended = i.ended; halted = i.halted } in
    rw (c.in_err-open.ensures.rows, c.in_err-open.ensures.next) (ap (λ (qs : List Question). all_questions (record m { to_come = qs })) c.fetch.ensures.same ∙ ap all_questions c.self.view_is)

pub returns-then-branch-clause-questions : goal.returns-then-branch-clause-questions
returns-then-branch-clause-questions g c =
    let i = c.self.inside in
    let m : Machine = record { asked = i.rows.items; to_come = option_to_list i.next ++ g.S.Series.questions i.series; least = i.least; taken = i.taken; ended = i.ended; halted = i.halted } in
    let opening = subst (λ (b : Bool). IsOpenedIf c.fetch.new.next i.rows.items i.undecided b c.open.new.next c.open.new.rows.items c.open.new.undecided) c.if-branch.true c.in_ok-open.ensures.ok in
    opened_all g.N.OfNetwork.network m i.undecided c.open.new.undecided c.fetch.new.next c.open.new.next (g.S.Series.questions c.fetch.new.series) c.open.new.rows.items (none_from i.least (sym c.if-is_some.ensures)) c.in_ok-fetch.ensures.same opening
    ∙ ap all_questions c.self.view_is
