use Rattle.std.proofs.Common.{◌≡◌, ◌++◌, ◌∙◌, ℕ, Some, None, length, ap, sym, subst, arith}
use Rattle.std.specs.Option.{option_to_list}
use Rattle.racp_questions.specs.FirstYes.{IsFirstYes, AreNoBefore}
use Rattle.racp_core.specs.Machine.{KnownYes, Machine, all_questions, IsSettled}
use Rattle.racp_core.specs.Replies.{IsFirstOpen, IsYesKnown}
use Rattle.racp_core.proofs.Verdicts.{settled_yes, settled_none, pending_first, pending_running, first_open, first_end, known_open, known_first, known_none}
use Rattle.racp_core.proofs.collector.Core.answer.Goals as goal

pub returns-in-Some-clause-answer : goal.returns-in-Some-clause-answer
returns-in-Some-clause-answer g c =
    let i = c.self.inside in
    let m : Machine = record { asked = i.rows.items; to_come = option_to_list i.next ++ g.S.Series.questions i.series; least = i.least; taken = i.taken; ended = i.ended; halted = i.halted } in
    let P : Machine → Type 0 = λ x. (IsSettled x → ⊥) × IsFirstOpen x c.in-Some.first_open in
    subst P c.self.view_is (pending_first g.N.OfNetwork.network m i.undecided c.self.invariant c.in-Some.first_open c.in-Some.ensures.some, first_open g.N.OfNetwork.network m i.undecided c.self.invariant c.in-Some.first_open c.in-Some.ensures.some)

pub returns-in-Some-clause-known : goal.returns-in-Some-clause-known
returns-in-Some-clause-known g c =
    let i = c.self.inside in
    let m : Machine = record { asked = i.rows.items; to_come = option_to_list i.next ++ g.S.Series.questions i.series; least = i.least; taken = i.taken; ended = i.ended; halted = i.halted } in
    subst (λ (x : Machine). AreNoBefore g.N.OfNetwork.network (all_questions x) c.in-Some.first_open) c.self.view_is
    (known_open g.N.OfNetwork.network m c.self.invariant.sound c.in-Some.first_open (pending_first g.N.OfNetwork.network m i.undecided c.self.invariant c.in-Some.first_open c.in-Some.ensures.some) (first_open g.N.OfNetwork.network m i.undecided c.self.invariant c.in-Some.first_open c.in-Some.ensures.some))

pub returns-in-Some-least-clause-answer : goal.returns-in-Some-least-clause-answer
returns-in-Some-least-clause-answer g c =
    let i = c.self.inside in
    let m : Machine = record { asked = i.rows.items; to_come = option_to_list i.next ++ g.S.Series.questions i.series; least = i.least; taken = i.taken; ended = i.ended; halted = i.halted } in
    let y : KnownYes = record { index = c.least.inside.index; starts = c.least.inside.starts } in
    let is : i.least ≡ Some y = c.in-Some-least.is ∙ ap (λ (b : KnownYes). Some b) (sym c.least.view_is) in
    let P : Machine → Type 0 = λ x. IsSettled x × (x.least ≡ Some (record { index = c.least.inside.index; starts = c.least.inside.starts })) in
    subst P c.self.view_is (settled_yes g.N.OfNetwork.network m i.undecided c.self.invariant y c.in_default.ensures.none is, is)

pub returns-in-Some-least-clause-known : goal.returns-in-Some-least-clause-known
returns-in-Some-least-clause-known g c =
    let i = c.self.inside in
    let m : Machine = record { asked = i.rows.items; to_come = option_to_list i.next ++ g.S.Series.questions i.series; least = i.least; taken = i.taken; ended = i.ended; halted = i.halted } in
    let y : KnownYes = record { index = c.least.inside.index; starts = c.least.inside.starts } in
    let is : i.least ≡ Some y = c.in-Some-least.is ∙ ap (λ (b : KnownYes). Some b) (sym c.least.view_is) in
    subst (λ (x : Machine). IsYesKnown g.N.OfNetwork.network (all_questions x) c.least.inside.index c.least.inside.starts) c.self.view_is
    (known_first g.N.OfNetwork.network m c.self.invariant.sound y (settled_yes g.N.OfNetwork.network m i.undecided c.self.invariant y c.in_default.ensures.none is) is)

pub returns-then-self-clause-answer : goal.returns-then-self-clause-answer
returns-then-self-clause-answer g c =
    let i = c.self.inside in
    let m : Machine = record { asked = i.rows.items; to_come = option_to_list i.next ++ g.S.Series.questions i.series; least = i.least; taken = i.taken; ended = i.ended; halted = i.halted } in
    let P : Machine → Type 0 = λ x. IsSettled x × (x.least ≡ None) in
    subst P c.self.view_is (settled_none g.N.OfNetwork.network m i.undecided c.self.invariant c.in_default.ensures.none c.in-None.is c.if-self.true, c.in-None.is)

pub returns-then-self-clause-known : goal.returns-then-self-clause-known
returns-then-self-clause-known g c =
    let i = c.self.inside in
    let m : Machine = record { asked = i.rows.items; to_come = option_to_list i.next ++ g.S.Series.questions i.series; least = i.least; taken = i.taken; ended = i.ended; halted = i.halted } in
    subst (λ (x : Machine). IsFirstYes g.N.OfNetwork.network (all_questions x) None) c.self.view_is
    (known_none g.N.OfNetwork.network m c.self.invariant.sound (settled_none g.N.OfNetwork.network m i.undecided c.self.invariant c.in_default.ensures.none c.in-None.is c.if-self.true) c.in-None.is)

pub returns-else-self-clause-answer : goal.returns-else-self-clause-answer
returns-else-self-clause-answer g c =
    let i = c.self.inside in
    let m : Machine = record { asked = i.rows.items; to_come = option_to_list i.next ++ g.S.Series.questions i.series; least = i.least; taken = i.taken; ended = i.ended; halted = i.halted } in
    let e : length i.rows.items ≡ c.len.result = omega (arith, i.rows.ok.0) in
    let P : Machine → Type 0 = λ x. (IsSettled x → ⊥) × IsFirstOpen x c.len.result in
    subst P c.self.view_is (pending_running g.N.OfNetwork.network m i.undecided c.self.invariant c.in-None.is c.if-self.false, subst (λ (k : ℕ). IsFirstOpen m k) e (first_end g.N.OfNetwork.network m i.undecided c.self.invariant c.in_default.ensures.none))

pub returns-else-self-clause-known : goal.returns-else-self-clause-known
returns-else-self-clause-known g c =
    let i = c.self.inside in
    let m : Machine = record { asked = i.rows.items; to_come = option_to_list i.next ++ g.S.Series.questions i.series; least = i.least; taken = i.taken; ended = i.ended; halted = i.halted } in
    let e : length i.rows.items ≡ c.len.result = omega (arith, i.rows.ok.0) in
    subst (λ (x : Machine). AreNoBefore g.N.OfNetwork.network (all_questions x) c.len.result) c.self.view_is
    (known_open g.N.OfNetwork.network m c.self.invariant.sound c.len.result (pending_running g.N.OfNetwork.network m i.undecided c.self.invariant c.in-None.is c.if-self.false)
    (subst (λ (k : ℕ). IsFirstOpen m k) e (first_end g.N.OfNetwork.network m i.undecided c.self.invariant c.in_default.ensures.none)))
