use Rattle.std.proofs.Common.{◌≡◌, ◌∙◌, List, ℕ, Option, Some, length, ap, sym, subst, arith}
use Rattle.racp_questions.specs.FirstYes.{IsReached}
use Rattle.racp_core.specs.Machine.{KnownYes, QuestionRow, all_questions}
use Rattle.racp_core.specs.Replies.{IsFirstOpen, capacities_at}
use Rattle.racp_core.proofs.Verdicts.{settled_yes, settled_none, pending_first, pending_running, first_open, first_end, known_open, known_first, known_none, known_reached}
use Rattle.racp_core.proofs.collector.Core.into_answer.Goals as goal

pub returns-in-Some-clause-answer : goal.returns-in-Some-clause-answer
returns-in-Some-clause-answer g c =
    let h = c.into_known-rows.ensures.state in
    (pending_first g.N.OfNetwork.network c.args.self c.into_known-rows.result.undecided h c.in-Some.first_open c.in-Some.ensures.some, first_open g.N.OfNetwork.network c.args.self c.into_known-rows.result.undecided h c.in-Some.first_open c.in-Some.ensures.some)

pub returns-in-Some-clause-known : goal.returns-in-Some-clause-known
returns-in-Some-clause-known g c =
    let h = c.into_known-rows.ensures.state in
    known_open g.N.OfNetwork.network c.args.self h.sound c.in-Some.first_open (pending_first g.N.OfNetwork.network c.args.self c.into_known-rows.result.undecided h c.in-Some.first_open c.in-Some.ensures.some)
    (first_open g.N.OfNetwork.network c.args.self c.into_known-rows.result.undecided h c.in-Some.first_open c.in-Some.ensures.some)

pub returns-in-Some-clause-capacities : goal.returns-in-Some-clause-capacities
returns-in-Some-clause-capacities g c = c.capacities_of.ensures ∙ ap (λ (rows : List QuestionRow). capacities_at rows c.in-Some.first_open) c.into_known-rows.ensures.rows

pub returns-in-Some-clause-reached : goal.returns-in-Some-clause-reached
returns-in-Some-clause-reached g c =
    let h = c.into_known-rows.ensures.state in
    let first = first_open g.N.OfNetwork.network c.args.self c.into_known-rows.result.undecided h c.in-Some.first_open c.in-Some.ensures.some in
    let is : c.capacities_of.result ≡ capacities_at c.args.self.asked c.in-Some.first_open = c.capacities_of.ensures ∙ ap (λ (rows : List QuestionRow). capacities_at rows c.in-Some.first_open) c.into_known-rows.ensures.rows in
    subst (λ (o : Option (List ℕ)). IsReached g.N.OfNetwork.network (all_questions c.args.self) o) (sym is)
    (known_reached g.N.OfNetwork.network c.args.self h.sound c.in-Some.first_open first.most
    (known_open g.N.OfNetwork.network c.args.self h.sound c.in-Some.first_open (pending_first g.N.OfNetwork.network c.args.self c.into_known-rows.result.undecided h c.in-Some.first_open c.in-Some.ensures.some) first))

pub returns-in-Some-least-clause-answer : goal.returns-in-Some-least-clause-answer
returns-in-Some-least-clause-answer g c =
    let y : KnownYes = record { index = c.least.inside.index; starts = c.least.inside.starts } in
    let is : c.args.self.least ≡ Some y = sym c.into_known-rows.ensures.least ∙ c.in-Some-least.is ∙ ap (λ (b : KnownYes). Some b) (sym c.least.view_is) in
    (settled_yes g.N.OfNetwork.network c.args.self c.into_known-rows.result.undecided c.into_known-rows.ensures.state y c.in_default.ensures.none is, is)

pub returns-in-Some-least-clause-known : goal.returns-in-Some-least-clause-known
returns-in-Some-least-clause-known g c =
    let h = c.into_known-rows.ensures.state in
    let y : KnownYes = record { index = c.least.inside.index; starts = c.least.inside.starts } in
    let is : c.args.self.least ≡ Some y = sym c.into_known-rows.ensures.least ∙ c.in-Some-least.is ∙ ap (λ (b : KnownYes). Some b) (sym c.least.view_is) in
    known_first g.N.OfNetwork.network c.args.self h.sound y (settled_yes g.N.OfNetwork.network c.args.self c.into_known-rows.result.undecided h y c.in_default.ensures.none is) is

pub returns-then-ended-clause-answer : goal.returns-then-ended-clause-answer
returns-then-ended-clause-answer g c =
    let none = sym c.into_known-rows.ensures.least ∙ c.in-None.is in
    (settled_none g.N.OfNetwork.network c.args.self c.into_known-rows.result.undecided c.into_known-rows.ensures.state c.in_default.ensures.none none (sym c.into_known-rows.ensures.ended ∙ c.if-ended.true), none)

pub returns-then-ended-clause-known : goal.returns-then-ended-clause-known
returns-then-ended-clause-known g c =
    let h = c.into_known-rows.ensures.state in
    let none = sym c.into_known-rows.ensures.least ∙ c.in-None.is in
    known_none g.N.OfNetwork.network c.args.self h.sound (settled_none g.N.OfNetwork.network c.args.self c.into_known-rows.result.undecided h c.in_default.ensures.none none (sym c.into_known-rows.ensures.ended ∙ c.if-ended.true)) none

pub returns-else-ended-clause-answer : goal.returns-else-ended-clause-answer
returns-else-ended-clause-answer g c =
    let h = c.into_known-rows.ensures.state in
    let e : length c.args.self.asked ≡ c.len-first_open.result = ap length (sym c.into_known-rows.ensures.rows) ∙ omega (arith, c.into_known-rows.result.rows.ok.0) in (
      pending_running g.N.OfNetwork.network c.args.self c.into_known-rows.result.undecided h (sym c.into_known-rows.ensures.least ∙ c.in-None.is) (sym c.into_known-rows.ensures.ended ∙ c.if-ended.false),
      subst (λ (k : ℕ). IsFirstOpen c.args.self k) e (first_end g.N.OfNetwork.network c.args.self c.into_known-rows.result.undecided h c.in_default.ensures.none),
    )

pub returns-else-ended-clause-known : goal.returns-else-ended-clause-known
returns-else-ended-clause-known g c =
    let h = c.into_known-rows.ensures.state in
    let e : length c.args.self.asked ≡ c.len-first_open.result = ap length (sym c.into_known-rows.ensures.rows) ∙ omega (arith, c.into_known-rows.result.rows.ok.0) in
    known_open g.N.OfNetwork.network c.args.self h.sound c.len-first_open.result
    (pending_running g.N.OfNetwork.network c.args.self c.into_known-rows.result.undecided h (sym c.into_known-rows.ensures.least ∙ c.in-None.is) (sym c.into_known-rows.ensures.ended ∙ c.if-ended.false))
    (subst (λ (k : ℕ). IsFirstOpen c.args.self k) e (first_end g.N.OfNetwork.network c.args.self c.into_known-rows.result.undecided h c.in_default.ensures.none))

pub returns-else-ended-clause-capacities : goal.returns-else-ended-clause-capacities
returns-else-ended-clause-capacities g c = c.capacities_of-in-None.ensures ∙ ap (λ (rows : List QuestionRow). capacities_at rows c.len-first_open.result) c.into_known-rows.ensures.rows

pub returns-else-ended-clause-reached : goal.returns-else-ended-clause-reached
returns-else-ended-clause-reached g c =
    let h = c.into_known-rows.ensures.state in
    let e : length c.args.self.asked ≡ c.len-first_open.result = ap length (sym c.into_known-rows.ensures.rows) ∙ omega (arith, c.into_known-rows.result.rows.ok.0) in
    let first : IsFirstOpen c.args.self c.len-first_open.result = subst (λ (k : ℕ). IsFirstOpen c.args.self k) e (first_end g.N.OfNetwork.network c.args.self c.into_known-rows.result.undecided h c.in_default.ensures.none) in
    let is : c.capacities_of-in-None.result ≡ capacities_at c.args.self.asked c.len-first_open.result = c.capacities_of-in-None.ensures ∙ ap (λ (rows : List QuestionRow). capacities_at rows c.len-first_open.result) c.into_known-rows.ensures.rows in
    subst (λ (o : Option (List ℕ)). IsReached g.N.OfNetwork.network (all_questions c.args.self) o) (sym is)
    (known_reached g.N.OfNetwork.network c.args.self h.sound c.len-first_open.result first.most
    (known_open g.N.OfNetwork.network c.args.self h.sound c.len-first_open.result
    (pending_running g.N.OfNetwork.network c.args.self c.into_known-rows.result.undecided h (sym c.into_known-rows.ensures.least ∙ c.in-None.is) (sym c.into_known-rows.ensures.ended ∙ c.if-ended.false)) first))
