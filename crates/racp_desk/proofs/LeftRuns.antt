-- Each legal log is left by a run whose findings are true.
use Rattle.std.proofs.Common.{ℕ, Bool, true, false, List, [], ◌∷◌, ◌++◌, map, replicate, slice_index, inl, inr, refl, sym, ap, subst, arith}
use Rattle.std.proofs.lemmas.List.{length-replicate}
use Rattle.racp_model.proofs.lemmas.Relations.{member_cases, no_member}
use Rattle.racp_core.specs.Machine.{Machine, fresh}
use Rattle.racp_core.specs.Runs.{Hand, AreTrueFindings}
use Rattle.racp_desk.specs.declared.log.Entry.{Entry}
use Rattle.racp_desk.specs.declared.log.Entry.TheVariants.{Asked, Taken, Handed, GivenBack, Halted}
use Rattle.racp_desk.specs.Log.{Tally, after, counted, nothing, MayFollow, AreLegal}
use Rattle.racp_desk.specs.Desk.{Counts}
use Rattle.racp_desk.specs.Laws.{Event, LoggedRun, LegalLogsAreLeft}
use Rattle.racp_desk.proofs.Counted.{counts_fresh}
use Rattle.racp_desk.proofs.LegalRuns.{step_counted}
use Rattle.racp_desk.proofs.Idle.{idle, question_of, formed}
use Rattle.racp_desk.proofs.Needs.{Needs, FitsTally, Agrees, IsTrueCall, GoesOn, Prepared, asked_before, taken_before, left_before, answered_before, given_before, halted_before}

-- whatever entry may follow
prepared : (turns : ℕ) (quiet : Bool) (t : Tally) (e : Entry) (n : Needs) → FitsTally (after t e) n → MayFollow turns quiet t e → Prepared turns quiet t e n
prepared turns quiet t (Asked index) n fits may = asked_before turns quiet t n index fits may
prepared turns quiet t (Taken seat number index) n fits may = taken_before turns quiet t n seat number index fits may
prepared turns quiet t (Handed seat number rest false nodes) n fits may = left_before turns quiet t n seat number rest nodes may.0 fits may.3 may.2
prepared turns quiet t (Handed seat number rest true nodes) n fits may = answered_before turns quiet t n seat number rest nodes may.0 fits may.1 may.2
prepared turns quiet t (GivenBack seat number) n fits may = given_before turns quiet t n seat number 1 0 may fits refl refl
prepared turns quiet t (Halted cause) n fits may = halted_before turns quiet t n cause fits may

-- the findings are true that calls hand in
abbrev AreTrueCalls : List Event → Type 0
AreTrueCalls [] = Unit {0}
AreTrueCalls (e ∷ es) = IsTrueCall e.call × AreTrueCalls es

true_findings : (events : List Event) → AreTrueCalls events → AreTrueFindings idle (map (λ (e : Event). e.call) events)
true_findings [] all finding merged c = absurd (no_member (Hand finding merged) c)
true_findings (e ∷ es) all finding merged c = elim (member_cases e.call (map (λ (x : Event). x.call) es) (Hand finding merged) c) [
  | inl is ↦ subst IsTrueCall is all.0
  | inr later ↦ true_findings es all.1 finding merged later
]

-- calls that leave a log, of a collector
abbrev pub Leaves : ℕ → Bool → Machine → List Entry → Type 0
Leaves turns quiet m log = (events : List Event) × (end : Machine) × AreTrueCalls events × LoggedRun turns quiet m events end log

-- what has to be told before a log, so that a collector can leave it
pub record LeftFrom (turns : ℕ) (quiet : Bool) (t : Tally) (log : List Entry) : Type 0 where
  pub needs : Needs
  pub fits : FitsTally t needs
  pub run : (m : Machine) → Counts t m → Agrees t m needs → Leaves turns quiet m log

joined : (turns : ℕ) (quiet : Bool) (t : Tally) (m : Machine) (e : Entry) (es : List Entry) (later : LeftFrom turns quiet (after t e) es) → Counts t m → GoesOn turns quiet t m e later.needs → Leaves turns quiet m (e ∷ es)
joined turns quiet t m e es later h on =
    let both = step_counted turns quiet t m on.next on.event.call on.event.cause h on.made on.step in
    let next : Counts (after t e) on.next = subst (λ (xs : List Entry). Counts (counted t xs) on.next) on.entry both.1 in
    let run = later.run on.next next on.agrees in
    (on.event ∷ run.0, run.1, (on.is_true, run.2), (on.next, es, on.made, on.step, sym (ap (λ (xs : List Entry). xs ++ es) on.entry), run.3))

left_from : (turns : ℕ) (quiet : Bool) (t : Tally) (log : List Entry) → AreLegal turns quiet t log → LeftFrom turns quiet t log
left_from turns quiet t [] legal = record {
  needs = record { ready = λ i. replicate (slice_index t.ready i) false; out = λ k. false; asks = [] };
  fits = λ i l b. length-replicate (slice_index t.ready i) false;
  run = λ m h agrees. ([], m, tt, (refl, refl));
}
left_from turns quiet t (e ∷ es) legal =
    let later = left_from turns quiet (after t e) es legal.1 in
    let before = prepared turns quiet t e later.needs later.fits legal.0 in
    record { needs = before.needs; fits = before.fits; run = λ m h agrees. joined turns quiet t m e es later h (before.on m h agrees) }

pub logs_left : LegalLogsAreLeft
logs_left turns quiet log legal =
    let left = left_from turns quiet nothing log legal in
    let questions = map question_of left.needs.asks in
    let run = left.run (fresh questions) (counts_fresh questions) (record {
      come = refl;
      ready = λ i l b. absurd (omega (arith, l));
      held = λ k l o. absurd (omega (arith, l));
      capacities = λ i l. absurd (omega (arith, l));
    }) in
    (idle, questions, run.0, run.1, formed left.needs.asks, true_findings run.0 run.2, run.3)
