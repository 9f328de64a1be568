-- What the places of the undecided questions say of the answer, and what the answer says of the questions.
use Rattle.std.proofs.Common.{◌≡◌, ◌∙◌, inl, inr, ℕ, ◌-◌, ◌<◌, ◌≤◌, min, Bool, true, false, IsTrue, IsFalse, List, [], length, Option, Some, None, Contains, refl, sym, ap, subst, arith, length-append}
use Rattle.std.proofs.lemmas.List.{length-map}
use Rattle.std.proofs.lemmas.Option.{slice_get-get_or, slice_get_past}
use Rattle.std.proofs.lemmas.Bool.{cases_lt}
use Rattle.racp_model.specs.Project.{Project}
use Rattle.racp_model.specs.Window.{Answers}
use Rattle.racp_model.specs.declared.question.Question.{Question}
use Rattle.racp_model.proofs.lemmas.Relations.{no_member}
use Rattle.racp_questions.specs.FirstYes.{question_at, IsFirstYes, IsNoAt, AreNoBefore, IsReached}
use Rattle.racp_core.specs.Machine.{QuestionRow, KnownYes, Machine, all_questions, row_at, no_row, is_before, is_undecided, IsDone, AreDone, IsSettledBy, IsSettled}
use Rattle.racp_core.specs.Truth.{HasAnswer, IsSoundState, IsState}
use Rattle.racp_core.specs.Rows.{IsFirstPlace}
use Rattle.racp_core.specs.Replies.{IsFirstOpen, IsYesKnown, capacities_at}
use Rattle.racp_core.proofs.Tests.{yes_or_no, not_both, no_from, below_yes, before_yes, busy_done, undecided_is, decided_done}
use Rattle.racp_core.proofs.Kept.{done_no}
use Rattle.racp_core.proofs.Questions.{questions_in, question_there}

-- a question that is undecided leaves the answer unknown
unsettled : (least : Option KnownYes) (ended : Bool) (asked : List QuestionRow) (i : ℕ) → IsTrue (is_undecided least asked i) → IsSettledBy least ended asked → ⊥
unsettled None ended asked i undecided (e, done) = let is = undecided_is None asked i undecided in busy_done (row_at asked i) (done i is.0) is.2
unsettled (Some y) ended asked i undecided done = let is = undecided_is (Some y) asked i undecided in busy_done (row_at asked i) (done i (below_yes y i is.1)) is.2

-- so does a series that goes on
unsettled_running : (least : Option KnownYes) (ended : Bool) (asked : List QuestionRow) → least ≡ None → ended ≡ false → IsSettledBy least ended asked → ⊥
unsettled_running None ended asked none e (yes_ended, done) = absurd (let clash = sym e ∙ yes_ended in cc clash)
unsettled_running (Some y) ended asked none e done = absurd (cc none)

-- where each question before a place that is not before the least yes is done, the answer is known
settled_past : (least : Option KnownYes) (ended : Bool) (asked : List QuestionRow) (j : ℕ) → IsFalse (is_before least j) → ((k : ℕ) → k < j → IsTrue (is_before least k) → IsDone (row_at asked k)) → IsSettledBy least ended asked
settled_past None ended asked j not done = absurd (cc not)
settled_past (Some y) ended asked j not done = λ k l. done k (elim (cases_lt j y.index) [ inl before ↦ absurd (not_both (is_before (Some y) j) (before_yes y j before) not) | inr after ↦ omega (arith, after, l) ]) (before_yes y k l)

module _ (p : Project) (m : Machine) (places : List ℕ) (h : IsState p m places) where
  -- no place is left
  pub none_undecided : places ≡ [] → (i : ℕ) → IsFalse (is_undecided m.least m.asked i)
  none_undecided e i = no_from (is_undecided m.least m.asked i) (λ undecided. no_member i (subst (λ (xs : List ℕ). Contains xs i) e ((h.undecided i).1 undecided)))

  pub settled_yes : (y : KnownYes) → places ≡ [] → m.least ≡ Some y → IsSettled m
  settled_yes y e known =
      subst (λ (least : Option KnownYes). IsSettledBy least m.ended m.asked) (sym known)
      (λ i l. decided_done m.least m.asked i (subst (λ (least : Option KnownYes). IsTrue (is_before least i)) (sym known) (before_yes y i l)) (none_undecided e i))

  pub settled_none : places ≡ [] → m.least ≡ None → m.ended ≡ true → IsSettled m
  settled_none e known over =
      subst (λ (least : Option KnownYes). IsSettledBy least m.ended m.asked) (sym known)
      (over, λ i l. decided_done m.least m.asked i (subst (λ (least : Option KnownYes). IsTrue (is_before least i)) (sym known) refl) (none_undecided e i))

  pub pending_first : (i : ℕ) → IsFirstPlace places i → IsSettled m → ⊥
  pending_first i first = unsettled m.least m.ended m.asked i ((h.undecided i).0 first.is)

  pub pending_running : m.least ≡ None → m.ended ≡ false → IsSettled m → ⊥
  pending_running known running = unsettled_running m.least m.ended m.asked known running

  pub first_open : (i : ℕ) → IsFirstPlace places i → IsFirstOpen m i
  first_open i first =
      let here = (h.undecided i).0 first.is in
      let is = undecided_is m.least m.asked i here in
      record {
        most = omega (arith, is.0);
        decided = λ j l. no_from (is_undecided m.least m.asked j) (λ undecided. (let least = first.least j ((h.undecided j).1 undecided) in omega (arith, least, l)));
        open_there = λ l. here;
      }

  pub first_end : places ≡ [] → IsFirstOpen m (length m.asked)
  first_end e = record {
    most = omega arith;
    decided = λ j l. none_undecided e j;
    open_there = λ l. absurd (omega (arith, l));
  }

module _ (p : Project) (m : Machine) (sound : IsSoundState p m) where
  -- a question that is done, before the least yes, is a no
  pub no_at : (i : ℕ) → i < length m.asked → IsTrue (is_before m.least i) → IsDone (row_at m.asked i) → IsNoAt p (all_questions m) i
  no_at i l b done starts answer =
      done_no p (row_at m.asked i) (sound.kept i l b) done starts (subst (λ (q : Question). Answers p q.capacities q.window starts) (question_there m i l) answer)

  -- each before the first open one is
  pub known_open : (i : ℕ) → (IsSettled m → ⊥) → IsFirstOpen m i → AreNoBefore p (all_questions m) i
  known_open i pending first j l =
      let short = first.most in
      elim (yes_or_no (is_before m.least j)) [
        | inl before ↦ no_at j (omega (arith, l, short)) before (decided_done m.least m.asked j before (first.decided j l))
        | inr not ↦ absurd (pending (settled_past m.least m.ended m.asked j not (λ k less b. decided_done m.least m.asked k b (first.decided k (omega (arith, less, l))))))
      ]

  -- the least yes is the first one
  pub known_first : (y : KnownYes) → IsSettled m → m.least ≡ Some y → IsYesKnown p (all_questions m) y.index y.starts
  known_first y settled known =
      let there : HasAnswer p m.asked (Some y) = subst (λ (least : Option KnownYes). HasAnswer p m.asked least) known sound.answers in
      let done : AreDone m.asked y.index = subst (λ (least : Option KnownYes). IsSettledBy least m.ended m.asked) known settled in
      let long = length-append (questions_in m.asked) m.to_come in
      let same = length-map m.asked (λ (r : QuestionRow). r.question) in
      let answer : Answers p (question_at (all_questions m) y.index).capacities (question_at (all_questions m) y.index).window y.starts =
      subst (λ (q : Question). Answers p q.capacities q.window y.starts) (sym (question_there m y.index there.0)) there.1 in
      let noes : AreNoBefore p (all_questions m) y.index = λ j l. no_at j (omega (arith, l, there.0)) (subst (λ (least : Option KnownYes). IsTrue (is_before least j)) (sym known) (before_yes y j l)) (done j l) in
      ((omega (arith, there.0, long, same), (y.starts, answer), noes), answer)

  -- where there is no yes, each is a no
  pub known_none : IsSettled m → m.least ≡ None → IsFirstYes p (all_questions m) None
  known_none settled known j l =
      let over : IsSettledBy None m.ended m.asked = subst (λ (least : Option KnownYes). IsSettledBy least m.ended m.asked) known settled in
      let gone = ap length (sound.finished over.0) in
      let long = length-append (questions_in m.asked) m.to_come in
      let same = length-map m.asked (λ (r : QuestionRow). r.question) in
      let there : j < length m.asked = omega (arith, l, gone, long, same) in
      no_at j there (subst (λ (least : Option KnownYes). IsTrue (is_before least j)) (sym known) refl) (over.1 j there)

  -- the capacities that were reached
  pub known_reached : (i : ℕ) → i ≤ length m.asked → AreNoBefore p (all_questions m) i → IsReached p (all_questions m) (capacities_at m.asked i)
  known_reached i most noes = elim (cases_lt 0 (length m.asked)) [
    | inl some ↦
        let there : min i (length m.asked - 1) < length m.asked = omega (arith, some, most) in
        let long = length-append (questions_in m.asked) m.to_come in
        let same = length-map m.asked (λ (r : QuestionRow). r.question) in
        rw (slice_get-get_or m.asked (min i (length m.asked - 1)) no_row there)
        (min i (length m.asked - 1), omega (arith, there, long, same), ap (λ (q : Question). q.capacities) (question_there m (min i (length m.asked - 1)) there), λ j l. noes j (omega (arith, l)))
    | inr none ↦ rw (slice_get_past m.asked (min i (length m.asked - 1)) (omega (arith, none))) tt
  ]
