-- Which windows of a log have an answer is told by what comes later: those whose pieces, or pieces of what they leave, are
-- handed in with a yes. What has to be told before an entry, from what has to be told after it.
use Rattle.std.proofs.Common.{◌≡◌, ◌∙◌, inl, inr, ℕ, ◌+◌, ◌-◌, ◌^◌, ◌<◌, ◌≤◌, Bool, true, false, nat_eq, nat_lt, nat_le, if◌then◌else◌, IsTrue, List, [], ◌∷◌, ◌++◌, length, map, take, drop, replicate, slice_index, slice_set, Option, Some, None, Contains, refl, sym, ap, subst, arith, length-append}
use Rattle.std.proofs.lemmas.List.{length-set, length-take-le, length-drop, length-map, length-replicate, map-append, take-append-drop, get_or-set_same, get_or-set_other, get_or_append_left, get_or_push}
use Rattle.std.proofs.lemmas.Bool.{cases_eq, cases_lt, ltb-true}
use Rattle.racp_model.specs.Window.{Bounds, Answers}
use Rattle.racp_model.specs.declared.question.Question.{Question}
use Rattle.racp_search.specs.Truth.{SearchFinding, IsRestOf, IsTrueFinding}
use Rattle.racp_core.specs.Machine.{QuestionRow, Machine, opened, row_at, no_row, is_before}
use Rattle.racp_core.specs.Steps.{windows_before, lesser}
use Rattle.racp_core.specs.Runs.{Call, Ask, Take, Hand, GiveBack, Halt, Step}
use Rattle.racp_core.specs.declared.replies.Asked.TheVariants.{Question as Next}
use Rattle.racp_core.specs.declared.replies.Reply.TheVariants.{Piece as Work}
use Rattle.racp_core.specs.declared.replies.Merged.TheVariants.{Taken as WasTaken}
use Rattle.racp_desk.specs.declared.log.Cause.{Cause}
use Rattle.racp_desk.specs.declared.log.Cause.TheVariants.{Stop, Turns, Fault}
use Rattle.racp_desk.specs.declared.log.Entry.{Entry}
use Rattle.racp_desk.specs.declared.log.Entry.TheVariants.{Asked, Taken, Handed, GivenBack, Halted}
use Rattle.racp_desk.specs.Log.{Tally, after, piece_at, stands_before, lesser_place, opening, brought_in, IsAway, MayFollow, MayHalt}
use Rattle.racp_desk.specs.Desk.{Counts, halted_entries}
use Rattle.racp_desk.specs.Laws.{Event, entries_of, IsCause, IsMade}
use Rattle.racp_desk.proofs.Counted.{same_test, lesser_same, before_lesser}
use Rattle.racp_desk.proofs.Idle.{idle, units, window_of, question_of, any_of, answers, rest_is}
use Rattle.racp_desk.proofs.Left.{IsHeld, Holds, rest_of, runs, asked_next, ask_step, ask_holds, least_open, sent_piece, sent_row, sent_next, take_step, pending, take_holds, back_piece, back_row, back_next, back_step, back_holds, answered_next, answer_step, answer_holds, shut_before, shut_question, shut_places}

-- another value at one place
abbrev pub changed : {X : Type 0} → (ℕ → X) → ℕ → X → ℕ → X
changed f k x i = if nat_eq i k then x else f i

number_is : (n k : ℕ) → n ≡ k → nat_eq n k ≡ true
number_is n k e = grind (arith, e)

changed_same : {X : Type 0} (f : ℕ → X) (k : ℕ) (x : X) (i : ℕ) → i ≡ k → changed f k x i ≡ x
changed_same f k x i e = rw (number_is i k e) refl

changed_other : {X : Type 0} (f : ℕ → X) (k : ℕ) (x : X) (i : ℕ) → (i ≡ k → ⊥) → changed f k x i ≡ f i
changed_other {X} f k x i other = go (nat_eq i k) refl
  where
    go : (b : Bool) → nat_eq i k ≡ b → (if b then x else f i) ≡ f i
    go true e = absurd (other (grind (arith, e)))
    go false e = refl

-- which open windows of each question have an answer, which pieces, and which questions that are still to be asked
pub record Needs : Type 0 where
  pub ready : ℕ → List Bool
  pub out : ℕ → Bool
  pub asks : List Bool

-- it is told of as many open windows as there are, of each question before the least yes
abbrev pub FitsTally : Tally → Needs → Type 0
FitsTally t n = (i : ℕ) → i < length t.ready → IsTrue (stands_before t.least i) → length (n.ready i) ≡ slice_index t.ready i

abbrev pub Known : Needs → ℕ → Bounds → Type 0
Known n number window = window ≡ window_of (n.out number)

-- a collector has the windows that are told
pub record Agrees (t : Tally) (m : Machine) (n : Needs) : Type 0 where
  pub come : m.to_come ≡ map question_of n.asks
  pub ready : (i : ℕ) → i < length m.asked → IsTrue (is_before m.least i) → (row_at m.asked i).ready ≡ map window_of (n.ready i)
  pub held : Holds (Known n) t.taken m
  pub capacities : (i : ℕ) → i < length m.asked → (row_at m.asked i).question.capacities ≡ units

-- a finding that is handed in is true
abbrev pub IsTrueCall : Call → Type 0
IsTrueCall (Ask asked) = Unit {0}
IsTrueCall (Take seat reply) = Unit {0}
IsTrueCall (Hand finding merged) = IsTrueFinding idle finding
IsTrueCall (GiveBack piece merged) = Unit {0}
IsTrueCall Halt = Unit {0}

-- a collector can go on so that it leaves an entry
pub record GoesOn (turns : ℕ) (quiet : Bool) (t : Tally) (m : Machine) (e : Entry) (n : Needs) : Type 0 where
  pub event : Event
  pub next : Machine
  pub made : IsMade turns quiet m.taken event.call event.cause
  pub step : Step m event.call next
  pub entry : entries_of m.halted event.call event.cause ≡ e ∷ []
  pub is_true : IsTrueCall event.call
  pub agrees : Agrees (after t e) next n

-- what has to be told before an entry, from what has to be told after it
pub record Prepared (turns : ℕ) (quiet : Bool) (t : Tally) (e : Entry) (n : Needs) : Type 0 where
  pub needs : Needs
  pub fits : FitsTally t needs
  pub on : (m : Machine) → Counts t m → Agrees t m needs → GoesOn turns quiet t m e n

one_alone : (xs : List Bool) → length xs ≡ 1 → (b : Bool) × (xs ≡ b ∷ [])
one_alone [] e = absurd (omega (arith, e))
one_alone (b ∷ []) e = (b, refl)
one_alone (b ∷ c ∷ xs) e = absurd (omega (arith, e))

any_alone : (b : Bool) → any_of (b ∷ []) ≡ b
any_alone true = refl
any_alone false = refl

module _ (turns : ℕ) (quiet : Bool) (t : Tally) (n : Needs) where
  -- a question is asked
  module _ (index : ℕ) (fits : FitsTally (after t (Asked index)) n) (may : MayFollow turns quiet t (Asked index)) where
    asked_one : (b : Bool) × (n.ready (length t.ready) ≡ b ∷ [])
    asked_one = one_alone (n.ready (length t.ready))
        (fits (length t.ready) (let long = length-append t.ready (1 ∷ []) in omega (arith, long)) (rw may.1 refl) ∙ get_or_push t.ready 1 0 (length t.ready) refl)

    asked_on : (m : Machine) → (h : Counts t m) → Agrees t m (record { ready = n.ready; out = n.out; asks = asked_one.0 ∷ n.asks }) → GoesOn turns quiet t m (Asked index) n
    asked_on m h agrees = record {
      event = record { call = Ask (Next index); cause = Fault };
      next = asked_next t m (question_of asked_one.0) (map question_of n.asks) h;
      made = tt;
      step = ask_step t m (question_of asked_one.0) (map question_of n.asks) h index agrees.come may.0 may.1 may.2;
      entry = refl;
      is_true = tt;
      agrees = record {
        come = refl;
        ready = λ i l b. elim (cases_lt i (length m.asked)) [
          | inl there ↦ rw (get_or_append_left m.asked (opened (question_of asked_one.0) ∷ []) no_row i there) (agrees.ready i there b)
          | inr from ↦ (let last = last_is i l from in rw (get_or_push m.asked (opened (question_of asked_one.0)) no_row i last)
              (ap (λ (bs : List Bool). map window_of bs) (sym (ap n.ready (sym last ∙ sym h.ready_places) ∙ asked_one.1))))
        ];
        held = ask_holds t m (question_of asked_one.0) (map question_of n.asks) h (Known n) agrees.held;
        capacities = λ i l. elim (cases_lt i (length m.asked)) [
          | inl there ↦ rw (get_or_append_left m.asked (opened (question_of asked_one.0) ∷ []) no_row i there) (agrees.capacities i there)
          | inr from ↦ rw (get_or_push m.asked (opened (question_of asked_one.0)) no_row i (last_is i l from)) refl
        ];
      };
    }
      where
        last_is : (i : ℕ) → i < length (m.asked ++ opened (question_of asked_one.0) ∷ []) → length m.asked ≤ i → length m.asked ≡ i
        last_is i l from = (let long = length-append m.asked (opened (question_of asked_one.0) ∷ []) in omega (arith, long, l, from))

    pub asked_before : Prepared turns quiet t (Asked index) n
    asked_before = record {
      needs = record { ready = n.ready; out = n.out; asks = asked_one.0 ∷ n.asks };
      fits = λ i l b. fits i (let long = length-append t.ready (1 ∷ []) in omega (arith, l, long)) b ∙ get_or_append_left t.ready (1 ∷ []) 0 i l;
      on = asked_on;
    }

  -- a piece is taken
  module _ (seat number index : ℕ) (fits : FitsTally (after t (Taken seat number index)) n) (may : MayFollow turns quiet t (Taken seat number index)) where
    abbrev taken_needs : Needs
    taken_needs = record { ready = changed n.ready index (n.out number ∷ n.ready index); out = n.out; asks = n.asks }

    taken_fits : FitsTally t taken_needs
    taken_fits i l b = elim (cases_eq i index) [
      | inl e ↦ (let same = ap (λ (bs : List Bool). length bs) (changed_same n.ready index (n.out number ∷ n.ready index) i e) in
          let there : index < length t.ready = omega (arith, l, e) in
          let left : length (n.ready index) ≡ slice_index t.ready index - 1 = fits index (let long = length-set t.ready index (slice_index t.ready index - 1) in omega (arith, there, long)) (subst (λ (k : ℕ). IsTrue (stands_before t.least k)) e b) ∙ get_or-set_same t.ready index (slice_index t.ready index - 1) 0 there in
          let some = may.3.some in
          let at : slice_index t.ready i ≡ slice_index t.ready index = ap (λ (k : ℕ). slice_index t.ready k) e in
          omega (arith, same, left, some, at))
      | inr other ↦ ap (λ (bs : List Bool). length bs) (changed_other n.ready index (n.out number ∷ n.ready index) i other) ∙
          (fits i (let long = length-set t.ready index (slice_index t.ready index - 1) in omega (arith, l, long)) b ∙ get_or-set_other t.ready index i (slice_index t.ready index - 1) 0 other)
    ]

    taken_on : (m : Machine) → Counts t m → Agrees t m taken_needs → GoesOn turns quiet t m (Taken seat number index) n
    taken_on m h agrees =
        let least = least_open t m index h may.3 in
        let window : Bounds = window_of (n.out number) in
        let left : List Bounds = map window_of (n.ready index) in
        let ready_is : (row_at m.asked index).ready ≡ window ∷ left = agrees.ready index least.asked least.before ∙ ap (λ (bs : List Bool). map window_of bs) (changed_same n.ready index (n.out number ∷ n.ready index) index refl) in
        let row : QuestionRow = sent_row t m seat number index window left h least ready_is in
        let within : (i : ℕ) → i < length (slice_set m.asked index row) → i < length m.asked = λ i l. (let long = length-set m.asked index row in omega (arith, l, long)) in
        record {
          event = record { call = Take seat (Work (sent_piece t m seat number index window left h least ready_is)); cause = Fault };
          next = sent_next t m seat number index window left h least ready_is;
          made = (let k = h.taken in let l = may.1 in omega (arith, k, l));
          step = (pending t m seat number index window left h least ready_is, runs t m h may.2, take_step t m seat number index window left h least ready_is may.0);
          entry = refl;
          is_true = tt;
          agrees = record {
            come = agrees.come;
            ready = λ i l b. elim (cases_eq i index) [
              | inl e ↦ rw (e, get_or-set_same m.asked index row no_row least.asked) refl
              | inr other ↦ rw (get_or-set_other m.asked index i row no_row other) (agrees.ready i (within i l) b ∙ ap (λ (bs : List Bool). map window_of bs) (changed_other n.ready index (n.out number ∷ n.ready index) i other))
            ];
            held = take_holds t m seat number index window left h least ready_is (Known n) refl may.0 agrees.held;
            capacities = λ i l. elim (cases_eq i index) [
              | inl e ↦ rw (e, get_or-set_same m.asked index row no_row least.asked) (agrees.capacities index least.asked)
              | inr other ↦ rw (get_or-set_other m.asked index i row no_row other) (agrees.capacities i (within i l))
            ];
          };
        }

    pub taken_before : Prepared turns quiet t (Taken seat number index) n
    taken_before = record { needs = taken_needs; fits = taken_fits; on = taken_on }

  -- a desk is halted
  cause_holds : (m : Machine) → Counts t m → (cause : Cause) → MayHalt turns quiet t cause → IsCause turns quiet m.taken cause
  cause_holds m h Stop may = may
  cause_holds m h Turns may = sym h.taken ∙ may
  cause_holds m h Fault may = tt

  pub halted_before : (cause : Cause) → FitsTally t n → MayFollow turns quiet t (Halted cause) → Prepared turns quiet t (Halted cause) n
  halted_before cause fits may = record {
    needs = n;
    fits = fits;
    on = λ m h agrees. record {
      event = record { call = Halt; cause = cause };
      next = record m { halted = true };
      made = cause_holds m h cause may.1;
      step = refl;
      entry = ap (λ (b : Bool). halted_entries b cause) (runs t m h may.0);
      is_true = tt;
      agrees = record { come = agrees.come; ready = agrees.ready; held = agrees.held; capacities = agrees.capacities };
    };
  }

-- a piece comes in without a yes, and leaves so many windows
module _ (turns : ℕ) (quiet : Bool) (t : Tally) (n : Needs) (seat number rest nodes : ℕ) (away : IsAway t seat number) (fits : FitsTally (brought_in t number rest nodes) n) where
  abbrev home : ℕ
  home = (piece_at t number).index

  abbrev kept : ℕ
  kept = slice_index t.ready home

  -- which of them have an answer
  abbrev extra : List Bool
  extra = if stands_before t.least home then drop kept (n.ready home) else replicate rest false

  abbrev left_needs : Needs
  left_needs = record { ready = changed n.ready home (take kept (n.ready home)); out = changed n.out number (any_of extra); asks = n.asks }

  opens : (b : Bool) → b ≡ true → (if b then rest else 0) ≡ rest
  opens true e = refl
  opens false e = absurd (cc e)

  -- how many are told of its question
  whole : home < length t.ready → IsTrue (stands_before t.least home) → length (n.ready home) ≡ kept + rest
  whole there b =
      let long = length-set t.ready home (kept + opening t.least home rest) in
      fits home (omega (arith, there, long)) b ∙ (get_or-set_same t.ready home (kept + opening t.least home rest) 0 there ∙ ap (λ (k : ℕ). kept + k) (opens (stands_before t.least home) b))

  left_fits : FitsTally t left_needs
  left_fits i l b = elim (cases_eq i home) [
    | inl e ↦ (let there : home < length t.ready = omega (arith, l, e) in
        let all = whole there (subst (λ (k : ℕ). IsTrue (stands_before t.least k)) e b) in
        ap (λ (bs : List Bool). length bs) (changed_same n.ready home (take kept (n.ready home)) i e) ∙ (length-take-le kept (n.ready home) (omega (arith, all)) ∙ ap (λ (k : ℕ). slice_index t.ready k) (sym e)))
    | inr other ↦ ap (λ (bs : List Bool). length bs) (changed_other n.ready home (take kept (n.ready home)) i other) ∙
        (fits i (let long = length-set t.ready home (kept + opening t.least home rest) in omega (arith, l, long)) b ∙ get_or-set_other t.ready home i (kept + opening t.least home rest) 0 other)
  ]

  extra_there : IsTrue (stands_before t.least home) → extra ≡ drop kept (n.ready home)
  extra_there b = go (stands_before t.least home) b
    where
      go : (a : Bool) → a ≡ true → (if a then drop kept (n.ready home) else replicate rest false) ≡ drop kept (n.ready home)
      go true e = refl
      go false e = absurd (cc e)

  extra_long : home < length t.ready → length extra ≡ rest
  extra_long there = go (stands_before t.least home) refl
    where
      go : (a : Bool) → stands_before t.least home ≡ a → length (if a then drop kept (n.ready home) else replicate rest false) ≡ rest
      go true e = (let all = whole there e in let cut = length-drop kept (n.ready home) in omega (arith, all, cut))
      go false e = length-replicate rest false

  module _ (m : Machine) (h : Counts t m) (agrees : Agrees t m left_needs) where
    own : IsHeld (Known left_needs) m number (piece_at t number)
    own = agrees.held number away.given away.out

    there : home < length t.ready
    there = (let p = h.ready_places in let o = own.0 in omega (arith, p, o))

    own_is : own.1 ≡ window_of (any_of extra)
    own_is = own.2 ∙ ap window_of (changed_same n.out number (any_of extra) number refl)

    is_out : Contains (row_at m.asked home).out (record { number = number; seat = seat; window = own.1 })
    is_out = subst (λ (s : ℕ). Contains (row_at m.asked home).out (record { number = number; seat = s; window = own.1 })) away.seated own.3

    abbrev windows : List Bounds
    windows = map window_of extra

    in_all : (least : Bool) → least ≡ true → (if least then windows else []) ≡ windows
    in_all true e = refl
    in_all false e = absurd (cc e)

    abbrev own_row : (ws : List Bounds) → QuestionRow
    own_row ws = back_row m seat number home own.1 own.0 is_out (windows_before m.least home ws)

    left_agrees : (ws : List Bounds) → ws ≡ windows → Agrees (brought_in t number rest nodes) (back_next m seat number home own.1 own.0 is_out ws) n
    left_agrees ws same = record {
      come = agrees.come;
      ready = λ i l b. elim (cases_eq i home) [
        | inl e ↦ rw (e, get_or-set_same m.asked home (own_row ws) no_row own.0) (joined (subst (λ (k : ℕ). IsTrue (is_before m.least k)) e b))
        | inr other ↦ rw (get_or-set_other m.asked home i (own_row ws) no_row other) (agrees.ready i (within i l) b ∙ ap (λ (bs : List Bool). map window_of bs) (changed_other n.ready home (take kept (n.ready home)) i other))
      ];
      held = back_holds m seat number home own.1 own.0 is_out (Known left_needs) (Known n) t.taken (record { seat = (piece_at t number).seat; index = home; is_out = false }) refl
          (λ k w other known. known ∙ ap window_of (changed_other n.out number (any_of extra) k other)) agrees.held ws;
      capacities = λ i l. elim (cases_eq i home) [
        | inl e ↦ rw (e, get_or-set_same m.asked home (own_row ws) no_row own.0) (agrees.capacities home own.0)
        | inr other ↦ rw (get_or-set_other m.asked home i (own_row ws) no_row other) (agrees.capacities i (within i l))
      ];
    }
      where
        within : (i : ℕ) → i < length (slice_set m.asked home (own_row ws)) → i < length m.asked
        within i l = (let long = length-set m.asked home (own_row ws) in omega (arith, l, long))

        joined : IsTrue (is_before m.least home) → (row_at m.asked home).ready ++ windows_before m.least home ws ≡ map window_of (n.ready home)
        joined b =
            let before : IsTrue (stands_before t.least home) = rw (h.least, same_test m.least home) b in
            let old : (row_at m.asked home).ready ≡ map window_of (take kept (n.ready home)) = agrees.ready home own.0 b ∙ ap (λ (bs : List Bool). map window_of bs) (changed_same n.ready home (take kept (n.ready home)) home refl) in
            let new : windows_before m.least home ws ≡ map window_of (drop kept (n.ready home)) = ap (λ (xs : List Bounds). windows_before m.least home xs) same ∙ (in_all (is_before m.least home) b ∙ ap (λ (bs : List Bool). map window_of bs) (extra_there before)) in
            rw (old, new) (sym (map-append window_of (take kept (n.ready home)) (drop kept (n.ready home))) ∙ ap (λ (bs : List Bool). map window_of bs) (take-append-drop kept (n.ready home)))

    left_on : rest < 2 ^ 63 → nodes ≤ 1000000 → GoesOn turns quiet t m (Handed seat number rest false nodes) n
    left_on small searched =
        let long : length windows ≡ rest = length-map extra window_of ∙ extra_long there in
        let few : length windows < 2 ^ 63 = omega (arith, long, small) in
        let finding : SearchFinding = record { piece = back_piece m seat number home own.1 own.0 is_out; rest = rest_of windows few; found = None; nodes = nodes; stopped = false; short = false } in
        record {
          event = record { call = Hand finding WasTaken; cause = Fault };
          next = back_next m seat number home own.1 own.0 is_out windows;
          made = (tt, searched);
          step = back_step m seat number home own.1 own.0 is_out windows;
          entry = ap (λ (k : ℕ). Handed seat number k false nodes ∷ []) long;
          is_true = subst (λ (cs : List ℕ). IsRestOf idle cs own.1 windows) (sym (agrees.capacities home own.0)) (subst (λ (w : Bounds). IsRestOf idle units w windows) (sym own_is) (rest_is extra));
          agrees = left_agrees windows refl;
        }

    given_on : rest ≡ 1 → nodes ≡ 0 → GoesOn turns quiet t m (GivenBack seat number) n
    given_on one none = record {
      event = record { call = GiveBack (back_piece m seat number home own.1 own.0 is_out) WasTaken; cause = Fault };
      next = back_next m seat number home own.1 own.0 is_out (own.1 ∷ []);
      made = tt;
      step = back_step m seat number home own.1 own.0 is_out (own.1 ∷ []);
      entry = refl;
      is_true = tt;
      agrees = subst (λ (k : ℕ). Agrees (brought_in t number 1 k) (back_next m seat number home own.1 own.0 is_out (own.1 ∷ [])) n) none
          (subst (λ (k : ℕ). Agrees (brought_in t number k nodes) (back_next m seat number home own.1 own.0 is_out (own.1 ∷ [])) n) one (left_agrees (own.1 ∷ []) alone));
    }
      where
        alone : own.1 ∷ [] ≡ windows
        alone =
            let single = one_alone extra (extra_long there ∙ one) in
            let is : own.1 ≡ window_of single.0 = own_is ∙ ap window_of (ap any_of single.1 ∙ any_alone single.0) in
            ap (λ (w : Bounds). w ∷ []) is ∙ ap (λ (bs : List Bool). map window_of bs) (sym single.1)

  pub left_before : rest < 2 ^ 63 → nodes ≤ 1000000 → Prepared turns quiet t (Handed seat number rest false nodes) n
  left_before small searched = record { needs = left_needs; fits = left_fits; on = λ m h agrees. left_on m h agrees small searched }

  pub given_before : rest ≡ 1 → nodes ≡ 0 → Prepared turns quiet t (GivenBack seat number) n
  given_before one none = record { needs = left_needs; fits = left_fits; on = λ m h agrees. given_on m h agrees one none }

-- a piece comes in with a yes
least_most : (least : Option ℕ) (i : ℕ) → lesser_place least i ≤ i
least_most None i = omega arith
least_most (Some x) i = go (nat_le x i) refl
  where
    go : (b : Bool) → nat_le x i ≡ b → (if b then x else i) ≤ i
    go true e = grind (arith, e)
    go false e = omega arith

module _ (turns : ℕ) (quiet : Bool) (t : Tally) (n : Needs) (seat number rest nodes : ℕ) (away : IsAway t seat number) (fits : FitsTally (after t (Handed seat number rest true nodes)) n) where
  abbrev at : ℕ
  at = (piece_at t number).index

  abbrev first : ℕ
  first = lesser_place t.least at

  abbrev yes_ready : ℕ → List Bool
  yes_ready i = if nat_lt i first then n.ready i else replicate (slice_index t.ready i) false

  abbrev yes_needs : Needs
  yes_needs = record { ready = yes_ready; out = changed n.out number true; asks = n.asks }

  yes_fits : FitsTally t yes_needs
  yes_fits i l b = go (nat_lt i first) refl
    where
      go : (a : Bool) → nat_lt i first ≡ a → length (if a then n.ready i else replicate (slice_index t.ready i) false) ≡ slice_index t.ready i
      go true e =
          let below = ltb-true i first e in
          let most = least_most t.least at in
          let long = length-set t.ready at (slice_index t.ready at + opening t.least at 0) in
          fits i (omega (arith, l, long)) e ∙ get_or-set_other t.ready at i (slice_index t.ready at + opening t.least at 0) 0 (λ same. omega (arith, below, most, same))
      go false e = length-replicate (slice_index t.ready i) false

  module _ (m : Machine) (h : Counts t m) (agrees : Agrees t m yes_needs) where
    yes_own : IsHeld (Known yes_needs) m number (piece_at t number)
    yes_own = agrees.held number away.given away.out

    yes_out : Contains (row_at m.asked at).out (record { number = number; seat = seat; window = yes_own.1 })
    yes_out = subst (λ (s : ℕ). Contains (row_at m.asked at).out (record { number = number; seat = s; window = yes_own.1 })) away.seated yes_own.3

    yes_is : window_of true ≡ yes_own.1
    yes_is = sym (yes_own.2 ∙ ap window_of (changed_same n.out number true number refl))

    abbrev yes_row : QuestionRow
    yes_row = back_row m seat number at yes_own.1 yes_own.0 yes_out []

    abbrev yes_rows : List QuestionRow
    yes_rows = slice_set m.asked at yes_row

    yes_within : (i : ℕ) → i < length (answered_next m seat number at yes_own.1 yes_own.0 yes_out (0 ∷ [])).asked → i < length m.asked
    yes_within i l = (let shut_long = shut_places at yes_rows in let long = length-set m.asked at yes_row in omega (arith, l, shut_long, long))

    first_is : (lesser m.least (record { index = at; starts = 0 ∷ [] })).index ≡ first
    first_is = lesser_same m.least (record { index = at; starts = 0 ∷ [] }) ∙ ap (λ (y : Option ℕ). lesser_place y at) (sym h.least)

    told : (i : ℕ) → nat_lt i first ≡ true → yes_ready i ≡ n.ready i
    told i e = go (nat_lt i first) e
      where
        go : (a : Bool) → a ≡ true → (if a then n.ready i else replicate (slice_index t.ready i) false) ≡ n.ready i
        go true e = refl
        go false e = absurd (cc e)

    pub answered_on : rest ≡ 0 → nodes ≤ 1000000 → GoesOn turns quiet t m (Handed seat number rest true nodes) n
    answered_on none searched =
        let finding : SearchFinding = record { piece = back_piece m seat number at yes_own.1 yes_own.0 yes_out; rest = rest_of [] (omega arith); found = Some (0 ∷ []); nodes = nodes; stopped = false; short = false } in
        record {
          event = record { call = Hand finding WasTaken; cause = Fault };
          next = answered_next m seat number at yes_own.1 yes_own.0 yes_out (0 ∷ []);
          made = (refl, searched);
          step = answer_step m seat number at yes_own.1 yes_own.0 yes_out (0 ∷ []);
          entry = ap (λ (k : ℕ). Handed seat number k true nodes ∷ []) (sym none);
          is_true = (subst (λ (cs : List ℕ). Answers idle cs yes_own.1 (0 ∷ [])) (sym (agrees.capacities at yes_own.0)) (subst (λ (w : Bounds). Answers idle units w (0 ∷ [])) yes_is answers), refl);
          agrees = record {
            come = agrees.come;
            ready = λ i l b. (let both = before_lesser m.least (record { index = at; starts = 0 ∷ [] }) i b in
                let below = both.0 in
                ap (λ (r : QuestionRow). r.ready) (shut_before at yes_rows i below ∙ get_or-set_other m.asked at i yes_row no_row (λ same. omega (arith, below, same))) ∙
                (agrees.ready i (yes_within i l) both.1 ∙ ap (λ (bs : List Bool). map window_of bs) (told i (subst (λ (k : ℕ). nat_lt i k ≡ true) first_is b))));
            held = answer_holds m seat number at yes_own.1 yes_own.0 yes_out (Known yes_needs) (Known n) t.taken (record { seat = (piece_at t number).seat; index = at; is_out = false }) refl
                (λ k w other known. known ∙ ap window_of (changed_other n.out number true k other)) agrees.held (0 ∷ []);
            capacities = λ i l. (let shut_long = shut_places at yes_rows in ap (λ (q : Question). q.capacities) (shut_question at yes_rows i (omega (arith, l, shut_long))) ∙ elim (cases_eq i at) [
              | inl e ↦ rw (e, get_or-set_same m.asked at yes_row no_row yes_own.0) (agrees.capacities at yes_own.0)
              | inr other ↦ rw (get_or-set_other m.asked at i yes_row no_row other) (agrees.capacities i (yes_within i l))
            ]);
          };
        }

  pub answered_before : rest ≡ 0 → nodes ≤ 1000000 → Prepared turns quiet t (Handed seat number rest true nodes) n
  answered_before none searched = record { needs = yes_needs; fits = yes_fits; on = λ m h agrees. answered_on m h agrees none searched }
