-- All that is kept of a state, with the places of its undecided questions, stays true.
use Rattle.std.proofs.Common.{◌≡◌, ◌∙◌, ℕ, zero, suc, ◌+◌, ◌<◌, Bool, if◌then◌else◌, IsTrue, List, [], ◌∷◌, ◌++◌, length, slice_index_or, slice_set, Option, Some, None, refl, sym, ap, subst, arith}
use Rattle.std.proofs.lemmas.List.{get_or_default, get_or_read}
use Rattle.racp_model.specs.Project.{Project}
use Rattle.racp_model.specs.Window.{Bounds, Answers}
use Rattle.racp_model.specs.declared.question.Question.{Question}
use Rattle.racp_search.specs.Truth.{SearchPiece, IsRestOf, IsFoundOrLeft}
use Rattle.racp_core.specs.Machine.{PieceOut, QuestionRow, KnownYes, Machine, all_questions, opened, row_at, no_row, is_before}
use Rattle.racp_core.specs.Steps.{IsOut, IsSent, IsBack, out_of, windows_before, lesser, AreShutFrom, IsReturned, IsAnswered, IsPieceTaken}
use Rattle.racp_core.specs.Rows.{no_out, IsPlaceIn, IsAdded, IsRemoved, IsRemovedIfDone, IsCutAt}
use Rattle.racp_core.specs.Truth.{IsState}
use Rattle.racp_core.proofs.Kept.{whole_rest, out_held}
use Rattle.racp_core.proofs.Questions.{set_same, shut_same, same_trans, same_all}
use Rattle.racp_core.proofs.Sound.{sound_asked, sound_sent, sound_back}
use Rattle.racp_core.proofs.Answered.{sound_answered}
use Rattle.racp_core.proofs.Open.{open_asked, open_set, open_sent, open_cut}

-- a row that is written as it was
pub set_read : (asked : List QuestionRow) (i : ℕ) (row : QuestionRow) → row ≡ row_at asked i → i < length asked → slice_set asked i row ≡ asked
set_read [] i row e l = refl
set_read (x ∷ xs) zero row e l = ap (λ (r : QuestionRow). r ∷ xs) e
set_read (x ∷ xs) (suc i) row e l = ap (λ (rs : List QuestionRow). x ∷ rs) (set_read xs i row e (omega (arith, l)))

pub state_same : (p : Project) (m : Machine) (places : List ℕ) (index : ℕ) (row : QuestionRow) → row ≡ row_at m.asked index → index < length m.asked → IsState p m places → IsState p (record m { asked = slice_set m.asked index row }) places
state_same p m places index row e l h = subst (λ (asked : List QuestionRow). IsState p (record m { asked = asked }) places) (sym (set_read m.asked index row e l)) h

-- a question is asked
pub state_asked : (p : Project) (m : Machine) (places more : List ℕ) (question : Question) (rest : List Question) → m.least ≡ None → m.to_come ≡ question ∷ rest → IsAdded places (length m.asked) more → IsState p m places →
    IsState p (record m { asked = m.asked ++ opened question ∷ []; to_come = rest }) more
state_asked p m places more question rest none next added h = record {
  sound = sound_asked p m question rest none next h.sound;
  undecided = rw none (open_asked m.asked question places more (rw none at h.undecided) added);
}

-- a piece goes out
pub state_sent : (p : Project) (m : Machine) (places : List ℕ) (index taken : ℕ) (piece : PieceOut) (row : QuestionRow) → index < length m.asked → IsTrue (is_before m.least index) → 0 < length (row_at m.asked index).ready →
    IsSent piece (row_at m.asked index) row → IsState p m places → IsState p (record m { asked = slice_set m.asked index row; taken = taken }) places
state_sent p m places index taken piece row l before some sent h = record {
  sound = sound_sent p m index taken piece row l before sent h.sound;
  undecided = open_sent m.least m.asked index piece row places l some sent h.undecided;
}

-- a piece at its place is out
pub place_out : (m : Machine) (piece : SearchPiece) (at : ℕ) → IsPlaceIn m.asked piece at → IsOut m piece
place_out m piece at h = (h.index, h.place.capacities, (at, h.place.within, get_or_default (row_at m.asked piece.index).out at (out_of piece) no_out h.place.within ∙ h.place.is))

-- so something of its question is
busy_there : (m : Machine) (piece : SearchPiece) → IsOut m piece → 0 < length (row_at m.asked piece.index).ready + length (row_at m.asked piece.index).out
busy_there m piece (l, same, (k, within, e)) = omega (arith, within)

-- a piece comes back, with what is left of its window
pub state_back : (p : Project) (m : Machine) (places more : List ℕ) (piece : SearchPiece) (windows : List Bounds) (row : QuestionRow) → IsOut m piece → IsBack (out_of piece) (windows_before m.least piece.index windows) (row_at m.asked piece.index) row →
    (IsTrue (is_before m.least piece.index) → IsRestOf p piece.question.capacities piece.question.window windows) → IsRemovedIfDone (slice_set m.asked piece.index row) places piece.index more → IsState p m places →
    IsState p (record m { asked = slice_set m.asked piece.index row }) more
state_back p m places more piece windows row out back rest settled h = record {
  sound = sound_back p m piece.index (out_of piece) windows row out.0 back (λ b. subst (λ (c : List ℕ). IsRestOf p c piece.question.window windows) out.1 (rest b)) h.sound;
  undecided = open_set m.least m.asked piece.index row places more out.0 (busy_there m piece out) h.undecided settled;
}

-- what the code does where a piece comes back
module _ (m now : Machine) (piece : SearchPiece) (at index : ℕ) (opens : Bool) (windows : List Bounds) (row new : QuestionRow) (same : m ≡ now) (e : index ≡ piece.index) (place : IsPlaceIn now.asked piece at) (is : opens ≡ is_before now.least index)
    (here : row ≡ slice_index_or m.asked index row) (back : IsBack (slice_index_or row.out at no_out) (if opens then windows else []) row new) where
  put_place : IsPlaceIn m.asked piece at
  put_place = subst (λ (x : Machine). IsPlaceIn x.asked piece at) (sym same) place

  put_back : IsBack (out_of piece) (windows_before m.least piece.index windows) (row_at m.asked piece.index) new
  put_back =
      let there = put_place in
      let test : opens ≡ is_before m.least piece.index = is ∙ (ap (λ (x : Machine). is_before x.least index) (sym same) ∙ ap (λ (k : ℕ). is_before m.least k) e) in
      let old : row ≡ row_at m.asked piece.index = get_or_read m.asked index row (let l = there.index in omega (arith, e, l)) here no_row ∙ ap (λ (k : ℕ). row_at m.asked k) e in
      subst (λ (o : PieceOut). IsBack o (windows_before m.least piece.index windows) (row_at m.asked piece.index) new) there.place.is
      (subst (λ (r : QuestionRow). IsBack (slice_index_or r.out at no_out) (windows_before m.least piece.index windows) r new) old
      (subst (λ (b : Bool). IsBack (slice_index_or row.out at no_out) (if b then windows else []) row new) test back))

  pub state_put : (p : Project) (places more : List ℕ) → (IsTrue (is_before m.least piece.index) → IsRestOf p piece.question.capacities piece.question.window windows) → IsRemovedIfDone (slice_set m.asked index new) places index more → IsState p m places →
      IsState p (record m { asked = slice_set m.asked index new }) more
  state_put p places more rest settled h =
      subst (λ (k : ℕ). IsState p (record m { asked = slice_set m.asked k new }) more) (sym e)
      (state_back p m places more piece windows new (place_out m piece at put_place) put_back rest (subst (λ (k : ℕ). IsRemovedIfDone (slice_set m.asked k new) places k more) e settled) h)

  pub put_step : IsReturned now piece windows (record m { asked = slice_set m.asked index new })
  put_step = subst (λ (x : Machine). IsReturned x piece windows (record m { asked = slice_set m.asked index new })) same (record {
    out = place_out m piece at put_place;
    row = (new, put_back, ap (λ (k : ℕ). record m { asked = slice_set m.asked k new }) e);
  })

-- the window of a piece that is out is what is left of it
pub whole_left : (p : Project) (m : Machine) (places : List ℕ) (piece : SearchPiece) → IsOut m piece → IsState p m places → IsTrue (is_before m.least piece.index) → IsRestOf p piece.question.capacities piece.question.window (piece.question.window ∷ [])
whole_left p m places piece out h b =
    whole_rest p piece.question.capacities piece.question.window ((h.sound.kept piece.index out.0 b).bounds piece.question.window (out_held (out_of piece) (row_at m.asked piece.index) out.2))

-- what a finding without a yes leaves
pub rest_left : (p : Project) (capacities : List ℕ) (window : Bounds) (found : Option (List ℕ)) (rest : List Bounds) → IsFoundOrLeft p capacities window found rest → found ≡ None → IsRestOf p capacities window rest
rest_left p capacities window found rest h e = subst (λ (f : Option (List ℕ)). IsFoundOrLeft p capacities window f rest) e h

-- what a finding with a yes found
pub found_answers : (p : Project) (capacities : List ℕ) (window : Bounds) (found : Option (List ℕ)) (starts : List ℕ) (rest : List Bounds) → IsFoundOrLeft p capacities window found rest → found ≡ Some starts → Answers p capacities window starts
found_answers p capacities window found starts rest h e = (subst (λ (f : Option (List ℕ)). IsFoundOrLeft p capacities window f rest) e h).0

-- a place of which nothing is open or out is removed
pub settled_done : (asked : List QuestionRow) (index : ℕ) (row : QuestionRow) (old new : List ℕ) → index < length asked → row ≡ slice_index_or asked index row → length row.ready + length row.out ≡ 0 → IsRemoved old index new → IsRemovedIfDone asked old index new
settled_done asked index row old new l here none removed i =
    let e : row ≡ row_at asked index = get_or_read asked index row l here no_row in
    let done : length (row_at asked index).ready + length (row_at asked index).out ≡ 0 = subst (λ (r : QuestionRow). length r.ready + length r.out ≡ 0) e none in
    (λ c. (let was = (removed i).0 c in (was.0, λ same. absurd (was.1 same))), λ held. (removed i).1 (held.0, λ same. (let busy = held.1 same in omega (arith, busy, done))))

-- a piece comes back, with a yes
pub state_answered : (p : Project) (m : Machine) (places more : List ℕ) (piece : SearchPiece) (starts : List ℕ) (row : QuestionRow) (next : List QuestionRow) → IsOut m piece → IsBack (out_of piece) [] (row_at m.asked piece.index) row →
    AreShutFrom piece.index (slice_set m.asked piece.index row) next → IsCutAt places piece.index more → Answers p piece.question.capacities piece.question.window starts → IsState p m places →
    IsState p (record m { asked = next; least = Some (lesser m.least (record { index = piece.index; starts = starts })) }) more
state_answered p m places more piece starts row next out back shutting cutting answer h = record {
  sound = sound_answered p m piece starts row next out back shutting answer h.sound;
  undecided = open_cut m.least m.asked next piece.index row starts places more out.0 shutting cutting h.undecided;
}

-- the questions stay where a piece goes out, or comes back
pub taken_all : (old : Machine) (seat : ℕ) (piece : SearchPiece) (new : Machine) → IsPieceTaken old seat piece new → all_questions new ≡ all_questions old
taken_all old seat piece new h =
    ap all_questions h.row.2 ∙ same_all old.asked (slice_set old.asked piece.index h.row.0) old.to_come (set_same old.asked piece.index h.row.0 h.least.asked h.row.1.0)

pub returned_all : (old : Machine) (piece : SearchPiece) (windows : List Bounds) (new : Machine) → IsReturned old piece windows new → all_questions new ≡ all_questions old
returned_all old piece windows new h =
    ap all_questions h.row.2 ∙ same_all old.asked (slice_set old.asked piece.index h.row.0) old.to_come (set_same old.asked piece.index h.row.0 h.out.0 h.row.1.0)

pub answered_all : (old : Machine) (piece : SearchPiece) (starts : List ℕ) (new : Machine) → IsAnswered old piece starts new → all_questions new ≡ all_questions old
answered_all old piece starts new h =
    ap all_questions h.changed ∙ same_all old.asked new.asked old.to_come
    (same_trans old.asked (slice_set old.asked piece.index h.row.0) new.asked (set_same old.asked piece.index h.row.0 h.out.0 h.row.1.0) (shut_same piece.index (slice_set old.asked piece.index h.row.0) new.asked h.row.2))

-- a row is written as it was read
pub written_as_read : (asked : List QuestionRow) (index : ℕ) (row new : QuestionRow) → index < length asked → row ≡ slice_index_or asked index row → new ≡ row → slice_set asked index new ≡ asked
written_as_read asked index row new l here same = set_read asked index new (same ∙ get_or_read asked index row l here no_row) l

pub state_read : (p : Project) (m : Machine) (places : List ℕ) (index : ℕ) (row new : QuestionRow) → index < length m.asked → row ≡ slice_index_or m.asked index row → new ≡ row → IsState p m places → IsState p (record m { asked = slice_set m.asked index new }) places
state_read p m places index row new l here same h = state_same p m places index new (same ∙ get_or_read m.asked index row l here no_row) l h

-- what the code does where a piece comes back with a yes
module _ (m now : Machine) (places more : List ℕ) (piece : SearchPiece) (at index : ℕ) (starts : List ℕ) (row new : QuestionRow) (next : List QuestionRow) (least : KnownYes) (same : m ≡ now) (e : index ≡ piece.index) (place : IsPlaceIn now.asked piece at)
    (here : row ≡ slice_index_or m.asked index row) (back : IsBack (slice_index_or row.out at no_out) [] row new) (shutting : AreShutFrom index (slice_set m.asked index new) next) (lesser_is : least ≡ lesser m.least (record { index = index; starts = starts })) where
  yes_place : IsPlaceIn m.asked piece at
  yes_place = subst (λ (x : Machine). IsPlaceIn x.asked piece at) (sym same) place

  yes_back : IsBack (out_of piece) [] (row_at m.asked piece.index) new
  yes_back =
      let there = yes_place in
      let old : row ≡ row_at m.asked piece.index = get_or_read m.asked index row (let l = there.index in omega (arith, e, l)) here no_row ∙ ap (λ (k : ℕ). row_at m.asked k) e in
      subst (λ (o : PieceOut). IsBack o [] (row_at m.asked piece.index) new) there.place.is (subst (λ (r : QuestionRow). IsBack (slice_index_or r.out at no_out) [] r new) old back)

  yes_shut : AreShutFrom piece.index (slice_set m.asked piece.index new) next
  yes_shut = subst (λ (k : ℕ). AreShutFrom k (slice_set m.asked k new) next) e shutting

  yes_least : least ≡ lesser m.least (record { index = piece.index; starts = starts })
  yes_least = lesser_is ∙ ap (λ (k : ℕ). lesser m.least (record { index = k; starts = starts })) e

  pub state_yes : (p : Project) → IsCutAt places index more → Answers p piece.question.capacities piece.question.window starts → IsState p m places → IsState p (record m { asked = next; least = Some least }) more
  state_yes p cutting answer h =
      rw yes_least (state_answered p m places more piece starts new next (place_out m piece at yes_place) yes_back yes_shut (subst (λ (k : ℕ). IsCutAt places k more) e cutting) answer h)

  pub yes_step : IsAnswered now piece starts (record m { asked = next; least = Some least })
  yes_step = subst (λ (x : Machine). IsAnswered x piece starts (record m { asked = next; least = Some least })) same (record {
    out = place_out m piece at yes_place;
    row = (new, yes_back, yes_shut);
    changed = rw yes_least refl;
  })
