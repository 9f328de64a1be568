-- What is kept of a desk stays true at each call.
use Rattle.std.proofs.Common.{◌≡◌, ◌∙◌, ℕ, ◌+◌, ◌^◌, ◌<◌, true, false, List, [], ◌∷◌, ◌++◌, length, Option, Some, None, refl, sym, ap, subst, arith, length-append}
use Rattle.std.specs.Option.{is_some}
use Rattle.racp_model.specs.Window.{Bounds}
use Rattle.racp_model.specs.declared.question.Question.{Question}
use Rattle.racp_search.specs.declared.finding.Rest.{Rest}
use Rattle.racp_search.specs.declared.finding.Rest.TheVariants.{Whole, Windows}
use Rattle.racp_model.specs.Project.{Project}
use Rattle.racp_search.specs.Truth.{SearchPiece, SearchFinding, IsFoundOrLeft, rest_windows}
use Rattle.racp_core.specs.Machine.{Machine, all_questions}
use Rattle.racp_core.specs.Steps.{IsNextAsked, IsPieceTaken, IsReturned, IsOut}
use Rattle.racp_core.specs.Replies.{IsMerged}
use Rattle.racp_desk.specs.declared.log.Cause.{Cause}
use Rattle.racp_desk.specs.declared.log.Entry.{Entry}
use Rattle.racp_desk.specs.declared.log.Entry.TheVariants.{Asked, Taken, Handed, GivenBack, Halted}
use Rattle.racp_desk.specs.Log.{Tally, after, tally, nothing, LeavesNone}
use Rattle.racp_desk.specs.Desk.{Counts, IsDesk, windows_left}
use Rattle.racp_desk.proofs.Logs.{counted_push}
use Rattle.racp_desk.proofs.Counted.{counts_asked, counts_taken, counts_returned, counts_answered, counts_halted}

-- an entry more
pub longer : (log next : List Entry) (e : Entry) → next ≡ log ++ e ∷ [] → length next ≡ length log + 1
longer log next e is = ap (λ (es : List Entry). length es) is ∙ length-append log (e ∷ [])

pub desk_push : (series : List Question) (old new : Machine) (log next : List Entry) (e : Entry) → next ≡ log ++ e ∷ [] → all_questions new ≡ all_questions old → Counts (after (tally log) e) new → IsDesk series old log → IsDesk series new next
desk_push series old new log next e is same counts h = record {
  counts = subst (λ (t : Tally). Counts t new) (sym (ap tally is ∙ counted_push nothing log e)) counts;
  series_is = same ∙ h.series_is;
}

-- the series has ended
pub desk_ended : (series : List Question) (m new : Machine) (log next : List Entry) → next ≡ log → new ≡ record m { ended = true } → IsDesk series m log → IsDesk series new next
desk_ended series m new log next same is h = rw (same, is) (record {
  counts = record {
    ready_places = h.counts.ready_places;
    out_places = h.counts.out_places;
    ready = h.counts.ready;
    out = h.counts.out;
    taken = h.counts.taken;
    pieces = h.counts.pieces;
    once = h.counts.once;
    least = h.counts.least;
    halted = h.counts.halted;
  };
  series_is = h.series_is;
})

-- nothing has changed
pub desk_same : (series : List Question) (m new : Machine) (log next : List Entry) → next ≡ log → new ≡ m → IsDesk series m log → IsDesk series new next
desk_same series m new log next same is h = rw (same, is) h

-- a question is asked
pub desk_asked : (series : List Question) (old new : Machine) (log next : List Entry) (index : ℕ) → next ≡ log ++ Asked index ∷ [] → all_questions new ≡ all_questions old → IsNextAsked old new index → IsDesk series old log → IsDesk series new next
desk_asked series old new log next index is same step h = desk_push series old new log next (Asked index) is same (counts_asked (tally log) old new index step h.counts) h

-- a piece is taken
pub desk_taken : (series : List Question) (old new : Machine) (seat : ℕ) (log next : List Entry) (piece : SearchPiece) → next ≡ log ++ Taken seat piece.number piece.index ∷ [] → all_questions new ≡ all_questions old → IsPieceTaken old seat piece new → IsDesk series old log → IsDesk series new next
desk_taken series old new seat log next piece is same step h =
    desk_push series old new log next (Taken seat piece.number piece.index) is same (counts_taken (tally log) old seat piece new step h.counts) h

-- how many windows are left
count_is : (window : Bounds) (rest : Rest) → length (rest_windows window rest) ≡ windows_left rest
count_is window Whole = refl
count_is window (Windows list) = refl

-- a finding comes in
module _ (t : Tally) (old new : Machine) (finding : SearchFinding) (h : Counts t old) where
  merged_counts : (found : Option (List ℕ)) → IsMerged old finding found new → Counts (after t (Handed finding.piece.seat finding.piece.number (windows_left finding.rest) (is_some found) finding.nodes)) new
  merged_counts None back =
      subst (λ (n : ℕ). Counts (after t (Handed finding.piece.seat finding.piece.number n false finding.nodes)) new) (count_is finding.piece.question.window finding.rest)
      (counts_returned t old finding.piece (rest_windows finding.piece.question.window finding.rest) new finding.nodes back h)
  merged_counts (Some starts) answered = counts_answered t old finding.piece starts new finding.nodes answered h

pub counts_handed : (t : Tally) (old new : Machine) (finding : SearchFinding) → IsMerged old finding finding.found new → Counts t old →
    Counts (after t (Handed finding.piece.seat finding.piece.number (windows_left finding.rest) (is_some finding.found) finding.nodes)) new
counts_handed t old new finding step h = merged_counts t old new finding h finding.found step

pub desk_handed : (series : List Question) (old new : Machine) (log next : List Entry) (finding : SearchFinding) → next ≡ log ++ Handed finding.piece.seat finding.piece.number (windows_left finding.rest) (is_some finding.found) finding.nodes ∷ [] →
    all_questions new ≡ all_questions old → IsMerged old finding finding.found new → IsDesk series old log → IsDesk series new next
desk_handed series old new log next finding is same step h =
    desk_push series old new log next (Handed finding.piece.seat finding.piece.number (windows_left finding.rest) (is_some finding.found) finding.nodes) is same (counts_handed (tally log) old new finding step h.counts) h

-- a piece is given back
pub desk_given_back : (series : List Question) (old new : Machine) (log next : List Entry) (piece : SearchPiece) → next ≡ log ++ GivenBack piece.seat piece.number ∷ [] → all_questions new ≡ all_questions old →
    IsReturned old piece (piece.question.window ∷ []) new → IsDesk series old log → IsDesk series new next
desk_given_back series old new log next piece is same step h =
    desk_push series old new log next (GivenBack piece.seat piece.number) is same (counts_returned (tally log) old piece (piece.question.window ∷ []) new 0 step h.counts) h

-- the desk is halted
pub desk_halted : (series : List Question) (old new : Machine) (log next : List Entry) (cause : Cause) → next ≡ log ++ Halted cause ∷ [] → new ≡ record old { halted = true } → IsDesk series old log → IsDesk series new next
desk_halted series old new log next cause is change h =
    desk_push series old new log next (Halted cause) is (ap all_questions change) (rw change (counts_halted (tally log) old cause h.counts)) h

-- what was out leaves so many windows
pub merged_out : (old : Machine) (finding : SearchFinding) (found : Option (List ℕ)) (new : Machine) → IsMerged old finding found new → IsOut old finding.piece
merged_out old finding None new step = step.out
merged_out old finding (Some starts) new step = step.out

-- a finding with a yes leaves nothing
pub leaves_none : (p : Project) (capacities : List ℕ) (window : Bounds) (found : Option (List ℕ)) (rest : Rest) → IsFoundOrLeft p capacities window found (rest_windows window rest) → LeavesNone (is_some found) (windows_left rest)
leaves_none p capacities window None rest h = tt
leaves_none p capacities window (Some starts) Whole h = absurd (let none = h.1 in cc none)
leaves_none p capacities window (Some starts) (Windows list) h = ap (λ ws. length ws) h.1

-- no more windows are left than memory may hold
pub few_left : (rest : Rest) → windows_left rest < 2 ^ 63
few_left Whole = omega arith
few_left (Windows list) = (let long = list.ok.0 in let room = list.ok.1 in let small = list.small in omega (arith, long, room, small))
