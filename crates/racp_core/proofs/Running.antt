-- Whatever calls a collector has had, what is true of its states stays true.
use Rattle.std.proofs.Common.{◌≡◌, ◌∙◌, ℕ, true, IsTrue, List, [], ◌∷◌, ◌++◌, Option, Some, None, refl, sym, ap, subst}
use Rattle.racp_model.specs.Project.{Project}
use Rattle.racp_model.specs.Window.{Bounds}
use Rattle.racp_model.specs.declared.question.Question.{Question}
use Rattle.racp_model.proofs.lemmas.Relations.{member_first, member_later}
use Rattle.racp_search.specs.Truth.{SearchPiece, SearchFinding, IsRestOf, IsFoundOrLeft, IsTrueFinding, rest_windows}
use Rattle.racp_core.specs.declared.replies.Asked.{Asked}
use Rattle.racp_core.specs.declared.replies.Asked.TheVariants.{Question as Next, End, Enough, Halted as AskHalted}
use Rattle.racp_core.specs.declared.replies.Reply.{Reply}
use Rattle.racp_core.specs.declared.replies.Reply.TheVariants.{Piece as Work, Nothing, Done, Halted as TakeHalted}
use Rattle.racp_core.specs.declared.replies.Merged.{Merged}
use Rattle.racp_core.specs.declared.replies.Merged.TheVariants.{Taken, Stale}
use Rattle.racp_core.specs.Machine.{Machine, all_questions, fresh, row_at, is_before}
use Rattle.racp_core.specs.Truth.{IsSoundState}
use Rattle.racp_core.specs.Steps.{IsReturned, out_of}
use Rattle.racp_core.specs.Replies.{IsAsked, IsTaken, IsMerged, IsHanded, IsGivenBack}
use Rattle.racp_core.specs.Runs.{Call, Ask, Take, Hand, GiveBack, Halt, Step, Run, AreTrueFindings, RunsAreSound}
use Rattle.racp_core.proofs.Kept.{whole_rest, out_held}
use Rattle.racp_core.proofs.Questions.{questions_in, asked_all}
use Rattle.racp_core.proofs.Sound.{sound_fresh, sound_asked, sound_sent, sound_back, sound_halted, sound_ended}
use Rattle.racp_core.proofs.Answered.{sound_answered}
use Rattle.racp_core.proofs.States.{taken_all, returned_all, answered_all}

-- what is true of a state, and which questions there are
abbrev Follows : Project → Machine → Machine → Type 0
Follows p old new = IsSoundState p new × (all_questions new ≡ all_questions old)

follows_same : (p : Project) (old new : Machine) → new ≡ old → IsSoundState p old → Follows p old new
follows_same p old new e h = (subst (λ (m : Machine). IsSoundState p m) (sym e) h, ap all_questions e)

after_returned : (p : Project) (old : Machine) (piece : SearchPiece) (windows : List Bounds) (new : Machine) → (IsTrue (is_before old.least piece.index) → IsRestOf p piece.question.capacities piece.question.window windows) → IsReturned old piece windows new → IsSoundState p old → Follows p old new
after_returned p old piece windows new rest step h = (
  subst (λ (m : Machine). IsSoundState p m) (sym step.row.2)
      (sound_back p old piece.index (out_of piece) windows step.row.0 step.out.0 step.row.1 (λ b. subst (λ (c : List ℕ). IsRestOf p c piece.question.window windows) step.out.1 (rest b)) h),
  returned_all old piece windows new step,
)

after_asked : (p : Project) (old : Machine) (asked : Asked) (new : Machine) → IsAsked old asked new → IsSoundState p old → Follows p old new
after_asked p old (Next index) new step h =
    let first = step.first in (
      subst (λ (m : Machine). IsSoundState p m) (sym first.3) (sound_asked p old first.0 first.1 step.unknown first.2 h),
      ap all_questions first.3 ∙ (asked_all old.asked first.0 first.1 ∙ ap (λ (qs : List Question). questions_in old.asked ++ qs) (sym first.2)),
    )
after_asked p old End new step h = (subst (λ (m : Machine). IsSoundState p m) (sym step.3) (sound_ended p old step.2 h), ap all_questions step.3)
after_asked p old Enough new step h = follows_same p old new step.2 h
after_asked p old AskHalted new step h = follows_same p old new step.1 h

after_taken : (p : Project) (old : Machine) (seat : ℕ) (reply : Reply SearchPiece) (new : Machine) → IsTaken old seat reply new → IsSoundState p old → Follows p old new
after_taken p old seat (Work piece) new step h =
    let taken = step.2 in
    (subst (λ (m : Machine). IsSoundState p m) (sym taken.row.2) (sound_sent p old piece.index _ (out_of piece) taken.row.0 taken.least.asked taken.least.before taken.row.1 h), taken_all old seat piece new taken)
after_taken p old seat Nothing new step h = follows_same p old new step.3 h
after_taken p old seat Done new step h = follows_same p old new step.1 h
after_taken p old seat TakeHalted new step h = follows_same p old new step.2 h

after_merged : (p : Project) (old : Machine) (finding : SearchFinding) (found : Option (List ℕ)) (new : Machine) → IsFoundOrLeft p finding.piece.question.capacities finding.piece.question.window found (rest_windows finding.piece.question.window finding.rest) →
    IsMerged old finding found new → IsSoundState p old → Follows p old new
after_merged p old finding (Some starts) new is_true step h =
    (subst (λ (m : Machine). IsSoundState p m) (sym step.changed) (sound_answered p old finding.piece starts step.row.0 new.asked step.out step.row.1 step.row.2 is_true.0 h), answered_all old finding.piece starts new step)
after_merged p old finding None new is_true step h = after_returned p old finding.piece (rest_windows finding.piece.question.window finding.rest) new (λ b. is_true) step h

after_handed : (p : Project) (old : Machine) (finding : SearchFinding) (merged : Merged) (new : Machine) → IsTrueFinding p finding → IsHanded old finding merged new → IsSoundState p old → Follows p old new
after_handed p old finding Taken new is_true step h = after_merged p old finding finding.found new is_true step h
after_handed p old finding Stale new is_true step h = follows_same p old new step.1 h

after_given : (p : Project) (old : Machine) (piece : SearchPiece) (merged : Merged) (new : Machine) → IsGivenBack old piece merged new → IsSoundState p old → Follows p old new
after_given p old piece Taken new step h =
    after_returned p old piece (piece.question.window ∷ []) new
    (λ b. whole_rest p piece.question.capacities piece.question.window ((h.kept piece.index step.out.0 b).bounds piece.question.window (out_held (out_of piece) (row_at old.asked piece.index) step.out.2))) step h
after_given p old piece Stale new step h = follows_same p old new step.1 h

-- one step
pub after_step : (p : Project) (old : Machine) (call : Call) (new : Machine) → ((finding : SearchFinding) (merged : Merged) → call ≡ Hand finding merged → IsTrueFinding p finding) → Step old call new → IsSoundState p old → Follows p old new
after_step p old (Ask asked) new is_true step h = after_asked p old asked new step h
after_step p old (Take seat reply) new is_true step h = after_taken p old seat reply new step h
after_step p old (Hand finding merged) new is_true step h = after_handed p old finding merged new (is_true finding merged refl) step h
after_step p old (GiveBack piece merged) new is_true step h = after_given p old piece merged new step h
after_step p old Halt new is_true step h = (subst (λ (m : Machine). IsSoundState p m) (sym step) (sound_halted p old true h), ap all_questions step)

-- any number of them
after_run : (p : Project) (calls : List Call) (old new : Machine) → AreTrueFindings p calls → Run old calls new → IsSoundState p old → Follows p old new
after_run p [] old new are_true run h = follows_same p old new run h
after_run p (call ∷ calls) old new are_true run h =
    let one = after_step p old call run.0 (λ finding merged is. are_true finding merged (member_first call calls (Hand finding merged) is)) run.1 h in
    let rest = after_run p calls run.0 new (λ finding merged later. are_true finding merged (member_later call calls (Hand finding merged) later)) run.2 one.0 in
    (rest.0, rest.1 ∙ one.1)

pub runs_sound : RunsAreSound
runs_sound p questions calls m formed are_true run = after_run p calls (fresh questions) m are_true run (sound_fresh p questions formed)
