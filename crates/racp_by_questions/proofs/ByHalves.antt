-- The first capacities that are enough, by halves of their box.
use Rattle.std.proofs.Common.{◌≡◌, ◌∙◌, ℕ, List, [], ◌∷◌, length, Option, Some, None, IfSome, sym, ap, subst, arith}
use Rattle.racp_model.specs.Project.{Project}
use Rattle.racp_model.specs.Terms.{Terms, AreTermsOf, release_of, due_of, IsBefore}
use Rattle.racp_model.specs.Plan.{IsLeast, IsEnough}
use Rattle.racp_model.specs.Window.{Bounds, IsRootWindow}
use Rattle.racp_model.specs.declared.question.Question.{Question}
use Rattle.racp_model.proofs.lemmas.Cuts.{cut, cut_places}
use Rattle.racp_bounds.specs.declared.sharp.Sharp.{Sharp}
use Rattle.racp_bounds.proofs.lemmas.Sharpened.{admitting_above_sharpened, admitting_yes, all_sharpened}
use Rattle.racp_by_questions.specs.Enough.{AreFloorsOf, IsEnoughWithin}
use Rattle.racp_by_questions.proofs.lemmas.AtMost.{at_most-before}
use Rattle.racp_candidates.specs.Questions.{question_of}
use Rattle.racp_questions.specs.declared.asker.AskStop.{AskStop}
use Rattle.racp_questions.specs.declared.asker.AskStop.TheVariants.{Stopped as AskStopped, Memory as AskMemory, NoThread as AskNoThread}
use Rattle.racp_questions.specs.FirstYes.{IsProbeStop, IsReached, IsStop, question_at}
use Rattle.racp_by_questions.specs.Stops.{IsPlanStop, IsNotAfterEnough, given_up}
use Rattle.racp_by_questions.specs.Stages.{AreSharpFloorsAndRoofs, IsStoppedInBox}
use Rattle.racp_by_questions.proofs.Choosing.{cut_admits, cut_less, cut_within, due_by, reached_first, yes_enough}

module _ (p : Project) (terms : Terms) (root : Bounds) (t : AreTermsOf p terms) (h : IsRootWindow p (release_of terms) (due_of terms) root) (sharp : Sharp) (roofs : List ℕ) (ends : AreSharpFloorsAndRoofs p terms root sharp roofs) where
  -- what is enough within the roofs is enough for the order
  within_enough : (vector : List ℕ) → IsEnoughWithin p root roofs vector → IsEnough p terms vector
  within_enough vector e = yes_enough p terms root ends.first roofs t h ends.ends.lowest ends.ends.most vector e.places e.within e.yes

  -- the sharpened floors are floors of all that is enough
  pub sharp_floors : AreFloorsOf p root sharp.floors roofs
  sharp_floors = record {
    places = ends.sharp_are.sharpened.places;
    below = λ vector e k l.
        admitting_above_sharpened p (release_of terms) (due_of terms) root terms.deadline p.resources ends.first roofs sharp.floors vector h
        (due_by p terms root ends.first roofs t h ends.ends.lowest ends.ends.most) ends.ends.lowest ends.ends.most.places (all_sharpened p root ends.first roofs sharp.floors ends.sharp_are.sharpened) e.within
        (within_enough vector e).admits k l;
  }

  -- and the roofs are enough
  pub roofs_enough : IsEnoughWithin p root roofs roofs
  roofs_enough = record { places = ends.ends.most.places; within = λ k l. omega arith; yes = ends.ends.yes }

  -- the first within the roofs is the first of all
  pub within_least : (vector : List ℕ) → IsLeast (IsBefore terms) (IsEnoughWithin p root roofs) vector → IsLeast (IsBefore terms) (IsEnough p terms) vector
  within_least vector least = record {
    is = within_enough vector least.is;
    least = λ other e before.
        let lowest = ends.ends.lowest in
        let most = ends.ends.most in
        least.least (cut p other) (record {
          places = cut_places p other;
          within = cut_within p terms root ends.first roofs t h lowest most other e;
          yes = admitting_yes p (release_of terms) (due_of terms) root (cut p other) h (cut_admits p terms root ends.first roofs t h lowest most other e);
        })
        (at_most-before p terms t (cut p other) other (cut_less p terms root ends.first roofs t h lowest most other) (cut_places p other) e.places vector before);
  }

  -- none that are enough stand before the sharpened floors, nor before the first that are
  floors_first : IsNotAfterEnough p terms sharp.floors
  floors_first = reached_first p terms root ends.first roofs t h ends.ends.lowest ends.ends.most p.resources sharp.floors (all_sharpened p root ends.first roofs sharp.floors ends.sharp_are.sharpened)

  -- asking for halves ends early
  pub halves_stopped : (told : Option (List ℕ)) (may_stop may_want_thread left : Type 0) (stop : AskStop) → IsProbeStop told may_stop may_want_thread stop → left →
      IsPlanStop (IsStoppedInBox p terms sharp.floors told) (may_stop × left) may_want_thread (given_up stop sharp.floors)
  halves_stopped told may_stop may_want_thread left (AskStopped reached) given some =
      ((given.0, some), record { none = floors_first; above = λ k l. omega arith; as_told = subst (λ (o : Option (List ℕ)). IfSome o (λ r. sharp.floors ≡ r)) (sym given.1) tt })
  halves_stopped told may_stop may_want_thread left AskMemory given some = tt
  halves_stopped told may_stop may_want_thread left AskNoThread given some = given.0

  module _ (vector : List ℕ) (least : IsLeast (IsBefore terms) (IsEnoughWithin p root roofs) vector) where
    -- what is reached in a series of one question has its capacities
    reached_one : (questions : List Question) (reached : Option (List ℕ)) → questions ≡ question_of vector root ∷ [] → IsReached p questions reached → IfSome reached (λ r. vector ≡ r)
    reached_one questions None is r = tt
    reached_one questions (Some capacities) is r =
        let first : r.0 ≡ 0 = omega (arith, r.1, ap (λ (qs : List Question). length qs) is) in
        ap (λ (q : Question). q.capacities) (sym (ap (λ (i : ℕ). question_at (question_of vector root ∷ []) i) first)) ∙ ap (λ (qs : List Question). (question_at qs r.0).capacities) (sym is) ∙ r.2

    -- asking for the first once more ends early
    pub first_stopped : (questions : List Question) (told : Option (List ℕ)) (may_stop may_want_thread left : Type 0) (stop : AskStop) → questions ≡ question_of vector root ∷ [] → IsStop p questions told may_stop may_want_thread stop → left →
        IsPlanStop (IsStoppedInBox p terms sharp.floors told) (may_stop × left) may_want_thread (given_up stop vector)
    first_stopped questions told may_stop may_want_thread left (AskStopped reached) is given some = (
      (given.0, some),
      record {
        none = record { places = least.is.places; none = (within_least vector least).least };
        above = sharp_floors.below vector least.is;
        as_told = subst (λ (o : Option (List ℕ)). IfSome o (λ r. vector ≡ r)) (sym given.1.0) (reached_one questions reached is given.1.1);
      },
    )
    first_stopped questions told may_stop may_want_thread left AskMemory is given some = tt
    first_stopped questions told may_stop may_want_thread left AskNoThread is given some = given.0
