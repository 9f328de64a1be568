-- Why planning by workers ended early.
use Rattle.std.proofs.Common.{◌≡◌, ◌⊎◌, inl, inr, ℕ, ◌+◌, Bool, false, List, Option, subst, arith}
use Rattle.std.specs.Prelude.{⊤}
use Rattle.racp_model.specs.Project.{Project}
use Rattle.racp_model.specs.Terms.{Terms}
use Rattle.racp_by_questions.specs.Stops.{IsPlanStop, IsStoppedAt}
use Rattle.racp_by_questions.specs.Crowds.{HaveTaken, MayStop}
use Rattle.racp_lexfix.specs.Printing.{IsCrowdStop}
use Rattle.racp_by_questions.specs.declared.stop.PlanStop.{PlanStop}
use Rattle.racp_by_questions.specs.declared.stop.PlanStop.TheVariants.{Stopped, Memory, NoThread}

-- where no turn is left all were taken
pub may_stop : (p : Project) (quiet : Bool) (left pieces turns : ℕ) → HaveTaken p quiet pieces → left + pieces ≡ turns → (left ≡ 0) ⊎ (quiet ≡ false) → MayStop p quiet turns
may_stop p quiet left pieces turns taken sum (inl none) = inl (let all : pieces ≡ turns = omega (arith, none, sum) in subst (HaveTaken p quiet) all taken)
may_stop p quiet left pieces turns taken sum (inr asks) = inr asks

-- so planning stops only then
pub crowd_stop : (p : Project) (terms : Terms) (quiet : Bool) (left pieces turns answered : ℕ) (told : Option (List ℕ)) (stop : PlanStop) → HaveTaken p quiet pieces → left + pieces ≡ turns →
    IsPlanStop (IsStoppedAt p terms answered told) ((left ≡ 0) ⊎ (quiet ≡ false)) ⊤ stop → IsCrowdStop turns quiet p terms stop
crowd_stop p terms quiet left pieces turns answered told (Stopped not_before) taken sum h = (may_stop p quiet left pieces turns taken sum h.0, h.1.none, h.1.floors)
crowd_stop p terms quiet left pieces turns answered told Memory taken sum h = tt
crowd_stop p terms quiet left pieces turns answered told NoThread taken sum h = tt
