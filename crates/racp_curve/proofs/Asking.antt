-- For which deadlines capacities are enough, by questions.
use Rattle.std.proofs.Common.{◌≡◌, ℕ, ◌≤◌, List, length, Option, Some, None, refl, subst, arith}
use Rattle.racp_model.specs.Project.{Project}
use Rattle.racp_model.specs.Schedule.{EndsBy}
use Rattle.racp_model.specs.Terms.{Terms, release_of, due_of, IsWithinCeilings}
use Rattle.racp_model.specs.Plan.{FitsTerms}
use Rattle.racp_model.specs.Window.{Bounds, IsNo, IsRootWindow}
use Rattle.racp_model.specs.Formed.{HasBounds}
use Rattle.racp_cpm.specs.Ends.{IsLastEnd}
use Rattle.racp_cpm.proofs.lemmas.Rooted.{answers-fit, fits-answers}
use Rattle.racp_questions.specs.FirstYes.{IsProbed}
use Rattle.racp_questions.specs.declared.asker.Probe.{Probe}
use Rattle.racp_questions.specs.declared.asker.Probe.TheVariants.{Yes, No, Open}
use Rattle.racp_candidates.specs.Questions.{question_of}
use Rattle.racp_curve.specs.Curves.{order_by}
use Rattle.racp_curve.specs.Following.{IsRootOrNone, IsSooner}
use Rattle.racp_curve.proofs.Deadlines.{enough_by, fits_end}

-- the greatest finish of starts that end by a deadline is at most that
pub last_within : (p : Project) (starts : List ℕ) (last deadline : ℕ) → IsLastEnd p starts last → EndsBy p (λ _. deadline) starts → last ≤ deadline
last_within p starts last deadline h ends = omega (arith, h.some.2, ends h.some.0 h.some.1)

-- the root window, by the variant
pub root_some : (p : Project) (terms : Terms) (found : Option Bounds) (window : Bounds) → IsRootOrNone p terms found → found ≡ Some window → IsRootWindow p (release_of terms) (due_of terms) window
root_some p terms found window h is = subst (λ (o : Option Bounds). IsRootOrNone p terms o) is h

module _ (p : Project) (terms : Terms) (deadline : ℕ) (window : Bounds) (capacities : List ℕ) (root : IsRootWindow p (release_of (order_by deadline terms)) (due_of (order_by deadline terms)) window) where
  pub root_bounds : HasBounds p window
  root_bounds = record { lower = root.early.places; upper = root.late.places }

  module _ (probe : Probe) (probed : IsProbed p (question_of capacities window) None probe) where
    -- starts that were found fit, and end by the deadline
    found_fit : (starts : List ℕ) → probe ≡ Yes starts → FitsTerms p (order_by deadline terms) capacities starts
    found_fit starts is =
        answers-fit p (release_of (order_by deadline terms)) (due_of (order_by deadline terms)) window capacities starts root (subst (λ (a : Probe). IsProbed p (question_of capacities window) None a) is probed)

    pub found_places : (starts : List ℕ) → probe ≡ Yes starts → length starts ≡ length p.jobs
    found_places starts is = (found_fit starts is).places

    pub found_end : (starts : List ℕ) → probe ≡ Yes starts → EndsBy p (λ _. deadline) starts
    found_end starts is = fits_end p terms deadline capacities starts (found_fit starts is)

    -- so the capacities are enough for the deadline by which they end
    pub found_sooner : (starts : List ℕ) (end : ℕ) → length capacities ≡ p.resources → IsWithinCeilings terms capacities → probe ≡ Yes starts → end ≤ deadline → EndsBy p (λ _. end) starts → IsSooner p terms capacities deadline (Some end)
    found_sooner starts end places ceilings is within ends = (within, enough_by p terms deadline end capacities starts places ceilings (found_fit starts is) ends)

    -- a no says that they are not enough
    pub none_sooner : probe ≡ No → IsSooner p terms capacities deadline None
    none_sooner is e =
        let none : IsNo p capacities window = subst (λ (a : Probe). IsProbed p (question_of capacities window) None a) is probed in
        none e.admits.0 (fits-answers p (release_of (order_by deadline terms)) (due_of (order_by deadline terms)) window capacities e.admits.0 root e.admits.1)

    -- and it is never open
    pub not_open : probe ≡ Open → ⊥
    not_open is = (subst (λ (a : Probe). IsProbed p (question_of capacities window) None a) is probed) refl
