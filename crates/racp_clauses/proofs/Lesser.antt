-- Starts and units whose values are less than those of others.
use Rattle.std.proofs.Common.{◌≡◌, ◌∙◌, ℕ, ◌<◌, List, length, slice_index, arith, ap, sym}
use Rattle.racp_model.specs.Project.{Project}
use Rattle.racp_model.specs.Terms.{Terms, cost}
use Rattle.racp_clauses.specs.Solutions.{values, units_place, cost_place}
use Rattle.racp_clauses.specs.Least.{turn, AreLessBy}
use Rattle.racp_clauses.proofs.Turns.{turn-start, turn-units, turn-cost}
use Rattle.racp_clauses.proofs.lemmas.Places.{each_place, value-start, value-units, value-cost}

module _ (p : Project) (terms : Terms) (s u t a : List ℕ) (s_places : length s ≡ length p.jobs) (u_places : length u ≡ p.resources)
    (t_places : length t ≡ length p.jobs) (a_places : length a ≡ p.resources) where
  -- those before one are the same
  abbrev Same : ℕ → ℕ → Type 0
  Same x y = turn p y < turn p x → slice_index (values terms s u) y ≡ slice_index (values terms t a) y

  -- the units cost less
  pub less-by_cost : cost terms u < cost terms a → AreLessBy p (cost_place p) (values terms t a) (values terms s u)
  less-by_cost less = record {
    same = λ y l before. absurd (omega (arith, before, turn-cost p));
    less = omega (arith, less, value-cost p terms s u s_places u_places, value-cost p terms t a t_places a_places);
  }

  -- they cost the same, and there are fewer of a resource and as many of each before it
  pub less-by_units : (k : ℕ) → k < p.resources → cost terms u ≡ cost terms a → ((j : ℕ) → j < k → slice_index u j ≡ slice_index a j) → slice_index u k < slice_index a k →
      AreLessBy p (units_place p k) (values terms t a) (values terms s u)
  less-by_units k l tie same less = record {
    same = each_place p (Same (units_place p k)) (λ i m before. absurd (omega (arith, before, turn-start p i m, turn-units p k l)))
        (λ j m before.
        let earlier : j < k = omega (arith, before, turn-units p j m, turn-units p k l) in
        value-units p terms s u s_places u_places j m ∙ (same j earlier ∙ sym (value-units p terms t a t_places a_places j m)))
        (λ before. value-cost p terms s u s_places u_places ∙ (tie ∙ sym (value-cost p terms t a t_places a_places)));
    less = omega (arith, less, value-units p terms s u s_places u_places k l, value-units p terms t a t_places a_places k l);
  }

  -- they are the same, and a job starts earlier and each before it at the same time
  pub less-by_start : (j : ℕ) → j < length p.jobs → u ≡ a → ((i : ℕ) → i < j → slice_index s i ≡ slice_index t i) → slice_index s j < slice_index t j →
      AreLessBy p j (values terms t a) (values terms s u)
  less-by_start j l equal same less = record {
    same = each_place p (Same j)
        (λ i m before.
        let earlier : i < j = omega (arith, before, turn-start p i m, turn-start p j l) in
        value-start p terms s u s_places u_places i m ∙ (same i earlier ∙ sym (value-start p terms t a t_places a_places i m)))
        (λ k m before. value-units p terms s u s_places u_places k m ∙ (ap (λ v. slice_index v k) equal ∙ sym (value-units p terms t a t_places a_places k m)))
        (λ before. value-cost p terms s u s_places u_places ∙ (ap (cost terms) equal ∙ sym (value-cost p terms t a t_places a_places)));
    less = omega (arith, less, value-start p terms s u s_places u_places j l, value-start p terms t a t_places a_places j l);
  }
