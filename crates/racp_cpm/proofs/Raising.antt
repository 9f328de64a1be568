-- Lower bounds raised to early starts, by one sweep over the pairs.
use Rattle.std.proofs.Common.{◌≡◌, ◌≢◌, ℕ, ◌+◌, ◌<◌, ◌≤◌, inl, inr, List, length, slice_index, slice_index_or, set, arith, ap, sym, ◌∙◌, subst, below_more, get_or-set_other, get_or-set_same}
use Rattle.std.proofs.lemmas.List.{length-set}
use Rattle.racp_model.specs.Project.{Project, Precedes, duration}
use Rattle.racp_model.specs.Topology.{IsTopological}
use Rattle.racp_model.specs.Schedule.{KeepsPrecedence}
use Rattle.racp_model.specs.Path.{IsAtLeast, IsEarly}
use Rattle.racp_model.proofs.lemmas.Lists.{at_set}
use Rattle.racp_model.proofs.lemmas.Arcs.{KeepsPair, each_by_arcs}

-- starts that were raised along the pairs before k
pub record IsRaised (p : Project) (pairs : List (ℕ × ℕ)) (lower : List ℕ) (k : ℕ) (starts : List ℕ) : Type 0 where
  pub places : length starts ≡ length lower
  pub above : IsAtLeast p (slice_index lower) starts
  pub kept : (q : ℕ) → q < k → KeepsPair p starts (slice_index_or pairs q (0, 0))
  pub least : (others : List ℕ) → IsAtLeast p (slice_index lower) others → KeepsPrecedence p others → IsAtLeast p (slice_index starts) others

-- after all pairs they are the early starts
pub raised_all : (p : Project) (pairs : List (ℕ × ℕ)) (lower starts : List ℕ) → IsTopological p pairs → length lower ≡ length p.jobs
    → IsRaised p pairs lower (length pairs) starts → IsEarly p (slice_index lower) starts
raised_all p pairs lower starts ordered places h = record {
  places = h.places ∙ places;
  above = h.above;
  precedence = each_by_arcs p pairs (λ i j. slice_index starts i + duration p i ≤ slice_index starts j) ordered h.kept;
  least = h.least;
}

-- a pair that is kept already
pub raised-kept : (p : Project) (pairs : List (ℕ × ℕ)) (lower starts : List ℕ) (k i j : ℕ) → IsRaised p pairs lower k starts → slice_index_or pairs k (0, 0) ≡ (i, j)
    → slice_index starts i + duration p i ≤ slice_index starts j → IsRaised p pairs lower (k + 1) starts
raised-kept p pairs lower starts k i j h at here = record {
  places = h.places;
  above = h.above;
  kept = below_more (λ q. KeepsPair p starts (slice_index_or pairs q (0, 0))) k h.kept (subst (KeepsPair p starts) (sym at) here);
  least = h.least;
}

-- a write of a greater value raises
pub set_raises : (starts : List ℕ) (j v i : ℕ) → j < length starts → slice_index starts j < v → slice_index starts i ≤ slice_index (set starts j v) i
set_raises starts j v i l less = elim (at_set starts j v i l) [
  | inl here ↦ omega (arith, here.1, ap (slice_index starts) here.0)
  | inr there ↦ omega (arith, there.1)
]

-- a start that is raised
pub raised-set : (p : Project) (pairs : List (ℕ × ℕ)) (lower starts : List ℕ) (k i j : ℕ) → IsTopological p pairs → length lower ≡ length p.jobs → k < length pairs
    → IsRaised p pairs lower k starts → slice_index_or pairs k (0, 0) ≡ (i, j)
    → slice_index starts j < slice_index starts i + duration p i → IsRaised p pairs lower (k + 1) (set starts j (slice_index starts i + duration p i))
raised-set p pairs lower starts k i j ordered places l h at less =
    let v : ℕ = slice_index starts i + duration p i in
    let apart : i ≢ j = λ e. ordered.forward k k (omega arith) l (ap (λ (a : ℕ × ℕ). a.0) at ∙ e ∙ ap (λ (a : ℕ × ℕ). a.1) (sym at)) in
    let in' : j < length starts = let named : (slice_index_or pairs k (0, 0)).1 < length p.jobs = (ordered.named k l).1 in omega (arith, h.places, ap (λ (a : ℕ × ℕ). a.1) at) in
    let order : Precedes p i j = let P : ℕ × ℕ → Type 0 = λ a. Precedes p a.0 a.1 in subst P at (ordered.sound k l) in
    let from_in : i < length p.jobs = let named : (slice_index_or pairs k (0, 0)).0 < length p.jobs = (ordered.named k l).0 in omega (arith, ap (λ (a : ℕ × ℕ). a.0) at) in
    let same : slice_index (set starts j v) j ≡ v = get_or-set_same starts j v 0 in' in
    let source : slice_index (set starts j v) i ≡ slice_index starts i = get_or-set_other starts j i v 0 apart in
    record {
      places = length-set starts j v ∙ h.places;
      above = λ m o. omega (arith, h.above m o, set_raises starts j v m in' less);
      kept = below_more (λ q. KeepsPair p (set starts j v) (slice_index_or pairs q (0, 0))) k
          (λ q o.
          let before : slice_index (set starts j v) (slice_index_or pairs q (0, 0)).0 ≡ slice_index starts (slice_index_or pairs q (0, 0)).0 =
          get_or-set_other starts j (slice_index_or pairs q (0, 0)).0 v 0 (λ e. ordered.forward q k (omega arith) l (e ∙ ap (λ (a : ℕ × ℕ). a.1) (sym at))) in
          omega (arith, h.kept q o, set_raises starts j v (slice_index_or pairs q (0, 0)).1 in' less))
          (subst (KeepsPair p (set starts j v)) (sym at) (omega arith));
      least = λ others above keeps m o. elim (at_set starts j v m in') [
        | inl here ↦ omega (arith, here.1, keeps i j order, h.least others above keeps i from_in, ap (slice_index others) here.0)
        | inr there ↦ omega (arith, there.1, h.least others above keeps m o)
      ];
    }
