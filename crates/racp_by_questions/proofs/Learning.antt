-- What is known after a question.
use Rattle.std.proofs.Common.{◌≡◌, ℕ, ◌<◌, ◌≤◌, List, [], length, slice_index, Contains, Option, inl, inr, arith, ap, sym, subst, ◌∙◌}
use Rattle.racp_model.specs.Project.{Project}
use Rattle.racp_model.specs.Schedule.{ArePeaks}
use Rattle.racp_model.specs.Terms.{cost, IsBefore}
use Rattle.racp_model.specs.Window.{Bounds, Answers, IsNo}
use Rattle.racp_model.specs.declared.question.Question.{Question}
use Rattle.racp_questions.specs.FirstYes.{IsProbed}
use Rattle.racp_questions.specs.declared.asker.Probe.{Probe}
use Rattle.racp_questions.specs.declared.asker.Probe.TheVariants.{Yes, No}
use Rattle.racp_model.proofs.lemmas.Costs.{before_trans}
use Rattle.racp_model.proofs.lemmas.Usage.{fits-peaks, peaks-below}
use Rattle.racp_by_questions.specs.Enough.{IsAtMost}
use Rattle.racp_by_questions.specs.Searched.{AreKeptWith, IsBetterKnown, IsEnough, IsKnown, IsLearnt, IsRefutedBy, IsSubject}
use Rattle.racp_by_questions.specs.declared.known.Known.{Known}
use Rattle.racp_by_questions.specs.declared.subject.Subject.{Subject}
use Rattle.racp_by_questions.proofs.lemmas.AtMost.{at_most-before, at_most-not_after}

-- starts that answer a question answer one with more units
pub more_answers : (p : Project) (units more starts : List ℕ) (window : Bounds) → IsAtMost p units more → Answers p units window starts → Answers p more window starts
more_answers p units more starts window above a = record {
  lies = a.lies;
  fits = record { precedence = a.fits.precedence; within = λ k t l. omega (arith, a.fits.within k t l, above k l) };
}

-- so units at most refuted ones are a no
pub fewer_no : (p : Project) (units more : List ℕ) (window : Bounds) → IsAtMost p units more → IsNo p more window → IsNo p units window
fewer_no p units more window above is_no starts a = is_no starts (more_answers p units more starts window above a)

-- at first the roofs are known, and no vectors with which nothing fits
pub known-roofs : (s : Subject) (known : Known) → IsEnough s s.roofs.now → known.best ≡ s.roofs.now → known.cost ≡ cost s.order.now s.roofs.now → known.refuted.items ≡ [] → IsKnown s known
known-roofs s known enough best priced none = record {
  enough = subst (IsEnough s) (sym best) enough;
  priced = priced ∙ ap (cost s.order.now) (sym best);
  places = λ other h. absurd (empty other h);
  refuted = λ other h. absurd (empty other h);
}
  where
    empty : (other : List ℕ) → Contains known.refuted.items other → ⊥
    empty other h = (let e : length known.refuted.items ≡ 0 = ap length none in omega (arith, e, h.1))

module _ (s : Subject) (t : IsSubject s) (old : Known) (h : IsKnown s old) where
  -- a vector at most a refuted one is refuted
  pub known-refutes : (units : List ℕ) → length units ≡ s.net.now.resources → IsRefutedBy old.refuted.items units → IsNo s.net.now units s.root.now
  known-refutes units places by = fewer_no s.net.now units by.0 s.root.now (λ k l. by.2 k (omega (arith, l, places))) (h.refuted by.0 by.1)

  -- a vector that the best one is at most does not stand before it
  pub known-enough : (units best both : List ℕ) → best ≡ old.best → both ≡ units → length units ≡ s.net.now.resources → ((k : ℕ) → k < length best → slice_index best k ≤ slice_index both k) → IsBefore s.order.now units old.best → ⊥
  known-enough units best both is_best is_units places above =
      at_most-not_after s.net.now s.order.now t.terms old.best units (λ k l. subst (λ (b : List ℕ). slice_index b k ≤ slice_index units k) is_best (subst (λ (u : List ℕ). slice_index best k ≤ slice_index u k) is_units (above k (subst (λ (b : List ℕ). k < length b) (sym is_best) (omega (arith, l, h.enough.places)))))) h.enough.places places

  -- nothing was learnt
  pub known-same : IsBetterKnown s old old
  known-same = record { known = h; no_later = λ vector before. before }

  -- a vector more with which nothing fits
  pub known-kept : (units : List ℕ) (new : Known) → length units ≡ s.net.now.resources → IsNo s.net.now units s.root.now → new.best ≡ old.best → new.cost ≡ old.cost → AreKeptWith old.refuted.items units new.refuted.items →
      IsBetterKnown s old new
  known-kept units new places is_no best cost_is kept = record {
    known = record {
      enough = subst (IsEnough s) (sym best) h.enough;
      priced = subst (λ (b : List ℕ). new.cost ≡ cost s.order.now b) (sym best) (cost_is ∙ h.priced);
      places = λ other in_new. elim (kept other in_new) [
        | inl old_one ↦ h.places other old_one
        | inr new_one ↦ subst (λ (x : List ℕ). length x ≡ s.net.now.resources) (sym new_one) places
      ];
      refuted = λ other in_new. elim (kept other in_new) [
        | inl old_one ↦ h.refuted other old_one
        | inr new_one ↦ subst (λ (x : List ℕ). IsNo s.net.now x s.root.now) (sym new_one) is_no
      ];
    };
    no_later = λ vector before. subst (IsBefore s.order.now vector) best before;
  }

  module _ (units starts peaks : List ℕ) (new : Known) (places : length units ≡ s.net.now.resources) (within : IsAtMost s.net.now units s.roofs.now) (a : Answers s.net.now units s.root.now starts) (are : ArePeaks s.net.now starts peaks)
      (learnt : IsLearnt s.order.now old peaks new) where
    -- the peaks are enough
    peaks_enough : IsEnough s peaks
    peaks_enough = record {
      places = are.places;
      within = λ k l. omega (arith, peaks-below s.net.now units starts peaks a.fits are k l, within k l);
      yes = (starts, record { lies = a.lies; fits = fits-peaks s.net.now units starts peaks a.fits are });
    }

    refuted_is : new.refuted.items ≡ old.refuted.items
    refuted_is = cc learnt.refuted

    -- they may be the best one now
    pub known-learnt : IsBetterKnown s old new
    known-learnt = record {
      known = record {
        enough = elim learnt.best [
          | inl now ↦ subst (IsEnough s) (sym now.0) peaks_enough
          | inr before ↦ subst (IsEnough s) (sym before.0) h.enough
        ];
        priced = learnt.priced;
        places = λ other is. h.places other (subst (λ (xs : List (List ℕ)). Contains xs other) refuted_is is);
        refuted = λ other is. h.refuted other (subst (λ (xs : List (List ℕ)). Contains xs other) refuted_is is);
      };
      no_later = λ vector before. elim learnt.best [
        | inl now ↦ before_trans s.order.now vector peaks old.best (subst (IsBefore s.order.now vector) now.0 before) now.1
        | inr same ↦ subst (IsBefore s.order.now vector) same.0 before
      ];
    }

    -- and the vector does not stand before the best one now
    pub learnt-enough : IsBefore s.order.now units new.best → ⊥
    learnt-enough before = elim learnt.best [
      | inl now ↦ at_most-not_after s.net.now s.order.now t.terms peaks units (peaks-below s.net.now units starts peaks a.fits are) are.places places (subst (IsBefore s.order.now units) now.0 before)
      | inr same ↦ same.1 (at_most-before s.net.now s.order.now t.terms peaks units (peaks-below s.net.now units starts peaks a.fits are) are.places places old.best (subst (IsBefore s.order.now units) same.0 before))
    ]

-- what is told of a question, by the variant
pub told_no : (p : Project) (question : Question) (most : Option ℕ) (probe : Probe) → IsProbed p question most probe → probe ≡ No → IsNo p question.capacities question.window
told_no p question most probe told is = subst (λ (a : Probe). IsProbed p question most a) is told

pub told_yes : (p : Project) (question : Question) (most : Option ℕ) (probe : Probe) (starts : List ℕ) → IsProbed p question most probe → probe ≡ Yes starts → Answers p question.capacities question.window starts
told_yes p question most probe starts told is = subst (λ (a : Probe). IsProbed p question most a) is told
