-- A box and its halves.
use Rattle.std.proofs.Common.{◌≡◌, ◌≢◌, ◌∙◌, ◌⊎◌, ℕ, ◌+◌, ◌-◌, ◌<◌, ◌≤◌, List, length, slice_index, set, Bool, true, false, Option, Some, None, inl, inr, arith, refl, subst}
use Rattle.std.proofs.lemmas.Bool.{cases_lt}
use Rattle.std.proofs.lemmas.List.{length-set}
use Rattle.racp_model.specs.Project.{Project}
use Rattle.racp_model.specs.Schedule.{sum_below}
use Rattle.racp_model.specs.Terms.{Terms, IsBefore}
use Rattle.racp_model.specs.Window.{IsNo}
use Rattle.racp_model.proofs.lemmas.Lists.{at_set}
use Rattle.racp_model.proofs.lemmas.Sums.{sum_below-lt}
use Rattle.racp_candidates.specs.Box.{IsBetween}
use Rattle.racp_by_questions.specs.Enough.{IsAtMost}
use Rattle.racp_by_questions.specs.Searched.{AreHalved, IsBetterKnown, IsCut, IsCutAnswer, IsKnown, IsLeftOf, IsPart, IsSearched, IsSpan, IsSubject, IsTold, IsWidest, SaysRefuted}
use Rattle.racp_by_questions.specs.declared.span.Span.{Span}
use Rattle.racp_by_questions.specs.declared.known.Known.{Known}
use Rattle.racp_by_questions.specs.declared.known.Told.{Told}
use Rattle.racp_by_questions.specs.declared.known.Told.TheVariants.{Enough, Refuted, Open}
use Rattle.racp_by_questions.specs.declared.subject.Subject.{Subject}
use Rattle.racp_by_questions.proofs.Learning.{fewer_no, known-same}
use Rattle.racp_by_questions.proofs.lemmas.AtMost.{at_most-before}

-- how wide a box is: over all resources, how many units the high vector has above the low one
abbrev pub width : Project → Span → ℕ
width p span = sum_below p.resources (λ k. slice_index span.high k - slice_index span.low k)

-- two narrower boxes that have all of a box that stands before the best vector
pub record AreHalves (s : Subject) (span : Span) (best : List ℕ) (halves : Span × Span) : Type 0 where
  pub below : IsSpan s halves.0
  pub above : IsSpan s halves.1
  pub narrower_below : width s.net.now halves.0 < width s.net.now span
  pub narrower_above : width s.net.now halves.1 < width s.net.now span
  pub cover : (vector : List ℕ) → IsBetween span.low span.high vector → IsBefore s.order.now vector best →
      IsBetween halves.0.low halves.0.high vector ⊎ IsBetween halves.1.low halves.1.high vector

-- what is learnt in two steps
pub better-trans : (s : Subject) (a b c : Known) → IsBetterKnown s a b → IsBetterKnown s b c → IsBetterKnown s a c
better-trans s a b c first then = record { known = then.known; no_later = λ vector before. first.no_later vector (then.no_later vector before) }

-- two boxes by their numbers
pair_is : (a b : Span) (halves : Span × Span) → halves.0 ≡ a → halves.1 ≡ b → (a, b) ≡ halves
pair_is a b (x, y) e f = cc (e, f)

-- a vector that is refuted is a no
pub refuted_no : (s : Subject) (units : List ℕ) (most : Option ℕ) (best : List ℕ) (told : Told) (result : Bool) → IsTold s units most best told → SaysRefuted told result → result ≡ true → IsNo s.net.now units s.root.now
refuted_no s units most best Refuted result h says is = h
refuted_no s units most best Enough result h says is = absurd (cc (says, is))
refuted_no s units most best Open result h says is = absurd (cc (says, is))

-- one that is not, and was searched to the end, does not stand before the best one
pub enough_not_before : (s : Subject) (units : List ℕ) (most : Option ℕ) (best : List ℕ) (told : Told) (result : Bool) → IsTold s units most best told → SaysRefuted told result → result ≡ false → most ≡ None →
    IsBefore s.order.now units best → ⊥
enough_not_before s units most best Refuted result h says is none = absurd (cc (says, is))
enough_not_before s units most best Enough result h says is none = h
enough_not_before s units most best Open result h says is none = absurd (h none)

module _ (s : Subject) (t : IsSubject s) (span : Span) (is_span : IsSpan s span) (old : Known) (h : IsKnown s old) where
  -- there is nothing in the box
  pub searched-empty : ((vector : List ℕ) → IsBetween span.low span.high vector → IsBefore s.order.now vector old.best → ⊥) → IsSearched s span old old
  searched-empty none = record { better = known-same s t old h; none = λ vector between some before. none vector between before }

  module _ (cut : List ℕ) (is_cut : IsCut s.net.now s.order.now span.low span.high old.best cut) (next : Known) (better : IsBetterKnown s old next) where
    -- a vector that is of interest is at most the high one
    within_cut : (vector : List ℕ) → IsBetween span.low span.high vector → IsBefore s.order.now vector next.best → IsAtMost s.net.now vector cut
    within_cut vector between before = is_cut.all vector between (better.no_later vector before)

    -- the high vector is refuted
    pub searched-refuted : IsNo s.net.now cut s.root.now → IsSearched s span old next
    searched-refuted is_no = record {
      better = better;
      none = λ vector between some before. fewer_no s.net.now vector cut s.root.now (within_cut vector between before) is_no some.0 some.1;
    }

    -- there is one vector, and it does not stand before the best one
    pub searched-one : ((k : ℕ) → k < length span.low → slice_index cut k ≤ slice_index span.low k) → (IsBefore s.order.now cut next.best → ⊥) → IsSearched s span old next
    searched-one one not_before = record {
      better = better;
      none = λ vector between some before.
          not_before (at_most-before s.net.now s.order.now t.terms cut vector (λ k l. let m : k < length span.low = omega (arith, l, is_span.low) in omega (arith, one k m, between.above k m)) is_cut.places (omega (arith, between.places, is_span.low)) next.best before);
    }

    module _ (k : ℕ) (resource : k < s.net.now.resources) (halves : Span × Span) (are : AreHalved span.low cut k halves) where
      -- the halves by their numbers
      abbrev low_half : Span
      low_half = record { low = span.low; high = set cut k are.middle }

      abbrev high_half : Span
      high_half = record { low = set span.low k (are.middle + 1); high = cut }

      at_high : (q : ℕ) → ((q ≡ k) × (slice_index (set cut k are.middle) q ≡ are.middle)) ⊎ ((q ≢ k) × (slice_index (set cut k are.middle) q ≡ slice_index cut q))
      at_high q = at_set cut k are.middle q (omega (arith, resource, is_cut.places))

      at_low : (q : ℕ) → ((q ≡ k) × (slice_index (set span.low k (are.middle + 1)) q ≡ are.middle + 1)) ⊎ ((q ≢ k) × (slice_index (set span.low k (are.middle + 1)) q ≡ slice_index span.low q))
      at_low q = at_set span.low k (are.middle + 1) q (omega (arith, resource, is_span.low))

      low_of : (q : ℕ) → q ≡ k → slice_index span.low q ≤ are.middle
      low_of q e = rw e are.from

      cut_of : (q : ℕ) → q ≡ k → are.middle < slice_index cut q
      cut_of q e = rw e are.to

      low_span : IsSpan s low_half
      low_span = record {
        low = is_span.low;
        high = length-set cut k are.middle ∙ is_cut.places;
        bounds = λ q l. elim (at_high q) [ inl at ↦ omega (arith, at.1, low_of q at.0) | inr other ↦ omega (arith, other.1, is_cut.above q l) ];
        within = λ q l. elim (at_high q) [ inl at ↦ omega (arith, at.1, cut_of q at.0, is_cut.below q l, is_span.within q l) | inr other ↦ omega (arith, other.1, is_cut.below q l, is_span.within q l) ];
      }

      high_span : IsSpan s high_half
      high_span = record {
        low = length-set span.low k (are.middle + 1) ∙ is_span.low;
        high = is_cut.places;
        bounds = λ q l. elim (at_low q) [ inl at ↦ omega (arith, at.1, cut_of q at.0) | inr other ↦ omega (arith, other.1, is_cut.above q l) ];
        within = λ q l. omega (arith, is_cut.below q l, is_span.within q l);
      }

      low_narrower : width s.net.now low_half < width s.net.now span
      low_narrower = sum_below-lt s.net.now.resources (λ q. slice_index (set cut k are.middle) q - slice_index span.low q) (λ q. slice_index span.high q - slice_index span.low q) k
          (λ q l. elim (at_high q) [ inl at ↦ omega (arith, at.1, cut_of q at.0, is_cut.below q l) | inr other ↦ omega (arith, other.1, is_cut.below q l) ]) resource
          (elim (at_high k) [ inl at ↦ omega (arith, at.1, are.to, are.from, is_cut.below k resource) | inr other ↦ absurd (other.0 refl) ])

      high_narrower : width s.net.now high_half < width s.net.now span
      high_narrower = sum_below-lt s.net.now.resources (λ q. slice_index cut q - slice_index (set span.low k (are.middle + 1)) q) (λ q. slice_index span.high q - slice_index span.low q) k
          (λ q l. elim (at_low q) [ inl at ↦ omega (arith, at.1, low_of q at.0, is_cut.below q l) | inr other ↦ omega (arith, other.1, is_cut.below q l) ]) resource
          (elim (at_low k) [ inl at ↦ omega (arith, at.1, are.to, are.from, is_cut.below k resource) | inr other ↦ absurd (other.0 refl) ])

      half_of : (vector : List ℕ) → IsBetween span.low span.high vector → IsBefore s.order.now vector next.best → IsBetween low_half.low low_half.high vector ⊎ IsBetween high_half.low high_half.high vector
      half_of vector between before = elim (cases_lt are.middle (slice_index vector k)) [
        | inl more ↦ inr (record {
          places = omega (arith, between.places, length-set span.low k (are.middle + 1));
          above = λ q l. elim (at_low q) [ inl at ↦ omega (arith, at.1, more_at q at.0 more) | inr other ↦ omega (arith, other.1, between.above q (omega (arith, l, length-set span.low k (are.middle + 1)))) ];
          below = λ q l. within_cut vector between before q (omega (arith, l, length-set span.low k (are.middle + 1), is_span.low));
        })
        | inr less ↦ inl (record {
          places = between.places;
          above = between.above;
          below = λ q l. elim (at_high q) [ inl at ↦ omega (arith, at.1, less_at q at.0 less) | inr other ↦ omega (arith, other.1, within_cut vector between before q (omega (arith, l, is_span.low))) ];
        })
      ]
        where
          more_at : (q : ℕ) → q ≡ k → are.middle < slice_index vector k → are.middle < slice_index vector q
          more_at q e m = rw e m

          less_at : (q : ℕ) → q ≡ k → slice_index vector k ≤ are.middle → slice_index vector q ≤ are.middle
          less_at q e m = rw e m

      -- they have all that is of interest
      pub halved-halves : AreHalves s span next.best halves
      halved-halves = subst (AreHalves s span next.best) (pair_is low_half high_half halves are.below are.above) (record {
        below = low_span;
        above = high_span;
        narrower_below = low_narrower;
        narrower_above = high_narrower;
        cover = half_of;
      })

  -- both halves were searched, one after the other
  pub searched-both : (halves : Span × Span) (next mid new : Known) → IsBetterKnown s old next → AreHalves s span next.best halves → IsSearched s halves.0 next mid → IsSearched s halves.1 mid new →
      IsSearched s span old new
  searched-both halves next mid new better are first then = record {
    better = better-trans s old next new better (better-trans s next mid new first.better then.better);
    none = λ vector between some before. elim (are.cover vector between (first.better.no_later vector (then.better.no_later vector before))) [
      | inl low ↦ first.none vector low some (then.better.no_later vector before)
      | inr high ↦ then.none vector high some before
    ];
  }

-- what is answered, by the variant
pub cut_some : (p : Project) (terms : Terms) (low high best : List ℕ) (answer : Option (List ℕ)) (cut : List ℕ) → IsCutAnswer p terms low high best answer → answer ≡ Some cut → IsCut p terms low high best cut
cut_some p terms low high best answer cut h is = subst (IsCutAnswer p terms low high best) is h

pub widest_some : (low high : List ℕ) (answer : Option ℕ) (k : ℕ) → IsWidest (length low) low high answer → answer ≡ Some k → (k < length low) × (slice_index low k < slice_index high k)
widest_some low high answer k h is = subst (IsWidest (length low) low high) is h

pub widest_none : (low high : List ℕ) (answer : Option ℕ) → IsWidest (length low) low high answer → answer ≡ None → (k : ℕ) → k < length low → slice_index high k ≤ slice_index low k
widest_none low high answer h is = subst (IsWidest (length low) low high) is h

-- what is left of a box, by the variant
pub left_some : (s : Subject) (span : Span) (old new : Known) (answer : Option (List ℕ × ℕ)) (cut : List ℕ) (k : ℕ) → IsLeftOf s span old new answer → answer ≡ Some (cut, k) → IsPart s span old new (cut, k)
left_some s span old new answer cut k h is = subst (IsLeftOf s span old new) is h

pub left_none : (s : Subject) (span : Span) (old new : Known) (answer : Option (List ℕ × ℕ)) → IsLeftOf s span old new answer → answer ≡ None → IsSearched s span old new
left_none s span old new answer h is = subst (IsLeftOf s span old new) is h

-- its halves have all that is of interest
pub left-halves : (s : Subject) → IsSubject s → (span : Span) → IsSpan s span → (old : Known) → IsKnown s old → (new : Known) (cut : List ℕ) (k : ℕ) → IsPart s span old new (cut, k) → (halves : Span × Span) → AreHalved span.low cut k halves →
    AreHalves s span new.best halves
left-halves s t span is_span old h new cut k left halves are = halved-halves s t span is_span old h cut left.cut new left.better k (omega (arith, left.resource, is_span.low)) halves are
