-- Cutting the high numbers of a box.
use Rattle.std.proofs.Common.{◌≡◌, ◌≢◌, ℕ, ◌+◌, ◌-◌, ◌<◌, ◌≤◌, List, [], ◌∷◌, ◌++◌, length, length-append, slice_index, set, inl, inr, arith}
use Rattle.std.proofs.lemmas.Bool.{cases_lt}
use Rattle.std.proofs.lemmas.List.{length-set}
use Rattle.racp_model.specs.Project.{Project}
use Rattle.racp_model.specs.Terms.{Terms, AreTermsOf, IsBefore}
use Rattle.racp_model.proofs.lemmas.Lists.{at_set, each-push}
use Rattle.racp_by_questions.specs.Enough.{IsAtMost}
use Rattle.racp_by_questions.specs.Searched.{IsAsBefore, IsCut, IsMostBefore}
use Rattle.racp_candidates.specs.Box.{IsBetween}
use Rattle.racp_by_questions.proofs.lemmas.AtMost.{at_most-before}

-- halving the units of one resource: the vector has any units there, and the least units that may be the most are known
pub record IsHalving (p : Project) (terms : Terms) (low best : List ℕ) (k roof least most : ℕ) (units : List ℕ) : Type 0 where
  pub places : length units ≡ length low
  pub others : (q : ℕ) → q < length low → q ≢ k → slice_index units q ≡ slice_index low q
  pub from : slice_index low k ≤ least
  pub between : least ≤ most
  pub found : IsMostBefore p terms low best k roof most

module _ (p : Project) (terms : Terms) (t : AreTermsOf p terms) (low best : List ℕ) (places : length low ≡ p.resources) (k roof : ℕ) (resource : k < p.resources) where
  -- at first each unit up to the roof may be the most
  pub halving-start : slice_index low k ≤ roof → IsHalving p terms low best k roof (slice_index low k) roof low
  halving-start within = record {
    places = arith_refl;
    others = λ q l apart. omega arith;
    from = omega arith;
    between = within;
    found = record { from = within; to = omega arith; most = λ vector n above below before. below };
  }
    where
      arith_refl : length low ≡ length low
      arith_refl = omega arith

  module _ (least most middle : ℕ) (units new : List ℕ) (h : IsHalving p terms low best k roof least most units) (is : new ≡ set units k middle) (up : least < middle) (to : middle ≤ most) where
    -- what the vector holds after a write
    here : slice_index new k ≡ middle
    here = rw is (elim (at_set units k middle k (omega (arith, resource, places, h.places))) [ inl at ↦ at.1 | inr other ↦ absurd (omega (arith, other.0)) ])

    there : (q : ℕ) → q < length low → q ≢ k → slice_index new q ≡ slice_index low q
    there q l apart = rw is (elim (at_set units k middle q (omega (arith, resource, places, h.places))) [ inl at ↦ absurd (apart at.0) | inr other ↦ omega (arith, other.1, h.others q l apart) ])

    new_places : length new ≡ length low
    new_places = rw is (omega (arith, h.places, length-set units k middle))

    -- with the middle it stands before the best
    pub halving-up : IsHalving p terms low best k roof middle most new
    halving-up = record { places = new_places; others = there; from = omega (arith, h.from, up); between = to; found = h.found }

    -- with the middle it does not, so that no vector with as many units does
    pub halving-down : (IsBefore terms new best → ⊥) → IsHalving p terms low best k roof least (middle - 1) new
    halving-down not_before = record {
      places = new_places;
      others = there;
      from = h.from;
      between = omega (arith, up);
      found = record {
        from = omega (arith, h.from, up);
        to = omega (arith, to, h.found.to);
        most = λ vector n above below before. elim (cases_lt (slice_index vector k) middle) [
          | inl less ↦ omega (arith, less)
          | inr more ↦ absurd (not_before (at_most-before p terms t new vector (covers vector above more) (omega (arith, new_places, places)) n best before))
        ];
      };
    }
      where
        covers : (vector : List ℕ) → IsAtMost p low vector → middle ≤ slice_index vector k → IsAtMost p new vector
        covers vector above more q l = elim (at_set units k middle q (omega (arith, resource, places, h.places))) [
          | inl at ↦ rw at.0 (omega (arith, here, more))
          | inr other ↦ omega (arith, there q (omega (arith, l, places)) other.0, above q l)
        ]

-- the high numbers of the first n resources are cut, and the vector is the low one
pub record IsCutting (p : Project) (terms : Terms) (low high best : List ℕ) (n : ℕ) (cut units : List ℕ) : Type 0 where
  pub places : length cut ≡ n
  pub each : (k : ℕ) → k < n → IsMostBefore p terms low best k (slice_index high k) (slice_index cut k)
  pub same : IsAsBefore low units

module _ (p : Project) (terms : Terms) (low high best : List ℕ) (places : length low ≡ p.resources) where
  -- the next one is cut
  pub cutting-next : (n : ℕ) (cut next units new : List ℕ) (most : ℕ) → n < p.resources → IsCutting p terms low high best n cut units → IsAsBefore units new →
      IsMostBefore p terms units best n (slice_index high n) most → next ≡ cut ++ most ∷ [] → IsCutting p terms low high best (n + 1) next new
  cutting-next n cut next units new most l h as_before found is = record {
    places = rw is (omega (arith, h.places, length-append cut (most ∷ [])));
    each = each-push (λ k x. IsMostBefore p terms low best k (slice_index high k) x) cut next most n h.places is h.each (record {
      from = omega (arith, found.from, h.same.same n (omega (arith, l, places)));
      to = found.to;
      most = λ vector m above below before. found.most vector m (λ q r. omega (arith, h.same.same q (omega (arith, r, places)), above q r)) below before;
    });
    same = record {
      places = omega (arith, as_before.places, h.same.places);
      same = λ k m. omega (arith, as_before.same k (omega (arith, m, h.same.places)), h.same.same k m);
    };
  }

  -- all are cut
  pub cutting-end : (n : ℕ) (cut units : List ℕ) → n ≡ p.resources → IsCutting p terms low high best n cut units → IsCut p terms low high best cut
  cutting-end n cut units e h = record {
    places = omega (arith, h.places, e);
    above = λ k l. (h.each k (omega (arith, l, e))).from;
    below = λ k l. (h.each k (omega (arith, l, e))).to;
    all = λ vector between before k l.
        (h.each k (omega (arith, l, e))).most vector (omega (arith, between.places, places)) (λ q m. between.above q (omega (arith, m, places))) (between.below k (omega (arith, l, places))) before;
  }

  -- where the low vector does not stand before the best, none of the box does
  pub none-before : AreTermsOf p terms → (units : List ℕ) → units ≡ low → (IsBefore terms units best → ⊥) → (vector : List ℕ) → IsBetween low high vector → IsBefore terms vector best → ⊥
  none-before t units is not_before vector between before =
      not_before (rw is (at_most-before p terms t low vector (λ k l. between.above k (omega (arith, l, places))) places (omega (arith, between.places, places)) best before))
