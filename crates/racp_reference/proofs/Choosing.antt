-- The first by cost of the capacity vectors that were looked at, where they are looked at in lexicographic order.
use Rattle.std.proofs.Common.{◌≡◌, ◌⊎◌, ℕ, ◌<◌, ◌≤◌, List, length, slice_index, replicate, inl, inr, arith, refl, sym, ◌∙◌, subst, Bool, true, false, nat_lt, if◌then◌else◌, Option, Some, None}
use Rattle.std.proofs.lemmas.List.{length-replicate}
use Rattle.std.proofs.lemmas.Bool.Decides.{nat_tests}
use Rattle.racp_model.specs.Project.{Project}
use Rattle.racp_model.specs.Terms.{Terms, IsBefore, IsLexBefore}
use Rattle.racp_model.specs.Plan.{IsLeast}
use Rattle.racp_model.specs.Window.{Bounds, IsYes, IsNo}
use Rattle.racp_reference.specs.declared.choice.Choice.{Choice}
use Rattle.racp_reference.specs.Boxes.{IsInBox, IsNext, IsLast}
use Rattle.racp_reference.specs.Choices.{IsCandidate, IsChoice, IsPriced, cheaper_of, IsCheapest}
use Rattle.racp_reference.proofs.Searching.{before_next, before_last}
use Rattle.racp_model.proofs.lemmas.Costs.{lex_one_way, lex_trans, before_cases, cheaper-before, before_apart, before_trans}

-- a vector that was seen, under which some starts fit
pub record IsSeenYes (p : Project) (window : Bounds) (S : List ℕ → Type 0) (capacities : List ℕ) : Type 0 where
  pub seen : S capacities
  pub yes : IsYes p capacities window

-- the choice of the first of them by cost, or none where there is none
abbrev pub IsBestOf : Project → Terms → Bounds → (List ℕ → Type 0) → Option Choice → Type 0
IsBestOf p terms window S None = (capacities : List ℕ) → IsSeenYes p window S capacities → ⊥
IsBestOf p terms window S (Some choice) = IsLeast (IsBefore terms) (IsSeenYes p window S) choice.capacities × IsChoice p terms window choice

-- the vectors of a box before one
pub record IsEarlier (lower upper vector earlier : List ℕ) : Type 0 where
  pub within : IsInBox lower upper earlier
  pub less : IsLexBefore earlier vector

-- T has what S has, and one more vector, which is lexicographically greater than what S has
pub record IsOneMore (S T : List ℕ → Type 0) (vector : List ℕ) : Type 0 where
  pub more : (a : List ℕ) → S a → T a
  pub one : T vector
  pub only : (a : List ℕ) → T a → S a ⊎ (a ≡ vector)
  pub greater : (a : List ℕ) → S a → IsLexBefore a vector

module _ (p : Project) (terms : Terms) (window : Bounds) (S T : List ℕ → Type 0) (vector : List ℕ) (h : IsOneMore S T vector) where
  -- where no starts fit the new vector, the best of the others stays
  pub best-kept : (best : Option Choice) → IsBestOf p terms window S best → IsNo p vector window → IsBestOf p terms window T best
  best-kept None none never = λ a g. elim (h.only a g.seen) [
    | inl old ↦ none a (record { seen = old; yes = g.yes })
    | inr same ↦ let Q : List ℕ → Type 0 = λ v. IsYes p v window in let yes = subst Q same g.yes in never yes.0 yes.1
  ]
  best-kept (Some best) least never = (
    record {
      is = record { seen = h.more best.capacities least.0.is.seen; yes = least.0.is.yes };
      least = λ a g before. elim (h.only a g.seen) [
        | inl old ↦ least.0.least a (record { seen = old; yes = g.yes }) before
        | inr same ↦ let Q : List ℕ → Type 0 = λ v. IsYes p v window in let yes = subst Q same g.yes in never yes.0 yes.1
      ];
    },
    least.1,
  )

  -- the new vector is seen, and some starts fit it
  pub new-seen : (other : Choice) → other.capacities ≡ vector → IsChoice p terms window other → IsSeenYes p window T other.capacities
  new-seen other same choice = record { seen = subst T (sym same) h.one; yes = (other.starts, choice.starts.is) }

  -- where there was none, the new one is the best
  pub best-first : (other : Choice) → IsBestOf p terms window S None → other.capacities ≡ vector → IsChoice p terms window other → IsBestOf p terms window T (Some other)
  best-first other none same choice = (
    record {
      is = new-seen other same choice;
      least = λ a g before. elim (h.only a g.seen) [
        | inl old ↦ none a (record { seen = old; yes = g.yes })
        | inr equal ↦ let Q : List ℕ → Type 0 = λ v. IsBefore terms v other.capacities in before_apart terms other.capacities (subst Q (equal ∙ sym same) before)
      ];
    },
    choice,
  )

  -- where the new one costs less, it is the best
  pub best-cheaper : (best other : Choice) → IsBestOf p terms window S (Some best) → other.capacities ≡ vector → IsChoice p terms window other → other.cost < best.cost →
      IsBestOf p terms window T (Some other)
  best-cheaper best other least same choice less = (
    record {
      is = new-seen other same choice;
      least = λ a g before. elim (h.only a g.seen) [
        | inl old ↦
            let cheaper : IsBefore terms other.capacities best.capacities = cheaper-before terms other.capacities best.capacities (omega (arith, less, choice.cost, least.1.cost)) in
            least.0.least a (record { seen = old; yes = g.yes }) (before_trans terms a other.capacities best.capacities before cheaper)
        | inr equal ↦ let Q : List ℕ → Type 0 = λ v. IsBefore terms v other.capacities in before_apart terms other.capacities (subst Q (equal ∙ sym same) before)
      ];
    },
    choice,
  )

  -- where it does not, the best of the others stays, since it is lexicographically less
  pub best-stays : (best other : Choice) → IsBestOf p terms window S (Some best) → other.capacities ≡ vector → IsChoice p terms window other → best.cost ≤ other.cost →
      IsBestOf p terms window T (Some best)
  best-stays best other least same choice more = (
    record {
      is = record { seen = h.more best.capacities least.0.is.seen; yes = least.0.is.yes };
      least = λ a g before. elim (h.only a g.seen) [
        | inl old ↦ least.0.least a (record { seen = old; yes = g.yes }) before
        | inr equal ↦
            let Q : List ℕ → Type 0 = λ v. IsBefore terms v best.capacities in
            elim (before_cases terms other.capacities best.capacities (subst Q (equal ∙ sym same) before)) [
              | inl less ↦ omega (arith, less, more, choice.cost, least.1.cost)
              | inr tie ↦
                  let R : List ℕ → Type 0 = λ v. IsLexBefore v best.capacities in
                  lex_one_way best.capacities vector (h.greater best.capacities least.0.is.seen) (subst R same tie.1)
            ]
      ];
    },
    least.1,
  )

  -- the cheaper of the best so far and the choice of the new vector is the best
  pub best-next : (best other : Option Choice) → IsBestOf p terms window S best → IsPriced p terms window vector other → IsBestOf p terms window T (cheaper_of best other)
  best-next best None least never = best-kept best least never
  best-next None (Some other) least new = best-first other least new.0 new.1
  best-next (Some best) (Some other) least new = go (nat_lt other.cost best.cost) refl
    where
      go : (test : Bool) → nat_lt other.cost best.cost ≡ test → IsBestOf p terms window T (if test then Some other else Some best)
      go true e = best-cheaper best other least new.0 new.1 (grind (arith, nat_tests))
      go false e = best-stays best other least new.0 new.1 (grind (arith, nat_tests))

-- the vectors before the next one are those before this one and this one
pub one_more-next : (lower upper vector next : List ℕ) → IsInBox lower upper vector → IsNext lower upper vector next → IsOneMore (IsEarlier lower upper vector) (IsEarlier lower upper next) vector
one_more-next lower upper vector next box n = record {
  more = λ a e. record { within = e.within; less = lex_trans a vector next e.less n.is.greater };
  one = record { within = box; less = n.is.greater };
  only = λ a e. before_next lower upper vector next a (IsEarlier lower upper vector a ⊎ (a ≡ vector)) n e.within e.less (λ less. inl (record { within = e.within; less = less })) (λ same. inr same);
  greater = λ a e. e.less;
}

-- and those of the box are those before the last one and the last one
pub one_more-last : (lower upper vector : List ℕ) → IsInBox lower upper vector → IsLast lower upper vector → IsOneMore (IsEarlier lower upper vector) (IsInBox lower upper) vector
one_more-last lower upper vector box last = record {
  more = λ a e. e.within;
  one = box;
  only = λ a e. before_last lower upper vector a (IsEarlier lower upper vector a ⊎ (a ≡ vector)) last e (λ less. inl (record { within = e; less = less })) (λ same. inr same);
  greater = λ a e. e.less;
}

-- a vector of zeros has as many places
pub zeros_places : (zeros : List ℕ) (n : ℕ) → zeros ≡ replicate n 0 → length zeros ≡ n
zeros_places zeros n e = rw e (length-replicate n 0)

-- vectors up to the most units are those of the box from 0 on
pub candidate-seen : (p : Project) (window : Bounds) (zeros most capacities : List ℕ) → length zeros ≡ length most → ((k : ℕ) → k < length most → slice_index zeros k ≡ 0) →
    IsCandidate p window most capacities → IsSeenYes p window (IsInBox zeros most) capacities
candidate-seen p window zeros most capacities same none c = record {
  seen = record {
    lower_places = omega (arith, same, c.places);
    upper_places = omega (arith, c.places);
    above = λ i l. omega (arith, none i (omega (arith, c.places)));
    below = λ i l. c.below i (omega (arith, c.places));
  };
  yes = c.yes;
}

-- and the other way round
pub seen-candidate : (p : Project) (window : Bounds) (zeros most capacities : List ℕ) → IsSeenYes p window (IsInBox zeros most) capacities → IsCandidate p window most capacities
seen-candidate p window zeros most capacities h = record {
  places = omega (arith, h.seen.upper_places);
  below = λ k l. h.seen.below k (omega (arith, h.seen.upper_places));
  yes = h.yes;
}

-- so the best of the box is the cheapest of the candidates
pub best-cheapest : (p : Project) (terms : Terms) (window : Bounds) (zeros most : List ℕ) (best : Option Choice) → length zeros ≡ length most → ((k : ℕ) → k < length most → slice_index zeros k ≡ 0) →
    IsBestOf p terms window (IsInBox zeros most) best → IsCheapest p terms window most best
best-cheapest p terms window zeros most None same none h = λ a c. h a (candidate-seen p window zeros most a same none c)
best-cheapest p terms window zeros most (Some best) same none h = (
  record {
    is = seen-candidate p window zeros most best.capacities h.0.is;
    least = λ a c before. h.0.least a (candidate-seen p window zeros most a same none c) before;
  },
  h.1,
)
