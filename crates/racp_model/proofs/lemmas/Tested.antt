-- Whether starts fit capacities in time is tested; so of all that do there are least ones, or none do.
use Rattle.std.proofs.Common.{◌≡◌, ◌⊎◌, ℕ, ◌+◌, ◌<◌, ◌≤◌, inl, inr, List, length, slice_index, Option, Some, None, IfSome, refl, ap, arith}
use Rattle.std.specs.declared.cmp.Ordering.{Ordering}
use Rattle.std.specs.declared.cmp.Ordering.TheVariants.{Less, Equal, Greater}
use Rattle.racp_model.specs.Project.{Project, IsSound, duration}
use Rattle.racp_model.specs.Ranks.{from_at, to_at}
use Rattle.racp_model.specs.Schedule.{KeepsPrecedence, EndsBy, IsWithinCapacities, FitsInTime, usage}
use Rattle.racp_model.specs.Path.{IsAtLeast}
use Rattle.racp_model.specs.Terms.{Terms, release_of, due_of, lex_cmp, IsLexBefore, vector_cmp, IsBefore}
use Rattle.racp_model.specs.Plan.{IsLeast, FitsTerms, IsEnough}
use Rattle.racp_model.proofs.lemmas.Arcs.{some_at, at_precedes}
use Rattle.racp_model.proofs.lemmas.Latest.{usage-within}
use Rattle.racp_model.proofs.lemmas.Costs.{lex_trans, lex_apart}
use Rattle.racp_model.proofs.lemmas.Decided.{Decided, both_decided, decided_by, same_decided, le_decided, each_decided}
use Rattle.racp_model.proofs.lemmas.Leasts.{IsUpTo, least_up_to}

-- whether a comparison says less
pub less_decided : (o : Ordering) → Decided (o ≡ Less)
less_decided Less = inl refl
less_decided Equal = inr (λ e. cc)
less_decided Greater = inr (λ e. cc)

pub lex_decided : (a b : List ℕ) → Decided (IsLexBefore a b)
lex_decided a b = less_decided (lex_cmp a b)

pub before_decided : (terms : Terms) (a b : List ℕ) → Decided (IsBefore terms a b)
before_decided terms a b = less_decided (vector_cmp terms a b)

module _ (p : Project) (sound : IsSound p) where
  -- whether starts are at or above lower bounds
  pub at_least_decided : (lower : ℕ → ℕ) (starts : List ℕ) → Decided (IsAtLeast p lower starts)
  at_least_decided lower starts = each_decided (λ i. lower i ≤ slice_index starts i) (length p.jobs) (λ i l. le_decided (lower i) (slice_index starts i))

  -- whether they keep precedence
  pub keeps_decided : (starts : List ℕ) → Decided (KeepsPrecedence p starts)
  keeps_decided starts =
      decided_by
      (λ each i j order. let k = some_at p i j order in omega (arith, each k.0 k.1, ap (λ x. slice_index starts x + duration p x) k.2, ap (slice_index starts) k.3))
      (λ keeps q l. keeps (from_at p.arcs q) (to_at p.arcs q) (at_precedes p q sound.named l))
      (each_decided (λ q. slice_index starts (from_at p.arcs q) + duration p (from_at p.arcs q) ≤ slice_index starts (to_at p.arcs q)) (length p.arcs)
      (λ q l. le_decided (slice_index starts (from_at p.arcs q) + duration p (from_at p.arcs q)) (slice_index starts (to_at p.arcs q))))

  -- whether they end by due times
  pub ends_decided : (due : ℕ → ℕ) (starts : List ℕ) → Decided (EndsBy p due starts)
  ends_decided due starts = each_decided (λ i. slice_index starts i + duration p i ≤ due i) (length p.jobs) (λ i l. le_decided (slice_index starts i + duration p i) (due i))

  -- whether they keep the capacities, which is tested where some job starts
  pub within_decided : (capacities starts : List ℕ) → Decided (IsWithinCapacities p capacities starts)
  within_decided capacities starts =
      decided_by
      (λ each k t l. usage-within p starts k (slice_index capacities k) (each k l) t)
      (λ within k l j m. within k (slice_index starts j) l)
      (each_decided (λ k. (j : ℕ) → j < length p.jobs → usage p starts k (slice_index starts j) ≤ slice_index capacities k) p.resources
      (λ k l. each_decided (λ j. usage p starts k (slice_index starts j) ≤ slice_index capacities k) (length p.jobs)
      (λ j m. le_decided (usage p starts k (slice_index starts j)) (slice_index capacities k))))

  -- whether they fit in time
  pub fits_decided : (release due : ℕ → ℕ) (capacities starts : List ℕ) → Decided (FitsInTime p release due capacities starts)
  fits_decided release due capacities starts =
      decided_by
      (λ all. record {
        places = all.0.0;
        in_time = record { released = all.0.1; ends = all.1.0 };
        fits = record { precedence = all.1.1.0; within = all.1.1.1 };
      })
      (λ h. ((h.places, h.in_time.released), (h.in_time.ends, (h.fits.precedence, h.fits.within))))
      (both_decided (both_decided (same_decided (length starts) (length p.jobs)) (at_least_decided release starts))
      (both_decided (ends_decided due starts) (both_decided (keeps_decided starts) (within_decided capacities starts))))

  module _ (terms : Terms) where
    -- what fits on the terms starts by the deadline
    pub fits-up_to : (capacities starts : List ℕ) → FitsTerms p terms capacities starts → IsUpTo (length p.jobs) (λ i. terms.deadline) starts
    fits-up_to capacities starts h = record { places = h.places; below = λ i l. omega (arith, h.in_time.ends i l) }

    -- so of all that fit there are least ones, or none fit
    pub least_fitting : (capacities : List ℕ) → ((starts : List ℕ) × IsLeast IsLexBefore (FitsTerms p terms capacities) starts) ⊎ ((starts : List ℕ) → FitsTerms p terms capacities starts → ⊥)
    least_fitting capacities =
        elim (least_up_to (length p.jobs) (λ i. terms.deadline) IsLexBefore (FitsTerms p terms capacities) lex_trans lex_apart lex_decided (fits_decided (release_of terms) (due_of terms) capacities)) [
          | inl some ↦ inl (some.0, record { is = some.1.is.1; least = λ other fits less. some.1.least other (fits-up_to capacities other fits, fits) less })
          | inr none ↦ inr (λ starts fits. none starts (fits-up_to capacities starts fits, fits))
        ]

    -- whether capacities are within ceilings
    pub ceilings_decided : (ceilings : Option (List ℕ)) (n : ℕ) (capacities : List ℕ) → Decided (IfSome ceilings (λ most. (k : ℕ) → k < n → slice_index capacities k ≤ slice_index most k))
    ceilings_decided None n capacities = inl tt
    ceilings_decided (Some most) n capacities = each_decided (λ k. slice_index capacities k ≤ slice_index most k) n (λ k l. le_decided (slice_index capacities k) (slice_index most k))

    -- whether some starts fit them
    pub admits_decided : (capacities : List ℕ) → Decided ((starts : List ℕ) × FitsTerms p terms capacities starts)
    admits_decided capacities = elim (least_fitting capacities) [
      | inl some ↦ inl (some.0, some.1.is)
      | inr none ↦ inr (λ admits. none admits.0 admits.1)
    ]

    -- so whether they are enough
    pub enough_decided : (capacities : List ℕ) → Decided (IsEnough p terms capacities)
    enough_decided capacities =
        decided_by (λ all. record { places = all.0; ceilings = all.1.0; admits = all.1.1 }) (λ h. (h.places, (h.ceilings, h.admits)))
        (both_decided (same_decided (length capacities) p.resources) (both_decided (ceilings_decided terms.ceilings (length capacities) capacities) (admits_decided capacities)))
