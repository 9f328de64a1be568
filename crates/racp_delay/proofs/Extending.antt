-- Extending the jobs that are chosen to go: what there is where the search stops, and where it goes on.
use Rattle.std.proofs.Common.{◌≡◌, ℕ, ◌+◌, ◌<◌, ◌⊎◌, inl, inr, List, [], ◌∷◌, ◌++◌, arith, refl, ap, sym, ◌∙◌, subst, append_assoc}
use Rattle.std.proofs.lemmas.Cmp.{tied_itself, nat_cmp_total}
use Rattle.std.proofs.lemmas.List.{append-nil}
use Rattle.std.specs.declared.cmp.Ordering.TheVariants.{Equal}
use Rattle.std.specs.Ordering.{nat_cmp, ordering_then}
use Rattle.racp_model.specs.Project.{Project, place, request}
use Rattle.racp_model.specs.Terms.{lex_cmp, IsLexBefore}
use Rattle.racp_model.proofs.lemmas.Relations.{no_member}
use Rattle.racp_delay.specs.Alternatives.{Splits, load}
use Rattle.racp_delay.specs.Alternatives.Splits.{none, goes, stays}
use Rattle.racp_delay.specs.Found.{AreWithin, OneMoreRuns, SomeHaveRoom, Each, with_load, IsTight, IsExtension, IsFirstExtension, HasNoExtension}
use Rattle.racp_delay.proofs.Each.{each-right, each-from}
use Rattle.racp_delay.proofs.Splitting.{load-splits, splits-none, all_stay, each-gone}
use Rattle.racp_delay.proofs.Searching.{less_before, found-over, IsMore, tight-same}

-- lists with the same head are in the order of their tails
pub lex_tails : (job : ℕ) (xs ys : List ℕ) → lex_cmp (job ∷ xs) (job ∷ ys) ≡ lex_cmp xs ys
lex_tails job xs ys =
    let same : nat_cmp job job ≡ Equal = tied_itself nat_cmp_total job in
    ap (λ o. ordering_then o (lex_cmp xs ys)) same

module _ (p : Project) (capacities : List ℕ) (kept : ℕ → ℕ) (chosen rest : List ℕ) where
  -- the kept cannot run
  pub none-over : (IsWanted : List ℕ → Type 0) → (AreWithin p capacities kept → ⊥) → HasNoExtension p capacities kept chosen rest IsWanted
  none-over IsWanted over other e w = no_member (chosen ++ other) ((found-over p capacities kept chosen rest over).all other e.0 e.1 e.2)

  -- where the others run, no job more goes
  pub none_more : AreWithin p capacities (with_load p kept rest) → (other : List ℕ) → IsExtension p capacities kept chosen rest other → other ≡ []
  unfolding load
  none_more runs [] e = refl
  none_more runs (job ∷ other) e = absurd ((each-right (λ i. OneMoreRuns p capacities (with_load p kept e.0) i → ⊥) chosen (job ∷ other) e.2.tight).0 (λ k l.
      let parts : load p k rest ≡ (request p (place job) k + load p k other) + load p k e.0 = load-splits p k e.1 in
      omega (arith, runs k l)))

  -- so those that go are the first
  pub first-here : (IsWanted : List ℕ → Type 0) → AreWithin p capacities (with_load p kept rest) → (SomeHaveRoom p capacities (with_load p kept rest) chosen → ⊥) → IsWanted [] → IsFirstExtension p capacities kept chosen rest IsWanted []
  first-here IsWanted runs tight wanted = record {
    extends = (rest, splits-none rest, record { runs = runs; tight = subst (λ (xs : List ℕ). Each (λ job. OneMoreRuns p capacities (with_load p kept rest) job → ⊥) xs) (sym (append-nil chosen)) each_tight });
    wanted = wanted;
    first = λ other e w. inl (none_more runs other e);
  }
    where
      each_tight : Each (λ job. OneMoreRuns p capacities (with_load p kept rest) job → ⊥) chosen
      each_tight = each-from (λ job. OneMoreRuns p capacities (with_load p kept rest) job → ⊥) chosen (λ i l runs_too. tight (i, l, λ k m some. runs_too k m))

  -- where they do not run, some job more goes
  pub some_more : (AreWithin p capacities (with_load p kept rest) → ⊥) → IsExtension p capacities kept chosen rest [] → ⊥
  some_more over e = over (λ k l. omega (arith, e.2.runs k l, ap (λ (xs : List ℕ). with_load p kept xs k) (all_stay e.1)))

-- where there is no job that could go or stay and the kept cannot run
pub none-undecided : (p : Project) (capacities : List ℕ) (kept : ℕ → ℕ) (chosen : List ℕ) (IsWanted : List ℕ → Type 0) → (AreWithin p capacities (with_load p kept []) → ⊥) → HasNoExtension p capacities kept chosen [] IsWanted
none-undecided p capacities kept chosen IsWanted over other e w = go other e.0 e.1 e.2
  where
    go : (other stay : List ℕ) → Splits [] other stay → IsTight p capacities kept (chosen ++ other) stay → ⊥
    go [] [] none t = over t.runs
    go [] (i ∷ stay) s t = elim s [ ]
    go (i ∷ other) stay s t = elim s [ ]

module _ (p : Project) (capacities : List ℕ) (kept : ℕ → ℕ) (chosen : List ℕ) (job : ℕ) (rest : List ℕ) (IsWanted : List ℕ → Type 0) where
  -- an extension with the job that goes
  pub with_goes : (other stay : List ℕ) → Splits rest other stay → IsTight p capacities kept (chosen ++ job ∷ other) stay → IsExtension p capacities kept (chosen ++ job ∷ []) rest other
  with_goes other stay s t = (stay, s, subst (λ (xs : List ℕ). IsTight p capacities kept xs stay) (sym (append_assoc chosen (job ∷ []) other)) t)

  -- the first in which the job goes is the first
  pub first-goes : Each (λ i. job < i) rest → (AreWithin p capacities (with_load p kept (job ∷ rest)) → ⊥) → (next : List ℕ)
      → IsFirstExtension p capacities kept (chosen ++ job ∷ []) rest (λ x. IsWanted (job ∷ x)) next → IsFirstExtension p capacities kept chosen (job ∷ rest) IsWanted (job ∷ next)
  first-goes rises over next h = record {
    extends = (h.extends.0, goes h.extends.1, subst (λ (xs : List ℕ). IsTight p capacities kept xs h.extends.0) (append_assoc chosen (job ∷ []) next) h.extends.2);
    wanted = h.wanted;
    first = λ other e w. first other e.0 e.1 e.2 w;
  }
    where
      later : (other stay : List ℕ) → Splits rest other stay → IsTight p capacities kept (chosen ++ other) (job ∷ stay) → IsLexBefore (job ∷ next) other
      later [] stay s t = absurd (some_more p capacities kept chosen (job ∷ rest) over (job ∷ stay, stays s, t))
      later (i ∷ other) stay s t = less_before [] next other job i (each-gone (λ j. job < j) s rises).0

      first : (other stay : List ℕ) → Splits (job ∷ rest) other stay → IsTight p capacities kept (chosen ++ other) stay → IsWanted other → (other ≡ job ∷ next) ⊎ IsLexBefore (job ∷ next) other
      first (i ∷ other) stay (goes s) t w = elim (h.first other (with_goes other stay s t) w) [
        | inl same ↦ inl (ap (λ (xs : List ℕ). job ∷ xs) same)
        | inr before ↦ inr (lex_tails job next other ∙ before)
      ]
      first other (i ∷ stay) (stays s) t w = inr (later other stay s t)

  module _ (more : ℕ → ℕ) (is_more : IsMore p kept job more) where
    -- a job that stays is kept beside, or is one of those that stay
    pub kept-more : (stay : List ℕ) (k : ℕ) → k < p.resources → with_load p more stay k ≡ with_load p kept (job ∷ stay) k
    unfolding load
    kept-more stay k l = omega (arith, is_more k l)

    -- an extension with the job that stays
    pub with_stays : (other stay : List ℕ) → Splits rest other stay → IsTight p capacities kept (chosen ++ other) (job ∷ stay) → IsExtension p capacities more chosen rest other
    with_stays other stay s t = (stay, s, tight-same p capacities kept more (chosen ++ other) (job ∷ stay) stay (λ k l. sym (kept-more stay k l)) t)

    -- where there is none in which it goes, the first in which it stays is the first, or there is none
    pub first-stays : HasNoExtension p capacities kept (chosen ++ job ∷ []) rest (λ x. IsWanted (job ∷ x)) → (next : List ℕ)
        → IsFirstExtension p capacities more chosen rest IsWanted next → IsFirstExtension p capacities kept chosen (job ∷ rest) IsWanted next
    first-stays none_goes next h = record {
      extends = (job ∷ h.extends.0, stays h.extends.1, tight-same p capacities more kept (chosen ++ next) h.extends.0 (job ∷ h.extends.0) (kept-more h.extends.0) h.extends.2);
      wanted = h.wanted;
      first = λ other e w. first other e.0 e.1 e.2 w;
    }
      where
        first : (other stay : List ℕ) → Splits (job ∷ rest) other stay → IsTight p capacities kept (chosen ++ other) stay → IsWanted other → (other ≡ next) ⊎ IsLexBefore next other
        first (i ∷ other) stay (goes s) t w = absurd (none_goes other (with_goes other stay s t) w)
        first other (i ∷ stay) (stays s) t w = h.first other (with_stays other stay s t) w

    pub none-both : HasNoExtension p capacities kept (chosen ++ job ∷ []) rest (λ x. IsWanted (job ∷ x)) → HasNoExtension p capacities more chosen rest IsWanted → HasNoExtension p capacities kept chosen (job ∷ rest) IsWanted
    none-both none_goes none_stays other e w = go other e.0 e.1 e.2 w
      where
        go : (other stay : List ℕ) → Splits (job ∷ rest) other stay → IsTight p capacities kept (chosen ++ other) stay → IsWanted other → ⊥
        go (i ∷ other) stay (goes s) t w = none_goes other (with_goes other stay s t) w
        go other (i ∷ stay) (stays s) t w = none_stays other (with_stays other stay s t) w

-- the empty list stands before each extension
pub behind_empty : (p : Project) (capacities : List ℕ) (kept : ℕ → ℕ) (chosen rest : List ℕ) → (AreWithin p capacities (with_load p kept rest) → ⊥) → (other : List ℕ) → IsExtension p capacities kept chosen rest other → IsLexBefore [] other
behind_empty p capacities kept chosen rest over [] e = absurd (some_more p capacities kept chosen rest over e)
behind_empty p capacities kept chosen rest over (job ∷ other) e = refl

-- and so does a list whose first job is less than all of the undecided
pub behind_less : (p : Project) (capacities : List ℕ) (kept : ℕ → ℕ) (chosen rest : List ℕ) (job : ℕ) (last : List ℕ) → Each (λ i. job < i) rest → (AreWithin p capacities (with_load p kept rest) → ⊥)
    → (other : List ℕ) → IsExtension p capacities kept chosen rest other → IsLexBefore (job ∷ last) other
behind_less p capacities kept chosen rest job last above over [] e = absurd (some_more p capacities kept chosen rest over e)
behind_less p capacities kept chosen rest job last above over (i ∷ other) e = less_before [] last other job i (each-gone (λ j. job < j) e.1 above).0
