-- There are early starts: of all starts up to some bounds that keep precedence and lower bounds, the lexicographically least.
use Rattle.std.proofs.Common.{◌≡◌, ℕ, ◌<◌, ◌≤◌, min, inl, inr, List, length, slice_index, ap, arith}
use Rattle.racp_model.specs.Project.{Project, IsSound}
use Rattle.racp_model.specs.Schedule.{KeepsPrecedence}
use Rattle.racp_model.specs.Path.{IsAtLeast, IsEarly}
use Rattle.racp_model.specs.Terms.{IsLexBefore}
use Rattle.racp_model.specs.Plan.{IsLeast}
use Rattle.racp_model.proofs.lemmas.Lists.{row, row_places, row-at}
use Rattle.racp_model.proofs.lemmas.Arcs.{precedes_in}
use Rattle.racp_model.proofs.lemmas.Orders.{lower-same}
use Rattle.racp_model.proofs.lemmas.Costs.{lex_trans, lex_apart}
use Rattle.racp_model.proofs.lemmas.Decided.{both_decided}
use Rattle.racp_model.proofs.lemmas.Leasts.{IsUpTo, IsOneUpTo, least_up_to}
use Rattle.racp_model.proofs.lemmas.Tested.{lex_decided, at_least_decided, keeps_decided}
use Rattle.racp_cpm.proofs.lemmas.Bounded.{some_starts}

-- of two rows of starts, the earlier start of each job
pub earlier : Project → List ℕ → List ℕ → List ℕ
earlier p a b = row (length p.jobs) (λ i. min (slice_index a i) (slice_index b i))

pub earlier_places : (p : Project) (a b : List ℕ) → length (earlier p a b) ≡ length p.jobs
unfolding earlier
earlier_places p a b = row_places (length p.jobs) (λ i. min (slice_index a i) (slice_index b i))

pub earlier-at : (p : Project) (a b : List ℕ) (i : ℕ) → i < length p.jobs → slice_index (earlier p a b) i ≡ min (slice_index a i) (slice_index b i)
unfolding earlier
earlier-at p a b i l = row-at (length p.jobs) (λ i. min (slice_index a i) (slice_index b i)) i l

-- starts at or above lower bounds that keep precedence
abbrev pub IsPossible : Project → (ℕ → ℕ) → List ℕ → Type 0
IsPossible p lower starts = IsAtLeast p lower starts × KeepsPrecedence p starts

module _ (p : Project) (sound : IsSound p) (lower : ℕ → ℕ) where
  -- of two such rows, the earlier starts are such too
  pub earlier_possible : (a b : List ℕ) → IsPossible p lower a → IsPossible p lower b → IsPossible p lower (earlier p a b)
  earlier_possible a b h g = (
    λ i l. omega (arith, earlier-at p a b i l, h.0 i l, g.0 i l),
    λ i j o.
        let in' = precedes_in p i j sound o in
        omega (arith, earlier-at p a b i in'.0, earlier-at p a b j in'.1, h.1 i j o, g.1 i j o),
  )

  -- so the lexicographically least up to some bounds are the early starts
  pub least_early : (most : ℕ → ℕ) (starts : List ℕ) → IsLeast IsLexBefore (IsOneUpTo (length p.jobs) most (IsPossible p lower)) starts → IsEarly p lower starts
  least_early most starts h = record {
    places = h.is.0.places;
    above = h.is.1.0;
    precedence = h.is.1.1;
    least = λ others above keeps i l.
        let up_to : IsUpTo (length p.jobs) most (earlier p starts others) = record {
          places = earlier_places p starts others;
          below = λ k m. omega (arith, earlier-at p starts others k m, h.is.0.below k m);
        } in
        let same : earlier p starts others ≡ starts =
        lower-same (earlier p starts others) starts (omega (arith, earlier_places p starts others, h.is.0.places))
        (λ k m. omega (arith, earlier-at p starts others k (omega (arith, m, h.is.0.places))))
        (λ before. h.least (earlier p starts others) (up_to, earlier_possible starts others h.is.1 (above, keeps)) before) in
        omega (arith, earlier-at p starts others i l, ap (λ (v : List ℕ). slice_index v i) same);
  }

  -- there are early starts
  pub some_early : (top : ℕ) → ((i : ℕ) → i < length p.jobs → lower i ≤ top) → (early : List ℕ) × IsEarly p lower early
  some_early top small =
      let some = some_starts p lower top sound small in
      let here : IsUpTo (length p.jobs) (slice_index some.0) (earlier p some.0 some.0) = record {
        places = earlier_places p some.0 some.0;
        below = λ k m. omega (arith, earlier-at p some.0 some.0 k m);
      } in
      elim (least_up_to (length p.jobs) (slice_index some.0) IsLexBefore (IsPossible p lower) lex_trans lex_apart lex_decided
      (λ x. both_decided (at_least_decided p sound lower x) (keeps_decided p sound x))) [
        | inl early ↦ (early.0, least_early (slice_index some.0) early.0 early.1)
        | inr none ↦ absurd (none (earlier p some.0 some.0) (here, earlier_possible some.0 some.0 (some.1.above, some.1.precedence) (some.1.above, some.1.precedence)))
      ]
