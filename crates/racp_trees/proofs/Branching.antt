-- Nodes whose children are being read.
use Rattle.std.proofs.Common.{◌≡◌, inl, inr, ◌∙◌, ℕ, zero, suc, ◌+◌, ◌<◌, ◌≤◌, true, false, Bool, List, [], ◌∷◌, ◌++◌, length, slice_index, Contains, All, arith, refl, sym, subst, ap, max, length-append}
use Rattle.std.specs.Prelude.{MatchBool}
use Rattle.std.proofs.lemmas.Bool.{cases_lt}
use Rattle.std.proofs.lemmas.List.Elements.{All-push}
use Rattle.racp_model.specs.Project.{Project, IsNumber, IsSound, number, place}
use Rattle.racp_model.specs.Limits.{most_bound}
use Rattle.racp_model.specs.Path.{IsEarly}
use Rattle.racp_model.specs.Terms.{IsLexBefore}
use Rattle.racp_model.proofs.lemmas.Relations.{no_member}
use Rattle.racp_model.proofs.lemmas.Costs.{lex_apart}
use Rattle.racp_model.proofs.lemmas.Sums.{duration-small}
use Rattle.racp_cutset.specs.Told.{early_unique}
use Rattle.racp_delay.specs.Alternatives.{Splits, IsMinimalDelayingAlternative, IsFollowing, IsFreeAlternative}
use Rattle.racp_delay.specs.Alternatives.Splits.{none, goes, stays}
use Rattle.racp_delay.specs.Branching.{IsFirstEnd}
use Rattle.racp_delay.specs.Laws.{OthersStay, SubsetsGo}
use Rattle.racp_delay.proofs.lemmas.Conflicts.{conflict_numbers}
use Rattle.racp_trees.specs.Children.{NoneStays}
use Rattle.racp_trees.specs.Rows.{early_of}
use Rattle.racp_trees.specs.Following.{OpenNode, read_on, IsNextBehind, IsNoneBehind}
use Rattle.racp_trees.specs.Branches.{IsBranch, open_node, IsRaised, HasLower}
use Rattle.racp_trees.specs.declared.branch.Branch.{Branch}

pub branch_numbers : (p : Project) (a : List ℕ) (b : Branch) → IsBranch p a b → All (IsNumber (length p.jobs)) b.active
branch_numbers p a b is = conflict_numbers p a (early_of p b.lower) b.time b.active is.conflict

module _ (p : Project) (a : List ℕ) (b : Branch) (is : IsBranch p a b) (law : SubsetsGo) where
  -- only active jobs go
  free : (upper gone : List ℕ) → IsMinimalDelayingAlternative p a b.active gone → IsFreeAlternative p a b.active b.active gone
  free upper gone minimal = record { minimal = minimal; only = ((law b.active gone is.conflict.set.rises).0 (minimal.delays.0, minimal.delays.1)).1 }

  pub next_is : (more : Bool) (gone : List ℕ) → more ≡ true → IsFollowing p a b.active b.active b.last.items more gone → (upper : List ℕ) → IsNextBehind p (open_node p a upper b) gone
  next_is true gone e h upper = record { minimal = h.is.minimal; behind = h.behind; first = λ other minimal later. h.first other (free upper other minimal) later }
  next_is false gone e h upper = absurd (cc e)

  pub none_is : (more : Bool) (gone : List ℕ) → more ≡ false → IsFollowing p a b.active b.active b.last.items more gone → (upper : List ℕ) → IsNoneBehind p (open_node p a upper b)
  none_is true gone e h upper = absurd (cc e)
  none_is false gone e h upper = λ other minimal later. h other (free upper other minimal) later

-- where none of a list stays, all go
whole_goes : {jobs gone kept : List ℕ} → Splits jobs gone kept → kept ≡ [] → jobs ≡ gone
whole_goes none e = refl
whole_goes (goes {job} s) e = ap (λ (xs : List ℕ). job ∷ xs) (whole_goes s e)
whole_goes (stays s) e = absurd (cc e)

-- behind the alternative of all active jobs there is none
pub none_behind_whole : (p : Project) (f : OpenNode) (gone : List ℕ) → IsNextBehind p f gone → NoneStays f.active gone → IsNoneBehind p (read_on f gone)
none_behind_whole p f gone next stay other minimal later = go minimal.delays.0 minimal.delays.1 refl
  where
    all : f.active ≡ gone
    all = whole_goes next.minimal.delays.1 (stay next.minimal.delays.0 next.minimal.delays.1)

    go : (kept : List ℕ) → Splits f.active other kept → kept ≡ minimal.delays.0 → ⊥
    go [] s e = lex_apart other (subst (λ (xs : List ℕ). IsLexBefore xs other) (sym all ∙ whole_goes s refl) later)
    go (job ∷ kept) s e = next.minimal.least other (job ∷ kept) (subst (λ (xs : List ℕ). Splits xs other (job ∷ kept)) all s) (λ same. absurd (cc same)) minimal.delays

-- the early starts, computed again
pub early_again : (p : Project) (a : List ℕ) (b : Branch) (lower early : List ℕ) → IsBranch p a b → lower ≡ b.lower → IsEarly p (slice_index lower) early → early ≡ early_of p b.lower
early_again p a b lower early is same h = early_unique p lower b.lower early (early_of p b.lower) same h is.starts

-- the first end is small
pub end_small : (p : Project) (a : List ℕ) (b : Branch) (gone kept : List ℕ) (end : ℕ) → IsBranch p a b → OthersStay → IsSound p → Splits b.active gone kept → IsFirstEnd p (early_of p b.lower) kept end → end ≤ 10010000
end_small p a b gone kept end is law sound s first =
    let job : ℕ = first.some.0 in
    let active = (law b.active gone kept is.conflict.set.rises s job).0 first.some.1 in
    let named = ((is.conflict.set.members job).0 active.0).0 in
    let inside : place job < length p.jobs = omega (arith, named.0, named.1) in
    omega (arith, first.some.2, is.below (place job) inside, duration-small p (place job) sound inside)

-- the lower bounds of a child
pub lower_is : (p : Project) (a : List ℕ) (b : Branch) (gone : List ℕ) (end : ℕ) (lower : List ℕ) → IsBranch p a b → (kept : List ℕ) → Splits b.active gone kept → ((kept : List ℕ) → Splits b.active gone kept → IsFirstEnd p (early_of p b.lower) kept end) →
    IsRaised b.lower gone end (length b.lower) lower → All (λ x. x ≤ most_bound) lower → HasLower p b gone lower
lower_is p a b gone end lower is kept s ends raised small = record {
  some = λ stay. let first = ends kept s in no_member first.some.0 (subst (λ (xs : List ℕ). Contains xs first.some.0) (stay kept s) first.some.1);
  small = small;
  child = λ upper. (
    raised.places,
    λ others t. record {
      end = end;
      first = ends others t;
      raised = λ i l c. raised.raised i (omega (arith, l, is.places)) c;
      same = λ i l c. raised.same i (omega (arith, l, is.places)) c;
      upper = refl;
    },
  );
}

at_before : (now : List ℕ) (time j : ℕ) → j < length now → slice_index (now ++ time ∷ []) j ≡ slice_index now j
at_before [] time j l = absurd (omega (arith, l))
at_before (x ∷ now) time zero l = refl
at_before (x ∷ now) time (suc j) l = at_before now time j (omega (arith, l))

at_end : (now : List ℕ) (time i : ℕ) → length now ≡ i → slice_index (now ++ time ∷ []) i ≡ time
at_end [] time i e = ap (λ k. slice_index (time ∷ []) k) (sym e)
at_end (x ∷ now) time zero e = absurd (omega (arith, e))
at_end (x ∷ now) time (suc i) e = at_end now time i (omega (arith, e))

-- one time more
pub raised_more : (old gone : List ℕ) (end i : ℕ) (now : List ℕ) (goes' : Bool) (time : ℕ) → IsRaised old gone end i now → All (λ x. x ≤ most_bound) now → end ≤ most_bound → slice_index old i ≤ most_bound →
    ((goes' ≡ true) → Contains gone (number i)) × (Contains gone (number i) → goes' ≡ true) → MatchBool goes' (time ≡ max (slice_index old i) end) (time ≡ slice_index old i) →
    IsRaised old gone end (i + 1) (now ++ time ∷ []) × All (λ x. x ≤ most_bound) (now ++ time ∷ [])
raised_more old gone end i now true time h small e s c is = (
  record {
    places = omega (arith, length-append now (time ∷ []), h.places);
    raised = λ j l d. elim (cases_lt j i) [
      | inl before ↦ at_before now time j (omega (arith, before, h.places)) ∙ h.raised j before d
      | inr last ↦ let same : j ≡ i = omega (arith, l, last) in subst (λ k. slice_index (now ++ time ∷ []) k ≡ max (slice_index old k) end) (sym same) (at_end now time i h.places ∙ is)
    ];
    same = λ j l d. elim (cases_lt j i) [
      | inl before ↦ at_before now time j (omega (arith, before, h.places)) ∙ h.same j before d
      | inr last ↦ absurd (d (subst (λ k. Contains gone (number k)) (omega (arith, l, last)) (c.0 refl)))
    ];
  },
  All-push (λ x. x ≤ most_bound) now time small (omega (arith, is, e, s)),
)
raised_more old gone end i now false time h small e s c is = (
  record {
    places = omega (arith, length-append now (time ∷ []), h.places);
    raised = λ j l d. elim (cases_lt j i) [
      | inl before ↦ at_before now time j (omega (arith, before, h.places)) ∙ h.raised j before d
      | inr last ↦ absurd (let same : j ≡ i = omega (arith, l, last) in let f : false ≡ true = c.1 (subst (λ k. Contains gone (number k)) same d) in cc f)
    ];
    same = λ j l d. elim (cases_lt j i) [
      | inl before ↦ at_before now time j (omega (arith, before, h.places)) ∙ h.same j before d
      | inr last ↦ let same : j ≡ i = omega (arith, l, last) in subst (λ k. slice_index (now ++ time ∷ []) k ≡ slice_index old k) (sym same) (at_end now time i h.places ∙ is)
    ];
  },
  All-push (λ x. x ≤ most_bound) now time small (omega (arith, is, s)),
)
