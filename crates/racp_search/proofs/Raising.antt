-- Times of some jobs are raised, one job after another.
use Rattle.std.proofs.Common.{◌≡◌, ◌≢◌, ◌⊎◌, inl, inr, ◌∙◌, ℕ, ◌+◌, ◌<◌, ◌≤◌, max, List, [], ◌∷◌, ◌++◌, length, slice_index, get_or, All, take, set, Contains, arith, refl, sym, subst, ap, length-set}
use Rattle.std.proofs.lemmas.List.{take_more}
use Rattle.std.proofs.lemmas.List.Elements.{Contains-append_left, Contains-append_right, Contains-append_cases}
use Rattle.std.proofs.lemmas.Bool.{cases_lt}
use Rattle.std.proofs.lemmas.Grind.{get_or_default_zero}
use Rattle.racp_model.specs.Project.{number}
use Rattle.racp_model.proofs.lemmas.Lists.{at_set}
use Rattle.racp_model.proofs.lemmas.Relations.{member_cases, member_first, no_member}
use Rattle.racp_model.proofs.lemmas.Decided.{member_decided}
use Rattle.racp_search.specs.Children.{IsRaised}

-- each time is the old one, or raised; that of the jobs so far is raised, and that of the others is the old one
pub record IsRaising (old front : List ℕ) (end : ℕ) (now : List ℕ) : Type 0 where
  pub is : IsRaised old front end now
  pub either : (i : ℕ) → i < length old → (slice_index now i ≡ slice_index old i) ⊎ (slice_index now i ≡ max (slice_index old i) end)

pub raising-start : (old : List ℕ) (end : ℕ) → IsRaising old [] end old
raising-start old end = record {
  is = record { places = refl; raised = λ i l c. absurd (no_member (number i) c); same = λ i l c. refl };
  either = λ i l. inl refl;
}

-- the last of some jobs
last_of : (front : List ℕ) (job x : ℕ) → Contains (front ++ job ∷ []) x → Contains front x ⊎ (job ≡ x)
last_of front job x c = elim (Contains-append_cases front (job ∷ []) x c) [
  | inl before ↦ inl before
  | inr here ↦ elim (member_cases job [] x here) [ inl same ↦ inr same | inr none ↦ absurd (no_member x none) ]
]

-- one job more, whose time is raised at its place
pub raising-more : (old front : List ℕ) (end : ℕ) (now new : List ℕ) (job place : ℕ) → IsRaising old front end now → job ≡ place + 1 → place < length old → length new ≡ length now →
    (slice_index new place ≡ max (slice_index now place) end) → ((i : ℕ) → i ≢ place → slice_index new i ≡ slice_index now i) → IsRaising old (front ++ job ∷ []) end new
raising-more old front end now new job place h is_job inside same at others =
    let up : slice_index new place ≡ max (slice_index old place) end = elim (h.either place inside) [
      | inl e ↦ at ∙ ap (λ x. max x end) e
      | inr e ↦ omega (arith, at, e)
    ] in
    let where_ : (i : ℕ) → (i ≡ place) ⊎ (i ≢ place) = equal_or_not place in
    let Up : ℕ → Type 0 = λ j. slice_index new j ≡ max (slice_index old j) end in
    record {
      is = record {
        places = same ∙ h.is.places;
        raised = λ i l c. elim (where_ i) [
          | inl here ↦ subst Up (sym here) up
          | inr other ↦ others i other ∙ elim (last_of front job (number i) c) [
            | inl before ↦ h.is.raised i l before
            | inr last ↦ absurd (other (omega (arith, last, is_job)))
          ]
        ];
        same = λ i l c.
            let apart : i ≢ place = λ e. c (Contains-append_right front (job ∷ []) (number i) (member_first job [] (number i) (omega (arith, e, is_job)))) in
            others i apart ∙ h.is.same i l (λ before. c (Contains-append_left front (job ∷ []) (number i) before));
      };
      either = λ i l. elim (where_ i) [
        | inl here ↦ inr (subst Up (sym here) up)
        | inr other ↦ elim (h.either i l) [ inl e ↦ inl (others i other ∙ e) | inr e ↦ inr (others i other ∙ e) ]
      ];
    }
  where
    equal_or_not : (j i : ℕ) → (i ≡ j) ⊎ (i ≢ j)
    equal_or_not j i = elim (cases_lt i j) [
      | inl low ↦ inr (omega arith)
      | inr high ↦ elim (cases_lt j i) [ inl up ↦ inr (omega arith) | inr down ↦ inl (omega arith) ]
    ]

-- the next job of a list, whose time is below the end, or is not
pub raising-write : (old gone : List ℕ) (end : ℕ) (now : List ℕ) (k job place : ℕ) → IsRaising old (take k gone) end now → k < length gone → slice_index gone k ≡ job → job ≡ place + 1 → place < length old →
    slice_index now place < end → IsRaising old (take (k + 1) gone) end (set now place end)
raising-write old gone end now k job place h l is_item is_job inside low =
    let e : take (k + 1) gone ≡ take k gone ++ job ∷ [] = take_more gone k 0 l ∙ ap (λ x. take k gone ++ x ∷ []) is_item in
    let in_now : place < length now = omega (arith, h.is.places) in
    let at : slice_index (set now place end) place ≡ max (slice_index now place) end = elim (at_set now place end place in_now) [
      | inl here ↦ omega (arith, here.1)
      | inr other ↦ absurd (other.0 refl)
    ] in
    let others : (i : ℕ) → i ≢ place → slice_index (set now place end) i ≡ slice_index now i = λ i ne. elim (at_set now place end i in_now) [ inl here ↦ absurd (ne here.0) | inr other ↦ other.1 ] in
    subst (λ (xs : List ℕ). IsRaising old xs end (set now place end)) (sym e)
    (raising-more old (take k gone) end now (set now place end) job place h is_job inside (length-set now place end) at others)

pub raising-skip : (old gone : List ℕ) (end : ℕ) (now : List ℕ) (k job place : ℕ) → IsRaising old (take k gone) end now → k < length gone → slice_index gone k ≡ job → job ≡ place + 1 → place < length old →
    end ≤ slice_index now place → IsRaising old (take (k + 1) gone) end now
raising-skip old gone end now k job place h l is_item is_job inside high =
    let e : take (k + 1) gone ≡ take k gone ++ job ∷ [] = take_more gone k 0 l ∙ ap (λ x. take k gone ++ x ∷ []) is_item in
    subst (λ (xs : List ℕ). IsRaising old xs end now) (sym e)
    (raising-more old (take k gone) end now now job place h is_job inside refl (omega arith) (λ i ne. refl))

-- raised times keep a bound that the old ones and the time keep
pub raised-small : (old gone new : List ℕ) (end most : ℕ) → IsRaised old gone end new → end ≤ most → All (λ x. x ≤ most) old → All (λ x. x ≤ most) new
raised-small old gone new end most h at small k d inside =
    let l : k < length old = omega (arith, inside, h.places) in
    let e : get_or new k d ≡ get_or new k 0 = get_or_default_zero new k d inside in
    let s : get_or old k 0 ≤ most = small k 0 l in
    elim (member_decided (number k) gone) [
      | inl has ↦ omega (arith, e, h.raised k l has, s, at)
      | inr none ↦ omega (arith, e, h.same k l none, s)
    ]
