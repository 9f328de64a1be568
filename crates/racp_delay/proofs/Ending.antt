-- A walk over the active jobs for the first end of those that do not go.
use Rattle.std.proofs.Common.{◌≡◌, ◌⊎◌, inl, inr, ℕ, ◌≤◌, List, [], ◌∷◌, ◌++◌, length, arith, refl, ap, sym, ◌∙◌, subst, Contains, All, Option, Some, None, min, append_assoc}
use Rattle.std.proofs.lemmas.Bool.{cases_lt}
use Rattle.std.proofs.lemmas.List.{append-nil}
use Rattle.std.proofs.lemmas.List.Elements.{Contains-append_left, Contains-append_right, Contains-append_cases}
use Rattle.racp_model.specs.Project.{Project, IsNumber}
use Rattle.racp_model.specs.JobSets.{AreJobs}
use Rattle.racp_model.proofs.lemmas.Relations.{member_cases, member_first, no_member}
use Rattle.racp_delay.specs.Alternatives.{Splits}
use Rattle.racp_delay.specs.Found.{Each, IsEarlier}
use Rattle.racp_delay.specs.Branching.{IsFirstEndAnswer, end_of}
use Rattle.racp_delay.proofs.Each.{each-right, all-each}
use Rattle.racp_delay.proofs.Subsets.{others_are_kept}

-- a job that was seen and does not go
abbrev pub IsSeen : List ℕ → List ℕ → ℕ → Type 0
IsSeen gone seen job = Contains seen job × (Contains gone job → ⊥)

-- the first end of the jobs seen that do not go
abbrev pub IsFirstSeen : Project → List ℕ → List ℕ → List ℕ → Option ℕ → Type 0
IsFirstSeen p starts gone seen None = (job : ℕ) → IsSeen gone seen job → ⊥
IsFirstSeen p starts gone seen (Some end) = ((job : ℕ) × IsSeen gone seen job × (end_of p starts job ≡ end)) × ((job : ℕ) → IsSeen gone seen job → end ≤ end_of p starts job)

-- of the active jobs some are seen, and the others are left
pub record IsSeeking (p : Project) (starts gone active left : List ℕ) (first : Option ℕ) : Type 0 where
  pub seen : List ℕ
  pub parts : seen ++ left ≡ active
  pub least : IsFirstSeen p starts gone seen first

-- at the start none is seen
pub seeking-start : (p : Project) (starts gone active left : List ℕ) → left ≡ active → IsSeeking p starts gone active left None
seeking-start p starts gone active left e = record { seen = []; parts = e; least = λ job is. no_member job is.0 }

module _ (p : Project) (starts gone active left : List ℕ) (first : Option ℕ) (job : ℕ) (others : List ℕ) (h : IsSeeking p starts gone active left first) (e : left ≡ job ∷ others) where
  -- the next job is one of the project's
  pub next-is : All (IsNumber (length p.jobs)) active → IsNumber (length p.jobs) job
  next-is numbers =
      let all : Each (IsNumber (length p.jobs)) (h.seen ++ job ∷ others) = subst (λ (xs : List ℕ). Each (IsNumber (length p.jobs)) xs) (sym h.parts ∙ ap (λ (xs : List ℕ). h.seen ++ xs) e) (all-each (IsNumber (length p.jobs)) active numbers) in
      (each-right (IsNumber (length p.jobs)) h.seen (job ∷ others) all).0

  -- it is seen then
  pub parts-next : (h.seen ++ job ∷ []) ++ others ≡ active
  parts-next = append_assoc h.seen (job ∷ []) others ∙ (ap (λ (xs : List ℕ). h.seen ++ xs) (sym e) ∙ h.parts)

  -- what is seen then was seen, or is this job
  pub seen-cases : (i : ℕ) → Contains (h.seen ++ job ∷ []) i → Contains h.seen i ⊎ (i ≡ job)
  seen-cases i c = elim (Contains-append_cases h.seen (job ∷ []) i c) [
    | inl before ↦ inl before
    | inr now ↦ elim (member_cases job [] i now) [ inl same ↦ inr (sym same) | inr none' ↦ absurd (no_member i none') ]
  ]

  -- where it goes, nothing changes
  pub seeking-skip : Contains gone job → IsSeeking p starts gone active others first
  seeking-skip goes = record { seen = h.seen ++ job ∷ []; parts = parts-next; least = go first h.least }
    where
      before : (i : ℕ) → IsSeen gone (h.seen ++ job ∷ []) i → IsSeen gone h.seen i
      before i is = elim (seen-cases i is.0) [ inl seen ↦ (seen, is.1) | inr same ↦ absurd (is.1 (subst (λ (x : ℕ). Contains gone x) (sym same) goes)) ]

      go : (o : Option ℕ) → IsFirstSeen p starts gone h.seen o → IsFirstSeen p starts gone (h.seen ++ job ∷ []) o
      go None none' = λ i is. none' i (before i is)
      go (Some end) some = ((some.0.0, (Contains-append_left h.seen (job ∷ []) some.0.0 some.0.1.0, some.0.1.1), some.0.2), λ i is. some.1 i (before i is))

  -- where it stays, its end counts
  pub seeking-next : (Contains gone job → ⊥) → (time : ℕ) (next : Option ℕ) → time ≡ end_of p starts job → IsEarlier first time next → IsSeeking p starts gone active others next
  seeking-next stays time next is_time is_next = record { seen = h.seen ++ job ∷ []; parts = parts-next; least = go first h.least next is_next }
    where
      here : IsSeen gone (h.seen ++ job ∷ []) job
      here = (Contains-append_right h.seen (job ∷ []) job (member_first job [] job refl), stays)

      only_here : (i : ℕ) → i ≡ job → end_of p starts i ≡ time
      only_here i same = ap (end_of p starts) same ∙ sym is_time

      alone : IsFirstSeen p starts gone h.seen None → IsFirstSeen p starts gone (h.seen ++ job ∷ []) (Some time)
      alone none' = ((job, here, sym is_time), λ i is. elim (seen-cases i is.0) [ inl seen ↦ absurd (none' i (seen, is.1)) | inr same ↦ omega (arith, only_here i same) ])

      both : (end : ℕ) → IsFirstSeen p starts gone h.seen (Some end) → IsFirstSeen p starts gone (h.seen ++ job ∷ []) (Some (min end time))
      both end some = (
        elim (cases_lt time end) [
          | inl now ↦ (job, here, omega (arith, is_time))
          | inr before ↦ (some.0.0, (Contains-append_left h.seen (job ∷ []) some.0.0 some.0.1.0, some.0.1.1), omega (arith, some.0.2))
        ],
        λ i is. elim (seen-cases i is.0) [ inl seen ↦ omega (arith, some.1 i (seen, is.1)) | inr same ↦ omega (arith, only_here i same) ],
      )

      go : (o : Option ℕ) → IsFirstSeen p starts gone h.seen o → (n : Option ℕ) → IsEarlier o time n → IsFirstSeen p starts gone (h.seen ++ job ∷ []) n
      go None none' n is = subst (IsFirstSeen p starts gone (h.seen ++ job ∷ [])) (sym is) (alone none')
      go (Some end) some n is = subst (IsFirstSeen p starts gone (h.seen ++ job ∷ [])) (sym is) (both end some)

-- at the end all are seen
pub seeking-end : (p : Project) (starts gone active left : List ℕ) (first : Option ℕ) → IsSeeking p starts gone active left first → left ≡ [] → AreJobs active → (kept : List ℕ) → Splits active gone kept → IsFirstEndAnswer p starts kept first
seeking-end p starts gone active left first h e are kept s = go first h.least
  where
    all : h.seen ≡ active
    all = sym (append-nil h.seen) ∙ (ap (λ (xs : List ℕ). h.seen ++ xs) (sym e) ∙ h.parts)

    seen-kept : (job : ℕ) → IsSeen gone h.seen job → Contains kept job
    seen-kept job is = (others_are_kept active gone kept are.rises s job).1 (subst (λ (xs : List ℕ). Contains xs job) all is.0, is.1)

    kept-seen : (job : ℕ) → Contains kept job → IsSeen gone h.seen job
    kept-seen job c = let both = (others_are_kept active gone kept are.rises s job).0 c in (subst (λ (xs : List ℕ). Contains xs job) (sym all) both.0, both.1)

    empty : (xs : List ℕ) → ((x : ℕ) → Contains xs x → ⊥) → xs ≡ []
    empty [] none' = refl
    empty (x ∷ xs) none' = absurd (none' x (member_first x xs x refl))

    go : (o : Option ℕ) → IsFirstSeen p starts gone h.seen o → IsFirstEndAnswer p starts kept o
    go None none' = empty kept (λ job c. none' job (kept-seen job c))
    go (Some end) some = record { some = (some.0.0, seen-kept some.0.0 some.0.1, some.0.2); first = λ job c. some.1 job (kept-seen job c) }
