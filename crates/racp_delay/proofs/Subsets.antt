-- What goes and what stays, by members.
use Rattle.std.proofs.Common.{◌≡◌, ◌⊎◌, inl, inr, ℕ, zero, suc, ◌+◌, ◌<◌, List, [], ◌∷◌, slice_index, arith, refl, sym, subst, Contains}
use native.Mathlib.Numerals.{unary_clauses}
use Rattle.std.proofs.lemmas.Bool.{cases_lt}
use Rattle.std.proofs.lemmas.List.Kept.{AllPairs-from_increasing}
use Rattle.std.specs.List.Sorted.{IsStrictlyIncreasing}
use Rattle.racp_model.proofs.lemmas.Relations.{member_cases, member_later, member_first, no_member, same_from_members}
use Rattle.racp_model.proofs.lemmas.Costs.{lex_one_way}
use Rattle.racp_model.specs.Terms.{IsLexBefore}
use Rattle.racp_model.specs.Schedule.{IsActive}
use Rattle.racp_model.specs.Project.{place}
use Rattle.racp_delay.specs.Alternatives.{Splits}
use Rattle.racp_delay.specs.Alternatives.Splits.{none, goes, stays}
use Rattle.racp_delay.specs.Laws.{OthersStay, SubsetsGo, ConflictIsOne, AlternativesAreOneList}
use Rattle.racp_delay.proofs.Each.{each-member, Ascends, ascends}
use Rattle.racp_delay.proofs.Splitting.{each-kept, each-gone, ascends-gone, splits-none}

-- each job goes or stays
pub goes_or_stays : {jobs gone kept : List ℕ} (i : ℕ) → Splits jobs gone kept → Contains jobs i → Contains gone i ⊎ Contains kept i
goes_or_stays i none c = inl c
goes_or_stays i (goes {job = job} {jobs = jobs} {gone = gone} s) c = elim (member_cases job jobs i c) [
  | inl here ↦ inl (member_first job gone i here)
  | inr there ↦ elim (goes_or_stays i s there) [ inl g ↦ inl (member_later job gone i g) | inr k ↦ inr k ]
]
goes_or_stays i (stays {job = job} {jobs = jobs} {kept = kept} s) c = elim (member_cases job jobs i c) [
  | inl here ↦ inr (member_first job kept i here)
  | inr there ↦ elim (goes_or_stays i s there) [ inl g ↦ inl g | inr k ↦ inr (member_later job kept i k) ]
]

-- what goes is one of the jobs
pub gone_in : {jobs gone kept : List ℕ} (i : ℕ) → Splits jobs gone kept → Contains gone i → Contains jobs i
gone_in i none c = c
gone_in i (goes {job = job} {jobs = jobs} {gone = gone} s) c = elim (member_cases job gone i c) [
  | inl here ↦ member_first job jobs i here
  | inr there ↦ member_later job jobs i (gone_in i s there)
]
gone_in i (stays {job = job} {jobs = jobs} s) c = member_later job jobs i (gone_in i s c)

-- and so is what stays
pub kept_in : {jobs gone kept : List ℕ} (i : ℕ) → Splits jobs gone kept → Contains kept i → Contains jobs i
kept_in i none c = c
kept_in i (goes {job = job} {jobs = jobs} s) c = member_later job jobs i (kept_in i s c)
kept_in i (stays {job = job} {jobs = jobs} {kept = kept} s) c = elim (member_cases job kept i c) [
  | inl here ↦ member_first job jobs i here
  | inr there ↦ member_later job jobs i (kept_in i s there)
]

-- no job of a rising list does both
pub not_both : {jobs gone kept : List ℕ} (i : ℕ) → Splits jobs gone kept → Ascends jobs → Contains gone i → Contains kept i → ⊥
not_both i none up g k = no_member i g
not_both i (goes {job = job} {gone = gone} {kept = kept} s) up g k = elim (member_cases job gone i g) [
  | inl here ↦ let above : job < i = each-member (λ x. job < x) kept i (each-kept (λ x. job < x) s up.0) k in omega arith
  | inr there ↦ not_both i s up.1 there k
]
not_both i (stays {job = job} {gone = gone} {kept = kept} s) up g k = elim (member_cases job kept i k) [
  | inl here ↦ let above : job < i = each-member (λ x. job < x) gone i (each-gone (λ x. job < x) s up.0) g in omega arith
  | inr there ↦ not_both i s up.1 g there
]

-- so what stays is what does not go
pub others_are_kept : OthersStay
others_are_kept jobs gone kept up s job = ((λ k. (kept_in job s k, λ g. not_both job s (ascends jobs up) g k)), λ h. elim (goes_or_stays job s h.0) [ inl g ↦ absurd (h.1 g) | inr k ↦ k ])

-- a list in which each is below those after it rises
pub increasing : (xs : List ℕ) → Ascends xs → IsStrictlyIncreasing xs
increasing [] up k l = absurd (omega arith)
increasing (x ∷ []) up k l = absurd (omega arith)
increasing (x ∷ (y ∷ ys)) up zero l = up.0.0
increasing (x ∷ (y ∷ ys)) up (suc k) l =
    let step : slice_index (y ∷ ys) k < slice_index (y ∷ ys) (k + 1) = increasing (y ∷ ys) up.1 k (omega arith) in
    let e : slice_index (x ∷ (y ∷ ys)) (suc k + 1) ≡ slice_index (y ∷ ys) (k + 1) = simp unary_clauses in
    omega (arith, step, e)

-- a rising list of some of the jobs can go
pub can_go : (jobs gone : List ℕ) → Ascends jobs → Ascends gone → ((job : ℕ) → Contains gone job → Contains jobs job) → (kept : List ℕ) × Splits jobs gone kept
can_go [] [] up rises sub = ([], none)
can_go [] (g ∷ gone) up rises sub = absurd (no_member g (sub g (member_first g gone g refl)))
can_go (job ∷ jobs) [] up rises sub = (job ∷ jobs, splits-none (job ∷ jobs))
can_go (job ∷ jobs) (g ∷ gone) up rises sub = elim (member_cases job jobs g (sub g (member_first g gone g refl))) [
  | inl here ↦
      let rest : (i : ℕ) → Contains gone i → Contains jobs i = λ i c. elim (member_cases job jobs i (sub i (member_later g gone i c))) [
        | inl same ↦ let after : g < i = each-member (λ x. g < x) gone i rises.0 c in absurd (omega arith)
        | inr there ↦ there
      ] in
      let h = can_go jobs gone up.1 rises.1 rest in
      (h.0, subst (λ (x : ℕ). Splits (job ∷ jobs) (x ∷ gone) h.0) here (goes h.1))
  | inr there ↦
      let above : job < g = each-member (λ x. job < x) jobs g up.0 there in
      let rest : (i : ℕ) → Contains (g ∷ gone) i → Contains jobs i = λ i c. elim (member_cases job jobs i (sub i c)) [
        | inr later ↦ later
        | inl same ↦ elim (member_cases g gone i c) [
          | inl head ↦ absurd (omega arith)
          | inr tail ↦ let after : g < i = each-member (λ x. g < x) gone i rises.0 tail in absurd (omega arith)
        ]
      ] in
      let h = can_go jobs (g ∷ gone) up.1 rises rest in
      (job ∷ h.0, stays h.1)
]

-- what can go are the subsets
pub subsets : SubsetsGo
subsets jobs gone up = (
  (λ h. (increasing gone (ascends-gone h.1 (ascends jobs up)), λ job c. gone_in job h.1 c)),
  λ h. can_go jobs gone (ascends jobs up) (ascends gone h.0) h.1,
)

-- there is at most one list of alternatives
pub one_list : AlternativesAreOneList
one_list p capacities active a b ha hb = same_from_members IsLexBefore lex_one_way a b ha.in_order hb.in_order (λ x c. hb.all x (ha.only x c)) (λ x c. ha.all x (hb.only x c))

-- starts have at most one first conflict
pub one_conflict : ConflictIsOne
one_conflict p capacities starts t u a b ha hb = (same, same_from_members (λ x y. x < y) (λ x y l r. absurd (omega arith)) a b (AllPairs-from_increasing a ha.set.rises) (AllPairs-from_increasing b hb.set.rises) into back)
  where
    same : t ≡ u
    same = elim (cases_lt t u) [
      | inl less ↦ absurd (omega (arith, ha.first.exceeds.2, hb.first.before ha.first.exceeds.0 t ha.first.exceeds.1 less))
      | inr more ↦ elim (cases_lt u t) [
        | inl greater ↦ absurd (omega (arith, hb.first.exceeds.2, ha.first.before hb.first.exceeds.0 u hb.first.exceeds.1 greater))
        | inr most ↦ omega arith
      ]
    ]

    into : (x : ℕ) → Contains a x → Contains b x
    into x c = let h = (ha.set.members x).0 c in (hb.set.members x).1 (h.0, subst (λ (s : ℕ). IsActive p starts s (place x)) same h.1)

    back : (x : ℕ) → Contains b x → Contains a x
    back x c = let h = (hb.set.members x).0 c in (ha.set.members x).1 (h.0, subst (λ (s : ℕ). IsActive p starts s (place x)) (sym same) h.1)
