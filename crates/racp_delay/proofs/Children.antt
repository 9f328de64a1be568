-- A child window is made of its window.
use Rattle.std.proofs.Common.{◌≡◌, ◌≢◌, ◌⊎◌, inl, inr, ℕ, ◌≤◌, List, [], length, map, slice_index, arith, refl, ◌∙◌, Contains, max}
use Rattle.std.specs.List.{range_with_len}
use Rattle.std.proofs.lemmas.List.FromFn.{get_or-map-range_with_len}
use Rattle.racp_model.specs.Project.{Project, number}
use Rattle.racp_model.proofs.lemmas.Decided.{member_decided}
use Rattle.racp_delay.specs.Branching.{IsFirstEnd, end_of}
use Rattle.racp_delay.specs.Laws.{EachHasChild}
use Rattle.racp_delay.proofs.Each.{each-member, each-members, least_of, some-each, Some_of}

-- the first of two numbers where something holds, the second where it does not
pub pick : {A : Type 0} → A ⊎ (A → ⊥) → ℕ → ℕ → ℕ
pick s x y = elim s [ inl here ↦ x | inr not_here ↦ y ]

pub pick-in : {A : Type 0} (s : A ⊎ (A → ⊥)) (x y : ℕ) → A → pick s x y ≡ x
unfolding pick
pick-in (inl here) x y a = refl
pick-in (inr not_here) x y a = absurd (not_here a)

pub pick-out : {A : Type 0} (s : A ⊎ (A → ⊥)) (x y : ℕ) → (A → ⊥) → pick s x y ≡ y
unfolding pick
pick-out (inl here) x y n = absurd (n here)
pick-out (inr not_here) x y n = refl

-- some job of a list, by membership
pub some-member : (P : ℕ → Type 0) (xs : List ℕ) → Some_of P xs → (x : ℕ) × Contains xs x × P x
some-member P xs s =
    let h = some-each P (Contains xs) xs s (each-members (Contains xs) xs (λ x c. c)) in
    (h.0, h.2, h.1)

-- there is a first end of some jobs
pub first_end_of : (p : Project) (early kept : List ℕ) → kept ≢ [] → (end : ℕ) × IsFirstEnd p early kept end
first_end_of p early kept some =
    let least = least_of (end_of p early) kept some in
    let at = some-member (λ job. end_of p early job ≡ least.0) kept least.2 in
    (least.0, record { some = at; first = λ job c. each-member (λ x. least.0 ≤ end_of p early x) kept job least.1 c })

-- and a child
pub has_child : EachHasChild
has_child p early window gone kept some =
    let end = first_end_of p early kept some in
    let bound : ℕ → ℕ = λ i. pick (member_decided (number i) gone) (max (slice_index window.lower i) end.0) (slice_index window.lower i) in (
      record { lower = map bound (range_with_len 0 (length p.jobs)); upper = window.upper },
      record {
        end = end.0;
        first = end.1;
        raised = λ i l goes. get_or-map-range_with_len bound 0 (length p.jobs) i i 0 l (omega arith) ∙ pick-in (member_decided (number i) gone) (max (slice_index window.lower i) end.0) (slice_index window.lower i) goes;
        same = λ i l stays. get_or-map-range_with_len bound 0 (length p.jobs) i i 0 l (omega arith) ∙ pick-out (member_decided (number i) gone) (max (slice_index window.lower i) end.0) (slice_index window.lower i) stays;
        upper = refl;
      },
    )
