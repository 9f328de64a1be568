-- What holds or does not hold: by tests of numbers, and for each of finitely many numbers.
use Rattle.std.proofs.Common.{◌≡◌, ◌⊎◌, ℕ, zero, suc, ◌<◌, ◌≤◌, List, [], ◌∷◌, Contains, inl, inr, arith}
use Rattle.std.proofs.lemmas.Bool.{cases_lt, cases_eq}
use Rattle.racp_model.proofs.lemmas.Lists.{below_suc}
use Rattle.racp_model.proofs.lemmas.Relations.{member_cases, member_first, member_later, no_member}

-- it holds or it does not
abbrev pub Decided : Type 0 → Type 0
Decided P = P ⊎ (P → ⊥)

-- so it is for what holds exactly where that does
pub decided_by : {P Q : Type 0} → (P → Q) → (Q → P) → Decided P → Decided Q
decided_by there back (inl p) = inl (there p)
decided_by there back (inr not) = inr (λ q. not (back q))

-- for two things together
pub both_decided : {P Q : Type 0} → Decided P → Decided Q → Decided (P × Q)
both_decided (inl p) (inl q) = inl (p, q)
both_decided (inl p) (inr not) = inr (λ both. not both.1)
both_decided (inr not) q = inr (λ both. not both.0)

-- for numbers
pub le_decided : (m n : ℕ) → Decided (m ≤ n)
le_decided m n = elim (cases_lt n m) [
  | inl more ↦ inr (λ l. omega (arith, more, l))
  | inr less ↦ inl less
]

pub same_decided : (m n : ℕ) → Decided (m ≡ n)
same_decided = cases_eq

-- for a number and a list
pub member_decided : (x : ℕ) (xs : List ℕ) → Decided (Contains xs x)
member_decided x [] = inr (no_member x)
member_decided x (y ∷ ys) = elim (same_decided y x) [
  | inl same ↦ inl (member_first y ys x same)
  | inr other ↦ decided_by (member_later y ys x) (λ c. elim (member_cases y ys x c) [ inl same ↦ absurd (other same) | inr later ↦ later ]) (member_decided x ys)
]

-- and for each number below n
pub each_decided : (P : ℕ → Type 0) (n : ℕ) → ((k : ℕ) → k < n → Decided (P k)) → Decided ((k : ℕ) → k < n → P k)
each_decided P zero each = inl (λ k l. absurd (omega (arith, l)))
each_decided P (suc n) each = elim (each n (omega arith)) [
  | inl here ↦ elim (each_decided P n (λ k l. each k (omega (arith, l)))) [
    | inl below ↦ inl (below_suc P n below here)
    | inr not ↦ inr (λ all. not (λ k l. all k (omega (arith, l))))
  ]
  | inr not ↦ inr (λ all. not (all n (omega arith)))
]
