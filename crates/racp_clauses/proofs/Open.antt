-- What follows from a clause is told by its literals that are not false.
use Rattle.std.proofs.Common.{◌≡◌, refl, sym, ◌∙◌, ap, subst, ℕ, zero, suc, ◌<◌, inl, inr, true, false, List, [], ◌∷◌, length, arith}
use Rattle.std.specs.Prelude.{cond}
use Rattle.std.proofs.lemmas.Bool.{cases_Bool}
use Rattle.racp_model.specs.Window.{Bounds}
use Rattle.racp_clauses.specs.Clauses.{IsFalseWithin}
use Rattle.racp_clauses.specs.Inferences.{may_have, IsOnlyOpen, AreTwoOpen, IsOfClause, IsFalseAt, open_literals, of_open, by_clause}
use Rattle.racp_clauses.specs.declared.literal.Literal.{Literal}
use Rattle.racp_clauses.specs.declared.literal.Literal.TheVariants.{AtLeast, AtMost}
use Rattle.racp_clauses.specs.declared.inference.Inference.{Inference}
use Rattle.racp_clauses.specs.declared.inference.Inference.TheVariants.{Nothing, Narrow, Close}

-- a literal is false exactly where nothing may have it
pub false-may : (bounds : Bounds) (l : Literal) → IsFalseWithin bounds l → may_have bounds l ≡ false
false-may bounds (AtLeast x v) h = grind (arith, h.0, h.1)
false-may bounds (AtMost x v) h = grind (arith, h.0, h.1)

pub may-false : (bounds : Bounds) (l : Literal) → may_have bounds l ≡ false → IsFalseWithin bounds l
may-false bounds (AtLeast x v) e = grind (arith, e)
may-false bounds (AtMost x v) e = grind (arith, e)

pub may-open : (bounds : Bounds) (l : Literal) → (IsFalseWithin bounds l → ⊥) → may_have bounds l ≡ true
may-open bounds l not' = elim (cases_Bool (may_have bounds l)) [
  | inl t ↦ t
  | inr f ↦ absurd (not' (may-false bounds l f))
]

module _ (bounds : Bounds) where
  open-head : (l : Literal) (ls : List Literal) → may_have bounds l ≡ true → open_literals bounds (l ∷ ls) ≡ l ∷ open_literals bounds ls
  open-head l ls e = ap (λ b. cond b (l ∷ open_literals bounds ls) (open_literals bounds ls)) e

  open-tail : (l : Literal) (ls : List Literal) → may_have bounds l ≡ false → open_literals bounds (l ∷ ls) ≡ open_literals bounds ls
  open-tail l ls e = ap (λ b. cond b (l ∷ open_literals bounds ls) (open_literals bounds ls)) e

  -- none
  all-false : (clause : List Literal) → ((i : ℕ) → i < length clause → IsFalseAt bounds clause i) → open_literals bounds clause ≡ []
  all-false [] h = refl
  all-false (l ∷ ls) h = open-tail l ls (false-may bounds l (h 0 (omega arith))) ∙ all-false ls (λ i k. h (suc i) (omega (arith, k)))

  -- one
  only-open : (clause : List Literal) (l : Literal) (i : ℕ) → IsOnlyOpen bounds clause (length clause) l i → open_literals bounds clause ≡ l ∷ []
  only-open [] l i h = absurd (omega (arith, h.place))
  only-open (m ∷ ms) l zero h =
      let same : m ≡ l = h.is in
      open-head m ms (may-open bounds m (subst (λ x. IsFalseWithin bounds x → ⊥) (sym same) h.not_false))
      ∙ (ap (λ (x : Literal). x ∷ open_literals bounds ms) same
      ∙ ap (λ (xs : List Literal). l ∷ xs) (all-false ms (λ j k. h.others (suc j) (omega (arith, k)) (λ e. omega (arith, e)))))
  only-open (m ∷ ms) l (suc i) h =
      open-tail m ms (false-may bounds m (h.others 0 (omega arith) (λ e. omega (arith, e))))
      ∙ only-open ms l i (record {
        place = omega (arith, h.place);
        is = h.is;
        not_false = h.not_false;
        others = λ j k other. h.others (suc j) (omega (arith, k)) (λ e. other (omega (arith, e)));
      })

  -- some
  some-open : (clause : List Literal) (i : ℕ) → i < length clause → (IsFalseAt bounds clause i → ⊥) → (x : Literal) × (more : List Literal) × (open_literals bounds clause ≡ x ∷ more)
  some-open [] i l h = absurd (omega (arith, l))
  some-open (m ∷ ms) zero l h = (m, open_literals bounds ms, open-head m ms (may-open bounds m h))
  some-open (m ∷ ms) (suc i) l h =
      let rest = some-open ms i (omega (arith, l)) h in
      elim (cases_Bool (may_have bounds m)) [
        | inl t ↦ (m, open_literals bounds ms, open-head m ms t)
        | inr f ↦ (rest.0, rest.1, open-tail m ms f ∙ rest.2)
      ]

  two-first : (m : Literal) (ms : List Literal) (i : ℕ) → may_have bounds m ≡ true → i < length ms → (IsFalseAt bounds ms i → ⊥) → by_clause bounds (m ∷ ms) ≡ Nothing
  two-first m ms i t l h =
      let rest = some-open ms i l h in
      ap of_open (open-head m ms t ∙ ap (λ (xs : List Literal). m ∷ xs) rest.2)

  -- two
  two-open : (clause : List Literal) (i j : ℕ) → AreTwoOpen bounds clause (length clause) i j → by_clause bounds clause ≡ Nothing
  two-open [] i j h = absurd (omega (arith, h.place))
  two-open (m ∷ ms) i zero h = absurd (omega (arith, h.before))
  two-open (m ∷ ms) zero (suc j) h = two-first m ms j (may-open bounds m h.one) (omega (arith, h.place)) h.other
  two-open (m ∷ ms) (suc i) (suc j) h = elim (cases_Bool (may_have bounds m)) [
    | inl t ↦ two-first m ms j t (omega (arith, h.place)) h.other
    | inr f ↦
        ap of_open (open-tail m ms f)
        ∙ two-open ms i j (record { before = omega (arith, h.before); place = omega (arith, h.place); one = h.one; other = h.other })
  ]

  -- so what follows is one thing
  pub of-clause : (clause : List Literal) (inference : Inference) → IsOfClause bounds clause (length clause) inference → inference ≡ by_clause bounds clause
  of-clause clause Close h = sym (ap of_open (all-false clause h))
  of-clause clause (Narrow l) h = sym (ap of_open (only-open clause l h.0 h.1))
  of-clause clause Nothing h = sym (two-open clause h.0 h.1 h.2)
