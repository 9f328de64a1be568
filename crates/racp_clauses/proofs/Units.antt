-- What follows from the first literals of a clause.
use Rattle.std.proofs.Common.{◌≡◌, ◌∙◌, ◌≢◌, ℕ, ◌+◌, ◌<◌, ◌≤◌, inl, inr, List, length, slice_index_or, arith, ap, refl, sym, subst}
use Rattle.std.proofs.lemmas.Bool.{cases_lt}
use Rattle.std.proofs.lemmas.List.{get_or_read}
use Rattle.racp_model.specs.Window.{Bounds}
use Rattle.racp_clauses.specs.Clauses.{IsFalseWithin}
use Rattle.racp_clauses.specs.Inferences.{IsOfClause, IsFalseAt}
use Rattle.racp_clauses.specs.declared.literal.Literal.{Literal}
use Rattle.racp_clauses.specs.declared.literal.Literal.TheVariants.{AtLeast}
use Rattle.racp_clauses.specs.declared.inference.Inference.{Inference}
use Rattle.racp_clauses.specs.declared.inference.Inference.TheVariants.{Nothing, Narrow, Close}

module _ (bounds : Bounds) (clause : List Literal) where
  pub clause-none : IsOfClause bounds clause 0 Close
  clause-none i l = absurd (omega (arith, l))

  module _ (n : ℕ) (l : Literal) (place : n < length clause) (is : l ≡ slice_index_or clause n l) where
    -- the literal at the next place
    pub at_next : slice_index_or clause n (AtLeast 0 0) ≡ l
    at_next = sym (get_or_read clause n l place is (AtLeast 0 0))

    -- which is false
    pub next-false : IsFalseWithin bounds l → IsFalseAt bounds clause n
    next-false f = subst (IsFalseWithin bounds) (sym at_next) f

    -- which is not
    pub next-open : (IsFalseWithin bounds l → ⊥) → IsFalseAt bounds clause n → ⊥
    next-open not f = not (subst (IsFalseWithin bounds) at_next f)

    -- a literal more that is false
    pub clause-false : (inference : Inference) → IsOfClause bounds clause n inference → IsFalseWithin bounds l → IsOfClause bounds clause (n + 1) inference
    clause-false Close all f = λ i m. elim (cases_lt i n) [
      | inl before ↦ all i before
      | inr here ↦ let e : n ≡ i = omega (arith, m, here) in subst (IsFalseAt bounds clause) e (next-false f)
    ]
    clause-false (Narrow k) only f = (
      only.0,
      record {
        place = omega (arith, only.1.place);
        is = only.1.is;
        not_false = only.1.not_false;
        others = λ j m other. elim (cases_lt j n) [
          | inl before ↦ only.1.others j before other
          | inr here ↦ let e : n ≡ j = omega (arith, m, here) in subst (IsFalseAt bounds clause) e (next-false f)
        ];
      },
    )
    clause-false Nothing two f = (two.0, two.1, record { before = two.2.before; place = omega (arith, two.2.place); one = two.2.one; other = two.2.other })

    -- the first that is not
    pub clause-first : IsOfClause bounds clause n Close → (IsFalseWithin bounds l → ⊥) → IsOfClause bounds clause (n + 1) (Narrow l)
    clause-first all not = (
      n,
      record {
        place = omega arith;
        is = at_next;
        not_false = not;
        others = λ j m other. elim (cases_lt j n) [ inl before ↦ all j before | inr here ↦ absurd (other (omega (arith, m, here))) ];
      },
    )

    -- the second that is not
    pub clause-second : (inference : Inference) → IsOfClause bounds clause n inference → inference ≢ Close → (IsFalseWithin bounds l → ⊥) → IsOfClause bounds clause (length clause) Nothing
    clause-second Close all open' not = absurd (open' refl)
    clause-second (Narrow k) only open' not = (
      only.0,
      n,
      record {
        before = only.1.place;
        place = place;
        one = λ f. only.1.not_false (subst (IsFalseWithin bounds) only.1.is f);
        other = next-open not;
      },
    )
    clause-second Nothing two open' not = (two.0, two.1, record { before = two.2.before; place = omega (arith, two.2.place, place); one = two.2.one; other = two.2.other })

  -- all of them
  pub clause-end : (n : ℕ) (inference : Inference) → IsOfClause bounds clause n inference → n ≡ length clause → IsOfClause bounds clause (length clause) inference
  clause-end n inference of e = subst (λ m. IsOfClause bounds clause m inference) e of
