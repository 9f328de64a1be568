-- Bounds that are met with literals, and literals that are false within bounds.
use Rattle.std.proofs.Common.{◌≡◌, ℕ, ◌+◌, ◌-◌, ◌<◌, ◌≤◌, ◌&&◌, if◌then◌else◌, inl, inr, true, false, List, length, slice_index, set, arith, ap, refl, sym, subst, length-set}
use Rattle.std.proofs.lemmas.Bool.{cases_lt}
use Rattle.std.proofs.lemmas.Bool.Decides.{nat_tests}
use Rattle.racp_model.specs.Window.{Bounds}
use Rattle.racp_model.proofs.lemmas.Lists.{at_set}
use Rattle.racp_clauses.specs.Solutions.{IsWithin}
use Rattle.racp_clauses.specs.Clauses.{Satisfies, IsFalseWithin}
use Rattle.racp_clauses.specs.Inferences.{Allows, may_have, says_more, met_bounds, negation}
use Rattle.racp_clauses.specs.declared.literal.Literal.{Literal}
use Rattle.racp_clauses.specs.declared.literal.Literal.TheVariants.{AtLeast, AtMost}
use Rattle.racp_clauses.specs.declared.inference.Inference.{Inference}
use Rattle.racp_clauses.specs.declared.inference.Inference.TheVariants.{Nothing, Narrow, Close}

-- values that stay within bounds of which a lower one is raised to at most theirs
pub raised-within : (old : Bounds) (x v : ℕ) (vs : List ℕ) → IsWithin old vs → x < length old.lower → v ≤ slice_index vs x → IsWithin (record old { lower = set old.lower x v }) vs
raised-within old x v vs w l s = record {
  above = λ y m. elim (at_set old.lower x v y l) [
    | inl same ↦ omega (arith, same.1, s, ap (slice_index vs) same.0)
    | inr other ↦ omega (arith, other.1, w.above y (omega (arith, m, length-set old.lower x v)))
  ];
  below = λ y m. w.below y (omega (arith, m, length-set old.lower x v));
}

-- and of which an upper one is lowered
pub lowered-within : (old : Bounds) (x v : ℕ) (vs : List ℕ) → IsWithin old vs → x < length old.upper → slice_index vs x ≤ v → IsWithin (record old { upper = set old.upper x v }) vs
lowered-within old x v vs w l s = record {
  above = w.above;
  below = λ y m. elim (at_set old.upper x v y l) [
    | inl same ↦ omega (arith, same.1, s, ap (slice_index vs) same.0)
    | inr other ↦ omega (arith, other.1, w.below y m)
  ];
}

-- values within bounds that have a literal: something may have it
pub may-have : (old : Bounds) (l : Literal) (vs : List ℕ) → IsWithin old vs → Satisfies l vs → may_have old l ≡ true
may-have old (AtLeast x v) vs w s = elim (cases_lt x (length old.lower)) [
  | inl in' ↦ let below : v ≤ slice_index old.upper x = omega (arith, s, w.below x in') in grind (arith, nat_tests)
  | inr out ↦ grind (arith, nat_tests)
]
may-have old (AtMost x v) vs w s = elim (cases_lt x (length old.lower)) [
  | inl in' ↦ let above : slice_index old.lower x ≤ v = omega (arith, s, w.above x in') in grind (arith, nat_tests)
  | inr out ↦ grind (arith, nat_tests)
]

-- and they are within the bounds that are met with it
pub met-within : (old : Bounds) (l : Literal) (vs : List ℕ) → length old.upper ≡ length old.lower → IsWithin old vs → Satisfies l vs → IsWithin (met_bounds old l) vs
met-within old (AtLeast x v) vs same w s =
    let may = may-have old (AtLeast x v) vs w s in
    elim (cases_lt x (length old.lower)) [
      | inl in' ↦ elim (cases_lt (slice_index old.lower x) v) [
        | inl more ↦
            let says : says_more old (AtLeast x v) ≡ true = grind (arith, nat_tests) in
            rw (may, says) (raised-within old x v vs w in' s)
        | inr less ↦
            let says : says_more old (AtLeast x v) ≡ false = grind (arith, nat_tests) in
            rw (may, says) w
      ]
      | inr out ↦
          let says : says_more old (AtLeast x v) ≡ false = grind (arith, nat_tests) in
          rw (may, says) w
    ]
met-within old (AtMost x v) vs same w s =
    let may = may-have old (AtMost x v) vs w s in
    elim (cases_lt x (length old.lower)) [
      | inl in' ↦ elim (cases_lt v (slice_index old.upper x)) [
        | inl more ↦
            let says : says_more old (AtMost x v) ≡ true = grind (arith, nat_tests) in
            rw (may, says) (lowered-within old x v vs w (omega (arith, in', same)) s)
        | inr less ↦
            let says : says_more old (AtMost x v) ≡ false = grind (arith, nat_tests) in
            rw (may, says) w
      ]
      | inr out ↦
          let says : says_more old (AtMost x v) ≡ false = grind (arith, nat_tests) in
          rw (may, says) w
    ]

-- they have as many places as before
pub met-lower : (old : Bounds) (l : Literal) → length (met_bounds old l).lower ≡ length old.lower
met-lower old (AtLeast x v) = elim (may_have old (AtLeast x v) && says_more old (AtLeast x v)) as (λ b. length (if b then record old { lower = set old.lower x v } else old).lower ≡ length old.lower) [ true ↦ length-set old.lower x v | false ↦ refl ]
met-lower old (AtMost x v) = elim (may_have old (AtMost x v) && says_more old (AtMost x v)) as (λ b. length (if b then record old { upper = set old.upper x v } else old).lower ≡ length old.lower) [ true ↦ refl | false ↦ refl ]

pub met-upper : (old : Bounds) (l : Literal) → length (met_bounds old l).upper ≡ length old.upper
met-upper old (AtLeast x v) = elim (may_have old (AtLeast x v) && says_more old (AtLeast x v)) as (λ b. length (if b then record old { lower = set old.lower x v } else old).upper ≡ length old.upper) [ true ↦ refl | false ↦ refl ]
met-upper old (AtMost x v) = elim (may_have old (AtMost x v) && says_more old (AtMost x v)) as (λ b. length (if b then record old { upper = set old.upper x v } else old).upper ≡ length old.upper) [ true ↦ length-set old.upper x v | false ↦ refl ]

-- a literal that is false within bounds is true of no values within them
pub false-of : (bounds : Bounds) (l : Literal) (vs : List ℕ) → IsWithin bounds vs → IsFalseWithin bounds l → Satisfies l vs → ⊥
false-of bounds (AtLeast x v) vs w f s = omega (arith, f.1, s, w.below x f.0)
false-of bounds (AtMost x v) vs w f s = omega (arith, f.1, s, w.above x f.0)

-- what follows where a literal is not true is true there
pub negation-of : (l : Literal) (vs : List ℕ) → (Satisfies l vs → ⊥) → Allows (negation l) vs
negation-of (AtLeast x v) vs not = elim (cases_lt (slice_index vs x) v) [
  | inl less ↦
      let is : negation (AtLeast x v) ≡ Narrow (AtMost x (v - 1)) = grind (arith, nat_tests) in
      let so : slice_index vs x ≤ v - 1 = omega (arith, less) in
      subst (λ (i : Inference). Allows i vs) (sym is) so
  | inr more ↦ absurd (not more)
]
negation-of (AtMost x v) vs not = elim (cases_lt v (slice_index vs x)) [
  | inl more ↦ elim (cases_lt v 18446744073709551615) [
    | inl some ↦
        let is : negation (AtMost x v) ≡ Narrow (AtLeast x (v + 1)) = grind (arith, nat_tests) in
        let so : v + 1 ≤ slice_index vs x = omega (arith, more) in
        subst (λ (i : Inference). Allows i vs) (sym is) so
    | inr greatest ↦
        let is : negation (AtMost x v) ≡ Nothing = grind (arith, nat_tests) in
        subst (λ (i : Inference). Allows i vs) (sym is) tt
  ]
  | inr less ↦ absurd (not less)
]
