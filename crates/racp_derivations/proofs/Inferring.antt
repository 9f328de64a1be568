-- Literals from which the same follows, kept one after the other from the last of a clause on.
use Rattle.std.proofs.Common.{◌≡◌, ◌∙◌, ap, refl, sym, subst, ℕ, zero, suc, ◌+◌, ◌<◌, ◌≤◌, inl, inr, true, false, List, [], ◌∷◌, ◌++◌, length, drop, length-append, slice_index_or, arith}
use Rattle.std.specs.Prelude.{cond, Option, Some, None, IfSome, ◌⊎◌}
use Rattle.std.proofs.Math.Nat.{eq-or-lt_of_le}
use Rattle.std.proofs.Math.Seq.{get_or-append_seam}
use Rattle.std.proofs.lemmas.Bool.{cases_Bool}
use Rattle.std.proofs.lemmas.List.{drop_more, append-nil, get_or_append_left}
use Rattle.std.proofs.lemmas.List.Elements.{filter-append}
use Rattle.racp_model.specs.Window.{Bounds}
use Rattle.racp_clauses.specs.Clauses.{Derived}
use Rattle.racp_clauses.specs.Inferences.{may_have, open_literals, of_open, by_clause, with_inference}
use Rattle.racp_clauses.specs.Tests.{clause_at}
use Rattle.racp_clauses.specs.declared.literal.Literal.{Literal}
use Rattle.racp_clauses.specs.declared.literal.Literal.TheVariants.{AtLeast, AtMost}
use Rattle.racp_derivations.specs.Thinning.{IsWeaker, AreTwoWeaker, InfersAs, AreShorts}

-- of open literals it does not matter where a further one stands
behind : (f g : List Literal) (l : Literal) → of_open f ≡ of_open g → of_open (f ++ l ∷ []) ≡ of_open (l ∷ g)
behind [] [] l e = refl
behind [] (c ∷ []) l e = cc e
behind [] (c ∷ d ∷ s) l e = cc e
behind (a ∷ []) [] l e = cc e
behind (a ∷ []) (c ∷ []) l e = refl
behind (a ∷ []) (c ∷ d ∷ s) l e = refl
behind (a ∷ b ∷ r) [] l e = cc e
behind (a ∷ b ∷ r) (c ∷ []) l e = refl
behind (a ∷ b ∷ r) (c ∷ d ∷ s) l e = refl

-- of two literals nothing follows
abbrev pub two : List Literal
two = AtLeast 0 0 ∷ AtLeast 0 0 ∷ []

-- nor from a further one beside two
beside : (g : List Literal) (l : Literal) → of_open g ≡ of_open two → of_open (l ∷ g) ≡ of_open two
beside [] l e = cc e
beside (c ∷ []) l e = refl
beside (c ∷ d ∷ s) l e = refl

module _ (bounds : Bounds) where
  pub open-head : (l : Literal) (ls : List Literal) → may_have bounds l ≡ true → open_literals bounds (l ∷ ls) ≡ l ∷ open_literals bounds ls
  open-head l ls e = ap (λ b. cond b (l ∷ open_literals bounds ls) (open_literals bounds ls)) e

  pub open-tail : (l : Literal) (ls : List Literal) → may_have bounds l ≡ false → open_literals bounds (l ∷ ls) ≡ open_literals bounds ls
  open-tail l ls e = ap (λ b. cond b (l ∷ open_literals bounds ls) (open_literals bounds ls)) e

  weaker-may : (m l : Literal) → IsWeaker m l → may_have bounds l ≡ true → may_have bounds m ≡ true
  weaker-may (AtLeast x v) (AtLeast y w) h t = grind (arith, h.0, h.1, t)
  weaker-may (AtMost x v) (AtMost y w) h t = grind (arith, h.0, h.1, t)
  weaker-may (AtLeast x v) (AtMost y w) h t = absurd h
  weaker-may (AtMost x v) (AtLeast y w) h t = absurd h

  pub some-open : (ls : List Literal) (i : ℕ) → i < length ls → may_have bounds (slice_index_or ls i (AtLeast 0 0)) ≡ true →
      (x : Literal) × (more : List Literal) × (open_literals bounds ls ≡ x ∷ more)
  some-open [] i l t = absurd (omega (arith, l))
  some-open (m ∷ ms) zero l t = (m, open_literals bounds ms, open-head m ms t)
  some-open (m ∷ ms) (suc i) l t =
      let rest = some-open ms i (omega (arith, l)) t in
      elim (cases_Bool (may_have bounds m)) [
        | inl yes' ↦ (m, open_literals bounds ms, open-head m ms yes')
        | inr f ↦ (rest.0, rest.1, open-tail m ms f ∙ rest.2)
      ]

  first-open : (m : Literal) (ms : List Literal) (i : ℕ) → may_have bounds m ≡ true → i < length ms →
      may_have bounds (slice_index_or ms i (AtLeast 0 0)) ≡ true → by_clause bounds (m ∷ ms) ≡ of_open two
  first-open m ms i t l h =
      let rest = some-open ms i l h in
      ap of_open (open-head m ms t ∙ ap (λ (xs : List Literal). m ∷ xs) rest.2)

  pub two-open : (ls : List Literal) (i j : ℕ) → i < j → j < length ls → may_have bounds (slice_index_or ls i (AtLeast 0 0)) ≡ true →
      may_have bounds (slice_index_or ls j (AtLeast 0 0)) ≡ true → by_clause bounds ls ≡ of_open two
  two-open [] i j b l s t = absurd (omega (arith, l))
  two-open (m ∷ ms) i zero b l s t = absurd (omega (arith, b))
  two-open (m ∷ ms) zero (suc j) b l s t = first-open m ms j s (omega (arith, l)) t
  two-open (m ∷ ms) (suc i) (suc j) b l s t = elim (cases_Bool (may_have bounds m)) [
    | inl yes' ↦ first-open m ms j yes' (omega (arith, l)) t
    | inr f ↦ ap of_open (open-tail m ms f) ∙ two-open ms i j (omega (arith, b)) (omega (arith, l)) s t
  ]

  one-more : (kept rest : List Literal) (l : Literal) → by_clause bounds kept ≡ by_clause bounds rest →
      by_clause bounds (kept ++ l ∷ []) ≡ by_clause bounds (l ∷ rest)
  one-more kept rest l e =
      let both : open_literals bounds (kept ++ l ∷ []) ≡ open_literals bounds kept ++ open_literals bounds (l ∷ []) =
      filter-append (may_have bounds) kept (l ∷ []) in
      elim (cases_Bool (may_have bounds l)) [
        | inl t ↦
            ap of_open (both ∙ ap (λ (xs : List Literal). open_literals bounds kept ++ xs) (open-head l [] t))
            ∙ (behind (open_literals bounds kept) (open_literals bounds rest) l e ∙ sym (ap of_open (open-head l rest t)))
        | inr f ↦
            ap of_open (both ∙ (ap (λ (xs : List Literal). open_literals bounds kept ++ xs) (open-tail l [] f) ∙ append-nil (open_literals bounds kept)))
            ∙ (e ∙ sym (ap of_open (open-tail l rest f)))
      ]

  none-more : (kept rest : List Literal) (l : Literal) → AreTwoWeaker kept l → by_clause bounds kept ≡ by_clause bounds rest →
      by_clause bounds kept ≡ by_clause bounds (l ∷ rest)
  none-more kept rest l both e = elim (cases_Bool (may_have bounds l)) [
    | inl t ↦
        let none : by_clause bounds kept ≡ of_open two =
        two-open kept both.earlier both.later both.before both.place (weaker-may _ l both.one t) (weaker-may _ l both.other t) in
        none ∙ sym (ap of_open (open-head l rest t) ∙ beside (open_literals bounds rest) l (sym e ∙ none))
    | inr f ↦ e ∙ sym (ap of_open (open-tail l rest f))
  ]

drop-all : (ls : List Literal) → drop (length ls) ls ≡ []
drop-all [] = refl
drop-all (l ∷ ls) = drop-all ls

-- nothing is kept yet
pub keeps-none : (ls : List Literal) → InfersAs [] (drop (length ls) ls)
keeps-none ls = record { same = λ bounds. sym (ap (by_clause bounds) (drop-all ls)) }

-- the literal before those that were looked at is kept, or says no more than two that are
pub keeps-more : (ls kept after : List Literal) (left next : ℕ) → InfersAs kept (drop left ls) → left ≤ length ls → left ≡ next + 1 →
    (after ≡ kept ++ slice_index_or ls next (AtLeast 0 0) ∷ []) ⊎ ((after ≡ kept) × AreTwoWeaker kept (slice_index_or ls next (AtLeast 0 0))) →
    InfersAs after (drop next ls)
keeps-more ls kept after left next is within e step =
    let l : Literal = slice_index_or ls next (AtLeast 0 0) in
    let here : drop next ls ≡ slice_index_or ls next (AtLeast 0 0) ∷ drop (next + 1) ls = drop_more ls next (AtLeast 0 0) (omega (arith, within, e)) in
    let was : (bounds : Bounds) → by_clause bounds kept ≡ by_clause bounds (drop (next + 1) ls) =
    λ bounds. is.same bounds ∙ ap (λ n. by_clause bounds (drop n ls)) e in
    elim step [
      | inl so ↦ record { same = λ bounds. ap (by_clause bounds) so ∙ (one-more bounds kept (drop (next + 1) ls) (slice_index_or ls next (AtLeast 0 0)) (was bounds) ∙ sym (ap (by_clause bounds) here)) }
      | inr so ↦ record { same = λ bounds. ap (by_clause bounds) so.0 ∙ (none-more bounds kept (drop (next + 1) ls) (slice_index_or ls next (AtLeast 0 0)) so.1 (was bounds) ∙ sym (ap (by_clause bounds) here)) }
    ]

-- one clause infers as another, and that one as a third
pub infers-on : (a b c : List Literal) → InfersAs a b → InfersAs b c → InfersAs a c
infers-on a b c h k = record { same = λ bounds. h.same bounds ∙ k.same bounds }

-- what is found of a shorter clause
pub found-infers : (found : Option (List Literal)) (twice once clause : List Literal) → IfSome found (λ short. short ≡ twice) →
    InfersAs twice once → InfersAs once clause → IfSome found (λ short. InfersAs short clause)
found-infers None twice once clause h t o = h
found-infers (Some short) twice once clause h t o = record { same = λ bounds. ap (by_clause bounds) h ∙ (t.same bounds ∙ o.same bounds) }

told : (o p : Option (List Literal)) (c d : List Literal) → o ≡ p → c ≡ d → IfSome p (λ s. InfersAs s d) → IfSome o (λ s. InfersAs s c)
told o p c d e f h =
    subst (λ (x : Option (List Literal)). IfSome x (λ s. InfersAs s c)) (sym e)
    (subst (λ (x : List Literal). IfSome p (λ s. InfersAs s x)) (sym f) h)

within : (clauses : List (List Literal)) (clause : List Literal) (at : ℕ) → at < length (clauses ++ clause ∷ []) → at ≤ length clauses
within clauses clause at place = omega (arith, place, length-append clauses (clause ∷ []))

-- a clause is added with a shorter one, or without
pub shorts-more : (shorts : List (Option (List Literal))) (clauses : List (List Literal)) (short : Option (List Literal)) (clause : List Literal) →
    AreShorts shorts clauses → IfSome short (λ s. InfersAs s clause) → AreShorts (shorts ++ short ∷ []) (clauses ++ clause ∷ [])
shorts-more shorts clauses short clause are is = record {
  same = omega (arith, length-append shorts (short ∷ []), length-append clauses (clause ∷ []), are.same);
  each = λ at place. elim (eq-or-lt_of_le (within clauses clause at place)) [
    | inl last ↦
        let s : slice_index_or (shorts ++ short ∷ []) at None ≡ short =
        ap (λ (n : ℕ). slice_index_or (shorts ++ short ∷ []) n None) (last ∙ sym are.same) ∙ get_or-append_seam shorts short [] None in
        let f : clause_at (clauses ++ clause ∷ []) at ≡ clause =
        ap (λ (n : ℕ). clause_at (clauses ++ clause ∷ []) n) last ∙ get_or-append_seam clauses clause [] [] in
        told (slice_index_or (shorts ++ short ∷ []) at None) short (clause_at (clauses ++ clause ∷ []) at) clause s f is
    | inr here ↦
        let s : slice_index_or (shorts ++ short ∷ []) at None ≡ slice_index_or shorts at None =
        get_or_append_left shorts (short ∷ []) None at (omega (arith, here, are.same)) in
        let f : clause_at (clauses ++ clause ∷ []) at ≡ clause_at clauses at = get_or_append_left clauses (clause ∷ []) [] at here in
        told (slice_index_or (shorts ++ short ∷ []) at None) (slice_index_or shorts at None) (clause_at (clauses ++ clause ∷ []) at) (clause_at clauses at) s f (are.each at here)
  ];
}

-- a step by the shorter one is one by the clause
pub by-short : (shorts : List (Option (List Literal))) (clauses : List (List Literal)) (at : ℕ) (short : List Literal) (d after : Derived) →
    AreShorts shorts clauses → at < length clauses → slice_index_or shorts at None ≡ Some short →
    after ≡ with_inference d (by_clause d.bounds short) → after ≡ with_inference d (by_clause d.bounds (clause_at clauses at))
by-short shorts clauses at short d after are place is so =
    let h : InfersAs short (clause_at clauses at) = subst (λ (o : Option (List Literal)). IfSome o (λ s. InfersAs s (clause_at clauses at))) is (are.each at place) in
    so ∙ ap (with_inference d) (h.same d.bounds)
