-- Literals of a clause that show that nothing new follows from it.
use Rattle.std.proofs.Common.{◌≡◌, ◌∙◌, ap, refl, ℕ, zero, suc, ◌<◌, ◌&&◌, if◌then◌else◌, inl, inr, Bool, true, false, List, [], ◌∷◌, length, slice_index_or, arith}
use Rattle.std.specs.Prelude.{◌⊎◌}
use Rattle.std.proofs.lemmas.Bool.{cases_Bool}
use Rattle.racp_model.specs.Window.{Bounds}
use Rattle.racp_clauses.specs.Clauses.{Derived}
use Rattle.racp_clauses.specs.Inferences.{may_have, says_more, moved_bounds, open_literals, of_open, by_clause, with_inference}
use Rattle.racp_clauses.specs.declared.literal.Literal.{Literal}
use Rattle.racp_clauses.specs.declared.literal.Literal.TheVariants.{AtLeast, AtMost}
use Rattle.racp_derivations.specs.Thinning.{MayBeAt, HasToBeAt, AreIdle}
use Rattle.racp_derivations.proofs.Inferring.{two, open-head, open-tail, some-open, two-open}

-- of two literals that may be true nothing follows
pub two_idle : (bounds : Bounds) (ls : List Literal) (i j : ℕ) → i < j → MayBeAt bounds ls i → MayBeAt bounds ls j → AreIdle bounds ls
two_idle bounds ls i j before one other =
    let none : by_clause bounds ls ≡ of_open two = two-open bounds ls i j before other.within one.is other.is in
    record { stays = λ d same. ap (with_inference d) none }

-- of a literal before others nothing follows, or that it is true
of-head : (m : Literal) (rest : List Literal) → (of_open (m ∷ rest) ≡ of_open two) ⊎ (of_open (m ∷ rest) ≡ of_open (m ∷ []))
of-head m [] = inr refl
of-head m (x ∷ more) = inl refl

module _ (bounds : Bounds) where
  it-follows : (ls : List Literal) (i : ℕ) → i < length ls → may_have bounds (slice_index_or ls i (AtLeast 0 0)) ≡ true →
      (by_clause bounds ls ≡ of_open two) ⊎ (by_clause bounds ls ≡ of_open (slice_index_or ls i (AtLeast 0 0) ∷ []))
  it-follows [] i l t = absurd (omega (arith, l))
  it-follows (m ∷ ms) zero l t = elim (of-head m (open_literals bounds ms)) [
    | inl none ↦ inl (ap of_open (open-head bounds m ms t) ∙ none)
    | inr so ↦ inr (ap of_open (open-head bounds m ms t) ∙ so)
  ]
  it-follows (m ∷ ms) (suc i) l t =
      let rest = some-open bounds ms i (omega (arith, l)) t in
      elim (cases_Bool (may_have bounds m)) [
        | inl yes' ↦ inl (ap of_open (open-head bounds m ms yes' ∙ ap (λ (xs : List Literal). m ∷ xs) rest.2))
        | inr f ↦ elim (it-follows ms i (omega (arith, l)) t) [
          | inl none ↦ inl (ap of_open (open-tail bounds m ms f) ∙ none)
          | inr so ↦ inr (ap of_open (open-tail bounds m ms f) ∙ so)
        ]
      ]

stays : (d : Derived) (l : Literal) (may more : Bool) → may ≡ true → more ≡ false →
    record d { bounds = if may && more then moved_bounds d.bounds l else d.bounds; empty = if may then d.empty else true } ≡ d
stays d l true false t f = refl
stays d l true true t f = cc f
stays d l false more t f = cc t

-- of one that has to be true nothing new follows
pub true_idle : (bounds : Bounds) (ls : List Literal) (i : ℕ) → HasToBeAt bounds ls i → AreIdle bounds ls
true_idle bounds ls i it =
    record {
      stays = λ d same. elim (it-follows bounds ls i it.may.within it.may.is) [
        | inl none ↦ ap (with_inference d) none
        | inr so ↦ ap (with_inference d) so ∙ stays d (slice_index_or ls i (AtLeast 0 0)) (may_have d.bounds (slice_index_or ls i (AtLeast 0 0))) (says_more d.bounds (slice_index_or ls i (AtLeast 0 0)))
            (ap (λ (b : Bounds). may_have b (slice_index_or ls i (AtLeast 0 0))) same ∙ it.may.is) (ap (λ (b : Bounds). says_more b (slice_index_or ls i (AtLeast 0 0))) same ∙ it.has)
      ];
    }
