-- Capacity vectors and start vectors stand in one order each, so what is least is one thing.
use Rattle.std.proofs.Common.{◌≡◌, ◌⊎◌, ℕ, zero, suc, ◌<◌, ◌≤◌, List, [], ◌∷◌, length, slice_index, inl, inr, arith, refl, sym, ◌∙◌, ap, subst}
use Rattle.std.specs.declared.cmp.Ordering.{Ordering}
use Rattle.std.specs.declared.cmp.Ordering.TheVariants.{Less, Equal, Greater}
use Rattle.std.specs.Ordering.{nat_cmp, ordering_reverse, ordering_then, MatchOrdering}
use Rattle.std.specs.Cmp.{IsTotalOrder, nat_cmp_is, ranks}
use Rattle.std.specs.FinMap.{IsAntisymmetric, nat_cmp-IsAntisymmetric, slice_cmp-IsAntisymmetric}
use Rattle.std.proofs.lemmas.Cmp.{then_total, on_total, nat_cmp_total, nat_list_cmp_total}
use Rattle.racp_model.specs.Terms.{Terms, cost, lex_cmp, IsLexBefore, vector_cmp, IsBefore}
use Rattle.racp_model.specs.Plan.{IsLeast, IsEnough, FitsTerms}
use Rattle.racp_model.specs.Laws.{PlanIsUnique, VectorsAreOrdered, LexIsByFirstPlace}

-- where a comparison is a total order and calls only equal things equal, of two things one is less or they are equal
pub comparison_cases : {X : Type 0} (cmp : X → X → Ordering) → IsTotalOrder cmp → IsAntisymmetric cmp → (x y : X) → (cmp x y ≡ Less) ⊎ ((x ≡ y) ⊎ (cmp y x ≡ Less))
comparison_cases cmp total same x y = go (cmp x y) refl
  where
    go : (o : Ordering) → cmp x y ≡ o → (cmp x y ≡ Less) ⊎ ((x ≡ y) ⊎ (cmp y x ≡ Less))
    go Less e = inl e
    go Equal e = inr (inl (same x y e))
    go Greater e = inr (inr (total.antisymm y x ∙ ap ordering_reverse e))

-- where of two things one stands before the other or they are equal, only one thing is least
pub least_unique : {X : Type 0} (Before : X → X → Type 0) (P : X → Type 0) → ((x y : X) → Before x y ⊎ ((x ≡ y) ⊎ Before y x)) →
    (x y : X) → IsLeast Before P x → IsLeast Before P y → x ≡ y
least_unique Before P cases x y h g = elim (cases x y) [
  | inl before ↦ absurd (g.least x h.is before)
  | inr other ↦ elim other [
    | inl same ↦ same
    | inr after ↦ absurd (h.least y g.is after)
  ]
]

-- a comparison by two comparisons says equal only where the second does
pub then_equal : (o s : Ordering) → ordering_then o s ≡ Equal → s ≡ Equal
then_equal Less s e = cc
then_equal Equal s e = e
then_equal Greater s e = cc

-- the lexicographic order calls only equal vectors equal
pub lex_same : IsAntisymmetric lex_cmp
lex_same = slice_cmp-IsAntisymmetric nat_cmp-IsAntisymmetric

-- capacity vectors are in a total order
pub vector_total : (terms : Terms) → IsTotalOrder (vector_cmp terms)
vector_total terms = then_total (on_total (cost terms) nat_cmp_total) nat_list_cmp_total

-- and only equal vectors are equal in it
pub vector_same : (terms : Terms) → IsAntisymmetric (vector_cmp terms)
vector_same terms x y e = lex_same x y (then_equal (nat_cmp (cost terms x) (cost terms y)) (lex_cmp x y) e)

-- of two capacity vectors, one stands before the other or they are equal
pub vectors_ordered : VectorsAreOrdered
vectors_ordered terms = comparison_cases (vector_cmp terms) (vector_total terms) (vector_same terms)

-- of two start vectors, one is lexicographically less or they are equal
pub lex_ordered : (a b : List ℕ) → IsLexBefore a b ⊎ ((a ≡ b) ⊎ IsLexBefore b a)
lex_ordered = comparison_cases lex_cmp nat_list_cmp_total lex_same

-- there is at most one plan
pub plan_unique : PlanIsUnique
plan_unique p terms a b s t h g =
    let vectors : a ≡ b = least_unique (IsBefore terms) (IsEnough p terms) (vectors_ordered terms) a b h.vector g.vector in
    let P : List ℕ → Type 0 = λ c. IsLeast IsLexBefore (FitsTerms p terms c) s in
    (vectors, least_unique IsLexBefore (FitsTerms p terms b) lex_ordered s t (subst P vectors h.schedule) g.schedule)

-- at place k the first vector has the lesser number, and before it they have the same numbers
abbrev pub HasFirstPlace : List ℕ → List ℕ → Type 0
HasFirstPlace a b = (k : ℕ) × (k < length a) × ((q : ℕ) → q < k → slice_index a q ≡ slice_index b q) × (slice_index a k < slice_index b k)

-- with one equal number in front, vectors that are the same below n are the same below n and one
pub same_below : (x y : ℕ) (xs ys : List ℕ) (n : ℕ) → x ≡ y → ((q : ℕ) → q < n → slice_index xs q ≡ slice_index ys q) →
    (q : ℕ) → q < suc n → slice_index (x ∷ xs) q ≡ slice_index (y ∷ ys) q
same_below x y xs ys n e h zero l = e
same_below x y xs ys n e h (suc q) l = h q (omega arith)

-- the first place of two vectors that begin with a number each, by how these compare
pub first_step : (x y : ℕ) (xs ys : List ℕ) (o : Ordering) → MatchOrdering o (x < y) (x ≡ y) (y < x) →
    ordering_then o (lex_cmp xs ys) ≡ Less → (IsLexBefore xs ys → HasFirstPlace xs ys) → HasFirstPlace (x ∷ xs) (y ∷ ys)
first_step x y xs ys Less m e rest = (0, omega arith, λ q l. absurd (omega arith), m)
first_step x y xs ys Equal m e rest =
    let f : HasFirstPlace xs ys = rest e in
    (suc f.0, omega (arith, f.1), same_below x y xs ys f.0 m f.2, f.3)
first_step x y xs ys Greater m e rest = cc

-- a lexicographically lesser vector has the lesser number at the first place that differs
pub first_from_lex : (a b : List ℕ) → length a ≡ length b → IsLexBefore a b → HasFirstPlace a b
first_from_lex [] [] l e = cc
first_from_lex [] (y ∷ ys) l e = absurd (omega (arith, l))
first_from_lex (x ∷ xs) [] l e = cc
first_from_lex (x ∷ xs) (y ∷ ys) l e = first_step x y xs ys (nat_cmp x y) (ranks x y) e (first_from_lex xs ys (omega (arith, l)))

-- and the other way round
pub lex_from_first : (a b : List ℕ) (k : ℕ) → k < length a → ((q : ℕ) → q < k → slice_index a q ≡ slice_index b q) → slice_index a k < slice_index b k → IsLexBefore a b
lex_from_first [] b k l same less = absurd (omega (arith, l))
lex_from_first (x ∷ xs) [] k l same less = absurd (omega (arith, less))
lex_from_first (x ∷ xs) (y ∷ ys) zero l same less = ap (λ o. ordering_then o (lex_cmp xs ys)) (sym (nat_cmp_is x y Less less))
lex_from_first (x ∷ xs) (y ∷ ys) (suc k) l same less =
    let here : x ≡ y = same 0 (omega arith) in
    let rest : IsLexBefore xs ys = lex_from_first xs ys k (omega arith) (λ q m. same (suc q) (omega arith)) less in
    ap (λ o. ordering_then o (lex_cmp xs ys)) (sym (nat_cmp_is x y Equal here)) ∙ rest

-- the lexicographic order goes by the first place that differs
pub lex_first : LexIsByFirstPlace
lex_first a b l = (first_from_lex a b l, λ h. lex_from_first a b h.0 h.1 h.2 h.3)

-- a vector that is at most another in each place is not greater
pub lower-not_after : (low high : List ℕ) → length low ≡ length high → ((i : ℕ) → i < length high → slice_index low i ≤ slice_index high i) → IsLexBefore high low → ⊥
lower-not_after low high same less after =
    let k : HasFirstPlace high low = first_from_lex high low (sym same) after in
    omega (arith, k.3, less k.0 k.1)

-- so where it is not less, it is the same
pub lower-same : (low high : List ℕ) → length low ≡ length high → ((i : ℕ) → i < length high → slice_index low i ≤ slice_index high i) → (IsLexBefore low high → ⊥) → low ≡ high
lower-same low high same less not = elim (lex_ordered low high) [
  | inl before ↦ absurd (not before)
  | inr rest ↦ elim rest [
    | inl equal ↦ equal
    | inr after ↦ absurd (lower-not_after low high same less after)
  ]
]
