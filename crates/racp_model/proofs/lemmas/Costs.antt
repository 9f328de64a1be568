-- One capacity vector before another: by what they cost, and at equal cost in lexicographic order.
use Rattle.std.proofs.Common.{◌≡◌, ◌⊎◌, ℕ, ◌<◌, List, inl, inr, arith, refl, sym, ◌∙◌, ap}
use Rattle.std.specs.declared.cmp.Ordering.{Ordering}
use Rattle.std.specs.declared.cmp.Ordering.TheVariants.{Less, Equal, Greater}
use Rattle.std.specs.Ordering.{nat_cmp, ordering_then, MatchOrdering}
use Rattle.std.specs.Cmp.{nat_cmp_is, ranks}
use Rattle.std.proofs.lemmas.Cmp.{nat_list_cmp_total}
use Rattle.racp_model.specs.Terms.{Terms, cost, lex_cmp, IsLexBefore, IsBefore}
use Rattle.racp_model.proofs.lemmas.Orders.{first_from_lex, vector_total}

-- nothing is lexicographically less than itself
pub lex_apart : (a : List ℕ) → IsLexBefore a a → ⊥
lex_apart a before = let k = first_from_lex a a refl before in omega (arith, k.3)

-- what is less than something less is less
pub lex_trans : (a b c : List ℕ) → IsLexBefore a b → IsLexBefore b c → IsLexBefore a c
lex_trans a b c = nat_list_cmp_total.trans a b c

-- of two things, not each is less than the other
pub lex_one_way : (a b : List ℕ) → IsLexBefore a b → IsLexBefore b a → ⊥
lex_one_way a b there back = lex_apart a (lex_trans a b a there back)

-- a comparison by two comparisons says less where the first does, or where it says equal and the second says less
pub then_cases : (x y : ℕ) (o s : Ordering) → MatchOrdering o (x < y) (x ≡ y) (y < x) → ordering_then o s ≡ Less → (x < y) ⊎ ((x ≡ y) × (s ≡ Less))
then_cases x y Less s m e = inl m
then_cases x y Equal s m e = inr (m, e)
then_cases x y Greater s m e = cc

-- what stands before costs less, or costs the same and is lexicographically less
pub before_cases : (terms : Terms) (a b : List ℕ) → IsBefore terms a b → (cost terms a < cost terms b) ⊎ ((cost terms a ≡ cost terms b) × IsLexBefore a b)
before_cases terms a b = then_cases (cost terms a) (cost terms b) (nat_cmp (cost terms a) (cost terms b)) (lex_cmp a b) (ranks (cost terms a) (cost terms b))

-- what costs less stands before
pub cheaper-before : (terms : Terms) (a b : List ℕ) → cost terms a < cost terms b → IsBefore terms a b
cheaper-before terms a b less = ap (λ o. ordering_then o (lex_cmp a b)) (sym (nat_cmp_is (cost terms a) (cost terms b) Less less))

-- what costs no more and is lexicographically less stands before
pub lesser-before : (terms : Terms) (a b : List ℕ) → cost terms a ≡ cost terms b → IsLexBefore a b → IsBefore terms a b
lesser-before terms a b same less = ap (λ o. ordering_then o (lex_cmp a b)) (sym (nat_cmp_is (cost terms a) (cost terms b) Equal same)) ∙ less

-- nothing stands before itself
pub before_apart : (terms : Terms) (a : List ℕ) → IsBefore terms a a → ⊥
before_apart terms a before = elim (before_cases terms a a before) [
  | inl less ↦ omega (arith, less)
  | inr tie ↦ lex_apart a tie.1
]

-- what stands before something that stands before stands before
pub before_trans : (terms : Terms) (a b c : List ℕ) → IsBefore terms a b → IsBefore terms b c → IsBefore terms a c
before_trans terms a b c = (vector_total terms).trans a b c
