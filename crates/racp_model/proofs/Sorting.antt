-- Pairs that are sorted and without repetition rise strictly, and are the same pairs.
use Rattle.std.proofs.Common.{◌≡◌, ℕ, ◌<◌, ◌&&◌, inl, inr, Bool, true, List, nat_eq, arith, ap, ◌∙◌}
use Rattle.std.specs.declared.cmp.Ordering.{Ordering}
use Rattle.std.specs.declared.cmp.Ordering.TheVariants.{Less, Equal, Greater}
use Rattle.std.specs.Ordering.{nat_cmp, ordering_then, eq_by_cmp, MatchOrdering}
use Rattle.std.specs.Cmp.{IsTotalOrder, IsEquivalence, ranks, tied_then, unsigned_ties}
use Rattle.std.specs.List.{dedup}
use Rattle.std.specs.List.Sorted.{IsSorted, IsPermutation}
use Rattle.std.proofs.lemmas.Cmp.{then_total, on_total, nat_cmp_total, and_equiv, on_equiv, nat_eq_equiv}
use Rattle.std.proofs.lemmas.Bool.Decides.{nat_tests}
use Rattle.std.proofs.lemmas.List.Kept.{IsStrictlySortedBy-dedup, Contains-dedup, Contains-from_dedup}
use Rattle.std.proofs.lemmas.List.Sorted.{Contains-permutation, IsPermutation-sym}
use Rattle.std.proofs.lemmas.Map.Keys.{Less-from_sorted}
use Rattle.racp_model.specs.Project.{IsArcBefore}
use Rattle.racp_model.specs.Ranks.{IsSortedSet}

-- pairs by their first number, and then by their second
abbrev pub pair_cmp : ℕ × ℕ → ℕ × ℕ → Ordering
pair_cmp a b = ordering_then (nat_cmp a.0 b.0) (nat_cmp a.1 b.1)

abbrev pub pair_eq : ℕ × ℕ → ℕ × ℕ → Bool
pair_eq a b = nat_eq a.0 b.0 && nat_eq a.1 b.1

-- pairs are totally ordered
pub pair_total : IsTotalOrder pair_cmp
pair_total = then_total (on_total (λ (a : ℕ × ℕ). a.0) nat_cmp_total) (on_total (λ (a : ℕ × ℕ). a.1) nat_cmp_total)

-- pairs that compare equal are those that the test of equality takes for equal
pub pair_ties : (a b : ℕ × ℕ) → pair_eq a b ≡ eq_by_cmp pair_cmp a b
pair_ties a b =
    ap (λ v. v && nat_eq a.1 b.1) (unsigned_ties a.0 b.0) ∙ ap (λ v. eq_by_cmp nat_cmp a.0 b.0 && v) (unsigned_ties a.1 b.1) ∙ tied_then (nat_cmp a.0 b.0) (nat_cmp a.1 b.1)

-- what compares less stands before
pub pair_before : (a b : ℕ × ℕ) → pair_cmp a b ≡ Less → IsArcBefore a b
pair_before a b e = go (nat_cmp a.0 b.0) (ranks a.0 b.0) e
  where
    second : (o : Ordering) → MatchOrdering o (a.1 < b.1) (a.1 ≡ b.1) (b.1 < a.1) → o ≡ Less → a.1 < b.1
    second Less m e = m
    second Equal m e = cc
    second Greater m e = cc

    go : (o : Ordering) → MatchOrdering o (a.0 < b.0) (a.0 ≡ b.0) (b.0 < a.0) → ordering_then o (nat_cmp a.1 b.1) ≡ Less → IsArcBefore a b
    go Less m e = inl m
    go Equal m e = inr (m, second (nat_cmp a.1 b.1) (ranks a.1 b.1) e)
    go Greater m e = cc

-- the test of equality is an equivalence
pub pair_equiv : IsEquivalence pair_eq
pair_equiv = and_equiv (on_equiv (λ (a : ℕ × ℕ). a.0) nat_eq_equiv) (on_equiv (λ (a : ℕ × ℕ). a.1) nat_eq_equiv)

-- pairs of equal numbers are equal
pub pair_made : (x y u v : ℕ) → x ≡ u → y ≡ v → let one : ℕ × ℕ = (x, y) in let other : ℕ × ℕ = (u, v) in one ≡ other
pair_made x y u v first second = cc

-- pairs that the test takes for equal are equal
pub pair_same : (a b : ℕ × ℕ) → pair_eq a b ≡ true → a ≡ b
pair_same a b e =
    let first : a.0 ≡ b.0 = grind (arith, nat_tests) in
    let second : a.1 ≡ b.1 = grind (arith, nat_tests) in
    pair_made a.0 a.1 b.0 b.1 first second

-- what sorting and then leaving out repetitions makes
pub sorted_set : (given sorted kept : List (ℕ × ℕ)) → IsPermutation given sorted → IsSorted pair_cmp sorted → kept ≡ dedup pair_eq sorted → IsSortedSet given kept
sorted_set given sorted kept moved order e = rw e (record {
  rising = λ i j d less l. pair_before _ _ (Less-from_sorted pair_cmp (dedup pair_eq sorted) i j d (IsStrictlySortedBy-dedup pair_total pair_ties sorted order) less l);
  same = λ arc. (
    λ c. Contains-permutation sorted given arc (IsPermutation-sym given sorted moved) (Contains-from_dedup pair_eq sorted arc c),
    λ c. Contains-dedup pair_equiv pair_same sorted arc (Contains-permutation given sorted arc moved c),
  );
})
