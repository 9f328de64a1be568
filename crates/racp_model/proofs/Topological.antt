-- Pairs by places: taken over, put in another order, and in topological order.
use Rattle.std.proofs.Common.{◌≡◌, ℕ, ◌+◌, ◌<◌, ◌++◌, [], ◌∷◌, List, below_more, length, slice_index, slice_index_or, arith, subst, ap, ◌∙◌, Contains}
use Rattle.std.specs.List.Sorted.{IsPermutation}
use Rattle.std.proofs.lemmas.List.Elements.{Contains-append_left, Contains-push, All-push, All-from_get_or}
use Rattle.std.proofs.lemmas.List.Sorted.{Contains-permutation, All-permutation}
use Rattle.racp_model.specs.Project.{Project, AreNumbers}
use Rattle.racp_model.specs.Topology.{IsTopological}
use Rattle.racp_model.specs.Ranks.{from_at, to_at, RisesAlong, IsPairOf, ArePairsOf, AreByRank, AreInOrder}
use Rattle.racp_model.proofs.lemmas.Arcs.{from_at-below, to_at-below, at_precedes, some_at}

-- the first k pairs, by places
pub record ArePairsBelow (arcs : List (ℕ × ℕ)) (k : ℕ) (pairs : List (ℕ × ℕ)) : Type 0 where
  pub only : (q : ℕ) → q < length pairs → IsPairOf arcs (slice_index_or pairs q (0, 0))
  pub all : (m : ℕ) → m < k → Contains pairs (from_at arcs m, to_at arcs m)

-- one more pair
pub pairs_below-push : (arcs : List (ℕ × ℕ)) (k from to : ℕ) (pairs next : List (ℕ × ℕ)) → ArePairsBelow arcs k pairs → k < length arcs → from ≡ from_at arcs k → to ≡ to_at arcs k → next ≡ pairs ++ (from, to) ∷ []
    → ArePairsBelow arcs (k + 1) next
pairs_below-push arcs k from to pairs next h l ef et grown =
    let new : ℕ × ℕ = (from, to) in
    rw grown (record {
      only = λ q o. All-push (IsPairOf arcs) pairs new (All-from_get_or (IsPairOf arcs) pairs (0, 0) h.only) (k, l, ef, et) q (0, 0) o;
      all = below_more (λ m. Contains (pairs ++ new ∷ []) (from_at arcs m, to_at arcs m)) k
          (λ m o. Contains-append_left pairs (new ∷ []) (from_at arcs m, to_at arcs m) (h.all m o)) (rw (← ef, ← et) (Contains-push pairs new));
    })

-- pairs in another order
pub pairs_moved : (arcs old new : List (ℕ × ℕ)) → ArePairsOf arcs old → IsPermutation old new → ArePairsOf arcs new
pairs_moved arcs old new h moved = record {
  only = λ q l. All-permutation (IsPairOf arcs) old new moved (All-from_get_or (IsPairOf arcs) old (0, 0) h.only) q (0, 0) l;
  all = λ m l. Contains-permutation old new (from_at arcs m, to_at arcs m) moved (h.all m l);
}

-- pairs by rising rank of the first job are in topological order, where the rank rises along each
pub in_order : (arcs : List (ℕ × ℕ)) (rank : List ℕ) (pairs : List (ℕ × ℕ)) → AreByRank arcs rank pairs → RisesAlong arcs (slice_index rank) → AreInOrder arcs pairs
in_order arcs rank pairs h rises = record {
  same = h.same;
  forward = λ a b o l e.
      let before = h.sorted a b o l in
      let m = h.same.only b l in
      let up : slice_index rank (from_at arcs m.0) < slice_index rank (to_at arcs m.0) = rises m.0 m.1 in
      let from : slice_index rank (slice_index_or pairs b (0, 0)).0 ≡ slice_index rank (from_at arcs m.0) = ap (slice_index rank) m.2 in
      let to : slice_index rank (slice_index_or pairs a (0, 0)).0 ≡ slice_index rank (to_at arcs m.0) = ap (slice_index rank) (e ∙ m.3) in
      omega (arith, before);
}

-- a pair of equal places is contained too
pub Contains-same : (pairs : List (ℕ × ℕ)) (a b i j : ℕ) → a ≡ i → b ≡ j → Contains pairs (a, b) → Contains pairs (i, j)
Contains-same pairs a b i j e f c =
    let P : ℕ → Type 0 = λ x. Contains pairs (x, b) in
    let Q : ℕ → Type 0 = λ y. Contains pairs (i, y) in
    subst Q f (subst P e c)

-- pairs in order are the relation in topological order
pub topological : (p : Project) (pairs : List (ℕ × ℕ)) → AreNumbers (length p.jobs) p.arcs → AreInOrder p.arcs pairs → IsTopological p pairs
topological p pairs numbers h = record {
  named = λ k l. let m = h.same.only k l in (rw m.2 (from_at-below p.arcs (length p.jobs) m.0 numbers m.1), rw m.3 (to_at-below p.arcs (length p.jobs) m.0 numbers m.1));
  sound = λ k l. let m = h.same.only k l in rw (m.2, m.3) (at_precedes p m.0 numbers m.1);
  complete = λ i j c. let k = some_at p i j c in Contains-same pairs (from_at p.arcs k.0) (to_at p.arcs k.0) i j k.2 k.3 (h.same.all k.0 k.1);
  forward = h.forward;
}
