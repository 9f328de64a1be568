-- All vectors between floors and roofs are those that are listed.
use Rattle.std.proofs.Common.{◌≡◌, ℕ, zero, suc, ◌+◌, ◌-◌, ◌<◌, ◌≤◌, List, [], ◌∷◌, length, slice_index, map, inl, inr, arith, refl, sym, ap, subst, Contains}
use Rattle.std.proofs.lemmas.List.Elements.{Contains-append_left, Contains-append_right, Contains-append_cases}
use Rattle.racp_model.proofs.lemmas.Relations.{member_cases, member_later, member_first, no_member}
use Rattle.racp_candidates.specs.Questions.{numbers_between}
use Rattle.racp_candidates.specs.Box.{IsBetween}
use Rattle.racp_candidates.specs.Vectors.{all_begun, all_between}
use Rattle.racp_questions.proofs.lemmas.Members.{range_from, range_to}
use Rattle.racp_candidates.proofs.Members.{map_from, map_to}

-- a vector that begins with a number of a list and goes on as a vector of another
abbrev pub IsBegun : List ℕ → List (List ℕ) → List ℕ → Type 0
IsBegun xs rest z = (x : ℕ) × (v : List ℕ) × Contains xs x × Contains rest v × (z ≡ x ∷ v)

pub begun_from : (xs : List ℕ) (rest : List (List ℕ)) (z : List ℕ) → Contains (all_begun xs rest) z → IsBegun xs rest z
unfolding all_begun
begun_from [] rest z c = absurd (no_member z c)
begun_from (x ∷ xs) rest z c = elim (Contains-append_cases (map (λ v. x ∷ v) rest) (all_begun xs rest) z c) [
  | inl here ↦ let m = map_from (λ v. x ∷ v) rest z here in (x, m.0, member_first x xs x refl, m.1, m.2)
  | inr later ↦ let m = begun_from xs rest z later in (m.0, m.1, member_later x xs m.0 m.2, m.3, m.4)
]

pub begun_to : (xs : List ℕ) (rest : List (List ℕ)) (x : ℕ) (v : List ℕ) → Contains xs x → Contains rest v → Contains (all_begun xs rest) (x ∷ v)
unfolding all_begun
begun_to [] rest x v c d = absurd (no_member x c)
begun_to (y ∷ ys) rest x v c d = elim (member_cases y ys x c) [
  | inl same ↦
      let here : Contains (map (λ v. y ∷ v) rest) (x ∷ v) = let P : ℕ → Type 0 = λ n. Contains (map (λ v. y ∷ v) rest) (n ∷ v) in subst P same (map_to (λ v. y ∷ v) rest v d) in
      Contains-append_left (map (λ v. y ∷ v) rest) (all_begun ys rest) (x ∷ v) here
  | inr later ↦ Contains-append_right (map (λ v. y ∷ v) rest) (all_begun ys rest) (x ∷ v) (begun_to ys rest x v later d)
]

-- the first place and the places after it
pub between_cons : (f r x : ℕ) (fs rs v : List ℕ) → f ≤ x → x ≤ r → IsBetween fs rs v → IsBetween (f ∷ fs) (r ∷ rs) (x ∷ v)
between_cons f r x fs rs v low high h = record { places = ap suc h.places; above = above; below = below }
  where
    above : (k : ℕ) → k < suc (length fs) → slice_index (f ∷ fs) k ≤ slice_index (x ∷ v) k
    above zero l = low
    above (suc k) l = h.above k (omega arith)

    below : (k : ℕ) → k < suc (length fs) → slice_index (x ∷ v) k ≤ slice_index (r ∷ rs) k
    below zero l = high
    below (suc k) l = h.below k (omega arith)

pub between_tail : (f r x : ℕ) (fs rs v : List ℕ) → IsBetween (f ∷ fs) (r ∷ rs) (x ∷ v) → IsBetween fs rs v
between_tail f r x fs rs v h = record {
  places = omega (arith, h.places);
  above = λ k l. h.above (suc k) (omega arith);
  below = λ k l. h.below (suc k) (omega arith);
}

pub listed_from : (fs rs z : List ℕ) → length rs ≡ length fs → Contains (all_between fs rs) z → IsBetween fs rs z
unfolding all_between
listed_from [] rs z same c = elim (member_cases [] [] z c) [
  | inl e ↦ record { places = ap length (sym e); above = λ k l. absurd (omega (arith, l)); below = λ k l. absurd (omega (arith, l)) }
  | inr later ↦ absurd (no_member z later)
]
listed_from (f ∷ fs) [] z same c = absurd (omega (arith, same))
listed_from (f ∷ fs) (r ∷ rs) z same c =
    let m = begun_from (numbers_between f r) (all_between fs rs) z c in
    let range = range_from f (r + 1 - f) m.0 m.2 in
    let whole : IsBetween (f ∷ fs) (r ∷ rs) (m.0 ∷ m.1) = between_cons f r m.0 fs rs m.1 range.0 (omega (arith, range.0, range.1)) (listed_from fs rs m.1 (omega (arith, same)) m.3) in
    subst (IsBetween (f ∷ fs) (r ∷ rs)) (sym m.4) whole

pub listed_to : (fs rs z : List ℕ) → length rs ≡ length fs → IsBetween fs rs z → Contains (all_between fs rs) z
unfolding all_between
listed_to [] rs [] same h = member_first [] [] [] refl
listed_to [] rs (x ∷ v) same h = absurd (omega (arith, h.places))
listed_to (f ∷ fs) [] z same h = absurd (omega (arith, same))
listed_to (f ∷ fs) (r ∷ rs) [] same h = absurd (omega (arith, h.places))
listed_to (f ∷ fs) (r ∷ rs) (x ∷ v) same h =
    let low : f ≤ x = h.above 0 (omega arith) in
    let high : x ≤ r = h.below 0 (omega arith) in
    begun_to (numbers_between f r) (all_between fs rs) x v (range_to f (r + 1 - f) x low (omega arith)) (listed_to fs rs v (omega (arith, same)) (between_tail f r x fs rs v h))
