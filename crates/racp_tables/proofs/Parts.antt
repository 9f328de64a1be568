-- Of which row above it a row is a part, one row more each time.
use Rattle.std.proofs.Common.{◌≡◌, ◌∙◌, ℕ, ◌+◌, ◌<◌, ◌≤◌, List, [], ◌∷◌, ◌++◌, length, get_or, slice_index, ap, sym, subst, arith, below_more}
use Rattle.std.proofs.lemmas.List.{get_or_append_left, get_or_push}
use Rattle.racp_model.specs.Project.{place}
use Rattle.racp_tables.specs.Outlines.{IsPartByLevel, IsPartById, IsWithin, id_at}

-- of the rows before the n-th, the one with a number is the nearest to the row at place k that has a lesser level
pub record IsNearestSoFar (levels : List ℕ) (k n number : ℕ) : Type 0 where
  pub above : number ≤ n
  pub lesser : 0 < number → slice_index levels (place number) < slice_index levels k
  pub nearest : (q : ℕ) → number ≤ q → q < n → slice_index levels k ≤ slice_index levels q

pub nearest_none : (levels : List ℕ) (k : ℕ) → IsNearestSoFar levels k 0 0
nearest_none levels k = record {
  above = omega arith;
  lesser = λ some. absurd (omega arith);
  nearest = λ q from to. absurd (omega arith);
}

-- a row with a lesser level is nearer
pub nearer : (levels : List ℕ) (k n number : ℕ) → slice_index levels n < slice_index levels k → IsNearestSoFar levels k (n + 1) (n + 1)
nearer levels k n number less =
    let here : place (n + 1) ≡ n = omega arith in
    record {
      above = omega arith;
      lesser = λ some. omega (arith, less, ap (slice_index levels) here);
      nearest = λ q from to. absurd (omega arith);
    }

-- one without is not
pub no_nearer : (levels : List ℕ) (k n number : ℕ) → slice_index levels k ≤ slice_index levels n → IsNearestSoFar levels k n number → IsNearestSoFar levels k (n + 1) number
no_nearer levels k n number most so_far = record {
  above = omega (arith, so_far.above);
  lesser = so_far.lesser;
  nearest = λ q from to. below_more (λ q. number ≤ q → slice_index levels k ≤ slice_index levels q) n (λ p less from. so_far.nearest p from less) (λ from. most) q to from;
}

pub nearest_all : (levels : List ℕ) (k number : ℕ) → IsNearestSoFar levels k k number → IsPartByLevel levels k number
nearest_all levels k number so_far = record { above = so_far.above; lesser = so_far.lesser; nearest = so_far.nearest }

-- of the rows before the n-th, the one with a number has the longest id that the id at place k is within
pub record IsLongestSoFar (ids : List (List ℕ)) (k n number : ℕ) : Type 0 where
  pub above : number ≤ n
  pub within : 0 < number → IsWithin (id_at ids (place number)) (id_at ids k)
  pub longest : (q : ℕ) → q < n → IsWithin (id_at ids q) (id_at ids k) →
      (0 < number) × (length (id_at ids q) ≤ length (id_at ids (place number)))

pub longest_none : (ids : List (List ℕ)) (k : ℕ) → IsLongestSoFar ids k 0 0
longest_none ids k = record {
  above = omega arith;
  within = λ some. absurd (omega arith);
  longest = λ q to inside. absurd (omega arith);
}

-- an id that is no shorter takes its place
pub longer : (ids : List (List ℕ)) (k n number : ℕ) → IsWithin (id_at ids n) (id_at ids k) →
    (0 < number → length (id_at ids (place number)) ≤ length (id_at ids n)) → IsLongestSoFar ids k n number → IsLongestSoFar ids k (n + 1) (n + 1)
longer ids k n number inside most so_far =
    let here : n ≡ place (n + 1) = omega arith in
    let same : length (id_at ids n) ≡ length (id_at ids (place (n + 1))) = ap (λ (i : ℕ). length (id_at ids i)) here in
    record {
      above = omega arith;
      within = λ some. subst (λ (i : ℕ). IsWithin (id_at ids i) (id_at ids k)) here inside;
      longest = below_more (λ q. IsWithin (id_at ids q) (id_at ids k) → (0 < n + 1) × (length (id_at ids q) ≤ length (id_at ids (place (n + 1))))) n
          (λ q less holds. (omega arith, omega (arith, same, (so_far.longest q less holds).1, most (so_far.longest q less holds).0)))
          (λ holds. (omega arith, omega (arith, same)));
    }

-- another does not
pub no_longer : (ids : List (List ℕ)) (k n number : ℕ) → (IsWithin (id_at ids n) (id_at ids k) → 0 < number) →
    (IsWithin (id_at ids n) (id_at ids k) → length (id_at ids n) ≤ length (id_at ids (place number))) → IsLongestSoFar ids k n number →
    IsLongestSoFar ids k (n + 1) number
no_longer ids k n number some most so_far = record {
  above = omega (arith, so_far.above);
  within = so_far.within;
  longest = below_more (λ q. IsWithin (id_at ids q) (id_at ids k) → (0 < number) × (length (id_at ids q) ≤ length (id_at ids (place number)))) n
      so_far.longest (λ holds. (some holds, most holds));
}

pub longest_all : (ids : List (List ℕ)) (k number : ℕ) → IsLongestSoFar ids k k number → IsPartById ids k number
longest_all ids k number so_far = record { above = so_far.above; within = so_far.within; longest = so_far.longest }

-- what holds of each number of a list holds of each with one more
pub each_more : (P : ℕ → ℕ → Type 0) (xs ys : List ℕ) (n x : ℕ) → length xs ≡ n → ((k : ℕ) → k < n → P k (get_or xs k 0)) → P n x → ys ≡ xs ++ x ∷ [] →
    (k : ℕ) → k < n + 1 → P k (get_or ys k 0)
each_more P xs ys n x count each here pushed =
    let Q : ℕ → Type 0 = λ k. P k (get_or ys k 0) in
    below_more Q n
    (λ k less. subst (P k) (sym (ap (λ (list : List ℕ). get_or list k 0) pushed ∙ get_or_append_left xs (x ∷ []) 0 k (omega arith))) (each k less))
    (subst (P n) (sym (ap (λ (list : List ℕ). get_or list n 0) pushed ∙ get_or_push xs x 0 n count)) here)
