-- The weights of what is open: a search of a window takes its weight out and puts less in.
use Rattle.std.proofs.Common.{◌≡◌, ◌∙◌, ℕ, suc, ◌+◌, ◌-◌, ◌*◌, ◌^◌, ◌<◌, ◌≤◌, List, [], ◌∷◌, ◌++◌, length, arith, refl, sym, ap}
use Rattle.std.proofs.Math.Nat.{mul-le-mul_left, one-le-pow, pow-le-pow_right, pow-suc}
use Rattle.racp_model.specs.Project.{Project}
use Rattle.racp_model.specs.Window.{Bounds}
use Rattle.racp_delay.specs.Laws.{lower_sum}
use Rattle.racp_cutset.specs.Covering.{SearchNode}
use Rattle.racp_search.specs.DepthFirst.{SearchFrame, Part, parts_of, open_parts, IsFrameOf, IsHigher, rank, most_lists, weight, weights}
use Rattle.racp_search.specs.DepthFirst.Part.{all_of, behind}
use Rattle.racp_search.proofs.Stacks.{open-last}

-- the weights of two lists
pub weights-append : (p : Project) (xs ys : List Part) → weights p (xs ++ ys) ≡ weights p xs + weights p ys
unfolding weights
weights-append p [] ys = omega arith
weights-append p (x ∷ xs) ys = omega (arith, weights-append p xs ys)

-- the weight of one part
pub weights-one : (p : Project) (part : Part) → weights p (part ∷ []) ≡ weight p part
unfolding weights
weights-one p part = omega arith

pub weights-none : (p : Project) → weights p [] ≡ 0
unfolding weights
weights-none p = refl

-- a base is positive
base : ℕ
base = most_lists + 1

-- the weight of what lies behind is that of at most so many lists; before any list it is less than that of the window
pub behind-lighter : (p : Project) (v : SearchNode) (active : List ℕ) → lower_sum p v.window ≤ length p.jobs * 10000000 → weight p (behind v active []) < weight p (all_of v.window)
unfolding weight
behind-lighter p v active small =
    let u : ℕ = length p.jobs * 10000000 in
    let m : ℕ = u - lower_sum p v.window in
    let e : suc m ≡ (u + 1) - lower_sum p v.window = omega (arith, small) in
    let some : 1 ≤ (most_lists + 1) ^ m = one-le-pow m (most_lists + 1) (let l : 0 < most_lists + 1 = omega arith in l) in
    let up : (most_lists + 1) ^ ((u + 1) - lower_sum p v.window) ≡ (most_lists + 1) ^ m * (most_lists + 1) = ap (λ k. (most_lists + 1) ^ k) (sym e) ∙ pow-suc (most_lists + 1) m in
    let all : (most_lists + 1) ^ m * (most_lists - rank 512 []) ≤ (most_lists + 1) ^ m * most_lists = mul-le-mul_left ((most_lists + 1) ^ m) (let l : most_lists - rank 512 [] ≤ most_lists = omega arith in l) in
    omega (arith, some, up, all)

-- a higher window weighs at most what one list weighs
pub child-weight : (p : Project) (v : SearchNode) (child : Bounds) → IsHigher p v.window child → lower_sum p v.window ≤ length p.jobs * 10000000 → weight p (all_of child) ≤ (most_lists + 1) ^ (length p.jobs * 10000000 - lower_sum p v.window)
unfolding weight
child-weight p v child higher small =
    pow-le-pow_right (let l : 0 < most_lists + 1 = omega arith in l) (let l : (length p.jobs * 10000000 + 1) - lower_sum p child ≤ length p.jobs * 10000000 - lower_sum p v.window = omega (arith, higher, small) in l)

-- what lies behind a later list and a window for it weigh at most what lay behind the list before
pub step-lighter : (p : Project) (v : SearchNode) (active last gone : List ℕ) (more : ℕ) → rank 512 last < rank 512 gone → rank 512 gone < most_lists → more ≤ (most_lists + 1) ^ (length p.jobs * 10000000 - lower_sum p v.window) →
    weight p (behind v active gone) + more ≤ weight p (behind v active last)
unfolding weight
step-lighter p v active last gone more rises less few =
    let x : ℕ = (most_lists + 1) ^ (length p.jobs * 10000000 - lower_sum p v.window) in
    let h : x * ((most_lists - rank 512 gone) + 1) ≤ x * (most_lists - rank 512 last) = mul-le-mul_left x (let l : (most_lists - rank 512 gone) + 1 ≤ most_lists - rank 512 last = omega (arith, rises, less) in l) in
    omega (arith, h, few)

-- a frame in place of its window
pub framed-lighter : (p : Project) (capacities : List ℕ) (fs : List SearchFrame) (w : Bounds) (f : SearchFrame) → IsFrameOf p capacities w f → weights p (open_parts (fs ++ f ∷ [])) < weights p (open_parts fs ++ all_of w ∷ [])
framed-lighter p capacities fs w f is =
    let e : weights p (open_parts (fs ++ f ∷ []) ++ []) ≡ weights p (open_parts fs ++ (parts_of f ++ [])) = ap (weights p) (open-last fs f []) in
    omega (
      arith,
      e,
      weights-append p (open_parts (fs ++ f ∷ [])) [],
      weights-append p (open_parts fs) (parts_of f ++ []),
      weights-append p (parts_of f) [],
      weights-none p,
      weights-append p (open_parts fs) (all_of w ∷ []),
      weights-one p (all_of w),
      is.lighter,
    )

-- a window weighs something
pub weight-some : (p : Project) (w : Bounds) → 0 < weight p (all_of w)
unfolding weight
weight-some p w = omega (arith, one-le-pow ((length p.jobs * 10000000 + 1) - lower_sum p w) (most_lists + 1) (let l : 0 < most_lists + 1 = omega arith in l))

-- a part that is taken out
pub closed-lighter : (p : Project) (parts : List Part) (w : Bounds) → weights p parts < weights p (parts ++ all_of w ∷ [])
closed-lighter p parts w = omega (arith, weights-append p parts (all_of w ∷ []), weights-one p (all_of w), weight-some p w)
