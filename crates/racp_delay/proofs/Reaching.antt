-- How much of a resource the jobs that stay can use, by common divisors of requests.
use Rattle.std.proofs.Common.{◌≡◌, ℕ, ◌+◌, ◌-◌, ◌*◌, ◌/◌, ◌%◌, ◌<◌, ◌≤◌, inl, inr, List, [], ◌∷◌, ◌++◌, length, slice_index, slice_index_or, slice_get, set, Some, arith, refl, ap, sym, ◌∙◌, subst}
use Rattle.std.proofs.Math.Nat.{div-add-mod', mul-le-mul_left, dvd-add}
use Rattle.std.proofs.Math.Seq.{get_or-append_seam}
use Rattle.std.proofs.lemmas.Nat.{le-div}
use Rattle.std.proofs.lemmas.List.{get_or_append_left, length-append}
use Rattle.std.proofs.lemmas.Option.{slice_get-get_or}
use Rattle.std.proofs.lemmas.Nat.Gcd.{mod-eq-zero_of_dvd, dvd_trans, dvd-zero}
use Rattle.std.proofs.lemmas.Bool.{cases_lt}
use Rattle.std.specs.Int.{◌∣◌, IsGcd}
use Rattle.racp_model.proofs.lemmas.Lists.{at_set}
use Rattle.racp_model.specs.Project.{Project, place, request}
use Rattle.racp_delay.specs.Alternatives.{load}
use Rattle.racp_delay.specs.Found.{SomeHaveRoom, OneMoreRuns, Each, with_load, IsChoice, IsAmong, HasNoExtension}
use Rattle.racp_delay.specs.Reach.{AreDivisors, AreRows, IsReach}
use Rattle.racp_delay.specs.declared.choosing.Choice.{Choice}
use Rattle.racp_delay.proofs.Each.{each-at, each-left, each-map}
use Rattle.racp_delay.proofs.Splitting.{load-splits, each-kept}

-- a number that a divisor divides is a multiple of it
multiple : (d n : ℕ) → d ∣ n → n / d * d ≡ n
multiple d n divides = omega (arith, div-add-mod' n d, mod-eq-zero_of_dvd d divides)

-- beside what is kept fits no more than the greatest multiple that does
pub multiple-fits : (kept capacity d n : ℕ) → 0 < d → kept ≤ capacity → d ∣ n → kept + n ≤ capacity → kept + n ≤ capacity - (capacity - kept) % d
multiple-fits kept capacity d n some room divides fits =
    let units : ℕ = capacity - kept in
    let few : n / d * d ≤ units = omega (arith, multiple d n divides, fits) in
    let most : n / d ≤ units / d = le-div (n / d) units d some few in
    let up : d * (n / d) ≤ d * (units / d) = mul-le-mul_left d most in
    omega (arith, up, multiple d n divides, div-add-mod' units d, room)

-- nothing is a multiple of 0 but 0
pub multiple-none : (d n : ℕ) → d ≡ 0 → d ∣ n → n ≡ 0
multiple-none d n e divides = sym (multiple d n divides) ∙ (ap (λ x. n / d * x) e ∙ omega arith)

-- what divides each request divides their sum
pub divides-load : (p : Project) (k d : ℕ) (jobs : List ℕ) → Each (λ job. d ∣ request p (place job) k) jobs → d ∣ load p k jobs
unfolding load
divides-load p k d [] h = dvd-zero d
divides-load p k d (job ∷ jobs) h = dvd-add d h.0 (divides-load p k d jobs h.1)

-- the divisors of some jobs and of one more
pub divisors-more : (p : Project) (job : ℕ) (jobs row next : List ℕ) → AreDivisors p jobs row → ((k : ℕ) → k < p.resources → slice_index next k ∣ slice_index row k) → ((k : ℕ) → k < p.resources → slice_index next k ∣ request p (place job) k) → AreDivisors p (job ∷ jobs) next
divisors-more p job jobs row next h through here k l = (here k l, each-map (λ i. slice_index row k ∣ request p (place i) k) (λ i. slice_index next k ∣ request p (place i) k) jobs (λ i divides. dvd_trans (slice_index next k) (through k l) divides) (h k l))

-- divisors that were joined with the requests of one job more, for the resources below n
pub record AreJoined (p : Project) (i n : ℕ) (row new : List ℕ) : Type 0 where
  pub through : (q : ℕ) → q < n → slice_index new q ∣ slice_index row q
  pub here : (q : ℕ) → q < n → slice_index new q ∣ request p i q
  pub rest : (q : ℕ) → n ≤ q → slice_index new q ≡ slice_index row q

pub joined-start : (p : Project) (i : ℕ) (row : List ℕ) → AreJoined p i 0 row row
joined-start p i row = record { through = λ q less. absurd (omega (arith, less)); here = λ q less. absurd (omega (arith, less)); rest = λ q more. refl }

pub joined-next : (p : Project) (i n : ℕ) (row new next : List ℕ) (first second v : ℕ) → AreJoined p i n row new → n < length new → next ≡ set new n v → first ≡ slice_index new n → second ≡ request p i n → IsGcd first second v → AreJoined p i (n + 1) row next
joined-next p i n row new next first second v h l e is_first is_second gcd = record {
  through = λ q less. elim (at_set new n v q l) [
    | inl here ↦ subst2 q here.0 (value q ∙ here.1)
    | inr other ↦ subst (λ x. x ∣ slice_index row q) (sym (value q ∙ other.1)) (h.through q (omega (arith, other.0, less)))
  ];
  here = λ q less. elim (at_set new n v q l) [
    | inl here ↦ subst3 q here.0 (value q ∙ here.1)
    | inr other ↦ subst (λ x. x ∣ request p i q) (sym (value q ∙ other.1)) (h.here q (omega (arith, other.0, less)))
  ];
  rest = λ q more. elim (at_set new n v q l) [
    | inl here ↦ absurd (omega (arith, here.0))
    | inr other ↦ omega (arith, value q, other.1, h.rest q (omega arith))
  ];
}
  where
    value : (q : ℕ) → slice_index next q ≡ slice_index (set new n v) q
    value q = ap (λ (xs : List ℕ). slice_index xs q) e

    subst2 : (q : ℕ) → q ≡ n → slice_index next q ≡ v → slice_index next q ∣ slice_index row q
    subst2 q same is =
        let old : first ≡ slice_index row q = is_first ∙ (h.rest n (omega arith) ∙ ap (slice_index row) (sym same)) in
        subst (λ x. x ∣ slice_index row q) (sym is) (subst (λ x. v ∣ x) old gcd.0)

    subst3 : (q : ℕ) → q ≡ n → slice_index next q ≡ v → slice_index next q ∣ request p i q
    subst3 q same is = subst (λ x. x ∣ request p i q) (sym is) (subst (λ x. v ∣ x) (is_second ∙ ap (request p i) (sym same)) gcd.1)

-- what is left is reached at the most
pub reach-left : (c : Choice) → IsChoice c → (k : ℕ) → k < c.net.now.resources → IsReach c k (slice_index c.left k)
reach-left c h k l = record {
  most = λ gone stay s runs. omega (arith, h.sums k l, load-splits c.net.now k s);
  left = omega arith;
}

-- and no more than the last multiple of a divisor
pub reach-less : (c : Choice) → IsChoice c → (k d reach : ℕ) → k < c.net.now.resources → Each (λ job. d ∣ request c.net.now (place job) k) c.undecided.now → reach ≤ slice_index c.left k →
    ((n : ℕ) → d ∣ n → slice_index c.kept k + n ≤ slice_index c.left k → slice_index c.kept k + n ≤ slice_index c.capacities.now k → slice_index c.kept k + n ≤ reach) → IsReach c k reach
reach-less c h k d reach l each less fits = record {
  most = λ gone stay s runs.
      let divides : d ∣ load c.net.now k stay = divides-load c.net.now k d stay (each-kept (λ job. d ∣ request c.net.now (place job) k) s each) in
      fits (load c.net.now k stay) divides (omega (arith, h.sums k l, load-splits c.net.now k s)) (runs k l);
  left = less;
}

-- for the resources below n it is known how much is reached, and for the others what is left
pub record AreReached (c : Choice) (n : ℕ) (most : List ℕ) : Type 0 where
  pub done : (q : ℕ) → q < n → IsReach c q (slice_index most q)
  pub rest : (q : ℕ) → n ≤ q → slice_index most q ≡ slice_index c.left q

pub reached-start : (c : Choice) → AreReached c 0 c.left
reached-start c = record { done = λ q less. absurd (omega (arith, less)); rest = λ q more. refl }

pub reached-next : (c : Choice) (n : ℕ) (most next : List ℕ) (v : ℕ) → AreReached c n most → n < length most → next ≡ set most n v → IsReach c n v → AreReached c (n + 1) next
reached-next c n most next v h l e reach = record {
  done = λ q less. elim (at_set most n v q l) [
    | inl here ↦ subst (IsReach c q) (sym (value q ∙ here.1)) (subst (λ x. IsReach c x v) (sym here.0) reach)
    | inr other ↦ subst (IsReach c q) (sym (value q ∙ other.1)) (h.done q (omega (arith, other.0, less)))
  ];
  rest = λ q more. elim (at_set most n v q l) [
    | inl here ↦ absurd (omega (arith, here.0))
    | inr other ↦ omega (arith, value q, other.1, h.rest q (omega arith))
  ];
}
  where
    value : (q : ℕ) → slice_index next q ≡ slice_index (set most n v) q
    value q = ap (λ (xs : List ℕ). slice_index xs q) e

-- the row of some jobs
pub row-of : (p : Project) (jobs row : List ℕ) (rows : List (List ℕ)) → AreRows p jobs rows → slice_get rows (length jobs) ≡ Some row → AreDivisors p jobs row
row-of p [] row rows h e = λ k l. tt
row-of p (job ∷ jobs) row rows h e = h.0 row e

-- what is read of a list with something behind it
get-before : (xs ys : List (List ℕ)) (n : ℕ) → n < length xs → slice_get (xs ++ ys) n ≡ slice_get xs n
get-before xs ys n l = slice_get-get_or (xs ++ ys) n [] (omega (arith, l, length-append xs ys)) ∙ (ap Some (get_or_append_left xs ys [] n l) ∙ sym (slice_get-get_or xs n [] l))

get-seam : (xs : List (List ℕ)) (y : List ℕ) (n : ℕ) → n ≡ length xs → slice_get (xs ++ y ∷ []) n ≡ Some y
get-seam xs y n e = slice_get-get_or (xs ++ y ∷ []) n [] (omega (arith, e, length-append xs (y ∷ []))) ∙ ap Some (ap (λ i. slice_index_or (xs ++ y ∷ []) i []) e ∙ get_or-append_seam xs y [] [])

-- rows with one row more behind them
rows-kept : (p : Project) (jobs row : List ℕ) (rows : List (List ℕ)) → length jobs < length rows → AreRows p jobs rows → AreRows p jobs (rows ++ row ∷ [])
rows-kept p [] row rows l h = tt
rows-kept p (job ∷ jobs) row rows l h = (
  λ other e. h.0 other (sym (get-before rows (row ∷ []) (length (job ∷ jobs)) l) ∙ e),
  rows-kept p jobs row rows (omega (arith, l)) h.1,
)

pub rows-more : (p : Project) (job : ℕ) (jobs row : List ℕ) (rows : List (List ℕ)) → length rows ≡ length jobs + 1 → AreRows p jobs rows → AreDivisors p (job ∷ jobs) row → AreRows p (job ∷ jobs) (rows ++ row ∷ [])
rows-more p job jobs row rows count h divisors = (
  λ other e.
      let last : Some row ≡ Some other = sym (get-seam rows row (length (job ∷ jobs)) (omega (arith, count))) ∙ e in
      subst (AreDivisors p (job ∷ jobs)) (some-same row other last) divisors,
  rows-kept p jobs row rows (omega (arith, count)) h,
)
  where
    some-same : (x y : List ℕ) → Some x ≡ Some y → x ≡ y
    some-same x y e = cc e

module _ (c : Choice) (chosen : List ℕ) (reach : List ℕ) (is : (k : ℕ) → k < c.net.now.resources → IsReach c k (slice_index reach k)) where
  -- some job that goes has room beside all that can stay
  pub none-reached : (IsWanted : List ℕ → Type 0) → SomeHaveRoom c.net.now c.capacities.now (slice_index reach) chosen → HasNoExtension c.net.now c.capacities.now (slice_index c.kept) chosen c.undecided.now IsWanted
  none-reached IsWanted loose other e w = each-at NoMore chosen loose.0 loose.1 (each-left NoMore chosen other e.2.tight) (λ k l.
      let most = (is k l).most other e.0 e.1 e.2.runs in
      elim (cases_lt 0 (request c.net.now (place (slice_index chosen loose.0)) k)) [
        | inl some ↦ omega (arith, most, loose.2 k l some)
        | inr nothing ↦ omega (arith, nothing, e.2.runs k l)
      ])
    where
      NoMore : ℕ → Type 0
      NoMore job = OneMoreRuns c.net.now c.capacities.now (with_load c.net.now (slice_index c.kept) e.0) job → ⊥

  -- a job that has room beside all that is left has room beside all that can stay
  pub room-reached : SomeHaveRoom c.net.now c.capacities.now (slice_index c.left) chosen → SomeHaveRoom c.net.now c.capacities.now (slice_index reach) chosen
  room-reached loose = (loose.0, loose.1, λ k l some. omega (arith, (is k l).left, loose.2 k l some))

-- the same of the same jobs
pub same-loose : (p : Project) (capacities : List ℕ) (loads : ℕ → ℕ) (jobs chosen : List ℕ) → jobs ≡ chosen → SomeHaveRoom p capacities loads jobs → SomeHaveRoom p capacities loads chosen
same-loose p capacities loads jobs chosen e loose = subst (λ (xs : List ℕ). SomeHaveRoom p capacities loads xs) e loose

-- the rows are those of what is still to be chosen beside the first of the undecided
pub rows-among : (c new : Choice) (job : ℕ) (others : List ℕ) (rows : List (List ℕ)) → IsAmong c others new → c.undecided.now ≡ job ∷ others → AreRows c.net.now c.undecided.now rows → AreRows new.net.now new.undecided.now rows
rows-among c new job others rows same first h =
    let all : AreRows c.net.now (job ∷ others) rows = subst (λ (xs : List ℕ). AreRows c.net.now xs rows) first h in
    subst (λ (p : Project). AreRows p new.undecided.now rows) (sym same.net) (subst (λ (xs : List ℕ). AreRows c.net.now xs rows) (sym same.undecided) all.1)

-- without rows
pub rows-none : (p : Project) (jobs : List ℕ) → AreRows p jobs []
rows-none p [] = tt
rows-none p (job ∷ jobs) = (λ row e. absurd (cc e), rows-none p jobs)
