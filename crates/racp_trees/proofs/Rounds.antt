-- The early starts above bounds are those after a round for each job.
use Rattle.std.proofs.Common.{◌≡◌, ◌∙◌, inl, inr, ℕ, zero, suc, ◌+◌, ◌<◌, ◌≤◌, ◌==◌, max, if◌then◌else◌, Bool, true, false, List, [], ◌∷◌, length, map, slice_index, Contains, arith, refl, sym, subst, ap}
use Rattle.std.proofs.lemmas.Bool.{cases_lt, eqb-true}
use Rattle.std.proofs.lemmas.Bool.Decides.{eqb_tells}
use Rattle.std.proofs.lemmas.List.{ext_get_or}
use Rattle.std.proofs.lemmas.List.FromFn.{length-map-range_with_len, get_or-map-range_with_len}
use Rattle.racp_model.specs.Project.{Project, IsSound, Precedes, duration, number, place}
use Rattle.racp_model.specs.Path.{IsEarly}
use Rattle.racp_model.specs.Ranks.{lower_count}
use Rattle.std.specs.List.{range_with_len}
use Rattle.racp_model.proofs.lemmas.Arcs.{precedes_in}
use Rattle.racp_model.proofs.lemmas.Lists.{row, row-at}
use Rattle.racp_model.proofs.lemmas.Ranking.{lower_count-most, lower_count-rises}
use Rattle.racp_model.proofs.lemmas.Relations.{member_cases, member_first, member_later, no_member}
use Rattle.racp_trees.specs.Rows.{put_behind, start_after, early_of}

-- the later of two numbers if a test says so, and else the second
if_least : (b : Bool) (x y low : ℕ) → low ≤ y → low ≤ (if b then max x y else y)
if_least true x y low h = omega (arith, h)
if_least false x y low h = h

if_first : (b : Bool) (x y low : ℕ) → b ≡ true → low ≤ x → low ≤ (if b then max x y else y)
if_first true x y low e h = omega (arith, h)
if_first false x y low e h = absurd (cc e)

if_most : (b : Bool) (x y most : ℕ) → (b ≡ true → x ≤ most) → y ≤ most → (if b then max x y else y) ≤ most
if_most true x y most h g = omega (arith, h refl, g)
if_most false x y most h g = g

-- a round puts no job before its start
behind_start : (p : Project) (f : ℕ → ℕ) (arcs : List (ℕ × ℕ)) (i : ℕ) → f i ≤ put_behind p f arcs i
behind_start p f [] i = omega arith
behind_start p f (arc ∷ arcs) i = if_least (arc.1 == number i) (f (place arc.0) + duration p (place arc.0)) (put_behind p f arcs i) (f i) (behind_start p f arcs i)

equal_tests : (a b : ℕ) → a ≡ b → (a == b) ≡ true
equal_tests a b e = elim (eqb_tells a b) [ inl yes' ↦ yes'.0 | inr no' ↦ absurd (no'.1 e) ]

same_end : (p : Project) (f : ℕ → ℕ) (arc : ℕ × ℕ) (h i : ℕ) → ◌≡◌ {A = ℕ × ℕ} arc (number h, number i) → f h + duration p h ≤ f (place arc.0) + duration p (place arc.0)
same_end p f arc h i same =
    let at : place arc.0 ≡ h = omega (arith, ap (λ (x : ℕ × ℕ). x.0) same) in
    let ends : f (place arc.0) + duration p (place arc.0) ≡ f h + duration p h = ap (λ j. f j + duration p j) at in
    omega (arith, ends)

-- each job is put behind those that precede it
behind_end : (p : Project) (f : ℕ → ℕ) (arcs : List (ℕ × ℕ)) (h i : ℕ) → Contains arcs (number h, number i) → f h + duration p h ≤ put_behind p f arcs i
behind_end p f [] h i c = absurd (no_member (number h, number i) c)
behind_end p f (arc ∷ arcs) h i c = elim (member_cases arc arcs (number h, number i) c) [
  | inl same ↦
      if_first (arc.1 == number i) (f (place arc.0) + duration p (place arc.0)) (put_behind p f arcs i) (f h + duration p h) (equal_tests arc.1 (number i) (ap (λ (x : ℕ × ℕ). x.1) same)) (same_end p f arc h i same)
  | inr there ↦ if_least (arc.1 == number i) (f (place arc.0) + duration p (place arc.0)) (put_behind p f arcs i) (f h + duration p h) (behind_end p f arcs h i there)
]

-- and no further than to some start at or behind all of that
behind_most : (p : Project) (f : ℕ → ℕ) (arcs : List (ℕ × ℕ)) (i most : ℕ) → f i ≤ most → ((arc : ℕ × ℕ) → Contains arcs arc → arc.1 ≡ number i → f (place arc.0) + duration p (place arc.0) ≤ most) → put_behind p f arcs i ≤ most
behind_most p f [] i most start ends = start
behind_most p f (arc ∷ arcs) i most start ends =
    if_most (arc.1 == number i) (f (place arc.0) + duration p (place arc.0)) (put_behind p f arcs i) most (λ e. ends arc (member_first arc arcs arc refl) (eqb-true arc.1 (number i) e))
    (behind_most p f arcs i most start (λ other c. ends other (member_later arc arcs other c)))

module _ (p : Project) (sound : IsSound p) (lower : ℕ → ℕ) where
  -- more rounds, no earlier starts
  after_later : (rounds more i : ℕ) → rounds ≤ more → start_after p lower rounds i ≤ start_after p lower more i
  after_later rounds zero i l = let none : rounds ≡ 0 = omega (arith, l) in let same : start_after p lower rounds i ≡ start_after p lower 0 i = ap (λ k. start_after p lower k i) none in omega (arith, same)
  after_later rounds (suc more) i l = elim (cases_lt rounds (suc more)) [
    | inl less ↦ omega (arith, after_later rounds more i (omega (arith, less)), behind_start p (start_after p lower more) p.arcs i)
    | inr all ↦ let none : rounds ≡ suc more = omega (arith, l, all) in let same : start_after p lower rounds i ≡ start_after p lower (suc more) i = ap (λ k. start_after p lower k i) none in omega (arith, same)
  ]

  -- the end of a job that precedes another
  abbrev Ends : List ℕ → ℕ → ℕ → Type 0
  Ends early rounds i = (arc : ℕ × ℕ) → Contains p.arcs arc → arc.1 ≡ number i → start_after p lower rounds (place arc.0) + duration p (place arc.0) ≤ slice_index early i

  module _ (early : List ℕ) (is : IsEarly p lower early) where
    ends_by : (rounds i : ℕ) → ((j : ℕ) → j < length p.jobs → start_after p lower rounds j ≤ slice_index early j) → Ends early rounds i
    ends_by rounds i before arc c e =
        let from : number (place arc.0) ≡ arc.0 = omega (arith, (sound.named c.0 arc c.1).0.0, ap (λ (x : ℕ × ℕ). x.0) c.2) in
        let o : Precedes p (place arc.0) i = subst (λ (x : ℕ × ℕ). Contains p.arcs x) (λ j. (sym from j, e j)) c in
        omega (arith, before (place arc.0) (precedes_in p (place arc.0) i sound o).0, is.precedence (place arc.0) i o)

    -- no start after rounds is later than the early start
    after_most : (rounds i : ℕ) → i < length p.jobs → start_after p lower rounds i ≤ slice_index early i
    after_most zero i l = is.above i l
    after_most (suc rounds) i l =
        behind_most p (start_after p lower rounds) p.arcs i (slice_index early i) (after_most rounds i l) (ends_by rounds i (λ j m. after_most rounds j m))

    abbrev rank : ℕ → ℕ
    rank = lower_count (length p.jobs) sound.acyclic.0

    -- the start of each job after as many rounds as jobs of lower rank
    abbrev at_rank : ℕ → ℕ
    at_rank i = start_after p lower (rank i) i

    abbrev ranked : List ℕ
    ranked = row (length p.jobs) at_rank

    ranked_keeps : (i j : ℕ) → Precedes p i j → at_rank i + duration p i ≤ at_rank j
    ranked_keeps i j o =
        let rises : rank i < rank j = lower_count-rises (length p.jobs) sound.acyclic.0 i j (precedes_in p i j sound o).0 (sound.acyclic.1 i j o) in
        let behind : start_after p lower (rank i) i + duration p i ≤ start_after p lower (suc (rank i)) j = behind_end p (start_after p lower (rank i)) p.arcs i j o in
        omega (arith, behind, after_later (suc (rank i)) (rank j) j (omega (arith, rises)))

    -- these starts keep precedence, so no early start is later
    ranked_above : (i : ℕ) → i < length p.jobs → slice_index early i ≤ at_rank i
    ranked_above i l = omega (arith, row-at (length p.jobs) at_rank i l, is.least ranked above keeps i l)
      where
        above : (j : ℕ) → j < length p.jobs → lower j ≤ slice_index ranked j
        above j m = omega (arith, row-at (length p.jobs) at_rank j m, after_later 0 (rank j) j (omega arith))

        keeps : (j k : ℕ) → Precedes p j k → slice_index ranked j + duration p j ≤ slice_index ranked k
        keeps j k o =
            let in' = precedes_in p j k sound o in
            omega (arith, row-at (length p.jobs) at_rank j in'.0, row-at (length p.jobs) at_rank k in'.1, ranked_keeps j k o)

    after_all : (i : ℕ) → i < length p.jobs → start_after p lower (length p.jobs) i ≡ slice_index early i
    after_all i l =
        omega (arith, after_most (length p.jobs) i l, ranked_above i l, after_later (rank i) (length p.jobs) i (lower_count-most (length p.jobs) sound.acyclic.0 i))

-- the early starts
pub early_is : (p : Project) (lower early : List ℕ) → IsSound p → IsEarly p (slice_index lower) early → early_of p lower ≡ early
unfolding early_of
early_is p lower early sound is =
    let f : ℕ → ℕ = λ i. start_after p (slice_index lower) (length p.jobs) i in
    let places : length (map f (range_with_len 0 (length p.jobs))) ≡ length p.jobs = length-map-range_with_len f 0 (length p.jobs) in
    ext_get_or 0 (map f (range_with_len 0 (length p.jobs))) early (places ∙ sym is.places)
    (λ i l. get_or-map-range_with_len f 0 (length p.jobs) i i 0 (omega (arith, l, places)) (omega arith) ∙ after_all p sound (slice_index lower) early is i (omega (arith, l, places)))
