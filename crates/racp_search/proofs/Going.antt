-- A frame goes on: the next alternative is looked at, and its child window takes its place among those to be searched.
use Rattle.std.proofs.Common.{◌≡◌, ◌≢◌, ◌⊎◌, inl, inr, ◌∙◌, ℕ, ◌+◌, ◌*◌, ◌<◌, ◌≤◌, List, [], ◌∷◌, ◌++◌, length, take, drop, map, slice_index, slice_index_or, Contains, All, true, false, Bool, arith, refl, sym, subst, ap}
use Rattle.std.proofs.lemmas.Bool.{cases_lt}
use Rattle.std.proofs.lemmas.List.{take-append-drop, length-map, get_or-map, get_or_default}
use Rattle.smallvec.specs.SmallVec.{SmallVec}
use Rattle.racp_model.proofs.lemmas.Costs.{lex_apart, lex_one_way}
use Rattle.std.proofs.lemmas.List.Elements.{Contains-append_left, Contains-append_right, Contains-append_cases}
use Rattle.racp_model.specs.Project.{Project, IsNumber, IsSound}
use Rattle.racp_model.specs.Terms.{IsLexBefore}
use Rattle.racp_model.specs.Window.{Bounds, LiesIn}
use Rattle.racp_model.specs.JobSets.{AreJobs}
use Rattle.racp_model.proofs.lemmas.Relations.{member_cases, member_first, member_later}
use Rattle.racp_model.proofs.lemmas.Sums.{sum_below-bound}
use Rattle.racp_delay.specs.Alternatives.{Splits, IsMinimalDelayingAlternative, AreAlternatives, job_lists}
use Rattle.racp_delay.specs.Laws.{EachHasChild, SubsetsGo, lower_sum}
use Rattle.racp_cutset.specs.Covering.{SearchNode}
use Rattle.racp_search.specs.Children.{IsChildFor, IsEmptyChild, IsInserted}
use Rattle.racp_search.specs.DepthFirst.{SearchFrame, Part, LiesInPart, LiesBehind, IsNextToLookAt, HasActive, IsFrame, IsBelow, IsQuiet, IsGoneOn, child_windows, steps_left, weight, weights}
use Rattle.racp_search.specs.DepthFirst.Part.{all_of, behind}
use Rattle.racp_search.specs.declared.child.Child.{Child}
use Rattle.racp_search.proofs.Children.{gone_numbers}
use Rattle.racp_search.proofs.Ranks.{place-less, place-rises}
use Rattle.racp_delay.specs.Branching.{IsChild}
use Rattle.racp_search.proofs.Weights.{weights-append, weights-one, child-weight, step-lighter}

-- the parts that are child windows
abbrev pub child_parts : List Child → List Part
child_parts cs = map all_of (child_windows cs)

pub child_parts-append : (xs ys : List Child) → child_parts (xs ++ ys) ≡ child_parts xs ++ child_parts ys
child_parts-append [] ys = refl
child_parts-append (x ∷ xs) ys = ap (λ (zs : List Part). all_of x.window ∷ zs) (child_parts-append xs ys)

pub windows-append : (xs ys : List Child) → child_windows (xs ++ ys) ≡ child_windows xs ++ child_windows ys
windows-append [] ys = refl
windows-append (x ∷ xs) ys = ap (λ (zs : List Bounds). x.window ∷ zs) (windows-append xs ys)

-- a list in two pieces
pieces : (n : ℕ) (cs : List Child) → take n cs ++ drop n cs ≡ cs
pieces n cs = take-append-drop n cs

module _ (cs : List Child) (c : Child) (new : List Child) (h : IsInserted cs c new) where
  -- the parts with one child more
  parts-new : child_parts new ≡ child_parts (take h.0 cs) ++ all_of c.window ∷ child_parts (drop h.0 cs)
  parts-new = ap child_parts h.1 ∙ child_parts-append (take h.0 cs) (c ∷ drop h.0 cs)

  parts-old : child_parts cs ≡ child_parts (take h.0 cs) ++ child_parts (drop h.0 cs)
  parts-old = ap child_parts (sym (pieces h.0 cs)) ∙ child_parts-append (take h.0 cs) (drop h.0 cs)

  pub inserted-weights : (p : Project) → weights p (child_parts new) ≡ weight p (all_of c.window) + weights p (child_parts cs)
  inserted-weights p =
      let tail : List Part = child_parts (drop h.0 cs) in
      omega (
        arith,
        ap (weights p) parts-new,
        ap (weights p) parts-old,
        weights-append p (child_parts (take h.0 cs)) (all_of c.window ∷ tail),
        weights-append p (child_parts (take h.0 cs)) tail,
        weights-append p (all_of c.window ∷ []) tail,
        weights-one p (all_of c.window),
      )

  pub inserted-there : Contains (child_parts new) (all_of c.window)
  inserted-there = subst (λ (xs : List Part). Contains xs (all_of c.window)) (sym parts-new)
      (Contains-append_right (child_parts (take h.0 cs)) (all_of c.window ∷ child_parts (drop h.0 cs)) (all_of c.window) (member_first (all_of c.window) (child_parts (drop h.0 cs)) (all_of c.window) refl))

  pub inserted-stays : (part : Part) → Contains (child_parts cs) part → Contains (child_parts new) part
  inserted-stays part has = subst (λ (xs : List Part). Contains xs part) (sym parts-new)
      (elim (Contains-append_cases (child_parts (take h.0 cs)) (child_parts (drop h.0 cs)) part (subst (λ (xs : List Part). Contains xs part) parts-old has)) [
        | inl before ↦ Contains-append_left (child_parts (take h.0 cs)) (all_of c.window ∷ child_parts (drop h.0 cs)) part before
        | inr after ↦ Contains-append_right (child_parts (take h.0 cs)) (all_of c.window ∷ child_parts (drop h.0 cs)) part (member_later (all_of c.window) (child_parts (drop h.0 cs)) part after)
      ])

  pub inserted-window : (w : Bounds) → Contains (child_windows new) w → (c.window ≡ w) ⊎ Contains (child_windows cs) w
  inserted-window w has =
      let is_new : child_windows new ≡ child_windows (take h.0 cs) ++ c.window ∷ child_windows (drop h.0 cs) = ap child_windows h.1 ∙ windows-append (take h.0 cs) (c ∷ drop h.0 cs) in
      let is_old : child_windows cs ≡ child_windows (take h.0 cs) ++ child_windows (drop h.0 cs) = ap child_windows (sym (pieces h.0 cs)) ∙ windows-append (take h.0 cs) (drop h.0 cs) in
      let Old : Bounds → Type 0 = λ x. Contains (child_windows cs) x in
      elim (Contains-append_cases (child_windows (take h.0 cs)) (c.window ∷ child_windows (drop h.0 cs)) w (subst (λ (xs : List Bounds). Contains xs w) is_new has)) [
        | inl before ↦ inr (subst (λ (xs : List Bounds). Contains xs w) (sym is_old) (Contains-append_left (child_windows (take h.0 cs)) (child_windows (drop h.0 cs)) w before))
        | inr after ↦ elim (member_cases c.window (child_windows (drop h.0 cs)) w after) [
          | inl same ↦ inl same
          | inr there ↦ inr (subst (λ (xs : List Bounds). Contains xs w) (sym is_old) (Contains-append_right (child_windows (take h.0 cs)) (child_windows (drop h.0 cs)) w there))
        ]
      ]

-- before each list of jobs stands the empty one
pub not_first : (last : List ℕ) → IsLexBefore last [] → ⊥
not_first [] h = absurd (cc h)
not_first (x ∷ xs) h = absurd (cc h)

-- an element of a list, whatever stands for those that are not there
pub same_default : (lists : List (List ℕ)) (j : ℕ) (d e : List ℕ) → j < length lists → slice_index_or lists j d ≡ slice_index_or lists j e
same_default lists j d e l = get_or_default lists j d e l

-- before each list of jobs stands the empty one
pub empty_before : (gone : List ℕ) → gone ≢ [] → IsLexBefore [] gone
empty_before [] some = absurd (some refl)
empty_before (job ∷ gone) some = refl

-- a frame, by its fields
abbrev pub frame_with : SearchNode → List ℕ → List Child → List ℕ → Bool → SearchFrame
frame_with v active cs last more = record { node = v; active = active; windows = child_windows cs; last = last; more = more }

-- the jobs of an alternative are a set
pub gone_are_jobs : (p : Project) (v : SearchNode) (active gone : List ℕ) → IsSound p → SubsetsGo → HasActive p v active → IsMinimalDelayingAlternative p v.capacities active gone → AreJobs gone
gone_are_jobs p v active gone sound law is minimal =
    let numbers : All (IsNumber (length p.jobs)) gone = gone_numbers p v.capacities v.early v.time active gone minimal.delays.0 (length p.jobs) law refl is.conflict minimal.delays.1 in
    record {
      rises = ((law active gone is.conflict.set.rises).0 (minimal.delays.0, minimal.delays.1)).0;
      numbers = λ k d l. let n = numbers k d l in (n.0, omega (arith, n.1, sound.limits.most_jobs));
    }

module _ (p : Project) (capacities : List ℕ) (v : SearchNode) (active last : List ℕ) (cs : List Child) (is : HasActive p v active) (jobs : AreJobs last) where
  small : lower_sum p v.window ≤ length p.jobs * 10000000
  small = sum_below-bound (length p.jobs) 10000000 (slice_index v.window.lower) (λ i l. omega (arith, is.node.early.above i l, is.small i l))

  -- where no alternative is left
  pub gone-none : ((starts : List ℕ) → LiesBehind p v active last starts → ⊥) → IsGoneOn p capacities (frame_with v active cs last true) (frame_with v active cs last false)
  gone-none none = record {
    node = refl;
    covers = λ part has starts lies fits. elim (member_cases (behind v active last) (child_parts cs) part has) [
      | inl same ↦
          let b : LiesBehind p v active last starts = subst (λ (x : Part). LiesInPart p x starts) (sym same) lies in
          absurd (none starts b)
      | inr there ↦ (part, there, lies)
    ];
    lighter = omega (arith, weights-append p (behind v active last ∷ []) (child_parts cs));
  }

  -- there were lists left
  pub some-left : 0 < steps_left true last
  some-left = omega (arith, place-less last jobs)

  module _ (gone : List ℕ) (set : AreJobs gone) (next : IsNextToLookAt p v active last gone) where
    -- fewer lists are left
    pub fewer-left : steps_left true gone < steps_left true last
    fewer-left = omega (arith, place-rises last gone jobs set next.behind, place-less gone set)

    -- what lies behind the last alternative lies in the next one's child window or behind it
    behind-next : (starts : List ℕ) (b : LiesBehind p v active last starts) → (b.gone ≡ gone) ⊎ LiesBehind p v active gone starts
    behind-next starts b = elim (next.first starts b) [
      | inl same ↦ inl same
      | inr later ↦ inr (record { gone = b.gone; kept = b.kept; splits = b.splits; some_stay = b.some_stay; minimal = b.minimal; behind = later; lies = b.lies })
    ]

    -- a child window more
    pub gone-child : (c : Child) (new : List Child) → IsChildFor p v active gone c.window → IsInserted cs c new → IsGoneOn p capacities (frame_with v active cs last true) (frame_with v active new gone true)
    gone-child c new child inserted = record {
      node = refl;
      covers = λ part has starts lies fits. elim (member_cases (behind v active last) (child_parts cs) part has) [
        | inl same ↦
            let b : LiesBehind p v active last starts = subst (λ (x : Part). LiesInPart p x starts) (sym same) lies in
            elim (behind-next starts b) [
              | inl here ↦
                  let splits : Splits active gone b.kept = subst (λ (x : List ℕ). Splits active x b.kept) here b.splits in
                  let at = subst (λ (x : List ℕ). (w : Bounds) → IsChild p v.early v.window x b.kept w → LiesIn p w starts) here b.lies in
                  (all_of c.window, member_later (behind v active gone) (child_parts new) (all_of c.window) (inserted-there cs c new inserted), at c.window (child.is b.kept splits))
              | inr later ↦ (behind v active gone, member_first (behind v active gone) (child_parts new) (behind v active gone) refl, later)
            ]
        | inr there ↦ (part, member_later (behind v active gone) (child_parts new) part (inserted-stays cs c new inserted part there), lies)
      ];
      lighter = omega (
        arith,
        weights-append p (behind v active last ∷ []) (child_parts cs),
        weights-append p (behind v active gone ∷ []) (child_parts new),
        weights-one p (behind v active last),
        weights-one p (behind v active gone),
        inserted-weights cs c new inserted p,
        step-lighter p v active last gone (weight p (all_of c.window)) (place-rises last gone jobs set next.behind) (place-less gone set) (child-weight p v c.window child.below.higher small),
      );
    }

    -- nothing lies in the child window
    pub gone-empty : EachHasChild → IsEmptyChild p v active gone → IsGoneOn p capacities (frame_with v active cs last true) (frame_with v active cs gone true)
    gone-empty has_child none = record {
      node = refl;
      covers = λ part has starts lies fits. elim (member_cases (behind v active last) (child_parts cs) part has) [
        | inl same ↦
            let b : LiesBehind p v active last starts = subst (λ (x : Part). LiesInPart p x starts) (sym same) lies in
            elim (behind-next starts b) [
              | inl here ↦
                  let splits : Splits active gone b.kept = subst (λ (x : List ℕ). Splits active x b.kept) here b.splits in
                  let at = subst (λ (x : List ℕ). (w : Bounds) → IsChild p v.early v.window x b.kept w → LiesIn p w starts) here b.lies in
                  let w = has_child p v.early v.window gone b.kept b.some_stay in
                  absurd (none b.kept splits b.some_stay w.0 w.1 starts (at w.0 w.1))
              | inr later ↦ (behind v active gone, member_first (behind v active gone) (child_parts cs) (behind v active gone) refl, later)
            ]
        | inr there ↦ (part, member_later (behind v active gone) (child_parts cs) part there, lies)
      ];
      lighter = omega (
        arith,
        weights-append p (behind v active last ∷ []) (child_parts cs),
        weights-append p (behind v active gone ∷ []) (child_parts cs),
        weights-one p (behind v active last),
        weights-one p (behind v active gone),
        step-lighter p v active last gone 0 (place-rises last gone jobs set next.behind) (place-less gone set) (omega arith),
      );
    }

    -- what holds of each frame holds of the new one
    pub frame-child : (more : Bool) (c : Child) (new : List Child) → IsFrame p (frame_with v active cs last more) → IsChildFor p v active gone c.window → IsInserted cs c new → IsFrame p (frame_with v active new gone more)
    frame-child more c new f child inserted = record {
      active = is;
      below = λ w has. elim (inserted-window cs c new inserted w has) [
        | inl same ↦ subst (λ (x : Bounds). IsBelow p v.window x) same child.below
        | inr there ↦ f.below w there
      ];
      quiet = λ w has. elim (inserted-window cs c new inserted w has) [
        | inl same ↦ subst (λ (x : Bounds). IsQuiet p v.capacities x v.time) same child.quiet
        | inr there ↦ f.quiet w there
      ];
      last = set;
    }

    pub frame-empty : (more : Bool) → IsFrame p (frame_with v active cs last more) → IsFrame p (frame_with v active cs gone more)
    frame-empty more f = record { active = is; below = f.below; quiet = f.quiet; last = set }

-- a frame goes on again and again
pub gone-same : (p : Project) (capacities : List ℕ) (a : SearchFrame) → IsGoneOn p capacities a a
gone-same p capacities a = record { node = refl; covers = λ part has starts lies fits. (part, has, lies); lighter = omega arith }

pub gone-again : (p : Project) (capacities : List ℕ) (a b c : SearchFrame) → IsGoneOn p capacities a b → IsGoneOn p capacities b c → IsGoneOn p capacities a c
gone-again p capacities a b c first second = record {
  node = second.node ∙ first.node;
  covers = λ part has starts lies fits.
      let v = first.covers part has starts lies fits in
      second.covers v.0 v.1 starts v.2 fits;
  lighter = omega (arith, first.lighter, second.lighter);
}

-- as many child windows as children
pub as-many : (cs : List Child) → length (child_windows cs) ≡ length cs
as-many cs = length-map cs (λ (c : Child). c.window)

-- the jobs of a short vector among some
pub list_at : (vectors : List (SmallVec ℕ)) (k : ℕ) (v : SmallVec ℕ) (gone d : List ℕ) → k < length vectors → v ≡ slice_index_or vectors k v → gone ≡ v.items → gone ≡ slice_index_or (job_lists vectors) k d
list_at vectors k v gone d l is same =
    sym (get_or-map (λ (w : SmallVec ℕ). w.items) vectors k v d l ∙ (ap (λ (w : SmallVec ℕ). w.items) (sym is) ∙ sym same))

-- the lists of some short vectors are as many
pub lists_length : (vectors : List (SmallVec ℕ)) → length (job_lists vectors) ≡ length vectors
lists_length vectors = length-map vectors (λ (w : SmallVec ℕ). w.items)

-- the lists of the alternatives, of which some were taken up: the last one stands before those behind
pub record IsTakingUp (lists : List (List ℕ)) (k : ℕ) (last : List ℕ) : Type 0 where
  pub left : (j : ℕ) → k ≤ j → j < length lists → IsLexBefore last (slice_index_or lists j [])
  pub past : (j : ℕ) → j < k → j < length lists → IsLexBefore last (slice_index_or lists j []) → ⊥

module _ (p : Project) (v : SearchNode) (active : List ℕ) (lists : List (List ℕ)) (are : AreAlternatives p v.capacities active lists) where
  -- before the first none was
  pub taking-start : ((gone : List ℕ) → IsMinimalDelayingAlternative p v.capacities active gone → gone ≢ []) → (last : List ℕ) → last ≡ [] → IsTakingUp lists 0 last
  taking-start goes last e = subst (IsTakingUp lists 0) (sym e) (record {
    left = λ j l within. empty_before (slice_index_or lists j []) (goes (slice_index_or lists j []) (are.only (slice_index_or lists j []) (j, within, same_default lists j (slice_index_or lists j []) [] within)));
    past = λ j l. absurd (omega (arith, l));
  })

  -- the next list is the next alternative
  pub taking-next : (k : ℕ) (last gone : List ℕ) → IsTakingUp lists k last → k < length lists → gone ≡ slice_index_or lists k [] → IsNextToLookAt p v active last gone
  taking-next k last gone h within e = subst (IsNextToLookAt p v active last) (sym e) (record {
    minimal = are.only (slice_index_or lists k []) (k, within, same_default lists k (slice_index_or lists k []) [] within);
    behind = h.left k (omega arith) within;
    first = λ starts b.
        let other : List ℕ = b.gone in
        let after-last : IsLexBefore last other = b.behind in
        let at = are.all other b.minimal in
        let here : slice_index_or lists at.0 [] ≡ other = same_default lists at.0 [] other at.1 ∙ at.2 in
        elim (cases_lt at.0 k) [
          | inl before ↦ absurd (h.past at.0 before at.1 (subst (IsLexBefore last) (sym here) after-last))
          | inr most ↦ elim (cases_lt k at.0) [
            | inl after ↦ inr (subst (IsLexBefore (slice_index_or lists k [])) here (are.in_order k at.0 [] after at.1))
            | inr same ↦ inl (sym here ∙ ap (λ j. slice_index_or lists j []) (let n : at.0 ≡ k = omega (arith, most, same) in n))
          ]
        ];
  })

  -- it is taken up then
  pub taking-more : (k : ℕ) (last gone : List ℕ) → IsTakingUp lists k last → k < length lists → gone ≡ slice_index_or lists k [] → IsTakingUp lists (k + 1) gone
  taking-more k last gone h within e = subst (IsTakingUp lists (k + 1)) (sym e) (record {
    left = λ j l inside. are.in_order k j [] (omega (arith, l)) inside;
    past = λ j l inside later. elim (cases_lt j k) [
      | inl before ↦ lex_one_way (slice_index_or lists k []) (slice_index_or lists j []) later (are.in_order j k [] before within)
      | inr most ↦
          let same : j ≡ k = omega (arith, most, l) in
          lex_apart (slice_index_or lists k []) (subst (λ i. IsLexBefore (slice_index_or lists k []) (slice_index_or lists i [])) same later)
    ];
  })

  -- and at the end none stands behind it
  pub taking-end : (k : ℕ) (last : List ℕ) → IsTakingUp lists k last → length lists ≤ k → (starts : List ℕ) → LiesBehind p v active last starts → ⊥
  taking-end k last h all starts b =
      let at = are.all b.gone b.minimal in
      let here : slice_index_or lists at.0 [] ≡ b.gone = same_default lists at.0 [] b.gone at.1 ∙ at.2 in
      h.past at.0 (omega (arith, at.1, all)) at.1 (subst (IsLexBefore last) (sym here) b.behind)
