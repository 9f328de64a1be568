-- What a frame gives: the child window that is searched next, or the windows that are left of it.
use Rattle.std.proofs.Common.{◌≡◌, ◌⊎◌, inl, inr, ◌∙◌, ℕ, ◌≤◌, List, [], ◌∷◌, ◌++◌, length, map, Contains, true, false, Bool, arith, refl, sym, subst, ap, append_assoc, Result, Ok, Err, IfOk}
use Rattle.std.proofs.lemmas.List.{append-nil, length-append}
use Rattle.std.proofs.lemmas.List.Elements.{Contains-append_left, Contains-append_right, Contains-append_cases}
use Rattle.racp_model.specs.Project.{Project}
use Rattle.racp_model.specs.Schedule.{Fits}
use Rattle.racp_model.specs.Window.{Bounds, LiesIn, IsInside}
use Rattle.racp_model.specs.JobSets.{AreJobs}
use Rattle.racp_model.proofs.lemmas.Relations.{member_cases, member_first, no_member}
use Rattle.racp_delay.specs.Alternatives.{Splits}
use Rattle.racp_delay.specs.Laws.{EachHasChild, ChildIsInside, EachJobAloneCovers, SubsetsGo}
use Rattle.std.specs.List.Sorted.{IsStrictlyIncreasing}
use Rattle.racp_cutset.specs.Covering.{SearchNode}
use Rattle.racp_search.specs.Children.{IsChildFor, IsEmptyChild}
use Rattle.racp_search.specs.DepthFirst.{SearchFrame, Part, LiesInPart, LiesBehind, PartsCover, HasActive, IsFrame, IsBelow, IsQuiet, IsGoneOn, IsTaken, IsUsedUp, IsRestOfFrame, IsEachAlone, child_windows, parts_of, part_behind, weights}
use Rattle.racp_search.specs.DepthFirst.Part.{all_of, behind}
use Rattle.racp_search.specs.declared.child.Child.{Child}
use Rattle.racp_search.proofs.Going.{child_parts, child_parts-append, windows-append, as-many, frame_with}
use Rattle.racp_search.proofs.Ranks.{few-jobs}
use Rattle.racp_search.proofs.Leaving.{in_map, from_map}

-- the parts with one child more
parts-last : (v : SearchNode) (active last : List ℕ) (more : Bool) (cs : List Child) (child : Child) → parts_of (frame_with v active (cs ++ child ∷ []) last more) ≡ parts_of (frame_with v active cs last more) ++ all_of child.window ∷ []
parts-last v active last more cs child =
    ap (λ (xs : List Part). part_behind v active last more ++ xs) (child_parts-append cs (child ∷ [])) ∙ sym (append_assoc (part_behind v active last more) (child_parts cs) (all_of child.window ∷ []))

module _ (p : Project) (capacities : List ℕ) (old : SearchFrame) (v : SearchNode) (active last : List ℕ) (more : Bool) where
  -- the last child window is searched next
  pub is-taken : (cs left : List Child) (child : Child) → cs ≡ left ++ child ∷ [] → IsFrame p (frame_with v active cs last more) → IsGoneOn p capacities old (frame_with v active cs last more) →
      IsTaken p capacities old (frame_with v active left last more) child.window
  is-taken cs left child e f gone =
      let parts : parts_of (frame_with v active cs last more) ≡ parts_of (frame_with v active left last more) ++ all_of child.window ∷ [] = ap (λ (xs : List Child). parts_of (frame_with v active xs last more)) e ∙ parts-last v active last more left child in
      let there : Contains (child_windows cs) child.window =
      subst (λ (xs : List Bounds). Contains xs child.window) (sym (ap child_windows e ∙ windows-append left (child ∷ [])))
      (Contains-append_right (child_windows left) (child.window ∷ []) child.window (member_first child.window [] child.window refl)) in
      record {
        node = gone.node;
        covers = λ part has. subst (λ (xs : List Part). PartsCover p capacities part xs) parts (gone.covers part has);
        below = subst (λ (x : SearchNode). IsBelow p x.window child.window) gone.node (f.below child.window there);
        quiet = subst (λ (x : SearchNode). IsQuiet p x.capacities child.window x.time) gone.node (f.quiet child.window there);
        lighter = omega (arith, ap (weights p) parts, gone.lighter);
      }

  -- nothing is left
  pub is-used_up : (cs : List Child) (enough : ℕ) → length cs ≡ 0 → 1 ≤ enough → (more ≡ true → enough ≤ length (child_windows cs)) → IsGoneOn p capacities old (frame_with v active cs last more) →
      IsUsedUp p capacities old (frame_with v active cs last more)
  is-used_up cs enough none some full gone = record {
    node = gone.node;
    covers = λ part has. subst (λ (xs : List Part). PartsCover p capacities part xs) (nothing cs more none full) (gone.covers part has);
  }
    where
      nothing : (xs : List Child) (b : Bool) → length xs ≡ 0 → (b ≡ true → enough ≤ length (child_windows xs)) → parts_of (frame_with v active xs last b) ≡ []
      nothing [] true e h = absurd (omega (arith, some, h refl))
      nothing [] false e h = refl
      nothing (x ∷ xs) b e h = absurd (omega (arith, e))

-- what is left of a frame that went on is left of the frame
pub rest-of_gone : (p : Project) (capacities : List ℕ) (old new : SearchFrame) (rest : List Bounds) → IsGoneOn p capacities old new → IsRestOfFrame p capacities new rest → IsRestOfFrame p capacities old rest
rest-of_gone p capacities old new rest gone left = record {
  covers = λ part has starts lies fits.
      let w = gone.covers part has starts lies fits in
      left.covers w.0 w.1 starts w.2 fits;
  below = λ w has. subst (λ (x : SearchNode). IsBelow p x.window w) gone.node (left.below w has);
}

-- all that is left are the child windows
pub rest-is_children : (p : Project) (capacities : List ℕ) (v : SearchNode) (active last : List ℕ) (cs : List Child) (rest : List Bounds) → IsFrame p (frame_with v active cs last false) → rest ≡ child_windows cs → IsRestOfFrame p capacities (frame_with v active cs last false) rest
rest-is_children p capacities v active last cs rest f e = subst (λ (xs : List Bounds). IsRestOfFrame p capacities (frame_with v active cs last false) xs) (sym e) (record {
  covers = λ part has starts lies fits. (part, has, lies);
  below = f.below;
})

-- one window more
pub window-more : (yielded : List Child) (child : Child) (windows new : List Bounds) → windows ≡ child_windows yielded → new ≡ windows ++ child.window ∷ [] → new ≡ child_windows (yielded ++ child ∷ [])
window-more yielded child windows new e is = is ∙ (ap (λ (xs : List Bounds). xs ++ child.window ∷ []) e ∙ sym (windows-append yielded (child ∷ [])))

module _ (p : Project) (v : SearchNode) (active : List ℕ) where
  -- a window of the list is that in which this job alone is put off, or nothing lies there
  abbrev pub IsSeenAlone : List Bounds → ℕ → Type 0
  IsSeenAlone rest job = ((w : Bounds) × Contains rest w × IsChildFor p v active (job ∷ []) w) ⊎ IsEmptyChild p v active (job ∷ [])

  -- of the active jobs some were seen
  pub record IsPuttingOff (yielded left : List ℕ) (rest : List Bounds) : Type 0 where
    pub parts : yielded ++ left ≡ active
    pub seen : (job : ℕ) → Contains yielded job → IsSeenAlone rest job
    pub below : (w : Bounds) → Contains rest w → IsBelow p v.window w
    pub quiet : (w : Bounds) → Contains rest w → IsQuiet p v.capacities w v.time
    pub few : length rest ≤ length yielded

  pub putting-start : (left : List ℕ) (rest : List Bounds) → left ≡ active → rest ≡ [] → IsPuttingOff [] left rest
  putting-start left rest e none = record {
    parts = e;
    seen = λ job c. absurd (no_member job c);
    below = λ w c. absurd (no_member w (subst (λ (xs : List Bounds). Contains xs w) none c));
    quiet = λ w c. absurd (no_member w (subst (λ (xs : List Bounds). Contains xs w) none c));
    few = omega (arith, ap (λ (xs : List Bounds). length xs) none);
  }

  -- the next job is active, and can go alone
  pub next-alone : (yielded left : List ℕ) (rest : List Bounds) (job : ℕ) (others : List ℕ) → SubsetsGo → IsStrictlyIncreasing active → IsPuttingOff yielded left rest → left ≡ job ∷ others → (kept : List ℕ) × Splits active (job ∷ []) kept
  next-alone yielded left rest job others law up h e =
      let there : Contains active job = subst (λ (xs : List ℕ). Contains xs job) (ap (λ (xs : List ℕ). yielded ++ xs) (sym e) ∙ h.parts) (Contains-append_right yielded (job ∷ others) job (member_first job others job refl)) in
      (law active (job ∷ []) up).1 (
        (λ k l. absurd (omega (arith, l))),
        λ i c. elim (member_cases job [] i c) [ inl same ↦ subst (λ x. Contains active x) same there | inr none ↦ absurd (no_member i none) ],
      )

  parts-more : (yielded left : List ℕ) (rest : List Bounds) (job : ℕ) (others : List ℕ) → IsPuttingOff yielded left rest → left ≡ job ∷ others → (yielded ++ job ∷ []) ++ others ≡ active
  parts-more yielded left rest job others h e = append_assoc yielded (job ∷ []) others ∙ (ap (λ (xs : List ℕ). yielded ++ xs) (sym e) ∙ h.parts)

  -- nothing lies where this job alone is put off
  pub putting-none : (yielded left : List ℕ) (rest : List Bounds) (job : ℕ) (others : List ℕ) → IsPuttingOff yielded left rest → left ≡ job ∷ others → IsEmptyChild p v active (job ∷ []) → IsPuttingOff (yielded ++ job ∷ []) others rest
  putting-none yielded left rest job others h e empty = record {
    parts = parts-more yielded left rest job others h e;
    seen = λ i c. elim (Contains-append_cases yielded (job ∷ []) i c) [
      | inl before ↦ h.seen i before
      | inr now ↦ elim (member_cases job [] i now) [ inl same ↦ inr (subst (λ x. IsEmptyChild p v active (x ∷ [])) same empty) | inr none ↦ absurd (no_member i none) ]
    ];
    below = h.below;
    quiet = h.quiet;
    few = omega (arith, h.few, length-append yielded (job ∷ []));
  }

  -- or a window more
  pub putting-more : (yielded left : List ℕ) (rest new : List Bounds) (job : ℕ) (others : List ℕ) (w : Bounds) → IsPuttingOff yielded left rest → left ≡ job ∷ others → IsChildFor p v active (job ∷ []) w → new ≡ rest ++ w ∷ [] → IsPuttingOff (yielded ++ job ∷ []) others new
  putting-more yielded left rest new job others w h e child is = subst (λ (xs : List Bounds). IsPuttingOff (yielded ++ job ∷ []) others xs) (sym is) (record {
    parts = parts-more yielded left rest job others h e;
    seen = λ i c. elim (Contains-append_cases yielded (job ∷ []) i c) [
      | inl before ↦ elim (h.seen i before) [ inl has ↦ inl (has.0, Contains-append_left rest (w ∷ []) has.0 has.1, has.2) | inr empty ↦ inr empty ]
      | inr now ↦ elim (member_cases job [] i now) [
        | inl same ↦ inl (w, Contains-append_right rest (w ∷ []) w (member_first w [] w refl), subst (λ x. IsChildFor p v active (x ∷ []) w) same child)
        | inr none ↦ absurd (no_member i none)
      ]
    ];
    below = λ x c. elim (Contains-append_cases rest (w ∷ []) x c) [
      | inl before ↦ h.below x before
      | inr now ↦ elim (member_cases w [] x now) [ inl same ↦ subst (λ (y : Bounds). IsBelow p v.window y) same child.below | inr none ↦ absurd (no_member x none) ]
    ];
    quiet = λ x c. elim (Contains-append_cases rest (w ∷ []) x c) [
      | inl before ↦ h.quiet x before
      | inr now ↦ elim (member_cases w [] x now) [ inl same ↦ subst (λ (y : Bounds). IsQuiet p v.capacities y v.time) same child.quiet | inr none ↦ absurd (no_member x none) ]
    ];
    few = omega (arith, h.few, length-append yielded (job ∷ []), length-append rest (w ∷ []));
  })

  -- what lies inside a window lies in it
  lies-inside : (w part : Bounds) (starts : List ℕ) → IsInside p w part → LiesIn p part starts → LiesIn p w starts
  lies-inside w part starts inside lies = record {
    places = lies.places;
    above = λ i l. omega (arith, inside.lower i l, lies.above i l);
    below = λ i l. omega (arith, inside.upper i l, lies.below i l);
  }

  -- at the end they cover all that is open below the node
  pub putting-end : (capacities : List ℕ) (f : SearchFrame) (yielded left : List ℕ) (rest : List Bounds) → EachJobAloneCovers → EachHasChild → ChildIsInside → IsFrame p f → f.node ≡ v → f.active ≡ active → HasActive p v active → v.capacities ≡ capacities → left ≡ [] → IsPuttingOff yielded left rest → IsRestOfFrame p capacities f rest
  putting-end capacities f yielded left rest alone has_child inside is node jobs at same none h = record {
    covers = λ part has starts lies fits.
        let whole : LiesIn p v.window starts = in_window part has starts lies in
        let one = alone p v.capacities v.window v.early v.time active starts at.node.early at.conflict (record { lies = whole; fits = subst (λ (xs : List ℕ). Fits p xs starts) (sym same) fits }) in
        let seen_all : yielded ≡ active = sym (append-nil yielded) ∙ (ap (λ (xs : List ℕ). yielded ++ xs) (sym none) ∙ h.parts) in
        elim (h.seen one.job (subst (λ (xs : List ℕ). Contains xs one.job) (sym seen_all) one.is_active)) [
          | inl w ↦ (all_of w.0, in_map rest w.0 w.1, one.lies w.0 (w.2.is one.kept one.splits))
          | inr empty ↦
              let c = has_child p v.early v.window (one.job ∷ []) one.kept one.some_stay in
              absurd (empty one.kept one.splits one.some_stay c.0 c.1 starts (one.lies c.0 c.1))
        ];
    below = λ w c. subst (λ (x : SearchNode). IsBelow p x.window w) (sym node) (h.below w c);
  }
    where
      in_later : (x : SearchNode) (a l : List ℕ) (starts : List ℕ) → x ≡ v → LiesBehind p x a l starts → LiesIn p v.window starts
      in_later x a l starts e b =
          let c = has_child p x.early x.window b.gone b.kept b.some_stay in
          subst (λ (y : SearchNode). LiesIn p y.window starts) e (lies-inside x.window c.0 starts (inside p x.early x.window b.gone b.kept c.0 c.1) (b.lies c.0 c.1))

      in_behind : (more : Bool) (part : Part) → Contains (part_behind f.node f.active f.last more) part → (starts : List ℕ) → LiesInPart p part starts → LiesIn p v.window starts
      in_behind false part has starts lies = absurd (no_member part has)
      in_behind true part has starts lies = elim (member_cases (behind f.node f.active f.last) [] part has) [
        | inl e ↦ in_later f.node f.active f.last starts node (subst (λ (x : Part). LiesInPart p x starts) (sym e) lies)
        | inr never ↦ absurd (no_member part never)
      ]

      in_window : (part : Part) → Contains (parts_of f) part → (starts : List ℕ) → LiesInPart p part starts → LiesIn p v.window starts
      in_window part has starts lies = elim (Contains-append_cases (part_behind f.node f.active f.last f.more) (map all_of f.windows) part has) [
        | inl later ↦ in_behind f.more part later starts lies
        | inr child ↦
            let w = from_map p f.windows part starts child lies in
            subst (λ (x : SearchNode). LiesIn p x.window starts) node (lies-inside f.node.window w.0 starts (is.below w.0 w.1).part.inside w.2)
      ]

-- and each is a child window of the node, of which there are no more than active jobs
pub each-alone : (p : Project) (capacities : List ℕ) (f : SearchFrame) (v : SearchNode) (active yielded left : List ℕ) (cs : List Child) → AreJobs active → f.node ≡ v → IsRestOfFrame p capacities f (child_windows cs) → IsPuttingOff p v active yielded left (child_windows cs) → IsEachAlone p capacities f cs
each-alone p capacities f v active yielded left cs jobs node rest h = record {
  rest = rest;
  quiet = λ w c. subst (λ (x : SearchNode). IsQuiet p x.capacities w x.time) (sym node) (h.quiet w c);
  few = omega (arith, h.few, as-many cs, length-append yielded left, ap (λ (xs : List ℕ). length xs) h.parts, few-jobs active jobs);
}

-- a frame with fewer child windows
pub frame-less : (p : Project) (v : SearchNode) (active last : List ℕ) (more : Bool) (cs left others : List Child) → cs ≡ left ++ others → IsFrame p (frame_with v active cs last more) → IsFrame p (frame_with v active left last more)
frame-less p v active last more cs left others e f = record {
  active = f.active;
  below = λ w c. f.below w (has w c);
  quiet = λ w c. f.quiet w (has w c);
  last = f.last;
}
  where
    has : (w : Bounds) → Contains (child_windows left) w → Contains (child_windows cs) w
    has w c = subst (λ (xs : List Bounds). Contains xs w) (sym (ap child_windows e ∙ windows-append left others)) (Contains-append_left (child_windows left) (child_windows others) w c)

-- what follows from what holds of an answer
pub if_ok_more : {A E : Type 0} (r : Result A E) (P Q : A → Type 0) → ((x : A) → P x → Q x) → IfOk r P → IfOk r Q
if_ok_more (Ok x) P Q f h = f x h
if_ok_more (Err e) P Q f h = tt
