-- The stack of a search: what is still open covers, from step to step.
use Rattle.std.proofs.Common.{◌≡◌, inl, inr, ◌∙◌, ℕ, ◌≤◌, List, [], ◌∷◌, ◌++◌, length, slice_index, Contains, arith, refl, sym, subst, ap, append_assoc}
use Rattle.std.proofs.lemmas.List.{append-nil}
use Rattle.std.proofs.lemmas.List.Elements.{Contains-append_left, Contains-append_right, Contains-append_cases}
use Rattle.racp_model.specs.Project.{Project}
use Rattle.racp_model.specs.Window.{Bounds, Answers, IsNo, IsInside}
use Rattle.racp_model.specs.Formed.{HasBounds}
use Rattle.racp_model.proofs.lemmas.Sums.{sum_below-mono}
use Rattle.racp_model.proofs.lemmas.Relations.{member_cases, member_first, no_member}
use Rattle.racp_delay.specs.Laws.{lower_sum}
use Rattle.racp_cutset.specs.Covering.{SearchNode}
use Rattle.racp_search.specs.DepthFirst.{SearchFrame, Part, PartsCover, parts_of, open_parts, front_of, last_window, AreBelow, AreInside, IsBelow, IsBeneath, IsOpenFrame, AreOpenFrames, IsPartOf, IsQuiet, IsSearching, IsSearchingNext, IsFrameOf, IsTaken, IsUsedUp}
use Rattle.racp_search.specs.DepthFirst.Part.{all_of}

-- the parts of a stack with one frame more
pub open-last : (fs : List SearchFrame) (f : SearchFrame) (next : List Part) → open_parts (fs ++ f ∷ []) ++ next ≡ open_parts fs ++ (parts_of f ++ next)
open-last [] f next = ap (λ (xs : List Part). xs ++ next) (append-nil (parts_of f))
open-last (g ∷ fs) f next =
    append_assoc (parts_of g) (open_parts (fs ++ f ∷ [])) next ∙ (ap (λ (xs : List Part). parts_of g ++ xs) (open-last fs f next) ∙ sym (append_assoc (parts_of g) (open_parts fs) (parts_of f ++ next)))

-- a window that is inside another has no smaller sum of lower bounds
pub inside-sum : (p : Project) (whole w : Bounds) → IsInside p whole w → lower_sum p whole ≤ lower_sum p w
inside-sum p whole w h = sum_below-mono (length p.jobs) (slice_index whole.lower) (slice_index w.lower) h.lower

-- a part of a part is a part
pub part-of_part : (p : Project) (whole w part : Bounds) → IsPartOf p whole w → IsPartOf p w part → IsPartOf p whole part
part-of_part p whole w part a b = record {
  bounds = b.bounds;
  inside = record {
    lower = λ i l. omega (arith, a.inside.lower i l, b.inside.lower i l);
    upper = λ i l. omega (arith, a.inside.upper i l, b.inside.upper i l);
  };
}

-- what answers in a part of a window answers in the window
pub answers-whole : (p : Project) (capacities : List ℕ) (whole w : Bounds) (starts : List ℕ) → IsPartOf p whole w → Answers p capacities w starts → Answers p capacities whole starts
answers-whole p capacities whole w starts part h = record {
  lies = record {
    places = h.lies.places;
    above = λ i l. omega (arith, part.inside.lower i l, h.lies.above i l);
    below = λ i l. omega (arith, part.inside.upper i l, h.lies.below i l);
  };
  fits = h.fits;
}

-- what is searched below a window, with one frame more
front-last : (fs : List SearchFrame) (f : SearchFrame) (next : List Part) → front_of (fs ++ f ∷ []) next ≡ front_of fs (all_of f.node.window ∷ [])
front-last [] f next = refl
front-last (g ∷ fs) f next = refl

-- the window of the last frame
last-is : (w : Bounds) (fs : List SearchFrame) (f : SearchFrame) → last_window w (fs ++ f ∷ []) ≡ f.node.window
last-is w [] f = refl
last-is w (g ∷ fs) f = last-is g.node.window fs f

-- a window is a part of itself
pub part-of_itself : (p : Project) (w : Bounds) → HasBounds p w → IsPartOf p w w
part-of_itself p w bounds = record { bounds = bounds; inside = record { lower = λ i l. omega arith; upper = λ i l. omega arith } }

-- what is below a part is below the whole
pub below-whole : (p : Project) (whole w part : Bounds) → IsPartOf p whole w → IsBelow p w part → IsBelow p whole part
below-whole p whole w part a b = record {
  part = part-of_part p whole w part a b.part;
  higher = omega (arith, inside-sum p whole w a.inside, b.higher);
}

-- a part of what is below is below
below-part : (p : Project) (w v part : Bounds) → IsBelow p w v → IsPartOf p v part → IsBelow p w part
below-part p w v part a b = record {
  part = part-of_part p w v part a.part b;
  higher = omega (arith, a.higher, inside-sum p v part b.inside);
}

module _ (p : Project) where
  -- the windows of frames with one more
  below-split : (w : Bounds) (fs : List SearchFrame) (f : SearchFrame) → AreBelow p w (fs ++ f ∷ []) → AreBelow p w fs × IsBelow p (last_window w fs) f.node.window
  below-split w [] f h = (tt, h.0)
  below-split w (g ∷ fs) f h = let e = below-split g.node.window fs f h.1 in ((h.0, e.0), e.1)

  below-join : (w : Bounds) (fs : List SearchFrame) (f : SearchFrame) → AreBelow p w fs → IsBelow p (last_window w fs) f.node.window → AreBelow p w (fs ++ f ∷ [])
  below-join w [] f h is = (is, tt)
  below-join w (g ∷ fs) f h is = (h.0, below-join g.node.window fs f h.1 is)

  inside-split : (whole : Bounds) (fs : List SearchFrame) (f : SearchFrame) → AreInside p whole (fs ++ f ∷ []) → AreInside p whole fs × IsBeneath p whole fs f.node.window
  inside-split whole [] f h = (tt, h.0)
  inside-split whole (g ∷ fs) f h = let e = below-split g.node.window fs f h.1 in ((h.0, e.0), e.1)

  inside-join : (whole : Bounds) (fs : List SearchFrame) (f : SearchFrame) → AreInside p whole fs → IsBeneath p whole fs f.node.window → AreInside p whole (fs ++ f ∷ [])
  inside-join whole [] f h is = (is, tt)
  inside-join whole (g ∷ fs) f h is = (h.0, below-join g.node.window fs f h.1 is)

  -- the window of the last frame is a part of the whole
  last-part : (whole w : Bounds) (fs : List SearchFrame) → IsPartOf p whole w → AreBelow p w fs → IsPartOf p whole (last_window w fs)
  last-part whole w [] is h = is
  last-part whole w (g ∷ fs) is h = last-part whole g.node.window fs (part-of_part p whole w g.node.window is h.0.part) h.1

  -- so is what is beneath the frames
  pub beneath-part : (whole : Bounds) (fs : List SearchFrame) (w : Bounds) → AreInside p whole fs → IsBeneath p whole fs w → IsPartOf p whole w
  beneath-part whole [] w h is = is
  beneath-part whole (g ∷ fs) w h is = part-of_part p whole (last_window g.node.window fs) w (last-part whole g.node.window fs h.0 h.1) is.part

  -- and a part of that is beneath them
  pub beneath-narrow : (whole : Bounds) (fs : List SearchFrame) (w v : Bounds) → IsBeneath p whole fs w → IsPartOf p w v → IsBeneath p whole fs v
  beneath-narrow whole [] w v is part = part-of_part p whole w v is part
  beneath-narrow whole (g ∷ fs) w v is part = below-part p (last_window g.node.window fs) w v is part

  -- what is below the last frame is beneath all
  beneath-last : (whole : Bounds) (fs : List SearchFrame) (f : SearchFrame) (w : Bounds) → IsBelow p f.node.window w → IsBeneath p whole (fs ++ f ∷ []) w
  beneath-last whole [] f w is = is
  beneath-last whole (g ∷ fs) f w is = subst (λ (x : Bounds). IsBelow p x w) (sym (last-is g.node.window fs f)) is

module _ (p : Project) (capacities : List ℕ) where
  -- parts may be replaced by parts that cover each of them
  pub covers-replaced : (part : Part) (xs old new : List Part) → PartsCover p capacities part (xs ++ old) → ((v : Part) → Contains old v → PartsCover p capacities v new) → PartsCover p capacities part (xs ++ new)
  covers-replaced part xs old new h each starts lies fits =
      let v = h starts lies fits in
      elim (Contains-append_cases xs old v.0 v.1) [
        | inl before ↦ (v.0, Contains-append_left xs new v.0 before, v.2)
        | inr next ↦
            let w = each v.0 next starts v.2 fits in
            (w.0, Contains-append_right xs new w.0 w.1, w.2)
      ]

  -- so may those that are searched next
  front-replaced : (part : Part) (xs : List Part) (fs : List SearchFrame) (old new : List Part) → PartsCover p capacities part (xs ++ front_of fs old) → ((v : Part) → Contains old v → PartsCover p capacities v new) →
      PartsCover p capacities part (xs ++ front_of fs new)
  front-replaced part xs [] old new h each = covers-replaced part xs old new h each
  front-replaced part xs (f ∷ fs) old new h each = h

  frames-replaced : (fs : List SearchFrame) (old new : List Part) → AreOpenFrames p capacities fs old → ((v : Part) → Contains old v → PartsCover p capacities v new) → AreOpenFrames p capacities fs new
  frames-replaced [] old new h each = tt
  frames-replaced (f ∷ fs) old new h each =
      (record { same = h.0.same; covers = front-replaced (all_of f.node.window) (parts_of f) fs old new h.0.covers each }, frames-replaced fs old new h.1 each)

  -- what holds of the frames with one frame more
  frames-split : (fs : List SearchFrame) (f : SearchFrame) (next : List Part) → AreOpenFrames p capacities (fs ++ f ∷ []) next → AreOpenFrames p capacities fs (all_of f.node.window ∷ []) × IsOpenFrame p capacities f (parts_of f ++ next)
  frames-split [] f next h = (tt, h.0)
  frames-split (g ∷ fs) f next h =
      let e = frames-split fs f next h.1 in
      ((subst (λ (xs : List Part). IsOpenFrame p capacities g (parts_of g ++ xs)) (front-last fs f next) h.0, e.0), e.1)

  frames-join : (fs : List SearchFrame) (f : SearchFrame) (next : List Part) → AreOpenFrames p capacities fs (all_of f.node.window ∷ []) → IsOpenFrame p capacities f (parts_of f ++ next) → AreOpenFrames p capacities (fs ++ f ∷ []) next
  frames-join [] f next h is = (is, tt)
  frames-join (g ∷ fs) f next h is = (subst (λ (xs : List Part). IsOpenFrame p capacities g (parts_of g ++ xs)) (sym (front-last fs f next)) h.0, frames-join fs f next h.1 is)

module _ (p : Project) (capacities : List ℕ) (whole : Bounds) where
  -- the state of a search with one frame more is that with its window to be searched next
  searching-join : (fs : List SearchFrame) (f : SearchFrame) (next : List Part) → IsSearching p capacities whole fs (all_of f.node.window ∷ []) → IsBeneath p whole fs f.node.window → IsOpenFrame p capacities f (parts_of f ++ next) → IsSearching p capacities whole (fs ++ f ∷ []) next
  searching-join fs f next h beneath is = record {
    covers = subst (λ (xs : List Part). PartsCover p capacities (all_of whole) xs) (sym (front-last fs f next)) h.covers;
    inside = inside-join p whole fs f h.inside beneath;
    frames = frames-join p capacities fs f next h.frames is;
  }

  searching-split : (fs : List SearchFrame) (f : SearchFrame) (next : List Part) → IsSearching p capacities whole (fs ++ f ∷ []) next → IsSearching p capacities whole fs (all_of f.node.window ∷ [])
  searching-split fs f next h = record {
    covers = subst (λ (xs : List Part). PartsCover p capacities (all_of whole) xs) (front-last fs f next) h.covers;
    inside = (inside-split p whole fs f h.inside).0;
    frames = (frames-split p capacities fs f next h.frames).0;
  }

  -- the last frame is one of the question
  pub last-open : (fs : List SearchFrame) (f : SearchFrame) (next : List Part) → IsSearching p capacities whole (fs ++ f ∷ []) next → IsOpenFrame p capacities f (parts_of f ++ next)
  last-open fs f next h = (frames-split p capacities fs f next h.frames).1

  -- its window is a part of the whole
  pub last-inside : (fs : List SearchFrame) (f : SearchFrame) (next : List Part) → IsSearching p capacities whole (fs ++ f ∷ []) next → IsPartOf p whole f.node.window
  last-inside fs f next h = let e = inside-split p whole fs f h.inside in beneath-part p whole fs f.node.window e.0 e.1

  -- the parts that are searched next may be replaced by parts that cover them
  pub searching-replaced : (fs : List SearchFrame) (old new : List Part) → IsSearching p capacities whole fs old → ((v : Part) → Contains old v → PartsCover p capacities v new) → IsSearching p capacities whole fs new
  searching-replaced fs old new h each = record {
    covers = front-replaced p capacities (all_of whole) [] fs old new h.covers each;
    inside = h.inside;
    frames = frames-replaced p capacities fs old new h.frames each;
  }

  -- at the start the whole window is open
  pub searching-start : HasBounds p whole → IsSearchingNext p capacities whole [] whole 0
  searching-start bounds = record {
    state = record { covers = λ starts lies fits. (all_of whole, member_first (all_of whole) [] (all_of whole) refl, lies); inside = tt; frames = tt };
    part = part-of_itself p whole bounds;
    beneath = part-of_itself p whole bounds;
    quiet = λ early is k s l m. absurd (omega (arith, m));
  }

  -- what covers the one part covers each of the list
  pub one : (w : Bounds) (new : List Part) → PartsCover p capacities (all_of w) new → (v : Part) → Contains (all_of w ∷ []) v → PartsCover p capacities v new
  one w new h v c = elim (member_cases (all_of w) [] v c) [
    | inl same ↦ subst (λ (x : Part). PartsCover p capacities x new) same h
    | inr none ↦ absurd (no_member v none)
  ]

  -- a window that is refuted is not open any more
  pub searching-refuted : (fs : List SearchFrame) (w : Bounds) → IsSearching p capacities whole fs (all_of w ∷ []) → IsNo p capacities w → IsSearching p capacities whole fs []
  searching-refuted fs w h refuted =
      searching-replaced fs (all_of w ∷ []) [] h (one w [] (λ starts lies fits. absurd (refuted starts (record { lies = lies; fits = fits }))))

  -- a window of which a frame is made
  pub searching-framed : (fs : List SearchFrame) (w : Bounds) (from : ℕ) (f : SearchFrame) → IsSearchingNext p capacities whole fs w from → IsFrameOf p capacities w f → IsSearching p capacities whole (fs ++ f ∷ []) []
  searching-framed fs w from f h is =
      searching-join fs f [] (subst (λ (x : Bounds). IsSearching p capacities whole fs (all_of x ∷ [])) (sym is.placed) h.state) (subst (λ (x : Bounds). IsBeneath p whole fs x) (sym is.placed) h.beneath)
      (record {
        same = is.same;
        covers = subst (λ (xs : List Part). PartsCover p capacities (all_of f.node.window) xs) (sym (append-nil (parts_of f))) (subst (λ (x : Bounds). PartsCover p capacities (all_of x) (parts_of f)) (sym is.placed) is.covers);
      })

  -- what covers each part of a frame covers its window
  own-covers : (fs : List SearchFrame) (f : SearchFrame) (new : List Part) → IsSearching p capacities whole (fs ++ f ∷ []) [] → ((v : Part) → Contains (parts_of f) v → PartsCover p capacities v new) → PartsCover p capacities (all_of f.node.window) new
  own-covers fs f new h each starts lies fits =
      let own = subst (λ (xs : List Part). PartsCover p capacities (all_of f.node.window) xs) (append-nil (parts_of f)) (last-open fs f [] h).covers starts lies fits in
      each own.0 own.1 starts own.2 fits

  -- a frame that is used up is refuted
  used-no : (fs : List SearchFrame) (f g : SearchFrame) → IsSearching p capacities whole (fs ++ f ∷ []) [] → IsUsedUp p capacities f g → IsNo p capacities f.node.window
  used-no fs f g h none =
      let all : PartsCover p capacities (all_of f.node.window) [] = own-covers fs f [] h none.covers in
      λ starts answer. let v = all starts answer.lies answer.fits in no_member v.0 v.1

  pub frame-refuted : (fs : List SearchFrame) (f g : SearchFrame) → IsSearching p capacities whole (fs ++ f ∷ []) [] → IsUsedUp p capacities f g → IsNo p g.node.capacities g.node.window
  frame-refuted fs f g h none =
      subst (λ (v : SearchNode). IsNo p v.capacities v.window) (sym none.node) (subst (λ (xs : List ℕ). IsNo p xs f.node.window) (sym (last-open fs f [] h).same) (used-no fs f g h none))

  -- and the search goes on below it
  pub searching-popped : (fs : List SearchFrame) (f g : SearchFrame) → IsSearching p capacities whole (fs ++ f ∷ []) [] → IsUsedUp p capacities f g → IsSearching p capacities whole fs []
  searching-popped fs f g h none = searching-refuted fs f.node.window (searching-split fs f [] h) (used-no fs f g h none)

  -- a window below the last frame is searched next
  pub searching-next : (fs : List SearchFrame) (f g : SearchFrame) (next : Bounds) → IsSearching p capacities whole (fs ++ f ∷ []) [] → IsTaken p capacities f g next → IsSearchingNext p capacities whole (fs ++ g ∷ []) next g.node.time
  searching-next fs f g next h taken =
      let own = last-open fs f [] h in
      let placed = (inside-split p whole fs f h.inside).1 in
      let other : IsOpenFrame p capacities g (parts_of g ++ all_of next ∷ []) = record {
        same = ap (λ (v : SearchNode). v.capacities) taken.node ∙ own.same;
        covers = subst (λ (v : SearchNode). PartsCover p capacities (all_of v.window) (parts_of g ++ all_of next ∷ [])) (sym taken.node) (own-covers fs f (parts_of g ++ all_of next ∷ []) h taken.covers);
      } in
      record {
        state = searching-join fs g (all_of next ∷ []) (subst (λ (v : SearchNode). IsSearching p capacities whole fs (all_of v.window ∷ [])) (sym taken.node) (searching-split fs f [] h))
            (subst (λ (v : SearchNode). IsBeneath p whole fs v.window) (sym taken.node) placed) other;
        part = part-of_part p whole f.node.window next (last-inside fs f [] h) taken.below.part;
        beneath = beneath-last p whole fs g next (subst (λ (v : SearchNode). IsBelow p v.window next) (sym taken.node) taken.below);
        quiet = subst (λ (v : SearchNode). IsQuiet p capacities next v.time) (sym taken.node) (subst (λ (xs : List ℕ). IsQuiet p xs next f.node.time) own.same taken.quiet);
      }
