-- What is left of a stack when a search is left: windows of frames, and the one in front.
use Rattle.std.proofs.Common.{◌≡◌, ◌≢◌, inl, inr, ◌∙◌, ℕ, zero, suc, ◌<◌, List, [], ◌∷◌, ◌++◌, length, map, Contains, Result, Ok, Err, IfOk, arith, refl, sym, subst, ap, true, false, ◌==◌}
use Rattle.std.specs.Prelude.{OnOk, remove, slice_index_or}
use Rattle.std.specs.declared.alloc.AllocError.{AllocError}
use Rattle.std.proofs.lemmas.Bool.{eqb-true}
use Rattle.std.proofs.lemmas.List.{append-nil, map-append}
use Rattle.std.proofs.lemmas.List.Elements.{Contains-append_left, Contains-append_right, Contains-append_cases}
use Rattle.racp_model.specs.Project.{Project}
use Rattle.racp_model.specs.Window.{Bounds, LiesIn}
use Rattle.racp_model.proofs.lemmas.Relations.{member_cases, member_first, member_later, no_member}
use Rattle.racp_search.specs.DepthFirst.{SearchFrame, Part, LiesInPart, PartsCover, parts_of, front_of, last_window, AreOpenFrames, AreBelow, AreInside, IsBelow, IsBeneath, IsPartOf, IsHigher, IsSearchingNext, IsRestOfFrame}
use Rattle.racp_search.specs.DepthFirst.Part.{all_of}
use Rattle.racp_search.specs.Steps.{HasFirst, IsFirstLeft, IsFrontWindow, IsLeft}
use Rattle.racp_search.proofs.Stacks.{part-of_part, below-whole, inside-sum}

-- a window of the list is a part of the list
pub in_map : (ws : List Bounds) (w : Bounds) → Contains ws w → Contains (map all_of ws) (all_of w)
in_map [] w c = absurd (no_member w c)
in_map (x ∷ ws) w c = elim (member_cases x ws w c) [
  | inl same ↦ member_first (all_of x) (map all_of ws) (all_of w) (ap all_of same)
  | inr there ↦ member_later (all_of x) (map all_of ws) (all_of w) (in_map ws w there)
]

-- what lies in a part of the list lies in a window of the list
pub from_map : (p : Project) (ws : List Bounds) (part : Part) (starts : List ℕ) → Contains (map all_of ws) part → LiesInPart p part starts → (w : Bounds) × Contains ws w × LiesIn p w starts
from_map p [] part starts c lies = absurd (no_member part c)
from_map p (x ∷ ws) part starts c lies = elim (member_cases (all_of x) (map all_of ws) part c) [
  | inl same ↦ (x, member_first x ws x refl, subst (λ (v : Part). LiesInPart p v starts) (sym same) lies)
  | inr there ↦ let h = from_map p ws part starts there lies in (h.0, member_later x ws h.0 h.1, h.2)
]

-- equal parts that are windows are equal windows
same_window : {w v : Bounds} → all_of w ≡ all_of v → w ≡ v
same_window e = cc e

-- a length that is tested
pub none-there : (n : ℕ) → true ≡ (n == 0) → n ≡ 0
none-there n e = eqb-true n 0 (sym e)

-- lists without elements
pub some-there : (n : ℕ) → false ≡ (n == 0) → 0 < n
some-there zero e = absurd (cc e)
some-there (suc n) e = omega arith

pub no-frames : (xs : List SearchFrame) → length xs ≡ 0 → xs ≡ []
no-frames [] e = refl
no-frames (x ∷ xs) e = absurd (omega (arith, e))

-- the first frame is taken out
pub first-out : (old new : List SearchFrame) (f : SearchFrame) → 0 < length old → f ≡ slice_index_or old 0 f → new ≡ remove old 0 → old ≡ f ∷ new
first-out [] new f some is rest = absurd (omega (arith, some))
first-out (x ∷ xs) new f some is rest = subst (λ (y : SearchFrame). x ∷ xs ≡ y ∷ new) (sym is) (subst (λ (ys : List SearchFrame). x ∷ xs ≡ x ∷ ys) (sym rest) refl)

-- a first frame is there
pub some_first : (capacities : List ℕ) (frames : List SearchFrame) → HasFirst capacities frames → 0 < length frames
some_first capacities [] h = absurd h
some_first capacities (frame ∷ frames) h = omega arith

-- its windows were put behind others
pub first_left : (p : Project) (capacities : List ℕ) (old new : List SearchFrame) (frame : SearchFrame) (old_rest more new_rest : List Bounds) (result : Result (Unit {0}) AllocError) → old ≡ frame ∷ new →
    OnOk result (new_rest ≡ old_rest ++ more) → IsRestOfFrame p capacities frame more → IfOk result (λ x. IsFirstLeft p capacities old new old_rest new_rest)
first_left p capacities old new frame old_rest more new_rest (Ok x) taken gathered left = record { frame = frame; more = more; taken = taken; gathered = gathered; left = left }
first_left p capacities old new frame old_rest more new_rest (Err error) taken gathered left = tt

module _ (p : Project) (capacities : List ℕ) (whole next : Bounds) where
  abbrev pub front : List SearchFrame → List Part
  front frames = front_of frames (all_of next ∷ [])

  -- some frames are still on the stack, and windows of what was before them are gathered
  pub record IsLeaving (frames : List SearchFrame) (rest : List Bounds) : Type 0 where
    pub covers : PartsCover p capacities (all_of whole) (front frames ++ map all_of rest)
    pub opened : AreOpenFrames p capacities frames (all_of next ∷ [])
    pub inside : AreInside p whole frames
    pub beneath : IsBeneath p whole frames next
    pub parts : (w : Bounds) → Contains rest w → IsBelow p whole w
    pub higher : rest ≢ [] → (w : Bounds) → Contains (front frames) (all_of w) → IsHigher p whole w

  -- at the start no window is gathered
  pub leaving-start : (from : ℕ) (frames : List SearchFrame) (rest : List Bounds) → IsSearchingNext p capacities whole frames next from → rest ≡ [] → IsLeaving frames rest
  leaving-start from frames rest h e = subst (λ (xs : List Bounds). IsLeaving frames xs) (sym e) (record {
    covers = subst (λ (xs : List Part). PartsCover p capacities (all_of whole) xs) (sym (append-nil (front frames))) h.state.covers;
    opened = h.state.frames;
    inside = h.state.inside;
    beneath = h.beneath;
    parts = λ w c. absurd (no_member w c);
    higher = λ some. absurd (some refl);
  })

  -- what lies below a window that is a part of the whole
  front-higher : (w : Bounds) (fs : List SearchFrame) → IsPartOf p whole w → AreBelow p w fs → IsBelow p (last_window w fs) next → (v : Bounds) → Contains (front fs) (all_of v) → IsHigher p whole v
  front-higher w [] part below is v c = elim (member_cases (all_of next) [] (all_of v) c) [
    | inl same ↦ omega (arith, inside-sum p whole w part.inside, subst (λ (x : Bounds). IsHigher p w x) (same_window same) is.higher)
    | inr none ↦ absurd (no_member (all_of v) none)
  ]
  front-higher w (g ∷ fs) part below is v c = elim (member_cases (all_of g.node.window) [] (all_of v) c) [
    | inl same ↦ omega (arith, inside-sum p whole w part.inside, subst (λ (x : Bounds). IsHigher p w x) (same_window same) below.0.higher)
    | inr none ↦ absurd (no_member (all_of v) none)
  ]

  -- the frames above the first are inside the whole
  others-inside : (w : Bounds) (fs : List SearchFrame) → IsPartOf p whole w → AreBelow p w fs → AreInside p whole fs
  others-inside w [] part below = tt
  others-inside w (g ∷ fs) part below = (part-of_part p whole w g.node.window part below.0.part, below.1)

  others-beneath : (w : Bounds) (fs : List SearchFrame) → IsPartOf p whole w → IsBelow p (last_window w fs) next → IsBeneath p whole fs next
  others-beneath w [] part is = part-of_part p whole w next part is.part
  others-beneath w (g ∷ fs) part is = is

  -- the first frame is taken out
  pub leaving-next : (frames fs : List SearchFrame) (f : SearchFrame) (rest more new : List Bounds) → frames ≡ f ∷ fs → new ≡ rest ++ more → IsLeaving frames rest → IsRestOfFrame p capacities f more → IsLeaving fs new
  leaving-next frames fs f rest more new is both l m =
      let at : IsLeaving (f ∷ fs) rest = subst (λ (xs : List SearchFrame). IsLeaving xs rest) is l in
      subst (λ (xs : List Bounds). IsLeaving fs xs) (sym both) (record {
        covers = λ starts lies fits.
            let old = at.covers starts lies fits in
            elim (Contains-append_cases (all_of f.node.window ∷ []) (map all_of rest) old.0 old.1) [
              | inl here ↦
                  let own : LiesInPart p (all_of f.node.window) starts = in_front starts old.0 here old.2 in
                  let v = at.opened.0.covers starts own fits in
                  elim (Contains-append_cases (parts_of f) (front fs) v.0 v.1) [
                    | inl part ↦ let w = m.covers v.0 part starts v.2 fits in (w.0, gathered-now w.0 (Contains-append_right (map all_of rest) (map all_of more) w.0 w.1), w.2)
                    | inr above ↦ (v.0, Contains-append_left (front fs) (map all_of (rest ++ more)) v.0 above, v.2)
                  ]
              | inr before ↦ (old.0, gathered-now old.0 (Contains-append_left (map all_of rest) (map all_of more) old.0 before), old.2)
            ];
        opened = at.opened.1;
        inside = others-inside f.node.window fs at.inside.0 at.inside.1;
        beneath = others-beneath f.node.window fs at.inside.0 at.beneath;
        parts = λ w c. elim (Contains-append_cases rest more w c) [
          | inl before ↦ at.parts w before
          | inr own ↦ below-whole p whole f.node.window w at.inside.0 (m.below w own)
        ];
        higher = λ some. front-higher f.node.window fs at.inside.0 at.inside.1 at.beneath;
      })
    where
      gathered-now : (v : Part) → Contains (map all_of rest ++ map all_of more) v → Contains (front fs ++ map all_of (rest ++ more)) v
      gathered-now v c = Contains-append_right (front fs) (map all_of (rest ++ more)) v (subst (λ (xs : List Part). Contains xs v) (sym (map-append all_of rest more)) c)

      in_front : (starts : List ℕ) (v : Part) → Contains (all_of f.node.window ∷ []) v → LiesInPart p v starts → LiesInPart p (all_of f.node.window) starts
      in_front starts v c lies = elim (member_cases (all_of f.node.window) [] v c) [
        | inl same ↦ subst (λ (x : Part). LiesInPart p x starts) (sym same) lies
        | inr none ↦ absurd (no_member v none)
      ]

  -- the window in front
  front-is : (frames : List SearchFrame) (w : Bounds) → IsFrontWindow frames next w → front frames ≡ all_of w ∷ []
  front-is [] w e = ap (λ (x : Bounds). all_of x ∷ []) (sym e)
  front-is (f ∷ fs) w e = ap (λ (x : Bounds). all_of x ∷ []) (sym e)

  front-part : (frames : List SearchFrame) (w : Bounds) → IsFrontWindow frames next w → AreInside p whole frames → IsBeneath p whole frames next → IsPartOf p whole w
  front-part [] w e inside beneath = subst (λ (x : Bounds). IsPartOf p whole x) (sym e) beneath
  front-part (f ∷ fs) w e inside beneath = subst (λ (x : Bounds). IsPartOf p whole x) (sym e) inside.0

  -- at the end the windows that were gathered are left, and that in front
  pub leaving-end : (frames : List SearchFrame) (rest new : List Bounds) (w : Bounds) → IsFrontWindow frames next w → (rest ≡ [] → frames ≡ []) → new ≡ rest ++ w ∷ [] → IsLeaving frames rest → IsLeft p capacities whole next new
  leaving-end frames rest new w e done is l = subst (λ (xs : List Bounds). IsLeft p capacities whole next xs) (sym is) (record {
    left = record {
      covers = λ starts answer.
          let v = l.covers starts answer.lies answer.fits in
          let c = subst (λ (xs : List Part). Contains (xs ++ map all_of rest) v.0) (front-is frames w e) v.1 in
          elim (Contains-append_cases (all_of w ∷ []) (map all_of rest) v.0 c) [
            | inl here ↦ let x = from_map p (w ∷ []) v.0 starts here v.2 in (x.0, Contains-append_right rest (w ∷ []) x.0 x.1, x.2)
            | inr gathered ↦ let x = from_map p rest v.0 starts gathered v.2 in (x.0, Contains-append_left rest (w ∷ []) x.0 x.1, x.2)
          ];
      inside = λ x c. (part x c).inside;
      bounds = λ x c. (part x c).bounds;
    };
    higher = λ up x c. elim (Contains-append_cases rest (w ∷ []) x c) [
      | inl gathered ↦ (l.parts x gathered).higher
      | inr here ↦ elim (member_cases w [] x here) [ inl same ↦ subst (λ (y : Bounds). IsHigher p whole y) same (last-higher rest refl up) | inr none ↦ absurd (no_member x none) ]
    ];
    some = λ none. last-there rest none;
  })
    where
      part : (x : Bounds) → Contains (rest ++ w ∷ []) x → IsPartOf p whole x
      part x c = elim (Contains-append_cases rest (w ∷ []) x c) [
        | inl gathered ↦ (l.parts x gathered).part
        | inr here ↦ elim (member_cases w [] x here) [ inl same ↦ subst (λ (y : Bounds). IsPartOf p whole y) same (front-part frames w e l.inside l.beneath) | inr none ↦ absurd (no_member x none) ]
      ]

      last-higher : (xs : List Bounds) → xs ≡ rest → IsHigher p whole next → IsHigher p whole w
      last-higher [] same up = subst (λ (x : Bounds). IsHigher p whole x) (sym (subst (λ (fs : List SearchFrame). IsFrontWindow fs next w) (done (sym same)) e)) up
      last-higher (x ∷ xs) same up = l.higher (λ none. cc (same ∙ none)) w (subst (λ (ys : List Part). Contains ys (all_of w)) (sym (front-is frames w e)) (member_first (all_of w) [] (all_of w) refl))

      last-there : (xs : List Bounds) → xs ++ w ∷ [] ≡ [] → ⊥
      last-there [] none = cc none
      last-there (x ∷ xs) none = cc none

-- where there are frames, and their nodes are of some capacities, so is the first one's
pub first-there : (p : Project) (capacities : List ℕ) (frames : List SearchFrame) (next : List Part) → 0 < length frames → AreOpenFrames p capacities frames next → HasFirst capacities frames
first-there p capacities [] next some opened = absurd (omega (arith, some))
first-there p capacities (f ∷ fs) next some opened = opened.0.same
