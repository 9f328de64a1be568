-- What is open or out of one question covers its window and lies inside it.
use Rattle.std.proofs.Common.{◌≡◌, ◌∙◌, ◌⊎◌, inl, inr, ℕ, List, [], ◌∷◌, ◌++◌, map, IsPermutation, Contains, refl, sym, ap, subst, arith}
use Rattle.std.proofs.lemmas.List.{map-append}
use Rattle.std.proofs.lemmas.List.Sorted.{Contains-permutation, IsPermutation-sym, IsPermutation-map}
use Rattle.std.proofs.lemmas.List.Elements.{Contains-append_left, Contains-append_right, Contains-append_cases, Contains-push_cases, Contains-push}
use Rattle.racp_model.specs.Project.{Project}
use Rattle.racp_model.specs.Window.{Bounds, LiesIn, Answers, IsInside, WindowsCover}
use Rattle.racp_model.specs.Formed.{HasBounds}
use Rattle.racp_model.specs.declared.question.Question.{Question}
use Rattle.racp_model.proofs.lemmas.Relations.{member_cases, member_first, member_later, no_member}
use Rattle.racp_search.specs.Truth.{IsRestOf}
use Rattle.racp_core.specs.Machine.{PieceOut, QuestionRow, opened, IsDone}
use Rattle.racp_core.specs.Truth.{held_windows, IsKept}
use Rattle.racp_core.specs.Steps.{IsSent, IsBack}

pub inside_self : (p : Project) (w : Bounds) → IsInside p w w
inside_self p w = record { lower = λ i l. omega arith; upper = λ i l. omega arith }

pub inside_trans : (p : Project) (a b c : Bounds) → IsInside p a b → IsInside p b c → IsInside p a c
inside_trans p a b c h k = record {
  lower = λ i l. omega (arith, h.lower i l, k.lower i l);
  upper = λ i l. omega (arith, h.upper i l, k.upper i l);
}

-- what lies in the inner window lies in the outer one
pub lies_inside : (p : Project) (outer inner : Bounds) (starts : List ℕ) → IsInside p outer inner → LiesIn p inner starts → LiesIn p outer starts
lies_inside p outer inner starts h lies = record {
  places = lies.places;
  above = λ i l. omega (arith, h.lower i l, lies.above i l);
  below = λ i l. omega (arith, h.upper i l, lies.below i l);
}

-- a window alone is what is left of it
pub whole_rest : (p : Project) (capacities : List ℕ) (w : Bounds) → HasBounds p w → IsRestOf p capacities w (w ∷ [])
whole_rest p capacities w bounds = record {
  covers = λ starts answer. (w, member_first w [] w refl, answer.lies);
  inside = λ part c. elim (member_cases w [] part c) [ inl same ↦ subst (λ (v : Bounds). IsInside p w v) same (inside_self p w) | inr none ↦ absurd (no_member part none) ];
  bounds = λ part c. elim (member_cases w [] part c) [ inl same ↦ subst (λ (v : Bounds). HasBounds p v) same bounds | inr none ↦ absurd (no_member part none) ];
}

pub kept_new : (p : Project) (question : Question) → HasBounds p question.window → IsKept p (opened question)
kept_new p question bounds = whole_rest p question.capacities question.window bounds

abbrev windows_out : List PieceOut → List Bounds
windows_out out = map (λ piece. piece.window) out

-- a window goes out, and is held as before
pub kept_sent : (p : Project) (piece : PieceOut) (old new : QuestionRow) → IsSent piece old new → IsKept p old → IsKept p new
kept_sent p piece old new (same, ready, out) h =
    subst (λ (q : Question). IsRestOf p q.capacities q.window (held_windows new)) (sym same) (record {
      covers = λ starts answer. (let found = h.covers starts answer in (found.0, fwd found.0 found.1, found.2));
      inside = λ part c. h.inside part (back part c);
      bounds = λ part c. h.bounds part (back part c);
    })
  where
    outs : windows_out new.out ≡ windows_out old.out ++ piece.window ∷ []
    outs = ap windows_out out ∙ map-append (λ (o : PieceOut). o.window) old.out (piece ∷ [])

    fwd : (v : Bounds) → Contains (held_windows old) v → Contains (held_windows new) v
    fwd v c = elim (Contains-append_cases old.ready (windows_out old.out) v c) [
      | inl in_ready ↦ elim (member_cases piece.window new.ready v (Contains-permutation old.ready (piece.window ∷ new.ready) v ready in_ready)) [
        | inl moved ↦ Contains-append_right new.ready (windows_out new.out) v (rw (outs, ← moved) (Contains-push (windows_out old.out) piece.window))
        | inr still ↦ Contains-append_left new.ready (windows_out new.out) v still
      ]
      | inr in_out ↦ Contains-append_right new.ready (windows_out new.out) v (rw outs (Contains-append_left (windows_out old.out) (piece.window ∷ []) v in_out))
    ]

    was_ready : (v : Bounds) → Contains (piece.window ∷ new.ready) v → Contains (held_windows old) v
    was_ready v c = Contains-append_left old.ready (windows_out old.out) v (Contains-permutation (piece.window ∷ new.ready) old.ready v (IsPermutation-sym old.ready (piece.window ∷ new.ready) ready) c)

    back : (v : Bounds) → Contains (held_windows new) v → Contains (held_windows old) v
    back v c = elim (Contains-append_cases new.ready (windows_out new.out) v c) [
      | inl in_ready ↦ was_ready v (member_later piece.window new.ready v in_ready)
      | inr in_out ↦ elim (Contains-push_cases (windows_out old.out) piece.window v (subst (λ (xs : List Bounds). Contains xs v) outs in_out)) [
        | inl still ↦ Contains-append_right old.ready (windows_out old.out) v still
        | inr moved ↦ was_ready v (member_first piece.window new.ready v moved)
      ]
    ]

-- a piece comes back, with what is left of its window
pub kept_back : (p : Project) (piece : PieceOut) (windows : List Bounds) (old new : QuestionRow) → IsBack piece windows old new → IsRestOf p old.question.capacities piece.window windows → IsKept p old → IsKept p new
kept_back p piece windows old new (same, ready, out) rest h =
    subst (λ (q : Question). IsRestOf p q.capacities q.window (held_windows new)) (sym same) (record { covers = covers; inside = inside; bounds = bounds })
  where
    outs : IsPermutation (windows_out old.out) (piece.window ∷ windows_out new.out)
    outs = IsPermutation-map (λ (o : PieceOut). o.window) old.out (piece ∷ new.out) out

    was_out : (v : Bounds) → Contains (piece.window ∷ windows_out new.out) v → Contains (held_windows old) v
    was_out v c = Contains-append_right old.ready (windows_out old.out) v (Contains-permutation (piece.window ∷ windows_out new.out) (windows_out old.out) v (IsPermutation-sym (windows_out old.out) (piece.window ∷ windows_out new.out) outs) c)

    here : Contains (held_windows old) piece.window
    here = was_out piece.window (member_first piece.window (windows_out new.out) piece.window refl)

    in_ready : (v : Bounds) → Contains (old.ready ++ windows) v → Contains (held_windows new) v
    in_ready v c = Contains-append_left new.ready (windows_out new.out) v (rw ready c)

    covers : WindowsCover p old.question.capacities old.question.window (held_windows new)
    covers starts answer =
        let found = h.covers starts answer in
        elim (Contains-append_cases old.ready (windows_out old.out) found.0 found.1) [
          | inl still ↦ (found.0, in_ready found.0 (Contains-append_left old.ready windows found.0 still), found.2)
          | inr was ↦ elim (member_cases piece.window (windows_out new.out) found.0 (Contains-permutation (windows_out old.out) (piece.window ∷ windows_out new.out) found.0 outs was)) [
            | inl this ↦
                let part = rest.covers starts (record { lies = subst (λ (v : Bounds). LiesIn p v starts) (sym this) found.2; fits = answer.fits }) in
                (part.0, in_ready part.0 (Contains-append_right old.ready windows part.0 part.1), part.2)
            | inr other ↦ (found.0, Contains-append_right new.ready (windows_out new.out) found.0 other, found.2)
          ]
        ]

    cases : (v : Bounds) → Contains (held_windows new) v → Contains (held_windows old) v ⊎ Contains windows v
    cases v c = elim (Contains-append_cases new.ready (windows_out new.out) v c) [
      | inl open_there ↦ elim (Contains-append_cases old.ready windows v (subst (λ (xs : List Bounds). Contains xs v) ready open_there)) [
        | inl still ↦ inl (Contains-append_left old.ready (windows_out old.out) v still)
        | inr part ↦ inr part
      ]
      | inr out_there ↦ inl (was_out v (member_later piece.window (windows_out new.out) v out_there))
    ]

    inside : (v : Bounds) → Contains (held_windows new) v → IsInside p old.question.window v
    inside v c = elim (cases v c) [
      | inl was ↦ h.inside v was
      | inr part ↦ inside_trans p old.question.window piece.window v (h.inside piece.window here) (rest.inside v part)
    ]

    bounds : (v : Bounds) → Contains (held_windows new) v → HasBounds p v
    bounds v c = elim (cases v c) [ inl was ↦ h.bounds v was | inr part ↦ rest.bounds v part ]

-- the window of a piece that is out is held
pub out_held : (piece : PieceOut) (row : QuestionRow) → Contains row.out piece → Contains (held_windows row) piece.window
out_held piece row c = Contains-append_right row.ready (windows_out row.out) piece.window (mapped row.out c)
  where
    mapped : (out : List PieceOut) → Contains out piece → Contains (windows_out out) piece.window
    mapped [] c = absurd (no_member piece c)
    mapped (o ∷ out) c = elim (member_cases o out piece c) [
      | inl same ↦ member_first o.window (windows_out out) piece.window (ap (λ (x : PieceOut). x.window) same)
      | inr later ↦ member_later o.window (windows_out out) piece.window (mapped out later)
    ]

-- a question of which nothing is open or out is a no
pub done_no : (p : Project) (row : QuestionRow) → IsKept p row → IsDone row → (starts : List ℕ) → Answers p row.question.capacities row.question.window starts → ⊥
done_no p row h (ready, out) starts answer =
    let found = h.covers starts answer in
    elim (Contains-append_cases row.ready (windows_out row.out) found.0 found.1) [
      | inl c ↦ no_member found.0 (subst (λ (xs : List Bounds). Contains xs found.0) ready c)
      | inr c ↦ no_member found.0 (subst (λ (xs : List PieceOut). Contains (windows_out xs) found.0) out c)
    ]
