-- A label that grows letter by letter.
use Rattle.std.proofs.Common.{◌≡◌, ◌∙◌, ℕ, ◌<◌, ◌≤◌, List, [], ◌∷◌, ◌++◌, Option, Some, false, length, drop, chars, encode_utf8, map-id, refl, ap, sym, subst, append_assoc}
use Rattle.std.specs.Iterator.{Yields}
use Rattle.std.proofs.lemmas.Bool.{cond-true, cond-false, lt-ltb, le-ltb}
use Rattle.std.proofs.lemmas.List.{take-append-drop}
use Rattle.std.proofs.lemmas.Iterator.{YieldsList}
use Rattle.std.proofs.lemmas.Iterator.Consumers.{YieldsList-so_far}
use Rattle.unicode_width.specs.Width.{str_width}
use Rattle.racp_show.specs.Labels.{fitting}

-- the label goes on from the letters so far
abbrev pub GoesOn : ℕ → List ℕ → List ℕ → Type 0
GoesOn most done label = (letters : List ℕ) → fitting most [] (done ++ letters) ≡ fitting most label letters

module _ (most letter : ℕ) (done label longer : List ℕ) (before : GoesOn most done label) (is : longer ≡ label ++ encode_utf8 letter) where
  -- the next letter fits
  pub letter_fits : str_width false (chars longer) ≤ most → GoesOn most (done ++ letter ∷ []) longer
  letter_fits within letters =
      let fits : str_width false (chars (label ++ encode_utf8 letter)) ≤ most = subst (λ (bytes : List ℕ). str_width false (chars bytes) ≤ most) is within in
      ap (fitting most []) (append_assoc done (letter ∷ []) letters) ∙ before (letter ∷ letters) ∙ cond-false _ _ _ (le-ltb most _ fits)
      ∙ ap (λ (bytes : List ℕ). fitting most bytes letters) (sym is)

  -- it does not
  pub letter_is_left : (all rest : List ℕ) → most < str_width false (chars longer) → all ≡ (done ++ letter ∷ []) ++ rest → label ≡ fitting most [] all
  letter_is_left all rest past whole =
      let fits : most < str_width false (chars (label ++ encode_utf8 letter)) = subst (λ (bytes : List ℕ). most < str_width false (chars bytes)) is past in
      sym (ap (fitting most []) (whole ∙ append_assoc done (letter ∷ []) rest) ∙ before (letter ∷ rest) ∙ cond-true _ _ _ (lt-ltb most _ fits))

-- one more comes
yields_on : {S A : Type 0} (steps : S → Option A → S → Type 0) (s t u : S) (xs : List A) (x : A) → Yields steps s xs t → steps t (Some x) u → Yields steps s (xs ++ x ∷ []) u
yields_on steps s t u [] x same step = (u, subst (λ (r : _). steps r (Some x) u) (sym same) step, refl)
yields_on steps s t u (y ∷ ys) x more step = (more.0, more.1, yields_on steps more.0 t u ys x more.2 step)

-- what came so far is the beginning of all that comes
pub letters_so_far : {S : Type 0} {steps : S → Option ℕ → S → Type 0} {s : S} {all : List ℕ} (e : YieldsList steps (λ letter. letter) s all) (xs : List ℕ) (x : ℕ) (t u : S) → Yields steps s xs t → steps t (Some x) u → all ≡ (xs ++ x ∷ []) ++ drop (length (xs ++ x ∷ [])) all
letters_so_far {S} {steps} {s} {all} e xs x t u so_far step =
    let front = YieldsList-so_far e (xs ++ x ∷ []) u (yields_on steps s t u xs x so_far step) in
    sym (take-append-drop (length (xs ++ x ∷ [])) all) ∙ ap (λ (letters : List ℕ). letters ++ drop (length (xs ++ x ∷ [])) all) (sym front ∙ map-id (xs ++ x ∷ []))
