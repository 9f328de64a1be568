-- Pieces of one question that go out and come back.
use Rattle.std.proofs.Common.{◌≡◌, ◌∙◌, ℕ, ◌+◌, ◌-◌, ◌<◌, List, [], ◌∷◌, ◌++◌, length, slice_index_or, IsPermutation, ap, arith, refl, length-append}
use Rattle.std.specs.List.{swap_remove}
use Rattle.std.proofs.lemmas.List.Sorted.{IsPermutation-swap_remove, IsPermutation-to_front}
use Rattle.std.proofs.lemmas.List.{get_or_read, get_or_push}
use Rattle.racp_model.specs.Window.{Bounds}
use Rattle.racp_model.specs.declared.question.Question.{Question}
use Rattle.racp_search.specs.Truth.{SearchPiece}
use Rattle.racp_core.specs.Machine.{PieceOut, QuestionRow}
use Rattle.racp_core.specs.Rows.{no_out, IsCut}

-- what is left when one is taken out of a list
pub taken_out : (out left : List PieceOut) (at : ℕ) (x : PieceOut) → at < length out → x ≡ slice_index_or out at x → left ≡ swap_remove out at x → IsPermutation out (slice_index_or out at no_out ∷ left)
taken_out out left at x l here e = rw (e, ← get_or_read out at x l here no_out) (IsPermutation-swap_remove out at x l here)

-- the last of some windows
pub last_of : (xs ys : List Bounds) (w d : Bounds) (n : ℕ) → xs ≡ ys ++ w ∷ [] → n ≡ length xs → slice_index_or xs (n - 1) d ≡ w
last_of xs ys w d n e m =
    let long : length xs ≡ length ys + 1 = ap (λ (zs : List Bounds). length zs) e ∙ length-append ys (w ∷ []) in
    let at : length ys ≡ n - 1 = omega arith in
    rw e (get_or_push ys w d (n - 1) at)

-- the last open window goes out
pub cut : (number seat index : ℕ) (old new : QuestionRow) (piece : SearchPiece) (question : Question) → piece ≡ record { number = number; seat = seat; index = index; question = question } → question.capacities ≡ old.question.capacities → new.question ≡ old.question →
    old.ready ≡ new.ready ++ question.window ∷ [] → new.out ≡ old.out ++ record { number = number; seat = seat; window = question.window } ∷ [] → IsCut number seat index old piece new
cut number seat index old new piece question is same kept ready out = rw is (record {
  numbered = refl;
  seated = refl;
  placed = refl;
  capacities = same;
  sent = (kept, rw ready (IsPermutation-to_front new.ready question.window), out);
})
