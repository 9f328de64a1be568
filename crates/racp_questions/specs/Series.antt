-- Lists of questions that are given one by one.
use Rattle.std.specs.Prelude.{◌≡◌, List, [], ◌∷◌, Option, Some, None, Result, Ok, Err}
use Rattle.std.specs.declared.alloc.AllocError.{AllocError}
use Rattle.racp_model.specs.declared.question.Question.{Question}

-- the first question was taken off a list, or the list is empty; if memory was refused, the list is as before
abbrev pub IsNextQuestion : List Question → List Question → Result (Option Question) AllocError → Type 0
IsNextQuestion before after (Ok (Some question)) = before ≡ question ∷ after
IsNextQuestion before after (Ok None) = (before ≡ []) × (after ≡ [])
IsNextQuestion before after (Err _) = after ≡ before
