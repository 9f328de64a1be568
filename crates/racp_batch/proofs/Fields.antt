-- The fields of a row, one after another.
use Rattle.std.proofs.Common.{◌≡◌, ◌∙◌, ◌++◌, ◌∷◌, [], ℕ, List, ap, append_assoc}
use Rattle.racp_calendar.specs.declared.calendar.Calendar.{Calendar}
use Rattle.racp_batch.specs.Cases.{Matter}
use Rattle.racp_batch.specs.Lines.{day_fields, fields_with, known, number_fields, seconds_by, status_word}
use Rattle.racp_batch.specs.declared.cells.Cells.{Cells}

-- what stands behind some fields
behind : (front numbers : List (List ℕ)) (status time fault : List ℕ) → (((front ++ status ∷ []) ++ numbers) ++ time ∷ []) ++ fault ∷ [] ≡ front ++ (status ∷ (numbers ++ (time ∷ (fault ∷ []))))
behind front numbers status time fault = simp append_assoc

-- the fields of a row, each after those before it
pub fields_grown : (calendar : Calendar) (matter : Matter) (cells : Cells) (fault : List ℕ) (named jobs resources word deadline day status numbers time whole : List (List ℕ)) → named ≡ matter.name ∷ [] → jobs ≡ named ++ known cells.jobs ∷ [] → resources ≡ jobs ++ known cells.resources ∷ [] → word ≡ resources ++ matter.word ∷ [] → deadline ≡ word ++ known cells.deadline ∷ [] → day ≡ deadline ++ day_fields calendar cells.deadline → status ≡ day ++ status_word cells.status ∷ [] → numbers ≡ status ++ number_fields cells → time ≡ numbers ++ seconds_by cells.milliseconds ∷ [] → whole ≡ time ++ fault ∷ [] → whole ≡ fields_with calendar matter cells fault
fields_grown calendar matter cells fault named jobs resources word deadline day status numbers time whole e1 e2 e3 e4 e5 e6 e7 e8 e9 e10 =
    let to2 = e2 ∙ ap (λ (f : List (List ℕ)). f ++ known cells.jobs ∷ []) e1 in
    let to3 = e3 ∙ ap (λ (f : List (List ℕ)). f ++ known cells.resources ∷ []) to2 in
    let to4 = e4 ∙ ap (λ (f : List (List ℕ)). f ++ matter.word ∷ []) to3 in
    let to5 = e5 ∙ ap (λ (f : List (List ℕ)). f ++ known cells.deadline ∷ []) to4 in
    let to6 = e6 ∙ ap (λ (f : List (List ℕ)). f ++ day_fields calendar cells.deadline) to5 in
    let to7 = e7 ∙ ap (λ (f : List (List ℕ)). f ++ status_word cells.status ∷ []) to6 in
    let to8 = e8 ∙ ap (λ (f : List (List ℕ)). f ++ number_fields cells) to7 in
    let to9 = e9 ∙ ap (λ (f : List (List ℕ)). f ++ seconds_by cells.milliseconds ∷ []) to8 in
    let to10 = e10 ∙ ap (λ (f : List (List ℕ)). f ++ fault ∷ []) to9 in
    to10 ∙ ap (λ (rest : List (List ℕ)). matter.name ∷ (known cells.jobs ∷ (known cells.resources ∷ (matter.word ∷ (known cells.deadline ∷ rest)))))
    (behind (day_fields calendar cells.deadline) (number_fields cells) (status_word cells.status) (seconds_by cells.milliseconds) fault)
