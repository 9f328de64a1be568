-- What is read line by line.
use Rattle.std.proofs.Common.{◌≡◌, ◌∙◌, ◌++◌, ◌∷◌, [], ℕ, List, ap, fold, map}
use denote.Ref.{Bor}
use Rattle.std.proofs.lemmas.List.{map-append}
use Rattle.std.proofs.lemmas.List.Sums.{fold_push}
use Rattle.racp_show.specs.Called.{printed}

-- one more line is taken in
pub fold_line : {S : Type 0} (f : S → List ℕ → S) (s : S) (lines : List (Bor (List ℕ))) (line : Bor (List ℕ)) →
    fold f s (map printed (map (λ (line : Bor (List ℕ)). line.now) (lines ++ line ∷ []))) ≡
    f (fold f s (map printed (map (λ (line : Bor (List ℕ)). line.now) lines))) (printed line.now)
fold_line f s lines line =
    let texts = map (λ (line : Bor (List ℕ)). line.now) lines in
    ap (λ (xs : List (List ℕ)). fold f s (map printed xs)) (map-append (λ (line : Bor (List ℕ)). line.now) lines (line ∷ []))
    ∙ ap (fold f s) (map-append printed texts (line.now ∷ []))
    ∙ fold_push f s (map printed texts) (printed line.now)
