-- Contracts of private functions: what the lines of a text say.
use Rattle.std.specs.Prelude.{◌≡◌, ◌⊎◌, ℕ, ◌≤◌, List, [], ◌∷◌, ◌++◌, length, All, Option, Some, None, Vec}
use Rattle.std.specs.Global.{Global}
use Rattle.std.specs.Fmt.{decimal}
use denote.Ref.{Bor}
use Rattle.racp_trees.specs.Texts.{step_line, step_number, vector_line, most_number}
use Rattle.racp_trees.specs.declared.step.Step.{Step}
use Rattle.racp_trees.specs.declared.step.Step.TheVariants.{C}

-- what stands after these words, or none if a text begins otherwise
abbrev pub IsBehind : List ℕ → List ℕ → Option (Bor (List ℕ)) → Type 0
IsBehind words text (Some rest) = text ≡ words ++ rest.now
IsBehind words text None = (rest : List ℕ) → text ≡ words ++ rest → ⊥

-- the number that digits spell, or none if they spell none up to the greatest
abbrev pub IsSpelled : List ℕ → Option ℕ → Type 0
IsSpelled digits (Some n) = (n ≤ most_number) × (digits ≡ decimal n)
IsSpelled digits None = (n : ℕ) → n ≤ most_number → digits ≡ decimal n → ⊥

-- the number that a text begins with and what stands after it and this byte, or none
abbrev pub IsNumberBefore : ℕ → List ℕ → Option (ℕ × Bor (List ℕ)) → Type 0
IsNumberBefore end text (Some x) = (x.0 ≤ most_number) × (text ≡ decimal x.0 ++ end ∷ x.1.now)
IsNumberBefore end text None = (n : ℕ) (rest : List ℕ) → n ≤ most_number → text ≡ decimal n ++ end ∷ rest → ⊥

-- the same after words
abbrev pub IsNumberOn : List ℕ → List ℕ → Option (ℕ × Bor (List ℕ)) → Type 0
IsNumberOn words text (Some x) = (x.0 ≤ most_number) × (text ≡ words ++ (decimal x.0 ++ 10 ∷ x.1.now))
IsNumberOn words text None = (n : ℕ) (rest : List ℕ) → n ≤ most_number → text ≡ words ++ (decimal n ++ 10 ∷ rest) → ⊥

-- the line of a tree that a text begins with, and what stands after it, or none
abbrev pub IsStepAnswer : List ℕ → Option (Step × Bor (List ℕ)) → Type 0
IsStepAnswer text (Some x) = (step_number x.0 ≤ most_number) × (text ≡ step_line x.0 ++ x.1.now)
IsStepAnswer text None = (step : Step) (more : List ℕ) → step_number step ≤ most_number → text ≡ step_line step ++ more → ⊥

-- the vector of this many numbers on the line that a text begins with, and what stands after it, or none
abbrev pub IsVectorAnswer : ℕ → List ℕ → Option (Vec ℕ Global × Bor (List ℕ)) → Type 0
IsVectorAnswer count text (Some x) =
    (length x.0.items ≡ count) × All (λ n. n ≤ most_number) x.0.items × (text ≡ vector_line x.0.items ++ x.1.now)
IsVectorAnswer count text None =
    (vector rest : List ℕ) → length vector ≡ count → All (λ n. n ≤ most_number) vector → text ≡ vector_line vector ++ rest → ⊥

-- what stands before a line
abbrev pub IsBeforeLine : List ℕ → Type 0
IsBeforeLine front = (front ≡ []) ⊎ ((more : List ℕ) × (front ≡ more ++ 10 ∷ []))

-- a line of a text names a node
pub record IsNamed (text : List ℕ) (node : ℕ) : Type 0 where
  pub front : List ℕ
  pub rest : List ℕ
  pub lines : IsBeforeLine front
  pub small : node ≤ most_number
  pub whole : text ≡ front ++ (step_line (C node) ++ rest)

-- the node that a line from a place on names
abbrev pub IsNamedAt : List ℕ → ℕ → Option ℕ → Type 0
IsNamedAt text at found =
    (front : List ℕ) (node : ℕ) (rest : List ℕ) → length front ≡ at → IsBeforeLine front → node ≤ most_number → text ≡ front ++ (step_line (C node) ++ rest) → found ≡ Some node
