-- The text of a curve, in ASCII. Each line ends with a line feed; numbers are decimal, without leading zeros.
use Rattle.std.specs.Prelude.{ℕ, List, [], ◌∷◌, ◌++◌, codes}
use Rattle.std.specs.Fmt.{decimal}
use Rattle.racp_plan.specs.Texts.{line}
use Rattle.racp_curve.specs.declared.step.Step.{Step}

-- each of these numbers after a blank
abbrev pub spaced : List ℕ → List ℕ
spaced [] = []
spaced (number ∷ numbers) = (codes " " ++ decimal number) ++ spaced numbers

-- `deadline T cost X capacity a1 a2 ..`, with the capacity of each resource
unfoldable pub step_line : Step → List ℕ
step_line step = line (codes "deadline " ++ decimal step.deadline ++ codes " cost " ++ decimal step.cost
    ++ codes " capacity" ++ spaced step.capacities)

-- a line for each step
abbrev pub step_lines : List Step → List ℕ
step_lines [] = []
step_lines (step ∷ rest) = step_line step ++ step_lines rest

-- a line for each step, and a last line
unfoldable pub curve_text : List Step → List ℕ
curve_text steps = step_lines steps ++ line (codes "end")
