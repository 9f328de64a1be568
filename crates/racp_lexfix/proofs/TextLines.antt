-- Lines in the pieces in which they are written.
use Rattle.std.proofs.Common.{◌≡◌, ℕ, ◌++◌, append_assoc, codes}
use Rattle.std.specs.Fmt.{decimal}
use Rattle.racp_plan.specs.Texts.{line}
use Rattle.racp_lexfix.specs.Texts.{impossible_line, due_line}

pub impossible_line_pieces : (critical deadline : ℕ) → codes "impossible critical " ++ (decimal critical ++ (codes " deadline " ++ (decimal deadline ++ codes "\n"))) ≡ impossible_line critical deadline
unfolding line impossible_line
impossible_line_pieces critical deadline = simp append_assoc

pub due_line_pieces : (job : ℕ) → codes "impossible due " ++ (decimal job ++ codes "\n") ≡ due_line job
unfolding line due_line
due_line_pieces job = simp append_assoc
