-- Lines in the pieces in which they are written.
use Rattle.std.proofs.Common.{◌≡◌, ℕ, ◌++◌, append_assoc, codes}
use Rattle.std.specs.Fmt.{decimal}
use Rattle.racp_plan.specs.Texts.{line}
use Rattle.racp_soonest.specs.Texts.{known_line, open_line}

pub known_line_pieces : (least known : ℕ) → codes "stopped deadline " ++ (decimal least ++ (codes " to " ++ (decimal known ++ codes "\n"))) ≡ known_line least known
unfolding line known_line
known_line_pieces least known = simp append_assoc

pub open_line_pieces : (least : ℕ) → codes "stopped deadline " ++ (decimal least ++ codes "\n") ≡ open_line least
unfolding line open_line
open_line_pieces least = simp append_assoc
