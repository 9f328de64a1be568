use Rattle.std.proofs.Common.{◌≡◌, drop}
use Rattle.std.specs.Prelude.{◌==◌, not}
use Rattle.std.specs.List.{position_from}
use Rattle.racp_tables.proofs.names.other_sign.Given as goal

abbrev pub invariant-loop-i : goal.invariant-loop-i
invariant-loop-i l = position_from (λ sign. not (sign == 35)) l.i (drop l.i l.name) ≡ position_from (λ sign. not (sign == 35)) 0 l.name
