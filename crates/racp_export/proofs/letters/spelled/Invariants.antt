use Rattle.std.proofs.Common.{◌≡◌, flat_map, string_bytes}
use Rattle.racp_export.specs.Letters.{letter_text}
use Rattle.racp_export.proofs.letters.spelled.Given as goal

abbrev pub invariant-loop-letter : goal.invariant-loop-letter
invariant-loop-letter l = string_bytes l.text ≡ flat_map (letter_text l.letters) l.yielded
