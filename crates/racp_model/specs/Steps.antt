-- Reading step by step, for the readers of all texts.
use Rattle.std.specs.Prelude.{Result, Ok, Err}

-- reading goes on with what was read, or stops at a fault
infixl 10 ◌>>=◌
abbrev pub ◌>>=◌ : {A B E : Type 0} → Result A E → (A → Result B E) → Result B E
(Ok x) >>= next = next x
(Err fault) >>= next = Err fault
