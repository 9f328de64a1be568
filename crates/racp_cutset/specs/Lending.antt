-- What a value is once the loan of it has ended.
use Rattle.std.specs.Prelude.{◌≡◌, ⊤}
use Rattle.std.specs.Borrow.{Fml, RattleType, MutBor, follows_so}
use mathlib.Core.Option.{none}

-- it is what it was when it was lent
abbrev pub EndsAsLent : (R : RattleType) → MutBor R.Denot → R.Denot → Fml
EndsAsLent R s old = follows_so R R s.ghost_name none (λ _ _. ⊤) (λ new. new ≡ old)
