-- What was read by steps that went on to the end.
use Rattle.std.proofs.Common.{◌≡◌, refl, ap, Bool, true, false, cond, subst, Ok, Err}
use Rattle.std.specs.Prelude.{Result}
use Rattle.racp_model.specs.Steps.{◌>>=◌}

-- reading stopped
abbrev pub IsFault : {A E : Type 0} → Result A E → Type 0
IsFault (Ok x) = ⊥
IsFault (Err fault) = Unit {0}

-- what was read before, where reading went on to its end
pub bind_ok : {A B E : Type 0} (r : Result A E) (next : A → Result B E) (y : B) → (r >>= next) ≡ Ok y → (x : A) × (r ≡ Ok x) × (next x ≡ Ok y)
bind_ok (Ok x) next y e = (x, refl, e)
bind_ok (Err fault) next y e = absurd (subst IsFault e tt)

abbrev ok_or : {A E : Type 0} → A → Result A E → A
ok_or other (Ok x) = x
ok_or other (Err fault) = other

pub same_ok : {A E : Type 0} (x y : A) → let one : Result A E = Ok x in one ≡ Ok y → x ≡ y
same_ok x y e = ap (ok_or x) e

-- what was tested where a test let something through
pub chosen : {A E : Type 0} (b : Bool) (x y : A) (fault : E) → let read : Result A E = cond b (Ok x) (Err fault) in read ≡ Ok y → (b ≡ true) × (x ≡ y)
chosen true x y fault e = (refl, same_ok x y e)
chosen false x y fault e = absurd (subst IsFault e tt)
