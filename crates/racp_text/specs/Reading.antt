-- What reading answers, and what it leaves.
use Rattle.std.specs.Prelude.{◌≡◌, Result, Ok, Err}

-- a result, with what is left to read
abbrev pub with_rest : {X Y R E : Type 0} → (X → Y) → Result X E → R → Result (Y × R) E
with_rest view (Ok x) rest = Ok (view x, rest)
with_rest view (Err fault) rest = Err fault

-- reading answers a thing, which is kept like this, and what is left to read
abbrev pub Gives : {X Y R E : Type 0} → (X → Y → Type 0) → Result X E → R → Result (Y × R) E → Type 0
Gives {X} {Y} keeps (Ok x) rest read = (y : Y) × (read ≡ Ok (y, rest)) × keeps x y
Gives keeps (Err fault) rest read = read ≡ Err fault
