-- What is kept of what is read, while there is memory for it.
use Rattle.std.specs.Prelude.{◌≡◌, List, ◌++◌, Option, Some, None}

-- if a thing is kept, it is this one; it is kept unless memory ran out
abbrev pub Keeps : {X Y : Type 0} → (X → Y) → Option X → Y → Type 0
Keeps view (Some x) y = view x ≡ y
Keeps view None y = Unit {0}

-- if the new list is kept, it is the old one and more things after it
abbrev pub KeepsMore : {X Y : Type 0} → (X → List Y) → Option X → Option X → List Y → Type 0
KeepsMore {X} {Y} view old new more = (ys : List Y) → Keeps view old ys → Keeps view new (ys ++ more)
