-- Which marks are nested.
use Rattle.std.specs.Prelude.{◌≡◌, ℕ, List, [], ◌∷◌, ◌++◌, map}
use Rattle.std.specs.Borrow.{Bor}
use Rattle.racp_xml.specs.declared.mark.Kind.{Kind}
use Rattle.racp_xml.specs.declared.mark.Kind.TheVariants.{Opens, Closes, Empty, Passed}
use Rattle.racp_xml.specs.declared.mark.Mark.{Mark}

-- a name
abbrev pub name_of : Bor (List ℕ) → List ℕ
name_of name = name.now

-- the names of the open elements before a mark of a kind and a name, and behind it: it opens one more, or closes the last one
abbrev pub IsStep : Kind → List ℕ → List (List ℕ) → List (List ℕ) → Type 0
IsStep Opens name before after = after ≡ before ++ name ∷ []
IsStep Closes name before after = before ≡ after ++ name ∷ []
IsStep Empty name before after = after ≡ before
IsStep Passed name before after = after ≡ before

abbrev pub IsOpenAfter : Mark → List (Bor (List ℕ)) → List (Bor (List ℕ)) → Type 0
IsOpenAfter mark before after = IsStep mark.kind mark.name.now (map name_of before) (map name_of after)

-- the same before and behind some marks
abbrev pub AreSteps : List (List ℕ) → List Mark → List (List ℕ) → Type 0
AreSteps before [] after = after ≡ before
AreSteps before (mark ∷ marks) after = (between : List (List ℕ)) × IsStep mark.kind mark.name.now before between × AreSteps between marks after

-- the same for the elements that a reader holds open
abbrev pub IsNested : List (List ℕ) → List Mark → List (Bor (List ℕ)) → Type 0
IsNested before marks opened = AreSteps before marks (map name_of opened)

-- each mark that closes an element closes the last one that is open, and behind all marks none is
abbrev pub AreNested : List Mark → Type 0
AreNested marks = AreSteps [] marks []
