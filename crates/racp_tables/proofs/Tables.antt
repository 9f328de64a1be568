-- Names that are added to others.
use Rattle.std.proofs.Common.{◌≡◌, ℕ, List, [], ◌∷◌, ◌++◌, refl}
use Rattle.racp_tables.specs.Joined.{with_name, with_names}

-- names of two lists, one after the other
pub with_both : (names first second : List (List ℕ)) → with_names names (first ++ second) ≡ with_names (with_names names first) second
with_both names [] second = refl
with_both names (name ∷ first) second = with_both (with_name names name) first second
