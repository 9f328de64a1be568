-- Problems of which one is part of another.
use Rattle.std.proofs.Common.{◌≡◌, ◌≤◌, ℕ, refl, arith, subst}
use Rattle.racp_model.specs.Window.{Bounds}
use Rattle.racp_clauses.specs.Solutions.{Problem}
use Rattle.racp_clauses.specs.Roots.{IsPartOf, LieWithin}
use Rattle.racp_by_clauses.specs.Optima.{AreAkin}

-- akin problems are so where the root bounds of one lie within those of the other
pub part_of : (part whole : Problem) (inner outer : Bounds) → AreAkin part whole → inner ≡ part.root → outer ≡ whole.root → LieWithin inner outer → IsPartOf part whole
part_of part whole inner outer akin of_inner of_outer lie = record {
  network = akin.network;
  prices = akin.prices;
  owned = akin.owned;
  root = subst (λ (b : Bounds). LieWithin part.root b) of_outer (subst (λ (b : Bounds). LieWithin b outer) of_inner lie);
}

-- each is part of itself
pub part_of_itself : (q : Problem) → IsPartOf q q
part_of_itself q = record {
  network = refl;
  prices = refl;
  owned = refl;
  root = record {
    places = refl;
    lower = λ x l. omega arith;
    upper = λ x l. omega arith;
  };
}
