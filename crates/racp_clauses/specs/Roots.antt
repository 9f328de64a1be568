-- The root bounds of an order, which leave nothing out; and problems of which one is part of another.
use Rattle.std.specs.Prelude.{◌≡◌, ℕ, ◌<◌, ◌≤◌, List, length, slice_index}
use Rattle.racp_model.specs.Project.{Project}
use Rattle.racp_model.specs.Schedule.{KeepsPrecedence, IsInTime, roof}
use Rattle.racp_model.specs.Terms.{Terms, AreTermsOf, release_of, due_of, cost}
use Rattle.racp_model.specs.Plan.{IsEnough}
use Rattle.racp_model.specs.Window.{Bounds, LiesIn, IsRootWindow}
use Rattle.racp_prices.specs.Units.{AreMostUnits, cut_to}
use Rattle.racp_clauses.specs.Solutions.{Problem, HasPlaces, values, units_place, cost_place}

-- the root bounds leave nothing out: whatever is in time lies in them, with the units of each vector that is enough, as
-- far as they are of use, and with what these cost
pub record IsOpen (q : Problem) : Type 0 where
  pub terms : AreTermsOf q.network q.terms
  pub places : HasPlaces q.network q.root
  pub starts : (starts : List ℕ) → length starts ≡ length q.network.jobs → KeepsPrecedence q.network starts →
      IsInTime q.network (release_of q.terms) (due_of q.terms) starts → LiesIn q.network q.root starts
  pub least_units : (capacities : List ℕ) → IsEnough q.network q.terms capacities → (k : ℕ) → k < q.network.resources →
      slice_index q.root.lower (units_place q.network k) ≤ slice_index capacities k
  pub most_units : (k : ℕ) → k < q.network.resources →
      cut_to q.terms.ceilings k (roof q.network k) ≤ slice_index q.root.upper (units_place q.network k)
  pub least_cost : (capacities : List ℕ) → IsEnough q.network q.terms capacities →
      slice_index q.root.lower (cost_place q.network) ≤ cost q.terms capacities
  pub most_cost : (capacities : List ℕ) → length capacities ≡ q.network.resources →
      ((k : ℕ) → k < q.network.resources → slice_index capacities k ≤ cut_to q.terms.ceilings k (roof q.network k)) →
      cost q.terms capacities ≤ slice_index q.root.upper (cost_place q.network)

-- units that are needed: a number for each resource, at most the roof, below which no capacities are enough
pub record AreNeeded (p : Project) (terms : Terms) (floors : List ℕ) : Type 0 where
  pub places : length floors ≡ p.resources
  pub roofs : (k : ℕ) → k < p.resources → slice_index floors k ≤ roof p k
  pub least : (capacities : List ℕ) → IsEnough p terms capacities → (k : ℕ) → k < p.resources →
      slice_index floors k ≤ slice_index capacities k

-- the root bounds of an order: from the values of the least starts of its root window and the floors to those of its
-- greatest starts and the most units that can be of use
pub record IsRootOf (p : Project) (terms : Terms) (window : Bounds) (floors : List ℕ) (root : Bounds) : Type 0 where
  pub lower : root.lower ≡ values terms window.lower floors
  pub most : (units : List ℕ) × AreMostUnits p terms units × (root.upper ≡ values terms window.upper units)

-- bounds lie within others: no lower bound is lower, and no upper one higher
pub record LieWithin (inner outer : Bounds) : Type 0 where
  pub places : length inner.lower ≡ length outer.lower
  pub lower : (x : ℕ) → x < length outer.lower → slice_index outer.lower x ≤ slice_index inner.lower x
  pub upper : (x : ℕ) → x < length outer.lower → slice_index inner.upper x ≤ slice_index outer.upper x

-- a problem is part of another: the same network and prices, and root bounds that lie within those of the other
pub record IsPartOf (part whole : Problem) : Type 0 where
  pub network : part.network ≡ whole.network
  pub prices : part.terms.prices ≡ whole.terms.prices
  pub owned : part.terms.owned ≡ whole.terms.owned
  pub root : LieWithin part.root whole.root

-- terms are tighter than others: the same prices, owned units and release times, no later deadline or due time, and no
-- higher ceiling
pub record IsTighter (tight wide : Terms) : Type 0 where
  pub prices : tight.prices ≡ wide.prices
  pub owned : tight.owned ≡ wide.owned
  pub release : tight.release ≡ wide.release
  pub due : (i : ℕ) → due_of tight i ≤ due_of wide i
  pub ceilings : (k x : ℕ) → cut_to tight.ceilings k x ≤ cut_to wide.ceilings k x
