-- Orders with one term changed, and which changes are asked about.
use Rattle.std.specs.Prelude.{ℕ, zero, suc, ◌+◌, ◌==◌, ◌<◌, ◌≤◌, List, [], ◌∷◌, ◌++◌, length, map, min, replicate, set, Some, IfSome, unwrap_or, nat_lt, if◌then◌else◌}
use Rattle.racp_model.specs.Limits.{latest_time, most_units}
use Rattle.racp_model.specs.Terms.{Terms}
use Rattle.racp_whatif.specs.declared.change.Change.{Change}
use Rattle.racp_whatif.specs.declared.change.Change.TheVariants.{Ceiling, Owned, Deadline}

-- an order with so many units at most of the resource at a place. If it has no ceilings, those of the others are the most units that an
-- order may say
abbrev pub with_ceiling : ℕ → ℕ → Terms → Terms
with_ceiling place units terms = record {
  deadline = terms.deadline;
  prices = terms.prices;
  owned = terms.owned;
  ceilings = Some (set (unwrap_or terms.ceilings (replicate (length terms.prices) most_units)) place units);
  release = terms.release;
  due = terms.due;
}

-- an order with so many owned units of the resource at a place
abbrev pub with_owned : ℕ → ℕ → Terms → Terms
with_owned place units terms = record {
  deadline = terms.deadline;
  prices = terms.prices;
  owned = set terms.owned place units;
  ceilings = terms.ceilings;
  release = terms.release;
  due = terms.due;
}

-- a due time if the deadline is moved: one that is the deadline is moved with it
abbrev pub moved : ℕ → ℕ → ℕ → ℕ
moved old new due = if due == old then new else due

-- an order with another deadline, which is also the due time of each job that was due at the old one
abbrev pub with_deadline : ℕ → Terms → Terms
with_deadline deadline terms = record {
  deadline = deadline;
  prices = terms.prices;
  owned = terms.owned;
  ceilings = terms.ceilings;
  release = terms.release;
  due = map (moved terms.deadline deadline) terms.due;
}

-- the order with one term changed
abbrev pub changed : Change → Terms → Terms
changed (Ceiling place units) terms = with_ceiling place units terms
changed (Owned place units) terms = with_owned place units terms
changed (Deadline deadline) terms = with_deadline deadline terms

-- the change is about a resource of the order, and to a number that an order may say
abbrev pub IsChangeFor : Terms → Change → Type 0
IsChangeFor terms (Ceiling place units) =
    (place < length terms.prices) × (units ≤ most_units) × IfSome terms.ceilings (λ ceilings. place < length ceilings)
IsChangeFor terms (Owned place units) = (place < length terms.owned) × (units ≤ most_units)
IsChangeFor terms (Deadline deadline) = deadline ≤ latest_time

-- one unit fewer than there are of the resource at a place, if there is one, but no more than an order may say
abbrev pub one_fewer : ℕ → ℕ → List Change
one_fewer place zero = []
one_fewer place (suc units) = Ceiling place (min units most_units) ∷ []

-- one unit fewer of each resource, the first of them at this place
abbrev pub each_fewer : ℕ → List ℕ → List Change
each_fewer place [] = []
each_fewer place (units ∷ rest) = one_fewer place units ++ each_fewer (place + 1) rest

-- one owned unit more of the resource at a place, if an order may say as many
abbrev pub one_owned : ℕ → ℕ → List Change
one_owned place units = if nat_lt units most_units then Owned place (units + 1) ∷ [] else []

-- one owned unit more of each resource, the first of them at this place
abbrev pub each_owned : ℕ → List ℕ → List Change
each_owned place [] = []
each_owned place (units ∷ rest) = one_owned place units ++ each_owned (place + 1) rest

-- one time unit earlier, if there is one
abbrev pub earlier : ℕ → List Change
earlier zero = []
earlier (suc deadline) = Deadline deadline ∷ []

-- one time unit later, if an order may say as late
abbrev pub later : ℕ → List Change
later deadline = if nat_lt deadline latest_time then Deadline (deadline + 1) ∷ [] else []

-- what is asked about an order and capacities: one unit fewer of each resource, one owned unit more of each, and a deadline one time unit
-- earlier and later
abbrev pub changes_of : Terms → List ℕ → List Change
changes_of terms capacities =
    each_fewer 0 capacities ++ (each_owned 0 terms.owned ++ (earlier terms.deadline ++ later terms.deadline))
