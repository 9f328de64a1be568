-- What an order is wanted to say, as a table and as terms.
use Rattle.std.specs.Prelude.{ℕ, pos, min, ◌||◌, Bool, List, length, map, replicate, Option, Some, None, is_some, option_map, unwrap_or, codes, if◌then◌else◌}
use Rattle.toml.specs.Data.{Data, integer, array, Members, no_members, member}
use Rattle.toml.specs.View.{items_of}
use Rattle.racp_model.specs.Project.{Project}
use Rattle.racp_model.specs.Terms.{Terms}

-- the deadline; for each resource the price of a unit, perhaps the units that are owned already, and perhaps the most units
-- that there may be; for each job perhaps the time from which it may start, and perhaps that by which it has to end
pub record Wish : Type 0 where
  pub deadline : ℕ
  pub prices : List ℕ
  pub owned : Option (List ℕ)
  pub ceilings : Option (List ℕ)
  pub release : Option (List ℕ)
  pub due : Option (List ℕ)

-- an array of whole numbers
unfoldable pub numbers_array : List ℕ → Data
numbers_array numbers = array (items_of (map (λ n. integer (pos n)) numbers))

-- a key before others, if it has a value
abbrev pub optional_member : List ℕ → Option Data → Members → Members
optional_member key None others = others
optional_member key (Some value) others = member key value others

-- whether more is wanted than a deadline and prices
abbrev pub says_more : Wish → Bool
says_more wish = is_some wish.owned || is_some wish.ceilings || is_some wish.release || is_some wish.due

-- the version that an order needs: the second if it says more than a deadline and prices
abbrev pub needed_version : Wish → Option Data
needed_version wish = if says_more wish then Some (integer (pos 2)) else None

-- the table with just these values; the keys of a table stand in the order of the alphabet
unfoldable pub table_of : Wish → Members
table_of wish =
    optional_member (codes "ceiling") (option_map numbers_array wish.ceilings)
    (member (codes "deadline") (integer (pos wish.deadline))
    (optional_member (codes "due") (option_map numbers_array wish.due)
    (optional_member (codes "owned") (option_map numbers_array wish.owned)
    (member (codes "prices") (numbers_array wish.prices)
    (optional_member (codes "release") (option_map numbers_array wish.release)
    (optional_member (codes "version") (needed_version wish) no_members))))))

-- the terms for a project: if nothing else is wanted, no unit is owned, and each job may run from 0 to the deadline
abbrev pub terms_of : Project → Wish → Terms
terms_of p wish = record {
  deadline = wish.deadline;
  prices = wish.prices;
  owned = unwrap_or wish.owned (replicate p.resources 0);
  ceilings = wish.ceilings;
  release = unwrap_or wish.release (replicate (length p.jobs) 0);
  due = unwrap_or wish.due (replicate (length p.jobs) wish.deadline);
}

-- the same terms as they are read: a due time above the deadline counts as the deadline
abbrev pub read_terms : Project → Wish → Terms
read_terms p wish = record {
  deadline = wish.deadline;
  prices = wish.prices;
  owned = (terms_of p wish).owned;
  ceilings = wish.ceilings;
  release = (terms_of p wish).release;
  due = map (min wish.deadline) (terms_of p wish).due;
}
