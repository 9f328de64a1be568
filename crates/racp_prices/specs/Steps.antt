-- Contracts of private functions: what a step of reading gives.
use Rattle.std.specs.Prelude.{◌≡◌, ◌⊎◌, ℕ, List, Option, Some, None, Result, Ok, Err, IsUtf8, String, codes, map, min, replicate}
use Rattle.std.specs.BTreeMap.{BTreeMap}
use Rattle.std.specs.declared.alloc.Global.{Global}
use Rattle.racp_model.specs.Limits.{latest_time, most_units}
use Rattle.racp_model.specs.Steps.{◌>>=◌}
use Rattle.racp_model.specs.Terms.{Terms}
use Rattle.toml.specs.Data.{Data, Members, get_member}
use Rattle.toml.specs.View.{table_view}
use Rattle.toml.specs.declared.value.Value.{Value}
use Rattle.racp_prices.specs.Orders.{IsToml, known_keys, number_of, numbers_of, optional_numbers, required, version_of}
use Rattle.racp_prices.specs.declared.fault.OrderFault.{OrderFault}
use Rattle.racp_prices.specs.declared.fault.OrderFault.TheVariants.{NotToml, Memory}

-- the step gives what is read, seen like this, or its fault, unless memory ran out
abbrev pub Gives : {X Y : Type 0} → (X → Y) → Result X OrderFault → Result Y OrderFault → Type 0
Gives view (Ok x) read = read ≡ Ok (view x)
Gives view (Err fault) read = (fault ≡ Memory) ⊎ (read ≡ Err fault)

-- the table of the text, or that it has none, unless the text is UTF-8 and memory ran out
abbrev pub IsTableRead : List ℕ → Result (BTreeMap (String Global) Value) OrderFault → Type 0
IsTableRead text (Ok table) = IsToml text (Some (table_view table))
IsTableRead text (Err fault) = ((fault ≡ NotToml) × IsToml text None) ⊎ (IsUtf8 text × (fault ≡ Memory))

-- the numbers that a value has, or the same one this many times if there is no value
unfoldable pub list_or : ℕ → ℕ → ℕ → Option Data → Result (List ℕ) OrderFault
list_or count most otherwise None = Ok (replicate count otherwise)
list_or count most otherwise (Some value) = numbers_of count most value

-- the terms about units: the prices, the owned units and the ceilings
unfoldable pub units_of : ℕ → Data → Members → Result (List ℕ × (List ℕ × Option (List ℕ))) OrderFault
units_of resources price_values table = do
  prices ← numbers_of resources 1000000 price_values
  owned ← list_or resources most_units 0 (get_member (codes "owned") table)
  ceilings ← optional_numbers resources most_units (get_member (codes "ceiling") table)
  Ok (prices, (owned, ceilings))

-- the terms about times: the release and the due times
unfoldable pub times_of : ℕ → ℕ → Members → Result (List ℕ × List ℕ) OrderFault
times_of jobs deadline table = do
  release ← list_or jobs latest_time 0 (get_member (codes "release") table)
  due ← list_or jobs latest_time deadline (get_member (codes "due") table)
  Ok (release, map (min deadline) due)

-- the terms of an order, from the deadline, the terms about units and those about times
abbrev pub joined : ℕ → List ℕ × (List ℕ × Option (List ℕ)) → List ℕ × List ℕ → Terms
joined deadline units times = record {
  deadline = deadline;
  prices = units.0;
  owned = units.1.0;
  ceilings = units.1.1;
  release = times.0;
  due = times.1;
}

-- the order that a table is, by the terms about units and those about times
unfoldable pub order_in_parts : ℕ → ℕ → Members → Result Terms OrderFault
order_in_parts resources jobs table = do
  version ← version_of (get_member (codes "version") table)
  deadline_value ← required (get_member (codes "deadline") table)
  price_values ← required (get_member (codes "prices") table)
  known ← known_keys version table
  deadline ← number_of latest_time deadline_value
  units ← units_of resources price_values known
  times ← times_of jobs deadline known
  Ok (joined deadline units times)
