-- What `order` answers to the text of a network: an order that says what is asked for.
use Rattle.std.specs.Prelude.{◌≡◌, ◌≤◌, ◌⊎◌, ℕ, List, [], ◌∷◌, All, length, replicate, slice_index, Option, Some, None, Result, Ok, Err, option_map}
use Rattle.racp_model.specs.Project.{Project}
use Rattle.racp_model.specs.Limits.{latest_time, most_bound}
use Rattle.racp_model.specs.Path.{IsCriticalLength}
use Rattle.racp_model.specs.Terms.{Terms}
use Rattle.racp_sm.specs.Reading.{IsReading}
use Rattle.racp_prices.specs.Orders.{IsOrder, IsToml}
use Rattle.racp_prices.specs.declared.fault.OrderFault.{OrderFault}
use Rattle.racp_prices.specs.declared.fault.OrderFault.TheVariants.{Range}
use Rattle.racp_prices.specs.Factors.{deadline_by}
use Rattle.racp_prices.specs.Wishes.{Wish, table_of}
use Rattle.racp_cli.specs.Texts.{order_refusal_line}
use Rattle.racp_cli.specs.Plans.{IsNetworkLine, IsMemoryLine}
use Rattle.racp_streams.specs.Streams.{Reader, IsRun, ToOne}
use Rattle.racp_streams.specs.declared.fault.StreamFault.{StreamFault}
use Rattle.racp_cli.specs.declared.order.Asked.{Asked}
use Rattle.racp_cli.specs.declared.order.Time.{Time}
use Rattle.racp_cli.specs.declared.order.Time.TheVariants.{Deadline, Factor}

-- there is a time for each job, and none is later than a time may be
abbrev pub AreTimesFor : Project → List ℕ → Type 0
AreTimesFor network times = (length times ≡ length network.jobs) × All (λ time. time ≤ latest_time) times

-- there is a lower bound for each job
abbrev pub AreBounds : Project → List ℕ → Type 0
AreBounds network times = (length times ≡ length network.jobs) × All (λ time. time ≤ most_bound) times

-- the time from which each job may start: those that are asked for, if they are times for the jobs, and else 0
abbrev pub IsReleaseAsked : Project → Option (List ℕ) → List ℕ → Type 0
IsReleaseAsked network None release = release ≡ replicate (length network.jobs) 0
IsReleaseAsked network (Some times) release = (AreTimesFor network times × (release ≡ times)) ⊎
    ((AreTimesFor network times → ⊥) × (release ≡ replicate (length network.jobs) 0))

-- the deadline that is asked for, with these release times if they are: it itself, or this many times the critical length
-- from the release times on, if a deadline may be as late
abbrev pub IsAskedDeadline : Project → Time → Option (List ℕ) → Option ℕ → Type 0
IsAskedDeadline network (Deadline time) wanted found = found ≡ Some time
IsAskedDeadline network (Factor factor) wanted found = (release : List ℕ) × (critical : ℕ) ×
    IsReleaseAsked network wanted release × IsCriticalLength network (slice_index release) critical ×
    (found ≡ deadline_by factor critical)

-- what an order with this deadline is to say
abbrev pub wish_of : Asked → ℕ → Wish
wish_of asked deadline = record {
  deadline = deadline;
  prices = asked.prices.items;
  owned = option_map (λ o. o.items) asked.owned;
  ceilings = option_map (λ c. c.items) asked.ceilings;
  release = option_map (λ r. r.items) asked.release;
  due = option_map (λ d. d.items) asked.due;
}

-- the text itself if it is read as an order, else how it is refused
abbrev pub IsTold : List ℕ → Result Terms OrderFault → ℕ → List ℕ → Type 0
IsTold order (Ok terms) status text = (status ≡ 0) × (text ≡ order)
IsTold order (Err fault) status text = (status ≡ 5) × (text ≡ order_refusal_line fault)

-- an order text that says just this, if it is read as an order for the network; else how it is refused
pub record IsOrderSaying (network : Project) (wish : Wish) (status : ℕ) (text : List ℕ) : Type 0 where
  pub order : List ℕ
  pub says : IsToml order (Some (table_of wish))
  pub answer : Result Terms OrderFault
  pub read : IsOrder network.resources (length network.jobs) order answer
  pub told : IsTold order answer status text

-- the same, with the deadline that was found; or that it is too late
abbrev pub IsOrderBy : Asked → Project → Option ℕ → ℕ → List ℕ → Type 0
IsOrderBy asked network (Some deadline) status text = IsOrderSaying network (wish_of asked deadline) status text
IsOrderBy asked network None status text = (status ≡ 5) × (text ≡ order_refusal_line Range)

-- what is right for a network
abbrev pub IsOrderFor : Asked → Project → ℕ → List ℕ → Type 0
IsOrderFor asked network status text =
    (deadline : Option ℕ) × IsAskedDeadline network asked.time (option_map (λ r. r.items) asked.release) deadline ×
    IsOrderBy asked network deadline status text

-- what is right for the text of a network; memory may run out at any text
abbrev pub IsOrderAnswer : Asked → List ℕ → ℕ → List ℕ → Type 0
IsOrderAnswer asked net status text =
    ((network : Project) × IsReading net (Ok network) × IsOrderFor asked network status text) ⊎
    (IsNetworkLine net status text ⊎ IsMemoryLine status text)

-- a run of `order`
abbrev pub IsOrderRun : Asked → Reader → Option (List ℕ) → Option (List ℕ) → Result ℕ StreamFault → Type 0
IsOrderRun asked net = IsRun (ToOne (IsOrderAnswer asked)) (net ∷ [])
