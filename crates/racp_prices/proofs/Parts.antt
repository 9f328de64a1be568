-- The order that a table is, by the terms about units and those about times.
use Rattle.std.proofs.Common.{◌≡◌, ◌∙◌, refl, ℕ, List, Option, Some, None, Ok, Err, codes}
use Rattle.std.specs.Prelude.{Result, map, min, replicate, unwrap_or}
use Rattle.racp_model.specs.Limits.{latest_time, most_units}
use Rattle.racp_model.specs.Steps.{◌>>=◌}
use Rattle.toml.specs.Data.{Data, Members, get_member}
use Rattle.racp_prices.specs.Orders.{known_keys, number_of, numbers_of, optional_numbers, order_of, required, version_of}
use Rattle.racp_prices.specs.Steps.{joined, list_or, order_in_parts, times_of, units_of}
use Rattle.racp_prices.specs.declared.fault.OrderFault.{OrderFault}

-- steps that go on alike read alike
alike : {A B : Type 0} (r : Result A OrderFault) (f g : A → Result B OrderFault) → ((x : A) → f x ≡ g x) → (r >>= f) ≡ (r >>= g)
alike (Ok x) f g same = same x
alike (Err fault) f g same = refl

-- steps that go on after others go on after the last of these
onward : {A B C : Type 0} (r : Result A OrderFault) (f : A → Result B OrderFault) (g : B → Result C OrderFault) →
    ((r >>= f) >>= g) ≡ (r >>= λ x. (f x >>= g))
onward (Ok x) f g = refl
onward (Err fault) f g = refl

-- a list that may be left out, read before the others
read_list : {A : Type 0} (count most otherwise : ℕ) (value : Option Data) (next : List ℕ → Result A OrderFault) →
    (list_or count most otherwise value >>= next) ≡ (optional_numbers count most value >>= λ numbers. next (unwrap_or numbers (replicate count otherwise)))
unfolding list_or optional_numbers
read_list count most otherwise None next = refl
read_list count most otherwise (Some value) next = by_numbers (numbers_of count most value)
  where
    by_numbers : (r : Result (List ℕ) OrderFault) → (r >>= next) ≡ ((r >>= λ numbers. Ok (Some numbers)) >>= λ numbers. next (unwrap_or numbers (replicate count otherwise)))
    by_numbers (Ok numbers) = refl
    by_numbers (Err fault) = refl

-- the terms about times, read after those about units
read_times : (jobs deadline : ℕ) (table : Members) (units : List ℕ × (List ℕ × Option (List ℕ))) →
    (times_of jobs deadline table >>= λ times. Ok (joined deadline units times)) ≡
    (optional_numbers jobs latest_time (get_member (codes "release") table) >>= λ release.
    (optional_numbers jobs latest_time (get_member (codes "due") table) >>= λ due.
    Ok (joined deadline units (unwrap_or release (replicate jobs 0), map (min deadline) (unwrap_or due (replicate jobs deadline))))))
unfolding times_of
read_times jobs deadline table units =
    onward (list_or jobs latest_time 0 (get_member (codes "release") table)) _ _
    ∙ (read_list jobs latest_time 0 (get_member (codes "release") table) _
    ∙ alike (optional_numbers jobs latest_time (get_member (codes "release") table)) _ _ (λ release.
    onward (list_or jobs latest_time deadline (get_member (codes "due") table)) _ _
    ∙ read_list jobs latest_time deadline (get_member (codes "due") table) _))

pub same_order : (resources jobs : ℕ) (table : Members) → order_in_parts resources jobs table ≡ order_of resources jobs table
unfolding order_in_parts order_of units_of
same_order resources jobs table =
    alike (version_of (get_member (codes "version") table)) _ _ (λ version.
    alike (required (get_member (codes "deadline") table)) _ _ (λ deadline_value.
    alike (required (get_member (codes "prices") table)) _ _ (λ price_values.
    alike (known_keys version table) _ _ (λ known.
    alike (number_of latest_time deadline_value) _ _ (λ deadline.
    onward (numbers_of resources 1000000 price_values) _ _
    ∙ alike (numbers_of resources 1000000 price_values) _ _ (λ prices.
    onward (list_or resources most_units 0 (get_member (codes "owned") known)) _ _
    ∙ (read_list resources most_units 0 (get_member (codes "owned") known) _
    ∙ alike (optional_numbers resources most_units (get_member (codes "owned") known)) _ _ (λ owned.
    onward (optional_numbers resources most_units (get_member (codes "ceiling") known)) _ _
    ∙ alike (optional_numbers resources most_units (get_member (codes "ceiling") known)) _ _ (λ ceilings.
    read_times jobs deadline known (prices, (unwrap_or owned (replicate resources 0), ceilings)))))))))))
