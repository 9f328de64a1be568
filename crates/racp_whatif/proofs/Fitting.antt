-- What is asked about an order is what an order may say.
use Rattle.std.proofs.Common.{◌≡◌, ℕ, zero, suc, ◌+◌, ◌<◌, ◌≤◌, min, true, false, Bool, List, [], ◌∷◌, length, All, Option, Some, None, IfSome, arith, sym, refl, nat_lt, if◌then◌else◌}
use Rattle.std.proofs.lemmas.List.Elements.{All-append, All-cons, All-nil}
use Rattle.std.proofs.lemmas.Bool.{ltb-true}
use Rattle.racp_model.specs.Limits.{latest_time, most_units}
use Rattle.racp_model.specs.Project.{Project}
use Rattle.racp_model.specs.Terms.{Terms, AreTermsOf}
use Rattle.racp_whatif.specs.declared.change.Change.TheVariants.{Ceiling, Owned, Deadline}
use Rattle.racp_whatif.specs.Changes.{IsChangeFor, changes_of, each_fewer, each_owned, earlier, later, one_owned}

placed : (ceilings : Option (List ℕ)) (count place : ℕ) → IfSome ceilings (λ list. length list ≡ count) → place < count → IfSome ceilings (λ list. place < length list)
placed None count place h l = tt
placed (Some list) count place h l = omega (arith, h, l)

min_below : (units : ℕ) → min units most_units ≤ most_units
min_below units = omega arith

fewer_for : (terms : Terms) (count place : ℕ) (capacities : List ℕ) → length terms.prices ≡ count → IfSome terms.ceilings (λ list. length list ≡ count) → place + length capacities ≤ count → All (IsChangeFor terms) (each_fewer place capacities)
fewer_for terms count place [] prices ceilings few = All-nil (IsChangeFor terms)
fewer_for terms count place (zero ∷ rest) prices ceilings few = fewer_for terms count (place + 1) rest prices ceilings (omega (arith, few))
fewer_for terms count place ((suc units) ∷ rest) prices ceilings few =
    let within : place < count = omega (arith, few) in
    let inside : place < length terms.prices = omega (arith, within, prices) in
    All-cons (IsChangeFor terms) (Ceiling place (min units most_units)) (each_fewer (place + 1) rest) (inside, min_below units, placed terms.ceilings count place ceilings within)
    (fewer_for terms count (place + 1) rest prices ceilings (omega (arith, few)))

one_owned_for : (terms : Terms) (place units : ℕ) (is_below : Bool) → is_below ≡ nat_lt units most_units → place < length terms.owned → All (IsChangeFor terms) (if is_below then Owned place (units + 1) ∷ [] else [])
one_owned_for terms place units true is inside =
    let less : units < most_units = ltb-true units most_units (sym is) in
    let below : units + 1 ≤ most_units = omega (arith, less) in
    All-cons (IsChangeFor terms) (Owned place (units + 1)) [] (inside, below) (All-nil (IsChangeFor terms))
one_owned_for terms place units false is inside = All-nil (IsChangeFor terms)

owned_for : (terms : Terms) (place : ℕ) (owned : List ℕ) → place + length owned ≤ length terms.owned → All (IsChangeFor terms) (each_owned place owned)
owned_for terms place [] few = All-nil (IsChangeFor terms)
owned_for terms place (units ∷ rest) few =
    All-append (IsChangeFor terms) (one_owned place units) (each_owned (place + 1) rest) (one_owned_for terms place units (nat_lt units most_units) refl (omega (arith, few)))
    (owned_for terms (place + 1) rest (omega (arith, few)))

earlier_for : (terms : Terms) (deadline : ℕ) → deadline ≤ latest_time → All (IsChangeFor terms) (earlier deadline)
earlier_for terms zero few = All-nil (IsChangeFor terms)
earlier_for terms (suc deadline) few =
    let below : deadline ≤ latest_time = omega (arith, few) in
    All-cons (IsChangeFor terms) (Deadline deadline) [] below (All-nil (IsChangeFor terms))

later_by : (terms : Terms) (deadline : ℕ) (is_below : Bool) → is_below ≡ nat_lt deadline latest_time → All (IsChangeFor terms) (if is_below then Deadline (deadline + 1) ∷ [] else [])
later_by terms deadline true is =
    let less : deadline < latest_time = ltb-true deadline latest_time (sym is) in
    let below : deadline + 1 ≤ latest_time = omega (arith, less) in
    All-cons (IsChangeFor terms) (Deadline (deadline + 1)) [] below (All-nil (IsChangeFor terms))
later_by terms deadline false is = All-nil (IsChangeFor terms)

pub changes_for : (p : Project) (terms : Terms) (capacities : List ℕ) → AreTermsOf p terms → length capacities ≡ p.resources → All (IsChangeFor terms) (changes_of terms capacities)
changes_for p terms capacities are places =
    let few : 0 + length capacities ≤ p.resources = omega (arith, places) in
    let whole : 0 + length terms.owned ≤ length terms.owned = omega arith in
    All-append (IsChangeFor terms) (each_fewer 0 capacities) _ (fewer_for terms p.resources 0 capacities are.price_places are.ceiling_places few)
    (All-append (IsChangeFor terms) (each_owned 0 terms.owned) _ (owned_for terms 0 terms.owned whole)
    (All-append (IsChangeFor terms) (earlier terms.deadline) (later terms.deadline) (earlier_for terms terms.deadline are.deadline) (later_by terms terms.deadline (nat_lt terms.deadline latest_time) refl)))
