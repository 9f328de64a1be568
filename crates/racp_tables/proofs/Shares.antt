-- Units that are added up word by word.
use Rattle.std.proofs.Common.{◌≡◌, sym, ◌∙◌, ap, ℕ, ◌+◌, ◌<◌, min, List, map, take, get_or, length, arith}
use Rattle.std.proofs.lemmas.List.{get_or-map, length-map}
use Rattle.std.proofs.lemmas.List.Sums.{sum_by_more}
use Rattle.racp_tables.specs.Amounts.{capped}
use Rattle.racp_tables.specs.Assigned.{told, units_for, units_named}
use Rattle.racp_tables.specs.declared.assigned.Assigned.{Assigned}

-- one word more
pub named_more : (assigned : List Assigned) (i : ℕ) (d : Assigned) (name : List ℕ) (sum units : ℕ) → i < length assigned →
    sum ≡ capped (units_named (take i (map told assigned)) name) → units ≡ units_for name (told (get_or assigned i d)) →
    min (sum + units) 18446744073709551615 ≡ capped (units_named (take (i + 1) (map told assigned)) name)
named_more assigned i d name sum units inside so_far is =
    let within : i < length (map told assigned) = simp length-map inside in
    let here : units ≡ units_for name (get_or (map told assigned) i (told d)) = is ∙ ap (units_for name) (sym (get_or-map told assigned i d (told d) inside)) in
    let more : units_named (take (i + 1) (map told assigned)) name ≡ units_named (take i (map told assigned)) name + units_for name (get_or (map told assigned) i (told d)) =
    sum_by_more (units_for name) (map told assigned) i (told d) within in
    omega (arith, so_far, here, more)
