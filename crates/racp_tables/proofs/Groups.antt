-- Groups of digits.
use Rattle.std.proofs.Common.{◌≡◌, refl, sym, ◌∙◌, ap, ℕ, ◌++◌, Bool, true, cond, List, [], ◌∷◌, map, flat_map, Bor}
use Rattle.std.specs.List.{concat}
use Rattle.racp_tables.specs.Amounts.{are_threes, grouped, number_or, whole_number}
use Rattle.racp_tables.specs.declared.amount.Amount.{Amount}
use Rattle.racp_tables.specs.declared.amount.Amount.TheVariants.{Nothing}

abbrev now : Bor (List ℕ) → List ℕ
now part = part.now

joined : (groups : List (Bor (List ℕ))) → flat_map now groups ≡ concat (map now groups)
joined [] = refl
joined (group ∷ groups) = ap (λ (rest : List ℕ). group.now ++ rest) (joined groups)

-- the number of groups that stand in threes
pub grouped_is : (groups : List (Bor (List ℕ))) (all : List (List ℕ)) (digits : List ℕ) (amount : Amount) → map now groups ≡ all → are_threes (map now groups) ≡ true →
    digits ≡ flat_map now groups → amount ≡ number_or (whole_number digits) Nothing → amount ≡ grouped all
grouped_is groups all digits amount same threes flat is =
    let text : digits ≡ concat all = flat ∙ joined groups ∙ ap concat same in
    let yes : are_threes all ≡ true = ap are_threes (sym same) ∙ threes in
    is ∙ ap (λ (d : List ℕ). number_or (whole_number d) Nothing) text
    ∙ sym (ap (λ (b : Bool). cond b (number_or (whole_number (concat all)) Nothing) Nothing) yes)
