-- Needs of columns, and then of a roster.
use Rattle.std.proofs.Common.{◌≡◌, refl, sym, ◌∙◌, ap, ℕ, ◌++◌, Bool, true, cond, List, [], ◌∷◌, map, Option, Some, None}
use Rattle.std.specs.List.{list_all}
use Rattle.std.proofs.lemmas.List.{map-append}
use Rattle.racp_tables.specs.Assigned.{all_units_named, is_told, told, units_named}
use Rattle.racp_tables.specs.declared.assigned.Assigned.{Assigned}

abbrev some : ℕ → Option ℕ
some units = Some units

each_some : (f : List ℕ → ℕ) (names : List (List ℕ)) → map (λ (name : List ℕ). some (f name)) names ≡ map some (map f names)
each_some f [] = refl
each_some f (name ∷ names) = ap (λ (rest : List (Option ℕ)). some (f name) ∷ rest) (each_some f names)

-- each word that was read tells its units
all_told : (assigned : List Assigned) → list_all is_told (map told assigned) ≡ true
all_told [] = refl
all_told (word ∷ words) = all_told words

pub all_needs : (first : List (Option ℕ)) (requests all : List ℕ) (said : List (List ℕ × Option ℕ)) (assigned : List Assigned) (roster : List (List ℕ)) →
    first ≡ map some requests → said ≡ map told assigned → all ≡ requests ++ map (units_named (map told assigned)) roster →
    first ++ map (all_units_named said) roster ≡ map some all
all_needs first requests all said assigned roster columns same whole =
    ap (λ (list : List (Option ℕ)). list ++ map (all_units_named said) roster) columns
    ∙ ap (λ (words : List (List ℕ × Option ℕ)). map some requests ++ map (all_units_named words) roster) same
    ∙ ap (λ (b : Bool). map some requests ++ map (λ (name : List ℕ). cond b (some (units_named (map told assigned) name)) None) roster) (all_told assigned)
    ∙ ap (λ (list : List (Option ℕ)). map some requests ++ list) (each_some (units_named (map told assigned)) roster)
    ∙ sym (map-append some requests (map (units_named (map told assigned)) roster))
    ∙ ap (λ (list : List ℕ). map some list) (sym whole)
