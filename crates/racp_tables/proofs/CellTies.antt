-- Ties that are added one after another.
use Rattle.std.proofs.Common.{◌≡◌, refl, sym, ◌∙◌, ap, ℕ, ◌+◌, ◌<◌, ◌≤◌, Bool, true, false, cond, List, [], ◌∷◌, ◌++◌, append_assoc, Bor, drop, get_or, length, map, Option, Some, None, option_map}
use Rattle.std.specs.Prelude.{filter}
use Rattle.std.proofs.lemmas.List.{at_drop_all, at_drop_more}
use Rattle.racp_tables.specs.CellTies.{all_ties, behind}
use Rattle.racp_tables.specs.declared.ties.Tie.{Tie}

-- what is said behind ties, and then more
joined : (old first : List Tie) (rest : Option (List Tie)) → behind old (option_map (λ more. first ++ more) rest) ≡ behind (old ++ first) rest
joined old first None = refl
joined old first (Some more) = ap (λ (list : List Tie). Some list) (sym (append_assoc old first more))

pub ties_more : (old new : List Tie) (said : Option (List Tie)) (rest : List (Option (List Tie))) → behind old said ≡ Some new →
    behind old (all_ties (said ∷ rest)) ≡ behind new (all_ties rest)
ties_more old new None rest e = cc
ties_more old new (Some first) rest e =
    let same : old ++ first ≡ new = cc in
    joined old first (all_ties rest) ∙ ap (λ (list : List Tie). behind list (all_ties rest)) same

append_nil : (ties : List Tie) → ties ++ [] ≡ ties
append_nil [] = refl
append_nil (tie ∷ ties) = ap (λ (more : List Tie). tie ∷ more) (append_nil ties)

-- no more is said
pub ties_end : (ties : List Tie) → behind ties (all_ties []) ≡ Some ties
ties_end ties = ap (λ (list : List Tie). Some list) (append_nil ties)

-- nothing stands before
pub behind_none : (said : Option (List Tie)) → behind [] said ≡ said
behind_none None = refl
behind_none (Some ties) = refl

abbrev pub now : Bor (List ℕ) → List ℕ
now part = part.now

abbrev pub blank : Bor (List ℕ)
blank = record { ref_ptr = (0, 0); now = [] }

-- one word more
pub ties_step : (f : List ℕ → Option (List Tie)) (items : List (Bor (List ℕ))) (i : ℕ) (start : Option (List Tie)) (old new : List Tie) → i < length items →
    behind old (all_ties (map f (map now (drop i items)))) ≡ start → behind old (f (now (get_or items i blank))) ≡ Some new →
    behind new (all_ties (map f (map now (drop (i + 1) items)))) ≡ start
ties_step f items i start old new within so_far said =
    sym (ties_more old new (f (now (get_or items i blank))) (map f (map now (drop (i + 1) items))) said)
    ∙ sym (at_drop_more (λ (xs : List (Bor (List ℕ))). behind old (all_ties (map f (map now xs)))) items i blank within) ∙ so_far

-- no word is left
pub ties_done : (f : List ℕ → Option (List Tie)) (items : List (Bor (List ℕ))) (i : ℕ) (start : Option (List Tie)) (ties : List Tie) → length items ≤ i →
    behind ties (all_ties (map f (map now (drop i items)))) ≡ start → start ≡ Some ties
ties_done f items i start ties past so_far =
    sym so_far ∙ at_drop_all (λ (xs : List (Bor (List ℕ))). behind ties (all_ties (map f (map now xs)))) items i past ∙ ties_end ties

-- one word more of those that pass a test
pub loose_step : (p : List ℕ → Bool) (f : List ℕ → Option (List Tie)) (items : List (Bor (List ℕ))) (i : ℕ) (start : Option (List Tie)) (old new : List Tie) → i < length items →
    behind old (all_ties (map f (filter p (map now (drop i items))))) ≡ start → p (now (get_or items i blank)) ≡ true → behind old (f (now (get_or items i blank))) ≡ Some new →
    behind new (all_ties (map f (filter p (map now (drop (i + 1) items))))) ≡ start
loose_step p f items i start old new within so_far passes said =
    let rest : List (List ℕ) = filter p (map now (drop (i + 1) items)) in
    let first : List ℕ = now (get_or items i blank) in
    sym (ties_more old new (f first) (map f rest) said)
    ∙ sym (ap (λ (b : Bool). behind old (all_ties (map f (cond b (first ∷ rest) rest)))) passes)
    ∙ sym (at_drop_more (λ (xs : List (Bor (List ℕ))). behind old (all_ties (map f (filter p (map now xs))))) items i blank within) ∙ so_far

-- one that does not
pub loose_skip : (p : List ℕ → Bool) (f : List ℕ → Option (List Tie)) (items : List (Bor (List ℕ))) (i : ℕ) (start : Option (List Tie)) (old : List Tie) → i < length items →
    behind old (all_ties (map f (filter p (map now (drop i items))))) ≡ start → p (now (get_or items i blank)) ≡ false →
    behind old (all_ties (map f (filter p (map now (drop (i + 1) items))))) ≡ start
loose_skip p f items i start old within so_far fails =
    let rest : List (List ℕ) = filter p (map now (drop (i + 1) items)) in
    let first : List ℕ = now (get_or items i blank) in
    sym (ap (λ (b : Bool). behind old (all_ties (map f (cond b (first ∷ rest) rest)))) fails)
    ∙ sym (at_drop_more (λ (xs : List (Bor (List ℕ))). behind old (all_ties (map f (filter p (map now xs))))) items i blank within) ∙ so_far

pub loose_done : (p : List ℕ → Bool) (f : List ℕ → Option (List Tie)) (items : List (Bor (List ℕ))) (i : ℕ) (start : Option (List Tie)) (ties : List Tie) → length items ≤ i →
    behind ties (all_ties (map f (filter p (map now (drop i items))))) ≡ start → start ≡ Some ties
loose_done p f items i start ties past so_far =
    sym so_far ∙ at_drop_all (λ (xs : List (Bor (List ℕ))). behind ties (all_ties (map f (filter p (map now xs))))) items i past ∙ ties_end ties
