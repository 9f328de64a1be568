-- Reading the elements of a list one after another: what was read, and what is left to read.
use Rattle.std.proofs.Common.{◌≡◌, refl, sym, ◌∙◌, ap, ℕ, zero, suc, ◌+◌, ◌<◌, ◌≤◌, List, [], ◌∷◌, ◌++◌, drop, length, get_or, arith, Ok, Err, append_assoc, append-nil}
use Rattle.std.specs.Prelude.{Result}
use Rattle.toml.specs.View.{items_view, view}
use Rattle.toml.specs.declared.value.Value.{Value}
use Rattle.toml.proofs.Views.{items_view-drop}
use Rattle.racp_model.specs.Steps.{◌>>=◌}
use Rattle.racp_prices.specs.Orders.{number_of, all_within, count_of}
use Rattle.racp_prices.specs.declared.fault.OrderFault.{OrderFault}

-- these things before those that are read
abbrev pub with_front : {X : Type 0} → List X → Result (List X) OrderFault → Result (List X) OrderFault
with_front front (Ok read) = Ok (front ++ read)
with_front front (Err fault) = Err fault

pub front-none : {X : Type 0} (r : Result (List X) OrderFault) → with_front [] r ≡ r
front-none (Ok read) = refl
front-none (Err fault) = refl

pub front-more : {X : Type 0} (xs : List X) (x : X) (r : Result (List X) OrderFault) → with_front xs (r >>= (λ rest. Ok (x ∷ rest))) ≡ with_front (xs ++ x ∷ []) r
front-more xs x (Ok read) = ap Ok (sym (append_assoc xs (x ∷ []) read))
front-more xs x (Err fault) = refl

drop_all : {X : Type 0} (xs : List X) (i : ℕ) → length xs ≤ i → drop i xs ≡ []
drop_all [] zero l = refl
drop_all [] (suc i) l = refl
drop_all (x ∷ xs) zero l = absurd (omega (arith, l))
drop_all (x ∷ xs) (suc i) l = drop_all xs i (omega (arith, l))

-- the numbers of the first i items were read, and reading goes on
abbrev pub AreRead : ℕ → List Value → ℕ → List ℕ → Type 0
AreRead most values i numbers = all_within most (items_view values) ≡ with_front numbers (all_within most (items_view (drop i values)))

-- what is read of the items that are left goes on with the first of them
abbrev with_rest : ℕ → List Value → Result ℕ OrderFault → Result (List ℕ) OrderFault
with_rest most rest first = first >>= (λ number. all_within most (items_view rest) >>= (λ numbers. Ok (number ∷ numbers)))

read_at : (most : ℕ) (values : List Value) (i : ℕ) (d : Value) → i < length values →
    all_within most (items_view (drop i values)) ≡ with_rest most (drop (i + 1) values) (number_of most (view (get_or values i d)))
unfolding all_within
read_at most values i d l = ap (all_within most) (items_view-drop values i d l)

pub read_start : (most : ℕ) (values : List Value) → AreRead most values 0 []
read_start most values = sym (front-none (all_within most (items_view values)))

pub read_step : (most : ℕ) (values : List Value) (i : ℕ) (d : Value) (numbers : List ℕ) (number : ℕ) → i < length values → AreRead most values i numbers → number_of most (view (get_or values i d)) ≡ Ok number →
    AreRead most values (i + 1) (numbers ++ number ∷ [])
read_step most values i d numbers number l h e =
    h ∙ (ap (with_front numbers) (read_at most values i d l ∙ ap (with_rest most (drop (i + 1) values)) e) ∙ front-more numbers number (all_within most (items_view (drop (i + 1) values))))

pub read_fault : (most : ℕ) (values : List Value) (i : ℕ) (d : Value) (numbers : List ℕ) (fault : OrderFault) → i < length values → AreRead most values i numbers → number_of most (view (get_or values i d)) ≡ Err fault →
    all_within most (items_view values) ≡ Err fault
read_fault most values i d numbers fault l h e = h ∙ ap (with_front numbers) (read_at most values i d l ∙ ap (with_rest most (drop (i + 1) values)) e)

pub read_end : (most : ℕ) (values : List Value) (i : ℕ) (numbers : List ℕ) → length values ≤ i → AreRead most values i numbers → all_within most (items_view values) ≡ Ok numbers
unfolding all_within
read_end most values i numbers l h = h ∙ ap (λ rest. with_front numbers (all_within most (items_view rest))) (drop_all values i l) ∙ ap Ok (append-nil numbers)

-- as many items as values
pub count_values : (values : List Value) → count_of (items_view values) ≡ length values
unfolding count_of
count_values [] = refl
count_values (value ∷ values) = omega (arith, count_values values)
