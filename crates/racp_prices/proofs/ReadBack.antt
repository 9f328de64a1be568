-- What the text of a table is read as.
use Rattle.std.proofs.Common.{◌≡◌, refl, sym, ◌∙◌, ap, ap₂, ℕ, zero, suc, pos, ◌≤◌, min, true, List, [], ◌∷◌, length, map, replicate, Option, Some, None, Ok, Err, IfSome, IfOk, All, String, Global, string_bytes, option_map, arith}
use Rattle.std.specs.Prelude.{Result, codes, unwrap_or}
use Rattle.std.proofs.lemmas.Bool.{cond-true, le-leb, eq-eqb}
use Rattle.std.proofs.lemmas.List.Elements.{All-head, All-tail}
use Rattle.std.proofs.lemmas.Str.{IsUtf8-string_bytes}
use Rattle.toml.specs.Data.{Data, integer, Items, Members, get_member, depth, items_depth, members_depth}
use Rattle.toml.specs.View.{items_of}
use Rattle.racp_model.specs.Project.{Project}
use Rattle.racp_model.specs.Terms.{AreTermsOf}
use Rattle.racp_prices.specs.Orders.{are_whole, count_of, number_of, whole_items, counted_items, all_within, numbers_of, optional_numbers, version_of, has_only, known_keys, order_of, IsToml, IsOrder}
use Rattle.racp_prices.specs.WantedTables.{IsText}
use Rattle.racp_prices.specs.Wishes.{Wish, numbers_array, read_terms, table_of, terms_of}

abbrev numbers_items : List ℕ → Items
numbers_items numbers = items_of (map (λ n. integer (pos n)) numbers)

-- an array of numbers is one level deep, and so is a table of them
flat : (numbers : List ℕ) → items_depth (numbers_items numbers) ≡ 0
flat [] = refl
flat (n ∷ numbers) = rw (flat numbers)

shallow : (numbers : List ℕ) → depth (numbers_array numbers) ≡ 1
unfolding numbers_array
shallow numbers = ap suc (flat numbers)

-- what is wanted, part by part
abbrev wish_with : ℕ → List ℕ → Option (List ℕ) → Option (List ℕ) → Option (List ℕ) → Option (List ℕ) → Wish
wish_with deadline prices owned ceilings release due = record { deadline = deadline; prices = prices; owned = owned; ceilings = ceilings; release = release; due = due }

table_depth : (deadline : ℕ) (prices : List ℕ) (owned ceilings release due : Option (List ℕ)) →
    members_depth (table_of (wish_with deadline prices owned ceilings release due)) ≡ 1
unfolding table_of
table_depth deadline prices (Some owned) (Some ceilings) (Some release) (Some due) = rw (shallow prices, shallow owned, shallow ceilings, shallow release, shallow due)
table_depth deadline prices (Some owned) (Some ceilings) (Some release) None = rw (shallow prices, shallow owned, shallow ceilings, shallow release)
table_depth deadline prices (Some owned) (Some ceilings) None (Some due) = rw (shallow prices, shallow owned, shallow ceilings, shallow due)
table_depth deadline prices (Some owned) (Some ceilings) None None = rw (shallow prices, shallow owned, shallow ceilings)
table_depth deadline prices (Some owned) None (Some release) (Some due) = rw (shallow prices, shallow owned, shallow release, shallow due)
table_depth deadline prices (Some owned) None (Some release) None = rw (shallow prices, shallow owned, shallow release)
table_depth deadline prices (Some owned) None None (Some due) = rw (shallow prices, shallow owned, shallow due)
table_depth deadline prices (Some owned) None None None = rw (shallow prices, shallow owned)
table_depth deadline prices None (Some ceilings) (Some release) (Some due) = rw (shallow prices, shallow ceilings, shallow release, shallow due)
table_depth deadline prices None (Some ceilings) (Some release) None = rw (shallow prices, shallow ceilings, shallow release)
table_depth deadline prices None (Some ceilings) None (Some due) = rw (shallow prices, shallow ceilings, shallow due)
table_depth deadline prices None (Some ceilings) None None = rw (shallow prices, shallow ceilings)
table_depth deadline prices None None (Some release) (Some due) = rw (shallow prices, shallow release, shallow due)
table_depth deadline prices None None (Some release) None = rw (shallow prices, shallow release)
table_depth deadline prices None None None (Some due) = rw (shallow prices, shallow due)
table_depth deadline prices None None None None = rw (shallow prices)

-- numbers in their ranges are read
number_is : (most n : ℕ) → n ≤ most → number_of most (integer (pos n)) ≡ Ok n
unfolding number_of
number_is most n l = cond-true _ _ _ (le-leb n most l)

whole_numbers : (numbers : List ℕ) → are_whole (numbers_items numbers) ≡ true
unfolding are_whole
whole_numbers [] = refl
whole_numbers (n ∷ numbers) = whole_numbers numbers

count_numbers : (numbers : List ℕ) → count_of (numbers_items numbers) ≡ length numbers
unfolding count_of
count_numbers [] = refl
count_numbers (n ∷ numbers) = omega (arith, count_numbers numbers)

each_number : (most : ℕ) (numbers : List ℕ) → All (λ x. x ≤ most) numbers → all_within most (numbers_items numbers) ≡ Ok numbers
unfolding all_within
each_number most [] h = refl
each_number most (n ∷ numbers) h =
    rw (number_is most n (All-head (λ x. x ≤ most) n numbers h), each_number most numbers (All-tail (λ x. x ≤ most) n numbers h))

numbers_read : (count most : ℕ) (numbers : List ℕ) → length numbers ≡ count → All (λ x. x ≤ most) numbers → numbers_of count most (numbers_array numbers) ≡ Ok numbers
unfolding numbers_of whole_items counted_items numbers_array
numbers_read count most numbers e h = rw (whole_numbers numbers, count_numbers numbers, eq-eqb (length numbers) count e, each_number most numbers h)

-- what holds of the numbers that are wanted or of others in their place
place_or : {count : ℕ} (numbers : Option (List ℕ)) (others : List ℕ) → length (unwrap_or numbers others) ≡ count → IfSome numbers (λ xs. length xs ≡ count)
place_or (Some numbers) others e = e
place_or None others e = tt

all_or : (P : ℕ → Type 0) (numbers : Option (List ℕ)) (others : List ℕ) → All P (unwrap_or numbers others) → IfSome numbers (All P)
all_or P (Some numbers) others h = h
all_or P None others h = tt

optional_read : (count most : ℕ) (numbers : Option (List ℕ)) → IfSome numbers (λ xs. length xs ≡ count) → IfSome numbers (All (λ x. x ≤ most)) →
    optional_numbers count most (option_map numbers_array numbers) ≡ Ok numbers
unfolding optional_numbers
optional_read count most (Some numbers) e h = rw (numbers_read count most numbers e h)
optional_read count most None e h = refl

-- what a table is read as that has these values
read_from : (p : Project) (wish : Wish) (table : Members) (version : _) (known : Members) →
    AreTermsOf p (terms_of p wish) → version_of (get_member (codes "version") table) ≡ Ok version →
    get_member (codes "deadline") table ≡ Some (integer (pos wish.deadline)) → get_member (codes "prices") table ≡ Some (numbers_array wish.prices) → known_keys version table ≡ Ok known →
    get_member (codes "owned") known ≡ option_map numbers_array wish.owned → get_member (codes "ceiling") known ≡ option_map numbers_array wish.ceilings →
    get_member (codes "release") known ≡ option_map numbers_array wish.release → get_member (codes "due") known ≡ option_map numbers_array wish.due →
    order_of p.resources (length p.jobs) table ≡ Ok (read_terms p wish)
unfolding order_of
read_from p wish table version known h e1 e2 e3 e4 e5 e6 e7 e8 =
    let deadline = number_is 10000000 wish.deadline h.deadline in
    let prices = numbers_read p.resources 1000000 wish.prices h.price_places h.prices in
    let owned = optional_read p.resources 10000000 wish.owned (place_or wish.owned _ h.owned_places) (all_or (λ x. x ≤ 10000000) wish.owned _ h.owned) in
    let ceilings = optional_read p.resources 10000000 wish.ceilings h.ceiling_places h.ceilings in
    let release = optional_read (length p.jobs) 10000000 wish.release (place_or wish.release _ h.release_places) (all_or (λ x. x ≤ 10000000) wish.release _ h.release) in
    let due = optional_read (length p.jobs) 10000000 wish.due (place_or wish.due _ h.due_places) (all_or (λ x. x ≤ 10000000) wish.due _ h.due) in
    rw (e1, e2, e3, e4, e5, e6, e7, e8, deadline, prices, owned, ceilings, release, due)

wish_read : (p : Project) (deadline : ℕ) (prices : List ℕ) (owned ceilings release due : Option (List ℕ)) →
    let wish = wish_with deadline prices owned ceilings release due in
    AreTermsOf p (terms_of p wish) → order_of p.resources (length p.jobs) (table_of wish) ≡ Ok (read_terms p wish)
unfolding table_of version_of known_keys has_only
wish_read p deadline prices (Some owned) (Some ceilings) (Some release) (Some due) h = read_from p (wish_with deadline prices (Some owned) (Some ceilings) (Some release) (Some due)) _ _ _ h refl refl refl refl refl refl refl refl
wish_read p deadline prices (Some owned) (Some ceilings) (Some release) None h = read_from p (wish_with deadline prices (Some owned) (Some ceilings) (Some release) None) _ _ _ h refl refl refl refl refl refl refl refl
wish_read p deadline prices (Some owned) (Some ceilings) None (Some due) h = read_from p (wish_with deadline prices (Some owned) (Some ceilings) None (Some due)) _ _ _ h refl refl refl refl refl refl refl refl
wish_read p deadline prices (Some owned) (Some ceilings) None None h = read_from p (wish_with deadline prices (Some owned) (Some ceilings) None None) _ _ _ h refl refl refl refl refl refl refl refl
wish_read p deadline prices (Some owned) None (Some release) (Some due) h = read_from p (wish_with deadline prices (Some owned) None (Some release) (Some due)) _ _ _ h refl refl refl refl refl refl refl refl
wish_read p deadline prices (Some owned) None (Some release) None h = read_from p (wish_with deadline prices (Some owned) None (Some release) None) _ _ _ h refl refl refl refl refl refl refl refl
wish_read p deadline prices (Some owned) None None (Some due) h = read_from p (wish_with deadline prices (Some owned) None None (Some due)) _ _ _ h refl refl refl refl refl refl refl refl
wish_read p deadline prices (Some owned) None None None h = read_from p (wish_with deadline prices (Some owned) None None None) _ _ _ h refl refl refl refl refl refl refl refl
wish_read p deadline prices None (Some ceilings) (Some release) (Some due) h = read_from p (wish_with deadline prices None (Some ceilings) (Some release) (Some due)) _ _ _ h refl refl refl refl refl refl refl refl
wish_read p deadline prices None (Some ceilings) (Some release) None h = read_from p (wish_with deadline prices None (Some ceilings) (Some release) None) _ _ _ h refl refl refl refl refl refl refl refl
wish_read p deadline prices None (Some ceilings) None (Some due) h = read_from p (wish_with deadline prices None (Some ceilings) None (Some due)) _ _ _ h refl refl refl refl refl refl refl refl
wish_read p deadline prices None (Some ceilings) None None h = read_from p (wish_with deadline prices None (Some ceilings) None None) _ _ _ h refl refl refl refl refl refl refl refl
wish_read p deadline prices None None (Some release) (Some due) h = read_from p (wish_with deadline prices None None (Some release) (Some due)) _ _ _ h refl refl refl refl refl refl refl refl
wish_read p deadline prices None None (Some release) None h = read_from p (wish_with deadline prices None None (Some release) None) _ _ _ h refl refl refl refl refl refl refl refl
wish_read p deadline prices None None None (Some due) h = read_from p (wish_with deadline prices None None None (Some due)) _ _ _ h refl refl refl refl refl refl refl refl
wish_read p deadline prices None None None None h = read_from p (wish_with deadline prices None None None None) _ _ _ h refl refl refl refl refl refl refl refl

-- from the text of the table to its reading
toml_is : (s : String Global) (table : Members) (wish : Wish) → table ≡ table_of wish → IsText table (string_bytes s) → IsToml (string_bytes s) (Some (table_of wish))
toml_is s table wish same text =
    let deep : members_depth table ≡ 1 = ap members_depth same ∙ table_depth wish.deadline wish.prices wish.owned wish.ceilings wish.release wish.due in
    (IsUtf8-string_bytes s, text (omega (arith, deep)) ∙ ap Some same)

pub toml_answer : {E : Type 0} (r : Result (String Global) E) (table : Members) (wish : Wish) → table ≡ table_of wish → IfOk r (λ s. IsText table (string_bytes s)) →
    IfOk r (λ s. IsToml (string_bytes s) (Some (table_of wish)))
toml_answer (Ok s) table wish same text = toml_is s table wish same text
toml_answer (Err e) table wish same text = tt

pub read_answer : {E : Type 0} (r : Result (String Global) E) (table : Members) (wish : Wish) → table ≡ table_of wish → IfOk r (λ s. IsText table (string_bytes s)) →
    IfOk r (λ s. (resources jobs : ℕ) → IsOrder resources jobs (string_bytes s) (order_of resources jobs (table_of wish)))
read_answer (Ok s) table wish same text = λ resources jobs. (Some (table_of wish), toml_is s table wish same text, refl)
read_answer (Err e) table wish same text = tt

pub terms_answer : {E : Type 0} (r : Result (String Global) E) (table : Members) (wish : Wish) → table ≡ table_of wish → IfOk r (λ s. IsText table (string_bytes s)) →
    IfOk r (λ s. (p : Project) → AreTermsOf p (terms_of p wish) → IsOrder p.resources (length p.jobs) (string_bytes s) (Ok (read_terms p wish)))
terms_answer (Ok s) table wish same text = λ p fits.
    (Some (table_of wish), toml_is s table wish same text, sym (wish_read p wish.deadline wish.prices wish.owned wish.ceilings wish.release wish.due fits))
terms_answer (Err e) table wish same text = tt
