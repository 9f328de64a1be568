-- Tables that are made key by key.
use Rattle.std.proofs.Common.{◌≡◌, refl, ◌∙◌, ap, ap₂, ℕ, pos, Bool, List, [], ◌∷◌, map, Option, Some, None, option_map, String, Vec, BTreeMap, Global, Ordering, Less, Equal, Greater, string_bytes, codes}
use denote.Ref.{Bor}
use Rattle.std.specs.Prelude.{Result, Ok, Err, IfOk, option_copied, if◌then◌else◌}
use Rattle.std.specs.BTreeMap.{insert_entry}
use Rattle.std.specs.Ordering.{match_ordering}
use Rattle.std.specs.String.{string_cmp}
use Rattle.toml.specs.Data.{Data, integer, array, Members, no_members}
use Rattle.toml.specs.View.{view, items_of, items_view, members_view, table_view}
use Rattle.toml.specs.declared.value.Value.{Value, Array, Integer}
use Rattle.toml.proofs.Views.{Entry, view-Array, view-Integer}
use Rattle.racp_prices.specs.WantedTables.{put, put_optional}
use Rattle.racp_prices.specs.Wishes.{Wish, numbers_array, needed_version, says_more, table_of}

match_members : (o : Ordering) (a b c : List Entry) → members_view (match_ordering o a b c) ≡ match_ordering o (members_view a) (members_view b) (members_view c)
match_members Less a b c = refl
match_members Equal a b c = refl
match_members Greater a b c = refl

-- an entry that is put into a map is a member that is put into its table
pub insert-view : (es : List Entry) (k : String Global) (v : Value) → members_view (insert_entry string_cmp es k v) ≡ put (string_bytes k) (view v) (members_view es)
unfolding put
insert-view [] k v = refl
insert-view (e ∷ es) k v = match_members (string_cmp k e.0) _ _ _ ∙ rw (insert-view es k v)

pub put-is : (es new : List Entry) (k : String Global) (v : Value) (key : List ℕ) → new ≡ insert_entry string_cmp es k v → string_bytes k ≡ key → members_view new ≡ put key (view v) (members_view es)
put-is es new k v key e same = ap members_view e ∙ insert-view es k v ∙ ap (λ name. put name (view v) (members_view es)) same

view-numbers : (numbers : List ℕ) → items_view (map (λ n. Integer (pos n)) numbers) ≡ items_of (map (λ n. integer (pos n)) numbers)
view-numbers [] = refl
view-numbers (n ∷ numbers) = rw (view-Integer (pos n), view-numbers numbers)

pub array-view : (items : Vec Value Global) (numbers : List ℕ) → items.items ≡ map (λ n. Integer (pos n)) numbers → view (Array items) ≡ numbers_array numbers
unfolding numbers_array
array-view items numbers e = view-Array items ∙ ap array (ap items_view e ∙ view-numbers numbers)

-- numbers that may be there, seen in one step or in two
twice : {A B C : Type 0} (f : A → B) (g : B → C) (o : Option A) → option_map (λ x. g (f x)) o ≡ option_map g (option_map f o)
twice f g (Some x) = refl
twice f g None = refl

-- the table with these keys, put into it one after another
abbrev puts : ℕ → List ℕ → Option (List ℕ) → Option (List ℕ) → Option (List ℕ) → Option (List ℕ) → Members
puts deadline prices owned ceilings release due =
    put_optional (codes "due") (option_map numbers_array due) (put_optional (codes "release") (option_map numbers_array release)
    (put_optional (codes "ceiling") (option_map numbers_array ceilings) (put_optional (codes "owned") (option_map numbers_array owned)
    (put (codes "prices") (numbers_array prices) (put (codes "deadline") (integer (pos deadline)) no_members)))))

-- with the version they make the table
all_put : (deadline : ℕ) (prices : List ℕ) (owned ceilings release due : Option (List ℕ)) → let wish : Wish = record { deadline = deadline; prices = prices; owned = owned; ceilings = ceilings; release = release; due = due } in
    put_optional (codes "version") (needed_version wish) (puts deadline prices owned ceilings release due) ≡ table_of wish
unfolding put table_of
all_put deadline prices (Some owned) (Some ceilings) (Some release) (Some due) = refl
all_put deadline prices (Some owned) (Some ceilings) (Some release) None = refl
all_put deadline prices (Some owned) (Some ceilings) None (Some due) = refl
all_put deadline prices (Some owned) (Some ceilings) None None = refl
all_put deadline prices (Some owned) None (Some release) (Some due) = refl
all_put deadline prices (Some owned) None (Some release) None = refl
all_put deadline prices (Some owned) None None (Some due) = refl
all_put deadline prices (Some owned) None None None = refl
all_put deadline prices None (Some ceilings) (Some release) (Some due) = refl
all_put deadline prices None (Some ceilings) (Some release) None = refl
all_put deadline prices None (Some ceilings) None (Some due) = refl
all_put deadline prices None (Some ceilings) None None = refl
all_put deadline prices None None (Some release) (Some due) = refl
all_put deadline prices None None (Some release) None = refl
all_put deadline prices None None None (Some due) = refl
all_put deadline prices None None None None = refl

-- numbers that a table has where they are wanted
pub seen : (o : Option (Vec ℕ Global)) (r : Option (Bor (Vec ℕ Global))) (wanted : Option (List ℕ)) → option_copied r ≡ o → option_map (λ x. x.items) o ≡ wanted →
    option_map (λ n. numbers_array n.items) (option_copied r) ≡ option_map numbers_array wanted
seen o r wanted e f = ap (option_map (λ (n : Vec ℕ Global). numbers_array n.items)) e ∙ twice (λ (x : Vec ℕ Global). x.items) numbers_array o ∙ ap (option_map numbers_array) f

-- the last of the tables that are made is the one that is wanted
pub made : {E : Type 0} (wish : Wish) (plain owned ceilings release due : Members) (needs_version : Bool) (r : Result (BTreeMap (String Global) Value) E) →
    plain ≡ put (codes "prices") (numbers_array wish.prices) (put (codes "deadline") (integer (pos wish.deadline)) no_members) →
    owned ≡ put_optional (codes "owned") (option_map numbers_array wish.owned) plain → ceilings ≡ put_optional (codes "ceiling") (option_map numbers_array wish.ceilings) owned →
    release ≡ put_optional (codes "release") (option_map numbers_array wish.release) ceilings → due ≡ put_optional (codes "due") (option_map numbers_array wish.due) release →
    needs_version ≡ says_more wish →
    IfOk r (λ table. table_view table ≡ put_optional (codes "version") (if needs_version then Some (integer (pos 2)) else None) due) → IfOk r (λ table. table_view table ≡ table_of wish)
made wish plain owned ceilings release due needs_version (Ok table) e1 e2 e3 e4 e5 e6 e =
    let version : Bool → Option Data = λ b. if b then Some (integer (pos 2)) else None in
    let owned_is = e2 ∙ ap (put_optional (codes "owned") (option_map numbers_array wish.owned)) e1 in
    let ceilings_are = e3 ∙ ap (put_optional (codes "ceiling") (option_map numbers_array wish.ceilings)) owned_is in
    let release_is = e4 ∙ ap (put_optional (codes "release") (option_map numbers_array wish.release)) ceilings_are in
    let due_is = e5 ∙ ap (put_optional (codes "due") (option_map numbers_array wish.due)) release_is in
    e ∙ ap₂ (λ (b : Bool) (t : Members). put_optional (codes "version") (version b) t) e6 due_is ∙ all_put wish.deadline wish.prices wish.owned wish.ceilings wish.release wish.due
made wish plain owned ceilings release due needs_version (Err fault) e1 e2 e3 e4 e5 e6 e = tt
