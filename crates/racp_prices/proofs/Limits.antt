-- What an order text says is within the limits.
use Rattle.std.proofs.Common.{◌≡◌, refl, sym, ◌∙◌, ap, ℕ, ℤ, pos, negsuc, zero, suc, ◌+◌, ◌<◌, ◌≤◌, min, true, false, List, [], ◌∷◌, length, map, replicate, arith, Option, Some, None, IfSome, Ok, Err, subst, subst₂, All, IfOk}
use Rattle.std.specs.Prelude.{Result, nat_le, unwrap_or, ◌==◌, codes, slice_index, bytes_eq}
use Rattle.std.specs.List.{list_any}
use Rattle.std.proofs.lemmas.Bool.{and_parts, leb-true, eqb-true, false≢true}
use Rattle.std.proofs.lemmas.List.Elements.{All-nil, All-cons, All-replicate}
use Rattle.std.proofs.lemmas.List.{length-map, length-replicate}
use Rattle.std.specs.Cmp.Lexicographic.{slice_cmp}
use Rattle.std.specs.Ordering.{nat_cmp}
use Rattle.std.specs.declared.cmp.Ordering.{Ordering}
use Rattle.std.specs.declared.cmp.Ordering.TheVariants.{Less, Equal, Greater}
use Rattle.toml.specs.Data.{Data, Items, no_items, item, Members, no_members, member, get_member}
use Rattle.racp_model.specs.Project.{Project}
use Rattle.racp_model.specs.Terms.{Terms, AreTermsOf}
use Rattle.racp_model.proofs.lemmas.Orders.{lex_same}
use Rattle.racp_model.proofs.lemmas.Results.{IsFault, bind_ok, same_ok, chosen}
use Rattle.racp_prices.specs.Orders.{whole, within, array_of, count_of, whole_items, counted_items, all_within, number_of, numbers_of, optional_numbers, version_of, plain_keys, keys_of, has_only, required, known_keys, order_of, IsOrder, IsOrderOrMemory, FitEachProject}
use Rattle.racp_prices.specs.declared.fault.OrderFault.{OrderFault}
use Rattle.racp_prices.specs.declared.fault.OrderFault.TheVariants.{Count, Range, Unknown}
use Rattle.racp_prices.specs.declared.version.Version.{Version}
use Rattle.racp_prices.specs.declared.version.Version.TheVariants.{First}

abbrev IsAtMost : ℕ → ℕ → Type 0
IsAtMost most n = n ≤ most

within_ok : (most n : ℕ) (number : ℤ) → within most number ≡ Ok n → n ≤ most
within_ok most n (pos x) e = let (test, same) = chosen (nat_le x most) x n Range e in subst (IsAtMost most) same (leb-true x most test)
within_ok most n (negsuc x) e = absurd (subst IsFault e tt)

number_ok : (most n : ℕ) (value : Data) → number_of most value ≡ Ok n → n ≤ most
unfolding number_of
number_ok most n value e = let (number, read, right) = bind_ok (whole value) _ n e in within_ok most n number right

-- so many numbers, each at most the most there may be
abbrev pub AreUpTo : ℕ → ℕ → List ℕ → Type 0
AreUpTo count most numbers = (length numbers ≡ count) × All (λ x. x ≤ most) numbers

all_ok : (most : ℕ) (items : Items) (numbers : List ℕ) → all_within most items ≡ Ok numbers → AreUpTo (count_of items) most numbers
unfolding all_within count_of
all_ok most no_items numbers e = subst (AreUpTo 0 most) (same_ok [] numbers e) (refl, All-nil (λ x. x ≤ most))
all_ok most (item value rest) numbers e =
    let (first, read, more) = bind_ok (number_of most value) _ numbers e in
    let (others, read_others, end) = bind_ok (all_within most rest) _ numbers more in
    let (places, small) = all_ok most rest others read_others in
    subst (AreUpTo (1 + count_of rest) most) (same_ok (first ∷ others) numbers end)
    (omega (arith, places), All-cons (λ x. x ≤ most) first others (number_ok most first value read) small)

numbers_ok : (count most : ℕ) (value : Data) (numbers : List ℕ) → numbers_of count most value ≡ Ok numbers → AreUpTo count most numbers
unfolding numbers_of whole_items counted_items
numbers_ok count most value numbers e =
    let (items, is_array, e1) = bind_ok (array_of value) _ numbers e in
    let (wholes, are, e2) = bind_ok (whole_items items) _ numbers e1 in
    let (counted, right, e3) = bind_ok (counted_items count wholes) _ numbers e2 in
    let (same_count, same) = chosen (count_of wholes == count) wholes counted Count right in
    let (places, small) = all_ok most counted numbers e3 in
    (places ∙ (ap count_of (sym same) ∙ eqb-true (count_of wholes) count same_count), small)

optional_ok : (count most : ℕ) (value : Option Data) (numbers : Option (List ℕ)) → optional_numbers count most value ≡ Ok numbers → IfSome numbers (AreUpTo count most)
unfolding optional_numbers
optional_ok count most None numbers e = subst (λ o. IfSome o (AreUpTo count most)) (same_ok None numbers e) tt
optional_ok count most (Some value) numbers e =
    let (read, is, end) = bind_ok (numbers_of count most value) _ numbers e in
    subst (λ o. IfSome o (AreUpTo count most)) (same_ok (Some read) numbers end) (numbers_ok count most value read is)

-- the numbers, or the same one so many times
or_all_ok : (count most other : ℕ) (numbers : Option (List ℕ)) → other ≤ most → IfSome numbers (AreUpTo count most) → AreUpTo count most (unwrap_or numbers (replicate count other))
or_all_ok count most other None l h = (length-replicate count other, All-replicate (λ x. x ≤ most) count other l)
or_all_ok count most other (Some numbers) l h = h

ceilings_ok : (count most : ℕ) (numbers : Option (List ℕ)) → IfSome numbers (AreUpTo count most) → IfSome numbers (λ xs. length xs ≡ count) × IfSome numbers (All (λ x. x ≤ most))
ceilings_ok count most None h = (tt, tt)
ceilings_ok count most (Some numbers) h = h

-- the parts of an order, as they were read
record ArePartsOf (resources jobs : ℕ) (table : Members) (terms : Terms) : Type 0 where
  version : Version
  owned : Option (List ℕ)
  release : Option (List ℕ)
  due : Option (List ℕ)
  has_version : version_of (get_member (codes "version") table) ≡ Ok version
  known : known_keys version table ≡ Ok table
  deadline_small : terms.deadline ≤ 10000000
  prices_read : AreUpTo resources 1000000 terms.prices
  owned_read : optional_numbers resources 10000000 (get_member (codes "owned") table) ≡ Ok owned
  ceilings_read : optional_numbers resources 10000000 (get_member (codes "ceiling") table) ≡ Ok terms.ceilings
  release_read : optional_numbers jobs 10000000 (get_member (codes "release") table) ≡ Ok release
  due_read : optional_numbers jobs 10000000 (get_member (codes "due") table) ≡ Ok due
  owned_is : terms.owned ≡ unwrap_or owned (replicate resources 0)
  release_is : terms.release ≡ unwrap_or release (replicate jobs 0)
  due_is : terms.due ≡ map (min terms.deadline) (unwrap_or due (replicate jobs terms.deadline))

parts_of : (resources jobs : ℕ) (table : Members) (terms : Terms) → order_of resources jobs table ≡ Ok terms → ArePartsOf resources jobs table terms
unfolding order_of known_keys
parts_of resources jobs table terms e =
    let (version, e1, r1) = bind_ok (version_of (get_member (codes "version") table)) _ terms e in
    let (deadline_value, e2, r2) = bind_ok (required (get_member (codes "deadline") table)) _ terms r1 in
    let (price_values, e3, r3) = bind_ok (required (get_member (codes "prices") table)) _ terms r2 in
    let (known, e4, r4) = bind_ok (known_keys version table) _ terms r3 in
    let (deadline, e5, r5) = bind_ok (number_of 10000000 deadline_value) _ terms r4 in
    let (prices, e6, r6) = bind_ok (numbers_of resources 1000000 price_values) _ terms r5 in
    let (owned, e7, r7) = bind_ok (optional_numbers resources 10000000 (get_member (codes "owned") known)) _ terms r6 in
    let (ceilings, e8, r8) = bind_ok (optional_numbers resources 10000000 (get_member (codes "ceiling") known)) _ terms r7 in
    let (release, e9, r9) = bind_ok (optional_numbers jobs 10000000 (get_member (codes "release") known)) _ terms r8 in
    let (due, e10, r10) = bind_ok (optional_numbers jobs 10000000 (get_member (codes "due") known)) _ terms r9 in
    let same_table : table ≡ known = (chosen (has_only (keys_of version) table) table known Unknown e4).1 in
    subst (ArePartsOf resources jobs table) (same_ok _ terms r10) (record {
      version = version;
      owned = owned;
      release = release;
      due = due;
      has_version = e1;
      known = subst (λ t. known_keys version table ≡ Ok t) (sym same_table) e4;
      deadline_small = number_ok 10000000 deadline deadline_value e5;
      prices_read = numbers_ok resources 1000000 price_values prices e6;
      owned_read = subst (λ t. optional_numbers resources 10000000 (get_member (codes "owned") t) ≡ Ok owned) (sym same_table) e7;
      ceilings_read = subst (λ t. optional_numbers resources 10000000 (get_member (codes "ceiling") t) ≡ Ok ceilings) (sym same_table) e8;
      release_read = subst (λ t. optional_numbers jobs 10000000 (get_member (codes "release") t) ≡ Ok release) (sym same_table) e9;
      due_read = subst (λ t. optional_numbers jobs 10000000 (get_member (codes "due") t) ≡ Ok due) (sym same_table) e10;
      owned_is = refl;
      release_is = refl;
      due_is = refl;
    })

-- numbers that are cut to the deadline are at most the deadline
cut_small : (most top : ℕ) (numbers : List ℕ) → top ≤ most → All (λ x. x ≤ most) (map (min top) numbers)
cut_small most top [] l = All-nil (λ x. x ≤ most)
cut_small most top (x ∷ xs) l = All-cons (λ x. x ≤ most) (min top x) (map (min top) xs) (omega (arith, l)) (cut_small most top xs l)

cut_at : (top : ℕ) (numbers : List ℕ) (i : ℕ) → slice_index (map (min top) numbers) i ≤ top
cut_at top [] i = omega arith
cut_at top (x ∷ xs) zero = omega arith
cut_at top (x ∷ xs) (suc i) = cut_at top xs i

within_terms : (p : Project) (table : Members) (terms : Terms) → ArePartsOf p.resources (length p.jobs) table terms →
    AreTermsOf p terms × ((i : ℕ) → i < length p.jobs → slice_index terms.due i ≤ terms.deadline)
within_terms p table terms h =
    let ceilings = ceilings_ok p.resources 10000000 terms.ceilings (optional_ok p.resources 10000000 (get_member (codes "ceiling") table) terms.ceilings h.ceilings_read) in
    let owned = or_all_ok p.resources 10000000 0 h.owned (omega arith) (optional_ok p.resources 10000000 (get_member (codes "owned") table) h.owned h.owned_read) in
    let release = or_all_ok (length p.jobs) 10000000 0 h.release (omega arith) (optional_ok (length p.jobs) 10000000 (get_member (codes "release") table) h.release h.release_read) in
    let due = or_all_ok (length p.jobs) 10000000 terms.deadline h.due h.deadline_small (optional_ok (length p.jobs) 10000000 (get_member (codes "due") table) h.due h.due_read) in (
      record {
        deadline = h.deadline_small;
        price_places = h.prices_read.0;
        prices = h.prices_read.1;
        owned_places = ap length h.owned_is ∙ owned.0;
        owned = subst (All (λ x. x ≤ 10000000)) (sym h.owned_is) owned.1;
        ceiling_places = ceilings.0;
        ceilings = ceilings.1;
        release_places = ap length h.release_is ∙ release.0;
        release = subst (All (λ x. x ≤ 10000000)) (sym h.release_is) release.1;
        due_places = ap length h.due_is ∙ (length-map (unwrap_or h.due (replicate (length p.jobs) terms.deadline)) (min terms.deadline) ∙ due.0);
        due = subst (All (λ x. x ≤ 10000000)) (sym h.due_is) (cut_small 10000000 terms.deadline (unwrap_or h.due (replicate (length p.jobs) terms.deadline)) h.deadline_small);
      },
      λ i l. subst (λ due. slice_index due i ≤ terms.deadline) (sym h.due_is) (cut_at terms.deadline (unwrap_or h.due (replicate (length p.jobs) terms.deadline)) i),
    )

pub read_within_limits : (p : Project) (text : List ℕ) (terms : Terms) → IsOrder p.resources (length p.jobs) text (Ok terms) →
    AreTermsOf p terms × ((i : ℕ) → i < length p.jobs → slice_index terms.due i ≤ terms.deadline)
read_within_limits p text terms (None, toml, e) = absurd (subst IsFault (sym e) tt)
read_within_limits p text terms (Some table, toml, e) = within_terms p table terms (parts_of p.resources (length p.jobs) table terms (sym e))

pub terms_from_reading : (resources jobs : ℕ) (text : List ℕ) (answer : Result Terms OrderFault) → IsOrderOrMemory resources jobs text answer → IfOk answer (FitEachProject resources jobs)
terms_from_reading resources jobs text (Ok terms) read = λ p same_resources same_jobs.
    (read_within_limits p text terms (subst₂ (λ r j. IsOrder r j text (Ok terms)) (sym same_resources) (sym same_jobs) read)).0
terms_from_reading resources jobs text (Err fault) read = tt

-- a key that the known ones are not among is not in a table that has only known ones
absent : (key : List ℕ) (known : List (List ℕ)) (table : Members) → list_any (bytes_eq key) known ≡ false → has_only known table ≡ true → get_member key table ≡ None
unfolding has_only
absent key known no_members f h = refl
absent key known (member l d ms) f h =
    let (here, rest) = and_parts (list_any (bytes_eq l) known) (has_only known ms) h in
    at (slice_cmp nat_cmp key l) refl here (absent key known ms f rest)
  where
    at : (o : Ordering) → slice_cmp nat_cmp key l ≡ o → list_any (bytes_eq l) known ≡ true → get_member key ms ≡ None → get_member key (member l d ms) ≡ None
    at Less e here rest = rw e rest
    at Equal e here rest = absurd (false≢true (sym f ∙ (ap (λ k. list_any (bytes_eq k) known) (lex_same key l e) ∙ here)))
    at Greater e here rest = rw e rest

-- a key that orders of the first version do not have
plain_absent : (key : List ℕ) (table : Members) → list_any (bytes_eq key) plain_keys ≡ false → known_keys First table ≡ Ok table → get_member key table ≡ None
unfolding known_keys
plain_absent key table f e = absent key plain_keys table f (chosen (has_only plain_keys table) table table Unknown e).0

none_read : (count most : ℕ) (value : Option Data) (numbers : Option (List ℕ)) → value ≡ None → optional_numbers count most value ≡ Ok numbers → None ≡ numbers
unfolding optional_numbers
none_read count most value numbers n e = same_ok None numbers (sym (ap (optional_numbers count most) n) ∙ e)

map_same : (top n : ℕ) → map (min top) (replicate n top) ≡ replicate n top
map_same top zero = refl
map_same top (suc n) = rw (map_same top n) (ap (λ x. x ∷ replicate n top) (top_is top))
  where
    top_is : (top : ℕ) → min top top ≡ top
    top_is top = omega arith

pub plain_order : (resources jobs : ℕ) (table : Members) (terms : Terms) → get_member (codes "version") table ≡ None → order_of resources jobs table ≡ Ok terms →
    (terms.owned ≡ replicate resources 0) × (terms.ceilings ≡ None) × (terms.release ≡ replicate jobs 0) × (terms.due ≡ replicate jobs terms.deadline)
unfolding version_of
plain_order resources jobs table terms n e =
    let h = parts_of resources jobs table terms e in
    let first : First ≡ h.version = same_ok First h.version (sym (ap version_of n) ∙ h.has_version) in
    let known : known_keys First table ≡ Ok table = subst (λ v. known_keys v table ≡ Ok table) (sym first) h.known in
    let owned = none_read resources 10000000 _ h.owned (plain_absent (codes "owned") table refl known) h.owned_read in
    let ceilings = none_read resources 10000000 _ terms.ceilings (plain_absent (codes "ceiling") table refl known) h.ceilings_read in
    let release = none_read jobs 10000000 _ h.release (plain_absent (codes "release") table refl known) h.release_read in
    let due = none_read jobs 10000000 _ h.due (plain_absent (codes "due") table refl known) h.due_read in (
      h.owned_is ∙ ap (λ o. unwrap_or o (replicate resources 0)) (sym owned),
      sym ceilings,
      h.release_is ∙ ap (λ o. unwrap_or o (replicate jobs 0)) (sym release),
      h.due_is ∙ (ap (λ o. map (min terms.deadline) (unwrap_or o (replicate jobs terms.deadline))) (sym due) ∙ map_same terms.deadline jobs),
    )
