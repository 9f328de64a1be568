-- What a link wants between its tasks: nothing, or a waiting job.
use Rattle.std.proofs.Common.{◌≡◌, ◌∙◌, ℕ, zero, suc, ◌+◌, ◌<◌, ◌⊎◌, inl, inr, Bool, true, false, List, [], ◌∷◌, ◌++◌, length, map, ap, refl, arith, length-append}
use Rattle.std.specs.Prelude.{◌==◌, if◌then◌else◌}
use Rattle.std.specs.List.{flat_map}
use Rattle.std.proofs.lemmas.Bool.{ne_eqb}
use Rattle.std.proofs.lemmas.List.{map-append}
use Rattle.racp_model.specs.Project.{number}
use Rattle.racp_links.specs.declared.link.Link.{Link}
use Rattle.racp_links.specs.declared.waits.Wait.{Wait}
use Rattle.racp_links.specs.Links.{of_task, gap, waits_of, pairs_of, all_waits}

-- a link wants no time between, or some
pub none_or_some : (units : ℕ) → (units ≡ 0) ⊎ (0 < units)
none_or_some zero = inl refl
none_or_some (suc units) = inr (omega arith)

-- the pair of a link that wants no time between
pub pair_alone : (durations : List ℕ) (jobs : ℕ) (link : Link) → gap durations link ≡ 0 →
    pairs_of durations jobs link ≡ (link.before, link.after) ∷ []
pair_alone durations jobs link none =
    ap (λ (units : ℕ). if units == 0 then (link.before, link.after) ∷ [] else (link.before, number jobs) ∷ (number jobs, link.after) ∷ []) none

-- a choice by whether a number is 0, where it is not
at_some : {X : Type 0} (units : ℕ) (none some : X) → 0 < units → (if units == 0 then none else some) ≡ some
at_some {X} units none some above =
    let test : (units == 0) ≡ false = ne_eqb units 0 (λ e. omega (arith, e)) in
    ap (λ (b : Bool). if b then none else some) test

-- the pairs of a link that wants some
pub pairs_around : (durations : List ℕ) (jobs : ℕ) (link : Link) → 0 < gap durations link →
    pairs_of durations jobs link ≡ (link.before, number jobs) ∷ (number jobs, link.after) ∷ []
pairs_around durations jobs link some =
    at_some (gap durations link) ((link.before, link.after) ∷ []) ((link.before, number jobs) ∷ (number jobs, link.after) ∷ []) some

-- how long the waiting job of a link takes, if it has one
abbrev pub gaps_of : List ℕ → Link → List ℕ
gaps_of durations link = if gap durations link == 0 then [] else gap durations link ∷ []

-- when the first task of a link ends, if it has a waiting job
abbrev pub ends_of : List ℕ → List ℕ → Link → List ℕ
ends_of durations starts link = if gap durations link == 0 then []
    else (of_task starts link.before + of_task durations link.before) ∷ []

-- the same of all links
abbrev pub all_gaps : List ℕ → List Link → List ℕ
all_gaps durations links = flat_map (gaps_of durations) links

abbrev pub all_ends : List ℕ → List ℕ → List Link → List ℕ
all_ends durations starts links = flat_map (ends_of durations starts) links

pub gap_some : (durations : List ℕ) (link : Link) → 0 < gap durations link → gaps_of durations link ≡ gap durations link ∷ []
gap_some durations link some = at_some (gap durations link) [] (gap durations link ∷ []) some

pub end_some : (durations starts : List ℕ) (link : Link) → 0 < gap durations link →
    ends_of durations starts link ≡ (of_task starts link.before + of_task durations link.before) ∷ []
end_some durations starts link some =
    at_some (gap durations link) [] ((of_task starts link.before + of_task durations link.before) ∷ []) some

-- two lists of one element at most, by one test, are of one length
same_length : {X Y : Type 0} (b : Bool) (x : X) (y : Y) → length (if b then [] else x ∷ []) ≡ length (if b then [] else y ∷ [])
same_length true x y = refl
same_length false x y = refl

pub gaps-length : (durations : List ℕ) (link : Link) → length (gaps_of durations link) ≡ length (waits_of durations link)
gaps-length durations link = same_length {X = ℕ} {Y = Wait} (gap durations link == 0) (gap durations link)
    (record { duration = gap durations link; after = link.after })

pub ends-length : (durations starts : List ℕ) (link : Link) → length (ends_of durations starts link) ≡ length (waits_of durations link)
ends-length durations starts link = same_length {X = ℕ} {Y = Wait} (gap durations link == 0)
    (of_task starts link.before + of_task durations link.before) (record { duration = gap durations link; after = link.after })

-- there is an end for each waiting job
pub all_ends-length : (durations starts : List ℕ) (links : List Link) →
    length (all_ends durations starts links) ≡ length (all_waits durations links)
all_ends-length durations starts [] = refl
all_ends-length durations starts (link ∷ links) =
    omega (
      arith,
      length-append (ends_of durations starts link) (all_ends durations starts links),
      length-append (waits_of durations link) (all_waits durations links),
      ends-length durations starts link,
      all_ends-length durations starts links,
    )

-- the duration of a link's waiting job
one_gap : (b : Bool) (units after : ℕ) →
    map (λ (wait : Wait). wait.duration) (if b then [] else record { duration = units; after = after } ∷ []) ≡ (if b then [] else units ∷ [])
one_gap true units after = refl
one_gap false units after = refl

-- the durations of all waiting jobs
pub gaps_are : (durations : List ℕ) (links : List Link) →
    map (λ (wait : Wait). wait.duration) (all_waits durations links) ≡ all_gaps durations links
gaps_are durations [] = refl
gaps_are durations (link ∷ links) =
    map-append (λ (wait : Wait). wait.duration) (waits_of durations link) (all_waits durations links)
    ∙ ap (λ (front : List ℕ). front ++ map (λ (wait : Wait). wait.duration) (all_waits durations links))
    (one_gap (gap durations link == 0) (gap durations link) link.after)
    ∙ ap (λ (rest : List ℕ). gaps_of durations link ++ rest) (gaps_are durations links)
