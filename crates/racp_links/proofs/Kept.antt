-- Starts that keep links, and starts that keep the pairs of these.
use Rattle.std.proofs.Common.{◌≡◌, ◌∙◌, ℕ, zero, suc, ◌+◌, ◌<◌, ◌≤◌, inl, inr, List, [], ◌∷◌, ◌++◌, length, get_or, map, ap, sym, refl, subst, arith, All, Contains, length-append}
use Rattle.std.proofs.lemmas.List.{get_or_append_left, get_or-append-add}
use Rattle.std.proofs.lemmas.List.Elements.{All-nil, All-cons, All-head, All-tail, All-append, All-contains, All-from_get_or}
use Rattle.racp_model.specs.Project.{Project, Activity, no_job, duration, number, place}
use Rattle.racp_model.specs.Schedule.{KeepsPrecedence}
use Rattle.racp_model.proofs.lemmas.Relations.{all_members}
use Rattle.racp_links.specs.declared.link.Link.{Link}
use Rattle.racp_links.specs.Links.{of_task, NamesTasks, IsApart, KeepsLink, KeepsLinks, gap, waits_of, pairs_of, all_waits, all_pairs}
use Rattle.racp_links.specs.Faults.{AreWell, no_link}
use Rattle.racp_links.specs.Laws.{IsProjectOf, LinksArePrecedence}
use Rattle.racp_links.proofs.Gaps.{none_or_some, pair_alone, pairs_around, gaps_of, ends_of, all_gaps, all_ends, gap_some, end_some, gaps-length, ends-length, all_ends-length, gaps_are}

-- what holds of all of two lists, holds of all of each
pub all_left : {X : Type 0} (P : X → Type 0) (xs ys : List X) → All P (xs ++ ys) → All P xs
all_left P xs ys all k d inside =
    subst P (get_or_append_left xs ys d k inside) (all k d (omega (arith, length-append xs ys)))

pub all_right : {X : Type 0} (P : X → Type 0) (xs ys : List X) → All P (xs ++ ys) → All P ys
all_right P xs ys all k d inside =
    subst P (get_or-append-add xs ys k d) (all (length xs + k) d (omega (arith, length-append xs ys)))

-- a function has the values of a list from a place on
abbrev pub Agrees : (ℕ → ℕ) → ℕ → List ℕ → Type 0
Agrees f at values = (k : ℕ) → k < length values → f (at + k) ≡ get_or values k 0

agrees_left : (f : ℕ → ℕ) (at : ℕ) (xs ys : List ℕ) → Agrees f at (xs ++ ys) → Agrees f at xs
agrees_left f at xs ys agrees k inside =
    agrees k (omega (arith, length-append xs ys)) ∙ get_or_append_left xs ys 0 k inside

agrees_right : (f : ℕ → ℕ) (at next : ℕ) (xs ys : List ℕ) → at + length xs ≡ next → Agrees f at (xs ++ ys) → Agrees f next ys
agrees_right f at next xs ys is agrees k inside =
    let there : next + k ≡ at + (length xs + k) = omega arith in
    ap f there ∙ agrees (length xs + k) (omega (arith, length-append xs ys)) ∙ get_or-append-add xs ys k 0

-- a function has the values of the tasks
abbrev pub IsOfTasks : ℕ → (ℕ → ℕ) → List ℕ → Type 0
IsOfTasks tasks f values = (i : ℕ) → i < tasks → f i ≡ get_or values i 0

-- the second job of a pair of numbers starts only when the first has ended
abbrev pub KeepsPair : (ℕ → ℕ) → (ℕ → ℕ) → ℕ × ℕ → Type 0
KeepsPair start lasts pair = start (place pair.0) + lasts (place pair.0) ≤ start (place pair.1)

-- a link names two tasks, and its second starts only when its first has ended
abbrev pub CanBeMade : List ℕ → Link → Type 0
CanBeMade durations link = NamesTasks (length durations) link × IsApart durations link

-- starts and durations of all jobs, which for the tasks are these
module _ (durations starts : List ℕ) (start lasts : ℕ → ℕ)
    (tasks : IsOfTasks (length durations) start starts) (run : IsOfTasks (length durations) lasts durations) where
  -- a link whose pairs are kept is kept
  link_from_pairs : (jobs : ℕ) (link : Link) → CanBeMade durations link → Agrees lasts jobs (gaps_of durations link) →
      All (KeepsPair start lasts) (pairs_of durations jobs link) → KeepsLink durations starts link
  link_from_pairs jobs link can wait kept =
      let first : start (place link.before) ≡ of_task starts link.before = tasks (place link.before) (omega (arith, can.0.0)) in
      let second : start (place link.after) ≡ of_task starts link.after = tasks (place link.after) (omega (arith, can.0.1)) in
      let long : lasts (place link.before) ≡ of_task durations link.before = run (place link.before) (omega (arith, can.0.0)) in
      elim (none_or_some (gap durations link)) [
        | inl none ↦
            let all : All (KeepsPair start lasts) ((link.before, link.after) ∷ []) =
            subst (All (KeepsPair start lasts)) (pair_alone durations jobs link none) kept in
            let pair : KeepsPair start lasts (link.before, link.after) = all 0 (0, 0) (omega arith) in
            omega (arith, can.1, none)
        | inr some ↦
            let all : All (KeepsPair start lasts) ((link.before, number jobs) ∷ (number jobs, link.after) ∷ []) =
            subst (All (KeepsPair start lasts)) (pairs_around durations jobs link some) kept in
            let into : KeepsPair start lasts (link.before, number jobs) = all 0 (0, 0) (omega arith) in
            let out : KeepsPair start lasts (number jobs, link.after) = all 1 (0, 0) (omega arith) in
            let here : place (number jobs) ≡ jobs = omega arith in
            let agrees : Agrees lasts jobs (gap durations link ∷ []) = subst (Agrees lasts jobs) (gap_some durations link some) wait in
            let takes : lasts (jobs + 0) ≡ gap durations link = agrees 0 (omega arith) in
            let same : jobs + 0 ≡ jobs = omega arith in
            omega (arith, can.1, ap start here, ap lasts here, ap lasts same)
      ]

  -- and the other way round, if its waiting job starts when its first task ends
  pairs_from_link : (jobs : ℕ) (link : Link) → CanBeMade durations link → Agrees lasts jobs (gaps_of durations link) →
      Agrees start jobs (ends_of durations starts link) → KeepsLink durations starts link →
      All (KeepsPair start lasts) (pairs_of durations jobs link)
  pairs_from_link jobs link can wait ends kept =
      let first : start (place link.before) ≡ of_task starts link.before = tasks (place link.before) (omega (arith, can.0.0)) in
      let second : start (place link.after) ≡ of_task starts link.after = tasks (place link.after) (omega (arith, can.0.1)) in
      let long : lasts (place link.before) ≡ of_task durations link.before = run (place link.before) (omega (arith, can.0.0)) in
      elim (none_or_some (gap durations link)) [
        | inl none ↦
            let pair : KeepsPair start lasts (link.before, link.after) = omega (arith, can.1, none, kept) in
            subst (All (KeepsPair start lasts)) (sym (pair_alone durations jobs link none))
            (All-cons (KeepsPair start lasts) (link.before, link.after) [] pair (All-nil (KeepsPair start lasts)))
        | inr some ↦
            let here : place (number jobs) ≡ jobs = omega arith in
            let same : jobs + 0 ≡ jobs = omega arith in
            let agrees : Agrees lasts jobs (gap durations link ∷ []) = subst (Agrees lasts jobs) (gap_some durations link some) wait in
            let takes : lasts (jobs + 0) ≡ gap durations link = agrees 0 (omega arith) in
            let begins : Agrees start jobs ((of_task starts link.before + of_task durations link.before) ∷ []) =
            subst (Agrees start jobs) (end_some durations starts link some) ends in
            let begin : start (jobs + 0) ≡ of_task starts link.before + of_task durations link.before = begins 0 (omega arith) in
            let into : KeepsPair start lasts (link.before, number jobs) = omega (arith, ap start here, ap start same) in
            let out : KeepsPair start lasts (number jobs, link.after) =
            omega (arith, can.1, kept, ap start here, ap start same, ap lasts here, ap lasts same) in
            subst (All (KeepsPair start lasts)) (sym (pairs_around durations jobs link some))
            (All-cons (KeepsPair start lasts) (link.before, number jobs) ((number jobs, link.after) ∷ []) into
            (All-cons (KeepsPair start lasts) (number jobs, link.after) [] out (All-nil (KeepsPair start lasts))))
      ]

  -- links whose pairs are kept are kept
  pub links_from_pairs : (jobs : ℕ) (links : List Link) → All (CanBeMade durations) links → Agrees lasts jobs (all_gaps durations links) →
      All (KeepsPair start lasts) (all_pairs durations jobs links) → All (KeepsLink durations starts) links
  links_from_pairs jobs [] can wait kept = All-nil (KeepsLink durations starts)
  links_from_pairs jobs (link ∷ links) can wait kept =
      let next : ℕ = jobs + length (waits_of durations link) in
      let behind : jobs + length (gaps_of durations link) ≡ next = omega (arith, gaps-length durations link) in
      All-cons (KeepsLink durations starts) link links
      (link_from_pairs jobs link (All-head (CanBeMade durations) link links can)
      (agrees_left lasts jobs (gaps_of durations link) (all_gaps durations links) wait)
      (all_left (KeepsPair start lasts) (pairs_of durations jobs link) (all_pairs durations next links) kept))
      (links_from_pairs next links (All-tail (CanBeMade durations) link links can)
      (agrees_right lasts jobs next (gaps_of durations link) (all_gaps durations links) behind wait)
      (all_right (KeepsPair start lasts) (pairs_of durations jobs link) (all_pairs durations next links) kept))

  -- and the other way round
  pub pairs_from_links : (jobs : ℕ) (links : List Link) → All (CanBeMade durations) links → Agrees lasts jobs (all_gaps durations links) →
      Agrees start jobs (all_ends durations starts links) → All (KeepsLink durations starts) links →
      All (KeepsPair start lasts) (all_pairs durations jobs links)
  pairs_from_links jobs [] can wait ends kept = All-nil (KeepsPair start lasts)
  pairs_from_links jobs (link ∷ links) can wait ends kept =
      let next : ℕ = jobs + length (waits_of durations link) in
      let behind : jobs + length (gaps_of durations link) ≡ next = omega (arith, gaps-length durations link) in
      let later : jobs + length (ends_of durations starts link) ≡ next = omega (arith, ends-length durations starts link) in
      All-append (KeepsPair start lasts) (pairs_of durations jobs link) (all_pairs durations next links)
      (pairs_from_link jobs link (All-head (CanBeMade durations) link links can)
      (agrees_left lasts jobs (gaps_of durations link) (all_gaps durations links) wait)
      (agrees_left start jobs (ends_of durations starts link) (all_ends durations starts links) ends)
      (All-head (KeepsLink durations starts) link links kept))
      (pairs_from_links next links (All-tail (CanBeMade durations) link links can)
      (agrees_right lasts jobs next (gaps_of durations link) (all_gaps durations links) behind wait)
      (agrees_right start jobs next (ends_of durations starts link) (all_ends durations starts links) later ends)
      (All-tail (KeepsLink durations starts) link links kept))

-- the pairs of links name jobs by numbers from 1
abbrev pub IsFromOne : ℕ × ℕ → Type 0
IsFromOne pair = (1 ≤ pair.0) × (1 ≤ pair.1)

pairs_name : (durations : List ℕ) (jobs : ℕ) (link : Link) → CanBeMade durations link → All IsFromOne (pairs_of durations jobs link)
pairs_name durations jobs link can = elim (none_or_some (gap durations link)) [
  | inl none ↦ subst (All IsFromOne) (sym (pair_alone durations jobs link none))
      (All-cons IsFromOne (link.before, link.after) [] (can.0.0.0, can.0.1.0) (All-nil IsFromOne))
  | inr some ↦ subst (All IsFromOne) (sym (pairs_around durations jobs link some))
      (All-cons IsFromOne (link.before, number jobs) ((number jobs, link.after) ∷ []) (can.0.0.0, omega arith)
      (All-cons IsFromOne (number jobs, link.after) [] (omega arith, can.0.1.0) (All-nil IsFromOne)))
]

all_pairs_name : (durations : List ℕ) (jobs : ℕ) (links : List Link) → All (CanBeMade durations) links → All IsFromOne (all_pairs durations jobs links)
all_pairs_name durations jobs [] can = All-nil IsFromOne
all_pairs_name durations jobs (link ∷ links) can =
    let next : ℕ = jobs + length (waits_of durations link) in
    All-append IsFromOne (pairs_of durations jobs link) (all_pairs durations next links)
    (pairs_name durations jobs link (All-head (CanBeMade durations) link links can))
    (all_pairs_name durations next links (All-tail (CanBeMade durations) link links can))

-- links that are well can be made
can_be_made : (durations : List ℕ) (links : List Link) → AreWell durations links → All (CanBeMade durations) links
can_be_made durations links well =
    All-from_get_or (CanBeMade durations) links no_link (λ k inside. ((well k inside).names, (well k inside).apart))

-- the duration at a place of jobs
duration_at : (jobs : List Activity) (i : ℕ) → (get_or jobs i no_job).duration ≡ get_or (map (λ (job : Activity). job.duration) jobs) i 0
duration_at [] i = refl
duration_at (job ∷ jobs) zero = refl
duration_at (job ∷ jobs) (suc i) = duration_at jobs i

-- the duration of each job of a project of tasks and waiting jobs
lasts_at : (durations : List ℕ) (links : List Link) (p : Project) → IsProjectOf durations links p → (i : ℕ) →
    duration p i ≡ get_or (durations ++ all_gaps durations links) i 0
unfolding duration
lasts_at durations links p is i =
    duration_at p.jobs i
    ∙ ap (λ (values : List ℕ). get_or values i 0) (is.jobs ∙ ap (λ (rest : List ℕ). durations ++ rest) (gaps_are durations links))

-- starts of the tasks keep all links exactly if there are starts of the waiting jobs with which they keep precedence
pub are_precedence : LinksArePrecedence
are_precedence durations links p starts well is places = (forth, back)
  where
    can : All (CanBeMade durations) links
    can = can_be_made durations links well

    run : IsOfTasks (length durations) (duration p) durations
    run i inside = lasts_at durations links p is i ∙ get_or_append_left durations (all_gaps durations links) 0 i inside

    wait : Agrees (duration p) (length durations) (all_gaps durations links)
    wait k inside = lasts_at durations links p is (length durations + k) ∙ get_or-append-add durations (all_gaps durations links) k 0

    of_tasks : (waits : List ℕ) → IsOfTasks (length durations) (λ i. get_or (starts ++ waits) i 0) starts
    of_tasks waits i inside = get_or_append_left starts waits 0 i (omega (arith, places))

    forth : KeepsLinks durations links starts →
        (waits : List ℕ) × (length waits ≡ length (all_waits durations links)) × KeepsPrecedence p (starts ++ waits)
    forth kept =
        let ends : List ℕ = all_ends durations starts links in
        let begin : Agrees (λ i. get_or (starts ++ ends) i 0) (length durations) ends =
        λ k inside. ap (λ (n : ℕ). get_or (starts ++ ends) (n + k) 0) (sym places) ∙ get_or-append-add starts ends k 0 in
        let all : All (KeepsPair (λ i. get_or (starts ++ ends) i 0) (duration p)) (all_pairs durations (length durations) links) =
        pairs_from_links durations starts (λ i. get_or (starts ++ ends) i 0) (duration p) (of_tasks ends) run (length durations) links can wait begin kept in (
          ends,
          all_ends-length durations starts links,
          λ i j before.
              let pair : KeepsPair (λ i. get_or (starts ++ ends) i 0) (duration p) (number i, number j) =
              All-contains (KeepsPair (λ i. get_or (starts ++ ends) i 0) (duration p)) (all_pairs durations (length durations) links) (number i, number j) all ((is.arcs (number i, number j)).0 before) in
              let at_first : place (number i) ≡ i = omega arith in
              let at_second : place (number j) ≡ j = omega arith in
              omega (arith, pair, ap (λ (n : ℕ). get_or (starts ++ ends) n 0) at_first, ap (λ (n : ℕ). get_or (starts ++ ends) n 0) at_second, ap (duration p) at_first),
        )

    back : (waits : List ℕ) × (length waits ≡ length (all_waits durations links)) × KeepsPrecedence p (starts ++ waits) →
        KeepsLinks durations links starts
    back (waits, many, keeps) =
        let from_one : All IsFromOne (all_pairs durations (length durations) links) = all_pairs_name durations (length durations) links can in
        let each : (pair : ℕ × ℕ) → Contains (all_pairs durations (length durations) links) pair → KeepsPair (λ i. get_or (starts ++ waits) i 0) (duration p) pair =
        λ pair inside.
        let named : IsFromOne pair = All-contains IsFromOne (all_pairs durations (length durations) links) pair from_one inside in
        let first : pair.0 ≡ number (place pair.0) = omega (arith, named.0) in
        let second : pair.1 ≡ number (place pair.1) = omega (arith, named.1) in
        let P : ℕ → Type 0 = λ a. Contains p.arcs (a, pair.1) in
        let Q : ℕ → Type 0 = λ b. Contains p.arcs (number (place pair.0), b) in
        keeps (place pair.0) (place pair.1) (subst Q second (subst P first ((is.arcs pair).1 inside))) in
        links_from_pairs durations starts (λ i. get_or (starts ++ waits) i 0) (duration p) (of_tasks waits) run (length durations) links can wait
        (all_members (KeepsPair (λ i. get_or (starts ++ waits) i 0) (duration p)) (all_pairs durations (length durations) links) each)
