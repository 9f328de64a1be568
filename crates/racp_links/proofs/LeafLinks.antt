-- Links of phases, and the links between leaves that they stand for.
use Rattle.std.proofs.Common.{◌≡◌, ℕ, ◌+◌, ◌≤◌, ◌⊎◌, inl, inr, Bool, true, false, List, [], ◌∷◌, map, ap, sym, refl, subst, arith, All, Contains}
use Rattle.std.specs.Prelude.{if◌then◌else◌}
use Rattle.std.specs.List.{flat_map}
use Rattle.std.proofs.lemmas.Bool.{cases_lt, cases_Bool}
use Rattle.std.proofs.lemmas.List.Elements.{All-nil, All-cons, All-head, All-tail, All-append, All-map, All-from_get_or}
use Rattle.racp_model.proofs.lemmas.Relations.{member_cases, member_later, member_first, no_member, all_members}
use Rattle.racp_links.specs.declared.link.LinkKind.TheVariants.{FinishToStart}
use Rattle.racp_links.specs.declared.link.Link.{Link}
use Rattle.racp_links.specs.Links.{of_task, KeepsLink}
use Rattle.racp_links.specs.Faults.{no_link}
use Rattle.racp_links.specs.Phases.{leaves_in, links_to, links_between, ties_phase, leaf_links_of, all_leaf_links}
use Rattle.racp_links.specs.PhaseFaults.{IsSpreadable}
use Rattle.racp_links.specs.Laws.{IsEndOf, IsStartOf, KeepsPhaseLink, LeafLinksAreLinks}
use Rattle.racp_links.proofs.Kept.{all_left, all_right}

-- what holds of all pieces that are joined, and of each piece
module _ {X Y : Type 0} (P : Y → Type 0) where
  pub all_joined : (f : X → List Y) (xs : List X) → ((x : X) → Contains xs x → All P (f x)) → All P (flat_map f xs)
  all_joined f [] each = All-nil P
  all_joined f (x ∷ xs) each =
      All-append P (f x) (flat_map f xs) (each x (member_first x xs x refl))
      (all_joined f xs (λ y inside. each y (member_later x xs y inside)))

  each_piece : (f : X → List Y) (xs : List X) → All P (flat_map f xs) → (x : X) → Contains xs x → All P (f x)
  each_piece f [] all x inside = absurd (no_member x inside)
  each_piece f (y ∷ xs) all x inside = elim (member_cases y xs x inside) [
    | inl same ↦
        let Q : X → Type 0 = λ z. All P (f z) in
        subst Q same (all_left P (f y) (flat_map f xs) all)
    | inr later ↦ each_piece f xs (all_right P (f y) (flat_map f xs) all) x later
  ]

  pub each_value : (f : X → Y) (xs : List X) → All P (map f xs) → (x : X) → Contains xs x → P (f x)
  each_value f [] all x inside = absurd (no_member x inside)
  each_value f (y ∷ xs) all x inside = elim (member_cases y xs x inside) [
    | inl same ↦
        let Q : X → Type 0 = λ z. P (f z) in
        subst Q same (All-head P (f y) (map f xs) all)
    | inr later ↦ each_value f xs (All-tail P (f y) (map f xs) all) x later
  ]

-- of some numbers one is the greatest by a total order of their values
module _ (R : ℕ → ℕ → Type 0) (same : (a b : ℕ) → a ≡ b → R a b) (total : (a b : ℕ) → R a b ⊎ R b a)
    (through : (a b c : ℕ) → R a b → R b c → R a c) (f : ℕ → ℕ) where
  -- the value of one is reached, and none is beyond it
  abbrev IsLast : List ℕ → ℕ → Type 0
  IsLast xs last = ((y : ℕ) → Contains xs y → R (f y) last) × ((y : ℕ) × Contains xs y × (f y ≡ last))

  last_of : (x : ℕ) (xs : List ℕ) → (last : ℕ) × IsLast (x ∷ xs) last
  last_of x [] = (
    f x,
    (
      λ y inside. elim (member_cases x [] y inside) [
        | inl is ↦ same (f y) (f x) (sym (ap f is))
        | inr later ↦ absurd (no_member y later)
      ],
      (x, member_first x [] x refl, refl),
    ),
  )
  last_of x (z ∷ xs) =
      let rest = last_of z xs in
      elim (total (f x) rest.0) [
        | inl below ↦ (
          rest.0,
          (
            λ y inside. elim (member_cases x (z ∷ xs) y inside) [
              | inl is ↦ through (f y) (f x) rest.0 (same (f y) (f x) (sym (ap f is))) below
              | inr later ↦ rest.1.0 y later
            ],
            (rest.1.1.0, member_later x (z ∷ xs) rest.1.1.0 rest.1.1.1, rest.1.1.2),
          ),
        )
        | inr above ↦ (
          f x,
          (
            λ y inside. elim (member_cases x (z ∷ xs) y inside) [
              | inl is ↦ same (f y) (f x) (sym (ap f is))
              | inr later ↦ through (f y) rest.0 (f x) (rest.1.0 y later) above
            ],
            (x, member_first x (z ∷ xs) x refl, refl),
          ),
        )
      ]

  some_last : (xs : List ℕ) (x : ℕ) → Contains xs x → (last : ℕ) × IsLast xs last
  some_last [] x inside = absurd (no_member x inside)
  some_last (z ∷ xs) x inside = last_of z xs

-- the links that a link of a phase stands for
pub of_phase : (parents : List ℕ) (link : Link) → ties_phase parents link ≡ true →
    leaf_links_of parents link ≡ links_between link.lag (leaves_in parents link.before) (leaves_in parents link.after)
of_phase parents link ties =
    ap (λ (b : Bool). if b then links_between link.lag (leaves_in parents link.before) (leaves_in parents link.after) else link ∷ []) ties

-- and of tasks
pub of_tasks : (parents : List ℕ) (link : Link) → ties_phase parents link ≡ false → leaf_links_of parents link ≡ link ∷ []
of_tasks parents link ties =
    ap (λ (b : Bool). if b then links_between link.lag (leaves_in parents link.before) (leaves_in parents link.after) else link ∷ []) ties

-- a link between leaves
abbrev pub leaf_link : ℕ → ℕ → ℕ → Link
leaf_link lag before after = record { before = before; after = after; kind = FinishToStart; lag = lag }

-- a task that has a leaf has an end and a start
module _ (durations parents starts : List ℕ) where
  end_of : (task leaf : ℕ) → Contains (leaves_in parents task) leaf → (time : ℕ) × IsEndOf durations parents starts task time
  end_of task leaf inside =
      let R : ℕ → ℕ → Type 0 = λ a b. a ≤ b in
      let total : (a b : ℕ) → (a ≤ b) ⊎ (b ≤ a) = λ a b. elim (cases_lt a b) [ inl less ↦ inl (omega arith) | inr most ↦ inr most ] in
      let found = some_last R (λ a b e. omega (arith, e)) total (λ a b c h g. omega (arith, h, g))
      (λ task. of_task starts task + of_task durations task) (leaves_in parents task) leaf inside in
      (found.0, record { most = found.1.0; some = (found.1.1.0, found.1.1.1, found.1.1.2) })

  start_of : (task leaf : ℕ) → Contains (leaves_in parents task) leaf → (time : ℕ) × IsStartOf parents starts task time
  start_of task leaf inside =
      let R : ℕ → ℕ → Type 0 = λ a b. b ≤ a in
      let total : (a b : ℕ) → (b ≤ a) ⊎ (a ≤ b) = λ a b. elim (cases_lt a b) [ inl less ↦ inr (omega arith) | inr most ↦ inl most ] in
      let found = some_last R (λ a b e. omega (arith, e)) total (λ a b c h g. omega (arith, h, g))
      (λ task. of_task starts task) (leaves_in parents task) leaf inside in
      (found.0, record { least = found.1.0; some = (found.1.1.0, found.1.1.1, found.1.1.2) })

  forth : (link : Link) → IsSpreadable parents link → KeepsPhaseLink durations parents starts link →
      All (KeepsLink durations starts) (leaf_links_of parents link)
  forth link can kept = elim (cases_Bool (ties_phase parents link)) [
    | inl ties ↦
        let firsts : List ℕ = leaves_in parents link.before in
        let seconds : List ℕ = leaves_in parents link.after in
        subst (All (KeepsLink durations starts)) (sym (of_phase parents link ties))
        (all_joined (KeepsLink durations starts) (links_to link.lag seconds) firsts (λ first is_first.
        All-map (KeepsLink durations starts) (leaf_link link.lag first) seconds
        (all_members (λ second. KeepsLink durations starts (leaf_link link.lag first second)) seconds (λ second is_second.
        let finish = end_of link.before first is_first in
        let start = start_of link.after second is_second in
        omega (arith, kept.phases ties (can.kind ties) finish.0 start.0 finish.1 start.1, finish.1.most first is_first, start.1.least second is_second)))))
    | inr apart ↦
        subst (All (KeepsLink durations starts)) (sym (of_tasks parents link apart))
        (All-cons (KeepsLink durations starts) link [] (kept.tasks apart) (All-nil (KeepsLink durations starts)))
  ]

  back : (link : Link) → All (KeepsLink durations starts) (leaf_links_of parents link) → KeepsPhaseLink durations parents starts link
  back link all = record {
    phases = λ ties kind finish start ends begins.
        let firsts : List ℕ = leaves_in parents link.before in
        let seconds : List ℕ = leaves_in parents link.after in
        let between : All (KeepsLink durations starts) (links_between link.lag firsts seconds) =
        subst (All (KeepsLink durations starts)) (of_phase parents link ties) all in
        let piece : All (KeepsLink durations starts) (links_to link.lag seconds ends.some.0) =
        each_piece (KeepsLink durations starts) (links_to link.lag seconds) firsts between ends.some.0 ends.some.1 in
        let one : KeepsLink durations starts (leaf_link link.lag ends.some.0 begins.some.0) =
        each_value (KeepsLink durations starts) (leaf_link link.lag ends.some.0) seconds piece begins.some.0 begins.some.1 in
        omega (arith, one, ends.some.2, begins.some.2);
    tasks = λ apart.
        let alone : All (KeepsLink durations starts) (link ∷ []) = subst (All (KeepsLink durations starts)) (of_tasks parents link apart) all in
        All-head (KeepsLink durations starts) link [] alone;
  }

  all_forth : (links : List Link) → All (IsSpreadable parents) links → All (KeepsPhaseLink durations parents starts) links →
      All (KeepsLink durations starts) (all_leaf_links parents links)
  all_forth [] can kept = All-nil (KeepsLink durations starts)
  all_forth (link ∷ links) can kept =
      All-append (KeepsLink durations starts) (leaf_links_of parents link) (all_leaf_links parents links)
      (forth link (All-head (IsSpreadable parents) link links can) (All-head (KeepsPhaseLink durations parents starts) link links kept))
      (all_forth links (All-tail (IsSpreadable parents) link links can) (All-tail (KeepsPhaseLink durations parents starts) link links kept))

  all_back : (links : List Link) → All (KeepsLink durations starts) (all_leaf_links parents links) →
      All (KeepsPhaseLink durations parents starts) links
  all_back [] kept = All-nil (KeepsPhaseLink durations parents starts)
  all_back (link ∷ links) kept =
      All-cons (KeepsPhaseLink durations parents starts) link links
      (back link (all_left (KeepsLink durations starts) (leaf_links_of parents link) (all_leaf_links parents links) kept))
      (all_back links (all_right (KeepsLink durations starts) (leaf_links_of parents link) (all_leaf_links parents links) kept))

-- starts keep links of phases exactly if they keep the links between leaves that these stand for
pub leaf_links_are : LeafLinksAreLinks
leaf_links_are durations parents links starts can = (
  all_forth durations parents starts links (All-from_get_or (IsSpreadable parents) links no_link can),
  all_back durations parents starts links,
)
