-- The next window: open nodes without children to come are closed, and the innermost of the others has a next child.
use Rattle.std.proofs.Common.{◌≡◌, ◌↔◌, ◌⊎◌, inl, inr, ◌∙◌, ℕ, ◌<◌, List, [], ◌∷◌, ◌++◌, length, Contains, arith, refl, sym, subst, ap}
use Rattle.std.proofs.lemmas.List.{ext_get_or}
use Rattle.racp_model.specs.Project.{Project, number}
use Rattle.racp_model.specs.Window.{Bounds}
use Rattle.racp_model.proofs.lemmas.Relations.{member_cases, member_first, member_later, no_member}
use Rattle.racp_delay.specs.Alternatives.{Splits}
use Rattle.racp_cutset.specs.Covering.{SearchNode}
use Rattle.racp_trees.specs.Children.{IsChildFor}
use Rattle.racp_trees.specs.Rows.{early_of}
use Rattle.racp_trees.specs.Following.{OpenNode, read_on, Follow, IsNext}
use Rattle.racp_trees.specs.Branches.{IsBranch, open_node, IsNextChild, IsReadUp}
use Rattle.racp_trees.specs.Readers.{open_nodes, IsReady, rest_of, Asks, AsksNext, IsPassedOn, IsPassedTo, StaysReady}
use Rattle.racp_trees.specs.declared.branch.Branch.{Branch}
use Rattle.racp_trees.proofs.Following.{whole_passed, child_next, node_closes}
use Rattle.std.specs.Prelude.{Option, Some, None}
use Rattle.std.proofs.lemmas.Option.{none-some}
use Rattle.std.proofs.lemmas.List.Elements.{Contains-append_left, Contains-append_right}
use Rattle.racp_trees.specs.Nodes.{HaveRows, HasPlace}
use Rattle.racp_trees.specs.Records.{IsRecordOf, HasRows, IsKept, record_at}
use Rattle.racp_trees.specs.declared.record.Record.{Record}
use Rattle.racp_trees.specs.declared.closed.Closed.{Closed}
use Rattle.racp_trees.specs.declared.reader.Reader.{Reader}
use Rattle.racp_trees.proofs.Passing.{open_more, equal_or_not, rest_stays, last_or, kept_node, read_further, read_again, read_closed}

-- a number is in a list or not
member_or_not : (xs : List ℕ) (x : ℕ) → Contains xs x ⊎ (Contains xs x → ⊥)
member_or_not [] x = inr (no_member x)
member_or_not (y ∷ xs) x = elim (equal_or_not y x) [
  | inl same ↦ inl (member_first y xs x same)
  | inr other ↦ elim (member_or_not xs x) [
    | inl there ↦ inl (member_later y xs x there)
    | inr missing ↦ inr (λ c. elim (member_cases y xs x c) [ inl same ↦ other same | inr there ↦ missing there ])
  ]
]

-- the child window of an alternative is one
pub child_one : (p : Project) (early active : List ℕ) (window : Bounds) (gone kept : List ℕ) (v w : Bounds) → length window.lower ≡ length p.jobs → Splits active gone kept → IsChildFor p early active window gone v → IsChildFor p early active window gone w → v ≡ w
child_one p early active window gone kept v w places s g h =
    let a = g.1 kept s in
    let b = h.1 kept s in
    let ends : a.end ≡ b.end = omega (arith, a.first.some.2, b.first.some.2, a.first.first b.first.some.0 b.first.some.1, b.first.first a.first.some.0 a.first.some.1) in
    let lower : v.lower ≡ w.lower = ext_get_or 0 v.lower w.lower (g.0 ∙ sym h.0) (λ i l.
    let j : i < length p.jobs = omega (arith, l, g.0, places) in
    elim (member_or_not gone (number i)) [
      | inl goes ↦ omega (arith, a.raised i j goes, b.raised i j goes, ends)
      | inr stays ↦ a.same i j stays ∙ sym (b.same i j stays)
    ]) in
    let upper : v.upper ≡ w.upper = a.upper ∙ sym b.upper in
    λ i. record { lower = lower i; upper = upper i }

module _ (p : Project) (a : List ℕ) (wanted : List (List ℕ)) (root : Bounds) (vectors : List (List ℕ)) (nodes : List (ℕ × SearchNode)) (n : ℕ) where
  abbrev Follows : List (ℕ × SearchNode) → List OpenNode → List ℕ → Type 0
  Follows closed frames text = Follow p a (rest_of p wanted root vectors) closed n frames text

  -- a branch whose children were all read is closed
  pub branch_closes : (f : OpenNode) → IsReadUp p f → (frames : List OpenNode) (text : List ℕ) → Follows nodes (f ∷ frames) text ↔ Follows ((f.number, f.node) ∷ nodes) frames text
  branch_closes f up frames text = elim up [
    | inl none ↦ node_closes p a (rest_of p wanted root vectors) (rest_stays p wanted root vectors) f none nodes n frames text
    | inr whole ↦
        let passed = whole_passed p a (rest_of p wanted root vectors) (rest_stays p wanted root vectors) f whole.0 whole.1 nodes n frames text whole.2 in
        let closes = node_closes p a (rest_of p wanted root vectors) (rest_stays p wanted root vectors) (read_on f whole.0) whole.3 nodes n frames text in
        (λ h. closes.0 (passed.0 h), λ h. passed.1 (closes.1 h))
  ]

  -- the next child of a branch is the next window
  pub branch_goes_on : (old new : Branch) (lower : List ℕ) → IsBranch p a old → IsNextChild p a old new lower → (upper : List ℕ) (frames : List OpenNode) (text : List ℕ) →
      Follows nodes (open_node p a upper old ∷ frames) text ↔ IsNext p a (rest_of p wanted root vectors) nodes n (record { lower = lower; upper = upper }) (open_node p a upper new ∷ frames) text
  branch_goes_on old new lower is next upper frames text =
      let f : OpenNode = open_node p a upper old in
      let child : Bounds = record { lower = lower; upper = upper } in
      let minimal = (next.next upper).minimal in
      let told = child_next p a (rest_of p wanted root vectors) (rest_stays p wanted root vectors) f next.gone (next.next upper) child next.window.some (next.window.child upper)
      (λ other h. child_one p (early_of p old.lower) old.active (record { lower = old.lower; upper = upper }) next.gone minimal.delays.0 other child is.places minimal.delays.1 h (next.window.child upper)) nodes n frames text in
      subst (λ (g : OpenNode). Follows nodes (f ∷ frames) text ↔ IsNext p a (rest_of p wanted root vectors) nodes n child (g ∷ frames) text) (sym (next.read upper)) told

-- a reader that passes on, whatever it closes
pub record IsPassing (p : Project) (a : List ℕ) (root : Bounds) (old now : Reader) : Type 0 where
  pub stays : StaysReady p a old now
  pub passed : IsPassedOn p a root old now

pub passing_first : (p : Project) (a : List ℕ) (root : Bounds) (old : Reader) → IsReady p a old → IsPassing p a root old old
passing_first p a root old ready = record {
  stays = record { ready = ready; number = refl; places = λ m h. h };
  passed = λ wanted vectors nodes text h. (nodes, h, ((λ x. x), λ x. x));
}

-- a place in the table after a record was kept
kept_place : (old new : Closed) (number' : ℕ) (row : Record) → IsKept old number' row new → (node : ℕ) → HasPlace old node → HasPlace new node
kept_place old new number' row kept node h = elim (equal_or_not node number') [
  | inl same ↦
      let old' : record_at old number' ≡ Some h.0 = subst (λ k. record_at old k ≡ Some h.0) same h.1 in
      (Some row, subst (λ k. record_at new k ≡ Some (Some row)) (sym same) (kept.named h.0 old'))
  | inr other ↦ (h.0, kept.others node other ∙ h.1)
]

kept_rows : (p : Project) (a : List ℕ) (old new : Closed) (number' : ℕ) (row : Record) → HasRows p row → IsKept old number' row new → HaveRows p old → HaveRows p new
kept_rows p a old new number' row own kept rows node r e = elim (equal_or_not node number') [
  | inl same ↦ go (record_at old number') refl (subst (λ k. record_at new k ≡ Some (Some r)) same e)
  | inr other ↦ rows node r (sym (kept.others node other) ∙ e)
]
  where
    go : (place : Option (Option Record)) → record_at old number' ≡ place → record_at new number' ≡ Some (Some r) → HasRows p r
    go None is e' = absurd (none-some (Some r) (sym (kept.unnamed is) ∙ e'))
    go (Some place) is e' = subst (λ (x : Record). HasRows p x) (kept_node row r (sym (kept.named place is) ∙ e')) own

module _ (p : Project) (a : List ℕ) (root : Bounds) (old now new : Reader) (rest : List Branch) (b : Branch) (places : length a ≡ p.resources) (high : length root.upper ≡ length p.jobs) (is : IsPassing p a root old now) (before : now.branches.items ≡ rest ++ b ∷ []) where
  pub last_branch : IsBranch p a b
  last_branch = is.stays.ready.branches b (subst (λ (xs : List Branch). Contains xs b) (sym before) (Contains-append_right rest (b ∷ []) b (member_first b [] b refl)))

  front_branch : (x : Branch) → Contains rest x → IsBranch p a x
  front_branch x c = is.stays.ready.branches x (subst (λ (xs : List Branch). Contains xs x) (sym before) (Contains-append_left rest (b ∷ []) x c))

  -- the open nodes, the last one apart
  apart_frames : open_nodes p a root.upper now.branches.items ≡ open_node p a root.upper b ∷ open_nodes p a root.upper rest
  apart_frames = ap (λ (xs : List Branch). open_nodes p a root.upper xs) before ∙ open_more p a root.upper [] rest b

  -- its last branch is closed
  pub passing_closed : (row : Record) → new.branches.items ≡ rest → new.number ≡ now.number → IsKept now.closed b.number row new.closed → ((upper : List ℕ) → IsRecordOf p (open_node p a upper b).node row) → ((upper : List ℕ) → IsReadUp p (open_node p a upper b)) → IsPassing p a root old new
  passing_closed row after same kept rows up = record {
    stays = record {
      ready = record {
        rows = kept_rows p a now.closed new.closed b.number row (record { capacities = ap (λ (xs : List ℕ). length xs) (rows root.upper).capacities ∙ places; bounds = (rows root.upper).places }) kept is.stays.ready.rows;
        branches = λ x c. front_branch x (subst (λ (xs : List Branch). Contains xs x) after c);
      };
      number = same ∙ is.stays.number;
      places = λ m h. kept_place now.closed new.closed b.number row kept m (is.stays.places m h);
    };
    passed = λ wanted vectors nodes text h.
        let told = is.passed wanted vectors nodes text h in
        let later = told.0 in
        let more : List (ℕ × SearchNode) = (b.number, (open_node p a root.upper b).node) ∷ later in
        let closes = branch_closes p a wanted root vectors later now.number (open_node p a root.upper b) (up root.upper) (open_nodes p a root.upper rest) text in
        let split : Asks p a wanted root vectors later now text ↔ Follow p a (rest_of p wanted root vectors) more now.number (open_nodes p a root.upper rest) text =
        subst (λ (fs : List OpenNode). Follow p a (rest_of p wanted root vectors) later now.number fs text ↔ Follow p a (rest_of p wanted root vectors) more now.number (open_nodes p a root.upper rest) text) (sym apart_frames) closes in
        let all : Asks p a wanted root vectors later now text ↔ Asks p a wanted root vectors more new text =
        subst (λ (xs : List Branch). Asks p a wanted root vectors later now text ↔ Follow p a (rest_of p wanted root vectors) more new.number (open_nodes p a root.upper xs) text) (sym after)
        (subst (λ k. Asks p a wanted root vectors later now text ↔ Follow p a (rest_of p wanted root vectors) more k (open_nodes p a root.upper rest) text) (sym same) split) in
        (more, read_closed p a root.upper later now new rest b row told.1 before after same places high last_branch kept (rows root.upper), ((λ x. all.0 (told.2.0 x)), λ x. told.2.1 (all.1 x)));
  }

  -- it goes on to its next child
  module _ (next : Branch) (lower : List ℕ) (after : new.branches.items ≡ rest ++ next ∷ []) (kept : new.closed ≡ now.closed) (same : new.number ≡ now.number) (number' : next.number ≡ b.number) (lower' : next.lower ≡ b.lower) (fine : IsBranch p a next) (child : IsNextChild p a b next lower) where
    pub passing_child : IsPassedTo p a root old new lower
    passing_child wanted vectors nodes text h =
        let told = is.passed wanted vectors nodes text h in
        let later = told.0 in
        let goes = branch_goes_on p a wanted root vectors later now.number b next lower last_branch child root.upper (open_nodes p a root.upper rest) text in
        let frames : open_nodes p a root.upper new.branches.items ≡ open_node p a root.upper next ∷ open_nodes p a root.upper rest = ap (λ (xs : List Branch). open_nodes p a root.upper xs) after ∙ open_more p a root.upper [] rest next in
        let split : Asks p a wanted root vectors later now text ↔ IsNext p a (rest_of p wanted root vectors) later now.number (record { lower = lower; upper = root.upper }) (open_node p a root.upper next ∷ open_nodes p a root.upper rest) text =
        subst (λ (fs : List OpenNode). Follow p a (rest_of p wanted root vectors) later now.number fs text ↔ IsNext p a (rest_of p wanted root vectors) later now.number (record { lower = lower; upper = root.upper }) (open_node p a root.upper next ∷ open_nodes p a root.upper rest) text) (sym apart_frames) goes in
        let all : Asks p a wanted root vectors later now text ↔ AsksNext p a wanted root vectors later new lower text =
        subst (λ (fs : List OpenNode). Asks p a wanted root vectors later now text ↔ IsNext p a (rest_of p wanted root vectors) later new.number (record { lower = lower; upper = root.upper }) fs text) (sym frames)
        (subst (λ k. Asks p a wanted root vectors later now text ↔ IsNext p a (rest_of p wanted root vectors) later k (record { lower = lower; upper = root.upper }) (open_node p a root.upper next ∷ open_nodes p a root.upper rest) text) (sym same) split) in
        (later, read_again p root.upper later now new rest b next told.1 before after number' lower' kept same, ((λ x. all.0 (told.2.0 x)), λ x. told.2.1 (all.1 x)))

    pub child_places : length lower ≡ length p.jobs
    child_places = (child.window.child root.upper).0 ∙ last_branch.places

    pub child_stays : StaysReady p a old new
    child_stays = record {
      ready = record {
        rows = subst (λ (k : Closed). HaveRows p k) (sym kept) is.stays.ready.rows;
        branches = λ x c. elim (last_or rest next x (subst (λ (xs : List Branch). Contains xs x) after c)) [
          | inl there ↦ front_branch x there
          | inr here ↦ subst (λ (z : Branch). IsBranch p a z) here fine
        ];
      };
      number = same ∙ is.stays.number;
      places = λ m h. subst (λ (k : Closed). HasPlace k m) (sym kept) (is.stays.places m h);
    }

nothing_behind : (xs : List Branch) → xs ++ [] ≡ xs
nothing_behind [] = refl
nothing_behind (x ∷ xs) = ap (λ (ys : List Branch). x ∷ ys) (nothing_behind xs)

-- no branch is taken off
pub passing_stays : (p : Project) (a : List ℕ) (root : Bounds) (old now new : Reader) → IsPassing p a root old now → now.branches.items ≡ new.branches.items ++ [] → new.closed ≡ now.closed → new.number ≡ now.number → StaysReady p a old new
passing_stays p a root old now new is items kept same = record {
  ready = record {
    rows = subst (λ (k : Closed). HaveRows p k) (sym kept) is.stays.ready.rows;
    branches = λ b c. is.stays.ready.branches b (subst (λ (xs : List Branch). Contains xs b) (sym (items ∙ nothing_behind new.branches.items)) c);
  };
  number = same ∙ is.stays.number;
  places = λ m h. subst (λ (k : Closed). HasPlace k m) (sym kept) (is.stays.places m h);
}

-- no branch is left
pub passing_ends : (p : Project) (a : List ℕ) (root : Bounds) (old now new : Reader) → IsPassing p a root old now → now.branches.items ≡ new.branches.items ++ [] → length now.branches.items ≡ 0 → new.closed ≡ now.closed → new.number ≡ now.number →
    (new.branches.items ≡ []) × IsPassedOn p a root old new
passing_ends p a root old now new is items size kept same =
    let none : now.branches.items ≡ [] = empty now.branches.items size in
    let left : new.branches.items ≡ [] = none_left new.branches.items (sym items ∙ none) in
    let equal : new.branches.items ≡ now.branches.items = left ∙ sym none in (
      left,
      λ wanted vectors nodes text h.
          let told = is.passed wanted vectors nodes text h in
          let all : Asks p a wanted root vectors told.0 now text ↔ Asks p a wanted root vectors told.0 new text =
          subst (λ (xs : List Branch). Asks p a wanted root vectors told.0 now text ↔ Follow p a (rest_of p wanted root vectors) told.0 new.number (open_nodes p a root.upper xs) text) (sym equal)
          (subst (λ k. Asks p a wanted root vectors told.0 now text ↔ Follow p a (rest_of p wanted root vectors) told.0 k (open_nodes p a root.upper now.branches.items) text) (sym same) ((λ x. x), λ x. x)) in
          (told.0, read_further p root.upper told.0 now new told.1 equal kept (omega (arith, same)), ((λ x. all.0 (told.2.0 x)), λ x. told.2.1 (all.1 x))),
    )
  where
    empty : (xs : List Branch) → length xs ≡ 0 → xs ≡ []
    empty [] e = refl
    empty (x ∷ xs) e = absurd (omega (arith, e))

    none_left : (xs : List Branch) → xs ++ [] ≡ [] → xs ≡ []
    none_left [] e = refl
    none_left (x ∷ xs) e = absurd (cc e)
