-- The first vector of a frontier is taken out and its children are put in: what is left is the frontier of the vectors after it.
use Rattle.std.proofs.Common.{◌≡◌, ◌≢◌, ◌⊎◌, ℕ, true, List, [], ◌∷◌, ◌++◌, length, inl, inr, arith, refl, sym, subst, Contains}
use Rattle.std.specs.List.Sorted.{IsPermutation}
use Rattle.std.proofs.lemmas.List.Elements.{All-nil, All-cons, All-contains}
use Rattle.std.proofs.lemmas.List.Kept.{AllPairs-cons}
use Rattle.racp_model.specs.Terms.{Terms, IsBefore}
use Rattle.racp_model.proofs.lemmas.Costs.{before_trans, before_apart}
use Rattle.racp_model.proofs.lemmas.Relations.{member_cases, member_later, member_first, no_member, all_members, same_from_members}
use Rattle.racp_candidates.specs.Box.{AreBounds, IsBetween}
use Rattle.racp_candidates.specs.Vectors.{AreVectorsInOrder, IsChild, AreChildren, is_reached, to_come, LeadsTo, IsFrontier}
use Rattle.racp_candidates.proofs.Reached.{IsNoLater, reached_from, reached_to, come_rising, come_from, come_to}
use Rattle.racp_candidates.proofs.Distinct.{Differ, distinct_joined, IsTakenOut, taken_out}
use Rattle.racp_candidates.proofs.Raised.{child_between, child_no_later, leads_no_later, one_parent, leads_step, floors_lead, floors_no_child}

-- what stands at or before one thing, and that before another
pub no_later_before : (terms : Terms) (a b c : List ℕ) → IsNoLater terms a b → IsBefore terms b c → IsBefore terms a c
no_later_before terms a b c (inl same) before = let P : List ℕ → Type 0 = λ v. IsBefore terms v c in subst P (sym same) before
no_later_before terms a b c (inr first) before = before_trans terms a b c first before

pub before_no_later : (terms : Terms) (a b c : List ℕ) → IsBefore terms a b → IsNoLater terms b c → IsBefore terms a c
before_no_later terms a b c before (inl same) = subst (IsBefore terms a) same before
before_no_later terms a b c before (inr next) = before_trans terms a b c before next

pub no_later_trans : (terms : Terms) (a b c : List ℕ) → IsNoLater terms a b → IsNoLater terms b c → IsNoLater terms a c
no_later_trans terms a b c first (inl same) = subst (IsNoLater terms a) same first
no_later_trans terms a b c first (inr next) = inr (no_later_before terms a b c first next)

pub before_one_way : (terms : Terms) (a b : List ℕ) → IsBefore terms a b → IsBefore terms b a → ⊥
before_one_way terms a b there back = before_apart terms a (before_trans terms a b a there back)

pub not_after : (terms : Terms) (a b : List ℕ) → IsNoLater terms a b → IsBefore terms b a → ⊥
not_after terms a b first back = before_apart terms a (no_later_before terms a b a first back)

-- a list without members
pub no_members : {X : Type 0} (xs : List X) → ((x : X) → Contains xs x → ⊥) → xs ≡ []
no_members [] h = refl
no_members (x ∷ xs) h = absurd (h x (member_first x xs x refl))

module _ (terms : Terms) (floors roofs : List ℕ) (prices : length terms.prices ≡ length floors) (places : length roofs ≡ length floors) where
  -- the floors alone are the frontier of all vectors
  pub first_frontier : AreBounds floors roofs → IsFrontier terms floors roofs (floors ∷ [])
  first_frontier bounds = record {
    between = All-cons (IsBetween floors roofs) floors [] itself (All-nil (IsBetween floors roofs));
    once = λ i j d less l. absurd (omega (arith, less, l));
    leads = λ v h reached. (floors, member_first floors [] floors refl, floors_lead floors roofs v h);
    parents = parents;
  }
    where
      itself : IsBetween floors roofs floors
      itself = record { places = refl; above = λ k l. omega arith; below = bounds }

      parents : (parent child other : List ℕ) → IsBetween floors roofs parent → Contains (floors ∷ []) child → IsChild floors roofs parent child →
          Contains (floors ∷ []) other → IsBefore terms parent other
      parents parent child other h c is_child d = elim (member_cases floors [] child c) [
        | inl same ↦ absurd (floors_no_child floors roofs parent h (subst (IsChild floors roofs parent) (sym same) is_child))
        | inr later ↦ absurd (no_member child later)
      ]

  pub first_to_come : AreBounds floors roofs → AreVectorsInOrder terms floors roofs (to_come terms floors roofs (floors ∷ []))
  first_to_come bounds = record {
    rising = come_rising terms floors roofs places (floors ∷ []);
    members = λ v. (λ c. (come_from terms floors roofs places (floors ∷ []) v c).0, λ h. come_to terms floors roofs places (floors ∷ []) v h (reached v h));
  }
    where
      itself : IsBetween floors roofs floors
      itself = record { places = refl; above = λ k l. omega arith; below = bounds }

      reached : (v : List ℕ) → IsBetween floors roofs v → is_reached terms (floors ∷ []) v ≡ true
      reached v h =
          reached_to terms (floors ∷ []) v floors (member_first floors [] floors refl)
          (leads_no_later floors roofs terms floors v prices itself h (floors_lead floors roofs v h))

  -- no vector is to come where the frontier is empty
  pub none_to_come : to_come terms floors roofs [] ≡ []
  none_to_come = no_members (to_come terms floors roofs []) (λ v c.
      let m = reached_from terms [] v (come_from terms floors roofs places [] v c).1 in
      no_member m.0 m.1)

  -- a step: the first vector of a frontier is taken out, and its children are put in
  pub record IsStep (old more : List (List ℕ)) (x : List ℕ) (new : List (List ℕ)) : Type 0 where
    pub frontier : IsFrontier terms floors roofs old
    pub member : Contains old x
    pub least : (z : List ℕ) → Contains old z → IsNoLater terms x z
    pub children : AreChildren floors roofs x more
    pub moved : IsPermutation (old ++ more) (x ∷ new)

  module _ (old more : List (List ℕ)) (x : List ℕ) (new : List (List ℕ)) (s : IsStep old more x new) where
    pub x_between : IsBetween floors roofs x
    x_between = All-contains (IsBetween floors roofs) old x s.frontier.between s.member

    pub child_after : (z : List ℕ) → Contains more z → IsBefore terms x z
    child_after z c = child_no_later floors roofs terms x z prices x_between ((s.children.members z).0 c)

    -- a child is not in the frontier yet
    pub child_apart : (y z : List ℕ) → Contains old y → Contains more z → Differ y z
    child_apart y z c d same =
        let child : IsChild floors roofs x y = subst (IsChild floors roofs x) (sym same) ((s.children.members z).0 d) in
        before_apart terms x (s.frontier.parents x y x x_between c child s.member)

    pub taken : IsTakenOut old more x new
    taken = taken_out old more x new s.moved (distinct_joined old more s.frontier.once s.children.once child_apart)

    -- what is left stands after the vector that was taken out
    pub left_after : (z : List ℕ) → Contains new z → IsBefore terms x z
    left_after z c = go ((taken.from z c).0) ((taken.from z c).1)
      where
        go : Contains old z ⊎ Contains more z → Differ x z → IsBefore terms x z
        go (inr d) apart = child_after z d
        go (inl d) apart = elim (s.least z d) [
          | inl same ↦ absurd (apart same)
          | inr before ↦ before
        ]

    -- each vector after it that was reached is led to by one that is left
    pub lead : (v : List ℕ) → IsBetween floors roofs v → IsBefore terms x v → (start : List ℕ) × Contains new start × LeadsTo floors start v
    lead v h after =
        let m = s.frontier.leads v h (reached_to terms old v x s.member (inr after)) in
        go m.0 m.2 (taken.kept m.0 m.1)
      where
        apart : x ≢ v
        apart same = let P : List ℕ → Type 0 = λ w. IsBefore terms w v in before_apart terms v (subst P same after)

        by_child : LeadsTo floors x v → (start : List ℕ) × Contains new start × LeadsTo floors start v
        by_child leads =
            let step = leads_step floors roofs x v x_between h leads apart in
            let c : Contains more step.0 = (s.children.members step.0).1 step.1 in
            elim (taken.added step.0 c) [
              | inl same ↦ let P : List ℕ → Type 0 = λ w. IsBefore terms x w in absurd (before_apart terms x (subst P (sym same) (child_after step.0 c)))
              | inr kept ↦ (step.0, kept, step.2)
            ]

        go : (start : List ℕ) → LeadsTo floors start v → (x ≡ start) ⊎ Contains new start → (start : List ℕ) × Contains new start × LeadsTo floors start v
        go start leads (inr kept) = (start, kept, leads)
        go start leads (inl same) = let P : List ℕ → Type 0 = λ w. LeadsTo floors w v in by_child (subst P (sym same) leads)

    pub left_between : (z : List ℕ) → Contains new z → IsBetween floors roofs z
    left_between z c = elim ((taken.from z c).0) [
      | inl d ↦ All-contains (IsBetween floors roofs) old z s.frontier.between d
      | inr d ↦ child_between floors roofs x z x_between ((s.children.members z).0 d)
    ]

    -- what is reached by what is left stands after the vector that was taken out
    pub reached_after : (v : List ℕ) → is_reached terms new v ≡ true → IsBefore terms x v
    reached_after v reached =
        let m = reached_from terms new v reached in
        before_no_later terms x m.0 v (left_after m.0 m.1) m.2

    pub next_frontier : IsFrontier terms floors roofs new
    next_frontier = record {
      between = all_members (IsBetween floors roofs) new left_between;
      once = taken.once;
      leads = λ v h reached. lead v h (reached_after v reached);
      parents = λ parent child other h c is_child d. before_new other d (before_x parent child h (taken.from child c).0 is_child);
    }
      where
        -- what a member is a child of is the vector that was taken out, or stands before it
        before_x : (parent child : List ℕ) → IsBetween floors roofs parent → Contains old child ⊎ Contains more child → IsChild floors roofs parent child → IsNoLater terms parent x
        before_x parent child h (inl d) is_child = inr (s.frontier.parents parent child x h d is_child s.member)
        before_x parent child h (inr d) is_child = inl (one_parent floors roofs parent x child h x_between is_child ((s.children.members child).0 d))

        before_new : {parent : List ℕ} (other : List ℕ) → Contains new other → IsNoLater terms parent x → IsBefore terms parent other
        before_new {parent} other d first = no_later_before terms parent x other first (left_after other d)

    pub come_after : (v : List ℕ) → Contains (to_come terms floors roofs new) v → IsBefore terms x v
    come_after v c = reached_after v (come_from terms floors roofs places new v c).1

    pub next_to_come : to_come terms floors roofs old ≡ x ∷ to_come terms floors roofs new
    next_to_come =
        same_from_members (IsBefore terms) (before_one_way terms) (to_come terms floors roofs old) (x ∷ to_come terms floors roofs new)
        (come_rising terms floors roofs places old)
        (AllPairs-cons (IsBefore terms) x (to_come terms floors roofs new) (all_members (IsBefore terms x) (to_come terms floors roofs new) come_after) (come_rising terms floors roofs places new))
        into back
      where
        after : (v : List ℕ) → IsBetween floors roofs v → IsBefore terms x v → Contains (to_come terms floors roofs new) v
        after v h before =
            let m = lead v h before in
            let start : IsBetween floors roofs m.0 = left_between m.0 m.1 in
            come_to terms floors roofs places new v h (reached_to terms new v m.0 m.1 (leads_no_later floors roofs terms m.0 v prices start h m.2))

        first : (v : List ℕ) → IsBetween floors roofs v → IsNoLater terms x v → Contains (x ∷ to_come terms floors roofs new) v
        first v h (inl same) = member_first x (to_come terms floors roofs new) v same
        first v h (inr before) = member_later x (to_come terms floors roofs new) v (after v h before)

        into : (v : List ℕ) → Contains (to_come terms floors roofs old) v → Contains (x ∷ to_come terms floors roofs new) v
        into v c =
            let given = come_from terms floors roofs places old v c in
            let m = reached_from terms old v given.1 in
            first v given.0 (no_later_trans terms x m.0 v (s.least m.0 m.1) m.2)

        back : (v : List ℕ) → Contains (x ∷ to_come terms floors roofs new) v → Contains (to_come terms floors roofs old) v
        back v c = elim (member_cases x (to_come terms floors roofs new) v c) [
          | inl same ↦ subst (Contains (to_come terms floors roofs old)) same (come_to terms floors roofs places old x x_between (reached_to terms old x x s.member (inl refl)))
          | inr later ↦
              let h : IsBetween floors roofs v = (come_from terms floors roofs places new v later).0 in
              come_to terms floors roofs places old v h (reached_to terms old v x s.member (inr (come_after v later)))
        ]
