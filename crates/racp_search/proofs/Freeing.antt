-- Free jobs: what lies behind a list of jobs lies in the child windows of alternatives in which only these go.
use Rattle.std.proofs.Common.{◌≡◌, ◌⊎◌, inl, inr, ◌∙◌, ◌↔◌, ℕ, ◌<◌, ◌≤◌, List, [], ◌∷◌, ◌++◌, length, slice_index, Contains, true, false, Bool, arith, refl, sym, subst, ap, append_assoc}
use Rattle.std.proofs.lemmas.List.{append-nil}
use Rattle.std.proofs.lemmas.List.Elements.{Contains-append_left, Contains-append_right, Contains-append_cases}
use Rattle.racp_model.specs.Project.{Project, number, place}
use Rattle.racp_model.specs.Window.{LiesIn}
use Rattle.racp_model.specs.JobSets.{IsInserted}
use Rattle.racp_model.proofs.lemmas.Relations.{member_cases, member_first, no_member}
use Rattle.racp_delay.specs.Alternatives.{Splits, IsFreeAlternative, IsNextAlternative, IsLastAlternative, IsFollowing}
use Rattle.racp_delay.specs.Alternatives.Splits.{none, stays}
use Rattle.racp_delay.specs.Branching.{IsFirstEnd}
use Rattle.racp_delay.specs.Laws.{EachHasChild, OthersStay, SubsetsGo}
use Rattle.racp_cutset.specs.Covering.{SearchNode}
use Rattle.racp_search.specs.Children.{AreFree}
use Rattle.racp_search.specs.DepthFirst.{HasActive, LiesBehind, IsNextToLookAt}

-- none goes
pub none_goes : (jobs : List ℕ) → Splits jobs [] jobs
none_goes [] = none
none_goes (job ∷ jobs) = stays (none_goes jobs)

-- of the active jobs some were seen, and those whose upper bound is at least a time are in a set
pub record IsFreeing (active upper : List ℕ) (end : ℕ) (yielded left free : List ℕ) : Type 0 where
  pub parts : yielded ++ left ≡ active
  pub members : (job : ℕ) → Contains free job ↔ (Contains yielded job × (end ≤ slice_index upper (place job)))

pub freeing-start : (active upper : List ℕ) (end : ℕ) (left free : List ℕ) → left ≡ active → free ≡ [] → IsFreeing active upper end [] left free
freeing-start active upper end left free e ef = record {
  parts = e;
  members = λ job. (
    (λ c. absurd (no_member job (subst (λ (xs : List ℕ). Contains xs job) ef c))),
    λ h. absurd (no_member job h.0),
  );
}

module _ (active upper : List ℕ) (end : ℕ) (yielded left free : List ℕ) (job : ℕ) (others : List ℕ) (h : IsFreeing active upper end yielded left free) (e : left ≡ job ∷ others) where
  -- the next job is active
  pub freeing-active : Contains active job
  freeing-active = subst (λ (xs : List ℕ). Contains xs job) (ap (λ (xs : List ℕ). yielded ++ xs) (sym e) ∙ h.parts) (Contains-append_right yielded (job ∷ others) job (member_first job others job refl))

  parts-more : (yielded ++ job ∷ []) ++ others ≡ active
  parts-more = append_assoc yielded (job ∷ []) others ∙ (ap (λ (xs : List ℕ). yielded ++ xs) (sym e) ∙ h.parts)

  -- a job that was seen by now was seen before, or is the next one
  seen : (i : ℕ) → Contains (yielded ++ job ∷ []) i → Contains yielded i ⊎ (job ≡ i)
  seen i c = elim (Contains-append_cases yielded (job ∷ []) i c) [
    | inl before ↦ inl before
    | inr now ↦ elim (member_cases job [] i now) [ inl same ↦ inr same | inr never ↦ absurd (no_member i never) ]
  ]

  -- it is put into the set
  pub freeing-more : (new : List ℕ) → end ≤ slice_index upper (place job) → IsInserted free job new → IsFreeing active upper end (yielded ++ job ∷ []) others new
  freeing-more new up inserted = record {
    parts = parts-more;
    members = λ i. (
      (λ c. elim ((inserted i).0 c) [
        | inl same ↦ (Contains-append_right yielded (job ∷ []) i (member_first job [] i (sym same)), subst (λ x. end ≤ slice_index upper (place x)) (sym same) up)
        | inr before ↦ let is = (h.members i).0 before in (Contains-append_left yielded (job ∷ []) i is.0, is.1)
      ]),
      λ is. elim (seen i is.0) [
        | inl before ↦ (inserted i).1 (inr ((h.members i).1 (before, is.1)))
        | inr same ↦ (inserted i).1 (inl (sym same))
      ],
    );
  }

  -- or it is not
  pub freeing-none : slice_index upper (place job) < end → IsFreeing active upper end (yielded ++ job ∷ []) others free
  freeing-none less = record {
    parts = parts-more;
    members = λ i. (
      (λ c. let is = (h.members i).0 c in (Contains-append_left yielded (job ∷ []) i is.0, is.1)),
      λ is. elim (seen i is.0) [
        | inl before ↦ (h.members i).1 (before, is.1)
        | inr same ↦ absurd (omega (arith, less, is.1, ap (λ x. slice_index upper (place x)) same))
      ],
    );
  }

-- at the end all were seen
pub freeing-end : (p : Project) (v : SearchNode) (active : List ℕ) (end : ℕ) (yielded left free : List ℕ) → IsFirstEnd p v.early active end → left ≡ [] → IsFreeing active v.window.upper end yielded left free → AreFree p v active free
freeing-end p v active end yielded left free is nothing h job =
    let all : yielded ≡ active = sym (append-nil yielded) ∙ (ap (λ (xs : List ℕ). yielded ++ xs) (sym nothing) ∙ h.parts) in (
      (λ c.
          let m = (h.members job).0 c in
          (subst (λ (xs : List ℕ). Contains xs job) all m.0, λ other first. omega (arith, m.1, first.first is.some.0 is.some.1, is.some.2))),
      λ m. (h.members job).1 (subst (λ (xs : List ℕ). Contains xs job) (sym all) m.0, m.1 end is),
    )

-- where no job is active none is free
pub none-free : (p : Project) (v : SearchNode) (active free : List ℕ) → active ≡ [] → free ≡ [] → AreFree p v active free
none-free p v active free ea ef job = (
  (λ c. absurd (no_member job (subst (λ (xs : List ℕ). Contains xs job) ef c))),
  λ m. absurd (no_member job (subst (λ (xs : List ℕ). Contains xs job) ea m.0)),
)

module _ (p : Project) (v : SearchNode) (active free last : List ℕ) (is : HasActive p v active) (has_child : EachHasChild) (law : SubsetsGo) (stay : OthersStay) (are : AreFree p v active free) where
  -- where something lies in a child window only free jobs go
  only-free : (starts : List ℕ) (b : LiesBehind p v active last starts) → IsFreeAlternative p v.capacities active free b.gone
  only-free starts b = record {
    minimal = b.minimal;
    only = λ job c.
        let w = has_child p v.early v.window b.gone b.kept b.some_stay in
        let lies : LiesIn p w.0 starts = b.lies w.0 w.1 in
        let there : Contains active job = ((law active b.gone is.conflict.set.rises).0 (b.kept, b.splits)).1 job c in
        let numbers = ((is.conflict.set.members job).0 there).0 in
        let inside : place job < length p.jobs = omega (arith, numbers.0, numbers.1) in
        let same : job ≡ number (place job) = omega (arith, numbers.0) in
        let goes : Contains b.gone (number (place job)) = subst (λ x. Contains b.gone x) same c in
        let one : ℕ = w.1.first.some.0 in
        let stays : Contains active one = ((stay active b.gone b.kept is.conflict.set.rises b.splits one).0 w.1.first.some.1).0 in
        (are job).1 (
          there,
          λ end first. omega (
            arith,
            first.first one stays,
            w.1.first.some.2,
            w.1.raised (place job) inside goes,
            lies.above (place job) inside,
            lies.below (place job) inside,
            ap (λ (xs : List ℕ). slice_index xs (place job)) w.1.upper,
          ),
        );
  }

  -- so the first alternative in which only these go is the next one to look at
  pub next-free : (gone : List ℕ) → IsNextAlternative p v.capacities active free last gone → IsNextToLookAt p v active last gone
  next-free gone next = record {
    minimal = next.is.minimal;
    behind = next.behind;
    first = λ starts b. next.first b.gone (only-free starts b) b.behind;
  }

  -- and where there is none nothing lies behind the list
  pub none-behind : IsLastAlternative p v.capacities active free last → (starts : List ℕ) → LiesBehind p v active last starts → ⊥
  none-behind last_one starts b = last_one b.gone (only-free starts b) b.behind

-- what was found, in equal projects, capacities and lists
pub same_following : (p q : Project) (a b active free l m : List ℕ) (more : Bool) (gone : List ℕ) → p ≡ q → a ≡ b → l ≡ m → IsFollowing p a active free l more gone → IsFollowing q b active free m more gone
same_following p q a b active free l m more gone named same at h =
    subst (λ (xs : List ℕ). IsFollowing q b active free xs more gone) at
    (subst (λ (xs : List ℕ). IsFollowing q xs active free l more gone) same (subst (λ (r : Project). IsFollowing r a active free l more gone) named h))

pub is_last : (p : Project) (a active free l : List ℕ) (more : Bool) (gone : List ℕ) → more ≡ false → IsFollowing p a active free l more gone → IsLastAlternative p a active free l
is_last p a active free l true gone e h = absurd (cc e)
is_last p a active free l false gone e h = h

pub is_next : (p : Project) (a active free l : List ℕ) (more : Bool) (gone : List ℕ) → more ≡ true → IsFollowing p a active free l more gone → IsNextAlternative p a active free l gone
is_next p a active free l true gone e h = h
is_next p a active free l false gone e h = absurd (cc e)
