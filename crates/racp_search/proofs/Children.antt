-- Child windows of a node.
use Rattle.std.proofs.Common.{◌≡◌, ◌≢◌, ℕ, ◌<◌, ◌≤◌, List, [], length, slice_index, Contains, arith, refl, ◌∙◌, subst, ap, All}
use Rattle.racp_model.specs.Project.{Project, IsNumber, IsSound, number, place}
use Rattle.racp_model.specs.Window.{Bounds}
use Rattle.racp_model.proofs.lemmas.Relations.{all_members}
use Rattle.racp_model.proofs.lemmas.Sums.{duration-small}
use Rattle.racp_delay.specs.Alternatives.{Splits}
use Rattle.racp_delay.specs.Branching.{IsConflict, IsChild, IsFirstEnd, end_of}
use Rattle.racp_delay.specs.Laws.{OthersStay, SubsetsGo, ChildIsInside, ChildIsHigher, NoConflictBefore}
use Rattle.racp_cutset.specs.Covering.{SearchNode}
use Rattle.racp_search.specs.Children.{IsChildFor, IsEmptyChild, IsPutOff}
use Rattle.racp_search.specs.DepthFirst.{HasActive, IsBelow}

-- a window that is put off is the child window
pub child_from_put_off : (p : Project) (early : List ℕ) (w : Bounds) (gone kept : List ℕ) (end : ℕ) (child : Bounds) → length w.lower ≡ length p.jobs → IsFirstEnd p early kept end → IsPutOff w gone end child → IsChild p early w gone kept child
child_from_put_off p early w gone kept end child places first off = record {
  end = end;
  first = first;
  raised = λ i l c. off.lower.raised i (omega (arith, places)) c;
  same = λ i l c. off.lower.same i (omega (arith, places)) c;
  upper = off.upper;
}

-- the jobs that go are jobs of the project
pub gone_numbers : (p : Project) (capacities early : List ℕ) (t : ℕ) (active gone kept : List ℕ) (n : ℕ) → SubsetsGo → n ≡ length p.jobs → IsConflict p capacities early t active → Splits active gone kept → All (IsNumber n) gone
gone_numbers p capacities early t active gone kept n law same conflict s = all_members (IsNumber n) gone
    (λ job c. let is = ((conflict.set.members job).0 (((law active gone conflict.set.rises).0 (kept, s)).1 job c)).0 in (is.0, omega (arith, is.1, same)))

-- the first end of those that stay, in equal projects and early starts
pub same_ends : (p q : Project) (a b active gone : List ℕ) (end : ℕ) → p ≡ q → a ≡ b → ((kept : List ℕ) → Splits active gone kept → IsFirstEnd p a kept end) → (kept : List ℕ) → Splits active gone kept → IsFirstEnd q b kept end
same_ends p q a b active gone end named same ends kept s =
    subst (λ (r : Project). IsFirstEnd r b kept end) named (subst (λ (xs : List ℕ). IsFirstEnd p xs kept end) same (ends kept s))

-- the first end of those that stay is small
pub end_small : (p : Project) (capacities early : List ℕ) (t : ℕ) (active gone kept : List ℕ) (end : ℕ) → OthersStay → IsSound p → IsConflict p capacities early t active → ((i : ℕ) → i < length p.jobs → slice_index early i ≤ 10000000) →
    Splits active gone kept → IsFirstEnd p early kept end → end ≤ 10010000
end_small p capacities early t active gone kept end law sound conflict small s h =
    let job : ℕ = h.some.0 in
    let is = ((conflict.set.members job).0 ((law active gone kept conflict.set.rises s job).0 h.some.1).0).0 in
    let inside : place job < length p.jobs = omega (arith, is.0, is.1) in
    omega (arith, h.some.2, small (place job) inside, duration-small p (place job) sound inside)

-- a member of a list of which something holds of all
member_all : (P : ℕ → Type 0) (xs : List ℕ) (x : ℕ) → All P xs → Contains xs x → P x
member_all P xs x all c = subst P c.2 (all c.0 x c.1)

module _ (p : Project) (v : SearchNode) (active gone : List ℕ) (is : HasActive p v active) where
  -- the child window is below the node
  pub child_below : (kept : List ℕ) (child : Bounds) → ChildIsInside → ChildIsHigher → Splits active gone kept → gone ≢ [] → length child.lower ≡ length v.window.lower → IsChild p v.early v.window gone kept child → IsBelow p v.window child
  child_below kept child inside higher s some places c = record {
    part = record {
      bounds = record { lower = places ∙ is.node.lower; upper = ap (length {A = ℕ}) c.upper ∙ is.node.upper };
      inside = inside p v.early v.window gone kept child c;
    };
    higher = higher p v.capacities v.window v.early v.time active gone kept child is.node.early is.conflict s some c;
  }

  -- a window that is put off is the child window for these jobs
  pub child_is : (kept : List ℕ) (end : ℕ) (child : Bounds) → ChildIsInside → ChildIsHigher → NoConflictBefore → Splits active gone kept → gone ≢ [] → ((others : List ℕ) → Splits active gone others → IsFirstEnd p v.early others end) → IsPutOff v.window gone end child → IsChildFor p v active gone child
  child_is kept end child inside higher quiet s some ends off = record {
    below = child_below kept child inside higher s some off.lower.places (child_from_put_off p v.early v.window gone kept end child is.node.lower (ends kept s) off);
    quiet = λ next early. quiet p v.capacities v.window v.early v.time active gone kept child next is.node.early is.conflict s (child_from_put_off p v.early v.window gone kept end child is.node.lower (ends kept s) off) early;
    is = λ others t. child_from_put_off p v.early v.window gone others end child is.node.lower (ends others t) off;
  }

  -- nothing lies in it where an upper bound is below the first end
  pub child_empty : (kept : List ℕ) (end : ℕ) → SubsetsGo → Splits active gone kept → ((others : List ℕ) → Splits active gone others → IsFirstEnd p v.early others end) → (i : ℕ) → Contains gone (number i) → slice_index v.window.upper i < end → IsEmptyChild p v active gone
  child_empty kept end law s ends i goes less others t some child c starts lies =
      let first = ends others t in
      let later : end ≤ end_of p v.early c.first.some.0 = first.first c.first.some.0 c.first.some.1 in
      let numbers : All (IsNumber (length p.jobs)) gone = gone_numbers p v.capacities v.early v.time active gone kept (length p.jobs) law refl is.conflict s in
      let number_i : IsNumber (length p.jobs) (number i) = member_all (IsNumber (length p.jobs)) gone (number i) numbers goes in
      let inside : i < length p.jobs = omega (arith, number_i.1) in
      omega (arith, later, c.first.some.2, c.raised i inside goes, lies.above i inside, lies.below i inside, ap (λ (xs : List ℕ). slice_index xs i) c.upper, less)

  -- nor where no active job stays
  pub child_none : ((others : List ℕ) → Splits active gone others → others ≡ []) → IsEmptyChild p v active gone
  child_none none others t some child c starts lies = absurd (some (none others t))
