-- Where an alternative was put off, each of its jobs alone was put off behind the first end of all others.
use Rattle.std.proofs.Common.{◌≡◌, ℕ, ◌≤◌, inl, inr, List, [], ◌∷◌, slice_index, arith, refl, ap, sym, subst, Contains}
use Rattle.racp_model.specs.Project.{Project, number}
use Rattle.racp_model.specs.Window.{Bounds, LiesIn}
use Rattle.racp_model.proofs.lemmas.Relations.{member_cases, member_first, member_later, no_member}
use Rattle.racp_model.proofs.lemmas.Decided.{member_decided}
use Rattle.racp_delay.specs.Alternatives.{Splits}
use Rattle.racp_delay.specs.Alternatives.Splits.{none, goes, stays}
use Rattle.racp_delay.specs.Branching.{IsConflict, end_of}
use Rattle.racp_delay.specs.Laws.{EachJobAloneCovers, LiesInSomeChild, LiesWhereOneGoes}
use Rattle.racp_delay.proofs.Splitting.{splits-none}
use Rattle.racp_delay.proofs.Subsets.{gone_in, kept_in}
use Rattle.racp_delay.proofs.Children.{has_child}
use Rattle.racp_delay.proofs.Branching.{loses_nothing}
use Rattle.racp_delay.proofs.Rising.{some_goes}

-- of the jobs that go the first goes alone, beside all others, of which those that stay are some
pub first_alone : {jobs gone kept : List ℕ} (job : ℕ) (more : List ℕ) → Splits jobs gone kept → gone ≡ job ∷ more → (others : List ℕ) × Splits jobs (job ∷ []) others × ((i : ℕ) → Contains kept i → Contains others i)
first_alone job more none e = absurd (cc e)
first_alone job more (goes {job = j} {jobs = jobs} {gone = gone} {kept = kept} s) e =
    let same : j ≡ job = cc e in
    (jobs, subst (λ x. Splits (j ∷ jobs) (x ∷ []) jobs) same (goes (splits-none jobs)), λ i c. kept_in i s c)
first_alone job more (stays {job = j} {jobs = jobs} {gone = gone} {kept = kept} s) e =
    let h = first_alone job more s e in (
      j ∷ h.0,
      stays h.1,
      λ i c. elim (member_cases j kept i c) [
        | inl same ↦ member_first j h.0 i same
        | inr there ↦ member_later j h.0 i (h.2 i there)
      ],
    )

-- a list without members
no_members : (xs : List ℕ) → ((i : ℕ) → Contains xs i → ⊥) → xs ≡ []
no_members [] h = refl
no_members (x ∷ xs) h = absurd (h x (member_first x xs x refl))

-- starts that lie in the child window of an alternative lie in that of its first job alone
lies_alone : (p : Project) (capacities early : List ℕ) (t : ℕ) (active : List ℕ) (window : Bounds) (starts : List ℕ) → IsConflict p capacities early t active → LiesIn p window starts → (b : LiesInSomeChild p capacities early active window starts) →
    (gone : List ℕ) → b.gone ≡ gone → LiesWhereOneGoes p early active window starts
lies_alone p capacities early t active window starts conflict lies b [] e = absurd (some_goes p capacities early t active b.gone b.kept conflict b.splits b.minimal e)
lies_alone p capacities early t active window starts conflict lies b (job ∷ more) e =
    let alone = first_alone job more b.splits e in
    let child = has_child p early window b.gone b.kept b.some_stay in
    let lies_there : LiesIn p child.0 starts = b.lies child.0 child.1 in
    let goes_job : Contains b.gone job = subst (λ (xs : List ℕ). Contains xs job) (sym e) (member_first job more job refl) in
    record {
      job = job;
      kept = alone.0;
      is_active = gone_in job b.splits goes_job;
      splits = alone.1;
      some_stay = λ none. b.some_stay (no_members b.kept (λ i c. no_member i (subst (λ (xs : List ℕ). Contains xs i) none (alone.2 i c))));
      lies = λ c is. record {
        places = lies.places;
        above = λ i l. elim (member_decided (number i) (job ∷ [])) [
          | inl here ↦
              let goes_i : Contains b.gone (number i) = elim (member_cases job [] (number i) here) [ inl same ↦ subst (λ x. Contains b.gone x) same goes_job | inr none' ↦ absurd (no_member (number i) none') ] in
              let some = child.1.first.some in
              let sooner : is.end ≤ end_of p early some.0 = is.first.first some.0 (alone.2 some.0 some.1) in
              omega (arith, is.raised i l here, child.1.raised i l goes_i, lies_there.above i l, sooner, some.2)
          | inr not_here ↦ omega (arith, is.same i l not_here, lies.above i l)
        ];
        below = λ i l. omega (arith, lies.below i l, ap (λ (x : List ℕ). slice_index x i) is.upper);
      };
    }

pub each_alone : EachJobAloneCovers
each_alone p capacities window early t active starts is_early conflict answer =
    let b = loses_nothing p capacities window early t active starts is_early conflict answer in
    lies_alone p capacities early t active window starts conflict answer.lies b b.gone refl
