-- The first yes of the questions of one resource is at its sharpened floor.
use Rattle.std.proofs.Common.{◌≡◌, ◌∙◌, ℕ, ◌+◌, ◌-◌, ◌<◌, ◌≤◌, List, length, slice_index, set, Some, inl, inr, arith, refl, sym, subst, get_or-set_other}
use Rattle.std.proofs.lemmas.List.{length-set, set-get_or}
use Rattle.std.proofs.lemmas.List.FromFn.{get_or-map-range_with_len, length-map-range_with_len}
use Rattle.racp_model.specs.Project.{Project}
use Rattle.racp_model.specs.Window.{Bounds, IsYes, IsNo}
use Rattle.racp_model.specs.declared.question.Question.{Question}
use Rattle.racp_model.proofs.lemmas.Lists.{at_set}
use Rattle.racp_questions.specs.FirstYes.{IsFirstYes, question_at, no_question, AreNoBefore}
use Rattle.racp_candidates.specs.Questions.{question_of, single_questions}
use Rattle.racp_bounds.specs.Sharp.{IsSharpened, AreSharpenedBefore}

module _ (p : Project) (root : Bounds) (floors roofs : List ℕ) (k : ℕ) where
  -- there is a question for each number from the floor to the roof
  pub question_count : length (single_questions floors roofs k root) ≡ slice_index roofs k + 1 - slice_index floors k
  question_count = length-map-range_with_len (λ units. question_of (set roofs k units) root) (slice_index floors k) (slice_index roofs k + 1 - slice_index floors k)

  -- the question at a place is that of the floor and so many units more
  pub single_at : (i units : ℕ) → i < slice_index roofs k + 1 - slice_index floors k → slice_index floors k + i ≡ units →
      question_at (single_questions floors roofs k root) i ≡ question_of (set roofs k units) root
  single_at i units l e =
      get_or-map-range_with_len (λ units. question_of (set roofs k units) root) (slice_index floors k) (slice_index roofs k + 1 - slice_index floors k) i units no_question l e

  -- so a question that is a no says that the number is not enough
  pub no_at : (i units : ℕ) → i < slice_index roofs k + 1 - slice_index floors k → slice_index floors k + i ≡ units →
      IsNo p (question_at (single_questions floors roofs k root) i).capacities (question_at (single_questions floors roofs k root) i).window → IsYes p (set roofs k units) root → ⊥
  no_at i units l e none some = subst (λ (q : Question). IsNo p q.capacities q.window) (single_at i units l e) none some.0 some.1

  -- the first yes is at a number up to the roof
  pub first_within : (index : ℕ) → IsFirstYes p (single_questions floors roofs k root) (Some index) → slice_index floors k + index ≤ slice_index roofs k
  first_within index h = omega (arith, h.0, question_count)

  -- that number is the sharpened floor
  pub first_sharpened : (index : ℕ) → IsFirstYes p (single_questions floors roofs k root) (Some index) → IsSharpened p root floors roofs k (slice_index floors k + index)
  first_sharpened index h =
      let within : index < slice_index roofs k + 1 - slice_index floors k = omega (arith, h.0, question_count) in
      record {
        is = record {
          from_floor = omega arith;
          yes = subst (λ (q : Question). IsYes p q.capacities q.window) (single_at index (slice_index floors k + index) within refl) h.1;
        };
        least = λ units enough less.
            let i = units - slice_index floors k in
            let before : i < index = omega (arith, enough.from_floor, less) in
            no_at i units (omega (arith, before, within)) (omega (arith, enough.from_floor)) (h.2 i before) enough.yes;
      }

  -- not each question is a no where the roofs are a yes
  pub some_yes : slice_index floors k ≤ slice_index roofs k → IsYes p roofs root → AreNoBefore p (single_questions floors roofs k root) (length (single_questions floors roofs k root)) → ⊥
  some_yes bound some none =
      let i = slice_index roofs k - slice_index floors k in
      let last : i < slice_index roofs k + 1 - slice_index floors k = omega (arith, bound) in
      no_at i (slice_index roofs k) last (omega (arith, bound)) (none i (omega (arith, last, question_count)))
      (subst (λ (c : List ℕ). IsYes p c root) (sym (set-get_or roofs k 0)) some)

-- the sharpened floor of a resource is told by its first floor alone
pub same_sharpened : (p : Project) (root : Bounds) (floors other roofs : List ℕ) (k units : ℕ) → slice_index floors k ≡ slice_index other k →
    IsSharpened p root floors roofs k units → IsSharpened p root other roofs k units
same_sharpened p root floors other roofs k units e h = record {
  is = record { from_floor = omega (arith, h.is.from_floor, e); yes = h.is.yes };
  least = λ y enough less. h.least y (record { from_floor = omega (arith, enough.from_floor, e); yes = enough.yes }) less;
}

module _ (p : Project) (root : Bounds) (floors roofs : List ℕ) where
  -- one more floor is sharpened
  pub one_sharpened : (n units : ℕ) (reached : List ℕ) → n < p.resources → AreSharpenedBefore p root floors roofs n reached → IsSharpened p root reached roofs n units →
      AreSharpenedBefore p root floors roofs (n + 1) (set reached n units)
  one_sharpened n units reached l h here = record {
    places = length-set reached n units ∙ h.places;
    sharpened = λ k low m. elim (at_set reached n units k (omega (arith, l, h.places))) [
      | inl at ↦
          let own : IsSharpened p root floors roofs n units = same_sharpened p root reached floors roofs n units (h.first n (omega arith) l) here in
          subst (λ (v : ℕ). IsSharpened p root floors roofs k v) (sym at.1) (subst (λ (q : ℕ). IsSharpened p root floors roofs q units) (sym at.0) own)
      | inr other ↦ subst (λ (v : ℕ). IsSharpened p root floors roofs k v) (sym other.1) (h.sharpened k (omega (arith, low, other.0)) m)
    ];
    first = λ k high m. get_or-set_other reached n k units 0 (omega (arith, high)) ∙ h.first k (omega (arith, high)) m;
  }
