-- Projects with the same resources, jobs and pairs are the same.
use Rattle.std.proofs.Common.{◌≡◌, sym, ◌∙◌, ap, ℕ, ◌<◌, ◌==◌, Bool, true, List, length, slice_index, arith}
use Rattle.std.specs.Prelude.{slice_index_or, ◌&&◌}
use Rattle.std.specs.Bool.{Decides}
use Rattle.std.specs.Cmp.Lexicographic.{pointwise}
use Rattle.std.proofs.lemmas.Bool.{and_parts}
use Rattle.std.proofs.lemmas.Bool.Decides.{Decides-eqb}
use Rattle.std.proofs.lemmas.List.{same_lists, get_or_default}
use Rattle.std.proofs.lemmas.Slice.Eq.{slice_eq-Decides}
use Rattle.racp_model.specs.Project.{Activity, Project, IsSound, duration, no_job, request}

pub same_project : (a b : Project) → a.resources ≡ b.resources → a.jobs ≡ b.jobs → a.arcs ≡ b.arcs → a ≡ b
same_project a b resources jobs arcs = λ i. record { resources = resources i; jobs = jobs i; arcs = arcs i }

-- whether two pairs, and two lists of pairs, are the same
abbrev pub is_pair : ℕ × ℕ → ℕ × ℕ → Bool
is_pair x y = (x.0 == y.0) && (x.1 == y.1)

pair_decides : (x y : ℕ × ℕ) → Decides (is_pair x y) (x ≡ y)
pair_decides x y = (
  λ e. let parts = and_parts (x.0 == y.0) (x.1 == y.1) e in
      let first : x.0 ≡ y.0 = (Decides-eqb x.0 y.0).0 parts.0 in
      let second : x.1 ≡ y.1 = (Decides-eqb x.1 y.1).0 parts.1 in
      λ i. (first i, second i),
  λ e. λ i. (Decides-eqb x.0 y.0).1 (ap (λ p. p.0) e) i && (Decides-eqb x.1 y.1).1 (ap (λ p. p.1) e) i,
)

pub same_pairs : (xs ys : List (ℕ × ℕ)) (r : Bool) → r ≡ pointwise is_pair xs ys → r ≡ true → xs ≡ ys
same_pairs xs ys r is = (slice_eq-Decides pair_decides xs ys r is).0

-- the requests of a job, by those of each resource
requests_are : (p : Project) (i : ℕ) (row : List ℕ) → IsSound p → i < length p.jobs → length row ≡ p.resources → ((k : ℕ) → slice_index row k ≡ request p i k) →
    row ≡ (slice_index_or p.jobs i no_job).requests
unfolding request
requests_are p i row sound inside places each =
    let requests : List ℕ = (slice_index_or p.jobs i no_job).requests in
    let many : length requests ≡ p.resources = (sound.limits.each i no_job inside).row in
    let one : length row ≡ length requests = places ∙ sym many in
    same_lists row requests one
    (λ k d l. let m : k < length requests = omega (arith, l, one) in get_or_default row k d 0 l ∙ each k ∙ get_or_default requests k 0 d m)

-- a job, by its duration and its requests
pub same_job : (a b : Project) (i : ℕ) (x y : List ℕ) → i < length a.jobs → i < length b.jobs → duration a i ≡ duration b i → IsSound a → IsSound b →
    length x ≡ a.resources → length y ≡ b.resources → ((k : ℕ) → slice_index x k ≡ request a i k) → ((k : ℕ) → slice_index y k ≡ request b i k) → x ≡ y →
    slice_index_or a.jobs i no_job ≡ slice_index_or b.jobs i no_job
unfolding duration
same_job a b i x y in_a in_b durations sound_a sound_b places_a places_b each_a each_b same =
    let requests : (slice_index_or a.jobs i no_job).requests ≡ (slice_index_or b.jobs i no_job).requests =
    sym (requests_are a i x sound_a in_a places_a each_a) ∙ same ∙ requests_are b i y sound_b in_b places_b each_b in
    λ j. record { duration = durations j; requests = requests j }

pub same_jobs : (xs ys : List Activity) → length xs ≡ length ys → ((i : ℕ) → i < length xs → slice_index_or xs i no_job ≡ slice_index_or ys i no_job) → xs ≡ ys
same_jobs xs ys many each =
    same_lists xs ys many
    (λ k d l. let m : k < length ys = omega (arith, l, many) in get_or_default xs k d no_job l ∙ each k l ∙ get_or_default ys k no_job d m)
