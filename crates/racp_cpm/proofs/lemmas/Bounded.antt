-- Some starts that keep precedence are small, so the early starts fit their type.
use Rattle.std.proofs.Common.{◌≡◌, ℕ, ◌+◌, ◌*◌, ◌<◌, ◌≤◌, List, length, slice_index, arith, map}
use Rattle.std.specs.List.{range_with_len}
use Rattle.std.proofs.lemmas.List.FromFn.{get_or-map-range_with_len}
use Rattle.racp_model.specs.Project.{Project, IsSound}
use Rattle.racp_model.specs.Schedule.{KeepsPrecedence}
use Rattle.racp_model.specs.Path.{IsAtLeast}
use Rattle.racp_model.specs.Ranks.{lower_count}
use Rattle.racp_model.proofs.lemmas.Sums.{duration-small}
use Rattle.racp_model.proofs.lemmas.Ranking.{lower_count-most, lower_count-rises}
use Rattle.racp_model.proofs.lemmas.Arcs.{precedes_in}

-- some starts keep precedence and are small
pub record IsSmallSchedule (p : Project) (lower : ℕ → ℕ) (most : ℕ) (starts : List ℕ) : Type 0 where
  pub above : IsAtLeast p lower starts
  pub precedence : KeepsPrecedence p starts
  pub small : (i : ℕ) → i < length p.jobs → slice_index starts i ≤ most + 5120000

-- starts by rank, with room for the longest job between two
pub staged : (p : Project) → (rank : ℕ → ℕ) → ℕ → List ℕ
staged p rank most = map (λ i. most + lower_count (length p.jobs) rank i * 10000) (range_with_len 0 (length p.jobs))

-- what they are at a place
pub staged-at : (p : Project) (rank : ℕ → ℕ) (most i : ℕ) → i < length p.jobs → slice_index (staged p rank most) i ≡ most + lower_count (length p.jobs) rank i * 10000
unfolding staged
staged-at p rank most i l = get_or-map-range_with_len (λ i. most + lower_count (length p.jobs) rank i * 10000) 0 (length p.jobs) i i 0 l (omega arith)

-- so some starts above small bounds are small
pub some_starts : (p : Project) (lower : ℕ → ℕ) (most : ℕ) → IsSound p → ((i : ℕ) → i < length p.jobs → lower i ≤ most) → (starts : List ℕ) × IsSmallSchedule p lower most starts
some_starts p lower most sound small =
    let rank = sound.acyclic.0 in (
      staged p sound.acyclic.0 most,
      record {
        above = λ i l. omega (arith, staged-at p rank most i l, small i l);
        precedence = λ i j o.
            let in' = precedes_in p i j sound o in
            omega (arith, staged-at p rank most i in'.0, staged-at p rank most j in'.1, lower_count-rises (length p.jobs) rank i j in'.0 (sound.acyclic.1 i j o), duration-small p i sound in'.0);
        small = λ i l. omega (arith, staged-at p rank most i l, lower_count-most (length p.jobs) rank i, sound.limits.most_jobs);
      },
    )
