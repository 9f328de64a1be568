use Rattle.std.proofs.Common.{◌∙◌, sym, refl, ℕ, ◌*◌, ◌^◌, ◌%◌, List, set, bit_and, slice_index, arith, w64}
use Rattle.std.specs.Int.{bit_not}
use Rattle.racp_model.specs.Words.{IsLowestBit}
use Rattle.racp_model.proofs.JobSets.{are_jobs}
use Rattle.racp_model.proofs.Bits.{job_at, no_jobs, popped_first, bit_is_cleared}
use Rattle.racp_model.proofs.job_set.JobSet.pop_first.Goals as goal

pub returns-clause-first : goal.returns-clause-first
returns-clause-first c =
    let words : List ℕ = c.self.inside.words in
    let q : ℕ = c.in-Some.q in
    let k : ℕ = c.in-Some.bit in
    let new : List ℕ = set words q (bit_and (slice_index words q) (bit_not w64 (1 * 2 ^ k % 2 ^ 64))) in
    let low : IsLowestBit words q k = c.in-Some.ensures in
    sym c.self.view_is ∙ popped_first words new q k (job_at q k) low refl (bit_is_cleared words new q k (job_at q k) (omega (arith, c.self.told, low.word)) low.bit refl refl)

pub returns-clause-jobs : goal.returns-clause-jobs
returns-clause-jobs c = rw (← c.self.view_is) (are_jobs c.self.inside.words)

pub returns-in_default-clause-first : goal.returns-in_default-clause-first
returns-in_default-clause-first c = let e = sym c.self.view_is ∙ no_jobs c.self.inside.words c.in_default.ensures in (e, e)

pub returns-in_default-clause-jobs : goal.returns-in_default-clause-jobs
returns-in_default-clause-jobs c = rw (← c.self.view_is) (are_jobs c.self.inside.words)
