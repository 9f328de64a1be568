use Rattle.std.proofs.Common.{◌≡◌, ◌/◌, ◌%◌, ◌*◌, ◌^◌, ℕ, List, set, bit_or, slice_index, subst}
use Rattle.racp_model.specs.Project.{place}
use Rattle.racp_model.specs.JobSets.{members, IsInserted}
use Rattle.racp_model.proofs.JobSets.{are_jobs}
use Rattle.racp_model.proofs.Bits.{inserted, bit_is_set}
use Rattle.racp_model.proofs.job_set.JobSet.insert.Goals as goal

pub returns-clause-inserted : goal.returns-clause-inserted
returns-clause-inserted c =
    let words : List ℕ = c.self.inside.words in
    let job : ℕ = c.args.job in
    let new : List ℕ = set words (place job / 64) (bit_or (slice_index words (place job / 64)) (1 * 2 ^ (place job % 64) % 2 ^ 64)) in
    let view : members words ≡ c.args.self.now = c.self.view_is in
    subst (λ (xs : List ℕ). IsInserted xs job (members new)) view (inserted words new job c.requires (bit_is_set words new job c.self.told c.requires (λ i. new)))

pub returns-clause-jobs : goal.returns-clause-jobs
returns-clause-jobs c = are_jobs _
