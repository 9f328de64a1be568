use Rattle.std.proofs.Common.{◌≡◌, ◌∙◌, sym, ap, ℕ, ◌/◌, ◌%◌, ◌^◌, nat_eq, bit_and, slice_index, List, Contains, subst}
use Rattle.std.proofs.lemmas.Nat.Bits.{shr_and_one}
use Rattle.racp_model.specs.Project.{place}
use Rattle.racp_model.specs.JobSets.{bit_of, members}
use Rattle.racp_model.proofs.JobSets.{are_jobs, in_members, bit_of_member, one_from_test}
use Rattle.racp_model.proofs.job_set.JobSet.contains.Goals as goal

pub returns-clause-is : goal.returns-clause-is
returns-clause-is c =
    let words : List ℕ = c.self.inside.words in
    let job : ℕ = c.args.job in
    let bit : bit_and (slice_index words (place job / 64) / 2 ^ (place job % 64)) 1 ≡ bit_of words job = shr_and_one (slice_index words (place job / 64)) (place job % 64) in
    let view : members words ≡ c.args.self.now = c.self.view_is in (
      (λ set. subst (λ (xs : List ℕ). Contains xs job) view (in_members words job c.requires (sym bit ∙ one_from_test (bit_and (slice_index words (place job / 64) / 2 ^ (place job % 64)) 1) set))),
      (λ member. ap (λ n. nat_eq n 1) (bit ∙ bit_of_member words job (subst (λ (xs : List ℕ). Contains xs job) (sym view) member))),
    )

pub returns-clause-jobs : goal.returns-clause-jobs
returns-clause-jobs c = rw (← c.self.view_is) (are_jobs c.self.inside.words)
