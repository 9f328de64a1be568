use Rattle.std.proofs.Common.{List, ℕ, IsTrue, ◌↔◌, subst}
use Rattle.racp_model.specs.JobSets.{members, IsSubset}
use Rattle.racp_model.proofs.Bits.{subset_from_words, words_from_subset}
use Rattle.racp_model.proofs.job_set.JobSet.is_subset.Goals as goal

pub returns : goal.returns
returns c =
    let part : List ℕ = c.self.inside.words in
    let whole : List ℕ = c.other.inside.words in
    let e = c.is_within.ensures in
    let by_words : IsTrue c.is_within.result ↔ IsSubset (members part) (members whole) =
    ((λ within. subset_from_words part whole e.whole (e.within.0 within)), λ sub. e.within.1 (words_from_subset part whole e.part e.whole sub)) in
    subst (λ (xs : List ℕ). IsTrue c.is_within.result ↔ IsSubset xs c.args.other.now) c.self.view_is (subst (λ (xs : List ℕ). IsTrue c.is_within.result ↔ IsSubset (members part) xs) c.other.view_is by_words)
