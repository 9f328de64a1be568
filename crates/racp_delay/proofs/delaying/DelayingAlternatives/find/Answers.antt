use Rattle.std.proofs.Common.{◌≡◌, ◌∙◌, ap, subst, List, ℕ, slice_index, replicate}
use Rattle.std.proofs.lemmas.Result.{IfOk-weaker}
use Rattle.racp_model.proofs.lemmas.Zeros.{zeros}
use Rattle.racp_delay.specs.Alternatives.{job_lists, AreAlternatives}
use Rattle.racp_delay.specs.Found.{AreAdded}
use Rattle.racp_delay.proofs.Adding.{finished}
use Rattle.racp_delay.proofs.delaying.DelayingAlternatives.find.Goals as goal

pub returns : goal.returns
returns c =
    let active : c.deref.result.now ≡ c.args.conflict.now.active = c.deref.ensures.value ∙ c.in_ok-loads.ensures.jobs in
    let capacities : c.as_slice.result.now ≡ c.args.capacities.now = c.as_slice.ensures in
    let p = c.args.net.now in
    let new = job_lists c.add.new.lists.items in
    IfOk-weaker c.add.result
    (λ _. AreAdded p c.as_slice.result.now (slice_index (replicate 16 0)) c.clear.new.self.items c.deref.result.now (job_lists c.clear-2.new.self.items) new)
    (λ _. AreAlternatives p c.args.capacities.now c.args.conflict.now.active new)
    (λ _ h.
    let found : AreAlternatives p c.as_slice.result.now c.deref.result.now new = finished p c.as_slice.result.now c.deref.result.now c.clear.new.self.items (slice_index (replicate 16 0)) (job_lists c.clear-2.new.self.items) new
    c.clear.ensures.items (ap job_lists c.clear-2.ensures.items) (λ k l. zeros 16 k) h in
    subst (λ (xs : List ℕ). AreAlternatives p xs c.args.conflict.now.active new) capacities
    (subst (λ (xs : List ℕ). AreAlternatives p c.as_slice.result.now xs new) active found))
    c.add.ensures.added
