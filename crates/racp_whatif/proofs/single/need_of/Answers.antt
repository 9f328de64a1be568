use Rattle.std.proofs.Common.{◌≡◌, ◌∙◌, ◌+◌, ◌++◌, ◌∷◌, [], List, ℕ, slice_index, refl, ap, arith}
use Rattle.racp_model.specs.Project.{duration, number}
use Rattle.racp_whatif.proofs.Jobs.{request-above}
use Rattle.racp_whatif.proofs.single.need_of.Goals as goal

pub returns : goal.returns
returns c ceilings more =
    let only : c.push_job.new.jobs.items ≡ [] ++ number c.args.i ∷ [] = c.in_ok-push_job.ensures ∙ ap (λ (xs : List ℕ). xs ++ number c.args.i ∷ []) c.new-jobs.ensures.items in
    let from : slice_index c.lower.result.now c.args.i ≡ slice_index c.args.window.now.lower c.args.i = ap (λ (xs : List ℕ). slice_index xs c.args.i) c.lower.ensures.bounds in
    let until : slice_index c.upper.result.now c.args.i + c.duration.result ≡ slice_index c.args.window.now.upper c.args.i + duration c.args.net.now c.args.i =
    omega (arith, ap (λ (xs : List ℕ). slice_index xs c.args.i) c.upper.ensures.bounds, c.duration.ensures) in
    request-above c.args.net.now c.args.window.now ceilings c.args.k c.args.i c.push_job.new.jobs.items
    (record { place = c.args.k; units = c.request.result; from = slice_index c.lower.result.now c.args.i; until = slice_index c.upper.result.now c.args.i + c.duration.result; jobs = c.push_job.new.jobs })
    c.requires.resource c.requires.job c.requires.runs more only refl c.request.ensures from until refl
