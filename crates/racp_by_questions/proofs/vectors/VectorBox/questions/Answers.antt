use Rattle.std.proofs.Common.{◌≡◌, ℕ, List, rules, sym, subst}
use Rattle.racp_candidates.specs.Box.{AreBounds}
use Rattle.racp_by_questions.proofs.Staging.{sharp_below}
use Rattle.racp_by_questions.proofs.vectors.VectorBox.questions.Goals as goal

pub new-requires-clause-bounds : goal.new-requires-clause-bounds
new-requires-clause-bounds c =
    let floors : c.in_ok-floors.floors ≡ c.args.self.now.sharp.floors = search rules in
    let roofs : c.in_ok-roofs.roofs ≡ c.args.self.now.roofs.now = search rules in
    let below = sharp_below c.args.self.now.task.net.now c.args.self.now.task.root.now c.requires.sharp.first c.args.self.now.roofs.now c.args.self.now.sharp.floors c.requires.sharp.ends.lowest.places c.requires.sharp.ends.bounds c.requires.sharp.ends.yes c.requires.sharp.sharp_are.sharpened in
    subst (λ (xs : List ℕ). AreBounds xs c.in_ok-roofs.roofs) (sym floors) (subst (λ (xs : List ℕ). AreBounds c.args.self.now.sharp.floors xs) (sym roofs) below)
