use Rattle.std.proofs.Common.{◌∙◌, sym}
use Rattle.std.proofs.lemmas.Bool.{false≢true}
use Rattle.racp_bounds.proofs.Refuting.{refuted_of, kept_of}
use Rattle.racp_bounds.proofs.sharp.is_refuted.Goals.{in-None, in_default}
use Rattle.racp_bounds.proofs.sharp.is_refuted.Goals as goal

pub returns-clause-refuted : goal.returns-clause-refuted
returns-clause-refuted g c = elim c.match-matches.branch [
  | in-None w ↦ (
    λ given. refuted_of c.args.net.now c.args.root.now c.args.bounds.now.floors.now c.args.bounds.now.roofs.now c.args.pair.0 c.args.pair.1 _ _ _ c.in_ok-capacities.ensures c.in_ok-question.ensures
        c.in_ok-first.ensures.answer w.in-None.is,
    λ refuted. w.matches-is,
  )
  | in_default w ↦ (
    λ given. absurd (false≢true (sym w.matches-is ∙ given)),
    λ refuted. absurd (kept_of c.args.net.now c.args.root.now c.args.bounds.now.floors.now c.args.bounds.now.roofs.now c.args.pair.0 c.args.pair.1 _ _ _ c.in_ok-capacities.ensures c.in_ok-question.ensures
        c.in_ok-first.ensures.answer _ _ w.in_default.is refuted),
  )
]
