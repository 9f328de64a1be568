use Rattle.std.proofs.Common.{◌≡◌, ℕ, ◌+◌, List, Some, slice_index, arith, sym, subst, ap}
use Rattle.racp_model.specs.Formed.{AreFormed}
use Rattle.racp_questions.specs.FirstYes.{IsFirstYes}
use Rattle.racp_candidates.specs.Questions.{single_questions}
use Rattle.racp_candidates.proofs.lemmas.Forms.{singles_formed}
use Rattle.racp_bounds.specs.Sharp.{IsSharpened}
use Rattle.racp_questions.proofs.lemmas.Answered.{yes_of, no_of}
use Rattle.racp_bounds.proofs.Raising.{first_within, first_sharpened, some_yes}
use Rattle.racp_bounds.proofs.sharp.raised.Goals as goal

pub first-requires-clause-formed : goal.first-requires-clause-formed
first-requires-clause-formed g c = subst (AreFormed c.args.net.now) (sym c.in_ok-singles.ensures)
    (singles_formed c.args.net.now c.args.bounds.now.floors.now c.args.bounds.now.roofs.now c.args.k c.args.root.now c.requires.roofs c.requires.root)

pub units_at-requires-clause-within : goal.units_at-requires-clause-within
units_at-requires-clause-within g c =
    let floor : slice_index c.as_slice.result.now c.args.k ≡ slice_index c.args.bounds.now.floors.now c.args.k = ap (λ (xs : List ℕ). slice_index xs c.args.k) c.as_slice.ensures in
    let roof : slice_index c.as_slice-in-Yes.result.now c.args.k ≡ slice_index c.args.bounds.now.roofs.now c.args.k = ap (λ (xs : List ℕ). slice_index xs c.args.k) c.as_slice-in-Yes.ensures in
    let first : IsFirstYes c.args.net.now (single_questions c.args.bounds.now.floors.now c.args.bounds.now.roofs.now c.args.k c.args.root.now) (Some c.in-Yes.index) =
    yes_of c.args.net.now _ _ _ _ _ c.in_ok-singles.ensures c.in-Yes.is c.in_ok-index.ensures.answer in
    omega (arith, floor, roof, first_within c.args.net.now c.args.root.now c.args.bounds.now.floors.now c.args.bounds.now.roofs.now c.args.k c.in-Yes.index first)

pub unreachable-requires : goal.unreachable-requires
unreachable-requires g c = some_yes c.args.net.now c.args.root.now c.args.bounds.now.floors.now c.args.bounds.now.roofs.now c.args.k c.requires.bounds c.requires.admits
    (no_of c.args.net.now _ _ _ c.in_ok-singles.ensures c.in-None.is c.in_ok-index.ensures.answer)

pub returns-clause-sharp : goal.returns-clause-sharp
returns-clause-sharp g c =
    let floor : slice_index c.as_slice.result.now c.args.k ≡ slice_index c.args.bounds.now.floors.now c.args.k = ap (λ (xs : List ℕ). slice_index xs c.args.k) c.as_slice.ensures in
    let first : IsFirstYes c.args.net.now (single_questions c.args.bounds.now.floors.now c.args.bounds.now.roofs.now c.args.k c.args.root.now) (Some c.in-Yes.index) =
    yes_of c.args.net.now _ _ _ _ _ c.in_ok-singles.ensures c.in-Yes.is c.in_ok-index.ensures.answer in
    let units : slice_index c.args.bounds.now.floors.now c.args.k + c.in-Yes.index ≡ c.units_at.result = omega (arith, floor, c.units_at.ensures) in
    subst (IsSharpened c.args.net.now c.args.root.now c.args.bounds.now.floors.now c.args.bounds.now.roofs.now c.args.k) units
    (first_sharpened c.args.net.now c.args.root.now c.args.bounds.now.floors.now c.args.bounds.now.roofs.now c.args.k c.in-Yes.index first)
