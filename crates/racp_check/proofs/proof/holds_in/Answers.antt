use Rattle.std.proofs.Common.{◌≡◌, ◌↔◌, ℕ, List, Vec, Option, Some, None, IsTrue, length, slice_index_or, ◌<◌, sym, subst}
use Rattle.std.specs.Global.{Global}
use Rattle.racp_trees.specs.Certificates.{IsBlocksAnswer}
use Rattle.racp_trees.specs.Enough.{AreEnoughBlocks}
use Rattle.racp_check.proofs.Certified.{no_certificate, no_blocks, blocks_sized, certified}
use Rattle.racp_check.proofs.proof.holds_in.Goals as goal

pub returns-in_default-clause-exact : goal.returns-in_default-clause-exact
returns-in_default-clause-exact g c =
    let claim = c.args.claim.now in
    let p = claim.net.now in
    let none : IsBlocksAnswer p c.args.root.now c.args.text.now None = subst (λ (r : Option (Vec (Vec ℕ Global) Global)). IsBlocksAnswer p c.args.root.now c.args.text.now r) c.in_default.is c.in_ok-blocks.ensures.vectors in
    no_certificate p claim.order.now claim.capacities.now c.args.text.now (no_blocks p claim.order.now claim.capacities.now c.args.text.now c.args.root.now c.requires.root none)

pub are_enough_until-requires-clause-blocks : goal.are_enough_until-requires-clause-blocks
are_enough_until-requires-clause-blocks g c =
    let claim = c.args.claim.now in
    let p = claim.net.now in
    let there : IsBlocksAnswer p c.args.root.now c.args.text.now (Some c.in-Some.blocks) = subst (λ (r : Option (Vec (Vec ℕ Global) Global)). IsBlocksAnswer p c.args.root.now c.args.text.now r) c.in-Some.is c.in_ok-blocks.ensures.vectors in
    let same : c.deref.result.now ≡ c.in-Some.blocks.items = c.deref.ensures.value in
    subst (λ (rows : List (Vec ℕ Global)). (k : ℕ) → k < length rows → (d : Vec ℕ Global) → length (slice_index_or rows k d).items ≡ p.resources) (sym same)
    (blocks_sized p claim.order.now claim.capacities.now c.args.text.now c.args.root.now c.requires.root c.in-Some.blocks.items there)

pub returns-clause-exact : goal.returns-clause-exact
returns-clause-exact g c =
    let claim = c.args.claim.now in
    let p = claim.net.now in
    let there : IsBlocksAnswer p c.args.root.now c.args.text.now (Some c.in-Some.blocks) = subst (λ (r : Option (Vec (Vec ℕ Global) Global)). IsBlocksAnswer p c.args.root.now c.args.text.now r) c.in-Some.is c.in_ok-blocks.ensures.vectors in
    let same : c.deref.result.now ≡ c.in-Some.blocks.items = c.deref.ensures.value in
    let enough : IsTrue c.in_ok-enough.enough ↔ AreEnoughBlocks p claim.order.now claim.roofs.now claim.capacities.now c.in-Some.blocks.items =
    subst (λ (rows : List (Vec ℕ Global)). IsTrue c.in_ok-enough.enough ↔ AreEnoughBlocks p claim.order.now claim.roofs.now claim.capacities.now rows) same c.in_ok-enough.ensures.told in
    let is = certified p claim.order.now claim.capacities.now c.args.text.now c.args.root.now c.requires.root c.in-Some.blocks.items there claim.roofs.now c.requires.roofs in
    (λ x. is.0 (enough.0 x), λ x. enough.1 (is.1 x))
