use Rattle.std.proofs.Common.{ℕ, List, Vec, Option, Some, None, sym, subst}
use Rattle.std.specs.Global.{Global}
use denote.Ref.{Bor}
use Rattle.std.proofs.lemmas.Bool.{iff_false}
use Rattle.racp_trees.specs.Blocks.{IsBlockRead}
use Rattle.racp_trees.proofs.Vectors.{IsReadingBlocks, reading_on, reading_ends, reading_breaks}
use Rattle.racp_trees.proofs.blocks.read_blocks.Goals as goal

pub loop-vectors-preserved : goal.loop-vectors-preserved
loop-vectors-preserved g c =
    let p = c.args.net.now in
    let root = c.args.root.now in
    let new = c.read_block.new.reader in
    let read : IsBlockRead p root c.loop-vectors.reader c.loop-vectors.rest.now new (Some (c.in-Some.vector, c.in-Some.more)) =
    subst (λ (r : Option (Vec ℕ Global × Bor (List ℕ))). IsBlockRead p root c.loop-vectors.reader c.loop-vectors.rest.now new r) c.in-Some.is c.in_ok-vector.ensures.block in
    subst (λ (vs : List (Vec ℕ Global)). IsReadingBlocks p root c.args.reader c.args.text.now new vs c.in-Some.more.now) (sym c.in_ok-push.ensures.items)
    (reading_on p root c.args.reader c.args.text.now c.loop-vectors.reader c.loop-vectors.vectors.items c.loop-vectors.rest.now c.loop-vectors.invariant new c.in-Some.vector c.in-Some.more.now read)

pub returns-then-is_last_line-clause-blocks : goal.returns-then-is_last_line-clause-blocks
returns-then-is_last_line-clause-blocks g c =
    reading_ends c.args.net.now c.args.root.now c.args.reader c.args.text.now c.loop-vectors.reader c.loop-vectors.vectors.items c.loop-vectors.rest.now c.loop-vectors.invariant (c.is_last_line.ensures.0 c.if-is_last_line.true)

pub returns-clause-blocks : goal.returns-clause-blocks
returns-clause-blocks g c =
    let p = c.args.net.now in
    let root = c.args.root.now in
    let new = c.read_block.new.reader in
    let none : IsBlockRead p root c.loop-vectors.reader c.loop-vectors.rest.now new None =
    subst (λ (r : Option (Vec ℕ Global × Bor (List ℕ))). IsBlockRead p root c.loop-vectors.reader c.loop-vectors.rest.now new r) c.in_default.is c.in_ok-vector.ensures.block in
    reading_breaks p root c.args.reader c.args.text.now c.loop-vectors.reader c.loop-vectors.vectors.items c.loop-vectors.rest.now c.loop-vectors.invariant new none (iff_false c.is_last_line.ensures c.if-is_last_line.false)
