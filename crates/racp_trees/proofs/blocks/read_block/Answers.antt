use Rattle.std.proofs.Common.{◌≡◌, ◌∙◌, arith, ℕ, List, Vec, Option, Some, None, sym, subst}
use Rattle.std.specs.Global.{Global}
use denote.Ref.{Bor}
use Rattle.racp_trees.specs.Blocks.{HasReadBlock}
use Rattle.racp_trees.specs.Reading.{IsVectorAnswer}
use Rattle.racp_trees.specs.Readers.{IsTreeAnswer}
use Rattle.racp_trees.proofs.Vectors.{block_missing, block_named, block_fails, block_read}
use Rattle.racp_trees.proofs.blocks.read_block.Goals as goal

pub read_vector-requires : goal.read_vector-requires
read_vector-requires g c = omega (arith, c.resource_count.ensures.count, c.resource_count.ensures.sound.limits.some_resource)

pub returns-in_default-clause-block : goal.returns-in_default-clause-block
returns-in_default-clause-block g c =
    let count = c.resource_count.ensures.count in
    let none : IsVectorAnswer c.resource_count.result c.args.text.now None = subst (λ (r : Option (Vec ℕ Global × Bor (List ℕ))). IsVectorAnswer c.resource_count.result c.args.text.now r) c.in_default.is c.in_ok-vector.ensures in
    block_missing c.args.net.now c.args.root.now c.args.reader.now c.args.text.now c.requires.between c.args.reader.now (subst (λ n. IsVectorAnswer n c.args.text.now None) count none)

pub read_tree-requires-clause-places : goal.read_tree-requires-clause-places
read_tree-requires-clause-places g c =
    let count = c.resource_count.ensures.count in
    let a = c.in-Some.vector.items in
    let there : IsVectorAnswer c.resource_count.result c.args.text.now (Some (c.in-Some.vector, c.in-Some.more)) = subst (λ (r : Option (Vec ℕ Global × Bor (List ℕ))). IsVectorAnswer c.resource_count.result c.args.text.now r) c.in-Some.is c.in_ok-vector.ensures in
    λ node named. c.requires.places node (block_named c.args.net.now c.args.root.now c.args.reader.now c.args.text.now c.requires.between a c.in-Some.more.now c.resource_count.ensures.sound.limits.some_resource (there.0 ∙ count) there.1 there.2 node named)

pub returns-in-Some-2-clause-block : goal.returns-in-Some-2-clause-block
returns-in-Some-2-clause-block g c =
    let p = c.args.net.now in
    let root = c.args.root.now in
    let old = c.args.reader.now in
    let text = c.args.text.now in
    let new = c.read_tree.new.self in
    let more = c.in-Some.more.now in
    let count = c.resource_count.ensures.count in
    let a : List ℕ = c.in-Some.vector.items in
    let there : IsVectorAnswer c.resource_count.result text (Some (c.in-Some.vector, c.in-Some.more)) = subst (λ (r : Option (Vec ℕ Global × Bor (List ℕ))). IsVectorAnswer c.resource_count.result text r) c.in-Some.is c.in_ok-vector.ensures in
    let same : c.new-capacities.result ≡ a = c.new-capacities.ensures in
    let read : IsTreeAnswer p c.new-capacities.result root old more new (Some c.in-Some-2.rest) = subst (λ (r : Option (Bor (List ℕ))). IsTreeAnswer p c.new-capacities.result root old more new r) c.in-Some-2.is c.in_ok-rest.ensures.tree in
    let tree : IsTreeAnswer p a root old more new (Some c.in-Some-2.rest) = subst (λ (xs : List ℕ). IsTreeAnswer p xs root old more new (Some c.in-Some-2.rest)) same read in
    subst (λ (xs : List ℕ). HasReadBlock p root old text new xs c.in-Some-2.rest.now) (sym (c.into_vec.ensures ∙ same))
    (block_read p root old text c.requires.between a more c.resource_count.ensures.sound.limits.some_resource (there.0 ∙ count) there.1 there.2 new c.in-Some-2.rest.now tree)

pub returns-clause-block : goal.returns-clause-block
returns-clause-block g c =
    let p = c.args.net.now in
    let root = c.args.root.now in
    let old = c.args.reader.now in
    let text = c.args.text.now in
    let new = c.read_tree.new.self in
    let more = c.in-Some.more.now in
    let count = c.resource_count.ensures.count in
    let a : List ℕ = c.in-Some.vector.items in
    let there : IsVectorAnswer c.resource_count.result text (Some (c.in-Some.vector, c.in-Some.more)) = subst (λ (r : Option (Vec ℕ Global × Bor (List ℕ))). IsVectorAnswer c.resource_count.result text r) c.in-Some.is c.in_ok-vector.ensures in
    let same : c.new-capacities.result ≡ a = c.new-capacities.ensures in
    let read : IsTreeAnswer p c.new-capacities.result root old more new None = subst (λ (r : Option (Bor (List ℕ))). IsTreeAnswer p c.new-capacities.result root old more new r) c.in-None.is c.in_ok-rest.ensures.tree in
    block_fails p root old text c.requires.between a more c.resource_count.ensures.sound.limits.some_resource (there.0 ∙ count) there.1 there.2 new (subst (λ (xs : List ℕ). IsTreeAnswer p xs root old more new None) same read)
