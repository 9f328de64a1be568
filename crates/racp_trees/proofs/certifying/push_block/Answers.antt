use Rattle.std.proofs.Common.{◌∙◌, ◌++◌, List, ℕ, ap, subst}
use Rattle.racp_trees.specs.Texts.{vector_line}
use Rattle.racp_trees.proofs.Gathering.{block_pushed}
use Rattle.racp_trees.proofs.Spelling.{AreSmall}
use Rattle.racp_trees.proofs.certifying.push_block.Goals as goal

pub returns : goal.returns
returns g c =
    block_pushed c.args.ground.now.net.now c.args.ground.now.capacities.now c.args.ground.now.root.now c.args.maker.now.reader c.make_tree.new.self.reader c.args.text.now.items c.push_vector.new.text.items c.make_tree.new.text.items c.make_tree.result
    c.job_count.ensures.sound.limits.some_resource c.requires.capacities (subst AreSmall c.as_slice.ensures c.in_ok-push_vector.ensures.small) c.requires.branches
    (c.in_ok-push_vector.ensures.line ∙ ap (λ (xs : List ℕ). c.args.text.now.items ++ vector_line xs) c.as_slice.ensures) c.make_tree.ensures
