use Rattle.std.proofs.Common.{◌∙◌, List, length}
use Rattle.std.proofs.lemmas.List.Elements.{All-same}
use Rattle.racp_model.specs.Project.{IsNumber}
use Rattle.racp_links.specs.declared.link.Link.{Link}
use Rattle.racp_links.specs.Phases.{all_leaf_links}
use Rattle.racp_links.proofs.Numbered.{all_tie_leaves, firsts_known, seconds_known}
use Rattle.racp_links.proofs.numbering.spread_anew.Goals as goal

pub renumbered-requires-clause-before : goal.renumbered-requires-clause-before
renumbered-requires-clause-before c =
    let all : List Link = all_leaf_links c.args.parents.now c.args.links.now in
    All-same (λ link. IsNumber (length c.args.parents.now) link.before) c.deref-3.result.now all (c.deref-3.ensures.value ∙ c.in_ok-spread.ensures)
    (firsts_known c.args.parents.now all (all_tie_leaves c.args.parents.now c.args.links.now c.requires.spreadable))

pub renumbered-requires-clause-after : goal.renumbered-requires-clause-after
renumbered-requires-clause-after c =
    let all : List Link = all_leaf_links c.args.parents.now c.args.links.now in
    All-same (λ link. IsNumber (length c.args.parents.now) link.after) c.deref-3.result.now all (c.deref-3.ensures.value ∙ c.in_ok-spread.ensures)
    (seconds_known c.args.parents.now all (all_tie_leaves c.args.parents.now c.args.links.now c.requires.spreadable))
