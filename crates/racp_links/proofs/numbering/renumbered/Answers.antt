use Rattle.std.proofs.Common.{◌≡◌, ◌∙◌, ◌<◌, ◌++◌, ℕ, List, [], ◌∷◌, ap, sym, length, get_or, map, take, arith}
use Rattle.std.proofs.lemmas.List.{map_more}
use Rattle.racp_model.specs.Project.{IsNumber}
use Rattle.racp_links.specs.declared.link.Link.{Link}
use Rattle.racp_links.specs.Faults.{no_link}
use Rattle.racp_links.specs.Phases.{numbered}
use Rattle.racp_links.proofs.Numbered.{known_in, numbered_by}
use Rattle.racp_links.proofs.numbering.renumbered.Goals as goal

before_known : (parents : List ℕ) (links : List Link) (k : ℕ) → k < length links → ((k : ℕ) (d : Link) → k < length links → IsNumber (length parents) (get_or links k d).before) →
    IsNumber (length parents) (get_or links k no_link).before
before_known parents links k inside all = all k no_link inside

after_known : (parents : List ℕ) (links : List Link) (k : ℕ) → k < length links → ((k : ℕ) (d : Link) → k < length links → IsNumber (length parents) (get_or links k d).after) →
    IsNumber (length parents) (get_or links k no_link).after
after_known parents links k inside all = all k no_link inside

pub renumber-requires-clause-before : goal.renumber-requires-clause-before
renumber-requires-clause-before c =
    let k : ℕ = c.loop-link.link-index in
    let inside : k < length c.args.links.now = omega arith in
    known_in c.args.parents.now c.args.numbers.now (get_or c.args.links.now k no_link).before c.requires.numbers
    (before_known c.args.parents.now c.args.links.now k inside c.requires.before)

pub renumber-requires-clause-after : goal.renumber-requires-clause-after
renumber-requires-clause-after c =
    let k : ℕ = c.loop-link.link-index in
    let inside : k < length c.args.links.now = omega arith in
    known_in c.args.parents.now c.args.numbers.now (get_or c.args.links.now k no_link).after c.requires.numbers
    (after_known c.args.parents.now c.args.links.now k inside c.requires.after)

pub loop-link-preserved : goal.loop-link-preserved
loop-link-preserved c =
    let k : ℕ = c.loop-link.link-index in
    let inside : k < length c.args.links.now = omega arith in
    let link : Link = get_or c.args.links.now k no_link in
    let same : c.renumber.result ≡ numbered c.args.parents.now link = c.renumber.ensures
    ∙ numbered_by c.args.parents.now c.args.numbers.now link c.requires.numbers (before_known c.args.parents.now c.args.links.now k inside c.requires.before)
    (after_known c.args.parents.now c.args.links.now k inside c.requires.after) in
    c.in_ok-push.ensures.items
    ∙ ap (λ (made : List Link). made ++ c.renumber.result ∷ []) c.loop-link.invariant
    ∙ ap (λ (last : Link). map (numbered c.args.parents.now) (take k c.args.links.now) ++ last ∷ []) same
    ∙ sym (map_more (numbered c.args.parents.now) c.args.links.now k no_link inside)
