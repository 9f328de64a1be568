use Rattle.std.proofs.Common.{◌≡◌, ◌∙◌, sym, ap, true, rules}
use Rattle.racp_tables.specs.Amounts.{one_marked}
use Rattle.racp_tables.specs.Pieces.{between}
use Rattle.racp_tables.proofs.Groups.{grouped_is}
use Rattle.racp_tables.proofs.amount.in_threes.Goals as goal

pub returns : goal.returns
returns c =
    let yes : c.are_threes.result ≡ true = search rules in
    let threes = rw c.deref.ensures.value at c.are_threes.ensures in
    let flat = rw c.deref-2.ensures.value at c.in_ok-digits.ensures.ok in
    grouped_is c.in_ok-groups.groups.items (between 39 (one_marked c.args.word.now)) c.as_str-2.result.now c.whole_or_nothing.result
    (c.in_ok-groups.ensures ∙ ap (between 39) (c.as_str.ensures.value ∙ c.in_ok-marked.ensures))
    (sym threes ∙ yes) (c.as_str-2.ensures.value ∙ flat) c.whole_or_nothing.ensures
