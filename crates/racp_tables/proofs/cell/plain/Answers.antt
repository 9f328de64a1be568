use Rattle.std.proofs.Common.{rules, tests}
use Rattle.std.proofs.lemmas.Iterator.{YieldsList-from_chars, YieldsList-from_map, text_from_collect}
use Rattle.racp_tables.proofs.cell.plain.Goals as goal

pub returns : goal.returns
returns c = text_from_collect _ c.collect.ensures.ran (YieldsList-from_map _ _ (YieldsList-from_chars c.args.text.now (search rules) cc) c.map.ensures.closure (λ x r q k. search (rules, tests)))
