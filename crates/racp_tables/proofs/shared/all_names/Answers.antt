use Rattle.std.proofs.Common.{◌∙◌, ◌+◌, ◌<◌, ℕ, List, ap, sym, length, drop, get_or, map, string_bytes, arith}
use Rattle.std.specs.Global.{Global}
use Rattle.std.specs.List.{flat_map}
use Rattle.std.proofs.lemmas.List.{drop_more}
use Rattle.racp_tables.specs.declared.part.Part.{Part}
use Rattle.racp_tables.specs.Joined.{own_names, with_names}
use Rattle.racp_tables.proofs.Tables.{with_both}
use Rattle.racp_tables.proofs.shared.all_names.Goals as goal

pub loop-part-preserved : goal.loop-part-preserved
loop-part-preserved c =
    let k : ℕ = c.loop-part.part-index in
    let part : Part = c.part-item.result in
    let names : List (List ℕ) = map (string_bytes {Z = Global}) c.loop-part.names.items in
    let rest : List (List ℕ) = flat_map own_names (drop (k + 1) c.args.parts.now) in
    let inside : k < length c.args.parts.now = omega arith in
    ap (λ (list : List (List ℕ)). with_names list rest) c.in_ok-push_names.ensures
    ∙ ap (λ (list : List (List ℕ)). with_names (with_names names list) rest) (ap (map (string_bytes {Z = Global})) c.deref.ensures.value ∙ ap own_names c.part-item.is)
    ∙ sym (with_both names (own_names (get_or c.args.parts.now k part)) rest)
    ∙ ap (λ (list : List Part). with_names names (flat_map own_names list)) (sym (drop_more c.args.parts.now k part inside))
    ∙ c.loop-part.invariant
