use Rattle.std.proofs.Common.{ℕ, List, ap, sym, subst, length, map, string_bytes, arith}
use Rattle.std.specs.Global.{Global}
use Rattle.std.proofs.lemmas.List.{length_push}
use Rattle.racp_tables.specs.Outlines.{IsPartById}
use Rattle.racp_tables.proofs.Parts.{each_more}
use Rattle.racp_tables.proofs.outline.parents_by_id.Goals as goal

pub loop-place-preserved : goal.loop-place-preserved
loop-place-preserved c =
    let ids : List (List ℕ) = map (string_bytes {Z = Global}) c.args.ids.now in
    let here : IsPartById ids c.loop-place.place c.in_ok-parent.parent =
    subst (IsPartById ids c.loop-place.place) (sym c.in_ok-parent.ensures) c.whole_by_id.ensures in
    record {
      count = omega (arith, ap length c.in_ok-push.ensures.items, length_push c.loop-place.parents.items c.in_ok-parent.parent, c.loop-place.invariant.count);
      each = each_more (IsPartById ids) c.loop-place.parents.items c.push.new.self.items c.loop-place.place c.in_ok-parent.parent c.loop-place.invariant.count
          c.loop-place.invariant.each here c.in_ok-push.ensures.items;
    }
