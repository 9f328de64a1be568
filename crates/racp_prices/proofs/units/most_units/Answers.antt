use Rattle.std.proofs.Common.{◌≡◌, ◌∙◌, ℕ, List, ap, arith, length, min, rules, slice_index, subst, sym, Option, Some, None, IfSome}
use Rattle.std.specs.Prelude.{option_map}
use Rattle.std.proofs.lemmas.List.{get_or_read_under}
use Rattle.racp_model.specs.Schedule.{roof}
use Rattle.racp_model.specs.Terms.{Terms}
use Rattle.racp_model.proofs.lemmas.Lists.{each-push}
use Rattle.racp_prices.specs.Units.{cut_to}
use Rattle.racp_prices.proofs.units.most_units.Goals as goal
use Rattle.racp_prices.proofs.units.most_units.Goals.{in-Some, in-None}

pub loop-k-preserved : goal.loop-k-preserved
loop-k-preserved c =
    let net = c.args.net.now in
    let terms = c.args.order.now in
    let k : ℕ = c.loop-k.k in
    let cut : c.match-order.push ≡ cut_to terms.ceilings k (roof net k) = elim c.match-order.branch [
      | in-Some w ↦
          let given : List ℕ = w.in-Some.ceilings.items in
          let some : Some given ≡ terms.ceilings = ap (option_map (λ v. v.items)) (sym w.in-Some.is) ∙ ap (λ (t : Terms). t.ceilings) c.order.view_is in
          let places : length given ≡ net.resources = subst (λ o. IfSome o (λ xs. length xs ≡ net.resources)) (sym some) c.requires.ceiling_places in
          let at : w.index.result.now ≡ slice_index given k = get_or_read_under given k net.resources w.index.result.now 0 w.index.ensures (omega (arith, c.loop-k-test.true, c.resource_count-k-end.ensures.count)) (sym places) in
          let both : w.min.result ≡ min (roof net k) (slice_index given k) = grind (arith, w.min.ensures, c.roof_of-roof.ensures, at) in
          w.push-is ∙ (both ∙ ap (λ (o : Option (List ℕ)). cut_to o k (roof net k)) some)
      | in-None w ↦
          let none : None ≡ terms.ceilings = ap (option_map (λ v. v.items)) (sym w.in-None.is) ∙ ap (λ (t : Terms). t.ceilings) c.order.view_is in
          w.push-is ∙ (c.roof_of-roof.ensures ∙ ap (λ (o : Option (List ℕ)). cut_to o k (roof net k)) none)
    ] in
    record {
      places = search rules;
      each = each-push (λ q most. most ≡ cut_to terms.ceilings q (roof net q)) c.loop-k.units.items c.push.new.self.items c.match-order.push k c.loop-k.invariant.places c.in_ok-push.ensures.items c.loop-k.invariant.each cut;
    }
