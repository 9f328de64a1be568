use Rattle.std.proofs.Common.{ℕ, ◌≤◌, List, Option, slice_index, arith, ap, sym, subst}
use Rattle.std.proofs.lemmas.List.Elements.{All-from_get_or}
use Rattle.racp_model.specs.Limits.{most_start}
use Rattle.racp_model.specs.Path.{IsLate}
use Rattle.racp_model.specs.Window.{Bounds}
use Rattle.racp_cpm.specs.Ends.{IsLateAnswer}
use Rattle.racp_cpm.proofs.root_window.window_above.Goals as goal

pub returns : goal.returns
returns c =
    let late : IsLate c.args.net.now (slice_index c.args.due.now) c.in-Some.upper = subst (λ (o : Option (List ℕ)). IsLateAnswer c.args.net.now (slice_index c.args.due.now) o) c.in-Some.is c.in_ok-upper.ensures in
    (ap (λ (w : Bounds). w.lower) c.new.ensures, subst (λ (w : Bounds). IsLate c.args.net.now (slice_index c.args.due.now) w.upper) (sym c.new.ensures) late)

pub new-requires-clause-upper : goal.new-requires-clause-upper
new-requires-clause-upper c =
    let late : IsLate c.args.net.now (slice_index c.args.due.now) c.in-Some.upper = subst (λ (o : Option (List ℕ)). IsLateAnswer c.args.net.now (slice_index c.args.due.now) o) c.in-Some.is c.in_ok-upper.ensures in
    All-from_get_or (λ (x : ℕ). x ≤ most_start) c.in-Some.upper 0 (λ i l. omega (arith, l, late.places, late.ends i, c.requires.due_places, c.requires.due_small i 0))
