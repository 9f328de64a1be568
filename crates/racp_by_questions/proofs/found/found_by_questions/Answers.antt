use Rattle.std.proofs.Common.{◌≡◌, ◌∙◌, ◌+◌, ◌-◌, ◌<◌, ℕ, Option, length, arith, rules, ap, sym, subst}
use Rattle.std.specs.Prelude.{MatchOption}
use Rattle.std.proofs.lemmas.Result.{err_from_is_err_and}
use Rattle.racp_bounds.specs.Sharp.{pair_count}
use Rattle.racp_by_questions.specs.declared.bounds.Ends.{Ends}
use Rattle.racp_by_questions.specs.Stops.{ceiling_series, IsStoppedAt, IsPlanStop}
use Rattle.racp_bounds.proofs.lemmas.Sharpened.{admitting_yes}
use Rattle.racp_model.specs.Terms.{cost, due_of, release_of}
use Rattle.racp_found.specs.declared.observer.News.TheVariants.{Cost}
use Rattle.racp_found.specs.Told.{IsLeastOfEnough}
use Rattle.racp_by_questions.specs.Enough.{AreGreater}
use Rattle.racp_by_questions.specs.Stages.{IsBounded, IsStoppedInBox}
use Rattle.racp_by_questions.specs.declared.stop.PlanStop.{PlanStop}
use Rattle.racp_by_questions.proofs.Staging.{ends_with, told_too, stopped_in_box, stopped_behind, unsharpened, planned}
use Rattle.racp_by_questions.proofs.Raising.{raised-floors, raised-above}
use Rattle.racp_by_questions.proofs.Telling.{first_cost, first_floors, reached_floors, reached_news, sharp_are_floors}
use Rattle.racp_by_questions.proofs.found.found_by_questions.Goals as goal

pub returns-in-Err-clause-stop : goal.returns-in-Err-clause-stop
returns-in-Err-clause-stop g c =
    let begun = g.A.Asker.answered c.args.asker.now in
    let middle = g.A.Asker.answered c.floors_and_roofs.new.asker in
    let answered = g.A.Asker.answered c.sharpen.new.asker - begun in
    let told = g.A.Asker.told c.sharpen.new.asker in
    let may_stop = g.A.Asker.may_stop c.sharpen.new.asker in
    let may_want_thread = g.A.Asker.may_want_thread c.sharpen.new.asker in
    let bounded = subst (λ (o : Option (Ends)). IsBounded c.args.task.now.net.now c.args.task.now.order.now c.args.task.now.root.now (middle - begun) o) c.in-Some.is c.in_ok-ends.ensures.bounded in
    let counted : answered ≡ ceiling_series c.args.task.now.order.now + (g.A.Asker.answered c.sharpen.new.asker - middle) =
    omega (arith, bounded.1, c.floors_and_roofs.ensures.no_fewer, c.sharpen.ensures.no_fewer) in
    subst (λ (stop : PlanStop). IsPlanStop (IsStoppedAt c.args.task.now.net.now c.args.task.now.order.now answered told) may_stop may_want_thread stop) (sym c.given_up.ensures)
    (unsharpened c.args.task.now.net.now c.args.task.now.order.now c.args.task.now.root.now c.args.task.now.terms c.args.task.now.root_is c.in-Some.ends.floors c.in-Some.ends.roofs bounded.0 (g.A.Asker.answered c.sharpen.new.asker - middle) answered told
    may_stop may_want_thread (c.in-Err.reached, c.in-Err.stop) c.raised-floors.result counted c.in-Err.ensures.refusal
    (raised-floors (λ f. f.now) c.args.task.now.net.now c.args.task.now.order.now c.in-Err.reached c.raised-floors.result c.args.known c.raised-floors.ensures c.requires.known
    (reached_floors c.args.task.now.net.now c.args.task.now.order.now c.args.task.now.root.now c.in-Some.ends.floors c.in-Some.ends.roofs c.args.task.now.terms c.args.task.now.root_is bounded.0.lowest bounded.0.most (g.A.Asker.answered c.sharpen.new.asker - middle) c.in-Err.reached c.in-Err.ensures.refusal.reached))
    (raised-above (λ f. f.now) c.args.task.now.net.now c.args.task.now.order.now c.in-Err.reached c.raised-floors.result c.args.known c.raised-floors.ensures c.in-Err.ensures.refusal.reached.places))

pub returns-in-Ok-least_starts-clause-found : goal.returns-in-Ok-least_starts-clause-found
returns-in-Ok-least_starts-clause-found g c =
    planned c.args.task.now.net.now c.args.task.now.order.now c.args.task.now.root.now c.args.task.now.terms c.args.task.now.root_is c.in_ok-capacities.capacities c.in-Ok-least_starts.starts c.in_ok-capacities.ensures.cheapest.0 c.in-Ok-least_starts.ensures.least

pub returns-in_err-capacities-clause-stop : goal.returns-in_err-capacities-clause-stop
returns-in_err-capacities-clause-stop g c =
    let begun = g.A.Asker.answered c.args.asker.now in
    let middle = g.A.Asker.answered c.floors_and_roofs.new.asker in
    let later = g.A.Asker.answered c.sharpen.new.asker in
    let ended = g.A.Asker.answered c.cheapest.new.asker in
    let told = g.A.Asker.told c.cheapest.new.asker in
    let bounded = subst (λ (o : Option (Ends)). IsBounded c.args.task.now.net.now c.args.task.now.order.now c.args.task.now.root.now (middle - begun) o) c.in-Some.is c.in_ok-ends.ensures.bounded in
    let p = err_from_is_err_and c.from_residual-in_err-capacities.result c.from_residual-in_err-capacities.ensures.1 in
    rw (p.1, p.2)
    (told_too (IsStoppedInBox c.args.task.now.net.now c.args.task.now.order.now c.in-Ok.sharp.floors told) (IsStoppedAt c.args.task.now.net.now c.args.task.now.order.now (ended - begun) told)
    (g.A.Asker.may_stop c.cheapest.new.asker) (g.A.Asker.may_want_thread c.cheapest.new.asker) (ended ≡ later) c.in_err-capacities.field-0.0
    (λ same capacities is.
    let counted : ended - begun ≡ ceiling_series c.args.task.now.order.now + c.args.task.now.net.now.resources + pair_count c.args.task.now.net.now.resources =
    omega (arith, same, bounded.1, c.floors_and_roofs.ensures.no_fewer, c.in-Ok.ensures.answered) in
    stopped_in_box c.args.task.now.net.now c.args.task.now.order.now c.args.task.now.root.now c.args.task.now.terms c.args.task.now.root_is c.in-Some.ends.floors c.in-Some.ends.roofs bounded.0 (ended - begun) told capacities c.in-Ok.sharp.floors counted
    c.in-Ok.ensures.sharp.sharpened is)
    c.in_err-capacities.ensures.cheapest)

pub returns-clause-stop : goal.returns-clause-stop
returns-clause-stop g c =
    let begun = g.A.Asker.answered c.args.asker.now in
    let middle = g.A.Asker.answered c.floors_and_roofs.new.asker in
    let ended = g.A.Asker.answered c.least_starts.new.asker in
    let told = g.A.Asker.told c.least_starts.new.asker in
    let may_stop = g.A.Asker.may_stop c.least_starts.new.asker in
    let may_want_thread = g.A.Asker.may_want_thread c.least_starts.new.asker in
    let bounded = subst (λ (o : Option (Ends)). IsBounded c.args.task.now.net.now c.args.task.now.order.now c.args.task.now.root.now (middle - begun) o) c.in-Some.is c.in_ok-ends.ensures.bounded in
    let counted : ceiling_series c.args.task.now.order.now + c.args.task.now.net.now.resources + pair_count c.args.task.now.net.now.resources < ended - begun =
    omega (arith, bounded.1, c.floors_and_roofs.ensures.no_fewer, c.in-Ok.ensures.answered, c.in_ok-capacities.ensures.cheapest.1, c.least_starts.ensures.no_fewer) in
    let IsTold = IsStoppedAt c.args.task.now.net.now c.args.task.now.order.now (ended - begun) told in
    subst (λ (stop : PlanStop). IsPlanStop IsTold may_stop may_want_thread stop) (sym c.given_up-in-Err-least_starts.ensures)
    (ends_with IsTold may_stop may_want_thread c.in-Err-least_starts.stop c.in_ok-capacities.capacities c.in-Err-least_starts.ensures.stop
    (stopped_behind c.args.task.now.net.now c.args.task.now.order.now c.args.task.now.root.now c.args.task.now.terms c.args.task.now.root_is c.in-Some.ends.floors c.in-Some.ends.roofs bounded.0 (ended - begun) told c.in_ok-capacities.capacities counted
    c.in_ok-capacities.ensures.cheapest.0))

pub sharpen-requires-clause-heard : goal.sharpen-requires-clause-heard
sharpen-requires-clause-heard g c = λ n news are.
    let bounded = subst (λ (o : Option (Ends)). IsBounded c.args.task.now.net.now c.args.task.now.order.now c.args.task.now.root.now (g.A.Asker.answered c.floors_and_roofs.new.asker - g.A.Asker.answered c.args.asker.now) o) c.in-Some.is c.in_ok-ends.ensures.bounded in
    c.requires.heard news
    (reached_news c.args.task.now.net.now c.args.task.now.order.now c.args.task.now.root.now c.in-Some.ends.floors c.in-Some.ends.roofs c.args.task.now.terms c.args.task.now.root_is bounded.0.lowest bounded.0.most n news are)

pub tell_floors-requires-clause-floors : goal.tell_floors-requires-clause-floors
tell_floors-requires-clause-floors g c =
    let bounded = subst (λ (o : Option (Ends)). IsBounded c.args.task.now.net.now c.args.task.now.order.now c.args.task.now.root.now (g.A.Asker.answered c.floors_and_roofs.new.asker - g.A.Asker.answered c.args.asker.now) o) c.in-Some.is c.in_ok-ends.ensures.bounded in
    first_floors c.args.task.now.net.now c.args.task.now.order.now c.args.task.now.root.now c.in-Some.ends.floors c.in-Some.ends.roofs c.args.task.now.terms c.args.task.now.root_is bounded.0.lowest bounded.0.most

pub tell_floors-requires-in-Err-clause-floors : goal.tell_floors-requires-in-Err-clause-floors
tell_floors-requires-in-Err-clause-floors g c =
    let bounded = subst (λ (o : Option (Ends)). IsBounded c.args.task.now.net.now c.args.task.now.order.now c.args.task.now.root.now (g.A.Asker.answered c.floors_and_roofs.new.asker - g.A.Asker.answered c.args.asker.now) o) c.in-Some.is c.in_ok-ends.ensures.bounded in
    let are_raised : MatchOption c.args.known (c.raised-floors.result ≡ c.in-Err.reached) (λ known. AreGreater c.in-Err.reached known.now c.raised-floors.result) = search rules in
    raised-floors (λ f. f.now) c.args.task.now.net.now c.args.task.now.order.now c.in-Err.reached c.raised-floors.result c.args.known are_raised c.requires.known
    (reached_floors c.args.task.now.net.now c.args.task.now.order.now c.args.task.now.root.now c.in-Some.ends.floors c.in-Some.ends.roofs c.args.task.now.terms c.args.task.now.root_is bounded.0.lowest bounded.0.most (g.A.Asker.answered c.sharpen.new.asker - g.A.Asker.answered c.floors_and_roofs.new.asker) c.in-Err.reached c.in-Err.ensures.refusal.reached)

pub tell_floors-requires-2-clause-floors : goal.tell_floors-requires-2-clause-floors
tell_floors-requires-2-clause-floors g c =
    let bounded = subst (λ (o : Option (Ends)). IsBounded c.args.task.now.net.now c.args.task.now.order.now c.args.task.now.root.now (g.A.Asker.answered c.floors_and_roofs.new.asker - g.A.Asker.answered c.args.asker.now) o) c.in-Some.is c.in_ok-ends.ensures.bounded in
    sharp_are_floors c.args.task.now.net.now c.args.task.now.order.now c.args.task.now.root.now c.in-Some.ends.floors c.in-Some.ends.roofs c.args.task.now.terms c.args.task.now.root_is bounded.0.lowest bounded.0.most c.in-Ok.sharp c.in-Ok.ensures.sharp

pub hear-requires : goal.hear-requires
hear-requires g c =
    let priced : c.cost_of.result ≡ cost c.args.task.now.order.now c.in_ok-capacities.capacities = cc (c.cost_of.ensures, c.as_slice.ensures) in
    c.requires.heard (Cost c.cost_of.result)
    (subst (λ (x : ℕ). IsLeastOfEnough c.args.task.now.net.now c.args.task.now.order.now x) (sym priced) (first_cost c.args.task.now.net.now c.args.task.now.order.now c.in_ok-capacities.capacities c.in_ok-capacities.ensures.cheapest.0))

pub least_starts-requires-clause-yes : goal.least_starts-requires-clause-yes
least_starts-requires-clause-yes g c =
    admitting_yes c.args.task.now.net.now (release_of c.args.task.now.order.now) (due_of c.args.task.now.order.now) c.args.task.now.root.now c.in_ok-capacities.capacities c.args.task.now.root_is c.in_ok-capacities.ensures.cheapest.0.is.admits

pub cheapest-requires-clause-known : goal.cheapest-requires-clause-known
cheapest-requires-clause-known g c =
    let begun = g.A.Asker.answered c.args.asker.now in
    let middle = g.A.Asker.answered c.floors_and_roofs.new.asker in
    let bounded = subst (λ (o : Option (Ends)). IsBounded c.args.task.now.net.now c.args.task.now.order.now c.args.task.now.root.now (middle - begun) o) c.in-Some.is c.in_ok-ends.ensures.bounded in
    record {
      terms = c.args.task.now.terms;
      root = c.args.task.now.root_is;
      sharp = record { first = c.in-Some.ends.floors; ends = bounded.0; sharp_are = c.in-Ok.ensures.sharp };
    }

pub floors_and_roofs-requires-clause-named : goal.floors_and_roofs-requires-clause-named
floors_and_roofs-requires-clause-named g c = c.requires.named

pub returns-in_err-ends-clause-network : goal.returns-in_err-ends-clause-network
returns-in_err-ends-clause-network g c = c.floors_and_roofs.ensures.network

pub returns-in_err-ends-clause-found : goal.returns-in_err-ends-clause-found
returns-in_err-ends-clause-found g c = rw ((err_from_is_err_and c.from_residual.result c.from_residual.ensures.1).1) tt

pub returns-in_err-ends-clause-stop : goal.returns-in_err-ends-clause-stop
returns-in_err-ends-clause-stop g c =
    let p = err_from_is_err_and c.from_residual.result c.from_residual.ensures.1 in
    rw (p.1, p.2) c.in_err-ends.ensures.stop

pub returns-in_default-clause-network : goal.returns-in_default-clause-network
returns-in_default-clause-network g c = c.floors_and_roofs.ensures.network

pub returns-in_default-clause-found : goal.returns-in_default-clause-found
returns-in_default-clause-found g c = subst (λ (o : Option (Ends)). IsBounded c.args.task.now.net.now c.args.task.now.order.now c.args.task.now.root.now (g.A.Asker.answered c.floors_and_roofs.new.asker - g.A.Asker.answered c.args.asker.now) o) c.in_default.is c.in_ok-ends.ensures.bounded

pub returns-in_default-clause-stop : goal.returns-in_default-clause-stop
returns-in_default-clause-stop g c = tt

pub sharpen-requires-clause-named : goal.sharpen-requires-clause-named
sharpen-requires-clause-named g c = c.floors_and_roofs.ensures.network

pub sharpen-requires-clause-root : goal.sharpen-requires-clause-root
sharpen-requires-clause-root g c = record { lower = c.args.task.now.root_is.early.places; upper = c.args.task.now.root_is.late.places }

pub sharpen-requires-clause-floors : goal.sharpen-requires-clause-floors
sharpen-requires-clause-floors g c =
    let bounded = subst (λ (o : Option (Ends)). IsBounded c.args.task.now.net.now c.args.task.now.order.now c.args.task.now.root.now (g.A.Asker.answered c.floors_and_roofs.new.asker - g.A.Asker.answered c.args.asker.now) o) c.in-Some.is c.in_ok-ends.ensures.bounded in
    bounded.0.lowest.places

pub sharpen-requires-clause-roofs : goal.sharpen-requires-clause-roofs
sharpen-requires-clause-roofs g c =
    let bounded = subst (λ (o : Option (Ends)). IsBounded c.args.task.now.net.now c.args.task.now.order.now c.args.task.now.root.now (g.A.Asker.answered c.floors_and_roofs.new.asker - g.A.Asker.answered c.args.asker.now) o) c.in-Some.is c.in_ok-ends.ensures.bounded in
    bounded.0.most.places

pub sharpen-requires-clause-bounds : goal.sharpen-requires-clause-bounds
sharpen-requires-clause-bounds g c =
    let bounded = subst (λ (o : Option (Ends)). IsBounded c.args.task.now.net.now c.args.task.now.order.now c.args.task.now.root.now (g.A.Asker.answered c.floors_and_roofs.new.asker - g.A.Asker.answered c.args.asker.now) o) c.in-Some.is c.in_ok-ends.ensures.bounded in
    bounded.0.bounds

pub sharpen-requires-clause-admits : goal.sharpen-requires-clause-admits
sharpen-requires-clause-admits g c =
    let bounded = subst (λ (o : Option (Ends)). IsBounded c.args.task.now.net.now c.args.task.now.order.now c.args.task.now.root.now (g.A.Asker.answered c.floors_and_roofs.new.asker - g.A.Asker.answered c.args.asker.now) o) c.in-Some.is c.in_ok-ends.ensures.bounded in
    bounded.0.yes

pub given_up-requires : goal.given_up-requires
given_up-requires g c = tt

pub returns-in-Err-clause-network : goal.returns-in-Err-clause-network
returns-in-Err-clause-network g c = c.sharpen.ensures.network

pub returns-in-Err-clause-found : goal.returns-in-Err-clause-found
returns-in-Err-clause-found g c = tt

pub keep-requires : goal.keep-requires
keep-requires g c = tt

pub returns-in_err-keep-clause-network : goal.returns-in_err-keep-clause-network
returns-in_err-keep-clause-network g c = c.sharpen.ensures.network

pub returns-in_err-keep-clause-found : goal.returns-in_err-keep-clause-found
returns-in_err-keep-clause-found g c = rw ((err_from_is_err_and c.from_residual-in_err-keep.result c.from_residual-in_err-keep.ensures.1).1) tt

pub returns-in_err-keep-clause-stop : goal.returns-in_err-keep-clause-stop
returns-in_err-keep-clause-stop g c =
    let p = err_from_is_err_and c.from_residual-in_err-keep.result c.from_residual-in_err-keep.ensures.1 in
    rw (p.1, p.2) tt

pub cheapest-requires-clause-named : goal.cheapest-requires-clause-named
cheapest-requires-clause-named g c = c.sharpen.ensures.network

pub returns-in_err-capacities-clause-network : goal.returns-in_err-capacities-clause-network
returns-in_err-capacities-clause-network g c = c.cheapest.ensures.network

pub returns-in_err-capacities-clause-found : goal.returns-in_err-capacities-clause-found
returns-in_err-capacities-clause-found g c = rw ((err_from_is_err_and c.from_residual-in_err-capacities.result c.from_residual-in_err-capacities.ensures.1).1) tt

pub as_slice-requires : goal.as_slice-requires
as_slice-requires g c = tt

pub cost_of-requires-clause-terms : goal.cost_of-requires-clause-terms
cost_of-requires-clause-terms g c = c.args.task.now.terms

pub cost_of-requires-clause-capacities : goal.cost_of-requires-clause-capacities
cost_of-requires-clause-capacities g c = ap length c.as_slice.ensures ∙ c.in_ok-capacities.ensures.cheapest.0.is.places

pub least_starts-requires-clause-named : goal.least_starts-requires-clause-named
least_starts-requires-clause-named g c = c.cheapest.ensures.network

pub least_starts-requires-clause-capacities : goal.least_starts-requires-clause-capacities
least_starts-requires-clause-capacities g c = c.in_ok-capacities.ensures.cheapest.0.is.places

pub least_starts-requires-clause-root : goal.least_starts-requires-clause-root
least_starts-requires-clause-root g c = record { lower = c.args.task.now.root_is.early.places; upper = c.args.task.now.root_is.late.places }

pub returns-in-Ok-least_starts-clause-network : goal.returns-in-Ok-least_starts-clause-network
returns-in-Ok-least_starts-clause-network g c = c.least_starts.ensures.network

pub returns-in-Ok-least_starts-clause-stop : goal.returns-in-Ok-least_starts-clause-stop
returns-in-Ok-least_starts-clause-stop g c = tt

pub given_up-requires-in-Err-least_starts : goal.given_up-requires-in-Err-least_starts
given_up-requires-in-Err-least_starts g c = tt

pub returns-clause-network : goal.returns-clause-network
returns-clause-network g c = c.least_starts.ensures.network

pub returns-clause-found : goal.returns-clause-found
returns-clause-found g c = tt
