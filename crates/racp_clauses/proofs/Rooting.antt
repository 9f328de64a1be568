-- The root bounds of an order leave nothing out, and those of tighter terms lie within.
use Rattle.std.proofs.Common.{◌≡◌, ◌∙◌, ℕ, ◌+◌, ◌-◌, ◌*◌, ◌<◌, ◌≤◌, List, length, slice_index, slice_index_or, Option, Some, None, arith, ap, refl, sym, subst}
use Rattle.std.proofs.Math.Nat.{mul-le-mul_left}
use Rattle.std.proofs.lemmas.Nat.{mul-le}
use Rattle.std.proofs.lemmas.List.{get_or_default}
use Rattle.racp_model.specs.Project.{Project, IsSound, request}
use Rattle.racp_model.specs.Schedule.{roof, sum_below}
use Rattle.racp_model.specs.Terms.{Terms, AreTermsOf, release_of, due_of, cost}
use Rattle.racp_model.specs.Window.{Bounds, IsRootWindow}
use Rattle.racp_model.proofs.lemmas.Sums.{sum_below-mono, sum_below-bound, request-small}
use Rattle.racp_prices.specs.Units.{cut_to, AreMostUnits}
use Rattle.racp_clauses.specs.Solutions.{Problem, IsSchedule, IsWithin, HasPlaces, units_place, cost_place, values}
use Rattle.racp_clauses.specs.Clauses.{SatisfiesSome, Holds}
use Rattle.racp_clauses.specs.Roots.{AreNeeded, IsOpen, IsRootOf, IsPartOf, IsTighter, LieWithin}
use Rattle.racp_clauses.specs.Uses.{TighterIsPart, HoldsOfParts}
use Rattle.racp_clauses.proofs.lemmas.Places.{each_place, value-start, value-units, value-cost, value-count, value-same, cost-same}

-- other units cost no more where there are no more of each
pub cost-mono : (p : Project) (terms : Terms) (less more : List ℕ) → length terms.prices ≡ p.resources → ((k : ℕ) → k < p.resources → slice_index less k ≤ slice_index more k) → cost terms less ≤ cost terms more
cost-mono p terms less more places within =
    sum_below-mono (length terms.prices) (λ k. slice_index terms.prices k * (slice_index less k - slice_index terms.owned k)) (λ k. slice_index terms.prices k * (slice_index more k - slice_index terms.owned k))
    (λ k l.
    let fewer : slice_index less k - slice_index terms.owned k ≤ slice_index more k - slice_index terms.owned k = omega (arith, within k (omega (arith, l, places))) in
    mul-le-mul_left {m = slice_index less k - slice_index terms.owned k} {n = slice_index more k - slice_index terms.owned k} (slice_index terms.prices k) fewer)

-- what is cut to a ceiling is not more
pub cut-top : (ceilings : Option (List ℕ)) (k x : ℕ) → cut_to ceilings k x ≤ x
cut-top None k x = omega arith
cut-top (Some most) k x = omega arith

-- units within the roofs are few
module _ (p : Project) (terms : Terms) (units : List ℕ) (sound : IsSound p) (places : length units ≡ p.resources) (within : (k : ℕ) → k < p.resources → slice_index units k ≤ roof p k) where
  pub units-few : (k : ℕ) → k < p.resources → slice_index units k ≤ 5120000
  units-few k l = omega (arith, within k l, sound.limits.most_jobs, sum_below-bound (length p.jobs) 10000 (λ i. request p i k) (λ i m. request-small p i k sound m l))

  pub units-small : (k d : ℕ) → k < length units → slice_index_or units k d ≤ 100000000000000
  units-small k d l = omega (arith, get_or_default units k d 0 l, units-few k (omega (arith, l, places)))

  -- and so is what they cost
  pub cost-small : AreTermsOf p terms → cost terms units ≤ 100000000000000
  cost-small t =
      omega (
        arith,
        t.price_places,
        sound.limits.most_resources,
        sum_below-bound (length terms.prices) 5120000000000 (λ k. slice_index terms.prices k * (slice_index units k - slice_index terms.owned k)) (λ k l.
            mul-le (slice_index terms.prices k) (slice_index units k - slice_index terms.owned k) 1000000 5120000 (t.prices k 0 l) (omega (arith, units-few k (omega (arith, l, t.price_places))))),
      )

-- the most units are within the roofs
pub most-within : (p : Project) (terms : Terms) (units : List ℕ) → AreMostUnits p terms units → (k : ℕ) → k < p.resources → slice_index units k ≤ roof p k
most-within p terms units are k l = omega (arith, are.each k l, cut-top terms.ceilings k (roof p k))

module _ (p : Project) (terms : Terms) (window : Bounds) (floors : List ℕ) (root : Bounds) (t : length terms.prices ≡ p.resources) (h : IsRootWindow p (release_of terms) (due_of terms) window)
    (f : length floors ≡ p.resources) (r : IsRootOf p terms window floors root) where
  pub lower-start : (i : ℕ) → i < length p.jobs → slice_index root.lower i ≡ slice_index window.lower i
  lower-start i l = ap (λ (xs : List ℕ). slice_index xs i) r.lower ∙ value-start p terms window.lower floors h.early.places f i l

  pub upper-start : (i : ℕ) → i < length p.jobs → slice_index root.upper i ≡ slice_index window.upper i
  upper-start i l = ap (λ (xs : List ℕ). slice_index xs i) r.most.2 ∙ value-start p terms window.upper r.most.0 h.late.places r.most.1.places i l

  pub lower-units : (k : ℕ) → k < p.resources → slice_index root.lower (units_place p k) ≡ slice_index floors k
  lower-units k l = ap (λ (xs : List ℕ). slice_index xs (units_place p k)) r.lower ∙ value-units p terms window.lower floors h.early.places f k l

  pub upper-units : (k : ℕ) → k < p.resources → slice_index root.upper (units_place p k) ≡ cut_to terms.ceilings k (roof p k)
  upper-units k l = ap (λ (xs : List ℕ). slice_index xs (units_place p k)) r.most.2 ∙ (value-units p terms window.upper r.most.0 h.late.places r.most.1.places k l ∙ r.most.1.each k l)

  pub lower-cost : slice_index root.lower (cost_place p) ≡ cost terms floors
  lower-cost = ap (λ (xs : List ℕ). slice_index xs (cost_place p)) r.lower ∙ value-cost p terms window.lower floors h.early.places f

  pub upper-cost : slice_index root.upper (cost_place p) ≡ cost terms r.most.0
  upper-cost = ap (λ (xs : List ℕ). slice_index xs (cost_place p)) r.most.2 ∙ value-cost p terms window.upper r.most.0 h.late.places r.most.1.places

  pub root-places : HasPlaces p root
  root-places = record {
    lower = ap (λ (xs : List ℕ). length xs) r.lower ∙ value-count p terms window.lower floors h.early.places f;
    upper = ap (λ (xs : List ℕ). length xs) r.most.2 ∙ value-count p terms window.upper r.most.0 h.late.places r.most.1.places;
  }

pub root-open : (p : Project) (terms : Terms) (window : Bounds) (floors : List ℕ) (root : Bounds) → AreTermsOf p terms → IsRootWindow p (release_of terms) (due_of terms) window → AreNeeded p terms floors →
    IsRootOf p terms window floors root → IsOpen (record { network = p; terms = terms; root = root })
root-open p terms window floors root t h needed r =
    let f = needed.places in
    let prices = t.price_places in
    record {
      terms = t;
      places = root-places p terms window floors root prices h f r;
      starts = λ starts places precedence in_time. record {
        places = places;
        above = λ i l. omega (arith, lower-start p terms window floors root prices h f r i l, h.early.least starts in_time.released precedence i l);
        below = λ i l. omega (arith, upper-start p terms window floors root prices h f r i l, h.late.greatest starts in_time.ends precedence i l);
      };
      least_units = λ capacities e k l. omega (arith, lower-units p terms window floors root prices h f r k l, needed.least capacities e k l);
      most_units = λ k l. omega (arith, upper-units p terms window floors root prices h f r k l);
      least_cost = λ capacities e. omega (arith, lower-cost p terms window floors root prices h f r, cost-mono p terms floors capacities prices (λ k l. needed.least capacities e k l));
      most_cost = λ capacities places within.
          omega (arith, upper-cost p terms window floors root prices h f r, cost-mono p terms capacities r.most.0 prices (λ k l. omega (arith, within k l, r.most.1.each k l)));
    }

-- an order under tighter terms is part of what it was
pub tighter-part : TighterIsPart
tighter-part p tight wide tw ww tf wf tr wr is th wh wplaces tplaces wprices floors r s =
    let tprices : length tight.prices ≡ p.resources = ap (λ (xs : List ℕ). length xs) is.prices ∙ wprices in
    let places : length tr.lower ≡ length wr.lower = (root-places p tight tw tf tr tprices th tplaces r).lower ∙ sym (root-places p wide ww wf wr wprices wh wplaces s).lower in
    record {
      network = refl;
      prices = is.prices;
      owned = is.owned;
      root = record {
        places = places;
        lower = λ x l. (each x (omega (arith, l, (root-places p wide ww wf wr wprices wh wplaces s).lower))).0;
        upper = λ x l. (each x (omega (arith, l, (root-places p wide ww wf wr wprices wh wplaces s).lower))).1;
      };
    }
  where
    tprices' : length tight.prices ≡ p.resources
    tprices' = ap (λ (xs : List ℕ). length xs) is.prices ∙ wprices

    Both : ℕ → Type 0
    Both x = (slice_index wr.lower x ≤ slice_index tr.lower x) × (slice_index tr.upper x ≤ slice_index wr.upper x)

    of_starts : (i : ℕ) → i < length p.jobs → Both i
    of_starts i l = (
      omega (
        arith,
        lower-start p tight tw tf tr tprices' th tplaces r i l,
        lower-start p wide ww wf wr wprices wh wplaces s i l,
        wh.early.least tw.lower (λ j m. omega (arith, th.early.above j m, ap (λ (xs : List ℕ). slice_index xs j) is.release)) th.early.precedence i l,
      ),
      omega (
        arith,
        upper-start p tight tw tf tr tprices' th tplaces r i l,
        upper-start p wide ww wf wr wprices wh wplaces s i l,
        wh.late.greatest tw.upper (λ j m. omega (arith, th.late.ends j m, is.due j)) th.late.precedence i l,
      ),
    )

    of_units : (k : ℕ) → k < p.resources → Both (units_place p k)
    of_units k l = (
      omega (arith, lower-units p tight tw tf tr tprices' th tplaces r k l, lower-units p wide ww wf wr wprices wh wplaces s k l, floors k l),
      omega (arith, upper-units p tight tw tf tr tprices' th tplaces r k l, upper-units p wide ww wf wr wprices wh wplaces s k l, is.ceilings k (roof p k)),
    )

    of_cost : Both (cost_place p)
    of_cost = (
      omega (
        arith,
        lower-cost p tight tw tf tr tprices' th tplaces r,
        lower-cost p wide ww wf wr wprices wh wplaces s,
        cost-same tight wide tf is.prices is.owned,
        cost-mono p wide wf tf wprices floors,
      ),
      omega (
        arith,
        upper-cost p tight tw tf tr tprices' th tplaces r,
        upper-cost p wide ww wf wr wprices wh wplaces s,
        cost-same tight wide r.most.0 is.prices is.owned,
        cost-mono p wide r.most.0 s.most.0 wprices (λ k l. omega (arith, r.most.1.each k l, s.most.1.each k l, is.ceilings k (roof p k))),
      ),
    )

    each : (x : ℕ) → x < cost_place p + 1 → Both x
    each x l = each_place p Both of_starts of_units of_cost x (omega (arith, l))

-- a solution of a part is one of the whole
pub holds-of_parts : HoldsOfParts
holds-of_parts part whole clause is holds starts capacities s =
    let same : values whole.terms starts capacities ≡ values part.terms starts capacities = value-same whole.terms part.terms starts capacities (sym is.prices) (sym is.owned) in
    subst (λ (vs : List ℕ). SatisfiesSome clause vs) same (holds starts capacities (record {
      schedule = subst (λ (p : Project). IsSchedule p starts capacities) is.network s.schedule;
      within = subst (λ (vs : List ℕ). IsWithin whole.root vs) (sym same) (record {
        above = λ x l. omega (arith, is.root.lower x l, s.within.above x (omega (arith, l, is.root.places)));
        below = λ x l. omega (arith, is.root.upper x l, s.within.below x (omega (arith, l, is.root.places)));
      });
    }))
