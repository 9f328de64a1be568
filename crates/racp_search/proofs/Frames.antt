-- The frame that is made for a window at a conflict of its early starts.
use Rattle.std.proofs.Common.{◌≡◌, ◌∙◌, ℕ, ◌*◌, ◌≤◌, List, [], length, slice_index, arith, refl, sym, subst, ap, true, Option, Some, None, is_some, IfSome}
use Rattle.racp_model.specs.Project.{Project}
use Rattle.racp_model.specs.Schedule.{usage}
use Rattle.racp_model.specs.Window.{Bounds}
use Rattle.racp_model.proofs.lemmas.Sums.{sum_below-bound}
use Rattle.racp_model.proofs.lemmas.Relations.{member_first}
use Rattle.racp_delay.specs.Branching.{IsConflict}
use Rattle.racp_delay.specs.declared.conflicts.Clash.{Clash}
use Rattle.racp_delay.specs.Laws.{BranchingLosesNothing, SomeJobGoes, lower_sum}
use Rattle.racp_cutset.specs.Covering.{SearchNode, IsNode, FitsBeforeTime}
use Rattle.racp_search.specs.Glances.{HasConflict}
use Rattle.racp_search.specs.DepthFirst.{SearchFrame, HasActive, IsFrameOf, IsGoneOn}
use Rattle.racp_search.specs.DepthFirst.Part.{behind}
use Rattle.racp_search.proofs.Going.{empty_before}
use Rattle.racp_search.proofs.Weights.{weights-one, behind-lighter}

-- what holds of a value that is there
pub if_some : {A : Type 0} (r : Option A) (P : Type 0) → is_some r ≡ true → IfSome r (λ x. P) → P
if_some (Some x) P e h = h
if_some None P e h = absurd (cc e)

-- a node whose time is that of the first conflict fits before its time
pub fits_before : (p : Project) (v : SearchNode) (capacities starts : List ℕ) (window : Bounds) (conflict : Clash) →
    v.early ≡ starts → v.capacities ≡ capacities → v.window ≡ window → v.time ≡ conflict.time → HasConflict p capacities window starts conflict → FitsBeforeTime p v
fits_before p v capacities starts window conflict e is_capacities is_window is_time has = record {
  within = λ k s resource before. omega (arith, ap (λ (xs : List ℕ). usage p xs k s) e, ap (λ (xs : List ℕ). slice_index xs k) is_capacities, has.first.first.before k s resource (omega (arith, is_time)));
  below = λ i l started. omega (arith, ap (λ (xs : List ℕ). slice_index xs i) e, ap (λ (w : Bounds). slice_index w.upper i) is_window, has.below i l);
}

-- its active jobs are those of the conflict
pub has_active : (p : Project) (v : SearchNode) (capacities starts : List ℕ) (window : Bounds) (conflict : Clash) → IsNode p v →
    v.early ≡ starts → v.capacities ≡ capacities → v.window ≡ window → v.time ≡ conflict.time → HasConflict p capacities window starts conflict → HasActive p v conflict.active
has_active p v capacities starts window conflict node e is_capacities is_window is_time has = record {
  node = node;
  fits = fits_before p v capacities starts window conflict e is_capacities is_window is_time has;
  conflict =
      subst (λ (t : ℕ). IsConflict p v.capacities v.early t conflict.active) (sym is_time)
      (subst (λ (xs : List ℕ). IsConflict p xs v.early conflict.time conflict.active) (sym is_capacities)
      (subst (λ (xs : List ℕ). IsConflict p capacities xs conflict.time conflict.active) (sym e) has.first));
  small = λ i l. omega (arith, ap (λ (xs : List ℕ). slice_index xs i) e, has.small i l);
}

-- at the start what answers lies behind the empty list
pub frame_of : (p : Project) (v : SearchNode) (active : List ℕ) (f : SearchFrame) (capacities : List ℕ) (w : Bounds) → BranchingLosesNothing → SomeJobGoes → HasActive p v active →
    v.capacities ≡ capacities → v.window ≡ w → f ≡ record { node = v; active = active; windows = []; last = []; more = true } → IsFrameOf p capacities w f
frame_of p v active f capacities w loses goes is same placed e =
    subst (λ (g : SearchFrame). IsFrameOf p capacities w g) (sym e)
    (subst (λ (x : Bounds). IsFrameOf p capacities x made) placed (subst (λ (xs : List ℕ). IsFrameOf p xs v.window made) same own))
  where
    made : SearchFrame
    made = record { node = v; active = active; windows = []; last = []; more = true }

    small : lower_sum p v.window ≤ length p.jobs * 10000000
    small = sum_below-bound (length p.jobs) 10000000 (slice_index v.window.lower) (λ i l. omega (arith, is.node.early.above i l, is.small i l))

    own : IsFrameOf p v.capacities v.window made
    own = record {
      same = refl;
      placed = refl;
      covers = λ starts lies fits.
          let b = loses p v.capacities v.window v.early v.time active starts is.node.early is.conflict (record { lies = lies; fits = fits }) in (
            behind v active [],
            member_first (behind v active []) [] (behind v active []) refl,
            record {
              gone = b.gone;
              kept = b.kept;
              splits = b.splits;
              some_stay = b.some_stay;
              minimal = b.minimal;
              behind = empty_before b.gone (goes p v.capacities v.early v.time active b.gone is.conflict b.minimal);
              lies = b.lies;
            },
          );
      lighter = omega (arith, weights-one p (behind v active []), behind-lighter p v active small);
    }

-- so are the parts of a frame that went on
pub frame-gone : (p : Project) (capacities : List ℕ) (w : Bounds) (a b : SearchFrame) → IsFrameOf p capacities w a → IsGoneOn p capacities a b → IsFrameOf p capacities w b
frame-gone p capacities w a b is gone = record {
  same = ap (λ (v : SearchNode). v.capacities) gone.node ∙ is.same;
  placed = ap (λ (v : SearchNode). v.window) gone.node ∙ is.placed;
  covers = λ starts lies fits.
      let v = is.covers starts lies fits in
      gone.covers v.0 v.1 starts v.2 fits;
  lighter = omega (arith, gone.lighter, is.lighter);
}
