use Rattle.std.proofs.Common.{◌≡◌, ◌≤◌, ℕ, List, length, map, min, slice_index, All, Some, arith, subst, sym, ap, ◌∙◌}
use Rattle.std.proofs.lemmas.List.{length-map}
use Rattle.racp_model.specs.Limits.{most_bound}
use Rattle.racp_model.specs.Schedule.{EndsBy}
use Rattle.racp_model.specs.Path.{IsEarly, IsLate}
use Rattle.racp_model.specs.Terms.{Terms, release_of, due_of}
use Rattle.racp_cpm.specs.Ends.{IsFirstLateAnswer}
use Rattle.racp_cpm.proofs.lemmas.Openings.{due-is, due-small, too_late}
use Rattle.racp_root.proofs.opening.opening_of.Goals as goal

pub returns-then-order-critical : goal.returns-then-order-critical
returns-then-order-critical c =
    let net = c.args.net.now in
    let terms = c.args.order.now in
    let release : c.as_slice.result.now ≡ terms.release = c.as_slice.ensures.value ∙ ap (λ (t : Terms). t.release) c.order.view_is in
    let deadline : c.order.inside.deadline ≡ terms.deadline = ap (λ (t : Terms). t.deadline) c.order.view_is in
    let P : List ℕ → Type 0 = λ times. IsEarly net (slice_index times) c.in_ok-starts.starts in
    record { length = c.last_end-critical.ensures.critical (release_of terms) (subst P release c.in_ok-starts.ensures); exceeds = omega (arith, c.if-order-critical.true, deadline) }

pub returns-in-Some : goal.returns-in-Some
returns-in-Some c =
    let net = c.args.net.now in
    let terms = c.args.order.now in
    let release : c.as_slice.result.now ≡ terms.release = c.as_slice.ensures.value ∙ ap (λ (t : Terms). t.release) c.order.view_is in
    let deadline : c.order.inside.deadline ≡ terms.deadline = ap (λ (t : Terms). t.deadline) c.order.view_is in
    let due : c.deref.result.now ≡ map (λ time. min time terms.deadline) terms.due = c.deref.ensures.value ∙ c.in_ok-due.ensures in
    let P : List ℕ → Type 0 = λ times. IsEarly net (slice_index times) c.in_ok-starts.starts in
    let early : IsEarly net (release_of terms) c.in_ok-starts.starts = subst P release c.in_ok-starts.ensures in
    let R : (ℕ → ℕ) → Type 0 = λ times. IsFirstLateAnswer net times c.in_ok-starts.starts (Some c.in-Some.job) in
    too_late net terms c.last_end-critical.result c.in_ok-starts.starts c.in-Some.job (c.last_end-critical.ensures.critical (release_of terms) early) (omega (arith, c.if-order-critical.false, deadline))
    early (subst R (due-is terms c.deref.result.now due) c.in-Some.ensures)

pub window_above-requires-clause-due_small : goal.window_above-requires-clause-due_small
window_above-requires-clause-due_small c =
    let P : List ℕ → Type 0 = λ due. All (λ time. time ≤ 10000000) due in
    let due : c.deref-2.result.now ≡ map (λ time. min time c.args.order.now.deadline) c.args.order.now.due = c.deref-2.ensures.value ∙ c.in_ok-due.ensures in
    subst P (sym due) (due-small c.args.order.now.deadline 10000000 c.args.order.now.due c.requires.deadline)

pub returns : goal.returns
returns c =
    let net = c.args.net.now in
    let terms = c.args.order.now in
    let release : c.as_slice.result.now ≡ terms.release = c.as_slice.ensures.value ∙ ap (λ (t : Terms). t.release) c.order.view_is in
    let deadline : c.order.inside.deadline ≡ terms.deadline = ap (λ (t : Terms). t.deadline) c.order.view_is in
    let due : c.deref-2.result.now ≡ map (λ time. min time terms.deadline) terms.due = c.deref-2.ensures.value ∙ c.in_ok-due.ensures in
    let same : slice_index c.deref-2.result.now ≡ due_of terms = due-is terms c.deref-2.result.now due in
    let P : List ℕ → Type 0 = λ times. IsEarly net (slice_index times) c.in_ok-starts.starts in
    let early : IsEarly net (release_of terms) c.in_ok-starts.starts = subst P release c.in_ok-starts.ensures in
    let earlier : c.deref.result.now ≡ map (λ time. min time terms.deadline) terms.due = c.deref.ensures.value ∙ c.in_ok-due.ensures in
    let R : (ℕ → ℕ) → Type 0 = λ times. EndsBy net times c.in_ok-starts.starts in
    let ends : EndsBy net (due_of terms) c.in_ok-starts.starts = subst R (due-is terms c.deref.result.now earlier) c.in_default.ensures in
    let window = c.in_ok-window.ensures in
    let Q : List ℕ → Type 0 = λ lower. IsEarly net (release_of terms) lower in
    record {
      length = c.last_end-critical.ensures.critical (release_of terms) early;
      fits = omega (arith, c.if-order-critical.false, deadline);
      window_is = record {
        early = subst Q (sym window.0) early;
        late = subst (λ (times : ℕ → ℕ). IsLate net times c.in_ok-window.window.upper) same window.1;
        ends = subst (λ (lower : List ℕ). EndsBy net (due_of terms) lower) (sym window.0) ends;
      };
    }

pub early-requires-clause-places : goal.early-requires-clause-places
early-requires-clause-places c = ap (λ (xs : List ℕ). length xs) (c.as_slice.ensures.value ∙ ap (λ (t : Terms). t.release) c.order.view_is) ∙ c.requires.release_places

pub early-requires-clause-small : goal.early-requires-clause-small
early-requires-clause-small c =
    let release : c.as_slice.result.now ≡ c.args.order.now.release = c.as_slice.ensures.value ∙ ap (λ (t : Terms). t.release) c.order.view_is in
    subst (λ (times : List ℕ). All (λ time. time ≤ most_bound) times) (sym release) (λ k d l. omega (arith, c.requires.release k d l))

pub first_late-requires-clause-due : goal.first_late-requires-clause-due
first_late-requires-clause-due c =
    let terms = c.args.order.now in
    ap (λ (xs : List ℕ). length xs) (c.deref.ensures.value ∙ c.in_ok-due.ensures) ∙ (length-map terms.due (λ (time : ℕ). min time terms.deadline) ∙ c.requires.due_places)

pub window_above-requires-clause-due_places : goal.window_above-requires-clause-due_places
window_above-requires-clause-due_places c =
    let terms = c.args.order.now in
    ap (λ (xs : List ℕ). length xs) (c.deref-2.ensures.value ∙ c.in_ok-due.ensures) ∙ (length-map terms.due (λ (time : ℕ). min time terms.deadline) ∙ c.requires.due_places)
