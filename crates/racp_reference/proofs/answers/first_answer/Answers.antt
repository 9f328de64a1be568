use Rattle.std.proofs.Common.{◌≡◌, length, rules, arith, refl, ◌∙◌}
use Rattle.racp_model.specs.Window.{Answers}
use Rattle.racp_reference.specs.Boxes.{IsNext, IsLast}
use Rattle.racp_reference.proofs.Counts.{fewer_left}
use Rattle.racp_reference.proofs.Searching.{reached_first, reached_next, reached_all, lies-within}
use Rattle.racp_reference.proofs.answers.first_answer.Goals as goal

pub starts-init : goal.starts-init
starts-init c =
    let window = c.args.window.now in
    let e : c.new-starts.result ≡ c.lower-lower.result.now = search rules in
    let box = rw (c.lower-lower.ensures.bounds, c.upper-upper.ensures.bounds) at c.if-not-is_box.ensures in
    let same : length window.lower ≡ length window.upper = omega arith in
    rw (e ∙ c.lower-lower.ensures.bounds)
    (reached_first window.lower window.upper (Answers c.args.net.now c.args.capacities.now window) same (box.0 refl))

pub starts-smaller : goal.starts-smaller
starts-smaller c =
    let window = c.args.window.now in
    let next : IsNext window.lower window.upper c.starts.starts c.new-starts-in-Some.result =
    rw (c.new-starts-in-Some.ensures, ← c.lower-lower.ensures.bounds, ← c.upper-upper.ensures.bounds, ← c.into_vec.ensures) c.in-Some.ensures in
    fewer_left window.lower window.upper c.starts.starts c.new-starts-in-Some.result c.starts.invariant.within next.is.within next.is.greater

pub starts-preserved : goal.starts-preserved
starts-preserved c =
    let window = c.args.window.now in
    let next : IsNext window.lower window.upper c.starts.starts c.new-starts-in-Some.result =
    rw (c.new-starts-in-Some.ensures, ← c.lower-lower.ensures.bounds, ← c.upper-upper.ensures.bounds, ← c.into_vec.ensures) c.in-Some.ensures in
    reached_next window.lower window.upper _ c.starts.starts c.new-starts-in-Some.result c.starts.invariant (λ h. cc (c.starts-test.ensures.1 h.fits)) next

pub returns-in-None : goal.returns-in-None
returns-in-None c =
    let window = c.args.window.now in
    let last : IsLast window.lower window.upper c.starts.starts =
    rw (← c.lower-lower.ensures.bounds, ← c.upper-upper.ensures.bounds, ← c.into_vec.ensures) c.in-None.ensures in
    λ starts h. reached_all window.lower window.upper _ c.starts.starts c.starts.invariant (λ g. cc (c.starts-test.ensures.1 g.fits)) last starts
    (lies-within c.args.net.now window starts c.requires.lower c.requires.upper h.lies) h
