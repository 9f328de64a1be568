use Rattle.std.proofs.Common.{◌≡◌, ◌∙◌, ℕ, ◌<◌, List, length, slice_index, replicate, ap, arith, rules}
use Rattle.std.proofs.lemmas.List.{get_or-replicate}
use Rattle.racp_model.specs.Terms.{Terms, release_of}
use Rattle.racp_show.proofs.Criticals.{by_one, critical_in_time}
use Rattle.racp_show.proofs.latest.late_of.Goals as goal

pub late_by-requires-clause-ends : goal.late_by-requires-clause-ends
late_by-requires-clause-ends c =
    let terms = c.args.order.now in
    let all : c.as_slice.result.now ≡ replicate c.job_count.result c.min-critical.result = search rules in
    let critical : c.min-critical.result ≡ c.last_end.result =
    omega (arith, c.min-critical.ensures, ap (λ (t : Terms). t.deadline) c.order.view_is, critical_in_time c.args.net.now terms c.args.plan.now.capacities c.args.plan.now.starts c.args.early.now c.last_end.result c.requires.fits c.requires.early c.last_end.ensures.last) in
    λ i l.
    let at : slice_index c.as_slice.result.now i ≡ c.min-critical.result =
    ap (λ (xs : List ℕ). slice_index xs i) all ∙ get_or-replicate c.job_count.result i c.min-critical.result 0 (omega (arith, l, c.job_count.ensures.count)) in
    omega (arith, at, critical, c.last_end.ensures.last.most i l)

pub returns : goal.returns
returns c =
    let terms = c.args.order.now in
    let all : c.as_slice.result.now ≡ replicate c.job_count.result c.min-critical.result = search rules in
    let critical : c.min-critical.result ≡ c.last_end.result =
    omega (arith, c.min-critical.ensures, ap (λ (t : Terms). t.deadline) c.order.view_is, critical_in_time c.args.net.now terms c.args.plan.now.capacities c.args.plan.now.starts c.args.early.now c.last_end.result c.requires.fits c.requires.early c.last_end.ensures.last) in
    let at : (i : ℕ) → i < length c.args.net.now.jobs → slice_index c.as_slice.result.now i ≡ c.last_end.result =
    λ i l. ap (λ (xs : List ℕ). slice_index xs i) all ∙ get_or-replicate c.job_count.result i c.min-critical.result 0 (omega (arith, l, c.job_count.ensures.count)) ∙ critical in
    record {
      critical = c.last_end.result;
      length = c.last_end.ensures.critical (release_of terms) c.requires.early;
      is_late = by_one c.args.net.now c.as_slice.result.now c.in_ok-late.late c.last_end.result at c.in_ok-late.ensures;
    }
