-- Pairs and waiting jobs of the links before a place, and of one link more.
use Rattle.std.proofs.Common.{◌≡◌, ◌∙◌, ℕ, ◌+◌, ◌<◌, List, [], ◌∷◌, ◌++◌, length, take, ap, sym, arith, append_assoc, length-append, add-zero, subst, below_more}
use Rattle.std.proofs.lemmas.List.{take_more, flat_map_more, append-nil}
use Rattle.racp_links.specs.declared.link.Link.{Link}
use Rattle.racp_links.specs.declared.waits.Wait.{Wait}
use Rattle.racp_links.specs.declared.waits.Waits.{Waits}
use Rattle.racp_links.specs.Links.{waits_of, pairs_of, all_waits, all_pairs}
use Rattle.racp_links.specs.Faults.{link_at, no_link, jobs_before, IsWell, AreWellBefore, AreMadeOf, IsAdded}

-- the waiting jobs, with those of the link at the place
pub waits_more : (durations : List ℕ) (links : List Link) (k : ℕ) → k < length links →
    all_waits durations (take (k + 1) links) ≡ all_waits durations (take k links) ++ waits_of durations (link_at links k)
waits_more durations links k inside =
    ap (all_waits durations) (take_more links k no_link inside)
    ∙ sym (flat_map_more (waits_of durations) [] (take k links) (link_at links k))

-- how many jobs there are with these
pub jobs_more : (durations : List ℕ) (links : List Link) (k : ℕ) → k < length links →
    jobs_before durations links (k + 1) ≡ jobs_before durations links k + length (waits_of durations (link_at links k))
jobs_more durations links k inside =
    let lengths : length (all_waits durations (take (k + 1) links)) ≡
    length (all_waits durations (take k links)) + length (waits_of durations (link_at links k)) =
    ap length (waits_more durations links k inside)
    ∙ length-append (all_waits durations (take k links)) (waits_of durations (link_at links k)) in
    omega (arith, lengths)

-- the pairs of some links and one more
pairs_push : (durations : List ℕ) (jobs : ℕ) (links : List Link) (link : Link) →
    all_pairs durations jobs (links ++ link ∷ []) ≡
    all_pairs durations jobs links ++ pairs_of durations (jobs + length (all_waits durations links)) link
pairs_push durations jobs [] link =
    append-nil (pairs_of durations jobs link)
    ∙ ap (λ (n : ℕ). pairs_of durations n link) (sym (add-zero jobs))
pairs_push durations jobs (first ∷ links) link =
    let next : ℕ = jobs + length (waits_of durations first) in
    let lengths : next + length (all_waits durations links) ≡ jobs + length (all_waits durations (first ∷ links)) =
    omega (arith, length-append (waits_of durations first) (all_waits durations links)) in
    ap (λ (rest : List (ℕ × ℕ)). pairs_of durations jobs first ++ rest) (pairs_push durations next links link)
    ∙ sym (append_assoc (pairs_of durations jobs first) (all_pairs durations next links)
    (pairs_of durations (next + length (all_waits durations links)) link))
    ∙ ap (λ (n : ℕ). (pairs_of durations jobs first ++ all_pairs durations next links) ++ pairs_of durations n link)
    lengths

-- the pairs, with those of the link at the place
pub pairs_more : (durations : List ℕ) (links : List Link) (k : ℕ) → k < length links →
    all_pairs durations (length durations) (take (k + 1) links) ≡
    all_pairs durations (length durations) (take k links) ++
    pairs_of durations (jobs_before durations links k) (link_at links k)
pairs_more durations links k inside =
    ap (all_pairs durations (length durations)) (take_more links k no_link inside)
    ∙ pairs_push durations (length durations) (take k links) (link_at links k)

-- the links before the next place are well, if that at the place is
pub well_more : (durations : List ℕ) (links : List Link) (k jobs : ℕ) → jobs ≡ jobs_before durations links k →
    AreWellBefore durations links k → IsWell durations jobs (link_at links k) → AreWellBefore durations links (k + 1)
well_more durations links k jobs same before here =
    let P : ℕ → Type 0 = λ n. IsWell durations n (link_at links k) in
    below_more (λ q. IsWell durations (jobs_before durations links q) (link_at links q)) k before (subst P same here)

-- the pairs and waiting jobs of the links before the next place, if those of the link at the place were added
pub made_more : (durations : List ℕ) (links : List Link) (k : ℕ) (old new : Waits) → k < length links →
    AreMadeOf durations (take k links) old → IsAdded durations (link_at links k) old new → AreMadeOf durations (take (k + 1) links) new
made_more durations links k old new inside made added = record {
  pairs =
      added.pairs
      ∙ ap (λ (pairs : List (ℕ × ℕ)). pairs ++ pairs_of durations (length durations + length old.waits.items) (link_at links k)) made.pairs
      ∙ ap (λ (waits : List Wait). all_pairs durations (length durations) (take k links) ++ pairs_of durations (length durations + length waits) (link_at links k)) made.waits
      ∙ sym (pairs_more durations links k inside);
  waits =
      added.waits
      ∙ ap (λ (waits : List Wait). waits ++ waits_of durations (link_at links k)) made.waits
      ∙ sym (waits_more durations links k inside);
}
