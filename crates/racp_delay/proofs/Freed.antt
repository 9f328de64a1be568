-- Where only free jobs go, the alternatives are the extensions of no job by the free ones, with the others kept.
use Rattle.std.proofs.Common.{◌≡◌, inl, inr, ℕ, ◌+◌, ◌<◌, List, [], slice_index, Bool, true, false, arith, sym, subst, Contains, All}
use Rattle.std.specs.List.Sorted.{IsStrictlyIncreasing}
use Rattle.racp_model.specs.Project.{Project, IsNumber}
use Rattle.racp_model.specs.Terms.{IsLexBefore}
use Rattle.racp_delay.specs.Alternatives.{load, IsFreeAlternative, IsNextAlternative, IsFollowing}
use Rattle.racp_delay.specs.Found.{with_load, IsExtension, IsExtended, IsSplitByFree}
use Rattle.racp_delay.proofs.Each.{Ascends, ascends, all-each, each-all}
use Rattle.racp_delay.proofs.Searching.{tight-same}
use Rattle.racp_delay.proofs.Splitting.{load-splits, splits-part, each-gone, ascends-gone}
use Rattle.racp_delay.proofs.Subsets.{goes_or_stays, gone_in, can_go, increasing}
use Rattle.racp_delay.proofs.Tight.{none_kept, tight-from_minimal, minimal-from_tight}

module _ (p : Project) (capacities active free list kept left : List ℕ) (s : IsSplitByFree p active free list kept left) where
  -- what is left are the kept and the free ones
  pub freed-left : (k : ℕ) → k < p.resources → slice_index left k ≡ with_load p (slice_index kept) list k
  freed-left k l = omega (arith, s.left_sums.sums k l, load-splits p k s.splits, s.kept_sums k l)

  -- the free ones are jobs of the project
  pub freed-numbers : (n : ℕ) → All (IsNumber n) active → All (IsNumber n) list
  freed-numbers n numbers = each-all (IsNumber n) list (each-gone (IsNumber n) s.splits (all-each (IsNumber n) active numbers))

  -- and rise
  pub freed-rises : IsStrictlyIncreasing active → IsStrictlyIncreasing list
  freed-rises rises = increasing list (ascends-gone s.splits (ascends active rises))

  -- an alternative in which only free jobs go
  free-extension : IsStrictlyIncreasing active → (gone : List ℕ) → IsFreeAlternative p capacities active free gone → IsExtension p capacities (slice_index kept) [] list gone
  free-extension rises gone a =
      let up : Ascends active = ascends active rises in
      let d = a.minimal.delays in
      let among : (job : ℕ) → Contains gone job → Contains list job = λ job c. elim (goes_or_stays job s.splits (gone_in job d.1 c)) [
        | inl is ↦ is
        | inr other ↦ absurd (s.stay job other (a.only job c))
      ] in
      let g = can_go list gone (ascends-gone s.splits up) (ascends-gone d.1 up) among in (
        g.0,
        g.1,
        tight-same p capacities none_kept (slice_index kept) gone d.0 g.0 (λ k l.
            let whole : load p k active ≡ load p k gone + load p k d.0 = load-splits p k d.1 in
            let parts : load p k list ≡ load p k gone + load p k g.0 = load-splits p k g.1 in
            omega (arith, load-splits p k s.splits, s.kept_sums k l)) (tight-from_minimal p capacities active gone d.0 d.1 a.minimal),
      )

  -- and back
  free-alternative : (gone : List ℕ) → IsExtension p capacities (slice_index kept) [] list gone → IsFreeAlternative p capacities active free gone
  free-alternative gone e =
      let rest = splits-part s.splits e.1 in
      record {
        minimal = minimal-from_tight p capacities active gone rest.0 rest.1 (tight-same p capacities (slice_index kept) none_kept gone e.0 rest.0 (λ k l.
            let whole : load p k active ≡ load p k gone + load p k rest.0 = load-splits p k rest.1 in
            let parts : load p k list ≡ load p k gone + load p k e.0 = load-splits p k e.1 in
            omega (arith, load-splits p k s.splits, s.kept_sums k l)) e.2);
        only = λ job c. s.go job (gone_in job e.1 c);
      }

  -- so what extends nothing follows a list
  pub followed : IsStrictlyIncreasing active → (last gone new : List ℕ) (found : Bool) → gone ≡ []
      → IsExtended p capacities (slice_index kept) gone list (IsLexBefore last) found new → IsFollowing p capacities active free last found new
  followed rises last gone new found e h = by_cases found (subst (λ (x : List ℕ). IsExtended p capacities (slice_index kept) x list (IsLexBefore last) found new) e h)
    where
      by_cases : (b : Bool) → IsExtended p capacities (slice_index kept) [] list (IsLexBefore last) b new → IsFollowing p capacities active free last b new
      by_cases true g = subst (λ (x : List ℕ). IsNextAlternative p capacities active free last x) (sym g.1) (record {
        is = free-alternative g.0 g.2.extends;
        behind = g.2.wanted;
        first = λ other a before. g.2.first other (free-extension rises other a) before;
      })
      by_cases false g = λ other a before. g.1 other (free-extension rises other a) before
