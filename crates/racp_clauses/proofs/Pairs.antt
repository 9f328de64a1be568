-- The pairs of the precedence relation by their places.
use Rattle.std.proofs.Common.{◌≡◌, ◌∙◌, ℕ, ◌+◌, ◌-◌, ◌<◌, List, length, slice_index_or, arith, ap}
use Rattle.std.proofs.lemmas.List.{get_or_default}
use Rattle.racp_model.specs.Project.{Project, IsSound, Precedes, place, number}

-- the first job of a pair precedes the second
pub pair-precedes : (p : Project) (at : ℕ) → IsSound p → at < length p.arcs → Precedes p (place (slice_index_or p.arcs at (0, 0)).0) (place (slice_index_or p.arcs at (0, 0)).1)
pair-precedes p at sound l =
    let pair : ℕ × ℕ = slice_index_or p.arcs at (0, 0) in
    let named = sound.named at (0, 0) l in
    let first : pair.0 ≡ number (place pair.0) = omega (arith, named.0.0) in
    let second : pair.1 ≡ number (place pair.1) = omega (arith, named.1.0) in (
      at,
      l,
      get_or_default p.arcs at (number (place pair.0), number (place pair.1)) (0, 0) l ∙ (ap (λ x. (x, pair.1)) first ∙ ap (λ y. (number (place pair.0), y)) second),
    )
