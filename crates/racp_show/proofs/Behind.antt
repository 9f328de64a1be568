-- What stands behind the `#` of a line.
use Rattle.std.proofs.Common.{◌≡◌, ◌≢◌, ◌∙◌, ◌++◌, ◌∷◌, [], ℕ, List, Option, Some, None, ap, codes, sym}
use Rattle.std.specs.Prelude.{MatchOption}
use Rattle.std.specs.Str.Pattern.{FindsTextPrefix, StripsPrefix}
use Rattle.std.proofs.lemmas.Bool.{cond-false, ne_eqb}
use Rattle.racp_show.specs.Lines.{behind}
use denote.Ref.{Bor}

-- what `strip_prefix` leaves of it
pub strips : (rest : List ℕ) (r : Option (Bor (List ℕ))) → MatchOption r (FindsTextPrefix (codes "#") rest None) (λ x. StripsPrefix (FindsTextPrefix (codes "#")) rest x.now) →
    MatchOption r ((more : List ℕ) → rest ≢ 35 ∷ more) (λ x. rest ≡ 35 ∷ x.now)
strips rest None cut = cut
strips rest (Some x) cut = cut.1.1 ∙ ap (λ (t : List ℕ). codes "#" ++ t) (sym cut.2)

-- one `#` fewer
pub behind-hash : (line rest more : List ℕ) → behind rest ≡ behind line → rest ≡ 35 ∷ more → behind more ≡ behind line
behind-hash line rest more so_far is = sym (ap behind is) ∙ so_far

-- none
pub behind-none : (line rest : List ℕ) → behind rest ≡ behind line → ((more : List ℕ) → rest ≢ 35 ∷ more) → rest ≡ behind line
behind-none line [] so_far other = so_far
behind-none line (byte ∷ bytes) so_far other =
    sym (cond-false _ _ _ (ne_eqb byte 35 (λ (e : byte ≡ 35). other bytes (ap (λ (b : ℕ). b ∷ bytes) e)))) ∙ so_far
