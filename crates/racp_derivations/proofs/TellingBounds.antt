-- Texts that tell a bound, cut at line feeds.
use Rattle.std.proofs.Common.{◌≡◌, refl, sym, ◌∙◌, ap, ℕ, inl, inr, true, false, List, [], ◌∷◌, length, subst}
use Rattle.std.specs.Prelude.{Option, Some, None, bytes_eq, codes}
use Rattle.std.specs.List.{slice_split, position_or_len}
use Rattle.std.proofs.lemmas.Bool.{cases_Bool, cond-true, cond-false}
use Rattle.racp_model.specs.Project.{Project}
use Rattle.racp_model.specs.Terms.{Terms}
use Rattle.racp_model.specs.Window.{Bounds}
use Rattle.racp_text.specs.Cuts.{AreParts, is_line_feed}
use Rattle.racp_clauses.specs.declared.literal.Literal.{Literal}
use Rattle.racp_derivations.specs.Words.{◌>>=◌}
use Rattle.racp_derivations.specs.Texts.{IsOrderRoot}
use Rattle.racp_derivations.specs.Checking.{Checked, clauses_of}
use Rattle.racp_derivations.specs.BoundTexts.{Bounded, told_bound, least_on, bounded_of, bounded_behind, bounded_in, ShowsLeastIn, IsLeastIn, IsLeastByText}
use Rattle.racp_derivations.proofs.Rooted.{root-one}
use Rattle.racp_derivations.proofs.Splitting.{cut-some, cut-none, bind-none}

-- what is read behind the line of a bound
abbrev behind : Option (List (List Literal)) → ℕ → Option Bounded
behind clauses least = clauses >>= (λ cs. Some (told_bound least cs))

-- the lines behind the first
module _ (p : Project) (terms : Terms) (c : Checked) (text : List ℕ) where
  pub told-missing : position_or_len is_line_feed text ≡ length text → bounded_of p terms c (slice_split is_line_feed text) ≡ None
  told-missing none = ap (bounded_of p terms c) (cut-none text none) ∙ bind-none (least_on text) (behind (clauses_of p terms c [])) (λ n. refl)

  module _ (line more : List ℕ) (cut : AreParts is_line_feed text line more) where
    first : bounded_of p terms c (slice_split is_line_feed text) ≡ bounded_of p terms c (line ∷ slice_split is_line_feed more)
    first = ap (bounded_of p terms c) (cut-some text line more cut)

    pub told-off : least_on line ≡ None → bounded_of p terms c (slice_split is_line_feed text) ≡ None
    told-off none = first ∙ ap (λ (o : Option ℕ). o >>= behind (clauses_of p terms c (slice_split is_line_feed more))) none

    module _ (least : ℕ) (is : least_on line ≡ Some least) where
      told : bounded_of p terms c (slice_split is_line_feed text) ≡ behind (clauses_of p terms c (slice_split is_line_feed more)) least
      told = first ∙ ap (λ (o : Option ℕ). o >>= behind (clauses_of p terms c (slice_split is_line_feed more))) is

      pub told-on : (clauses : List (List Literal)) → clauses_of p terms c (slice_split is_line_feed more) ≡ Some clauses → bounded_of p terms c (slice_split is_line_feed text) ≡ Some (told_bound least clauses)
      told-on clauses so = told ∙ ap (λ (o : Option (List (List Literal))). behind o least) so

      pub told-none : clauses_of p terms c (slice_split is_line_feed more) ≡ None → bounded_of p terms c (slice_split is_line_feed text) ≡ None
      told-none none = told ∙ ap (λ (o : Option (List (List Literal))). behind o least) none

-- the first line
module _ (p : Project) (terms : Terms) (c : Checked) (text : List ℕ) where
  pub bound-missing : position_or_len is_line_feed text ≡ length text → bounded_in p terms c text ≡ None
  unfolding bounded_in
  bound-missing none = ap (bounded_behind p terms c) (cut-none text none) ∙ elim (cases_Bool (bytes_eq text (codes "proof 2"))) [
    | inl t ↦ cond-true _ _ _ t
    | inr f ↦ cond-false _ _ _ f
  ]

  module _ (line more : List ℕ) (cut : AreParts is_line_feed text line more) where
    pub bound-on : bytes_eq line (codes "proof 2") ≡ true → bounded_of p terms c (slice_split is_line_feed more) ≡ bounded_in p terms c text
    unfolding bounded_in
    bound-on t = sym (ap (bounded_behind p terms c) (cut-some text line more cut) ∙ cond-true _ _ _ t)

    pub bound-off : bytes_eq line (codes "proof 2") ≡ false → bounded_in p terms c text ≡ None
    unfolding bounded_in
    bound-off f = ap (bounded_behind p terms c) (cut-some text line more cut) ∙ cond-false _ _ _ f

-- what is shown from root bounds of an order is shown from those of it
pub least-so : (p : Project) (terms : Terms) (root : Bounds) (text : List ℕ) → IsOrderRoot p terms root → (found : Option ℕ) → IsLeastIn p terms root text found → IsLeastByText p terms text found
least-so p terms root text is (Some least) shows = record { root = root; is_root = is; shows = shows }
least-so p terms root text is None none = λ least h. none least (subst (λ (b : Bounds). ShowsLeastIn p terms b least text) (root-one p terms h.root root h.is_root is) h.shows)
