-- Texts cut at line feeds, line by line.
use Rattle.std.proofs.Common.{◌≡◌, refl, sym, ◌∙◌, ap, ℕ, ◌+◌, ◌<◌, ◌≤◌, inl, inr, Bool, true, false, List, [], ◌∷◌, length, length-drop, arith}
use Rattle.std.specs.Prelude.{Option, Some, None, MatchBool, not, bytes_eq, codes, ◌==◌}
use Rattle.std.specs.List.{slice_split, onto_first, position_or_len, after_first}
use Rattle.std.proofs.lemmas.Bool.{cases_Bool, cond-true, cond-false, eq-eqb, ne_eqb, eqb-true, true≢false}
use Rattle.std.proofs.lemmas.List.Splits.{slice_split_first}
use Rattle.std.proofs.lemmas.List.Sums.{prefix_len-le-length}
use Rattle.racp_model.specs.Project.{Project}
use Rattle.racp_model.specs.Terms.{Terms}
use Rattle.racp_text.specs.Cuts.{AreParts, is_line_feed}
use Rattle.racp_derivations.specs.Words.{◌>>=◌}
use Rattle.racp_derivations.specs.Texts.{clauses_behind, clauses_in}
use Rattle.racp_derivations.specs.Checking.{Checked, after_line, clauses_of, is_end}

-- a text with a line feed
pub cut-some : (text line more : List ℕ) → AreParts is_line_feed text line more → slice_split is_line_feed text ≡ line ∷ slice_split is_line_feed more
cut-some text line more h =
    slice_split_first is_line_feed text 0 h.0
    ∙ (ap (λ (xs : List ℕ). xs ∷ slice_split is_line_feed (after_first is_line_feed text)) (sym h.1)
    ∙ ap (λ (xs : List ℕ). line ∷ slice_split is_line_feed xs) (sym h.2))

-- one without
pub cut-none : (text : List ℕ) → position_or_len is_line_feed text ≡ length text → slice_split is_line_feed text ≡ text ∷ []
cut-none [] e = refl
cut-none (x ∷ xs) e = grind (arith, e, cut-none xs)

-- there is a first line
some-line : (text : List ℕ) → (line : List ℕ) × (more : List (List ℕ)) × (slice_split is_line_feed text ≡ line ∷ more)
some-line [] = ([], [], refl)
some-line (x ∷ xs) = elim (cases_Bool (is_line_feed x)) [
  | inl t ↦ ([], slice_split is_line_feed xs, cond-true _ _ _ t)
  | inr f ↦ let rest = some-line xs in (x ∷ rest.0, rest.1, cond-false _ _ _ f ∙ ap (onto_first x) rest.2)
]

-- what has a byte is no end
two-lines : (line other : List ℕ) (more : List (List ℕ)) → is_end (line ∷ other ∷ more) ≡ false
two-lines line other more = refl

long-line : (x : ℕ) (line : List ℕ) (more : List (List ℕ)) → is_end (onto_first x (line ∷ more)) ≡ false
long-line x line [] = ne_eqb (length (x ∷ line)) 0 (λ e. omega (arith, e))
long-line x line (other ∷ more) = refl

no-end : (x : ℕ) (xs : List ℕ) → is_end (slice_split is_line_feed (x ∷ xs)) ≡ false
no-end x xs =
    let rest = some-line xs in
    elim (cases_Bool (is_line_feed x)) [
      | inl t ↦ ap is_end (cond-true _ _ _ t ∙ ap (λ (ls : List (List ℕ)). [] ∷ ls) rest.2)
      | inr f ↦ ap is_end (cond-false _ _ _ f ∙ ap (onto_first x) rest.2) ∙ long-line x rest.0 rest.1
    ]

pub end-empty : (text : List ℕ) → is_end (slice_split is_line_feed text) ≡ (length text == 0)
end-empty [] = refl
end-empty (x ∷ xs) = no-end x xs ∙ sym (ne_eqb (length (x ∷ xs)) 0 (λ e. omega (arith, e)))

pub bind-none : {A B : Type 0} (o : Option A) (next : A → Option B) → ((x : A) → next x ≡ None) → (o >>= next) ≡ None
bind-none None next none = refl
bind-none (Some x) next none = none x

module _ (p : Project) (terms : Terms) (c : Checked) (text : List ℕ) where
  -- a line feed is missing
  pub line-missing : position_or_len is_line_feed text ≡ length text → clauses_of p terms c (slice_split is_line_feed text) ≡ None
  line-missing none = ap (clauses_of p terms c) (cut-none text none) ∙ elim (cases_Bool (bytes_eq text (codes "end"))) [
    | inl t ↦ cond-true _ _ _ t
    | inr f ↦ cond-false _ _ _ f ∙ bind-none (after_line p terms c text) (λ d. clauses_of p terms d []) (λ d. refl)
  ]

  module _ (line more : List ℕ) (cut : AreParts is_line_feed text line more) where
    first : clauses_of p terms c (slice_split is_line_feed text) ≡ clauses_of p terms c (line ∷ slice_split is_line_feed more)
    first = ap (clauses_of p terms c) (cut-some text line more cut)

    -- the last line
    pub line-end : bytes_eq line (codes "end") ≡ true → length more ≡ 0 → clauses_of p terms c (slice_split is_line_feed text) ≡ Some c.clauses
    line-end t none = first ∙ (cond-true _ _ _ t ∙ cond-true _ _ _ (end-empty more ∙ eq-eqb (length more) 0 none))

    pub line-behind : bytes_eq line (codes "end") ≡ true → (length more ≡ 0 → ⊥) → clauses_of p terms c (slice_split is_line_feed text) ≡ None
    line-behind t some = first ∙ (cond-true _ _ _ t ∙ cond-false _ _ _ (end-empty more ∙ ne_eqb (length more) 0 some))

    -- another
    pub line-on : (d : Checked) → bytes_eq line (codes "end") ≡ false → after_line p terms c line ≡ Some d →
        clauses_of p terms c (slice_split is_line_feed text) ≡ clauses_of p terms d (slice_split is_line_feed more)
    line-on d f is = first ∙ (cond-false _ _ _ f ∙ ap (λ (o : Option Checked). o >>= (λ d. clauses_of p terms d (slice_split is_line_feed more))) is)

    pub line-off : bytes_eq line (codes "end") ≡ false → after_line p terms c line ≡ None → clauses_of p terms c (slice_split is_line_feed text) ≡ None
    line-off f is = first ∙ (cond-false _ _ _ f ∙ ap (λ (o : Option Checked). o >>= (λ d. clauses_of p terms d (slice_split is_line_feed more))) is)

    pub shorter : length more < length text
    shorter = omega (arith, ap (λ (xs : List ℕ). length xs) cut.2, length-drop (position_or_len is_line_feed text + 1) text, cut.0)

-- a text is being read: how far it was read so far, and what is left of it after so many lines
pub record IsReadingOn (p : Project) (terms : Terms) (first : Checked) (text : List ℕ) (now : Checked) (rest : List ℕ) (n : ℕ) : Type 0 where
  pub same : clauses_of p terms first (slice_split is_line_feed text) ≡ clauses_of p terms now (slice_split is_line_feed rest)
  pub room : n + length rest ≤ length text

pub reading-first : (p : Project) (terms : Terms) (first : Checked) (text : List ℕ) (n : ℕ) → n ≡ 0 → IsReadingOn p terms first text first text n
reading-first p terms first text n e = record { same = refl; room = omega (arith, e) }

module _ (p : Project) (terms : Terms) (first : Checked) (text : List ℕ) (now : Checked) (rest : List ℕ) (n : ℕ) (is : IsReadingOn p terms first text now rest n) where
  -- the text ends without a last line
  pub reading-missing : position_or_len is_line_feed rest ≡ length rest → clauses_of p terms first (slice_split is_line_feed text) ≡ None
  reading-missing none = is.same ∙ line-missing p terms now rest none

  pub reading-over : length text ≤ n → clauses_of p terms first (slice_split is_line_feed text) ≡ None
  reading-over all = reading-missing (omega (arith, is.room, all, prefix_len-le-length (λ x. not (is_line_feed x)) rest))

  module _ (line more : List ℕ) (cut : AreParts is_line_feed rest line more) where
    -- it ends with one
    pub reading-end : bytes_eq line (codes "end") ≡ true → (yes' : Bool) → yes' ≡ (length more == 0) →
        MatchBool yes' (clauses_of p terms first (slice_split is_line_feed text) ≡ Some now.clauses) (clauses_of p terms first (slice_split is_line_feed text) ≡ None)
    reading-end last true e = is.same ∙ line-end p terms now rest line more cut last (eqb-true (length more) 0 (sym e))
    reading-end last false e = is.same ∙ line-behind p terms now rest line more cut last (λ none. true≢false (sym (eq-eqb (length more) 0 none) ∙ sym e))

    pub reading-off : bytes_eq line (codes "end") ≡ false → after_line p terms now line ≡ None → clauses_of p terms first (slice_split is_line_feed text) ≡ None
    reading-off other none = is.same ∙ line-off p terms now rest line more cut other none

    pub reading-on : bytes_eq line (codes "end") ≡ false → (next : Checked) → after_line p terms now line ≡ Some next → IsReadingOn p terms first text next more (n + 1)
    reading-on other next on = record {
      same = is.same ∙ line-on p terms now rest line more cut next other on;
      room = omega (arith, is.room, shorter p terms now rest line more cut);
    }

-- the first line of a text
module _ (p : Project) (terms : Terms) (c : Checked) (text : List ℕ) where
  pub head-missing : position_or_len is_line_feed text ≡ length text → clauses_in p terms c text ≡ None
  unfolding clauses_in
  head-missing none = ap (clauses_behind p terms c) (cut-none text none) ∙ elim (cases_Bool (bytes_eq text (codes "proof 2"))) [
    | inl t ↦ cond-true _ _ _ t
    | inr f ↦ cond-false _ _ _ f
  ]

  module _ (line more : List ℕ) (cut : AreParts is_line_feed text line more) where
    pub head-on : bytes_eq line (codes "proof 2") ≡ true → clauses_of p terms c (slice_split is_line_feed more) ≡ clauses_in p terms c text
    unfolding clauses_in
    head-on t = sym (ap (clauses_behind p terms c) (cut-some text line more cut) ∙ cond-true _ _ _ t)

    pub head-off : bytes_eq line (codes "proof 2") ≡ false → clauses_in p terms c text ≡ None
    unfolding clauses_in
    head-off f = ap (clauses_behind p terms c) (cut-some text line more cut) ∙ cond-false _ _ _ f
