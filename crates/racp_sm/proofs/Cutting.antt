-- Cutting lists at the first element of a kind: pieces, lines and words.
use Rattle.std.proofs.Common.{◌≡◌, refl, sym, ◌∙◌, ap, ℕ, zero, suc, ◌+◌, ◌<◌, inl, inr, Bool, false, List, [], ◌∷◌, length, length-drop, arith, subst, nat_lt, ◌==◌}
use Rattle.std.specs.Prelude.{filter}
use Rattle.std.specs.List.{position_or_len, after_first, slice_split, onto_first}
use Rattle.std.proofs.lemmas.Bool.{cases_Bool, false≢true, lt-ltb, le-ltb, ne_eqb, cond-true, cond-false}
use Rattle.std.proofs.lemmas.List.Splits.{slice_split_first}
use Rattle.racp_text.specs.Cuts.{AreParts, is_line_feed}
use Rattle.racp_sm.specs.Lines.{is_blank, line_pieces, words_in}

-- a list without such an element is one piece
pub one_piece : {X : Type 0} (test : X → Bool) (xs : List X) → position_or_len test xs ≡ length xs → slice_split test xs ≡ xs ∷ []
one_piece test [] e = refl
one_piece test (x ∷ xs) e = grind (arith, e, one_piece test xs)

-- there is a first piece
pub some_piece : {X : Type 0} (test : X → Bool) (xs : List X) → (piece : List X) × (more : List (List X)) × (slice_split test xs ≡ piece ∷ more)
some_piece test [] = ([], [], refl)
some_piece test (x ∷ xs) = elim (cases_Bool (test x)) [
  | inl t ↦ ([], slice_split test xs, cond-true _ _ _ t)
  | inr f ↦ let rest = some_piece test xs in (x ∷ rest.0, rest.1, cond-false _ _ _ f ∙ ap (onto_first x) rest.2)
]

-- a piece before others is a line
pub line_before : (test : ℕ → Bool) (piece bytes : List ℕ) → line_pieces (piece ∷ slice_split test bytes) ≡ piece ∷ line_pieces (slice_split test bytes)
line_before test piece bytes =
    let rest = some_piece test bytes in
    let P : List (List ℕ) → Type 0 = λ pieces. line_pieces (piece ∷ pieces) ≡ piece ∷ line_pieces pieces in
    subst P (sym rest.2) refl

-- what is not empty has some length
pub some_length : (n : ℕ) → false ≡ (n == 0) → 0 < n
some_length zero e = absurd (false≢true e)
some_length (suc n) e = omega arith

-- the pieces of what was cut
pub cut_pieces : (test : ℕ → Bool) (bytes front back : List ℕ) → AreParts test bytes front back → slice_split test bytes ≡ front ∷ slice_split test back
cut_pieces test bytes front back h =
    slice_split_first test bytes 0 h.0 ∙ (ap (λ xs. xs ∷ slice_split test (after_first test bytes)) (sym h.1) ∙ ap (λ xs. front ∷ slice_split test xs) (sym h.2))

-- the part after a cut is shorter
pub back-shorter : (test : ℕ → Bool) (bytes front back : List ℕ) → AreParts test bytes front back → length back < length bytes
back-shorter test bytes front back h = omega (arith, h.0, ap length h.2, length-drop (position_or_len test bytes + 1) bytes)

-- the first line ends at the first line feed
pub first_line : (bytes front back : List ℕ) → AreParts is_line_feed bytes front back → line_pieces (slice_split is_line_feed bytes) ≡ front ∷ line_pieces (slice_split is_line_feed back)
first_line bytes front back h = ap line_pieces (cut_pieces is_line_feed bytes front back h) ∙ line_before is_line_feed front back

-- a text without line feed is one line
pub only_line : (bytes : List ℕ) → position_or_len is_line_feed bytes ≡ length bytes → 0 < length bytes → line_pieces (slice_split is_line_feed bytes) ≡ bytes ∷ []
only_line bytes e l = ap line_pieces (one_piece is_line_feed bytes e) ∙ cond-false _ _ _ (ne_eqb (length bytes) 0 (λ z. omega (arith, z, l)))

-- the words of some pieces
abbrev pub long : List (List ℕ) → List (List ℕ)
long = filter (λ word. nat_lt 0 (length word))

-- where the first piece is empty, the words are those after it
pub no_front : (bytes front back : List ℕ) → AreParts is_blank bytes front back → length front ≡ 0 → words_in bytes ≡ words_in back
no_front bytes front back h e = ap long (cut_pieces is_blank bytes front back h) ∙ cond-false _ _ _ (le-ltb 0 (length front) (omega (arith, e)))

-- else it is the first word
pub front_word : (bytes front back : List ℕ) → AreParts is_blank bytes front back → 0 < length front → words_in bytes ≡ front ∷ words_in back
front_word bytes front back h l = ap long (cut_pieces is_blank bytes front back h) ∙ cond-true _ _ _ (lt-ltb 0 (length front) l)

-- bytes without blanks are one word
pub only_word : (bytes : List ℕ) → position_or_len is_blank bytes ≡ length bytes → 0 < length bytes → words_in bytes ≡ bytes ∷ []
only_word bytes e l = ap long (one_piece is_blank bytes e) ∙ cond-true _ _ _ (lt-ltb 0 (length bytes) l)
