-- Taking words off one after another.
use Rattle.std.proofs.Common.{◌≡◌, refl, sym, ◌∙◌, ap, ℕ, ◌+◌, ◌<◌, ◌≤◌, Bool, true, false, List, [], ◌∷◌, ◌++◌, length, take, drop, Bor, slice_index_or, append_assoc, inl, inr}
use Rattle.std.proofs.lemmas.Bool.{not-true, not-false, and_from, and_left, and_right, and_cases, true≢false}
use Rattle.std.proofs.lemmas.Cmp.{nat_list_eq_equiv}
use Rattle.std.proofs.lemmas.List.{take_all, take_more, drop_more, map-append}
use Rattle.std.specs.Prelude.{◌&&◌, not, Option, Some, None}
use Rattle.std.specs.Option.{is_some}
use Rattle.racp_sm.specs.Lines.{words_in, is_word}
use Rattle.racp_sm.specs.Head.{begins_with}
use Rattle.racp_sm.specs.Steps.{texts, TakesWord, TakesWords}
use lib.Pointwise.{pointwise}

-- a word is itself
pub word-same : (word : List ℕ) → is_word word word ≡ true
word-same word = nat_list_eq_equiv.refl word

-- words that begin with all the names are exactly these where none is left
pub same_words : (names : List (List ℕ)) → pointwise is_word (names ++ []) names ≡ true
same_words [] = refl
same_words (name ∷ names) = and_from (is_word name name) _ (word-same name) (same_words names)

-- and are others where some are left
pub more_words : (names : List (List ℕ)) (word : List ℕ) (words : List (List ℕ)) → pointwise is_word (names ++ word ∷ words) names ≡ false
more_words [] word words = refl
more_words (name ∷ names) word words = and_right (is_word name name) _ (more_words names word words)

-- words that do not begin with the names are others
pub other_words : (words names : List (List ℕ)) → begins_with words names ≡ false → pointwise is_word words names ≡ false
other_words words [] e = absurd (true≢false e)
other_words [] (name ∷ names) e = refl
other_words (word ∷ words) (name ∷ names) e = elim (and_cases (is_word word name) (begins_with words names) e) [
  | inl f ↦ and_left (is_word word name) _ f
  | inr f ↦ and_right (is_word word name) _ (other_words words names f)
]

-- words that begin with the names do so
pub begins : (names words : List (List ℕ)) → begins_with (names ++ words) names ≡ true
begins [] words = refl
begins (name ∷ names) words = and_from (is_word name name) _ (word-same name) (begins names words)

-- k names were taken off, and the rest of the bytes stands against the rest of the names
pub record IsNaming (names : List (Bor (List ℕ))) (k : ℕ) (bytes rest : List ℕ) : Type 0 where
  front : words_in bytes ≡ texts (take k names) ++ words_in rest
  tests : begins_with (words_in bytes) (texts names) ≡ begins_with (words_in rest) (texts (drop k names))

pub naming_start : (names : List (Bor (List ℕ))) (bytes : List ℕ) → IsNaming names 0 bytes bytes
naming_start names bytes = record { front = refl; tests = refl }

-- a word that differs from the first name
pub other_first : (words : List (List ℕ)) (name : List ℕ) (names : List (List ℕ)) → begins_with words (name ∷ []) ≡ false → begins_with words (name ∷ names) ≡ false
other_first [] name names e = refl
other_first (word ∷ words) name names e = elim (and_cases (is_word word name) true e) [
  | inl f ↦ and_left (is_word word name) _ f
  | inr f ↦ absurd (true≢false f)
]

-- a name that is not there
pub naming_stop : (names : List (Bor (List ℕ))) (k : ℕ) (bytes rest : List ℕ) (d : Bor (List ℕ)) → IsNaming names k bytes rest → k < length names → begins_with (words_in rest) ((slice_index_or names k d).now ∷ []) ≡ false → begins_with (words_in bytes) (texts names) ≡ false
naming_stop names k bytes rest d h l e =
    h.tests ∙ (ap (λ left. begins_with (words_in rest) (texts left)) (drop_more names k d l) ∙ other_first (words_in rest) (slice_index_or names k d).now (texts (drop (k + 1) names)) e)

-- a name that is taken off
pub naming_step : (names : List (Bor (List ℕ))) (k : ℕ) (bytes rest after : List ℕ) (d : Bor (List ℕ)) → IsNaming names k bytes rest → k < length names → words_in rest ≡ (slice_index_or names k d).now ∷ words_in after → IsNaming names (k + 1) bytes after
naming_step names k bytes rest after d h l e =
    let name : List ℕ = (slice_index_or names k d).now in
    record {
      front = h.front ∙ (ap (λ ws. texts (take k names) ++ ws) e ∙ (sym (append_assoc (texts (take k names)) (name ∷ []) (words_in after)) ∙ ap (λ ns. ns ++ words_in after) (sym (ap texts (take_more names k d l) ∙ map-append (λ (x : Bor (List ℕ)). x.now) (take k names) (slice_index_or names k d ∷ [])))));
      tests = h.tests ∙ (ap (λ left. begins_with (words_in rest) (texts left)) (drop_more names k d l) ∙ (ap (λ ws. begins_with ws (name ∷ texts (drop (k + 1) names))) e ∙ name_off name (words_in after) (texts (drop (k + 1) names))));
    }
  where
    name_off : (name : List ℕ) (words names : List (List ℕ)) → begins_with (name ∷ words) (name ∷ names) ≡ begins_with words names
    name_off name words names = ap (λ b. b && begins_with words names) (word-same name)

-- all names were taken off
pub naming_end : (names : List (Bor (List ℕ))) (k : ℕ) (bytes rest : List ℕ) → IsNaming names k bytes rest → length names ≤ k → words_in bytes ≡ texts names ++ words_in rest
naming_end names k bytes rest h l = h.front ∙ ap (λ ns. texts ns ++ words_in rest) (take_all k names l)

-- the words are exactly the names where the rest has none
pub exact_words : (names words : List (List ℕ)) (rest : List ℕ) (r : Option (Bor (List ℕ) × Bor (List ℕ))) (none : Bool) → words ≡ names ++ words_in rest → TakesWord rest r → is_some r ≡ not none → none ≡ pointwise is_word words names
exact_words names words rest None none e t n =
    let same : pointwise is_word words names ≡ true = ap (λ ws. pointwise is_word ws names) (e ∙ ap (λ ws. names ++ ws) t) ∙ same_words names in
    not-false none (sym n) ∙ sym same
exact_words names words rest (Some parts) none e t n =
    let more : pointwise is_word words names ≡ false = ap (λ ws. pointwise is_word ws names) (e ∙ ap (λ ws. names ++ ws) t) ∙ more_words names parts.0.now (words_in parts.1.now) in
    not-true none (sym n) ∙ sym more

-- where the names were taken off, the words begin with them
pub named : (names : List (List ℕ)) (key : List ℕ) (r : Option (Bor (List ℕ))) → TakesWords names key r → true ≡ is_some r → begins_with (words_in key) names ≡ true
named names key None t s = absurd (true≢false s)
named names key (Some rest) t s = ap (λ ws. begins_with ws names) t ∙ begins names (words_in rest.now)
