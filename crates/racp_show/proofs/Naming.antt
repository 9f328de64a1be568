-- A text that grows by a letter, without those that are not printed.
use Rattle.std.proofs.Common.{ℕ, ◌≡◌, ◌∙◌, List, [], ◌∷◌, ◌++◌, String, true, false, filter, length, map, not, if◌then◌else◌, encode_utf8, encode_utf8_all, append-nil, ap, ap₂, string_bytes, sym}
use Rattle.std.specs.Global.{Global}
use Rattle.std.proofs.lemmas.Bool.{cond-true, cond-false}
use Rattle.std.proofs.lemmas.List.{length-map, map-append}
use Rattle.std.proofs.lemmas.List.Elements.{filter-append}
use Rattle.std.proofs.lemmas.Str.{encodes-append}
use Rattle.racp_show.specs.Called.{counts, is_unprinted, with_name}

-- one that is printed comes behind
pub with_letter : (letters : List ℕ) (letter : ℕ) → is_unprinted letter ≡ false →
    encode_utf8_all (filter (λ c. not (is_unprinted c)) (letters ++ letter ∷ []))
    ≡ encode_utf8_all (filter (λ c. not (is_unprinted c)) letters) ++ encode_utf8 letter
with_letter letters letter plain =
    let kept = filter (λ c. not (is_unprinted c)) letters in
    ap encode_utf8_all (filter-append (λ c. not (is_unprinted c)) letters (letter ∷ []) ∙ ap (λ b. kept ++ (if not b then letter ∷ [] else [])) plain)
    ∙ encodes-append kept (letter ∷ []) ∙ ap (λ bytes. encode_utf8_all kept ++ bytes) (append-nil (encode_utf8 letter))

-- one that is not leaves the text as it is
pub without_letter : (letters : List ℕ) (letter : ℕ) → is_unprinted letter ≡ true →
    encode_utf8_all (filter (λ c. not (is_unprinted c)) (letters ++ letter ∷ []))
    ≡ encode_utf8_all (filter (λ c. not (is_unprinted c)) letters)
without_letter letters letter control =
    let kept = filter (λ c. not (is_unprinted c)) letters in
    ap encode_utf8_all (filter-append (λ c. not (is_unprinted c)) letters (letter ∷ [])
    ∙ ap (λ b. kept ++ (if not b then letter ∷ [] else [])) control ∙ append-nil kept)

-- a line that does not count leaves the names as they are, and another comes behind them
pub with_name-not : (names : List (String Global)) (count : ℕ) (line text : List ℕ) → count ≡ length names → text ≡ line → counts count text ≡ false →
    map string_bytes names ≡ with_name (map string_bytes names) line
with_name-not names count line text places is other =
    sym (cond-false _ _ _ (ap₂ counts (length-map names string_bytes ∙ sym places) (sym is) ∙ other))

pub with_name-one : (names new : List (String Global)) (name : String Global) (count : ℕ) (line text : List ℕ) → count ≡ length names → text ≡ line → counts count text ≡ true →
    new ≡ names ++ name ∷ [] → string_bytes name ≡ line → map string_bytes new ≡ with_name (map string_bytes names) line
with_name-one names new name count line text places is one grown same =
    ap (map string_bytes) grown ∙ (map-append string_bytes names (name ∷ [])
    ∙ (ap (λ (bytes : List ℕ). map string_bytes names ++ bytes ∷ []) same
    ∙ sym (cond-true _ _ _ (ap₂ counts (length-map names string_bytes ∙ sym places) (sym is) ∙ one))))
