-- The bits of the jobs of a set, after a job came in or went out, and beside those of another set.
use Rattle.std.proofs.Common.{◌≡◌, ◌≢◌, ◌⊎◌, inl, inr, ℕ, ◌+◌, ◌-◌, ◌*◌, ◌/◌, ◌%◌, ◌<◌, ◌≤◌, ◌^◌, List, [], ◌∷◌, length, slice_index, arith, refl, ap, sym, ◌∙◌, subst, Contains, set, bit_and, bit_or, w64, min}
use Rattle.std.specs.Int.{bit_at, bit_not, trailing_zeros}
use Rattle.std.proofs.lemmas.Bool.{cases_lt}
use Rattle.std.proofs.lemmas.List.Kept.{AllPairs-from_increasing, AllPairs-cons}
use Rattle.std.proofs.lemmas.Nat.Bits.{bit_at-zero, bit_at-lt, bit_at_and, bit_at_not, bit_at_set_same, bit_at_set_other, bit_at_clear_same, bit_at_clear_other, bit_at-trailing_zeros, same_from_bits_below}
use Rattle.std.proofs.lemmas.Nat.{and_le_l}
use Rattle.std.proofs.lemmas.Grind.{same_number_lists}
use Rattle.racp_model.specs.Project.{place, IsNumber}
use Rattle.racp_model.proofs.lemmas.Lists.{at_set}
use Rattle.racp_model.proofs.lemmas.Relations.{member_cases, member_later, member_first, no_member, all_members, same_from_members}
use Rattle.racp_model.specs.JobSets.{bit_of, members, IsInserted, IsSubset}
use Rattle.racp_model.specs.Words.{AreWords, AreZero, IsFirstWord, IsLowestBit, AreBitsWithin}
use Rattle.racp_model.proofs.JobSets.{are_jobs, in_members, number_of_member, bit_of_member}

-- two numbers are the same or not
pub same_or_not : (a b : ℕ) → (a ≡ b) ⊎ (a ≢ b)
same_or_not a b = elim (cases_lt a b) [
  | inl less ↦ inr (λ e. omega (arith, e))
  | inr more ↦ elim (cases_lt b a) [ inl greater ↦ inr (λ e. omega (arith, e)) | inr most ↦ inl (omega arith) ]
]

-- the bit of a job in a word
abbrev pub word_bit : List ℕ → ℕ → ℕ → ℕ
word_bit words q k = bit_at (slice_index words q) k

-- one bit is 1, and the others are as they were
pub record IsBitSet (words : List ℕ) (job : ℕ) (new : List ℕ) : Type 0 where
  pub here : bit_of new job ≡ 1
  pub others : (other : ℕ) → IsNumber 512 other → other ≢ job → bit_of new other ≡ bit_of words other

-- one bit is 0, and the others are as they were
pub record IsBitCleared (words : List ℕ) (job : ℕ) (new : List ℕ) : Type 0 where
  pub here : bit_of new job ≡ 0
  pub others : (other : ℕ) → IsNumber 512 other → other ≢ job → bit_of new other ≡ bit_of words other

-- of two jobs of one word the bits differ
pub other_bit : (job other : ℕ) → 1 ≤ job → 1 ≤ other → other ≢ job → place other / 64 ≡ place job / 64 → place other % 64 ≢ place job % 64
other_bit job other a b ne same e = ne (omega (arith, same, e))

-- a word in which a bit was set
pub bit_is_set : (words new : List ℕ) (job : ℕ) → length words ≡ 8 → IsNumber 512 job
    → new ≡ set words (place job / 64) (bit_or (slice_index words (place job / 64)) (1 * 2 ^ (place job % 64) % 2 ^ 64)) → IsBitSet words job new
bit_is_set words new job len is e = record {
  here = elim (at_set words q v q within) [
    | inl same ↦ ap (λ (xs : List ℕ). bit_of xs job) e ∙ (ap (λ n. bit_at n k) same.1 ∙ bit_at_set_same w64 (slice_index words q) k small)
    | inr other ↦ absurd (other.0 refl)
  ];
  others = λ other number ne. elim (at_set words q v (place other / 64) within) [
    | inl same ↦
        ap (λ (xs : List ℕ). bit_of xs other) e ∙ (ap (λ n. bit_at n (place other % 64)) same.1
        ∙ (bit_at_set_other w64 (slice_index words q) k small (place other % 64) (other_bit job other is.0 number.0 ne same.0) ∙ ap (λ i. bit_at (slice_index words i) (place other % 64)) (sym same.0)))
    | inr apart ↦ ap (λ (xs : List ℕ). bit_of xs other) e ∙ ap (λ n. bit_at n (place other % 64)) apart.1
  ];
}
  where
    q : ℕ
    q = place job / 64

    k : ℕ
    k = place job % 64

    v : ℕ
    v = bit_or (slice_index words q) (1 * 2 ^ k % 2 ^ 64)

    within : q < length words
    within = omega (arith, len, is.0, is.1)

    small : k < 64
    small = omega arith

-- a word in which a bit was cleared
pub bit_is_cleared : (words new : List ℕ) (q k job : ℕ) → q < length words → k < 64 → job ≡ 64 * q + k + 1
    → new ≡ set words q (bit_and (slice_index words q) (bit_not w64 (1 * 2 ^ k % 2 ^ 64))) → IsBitCleared words job new
bit_is_cleared words new q k job within small is e = record {
  here =
      elim (at_set words q v (place job / 64) within) [
        | inl same ↦ ap (λ (xs : List ℕ). bit_of xs job) e ∙ (ap (λ n. bit_at n (place job % 64)) same.1 ∙ (ap (λ i. bit_at v i) bit ∙ bit_at_clear_same w64 (slice_index words q) k small))
        | inr other ↦ absurd (other.0 word)
      ];
  others = λ other number ne. elim (at_set words q v (place other / 64) within) [
    | inl same ↦
        let apart : place other % 64 ≢ k = λ i. ne (omega (arith, same.0, i)) in
        ap (λ (xs : List ℕ). bit_of xs other) e ∙ (ap (λ n. bit_at n (place other % 64)) same.1
        ∙ (bit_at_clear_other w64 (slice_index words q) k small (place other % 64) (omega arith) apart ∙ ap (λ i. bit_at (slice_index words i) (place other % 64)) (sym same.0)))
    | inr apart ↦ ap (λ (xs : List ℕ). bit_of xs other) e ∙ ap (λ n. bit_at n (place other % 64)) apart.1
  ];
}
  where
    v : ℕ
    v = bit_and (slice_index words q) (bit_not w64 (1 * 2 ^ k % 2 ^ 64))

    word : place job / 64 ≡ q
    word = omega arith

    bit : place job % 64 ≡ k
    bit = omega arith

-- a set into which a job came
pub inserted : (words new : List ℕ) (job : ℕ) → IsNumber 512 job → IsBitSet words job new → IsInserted (members words) job (members new)
inserted words new job is bits other = (into, back)
  where
    into : Contains (members new) other → (other ≡ job) ⊎ Contains (members words) other
    into c =
        let number : IsNumber 512 other = number_of_member new other c in
        elim (same_or_not other job) [
          | inl same ↦ inl same
          | inr apart ↦ inr (in_members words other number (sym (bits.others other number apart) ∙ bit_of_member new other c))
        ]

    back : (other ≡ job) ⊎ Contains (members words) other → Contains (members new) other
    back h = elim h [
      | inl same ↦ subst (λ i. Contains (members new) i) (sym same) (in_members new job is bits.here)
      | inr old ↦
          let number : IsNumber 512 other = number_of_member words other old in
          elim (same_or_not other job) [
            | inl same ↦ subst (λ i. Contains (members new) i) (sym same) (in_members new job is bits.here)
            | inr apart ↦ in_members new other number (bits.others other number apart ∙ bit_of_member words other old)
          ]
    ]

-- the job of a bit
abbrev pub job_at : ℕ → ℕ → ℕ
job_at q k = 64 * q + k + 1

-- no job is before it
pub lowest_first : (words : List ℕ) (q k job other : ℕ) → IsLowestBit words q k → job ≡ job_at q k → IsNumber 512 other → bit_of words other ≡ 1 → job ≤ other
lowest_first words q k job other low is_job number one = elim (cases_lt other job) [
  | inr after ↦ after
  | inl before ↦ elim (cases_lt (place other / 64) q) [
    | inl early ↦ absurd (omega (arith, one, ap (λ n. bit_at n (place other % 64)) (low.before (place other / 64) early), bit_at-zero (place other % 64)))
    | inr late ↦
        let same : place other / 64 ≡ q = omega (arith, low.bit, number.0) in
        let less : place other % 64 < k = omega (arith, low.bit, number.0) in
        absurd (omega (arith, one, low.below (place other % 64) less, ap (λ i. bit_at (slice_index words i) (place other % 64)) same))
  ]
]

-- the set is that job and the others
pub popped_first : (words new : List ℕ) (q k job : ℕ) → IsLowestBit words q k → job ≡ job_at q k → IsBitCleared words job new → members words ≡ job ∷ members new
popped_first words new q k job low is_job bits =
    same_from_members (λ a b. a < b) (λ a b x y. absurd (omega arith)) (members words) (job ∷ members new) (AllPairs-from_increasing (members words) (are_jobs words).rises)
    (AllPairs-cons (λ a b. a < b) job (members new) (all_members (λ y. job < y) (members new) after) (AllPairs-from_increasing (members new) (are_jobs new).rises)) into back
  where
    is : IsNumber 512 job
    is = (omega arith, omega (arith, low.word, low.bit))

    here : bit_of words job ≡ 1
    here =
        let word : place job / 64 ≡ q = omega (arith, low.bit) in
        let bit : place job % 64 ≡ k = omega (arith, low.bit) in
        ap (λ i. bit_at (slice_index words i) (place job % 64)) word ∙ (ap (λ i. word_bit words q i) bit ∙ low.set)

    apart : (y : ℕ) → Contains (members new) y → y ≢ job
    apart y c same = omega (arith, bit_of_member new y c, ap (bit_of new) same, bits.here)

    was : (y : ℕ) → Contains (members new) y → bit_of words y ≡ 1
    was y c = sym (bits.others y (number_of_member new y c) (apart y c)) ∙ bit_of_member new y c

    after : (y : ℕ) → Contains (members new) y → job < y
    after y c =
        let most : job ≤ y = lowest_first words q k job y low is_job (number_of_member new y c) (was y c) in
        let ne : y ≢ job = apart y c in
        omega arith

    into : (y : ℕ) → Contains (members words) y → Contains (job ∷ members new) y
    into y c =
        let number : IsNumber 512 y = number_of_member words y c in
        elim (same_or_not y job) [
          | inl same ↦ member_first job (members new) y (sym same)
          | inr other ↦ member_later job (members new) y (in_members new y number (bits.others y number other ∙ bit_of_member words y c))
        ]

    back : (y : ℕ) → Contains (job ∷ members new) y → Contains (members words) y
    back y c = elim (member_cases job (members new) y c) [
      | inl same ↦ subst (λ i. Contains (members words) i) same (in_members words job is here)
      | inr later ↦ in_members words y (number_of_member new y later) (was y later)
    ]

-- where all words are 0, no job is in the set
pub no_jobs : (words : List ℕ) → AreZero words → members words ≡ []
no_jobs words none_set = empty (members words) (λ job c.
    let number : IsNumber 512 job = number_of_member words job c in
    omega (arith, bit_of_member words job c, ap (λ n. bit_at n (place job % 64)) (none_set (place job / 64) (omega (arith, number.0, number.1))), bit_at-zero (place job % 64)))
  where
    empty : (xs : List ℕ) → ((x : ℕ) → Contains xs x → ⊥) → xs ≡ []
    empty [] none = refl
    empty (x ∷ xs) none = absurd (none x (member_first x xs x refl))

-- the bit of that job
pub bit_of_at : (words : List ℕ) (q k : ℕ) → k < 64 → bit_of words (job_at q k) ≡ word_bit words q k
bit_of_at words q k small =
    let word : place (job_at q k) / 64 ≡ q = omega arith in
    let bit : place (job_at q k) % 64 ≡ k = omega arith in
    ap (λ i. bit_at (slice_index words i) (place (job_at q k) % 64)) word ∙ ap (λ i. word_bit words q i) bit

-- a bit is 0 or 1
pub bit_cases : (n i : ℕ) → (bit_at n i ≡ 0) ⊎ (bit_at n i ≡ 1)
bit_cases n i = elim (cases_lt (bit_at n i) 1) [ inl less ↦ inl (omega arith) | inr more ↦ inr (omega (arith, bit_at-lt n i)) ]

-- where no job of a word is in the set, the word is 0
pub word_zero : (n : ℕ) → n < 2 ^ 64 → ((i : ℕ) → i < 64 → bit_at n i ≡ 1 → ⊥) → n ≡ 0
word_zero n l none = same_from_bits_below 64 n 0 l (omega arith) (λ i small. elim (bit_cases n i) [ inl off ↦ off ∙ sym (bit_at-zero i) | inr one ↦ absurd (none i small one) ])

-- the lowest bit of the first word
pub lowest_bit : (words : List ℕ) (q : ℕ) → AreWords words → IsFirstWord words q → IsLowestBit words q (trailing_zeros w64 (slice_index words q))
lowest_bit words q is first =
    let h = bit_at-trailing_zeros w64 (slice_index words q) first.here (is.fits q) in
    record { word = first.word; before = first.before; bit = h.0; set = h.1; below = h.2 }

-- where some bit is set, some job is in the set
pub some_job : (words : List ℕ) (q k : ℕ) → IsLowestBit words q k → members words ≡ [] → ⊥
some_job words q k low e = no_member (job_at q k) (subst (λ (xs : List ℕ). Contains xs (job_at q k)) e (in_members words (job_at q k) (omega arith, omega (arith, low.word, low.bit)) (bit_of_at words q k low.bit ∙ low.set)))

-- the bits of a word that are not set in another one
abbrev pub word_rest : List ℕ → List ℕ → ℕ → ℕ
word_rest part whole q = bit_and (slice_index part q) (bit_not w64 (slice_index whole q))

-- a set is a part of another where no word has a bit that the other has not
pub subset_from_words : (part whole : List ℕ) → AreWords whole → AreBitsWithin part whole → IsSubset (members part) (members whole)
subset_from_words part whole is none job c =
    let number : IsNumber 512 job = number_of_member part job c in
    let q : ℕ = place job / 64 in
    let k : ℕ = place job % 64 in
    let off : bit_at (word_rest part whole q) k ≡ 0 = ap (λ n. bit_at n k) (none q (omega (arith, number.0, number.1))) ∙ bit_at-zero k in
    let mine : bit_at (slice_index part q) k ≡ 1 = bit_of_member part job c in
    let rest : bit_at (word_rest part whole q) k ≡ min (bit_at (slice_index part q) k) (bit_at (bit_not w64 (slice_index whole q)) k) = bit_at_and (slice_index part q) (bit_not w64 (slice_index whole q)) k in
    let other : bit_at (bit_not w64 (slice_index whole q)) k ≡ 1 - bit_at (slice_index whole q) k = bit_at_not w64 (slice_index whole q) k (is.fits q) (omega arith) in
    elim (bit_cases (slice_index whole q) k) [
      | inl none' ↦ absurd (omega arith)
      | inr one ↦ in_members whole job number one
    ]

-- and only then
pub words_from_subset : (part whole : List ℕ) → AreWords part → AreWords whole → IsSubset (members part) (members whole) → AreBitsWithin part whole
words_from_subset part whole ip iw sub q l = word_zero (word_rest part whole q) (omega (arith, ip.fits q, and_le_l (slice_index part q) (bit_not w64 (slice_index whole q)))) (λ i small one.
    let rest : bit_at (word_rest part whole q) i ≡ min (bit_at (slice_index part q) i) (bit_at (bit_not w64 (slice_index whole q)) i) = bit_at_and (slice_index part q) (bit_not w64 (slice_index whole q)) i in
    let other : bit_at (bit_not w64 (slice_index whole q)) i ≡ 1 - bit_at (slice_index whole q) i = bit_at_not w64 (slice_index whole q) i (iw.fits q) small in
    let mine : bit_at (slice_index part q) i ≡ 1 = omega (arith, bit_at-lt (slice_index part q) i) in
    let theirs : bit_at (slice_index whole q) i ≡ 0 = omega arith in
    let there : Contains (members whole) (job_at q i) = sub (job_at q i) (in_members part (job_at q i) (omega arith, omega arith) (bit_of_at part q i small ∙ mine)) in
    omega (arith, bit_of_member whole (job_at q i) there, bit_of_at whole q i small))

-- sets of the same jobs have the same words
pub same_words : (a b : List ℕ) → AreWords a → AreWords b → members a ≡ members b → a ≡ b
same_words a b ia ib e = same_number_lists a b (ia.eight ∙ sym ib.eight) (λ q l. same_from_bits_below 64 (slice_index a q) (slice_index b q) (ia.fits q) (ib.fits q) (λ i small. same_bit q i (omega (arith, l, ia.eight)) small))
  where
    same_bit : (q i : ℕ) → q < 8 → i < 64 → word_bit a q i ≡ word_bit b q i
    same_bit q i l small = elim (bit_cases (slice_index a q) i) [
      | inr one ↦
          let there : Contains (members b) (job_at q i) = subst (λ (xs : List ℕ). Contains xs (job_at q i)) e (in_members a (job_at q i) (omega arith, omega arith) (bit_of_at a q i small ∙ one)) in
          one ∙ sym (sym (bit_of_at b q i small) ∙ bit_of_member b (job_at q i) there)
      | inl off ↦ elim (bit_cases (slice_index b q) i) [
        | inl also ↦ off ∙ sym also
        | inr one ↦
            let here : Contains (members a) (job_at q i) = subst (λ (xs : List ℕ). Contains xs (job_at q i)) (sym e) (in_members b (job_at q i) (omega arith, omega arith) (bit_of_at b q i small ∙ one)) in
            absurd (omega (arith, bit_of_member a (job_at q i) here, bit_of_at a q i small))
      ]
    ]
