-- The first row that passes a test.
use Rattle.std.proofs.Common.{◌≡◌, refl, ℕ, ◌<◌, ◌≤◌, Bool, true, false, ltb, List, [], ◌∷◌, length, get_or, Option, Some, None, arith}
use Rattle.std.proofs.lemmas.List.Sums.{position_or_len_is}
use Rattle.std.specs.Prelude.{position}
use Rattle.std.specs.List.{position_or_len}
use borrow.Author.Tests.{lt-ltb, le-ltb}
use Rattle.racp_tables.specs.declared.row.Row.{Row}

pub position_found : (test : Row → Bool) (rows : List Row) (i : ℕ) (d : Row) → i < length rows → ((k : ℕ) (e : Row) → k < i → test (get_or rows k e) ≡ false) →
    test (get_or rows i d) ≡ true → ◌≡◌ {A = Option ℕ} (Some i) (position test rows)
position_found test rows i d within before here =
    let at : position_or_len test rows ≡ i = position_or_len_is test rows i d (omega (arith, within)) (λ k below. before k d below) (λ _. here) in
    let yes : ltb i (length rows) ≡ true = lt-ltb i (length rows) within in
    rw (at, yes) refl

none_with : (test : Row → Bool) (rows : List Row) (i : ℕ) (d : Row) → length rows ≤ i → ((k : ℕ) (e : Row) → k < i → test (get_or rows k e) ≡ false) →
    ◌≡◌ {A = Option ℕ} None (position test rows)
none_with test rows i d past before =
    let at : position_or_len test rows ≡ length rows =
    position_or_len_is test rows (length rows) d (omega arith) (λ k below. before k d (omega (arith, below, past))) (λ within. absurd (omega (arith, within))) in
    let no_place : ltb (length rows) (length rows) ≡ false = le-ltb (length rows) (length rows) (omega arith) in
    rw (at, no_place) refl

pub position_none : (test : Row → Bool) (rows : List Row) (i : ℕ) → length rows ≤ i → ((k : ℕ) (e : Row) → k < i → test (get_or rows k e) ≡ false) →
    ◌≡◌ {A = Option ℕ} None (position test rows)
position_none test [] i past before = refl
position_none test (row ∷ rows) i past before = none_with test (row ∷ rows) i row past before
