-- Reading things one after another: what was read, and what is left to read.
use Rattle.std.proofs.Common.{◌≡◌, refl, sym, ◌∙◌, ap, ℕ, suc, ◌+◌, ◌-◌, ◌<◌, ◌≤◌, List, [], ◌++◌, arith, Ok, Err, append_assoc, append-nil}
use Rattle.std.specs.Prelude.{Result}
use Rattle.racp_model.specs.Steps.{◌>>=◌}

-- what reading gives: things, and what is left behind them
abbrev pub Read : Type 0 → Type 0 → Type 0 → Type 0
Read X R E = Result (List X × R) E

-- these things before those that are read
abbrev pub with_front : {X R E : Type 0} → List X → Read X R E → Read X R E
with_front front (Ok read) = Ok (front ++ read.0, read.1)
with_front front (Err fault) = Err fault

pub front-none : {X R E : Type 0} (r : Read X R E) → with_front [] r ≡ r
front-none (Ok read) = refl
front-none (Err fault) = refl

pub front-twice : {X R E : Type 0} (xs ys : List X) (r : Read X R E) → with_front xs (with_front ys r) ≡ with_front (xs ++ ys) r
front-twice xs ys (Ok read) = ap (λ zs. Ok (zs, read.1)) (sym (append_assoc xs ys read.0))
front-twice xs ys (Err fault) = refl

-- what is read after these things
pub bind-front : {X R E : Type 0} (xs : List X) (r : Read X R E) → (r >>= (λ others. Ok (xs ++ others.0, others.1))) ≡ with_front xs r
bind-front xs (Ok read) = refl
bind-front xs (Err fault) = refl

-- k things were read, are kept like this, and reading goes on: whole is what reading all gives, left k what is still to be
-- read
pub record IsReadingOn {K X R E : Type 0} (keeps : K → List X → Type 0) (whole : Read X R E) (left : ℕ → R → Read X R E) (now : R) (k : ℕ) (kept : K) : Type 0 where
  pub things : List X
  pub are_kept : keeps kept things
  pub read : whole ≡ with_front things (left k now)

pub reading_start : {K X R E : Type 0} (keeps : K → List X → Type 0) (whole : Read X R E) (left : ℕ → R → Read X R E) (start : R) (kept : K) → keeps kept [] → whole ≡ left 0 start →
    IsReadingOn keeps whole left start 0 kept
reading_start keeps whole left start kept none e = record { things = []; are_kept = none; read = e ∙ sym (front-none (left 0 start)) }

-- one step
pub reading_step : {K X R E : Type 0} (keeps : K → List X → Type 0) (whole : Read X R E) (left : ℕ → R → Read X R E) (now new : R) (k : ℕ) (kept grown : K) (more : List X) →
    IsReadingOn keeps whole left now k kept → left k now ≡ with_front more (left (k + 1) new) →
    ((things : List X) → keeps kept things → keeps grown (things ++ more)) → IsReadingOn keeps whole left new (k + 1) grown
reading_step keeps whole left now new k kept grown more h e grows = record {
  things = h.things ++ more;
  are_kept = grows h.things h.are_kept;
  read = h.read ∙ (ap (with_front h.things) e ∙ front-twice h.things more (left (k + 1) new));
}

-- a fault on the way
pub reading_fault : {K X R E : Type 0} (keeps : K → List X → Type 0) (whole : Read X R E) (left : ℕ → R → Read X R E) (now : R) (k : ℕ) (kept : K) (fault : E) →
    IsReadingOn keeps whole left now k kept → left k now ≡ Err fault → whole ≡ Err fault
reading_fault keeps whole left now k kept fault h e = h.read ∙ ap (with_front h.things) e

-- nothing is left
pub reading_end : {K X R E : Type 0} (keeps : K → List X → Type 0) (whole : Read X R E) (left : ℕ → R → Read X R E) (now : R) (k : ℕ) (kept : K) →
    IsReadingOn keeps whole left now k kept → left k now ≡ Ok ([], now) → (things : List X) × (whole ≡ Ok (things, now)) × keeps kept things
reading_end keeps whole left now k kept h e =
    (h.things, h.read ∙ (ap (with_front h.things) e ∙ ap (λ zs. Ok (zs, now)) (append-nil h.things)), h.are_kept)

-- how many are left of a count
pub one_more : (total k : ℕ) → k < total → total - k ≡ suc (total - (k + 1))
one_more total k l = omega (arith, l)

pub all_more : (total : ℕ) → total ≡ total - 0
all_more total = omega arith

pub no_more : (total k : ℕ) → total ≤ k → total - k ≡ 0
no_more total k l = omega (arith, l)
