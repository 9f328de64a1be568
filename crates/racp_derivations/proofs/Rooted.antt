-- There are root bounds of an order exactly if some starts are in time, and one of them only.
use Rattle.std.proofs.Common.{◌≡◌, ◌↔◌, sym, ◌∙◌, ap, subst, refl, ℕ, zero, suc, List, length, slice_index, IsTrue, Bool, arith}
use Rattle.std.specs.Prelude.{replicate}
use Rattle.std.proofs.lemmas.List.{ext_get_or, length-replicate}
use Rattle.racp_model.specs.Project.{Project}
use Rattle.racp_model.specs.Path.{IsEarly, IsLate}
use Rattle.racp_model.specs.Terms.{Terms, release_of, due_of}
use Rattle.racp_model.specs.Window.{Bounds, IsRootWindow}
use Rattle.racp_prices.specs.Units.{AreMostUnits}
use Rattle.racp_cpm.specs.Ends.{HasNoRoot}
use Rattle.racp_clauses.specs.Solutions.{values}
use Rattle.racp_clauses.specs.Roots.{AreNeeded, IsRootOf}
use Rattle.racp_derivations.specs.Texts.{IsOrderRoot, ShowsIn, IsDerivationText}

early-one : (p : Project) (release : ℕ → ℕ) (a b : List ℕ) → IsEarly p release a → IsEarly p release b → a ≡ b
early-one p release a b h k = ext_get_or 0 a b (h.places ∙ sym k.places) (λ i l. omega (arith, h.least b k.above k.precedence i (omega (arith, l, h.places)), k.least a h.above h.precedence i (omega (arith, l, h.places))))

late-one : (p : Project) (due : ℕ → ℕ) (a b : List ℕ) → IsLate p due a → IsLate p due b → a ≡ b
late-one p due a b h k = ext_get_or 0 a b (h.places ∙ sym k.places) (λ i l. omega (arith, h.greatest b k.ends k.precedence i (omega (arith, l, h.places)), k.greatest a h.ends h.precedence i (omega (arith, l, h.places))))

most-one : (p : Project) (terms : Terms) (a b : List ℕ) → AreMostUnits p terms a → AreMostUnits p terms b → a ≡ b
most-one p terms a b h k = ext_get_or 0 a b (h.places ∙ sym k.places) (λ i l. h.each i (omega (arith, l, h.places)) ∙ sym (k.each i (omega (arith, l, h.places))))

-- one only
pub root-one : (p : Project) (terms : Terms) (a b : Bounds) → IsOrderRoot p terms a → IsOrderRoot p terms b → a ≡ b
root-one p terms a b h k =
    let early = early-one p (release_of terms) h.window.lower k.window.lower h.is_window.early k.is_window.early in
    let late = late-one p (due_of terms) h.window.upper k.window.upper h.is_window.late k.is_window.late in
    let most = most-one p terms h.is.most.0 k.is.most.0 h.is.most.1 k.is.most.1 in
    let lower : a.lower ≡ b.lower = h.is.lower ∙ (ap (λ (xs : List ℕ). values terms xs (replicate p.resources 0)) early ∙ sym k.is.lower) in
    let upper : a.upper ≡ b.upper =
    h.is.most.2 ∙ (ap (λ (xs : List ℕ). values terms xs h.is.most.0) late ∙ (ap (λ (xs : List ℕ). values terms k.window.upper xs) most ∙ sym k.is.most.2)) in
    λ i. record { lower = lower i; upper = upper i }

-- none without a root window
pub no-root : (p : Project) (terms : Terms) (root : Bounds) → HasNoRoot p (release_of terms) (due_of terms) → IsOrderRoot p terms root → ⊥
no-root p terms root none h =
    let same = early-one p (release_of terms) h.window.lower none.0 h.is_window.early none.1 in
    let late = none.3 in
    omega (arith, late.late, h.is_window.ends none.2 late.job, ap (λ (xs : List ℕ). slice_index xs none.2) same)

-- floors of 0
zeros-at : (n k : ℕ) → slice_index (replicate n 0) k ≡ 0
zeros-at zero k = refl
zeros-at (suc n) zero = refl
zeros-at (suc n) (suc k) = zeros-at n k

pub zeros-needed : (p : Project) (terms : Terms) (floors : List ℕ) → floors ≡ replicate p.resources 0 → AreNeeded p terms floors
zeros-needed p terms floors e =
    let at : (k : ℕ) → slice_index floors k ≡ 0 = λ k. ap (λ (xs : List ℕ). slice_index xs k) e ∙ zeros-at p.resources k in
    record {
      places = ap (λ (xs : List ℕ). length xs) e ∙ length-replicate p.resources 0;
      roofs = λ k l. omega (arith, at k);
      least = λ a enough k l. omega (arith, at k);
    }

pub zeros-root : (p : Project) (terms : Terms) (window : Bounds) (floors : List ℕ) (root : Bounds) → floors ≡ replicate p.resources 0 → IsRootWindow p (release_of terms) (due_of terms) window →
    IsRootOf p terms window floors root → IsOrderRoot p terms root
zeros-root p terms window floors root e h is = record { window = window; is_window = h; is = subst (λ (xs : List ℕ). IsRootOf p terms window xs root) e is }

-- what is shown from them is shown from those of the order
pub shown-so : (p : Project) (terms : Terms) (root : Bounds) (capacities starts text : List ℕ) → IsOrderRoot p terms root → (yes' : Bool) → IsTrue yes' ↔ ShowsIn p terms root capacities starts text → IsTrue yes' ↔ IsDerivationText p terms capacities starts text
shown-so p terms root capacities starts text is yes' e = (
  λ t. record { root = root; is_root = is; shows = e.0 t },
  λ h. e.1 (subst (λ (b : Bounds). ShowsIn p terms b capacities starts text) (root-one p terms h.root root h.is_root is) h.shows),
)
