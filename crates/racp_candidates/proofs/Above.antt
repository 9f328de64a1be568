-- Vectors are taken off a list up to the first that no pair excludes.
use Rattle.std.proofs.Common.{◌≡◌, ℕ, ◌<◌, Bool, true, false, cond, List, [], ◌∷◌, length, arith, refl, sym, ◌∙◌, ap, subst, Contains}
use Rattle.std.specs.Prelude.{Option, Some, Ok, Vec}
use Rattle.std.specs.declared.alloc.Global.{Global}
use Rattle.std.specs.List.{filter}
use Rattle.std.proofs.lemmas.List.Elements.{All-rest, All-contains}
use Rattle.racp_model.proofs.lemmas.Relations.{member_first}
use Rattle.racp_candidates.specs.Vectors.{is_above_pairs, vectors_above, HavePlaces, IsNextVector}

module _ (floors : List ℕ) (pairs : List (ℕ × ℕ)) where
  pub above_skipped : (old new : List (List ℕ)) (v : List ℕ) → old ≡ v ∷ new → is_above_pairs floors pairs v ≡ false → vectors_above floors pairs old ≡ vectors_above floors pairs new
  unfolding vectors_above
  above_skipped old new v e no_one = ap (filter (is_above_pairs floors pairs)) e ∙ ap (λ (b : Bool). cond b (v ∷ filter (is_above_pairs floors pairs) new) (filter (is_above_pairs floors pairs) new)) no_one

  pub above_taken : (old new : List (List ℕ)) (v : List ℕ) → old ≡ v ∷ new → is_above_pairs floors pairs v ≡ true → vectors_above floors pairs old ≡ v ∷ vectors_above floors pairs new
  unfolding vectors_above
  above_taken old new v e passes = ap (filter (is_above_pairs floors pairs)) e ∙ ap (λ (b : Bool). cond b (v ∷ filter (is_above_pairs floors pairs) new) (filter (is_above_pairs floors pairs) new)) passes

  pub above_none : (old : List (List ℕ)) → old ≡ [] → vectors_above floors pairs old ≡ []
  unfolding vectors_above
  above_none old e = ap (filter (is_above_pairs floors pairs)) e

  pub places_first : (old new : List (List ℕ)) (v : List ℕ) → old ≡ v ∷ new → HavePlaces floors old → length v ≡ length floors
  places_first old new v e h =
      let P : List ℕ → Type 0 = λ w. length w ≡ length floors in
      All-contains P old v h (subst (λ (vs : List (List ℕ)). Contains vs v) (sym e) (member_first v new v refl))

  pub places_rest : (old new : List (List ℕ)) (v : List ℕ) → old ≡ v ∷ new → HavePlaces floors old → HavePlaces floors new
  places_rest old new v e h = let P : List ℕ → Type 0 = λ w. length w ≡ length floors in All-rest P v new old e h

  pub shorter : (old new : List (List ℕ)) (v : List ℕ) → old ≡ v ∷ new → length new < length old
  shorter old new v e = let same : length old ≡ length (v ∷ new) = ap length e in omega (arith, same)

-- the vector that was taken off is the first
pub taken_is : (old new : List (List ℕ)) (answer : Option (Vec ℕ Global)) (v : Vec ℕ Global) → IsNextVector old new (Ok answer) → answer ≡ Some v → old ≡ v.items ∷ new
taken_is old new answer v h e = let P : Option (Vec ℕ Global) → Type 0 = λ o. IsNextVector old new (Ok o) in subst P e h
