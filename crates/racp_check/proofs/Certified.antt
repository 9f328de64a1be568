-- A certificate, told by the vectors of its blocks.
use Rattle.std.proofs.Common.{◌≡◌, ◌↔◌, inl, inr, ◌∙◌, ℕ, zero, suc, ◌+◌, ◌<◌, List, [], ◌∷◌, ◌++◌, length, slice_index, slice_index_or, Contains, All, IsTrue, true, false, arith, refl, sym, subst, ap}
use Rattle.std.specs.Prelude.{Vec}
use Rattle.std.specs.Global.{Global}
use Rattle.std.proofs.lemmas.List.{ext_get_or}
use Rattle.std.proofs.lemmas.List.Elements.{All-nil, All-cons, All-head, All-tail}
use Rattle.racp_model.specs.Project.{Project, IsSound}
use Rattle.racp_model.specs.Path.{IsEarly, IsLate}
use Rattle.racp_model.specs.Terms.{Terms, release_of, due_of}
use Rattle.racp_model.specs.Plan.{IsTooLong, IsTooLateAt}
use Rattle.racp_model.specs.Window.{Bounds, IsRootWindow}
use Rattle.racp_model.specs.Formed.{HasBounds}
use Rattle.racp_model.proofs.lemmas.Relations.{member_cases, member_first, member_later, no_member}
use Rattle.racp_cpm.specs.Laws.{CriticalIsGreatestFinish}
use Rattle.racp_prices.specs.Units.{AreMostUnits}
use Rattle.racp_trees.specs.Trees.{node_count, divided}
use Rattle.racp_trees.specs.Texts.{Block}
use Rattle.racp_trees.specs.Certificates.{AllHold, HasBlocks, rows_of, vectors_of, IsCertificate}
use Rattle.racp_trees.specs.Enough.{AreEnoughBlocks}
use Rattle.racp_check.specs.Leastness.{IsLongEnough}

-- there is one root window
early_one : (p : Project) (release : ℕ → ℕ) (a b : List ℕ) → IsEarly p release a → IsEarly p release b → a ≡ b
early_one p release a b h k = ext_get_or 0 a b (h.places ∙ sym k.places) (λ i l. omega (arith, h.least b k.above k.precedence i (omega (arith, l, h.places)), k.least a h.above h.precedence i (omega (arith, l, h.places))))

late_one : (p : Project) (due : ℕ → ℕ) (a b : List ℕ) → IsLate p due a → IsLate p due b → a ≡ b
late_one p due a b h k = ext_get_or 0 a b (h.places ∙ sym k.places) (λ i l. omega (arith, h.greatest b k.ends k.precedence i (omega (arith, l, h.places)), k.greatest a h.ends h.precedence i (omega (arith, l, h.places))))

root_one : (p : Project) (release due : ℕ → ℕ) (a b : Bounds) → IsRootWindow p release due a → IsRootWindow p release due b → a ≡ b
root_one p release due a b h k =
    let lower = early_one p release a.lower b.lower h.early k.early in
    let upper = late_one p due a.upper b.upper h.late k.late in
    λ i. record { lower = lower i; upper = upper i }

-- vectors, as the program has them and as they are
row_in : (found : List (Vec ℕ Global)) (row : Vec ℕ Global) → Contains found row → Contains (rows_of found) row.items
row_in [] row c = absurd (no_member row c)
row_in (x ∷ xs) row c = elim (member_cases x xs row c) [
  | inl same ↦ member_first x.items (rows_of xs) row.items (ap (λ (r : Vec ℕ Global). r.items) same)
  | inr later ↦ member_later x.items (rows_of xs) row.items (row_in xs row later)
]

row_from : (found : List (Vec ℕ Global)) (vector : List ℕ) → Contains (rows_of found) vector → (row : Vec ℕ Global) × Contains found row × (row.items ≡ vector)
row_from [] vector c = absurd (no_member vector c)
row_from (x ∷ xs) vector c = elim (member_cases x.items (rows_of xs) vector c) [
  | inl same ↦ (x, member_first x xs x refl, same)
  | inr later ↦ let h = row_from xs vector later in (h.0, member_later x xs h.0 h.1, h.2)
]

-- vectors of a block for each resource
vectors_sized : (p : Project) (root : Bounds) (closed : _) (n : ℕ) (blocks : List Block) → AllHold p root closed n blocks → All (λ (v : List ℕ). length v ≡ p.resources) (vectors_of blocks)
vectors_sized p root closed n [] h = All-nil (λ (v : List ℕ). length v ≡ p.resources)
vectors_sized p root closed n (block ∷ blocks) h =
    All-cons (λ (v : List ℕ). length v ≡ p.resources) block.vector (vectors_of blocks) h.0 (vectors_sized p root (divided n block.tree ++ closed) (n + node_count block.tree) blocks h.2)

row_sized : (m : ℕ) (found : List (Vec ℕ Global)) → All (λ (v : List ℕ). length v ≡ m) (rows_of found) → (k : ℕ) → k < length found → (d : Vec ℕ Global) → length (slice_index_or found k d).items ≡ m
row_sized m [] h k l d = absurd (omega (arith, l))
row_sized m (x ∷ xs) h zero l d = All-head (λ (v : List ℕ). length v ≡ m) x.items (rows_of xs) h
row_sized m (x ∷ xs) h (suc k) l d = row_sized m xs (All-tail (λ (v : List ℕ). length v ≡ m) x.items (rows_of xs) h) k (omega (arith, l)) d

pub root_bounds : (p : Project) (release due : ℕ → ℕ) (root : Bounds) → IsRootWindow p release due root → HasBounds p root
root_bounds p release due root h = record { lower = h.early.places; upper = h.late.places }

module _ (p : Project) (terms : Terms) (capacities text : List ℕ) where
  -- what is no certificate
  pub no_certificate : (IsCertificate p terms capacities text → ⊥) → IsTrue false ↔ IsCertificate p terms capacities text
  no_certificate none = (λ (x : IsTrue false). let clash : false ≡ true = x in cc clash, λ h. absurd (none h))

  -- a certificate's critical length is at most the deadline
  pub long_enough : CriticalIsGreatestFinish → IsSound p → IsCertificate p terms capacities text → IsLongEnough p terms
  long_enough finish sound h critical is =
      let last = (finish p (release_of terms) h.root.lower critical sound h.is_root.early).0 is in
      omega (arith, last.some.2, h.is_root.ends last.some.0 last.some.1)

  pub not_too_long : CriticalIsGreatestFinish → IsSound p → (critical : ℕ) → IsTooLong p terms critical → IsCertificate p terms capacities text → ⊥
  not_too_long finish sound critical long h = omega (arith, long.exceeds, long_enough finish sound h critical long.length)

  pub not_too_late : (i : ℕ) → IsTooLateAt p terms i → IsCertificate p terms capacities text → ⊥
  not_too_late i late h =
      let early = late.late.1 in
      let first = late.late.2 in
      omega (arith, early.least h.root.lower h.is_root.early.above h.is_root.early.precedence i first.job, h.is_root.ends i first.job, first.late)

  module _ (root : Bounds) (is : IsRootWindow p (release_of terms) (due_of terms) root) where
    blocks_of : (h : IsCertificate p terms capacities text) → HasBlocks p root (vectors_of h.blocks) text
    blocks_of h = subst (λ (w : Bounds). HasBlocks p w (vectors_of h.blocks) text) (root_one p (release_of terms) (due_of terms) h.root root h.is_root is) (record { blocks = h.blocks; with_text = h.with_text; small = h.small; hold = h.hold; with_vectors = refl })

    -- a text without blocks is none
    pub no_blocks : ((vectors : List (List ℕ)) → HasBlocks p root vectors text → ⊥) → IsCertificate p terms capacities text → ⊥
    no_blocks none h = none (vectors_of h.blocks) (blocks_of h)

    module _ (found : List (Vec ℕ Global)) (told : (vectors : List (List ℕ)) → HasBlocks p root vectors text ↔ (rows_of found ≡ vectors)) where
      abbrev has : HasBlocks p root (rows_of found) text
      has = (told (rows_of found)).1 refl

      pub blocks_sized : (k : ℕ) → k < length found → (d : Vec ℕ Global) → length (slice_index_or found k d).items ≡ p.resources
      blocks_sized = row_sized p.resources found (subst (λ (vs : List (List ℕ)). All (λ (v : List ℕ). length v ≡ p.resources) vs) has.with_vectors (vectors_sized p root [] 1 has.blocks has.hold))

      -- it is one exactly where the blocks are enough
      pub certified : (roofs : List ℕ) → AreMostUnits p terms roofs → AreEnoughBlocks p terms roofs capacities found ↔ IsCertificate p terms capacities text
      certified roofs most = (
        λ enough. record {
          root = root;
          blocks = has.blocks;
          is_root = is;
          with_text = has.with_text;
          small = has.small;
          hold = has.hold;
          enough = λ v places below before.
              let h = enough v places (λ k l. omega (arith, below k l, most.each k l)) before in
              (h.0.items, subst (λ (vs : List (List ℕ)). Contains vs h.0.items) (sym has.with_vectors) (row_in found h.0 h.1), h.2);
        },
        λ h v places below before.
            let same = (told (vectors_of h.blocks)).0 (blocks_of h) in
            let above = h.enough v places (λ k l. omega (arith, below k l, most.each k l)) before in
            let row = row_from found above.0 (subst (λ (vs : List (List ℕ)). Contains vs above.0) (sym same) above.1) in
            (row.0, row.1, λ k l. omega (arith, above.2 k l, ap (λ (xs : List ℕ). slice_index xs k) row.2)),
      )
