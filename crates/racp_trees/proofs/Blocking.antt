-- The blocks of a certificate, one after another.
use Rattle.std.proofs.Common.{◌≡◌, ◌↔◌, inl, inr, ◌∙◌, ℕ, ◌≤◌, List, [], ◌∷◌, ◌++◌, length, Contains, arith, refl, sym, subst, ap, append_assoc, get_or, codes}
use Rattle.std.specs.Prelude.{flat_map}
use Rattle.std.specs.Fmt.{decimal}
use Rattle.std.proofs.lemmas.List.{append_cancel_left}
use Rattle.std.proofs.lemmas.List.Elements.{All-head, All-tail}
use Rattle.racp_model.specs.Project.{Project}
use Rattle.racp_model.specs.Window.{Bounds}
use Rattle.racp_model.proofs.lemmas.Relations.{member_cases, member_first, member_later, no_member}
use Rattle.racp_plan.proofs.lemmas.Numbers.{same_number, feed_is_no_digit, blank_is_no_digit}
use Rattle.racp_cutset.specs.Covering.{SearchNode}
use Rattle.racp_trees.specs.Trees.{Hold}
use Rattle.racp_trees.specs.Texts.{Block, HasSmallNumbers, most_number, vector_line, tree_text, block_text, last_line}
use Rattle.racp_trees.specs.Certificates.{AllHold, vectors_of}
use Rattle.racp_trees.specs.Following.{IsNext, IsRest}
use Rattle.racp_trees.specs.Readers.{rest_of}
use Rattle.racp_trees.proofs.Spelling.{AreSmall, ended, vector_ended, blank_then, last_number}

-- two vectors of one length are read from one text
ended_same : (u v x y : List ℕ) → length u ≡ length v → AreSmall u → AreSmall v → ended u x ≡ ended v y → (u ≡ v) × (x ≡ y)
ended_same [] [] x y size a b e = (refl, cc e)
ended_same [] (n ∷ v) x y size a b e = absurd (omega (arith, size))
ended_same (m ∷ u) [] x y size a b e = absurd (omega (arith, size))
ended_same (m ∷ []) (n ∷ []) x y size a b e =
    let r = same_number m n x y 10 (omega (arith, All-head (λ k. k ≤ most_number) m [] a)) (omega (arith, All-head (λ k. k ≤ most_number) n [] b)) feed_is_no_digit (sym (last_number m x) ∙ (e ∙ last_number n y)) in
    (ap (λ k. k ∷ []) r.0, r.1)
ended_same (m ∷ []) (n ∷ (l ∷ v)) x y size a b e = absurd (omega (arith, size))
ended_same (m ∷ (k ∷ u)) (n ∷ []) x y size a b e = absurd (omega (arith, size))
ended_same (m ∷ (k ∷ u)) (n ∷ (l ∷ v)) x y size a b e =
    let first = ap (λ (xs : List ℕ). decimal m ++ xs) (blank_then k u x) in
    let second = ap (λ (xs : List ℕ). decimal n ++ xs) (blank_then l v y) in
    let r = same_number m n (ended (k ∷ u) x) (ended (l ∷ v) y) 32 (omega (arith, All-head (λ i. i ≤ most_number) m (k ∷ u) a)) (omega (arith, All-head (λ i. i ≤ most_number) n (l ∷ v) b)) blank_is_no_digit (sym first ∙ (e ∙ second)) in
    let others = ended_same (k ∷ u) (l ∷ v) x y (omega (arith, size)) (All-tail (λ i. i ≤ most_number) m (k ∷ u) a) (All-tail (λ i. i ≤ most_number) n (l ∷ v) b) r.1 in
    (ap (λ i. i ∷ (k ∷ u)) r.0 ∙ ap (λ (xs : List ℕ). n ∷ xs) others.0, others.1)

pub one_vector : (u v x y : List ℕ) → 1 ≤ length u → length u ≡ length v → AreSmall u → AreSmall v → vector_line u ++ x ≡ vector_line v ++ y → (u ≡ v) × (x ≡ y)
one_vector [] v x y some size a b e = absurd (omega (arith, some))
one_vector (m ∷ u) [] x y some size a b e = absurd (omega (arith, size))
one_vector (m ∷ u) (n ∷ v) x y some size a b e =
    ended_same (m ∷ u) (n ∷ v) x y size a b (append_cancel_left (codes "vector ") (ended (m ∷ u) x) (ended (n ∷ v) y) (sym (vector_ended m u x) ∙ (e ∙ vector_ended n v y)))

-- the first letters of lines
vector_letter : (v x : List ℕ) → get_or (vector_line v ++ x) 0 0 ≡ 118
unfolding vector_line
vector_letter v x = refl

last_letter : (x : List ℕ) → get_or (last_line ++ x) 0 0 ≡ 101
unfolding last_line
last_letter x = refl

-- a block, and what follows
block_then : (block : Block) (blocks : List Block) → flat_map block_text (block ∷ blocks) ++ last_line ≡ vector_line block.vector ++ (tree_text block.tree ++ (flat_map block_text blocks ++ last_line))
unfolding block_text
block_then block blocks =
    append_assoc (vector_line block.vector ++ tree_text block.tree) (flat_map block_text blocks) last_line ∙ append_assoc (vector_line block.vector) (tree_text block.tree) (flat_map block_text blocks ++ last_line)

no_more : {X : Type 0} (xs : List X) → xs ++ [] ≡ xs
no_more [] = refl
no_more {X} (x ∷ xs) = ap (λ (ys : List X). x ∷ ys) (no_more xs)

module _ (p : Project) (wanted : List (List ℕ)) (root : Bounds) (vectors : List (List ℕ)) (closed : List (ℕ × SearchNode)) (n : ℕ) where
  abbrev Rest : List ℕ → Type 0
  Rest text = IsRest p wanted root vectors closed n text

  -- a block is next
  module _ (a more : List ℕ) (some : 1 ≤ p.resources) (places : length a ≡ p.resources) (small : AreSmall a) where
    abbrev Next : Type 0
    Next = IsNext p a (rest_of p wanted root (vectors ++ a ∷ [])) closed n root [] more

    there : Rest (vector_line a ++ more) → Next
    there h = go h.blocks h.whole h.small h.hold h.all
      where
        go : (blocks : List Block) → vector_line a ++ more ≡ flat_map block_text blocks ++ last_line → ((block : Block) → Contains blocks block → HasSmallNumbers block) → AllHold p root closed n blocks → vectors ++ vectors_of blocks ≡ wanted → Next
        go [] e little hold enough = absurd (omega (arith, vector_letter a more, ap (λ (xs : List ℕ). get_or xs 0 0) (e ∙ sym (no_more last_line)), last_letter []))
        go (block ∷ blocks) e little hold enough =
            let own = little block (member_first block blocks block refl) in
            let is = one_vector a block.vector more (tree_text block.tree ++ (flat_map block_text blocks ++ last_line)) (omega (arith, some, places)) (places ∙ sym hold.0) small own.vector (e ∙ block_then block blocks) in (
              block.tree,
              flat_map block_text blocks ++ last_line,
              record { holds = subst (λ (xs : List ℕ). Hold p xs closed n (root ∷ []) block.tree) (sym is.0) hold.1; small = own.lines; whole = is.1 },
              record {
                blocks = blocks;
                whole = refl;
                small = λ x c. little x (member_later block blocks x c);
                hold = hold.2;
                all = subst (λ (vs : List (List ℕ)). vs ≡ wanted) (ap (λ (v : List ℕ). vectors ++ v ∷ vectors_of blocks) (sym is.0) ∙ sym (append_assoc vectors (a ∷ []) (vectors_of blocks))) enough;
              },
            )

    back : Next → Rest (vector_line a ++ more)
    back h =
        let block : Block = record { vector = a; tree = h.0 } in
        let rest = h.3 in
        record {
          blocks = block ∷ rest.blocks;
          whole = ap (λ (xs : List ℕ). vector_line a ++ xs) (h.2.whole ∙ ap (λ (xs : List ℕ). tree_text h.0 ++ xs) rest.whole) ∙ sym (block_then block rest.blocks);
          small = λ x c. elim (member_cases block rest.blocks x c) [
            | inl here ↦ subst (λ (z : Block). HasSmallNumbers z) here (record { vector = small; lines = h.2.small })
            | inr later ↦ rest.small x later
          ];
          hold = (places, h.2.holds, rest.hold);
          all = subst (λ (vs : List (List ℕ)). vs ≡ wanted) (append_assoc vectors (a ∷ []) (vectors_of rest.blocks)) rest.all;
        }

    pub block_next : Rest (vector_line a ++ more) ↔ Next
    block_next = (there, back)

  -- the last line
  pub last_is : (left : List ℕ) → Rest (last_line ++ left) ↔ ((left ≡ []) × (vectors ≡ wanted))
  last_is left = (
    λ h. go h.blocks h.whole h.all,
    λ h. record {
      blocks = [];
      whole = ap (λ (xs : List ℕ). last_line ++ xs) h.0 ∙ no_more last_line;
      small = λ x c. absurd (no_member x c);
      hold = tt;
      all = subst (λ (vs : List (List ℕ)). vs ≡ wanted) (sym (no_more vectors)) h.1;
    },
  )
    where
      go : (blocks : List Block) → last_line ++ left ≡ flat_map block_text blocks ++ last_line → vectors ++ vectors_of blocks ≡ wanted → (left ≡ []) × (vectors ≡ wanted)
      go [] e enough = (append_cancel_left last_line left [] (e ∙ sym (no_more last_line)), subst (λ (vs : List (List ℕ)). vs ≡ wanted) (no_more vectors) enough)
      go (block ∷ blocks) e enough = absurd (omega (arith, last_letter left, ap (λ (xs : List ℕ). get_or xs 0 0) (e ∙ block_then block blocks), vector_letter block.vector (tree_text block.tree ++ (flat_map block_text blocks ++ last_line))))

  -- no block is next
  pub only_last : (text : List ℕ) → ((vector rest : List ℕ) → length vector ≡ p.resources → AreSmall vector → text ≡ vector_line vector ++ rest → ⊥) → Rest text → text ≡ last_line
  only_last text block h = go h.blocks h.whole h.small h.hold
    where
      go : (blocks : List Block) → text ≡ flat_map block_text blocks ++ last_line → ((block : Block) → Contains blocks block → HasSmallNumbers block) → AllHold p root closed n blocks → text ≡ last_line
      go [] e little hold = e
      go (b ∷ blocks) e little hold = absurd (block b.vector (tree_text b.tree ++ (flat_map block_text blocks ++ last_line)) hold.0 (little b (member_first b blocks b refl)).vector (e ∙ block_then b blocks))
