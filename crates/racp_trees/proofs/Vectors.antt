-- The vectors of blocks, read one block after another.
use Rattle.std.proofs.Common.{◌≡◌, ◌↔◌, ◌∙◌, ℕ, ◌+◌, ◌^◌, ◌<◌, ◌≤◌, List, [], ◌∷◌, ◌++◌, length, Contains, AllPairs, Bool, IsTrue, true, ◌==◌, arith, refl, sym, subst, ap, append_assoc, length-append, codes}
use Rattle.std.specs.Prelude.{flat_map, Option, Some, None, Result, Ok, Err, IfOk, Vec}
use Rattle.std.specs.Global.{Global}
use Rattle.std.proofs.lemmas.Bool.{eqb-true}
use Rattle.std.proofs.lemmas.List.{append_cancel_left, map-append}
use Rattle.std.proofs.lemmas.List.Elements.{All-contains}
use Rattle.racp_model.specs.Project.{Project}
use Rattle.racp_model.specs.Window.{Bounds}
use Rattle.racp_model.proofs.lemmas.Relations.{all_members, no_member}
use Rattle.racp_cutset.specs.Covering.{SearchNode}
use Rattle.racp_trees.specs.Texts.{Block, HasSmallNumbers, numbers_text, vector_line, block_text, first_line, last_line, proof_text}
use Rattle.racp_trees.specs.Certificates.{HasBlocks, rows_of, IsBlocksAnswer}
use Rattle.racp_trees.specs.Following.{IsNext, IsRest}
use Rattle.racp_trees.specs.Reading.{IsNamed, IsBehind, IsVectorAnswer}
use Rattle.racp_trees.specs.Records.{AreNamed}
use Rattle.racp_trees.specs.Nodes.{HasPlace}
use Rattle.racp_trees.specs.Readers.{open_nodes, HasRead, IsReady, rest_of, AsksNext, HasReadTree, IsTreeAnswer}
use Rattle.racp_trees.specs.Blocks.{IsBetween, HasReadBlock, IsBlockRead, AreBlocksRead}
use Rattle.racp_trees.specs.declared.branch.Branch.{Branch}
use Rattle.racp_trees.specs.declared.reader.Reader.{Reader}
use Rattle.racp_trees.proofs.Spelling.{AreSmall}
use Rattle.racp_trees.proofs.Passing.{named_behind}
use Rattle.racp_trees.proofs.Blocking.{block_next, last_is, only_last}

-- the line of a vector
vector_ends : (vector : List ℕ) → (more : List ℕ) × (vector_line vector ≡ more ++ 10 ∷ [])
unfolding vector_line
vector_ends vector = (codes "vector" ++ numbers_text vector, sym (append_assoc (codes "vector") (numbers_text vector) (10 ∷ [])))

vector_long : (vector : List ℕ) → 0 < length (vector_line vector)
unfolding vector_line
vector_long vector = omega arith

module _ (p : Project) (root : Bounds) (old : Reader) (text : List ℕ) (between : IsBetween p old) where
  -- no block is there
  pub block_missing : (new : Reader) → IsVectorAnswer p.resources text None → IsBlockRead p root old text new None
  block_missing new none wanted vectors nodes h rest = only_last p wanted root vectors nodes old.number text none rest

  -- the vector of a block is there
  module _ (a more : List ℕ) (some : 1 ≤ p.resources) (size : length a ≡ p.resources) (small : AreSmall a) (whole : text ≡ vector_line a ++ more) where
    pub block_ready : IsReady p a old
    block_ready = record { rows = between.rows; branches = λ b c. absurd (no_member b (subst (λ (xs : List Branch). Contains xs b) between.none_open c)) }

    pub block_named : (node : ℕ) → IsNamed more node → IsNamed text node
    block_named node h = named_behind (vector_line a) text more node whole (vector_ends a) h

    asks : (wanted vectors : List (List ℕ)) (nodes : List (ℕ × SearchNode)) → IsRest p wanted root vectors nodes old.number text ↔ AsksNext p a wanted root (vectors ++ a ∷ []) nodes old root.lower more
    asks wanted vectors nodes =
        subst (λ (xs : List ℕ). IsRest p wanted root vectors nodes old.number xs ↔ AsksNext p a wanted root (vectors ++ a ∷ []) nodes old root.lower more) (sym whole)
        (subst (λ (bs : List Branch). IsRest p wanted root vectors nodes old.number (vector_line a ++ more) ↔ IsNext p a (rest_of p wanted root (vectors ++ a ∷ [])) nodes old.number root (open_nodes p a root.upper bs) more) (sym between.none_open)
        (block_next p wanted root vectors nodes old.number a more some size small))

    -- its tree is not
    pub block_fails : (new : Reader) → IsTreeAnswer p a root old more new None → IsBlockRead p root old text new None
    block_fails new none wanted vectors nodes h rest = absurd (none wanted (vectors ++ a ∷ []) nodes h ((asks wanted vectors nodes).0 rest))

    -- its tree is there
    pub block_read : (new : Reader) (rest : List ℕ) → HasReadTree p a root old more new rest → HasReadBlock p root old text new a rest
    block_read new rest t =
        let sizes : length text ≡ length (vector_line a) + length more = ap (λ (xs : List ℕ). length xs) whole ∙ length-append (vector_line a) more in
        let sizes_more : length more ≡ length t.front + length rest = ap (λ (xs : List ℕ). length xs) t.whole ∙ length-append t.front rest in
        record {
          between = record { rows = t.ready.rows; none_open = t.empty };
          places = t.places;
          named = λ node h. block_named node (named_behind t.front more rest node t.whole t.lines h);
          size = size;
          shorter = omega (arith, sizes, sizes_more, vector_long a);
          room = omega (arith, t.room, sizes);
          told = λ wanted vectors nodes h.
              let r = t.told wanted (vectors ++ a ∷ []) nodes h in
              let e = asks wanted vectors nodes in
              (r.0, r.1, (λ x. r.2.0 (e.0 x), λ x. e.1 (r.2.1 x)));
        }

-- blocks are being read: where the reader stands, the vectors so far, and what is left of the text
pub record IsReadingBlocks (p : Project) (root : Bounds) (first : Reader) (text : List ℕ) (now : Reader) (found : List (Vec ℕ Global)) (rest : List ℕ) : Type 0 where
  pub between : IsBetween p now
  pub places : (node : ℕ) → IsNamed rest node → HasPlace now.closed node
  pub room : now.number + length rest < 2 ^ 64
  pub told : (wanted : List (List ℕ)) (nodes : List (ℕ × SearchNode)) → HasRead p root.upper nodes first →
      (later : List (ℕ × SearchNode)) × HasRead p root.upper later now ×
      (IsRest p wanted root [] nodes first.number text ↔ IsRest p wanted root (rows_of found) later now.number rest)

module _ (p : Project) (root : Bounds) (first : Reader) (text : List ℕ) where
  pub reading_starts : IsBetween p first → ((node : ℕ) → IsNamed text node → HasPlace first.closed node) → first.number + length text < 2 ^ 64 → IsReadingBlocks p root first text first [] text
  reading_starts between places room = record { between = between; places = places; room = room; told = λ wanted nodes h. (nodes, h, (λ x. x, λ x. x)) }

  module _ (now : Reader) (found : List (Vec ℕ Global)) (rest : List ℕ) (is : IsReadingBlocks p root first text now found rest) where
    pub reading_on : (new : Reader) (vector : Vec ℕ Global) (more : List ℕ) → HasReadBlock p root now rest new vector.items more → IsReadingBlocks p root first text new (found ++ vector ∷ []) more
    reading_on new vector more h = record {
      between = h.between;
      places = λ node named. h.places node (is.places node (h.named node named));
      room = omega (arith, h.room, is.room);
      told = λ wanted nodes r.
          let so_far = is.told wanted nodes r in
          let next = h.told wanted (rows_of found) so_far.0 so_far.1 in
          let same : rows_of found ++ vector.items ∷ [] ≡ rows_of (found ++ vector ∷ []) = sym (map-append (λ (row : Vec ℕ Global). row.items) found (vector ∷ [])) in (
            next.0,
            next.1,
            subst (λ (vs : List (List ℕ)). IsRest p wanted root [] nodes first.number text ↔ IsRest p wanted root vs next.0 new.number more) same (λ x. next.2.0 (so_far.2.0 x), λ x. so_far.2.1 (next.2.1 x)),
          );
    }

    -- no block is left
    pub reading_ends : rest ≡ last_line → (wanted : List (List ℕ)) (nodes : List (ℕ × SearchNode)) → HasRead p root.upper nodes first → IsRest p wanted root [] nodes first.number text ↔ (rows_of found ≡ wanted)
    reading_ends last wanted nodes r =
        let so_far = is.told wanted nodes r in
        let empty : List ℕ = [] in
        let ends = last_is p wanted root (rows_of found) so_far.0 now.number empty in
        let same : last_line ++ [] ≡ rest = no_more last_line ∙ sym last in
        let here : IsRest p wanted root (rows_of found) so_far.0 now.number rest ↔ ((empty ≡ []) × (rows_of found ≡ wanted)) =
        subst (λ (xs : List ℕ). IsRest p wanted root (rows_of found) so_far.0 now.number xs ↔ ((empty ≡ []) × (rows_of found ≡ wanted))) same ends in
        (λ x. (here.0 (so_far.2.0 x)).1, λ x. so_far.2.1 (here.1 (refl, x)))
      where
        no_more : (xs : List ℕ) → xs ++ [] ≡ xs
        no_more [] = refl
        no_more (x ∷ xs) = ap (λ (ys : List ℕ). x ∷ ys) (no_more xs)

    pub reading_breaks : (new : Reader) → IsBlockRead p root now rest new None → (rest ≡ last_line → ⊥) → (wanted : List (List ℕ)) (nodes : List (ℕ × SearchNode)) → HasRead p root.upper nodes first → IsRest p wanted root [] nodes first.number text → ⊥
    reading_breaks new none other wanted nodes r x =
        let so_far = is.told wanted nodes r in
        other (none wanted (rows_of found) so_far.0 so_far.1 (so_far.2.0 x))

-- the last line alone
pub last_alone : (text rest : List ℕ) (empty : Bool) → text ≡ codes "end\n" ++ rest → empty ≡ (length rest == 0) → IsTrue empty ↔ (text ≡ last_line)
unfolding last_line
last_alone text [] empty whole e = (λ h. whole, λ same. e)
last_alone text (x ∷ rest) empty whole e = (λ h. absurd (omega (arith, size (length (x ∷ rest)) (sym h ∙ e))), λ same. absurd (omega (arith, ap (λ (xs : List ℕ). length xs) (sym whole ∙ same))))
  where
    size : (n : ℕ) → true ≡ (n == 0) → n ≡ 0
    size n e = eqb-true n 0 (sym e)

pub last_not : (text : List ℕ) → ((rest : List ℕ) → text ≡ codes "end\n" ++ rest → ⊥) → text ≡ last_line → ⊥
unfolding last_line
last_not text none same = none [] same

-- the first line
proof_is : (blocks : List Block) → proof_text blocks ≡ codes "proof\n" ++ (flat_map block_text blocks ++ last_line)
unfolding proof_text first_line
proof_is blocks = refl

module _ (p : Project) (root : Bounds) (text : List ℕ) where
  pub no_first_line : IsBehind (codes "proof\n") text None → (vectors : List (List ℕ)) → HasBlocks p root vectors text → ⊥
  no_first_line none vectors h = none (flat_map block_text h.blocks ++ last_line) (h.with_text ∙ proof_is h.blocks)

  rest_is : (rest : List ℕ) (vectors : List (List ℕ)) → text ≡ codes "proof\n" ++ rest → HasBlocks p root vectors text ↔ IsRest p vectors root [] [] 1 rest
  rest_is rest vectors whole = (
    λ h. record {
      blocks = h.blocks;
      whole = append_cancel_left (codes "proof\n") rest (flat_map block_text h.blocks ++ last_line) (sym whole ∙ (h.with_text ∙ proof_is h.blocks));
      small = λ b c. All-contains HasSmallNumbers h.blocks b h.small c;
      hold = h.hold;
      all = h.with_vectors;
    },
    λ h. record {
      blocks = h.blocks;
      with_text = whole ∙ (ap (λ (xs : List ℕ). codes "proof\n" ++ xs) h.whole ∙ sym (proof_is h.blocks));
      small = all_members HasSmallNumbers h.blocks h.small;
      hold = h.hold;
      with_vectors = h.all;
    },
  )

  -- nothing was read before the first block
  none_read : (rest : List ℕ) (reader : Reader) → reader.branches.items ≡ [] → AreNamed rest reader.closed → HasRead p root.upper [] reader
  none_read rest reader none named = record {
    records = record {
      one = λ n v w c. absurd (no_member (n, v) c);
      node = λ n v c. absurd (no_member (n, v) c);
      fits = λ n v c. absurd (no_member (n, v) c);
      bounds = λ n v c. absurd (no_member (n, v) c);
      told = λ n kept e. absurd (named.empty n kept e);
      all = λ n v c. absurd (no_member (n, v) c);
    };
    closed = λ n v c. absurd (no_member (n, v) c);
    opened = λ b c. absurd (nothing b c);
    fits = λ b c. absurd (nothing b c);
    rising = subst (λ (xs : List Branch). AllPairs (λ (a : Branch) (b : Branch). a.number < b.number) xs) (sym none) (λ i j d less within. absurd (omega (arith, within)));
    apart = λ b c. absurd (nothing b c);
  }
    where
      nothing : (b : Branch) → Contains reader.branches.items b → ⊥
      nothing b c = no_member b (subst (λ (xs : List Branch). Contains xs b) none c)

  blocks_answer : (rest : List ℕ) (reader : Reader) (found : Option (Vec (Vec ℕ Global) Global)) → text ≡ codes "proof\n" ++ rest → reader.branches.items ≡ [] → reader.number ≡ 1 → AreNamed rest reader.closed → AreBlocksRead p root reader rest found → IsBlocksAnswer p root text found
  blocks_answer rest reader None whole none first named answer = λ vectors h.
      answer vectors [] (none_read rest reader none named) (subst (λ k. IsRest p vectors root [] [] k rest) (sym first) ((rest_is rest vectors whole).0 h))
  blocks_answer rest reader (Some found) whole none first named answer = λ vectors.
      let told : IsRest p vectors root [] [] 1 rest ↔ (rows_of found.items ≡ vectors) = subst (λ k. IsRest p vectors root [] [] k rest ↔ (rows_of found.items ≡ vectors)) first (answer vectors [] (none_read rest reader none named)) in
      let is = rest_is rest vectors whole in
      (λ h. told.0 (is.0 h), λ e. is.1 (told.1 e))

  pub blocks_answered : {E : Type 0} (rest : List ℕ) (reader : Reader) (result : Result (Option (Vec (Vec ℕ Global) Global)) E) → text ≡ codes "proof\n" ++ rest → reader.branches.items ≡ [] → reader.number ≡ 1 → AreNamed rest reader.closed →
      IfOk result (AreBlocksRead p root reader rest) → IfOk result (IsBlocksAnswer p root text)
  blocks_answered rest reader (Ok found) whole none first named answer = blocks_answer rest reader found whole none first named answer
  blocks_answered rest reader (Err e) whole none first named answer = tt
