-- A certificate is made block by block: whatever ends it as a certificate's rest does, ends it as a certificate.
use Rattle.std.proofs.Common.{◌≡◌, ◌∙◌, inl, inr, ℕ, ◌<◌, ◌≤◌, List, [], ◌∷◌, ◌++◌, length, slice_index_or, Contains, AllPairs, Vec, Bool, IsTrue, arith, refl, sym, subst, ap, append_assoc, codes}
use Rattle.std.specs.Prelude.{Some, None, Result, Ok, Err, IfOk, flat_map}
use Rattle.std.specs.Global.{Global}
use Rattle.std.proofs.lemmas.Option.{none-some}
use Rattle.std.proofs.lemmas.List.Elements.{All-contains_itself, Contains-append_cases}
use Rattle.racp_model.specs.Project.{Project}
use Rattle.racp_model.specs.Terms.{Terms, release_of, due_of}
use Rattle.racp_model.specs.Window.{Bounds, IsRootWindow}
use Rattle.racp_model.proofs.lemmas.Relations.{no_member, member_cases, member_first, member_later}
use Rattle.racp_prices.specs.Units.{AreMostUnits}
use Rattle.racp_cutset.specs.Covering.{SearchNode}
use Rattle.racp_trees.specs.Certificates.{AreEnough, IsCertificate}
use Rattle.racp_trees.specs.Enough.{AreEnoughBlocks}
use Rattle.racp_trees.specs.Following.{IsNext, IsRest}
use Rattle.racp_trees.specs.Making.{HasMadeTree, HasMadeBlock}
use Rattle.racp_trees.specs.Readers.{HasRead, open_nodes, rest_of}
use Rattle.racp_trees.specs.Records.{record_at}
use Rattle.racp_trees.specs.Texts.{Block, vector_line, block_text, first_line, last_line, proof_text}
use Rattle.racp_trees.specs.declared.branch.Branch.{Branch}
use Rattle.racp_trees.specs.declared.reader.Reader.{Reader}
use Rattle.racp_trees.proofs.Blocking.{block_next, last_is}
use Rattle.racp_trees.proofs.Spelling.{AreSmall}

-- a line of a vector, and a tree behind it, are a block
pub block_made : (p : Project) (a : List ℕ) (root : Bounds) (old new : Reader) (text begun whole : List ℕ) → 1 ≤ p.resources → length a ≡ p.resources → AreSmall a → old.branches.items ≡ [] →
    begun ≡ text ++ vector_line a → HasMadeTree p a root old begun new whole → HasMadeBlock p a root old text new whole
block_made p a root old new text begun whole some places small none begins made = record {
  lines = vector_line a ++ made.lines;
  added = made.added ∙ (ap (λ (xs : List ℕ). xs ++ made.lines) begins ∙ append_assoc text (vector_line a) made.lines);
  empty = made.empty;
  room = made.room;
  told = λ rest wanted vectors nodes h.
      let told = made.told rest wanted (vectors ++ a ∷ []) nodes h in
      let more : List ℕ = made.lines ++ rest in (
        told.0,
        told.1,
        λ x.
            subst (λ (xs : List ℕ). IsRest p wanted root vectors nodes old.number xs) (sym (append_assoc (vector_line a) made.lines rest))
            ((block_next p wanted root vectors nodes old.number a more some places small).1
            (subst (λ (bs : List Branch). IsNext p a (rest_of p wanted root (vectors ++ a ∷ [])) nodes old.number root (open_nodes p a root.upper bs) more) none (told.2 x))),
      );
}

-- where the tree was made, so was the block
pub block_pushed : {E : Type 0} (p : Project) (a : List ℕ) (root : Bounds) (old new : Reader) (text begun whole : List ℕ) (result : Result Bool E) → 1 ≤ p.resources → length a ≡ p.resources → AreSmall a → old.branches.items ≡ [] →
    begun ≡ text ++ vector_line a → IfOk result (λ made. IsTrue made → HasMadeTree p a root old begun new whole) → IfOk result (λ made. IsTrue made → HasMadeBlock p a root old text new whole)
block_pushed p a root old new text begun whole (Ok made) some places small none begins h = λ yes'. block_made p a root old new text begun whole some places small none begins (h yes')
block_pushed p a root old new text begun whole (Err e) some places small none begins h = tt

-- the vectors of blocks
abbrev pub vectors_from : List (Vec ℕ Global) → List (List ℕ)
vectors_from [] = []
vectors_from (block ∷ blocks) = block.items ∷ vectors_from blocks

vectors_more : (blocks : List (Vec ℕ Global)) (block : Vec ℕ Global) → vectors_from (blocks ++ block ∷ []) ≡ vectors_from blocks ++ block.items ∷ []
vectors_more [] block = refl
vectors_more (b ∷ blocks) block = ap (λ (vs : List (List ℕ)). b.items ∷ vs) (vectors_more blocks block)

vector_in : (blocks : List (Vec ℕ Global)) (block : Vec ℕ Global) → Contains blocks block → Contains (vectors_from blocks) block.items
vector_in [] block c = absurd (no_member block c)
vector_in (b ∷ blocks) block c = elim (member_cases b blocks block c) [
  | inl here ↦ member_first b.items (vectors_from blocks) block.items (ap (λ (x : Vec ℕ Global). x.items) here)
  | inr later ↦ member_later b.items (vectors_from blocks) block.items (vector_in blocks block later)
]

first_long : 1 ≤ length first_line
unfolding first_line
first_long = omega arith

text_is : (blocks : List Block) → first_line ++ (flat_map block_text blocks ++ last_line) ≡ proof_text blocks
unfolding proof_text
text_is blocks = refl

no_more : (xs : List ℕ) → xs ++ [] ≡ xs
no_more [] = refl
no_more (x ∷ xs) = ap (λ (ys : List ℕ). x ∷ ys) (no_more xs)

-- blocks were made: the text so far, and where the reader of it stands
pub record IsCertifying (p : Project) (root : Bounds) (blocks : List (Vec ℕ Global)) (text : List ℕ) (reader : Reader) : Type 0 where
  pub each : (block : Vec ℕ Global) → Contains blocks block → length block.items ≡ p.resources
  pub empty : reader.branches.items ≡ []
  pub room : reader.number ≤ length text
  pub lines : List ℕ
  pub whole : text ≡ first_line ++ lines
  pub told : (rest : List ℕ) (wanted : List (List ℕ)) →
      (later : List (ℕ × SearchNode)) × HasRead p root.upper later reader × (IsRest p wanted root (vectors_from blocks) later reader.number rest → IsRest p wanted root [] [] 1 (lines ++ rest))

pub certifying_first : (p : Project) (root : Bounds) (blocks : List (Vec ℕ Global)) (text : List ℕ) (reader : Reader) → blocks ≡ [] → text ≡ first_line → reader.number ≡ 1 → ((n : ℕ) → record_at reader.closed n ≡ None) → reader.branches.items ≡ [] → IsCertifying p root blocks text reader
certifying_first p root blocks text reader no_block first number fresh none = record {
  each = λ b c. absurd (no_member b (subst (λ (xs : List (Vec ℕ Global)). Contains xs b) no_block c));
  empty = none;
  room = omega (arith, number, ap (λ (xs : List ℕ). length xs) first, first_long);
  lines = [];
  whole = first ∙ sym (no_more first_line);
  told = λ rest wanted. (
    [],
    record {
      records = record {
        one = λ m v w c d. absurd (no_member (m, v) c);
        node = λ m v c. absurd (no_member (m, v) c);
        fits = λ m v c. absurd (no_member (m, v) c);
        bounds = λ m v c. absurd (no_member (m, v) c);
        told = λ m kept e. absurd (none-some (Some kept) (sym (fresh m) ∙ e));
        all = λ m v c e. absurd (no_member (m, v) c);
      };
      closed = λ m v c. absurd (no_member (m, v) c);
      opened = λ b c. absurd (no_branch b c);
      fits = λ b c. absurd (no_branch b c);
      rising = subst (λ (xs : List Branch). AllPairs (λ (x : Branch) (y : Branch). x.number < y.number) xs) (sym none) (λ i j d less l. absurd (omega (arith, l)));
      apart = λ b c. absurd (no_branch b c);
    },
    λ x. subst (λ (k : ℕ). IsRest p wanted root [] [] k rest) number (subst (λ (bs : List (Vec ℕ Global)). IsRest p wanted root (vectors_from bs) [] reader.number rest) no_block x),
  );
}
  where
    no_branch : (b : Branch) → Contains reader.branches.items b → ⊥
    no_branch b c = no_member b (subst (λ (xs : List Branch). Contains xs b) none c)

module _ (p : Project) (root : Bounds) (blocks : List (Vec ℕ Global)) (text : List ℕ) (reader : Reader) (is : IsCertifying p root blocks text reader) where
  -- the blocks have a number for each resource
  pub certifying_places : (k : ℕ) → k < length blocks → (d : Vec ℕ Global) → length (slice_index_or blocks k d).items ≡ p.resources
  certifying_places k l d = is.each (slice_index_or blocks k d) (All-contains_itself blocks k d l)

  -- a block more
  pub certifying_more : (block : Vec ℕ Global) (longer : List ℕ) (new : Reader) (more : List (Vec ℕ Global)) → more ≡ blocks ++ block ∷ [] → length block.items ≡ p.resources → HasMadeBlock p block.items root reader text new longer → IsCertifying p root more longer new
  certifying_more block longer new more same places made = record {
    each = λ b c. elim (Contains-append_cases blocks (block ∷ []) b (subst (λ (xs : List (Vec ℕ Global)). Contains xs b) same c)) [
      | inl before ↦ is.each b before
      | inr here ↦ elim (member_cases block [] b here) [ inl e ↦ subst (λ (x : Vec ℕ Global). length x.items ≡ p.resources) e places | inr none ↦ absurd (no_member b none) ]
    ];
    empty = made.empty;
    room = made.room;
    lines = is.lines ++ made.lines;
    whole = made.added ∙ (ap (λ (xs : List ℕ). xs ++ made.lines) is.whole ∙ append_assoc first_line is.lines made.lines);
    told = λ rest wanted.
        let told = is.told (made.lines ++ rest) wanted in
        let on = made.told rest wanted (vectors_from blocks) told.0 told.1 in (
          on.0,
          on.1,
          λ x.
              subst (λ (xs : List ℕ). IsRest p wanted root [] [] 1 xs) (sym (append_assoc is.lines made.lines rest))
              (told.2 (on.2 (subst (λ (vs : List (List ℕ)). IsRest p wanted root vs on.0 new.number rest) (ap (λ (bs : List (Vec ℕ Global)). vectors_from bs) same ∙ vectors_more blocks block) x))),
        );
  }

  -- the last line, where the blocks are enough
  pub certifying_ends : (terms : Terms) (roofs plan whole : List ℕ) → IsRootWindow p (release_of terms) (due_of terms) root → AreMostUnits p terms roofs → AreEnoughBlocks p terms roofs plan blocks → whole ≡ text ++ last_line → IsCertificate p terms plan whole
  certifying_ends terms roofs plan whole is_root are enough ends =
      let told = is.told last_line wanted in
      let rest = told.2 (subst (λ (xs : List ℕ). IsRest p wanted root (vectors_from blocks) told.0 reader.number xs) (no_more last_line) ((last_is p wanted root (vectors_from blocks) told.0 reader.number []).1 (refl, refl))) in
      record {
        root = root;
        blocks = rest.blocks;
        is_root = is_root;
        with_text = ends ∙ (ap (λ (xs : List ℕ). xs ++ last_line) is.whole ∙ (append_assoc first_line is.lines last_line ∙ (ap (λ (xs : List ℕ). first_line ++ xs) rest.whole ∙ text_is rest.blocks)));
        small = λ k d l. rest.small (slice_index_or rest.blocks k d) (All-contains_itself rest.blocks k d l);
        hold = rest.hold;
        enough = subst (λ (vs : List (List ℕ)). AreEnough p terms plan vs) (sym rest.all) are_enough;
      }
    where
      wanted : List (List ℕ)
      wanted = vectors_from blocks

      are_enough : AreEnough p terms plan (vectors_from blocks)
      are_enough v places within before =
          let found = enough v places (λ k l. omega (arith, within k l, are.each k l)) before in
          (found.0.items, vector_in blocks found.0 found.1, found.2)

-- the first line and the last, as they are written
pub first_written : (text : List ℕ) → text ≡ codes "proof\n" → text ≡ first_line
unfolding first_line
first_written text e = e

-- what a text that was added to is, whatever the answer
pub added_so : {E : Type 0} {A B : Type 0} (result : Result Bool E) → (A → B) → IfOk result (λ yes'. A) → IfOk result (λ yes'. IsTrue yes' → B)
added_so (Ok fits) leads added = λ yes'. leads added
added_so (Err e) leads added = tt

pub last_written : (text whole : List ℕ) → whole ≡ text ++ codes "end\n" → whole ≡ text ++ last_line
unfolding last_line
last_written text whole e = e
