-- A certificate is made line by line: whatever text follows, a reader of it stands where the maker stands.
use Rattle.std.proofs.Common.{◌≡◌, ◌↔◌, ◌∙◌, ℕ, ◌+◌, ◌-◌, ◌<◌, ◌≤◌, List, [], ◌∷◌, ◌++◌, length, Contains, All, AllPairs, Bool, Vec, arith, refl, sym, subst, ap, append_assoc, true}
use Rattle.std.specs.Prelude.{Option, Some, None}
use Rattle.std.specs.Global.{Global}
use Rattle.std.proofs.lemmas.Option.{none-some}
use Rattle.std.proofs.lemmas.List.{length-append}
use Rattle.racp_model.specs.Project.{Project}
use Rattle.racp_model.specs.Limits.{most_bound}
use Rattle.racp_model.specs.Window.{Bounds}
use Rattle.racp_model.proofs.lemmas.Relations.{no_member}
use Rattle.racp_delay.specs.Laws.{SomeJobGoes, ConflictIsOne}
use Rattle.racp_cutset.specs.Covering.{SearchNode}
use Rattle.racp_trees.specs.Following.{IsNext}
use Rattle.racp_trees.specs.Nodes.{AreRecords, HasPlace}
use Rattle.racp_trees.specs.Records.{record_at}
use Rattle.racp_trees.specs.Readers.{IsReady, HasRead, IsLineAnswer, IsNextAnswer, StaysReady, AsksNext, HasReadTree, open_nodes, rest_of}
use Rattle.racp_trees.specs.Making.{IsChoice, IsThinned, IsThinnedReader, HasMadeTree}
use Rattle.racp_trees.specs.Texts.{step_line, step_number, most_number}
use Rattle.racp_trees.specs.declared.branch.Branch.{Branch}
use Rattle.racp_trees.specs.declared.closed.Closed.{Closed}
use Rattle.racp_trees.specs.declared.record.Record.{Record}
use Rattle.racp_trees.specs.declared.reader.Reader.{Reader}
use Rattle.racp_trees.specs.declared.step.Step.{Step}
use Rattle.racp_trees.specs.declared.step.Step.TheVariants.{L, D, C}
use Rattle.racp_trees.proofs.Advancing.{IsReadingTree, tree_first, tree_more, tree_ends}

-- what was read is still known of a reader that forgot some of it
thinned_records : (p : Project) (upper : List ℕ) (nodes : List (ℕ × SearchNode)) (old new : Closed) (number : ℕ) → ((m : ℕ) (v : SearchNode) → Contains nodes (m, v) → m < number) → IsThinned old new number → AreRecords p upper nodes old → AreRecords p upper nodes new
thinned_records p upper nodes old new number less thin h = record {
  one = h.one;
  node = h.node;
  fits = h.fits;
  bounds = h.bounds;
  told = λ m kept e. h.told m kept (thin.told m kept e);
  all = λ m v c e. h.all m v c (thin.empty m (less m v c) e);
}

pub thinned_read : (p : Project) (upper : List ℕ) (nodes : List (ℕ × SearchNode)) (old new : Reader) → IsThinnedReader old new → HasRead p upper nodes old → HasRead p upper nodes new
thinned_read p upper nodes old new thin h = record {
  records = thinned_records p upper nodes old.closed new.closed old.number h.closed thin.closed h.records;
  closed = λ m v c. omega (arith, h.closed m v c, thin.number);
  opened = λ b c. omega (arith, h.opened b (subst (λ (xs : Vec Branch Global). Contains xs.items b) thin.branches c), thin.number);
  fits = λ b c. h.fits b (subst (λ (xs : Vec Branch Global). Contains xs.items b) thin.branches c);
  rising = subst (λ (xs : Vec Branch Global). AllPairs (λ (x : Branch) (y : Branch). x.number < y.number) xs.items) (sym thin.branches) h.rising;
  apart = λ b c. h.apart b (subst (λ (xs : Vec Branch Global). Contains xs.items b) thin.branches c);
}

pub thinned_ready : (p : Project) (a : List ℕ) (old new : Reader) → IsThinnedReader old new → IsReady p a old → IsReady p a new
thinned_ready p a old new thin ready = record {
  rows = λ m kept e. ready.rows m kept (thin.closed.told m kept e);
  branches = λ b c. ready.branches b (subst (λ (xs : Vec Branch Global). Contains xs.items b) thin.branches c);
}

-- nothing is forgotten
pub thinned_same : (r : Reader) → IsThinnedReader r r
thinned_same r = record { branches = refl; number = refl; closed = record { told = λ m kept e. e; empty = λ m less e. e } }

-- a line that names a node with a place may be chosen, and one that divides a node
pub choice_covers : (r : Reader) (node : ℕ) → node ≤ most_number → HasPlace r.closed node → IsChoice r r (Some (C node))
choice_covers r node little place = (thinned_same r, little, λ other same. let e : node ≡ other = cc same in subst (λ (n : ℕ). HasPlace r.closed n) e place)

pub choice_divides : (old new : Reader) (time : ℕ) → time ≤ most_number → IsThinnedReader old new → IsChoice old new (Some (D time))
choice_divides old new time little thin = (thin, little, λ node same. absurd (cc same))

-- something more is forgotten
pub thinned_then : (old mid : Reader) (closed : Closed) → IsThinnedReader old mid → IsThinned mid.closed closed mid.number → IsThinnedReader old (record { closed = closed; branches = mid.branches; number = mid.number; usual = mid.usual })
thinned_then old mid closed first second = record {
  branches = first.branches;
  number = first.number;
  closed = record {
    told = λ m kept e. first.closed.told m kept (second.told m kept e);
    empty = λ m less e. first.closed.empty m less (second.empty m (omega (arith, less, first.number)) e);
  };
}

pub thinned_more : (old mid new : Reader) → IsThinnedReader old mid → IsThinnedReader mid new → IsThinnedReader old new
thinned_more old mid new first second = record {
  branches = second.branches ∙ first.branches;
  number = second.number ∙ first.number;
  closed = (thinned_then old mid new.closed first second.closed).closed;
}

-- what is asked of a text does not depend on what is forgotten
pub thinned_asks : (p : Project) (a : List ℕ) (wanted : List (List ℕ)) (root : Bounds) (vectors : List (List ℕ)) (nodes : List (ℕ × SearchNode)) (old new : Reader) (lower rest : List ℕ) → IsThinnedReader old new →
    AsksNext p a wanted root vectors nodes old lower rest ↔ AsksNext p a wanted root vectors nodes new lower rest
thinned_asks p a wanted root vectors nodes old new lower rest thin =
    let window : Bounds = record { lower = lower; upper = root.upper } in
    subst (λ (xs : Vec Branch Global). AsksNext p a wanted root vectors nodes old lower rest ↔ IsNext p a (rest_of p wanted root vectors) nodes new.number window (open_nodes p a root.upper xs.items) rest) (sym thin.branches)
    (subst (λ k. AsksNext p a wanted root vectors nodes old lower rest ↔ IsNext p a (rest_of p wanted root vectors) nodes k window (open_nodes p a root.upper old.branches.items) rest) (sym thin.number) ((λ x. x), λ x. x))

-- lines of a tree were added to a text: with any rest they are read up to where the maker stands
pub record IsMaking (p : Project) (a : List ℕ) (root : Bounds) (old : Reader) (text : List ℕ) (now : Reader) (lower whole : List ℕ) : Type 0 where
  pub fresh : (m : ℕ) → record_at old.closed m ≡ None
  pub lines : List ℕ
  pub added : whole ≡ text ++ lines
  pub reading : (rest : List ℕ) → IsReadingTree p a root old (lines ++ rest) now lower rest

no_more : (xs : List ℕ) → xs ++ [] ≡ xs
no_more [] = refl
no_more (x ∷ xs) = ap (λ (ys : List ℕ). x ∷ ys) (no_more xs)

pub making_first : (p : Project) (a : List ℕ) (root : Bounds) (old : Reader) (text lower : List ℕ) → ((m : ℕ) → record_at old.closed m ≡ None) → old.branches.items ≡ [] → lower ≡ root.lower → length root.lower ≡ length p.jobs → All (λ x. x ≤ most_bound) root.lower →
    IsMaking p a root old text old lower text
making_first p a root old text lower fresh none same low small = record {
  fresh = fresh;
  lines = [];
  added = sym (no_more text);
  reading = λ rest. tree_first p a root old rest lower ready same low small;
}
  where
    no_place : (m : ℕ) (place : Option Record) → record_at old.closed m ≡ Some place → ⊥
    no_place m place e = none-some place (sym (fresh m) ∙ e)

    ready : IsReady p a old
    ready = record {
      rows = λ m kept e. absurd (no_place m (Some kept) e);
      branches = λ b c. absurd (no_member b (subst (λ (xs : List Branch). Contains xs b) none c));
    }

module _ (p : Project) (a : List ℕ) (root : Bounds) (old : Reader) (text : List ℕ) (now : Reader) (lower whole : List ℕ) (is : IsMaking p a root old text now lower whole) where
  no_old_place : (m : ℕ) → HasPlace old.closed m → ⊥
  no_old_place m h = none-some h.0 (sym (is.fresh m) ∙ h.1)

  -- records are forgotten
  pub making_thinned : (thin : Reader) → IsThinnedReader now thin → IsMaking p a root old text thin lower whole
  making_thinned thin t = record {
    fresh = is.fresh;
    lines = is.lines;
    added = is.added;
    reading = λ rest.
        let r = is.reading rest in
        record {
          ready = thinned_ready p a now thin t r.ready;
          places = λ m h. absurd (no_old_place m h);
          low = r.low;
          small = r.small;
          front = r.front;
          whole = r.whole;
          lines = r.lines;
          room = omega (arith, r.room, t.number);
          told = λ wanted vectors nodes h.
              let told = r.told wanted vectors nodes h in
              let asks = thinned_asks p a wanted root vectors told.0 now thin lower rest t in
              (told.0, thinned_read p root.upper told.0 now thin t told.1, ((λ x. asks.0 (told.2.0 x)), λ x. told.2.1 (asks.1 x)));
        };
  }

  -- the number of the next node
  pub making_number : now.number ≤ old.number + length is.lines
  making_number = omega (arith, (is.reading []).room, length-append is.lines [])

  -- a line is added, and holds
  module _ (s : Step) (little : step_number s ≤ most_number) (goes : SomeJobGoes) (one : ConflictIsOne) (after : Reader) (yes' : Bool) (answer : IsLineAnswer p a (record { lower = lower; upper = root.upper }) now s yes' after)
      (mid : Reader) (yes'' : yes' ≡ true) (branches : mid.branches.items ≡ after.branches.items) (closed : mid.closed ≡ after.closed) (next : mid.number ≡ now.number + 1) (kept : (node : ℕ) → HasPlace now.closed node → HasPlace mid.closed node)
      (new : Reader) (longer : List ℕ) (line : longer ≡ whole ++ step_line s) where
    all : longer ≡ text ++ (is.lines ++ step_line s)
    all = line ∙ (ap (λ (xs : List ℕ). xs ++ step_line s) is.added ∙ append_assoc text is.lines (step_line s))

    pub making_more : (child : Vec ℕ Global) → IsNextAnswer p a root mid new (Some child) → StaysReady p a mid new → IsMaking p a root old text new child.items longer
    making_more child h stays = record {
      fresh = is.fresh;
      lines = is.lines ++ step_line s;
      added = all;
      reading = λ more.
          subst (λ (xs : List ℕ). IsReadingTree p a root old xs new child.items more) (sym (append_assoc is.lines (step_line s) more))
          (tree_more p a root old (is.lines ++ (step_line s ++ more)) now lower (step_line s ++ more) (is.reading (step_line s ++ more)) s more little refl goes one after yes' answer mid yes'' branches closed next new child h stays kept);
    }

    ended : IsNextAnswer p a root mid new None → StaysReady p a mid new → (more : List ℕ) → HasReadTree p a root old ((is.lines ++ step_line s) ++ more) new more
    ended h stays more =
        subst (λ (xs : List ℕ). HasReadTree p a root old xs new more) (sym (append_assoc is.lines (step_line s) more))
        (tree_ends p a root old (is.lines ++ (step_line s ++ more)) now lower (step_line s ++ more) (is.reading (step_line s ++ more)) s more little refl goes one after yes' answer mid yes'' branches closed next new h stays kept)

    -- the tree is whole; `was` is the reader before it forgot what blocks before closed
    pub making_ends : IsNextAnswer p a root mid new None → StaysReady p a mid new → (was : Reader) → IsThinnedReader was old → was.number ≤ length text → HasMadeTree p a root was text new longer
    making_ends h stays was thin room = record {
      lines = is.lines ++ step_line s;
      added = all;
      empty = (ended h stays []).empty;
      room = omega (arith, (ended h stays []).room, length-append (is.lines ++ step_line s) [], length-append text (is.lines ++ step_line s), ap (λ (xs : List ℕ). length xs) all, room, thin.number);
      told = λ rest wanted vectors nodes r.
          let told = (ended h stays rest).told wanted vectors nodes (thinned_read p root.upper nodes was old thin r) in
          (told.0, told.1, λ x. (thinned_asks p a wanted root vectors nodes was old root.lower ((is.lines ++ step_line s) ++ rest) thin).1 (told.2.1 x));
    }

line_long : (s : Step) → 0 < length (step_line s)
unfolding step_line
line_long (L job) = omega arith
line_long (D time) = omega arith
line_long (C node) = omega arith

-- a line more leaves less room
pub making_longer : (whole longer : List ℕ) (s : Step) (most : ℕ) → longer ≡ whole ++ step_line s → length whole < most → most - length longer < most - length whole
making_longer whole longer s most line room = omega (arith, room, ap (λ (xs : List ℕ). length xs) line, length-append whole (step_line s), line_long s)
