-- A tree is read line by line, window by window.
use Rattle.std.proofs.Common.{◌≡◌, ◌≢◌, ◌↔◌, inl, inr, ◌∙◌, ℕ, ◌+◌, ◌<◌, ◌≤◌, List, [], ◌∷◌, ◌++◌, length, Contains, All, IsTrue, Bool, true, false, arith, refl, sym, subst, ap, append_assoc, length-append}
use Rattle.std.specs.Prelude.{Some, None, Vec}
use Rattle.std.specs.Global.{Global}
use Rattle.racp_model.specs.Project.{Project}
use Rattle.racp_model.specs.Limits.{most_bound}
use Rattle.racp_model.specs.Window.{Bounds}
use Rattle.racp_delay.specs.Alternatives.{IsMinimalDelayingAlternative}
use Rattle.racp_delay.specs.Branching.{IsConflict}
use Rattle.racp_delay.specs.Laws.{SomeJobGoes, ConflictIsOne}
use Rattle.racp_cutset.specs.Covering.{SearchNode}
use Rattle.racp_cutset.specs.Told.{early_unique}
use Rattle.std.specs.Fmt.{decimal}
use Rattle.racp_trees.specs.Texts.{step_line, step_letter, step_number, most_number}
use Rattle.racp_trees.specs.Reading.{IsBeforeLine, IsNamed}
use Rattle.racp_trees.specs.Following.{OpenNode, Follow, IsOpened, IsStepped, IsRest}
use Rattle.racp_trees.specs.Branches.{IsBranch, open_node}
use Rattle.racp_trees.specs.Nodes.{HaveRows, HasPlace}
use Rattle.racp_trees.specs.Readers.{open_nodes, HasRead, IsReady, IsOpenedBy, IsLineAnswer, rest_of, Asks, AsksNext, IsNextAnswer, StaysReady, HasReadTree}
use Rattle.racp_trees.specs.declared.branch.Branch.{Branch}
use Rattle.racp_trees.specs.declared.closed.Closed.{Closed}
use Rattle.racp_trees.specs.declared.reader.Reader.{Reader}
use Rattle.racp_trees.specs.declared.step.Step.{Step}
use Rattle.racp_trees.specs.declared.step.Step.TheVariants.{L, D, C}
use Rattle.racp_trees.proofs.Following.{line_follows, line_missing}
use Rattle.racp_trees.proofs.Passing.{last_or, open_more, rest_stays, read_further, read_opened}

-- the node that is divided is one
opened_one : (p : Project) (a : List ℕ) (w : Bounds) (t : ℕ) (v u : SearchNode) (x y : List ℕ) → ConflictIsOne → IsOpened p a w t v x → IsOpened p a w t u y → (v ≡ u) × (x ≡ y)
opened_one p a w t v u x y law g h =
    let e : v.early ≡ u.early = early_unique p w.lower w.lower v.early u.early refl g.is.early h.is.early in
    let resources = g.is.of_resources ∙ sym h.is.of_resources in
    let placed = g.is.placed ∙ sym h.is.placed in
    let when = g.at ∙ sym h.at in
    let same : v ≡ u = λ i. record { capacities = resources i; window = placed i; early = e i; time = when i } in
    (same, (law p v.capacities v.early v.time v.time x y g.clash (subst (λ (z : SearchNode). IsConflict p z.capacities z.early z.time y) (sym same) h.clash)).1)

module _ (p : Project) (a : List ℕ) (root : Bounds) (goes : SomeJobGoes) (one : ConflictIsOne) (wanted vectors : List (List ℕ)) where
  some : (v : SearchNode) (active : List ℕ) (window : Bounds) (time : ℕ) → IsOpened p a window time v active → (gone : List ℕ) → IsMinimalDelayingAlternative p v.capacities active gone → gone ≢ []
  some v active window time o gone minimal = goes p v.capacities v.early v.time active gone o.clash minimal

  abbrev window_of : List ℕ → Bounds
  window_of lower = record { lower = lower; upper = root.upper }

  abbrev Nexts : List (ℕ × SearchNode) → Reader → List ℕ → List ℕ → Type 0
  Nexts = AsksNext p a wanted root vectors

  abbrev All' : List (ℕ × SearchNode) → Reader → List ℕ → Type 0
  All' = Asks p a wanted root vectors

  -- what the next line asks
  next_line : (later : List (ℕ × SearchNode)) (now : Reader) (lower rest : List ℕ) (s : Step) (more : List ℕ) → step_number s ≤ most_number → rest ≡ step_line s ++ more →
      Nexts later now lower rest ↔ IsStepped p a (rest_of p wanted root vectors) later now.number (window_of lower) (open_nodes p a root.upper now.branches.items) s more
  next_line later now lower rest s more small same =
      subst (λ (xs : List ℕ). Nexts later now lower xs ↔ IsStepped p a (rest_of p wanted root vectors) later now.number (window_of lower) (open_nodes p a root.upper now.branches.items) s more) (sym same)
      (line_follows p a (rest_of p wanted root vectors) (rest_stays p wanted root vectors) some later now.number (window_of lower) (open_nodes p a root.upper now.branches.items) s more small)

  never : (b : Bool) → b ≡ false → IsTrue b → ⊥
  never b e y = absurd (cc (e, y))

  -- a line that does not hold
  pub line_fails : (later : List (ℕ × SearchNode)) (now after : Reader) (lower rest : List ℕ) (s : Step) (more : List ℕ) (yes' : Bool) → HasRead p root.upper later now → step_number s ≤ most_number → rest ≡ step_line s ++ more →
      IsLineAnswer p a (window_of lower) now s yes' after → yes' ≡ false → Nexts later now lower rest → ⊥
  line_fails later now after lower rest (L job) more yes' h small same answer no' next = never yes' no' (answer.2.1 ((next_line later now lower rest (L job) more small same).0 next).0)
  line_fails later now after lower rest (C node) more yes' h small same answer no' next = never yes' no' ((answer.2 later h.records).1 ((next_line later now lower rest (C node) more small same).0 next).0)
  line_fails later now after lower rest (D time) more true h small same answer no' next = absurd (cc no')
  line_fails later now after lower rest (D time) more false h small same answer no' next = let is = (next_line later now lower rest (D time) more small same).0 next in answer is.0 is.1 is.2

  -- a line that holds
  pub record Passed (later : List (ℕ × SearchNode)) (now mid : Reader) (lower rest more : List ℕ) : Type 0 where
    pub read : HasRead p root.upper later mid
    pub asks : Nexts later now lower rest ↔ All' later mid more

  -- a reader that read a line without children
  leaf_asks : (later : List (ℕ × SearchNode)) (now mid : Reader) (more : List ℕ) → mid.branches.items ≡ now.branches.items → mid.number ≡ now.number + 1 →
      Follow p a (rest_of p wanted root vectors) later (now.number + 1) (open_nodes p a root.upper now.branches.items) more ↔ All' later mid more
  leaf_asks later now mid more same next =
      subst (λ (xs : List Branch). Follow p a (rest_of p wanted root vectors) later (now.number + 1) (open_nodes p a root.upper now.branches.items) more ↔ Follow p a (rest_of p wanted root vectors) later mid.number (open_nodes p a root.upper xs) more) (sym same)
      (subst (λ k. Follow p a (rest_of p wanted root vectors) later (now.number + 1) (open_nodes p a root.upper now.branches.items) more ↔ Follow p a (rest_of p wanted root vectors) later k (open_nodes p a root.upper now.branches.items) more) (sym next) ((λ x. x), λ x. x))

  pub line_holds : (later : List (ℕ × SearchNode)) (now after mid : Reader) (lower rest : List ℕ) (s : Step) (more : List ℕ) (yes' : Bool) → HasRead p root.upper later now → step_number s ≤ most_number → rest ≡ step_line s ++ more →
      IsLineAnswer p a (window_of lower) now s yes' after → yes' ≡ true → mid.branches.items ≡ after.branches.items → mid.closed ≡ after.closed → mid.number ≡ now.number + 1 → Passed later now mid lower rest more
  line_holds later now after mid lower rest (L job) more yes' h small same answer yes'' branches closed next =
      let stays : mid.branches.items ≡ now.branches.items = branches ∙ answer.0 in
      let line = next_line later now lower rest (L job) more small same in
      let asks = leaf_asks later now mid more stays next in
      record { read = read_further p root.upper later now mid h stays (closed ∙ answer.1) (omega (arith, next)); asks = ((λ x. asks.0 (line.0 x).1), λ x. line.1 (answer.2.0 yes'', asks.1 x)) }
  line_holds later now after mid lower rest (C node) more yes' h small same answer yes'' branches closed next =
      let stays : mid.branches.items ≡ now.branches.items = branches ∙ answer.0 in
      let line = next_line later now lower rest (C node) more small same in
      let asks = leaf_asks later now mid more stays next in
      record { read = read_further p root.upper later now mid h stays (closed ∙ answer.1) (omega (arith, next)); asks = ((λ x. asks.0 (line.0 x).1), λ x. line.1 ((answer.2 later h.records).0 yes'', asks.1 x)) }
  line_holds later now after mid lower rest (D time) more false h small same answer yes'' branches closed next = absurd (cc yes'')
  line_holds later now after mid lower rest (D time) more true h small same answer yes'' branches closed next =
      let o : IsOpenedBy p a (window_of lower) time now mid = record { branch = answer.branch; is = answer.is; opened = answer.opened; number = answer.number; last = answer.last; branches = branches ∙ answer.branches; closed = closed ∙ answer.closed } in
      let line = next_line later now lower rest (D time) more small same in
      let frames : List OpenNode = open_nodes p a root.upper now.branches.items in
      let f : OpenNode = open_node p a root.upper o.branch in
      let mids : open_nodes p a root.upper mid.branches.items ≡ f ∷ frames = ap (λ (xs : List Branch). open_nodes p a root.upper xs) o.branches ∙ open_more p a root.upper [] now.branches.items o.branch in
      let asks : Follow p a (rest_of p wanted root vectors) later (now.number + 1) (f ∷ frames) more ↔ All' later mid more =
      subst (λ (fs : List OpenNode). Follow p a (rest_of p wanted root vectors) later (now.number + 1) (f ∷ frames) more ↔ Follow p a (rest_of p wanted root vectors) later mid.number fs more) (sym mids)
      (subst (λ k. Follow p a (rest_of p wanted root vectors) later (now.number + 1) (f ∷ frames) more ↔ Follow p a (rest_of p wanted root vectors) later k (f ∷ frames) more) (sym next) ((λ x. x), λ x. x)) in
      let same_node : (v : SearchNode) (active : List ℕ) → IsOpened p a (window_of lower) time v active → (record { number = now.number; node = v; active = active; last = [] }) ≡ f =
      λ v active is.
      let e = opened_one p a (window_of lower) time v f.node active f.active one is o.opened in
      λ i. record { number = sym o.number i; node = e.0 i; active = e.1 i; last = sym o.last i } in
      record {
        read = read_opened p a (window_of lower) time later now mid h o next;
        asks = (
          λ x.
              let is = line.0 x in
              asks.0 (subst (λ (g : OpenNode). Follow p a (rest_of p wanted root vectors) later (now.number + 1) (g ∷ frames) more) (same_node is.0 is.1 is.2) is.3),
          λ x. line.1 (f.node, f.active, o.opened, subst (λ (g : OpenNode). Follow p a (rest_of p wanted root vectors) later (now.number + 1) (g ∷ frames) more) (sym (same_node f.node f.active o.opened)) (asks.1 x)),
        );
      }

line_long : (s : Step) → 0 < length (step_line s)
unfolding step_line
line_long (L job) = omega arith
line_long (D time) = omega arith
line_long (C node) = omega arith

line_ends : (s : Step) → (more : List ℕ) × (step_line s ≡ more ++ 10 ∷ [])
unfolding step_line
line_ends s = (step_letter s ++ decimal (step_number s), sym (append_assoc (step_letter s) (decimal (step_number s)) (10 ∷ [])))

-- the line after some lines
after_line : (front : List ℕ) (s : Step) → (more : List ℕ) × (front ++ step_line s ≡ more ++ 10 ∷ [])
after_line front s = let e = line_ends s in (front ++ e.0, ap (λ (xs : List ℕ). front ++ xs) e.1 ∙ sym (append_assoc front e.0 (10 ∷ [])))

-- a tree is being read: where the reader stands, the lower bounds of the next window, and what is left of the text
pub record IsReadingTree (p : Project) (a : List ℕ) (root : Bounds) (old : Reader) (text : List ℕ) (now : Reader) (lower rest : List ℕ) : Type 0 where
  pub ready : IsReady p a now
  pub places : (node : ℕ) → HasPlace old.closed node → HasPlace now.closed node
  pub low : length lower ≡ length p.jobs
  pub small : All (λ x. x ≤ most_bound) lower
  pub front : List ℕ
  pub whole : text ≡ front ++ rest
  pub lines : IsBeforeLine front
  pub room : now.number + length rest ≤ old.number + length text
  pub told : (wanted vectors : List (List ℕ)) (nodes : List (ℕ × SearchNode)) → HasRead p root.upper nodes old →
      (later : List (ℕ × SearchNode)) × HasRead p root.upper later now ×
      (AsksNext p a wanted root vectors nodes old root.lower text ↔ AsksNext p a wanted root vectors later now lower rest)

pub tree_first : (p : Project) (a : List ℕ) (root : Bounds) (old : Reader) (text lower : List ℕ) → IsReady p a old → lower ≡ root.lower → length root.lower ≡ length p.jobs → All (λ x. x ≤ most_bound) root.lower → IsReadingTree p a root old text old lower text
tree_first p a root old text lower ready same low small = subst (λ (xs : List ℕ). IsReadingTree p a root old text old xs text) (sym same) (record {
  ready = ready;
  places = λ m h. h;
  low = low;
  small = small;
  front = [];
  whole = refl;
  lines = inl refl;
  room = omega arith;
  told = λ wanted vectors nodes h. (nodes, h, ((λ x. x), λ x. x));
})

module _ (p : Project) (a : List ℕ) (root : Bounds) (old : Reader) (text : List ℕ) (now : Reader) (lower rest : List ℕ) (is : IsReadingTree p a root old text now lower rest) where
  abbrev window : Bounds
  window = record { lower = lower; upper = root.upper }

  -- no line of a tree is left
  pub tree_missing : ((step : Step) (more : List ℕ) → step_number step ≤ most_number → rest ≡ step_line step ++ more → ⊥) → (wanted vectors : List (List ℕ)) (nodes : List (ℕ × SearchNode)) → HasRead p root.upper nodes old →
      AsksNext p a wanted root vectors nodes old root.lower text → ⊥
  tree_missing none wanted vectors nodes h x =
      let told = is.told wanted vectors nodes h in
      line_missing p a (rest_of p wanted root vectors) (rest_stays p wanted root vectors) told.0 now.number window (open_nodes p a root.upper now.branches.items) rest none (told.2.0 x)

  module _ (s : Step) (more : List ℕ) (little : step_number s ≤ most_number) (same : rest ≡ step_line s ++ more) where
    -- the node that a line names has a place
    pub tree_place : ((node : ℕ) → IsNamed text node → HasPlace old.closed node) → (node : ℕ) → s ≡ C node → HasPlace now.closed node
    tree_place named node which = is.places node (named node (record {
      front = is.front;
      rest = more;
      lines = is.lines;
      small = subst (λ (x : Step). step_number x ≤ most_number) which little;
      whole = is.whole ∙ ap (λ (xs : List ℕ). is.front ++ xs) (same ∙ ap (λ (x : Step). step_line x ++ more) which);
    }))

    module _ (goes : SomeJobGoes) (one : ConflictIsOne) (after : Reader) (yes' : Bool) (answer : IsLineAnswer p a window now s yes' after) where
      pub tree_fails : yes' ≡ false → (wanted vectors : List (List ℕ)) (nodes : List (ℕ × SearchNode)) → HasRead p root.upper nodes old → AsksNext p a wanted root vectors nodes old root.lower text → ⊥
      tree_fails no' wanted vectors nodes h x =
          let told = is.told wanted vectors nodes h in
          line_fails p a root goes one wanted vectors told.0 now after lower rest s more yes' told.1 little same answer no' (told.2.0 x)

      module _ (mid : Reader) (yes'' : yes' ≡ true) (branches : mid.branches.items ≡ after.branches.items) (closed : mid.closed ≡ after.closed) (next : mid.number ≡ now.number + 1) where
        shorter : length rest ≡ length (step_line s) + length more
        shorter = ap (λ (xs : List ℕ). length xs) same ∙ length-append (step_line s) more

        fewer : now.number + 1 + length more ≤ old.number + length text
        fewer = omega (arith, is.room, shorter, line_long s)

        held : (wanted vectors : List (List ℕ)) (later : List (ℕ × SearchNode)) → HasRead p root.upper later now → Passed p a root goes one wanted vectors later now mid lower rest more
        held wanted vectors later h = line_holds p a root goes one wanted vectors later now after mid lower rest s more yes' h little same answer yes'' branches closed next

        pub tree_more : (new : Reader) (child : Vec ℕ Global) → IsNextAnswer p a root mid new (Some child) → StaysReady p a mid new → ((node : ℕ) → HasPlace now.closed node → HasPlace mid.closed node) → IsReadingTree p a root old text new child.items more
        tree_more new child h stays kept = record {
          ready = stays.ready;
          places = λ m x. stays.places m (kept m (is.places m x));
          low = h.0;
          small = h.1;
          front = is.front ++ step_line s;
          whole = is.whole ∙ (ap (λ (xs : List ℕ). is.front ++ xs) same ∙ sym (append_assoc is.front (step_line s) more));
          lines = inr (after_line is.front s);
          room = omega (arith, fewer, stays.number, next);
          told = λ wanted vectors nodes r.
              let told = is.told wanted vectors nodes r in
              let passed = held wanted vectors told.0 told.1 in
              let on = h.2 wanted vectors told.0 more passed.read in
              (on.0, on.1, ((λ x. on.2.0 (passed.asks.0 (told.2.0 x))), λ x. told.2.1 (passed.asks.1 (on.2.1 x))));
        }

        pub tree_ends : (new : Reader) → IsNextAnswer p a root mid new None → StaysReady p a mid new → ((node : ℕ) → HasPlace now.closed node → HasPlace mid.closed node) → HasReadTree p a root old text new more
        tree_ends new h stays kept = record {
          ready = stays.ready;
          places = λ m x. stays.places m (kept m (is.places m x));
          empty = h.0;
          front = is.front ++ step_line s;
          whole = is.whole ∙ (ap (λ (xs : List ℕ). is.front ++ xs) same ∙ sym (append_assoc is.front (step_line s) more));
          lines = after_line is.front s;
          room = omega (arith, fewer, stays.number, next);
          told = λ wanted vectors nodes r.
              let told = is.told wanted vectors nodes r in
              let passed = held wanted vectors told.0 told.1 in
              let on = h.1 wanted vectors told.0 more passed.read in
              let rest_is : Asks p a wanted root vectors on.0 new more ↔ IsRest p wanted root vectors on.0 new.number more =
              subst (λ (xs : List Branch). Follow p a (rest_of p wanted root vectors) on.0 new.number (open_nodes p a root.upper xs) more ↔ IsRest p wanted root vectors on.0 new.number more) (sym h.0) ((λ x. x), λ x. x) in
              (on.0, on.1, ((λ x. rest_is.0 (on.2.0 (passed.asks.0 (told.2.0 x)))), λ x. told.2.1 (passed.asks.1 (on.2.1 (rest_is.1 x)))));
        }

-- after a line the reader is ready, and places stay
pub line_ready : (p : Project) (a : List ℕ) (w : Bounds) (now after mid : Reader) (s : Step) (yes' : Bool) → IsReady p a now → IsLineAnswer p a w now s yes' after → yes' ≡ true → mid.branches.items ≡ after.branches.items → mid.closed ≡ after.closed →
    IsReady p a mid × ((node : ℕ) → HasPlace now.closed node → HasPlace mid.closed node)
line_ready p a w now after mid s yes' ready answer yes'' branches closed = go s yes' answer yes''
  where
    same : after.closed ≡ now.closed → after.branches.items ≡ now.branches.items → IsReady p a mid × ((node : ℕ) → HasPlace now.closed node → HasPlace mid.closed node)
    same k b = (
      record {
        rows = subst (λ (x : Closed). HaveRows p x) (sym (closed ∙ k)) ready.rows;
        branches = λ x c. ready.branches x (subst (λ (xs : List Branch). Contains xs x) (branches ∙ b) c);
      },
      λ m h. subst (λ (x : Closed). HasPlace x m) (sym (closed ∙ k)) h,
    )

    go : (s : Step) (yes' : Bool) → IsLineAnswer p a w now s yes' after → yes' ≡ true → IsReady p a mid × ((node : ℕ) → HasPlace now.closed node → HasPlace mid.closed node)
    go (L job) b answer e = same answer.1 answer.0
    go (C node) b answer e = same answer.1 answer.0
    go (D time) false answer e = absurd (cc e)
    go (D time) true answer e = (
      record {
        rows = subst (λ (x : Closed). HaveRows p x) (sym (closed ∙ answer.closed)) ready.rows;
        branches = λ x c. elim (last_or now.branches.items answer.branch x (subst (λ (xs : List Branch). Contains xs x) (branches ∙ answer.branches) c)) [
          | inl before ↦ ready.branches x before
          | inr here ↦ subst (λ (z : Branch). IsBranch p a z) here answer.is
        ];
      },
      λ m h. subst (λ (x : Closed). HasPlace x m) (sym (closed ∙ answer.closed)) h,
    )

pub line_shorter : (rest : List ℕ) (s : Step) (more : List ℕ) → rest ≡ step_line s ++ more → length more < length rest
line_shorter rest s more same = omega (arith, ap (λ (xs : List ℕ). length xs) same, length-append (step_line s) more, line_long s)
