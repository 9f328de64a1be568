-- A reader goes on: what was read so far, and what the text has to be from there on.
use Rattle.std.proofs.Common.{◌≡◌, ◌≢◌, ◌⊎◌, inl, inr, ◌∙◌, ℕ, zero, suc, ◌+◌, ◌<◌, ◌≤◌, List, [], ◌∷◌, ◌++◌, length, slice_index, slice_index_or, Contains, AllPairs, arith, refl, sym, subst, ap, append_assoc}
use Rattle.std.specs.Prelude.{Option, Some, None}
use Rattle.std.proofs.lemmas.Bool.{cases_lt}
use Rattle.std.proofs.lemmas.Option.{none-some}
use Rattle.std.proofs.lemmas.List.Elements.{Contains-append_cases, Contains-append_left, Contains-append_right}
use Rattle.racp_model.specs.Project.{Project}
use Rattle.racp_model.specs.Window.{Bounds}
use Rattle.racp_model.proofs.lemmas.Relations.{member_cases, member_first, member_later, no_member, member_after, rising_tail}
use Rattle.racp_cutset.specs.Covering.{SearchNode, IsNode, FitsBeforeTime}
use Rattle.racp_trees.specs.Trees.{node_count, divided}
use Rattle.racp_trees.specs.Texts.{Block, step_line}
use Rattle.racp_trees.specs.Certificates.{AllHold}
use Rattle.racp_trees.specs.Reading.{IsNamed}
use Rattle.racp_trees.specs.Rows.{early_of}
use Rattle.racp_trees.specs.Following.{OpenNode}
use Rattle.racp_trees.specs.Branches.{IsBranch, open_node}
use Rattle.racp_trees.specs.Nodes.{AreRecords}
use Rattle.racp_trees.specs.Records.{IsRecordOf, IsKept, record_at}
use Rattle.racp_trees.specs.Readers.{open_onto, HasRead, IsOpenedBy, rest_of}
use Rattle.racp_trees.specs.declared.branch.Branch.{Branch}
use Rattle.racp_trees.specs.declared.record.Record.{Record}
use Rattle.racp_trees.specs.declared.closed.Closed.{Closed}
use Rattle.racp_trees.specs.declared.reader.Reader.{Reader}
use Rattle.racp_trees.specs.declared.step.Step.TheVariants.{C}
use Rattle.racp_trees.proofs.Following.{Within, Stays, hold-more}

-- open nodes of one branch more
pub open_more : (p : Project) (a upper : List ℕ) (frames : List OpenNode) (branches : List Branch) (b : Branch) → open_onto p a upper frames (branches ++ b ∷ []) ≡ open_node p a upper b ∷ open_onto p a upper frames branches
open_more p a upper frames [] b = refl
open_more p a upper frames (x ∷ branches) b = open_more p a upper (open_node p a upper x ∷ frames) branches b

-- more closed nodes
within-more : (xs ys zs : List (ℕ × SearchNode)) → Within xs ys → Within (zs ++ xs) (zs ++ ys)
within-more xs ys zs w x c = elim (Contains-append_cases zs xs x c) [ inl one ↦ Contains-append_left zs ys x one | inr other ↦ Contains-append_right zs ys x (w x other) ]

all_hold-more : (p : Project) (root : Bounds) (xs ys : List (ℕ × SearchNode)) (n : ℕ) (blocks : List Block) → Within xs ys → AllHold p root xs n blocks → AllHold p root ys n blocks
all_hold-more p root xs ys n [] w h = h
all_hold-more p root xs ys n (block ∷ blocks) w h = (
  h.0,
  hold-more p block.vector xs ys n (root ∷ []) block.tree w h.1,
  all_hold-more p root (divided n block.tree ++ xs) (divided n block.tree ++ ys) (n + node_count block.tree) blocks (within-more xs ys (divided n block.tree) w) h.2,
)

pub rest_stays : (p : Project) (wanted : List (List ℕ)) (root : Bounds) (vectors : List (List ℕ)) → Stays (rest_of p wanted root vectors)
rest_stays p wanted root vectors xs ys n text w h = record { blocks = h.blocks; whole = h.whole; small = h.small; hold = all_hold-more p root xs ys n h.blocks w h.hold; all = h.all }

-- lines that name nodes behind a line
pub named_behind : (front text rest : List ℕ) (node : ℕ) → text ≡ front ++ rest → ((more : List ℕ) × (front ≡ more ++ 10 ∷ [])) → IsNamed rest node → IsNamed text node
named_behind front text rest node whole line named = record {
  front = front ++ named.front;
  rest = named.rest;
  lines = elim named.lines [
    | inl none ↦ inr (line.0, ap (λ (xs : List ℕ). front ++ xs) none ∙ (no_more front ∙ line.1))
    | inr other ↦ inr (front ++ other.0, ap (λ (xs : List ℕ). front ++ xs) other.1 ∙ sym (append_assoc front other.0 (10 ∷ [])))
  ];
  small = named.small;
  whole = whole ∙ (ap (λ (xs : List ℕ). front ++ xs) named.whole ∙ sym (append_assoc front named.front (step_line (C node) ++ named.rest)));
}
  where
    no_more : (xs : List ℕ) → xs ++ [] ≡ xs
    no_more [] = refl
    no_more (x ∷ xs) = ap (λ (ys : List ℕ). x ∷ ys) (no_more xs)

-- the same closed nodes and branches, and a greater number
pub read_further : (p : Project) (upper : List ℕ) (nodes : List (ℕ × SearchNode)) (old new : Reader) → HasRead p upper nodes old → new.branches.items ≡ old.branches.items → new.closed ≡ old.closed → old.number ≤ new.number → HasRead p upper nodes new
read_further p upper nodes old new h same kept later = record {
  records = subst (λ (c : Closed). AreRecords p upper nodes c) (sym kept) h.records;
  closed = λ m v c. omega (arith, h.closed m v c, later);
  opened = λ b c. omega (arith, h.opened b (subst (λ (xs : List Branch). Contains xs b) same c), later);
  fits = λ b c. h.fits b (subst (λ (xs : List Branch). Contains xs b) same c);
  rising = subst (λ (xs : List Branch). AllPairs (λ (x : Branch) (y : Branch). x.number < y.number) xs) (sym same) h.rising;
  apart = λ b c. h.apart b (subst (λ (xs : List Branch). Contains xs b) same c);
}

-- the last of some branches, or one before it
pub last_or : (branches : List Branch) (b x : Branch) → Contains (branches ++ b ∷ []) x → Contains branches x ⊎ (b ≡ x)
last_or branches b x c = elim (Contains-append_cases branches (b ∷ []) x c) [
  | inl before ↦ inl before
  | inr here ↦ elim (member_cases b [] x here) [ inl same ↦ inr same | inr none ↦ absurd (no_member x none) ]
]

abbrev Earlier : Branch → Branch → Type 0
Earlier x y = x.number < y.number

-- one branch more rises, where its number is greater
rising_push : (branches : List Branch) (b : Branch) → AllPairs Earlier branches → ((x : Branch) → Contains branches x → x.number < b.number) → AllPairs Earlier (branches ++ b ∷ [])
rising_push [] b h less zero zero d l k = absurd (omega arith)
rising_push [] b h less i (suc j) d l k = absurd (omega (arith, k))
rising_push [] b h less (suc i) zero d l k = absurd (omega arith)
rising_push (x ∷ branches) b h less zero zero d l k = absurd (omega arith)
rising_push (x ∷ branches) b h less zero (suc j) d l k = elim (last_or branches b (slice_index_or (branches ++ b ∷ []) j d) (j, omega (arith, k), get_same (branches ++ b ∷ []) j d)) [
  | inl before ↦ member_after Earlier x branches (slice_index_or (branches ++ b ∷ []) j d) h before
  | inr here ↦ subst (λ (y : Branch). x.number < y.number) here (less x (member_first x branches x refl))
]
  where
    get_same : (xs : List Branch) (j : ℕ) (d : Branch) → slice_index_or xs j (slice_index_or xs j d) ≡ slice_index_or xs j d
    get_same [] j d = refl
    get_same (y ∷ xs) zero d = refl
    get_same (y ∷ xs) (suc j) d = get_same xs j d
rising_push (x ∷ branches) b h less (suc i) zero d l k = absurd (omega arith)
rising_push (x ∷ branches) b h less (suc i) (suc j) d l k = rising_push branches b (rising_tail Earlier x branches h) (λ y c. less y (member_later x branches y c)) i j d (omega arith) (omega (arith, k))

-- a node more is open
pub read_opened : (p : Project) (a : List ℕ) (window : Bounds) (time : ℕ) (nodes : List (ℕ × SearchNode)) (old new : Reader) → HasRead p window.upper nodes old → IsOpenedBy p a window time old new → new.number ≡ old.number + 1 → HasRead p window.upper nodes new
read_opened p a window time nodes old new h o next = record {
  records = subst (λ (c : Closed). AreRecords p window.upper nodes c) (sym o.closed) h.records;
  closed = λ m v c. omega (arith, h.closed m v c, next);
  opened = λ b c. elim (last_or old.branches.items o.branch b (subst (λ (xs : List Branch). Contains xs b) o.branches c)) [
    | inl before ↦ omega (arith, h.opened b before, next)
    | inr same ↦ omega (arith, ap (λ (x : Branch). x.number) same, o.number, next)
  ];
  fits = λ b c i l. elim (last_or old.branches.items o.branch b (subst (λ (xs : List Branch). Contains xs b) o.branches c)) [
    | inl before ↦ h.fits b before i l
    | inr same ↦ subst (λ (x : Branch). slice_index (early_of p x.lower) i ≤ slice_index window.upper i) same (o.opened.below i l)
  ];
  rising = subst (λ (xs : List Branch). AllPairs Earlier xs) (sym o.branches) (rising_push old.branches.items o.branch h.rising (λ x c. omega (arith, h.opened x c, o.number)));
  apart = λ b c. elim (last_or old.branches.items o.branch b (subst (λ (xs : List Branch). Contains xs b) o.branches c)) [
    | inl before ↦ h.apart b before
    | inr same ↦ λ v k. omega (arith, h.closed b.number v k, ap (λ (x : Branch). x.number) same, o.number)
  ];
}

-- the branches before the last
pub rising_front : (branches : List Branch) (b : Branch) → AllPairs Earlier (branches ++ b ∷ []) → AllPairs Earlier branches × ((x : Branch) → Contains branches x → x.number < b.number)
rising_front [] b h = ((λ i j d l k. absurd (omega (arith, k))), λ x c. absurd (no_member x c))
rising_front (y ∷ branches) b h =
    let rest = rising_front branches b (rising_tail Earlier y (branches ++ b ∷ []) h) in (
      rising_more y branches (λ x c. member_after Earlier y (branches ++ b ∷ []) x h (Contains-append_left branches (b ∷ []) x c)) rest.0,
      λ x c. elim (member_cases y branches x c) [
        | inl same ↦ subst (λ (z : Branch). z.number < b.number) same (member_after Earlier y (branches ++ b ∷ []) b h (Contains-append_right branches (b ∷ []) b (member_first b [] b refl)))
        | inr there ↦ rest.1 x there
      ],
    )
  where
    rising_more : (x : Branch) (xs : List Branch) → ((z : Branch) → Contains xs z → Earlier x z) → AllPairs Earlier xs → AllPairs Earlier (x ∷ xs)
    rising_more x xs h rising zero zero d less l = absurd (omega arith)
    rising_more x xs h rising zero (suc j) d less l = h (slice_index_or xs j d) (j, omega (arith, l), get_same xs j d)
      where
        get_same : (xs : List Branch) (j : ℕ) (d : Branch) → slice_index_or xs j (slice_index_or xs j d) ≡ slice_index_or xs j d
        get_same [] j d = refl
        get_same (x ∷ xs) zero d = refl
        get_same (x ∷ xs) (suc j) d = get_same xs j d
    rising_more x xs h rising (suc i) zero d less l = absurd (omega arith)
    rising_more x xs h rising (suc i) (suc j) d less l = rising i j d (omega arith) (omega arith)

-- the last branch went on
pub read_again : (p : Project) (upper : List ℕ) (nodes : List (ℕ × SearchNode)) (old new : Reader) (rest : List Branch) (b c : Branch) → HasRead p upper nodes old → old.branches.items ≡ rest ++ b ∷ [] → new.branches.items ≡ rest ++ c ∷ [] →
    c.number ≡ b.number → c.lower ≡ b.lower → new.closed ≡ old.closed → new.number ≡ old.number → HasRead p upper nodes new
read_again p upper nodes old new rest b c h before after number' lower' kept same = record {
  records = subst (λ (k : Closed). AreRecords p upper nodes k) (sym kept) h.records;
  closed = λ m v k. omega (arith, h.closed m v k, same);
  opened = λ x k. elim (last_or rest c x (subst (λ (xs : List Branch). Contains xs x) after k)) [
    | inl there ↦ omega (arith, h.opened x (old_front x there), same)
    | inr here ↦ omega (arith, h.opened b old_last, ap (λ (z : Branch). z.number) here, number', same)
  ];
  fits = λ x k i l. elim (last_or rest c x (subst (λ (xs : List Branch). Contains xs x) after k)) [
    | inl there ↦ h.fits x (old_front x there) i l
    | inr here ↦ omega (arith, h.fits b old_last i l, ap (λ (xs : List ℕ). slice_index (early_of p xs) i) lower', ap (λ (z : Branch). slice_index (early_of p z.lower) i) here)
  ];
  rising =
      let fronts = rising_front rest b (subst (λ (xs : List Branch). AllPairs Earlier xs) before h.rising) in
      subst (λ (xs : List Branch). AllPairs Earlier xs) (sym after) (rising_push rest c fronts.0 (λ x k. omega (arith, fronts.1 x k, number')));
  apart = λ x k. elim (last_or rest c x (subst (λ (xs : List Branch). Contains xs x) after k)) [
    | inl there ↦ h.apart x (old_front x there)
    | inr here ↦ λ v n. h.apart b old_last v (subst (λ m. Contains nodes (m, v)) (sym (ap (λ (z : Branch). z.number) here) ∙ number') n)
  ];
}
  where
    old_front : (x : Branch) → Contains rest x → Contains old.branches.items x
    old_front x k = subst (λ (xs : List Branch). Contains xs x) (sym before) (Contains-append_left rest (b ∷ []) x k)

    old_last : Contains old.branches.items b
    old_last = subst (λ (xs : List Branch). Contains xs b) (sym before) (Contains-append_right rest (b ∷ []) b (member_first b [] b refl))

-- two numbers are equal or not
pub equal_or_not : (m n : ℕ) → (m ≡ n) ⊎ (m ≢ n)
equal_or_not m n = elim (cases_lt m n) [
  | inl low ↦ inr (λ e. omega (arith, e, low))
  | inr high ↦ elim (cases_lt n m) [ inl up ↦ inr (λ e. omega (arith, e, up)) | inr down ↦ inl (omega (arith, high, down)) ]
]

pair_number : (m n : ℕ) (v w : SearchNode) → ◌≡◌ {A = ℕ × SearchNode} (m, v) (n, w) → m ≡ n
pair_number m n v w e = ap (λ (x : ℕ × SearchNode). x.0) e

pair_node : (m n : ℕ) (v w : SearchNode) → ◌≡◌ {A = ℕ × SearchNode} (m, v) (n, w) → v ≡ w
pair_node m n v w e = ap (λ (x : ℕ × SearchNode). x.1) e

pub kept_node : (r s : Record) → Some (Some r) ≡ Some (Some s) → r ≡ s
kept_node r s e = let inner : Some r ≡ Some s = cc e in cc inner

-- the last branch is closed
module _ (p : Project) (a upper : List ℕ) (nodes : List (ℕ × SearchNode)) (old new : Reader) (rest : List Branch) (b : Branch) (row : Record) (h : HasRead p upper nodes old) (before : old.branches.items ≡ rest ++ b ∷ []) (after : new.branches.items ≡ rest)
    (same : new.number ≡ old.number) (places : length a ≡ p.resources) (high : length upper ≡ length p.jobs) (is : IsBranch p a b) (kept : IsKept old.closed b.number row new.closed) (is_row : IsRecordOf p (open_node p a upper b).node row) where
  abbrev node : SearchNode
  node = (open_node p a upper b).node

  abbrev more : List (ℕ × SearchNode)
  more = (b.number, node) ∷ nodes

  last_in : Contains old.branches.items b
  last_in = subst (λ (xs : List Branch). Contains xs b) (sym before) (Contains-append_right rest (b ∷ []) b (member_first b [] b refl))

  front_in : (x : Branch) → Contains new.branches.items x → Contains old.branches.items x
  front_in x c = subst (λ (xs : List Branch). Contains xs x) (sym before) (Contains-append_left rest (b ∷ []) x (subst (λ (xs : List Branch). Contains xs x) after c))

  is_node : IsNode p node
  is_node = record { resources = places; lower = is.places; upper = high; early = is.starts }

  is_fitting : FitsBeforeTime p node
  is_fitting = record { within = is.conflict.first.before; below = λ i l s. h.fits b last_in i l }

  -- of what is said of each closed node, what holds of this one and of those before
  each : (P : ℕ → SearchNode → Type 0) → P b.number node → ((m : ℕ) (v : SearchNode) → Contains nodes (m, v) → P m v) → (m : ℕ) (v : SearchNode) → Contains more (m, v) → P m v
  each P own others m v c = elim (member_cases (b.number, node) nodes (m, v) c) [
    | inl here ↦ subst (λ (x : ℕ × SearchNode). P x.0 x.1) here own
    | inr there ↦ others m v there
  ]

  -- the node's place in the table
  own_place : (place : Option (Option Record)) → record_at old.closed b.number ≡ place → (record_at new.closed b.number ≡ Some (Some row)) ⊎ (record_at new.closed b.number ≡ None)
  own_place None e = inr (kept.unnamed e)
  own_place (Some place) e = inl (kept.named place e)

  told_own : (r : Record) → record_at new.closed b.number ≡ Some (Some r) → r ≡ row
  told_own r e = elim (own_place (record_at old.closed b.number) refl) [
    | inl some ↦ kept_node r row (sym e ∙ some)
    | inr none' ↦ absurd (none-some (Some r) (sym none' ∙ e))
  ]

  pub read_closed : HasRead p upper more new
  read_closed = record {
    records = record {
      one = λ m v w c d. elim (member_cases (b.number, node) nodes (m, v) c) [
        | inl here ↦ elim (member_cases (b.number, node) nodes (m, w) d) [
          | inl also ↦ sym (pair_node b.number m node v here) ∙ pair_node b.number m node w also
          | inr there ↦ absurd (h.apart b last_in w (subst (λ k. Contains nodes (k, w)) (sym (pair_number b.number m node v here)) there))
        ]
        | inr there ↦ elim (member_cases (b.number, node) nodes (m, w) d) [
          | inl also ↦ absurd (h.apart b last_in v (subst (λ k. Contains nodes (k, v)) (sym (pair_number b.number m node w also)) there))
          | inr other ↦ h.records.one m v w there other
        ]
      ];
      node = each (λ m v. IsNode p v) is_node h.records.node;
      fits = each (λ m v. FitsBeforeTime p v) is_fitting h.records.fits;
      bounds = each (λ m v. v.window.upper ≡ upper) refl h.records.bounds;
      told = λ m r e. elim (equal_or_not m b.number) [
        | inl here ↦
            let e' : record_at new.closed b.number ≡ Some (Some r) = subst (λ k. record_at new.closed k ≡ Some (Some r)) here e in
            (node, member_first (b.number, node) nodes (m, node) (λ i. (sym here i, node)), subst (λ (x : Record). IsRecordOf p node x) (sym (told_own r e')) is_row)
        | inr other ↦ let t = h.records.told m r (sym (kept.others m other) ∙ e) in (t.0, member_later (b.number, node) nodes (m, t.0) t.1, t.2)
      ];
      all = λ m v c e. elim (member_cases (b.number, node) nodes (m, v) c) [
        | inl here ↦
            let e' : record_at new.closed b.number ≡ Some None = subst (λ k. record_at new.closed k ≡ Some None) (sym (pair_number b.number m node v here)) e in
            elim (own_place (record_at old.closed b.number) refl) [
              | inl some ↦ absurd (none-some row (some_inner None (Some row) (sym e' ∙ some)))
              | inr none' ↦ absurd (none-some None (sym none' ∙ e'))
            ]
        | inr there ↦ elim (equal_or_not m b.number) [
          | inl same' ↦ absurd (h.apart b last_in v (subst (λ k. Contains nodes (k, v)) same' there))
          | inr other ↦ h.records.all m v there (sym (kept.others m other) ∙ e)
        ]
      ];
    };
    closed = each (λ m v. m < new.number) (omega (arith, h.opened b last_in, same)) (λ m v c. omega (arith, h.closed m v c, same));
    opened = λ x c. omega (arith, h.opened x (front_in x c), same);
    fits = λ x c. h.fits x (front_in x c);
    rising = subst (λ (xs : List Branch). AllPairs Earlier xs) (sym after) (fronts.0);
    apart = λ x c v n. elim (member_cases (b.number, node) nodes (x.number, v) n) [
      | inl here ↦ omega (arith, fronts.1 x (subst (λ (xs : List Branch). Contains xs x) after c), pair_number b.number x.number node v here)
      | inr there ↦ h.apart x (front_in x c) v there
    ];
  }
    where
      fronts : AllPairs Earlier rest × ((x : Branch) → Contains rest x → x.number < b.number)
      fronts = rising_front rest b (subst (λ (xs : List Branch). AllPairs Earlier xs) before h.rising)

      some_inner : (x y : Option Record) → Some x ≡ Some y → x ≡ y
      some_inner x y e = cc e
