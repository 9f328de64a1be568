-- What is true of the node that a record keeps.
use Rattle.std.proofs.Common.{◌≡◌, ◌↔◌, ◌∙◌, Bool, IsTrue, ℕ, ◌+◌, ◌<◌, ◌≤◌, inl, inr, List, length, slice_index, arith, ap, refl, sym, subst}
use Rattle.std.proofs.lemmas.Bool.{cases_lt}
use Rattle.std.proofs.lemmas.Bool.Decides.{nat_tests}
use Rattle.std.proofs.lemmas.List.FromFn.{length-map-range_with_len, get_or-map-range_with_len}
use Rattle.racp_model.specs.Project.{Project, IsSound, duration}
use Rattle.racp_model.specs.Window.{IsNo}
use Rattle.racp_cutset.specs.Covering.{SearchNode, IsNode, IsStarted, IsRefutedNode, FitsBeforeTime, Covers, HasCutsetOf, HasCapacitiesOf, HasUpperOf, EndsNoLater, MayStartAsEarly}
use Rattle.racp_cutset.specs.Records.{settled, settled_bound, IsPacked, Told}
use Rattle.racp_cutset.specs.Told.{told_once}
use Rattle.racp_cutset.specs.Rows.{IsAtLeastRow, IsSoonerRow}
use Rattle.racp_cutset.proofs.Nodes.{IsKept, cutset_tests}

-- the lower bounds of a settled node
pub settled_at : (p : Project) (v : SearchNode) (i : ℕ) → i < length p.jobs → slice_index (settled p v).window.lower i ≡ settled_bound v i
settled_at p v i l = get_or-map-range_with_len (settled_bound v) 0 (length p.jobs) i i 0 l (omega arith)

pub settled_started : (p : Project) (v : SearchNode) (i : ℕ) → i < length p.jobs → IsStarted v i → slice_index (settled p v).window.lower i ≡ slice_index v.early i
unfolding settled_bound
settled_started p v i l started = settled_at p v i l ∙ grind (arith, nat_tests)

pub settled_later : (p : Project) (v : SearchNode) (i : ℕ) → i < length p.jobs → v.time ≤ slice_index v.early i → slice_index (settled p v).window.lower i ≡ slice_index v.window.lower i
unfolding settled_bound
settled_later p v i l later = settled_at p v i l ∙ grind (arith, nat_tests)

-- lie between the lower bounds and the early starts
pub settled_between : (p : Project) (v : SearchNode) → IsNode p v → (i : ℕ) → i < length p.jobs
    → (slice_index v.window.lower i ≤ slice_index (settled p v).window.lower i) × (slice_index (settled p v).window.lower i ≤ slice_index v.early i)
settled_between p v node i l = elim (cases_lt (slice_index v.early i) v.time) [
  | inl started ↦ (omega (arith, settled_started p v i l started, node.early.above i l), omega (arith, settled_started p v i l started))
  | inr later ↦ (omega (arith, settled_later p v i l later), omega (arith, settled_later p v i l later, node.early.above i l))
]

-- a settled node is a node
pub settled_node : (p : Project) (v : SearchNode) → IsNode p v → IsNode p (settled p v)
settled_node p v node = record {
  resources = node.resources;
  lower = length-map-range_with_len (settled_bound v) 0 (length p.jobs);
  upper = node.upper;
  early = record {
    places = node.early.places;
    above = λ i l. (settled_between p v node i l).1;
    precedence = node.early.precedence;
    least = λ starts above precedence i l. node.early.least starts (λ j m. omega (arith, (settled_between p v node j m).0, above j m)) precedence i l;
  };
}

-- it fits before its time as the node does, and its question is a no where the node's is
pub settled_refuted : (p : Project) (v : SearchNode) → IsNode p v → IsRefutedNode p v → IsRefutedNode p (settled p v)
settled_refuted p v node h = record {
  fits = record { within = h.fits.within; below = h.fits.below };
  refuted = λ starts answer. h.refuted starts (record {
    lies = record {
      places = answer.lies.places;
      above = λ i l. omega (arith, (settled_between p v node i l).0, answer.lies.above i l);
      below = answer.lies.below;
    };
    fits = answer.fits;
  });
}

-- it covers what the node covers
pub settled_covers : (p : Project) (v w : SearchNode) → Covers p (settled p v) w ↔ Covers p v w
settled_covers p v w = (
  λ h. record {
    room = record { capacities = h.room.capacities; upper = h.room.upper };
    cutset = record { started = h.cutset.started; time = h.cutset.time };
    ends = h.ends;
    lower = λ i l later. omega (arith, settled_later p v i l later, h.lower i l later);
    fits = record { within = h.fits.within; below = h.fits.below };
  },
  λ h. record {
    room = record { capacities = h.room.capacities; upper = h.room.upper };
    cutset = record { started = h.cutset.started; time = h.cutset.time };
    ends = h.ends;
    lower = λ i l later. omega (arith, settled_later p v i l later, h.lower i l later);
    fits = record { within = h.fits.within; below = h.fits.below };
  },
)

-- a row has the end of each started job of a node, and the lower bound of each other
pub record HasRow (p : Project) (v : SearchNode) (row : List ℕ) : Type 0 where
  pub places : length row ≡ length p.jobs
  pub ends : (i : ℕ) → i < length p.jobs → IsStarted v i → slice_index row i ≡ slice_index v.early i + duration p i
  pub lower : (i : ℕ) → i < length p.jobs → v.time ≤ slice_index v.early i → slice_index row i ≡ slice_index v.window.lower i

-- as that of a record
pub row_of_record : (p : Project) (capacities upper bounds started row : List ℕ) (time : ℕ) (v : SearchNode) → IsPacked p capacities upper bounds started time v → row ≡ bounds → HasRow p v row
row_of_record p capacities upper bounds started row time v a e =
    subst (HasRow p v) (sym e) (record { places = a.places; ends = a.ends; lower = a.lower })

-- and that of a node
pub row_of_node : (p : Project) (v : SearchNode) (ends started bounds row : List ℕ) → IsKept p v ends started bounds → row ≡ bounds → HasRow p v row
row_of_node p v ends started bounds row k e =
    let n = k.1.early.places in
    subst (HasRow p v) (sym e) (record {
      places = k.4.places ∙ n;
      ends = λ i l s. omega (arith, k.4.before i (omega (arith, l, n)) s, k.2.each i l);
      lower = λ i l s. k.4.after i (omega (arith, l, n)) s;
    })

-- the test of two such rows, where v is the node of the record and w the other one
pub sooner_rows : (p : Project) (v w : SearchNode) (row row' : List ℕ) (when : ℕ) → HasRow p v row → HasRow p w row' → when ≡ w.time → HasCutsetOf p v w → IsSoonerRow row when row' ↔ (EndsNoLater p v w × MayStartAsEarly p v w)
sooner_rows p v w row row' when a b is_when same = (
  λ h. (
    (λ i l started. (let s = (same.started i l).0 started in omega (arith, is_when, h i (omega (arith, l, a.places)), a.ends i l started, b.ends i l s))),
    (λ i l later. elim (cases_lt (slice_index w.early i) w.time) [
      | inl s ↦ absurd (let also = (same.started i l).1 s in omega (arith, also, later))
      | inr s ↦ omega (arith, is_when, h i (omega (arith, l, a.places)), a.lower i l later, b.lower i l s)
    ]),
  ),
  λ h i m. (let l : i < length p.jobs = omega (arith, m, a.places) in elim (cases_lt (slice_index v.early i) v.time) [
    | inl s ↦ (let also = (same.started i l).0 s in omega (arith, is_when, h.0 i l s, a.ends i l s, b.ends i l also))
    | inr s ↦ elim (cases_lt (slice_index w.early i) w.time) [
      | inl also ↦ absurd (let t = (same.started i l).1 also in omega (arith, t, s))
      | inr also ↦ omega (arith, is_when, h.1 i l s, a.lower i l s, b.lower i l also)
    ]
  ]),
)

-- the sets of started jobs of a record and of a node
pub cutset_of_node : (p : Project) (capacities upper bounds started : List ℕ) (time : ℕ) (v w : SearchNode) (ends set bounds' : List ℕ) → IsPacked p capacities upper bounds started time v → IsKept p w ends set bounds' → v.time ≤ w.time → (started ≡ set) ↔ HasCutsetOf p v w
cutset_of_node p capacities upper bounds started time v w ends set bounds' a k l = cutset_tests p v w started set a.node k.1 a.jobs k.3 l

-- and of two records
pub cutset_of_record : (p : Project) (capacities upper bounds started capacities' upper' bounds' started' : List ℕ) (time time' : ℕ) (v w : SearchNode)
    → IsPacked p capacities upper bounds started time v → IsPacked p capacities' upper' bounds' started' time' w → v.time ≤ w.time → (started ≡ started') ↔ HasCutsetOf p v w
cutset_of_record p capacities upper bounds started capacities' upper' bounds' started' time time' v w a b l = cutset_tests p v w started started' a.node b.node a.jobs b.jobs l

-- the rows of the node that a record keeps
pub packed : (p : Project) (v : SearchNode) (ends started bounds : List ℕ) → IsKept p v ends started bounds → IsPacked p v.capacities v.window.upper bounds started v.time (settled p v)
packed p v ends started bounds k =
    let row = row_of_node p v ends started bounds bounds k refl in
    record {
      node = settled_node p v k.1;
      of_resources = refl;
      of_upper = refl;
      of_time = refl;
      places = row.places;
      jobs = record { rises = k.3.rises; members = k.3.members };
      ends = row.ends;
      starts = λ i l s. settled_started p v i l s;
      lower = λ i l s. omega (arith, row.lower i l s, settled_later p v i l s);
    }

-- the tests of rows of resources and of upper bounds
pub capacities_of_rows : (p : Project) (v w : SearchNode) (high low : List ℕ) → IsNode p v → high ≡ v.capacities → low ≡ w.capacities → IsAtLeastRow high low ↔ HasCapacitiesOf p v w
capacities_of_rows p v w high low a is_high is_low =
    subst (λ (xs : List ℕ). IsAtLeastRow xs low ↔ HasCapacitiesOf p v w) (sym is_high) (subst (λ (ys : List ℕ). IsAtLeastRow v.capacities ys ↔ HasCapacitiesOf p v w) (sym is_low)
    ((λ h k l. h k (omega (arith, l, a.resources))), (λ h k l. h k (omega (arith, l, a.resources)))))

pub upper_of_rows : (p : Project) (v w : SearchNode) (high low : List ℕ) → IsNode p v → high ≡ v.window.upper → low ≡ w.window.upper → IsAtLeastRow high low ↔ HasUpperOf p v w
upper_of_rows p v w high low a is_high is_low =
    subst (λ (xs : List ℕ). IsAtLeastRow xs low ↔ HasUpperOf p v w) (sym is_high) (subst (λ (ys : List ℕ). IsAtLeastRow v.window.upper ys ↔ HasUpperOf p v w) (sym is_low)
    ((λ h i l. h i (omega (arith, l, a.upper))), (λ h i l. h i (omega (arith, l, a.upper)))))

-- rows that tell a node tell that one
pub told_is : (p : Project) (capacities upper bounds started : List ℕ) (time : ℕ) (t : Told p capacities upper bounds started time) (v : SearchNode) → IsPacked p capacities upper bounds started time v → t.0 ≡ v
told_is p capacities upper bounds started time t v h = ap (λ (x : Told p capacities upper bounds started time). x.0) (told_once p capacities upper bounds started time t (v, ∣ h ∣₁))

-- what is true of each record
abbrev pub IsRecord : Project → List ℕ → List ℕ → List ℕ → List ℕ → ℕ → SearchNode → Type 0
IsRecord p capacities upper bounds started time v = IsSound p × IsPacked p capacities upper bounds started time v × IsRefutedNode p v

-- is true of the record of a node
pub recorded : (p : Project) (capacities upper bounds started : List ℕ) (time : ℕ) (t : Told p capacities upper bounds started time) (v : SearchNode) → IsSound p → IsPacked p capacities upper bounds started time v → IsRefutedNode p v
    → IsRecord p capacities upper bounds started time t.0
recorded p capacities upper bounds started time t v sound h refuted =
    subst (IsRecord p capacities upper bounds started time) (sym (told_is p capacities upper bounds started time t v h)) (sound, h, refuted)

pub record_of : (p : Project) (v node : SearchNode) (ends started bounds capacities upper : List ℕ) → v ≡ node → IsKept p v ends started bounds → capacities ≡ v.capacities → upper ≡ v.window.upper
    → FitsBeforeTime p node → IsNo p node.capacities node.window → IsRecord p capacities upper bounds started v.time (settled p v)
record_of p v node ends started bounds capacities upper same k is_capacities is_upper fits question_is_no =
    let refuted : IsRefutedNode p node = record { fits = fits; refuted = question_is_no } in
    let row = subst (λ (xs : List ℕ). IsPacked p v.capacities xs bounds started v.time (settled p v)) (sym is_upper) (packed p v ends started bounds k) in
    (k.0, subst (λ (xs : List ℕ). IsPacked p xs upper bounds started v.time (settled p v)) (sym is_capacities) row, settled_refuted p v k.1 (subst (IsRefutedNode p) (sym same) refuted))

-- what rows tell, where they tell a settled node, covers what the node covers
pub told_covers : (p : Project) (capacities upper bounds started : List ℕ) (time : ℕ) (t : Told p capacities upper bounds started time) (v node : SearchNode) → IsPacked p capacities upper bounds started time (settled p v) → v ≡ node
    → (other : SearchNode) → Covers p t.0 other ↔ Covers p node other
told_covers p capacities upper bounds started time t v node h same other =
    subst (λ (x : SearchNode). Covers p x other ↔ Covers p node other) (sym (told_is p capacities upper bounds started time t (settled p v) h ∙ ap (settled p) same)) (settled_covers p node other)

-- a test of two rows is one of the rows of two nodes that they are, at so many places
pub tells_rows : (places : ℕ) (high low own other : List ℕ) (told : Bool) → high ≡ own → low ≡ other → length high ≡ places
    → (IsTrue told ↔ IsAtLeastRow high low) → (IsTrue told ↔ ((k : ℕ) → k < places → slice_index other k ≤ slice_index own k))
tells_rows places high low own other told is_own is_other count tells =
    subst (λ (xs : List ℕ). IsTrue told ↔ ((k : ℕ) → k < places → slice_index other k ≤ slice_index xs k)) is_own
    (subst (λ (xs : List ℕ). IsTrue told ↔ ((k : ℕ) → k < places → slice_index xs k ≤ slice_index high k)) is_other
    (subst (λ (n : ℕ). IsTrue told ↔ ((k : ℕ) → k < n → slice_index low k ≤ slice_index high k)) count tells))
