-- The next vector of a box: the last place that is below its upper bound rises by 1, and the places after it go back to
-- their lower bounds.
use Rattle.std.proofs.Common.{◌≡◌, ℕ, ◌+◌, ◌<◌, ◌≤◌, inl, inr, List, length, slice_index, set, length-set, arith}
use Rattle.std.proofs.lemmas.Bool.{cases_lt}
use Rattle.racp_model.proofs.lemmas.Lists.{at_set}
use Rattle.racp_model.proofs.lemmas.Orders.{HasFirstPlace, first_from_lex, lex_from_first}
use Rattle.racp_reference.specs.Boxes.{IsInBox, IsNext, IsLast}

-- the places from i on were at their upper bounds, and are now at their lower ones; those before it are as they were
pub record IsCarried (lower upper old : List ℕ) (i : ℕ) (vector : List ℕ) : Type 0 where
  pub places : length vector ≡ length old
  pub before : (q : ℕ) → q < i → slice_index vector q ≡ slice_index old q
  pub full : (q : ℕ) → i ≤ q → q < length old → slice_index old q ≡ slice_index upper q
  pub reset : (q : ℕ) → i ≤ q → q < length old → slice_index vector q ≡ slice_index lower q

-- at the start nothing is carried
pub carried_none : (lower upper old : List ℕ) → IsCarried lower upper old (length old) old
carried_none lower upper old = record {
  places = omega arith;
  before = λ q l. omega arith;
  full = λ q l m. absurd (omega arith);
  reset = λ q l m. absurd (omega arith);
}

-- a place at its upper bound goes back to its lower one
pub carried_more : (lower upper old : List ℕ) (i : ℕ) (vector : List ℕ) → IsInBox lower upper old → i < length old → IsCarried lower upper old (i + 1) vector →
    slice_index upper i ≤ slice_index vector i → IsCarried lower upper old i (set vector i (slice_index lower i))
carried_more lower upper old i vector box l h most = record {
  places = omega (arith, h.places, length-set vector i (slice_index lower i));
  before = λ q m. elim (at_set vector i (slice_index lower i) q (omega (arith, h.places))) [
    | inl here ↦ absurd (omega (arith, here.0))
    | inr there ↦ omega (arith, there.1, h.before q (omega arith))
  ];
  full = λ q m n. elim (cases_lt i q) [
    | inl later ↦ h.full q (omega arith) n
    | inr here ↦
        let e : q ≡ i = omega arith in
        rw e (omega (arith, most, h.before i (omega arith), box.below i l))
  ];
  reset = λ q m n. elim (at_set vector i (slice_index lower i) q (omega (arith, h.places))) [
    | inl here ↦ rw here.0 (rw here.0 at here.1)
    | inr there ↦ omega (arith, there.0, there.1, h.reset q (omega (arith, there.0)) n)
  ];
}

-- where every place was at its upper bound, no vector of the box comes after
pub carried_all : (lower upper old vector : List ℕ) → IsInBox lower upper old → IsCarried lower upper old 0 vector → IsLast lower upper old
carried_all lower upper old vector box h after g =
    let k = first_from_lex old after (omega (arith, g.within.upper_places, box.upper_places)) g.greater in
    absurd (omega (arith, k.1, k.3, h.full k.0 (omega arith) k.1, g.within.below k.0 (omega (arith, k.1, g.within.upper_places, box.upper_places))))

-- what stands at each place of the next vector
pub record IsRaisedAt (lower upper old : List ℕ) (i : ℕ) (next : List ℕ) : Type 0 where
  pub places : length next ≡ length old
  pub before : (q : ℕ) → q < i → slice_index next q ≡ slice_index old q
  pub here : slice_index next i ≡ slice_index old i + 1
  pub room : slice_index old i < slice_index upper i
  pub full : (q : ℕ) → i < q → q < length old → slice_index old q ≡ slice_index upper q
  pub reset : (q : ℕ) → i < q → q < length old → slice_index next q ≡ slice_index lower q

-- a place below its upper bound is raised
pub raised_at : (lower upper old : List ℕ) (i : ℕ) (vector : List ℕ) → i < length old → IsCarried lower upper old (i + 1) vector → slice_index vector i < slice_index upper i →
    IsRaisedAt lower upper old i (set vector i (slice_index vector i + 1))
raised_at lower upper old i vector l h room =
    let at = λ (q : ℕ). at_set vector i (slice_index vector i + 1) q (omega (arith, h.places)) in
    record {
      places = omega (arith, h.places, length-set vector i (slice_index vector i + 1));
      before = λ q m. elim (at q) [
        | inl same ↦ absurd (omega (arith, same.0))
        | inr other ↦ omega (arith, other.1, h.before q (omega arith))
      ];
      here = elim (at i) [
        | inl same ↦ omega (arith, same.1, h.before i (omega arith))
        | inr other ↦ absurd (omega (arith, other.0))
      ];
      room = omega (arith, room, h.before i (omega arith));
      full = λ q m n. h.full q (omega arith) n;
      reset = λ q m n. elim (at q) [
        | inl same ↦ absurd (omega (arith, same.0))
        | inr other ↦ omega (arith, other.1, h.reset q (omega arith) n)
      ];
    }

-- it is in the box
pub raised-within : (lower upper old : List ℕ) (i : ℕ) (next : List ℕ) → IsInBox lower upper old → i < length old → IsRaisedAt lower upper old i next → IsInBox lower upper next
raised-within lower upper old i next box l h = record {
  lower_places = omega (arith, h.places, box.lower_places);
  upper_places = omega (arith, h.places, box.upper_places);
  above = λ q m. elim (cases_lt q i) [
    | inl before ↦ omega (arith, h.before q before, box.above q (omega (arith, h.places)))
    | inr from ↦ elim (cases_lt i q) [
      | inl later ↦ omega (arith, h.reset q later (omega (arith, h.places)))
      | inr here ↦ let e : q ≡ i = omega arith in rw e (omega (arith, h.here, box.above i l))
    ]
  ];
  below = λ q m. elim (cases_lt q i) [
    | inl before ↦ omega (arith, h.before q before, box.below q (omega (arith, h.places)))
    | inr from ↦ elim (cases_lt i q) [
      | inl later ↦ omega (arith, h.reset q later (omega (arith, h.places)), box.above q (omega (arith, h.places)), box.below q (omega (arith, h.places)))
      | inr here ↦ let e : q ≡ i = omega arith in rw e (omega (arith, h.here, h.room))
    ]
  ];
}

-- no vector of the box stands between the two
pub raised-least : (lower upper old : List ℕ) (i : ℕ) (next after : List ℕ) → IsInBox lower upper old → IsRaisedAt lower upper old i next →
    IsInBox lower upper after → HasFirstPlace old after → HasFirstPlace after next → ⊥
raised-least lower upper old i next after box h g k m =
    let same : length after ≡ length old = omega (arith, g.upper_places, box.upper_places) in
    elim (cases_lt i k.0) [
      | inl late ↦ omega (arith, k.3, h.full k.0 late k.1, g.below k.0 (omega (arith, k.1, same)))
      | inr early ↦ elim (cases_lt m.0 k.0) [
        | inl low ↦ omega (arith, m.3, k.2 m.0 low, h.before m.0 (omega arith))
        | inr high ↦ elim (cases_lt k.0 i) [
          | inl sooner ↦ elim (cases_lt k.0 m.0) [
            | inl above ↦ omega (arith, m.2 k.0 above, h.before k.0 sooner, k.3)
            | inr at ↦ let e : m.0 ≡ k.0 = omega arith in omega (arith, rw e at m.3, h.before k.0 sooner, k.3)
          ]
          | inr at' ↦
              let e : k.0 ≡ i = omega arith in
              elim (cases_lt i m.0) [
                | inl above ↦ omega (arith, m.3, h.reset m.0 above (omega (arith, m.1, same)), g.above m.0 m.1)
                | inr at ↦ let f : m.0 ≡ i = omega arith in omega (arith, rw f at m.3, h.here, rw e at k.3)
              ]
        ]
      ]
    ]

-- so it is the next one
pub raised-next : (lower upper old : List ℕ) (i : ℕ) (next : List ℕ) → IsInBox lower upper old → i < length old → IsRaisedAt lower upper old i next → IsNext lower upper old next
raised-next lower upper old i next box l h = record {
  is = record {
    within = raised-within lower upper old i next box l h;
    greater = lex_from_first old next i l (λ q m. omega (arith, h.before q m)) (omega (arith, h.here));
  };
  least = λ after g before.
      raised-least lower upper old i next after box h g.within
      (first_from_lex old after (omega (arith, g.within.upper_places, box.upper_places)) g.greater)
      (first_from_lex after next (omega (arith, g.within.upper_places, box.upper_places, h.places)) before);
}
