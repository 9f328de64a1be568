-- The nodes that lines of a text name, found one place after another.
use Rattle.std.proofs.Common.{◌≡◌, ◌≢◌, inl, inr, ◌∙◌, ℕ, ◌+◌, ◌-◌, ◌<◌, ◌≤◌, List, [], ◌∷◌, ◌++◌, length, slice_index, take, drop, arith, refl, sym, subst, ap, length-append, length-drop}
use Rattle.std.specs.Prelude.{Option, Some, None, nat_eq}
use Rattle.std.specs.HashMap.{HashMap, get, Updates}
use Rattle.std.proofs.lemmas.Bool.{cases_lt, cases_Bool, cond-true}
use Rattle.std.proofs.lemmas.Option.{none-some}
use Rattle.std.proofs.lemmas.List.{take_all}
use Rattle.racp_trees.specs.Texts.{step_line, step_number, most_number}
use Rattle.racp_trees.specs.Reading.{IsStepAnswer, IsBeforeLine, IsNamed, IsNamedAt}
use Rattle.racp_trees.specs.declared.record.Record.{Record}
use Rattle.racp_trees.specs.declared.step.Step.{Step}
use Rattle.racp_trees.specs.declared.step.Step.TheVariants.{L, D, C}
use Rattle.racp_trees.proofs.Lines.{one_line}

drop_front : (front rest : List ℕ) → drop (length front) (front ++ rest) ≡ rest
drop_front [] rest = refl
drop_front (x ∷ front) rest = drop_front front rest

at_last : (more rest : List ℕ) → slice_index (more ++ 10 ∷ rest) (length more) ≡ 10
at_last [] rest = refl
at_last (x ∷ more) rest = at_last more rest

joined : (more rest : List ℕ) → (more ++ 10 ∷ []) ++ rest ≡ more ++ 10 ∷ rest
joined [] rest = refl
joined (x ∷ more) rest = ap (λ (xs : List ℕ). x ∷ xs) (joined more rest)

-- what stands from a place on
pub tail_is : (text : List ℕ) (at : ℕ) → take (length text - at) (drop at text) ≡ drop at text
tail_is text at = take_all (length text - at) (drop at text) (omega (arith, length-drop at text))

-- a line feed stands before a line
pub no_line_here : (text : List ℕ) (at : ℕ) → 0 < at → slice_index text (at - 1) ≢ 10 → IsNamedAt text at None
no_line_here text at some other front node rest here before small same = absurd (elim before [
  | inl none ↦ omega (arith, some, here, ap (λ (xs : List ℕ). length xs) none)
  | inr line ↦
      let more : List ℕ = line.0 in
      let size : at - 1 ≡ length more = omega (arith, here, ap (λ (xs : List ℕ). length xs) line.1, length-append more (10 ∷ [])) in
      let whole : text ≡ more ++ 10 ∷ (step_line (C node) ++ rest) = same ∙ (ap (λ (xs : List ℕ). xs ++ (step_line (C node) ++ rest)) line.1 ∙ joined more (step_line (C node) ++ rest)) in
      other (ap (λ (xs : List ℕ). slice_index xs (at - 1)) whole ∙ (ap (λ k. slice_index (more ++ 10 ∷ (step_line (C node) ++ rest)) k) size ∙ at_last more (step_line (C node) ++ rest)))
])

-- what stands there
there : (text : List ℕ) (at : ℕ) (front : List ℕ) (node : ℕ) (rest : List ℕ) → length front ≡ at → text ≡ front ++ (step_line (C node) ++ rest) → drop at text ≡ step_line (C node) ++ rest
there text at front node rest here same = ap (λ (xs : List ℕ). drop at xs) same ∙ (ap (λ k. drop k (front ++ (step_line (C node) ++ rest))) (sym here) ∙ drop_front front (step_line (C node) ++ rest))

pub no_step_here : (text tail : List ℕ) (at : ℕ) → tail ≡ drop at text → IsStepAnswer tail None → IsNamedAt text at None
no_step_here text tail at is none front node rest here before small same = absurd (none (C node) rest small (is ∙ there text at front node rest here same))

-- the line that stands there is the one that was read
same_step : (text tail : List ℕ) (at : ℕ) (step : Step) (more : List ℕ) → tail ≡ drop at text → step_number step ≤ most_number → tail ≡ step_line step ++ more →
    (front : List ℕ) (node : ℕ) (rest : List ℕ) → length front ≡ at → node ≤ most_number → text ≡ front ++ (step_line (C node) ++ rest) → step ≡ C node
same_step text tail at step more is little e front node rest here small same = (one_line step (C node) more rest little small (sym e ∙ (is ∙ there text at front node rest here same))).0

number_same : (m n : ℕ) → C m ≡ C n → m ≡ n
number_same m n e = cc e

pub named_here : (text tail : List ℕ) (at : ℕ) (step : Step) (found : ℕ) (more : List ℕ) → tail ≡ drop at text → step ≡ C found → step_number step ≤ most_number → tail ≡ step_line step ++ more → IsNamedAt text at (Some found)
named_here text tail at step found more is which little e front node rest here before small same = ap Some (number_same found node (sym which ∙ same_step text tail at step more is little e front node rest here small same))

pub other_here : (text tail : List ℕ) (at : ℕ) (step : Step) (more : List ℕ) → tail ≡ drop at text → step_number step ≤ most_number → tail ≡ step_line step ++ more → ((node : ℕ) → step ≢ C node) → IsNamedAt text at None
other_here text tail at step more is little e other front node rest here before small same = absurd (other node (same_step text tail at step more is little e front node rest here small same))

-- the places before this one were looked at
pub record IsScanning {S : Type 0} (text : List ℕ) (at : ℕ) (records : HashMap ℕ (Option Record) S) : Type 0 where
  pub named : (front : List ℕ) (node : ℕ) (rest : List ℕ) → length front < at → IsBeforeLine front → node ≤ most_number → text ≡ front ++ (step_line (C node) ++ rest) → (place : Option Record) × (get nat_eq records node ≡ Some place)
  pub empty : (node : ℕ) (kept : Record) → get nat_eq records node ≡ Some (Some kept) → ⊥

-- a place for the node that is found here
module _ {S : Type 0} (text : List ℕ) (at : ℕ) (old new : HashMap ℕ (Option Record) S) (is : IsScanning text at old) where
  pub scanning_put : (found : ℕ) → IsNamedAt text at (Some found) → Updates nat_eq old new found (Some None) → IsScanning text (at + 1) new
  scanning_put found here put = record {
    named = λ front node rest less before small same. elim (cases_lt (length front) at) [
      | inl earlier ↦ let h = is.named front node rest earlier before small same in stays node h.0 h.1
      | inr last ↦ (None, subst (λ (k : ℕ). get nat_eq new k ≡ Some None) (same_place found node (here front node rest (omega (arith, less, last)) before small same)) put.1)
    ];
    empty = λ node kept e. elim (cases_Bool (nat_eq found node)) [
      | inl yes' ↦ absurd (not_both kept (sym (put.0 node ∙ cond-true _ _ _ yes') ∙ e))
      | inr no' ↦ is.empty node kept (sym (put.2 node no') ∙ e)
    ];
  }
    where
      same_place : (m n : ℕ) → Some m ≡ Some n → m ≡ n
      same_place m n e = cc e

      no_record : Option Record
      no_record = None

      inner_none : Option (Option Record)
      inner_none = Some None

      not_both : (kept : Record) → inner_none ≡ Some (Some kept) → ⊥
      not_both kept e = let inner : no_record ≡ Some kept = cc e in none-some kept inner

      stays : (node : ℕ) (place : Option Record) → get nat_eq old node ≡ Some place → (other : Option Record) × (get nat_eq new node ≡ Some other)
      stays node place e = elim (cases_Bool (nat_eq found node)) [
        | inl yes' ↦ (None, put.0 node ∙ cond-true _ _ _ yes')
        | inr no' ↦ (place, put.2 node no' ∙ e)
      ]

-- nothing is found here
pub scanning_pass : {S : Type 0} (text : List ℕ) (at : ℕ) (records : HashMap ℕ (Option Record) S) → IsScanning text at records → IsNamedAt text at None → IsScanning text (at + 1) records
scanning_pass text at records is here = record {
  named = λ front node rest less before small same. elim (cases_lt (length front) at) [
    | inl earlier ↦ is.named front node rest earlier before small same
    | inr last ↦ absurd (none-some node (here front node rest (omega (arith, less, last)) before small same))
  ];
  empty = is.empty;
}

line_some : (s : Step) (rest : List ℕ) → 0 < length (step_line s ++ rest)
unfolding step_line
line_some (L job) rest = omega arith
line_some (D time) rest = omega arith
line_some (C node) rest = omega arith

pub scanning_end : {S : Type 0} (text : List ℕ) (at : ℕ) (records : HashMap ℕ (Option Record) S) (node : ℕ) → IsScanning text at records → length text ≤ at → IsNamed text node → (place : Option Record) × (get nat_eq records node ≡ Some place)
scanning_end text at records node is all named =
    let size : length named.front < length text = omega (arith, ap (λ (xs : List ℕ). length xs) named.whole, length-append named.front (step_line (C node) ++ named.rest), line_some (C node) named.rest) in
    is.named named.front node named.rest (omega (arith, all, size)) named.lines named.small named.whole
