-- Findings, change by change.
use Rattle.std.proofs.Common.{◌≡◌, ◌∙◌, ◌+◌, ◌<◌, ◌++◌, ◌∷◌, [], ℕ, List, length, drop, get_or, map, All, ap, sym, append_assoc, add-one, drop-cons, subst}
use Rattle.std.proofs.lemmas.List.{map-append}
use Rattle.std.proofs.lemmas.List.Elements.{All-append, All-cons, All-nil}
use Rattle.racp_model.specs.Project.{Project}
use Rattle.racp_model.specs.Terms.{Terms}
use Rattle.racp_whatif.specs.declared.change.Change.{Change}
use Rattle.racp_whatif.specs.declared.outcome.Finding.{Finding}
use Rattle.racp_whatif.specs.Outcomes.{IsFinding, change_of}

-- findings for the changes before a place
pub record IsListing (may_stop : Type 0) (p : Project) (terms : Terms) (changes : List Change) (place : ℕ) (findings : List Finding) : Type 0 where
  pub changes_are : map change_of findings ++ drop place changes ≡ changes
  pub right : All (IsFinding may_stop p terms) findings

-- the finding for the next change is added
pub listing_on : (may_stop : Type 0) (p : Project) (terms : Terms) (changes : List Change) (place : ℕ) (findings new : List Finding) (found : Finding) (d : Change) → place < length changes → IsListing may_stop p terms changes place findings → change_of found ≡ get_or changes place d → IsFinding may_stop p terms found → new ≡ findings ++ found ∷ [] → IsListing may_stop p terms changes (place + 1) new
listing_on may_stop p terms changes place findings new found d within so_far same right grown =
    let rest : List Change = drop (place + 1) changes in
    let split : drop place changes ≡ get_or changes place d ∷ rest = rw (add-one) (drop-cons changes place d within) in
    record {
      changes_are = ap (λ (t : List Finding). map change_of t ++ rest) grown
          ∙ ap (λ (t : List Change). t ++ rest) (map-append change_of findings (found ∷ []))
          ∙ append_assoc (map change_of findings) (change_of found ∷ []) rest
          ∙ ap (λ (x : Change). map change_of findings ++ (x ∷ rest)) same
          ∙ sym (ap (λ (t : List Change). map change_of findings ++ t) split)
          ∙ so_far.changes_are;
      right = subst (λ (t : List Finding). All (IsFinding may_stop p terms) t) (sym grown) (All-append (IsFinding may_stop p terms) findings (found ∷ []) so_far.right (All-cons (IsFinding may_stop p terms) found [] right (All-nil (IsFinding may_stop p terms))));
    }
