-- A text that is written piece after piece.
use Rattle.std.proofs.Common.{◌≡◌, ℕ, List, ◌++◌, Option, take, drop, sym, ap, ◌∙◌, append_assoc, take-append-drop}
use Rattle.std.specs.Io.KnownBytes.{Appends}
use Rattle.std.proofs.KnownBytes.{Appends-trans}

-- the front of the text is written, and the rest is not
pub record IsWriting (old now : Option (List ℕ)) (text rest : List ℕ) : Type 0 where
  pub done : List ℕ
  pub split : text ≡ done ++ rest
  pub appended : Appends old now done

-- a call took the first n bytes of the rest
pub writes_on : (old now new : Option (List ℕ)) (text rest after : List ℕ) (n : ℕ) → IsWriting old now text rest → Appends now new (take n rest) → after ≡ drop n rest → IsWriting old new text after
writes_on old now new text rest after n w p same = record {
  done = w.done ++ take n rest;
  split = w.split ∙ ap (λ (t : List ℕ). w.done ++ t) (sym (take-append-drop n rest)) ∙ sym (append_assoc w.done (take n rest) (drop n rest)) ∙ ap (λ (t : List ℕ). (w.done ++ take n rest) ++ t) (sym same);
  appended = Appends-trans old now new w.done (take n rest) w.appended p;
}
