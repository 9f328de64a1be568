-- Reading rows one after another: what was read, and what is left to read.
use Rattle.std.proofs.Common.{◌≡◌, refl, sym, ◌∙◌, ap, ℕ, ◌+◌, ◌-◌, ◌<◌, ◌≤◌, List, [], ◌∷◌, ◌++◌, Ok, Err, append_assoc, append-nil, subst}
use Rattle.std.specs.Prelude.{Option, Result}
use Rattle.racp_model.specs.Project.{Activity}
use Rattle.racp_sm.specs.Lines.{Word}
use Rattle.racp_sm.specs.Parts.{next_number, next_numbers, successor_row, successor_rows, request_row, request_rows}
use Rattle.racp_text.specs.Kept.{Keeps, KeepsMore}
use Rattle.racp_text.proofs.lemmas.Rows.{with_front, bind-front, one_more, all_more, no_more}
use Rattle.racp_sm.specs.Steps.{Words, IsSameStream, with_each}
use Rattle.racp_model.specs.Steps.{◌>>=◌}
use Rattle.racp_sm.specs.Faults.{SmFault}
use Rattle.racp_sm.specs.declared.fault.SmFaultKind.{SmFaultKind}
use Rattle.racp_sm.specs.declared.fault.SmFaultKind.TheVariants.{BadSuccessor}

-- what reading a stream gives: things, and the words after them
abbrev pub Read : Type 0 → Type 0
Read X = Result (List X × List Word) SmFault

-- a stream is the same after two steps
pub same_twice : (start now new : Words) → IsSameStream start now → IsSameStream now new → IsSameStream start new
same_twice start now new h g = (g.0 ∙ h.0, g.1 ∙ h.1)

-- a list that nothing was added to, and one that was added to twice
pub more_none : {X Y : Type 0} (view : X → List Y) (list : Option X) → KeepsMore view list list []
more_none view list ys h = subst (Keeps view list) (sym (append-nil ys)) h

pub more_twice : {X Y : Type 0} (view : X → List Y) (old kept new : Option X) (more rest : List Y) → KeepsMore view old kept more → KeepsMore view kept new rest → KeepsMore view old new (more ++ rest)
more_twice view old kept new more rest h g ys is = subst (Keeps view new) (append_assoc ys more rest) (g (ys ++ more) (h ys is))

-- what is read at the title that a stream has now is read at the one that it had
pub at_title : {A : Type 0} (F : ℕ → A) {r : A} {title now : ℕ} → now ≡ title → F now ≡ r → F title ≡ r
at_title F same e = ap F (sym same) ∙ e

-- numbers that are left
abbrev pub numbers_left : ℕ → SmFaultKind → ℕ → ℕ → ℕ → ℕ → List Word → Read ℕ
numbers_left title kind low high total k = next_numbers title kind low high (total - k)

pub numbers_start : (title : ℕ) (kind : SmFaultKind) (low high total : ℕ) (words : List Word) → next_numbers title kind low high total words ≡ numbers_left title kind low high total 0 words
numbers_start title kind low high total words = ap (λ n. next_numbers title kind low high n words) (all_more total)

pub numbers_step : (title : ℕ) (kind : SmFaultKind) (low high total k number : ℕ) (words rest : List Word) → k < total → next_number title kind low high words ≡ Ok (number, rest) →
    numbers_left title kind low high total k words ≡ with_front (number ∷ []) (numbers_left title kind low high total (k + 1) rest)
unfolding next_numbers
numbers_step title kind low high total k number words rest l e =
    ap (λ n. next_numbers title kind low high n words) (one_more total k l) ∙ (ap (λ r. r >>= (λ first. next_numbers title kind low high (total - (k + 1)) first.1 >>= (λ others. Ok (first.0 ∷ others.0, others.1)))) e ∙ bind-front (number ∷ []) (numbers_left title kind low high total (k + 1) rest))

pub numbers_fault : (title : ℕ) (kind : SmFaultKind) (low high total k : ℕ) (words : List Word) (fault : SmFault) → k < total → next_number title kind low high words ≡ Err fault →
    numbers_left title kind low high total k words ≡ Err fault
unfolding next_numbers
numbers_fault title kind low high total k words fault l e =
    ap (λ n. next_numbers title kind low high n words) (one_more total k l) ∙ ap (λ r. r >>= (λ first. next_numbers title kind low high (total - (k + 1)) first.1 >>= (λ others. Ok (first.0 ∷ others.0, others.1)))) e

pub numbers_end : (title : ℕ) (kind : SmFaultKind) (low high total k : ℕ) (words : List Word) → total ≤ k → numbers_left title kind low high total k words ≡ Ok ([], words)
unfolding next_numbers
numbers_end title kind low high total k words l = ap (λ n. next_numbers title kind low high n words) (no_more total k l)

-- pairs that are left
abbrev pub pairs_left : ℕ → ℕ → ℕ → ℕ → ℕ → List Word → Read (ℕ × ℕ)
pairs_left title jobs job total k words = with_each job (numbers_left title BadSuccessor 1 jobs total k words)

pub each-front : (job number : ℕ) (r : Read ℕ) → with_each job (with_front (number ∷ []) r) ≡ with_front ((job, number) ∷ []) (with_each job r)
each-front job number (Ok read) = refl
each-front job number (Err fault) = refl

pub pairs_start : (title jobs job total : ℕ) (words : List Word) → with_each job (next_numbers title BadSuccessor 1 jobs total words) ≡ pairs_left title jobs job total 0 words
pairs_start title jobs job total words = ap (with_each job) (numbers_start title BadSuccessor 1 jobs total words)

pub pairs_step : (title jobs job total k number : ℕ) (words rest : List Word) → k < total → next_number title BadSuccessor 1 jobs words ≡ Ok (number, rest) →
    pairs_left title jobs job total k words ≡ with_front ((job, number) ∷ []) (pairs_left title jobs job total (k + 1) rest)
pairs_step title jobs job total k number words rest l e =
    ap (with_each job) (numbers_step title BadSuccessor 1 jobs total k number words rest l e) ∙ each-front job number (numbers_left title BadSuccessor 1 jobs total (k + 1) rest)

pub pairs_fault : (title jobs job total k : ℕ) (words : List Word) (fault : SmFault) → k < total → next_number title BadSuccessor 1 jobs words ≡ Err fault → pairs_left title jobs job total k words ≡ Err fault
pairs_fault title jobs job total k words fault l e = ap (with_each job) (numbers_fault title BadSuccessor 1 jobs total k words fault l e)

pub pairs_end : (title jobs job total k : ℕ) (words : List Word) → total ≤ k → pairs_left title jobs job total k words ≡ Ok ([], words)
pairs_end title jobs job total k words l = ap (with_each job) (numbers_end title BadSuccessor 1 jobs total k words l)

-- rows of successors that are left
abbrev pub arcs_left : ℕ → ℕ → ℕ → List Word → Read (ℕ × ℕ)
arcs_left title total k = successor_rows title total (k + 1) (total - k)

pub arcs_start : (title total : ℕ) (words : List Word) → successor_rows title total 1 total words ≡ arcs_left title total 0 words
arcs_start title total words = ap (λ n. successor_rows title total 1 n words) (all_more total)

pub arcs_step : (title total k : ℕ) (row : List (ℕ × ℕ)) (words rest : List Word) → k < total → successor_row title total (k + 1) words ≡ Ok (row, rest) →
    arcs_left title total k words ≡ with_front row (arcs_left title total (k + 1) rest)
unfolding successor_rows
arcs_step title total k row words rest l e =
    ap (λ n. successor_rows title total (k + 1) n words) (one_more total k l) ∙ (ap (λ r. r >>= (λ first. successor_rows title total (k + 1 + 1) (total - (k + 1)) first.1 >>= (λ others. Ok (first.0 ++ others.0, others.1)))) e ∙ bind-front row (arcs_left title total (k + 1) rest))

pub arcs_fault : (title total k : ℕ) (words : List Word) (fault : SmFault) → k < total → successor_row title total (k + 1) words ≡ Err fault → arcs_left title total k words ≡ Err fault
unfolding successor_rows
arcs_fault title total k words fault l e =
    ap (λ n. successor_rows title total (k + 1) n words) (one_more total k l) ∙ ap (λ r. r >>= (λ first. successor_rows title total (k + 1 + 1) (total - (k + 1)) first.1 >>= (λ others. Ok (first.0 ++ others.0, others.1)))) e

pub arcs_end : (title total k : ℕ) (words : List Word) → total ≤ k → arcs_left title total k words ≡ Ok ([], words)
unfolding successor_rows
arcs_end title total k words l = ap (λ n. successor_rows title total (k + 1) n words) (no_more total k l)

-- rows of jobs that are left
abbrev pub jobs_left : ℕ → ℕ → ℕ → ℕ → List Word → Read Activity
jobs_left title resources total k = request_rows title resources (k + 1) (total - k)

pub jobs_start : (title resources total : ℕ) (words : List Word) → request_rows title resources 1 total words ≡ jobs_left title resources total 0 words
jobs_start title resources total words = ap (λ n. request_rows title resources 1 n words) (all_more total)

pub jobs_step : (title resources total k : ℕ) (job : Activity) (words rest : List Word) → k < total → request_row title resources (k + 1) words ≡ Ok (job, rest) →
    jobs_left title resources total k words ≡ with_front (job ∷ []) (jobs_left title resources total (k + 1) rest)
unfolding request_rows
jobs_step title resources total k job words rest l e =
    ap (λ n. request_rows title resources (k + 1) n words) (one_more total k l) ∙ (ap (λ r. r >>= (λ first. request_rows title resources (k + 1 + 1) (total - (k + 1)) first.1 >>= (λ others. Ok (first.0 ∷ others.0, others.1)))) e ∙ bind-front (job ∷ []) (jobs_left title resources total (k + 1) rest))

pub jobs_fault : (title resources total k : ℕ) (words : List Word) (fault : SmFault) → k < total → request_row title resources (k + 1) words ≡ Err fault → jobs_left title resources total k words ≡ Err fault
unfolding request_rows
jobs_fault title resources total k words fault l e =
    ap (λ n. request_rows title resources (k + 1) n words) (one_more total k l) ∙ ap (λ r. r >>= (λ first. request_rows title resources (k + 1 + 1) (total - (k + 1)) first.1 >>= (λ others. Ok (first.0 ∷ others.0, others.1)))) e

pub jobs_end : (title resources total k : ℕ) (words : List Word) → total ≤ k → jobs_left title resources total k words ≡ Ok ([], words)
unfolding request_rows
jobs_end title resources total k words l = ap (λ n. request_rows title resources (k + 1) n words) (no_more total k l)
