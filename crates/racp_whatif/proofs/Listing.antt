-- Lists and texts that are made resource by resource.
use Rattle.std.proofs.Common.{◌≡◌, ◌∙◌, ℕ, ◌+◌, ◌<◌, List, ◌∷◌, ◌++◌, length, slice_index, drop, get_or, sym, ap, append_assoc, add-one, drop-cons, codes, flat_map}
use Rattle.std.specs.Fmt.{decimal}
use Rattle.racp_plan.specs.Texts.{line}
use Rattle.racp_plan.specs.declared.plan.Plan.{Plan}
use Rattle.racp_whatif.specs.declared.outcome.Finding.{Finding}
use Rattle.racp_whatif.specs.declared.change.Change.{Change}
use Rattle.racp_whatif.specs.Changes.{each_fewer, each_owned, one_fewer, one_owned}
use Rattle.racp_whatif.specs.Lines.{base_line, between, each_beside, each_job, finding_line, findings_text, job_called, job_words, needed, resource_called, units_beside}

-- the change about the next resource is added
pub fewer_on : (numbers : List ℕ) (old all new : List Change) (place : ℕ) → place < length numbers → old ++ each_fewer place (drop place numbers) ≡ all → new ≡ old ++ one_fewer place (get_or numbers place 0) → new ++ each_fewer (place + 1) (drop (place + 1) numbers) ≡ all
fewer_on numbers old all new place within so_far grown =
    let next = get_or numbers place 0 in
    let rest : List ℕ = drop (place + 1) numbers in
    let split : drop place numbers ≡ next ∷ rest = rw (add-one) (drop-cons numbers place 0 within) in
    ap (λ (t : List Change). t ++ each_fewer (place + 1) rest) grown
    ∙ append_assoc old (one_fewer place next) (each_fewer (place + 1) rest)
    ∙ sym (ap (λ (t : List ℕ). old ++ each_fewer place t) split)
    ∙ so_far

pub owned_on : (numbers : List ℕ) (old all new : List Change) (place : ℕ) → place < length numbers → old ++ each_owned place (drop place numbers) ≡ all → new ≡ old ++ one_owned place (get_or numbers place 0) → new ++ each_owned (place + 1) (drop (place + 1) numbers) ≡ all
owned_on numbers old all new place within so_far grown =
    let next = get_or numbers place 0 in
    let rest : List ℕ = drop (place + 1) numbers in
    let split : drop place numbers ≡ next ∷ rest = rw (add-one) (drop-cons numbers place 0 within) in
    ap (λ (t : List Change). t ++ each_owned (place + 1) rest) grown
    ∙ append_assoc old (one_owned place next) (each_owned (place + 1) rest)
    ∙ sym (ap (λ (t : List ℕ). old ++ each_owned place t) split)
    ∙ so_far

-- the words about the next resource are added
pub beside_on : (names : List (List ℕ)) (jobs : ℕ) (olds numbers old all new : List ℕ) (place : ℕ) → place < length numbers → old ++ each_beside names jobs olds place (drop place numbers) ≡ all → new ≡ old ++ units_beside (resource_called names jobs place) (slice_index olds place) (get_or numbers place 0) → new ++ each_beside names jobs olds (place + 1) (drop (place + 1) numbers) ≡ all
beside_on names jobs olds numbers old all new place within so_far grown =
    let next = get_or numbers place 0 in
    let rest : List ℕ = drop (place + 1) numbers in
    let split : drop place numbers ≡ next ∷ rest = rw (add-one) (drop-cons numbers place 0 within) in
    ap (λ (t : List ℕ). t ++ each_beside names jobs olds (place + 1) rest) grown
    ∙ append_assoc old (units_beside (resource_called names jobs place) (slice_index olds place) next) (each_beside names jobs olds (place + 1) rest)
    ∙ sym (ap (λ (t : List ℕ). old ++ each_beside names jobs olds place t) split)
    ∙ so_far

-- the name of the next job of a need is added
pub job_on : (names : List (List ℕ)) (numbers old all new : List ℕ) (place : ℕ) → place < length numbers → old ++ each_job names place (drop place numbers) ≡ all → new ≡ old ++ job_words place (job_called names (get_or numbers place 0)) → new ++ each_job names (place + 1) (drop (place + 1) numbers) ≡ all
job_on names numbers old all new place within so_far grown =
    let next = get_or numbers place 0 in
    let rest : List ℕ = drop (place + 1) numbers in
    let split : drop place numbers ≡ next ∷ rest = rw (add-one) (drop-cons numbers place 0 within) in
    ap (λ (t : List ℕ). t ++ each_job names (place + 1) rest) grown
    ∙ append_assoc old (job_words place (job_called names next)) (each_job names (place + 1) rest)
    ∙ sym (ap (λ (t : List ℕ). old ++ each_job names place t) split)
    ∙ so_far

-- the pieces of the words for a need
pub between_pieces : (from until : ℕ) → codes " between " ++ (decimal from ++ (codes " and " ++ decimal until)) ≡ between from until
unfolding between
between_pieces from until = simp append_assoc

pub needed_pieces : (units : ℕ) (name times jobs : List ℕ) → decimal units ++ (codes " of " ++ (name ++ (codes " needed" ++ (times ++ jobs)))) ≡ needed units name times jobs
unfolding needed
needed_pieces units name times jobs = simp append_assoc

-- the pieces of a text
pub base_line_pieces : (base : Plan) → codes "deadline " ++ (decimal base.deadline ++ (codes ": cost " ++ (decimal base.cost ++ codes "\n"))) ≡ base_line base
unfolding line base_line
base_line_pieces base = simp append_assoc

text_pieces : (names : List (List ℕ)) (jobs : ℕ) (base : Plan) (findings : List Finding) → (base_line base ++ flat_map (finding_line names jobs base) findings) ++ codes "end\n" ≡ findings_text names jobs base findings
unfolding line findings_text
text_pieces names jobs base findings = simp append_assoc

pub in_text : (names : List (List ℕ)) (jobs : ℕ) (base : Plan) (findings : List Finding) {first second third : List ℕ} → first ≡ base_line base → second ≡ first ++ flat_map (finding_line names jobs base) findings → third ≡ second ++ codes "end\n" → third ≡ findings_text names jobs base findings
in_text names jobs base findings p q r =
    let lines : List ℕ = flat_map (finding_line names jobs base) findings in
    r ∙ ap (λ (t : List ℕ). t ++ codes "end\n") (q ∙ ap (λ (t : List ℕ). t ++ lines) p) ∙ text_pieces names jobs base findings
