use Rattle.std.proofs.Common.{◌≡◌, ◌∙◌, ◌<◌, ◌≤◌, ◌++◌, ℕ, List, [], false, take, chars, encode_utf8, string_bytes, refl, arith, ap, map-id, subst, sym, rules, append-nil}
use Rattle.std.proofs.lemmas.Iterator.{YieldsList-from_chars, YieldsList-from_take}
use Rattle.std.proofs.lemmas.Iterator.Consumers.{YieldsList-end}
use Rattle.std.proofs.lemmas.Str.{chars-nil}
use Rattle.unicode_width.specs.Width.{str_width}
use Rattle.unicode_width.proofs.Rules.{str_width-printable}
use Rattle.racp_show.specs.Labels.{fitting}
use Rattle.racp_show.proofs.Cutting.{letter_fits, letter_is_left, letters_so_far}
use Rattle.racp_show.proofs.label.cut.Goals as goal

-- no text takes no column
empty : str_width false (chars []) ≡ 0
empty = ap (str_width false) chars-nil ∙ str_width-printable false [] refl

pub loop-letter-init : goal.loop-letter-init
loop-letter-init c =
    let P : List ℕ → Type 0 = λ bytes. str_width false (chars bytes) ≤ c.args.most in
    (subst P (sym c.new-label.ensures.bytes) (omega (arith, empty)), λ letters. ap (λ (label : List ℕ). fitting c.args.most label letters) (sym c.new-label.ensures.bytes))

pub returns-then-most-columns_of-clause-text : goal.returns-then-most-columns_of-clause-text
returns-then-most-columns_of-clause-text c =
    let longer : string_bytes c.push.new.self ≡ string_bytes c.loop-letter.label ++ encode_utf8 c.in-Some.letter = search rules in
    let width : str_width false (chars (string_bytes c.push.new.self)) ≡ c.columns_of.result = ap (λ (bytes : List ℕ). str_width false (chars bytes)) (sym c.as_str.ensures.value) ∙ sym c.columns_of.ensures in
    let past : c.args.most < str_width false (chars (string_bytes c.push.new.self)) = omega (arith, width, c.if-most-columns_of.true) in
    let whole = letters_so_far (YieldsList-from_take 96 (YieldsList-from_chars c.args.text.now c.utf8.text cc) cc) c.loop-letter.yielded c.in-Some.letter _ c.next.new.self c.loop-letter.yielded_by c.in-Some.ensures.steps in
    letter_is_left c.args.most c.in-Some.letter c.loop-letter.yielded (string_bytes c.loop-letter.label) (string_bytes c.push.new.self) c.loop-letter.invariant.1 longer (take 96 (chars c.args.text.now)) _ past whole

pub loop-letter-preserved : goal.loop-letter-preserved
loop-letter-preserved c =
    let longer : string_bytes c.push.new.self ≡ string_bytes c.loop-letter.label ++ encode_utf8 c.in-Some.letter = search rules in
    let width : str_width false (chars (string_bytes c.push.new.self)) ≡ c.columns_of.result = ap (λ (bytes : List ℕ). str_width false (chars bytes)) (sym c.as_str.ensures.value) ∙ sym c.columns_of.ensures in
    let within : str_width false (chars (string_bytes c.push.new.self)) ≤ c.args.most = omega (arith, width, c.if-most-columns_of.false) in
    (within, letter_fits c.args.most c.in-Some.letter c.loop-letter.yielded (string_bytes c.loop-letter.label) (string_bytes c.push.new.self) c.loop-letter.invariant.1 longer within)

pub returns-clause-text : goal.returns-clause-text
returns-clause-text c =
    let end = YieldsList-end (YieldsList-from_take 96 (YieldsList-from_chars c.args.text.now c.utf8.text cc) cc) c.loop-letter.yielded _ c.loop-letter.yielded_by _ _ c.in-None.is c.next.ensures.steps in
    sym (c.loop-letter.invariant.1 []) ∙ ap (fitting c.args.most []) (append-nil c.loop-letter.yielded ∙ sym (map-id c.loop-letter.yielded) ∙ end.0)
