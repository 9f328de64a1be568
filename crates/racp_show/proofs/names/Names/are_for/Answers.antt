use Rattle.std.proofs.Common.{◌≡◌, ◌∙◌, ◌-◌, ◌≤◌, ◌||◌, ◌&&◌, Bool, List, ℕ, String, ap, ap₂, arith, drop, length, map, nat_le, rules, string_bytes, sym, take, true, false}
use Rattle.std.specs.Global.{Global}
use Rattle.std.specs.List.{list_all}
use Rattle.std.proofs.lemmas.Bool.{le-leb}
use Rattle.std.proofs.lemmas.List.{drop-map, length-map, take_rest}
use Rattle.racp_show.specs.Called.{are_names_for, is_empty}
use Rattle.racp_show.proofs.names.Names.are_for.Goals as goal

-- the last test decides
decides : (a b c : Bool) → a ≡ false → b ≡ true → c ≡ (a || (b && c))
decides a b c first second = sym (ap₂ (λ (x y : Bool). x || (y && c)) first second)

-- names are so many and behind them none, if not all are empty
fits : (all : List (String Global)) (count len : ℕ) (first second : Bool) → len ≡ length all → first ≡ list_all is_empty (map string_bytes all) → first ≡ false → count ≤ len →
    second ≡ list_all is_empty (map string_bytes (take (length all - count) (drop count all))) → second ≡ are_names_for (map string_bytes all) count
fits all count len first second places whole other enough rest =
    let behind : second ≡ list_all is_empty (drop count (map string_bytes all)) =
    rest ∙ (ap (λ (xs : List (String Global)). list_all is_empty (map string_bytes xs)) (take_rest all count) ∙ ap (list_all is_empty) (sym (drop-map string_bytes count all))) in
    let within : nat_le count (length (map string_bytes all)) ≡ true = le-leb count (length (map string_bytes all)) (omega (arith, length-map all string_bytes, places, enough)) in
    decides (list_all is_empty (map string_bytes all)) (nat_le count (length (map string_bytes all))) second (sym whole ∙ other) within
    ∙ ap (λ (b : Bool). list_all is_empty (map string_bytes all) || (nat_le count (length (map string_bytes all)) && b)) behind

pub returns-then-count-len : goal.returns-then-count-len
returns-then-count-len c =
    let all = c.self.inside.names.items in
    let len : c.len.result ≡ length all = search rules in
    let first : c.are_empty.result ≡ list_all is_empty (map string_bytes all) = c.are_empty.ensures ∙ ap (λ (xs : List (String Global)). list_all is_empty (map string_bytes xs)) c.deref.ensures.value in
    let second : c.are_empty-then-count-len.result ≡ list_all is_empty (map string_bytes (take (length all - c.args.count) (drop c.args.count all))) =
    c.are_empty-then-count-len.ensures ∙ ap (λ (xs : List (String Global)). list_all is_empty (map string_bytes (take (length xs - c.args.count) (drop c.args.count xs)))) c.deref-then-count-len.ensures.value in
    fits all c.args.count c.len.result c.are_empty.result c.are_empty-then-count-len.result len first c.if-are_empty.false c.if-count-len.true second
    ∙ ap (λ (called : List (List ℕ)). are_names_for called c.args.count) c.self.view_is
