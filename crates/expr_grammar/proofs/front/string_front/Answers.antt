use Rattle.std.proofs.Common.{sym, ap, ◌∙◌, ◌≤◌, ◌+◌, arith, length, false}
use Rattle.std.proofs.lemmas.List.{take_rest}
use Rattle.expr_grammar.specs.Front.{string_end}
use Rattle.expr_grammar.proofs.Pieces.{string_taken, string_stuck}
use Rattle.expr_grammar.proofs.front.string_front.Goals as goal

pub overflow_add-result : goal.overflow_add-result
overflow_add-result c =
    let found = ap (string_end false) (sym (take_rest c.args.bytes.now 1)) ∙ sym c.string_end.ensures ∙ c.in-Some.is in
    let within : c.in-Some.len + 1 ≤ length c.args.bytes.now = (string_taken c.args.bytes.now c.in-Some.len c.requires found).1.within in
    omega (arith, within)

pub returns-in-Some : goal.returns-in-Some
returns-in-Some c =
    let found = ap (string_end false) (sym (take_rest c.args.bytes.now 1)) ∙ sym c.string_end.ensures ∙ c.in-Some.is in
    string_taken c.args.bytes.now c.in-Some.len c.requires found

pub returns-in-None : goal.returns-in-None
returns-in-None c =
    let none = ap (string_end false) (sym (take_rest c.args.bytes.now 1)) ∙ sym c.string_end.ensures ∙ c.in-None.is in
    string_stuck c.args.bytes.now c.requires none
