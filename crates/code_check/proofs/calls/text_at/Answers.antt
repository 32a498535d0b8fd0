use Rattle.std.proofs.Common.{sym, ◌∙◌, ap}
use Rattle.std.specs.Option.{option_and_then}
use Rattle.code_check.proofs.ArgLemmas.{text_at-trees, text_of_arg}
use Rattle.code_check.proofs.calls.text_at.Goals as goal

pub returns-in-Some : goal.returns-in-Some
returns-in-Some c = c.text_of.ensures ∙ ap (option_and_then text_of_arg) (rw c.in-Some.is at c.arg_at.ensures) ∙ sym (text_at-trees c.args.args.now c.args.index)

pub returns-in-None : goal.returns-in-None
returns-in-None c = ap (option_and_then text_of_arg) (rw c.in-None.is at c.arg_at.ensures) ∙ sym (text_at-trees c.args.args.now c.args.index)
