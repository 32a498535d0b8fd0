use Rattle.std.proofs.Common.{refl}
use Rattle.expr_grammar.specs.Tree.{arg_trees}
use Rattle.function_table.proofs.Lookup.{exactly}
use Rattle.code_check.specs.Views.{scope_view}
use Rattle.code_check.proofs.NoteLemmas.{notes_as, notes_one}
use Rattle.code_check.proofs.CallLemmas.{at_function, at_no_function}
use Rattle.code_check.proofs.calls.note_function.Goals as goal

pub returns-in-Some : goal.returns-in-Some
returns-in-Some c =
    let called = c.args.called.now in
    notes_as (λ r h. at_function (scope_view c.args.scope) called.name (arg_trees c.args.args.now) c.in-Some.function called.function r (exactly called.name.text called.function called.found) c.in-Some.is h) c.note_known.ensures

pub returns-in-None : goal.returns-in-None
returns-in-None c =
    let called = c.args.called.now in
    notes_one _ (at_no_function (scope_view c.args.scope) called.name (arg_trees c.args.args.now) called.function _ (exactly called.name.text called.function called.found) c.in-None.is refl) c.note_at.ensures
