use Rattle.std.proofs.Common.{◌≡◌, ◌∙◌, true, true≢false, sym}
use Rattle.code_check.specs.declared.fault.FaultKind.TheVariants as k
use Rattle.code_check.specs.First.{FaultWhere}
use Rattle.code_check.specs.Notes.{Notes}
use Rattle.code_check.proofs.NoteLemmas.{notes_two, notes_where, notes_where_not}
use Rattle.code_check.proofs.calls.note_call.Goals as goal
use Rattle.code_check.proofs.calls.note_call.Goals.{then-scope, else-scope}

pub returns : goal.returns
returns c =
    let called : Notes (FaultWhere (c.args.scope.in_debugvars ≡ true) c.args.called.now.name.at k.BadDebugvars) c.args.found.now c.if-scope.found = elim c.if-scope.branch [
      | then-scope w ↦ notes_where _ _ _ _ _ w.if-scope.true (w.found-is ∙ w.note_at.ensures)
      | else-scope w ↦ rw w.found-is (notes_where_not _ _ _ _ (λ h. true≢false (sym h ∙ w.if-scope.false)))
    ] in
    notes_two called c.note_function.ensures
