use Rattle.code_check.proofs.NoteLemmas.{notes_joined}
use Rattle.code_check.proofs.ArgLemmas.{kinds_more}
use Rattle.code_check.proofs.calls.note_kinds.Goals as goal

pub loop-index-preserved : goal.loop-index-preserved
loop-index-preserved c =
    notes_joined (kinds_more c.args.function c.args.args.now c.loop-index.index c.index-args-index.result c.loop-index-test.true) c.loop-index.invariant
    (rw (← c.index-args-index.is, ← c.kind_at.ensures) c.note_kind.ensures)
