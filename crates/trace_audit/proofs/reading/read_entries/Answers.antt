use Rattle.std.proofs.Common.{◌+◌, List, subst, sym, take}
use Rattle.trace_audit.specs.Audits.{entries_of}
use Rattle.trace_audit.specs.Texts.{AreEntriesOf, IsEntry}
use Rattle.trace_audit.specs.declared.entry.Entry as trace
use Rattle.trace_audit.proofs.TextLemmas.{entry_at, no_entry, reads_on, some_entry}
use Rattle.trace_audit.proofs.reading.read_entries.Goals as goal

pub unreachable-requires : goal.unreachable-requires
unreachable-requires c =
    no_entry c.in_ok-entry.field-0 (IsEntry c.as_str.result.now) c.in-None.is c.in_ok-entry.ensures.none
    (subst IsEntry (sym c.as_str.ensures) (entry_at c.args.texts.now c.loop-text.text-index c.text-item.result c.requires c.loop-text-test.true c.text-item.is))

pub loop-text-preserved : goal.loop-text-preserved
loop-text-preserved c =
    let is = some_entry c.as_str.result.now c.in_ok-entry.field-0 c.in-Some.entry c.in-Some.is c.in_ok-entry.ensures.entry in
    subst (λ (es : List trace.Entry). AreEntriesOf (take (c.loop-text.text-index + 1) c.args.texts.now) (entries_of es)) (sym c.in_ok-push-in-Some.ensures.ok)
    (reads_on c.args.texts.now c.loop-text.text-index c.text-item.result c.loop-text.entries c.in-Some.entry c.loop-text-test.true c.text-item.is c.loop-text.invariant (rw c.as_str.ensures at is))
