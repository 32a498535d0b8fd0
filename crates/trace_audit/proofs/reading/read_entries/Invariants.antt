use Rattle.std.proofs.Common.{take}
use Rattle.trace_audit.specs.Audits.{entries_of}
use Rattle.trace_audit.specs.Texts.{AreEntriesOf}
use Rattle.trace_audit.proofs.reading.read_entries.Given as goal

abbrev pub invariant-loop-text : goal.invariant-loop-text
invariant-loop-text l = AreEntriesOf (take l.text-index l.texts) (entries_of l.entries)
