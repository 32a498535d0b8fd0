use Rattle.std.proofs.Common.{◌≡◌, ◌++◌, drop, flat_map}
use Rattle.log_lines.specs.Entries.{log_entry_line}
use Rattle.log_lines.proofs.entries.entries_text.Given as goal

abbrev pub invariant-loop-entry : goal.invariant-loop-entry
invariant-loop-entry l = l.text.items ++ flat_map log_entry_line (drop l.entry-index l.entries) ≡ flat_map log_entry_line l.entries
