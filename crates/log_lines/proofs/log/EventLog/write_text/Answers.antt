use Rattle.std.proofs.Common.{◌∙◌, List, ap}
use Rattle.std.specs.List.{flat_map}
use Rattle.log_lines.specs.Entries.{log_entry_line}
use Rattle.log_lines.specs.LogLines.{LogLines, text_of_lines}
use Rattle.log_lines.specs.declared.entries.LogEntry.{LogEntry}
use Rattle.log_lines.proofs.Cutting.{text_lines}
use Rattle.log_lines.proofs.log.EventLog.write_text.Goals as goal

pub returns : goal.returns
returns c =
    text_lines c.self.inside.depth c.self.inside.entries.items c.in_ok-text.text.items (c.in_ok-text.ensures ∙ ap (λ (es : List LogEntry). flat_map log_entry_line es) c.as_slice.ensures.value)
    ∙ ap (λ (l : LogLines). text_of_lines l) c.self.view_is
