-- Laws of logs.
use Rattle.std.specs.Prelude.{◌≡◌, List, length, take}
use Rattle.run_events.specs.Events.{Event}
use Rattle.log_lines.specs.LogLines.{LogLines, lines_after_events, text_of_lines}
use Rattle.log_lines.specs.LogText.{text_after_events}

-- the log, where it is taken back to so many lines and a depth
abbrev pub cut_back : LogLines → LogLines → LogLines
cut_back log now = record { lines = take (length log.lines) now.lines; depth = log.depth }

-- a log that is cut where it was before some events is the log of then
abbrev pub CutsTakeBack : Type 0
CutsTakeBack = (log : LogLines) (events : List Event) → cut_back log (lines_after_events log events) ≡ log

-- the text of a log after events is its text before them, with the text of each event
abbrev pub LinesAreTheText : Type 0
LinesAreTheText = (log : LogLines) (events : List Event) → text_of_lines (lines_after_events log events) ≡ text_after_events (text_of_lines log) events
