-- A log line by line.
use Rattle.std.specs.Prelude.{◌≡◌, ℕ, List, [], ◌∷◌, ◌++◌, fold, flat_map, Result, Ok, Err}
use Rattle.dap_base.specs.declared.text.OutOfMemory.{OutOfMemory}
use Rattle.run_events.specs.Events.{Event}
use Rattle.log_lines.specs.LogText.{LogText, depth_after, event_line}

-- A log that is not written yet: its lines so far, one for each event, and how deep the running sequence is.
pub record LogLines : Type 0 where
  pub lines : List (List ℕ)
  pub depth : ℕ

-- the log after an event
abbrev pub lines_after_event : LogLines → Event → LogLines
lines_after_event log e = record { lines = log.lines ++ event_line log.depth e ∷ []; depth = depth_after log.depth e }

-- The event was noted; where memory was refused, the log is as it was.
abbrev pub Lists : LogLines → LogLines → Result (Unit {0}) OutOfMemory → Event → Type 0
Lists old new (Ok done) e = new ≡ lines_after_event old e
Lists old new (Err refused) e = new ≡ old

-- the log after events
abbrev pub lines_after_events : LogLines → List Event → LogLines
lines_after_events log events = fold lines_after_event log events

-- its text
abbrev pub text_of_lines : LogLines → LogText
text_of_lines log = record { text = flat_map (λ line. line) log.lines; depth = log.depth }
