-- Events as lines of text.
use Rattle.std.specs.Prelude.{ℕ, zero, suc, ◌+◌, ◌-◌, nat_eq, List, [], ◌++◌, fold, codes, decimal, if◌then◌else◌}
use Rattle.text_lines.specs.Hex.{hex}
use Rattle.text_lines.specs.Shown.{shown_text}
use Rattle.run_events.specs.Events.{Event, Begins, Tests, Chooses, Loops, Turns, Finds, Leaves, TimesOut, Matches, Assigns, Makes, Writes, Calls, Returns}
use Rattle.log_lines.specs.CodeText.{expr_text, stmt_text}
use Rattle.log_lines.specs.Places.{spot_words}
use Rattle.log_lines.specs.Units.{made_text}

-- two blanks for each sequence that is called
unfoldable pub margin : ℕ → List ℕ
margin zero = []
margin (suc depth) = codes "  " ++ margin depth

-- a line of what begins, in a sequence so deep
abbrev pub opening_line : ℕ → List ℕ → List ℕ
opening_line depth text = margin depth ++ text ++ codes "\n"

-- a line below what began
abbrev pub below_line : ℕ → List ℕ → List ℕ
below_line depth text = margin depth ++ codes "  " ++ text ++ codes "\n"

-- so many turns
abbrev pub turns_text : ℕ → List ℕ
turns_text n = decimal n ++ (if nat_eq n 1 then codes " turn" else codes " turns")

-- whether a control is taken, by the value of its `if`
abbrev pub chosen_text : ℕ → List ℕ
chosen_text n = if nat_eq n 0 then codes ", skipped" else codes ", taken"

-- the line of an event, in a sequence so deep
abbrev pub event_line : ℕ → Event → List ℕ
event_line depth (Begins spot st) = opening_line depth (spot_words spot ++ codes "  " ++ stmt_text st)
event_line depth (Tests spot e) = opening_line depth (spot_words spot ++ codes "  " ++ expr_text e)
event_line depth (Chooses spot n) = below_line depth (codes "-> " ++ hex n ++ chosen_text n)
event_line depth (Loops spot e n) = opening_line depth (spot_words spot ++ codes "  " ++ expr_text e ++ codes "  at most " ++ turns_text n)
event_line depth (Turns spot n) = below_line depth (codes "turn " ++ decimal n)
event_line depth (Finds spot n) = below_line depth (codes "-> " ++ hex n)
event_line depth (Leaves spot n) = below_line depth (codes "left after " ++ turns_text n)
event_line depth (TimesOut spot n) = below_line depth (codes "TIMEOUT after " ++ turns_text n)
event_line depth (Matches spot) = below_line depth (codes "matched")
event_line depth (Assigns name n) = below_line depth (name ++ codes " = " ++ hex n)
event_line depth (Makes u) = below_line depth (made_text u)
event_line depth (Writes line) = margin depth ++ codes "  " ++ line
event_line depth (Calls name) = below_line depth (codes "call " ++ shown_text name)
event_line depth Returns = below_line (depth - 1) (codes "return")

-- how deep the sequence is after an event
abbrev pub depth_after : ℕ → Event → ℕ
depth_after depth (Calls name) = depth + 1
depth_after depth Returns = depth - 1
depth_after depth other = depth

-- A log: its text so far, and how deep the running sequence is.
pub record LogText : Type 0 where
  pub text : List ℕ
  pub depth : ℕ

-- the log after an event
abbrev pub text_after_event : LogText → Event → LogText
text_after_event log e = record { text = log.text ++ event_line log.depth e; depth = depth_after log.depth e }

-- the log after events
abbrev pub text_after_events : LogText → List Event → LogText
text_after_events log events = fold text_after_event log events

-- the text of events from the start of a run
abbrev pub text_of_events : List Event → List ℕ
text_of_events events = (text_after_events (record { text = []; depth = 0 }) events).text
