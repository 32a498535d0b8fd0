-- What a log holds of an event, and the line of it.
use Rattle.std.specs.Prelude.{List, ℕ, [], None, option_map}
use Rattle.direct_calls.specs.Made.{call_end_of}
use Rattle.expr_grammar.specs.Tree.{tree, stmt_tree}
use Rattle.sequence_trees.specs.declared.spot.Part.TheVariants as part
use Rattle.sequence_trees.specs.declared.spot.Spot.{Spot}
use Rattle.run_events.specs.Events as e
use Rattle.run_events.specs.Events.{Event}
use Rattle.run_events.specs.OfSteps.{statement_place}
use Rattle.log_lines.specs.LogText.{event_line}
use Rattle.log_lines.specs.Places.{condition_spot, debug_spot, spot_in_step}
use Rattle.log_lines.specs.declared.entries.LogEntry.{LogEntry}
use Rattle.log_lines.specs.declared.entries.LogEvent.{LogEvent}
use Rattle.log_lines.specs.declared.entries.LogEvent.TheVariants as l

-- a place, for an event whose line has none
abbrev pub no_spot : Spot
no_spot = record { sequence = None; path = []; part = part.Debugvars; place = record { line = 1; column = 1 } }

-- the event that is held, with no place where its line has none
abbrev pub event_of : LogEvent → Event
event_of (l.Begins step statement) =
    e.Begins (spot_in_step step.sequence.now step.path.items part.Block (statement_place (stmt_tree statement.now))) (stmt_tree statement.now)
event_of (l.Declares statement) = e.Begins (debug_spot (statement_place (stmt_tree statement.now))) (stmt_tree statement.now)
event_of (l.Tests step expr) = e.Tests (condition_spot step.sequence.now step.path.items part.If) (tree expr.now)
event_of (l.Chooses value) = e.Chooses no_spot value
event_of (l.Loops step expr turns) = e.Loops (condition_spot step.sequence.now step.path.items part.While) (tree expr.now) turns
event_of (l.Turns number) = e.Turns no_spot number
event_of (l.Finds value) = e.Finds no_spot value
event_of (l.Leaves turns) = e.Leaves no_spot turns
event_of (l.TimesOut turns) = e.TimesOut no_spot turns
event_of l.Matches = e.Matches no_spot
event_of (l.Assigns name value) = e.Assigns name.now value
event_of (l.Makes number ask end) = e.Makes (record { number = number; ask = ask; end = option_map call_end_of end })
event_of (l.Writes line) = e.Writes line
event_of (l.Calls name) = e.Calls name.now
event_of l.Returns = e.Returns

-- the line of an event where it is noted
abbrev pub log_entry_line : LogEntry → List ℕ
log_entry_line entry = event_line entry.depth (event_of entry.event)
