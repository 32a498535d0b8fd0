-- Units as text.
use Rattle.std.specs.Prelude.{ℕ, ◌*◌, ◌^◌, nat_le, Bool, true, false, List, [], ◌++◌, codes, decimal, Option, Some, None, if◌then◌else◌}
use Rattle.target_machine.specs.Plain.{CallEnd, Answered, Skipped, Faulted, Small}
use Rattle.target_machine.specs.declared.unit.Call.{Call}
use Rattle.target_machine.specs.declared.unit.Call.TheVariants.{Access, Probe}
use Rattle.target_machine.specs.declared.unit.ProbeCall.{ProbeCall}
use Rattle.target_machine.specs.declared.unit.ProbeCall.TheVariants as probe
use Rattle.target_machine.specs.declared.unit.Unit.{Unit as AccessUnit}
use Rattle.target_machine.specs.declared.unit.Unit.TheVariants as unit
use Rattle.text_lines.specs.Hex.{hex, hex2, hex8, hex16, hex_address}
use Rattle.run_events.specs.Events.{MadeUnit}

-- `read` or `write`
abbrev pub direction_word : Bool → List ℕ
direction_word read = if read then codes "read" else codes "write"

-- the access port
abbrev pub port_text : ℕ → List ℕ
port_text ap = codes " ap " ++ decimal ap

-- what a write writes
abbrev pub written_text : Bool → ℕ → List ℕ
written_text read value = if read then [] else codes " = " ++ hex value

-- an access
abbrev pub unit_text : AccessUnit → List ℕ
unit_text (unit.Memory size read ap address value) =
    direction_word read ++ decimal (8 * size) ++ codes " " ++ hex_address address ++ port_text ap ++ written_text read value
unit_text (unit.Ap read ap addr value) = direction_word read ++ codes "ap " ++ hex2 addr ++ port_text ap ++ written_text read value
unit_text (unit.Dp read addr value) = direction_word read ++ codes "dp " ++ hex addr ++ written_text read value
unit_text (unit.Poll mask value turns) = codes "poll mask " ++ hex8 mask ++ codes " value " ++ hex8 value ++ codes " turns " ++ decimal turns

-- a command of the probe
abbrev pub command_text : ProbeCall → List ℕ
command_text (probe.Delay micros) = codes "delay " ++ decimal micros
command_text (probe.Abort value) = codes "abort = " ++ hex value
command_text (probe.Pins output select wait) = codes "pins " ++ hex2 output ++ codes " select " ++ hex2 select ++ codes " wait " ++ decimal wait
command_text (probe.Clock hertz) = codes "clock " ++ decimal hertz
command_text (probe.Line count bits) = codes "line " ++ decimal count ++ codes " bits " ++ hex bits

-- a call
abbrev pub call_text : Call → List ℕ
call_text (Access asked) = unit_text asked
call_text (Probe asked) = command_text asked

-- the call has a result: what is read, whether a poll matched, the pins
abbrev pub has_result : Call → Bool
has_result (Access (unit.Memory size read ap address value)) = read
has_result (Access (unit.Ap read ap addr value)) = read
has_result (Access (unit.Dp read addr value)) = read
has_result (Access (unit.Poll mask value turns)) = true
has_result (Probe (probe.Pins output select wait)) = true
has_result (Probe other) = false

-- how a call ends
abbrev pub end_text : Bool → Option CallEnd → List ℕ
end_text true (Some (Answered n)) = codes " -> " ++ hex n
end_text false (Some (Answered n)) = []
end_text result (Some Skipped) = codes " fault, forgiven"
end_text result (Some Faulted) = codes " fault"
end_text result (Some Small) = codes " no large addresses"
end_text result None = codes " no answer"

-- a unit: `unit N CALL`, and how it ends
abbrev pub made_text : MadeUnit → List ℕ
made_text u = codes "unit " ++ decimal u.number ++ codes " " ++ call_text u.ask.call ++ end_text (has_result u.ask.call) u.end
