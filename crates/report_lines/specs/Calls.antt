-- What a call asks, as a report shows it.
use Rattle.std.specs.Prelude.{ℕ, ◌*◌, ◌^◌, nat_le, Bool, List, ◌++◌, codes, decimal, if◌then◌else◌}
use Rattle.text_lines.specs.Hex.{hex, hex2, hex8, hex16, hex_address}
use Rattle.target_machine.specs.declared.unit.Call.{Call}
use Rattle.target_machine.specs.declared.unit.Call.TheVariants as calls
use Rattle.target_machine.specs.declared.unit.Unit.{Unit as AccessUnit}
use Rattle.target_machine.specs.declared.unit.Unit.TheVariants as units
use Rattle.report_lines.specs.Words.{direction_word}

-- the number of an access port
abbrev pub port_part : ℕ → List ℕ
port_part ap = codes " ap " ++ decimal ap

-- a memory access with its size in bits
abbrev pub memory_words : ℕ → Bool → ℕ → ℕ → List ℕ
memory_words size is_read ap address = direction_word is_read ++ decimal (8 * size) ++ codes " " ++ hex_address address ++ port_part ap

-- an access, of a register or of memory; a poll shows no more
abbrev pub unit_words : AccessUnit → List ℕ
unit_words (units.Memory size read ap address value) = memory_words size read ap address
unit_words (units.Ap read ap addr value) = direction_word read ++ codes "ap " ++ hex2 addr ++ port_part ap
unit_words (units.Dp read addr value) = direction_word read ++ codes "dp " ++ hex addr
unit_words (units.Poll mask value turns) = codes "poll"

-- a probe command shows no more
abbrev pub call_words : Call → List ℕ
call_words (calls.Access unit) = unit_words unit
call_words (calls.Probe call) = codes "command"
