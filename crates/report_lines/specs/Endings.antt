-- How a run ended, as a report shows it.
use Rattle.std.specs.Prelude.{ℕ, ◌==◌, Bool, true, false, List, [], ◌++◌, codes, decimal, if◌then◌else◌}
use Rattle.std.specs.List.{flat_map}
use Rattle.hex.specs.Hex.{encode_lower}
use Rattle.target_machine.specs.declared.unit.HaltCause.{HaltCause}
use Rattle.target_machine.specs.declared.unit.Variable.{Variable}
use Rattle.access_calls.specs.declared.ended.Ended.{Ended}
use Rattle.access_calls.specs.declared.ended.Ending.{Ending}
use Rattle.access_calls.specs.declared.ended.Ending.TheVariants as endings
use Rattle.access_calls.specs.declared.stop.Report.{Report}
use Rattle.report_lines.specs.Calls.{call_words}
use Rattle.report_lines.specs.Lines.{units_line, variable_line}
use Rattle.report_lines.specs.Words.{halt_word, stop_word}

-- a run that came to its end
abbrev pub done_line : List ℕ
done_line = codes "end done\n"

-- a run that was halted, and its cause
abbrev pub halted_line : HaltCause → List ℕ
halted_line cause = codes "end halted " ++ halt_word cause ++ codes "\n"

-- how many units were skipped
abbrev pub skipped_line : ℕ → List ℕ
skipped_line skipped = codes "skipped " ++ decimal skipped ++ codes "\n"

-- the same, where any were skipped
abbrev pub skipped_part : ℕ → List ℕ
skipped_part skipped = if skipped == 0 then [] else skipped_line skipped

-- the lines of variables with their values
abbrev pub variable_lines : List Variable → List ℕ
variable_lines variables = flat_map (λ variable. variable_line variable.name variable.value) variables

-- those units that were skipped, and the variables
abbrev pub values_part : Ended → List ℕ
values_part ended = skipped_part ended.skipped ++ variable_lines ended.variables

-- the units, those that were skipped, and the variables
abbrev pub count_lines : Ended → List ℕ
count_lines ended = units_line ended.units ++ values_part ended

-- a run that the target or the probe stopped: the unit, and what it asks
abbrev pub stop_line : Report → List ℕ
stop_line report = codes "end " ++ stop_word report.cause ++ codes " unit " ++ decimal report.unit ++ codes " " ++ call_words report.what ++ codes "\n"

-- how many units were attempted, and how many entries of the journal were performed and confirmed
abbrev pub attempted_line : Report → List ℕ
attempted_line report = codes "attempted " ++ decimal report.attempted ++ codes " accesses " ++ decimal report.accesses ++
    codes " confirmed " ++ decimal report.confirmed ++ codes "\n"

-- a run whose bench failed
abbrev pub bench_fault_line : ℕ → ℕ → List ℕ
bench_fault_line issued confirmed = codes "end benchfault issued " ++ decimal issued ++ codes " confirmed " ++ decimal confirmed ++ codes "\n"

-- a run that met a reply which its packet cannot have: the packet and the reply
abbrev pub reply_bad_line : List ℕ → List ℕ → List ℕ
reply_bad_line sent got = codes "end replybad sent " ++ encode_lower sent ++ codes " got " ++ encode_lower got ++ codes "\n"

-- where a run was stopped, and how many units were skipped
abbrev pub attempted_part : Report → ℕ → List ℕ
attempted_part report skipped = attempted_line report ++ skipped_part skipped

-- The lines of a report before those of the target. A run that could not write, or had no memory, has none.
abbrev pub ending_lines : Ending → Ended → List ℕ → List ℕ → List ℕ
ending_lines endings.Done ended sent got = done_line ++ count_lines ended
ending_lines (endings.Halted cause) ended sent got = halted_line cause ++ count_lines ended
ending_lines (endings.Cut report) ended sent got = stop_line report ++ attempted_part report ended.skipped
ending_lines (endings.BenchFault issued confirmed) ended sent got = bench_fault_line issued confirmed
ending_lines endings.ReplyBad ended sent got = reply_bad_line sent got
ending_lines endings.WriteFault ended sent got = []
ending_lines endings.OutOfMemory ended sent got = []

-- the target is shown after a run that ended on its own, was halted, or was stopped by the target or the probe
abbrev pub shows_target : Ending → Bool
shows_target endings.Done = true
shows_target (endings.Halted cause) = true
shows_target (endings.Cut report) = true
shows_target other = false
