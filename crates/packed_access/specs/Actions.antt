-- A call that is one action: a poll, or a command of the probe.
use Rattle.std.specs.Prelude.{ℕ, ◌+◌, false, List, length}
use Rattle.target_machine.specs.Plain.{Action}
use Rattle.target_calls.specs.Journal.{Entry}
use Rattle.target_calls.specs.declared.calls.Ask.{Ask}
use Rattle.target_calls.specs.declared.journal.Part.TheVariants.{Ends}
use Rattle.access_calls.specs.declared.issued.Issued.{Issued}
use Rattle.packed_access.specs.Logs.{LogState, all_confirmed, all_issued, log_with_entry, with_result}

-- the entry of such a call after these
abbrev pub entry_of_call : List Ask → Action → Entry
entry_of_call calls x = record { unit = length calls + 1; part = Ends; forgiving = false; action = x }

-- what is kept after it was done
abbrev pub log_done : LogState → Issued → ℕ → ℕ → LogState
log_done log entry index result = all_confirmed (with_result (all_issued (log_with_entry log entry)) index result)
