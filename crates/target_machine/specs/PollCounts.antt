-- How polls of CTRL/STAT are counted. No public contract names these words.
use Rattle.std.specs.Prelude.{ℕ, ◌+◌, ◌-◌, ◌^◌, Bool, ◌&&◌, ◌==◌, nat_lt, bit_and, min}
use Rattle.target_machine.specs.Attempt.{ctrl_stat}
use Rattle.target_machine.specs.State.{TargetState}

-- the target after so many reads of CTRL/STAT
abbrev pub reads_counted : TargetState → ℕ → TargetState
reads_counted t count = record t { reads = min (t.reads + count) (2 ^ 32 - 1) }

-- how many reads of CTRL/STAT come before the first that acknowledges a power-up
abbrev pub waits : TargetState → ℕ
waits t = t.power_reads - t.reads

-- there is a match among so many reads that show what CTRL/STAT shows now
abbrev pub is_match : TargetState → ℕ → ℕ → ℕ → Bool
is_match t mask requested reads = nat_lt 0 reads && (bit_and (ctrl_stat t) mask == requested)
