-- How many commands of CMSIS-DAP a command of the probe takes.
use Rattle.std.specs.Prelude.{ℕ, ◌+◌, ◌/◌, max}
use Rattle.target_machine.specs.declared.unit.ProbeCall.{ProbeCall}
use Rattle.target_machine.specs.declared.unit.ProbeCall.TheVariants as probe

-- how many commands of at most 65,535 microseconds a delay takes; one of 0 takes one
abbrev pub delay_commands : ℕ → ℕ
delay_commands micros = max 1 ((micros + 65534) / 65535)

-- how many a command of the probe takes: a delay these, and each other command one
abbrev pub commands_for : ProbeCall → ℕ
commands_for (probe.Delay micros) = delay_commands micros
commands_for other = 1
