-- Definitions that the proofs of a function open together: each name here stands for those on its line.
use Rattle.sequence_rules.specs.Calls.{abort, abort_at, counted_answer, ask, command, function_result, if_read, line_result, low_and_high, memory_at, counted_number, one_unit, or_halt, second_half, use_now, zero_of}
use Rattle.sequence_rules.specs.Direct.{direct, made_call}

-- an access as a unit
unfoldable pub units : Unit {0}
unfolding ask counted_answer direct made_call
units = tt

-- a command of the probe as a unit
unfoldable pub commands : Unit {0}
unfolding command counted_number direct made_call
commands = tt

-- what a unit answers
unfoldable pub answers : Unit {0}
unfolding if_read zero_of low_and_high use_now direct
answers = tt

-- a memory call, once the port is known
unfoldable pub memory_calls : Unit {0}
unfolding memory_at one_unit or_halt
memory_calls = tt

-- the second unit of a 64-bit call
unfoldable pub second_halves : Unit {0}
unfolding second_half direct
second_halves = tt

-- `DAP_WriteABORT`
unfoldable pub aborts : Unit {0}
unfolding abort abort_at zero_of
aborts = tt

-- a line
unfoldable pub lines : Unit {0}
unfolding line_result direct
lines = tt

-- a call of a function that makes a unit
unfoldable pub functions : Unit {0}
unfolding function_result direct
functions = tt
