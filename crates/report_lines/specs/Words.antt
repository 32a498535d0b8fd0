-- The words of a report.
use Rattle.std.specs.Prelude.{ℕ, Bool, true, false, List, codes}
use Rattle.target_machine.specs.declared.unit.HaltCause.{HaltCause}
use Rattle.target_machine.specs.declared.unit.HaltCause.TheVariants as causes
use Rattle.access_calls.specs.declared.stop.StopCause.{StopCause}
use Rattle.access_calls.specs.declared.stop.StopCause.TheVariants as stops

-- why a run halted
abbrev pub halt_word : HaltCause → List ℕ
halt_word causes.DivideByZero = codes "DivideByZero"
halt_word causes.Unsupported = codes "Unsupported"
halt_word causes.AddressTooLarge = codes "AddressTooLarge"
halt_word causes.Misaligned = codes "Misaligned"
halt_word causes.ArgumentOutOfRange = codes "ArgumentOutOfRange"
halt_word causes.AccessLimit = codes "AccessLimit"
halt_word causes.MessageLimit = codes "MessageLimit"
halt_word causes.StepLimit = codes "StepLimit"

-- a fault of the bus, or a retry that ended
abbrev pub stop_word : StopCause → List ℕ
stop_word stops.Faulted = codes "faulted"
stop_word stops.NoAnswer = codes "noanswer"

-- whether an access reads
abbrev pub direction_word : Bool → List ℕ
direction_word true = codes "read"
direction_word false = codes "write"

-- a flag as a digit
abbrev pub bit_word : Bool → List ℕ
bit_word true = codes "1"
bit_word false = codes "0"
