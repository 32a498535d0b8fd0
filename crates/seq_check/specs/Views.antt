-- What the code's faults mean: what private contracts cite.
use Rattle.std.specs.Prelude.{[]}
use Rattle.seq_check.specs.declared.faulty.PartFault.{PartFault}
use Rattle.seq_check.specs.declared.faulty.FaultyStep.{FaultyStep}
use Rattle.seq_check.specs.declared.faulty.HeldFault.{HeldFault}
use Rattle.seq_check.specs.StepFaults.{StepFault}
use Rattle.seq_check.specs.SetFaults.{SetFault}

-- a fault of a step itself
abbrev pub own_view : PartFault → StepFault
own_view f = record { path = []; part = f.part; fault = f.fault }

-- a fault of a step, or of one inside it
abbrev pub faulty_view : FaultyStep → StepFault
faulty_view f = record { path = f.path; part = f.own.part; fault = f.own.fault }

-- a fault of a set
abbrev pub held_view : HeldFault → SetFault
held_view f = record { holder = f.holder; fault = faulty_view f.faulty }
