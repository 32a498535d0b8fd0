-- How a first fault is noted, where others may have been found before.
use Rattle.std.specs.Prelude.{◌≡◌, Option}
use Rattle.code_check.specs.declared.fault.CodeFault.{CodeFault}
use Rattle.code_check.specs.Order.{is_before, earlier}
use Rattle.code_check.specs.First.{IsFirst}

-- The first of the faults here is noted, unless what was found before comes first. Where there is none, nothing is noted.
pub record Notes (Here : CodeFault → Type 0) (old new : Option CodeFault) : Type 0 where
  pub first : Option CodeFault
  pub is_first : IsFirst is_before Here first
  pub kept : new ≡ earlier old first
