-- Accesses that can be sent, and accesses in room that was taken beforehand.
use Rattle.std.specs.Prelude.{ℕ, List}
use Rattle.target_machine.specs.declared.access.RegAccess.{RegAccess}
use Rattle.flight_forms.specs.Packing.{AreTaken, AreWords}

-- Accesses that a flight takes, each of which writes 32 bits.
pub record AreSendable (accesses : List RegAccess) : Type 0 where
  pub taken : AreTaken accesses
  pub words : AreWords accesses

-- accesses in order, and how many there is room for
pub record Accesses : Type 0 where
  pub items : List RegAccess
  pub room : ℕ
