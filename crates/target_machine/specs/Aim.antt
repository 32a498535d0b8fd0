-- What leads DRW of an access port to an address, and where all of it is done.
use Rattle.std.specs.Prelude.{ℕ, ◌*◌, ◌^◌, Bool, false, not, ◌&&◌, List, [], ◌∷◌, ◌++◌, is_some, bit_or}
use Rattle.std.specs.FinMap as map
use Rattle.target_machine.specs.Attempt.{acknowledges, stored_csw}
use Rattle.target_machine.specs.Plain.{Action, Makes, ap_access_of, csw_actions, csw_for, given_number, in_order}
use Rattle.target_machine.specs.Registers.{cdbgpwrupreq, csw_register, device_en, tar_register}
use Rattle.target_machine.specs.State.{TargetState}
use Rattle.target_machine.specs.declared.ap.ApState.{ApState}

-- SELECT with bank 0, a read of CSW, CSW with a size and no increment, and TAR
abbrev pub aim_actions : TargetState → ℕ → ℕ → ℕ → List Action
aim_actions t ap size address =
    csw_actions ap
    ++ Makes (ap_access_of false csw_register (csw_for (given_number (in_order t (csw_actions ap)).outcome) size))
    ∷ Makes (ap_access_of false tar_register address)
    ∷ []

-- STICKYERR is clear, the debug power is acknowledged, and the port is there
abbrev pub can_aim : TargetState → ℕ → Bool
can_aim t ap = not t.sticky && (acknowledges t cdbgpwrupreq && is_some (map.get t.aps ap))

-- the port after the accesses that lead DRW to this address
abbrev pub aimed_port : ApState → ℕ → ℕ → ApState
aimed_port port size address = record port { csw = stored_csw (csw_for (bit_or port.csw device_en) size); tar = address }

-- the target after them, for a port with these registers
abbrev pub aimed_target : TargetState → ℕ → ApState → ℕ → ℕ → TargetState
aimed_target t ap port size address = record t {
  select = ap * 2 ^ 24;
  rdbuff = bit_or port.csw device_en;
  aps = map.insert t.aps ap (aimed_port port size address);
}
