-- What is known of SELECT, and of CSW and TAR of each access port, from the requests that were made.
use Rattle.std.specs.Prelude.{ℕ, ◌+◌, ◌-◌, ◌*◌, ◌%◌, ◌^◌, ◌==◌, nat_lt, Bool, ◌&&◌, List, Option, Some, None, if◌then◌else◌, bit_and, replicate, slice_set}
use Rattle.std.specs.List.{slice_index_or}
use Rattle.dap_base.specs.Bits.{has_bit}
use Rattle.target_machine.specs.Registers.{csw_register, tar_register, drw_register, csw_size, csw_addrinc, addrinc_single}
use Rattle.register_words.specs.declared.known.KnownPort.{KnownPort}
use Rattle.register_words.specs.declared.known.KnownRegisters.{KnownRegisters}
use Rattle.register_words.specs.declared.register.Register.{Register}
use Rattle.register_words.specs.declared.register.Register.TheVariants as at

-- nothing is known of a port
abbrev pub unknown_port : KnownPort
unknown_port = record { csw = None; tar = None }

-- nothing is known of any port
abbrev pub unknown_ports : List KnownPort
unknown_ports = replicate 256 unknown_port

-- nothing is known
abbrev pub nothing_known : KnownRegisters
nothing_known = record { select = None; ports = unknown_ports }

-- what is known of the port of this number
abbrev pub port_at : KnownRegisters → ℕ → KnownPort
port_at known ap = slice_index_or known.ports ap unknown_port

-- the same with this for one port
abbrev pub known_with_port : KnownRegisters → ℕ → KnownPort → KnownRegisters
known_with_port known ap port = record known { ports = slice_set known.ports ap port }

-- ---- TAR after an access of DRW

-- TAR after an access of so many bytes, within the same 1,024 bytes; at their end it is not known
abbrev pub tar_after : ℕ → ℕ → Option ℕ
tar_after tar size = if nat_lt (tar % 1024 + size) 1024 then Some (tar + size) else None

-- the bytes of an access, by CSW.Size, where they are 1, 2 or 4
abbrev pub bytes_of : ℕ → Option ℕ
bytes_of size = if size == 0 then Some 1 else if size == 1 then Some 2 else if size == 2 then Some 4 else None

-- the same where the bytes of the access may not be known
abbrev pub moved_by : ℕ → Option ℕ → Option ℕ
moved_by tar None = None
moved_by tar (Some size) = tar_after tar size

-- TAR after an access, by CSW.AddrInc: the same where it is off, moved where it is single; else not known
unfoldable pub stepped_tar : ℕ → ℕ → Option ℕ
stepped_tar csw tar =
    if bit_and csw csw_addrinc == 0 then Some tar else
    if bit_and csw csw_addrinc == addrinc_single then moved_by tar (bytes_of (bit_and csw csw_size)) else None

-- the same where CSW or TAR may not be known
abbrev pub known_next_tar : Option ℕ → Option ℕ → Option ℕ
known_next_tar (Some csw) (Some tar) = stepped_tar csw tar
known_next_tar csw tar = None

-- a port after one access of DRW
abbrev pub accessed_port : KnownPort → KnownPort
accessed_port port = record port { tar = known_next_tar port.csw port.tar }

-- TAR after several accesses whose number is not known: the same where AddrInc is off
abbrev pub kept_tar : Option ℕ → Option ℕ → Option ℕ
kept_tar None tar = None
kept_tar (Some csw) tar = if bit_and csw csw_addrinc == 0 then tar else None

-- ---- requests that were made

-- a port after a write of this register
unfoldable pub port_written : KnownPort → ℕ → ℕ → KnownPort
port_written port register word =
    if register == csw_register then record port { csw = Some word } else
    if register == tar_register then record port { tar = Some word } else
    if register == drw_register then accessed_port port else port

-- a port after a read of this register, whose value came or not
unfoldable pub port_read : KnownPort → ℕ → Option ℕ → KnownPort
port_read port register value =
    if register == csw_register then record port { csw = value } else
    if register == tar_register then record port { tar = value } else
    if register == drw_register then accessed_port port else port

-- a port after a read that was repeated until its value matched
unfoldable pub port_matched : KnownPort → ℕ → KnownPort
port_matched port register = if register == drw_register then record port { tar = kept_tar port.csw port.tar } else port

-- ABORT.DAPABORT (bit 0), after which nothing is known
abbrev pub after_abort : KnownRegisters → ℕ → KnownRegisters
after_abort known word = if has_bit word 1 then nothing_known else known

-- A write: SELECT is known from now on; CTRL/STAT may take the power from the ports; TARGETSEL chooses another debug port.
unfoldable pub after_write : KnownRegisters → Register → ℕ → KnownRegisters
after_write known at.Select word = record known { select = Some word }
after_write known at.Abort word = after_abort known word
after_write known at.CtrlStat word = record known { ports = unknown_ports }
after_write known at.Banked word = record known { ports = unknown_ports }
after_write known at.Targetsel word = nothing_known
after_write known (at.Ap ap register) word = known_with_port known ap (port_written (port_at known ap) register word)
after_write known other word = known

-- a read, whose value came or not
unfoldable pub after_read : KnownRegisters → Register → Option ℕ → KnownRegisters
after_read known (at.Ap ap register) value = known_with_port known ap (port_read (port_at known ap) register value)
after_read known other value = known

-- a read that was repeated until its value matched
unfoldable pub after_match : KnownRegisters → Register → KnownRegisters
after_match known (at.Ap ap register) = known_with_port known ap (port_matched (port_at known ap) register)
after_match known other = known
