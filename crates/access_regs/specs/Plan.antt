-- The accesses of a unit except those that are not needed, and what is known after them.
use Rattle.std.specs.Prelude.{ℕ, ◌+◌, ◌*◌, ◌/◌, ◌%◌, ◌^◌, Bool, true, false, not, ◌&&◌, ◌||◌, ◌==◌, nat_lt, if◌then◌else◌, List, [], ◌∷◌, ◌++◌, Option, Some, None}
use Rattle.std.specs.Prelude.{bit_and, is_some, is_none}
use Rattle.dap_base.specs.Bits.{has_bit}
use Rattle.target_machine.specs.Plain.{dp_read_of, dp_write_of, ap_access_of, select_of, drw_of, csw_for}
use Rattle.target_machine.specs.Registers.{ctrl_stat_address, select_address, dpbanksel, csw_register, tar_register, tar_high_register, cfg_register, addrinc_single}
use Rattle.target_machine.specs.Registers.{cfg_la}
use Rattle.target_machine.specs.declared.access.RegAccess.{RegAccess}
use Rattle.target_machine.specs.declared.unit.Unit.{Unit as AccessUnit}
use Rattle.target_machine.specs.declared.unit.Unit.TheVariants as unit
use Rattle.access_regs.specs.Kept.{Kept, known_at, with_known, is_known, csw_of, forget, kept_with_select}
use Rattle.access_regs.specs.declared.known.Known.{Known}
use Rattle.access_regs.specs.declared.known.Unsettled.{Unsettled}

-- SELECT with this AP (bits 31:24) and this bank (bits 7:4), as a number
abbrev pub select_value : ℕ → ℕ → ℕ
select_value ap bank = ap * 2 ^ 24 + bank * 16

-- one access, or none where it is not needed
abbrev pub unless : Bool → RegAccess → List RegAccess
unless true a = []
unless false a = a ∷ []

-- SELECT is written where its value differs from the one written last, or none is known.
abbrev pub select_needed : Kept → ℕ → ℕ → List RegAccess
select_needed k ap bank = unless (is_known k.select (select_value ap bank)) (select_of ap bank)

-- CSW with this size and AddrInc single, its other bits as they are known
abbrev pub planned_csw : ℕ → ℕ → ℕ
planned_csw csw size = csw_for csw size + addrinc_single

-- CSW is written where it differs
abbrev pub csw_needed : Known → ℕ → List RegAccess
csw_needed n size = unless (is_known n.csw (planned_csw (csw_of n) size)) (ap_access_of false csw_register (planned_csw (csw_of n) size))

-- the upper word of TAR is written on an AP with large addresses alone, where it differs or is not known
abbrev pub high_needed : Known → ℕ → List RegAccess
high_needed n address = unless (not n.large || is_known n.high (address / 2 ^ 32)) (ap_access_of false tar_high_register (address / 2 ^ 32))

-- TAR is written where it differs from the predicted one, or is not known
abbrev pub tar_needed : Known → ℕ → List RegAccess
tar_needed n address = unless (is_known n.tar (address % 2 ^ 32)) (ap_access_of false tar_register (address % 2 ^ 32))

-- CSW, the upper word and TAR, in this order
abbrev pub port_writes : Known → ℕ → ℕ → List RegAccess
port_writes n size address = csw_needed n size ++ (high_needed n address ++ tar_needed n address)

-- what comes before DRW
abbrev pub memory_leads : Kept → ℕ → ℕ → ℕ → List RegAccess
memory_leads k size ap address = select_needed k ap 0 ++ port_writes (known_at k ap) size address

-- what comes before the access that the unit is for
abbrev pub leads : Kept → AccessUnit → List RegAccess
leads k (unit.Memory size read ap address value) = memory_leads k size ap address
leads k (unit.Ap read ap addr value) = select_needed k ap (addr / 16)
leads k (unit.Dp read addr value) = []
leads k (unit.Poll mask value turns) = []

-- the access that the unit is for
abbrev pub last_access : AccessUnit → RegAccess
last_access (unit.Memory size read ap address value) = drw_of read address value
last_access (unit.Ap read ap addr value) = ap_access_of read (addr % 16) value
last_access (unit.Dp read addr value) = if read then dp_read_of addr else dp_write_of addr value
last_access (unit.Poll mask value turns) = dp_read_of ctrl_stat_address

-- The plan of a unit; of a poll one read.
abbrev pub plan : Kept → AccessUnit → List RegAccess
plan k unit = leads k unit ++ last_access unit ∷ []

-- what TAR is after an access by DRW; where that is a multiple of 1,024 it is not known
abbrev pub predicted_tar : ℕ → ℕ → Option ℕ
predicted_tar tar size = if (tar + size) % 1024 == 0 then None else Some (tar + size)

-- what is known of an AP after a memory unit
abbrev pub after_drw : Known → ℕ → ℕ → Known
after_drw n size address = record {
  csw = Some (planned_csw (csw_of n) size);
  tar = predicted_tar (address % 2 ^ 32) size;
  high = if n.large then Some (address / 2 ^ 32) else n.high;
  large = n.large;
}

-- The plan was made. A memory unit leaves its AP unsettled. Of the AP of an AP unit CSW, TAR and its upper word are no longer known. Of a write
-- of SELECT the value as it was written is noted.
abbrev pub kept_after_plan : Kept → AccessUnit → Kept
kept_after_plan k (unit.Memory size read ap address value) =
    record (with_known k ap (after_drw (known_at k ap) size address)) { select = Some (select_value ap 0); unsettled = Some (record { ap = ap; tar = address % 2 ^ 32 }) }
kept_after_plan k (unit.Ap read ap addr value) = record (forget k ap) { select = Some (select_value ap (addr / 16)) }
kept_after_plan k (unit.Dp read addr value) = if not read && (addr == select_address) then kept_with_select k value else k
kept_after_plan k (unit.Poll mask value turns) = k

-- ---- an AP whose CSW is not known

-- CSW of the unit's AP is read before its plan.
abbrev pub needs_csw : Kept → AccessUnit → Bool
needs_csw k (unit.Memory size read ap address value) = is_none (known_at k ap).csw
needs_csw k _ = false

-- SELECT with bank 0, where it is needed, and a read of CSW.
abbrev pub first_plan : Kept → ℕ → List RegAccess
first_plan k ap = select_needed k ap 0 ++ ap_access_of true csw_register 0 ∷ []

-- The first plan was made, and read this CSW.
abbrev pub kept_after_csw : Kept → ℕ → ℕ → Kept
kept_after_csw k ap csw = record (with_known k ap (record (known_at k ap) { csw = Some csw })) { select = Some (select_value ap 0) }

-- ---- an address of more than 32 bits

-- CFG of the unit's AP is read before its plan.
abbrev pub needs_cfg : Kept → AccessUnit → Bool
needs_cfg k (unit.Memory size read ap address value) = nat_lt 0xFFFF_FFFF address && not (known_at k ap).large
needs_cfg k _ = false

-- SELECT with bank F, where it is needed, and a read of CFG.
abbrev pub cfg_plan : Kept → ℕ → List RegAccess
cfg_plan k ap = select_needed k ap (cfg_register / 16) ++ ap_access_of true (cfg_register % 16) 0 ∷ []

-- The plan was made, and read this CFG: its LA says that the AP has large addresses.
abbrev pub learned_cfg : Kept → ℕ → ℕ → Kept
learned_cfg k ap cfg =
    record (with_known k ap (record (known_at k ap) { large = (known_at k ap).large || has_bit cfg cfg_la })) { select = Some (select_value ap (cfg_register / 16)) }

-- ---- settling

-- CSW with AddrInc (bits 5:4) off
abbrev pub increment_off : ℕ → ℕ
increment_off csw = bit_and csw 0xFFFF_FFCF

-- the settling of this AP, where there is one
abbrev pub settling : Kept → Option Unsettled → List RegAccess
settling k None = []
settling k (Some s) = ap_access_of false csw_register (increment_off (csw_of (known_at k s.ap))) ∷ ap_access_of false tar_register s.tar ∷ []

-- CSW and TAR of the unsettled AP are made those that its units leave when each is made alone.
abbrev pub settle : Kept → List RegAccess
settle k = settling k k.unsettled

-- what is known after the settling of this AP
abbrev pub settled_at : Kept → Option Unsettled → Kept
settled_at k None = k
settled_at k (Some s) =
    record (with_known k s.ap (record (known_at k s.ap) { csw = Some (increment_off (csw_of (known_at k s.ap))); tar = Some s.tar })) { unsettled = None }

-- The settling was made.
abbrev pub kept_after_settling : Kept → Kept
kept_after_settling k = settled_at k k.unsettled

-- the unit changes SELECT, is one of an AP, or writes SELECT or CTRL/STAT
abbrev pub must_follow_settling : Kept → AccessUnit → Bool
must_follow_settling k (unit.Memory size read ap address value) = needs_cfg k (unit.Memory size read ap address value) || not (is_known k.select (select_value ap 0))
must_follow_settling k (unit.Ap read ap addr value) = true
must_follow_settling k (unit.Dp read addr value) = not read && ((addr == ctrl_stat_address) || (addr == select_address))
must_follow_settling k (unit.Poll mask value turns) = false

-- An AP is unsettled, and is settled before this unit.
abbrev pub needs_settle : Kept → AccessUnit → Bool
needs_settle k asked = is_some k.unsettled && must_follow_settling k asked

-- SELECT is known, and has DPBANKSEL 0
abbrev pub bank_zero_of : Option ℕ → Bool
bank_zero_of None = false
bank_zero_of (Some value) = bit_and value dpbanksel == 0

-- The SELECT that was written last has DPBANKSEL 0; where none was written, no.
abbrev pub bank_zero : Kept → Bool
bank_zero k = bank_zero_of k.select
