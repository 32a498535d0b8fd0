-- Which register a request byte accesses, where SELECT is known or not, and its name.
use Rattle.std.specs.Prelude.{ℕ, ◌+◌, ◌/◌, ◌^◌, ◌==◌, Bool, List, ◌++◌, codes, decimal, Option, Some, None, if◌then◌else◌, bit_and}
use Rattle.dap_base.specs.Bits.{has_bit}
use Rattle.dap_messages.specs.Requests.{apndp, rnw, address_bits}
use Rattle.target_machine.specs.Registers.{dpbanksel, apbanksel}
use Rattle.text_lines.specs.Hex.{hex2}
use Rattle.register_words.specs.declared.register.Register.{Register}
use Rattle.register_words.specs.declared.register.Register.TheVariants as at

-- the register of the debug port at 0x4, by SELECT.DPBANKSEL
unfoldable pub in_bank : ℕ → Register
in_bank bank =
    if bank == 0 then at.CtrlStat else
    if bank == 1 then at.Dlcr else
    if bank == 2 then at.Targetid else
    if bank == 3 then at.Dlpidr else
    if bank == 4 then at.Eventstat else at.Banked

-- the same where SELECT may not be known
abbrev pub register_in_bank : Option ℕ → Register
register_in_bank None = at.Banked
register_in_bank (Some select) = in_bank (bit_and select dpbanksel)

-- a register of the debug port, by SELECT, whether it is read, and its address
unfoldable pub selected_dp_register : Option ℕ → Bool → ℕ → Register
selected_dp_register select read addr =
    if addr == 0x0 then (if read then at.Dpidr else at.Abort) else
    if addr == 0x4 then register_in_bank select else
    if addr == 0x8 then (if read then at.Resend else at.Select) else
    (if read then at.Rdbuff else at.Targetsel)

-- the number of an access port, SELECT.APSEL
abbrev pub apsel : ℕ → ℕ
apsel select = select / 2 ^ 24

-- a register of the access port that SELECT chooses: the bank is SELECT's, the other bits are the request's
abbrev pub selected_ap_register : Option ℕ → ℕ → Register
selected_ap_register None addr = at.UnknownAp addr
selected_ap_register (Some select) addr = at.Ap (apsel select) (bit_and select apbanksel + addr)

-- the register that a request with this byte accesses
unfoldable pub register_of : Option ℕ → ℕ → Register
register_of select byte =
    if has_bit byte apndp then selected_ap_register select (bit_and byte address_bits) else selected_dp_register select (has_bit byte rnw) (bit_and byte address_bits)

-- the name of a register of a MEM-AP, where it has one, else its address
unfoldable pub ap_name : ℕ → List ℕ
ap_name register =
    if register == 0x00 then codes "CSW" else
    if register == 0x04 then codes "TAR" else
    if register == 0x08 then codes "TAR high" else
    if register == 0x0C then codes "DRW" else
    if register == 0x10 then codes "BD0" else
    if register == 0x14 then codes "BD1" else
    if register == 0x18 then codes "BD2" else
    if register == 0x1C then codes "BD3" else
    if register == 0xF0 then codes "BASE high" else
    if register == 0xF4 then codes "CFG" else
    if register == 0xF8 then codes "BASE" else
    if register == 0xFC then codes "IDR" else hex2 register

-- the name of a register, after the port
unfoldable pub register_name : Register → List ℕ
register_name at.Dpidr = codes "dp DPIDR"
register_name at.Abort = codes "dp ABORT"
register_name at.CtrlStat = codes "dp CTRL/STAT"
register_name at.Dlcr = codes "dp DLCR"
register_name at.Targetid = codes "dp TARGETID"
register_name at.Dlpidr = codes "dp DLPIDR"
register_name at.Eventstat = codes "dp EVENTSTAT"
register_name at.Banked = codes "dp 0x04"
register_name at.Select = codes "dp SELECT"
register_name at.Resend = codes "dp RESEND"
register_name at.Rdbuff = codes "dp RDBUFF"
register_name at.Targetsel = codes "dp TARGETSEL"
register_name (at.Ap ap register) = codes "ap " ++ decimal ap ++ codes " " ++ ap_name register
register_name (at.UnknownAp addr) = codes "ap ? " ++ hex2 addr
