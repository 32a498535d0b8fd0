-- Accesses of registers, and their order.
use Rattle.std.specs.Prelude.{ℕ, ◌+◌, ◌-◌, ◌*◌, ◌/◌, ◌%◌, ◌==◌, nat_lt, if◌then◌else◌}
use Rattle.register_words.specs.declared.access.RegisterAccess.{RegisterAccess}
use Rattle.register_words.specs.declared.register.Register.{Register}
use Rattle.register_words.specs.declared.register.Register.TheVariants as at

-- The place of a register. 0 to 11 are those of the debug port, and 12 to 15 those at 0x0, 0x4, 0x8 and 0xC of an access port that is not known.
-- Each access port has 64 places.
unfoldable pub register_place : Register → ℕ
register_place at.Dpidr = 0
register_place at.Abort = 1
register_place at.CtrlStat = 2
register_place at.Dlcr = 3
register_place at.Targetid = 4
register_place at.Dlpidr = 5
register_place at.Eventstat = 6
register_place at.Banked = 7
register_place at.Select = 8
register_place at.Resend = 9
register_place at.Rdbuff = 10
register_place at.Targetsel = 11
register_place (at.UnknownAp addr) = 12 + addr / 4 % 4
register_place (at.Ap ap register) = 16 + 64 * ap + register / 4

-- the place of an access: the reads of a register, and then its writes
abbrev pub place : RegisterAccess → ℕ
place access = 2 * register_place access.register + (if access.is_write then 1 else 0)

-- the register of the debug port at a place below 12
unfoldable pub dp_register_at : ℕ → Register
dp_register_at place =
    if place == 0 then at.Dpidr else
    if place == 1 then at.Abort else
    if place == 2 then at.CtrlStat else
    if place == 3 then at.Dlcr else
    if place == 4 then at.Targetid else
    if place == 5 then at.Dlpidr else
    if place == 6 then at.Eventstat else
    if place == 7 then at.Banked else
    if place == 8 then at.Select else
    if place == 9 then at.Resend else
    if place == 10 then at.Rdbuff else at.Targetsel

-- the register at a place below 16,400
unfoldable pub register_at : ℕ → Register
register_at place =
    if nat_lt place 12 then dp_register_at place else
    if nat_lt place 16 then at.UnknownAp (4 * (place - 12)) else at.Ap ((place - 16) / 64) (4 * ((place - 16) % 64))
