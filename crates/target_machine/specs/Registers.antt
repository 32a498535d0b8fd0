-- The registers of ADIv5 by name: their addresses, their bits, and the bits of them that are stored.
use Rattle.std.specs.Prelude.{ℕ}

-- ---- the registers of the debug port

-- DPIDR, which is read at 0x0
abbrev pub dpidr_address : ℕ
dpidr_address = 0x0

-- ABORT, which is written at 0x0
abbrev pub abort_address : ℕ
abort_address = 0x0

-- CTRL/STAT, at 0x4 where SELECT.DPBANKSEL is 0
abbrev pub ctrl_stat_address : ℕ
ctrl_stat_address = 0x4

-- SELECT, which is written at 0x8
abbrev pub select_address : ℕ
select_address = 0x8

-- RESEND, which is read at 0x8
abbrev pub resend_address : ℕ
resend_address = 0x8

-- RDBUFF, which is read at 0xC
abbrev pub rdbuff_address : ℕ
rdbuff_address = 0xC

-- CTRL/STAT.CDBGPWRUPREQ (bit 28), the request of debug power
abbrev pub cdbgpwrupreq : ℕ
cdbgpwrupreq = 0x1000_0000

-- CTRL/STAT.CDBGPWRUPACK (bit 29), which acknowledges it
abbrev pub cdbgpwrupack : ℕ
cdbgpwrupack = 0x2000_0000

-- CTRL/STAT.CSYSPWRUPREQ (bit 30), the request of system power
abbrev pub csyspwrupreq : ℕ
csyspwrupreq = 0x4000_0000

-- CTRL/STAT.CSYSPWRUPACK (bit 31), which acknowledges it
abbrev pub csyspwrupack : ℕ
csyspwrupack = 0x8000_0000

-- CTRL/STAT: both requests of power (bits 30 and 28)
abbrev pub power_requests : ℕ
power_requests = 0x5000_0000

-- CTRL/STAT.STICKYERR (bit 5)
abbrev pub stickyerr : ℕ
stickyerr = 0x20

-- CTRL/STAT: the bits that are stored, the requests of power (bits 30 and 28) and MASKLANE (bits 11:8)
abbrev pub ctrl_stored : ℕ
ctrl_stored = 0x5000_0F00

-- ABORT.STKERRCLR (bit 2), which clears STICKYERR
abbrev pub stkerrclr : ℕ
stkerrclr = 0x4

-- ABORT: ORUNERRCLR, WDERRCLR, STKERRCLR and STKCMPCLR (bits 4:1), which clear each sticky flag
abbrev pub clear_all : ℕ
clear_all = 0x1E

-- SELECT.DPBANKSEL (bits 3:0)
abbrev pub dpbanksel : ℕ
dpbanksel = 0xF

-- SELECT.APBANKSEL (bits 7:4)
abbrev pub apbanksel : ℕ
apbanksel = 0xF0

-- SELECT: the bits that are stored, APSEL (bits 31:24), APBANKSEL (bits 7:4) and DPBANKSEL (bits 3:0)
abbrev pub select_stored : ℕ
select_stored = 0xFF00_00FF

-- ---- the registers of a MEM-AP, by bank (bits 7:4) and address (bits 3:2)

-- CSW, in bank 0
abbrev pub csw_register : ℕ
csw_register = 0x00

-- TAR, in bank 0
abbrev pub tar_register : ℕ
tar_register = 0x04

-- the upper word of TAR, in bank 0
abbrev pub tar_high_register : ℕ
tar_high_register = 0x08

-- DRW, in bank 0
abbrev pub drw_register : ℕ
drw_register = 0x0C

-- BD0 to BD3 are the four registers of this bank
abbrev pub bd_bank : ℕ
bd_bank = 1

-- CFG, in bank F
abbrev pub cfg_register : ℕ
cfg_register = 0xF4

-- BASE, in bank F
abbrev pub base_register : ℕ
base_register = 0xF8

-- IDR, in bank F
abbrev pub idr_register : ℕ
idr_register = 0xFC

-- the bits of an AP's address in an access (bits 3:2); the bank is SELECT's
abbrev pub address_bits : ℕ
address_bits = 0xC

-- CSW.Size (bits 2:0)
abbrev pub csw_size : ℕ
csw_size = 0x7

-- CSW.AddrInc (bits 5:4)
abbrev pub csw_addrinc : ℕ
csw_addrinc = 0x30

-- CSW.AddrInc, where it is single
abbrev pub addrinc_single : ℕ
addrinc_single = 0x10

-- CSW.DeviceEn (bit 6)
abbrev pub device_en : ℕ
device_en = 0x40

-- CSW: the bits that are stored (bits 31:24 and 5:0)
abbrev pub csw_stored : ℕ
csw_stored = 0xFF00_003F

-- CSW: all bits but AddrInc (bits 5:4) and Size (bits 2:0)
abbrev pub csw_others : ℕ
csw_others = 0xFFFF_FFC8

-- CFG.LA (bit 1): the AP has large physical addresses
abbrev pub cfg_la : ℕ
cfg_la = 0x2

-- all lanes of a word
abbrev pub whole_word : ℕ
whole_word = 0xFFFF_FFFF

-- ---- the pins of DAP_SWJ_Pins

-- the pins that the probe drives (bits 7, 5, 2, 1 and 0); TDO (bit 3) is an input
abbrev pub driven_pins : ℕ
driven_pins = 0xA7

-- bits 6 and 4, which are no pins
abbrev pub no_pins : ℕ
no_pins = 0x50

-- nRESET (bit 7)
abbrev pub nreset : ℕ
nreset = 0x80
