-- The bits of CTRL/STAT, ABORT, CSW and SELECT, the pins and the line sequences by name.
use Rattle.std.specs.Prelude.{ℕ, ◌/◌, ◌==◌, ◌&&◌, nat_le, List, [], ◌++◌, codes, decimal, if◌then◌else◌, bit_and, count_ones}
use Rattle.dap_base.specs.Bits.{has_bit}
use Rattle.target_machine.specs.Registers.{dpbanksel, apbanksel, csw_size, csw_addrinc}
use Rattle.text_lines.specs.Hex.{hex2}
use Rattle.register_words.specs.Registers.{apsel}

-- a name, where the bit is set
unfoldable pub flag_word : ℕ → ℕ → List ℕ → List ℕ
flag_word word mask name = if has_bit word mask then name else []

-- ---- CTRL/STAT

-- bits 31 to 28: the power of the system and of debug
unfoldable pub power_flags : ℕ → List ℕ
power_flags word =
    flag_word word 0x8000_0000 (codes " CSYSPWRUPACK") ++ flag_word word 0x4000_0000 (codes " CSYSPWRUPREQ")
    ++ flag_word word 0x2000_0000 (codes " CDBGPWRUPACK") ++ flag_word word 0x1000_0000 (codes " CDBGPWRUPREQ")

-- bits 27 and 26, the reset of debug, then bits 7 and 6
unfoldable pub reset_flags : ℕ → List ℕ
reset_flags word =
    flag_word word 0x0800_0000 (codes " CDBGRSTACK") ++ flag_word word 0x0400_0000 (codes " CDBGRSTREQ")
    ++ flag_word word 0x80 (codes " WDATAERR") ++ flag_word word 0x40 (codes " READOK")

-- bits 5, 4, 1 and 0: the sticky flags, and ORUNDETECT
unfoldable pub sticky_flags : ℕ → List ℕ
sticky_flags word =
    flag_word word 0x20 (codes " STICKYERR") ++ flag_word word 0x10 (codes " STICKYCMP")
    ++ flag_word word 0x02 (codes " STICKYORUN") ++ flag_word word 0x01 (codes " ORUNDETECT")

-- the bits of CTRL/STAT that are set, from the highest
unfoldable pub ctrl_stat_flags : ℕ → List ℕ
ctrl_stat_flags word = power_flags word ++ reset_flags word ++ sticky_flags word

-- ---- ABORT

-- bits 4 to 1 of ABORT, which clear sticky flags
unfoldable pub clear_flags : ℕ → List ℕ
clear_flags word =
    flag_word word 0x10 (codes " ORUNERRCLR") ++ flag_word word 0x08 (codes " WDERRCLR")
    ++ flag_word word 0x04 (codes " STKERRCLR") ++ flag_word word 0x02 (codes " STKCMPCLR")

-- the bits of ABORT that are set, from the highest
unfoldable pub abort_flags : ℕ → List ℕ
abort_flags word = clear_flags word ++ flag_word word 0x01 (codes " DAPABORT")

-- ---- CSW

-- CSW.Size
unfoldable pub size_name : ℕ → List ℕ
size_name size =
    if size == 0 then codes " byte" else
    if size == 1 then codes " halfword" else
    if size == 2 then codes " word" else codes " size " ++ decimal size

-- CSW.AddrInc
unfoldable pub increment_name : ℕ → List ℕ
increment_name increment =
    if increment == 0x00 then codes " no increment" else
    if increment == 0x10 then codes " increment" else
    if increment == 0x20 then codes " packed" else codes " increment 3"

-- bits 31, 7 and 6 of CSW
unfoldable pub csw_flags : ℕ → List ℕ
csw_flags word = flag_word word 0x8000_0000 (codes " DbgSwEnable") ++ flag_word word 0x80 (codes " TrInProg") ++ flag_word word 0x40 (codes " DeviceEn")

-- Size, AddrInc and these bits
unfoldable pub csw_words : ℕ → List ℕ
csw_words word = size_name (bit_and word csw_size) ++ increment_name (bit_and word csw_addrinc) ++ csw_flags word

-- ---- SELECT

-- DPBANKSEL, where it is not 0
unfoldable pub dp_bank_words : ℕ → List ℕ
dp_bank_words bank = if bank == 0 then [] else codes " dp bank " ++ decimal bank

-- APSEL, APBANKSEL and DPBANKSEL
unfoldable pub select_words : ℕ → List ℕ
select_words word =
    codes " ap " ++ decimal (apsel word) ++ codes " bank " ++ hex2 (bit_and word apbanksel) ++ dp_bank_words (bit_and word dpbanksel)

-- ---- pins and line sequences

-- nRESET and nTRST
unfoldable pub reset_pins : ℕ → List ℕ
reset_pins pins = flag_word pins 0x80 (codes " nRESET") ++ flag_word pins 0x20 (codes " nTRST")

-- the pins of JTAG, of which SWD uses the last two
unfoldable pub line_pins : ℕ → List ℕ
line_pins pins =
    flag_word pins 0x08 (codes " TDO") ++ flag_word pins 0x04 (codes " TDI") ++ flag_word pins 0x02 (codes " SWDIO/TMS") ++ flag_word pins 0x01 (codes " SWCLK/TCK")

-- the pins of DAP_SWJ_Pins by name, from the highest bit
unfoldable pub pin_names : ℕ → List ℕ
pin_names pins = reset_pins pins ++ line_pins pins

-- the sequences of 16 bits that switch between JTAG, SWD and dormant
unfoldable pub switch_name : ℕ → List ℕ
switch_name bits =
    if bits == 0xE79E then codes " JTAG to SWD" else
    if bits == 0xE73C then codes " SWD to JTAG" else
    if bits == 0xE3BC then codes " SWD to dormant" else []

-- at least 50 ones reset the line
unfoldable pub reset_name : ℕ → ℕ → List ℕ
reset_name count bits = if nat_le 50 count && (count_ones bits == count) then codes " line reset" else []

-- what a line sequence of so many bits is, where it is known
unfoldable pub line_name : ℕ → ℕ → List ℕ
line_name count bits = if count == 16 then switch_name bits else reset_name count bits
