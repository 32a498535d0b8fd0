-- The lines of a report from the number of units on. Each ends with a line feed.
use Rattle.std.specs.Prelude.{ℕ, List, [], ◌++◌, codes, decimal, Option, Some, None}
use Rattle.text_lines.specs.Hex.{hex, hex2, hex8, hex16, hex_address}
use Rattle.target_machine.specs.declared.image.ApImage.{ApImage}
use Rattle.target_machine.specs.declared.image.DpImage.{DpImage}
use Rattle.target_machine.specs.declared.image.LinesImage.{LinesImage}
use Rattle.target_machine.specs.declared.image.WordImage.{WordImage}
use Rattle.report_lines.specs.Words.{bit_word}

-- how many units were asked
abbrev pub units_line : ℕ → List ℕ
units_line units = codes "units " ++ decimal units ++ codes "\n"

-- a variable and its value
abbrev pub variable_line : List ℕ → ℕ → List ℕ
variable_line name value = codes "var " ++ name ++ codes " " ++ hex value ++ codes "\n"

-- the debug port: SELECT, CTRL/STAT, STICKYERR, and the reads of CTRL/STAT
abbrev pub dp_line : DpImage → List ℕ
dp_line image =
    codes "dp select " ++ hex8 image.select ++ codes " ctrl " ++ hex8 image.ctrl ++
    codes " sticky " ++ bit_word image.sticky ++ codes " reads " ++ decimal image.reads ++ codes "\n"

-- TAR's upper word, where the access port has large physical addresses
abbrev pub high_part : Option ℕ → List ℕ
high_part None = []
high_part (Some high) = codes " high " ++ hex8 high

-- an access port: CSW, TAR, and TAR's upper word where it has large physical addresses
abbrev pub ap_line : ℕ → ApImage → List ℕ
ap_line ap image = codes "ap " ++ decimal ap ++ codes " csw " ++ hex8 image.csw ++ codes " tar " ++ hex8 image.tar ++ high_part image.high ++ codes "\n"

-- the lines of the probe
abbrev pub lines_line : LinesImage → List ℕ
lines_line image =
    codes "lines pins " ++ hex2 image.pins ++ codes " bits " ++ decimal image.bits ++ codes " last " ++ hex16 image.last ++
    codes " clock " ++ decimal image.clock ++ codes " delay " ++ decimal image.delay ++ codes "\n"

-- the place that the next read takes in the script of the word, where that has several values
abbrev pub place_part : Option ℕ → List ℕ
place_part None = []
place_part (Some place) = codes " at " ++ decimal place

-- a word of memory
abbrev pub word_line : ℕ → WordImage → List ℕ
word_line address image = codes "mem " ++ hex_address address ++ codes " " ++ hex8 image.value ++ place_part image.place ++ codes "\n"
