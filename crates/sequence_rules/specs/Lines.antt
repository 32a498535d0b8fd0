-- The lines that sequences write.
use Rattle.std.specs.Prelude.{ℕ, zero, suc, ◌-◌, true, false, List, [], ◌∷◌, ◌++◌, length, replicate, codes, decimal, Option, Some, None, if◌then◌else◌}
use Rattle.std.specs.Fmt.{digits}
use Rattle.function_table.specs.declared.format.FormatPiece.{FormatPiece}
use Rattle.function_table.specs.declared.format.FormatPiece.TheVariants as piece
use Rattle.function_table.specs.declared.format.Conversion.{Conversion}
use Rattle.function_table.specs.declared.format.NumberForm.{NumberForm}
use Rattle.function_table.specs.declared.format.NumberForm.TheVariants.{Decimal, LowerHex, UpperHex}
use Rattle.function_table.specs.Front.{front_of}
use Rattle.text_lines.specs.Shown.{shown_text}

-- the digits of a number, without leading zeros
abbrev pub digits_of : NumberForm → ℕ → List ℕ
digits_of Decimal n = decimal n
digits_of LowerHex n = digits 16 false n
digits_of UpperHex n = digits 16 true n

-- digits, filled on the left to the width
abbrev pub filled_digits : ℕ → ℕ → List ℕ → List ℕ
filled_digits fill width digits = replicate (width - length digits) fill ++ digits

-- the number as a conversion writes it: filled with zeros after `0`, and else with spaces
abbrev pub converted_number : Conversion → ℕ → List ℕ
converted_number c n = filled_digits (if c.zero then 48 else 32) c.width (digits_of c.form n)

-- the first number, 0 where there is none
abbrev pub first_number : List ℕ → ℕ
first_number [] = 0
first_number (n ∷ more) = n

-- what a piece of a format is written as, where this is the next number
abbrev pub piece_shown : FormatPiece → ℕ → List ℕ
piece_shown (piece.Plain b) n = b ∷ []
piece_shown piece.Percent n = 37 ∷ []
piece_shown (piece.Conversion c) n = converted_number c n

-- the numbers that are left after the piece
abbrev pub piece_rest : FormatPiece → List ℕ → List ℕ
piece_rest (piece.Plain b) numbers = numbers
piece_rest piece.Percent numbers = numbers
piece_rest (piece.Conversion c) [] = []
piece_rest (piece.Conversion c) (n ∷ more) = more

-- the piece at the front of a format, and then what comes after it
abbrev pub piece_then : Option (FormatPiece × List ℕ) → List ℕ → (List ℕ → List ℕ → List ℕ) → List ℕ
piece_then None numbers more = []
piece_then (Some p) numbers more = piece_shown p.0 (first_number numbers) ++ more p.1 (piece_rest p.0 numbers)

-- a format with numbers for its conversions, of which at most so many pieces are read
unfoldable pub formatted_text : ℕ → List ℕ → List ℕ → List ℕ
formatted_text zero format numbers = []
formatted_text (suc n) format numbers = piece_then (front_of format) numbers (λ rest more. formatted_text n rest more)

-- the line of `Message`: `message KIND TEXT`
unfoldable pub message_line : ℕ → List ℕ → List ℕ → List ℕ
message_line kind format numbers = codes "message " ++ decimal kind ++ codes " " ++ shown_text (formatted_text (length format) format numbers) ++ codes "\n"

-- the line of `Query`: `query KIND TEXT = N`
unfoldable pub query_line : ℕ → List ℕ → ℕ → List ℕ
query_line kind text default = codes "query " ++ decimal kind ++ codes " " ++ shown_text text ++ codes " = " ++ decimal default ++ codes "\n"

-- the line of `QueryValue`: `value TEXT = N`
unfoldable pub value_line : List ℕ → ℕ → List ℕ
value_line text default = codes "value " ++ shown_text text ++ codes " = " ++ decimal default ++ codes "\n"

-- the line of `LoadDebugInfo`: `load TEXT`
unfoldable pub load_line : List ℕ → List ℕ
load_line text = codes "load " ++ shown_text text ++ codes "\n"
