-- Components of a target, as their words say what they are.
use Rattle.std.specs.Prelude.{ℕ, zero, suc, ◌+◌, ◌*◌, ◌/◌, ◌%◌, ◌^◌, ◌==◌, ◌&&◌, ◌||◌, Bool, true, false, if◌then◌else◌}
use Rattle.std.specs.Prelude.{List, [], ◌∷◌, ◌++◌, codes, decimal, slice_index, Option, Some, None}
use Rattle.hex.specs.Hex.{encode_lower}
use Rattle.text_lines.specs.Hex.{hex8}
use Rattle.target_calls.specs.Asks.{unit_ask}
use Rattle.target_calls.specs.declared.calls.Ask.{Ask}
use Rattle.target_machine.specs.declared.unit.Unit.TheVariants as unit
use Rattle.sequels.specs.Sequel.{Sequel, Asks, Ends, followed_by}
use Rattle.rom_scan.specs.declared.component.Component.{Component}
use Rattle.rom_scan.specs.declared.component.ComponentId.{ComponentId}

-- ---- what is asked

-- the word at an address; a fault is forgiven
abbrev pub word_ask : ℕ → ℕ → Ask
word_ask ap address = unit_ask (unit.Memory 4 true ap address 0) true

-- BASE, where the components of an access port begin
abbrev pub base_ask : ℕ → Ask
base_ask ap = unit_ask (unit.Ap true ap 0xF8 0) true

-- so many words from an address on, after those that were read
abbrev pub words_sequel : ℕ → ℕ → ℕ → List ℕ → Sequel (List ℕ)
words_sequel ap zero address read = Ends read
words_sequel ap (suc n) address read = Asks (word_ask ap address) (λ word. words_sequel ap n (address + 4) (read ++ word ∷ []))

-- ---- a component

-- the low byte of a word
abbrev pub low : ℕ → ℕ
low word = word % 256

-- CIDR0 to CIDR3, the four words from 0xFF0 on, are those of a component: all but the class are fixed numbers
abbrev pub is_component : List ℕ → Bool
is_component cidr =
    (low (slice_index cidr 0) == 0x0D) && ((low (slice_index cidr 1) % 16 == 0) && ((low (slice_index cidr 2) == 0x05) && (low (slice_index cidr 3) == 0xB1)))

-- the component class, bits 7:4 of CIDR1
abbrev pub class_of : List ℕ → ℕ
class_of cidr = low (slice_index cidr 1) / 16

-- the low bytes of PIDR4, at 0xFD0, and of PIDR3 to PIDR0, which stand from 0xFE0 on
abbrev pub component_id : List ℕ → List ℕ → List ℕ
component_id fourth first =
    low (slice_index fourth 0) ∷ low (slice_index first 3) ∷ low (slice_index first 2) ∷ low (slice_index first 1) ∷ low (slice_index first 0) ∷ []

-- a component by its words
abbrev pub known_as : ℕ → ℕ → List ℕ → List ℕ → List ℕ → Component
known_as address depth cidr fourth first = record { address = address; depth = depth; known = Some (record { class = class_of cidr; id = component_id fourth first }) }

-- where no component is known
abbrev pub unknown_at : ℕ → ℕ → Component
unknown_at address depth = record { address = address; depth = depth; known = None }

-- what is read of a component that is known
abbrev pub identified_component : ℕ → ℕ → ℕ → List ℕ → Sequel Component
identified_component ap address depth cidr =
    followed_by (words_sequel ap 1 (address + 0xFD0) [])
    (λ fourth. followed_by (words_sequel ap 4 (address + 0xFE0) []) (λ first. Ends (known_as address depth cidr fourth first)))

-- what is read after the first four words
abbrev pub by_words : ℕ → ℕ → ℕ → List ℕ → Sequel Component
by_words ap address depth cidr = if is_component cidr then identified_component ap address depth cidr else Ends (unknown_at address depth)

-- What is read of a component.
unfoldable pub component_at : ℕ → ℕ → ℕ → Sequel Component
component_at ap address depth = followed_by (words_sequel ap 4 (address + 0xFF0) []) (λ cidr. by_words ap address depth cidr)

-- how many words are read of a component
abbrev pub words_read_of : Option ComponentId → ℕ
words_read_of None = 4
words_read_of (Some k) = 9

-- ---- its line

-- what is known of it, to the end of the line
abbrev pub component_details : Option ComponentId → ℕ → List ℕ
component_details None depth = codes " unknown depth " ++ decimal depth ++ codes "\n"
component_details (Some k) depth = codes " class " ++ decimal k.class ++ codes " depth " ++ decimal depth ++ codes " id 0x" ++ encode_lower k.id ++ codes "\n"

-- the line of a component
abbrev pub component_line : Component → List ℕ
component_line c = codes "component " ++ hex8 c.address ++ component_details c.known c.depth

-- ---- its table

-- a component of class 1 has a table of others
abbrev pub is_table : Option ComponentId → Bool
is_table None = false
is_table (Some k) = k.class == 1

-- BASE names no component: 0xFFFFFFFF, the legacy form; or the format bit (1) is set and the present bit (0) clear; or 0
abbrev pub is_no_base : ℕ → Bool
is_no_base base = (base == 0xFFFF_FFFF) || ((base % 4 == 2) || (base == 0))

-- an address without its low 12 bits
abbrev pub page : ℕ → ℕ
page n = n / 4096 * 4096

-- the component that an entry of a table names
abbrev pub named_by : ℕ → ℕ → ℕ
named_by table entry = (table + page entry) % 2 ^ 32
