-- The components that the words of a target show, as one list that has no limit.
use Rattle.std.specs.Prelude.{◌≡◌, ℕ, zero, suc, ◌+◌, ◌-◌, ◌*◌, ◌%◌, ◌==◌, nat_le, if◌then◌else◌, List, [], ◌∷◌, ◌++◌, length, take}
use Rattle.std.specs.List.{flat_map}
use Rattle.target_calls.specs.declared.calls.Ask.{Ask}
use Rattle.sequels.specs.Sequel.{written_and_end}
use Rattle.rom_scan.specs.declared.component.Component.{Component}
use Rattle.rom_scan.specs.Components.{base_ask, component_line, is_component, is_no_base, is_table, known_as, named_by, page, unknown_at, word_ask}
use Rattle.rom_scan.specs.Walk.{Walked, Listed, Full, is_listed, scanned_port}

-- so many words in a row
abbrev pub row_of_words : (ℕ → ℕ) → ℕ → ℕ → List ℕ
row_of_words word zero address = []
row_of_words word (suc n) address = word address ∷ row_of_words word n (address + 4)

-- The component at an address, as its words say: CIDR0 to CIDR3, PIDR4, and PIDR0 to PIDR3.
unfoldable pub component_of : (ℕ → ℕ) → ℕ → ℕ → Component
component_of word address depth =
    if is_component (row_of_words word 4 (address + 0xFF0))
    then known_as address depth (row_of_words word 4 (address + 0xFF0)) (row_of_words word 1 (address + 0xFD0)) (row_of_words word 4 (address + 0xFE0))
    else unknown_at address depth

-- An entry of a table. 0 ends the table. One with bit 0 set names a component, which comes now, with all below it, unless it was listed.
abbrev pub listed_with_entry : (ℕ → List Component → List Component) → ℕ → ℕ → List Component → (List Component → List Component) → List Component
listed_with_entry visit table e listed next =
    if e == 0 then listed
    else if e % 2 == 0 then next listed
    else if is_listed (named_by table e) listed then next listed
    else next (visit (named_by table e) listed)

-- the last so many of the 960 entries of a table
abbrev pub with_entries : (ℕ → ℕ) → (ℕ → List Component → List Component) → ℕ → ℕ → List Component → List Component
with_entries word visit table zero listed = listed
with_entries word visit table (suc n) listed = listed_with_entry visit table (word (table + 4 * (959 - n))) listed (λ more. with_entries word visit table n more)

-- a component, and then what its table names, where it has one
abbrev pub with_table : (ℕ → ℕ) → (ℕ → List Component → List Component) → Component → List Component → List Component
with_table word visit c listed = if is_table c.known then with_entries word visit c.address 960 (listed ++ c ∷ []) else listed ++ c ∷ []

-- A component and all below it, down to depth 8: so many levels.
abbrev pub with_component : (ℕ → ℕ) → ℕ → ℕ → List Component → List Component
with_component word zero address listed = listed ++ component_of word address 8 ∷ []
with_component word (suc levels) address listed = with_table word (with_component word levels) (component_of word address (7 - levels)) listed

-- The components below a base, each after those above it and before the next entry, by the word at each address.
abbrev pub components : (ℕ → ℕ) → ℕ → List Component
components word base = if is_no_base base then [] else with_component word 7 (page base) []

-- ---- what a scan makes of them

-- their lines
abbrev pub component_lines : List Component → List ℕ
component_lines listed = flat_map component_line listed

-- all of them, or more than may be listed
abbrev pub listed_within : ℕ → List Component → Walked
listed_within most all = if nat_le (length all) most then Listed all else Full

-- the components by the results that a function gives of the calls
abbrev pub components_by : (Ask → ℕ) → ℕ → List Component
components_by f ap = components (λ address. f (word_ask ap address)) (f (base_ask ap))

-- A scan writes the lines of these components, of the first ones where there are more than it may list, and is full exactly there.
pub record ListsComponents (f : Ask → ℕ) (most ap : ℕ) : Type 0 where
  pub written : (written_and_end f (scanned_port most ap)).0 ≡ component_lines (take most (components_by f ap))
  pub end : (written_and_end f (scanned_port most ap)).1 ≡ listed_within most (components_by f ap)
