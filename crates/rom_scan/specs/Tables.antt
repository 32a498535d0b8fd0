-- The tables that are open, the innermost first.
use Rattle.std.specs.Prelude.{◌≡◌, ℕ, ◌+◌, ◌-◌, ◌*◌, ◌%◌, ◌==◌, ◌<◌, ◌≤◌, nat_lt, ◌&&◌, if◌then◌else◌, List, [], ◌∷◌, ◌++◌, length}
use Rattle.sequels.specs.Sequel.{Sequel, Asks, Ends, Writes, followed_by}
use Rattle.rom_scan.specs.declared.component.Component.{Component}
use Rattle.rom_scan.specs.Components.{component_at, component_line, is_table, named_by, word_ask}
use Rattle.rom_scan.specs.declared.tables.Table.{Table}
use Rattle.rom_scan.specs.Walk.{Walked, Listed, Full, component, entries, is_listed, on}

-- what is left of open tables
abbrev pub unwound : ℕ → ℕ → List Table → List Component → Sequel Walked
unwound most ap [] listed = Ends (Listed listed)
unwound most ap (t ∷ tables) listed = on (entries ap (component most ap (6 - length tables)) t.address t.left listed) (λ more. unwound most ap tables more)

-- a component is reached with these tables open
abbrev pub walk_from_component : ℕ → ℕ → List Table → ℕ → List Component → Sequel Walked
walk_from_component most ap tables address listed = on (component most ap (7 - length tables) address listed) (λ more. unwound most ap tables more)

-- the tables that are open after a component was read
abbrev pub tables_after : List Table → Component → List Table
tables_after tables c = if is_table c.known && nat_lt (length tables) 7 then record { address = c.address; left = 960 } ∷ tables else tables

-- A component that is reached is read, and its line written; then its table is open, unless it stands at depth 8.
pub record OpensTables (most ap : ℕ) (tables : List Table) (address : ℕ) (listed : List Component) : Type 0 where
  pub room : length tables ≤ 7 → length listed < most
      → walk_from_component most ap tables address listed
      ≡ followed_by (component_at ap address (1 + length tables)) (λ c. Writes (component_line c) (unwound most ap (tables_after tables c) (listed ++ c ∷ [])))
  pub full : most ≤ length listed → walk_from_component most ap tables address listed ≡ Ends Full

-- after an entry of the innermost table, of which so many are left
abbrev pub next_entry : ℕ → ℕ → List Table → ℕ → ℕ → ℕ → List Component → Sequel Walked
next_entry most ap tables table n e listed =
    if e == 0 then unwound most ap tables listed
    else if e % 2 == 0 then unwound most ap (record { address = table; left = n } ∷ tables) listed
    else if is_listed (named_by table e) listed then unwound most ap (record { address = table; left = n } ∷ tables) listed
    else walk_from_component most ap (record { address = table; left = n } ∷ tables) (named_by table e) listed

-- What is left of open tables goes on with the next entry of the innermost one, or leaves it where it has none.
pub record GoesOnByEntry (most ap : ℕ) (tables : List Table) (table n : ℕ) (listed : List Component) : Type 0 where
  pub none : unwound most ap (record { address = table; left = 0 } ∷ tables) listed ≡ unwound most ap tables listed
  pub next : unwound most ap (record { address = table; left = n + 1 } ∷ tables) listed
      ≡ Asks (word_ask ap (table + 4 * (959 - n))) (λ e. next_entry most ap tables table n e listed)
