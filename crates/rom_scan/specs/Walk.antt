-- The components below the base of an access port, one table after the other.
use Rattle.std.specs.Prelude.{ℕ, zero, suc, ◌+◌, ◌-◌, ◌*◌, ◌%◌, ◌==◌, nat_lt, Bool, if◌then◌else◌, List, [], ◌∷◌, ◌++◌, length}
use Rattle.std.specs.List.{list_any}
use Rattle.sequels.specs.Sequel.{Sequel, Asks, Ends, Writes, followed_by}
use Rattle.rom_scan.specs.declared.component.Component.{Component}
use Rattle.rom_scan.specs.Components.{base_ask, component_at, component_line, is_no_base, is_table, named_by, page, word_ask}

-- What a walk comes to: the components in the order in which they were read; or there are more than it may list.
pub data Walked : Type 0 where
  Listed : List Component → Walked
  Full : Walked

-- goes on with the components so far, unless there were too many
abbrev pub on_listed : (List Component → Sequel Walked) → Walked → Sequel Walked
on_listed next (Listed listed) = next listed
on_listed next Full = Ends Full

-- one part of a walk, and then the next
abbrev pub on : Sequel Walked → (List Component → Sequel Walked) → Sequel Walked
on s next = followed_by s (on_listed next)

-- the address is that of a component that was listed
abbrev pub is_listed : ℕ → List Component → Bool
is_listed address listed = list_any (λ c. c.address == address) listed

-- ---- a table

-- An entry of a table: 0 ends the table; one with bit 0 set names a component, which is read now, unless it was listed.
abbrev pub entry : (ℕ → List Component → Sequel Walked) → ℕ → ℕ → List Component → (List Component → Sequel Walked) → Sequel Walked
entry visit table e listed next =
    if e == 0 then Ends (Listed listed)
    else if e % 2 == 0 then next listed
    else if is_listed (named_by table e) listed then next listed
    else on (visit (named_by table e) listed) next

-- the last so many of the 960 entries of a table
abbrev pub entries : ℕ → (ℕ → List Component → Sequel Walked) → ℕ → ℕ → List Component → Sequel Walked
entries ap visit table zero listed = Ends (Listed listed)
entries ap visit table (suc n) listed = Asks (word_ask ap (table + 4 * (959 - n))) (λ e. entry visit table e listed (λ more. entries ap visit table n more))

-- ---- components

-- a component is read and its line written, unless there were as many as may be listed
abbrev pub visited_component : ℕ → ℕ → ℕ → ℕ → List Component → (Component → List Component → Sequel Walked) → Sequel Walked
visited_component most ap depth address listed inside =
    if nat_lt (length listed) most then followed_by (component_at ap address depth) (λ c. Writes (component_line c) (inside c (listed ++ c ∷ []))) else Ends Full

-- A component and all below it, down to depth 8: so many levels.
abbrev pub component : ℕ → ℕ → ℕ → ℕ → List Component → Sequel Walked
component most ap zero address listed = visited_component most ap 8 address listed (λ c more. Ends (Listed more))
component most ap (suc levels) address listed =
    visited_component most ap (7 - levels) address listed
    (λ c more. if is_table c.known then entries ap (component most ap levels) c.address 960 more else Ends (Listed more))

-- all below a base
abbrev pub components_below : ℕ → ℕ → ℕ → Sequel Walked
components_below most ap base = if is_no_base base then Ends (Listed []) else component most ap 7 (page base) []

-- The components of an access port.
abbrev pub scanned_port : ℕ → ℕ → Sequel Walked
scanned_port most ap = Asks (base_ask ap) (λ base. components_below most ap base)
