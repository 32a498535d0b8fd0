-- Each text in a value is a text, with at most so many bytes.
use Rattle.std.specs.Prelude.{ℕ, ◌≤◌, List, length, IsUtf8}
use Rattle.serde_json.specs.Data as d
use Rattle.serde_json.specs.Data.{Data}

-- a text of at most so many bytes
pub record IsShort (n : ℕ) (s : List ℕ) : Type 0 where
  pub utf8 : IsUtf8 s
  pub few : length s ≤ n

module _ (n : ℕ) where
  abbrev mutual
    -- each text in the value is short
    pub AreShort : Data → Type 0
    AreShort d.null = Unit {0}
    AreShort (d.boolean b) = Unit {0}
    AreShort (d.number x) = Unit {0}
    AreShort (d.string s) = IsShort n s
    AreShort (d.array ds) = ItemsShort ds
    AreShort (d.object ms) = MembersShort ms

    pub ItemsShort : d.Items → Type 0
    ItemsShort d.no_items = Unit {0}
    ItemsShort (d.item x ds) = AreShort x × ItemsShort ds

    pub MembersShort : d.Members → Type 0
    MembersShort d.no_members = Unit {0}
    MembersShort (d.member k x ms) = AreShort x × MembersShort ms
