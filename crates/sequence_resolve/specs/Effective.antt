-- The sequences that apply to a device: of each name the greatest candidate, and of equals the last.
use Rattle.std.specs.Prelude.{◌≡◌, ℕ, ◌+◌, ◌*◌, ◌<◌, ◌≤◌, Bool, true, false, List, [], ◌∷◌, ◌++◌, map, Option, Some, None, is_some, if◌then◌else◌, ⊤}
use Rattle.std.specs.List.{AllByRecursion}
use Rattle.std.specs.Str.{bytes_eq}
use Rattle.device_tree.specs.StepTree.{no_steps}
use Rattle.device_tree.specs.declared.pack.SeqText.{SeqText}
use Rattle.sequence_resolve.specs.declared.entry.LevelKind.{LevelKind}
use Rattle.sequence_resolve.specs.declared.entry.SeqEntry.{SeqEntry}
use Rattle.sequence_resolve.specs.Levels.{LevelAt}

-- ---- candidates

-- a sequence that counts, the level that it stands at, and its rank among those of its name
pub record Candidate : Type 0 where
  pub rank : ℕ
  pub kind : LevelKind
  pub sequence : SeqText

-- a sequence counts where its `Pname` is the requested one, or where it has none
abbrev pub counts_for : Option (List ℕ) → Option (List ℕ) → Bool
counts_for requested None = true
counts_for None (Some pname) = false
counts_for (Some requested) (Some pname) = bytes_eq requested pname

-- a deeper level stands above, and at one level the sequence with a `Pname` above the one without
abbrev pub rank_of : ℕ → SeqText → ℕ
rank_of depth s = 2 * depth + (if is_some s.pname then 1 else 0)

-- the candidates of one level, in order
abbrev pub candidates_at : Option (List ℕ) → LevelKind → ℕ → List SeqText → List Candidate
candidates_at requested kind depth [] = []
candidates_at requested kind depth (s ∷ ss) =
    if counts_for requested s.pname then record { rank = rank_of depth s; kind = kind; sequence = s } ∷ candidates_at requested kind depth ss
    else candidates_at requested kind depth ss

-- the candidates of the levels from this depth on
abbrev pub candidates : Option (List ℕ) → ℕ → List LevelAt → List Candidate
candidates requested depth [] = []
candidates requested depth (l ∷ ls) = candidates_at requested l.kind depth l.level.sequences ++ candidates requested (depth + 1) ls

-- ---- the winners

-- the names, with this one at the end unless it is there
abbrev pub name_added : List (List ℕ) → List ℕ → List (List ℕ)
name_added [] name = name ∷ []
name_added (first ∷ rest) name = if bytes_eq name first then first ∷ rest else first ∷ name_added rest name

-- the names seen, and then those of the candidates in the order of their first ones
abbrev pub names_after : List (List ℕ) → List Candidate → List (List ℕ)
names_after seen [] = seen
names_after seen (c ∷ cs) = names_after (name_added seen c.sequence.name) cs

-- none of its name stands above it
abbrev pub NoneAbove : List Candidate → Candidate → Type 0
NoneAbove [] w = ⊤
NoneAbove (c ∷ cs) w = (bytes_eq c.sequence.name w.sequence.name ≡ true → c.rank ≤ w.rank) × NoneAbove cs w

-- all of its name stand below it
abbrev pub AllBelow : List Candidate → Candidate → Type 0
AllBelow [] w = ⊤
AllBelow (c ∷ cs) w = (bytes_eq c.sequence.name w.sequence.name ≡ true → c.rank < w.rank) × AllBelow cs w

-- the last of the greatest of its name: none of them before it stands above it, and all of them after it stand below it
pub record Wins (cs : List Candidate) (w : Candidate) : Type 0 where
  pub before : List Candidate
  pub after : List Candidate
  pub candidate : cs ≡ before ++ w ∷ after
  pub greatest : NoneAbove before w
  pub last : AllBelow after w

-- a winner for each name, in the order of the first candidates
pub record AreWinners (cs winners : List Candidate) : Type 0 where
  pub names : map (λ w. w.sequence.name) winners ≡ names_after [] cs
  pub each : AllByRecursion (Wins cs) winners

-- the entry of a winner; a disabled one has no steps
abbrev pub entry_of : Candidate → SeqEntry
entry_of c = record { name = c.sequence.name; from = c.kind; disabled = c.sequence.disable; steps = if c.sequence.disable then no_steps else c.sequence.steps }
