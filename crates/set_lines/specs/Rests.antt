-- Where the line of a place begins, and the place that was sought last: what private contracts cite.
use Rattle.std.specs.Prelude.{◌≡◌, ℕ, zero, suc, ◌-◌, ◌==◌, nat_le, ◌&&◌, Bool, List, [], ◌∷◌, map, drop, Option, None, Some, option_map, IfSome, if◌then◌else◌}
use Rattle.std.specs.List.{after_first, IsDistinct}
use Rattle.std.specs.Str.{bytes_eq}
use Rattle.device_tree.specs.Same.{same_text}
use Rattle.sequence_resolve.specs.declared.entry.SeqEntry.{SeqEntry}
use Rattle.sequence_resolve.specs.declared.entry.SeqSet.{SeqSet}
use Rattle.sequence_trees.specs.declared.spot.Spot.{Spot}
use Rattle.set_lines.specs.declared.lines.LineStart.{LineStart}
use Rattle.set_lines.specs.declared.lines.Lines.{Lines}
use Rattle.set_lines.specs.Lines.{text_in}
use Rattle.sequence_trees.specs.Parts.{part_rank}

-- the text after this many line feeds
abbrev pub rest_after : ℕ → List ℕ → List ℕ
rest_after zero text = text
rest_after (suc n) text = rest_after n (after_first (λ b. b == 10) text)

-- the text from the line of the place on; none where the part is no text
abbrev pub rest_of : SeqSet → Spot → Option (List ℕ)
rest_of set spot = option_map (rest_after (spot.place.line - 1)) (text_in set spot.sequence spot.path spot.part)

-- a place is in the text of the last one, in its line or a later one
abbrev pub follows : Spot → Spot → Bool
follows last spot = same_text last.sequence spot.sequence && (bytes_eq last.path spot.path && (part_rank last.part == part_rank spot.part
    && nat_le last.place.line spot.place.line))

-- the sequences from the first of this name on
abbrev pub from_named : List ℕ → List SeqEntry → Option (List SeqEntry)
from_named name [] = None
from_named name (e ∷ es) = if bytes_eq name e.name then Some (e ∷ es) else from_named name es

-- these are the last sequences of the set
pub record AreLast (set : SeqSet) (sequences : List SeqEntry) : Type 0 where
  pub passed : ℕ
  pub are : sequences ≡ drop passed set.entries

-- the line of the place begins there
pub record IsStart (set : SeqSet) (spot : Spot) (start : LineStart) : Type 0 where
  pub place : start.spot.now ≡ spot
  pub rest : rest_of set spot ≡ Some start.rest.now
  pub sequences : AreLast set start.sequences.now

-- the names of the set are distinct, and the line of the place that was sought last begins where it says
pub record AreLines (lines : Lines) : Type 0 where
  pub distinct : IsDistinct bytes_eq (map (λ e. e.name) lines.set.now.entries)
  pub last : IfSome lines.last (λ start. IsStart lines.set.now start.spot.now start)
