-- The lines of the texts. Each ends with a line feed.
use Rattle.std.specs.Prelude.{ℕ, List, ◌∷◌, ◌++◌, length, map, codes, decimal, Option, Some, None}
use Rattle.std.specs.List.{flat_map}
use Rattle.device_tree.specs.StepTree.{StepTree}
use Rattle.code_check.specs.declared.fault.FaultKind.{FaultKind}
use Rattle.sequence_trees.specs.declared.spot.Part.{Part}
use Rattle.sequence_trees.specs.declared.spot.Spot.{Spot}
use Rattle.sequence_trees.specs.Parts.{part_word}
use Rattle.sequence_resolve.specs.declared.entry.SeqEntry.{SeqEntry}
use Rattle.sequence_resolve.specs.declared.entry.SeqSet.{SeqSet}
use Rattle.text_lines.specs.Shown.{shown_text, dotted_numbers, place_words}
use Rattle.check_lines.specs.Words.{level_word, kind_word, disabled_word}
use Rattle.check_lines.specs.Counts.{block_count, control_count, atomic_count}

-- ---- a valid set

-- the line with the number of sequences
abbrev pub head_line : ℕ → List ℕ
head_line sequences = codes "check ok sequences " ++ decimal sequences ++ codes "\n"

-- how many blocks, controls and atomic blocks the steps have, at all depths
abbrev pub counts_words : StepTree → List ℕ
counts_words steps =
    codes " blocks " ++ decimal (block_count steps) ++ codes " controls " ++ decimal (control_count steps) ++ codes " atomic " ++ decimal (atomic_count steps)

-- a sequence: its name, its level, its counts, and whether it is disabled
abbrev pub sequence_line : SeqEntry → List ℕ
sequence_line e =
    codes "sequence " ++ shown_text e.name ++ codes " from " ++ level_word e.from ++ counts_words e.steps ++ disabled_word e.disabled ++ codes "\n"

-- the number of sequences, and then a line for each in the set's order
abbrev pub check_lines : SeqSet → List (List ℕ)
check_lines set = head_line (length set.entries) ∷ map sequence_line set.entries

-- the text of a valid set: its lines, one after another
abbrev pub check_text : SeqSet → List ℕ
check_text set = flat_map (λ line. line) (check_lines set)

-- ---- a fault

-- the name of a sequence, the numbers of a step in it, and a part of the step
abbrev pub step_words : List ℕ → List ℕ → Part → List ℕ
step_words name path part = codes " " ++ shown_text name ++ codes " " ++ dotted_numbers path ++ codes " " ++ part_word part

-- the sequence, the step and its part, or the debug variables, which belong to no sequence
abbrev pub where_words : Option (List ℕ) → List ℕ → Part → List ℕ
where_words None path part = codes " debugvars"
where_words (Some name) path part = step_words name path part

-- what is wrong, and where
abbrev pub fault_words : FaultKind → Spot → List ℕ
fault_words kind spot = kind_word kind ++ where_words spot.sequence spot.path spot.part ++ place_words spot.place

-- the line of a refused set: what is wrong, and where
abbrev pub fault_line : FaultKind → Spot → List ℕ
fault_line kind spot =
    codes "refused check " ++ kind_word kind ++ where_words spot.sequence spot.path spot.part ++ place_words spot.place ++ codes "\n"
