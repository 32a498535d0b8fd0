-- The text of the faults and the warnings of a pack.
use Rattle.std.specs.Prelude.{ℕ, List, [], ◌∷◌, ◌++◌, length, codes, Option, None, Some}
use Rattle.std.specs.List.{flat_map}
use Rattle.sequence_trees.specs.declared.spot.Spot.{Spot}
use Rattle.text_lines.specs.Shown.{shown_text, place_words}
use Rattle.check_lines.specs.CheckLines.{where_words}
use Rattle.set_warnings.specs.declared.warning.WarningKind.{WarningKind}
use Rattle.set_warnings.specs.declared.warning.WarningKind.TheVariants as k
use Rattle.pack_faults.specs.declared.request.SetName.{SetName}
use Rattle.pack_faults.specs.declared.answer.PackFaults.{PackFaults}
use Rattle.pack_warnings.specs.declared.answer.FoundWarning.{FoundWarning}
use Rattle.pack_warnings.specs.declared.answer.PackWarning.{PackWarning}
use Rattle.fault_lines.specs.Counted.{warned_counts_line}
use Rattle.fault_lines.specs.FaultText.{after_blank, caret_lines, for_words, for_line, fault_text}

-- the name of a kind
abbrev pub warning_kind_word : WarningKind → List ℕ
warning_kind_word k.AssignedDebugVariable = codes "AssignedDebugVariable"
warning_kind_word k.WaitByName = codes "WaitByName"
warning_kind_word k.UncalledSequence = codes "UncalledSequence"
warning_kind_word k.LongWait = codes "LongWait"

-- ---- where it stands

-- the sequence, the step, its part and the place in it; of a sequence itself, which no path leads into, its name alone
abbrev pub words_along : List ℕ → Spot → List ℕ
words_along [] spot = after_blank spot.sequence
words_along (n ∷ path) spot = where_words spot.sequence spot.path spot.part ++ place_words spot.place

-- where a warning is, by the numbers of its step, if it has one
abbrev pub warning_spot_words : Spot → List ℕ
warning_spot_words spot = words_along spot.path spot

-- ---- its lines

-- what it is of, where, and the name that it is about
abbrev pub warning_words : FoundWarning → List ℕ
warning_words found = warning_kind_word found.warning.kind ++ warning_spot_words found.warning.spot ++ after_blank found.warning.name

-- marked as a warning
abbrev pub warning_line : FoundWarning → List ℕ
warning_line found = codes "warning " ++ warning_words found ++ codes "\n"

-- a warning and its sets in one line
abbrev pub warning_message : List SetName → PackWarning → List ℕ
warning_message sets w = warning_words w.found ++ codes " for " ++ for_words sets w.sets

-- the lines of a warning, with the names of these sets
abbrev pub warning_text : List SetName → PackWarning → List ℕ
warning_text sets w = warning_line w.found ++ caret_lines w.found.line w.found.warning.spot.place.column ++ for_line sets w.sets

-- ---- the whole

-- the line of counts, with that of the warnings
abbrev pub warned_line : PackFaults → List PackWarning → List ℕ
warned_line p warnings = warned_counts_line (length p.faults) p.devices (length p.sets) p.unread p.unreached (length warnings)

-- the lines of each warning, in order, and then the line of counts
abbrev pub warnings_text : PackFaults → List PackWarning → List ℕ
warnings_text p warnings = flat_map (warning_text p.sets) warnings ++ warned_line p warnings

-- the lines of each fault, those of each warning, and then the line of counts
abbrev pub warned_text : PackFaults → List PackWarning → List ℕ
warned_text p warnings = flat_map (fault_text p.sets) p.faults ++ warnings_text p warnings
