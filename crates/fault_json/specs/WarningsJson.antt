-- The faults and the warnings of a pack as a JSON value.
use Rattle.std.specs.Prelude.{ℕ, List, ◌++◌, map, codes}
use Rattle.serde_json.specs.Data.{Data, string, object, Members, no_members, put}
use Rattle.serde_json.specs.Written.{compact_text}
use Rattle.pack_faults.specs.declared.request.SetName.{SetName}
use Rattle.pack_faults.specs.declared.answer.PackFaults.{PackFaults}
use Rattle.pack_warnings.specs.declared.answer.FoundWarning.{FoundWarning}
use Rattle.pack_warnings.specs.declared.answer.PackWarning.{PackWarning}
use Rattle.fault_lines.specs.WarningText.{warning_kind_word}
use Rattle.fault_json.specs.Parts.{count, list, text_or_null}
use Rattle.fault_json.specs.FaultsJson.{for_data, with_step, fault_data, with_checked, with_unchecked}

-- the members, with what a warning is of and the name that it is about
abbrev pub with_kind : FoundWarning → Members → Members
with_kind found ms = put (codes "name") (text_or_null found.warning.name) (put (codes "kind") (string (warning_kind_word found.warning.kind)) ms)

-- the members, with line and column, and the text of the line
abbrev pub with_warning_place : FoundWarning → Members → Members
with_warning_place found ms = put (codes "text") (text_or_null found.line)
    (put (codes "column") (count found.warning.spot.place.column) (put (codes "line") (count found.warning.spot.place.line) ms))

-- a warning, with these sets
abbrev pub warning_data : List SetName → PackWarning → Data
warning_data sets w =
    object (put (codes "for") (for_data sets w.sets) (with_warning_place w.found (with_step w.found.warning.spot (with_kind w.found no_members))))

-- the faults, the warnings and the counts
abbrev pub warned_data : PackFaults → List PackWarning → Data
warned_data p warnings = object (with_unchecked p (with_checked p
    (put (codes "warnings") (list (map (warning_data p.sets) warnings)) (put (codes "faults") (list (map (fault_data p.sets) p.faults)) no_members))))

-- its text, in a line
abbrev pub warned_json : PackFaults → List PackWarning → List ℕ
warned_json p warnings = compact_text (warned_data p warnings) ++ codes "\n"
