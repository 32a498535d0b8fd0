-- The faults and the warnings of a pack as a log of SARIF 2.1.0.
use Rattle.std.specs.Prelude.{ℕ, List, [], ◌∷◌, ◌++◌, map, codes, Option, None, Some}
use Rattle.serde_json.specs.Data.{Data, string, object, Members, no_members, put}
use Rattle.serde_json.specs.Written.{compact_text}
use Rattle.sequence_trees.specs.declared.spot.Spot.{Spot}
use Rattle.text_lines.specs.Shown.{shown_text}
use Rattle.set_warnings.specs.declared.warning.WarningKind.{WarningKind}
use Rattle.set_warnings.specs.declared.warning.WarningKind.TheVariants as k
use Rattle.pack_faults.specs.declared.request.SetName.{SetName}
use Rattle.pack_faults.specs.declared.answer.PackFaults.{PackFaults}
use Rattle.pack_warnings.specs.declared.answer.FoundWarning.{FoundWarning}
use Rattle.pack_warnings.specs.declared.answer.PackWarning.{PackWarning}
use Rattle.fault_lines.specs.WarningText.{warning_kind_word, warning_message}
use Rattle.fault_json.specs.Parts.{list}
use Rattle.fault_json.specs.SarifLog.{one_member, line_text, all_kinds, rule_data, step_name, with_physical, result_data}

-- ---- the program

-- all kinds of warnings
abbrev pub all_warning_kinds : List WarningKind
all_warning_kinds = k.AssignedDebugVariable ∷ k.WaitByName ∷ k.UncalledSequence ∷ k.LongWait ∷ []

-- a rule for each kind of warning, named as it
abbrev pub warning_rule : WarningKind → Data
warning_rule kind = one_member (codes "id") (string (warning_kind_word kind))

-- the rules of faults, and then those of warnings
abbrev pub all_rules : List Data
all_rules = map rule_data all_kinds ++ map warning_rule all_warning_kinds

-- the program: its name, and a rule for each kind of fault and of warning
abbrev pub warned_tool : Data
warned_tool = one_member (codes "driver") (object (put (codes "rules") (list all_rules) (put (codes "name") (string (codes "dapseq_faults")) no_members)))

-- ---- where a warning is

-- a sequence itself
abbrev pub sequence_name : Option (List ℕ) → List ℕ
sequence_name None = []
sequence_name (Some name) = shown_text name

-- the sequence, the step and its part; of a sequence itself, which no path leads into, its name
abbrev pub name_along : List ℕ → Spot → List ℕ
name_along [] spot = sequence_name spot.sequence
name_along (n ∷ path) spot = step_name spot.sequence spot.path spot.part

-- a place in the pack, by its name: the sequence, the step and its part, or a sequence itself
abbrev pub warning_logical : Spot → Data
warning_logical spot = one_member (codes "fullyQualifiedName") (line_text (name_along spot.path spot))

-- what a warning is of: a place in the pack, and in a text of the job where it has a line there
abbrev pub warning_location : FoundWarning → Data
warning_location found =
    object (with_physical found.line found.warning.spot.place (put (codes "logicalLocations") (list (warning_logical found.warning.spot ∷ [])) no_members))

-- ---- the log

-- the members, with the rule and the level
abbrev pub with_warning_rule : FoundWarning → Members → Members
with_warning_rule found ms = put (codes "level") (string (codes "warning")) (put (codes "ruleId") (string (warning_kind_word found.warning.kind)) ms)

-- what is warned of, where, and in which sets
abbrev pub warning_message_data : List SetName → PackWarning → Data
warning_message_data sets w = one_member (codes "text") (line_text (warning_message sets w))

-- a warning, with these sets
abbrev pub warning_result : List SetName → PackWarning → Data
warning_result sets w = object (put (codes "locations") (list (warning_location w.found ∷ []))
    (put (codes "message") (warning_message_data sets w) (with_warning_rule w.found no_members)))

-- the results of faults, and then those of warnings
abbrev pub all_results : PackFaults → List PackWarning → List Data
all_results p warnings = map (result_data p.sets) p.faults ++ map (warning_result p.sets) warnings

-- one run of the program; its columns count characters
abbrev pub warned_run : PackFaults → List PackWarning → Data
warned_run p warnings = object (put (codes "columnKind") (string (codes "unicodeCodePoints"))
    (put (codes "results") (list (all_results p warnings)) (put (codes "tool") warned_tool no_members)))

-- the log: its schema, its version, and one run
abbrev pub warned_log : PackFaults → List PackWarning → Data
warned_log p warnings = object (put (codes "runs") (list (warned_run p warnings ∷ []))
    (put (codes "version") (string (codes "2.1.0")) (put (codes "$schema") (string (codes "https://json.schemastore.org/sarif-2.1.0.json")) no_members)))

-- its text, in a line
abbrev pub warned_sarif : PackFaults → List PackWarning → List ℕ
warned_sarif p warnings = compact_text (warned_log p warnings) ++ codes "\n"
