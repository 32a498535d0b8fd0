-- The faults of a pack as a log of SARIF 2.1.0.
use Rattle.std.specs.Prelude.{ℕ, List, [], ◌∷◌, ◌++◌, map, codes, Option, None, Some}
use Rattle.std.specs.Str.Lossy.{utf8_lossy}
use Rattle.serde_json.specs.Data.{Data, string, object, Members, no_members, put}
use Rattle.serde_json.specs.Written.{compact_text}
use Rattle.dap_base.specs.declared.text.Place.{Place}
use Rattle.code_check.specs.declared.fault.FaultKind.{FaultKind}
use Rattle.code_check.specs.declared.fault.FaultKind.TheVariants as k
use Rattle.sequence_trees.specs.declared.spot.Part.{Part}
use Rattle.sequence_trees.specs.declared.spot.Spot.{Spot}
use Rattle.text_lines.specs.Shown.{shown_text, dotted_numbers}
use Rattle.check_lines.specs.Words.{kind_word}
use Rattle.sequence_trees.specs.Parts.{part_word}
use Rattle.pack_faults.specs.declared.request.SetName.{SetName}
use Rattle.pack_faults.specs.declared.answer.Found.{Found}
use Rattle.pack_faults.specs.declared.answer.PackFault.{PackFault}
use Rattle.pack_faults.specs.declared.answer.PackFaults.{PackFaults}
use Rattle.fault_lines.specs.FaultText.{message_words}
use Rattle.fault_json.specs.Parts.{count, list}
use Rattle.fault_json.specs.Columns.{character_column}

-- an object with one member
abbrev pub one_member : List ℕ → Data → Data
one_member key d = object (put key d no_members)

-- bytes of a line as a text
abbrev pub line_text : List ℕ → Data
line_text line = string (utf8_lossy line)

-- ---- the program

-- all kinds of faults
abbrev pub all_kinds : List FaultKind
all_kinds =
    k.Syntax ∷ k.UndefinedName ∷ k.Redeclared ∷ k.UndefinedSequence ∷ k.UndefinedFunction ∷ k.ArgumentCount ∷ k.TextExpected ∷ k.NumberExpected
    ∷ k.FormatMismatch ∷ k.BadDebugvars ∷ k.UnboundedLoop ∷ k.TimeoutTooLong ∷ k.NestedTooDeep ∷ k.CallCycle ∷ k.CallsTooDeep ∷ []

-- a rule for each kind of fault, named as it
abbrev pub rule_data : FaultKind → Data
rule_data kind = one_member (codes "id") (string (kind_word kind))

-- the program: its name, and a rule for each kind of fault
abbrev pub tool_data : Data
tool_data = one_member (codes "driver") (object (put (codes "rules") (list (map rule_data all_kinds)) (put (codes "name") (string (codes "dapseq_faults")) no_members)))

-- ---- where a fault is

-- the sequence, the step and its part, or the debug variables
abbrev pub step_name : Option (List ℕ) → List ℕ → Part → List ℕ
step_name None path part = codes "debugvars"
step_name (Some name) path part = shown_text name ++ codes " " ++ dotted_numbers path ++ codes " " ++ part_word part

-- a place in the pack, by its name: the sequence, the step and its part, or the debug variables
abbrev pub logical_data : Spot → Data
logical_data spot = one_member (codes "fullyQualifiedName") (line_text (step_name spot.sequence spot.path spot.part))

-- a place in this line; its column counts characters from 1
abbrev pub region_data : List ℕ → Place → Data
region_data line place = object (put (codes "startColumn") (count (character_column line place.column)) (put (codes "startLine") (count place.line) no_members))

-- a place in a text of the job, which is read from standard input and has no file
abbrev pub physical_data : List ℕ → Place → Data
physical_data line place =
    object (put (codes "region") (region_data line place) (put (codes "artifactLocation") (one_member (codes "uri") (string (codes "job.json"))) no_members))

-- the members, with the place, where there is one in a text
abbrev pub with_physical : Option (List ℕ) → Place → Members → Members
with_physical None place ms = ms
with_physical (Some line) place ms = put (codes "physicalLocation") (physical_data line place) ms

-- where a fault is: in the pack, and in a text of the job where it has a line there
abbrev pub location_data : Found → Data
location_data found = object (with_physical found.line found.fault.spot.place (put (codes "logicalLocations") (list (logical_data found.fault.spot ∷ [])) no_members))

-- ---- the log

-- the members, with the rule and the level
abbrev pub with_rule : Found → Members → Members
with_rule found ms = put (codes "level") (string (codes "error")) (put (codes "ruleId") (string (kind_word found.fault.kind)) ms)

-- what is wrong, where, and in which sets
abbrev pub message_data : List SetName → PackFault → Data
message_data sets f = one_member (codes "text") (line_text (message_words sets f))

-- a fault, with these sets
abbrev pub result_data : List SetName → PackFault → Data
result_data sets f = object (put (codes "locations") (list (location_data f.found ∷ [])) (put (codes "message") (message_data sets f) (with_rule f.found no_members)))

-- one run of the program; its columns count characters
abbrev pub run_data : PackFaults → Data
run_data p = object (put (codes "columnKind") (string (codes "unicodeCodePoints"))
    (put (codes "results") (list (map (result_data p.sets) p.faults)) (put (codes "tool") tool_data no_members)))

-- the log: its schema, its version, and one run
abbrev pub sarif_data : PackFaults → Data
sarif_data p = object (put (codes "runs") (list (run_data p ∷ []))
    (put (codes "version") (string (codes "2.1.0")) (put (codes "$schema") (string (codes "https://json.schemastore.org/sarif-2.1.0.json")) no_members)))

-- its text, in a line
abbrev pub faults_sarif : PackFaults → List ℕ
faults_sarif p = compact_text (sarif_data p) ++ codes "\n"
