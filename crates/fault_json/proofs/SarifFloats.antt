-- The logs of faults have no number with a point.
use Rattle.std.proofs.Common.{◌≡◌, ℕ, false, List, [], ◌∷◌, ◌++◌, map, codes, Option, None, Some, Result, String, string_bytes, refl, ap, subst, ◌∙◌}
use Rattle.std.specs.Prelude.{IfOk}
use Rattle.std.specs.declared.alloc.Global.{Global}
use Rattle.std.proofs.lemmas.Bool.{or_from}
use Rattle.serde_json.specs.Data.{Data, string, object, Members, no_members, put}
use Rattle.serde_json.specs.View.{items_of}
use Rattle.serde_json.specs.Written.{has_float, items_have_float, members_have_float, compact_text}
use Rattle.dap_base.specs.declared.text.Place.{Place}
use Rattle.code_check.specs.declared.fault.FaultKind.{FaultKind}
use Rattle.sequence_trees.specs.declared.spot.Spot.{Spot}
use Rattle.check_lines.specs.Words.{kind_word}
use Rattle.pack_faults.specs.declared.request.SetName.{SetName}
use Rattle.pack_faults.specs.declared.answer.Found.{Found}
use Rattle.pack_faults.specs.declared.answer.PackFault.{PackFault}
use Rattle.pack_faults.specs.declared.answer.PackFaults.{PackFaults}
use Rattle.fault_lines.specs.FaultText.{message_words}
use Rattle.fault_json.specs.Parts.{count, list}
use Rattle.fault_json.specs.Columns.{character_column}
use Rattle.fault_json.specs.SarifLog.{one_member, line_text, step_name, all_kinds, rule_data, tool_data, logical_data, region_data, physical_data, with_physical, location_data, with_rule, message_data, result_data, run_data, sarif_data, faults_sarif}
use Rattle.fault_json.proofs.NoFloats.{no_floats, each}

pub one : (d : Data) → has_float d ≡ false → items_have_float (items_of (d ∷ [])) ≡ false
one d none = or_from (has_float d) false none refl

-- an object with one member
pub only : (key : List ℕ) (d : Data) → has_float d ≡ false → has_float (one_member key d) ≡ false
only key d none = no_floats ((key, d) ∷ []) no_members (none, tt) refl

pub rule_of_kind : (kind : FaultKind) → has_float (rule_data kind) ≡ false
rule_of_kind kind = only (codes "id") (string (kind_word kind)) refl

tool_has_none : has_float tool_data ≡ false
tool_has_none =
    only (codes "driver") (object (put (codes "rules") (list (map rule_data all_kinds)) (put (codes "name") (string (codes "dapseq_faults")) no_members)))
    (no_floats ((codes "name", string (codes "dapseq_faults")) ∷ (codes "rules", list (map rule_data all_kinds)) ∷ []) no_members (refl, (each rule_data rule_of_kind all_kinds, tt)) refl)

logical_has_none : (spot : Spot) → has_float (logical_data spot) ≡ false
logical_has_none spot = only (codes "fullyQualifiedName") (line_text (step_name spot.sequence spot.path spot.part)) refl

region_has_none : (line : List ℕ) (place : Place) → has_float (region_data line place) ≡ false
region_has_none line place =
    no_floats ((codes "startLine", count place.line) ∷ (codes "startColumn", count (character_column line place.column)) ∷ []) no_members (refl, (refl, tt)) refl

physical_has_none : (line : List ℕ) (place : Place) → has_float (physical_data line place) ≡ false
physical_has_none line place =
    no_floats ((codes "artifactLocation", one_member (codes "uri") (string (codes "job.json"))) ∷ (codes "region", region_data line place) ∷ []) no_members
    (only (codes "uri") (string (codes "job.json")) refl, (region_has_none line place, tt)) refl

pub place_has_none : (line : Option (List ℕ)) (place : Place) (ms : Members) → members_have_float ms ≡ false → members_have_float (with_physical line place ms) ≡ false
place_has_none None place ms others = others
place_has_none (Some line) place ms others = no_floats ((codes "physicalLocation", physical_data line place) ∷ []) ms (physical_has_none line place, tt) others

location_has_none : (found : Found) → has_float (location_data found) ≡ false
location_has_none found =
    place_has_none found.line found.fault.spot.place (put (codes "logicalLocations") (list (logical_data found.fault.spot ∷ [])) no_members)
    (no_floats ((codes "logicalLocations", list (logical_data found.fault.spot ∷ [])) ∷ []) no_members (one (logical_data found.fault.spot) (logical_has_none found.fault.spot), tt) refl)

pub result_has_none : (sets : List SetName) (f : PackFault) → has_float (result_data sets f) ≡ false
result_has_none sets f =
    no_floats ((codes "ruleId", string (kind_word f.found.fault.kind)) ∷ (codes "level", string (codes "error")) ∷ (codes "message", message_data sets f)
    ∷ (codes "locations", list (location_data f.found ∷ [])) ∷ []) no_members
    (refl, (refl, (only (codes "text") (line_text (message_words sets f)) refl, (one (location_data f.found) (location_has_none f.found), tt)))) refl

run_has_none : (p : PackFaults) → has_float (run_data p) ≡ false
run_has_none p =
    no_floats ((codes "tool", tool_data) ∷ (codes "results", list (map (result_data p.sets) p.faults)) ∷ (codes "columnKind", string (codes "unicodeCodePoints")) ∷ []) no_members
    (tool_has_none, (each (result_data p.sets) (result_has_none p.sets) p.faults, (refl, tt))) refl

log_has_none : (p : PackFaults) → has_float (sarif_data p) ≡ false
log_has_none p =
    no_floats ((codes "$schema", string (codes "https://json.schemastore.org/sarif-2.1.0.json")) ∷ (codes "version", string (codes "2.1.0"))
    ∷ (codes "runs", list (run_data p ∷ [])) ∷ []) no_members
    (refl, (refl, (one (run_data p) (run_has_none p), tt))) refl

-- the line of the log of faults
pub sarif_line : {E : Type 0} (p : PackFaults) (d : Data) (r : Result (String Global) E) → d ≡ sarif_data p → (has_float d ≡ false → IfOk r (λ text. string_bytes text ≡ compact_text d ++ codes "\n"))
    → IfOk r (λ text. string_bytes text ≡ faults_sarif p)
sarif_line p d r is text = subst (λ (e : Data). IfOk r (λ text. string_bytes text ≡ compact_text e ++ codes "\n")) is (text (ap has_float is ∙ log_has_none p))
