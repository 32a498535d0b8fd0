-- The values and the logs of warnings have no number with a point.
use Rattle.std.proofs.Common.{◌≡◌, ℕ, false, List, [], ◌∷◌, ◌++◌, map, slice_get, codes, Option, None, Some, Result, String, string_bytes, refl, ap, subst, ◌∙◌}
use Rattle.std.specs.Prelude.{IfOk, length}
use Rattle.std.specs.declared.alloc.Global.{Global}
use Rattle.std.proofs.lemmas.Bool.{or_from}
use Rattle.serde_json.specs.Data.{Data, string, object, Members, no_members, put}
use Rattle.serde_json.specs.View.{items_of}
use Rattle.serde_json.specs.Written.{has_float, items_have_float, members_have_float, compact_text}
use Rattle.sequence_trees.specs.declared.spot.Spot.{Spot}
use Rattle.set_warnings.specs.declared.warning.WarningKind.{WarningKind}
use Rattle.pack_faults.specs.declared.request.SetName.{SetName}
use Rattle.pack_faults.specs.declared.answer.PackFaults.{PackFaults}
use Rattle.pack_warnings.specs.declared.answer.FoundWarning.{FoundWarning}
use Rattle.pack_warnings.specs.declared.answer.PackWarning.{PackWarning}
use Rattle.fault_lines.specs.WarningText.{warning_kind_word, warning_message}
use Rattle.fault_json.specs.Parts.{count, list, text_or_null}
use Rattle.fault_json.specs.FaultsJson.{data_if, for_data, with_step, fault_data}
use Rattle.fault_json.specs.SarifLog.{line_text, all_kinds, rule_data, with_physical, result_data}
use Rattle.fault_json.specs.WarningsJson.{with_kind, with_warning_place, warning_data, warned_data, warned_json}
use Rattle.fault_json.specs.WarningsSarif.{all_warning_kinds, warning_rule, all_rules, warned_tool, name_along, warning_logical, warning_location, warning_message_data, warning_result, all_results, warned_run, warned_log, warned_sarif}
use Rattle.fault_json.proofs.NoFloats.{no_floats, each, text_has_none, step_has_none, set_has_none, fault_has_none}
use Rattle.fault_json.proofs.SarifFloats.{one, only, place_has_none, rule_of_kind, result_has_none}

-- a list, and then another
both : {X Y : Type 0} (f : X → Data) (g : Y → Data) → ((x : X) → has_float (f x) ≡ false) → ((y : Y) → has_float (g y) ≡ false) → (xs : List X) (ys : List Y)
    → items_have_float (items_of (map f xs ++ map g ys)) ≡ false
both f g none other [] ys = each g other ys
both f g none other (x ∷ xs) ys = or_from (has_float (f x)) (items_have_float (items_of (map f xs ++ map g ys))) (none x) (both f g none other xs ys)

-- ---- the value

kind_has_none : (found : FoundWarning) (ms : Members) → members_have_float ms ≡ false → members_have_float (with_kind found ms) ≡ false
kind_has_none found ms others =
    no_floats ((codes "kind", string (warning_kind_word found.warning.kind)) ∷ (codes "name", text_or_null found.warning.name) ∷ []) ms (refl, (text_has_none found.warning.name, tt)) others

warning_place_has_none : (found : FoundWarning) (ms : Members) → members_have_float ms ≡ false → members_have_float (with_warning_place found ms) ≡ false
warning_place_has_none found ms others =
    no_floats ((codes "line", count found.warning.spot.place.line) ∷ (codes "column", count found.warning.spot.place.column) ∷ (codes "text", text_or_null found.line) ∷ []) ms
    (refl, (refl, (text_has_none found.line, tt))) others

warning_has_none : (sets : List SetName) (w : PackWarning) → has_float (warning_data sets w) ≡ false
warning_has_none sets w =
    let what = kind_has_none w.found no_members refl in
    let step = step_has_none w.found.warning.spot (with_kind w.found no_members) what in
    let place = warning_place_has_none w.found (with_step w.found.warning.spot (with_kind w.found no_members)) step in
    no_floats ((codes "for", for_data sets w.sets) ∷ []) (with_warning_place w.found (with_step w.found.warning.spot (with_kind w.found no_members)))
    (each (λ place. data_if (slice_get sets place)) (λ place. set_has_none (slice_get sets place)) w.sets, tt) place

warned_have_none : (p : PackFaults) (warnings : List PackWarning) → has_float (warned_data p warnings) ≡ false
warned_have_none p warnings =
    no_floats ((codes "faults", list (map (fault_data p.sets) p.faults)) ∷ (codes "warnings", list (map (warning_data p.sets) warnings)) ∷ (codes "devices", count p.devices)
    ∷ (codes "sets", count (length p.sets)) ∷ (codes "names_not_checked", count p.unread) ∷ (codes "calls_not_all_checked", count p.unreached) ∷ []) no_members
    (each (fault_data p.sets) (fault_has_none p.sets) p.faults, (each (warning_data p.sets) (warning_has_none p.sets) warnings, (refl, (refl, (refl, (refl, tt)))))) refl

-- the line of the value of faults and warnings
pub warned_line : {E : Type 0} (p : PackFaults) (warnings : List PackWarning) (d : Data) (r : Result (String Global) E) → d ≡ warned_data p warnings
    → (has_float d ≡ false → IfOk r (λ text. string_bytes text ≡ compact_text d ++ codes "\n")) → IfOk r (λ text. string_bytes text ≡ warned_json p warnings)
warned_line p warnings d r is text =
    subst (λ (e : Data). IfOk r (λ text. string_bytes text ≡ compact_text e ++ codes "\n")) is (text (ap has_float is ∙ warned_have_none p warnings))

-- ---- the log

rule_of_warning : (kind : WarningKind) → has_float (warning_rule kind) ≡ false
rule_of_warning kind = only (codes "id") (string (warning_kind_word kind)) refl

tool_has_none : has_float warned_tool ≡ false
tool_has_none =
    only (codes "driver") (object (put (codes "rules") (list all_rules) (put (codes "name") (string (codes "dapseq_faults")) no_members)))
    (no_floats ((codes "name", string (codes "dapseq_faults")) ∷ (codes "rules", list all_rules) ∷ []) no_members
    (refl, (both rule_data warning_rule rule_of_kind rule_of_warning all_kinds all_warning_kinds, tt)) refl)

logical_has_none : (spot : Spot) → has_float (warning_logical spot) ≡ false
logical_has_none spot = only (codes "fullyQualifiedName") (line_text (name_along spot.path spot)) refl

location_has_none : (found : FoundWarning) → has_float (warning_location found) ≡ false
location_has_none found =
    place_has_none found.line found.warning.spot.place (put (codes "logicalLocations") (list (warning_logical found.warning.spot ∷ [])) no_members)
    (no_floats ((codes "logicalLocations", list (warning_logical found.warning.spot ∷ [])) ∷ []) no_members
    (one (warning_logical found.warning.spot) (logical_has_none found.warning.spot), tt) refl)

result_of_warning : (sets : List SetName) (w : PackWarning) → has_float (warning_result sets w) ≡ false
result_of_warning sets w =
    no_floats ((codes "ruleId", string (warning_kind_word w.found.warning.kind)) ∷ (codes "level", string (codes "warning")) ∷ (codes "message", warning_message_data sets w)
    ∷ (codes "locations", list (warning_location w.found ∷ [])) ∷ []) no_members
    (refl, (refl, (only (codes "text") (line_text (warning_message sets w)) refl, (one (warning_location w.found) (location_has_none w.found), tt)))) refl

run_has_none : (p : PackFaults) (warnings : List PackWarning) → has_float (warned_run p warnings) ≡ false
run_has_none p warnings =
    no_floats ((codes "tool", warned_tool) ∷ (codes "results", list (all_results p warnings)) ∷ (codes "columnKind", string (codes "unicodeCodePoints")) ∷ []) no_members
    (tool_has_none, (both (result_data p.sets) (warning_result p.sets) (result_has_none p.sets) (result_of_warning p.sets) p.faults warnings, (refl, tt))) refl

log_has_none : (p : PackFaults) (warnings : List PackWarning) → has_float (warned_log p warnings) ≡ false
log_has_none p warnings =
    no_floats ((codes "$schema", string (codes "https://json.schemastore.org/sarif-2.1.0.json")) ∷ (codes "version", string (codes "2.1.0"))
    ∷ (codes "runs", list (warned_run p warnings ∷ [])) ∷ []) no_members
    (refl, (refl, (one (warned_run p warnings) (run_has_none p warnings), tt))) refl

-- the line of the log of faults and warnings
pub log_line : {E : Type 0} (p : PackFaults) (warnings : List PackWarning) (d : Data) (r : Result (String Global) E) → d ≡ warned_log p warnings
    → (has_float d ≡ false → IfOk r (λ text. string_bytes text ≡ compact_text d ++ codes "\n")) → IfOk r (λ text. string_bytes text ≡ warned_sarif p warnings)
log_line p warnings d r is text =
    subst (λ (e : Data). IfOk r (λ text. string_bytes text ≡ compact_text e ++ codes "\n")) is (text (ap has_float is ∙ log_has_none p warnings))
