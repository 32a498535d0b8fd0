-- The values of faults have no number with a point.
use Rattle.std.proofs.Common.{◌≡◌, ℕ, Bool, true, false, ◌||◌, List, [], ◌∷◌, ◌++◌, map, slice_get, codes, Option, None, Some, Result, String, string_bytes, refl, ap, subst, ◌∙◌}
use Rattle.std.specs.Prelude.{IfOk}
use Rattle.std.specs.Ordering.{nat_cmp, match_ordering}
use Rattle.std.specs.declared.cmp.Ordering.TheVariants.{Less, Equal, Greater}
use Rattle.std.specs.declared.alloc.Global.{Global}
use Rattle.std.specs.Cmp.Lexicographic.{slice_cmp}
use Rattle.serde_json.specs.Data.{Data, string, Members, no_members, member, put}
use Rattle.serde_json.specs.View.{items_of}
use Rattle.serde_json.specs.Written.{has_float, items_have_float, members_have_float, compact_text}
use Rattle.check_lines.specs.Words.{kind_word}
use Rattle.sequence_trees.specs.Parts.{part_word}
use Rattle.pack_faults.specs.declared.request.SetName.{SetName}
use Rattle.pack_faults.specs.declared.answer.Found.{Found}
use Rattle.pack_faults.specs.declared.answer.PackFault.{PackFault}
use Rattle.pack_faults.specs.declared.answer.PackFaults.{PackFaults}
use Rattle.sequence_trees.specs.declared.spot.Spot.{Spot}
use Rattle.fault_lines.specs.FaultText.{name_in_found}
use Rattle.std.specs.Prelude.{length}
use Rattle.std.proofs.lemmas.Bool.{or_from}
use Rattle.fault_json.specs.Parts.{count, counts, list, text_or_null, bytes_or_null}
use Rattle.fault_json.specs.FaultsJson.{set_data, data_if, for_data, with_what, with_step, with_place, fault_data, with_unchecked, with_checked, faults_data, faults_json}
use Rattle.seq_check.proofs.OrderLaws.{or_first}

right_of : (a b : Bool) → (a || b) ≡ false → b ≡ false
right_of true true h = h
right_of true false h = refl
right_of false b h = h

-- one member more
with_one : (k : List ℕ) (d : Data) (ms : Members) → has_float d ≡ false → members_have_float ms ≡ false → members_have_float (put k d ms) ≡ false
with_one k d no_members own others = or_from (has_float d) false own refl
with_one k d (member l e ms) own others =
    elim (slice_cmp nat_cmp k l) as (λ o. members_have_float (match_ordering o (member k d (member l e ms)) (member l d ms) (member l e (put k d ms))) ≡ false) [
      | Less ↦ or_from (has_float d) (has_float e || members_have_float ms) own others
      | Equal ↦ or_from (has_float d) (members_have_float ms) own (right_of (has_float e) (members_have_float ms) others)
      | Greater ↦ or_from (has_float e) (members_have_float (put k d ms)) (or_first (has_float e) (members_have_float ms) others) (with_one k d ms own (right_of (has_float e) (members_have_float ms) others))
    ]

-- members that are put one after another
abbrev pub Pairs : Type 0
Pairs = List (List ℕ × Data)

abbrev pub with_all : Pairs → Members → Members
with_all [] ms = ms
with_all (p ∷ more) ms = with_all more (put p.0 p.1 ms)

abbrev pub AllNone : Pairs → Type 0
AllNone [] = Unit {0}
AllNone (p ∷ more) = (has_float p.1 ≡ false) × AllNone more

pub no_floats : (pairs : Pairs) (ms : Members) → AllNone pairs → members_have_float ms ≡ false → members_have_float (with_all pairs ms) ≡ false
no_floats [] ms none others = others
no_floats (p ∷ more) ms none others = no_floats more (put p.0 p.1 ms) none.1 (with_one p.0 p.1 ms none.0 others)

-- a list
pub each : {X : Type 0} (f : X → Data) → ((x : X) → has_float (f x) ≡ false) → (xs : List X) → items_have_float (items_of (map f xs)) ≡ false
each f none [] = refl
each f none (x ∷ xs) = or_from (has_float (f x)) (items_have_float (items_of (map f xs))) (none x) (each f none xs)

pub text_has_none : (t : Option (List ℕ)) → has_float (text_or_null t) ≡ false
text_has_none None = refl
text_has_none (Some t) = refl

bytes_have_none : (t : Option (List ℕ)) → has_float (bytes_or_null t) ≡ false
bytes_have_none None = refl
bytes_have_none (Some t) = refl

pub set_has_none : (s : Option SetName) → has_float (data_if s) ≡ false
set_has_none None = refl
set_has_none (Some s) =
    no_floats ((codes "device", string s.device) ∷ (codes "variant", text_or_null s.variant) ∷ (codes "pname", text_or_null s.pname) ∷ []) no_members
    (refl, (text_has_none s.variant, (text_has_none s.pname, tt))) refl

what_has_none : (found : Found) (ms : Members) → members_have_float ms ≡ false → members_have_float (with_what found ms) ≡ false
what_has_none found ms others =
    no_floats ((codes "kind", string (kind_word found.fault.kind)) ∷ (codes "name", bytes_or_null (name_in_found found)) ∷ []) ms (refl, (bytes_have_none (name_in_found found), tt)) others

pub step_has_none : (spot : Spot) (ms : Members) → members_have_float ms ≡ false → members_have_float (with_step spot ms) ≡ false
step_has_none spot ms others =
    no_floats ((codes "sequence", text_or_null spot.sequence) ∷ (codes "path", counts spot.path) ∷ (codes "part", string (part_word spot.part)) ∷ []) ms
    (text_has_none spot.sequence, (each count (λ n. refl) spot.path, (refl, tt))) others

place_has_none : (found : Found) (ms : Members) → members_have_float ms ≡ false → members_have_float (with_place found ms) ≡ false
place_has_none found ms others =
    no_floats ((codes "line", count found.fault.spot.place.line) ∷ (codes "column", count found.fault.spot.place.column) ∷ (codes "text", text_or_null found.line) ∷ []) ms
    (refl, (refl, (text_has_none found.line, tt))) others

pub fault_has_none : (sets : List SetName) (f : PackFault) → has_float (fault_data sets f) ≡ false
fault_has_none sets f =
    let what = what_has_none f.found no_members refl in
    let step = step_has_none f.found.fault.spot (with_what f.found no_members) what in
    let place = place_has_none f.found (with_step f.found.fault.spot (with_what f.found no_members)) step in
    no_floats ((codes "for", for_data sets f.sets) ∷ []) (with_place f.found (with_step f.found.fault.spot (with_what f.found no_members)))
    (each (λ place. data_if (slice_get sets place)) (λ place. set_has_none (slice_get sets place)) f.sets, tt) place

faults_have_none : (p : PackFaults) → has_float (faults_data p) ≡ false
faults_have_none p =
    no_floats ((codes "faults", list (map (fault_data p.sets) p.faults)) ∷ (codes "devices", count p.devices) ∷ (codes "sets", count (length p.sets))
    ∷ (codes "names_not_checked", count p.unread) ∷ (codes "calls_not_all_checked", count p.unreached) ∷ []) no_members
    (each (fault_data p.sets) (fault_has_none p.sets) p.faults, (refl, (refl, (refl, (refl, tt))))) refl

-- the line of the value of faults
pub json_line : {E : Type 0} (p : PackFaults) (d : Data) (r : Result (String Global) E) → d ≡ faults_data p → (has_float d ≡ false → IfOk r (λ text. string_bytes text ≡ compact_text d ++ codes "\n"))
    → IfOk r (λ text. string_bytes text ≡ faults_json p)
json_line p d r is text = subst (λ (e : Data). IfOk r (λ text. string_bytes text ≡ compact_text e ++ codes "\n")) is (text (ap has_float is ∙ faults_have_none p))
