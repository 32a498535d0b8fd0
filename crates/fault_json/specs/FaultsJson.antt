-- The faults of a pack as a JSON value.
use Rattle.std.specs.Prelude.{ℕ, List, ◌++◌, length, map, slice_get, codes, Option, None, Some}
use Rattle.serde_json.specs.Data.{Data, null, string, object, Members, no_members, put}
use Rattle.serde_json.specs.Written.{compact_text}
use Rattle.sequence_trees.specs.declared.spot.Spot.{Spot}
use Rattle.check_lines.specs.Words.{kind_word}
use Rattle.sequence_trees.specs.Parts.{part_word}
use Rattle.pack_faults.specs.declared.request.SetName.{SetName}
use Rattle.pack_faults.specs.declared.answer.Found.{Found}
use Rattle.pack_faults.specs.declared.answer.PackFault.{PackFault}
use Rattle.pack_faults.specs.declared.answer.PackFaults.{PackFaults}
use Rattle.fault_lines.specs.FaultText.{name_in_found}
use Rattle.fault_json.specs.Parts.{count, counts, list, text_or_null, bytes_or_null}

-- a device, and the variant and the processor or null
abbrev pub set_data : SetName → Data
set_data s = object (put (codes "pname") (text_or_null s.pname) (put (codes "variant") (text_or_null s.variant) (put (codes "device") (string s.device) no_members)))

-- the same, where there is such a set
abbrev pub data_if : Option SetName → Data
data_if None = null
data_if (Some s) = set_data s

-- the sets at these places
abbrev pub for_data : List SetName → List ℕ → Data
for_data sets places = list (map (λ place. data_if (slice_get sets place)) places)

-- the members, with what is wrong and the name that it is about
abbrev pub with_what : Found → Members → Members
with_what found ms = put (codes "name") (bytes_or_null (name_in_found found)) (put (codes "kind") (string (kind_word found.fault.kind)) ms)

-- the members, with the sequence, or null in the debug variables, the numbers of the steps, and the part of the step
abbrev pub with_step : Spot → Members → Members
with_step spot ms = put (codes "part") (string (part_word spot.part)) (put (codes "path") (counts spot.path) (put (codes "sequence") (text_or_null spot.sequence) ms))

-- the members, with line and column, and the text of the line
abbrev pub with_place : Found → Members → Members
with_place found ms = put (codes "text") (text_or_null found.line)
    (put (codes "column") (count found.fault.spot.place.column) (put (codes "line") (count found.fault.spot.place.line) ms))

-- a fault, with these sets
abbrev pub fault_data : List SetName → PackFault → Data
fault_data sets f = object (put (codes "for") (for_data sets f.sets) (with_place f.found (with_step f.found.fault.spot (with_what f.found no_members))))

-- the members, with how many sets have names, and calls, that were not checked
abbrev pub with_unchecked : PackFaults → Members → Members
with_unchecked p ms = put (codes "calls_not_all_checked") (count p.unreached) (put (codes "names_not_checked") (count p.unread) ms)

-- the members, with how many devices there are, and how many sets
abbrev pub with_checked : PackFaults → Members → Members
with_checked p ms = put (codes "sets") (count (length p.sets)) (put (codes "devices") (count p.devices) ms)

-- the faults and the counts
abbrev pub faults_data : PackFaults → Data
faults_data p = object (with_unchecked p (with_checked p (put (codes "faults") (list (map (fault_data p.sets) p.faults)) no_members)))

-- its text, in a line
abbrev pub faults_json : PackFaults → List ℕ
faults_json p = compact_text (faults_data p) ++ codes "\n"
