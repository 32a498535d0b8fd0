-- The text of the faults of a pack.
use Rattle.std.specs.Prelude.{ℕ, List, [], ◌∷◌, ◌++◌, length, slice_get, codes, decimal, Option, None, Some}
use Rattle.std.specs.List.{flat_map}
use Rattle.code_check.specs.declared.fault.FaultKind.{FaultKind}
use Rattle.code_check.specs.declared.fault.FaultKind.TheVariants as k
use Rattle.text_lines.specs.Shown.{shown_text}
use Rattle.check_lines.specs.CheckLines.{fault_words}
use Rattle.pack_faults.specs.declared.request.SetName.{SetName}
use Rattle.pack_faults.specs.declared.answer.Found.{Found}
use Rattle.pack_faults.specs.declared.answer.PackFault.{PackFault}
use Rattle.pack_faults.specs.declared.answer.PackFaults.{PackFaults}
use Rattle.fault_lines.specs.Source.{name_at_column, quoted_at, called_at, place_lines}
use Rattle.fault_lines.specs.Counted.{counts_line}

-- ---- the name

-- the name that a fault of this kind is about, which begins at its column of the line
abbrev pub name_in : FaultKind → List ℕ → ℕ → Option (List ℕ)
name_in k.UndefinedName line column = Some (name_at_column line column)
name_in k.Redeclared line column = Some (name_at_column line column)
name_in k.UndefinedSequence line column = Some (quoted_at line column)
name_in k.UndefinedFunction line column = Some (name_at_column line column)
name_in k.ArgumentCount line column = Some (name_at_column line column)
name_in k.CallCycle line column = called_at line column
name_in k.CallsTooDeep line column = called_at line column
name_in other line column = None

-- the same in the line of the fault, where it has one
abbrev pub name_if : FaultKind → Option (List ℕ) → ℕ → Option (List ℕ)
name_if kind None column = None
name_if kind (Some line) column = name_in kind line column

-- the name that the fault is about, where it is about one
abbrev pub name_in_found : Found → Option (List ℕ)
name_in_found found = name_if found.fault.kind found.line found.fault.spot.place.column

-- ---- its lines

-- a blank and the name, where there is one
abbrev pub after_blank : Option (List ℕ) → List ℕ
after_blank None = []
after_blank (Some name) = codes " " ++ shown_text name

-- what is wrong, where, and the name that it is about
abbrev pub first_words : Found → List ℕ
first_words found = fault_words found.fault.kind found.fault.spot ++ after_blank (name_in_found found)

-- the first line of a fault
abbrev pub first_line : Found → List ℕ
first_line found = first_words found ++ codes "\n"

-- the line that it stands in and the caret, where there is one
abbrev pub caret_lines : Option (List ℕ) → ℕ → List ℕ
caret_lines None column = []
caret_lines (Some line) column = place_lines line column

-- ---- the sets

-- a device, and the variant and the processor where there is one
abbrev pub set_words : SetName → List ℕ
set_words set = shown_text set.device ++ after_blank set.variant ++ after_blank set.pname

-- the same, where there is such a set
abbrev pub words_if : Option SetName → List ℕ
words_if None = []
words_if (Some set) = set_words set

-- the set at this place
abbrev pub set_words_at : List SetName → ℕ → List ℕ
set_words_at sets place = words_if (slice_get sets place)

-- how many there are more
abbrev pub more_words : List ℕ → List ℕ
more_words [] = []
more_words (place ∷ places) = codes " and " ++ decimal (length (place ∷ places)) ++ codes " more"

-- the first two of the sets at these places, and how many there are more
abbrev pub for_words : List SetName → List ℕ → List ℕ
for_words sets [] = []
for_words sets (first ∷ []) = set_words_at sets first
for_words sets (first ∷ second ∷ more) = set_words_at sets first ++ codes ", " ++ set_words_at sets second ++ more_words more

-- the line that names the sets in which a fault is
abbrev pub for_line : List SetName → List ℕ → List ℕ
for_line sets places = codes "    for " ++ for_words sets places ++ codes "\n"

-- a fault and its sets in one line
abbrev pub message_words : List SetName → PackFault → List ℕ
message_words sets f = first_words f.found ++ codes " for " ++ for_words sets f.sets

-- ---- the whole

-- the lines of a fault, with the names of these sets
abbrev pub fault_text : List SetName → PackFault → List ℕ
fault_text sets f = first_line f.found ++ caret_lines f.found.line f.found.fault.spot.place.column ++ for_line sets f.sets

-- the line of counts
abbrev pub last_line : PackFaults → List ℕ
last_line p = counts_line (length p.faults) p.devices (length p.sets) p.unread p.unreached

-- the lines of each fault, in order, and then the line of counts
abbrev pub faults_text : PackFaults → List ℕ
faults_text p = flat_map (fault_text p.sets) p.faults ++ last_line p
