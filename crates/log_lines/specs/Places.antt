-- Places of a set as text.
use Rattle.std.specs.Prelude.{ℕ, List, [], ◌++◌, codes, Option, Some, None}
use Rattle.dap_base.specs.declared.text.Place.{Place}
use Rattle.sequence_trees.specs.declared.spot.Part.{Part}
use Rattle.sequence_trees.specs.declared.spot.Part.TheVariants as parts
use Rattle.sequence_trees.specs.declared.spot.Spot.{Spot}
use Rattle.sequence_trees.specs.Parts.{part_word}
use Rattle.text_lines.specs.Shown.{shown_text, dotted_numbers, place_words}

-- the sequence and the path of a step; the debug variables have none
abbrev pub step_place_words : Option (List ℕ) → List ℕ → List ℕ
step_place_words None path = []
step_place_words (Some name) path = shown_text name ++ codes " " ++ dotted_numbers path ++ codes " "

-- a place in code; a condition is one expression, and has no place in it
abbrev pub code_place : Part → Place → List ℕ
code_place parts.Debugvars place = place_words place
code_place parts.Block place = place_words place
code_place other place = []

-- a place
abbrev pub spot_words : Spot → List ℕ
spot_words spot = step_place_words spot.sequence spot.path ++ part_word spot.part ++ code_place spot.part spot.place

-- a place in a step of the sequence of this name
abbrev pub spot_in_step : List ℕ → List ℕ → Part → Place → Spot
spot_in_step name path part place = record { sequence = Some name; path = path; part = part; place = place }

-- a place in the debug variables
abbrev pub debug_spot : Place → Spot
debug_spot place = record { sequence = None; path = []; part = parts.Debugvars; place = place }

-- a condition of a step
abbrev pub condition_spot : List ℕ → List ℕ → Part → Spot
condition_spot name path part = spot_in_step name path part (record { line = 1; column = 1 })
