-- What distinguishes warnings, and where each is in a list: what private contracts cite.
use Rattle.std.specs.Prelude.{◌≡◌, ℕ, suc, ◌==◌, ◌&&◌, Bool, List, [], ◌∷◌, Option, None, Some, option_map, slice_index_or, slice_set, if◌then◌else◌}
use Rattle.std.specs.declared.cmp.Ordering.{Ordering}
use Rattle.std.specs.BTreeMap.{BTreeMap, get}
use Rattle.std.specs.Str.{bytes_eq}
use Rattle.device_tree.specs.Same.{same_text}
use Rattle.pack_faults.specs.Steps.{numbers_with}
use Rattle.pack_warnings.specs.declared.answer.FoundWarning.{FoundWarning}
use Rattle.pack_warnings.specs.declared.answer.PackWarning.{PackWarning}
use Rattle.pack_warnings.specs.declared.keys.WarningKey.{WarningKey}
use Rattle.pack_warnings.specs.contracts.keys.WarningKeyOrd.TheImpl as key_ord
use Rattle.pack_warnings.specs.Merged.{kind_number}
use Rattle.sequence_trees.specs.Parts.{part_rank}

-- what distinguishes warnings
pub record WarningKeyView : Type 0 where
  pub kind : ℕ
  pub sequence : Option (List ℕ)
  pub path : List ℕ
  pub part : ℕ
  pub line : ℕ
  pub column : ℕ
  pub name : Option (List ℕ)
  pub text : Option (List ℕ)

-- all of it is the same
abbrev pub same_warning_view : WarningKeyView → WarningKeyView → Bool
same_warning_view v w = v.kind == w.kind && ((same_text v.sequence w.sequence && (bytes_eq v.path w.path && (v.part == w.part
    && (v.line == w.line && v.column == w.column)))) && (same_text v.name w.name && same_text v.text w.text))

-- what distinguishes this warning: its kind, its spot, its name, and the line in which it is
abbrev pub warning_found_view : FoundWarning → WarningKeyView
warning_found_view f = record {
  kind = kind_number f.warning.kind;
  sequence = f.warning.spot.sequence;
  path = f.warning.spot.path;
  part = part_rank f.warning.spot.part;
  line = f.warning.spot.place.line;
  column = f.warning.spot.place.column;
  name = f.warning.name;
  text = f.line;
}

-- a key, without where its texts lie in memory
abbrev pub warning_key_view : WarningKey → WarningKeyView
warning_key_view k = record {
  kind = k.kind;
  sequence = option_map (λ w. w.now) k.sequence;
  path = k.path.now;
  part = k.part;
  line = k.line;
  column = k.column;
  name = option_map (λ w. w.now) k.name;
  text = option_map (λ w. w.now) k.text;
}

-- the order of keys
abbrev pub warning_key_cmp : WarningKey → WarningKey → Ordering
warning_key_cmp = (key_ord.ghosts).cmp

-- the place of the first that is so
abbrev pub place_in_warnings : WarningKeyView → List PackWarning → Option ℕ
place_in_warnings v [] = None
place_in_warnings v (p ∷ ps) = if same_warning_view v (warning_found_view p.found) then Some 0 else option_map (λ i. suc i) (place_in_warnings v ps)

-- the map has the place of each
abbrev pub KnowsWarningPlaces : BTreeMap WarningKey ℕ → List PackWarning → Type 0
KnowsWarningPlaces places warnings = (key : WarningKey) → get warning_key_cmp places key ≡ place_in_warnings (warning_key_view key) warnings

-- the list with the number of a set noted at this place; `other` counts for nothing where the list has the place
abbrev pub warning_noted_at : ℕ → List PackWarning → ℕ → PackWarning → List PackWarning
warning_noted_at number warnings place other =
    slice_set warnings place (record { found = (slice_index_or warnings place other).found; sets = numbers_with number (slice_index_or warnings place other).sets })
