-- What distinguishes faults, and where each is in a list: what private contracts cite.
use Rattle.std.specs.Prelude.{◌≡◌, ℕ, suc, ◌==◌, ◌&&◌, Bool, List, [], ◌∷◌, Option, None, Some, option_map, slice_index_or, slice_set, if◌then◌else◌}
use Rattle.std.specs.declared.cmp.Ordering.{Ordering}
use Rattle.std.specs.BTreeMap.{BTreeMap, get}
use Rattle.std.specs.Str.{bytes_eq}
use Rattle.device_tree.specs.Same.{same_text}
use Rattle.code_check.specs.Order.{rank}
use Rattle.pack_faults.specs.declared.answer.Found.{Found}
use Rattle.pack_faults.specs.declared.answer.PackFault.{PackFault}
use Rattle.pack_faults.specs.declared.keys.FoundKey.{FoundKey}
use Rattle.pack_faults.specs.contracts.keys.FoundKeyOrd.TheImpl as key_ord
use Rattle.pack_faults.specs.Steps.{numbers_with}
use Rattle.sequence_trees.specs.Parts.{part_rank}

-- what distinguishes faults
pub record KeyView : Type 0 where
  pub kind : ℕ
  pub sequence : Option (List ℕ)
  pub path : List ℕ
  pub part : ℕ
  pub line : ℕ
  pub column : ℕ
  pub text : Option (List ℕ)

-- all of it is the same
abbrev pub same_view : KeyView → KeyView → Bool
same_view v w = v.kind == w.kind && ((same_text v.sequence w.sequence && (bytes_eq v.path w.path && (v.part == w.part
    && (v.line == w.line && v.column == w.column)))) && same_text v.text w.text)

-- what distinguishes this fault: its kind, its spot, and the line in which it is
abbrev pub found_view : Found → KeyView
found_view f = record {
  kind = rank f.fault.kind;
  sequence = f.fault.spot.sequence;
  path = f.fault.spot.path;
  part = part_rank f.fault.spot.part;
  line = f.fault.spot.place.line;
  column = f.fault.spot.place.column;
  text = f.line;
}

-- a key, without where its texts lie in memory
abbrev pub key_view : FoundKey → KeyView
key_view k = record {
  kind = k.kind;
  sequence = option_map (λ w. w.now) k.sequence;
  path = k.path.now;
  part = k.part;
  line = k.line;
  column = k.column;
  text = option_map (λ w. w.now) k.text;
}

-- the order of keys
abbrev pub key_cmp : FoundKey → FoundKey → Ordering
key_cmp = (key_ord.ghosts).cmp

-- the place of the first that is so
abbrev pub place_in_faults : KeyView → List PackFault → Option ℕ
place_in_faults v [] = None
place_in_faults v (p ∷ ps) = if same_view v (found_view p.found) then Some 0 else option_map (λ i. suc i) (place_in_faults v ps)

-- the map has the place of each
abbrev pub KnowsFaultPlaces : BTreeMap FoundKey ℕ → List PackFault → Type 0
KnowsFaultPlaces places faults = (key : FoundKey) → get key_cmp places key ≡ place_in_faults (key_view key) faults

-- the list with the number of a set noted at this place; `other` counts for nothing where the list has the place
abbrev pub fault_noted_at : ℕ → List PackFault → ℕ → PackFault → List PackFault
fault_noted_at number faults place other =
    slice_set faults place (record { found = (slice_index_or faults place other).found; sets = numbers_with number (slice_index_or faults place other).sets })
