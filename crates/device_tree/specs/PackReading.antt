-- Reading a pack: its levels and their sequences, by the names of the Open-CMSIS-Pack device description.
use Rattle.std.specs.Prelude.{codes, false, [], None, Result, Ok}
use Rattle.serde_json.specs.Data.{Data}
use Rattle.json_form.specs.declared.fault.JobFault.{JobFault}
use Rattle.dap_base.specs.Outcome.{◌>>=◌}
use Rattle.json_form.specs.Reading.{text, flag, only_keys, required_value, optional, or_else, list_of, alone, never, repeats_by}
use Rattle.device_tree.specs.Keys.{sequence_keys, level_keys, variant_keys, device_keys, sub_family_keys, family_keys, pack_keys}
use Rattle.device_tree.specs.StepsReading.{steps_in}
use Rattle.device_tree.specs.Same.{same_sequence, same_variant}
use Rattle.device_tree.specs.declared.pack.SeqText.{SeqText}
use Rattle.device_tree.specs.declared.pack.Level.{Level}
use Rattle.device_tree.specs.declared.pack.Variant.{Variant}
use Rattle.device_tree.specs.declared.pack.Device.{Device}
use Rattle.device_tree.specs.declared.pack.SubFamily.{SubFamily}
use Rattle.device_tree.specs.declared.pack.Family.{Family}
use Rattle.device_tree.specs.declared.pack.Pack.{Pack}

-- ---- sequences

-- an item of `sequences`: a debug access sequence; its `info` has to be a text, and is not kept
unfoldable pub sequence_in : Data → Result SeqText JobFault
sequence_in d = do
  known ← only_keys sequence_keys d
  name ← required_value (codes "name") text d
  pname ← optional (codes "Pname") text d
  disable ← or_else (codes "disable") flag false d
  info ← optional (codes "info") text d
  steps ← required_value (codes "steps") steps_in d
  Ok (record { name = name; pname = pname; disable = disable; steps = steps })

-- the keys of a level, in the object that holds it
unfoldable pub level_in : Data → Result Level JobFault
level_in d = do
  debugvars ← optional (codes "debugvars") text d
  sequences ← or_else (codes "sequences") (list_of None (alone sequence_in) (repeats_by same_sequence)) [] d
  Ok (record { debugvars = debugvars; sequences = sequences })

-- ---- levels

-- the value of `defaults`: the level above all families
unfoldable pub defaults_in : Data → Result Level JobFault
defaults_in d = do
  known ← only_keys level_keys d
  level_in d

-- an item of `variants`: a variant with its level
unfoldable pub variant_in : Data → Result Variant JobFault
variant_in d = do
  known ← only_keys variant_keys d
  name ← required_value (codes "Dvariant") text d
  own ← level_in d
  Ok (record { name = name; level = own })

-- an item of `devices`: a device with its level and its variants
unfoldable pub device_in : Data → Result Device JobFault
device_in d = do
  known ← only_keys device_keys d
  name ← required_value (codes "Dname") text d
  own ← level_in d
  variants ← or_else (codes "variants") (list_of None (alone variant_in) (repeats_by same_variant)) [] d
  Ok (record { name = name; level = own; variants = variants })

-- an item of `subFamilies`: a subfamily with its level and its devices
unfoldable pub sub_family_in : Data → Result SubFamily JobFault
sub_family_in d = do
  known ← only_keys sub_family_keys d
  name ← required_value (codes "DsubFamily") text d
  own ← level_in d
  devices ← or_else (codes "devices") (list_of None (alone device_in) never) [] d
  Ok (record { name = name; level = own; devices = devices })

-- an item of `families`: a family with its level, its subfamilies and its devices
unfoldable pub family_in : Data → Result Family JobFault
family_in d = do
  known ← only_keys family_keys d
  name ← required_value (codes "Dfamily") text d
  own ← level_in d
  subs ← or_else (codes "subFamilies") (list_of None (alone sub_family_in) never) [] d
  devices ← or_else (codes "devices") (list_of None (alone device_in) never) [] d
  Ok (record { name = name; level = own; sub_families = subs; devices = devices })

-- the value of `pack`: the level `defaults`, if there is one, and the families
unfoldable pub pack_in : Data → Result Pack JobFault
pack_in d = do
  known ← only_keys pack_keys d
  top ← optional (codes "defaults") defaults_in d
  families ← required_value (codes "families") (list_of None (alone family_in) never) d
  Ok (record { defaults = top; families = families })
