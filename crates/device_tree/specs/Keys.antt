-- The keys that each object of a pack may have, by the names of the Open-CMSIS-Pack device description.
use Rattle.std.specs.Prelude.{ℕ, codes, List, [], ◌∷◌}

-- a `<block>` has its code, `atomic` and `info`
abbrev pub block_keys : List (List ℕ)
block_keys = codes "block" ∷ codes "atomic" ∷ codes "info" ∷ []

-- a `<control>` has its steps, its conditions `if` and `while`, its `timeout` and `info`
abbrev pub control_keys : List (List ℕ)
control_keys = codes "control" ∷ codes "if" ∷ codes "while" ∷ codes "timeout" ∷ codes "info" ∷ []

-- a `<sequence>` has its `name`, the processor that it is for, `disable`, `info` and its steps
abbrev pub sequence_keys : List (List ℕ)
sequence_keys = codes "name" ∷ codes "Pname" ∷ codes "disable" ∷ codes "info" ∷ codes "steps" ∷ []

-- a level, as `defaults`, has its debug variables and its sequences
abbrev pub level_keys : List (List ℕ)
level_keys = codes "debugvars" ∷ codes "sequences" ∷ []

-- a `<variant>` has its `Dvariant` and the keys of a level
abbrev pub variant_keys : List (List ℕ)
variant_keys = codes "Dvariant" ∷ codes "debugvars" ∷ codes "sequences" ∷ []

-- a `<device>` has its `Dname`, the keys of a level, and its variants
abbrev pub device_keys : List (List ℕ)
device_keys = codes "Dname" ∷ codes "debugvars" ∷ codes "sequences" ∷ codes "variants" ∷ []

-- a `<subFamily>` has its `DsubFamily`, the keys of a level, and its devices
abbrev pub sub_family_keys : List (List ℕ)
sub_family_keys = codes "DsubFamily" ∷ codes "debugvars" ∷ codes "sequences" ∷ codes "devices" ∷ []

-- a `<family>` has its `Dfamily`, the keys of a level, its subfamilies and its devices
abbrev pub family_keys : List (List ℕ)
family_keys = codes "Dfamily" ∷ codes "debugvars" ∷ codes "sequences" ∷ codes "subFamilies" ∷ codes "devices" ∷ []

-- a pack has a level `defaults` above all families, and its families
abbrev pub pack_keys : List (List ℕ)
pack_keys = codes "defaults" ∷ codes "families" ∷ []
