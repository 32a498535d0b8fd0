-- Which JSON value stands for which pack, said apart from any order of reading.
use Rattle.std.specs.Prelude.{codes, false, [], ◌∷◌, None}
use Rattle.serde_json.specs.Data.{Data}
use Rattle.json_form.specs.Reading.{never, repeats_by}
use Rattle.json_form.specs.Form.{IsText, IsFlag, HasOnly, Has, HasOr, MayHave, MayHaveText, IsListOf, Alone}
use Rattle.device_tree.specs.StepsForm.{IsStepList}
use Rattle.device_tree.specs.Same.{same_sequence, same_variant}
use Rattle.device_tree.specs.declared.pack.SeqText.{SeqText}
use Rattle.device_tree.specs.declared.pack.Level.{Level}
use Rattle.device_tree.specs.declared.pack.Variant.{Variant}
use Rattle.device_tree.specs.declared.pack.Device.{Device}
use Rattle.device_tree.specs.declared.pack.SubFamily.{SubFamily}
use Rattle.device_tree.specs.declared.pack.Family.{Family}
use Rattle.device_tree.specs.declared.pack.Pack.{Pack}

-- the value is an item of `sequences`: a name, the processor that it is for, whether it is disabled, and its steps
pub record IsSequence (d : Data) (s : SeqText) : Type 0 where
  pub known : HasOnly (codes "name" ∷ codes "Pname" ∷ codes "disable" ∷ codes "info" ∷ codes "steps" ∷ []) d
  pub name : Has (codes "name") IsText d s.name
  pub pname : MayHave (codes "Pname") IsText d s.pname
  pub disable : HasOr (codes "disable") IsFlag false d s.disable
  pub info : MayHaveText (codes "info") d
  pub steps : Has (codes "steps") IsStepList d s.steps

-- the keys of a level, in the object that holds it
pub record HasLevel (d : Data) (l : Level) : Type 0 where
  pub debugvars : MayHave (codes "debugvars") IsText d l.debugvars
  pub sequences : HasOr (codes "sequences") (IsListOf None (Alone IsSequence) (repeats_by same_sequence)) [] d l.sequences

-- the value of `defaults` stands for the level above all families
pub record IsDefaults (d : Data) (l : Level) : Type 0 where
  pub known : HasOnly (codes "debugvars" ∷ codes "sequences" ∷ []) d
  pub level : HasLevel d l

-- the value is an item of `variants`: a `Dvariant` with the keys of its level
pub record IsVariant (d : Data) (v : Variant) : Type 0 where
  pub known : HasOnly (codes "Dvariant" ∷ codes "debugvars" ∷ codes "sequences" ∷ []) d
  pub name : Has (codes "Dvariant") IsText d v.name
  pub level : HasLevel d v.level

-- the value is an item of `devices`: a `Dname`, the keys of its level, and variants of different `Dvariant`
pub record IsDevice (d : Data) (x : Device) : Type 0 where
  pub known : HasOnly (codes "Dname" ∷ codes "debugvars" ∷ codes "sequences" ∷ codes "variants" ∷ []) d
  pub name : Has (codes "Dname") IsText d x.name
  pub level : HasLevel d x.level
  pub variants : HasOr (codes "variants") (IsListOf None (Alone IsVariant) (repeats_by same_variant)) [] d x.variants

-- the value is an item of `subFamilies`: a `DsubFamily`, the keys of its level, and devices, whose names may be equal
pub record IsSubFamily (d : Data) (s : SubFamily) : Type 0 where
  pub known : HasOnly (codes "DsubFamily" ∷ codes "debugvars" ∷ codes "sequences" ∷ codes "devices" ∷ []) d
  pub name : Has (codes "DsubFamily") IsText d s.name
  pub level : HasLevel d s.level
  pub devices : HasOr (codes "devices") (IsListOf None (Alone IsDevice) never) [] d s.devices

-- the value is an item of `families`: a `Dfamily`, the keys of its level, subfamilies and devices, whose names may be equal
pub record IsFamily (d : Data) (f : Family) : Type 0 where
  pub known : HasOnly (codes "Dfamily" ∷ codes "debugvars" ∷ codes "sequences" ∷ codes "subFamilies" ∷ codes "devices" ∷ []) d
  pub name : Has (codes "Dfamily") IsText d f.name
  pub level : HasLevel d f.level
  pub sub_families : HasOr (codes "subFamilies") (IsListOf None (Alone IsSubFamily) never) [] d f.sub_families
  pub devices : HasOr (codes "devices") (IsListOf None (Alone IsDevice) never) [] d f.devices

-- the value of `pack` stands for the pack: the level `defaults`, which may be absent, and its families
pub record IsPack (d : Data) (p : Pack) : Type 0 where
  pub known : HasOnly (codes "defaults" ∷ codes "families" ∷ []) d
  pub top : MayHave (codes "defaults") IsDefaults d p.defaults
  pub families : Has (codes "families") (IsListOf None (Alone IsFamily) never) d p.families
