-- The words of the texts.
use Rattle.std.specs.Prelude.{ℕ, Bool, true, false, List, [], codes}
use Rattle.code_check.specs.declared.fault.FaultKind.{FaultKind}
use Rattle.code_check.specs.declared.fault.FaultKind.TheVariants as kinds
use Rattle.sequence_resolve.specs.declared.entry.LevelKind.{LevelKind}
use Rattle.sequence_resolve.specs.declared.entry.LevelKind.TheVariants as levels
use Rattle.hex_image.specs.declared.fault.ImageKind.{ImageKind}
use Rattle.hex_image.specs.declared.fault.ImageKind.TheVariants as images
use Rattle.job_check.specs.declared.answer.DbgconfKind.{DbgconfKind}
use Rattle.job_check.specs.declared.answer.DbgconfKind.TheVariants as values

-- the name of a level
abbrev pub level_word : LevelKind → List ℕ
level_word levels.Defaults = codes "defaults"
level_word levels.Family = codes "family"
level_word levels.SubFamily = codes "subFamily"
level_word levels.Device = codes "device"
level_word levels.Variant = codes "variant"

-- the name of a kind of fault of a set
abbrev pub kind_word : FaultKind → List ℕ
kind_word kinds.Syntax = codes "Syntax"
kind_word kinds.UndefinedName = codes "UndefinedName"
kind_word kinds.Redeclared = codes "Redeclared"
kind_word kinds.UndefinedSequence = codes "UndefinedSequence"
kind_word kinds.UndefinedFunction = codes "UndefinedFunction"
kind_word kinds.ArgumentCount = codes "ArgumentCount"
kind_word kinds.TextExpected = codes "TextExpected"
kind_word kinds.NumberExpected = codes "NumberExpected"
kind_word kinds.FormatMismatch = codes "FormatMismatch"
kind_word kinds.BadDebugvars = codes "BadDebugvars"
kind_word kinds.UnboundedLoop = codes "UnboundedLoop"
kind_word kinds.TimeoutTooLong = codes "TimeoutTooLong"
kind_word kinds.NestedTooDeep = codes "NestedTooDeep"
kind_word kinds.CallCycle = codes "CallCycle"
kind_word kinds.CallsTooDeep = codes "CallsTooDeep"

-- the name of what is wrong with the text of an image
abbrev pub image_word : ImageKind → List ℕ
image_word images.AfterEnd = codes "AfterEnd"
image_word images.BadRecord = codes "BadRecord"
image_word images.BadSum = codes "BadSum"
image_word images.BadKind = codes "BadKind"
image_word images.BadLength = codes "BadLength"
image_word images.TooMany = codes "TooMany"
image_word images.NoEnd = codes "NoEnd"

-- the name of what is wrong with the starting values of `dbgconf`
abbrev pub dbgconf_word : DbgconfKind → List ℕ
dbgconf_word values.BadToken = codes "BadToken"
dbgconf_word values.Unexpected = codes "Unexpected"
dbgconf_word values.Repeated = codes "Repeated"
dbgconf_word values.UndefinedName = codes "UndefinedName"

-- a sequence with `disable` is marked as disabled
abbrev pub disabled_word : Bool → List ℕ
disabled_word true = codes " disabled"
disabled_word false = []
