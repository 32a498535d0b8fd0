-- When two sets are equal, text by text: what private contracts cite.
use Rattle.std.specs.Prelude.{ℕ, ◌==◌, ◌&&◌, Bool, true, false, not, List, [], ◌∷◌, Option, Some, None}
use Rattle.std.specs.Str.{bytes_eq}
use Rattle.device_tree.specs.Same.{same_text}
use Rattle.device_tree.specs.StepTree.{StepTree, no_steps, block, control}
use Rattle.device_tree.specs.declared.steps.Step.{Step}
use Rattle.device_tree.specs.declared.steps.Step.TheVariants.{Block, Control}
use Rattle.sequence_resolve.specs.declared.entry.LevelKind.{LevelKind}
use Rattle.sequence_resolve.specs.declared.entry.LevelKind.TheVariants as kinds
use Rattle.sequence_resolve.specs.declared.entry.SeqEntry.{SeqEntry}
use Rattle.sequence_resolve.specs.declared.entry.SeqSet.{SeqSet}

-- both are the same
abbrev pub same_flag : Bool → Bool → Bool
same_flag true flag = flag
same_flag false flag = not flag

-- both are absent, or both are the same number
abbrev pub same_number : Option ℕ → Option ℕ → Bool
same_number None None = true
same_number None (Some n) = false
same_number (Some m) None = false
same_number (Some m) (Some n) = m == n

-- the same steps, text by text
abbrev pub same_steps : StepTree → StepTree → Bool
same_steps no_steps no_steps = true
same_steps no_steps (block code atomic rest) = false
same_steps no_steps (control cond repeat timeout steps rest) = false
same_steps (block code atomic rest) no_steps = false
same_steps (block code atomic rest) (block code' atomic' rest') = (bytes_eq code code' && same_flag atomic atomic') && same_steps rest rest'
same_steps (block code atomic rest) (control cond' repeat' timeout' steps' rest') = false
same_steps (control cond repeat timeout steps rest) no_steps = false
same_steps (control cond repeat timeout steps rest) (block code' atomic' rest') = false
same_steps (control cond repeat timeout steps rest) (control cond' repeat' timeout' steps' rest') =
    (same_text cond cond' && (same_text repeat repeat' && (same_number timeout timeout' && same_steps steps steps'))) && same_steps rest rest'

-- the same step
abbrev pub same_step : Step → Step → Bool
same_step (Block code atomic) (Block code' atomic') = bytes_eq code code' && same_flag atomic atomic'
same_step (Block code atomic) (Control cond' repeat' timeout' steps') = false
same_step (Control cond repeat timeout steps) (Block code' atomic') = false
same_step (Control cond repeat timeout steps) (Control cond' repeat' timeout' steps') =
    same_text cond cond' && (same_text repeat repeat' && (same_number timeout timeout' && same_steps steps steps'))

-- as many items, each the same as the one at its place
abbrev pub all_same : {A : Type 0} → (A → A → Bool) → List A → List A → Bool
all_same same [] [] = true
all_same same [] (y ∷ ys) = false
all_same same (x ∷ xs) [] = false
all_same same (x ∷ xs) (y ∷ ys) = same x y && all_same same xs ys

-- a number for each level
abbrev pub level_number : LevelKind → ℕ
level_number kinds.Defaults = 0
level_number kinds.Family = 1
level_number kinds.SubFamily = 2
level_number kinds.Device = 3
level_number kinds.Variant = 4

-- the same sequence
abbrev pub same_entry : SeqEntry → SeqEntry → Bool
same_entry a b = bytes_eq a.name b.name && (level_number a.from == level_number b.from && (same_flag a.disabled b.disabled && same_steps a.steps b.steps))

-- the same sequences and debug variables
abbrev pub same_set : SeqSet → SeqSet → Bool
same_set a b = bytes_eq a.debugvars b.debugvars && all_same same_entry a.entries b.entries
