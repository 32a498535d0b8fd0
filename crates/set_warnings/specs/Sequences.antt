-- The warnings of sequences, in the set's order.
use Rattle.std.specs.Prelude.{ℕ, suc, ◌==◌, ◌||◌, Bool, List, [], ◌∷◌, ◌++◌, set, fold, codes, None, unwrap_or, if◌then◌else◌}
use Rattle.std.specs.List.{list_any}
use Rattle.std.specs.Str.{bytes_eq}
use Rattle.std.specs.Prelude.{◌≡◌, ◌<◌, true, false, length, get_or}
use Rattle.sequence_resolve.specs.declared.entry.SeqEntry.{SeqEntry}
use Rattle.sequence_trees.specs.declared.spot.Part.TheVariants as parts
use Rattle.sequence_trees.specs.Trees.{CodeSteps, NoSteps, SetTrees, steps_named, steps_in}
use Rattle.code_check.specs.BlockFaults.{names_after_all}
use Rattle.seq_check.specs.declared.step_calls.StepCall.{StepCall}
use Rattle.seq_check.specs.Calls.{set_calls}
use Rattle.set_warnings.specs.declared.warning.Warning.{Warning}
use Rattle.set_warnings.specs.declared.warning.WarningKind.TheVariants as k
use Rattle.set_warnings.specs.Sites.{warning_at}
use Rattle.set_warnings.specs.Steps.{part_at_path, steps_warnings}
use Rattle.expr_grammar.specs.Bare.{nowhere}

-- the names of the sequences that a debugger starts by itself
abbrev pub predefined_sequences : List (List ℕ)
predefined_sequences =
    codes "DebugPortSetup" ∷ codes "DebugPortStart" ∷ codes "DebugPortStop" ∷ codes "DebugDeviceUnlock" ∷ codes "DebugCoreStart"
    ∷ codes "DebugCoreStop" ∷ codes "DebugCodeMemRemap" ∷ codes "ResetSystem" ∷ codes "ResetProcessor" ∷ codes "ResetHardware"
    ∷ codes "ResetHardwareAssert" ∷ codes "ResetHardwareDeassert" ∷ codes "ResetCatchSet" ∷ codes "ResetCatchClear" ∷ codes "TraceStart"
    ∷ codes "TraceStop" ∷ codes "RecoverySupportStart" ∷ codes "RecoveryAcknowledge" ∷ codes "RecoverySupportStop" ∷ []

-- the name is one of these
abbrev pub is_predefined : List ℕ → Bool
is_predefined name = list_any (bytes_eq name) predefined_sequences

-- one of these calls is of the sequence of this number
abbrev pub is_called : List (List StepCall) → ℕ → Bool
is_called calls number = list_any (λ list. list_any (λ call. call.callee == number) list) calls

-- a sequence itself, where nothing calls it and no debugger starts it
abbrev pub uncalled_warnings : Bool → List ℕ → List Warning
uncalled_warnings called name =
    if is_predefined name || called then [] else warning_at k.UncalledSequence (part_at_path name [] parts.Control) nowhere None ∷ []

-- the names of the debug variables
abbrev pub debug_variables : SetTrees → List (List ℕ)
debug_variables trees = names_after_all [] trees.debugvars

-- of a sequence that is called or not: of itself, and then of its steps; a disabled one has none
abbrev pub entry_warnings : SetTrees → Bool → SeqEntry → List Warning
entry_warnings trees called e =
    if e.disabled then [] else uncalled_warnings called e.name ++ steps_warnings (debug_variables trees) e.name [] 0 (steps_in trees e.name)

-- of sequences, the first of which has this number
abbrev pub entries_warnings : SetTrees → ℕ → List SeqEntry → List Warning
entries_warnings trees number [] = []
entries_warnings trees number (e ∷ es) = entry_warnings trees (is_called (set_calls trees) number) e ++ entries_warnings trees (suc number) es

-- ---- what private contracts cite

-- the flags, and that of the sequence that is called
abbrev pub flags_with_call : List Bool → StepCall → List Bool
flags_with_call flags call = set flags call.callee true

-- the flags, and those of the sequences that these calls call
abbrev pub all_marked : List Bool → List StepCall → List Bool
all_marked flags calls = fold flags_with_call flags calls

-- for each of the first so many sequences whether one of these calls is of it
pub record AreCalledFlags (calls : List (List StepCall)) (count : ℕ) (flags : List Bool) : Type 0 where
  pub len : length flags ≡ count
  pub flag : (number : ℕ) → number < count → get_or flags number false ≡ is_called calls number
