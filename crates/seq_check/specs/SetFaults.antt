-- The faults in the texts and the controls of a set.
use Rattle.std.specs.Prelude.{◌≡◌, ℕ, suc, nat_lt, ◌&&◌, ◌||◌, not, Bool, true, false, List, [], ◌∷◌, map}
use Rattle.sequence_trees.specs.declared.spot.Part.TheVariants as parts
use Rattle.sequence_trees.specs.Trees.{CodeSteps, SetTrees}
use Rattle.function_table.specs.Variables.{names_of_predefined}
use Rattle.code_check.specs.First.{Nowhere, InEither}
use Rattle.code_check.specs.ExprFaults.{Scope}
use Rattle.code_check.specs.BlockFaults.{names_after_all, BlockFault}
use Rattle.seq_check.specs.declared.faulty.Holder.{Holder}
use Rattle.seq_check.specs.declared.faulty.Holder.TheVariants as holders
use Rattle.seq_check.specs.StepFaults.{StepFault, is_step_before, At, FaultInSteps}

-- a fault of a set: what of the set has it, and the fault, seen from there
pub record SetFault : Type 0 where
  pub holder : Holder
  pub fault : StepFault

-- the debug variables before the sequences, and those in the order of their numbers
abbrev pub holder_before : Holder → Holder → Bool
holder_before holders.Debugvars holders.Debugvars = false
holder_before holders.Debugvars (holders.Sequence n) = true
holder_before (holders.Sequence m) holders.Debugvars = false
holder_before (holders.Sequence m) (holders.Sequence n) = nat_lt m n

-- by what has it, and then as faults of steps
abbrev pub is_set_before : SetFault → SetFault → Bool
is_set_before f g = holder_before f.holder g.holder || not (holder_before g.holder f.holder) && is_step_before f.fault g.fault

-- the fault of a set is one of these faults of steps, in this sequence or in the debug variables
pub record Of (holder : Holder) (Inside : StepFault → Type 0) (f : SetFault) : Type 0 where
  pub holder_is : f.holder ≡ holder
  pub holds : Inside f.fault

-- the names of the sequences, in order
abbrev pub names_of : SetTrees → List (List ℕ)
names_of set = map (λ s. s.name) set.sequences

-- the debug variables see the predefined ones, and each other from their declarations on
abbrev pub debugvars_scope : SetTrees → Scope
debugvars_scope set = record { visible = names_of_predefined; sequences = names_of set; in_debugvars = true }

-- each sequence sees the predefined variables and the debug variables
abbrev pub sequences_scope : SetTrees → Scope
sequences_scope set = record { visible = names_after_all names_of_predefined set.debugvars; sequences = names_of set; in_debugvars = false }

-- in the steps of sequences, the first of which has this number
abbrev pub FaultInSequences : Scope → ℕ → List CodeSteps → SetFault → Type 0
FaultInSequences s number [] = Nowhere
FaultInSequences s number (steps ∷ more) = InEither (Of (holders.Sequence number) (FaultInSteps s 0 0 steps)) (FaultInSequences s (suc number) more)

-- the fault is in the set, whose sequences have their numbers from 0 on
abbrev pub FaultInSet : SetTrees → SetFault → Type 0
FaultInSet set =
    InEither (Of holders.Debugvars (At parts.Debugvars (BlockFault (debugvars_scope set) set.debugvars)))
    (FaultInSequences (sequences_scope set) 0 (map (λ s. s.steps) set.sequences))
