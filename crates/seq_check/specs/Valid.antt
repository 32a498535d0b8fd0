-- Valid sets, and the first fault of one that is not valid.
use Rattle.std.specs.Prelude.{◌≡◌, ℕ, List, Option, Some, None, slice_get}
use Rattle.sequence_resolve.specs.declared.entry.SeqSet.{SeqSet}
use Rattle.sequence_trees.specs.declared.spot.Spot.{Spot}
use Rattle.sequence_trees.specs.Trees.{SetTrees}
use Rattle.sequence_trees.specs.Reading.{ReadsSet}
use Rattle.sequence_trees.specs.Order.{IsFirstFault}
use Rattle.call_graph.specs.declared.graph.CallSpot.{CallSpot}
use Rattle.call_graph.specs.Spots as graph
use Rattle.code_check.specs.declared.fault.FaultKind.{FaultKind}
use Rattle.code_check.specs.declared.fault.FaultKind.TheVariants as k
use Rattle.code_check.specs.First.{IsFirst}
use Rattle.seq_check.specs.declared.step_calls.StepCall.{StepCall}
use Rattle.seq_check.specs.declared.faulty.Holder.{Holder}
use Rattle.seq_check.specs.declared.faulty.Holder.TheVariants as holders
use Rattle.seq_check.specs.SetFaults.{SetFault, is_set_before, names_of, FaultInSet}
use Rattle.seq_check.specs.Calls.{set_calls, call_graph}

-- ---- calls that lead back or too deep

-- no call leads back to the sequence that it stands in, and none begins too deep a chain
pub record CallsAreSound (set : SetTrees) : Type 0 where
  pub no_cycle : (c : CallSpot) → graph.IsInCycle (call_graph set) c → ⊥
  pub none_deep : (c : CallSpot) → graph.IsDeep (call_graph set) c → ⊥

-- the call stands at this spot of the set
pub record IsCallAt (set : SetTrees) (c : CallSpot) (spot : Spot) : Type 0 where
  pub name : List ℕ
  pub named : slice_get (names_of set) c.node ≡ Some name
  pub calls : List StepCall
  pub has : slice_get (set_calls set) c.node ≡ Some calls
  pub call : StepCall
  pub is_call : slice_get calls c.call ≡ Some call
  pub spot_is : spot ≡ record { sequence = Some name; path = call.path; part = call.part; place = call.place }

-- the first call in a cycle or, where there is none, the first that begins too deep a chain
pub data IsFirstCallFault (set : SetTrees) (kind : FaultKind) (spot : Spot) : Type 0 where
  cycle : (c : CallSpot) → graph.IsFirst (graph.IsInCycle (call_graph set)) c → IsCallAt set c spot → kind ≡ k.CallCycle → IsFirstCallFault set kind spot
  deep : ((c : CallSpot) → graph.IsInCycle (call_graph set) c → ⊥)
      → (c : CallSpot) → graph.IsFirst (graph.IsDeep (call_graph set)) c → IsCallAt set c spot → kind ≡ k.CallsTooDeep
      → IsFirstCallFault set kind spot

-- ---- sets that were read

-- the name of the sequence that has a fault; none for the debug variables
abbrev pub holder_name : SetTrees → Holder → Option (List ℕ)
holder_name set holders.Debugvars = None
holder_name set (holders.Sequence n) = slice_get (names_of set) n

-- where a fault is, with the name
abbrev pub spot_of : SetTrees → SetFault → Spot
spot_of set f = record { sequence = holder_name set f.holder; path = f.fault.path; part = f.fault.part; place = f.fault.fault.place }

-- there is no fault in the texts and the controls of the set, and its calls are sound
pub record IsSound (set : SetTrees) : Type 0 where
  pub no_fault : (f : SetFault) → FaultInSet set f → ⊥
  pub calls : CallsAreSound set

-- the first fault of a set that can be read, by phases
pub data IsFirstOf (set : SetTrees) (kind : FaultKind) (spot : Spot) : Type 0 where
  in_texts : (f : SetFault) → IsFirst is_set_before (FaultInSet set) (Some f) → kind ≡ f.fault.fault.kind → spot ≡ spot_of set f → IsFirstOf set kind spot
  in_calls : ((f : SetFault) → FaultInSet set f → ⊥) → IsFirstCallFault set kind spot → IsFirstOf set kind spot

-- ---- sets

-- the texts of the set can be read, and nothing is wrong with what they say
pub record IsValid (set : SeqSet) : Type 0 where
  pub trees : SetTrees
  pub reads : ReadsSet set trees
  pub sound : IsSound trees

-- the first fault of a set: of a text that can not be read or, where all can, of what they say
pub data IsFirstFaultOf (set : SeqSet) (kind : FaultKind) (spot : Spot) : Type 0 where
  syntax : IsFirstFault set spot → kind ≡ k.Syntax → IsFirstFaultOf set kind spot
  rules : (trees : SetTrees) → ReadsSet set trees → IsFirstOf trees kind spot → IsFirstFaultOf set kind spot
