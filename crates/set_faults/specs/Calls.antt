-- The calls of a set that lead back or begin too deep a chain, as faults.
use Rattle.std.specs.Prelude.{◌≡◌, ℕ, ◌<◌, ◌==◌, nat_lt, ◌&&◌, ◌||◌, Bool, List, [], ◌∷◌, ◌++◌, Contains, if◌then◌else◌}
use Rattle.sequence_trees.specs.Trees.{SetTrees}
use Rattle.call_graph.specs.declared.graph.CallSpot.{CallSpot}
use Rattle.call_graph.specs.Spots.{IsCallOf, IsInCycle, IsDeep}
use Rattle.code_check.specs.declared.fault.FaultKind.{FaultKind}
use Rattle.code_check.specs.declared.fault.FaultKind.TheVariants as k
use Rattle.seq_check.specs.Calls.{call_graph}
use Rattle.seq_check.specs.Valid.{IsCallAt}
use Rattle.set_faults.specs.declared.site.Fault.{Fault}
use Rattle.set_faults.specs.Listed.{IsListOf}

-- the calls of an earlier sequence before those of a later one, and those of one sequence in the order of the text
abbrev pub is_call_before : CallSpot → CallSpot → Bool
is_call_before c d = nat_lt c.node d.node || c.node == d.node && nat_lt c.call d.call

-- the fault is of this kind, and is where the call is in the set
pub record IsFaultAt (set : SetTrees) (kind : FaultKind) (c : CallSpot) (fault : Fault) : Type 0 where
  pub kind_is : fault.kind ≡ kind
  pub at : IsCallAt set c fault.spot

-- a fault of this kind for each of the calls, in order
abbrev pub AreCallsAt : SetTrees → FaultKind → List CallSpot → List Fault → Type 0
AreCallsAt set kind [] faults = faults ≡ []
AreCallsAt set kind (c ∷ calls) faults = (fault : Fault) × (more : List Fault) × IsFaultAt set kind c fault × (faults ≡ fault ∷ more) × AreCallsAt set kind calls more

-- all calls that are so, in the order of the check, as faults of this kind
pub record AreCallFaults (set : SetTrees) (kind : FaultKind) (Holds : CallSpot → Type 0) (faults : List Fault) : Type 0 where
  pub calls : List CallSpot
  pub is_list : IsListOf is_call_before Holds calls
  pub are : AreCallsAt set kind calls faults

-- all calls that lead back to the sequence that they stand in
abbrev pub AreCycles : SetTrees → List Fault → Type 0
AreCycles set faults = AreCallFaults set k.CallCycle (IsInCycle (call_graph set)) faults

-- all calls that begin, with the sequence that they stand in, a chain of 33 sequences
abbrev pub AreDeepCalls : SetTrees → List Fault → Type 0
AreDeepCalls set faults = AreCallFaults set k.CallsTooDeep (IsDeep (call_graph set)) faults

-- ---- what private contracts cite

-- this call, where it is one
abbrev pub call_if : Bool → CallSpot → List CallSpot
call_if is_one call = if is_one then call ∷ [] else []

-- such calls of this node, before this place
pub record Ahead (P : CallSpot → Type 0) (node end : ℕ) (c : CallSpot) : Type 0 where
  pub node_is : c.node ≡ node
  pub less : c.call < end
  pub holds : P c

-- the call is one of these, and is in this node
pub record AtNode (P : CallSpot → Type 0) (node : ℕ) (c : CallSpot) : Type 0 where
  pub node_is : c.node ≡ node
  pub holds : P c

-- such calls of nodes below this one
pub record Below (P : CallSpot → Type 0) (end : ℕ) (c : CallSpot) : Type 0 where
  pub less : c.node < end
  pub holds : P c

-- all calls that are so are added at the end, in order
pub record AddsCalls (P : CallSpot → Type 0) (old new : List CallSpot) : Type 0 where
  pub list : List CallSpot
  pub is_list : IsListOf is_call_before P list
  pub is_new : new ≡ old ++ list

-- each is a call of the set
abbrev pub AreCalls : SetTrees → List CallSpot → Type 0
AreCalls set calls = (c : CallSpot) → Contains calls c → (callee : ℕ) × IsCallOf (call_graph set) c callee
