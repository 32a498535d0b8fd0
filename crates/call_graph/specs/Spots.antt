-- Single calls of a graph, by the node that they stand in and their place there.
use Rattle.std.specs.Prelude.{◌≡◌, ℕ, ◌<◌, ◌⊎◌, List, Option, Some, MatchOption, slice_get}
use Rattle.call_graph.specs.declared.graph.CallSpot.{CallSpot}
use Rattle.call_graph.specs.Graph.{callees_of, Leads, BeginsChain}

-- the call at the spot is one of w
abbrev pub IsCallOf : List (List ℕ) → CallSpot → ℕ → Type 0
IsCallOf graph spot w = slice_get (callees_of graph spot.node) spot.call ≡ Some w

-- the call is of the node that it stands in, or of one from which calls lead back to that
pub record IsInCycle (graph : List (List ℕ)) (spot : CallSpot) : Type 0 where
  pub callee : ℕ
  pub is_call : IsCallOf graph spot callee
  pub back : (callee ≡ spot.node) ⊎ Leads graph callee spot.node

-- the call begins, with the node that it stands in, a chain of 33 nodes
pub record IsDeep (graph : List (List ℕ)) (spot : CallSpot) : Type 0 where
  pub callee : ℕ
  pub is_call : IsCallOf graph spot callee
  pub chain : BeginsChain graph callee 32

-- the call stands in an earlier node, or earlier in the same
abbrev pub IsBefore : CallSpot → CallSpot → Type 0
IsBefore a b = (a.node < b.node) ⊎ ((a.node ≡ b.node) × (a.call < b.call))

-- the call is such a one, and none before it is
pub record IsFirst (P : CallSpot → Type 0) (spot : CallSpot) : Type 0 where
  pub holds : P spot
  pub none_before : (other : CallSpot) → IsBefore other spot → P other → ⊥

-- the first such call; `None` where no call is such a one
abbrev pub FindsFirst : (CallSpot → Type 0) → Option CallSpot → Type 0
FindsFirst P found = MatchOption found ((spot : CallSpot) → P spot → ⊥) (IsFirst P)
