-- Sets of nodes, as a mark for each node: what private contracts cite.
use Rattle.std.specs.Prelude.{◌≡◌, ℕ, ◌<◌, ◌⊎◌, Bool, true, false, List, length, map, MatchOption, Option, slice_index_or}
use Rattle.std.specs.List.{list_any}
use Rattle.call_graph.specs.declared.graph.CallSpot.{CallSpot}
use Rattle.call_graph.specs.Graph.{Calls, Leads}
use Rattle.call_graph.specs.Spots.{IsCallOf, IsInCycle}

-- whether the node is marked; a number that is no node is not
abbrev pub is_marked : List Bool → ℕ → Bool
is_marked marks v = slice_index_or marks v false

-- the nodes that call a marked one
abbrev pub callers_of : List (List ℕ) → List Bool → List Bool
callers_of graph marks = map (λ callees. list_any (is_marked marks) callees) graph

-- the call is of a marked node
pub record IsInto (graph : List (List ℕ)) (marks : List Bool) (spot : CallSpot) : Type 0 where
  pub callee : ℕ
  pub is_call : IsCallOf graph spot callee
  pub marked : is_marked marks callee ≡ true

-- each node with a call in a cycle is marked
abbrev pub MarksCycles : List (List ℕ) → List Bool → Type 0
MarksCycles graph marks = (spot : CallSpot) → IsInCycle graph spot → is_marked marks spot.node ≡ true

-- v is w, or calls lead from v to w
abbrev pub Reaches : List (List ℕ) → ℕ → ℕ → Type 0
Reaches graph v w = (v ≡ w) ⊎ Leads graph v w

-- a mark for each node; marked nodes call marked nodes alone, and the target is not marked
pub record Avoids (graph : List (List ℕ)) (target : ℕ) (marks : List Bool) : Type 0 where
  pub size : length marks ≡ length graph
  pub closed : (v w : ℕ) → is_marked marks v ≡ true → Calls graph v w → is_marked marks w ≡ true
  pub apart : is_marked marks target ≡ false

-- the first such call of one node, by its place there; `None` where no call of the node is such a one
abbrev pub FindsFirstIn : (CallSpot → Type 0) → ℕ → Option ℕ → Type 0
FindsFirstIn P node found =
    MatchOption found ((call : ℕ) → P (record { node = node; call = call }) → ⊥)
    (λ first. P (record { node = node; call = first }) × ((call : ℕ) → call < first → P (record { node = node; call = call }) → ⊥))
