-- Calls among nodes. A graph is, for each node, the list of the nodes that it calls, in order.
use Rattle.std.specs.Prelude.{◌≡◌, ℕ, ◌+◌, ◌<◌, List, [], ◌∷◌, length, Contains, slice_index_or}

-- the nodes that a node calls; none where there is no such node
abbrev pub callees_of : List (List ℕ) → ℕ → List ℕ
callees_of graph v = slice_index_or graph v []

-- v calls w, and w is a node
pub record Calls (graph : List (List ℕ)) (v w : ℕ) : Type 0 where
  pub callee : Contains (callees_of graph v) w
  pub exists : w < length graph

-- v is a node and calls the first of the others, and each of these calls the next
abbrev pub IsChain : List (List ℕ) → ℕ → List ℕ → Type 0
IsChain graph v [] = v < length graph
IsChain graph v (w ∷ ws) = Calls graph v w × IsChain graph w ws

-- a chain of so many nodes begins at v
pub record BeginsChain (graph : List (List ℕ)) (v count : ℕ) : Type 0 where
  pub others : List ℕ
  pub is_chain : IsChain graph v others
  pub size : 1 + length others ≡ count

-- one call or more lead from v to w
pub data Leads (graph : List (List ℕ)) : ℕ → ℕ → Type 0 where
  call : {v w : ℕ} → Calls graph v w → Leads graph v w
  onward : {v u w : ℕ} → Calls graph v u → Leads graph u w → Leads graph v w
