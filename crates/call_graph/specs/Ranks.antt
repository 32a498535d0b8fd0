-- Numbers of nodes, as a list: what private contracts cite.
use Rattle.std.specs.Prelude.{◌≡◌, ℕ, ◌≤◌, List, Contains, slice_index}
use Rattle.call_graph.specs.Graph.{callees_of, Calls}

-- the rank of a node; 0 of a number that has none
abbrev pub rank_of : List ℕ → ℕ → ℕ
rank_of ranks v = slice_index ranks v

-- each call is of a node of at most the caller's rank
abbrev pub Fall : List (List ℕ) → List ℕ → Type 0
Fall graph ranks = (v w : ℕ) → Calls graph v w → rank_of ranks w ≤ rank_of ranks v

-- one of the calls of v is of a number of the rank of v
pub record CallsLevel (graph : List (List ℕ)) (ranks : List ℕ) (v : ℕ) : Type 0 where
  pub callee : ℕ
  pub is_called : Contains (callees_of graph v) callee
  pub level : rank_of ranks callee ≡ rank_of ranks v
