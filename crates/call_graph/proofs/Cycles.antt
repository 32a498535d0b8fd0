-- A call in a cycle begins chains of any length.
use Rattle.std.proofs.Common.{◌≡◌, ◌<◌, ◌+◌, ℕ, List, length, get_or, subst, sym, arith, inl, inr}
use Rattle.std.proofs.lemmas.Bool.{cases_lt}
use Rattle.std.proofs.lemmas.Option.{slice_get_within, get_or_from_slice_get}
use Rattle.call_graph.specs.declared.graph.CallSpot.{CallSpot}
use Rattle.call_graph.specs.Graph.{callees_of, Calls, BeginsChain, Leads}
use Rattle.call_graph.specs.Spots.{IsCallOf, IsInCycle, IsDeep}
use Rattle.call_graph.specs.Marks.{Reaches}
use Rattle.call_graph.proofs.Chains.{caller_is_node, begins_any}
use Rattle.call_graph.proofs.Firsts.{no_call, spot_of}

pub leader_is_node : (graph : List (List ℕ)) (v w : ℕ) → Leads graph v w → v < length graph
leader_is_node graph v w (Leads.call h) = caller_is_node graph v w h
leader_is_node graph v w (Leads.onward {u = u} h leads) = caller_is_node graph v u h

pub call_of : (graph : List (List ℕ)) (spot : CallSpot) (w : ℕ) → IsCallOf graph spot w → w < length graph → Calls graph spot.node w
call_of graph spot w h exists = record { callee = (spot.call, slice_get_within (callees_of graph spot.node) spot.call w h, get_or_from_slice_get (callees_of graph spot.node) spot.call w w h); exists = exists }

-- the callee of a call in a cycle leads to the node of the call, and that to itself
pub callee_leads : (graph : List (List ℕ)) (spot : CallSpot) (h : IsInCycle graph spot) → Leads graph h.callee spot.node × Leads graph spot.node spot.node
callee_leads graph spot h = elim h.back [
  | inl same ↦ let exists : h.callee < length graph = rw same (no_call graph spot h.callee h.is_call) in
      let own : Leads graph spot.node spot.node = subst (λ (w : ℕ). Leads graph spot.node w) same (Leads.call (call_of graph spot h.callee h.is_call exists)) in
      (subst (λ (w : ℕ). Leads graph w spot.node) (sym same) own, own)
  | inr leads ↦ (leads, Leads.onward (call_of graph spot h.callee h.is_call (leader_is_node graph h.callee spot.node leads)) leads)
]

pub cycles_are_deep : (graph : List (List ℕ)) (spot : CallSpot) → IsInCycle graph spot → IsDeep graph spot
cycles_are_deep graph spot h =
    let leads = callee_leads graph spot h in
    record { callee = h.callee; is_call = h.is_call; chain = begins_any graph 31 h.callee spot.node leads.1 leads.0 }

pub cycle_begins : (graph : List (List ℕ)) (spot : CallSpot) → IsInCycle graph spot → BeginsChain graph spot.node 33
cycle_begins graph spot h = let leads = callee_leads graph spot h in begins_any graph 32 spot.node spot.node leads.1 leads.1

-- a call is in a cycle where its callee is the node or leads to it
pub reaches_back : (graph : List (List ℕ)) (node call : ℕ) → call < length (callees_of graph node) → IsInCycle graph (spot_of node call) → Reaches graph (get_or (callees_of graph node) call 0) node
reaches_back graph node call lt h =
    let e = get_or_from_slice_get (callees_of graph node) call h.callee 0 h.is_call in
    subst (λ (w : ℕ). Reaches graph w node) (sym e) h.back

pub is_call_of_node : (graph : List (List ℕ)) (node call : ℕ) → IsInCycle graph (spot_of node call) → call < length (callees_of graph node)
is_call_of_node graph node call h = slice_get_within (callees_of graph node) call h.callee h.is_call

-- one more call of the node that does not lead back
pub none_more : (graph : List (List ℕ)) (node call w : ℕ) → w ≡ get_or (callees_of graph node) call 0 → (Reaches graph w node → ⊥) → ((k : ℕ) → k < call → IsInCycle graph (spot_of node k) → ⊥)
    → (k : ℕ) → k < call + 1 → IsInCycle graph (spot_of node k) → ⊥
none_more graph node call w callee apart none k lt h = elim (cases_lt k call) [
  | inl less ↦ none k less h
  | inr more ↦
      let e : k ≡ call = omega arith in
      let here = subst (λ (i : ℕ). IsInCycle graph (spot_of node i)) e h in
      let back = reaches_back graph node call (is_call_of_node graph node call here) here in
      apart (subst (λ (v : ℕ). Reaches graph v node) (sym callee) back)
]
