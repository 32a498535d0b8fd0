-- Where ranks fall along all calls, a node with a call in a cycle calls one of its own rank.
use Rattle.std.proofs.Common.{◌≡◌, ◌≤◌, ◌<◌, ◌+◌, ℕ, Bool, true, false, List, [], ◌∷◌, ◌++◌, length, get_or, length-append, refl, ap, subst, sym, ◌∙◌, arith, inl, inr}
use Rattle.std.specs.Prelude.{◌↔◌}
use Rattle.std.specs.List.{All, Any}
use Rattle.std.proofs.lemmas.Bool.{cases_lt}
use Rattle.std.proofs.lemmas.List.{get_or_push, get_or_append_left, get_or_past, get_or_default}
use Rattle.std.proofs.lemmas.Option.{slice_get_within, get_or_from_slice_get}
use Rattle.call_graph.specs.declared.graph.CallSpot.{CallSpot}
use Rattle.call_graph.specs.Graph.{callees_of, Calls, Leads}
use Rattle.call_graph.specs.Spots.{IsInCycle}
use Rattle.call_graph.specs.Marks.{is_marked}
use Rattle.call_graph.specs.Ranks.{rank_of, Fall, CallsLevel}
use Rattle.call_graph.proofs.Chains.{caller_is_node, is_node}
use Rattle.call_graph.proofs.Cycles.{call_of, leader_is_node}

leads_fall : (graph : List (List ℕ)) (ranks : List ℕ) → Fall graph ranks → (v w : ℕ) → Leads graph v w → rank_of ranks w ≤ rank_of ranks v
leads_fall graph ranks fall v w (Leads.call h) = fall v w h
leads_fall graph ranks fall v w (Leads.onward {u = u} h further) = omega (arith, fall v u h, leads_fall graph ranks fall u w further)

pub cycle_is_level : (graph : List (List ℕ)) (ranks : List ℕ) → Fall graph ranks → (spot : CallSpot) → IsInCycle graph spot → CallsLevel graph ranks spot.node
cycle_is_level graph ranks fall spot h = record {
  callee = h.callee;
  is_called = (spot.call, slice_get_within (callees_of graph spot.node) spot.call h.callee h.is_call, get_or_from_slice_get (callees_of graph spot.node) spot.call h.callee h.callee h.is_call);
  level = elim h.back [
    | inl same ↦ ap (rank_of ranks) same
    | inr leads ↦ omega (arith, leads_fall graph ranks fall h.callee spot.node leads, fall spot.node h.callee (call_of graph spot h.callee h.is_call (leader_is_node graph h.callee spot.node leads)))
  ];
}

-- ---- the calls of the nodes below one

pub record FallBelow (graph : List (List ℕ)) (ranks : List ℕ) (node : ℕ) : Type 0 where
  pub falls : (v w : ℕ) → v < node → Calls graph v w → rank_of ranks w ≤ rank_of ranks v

pub falls_more : (graph : List (List ℕ)) (ranks : List ℕ) (node : ℕ) → FallBelow graph ranks node → All (λ w. rank_of ranks w ≤ rank_of ranks node) (callees_of graph node) → FallBelow graph ranks (node + 1)
falls_more graph ranks node below here = record {
  falls = λ v w lt calls. elim (cases_lt v node) [
    | inl less ↦ below.falls v w less calls
    | inr more ↦
        let same : v ≡ node = omega arith in
        let own = subst (λ (u : ℕ). Calls graph u w) same calls in
        let at_place = here own.callee.0 w own.callee.1 in
        rw same (subst (λ (u : ℕ). rank_of ranks u ≤ rank_of ranks node) own.callee.2 at_place)
  ];
}

pub all_fall : (graph : List (List ℕ)) (ranks : List ℕ) → FallBelow graph ranks (length graph) → Fall graph ranks
all_fall graph ranks below v w calls = below.falls v w (caller_is_node graph v w calls) calls

-- a number that is no node has rank 0
pub callees_fall : (graph : List (List ℕ)) (ranks : List ℕ) (node : ℕ) → length ranks ≡ length graph → Fall graph ranks → All (λ w. rank_of ranks w ≤ rank_of ranks node) (callees_of graph node)
callees_fall graph ranks node size fall k d lt =
    let w = get_or (callees_of graph node) k d in
    elim (cases_lt w (length graph)) [
      | inl exists ↦ fall node w (record { callee = (k, lt, get_or_default (callees_of graph node) k w d lt); exists = exists })
      | inr past ↦ let none = get_or_past ranks w 0 (omega arith) in omega (arith, none)
    ]

-- ---- the marks of the nodes below one

pub record LevelBelow (graph : List (List ℕ)) (ranks : List ℕ) (node : ℕ) (marks : List Bool) : Type 0 where
  pub size : length marks ≡ node
  pub exactly : (v : ℕ) → v < node → (is_marked marks v ≡ true) ↔ CallsLevel graph ranks v

pub none_level : (graph : List (List ℕ)) (ranks : List ℕ) → LevelBelow graph ranks 0 []
none_level graph ranks = record { size = refl; exactly = λ v lt. absurd (omega arith) }

level_from : (graph : List (List ℕ)) (ranks : List ℕ) (node : ℕ) → Any (λ w. rank_of ranks w ≡ rank_of ranks node) (callees_of graph node) → CallsLevel graph ranks node
level_from graph ranks node h = record { callee = h.1; is_called = (h.0, h.2, h.3); level = h.4 }

level_to : (graph : List (List ℕ)) (ranks : List ℕ) (node : ℕ) → CallsLevel graph ranks node → Any (λ w. rank_of ranks w ≡ rank_of ranks node) (callees_of graph node)
level_to graph ranks node h = (h.is_called.0, h.callee, h.is_called.1, h.is_called.2, h.level)

pub level_more : (graph : List (List ℕ)) (ranks : List ℕ) (node : ℕ) (marks : List Bool) (mark : Bool) → LevelBelow graph ranks node marks → (mark ≡ true) ↔ Any (λ w. rank_of ranks w ≡ rank_of ranks node) (callees_of graph node)
    → LevelBelow graph ranks (node + 1) (marks ++ mark ∷ [])
level_more graph ranks node marks mark below here = record {
  size = omega (arith, length-append marks (mark ∷ []), below.size);
  exactly = λ v lt. elim (cases_lt v node) [
    | inl less ↦ let old : v < length marks = omega (arith, below.size) in rw get_or_append_left (below.exactly v less)
    | inr more ↦
        let same : node ≡ v = omega arith in
        let last = get_or_push marks mark false node below.size in
        subst (λ (u : ℕ). (is_marked (marks ++ mark ∷ []) u ≡ true) ↔ CallsLevel graph ranks u) same
        (λ h. level_from graph ranks node (here.0 (sym last ∙ h)), λ h. last ∙ here.1 (level_to graph ranks node h))
  ];
}

pub all_level : (graph : List (List ℕ)) (ranks : List ℕ) (marks : List Bool) → LevelBelow graph ranks (length graph) marks → (v : ℕ) → (is_marked marks v ≡ true) ↔ CallsLevel graph ranks v
all_level graph ranks marks below v = elim (cases_lt v (length graph)) [
  | inl exists ↦ below.exactly v exists
  | inr past ↦
      let unmarked = get_or_past marks v false (omega (arith, below.size)) in
      (λ h. absurd (cc), λ h. absurd (omega (arith, is_node graph v h.is_called.0 h.is_called.1)))
]
