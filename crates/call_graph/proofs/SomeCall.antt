-- A graph has a first call in a cycle, or none; and a first call that begins too deep a chain, or none.
use Rattle.std.proofs.Common.{◌≡◌, ◌⊎◌, inl, inr, ℕ, zero, suc, ◌+◌, ◌<◌, Bool, true, false, List, [], ◌∷◌, ◌++◌, length, slice_get, set, replicate, Option, Some, None, refl, sym, ap, subst, ◌∙◌, arith}
use Rattle.std.proofs.lemmas.Bool.{cases_lt, both_ways}
use Rattle.std.proofs.lemmas.Bool.Decides.{eqb_tells}
use Rattle.std.proofs.lemmas.List.{length-replicate}
use Rattle.std.proofs.lemmas.Option.{slice_get_within}
use Rattle.call_graph.specs.declared.graph.CallSpot.{CallSpot}
use Rattle.call_graph.specs.Graph.{callees_of, BeginsChain}
use Rattle.call_graph.specs.Spots.{IsCallOf, IsInCycle, IsDeep, IsFirst}
use Rattle.call_graph.specs.Marks.{is_marked, callers_of, Reaches, Avoids}
use Rattle.call_graph.proofs.Chains.{MarksBeginnings, all_begin, callers_begin}
use Rattle.call_graph.proofs.Firsts.{spot_of, no_call}
use Rattle.call_graph.proofs.Search.{Searching, left, search_begins, target_reached, never_reached, turn_over, turn_over-less, turn_on, turn_on-less}
use Rattle.dap_base.proofs.Least.{Decided, Least, least}

-- ---- whether calls lead from one node to another

-- a list has no items, or a last one
data Ending (work : List ℕ) : Type 0 where
  empty : work ≡ [] → Ending work
  last : (rest : List ℕ) (node : ℕ) → work ≡ rest ++ node ∷ [] → Ending work

ending : (work : List ℕ) → Ending work
ending [] = empty refl
ending (v ∷ work) = elim (ending work) [
  | empty none ↦ last [] v (ap (λ (l : List ℕ). v ∷ l) none)
  | last rest node parts ↦ last (v ∷ rest) node (ap (λ (l : List ℕ). v ∷ l) parts)
]

no_marks : (n v : ℕ) → is_marked (replicate n false) v ≡ false
no_marks zero v = refl
no_marks (suc n) zero = refl
no_marks (suc n) (suc v) = no_marks n v

nothing_seen : (graph : List (List ℕ)) (target : ℕ) → Avoids graph target (replicate (length graph) false)
nothing_seen graph target = record {
  size = length-replicate (length graph) false;
  closed = λ v w marked calls. absurd (both_ways (is_marked (replicate (length graph) false) v) (no_marks (length graph) v) marked);
  apart = no_marks (length graph) target;
}

module _ (graph : List (List ℕ)) (from target : ℕ) (exists : target < length graph) where
  -- what is found from here on
  abbrev Further : ℕ → Type 0
  Further fuel = (seen : List Bool) (work : List ℕ) → length work + left graph seen < fuel → Searching graph from target seen work → Decided (Reaches graph from target)

  stale_by : (seen : List Bool) (node : ℕ) (b : Bool) → is_marked seen node ≡ b → Decided (node < length seen × (is_marked seen node ≡ false))
  stale_by seen node true is = inr (λ fresh. both_ways (is_marked seen node) fresh.1 is)
  stale_by seen node false is = elim (cases_lt node (length seen)) [ inl lt ↦ inl (lt, is) | inr past ↦ inr (λ fresh. absurd (omega (arith, fresh.0, past))) ]

  turn : (fuel : ℕ) → Further fuel → (seen : List Bool) (work rest : List ℕ) (node : ℕ) → work ≡ rest ++ node ∷ [] → length work + left graph seen < suc fuel → Searching graph from target seen work
      → Decided (Reaches graph from target)
  turn fuel more seen work rest node parts enough s = elim (eqb_tells node target) [
    | inl same ↦ inl (target_reached graph from target node seen rest same.1 exists (subst (Searching graph from target seen) parts s))
    | inr other ↦ elim (stale_by seen node (is_marked seen node) refl) [
      | inl fresh ↦
          more (set seen node true) (rest ++ callees_of graph node)
          (omega (arith, enough, turn_on-less graph node seen work rest (callees_of graph node) (rest ++ callees_of graph node) parts refl refl s.size fresh.0 fresh.1))
          (turn_on graph from target node seen work rest (callees_of graph node) (rest ++ callees_of graph node) parts refl refl other.1 fresh.0 s)
      | inr stale ↦ more seen rest (omega (arith, enough, turn_over-less graph node seen work rest parts)) (turn_over graph from target node seen work rest parts stale s)
    ]
  ]

  search : (fuel : ℕ) → Further fuel
  search zero seen work enough s = absurd (omega (arith, enough))
  search (suc fuel) seen work enough s = elim (ending work) [
    | empty none ↦ inr (never_reached graph from target seen exists (subst (Searching graph from target seen) none s))
    | last rest node parts ↦ turn fuel (search fuel) seen work rest node parts enough s
  ]

  reaches_decided : Decided (Reaches graph from target)
  reaches_decided =
      let none = replicate (length graph) false in
      search (length (from ∷ []) + left graph none + 1) none (from ∷ []) (omega arith) (search_begins graph from target none (nothing_seen graph target))

-- ---- whether a call is of a kind

-- a call of which it is decided by its callee
module _ (graph : List (List ℕ)) (P : CallSpot → Type 0) (Leading : CallSpot → ℕ → Type 0) (to : (spot : CallSpot) → P spot → (w : ℕ) × IsCallOf graph spot w × Leading spot w)
    (of : (spot : CallSpot) (w : ℕ) → IsCallOf graph spot w → Leading spot w → P spot) (decided : (spot : CallSpot) (w : ℕ) → spot.node < length graph → Decided (Leading spot w)) where
  abbrev some : ℕ → Option ℕ
  some w = Some w

  one_callee : (spot : CallSpot) (v w : ℕ) → IsCallOf graph spot v → IsCallOf graph spot w → v ≡ w
  one_callee spot v w p q = (let e : some v ≡ some w = sym p ∙ q in cc)

  kind_by : (spot : CallSpot) (o : Option ℕ) → slice_get (callees_of graph spot.node) spot.call ≡ o → Decided (P spot)
  kind_by spot None none = inr (λ p. let t = to spot p in let e : None ≡ some t.0 = sym none ∙ t.1 in cc)
  kind_by spot (Some w) is = elim (decided spot w (no_call graph spot w is)) [
    | inl leads ↦ inl (of spot w is leads)
    | inr not ↦ inr (λ p. let t = to spot p in not (subst (Leading spot) (one_callee spot t.0 w t.1 is) t.2))
  ]

  kind_decided : (spot : CallSpot) → Decided (P spot)
  kind_decided spot = kind_by spot (slice_get (callees_of graph spot.node) spot.call) refl

  -- ---- the first of the kind

  call_within : (spot : CallSpot) → P spot → spot.call < length (callees_of graph spot.node)
  call_within spot p = let t = to spot p in slice_get_within (callees_of graph spot.node) spot.call t.0 t.1

  node_within : (spot : CallSpot) → P spot → spot.node < length graph
  node_within spot p = let t = to spot p in no_call graph spot t.0 t.1

  -- a call of the node is of the kind
  abbrev Has : ℕ → Type 0
  Has node = (call : ℕ) × P (spot_of node call)

  first_in : (node : ℕ) → Least (λ call. P (spot_of node call)) 0 (length (callees_of graph node)) ⊎ (Has node → ⊥)
  first_in node = elim (least (λ call. P (spot_of node call)) (λ call. kind_decided (spot_of node call)) (length (callees_of graph node)) 0) [
    | inl l ↦ inl l
    | inr none ↦ inr (λ h. none h.0 (omega arith) (omega (arith, call_within (spot_of node h.0) h.1)) h.1)
  ]

  has_decided : (node : ℕ) → Decided (Has node)
  has_decided node = elim (first_in node) [ inl l ↦ inl (l.at, l.holds) | inr none ↦ inr none ]

  first_at : (node : ℕ) → Has node → ((j : ℕ) → j < node → Has j → ⊥) → Least (λ call. P (spot_of node call)) 0 (length (callees_of graph node)) → (spot : CallSpot) × IsFirst P spot
  first_at node has none l = (
    spot_of node l.at,
    record {
      holds = l.holds;
      none_before = λ other before p. elim before [
        | inl less ↦ none other.node less (other.call, p)
        | inr same ↦ l.none_before other.call (omega arith) same.1 (subst (λ (v : ℕ). P (spot_of v other.call)) same.0 p)
      ];
    },
  )

  pub first_call : ((spot : CallSpot) × IsFirst P spot) ⊎ ((spot : CallSpot) → P spot → ⊥)
  first_call = elim (least Has has_decided (length graph) 0) [
    | inl n ↦ elim (first_in n.at) [
      | inl l ↦ inl (first_at n.at n.holds (λ j lt h. n.none_before j (omega arith) lt h) l)
      | inr none ↦ absurd (none n.holds)
    ]
    | inr none ↦ inr (λ spot p. none spot.node (omega arith) (omega (arith, node_within spot p)) (spot.call, p))
  ]

-- ---- cycles

pub first_in_cycle : (graph : List (List ℕ)) → ((spot : CallSpot) × IsFirst (IsInCycle graph) spot) ⊎ ((spot : CallSpot) → IsInCycle graph spot → ⊥)
first_in_cycle graph =
    first_call graph (IsInCycle graph) (λ spot w. Reaches graph w spot.node) (λ spot p. (p.callee, p.is_call, p.back)) (λ spot w is back. record { callee = w; is_call = is; back = back })
    (λ spot w exists. reaches_decided graph w spot.node exists)

-- ---- deep chains

-- the marks of the nodes at which a chain of one node more than this begins
beginnings : (graph : List (List ℕ)) (n : ℕ) → (marks : List Bool) × MarksBeginnings graph (n + 1) marks
beginnings graph zero = (replicate (length graph) true, all_begin graph (replicate (length graph) true) refl)
beginnings graph (suc n) =
    let b = beginnings graph n in
    let next : n + 1 + 1 ≡ suc n + 1 = omega arith in
    (callers_of graph b.0, subst (λ (k : ℕ). MarksBeginnings graph k (callers_of graph b.0)) next (callers_begin graph (n + 1) b.0 (callers_of graph b.0) (omega arith) refl b.1))

begins_by : (graph : List (List ℕ)) (count v : ℕ) (marks : List Bool) → MarksBeginnings graph count marks → (b : Bool) → is_marked marks v ≡ b → Decided (BeginsChain graph v count)
begins_by graph count v marks m true is = inl ((m.exactly v).0 is)
begins_by graph count v marks m false is = inr (λ chain. both_ways (is_marked marks v) is ((m.exactly v).1 chain))

begins_decided : (graph : List (List ℕ)) (v n : ℕ) → Decided (BeginsChain graph v (n + 1))
begins_decided graph v n = let b = beginnings graph n in begins_by graph (n + 1) v b.0 b.1 (is_marked b.0 v) refl

pub first_deep : (graph : List (List ℕ)) → ((spot : CallSpot) × IsFirst (IsDeep graph) spot) ⊎ ((spot : CallSpot) → IsDeep graph spot → ⊥)
first_deep graph =
    first_call graph (IsDeep graph) (λ spot w. BeginsChain graph w 32) (λ spot p. (p.callee, p.is_call, p.chain)) (λ spot w is chain. record { callee = w; is_call = is; chain = chain })
    (λ spot w exists. begins_decided graph w 31)
