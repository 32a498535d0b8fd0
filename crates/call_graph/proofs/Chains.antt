-- Chains of one node more begin at those who call the beginning of a chain.
use Rattle.std.proofs.Common.{◌≡◌, ◌<◌, ◌≤◌, ◌+◌, ℕ, suc, zero, Bool, true, false, List, [], ◌∷◌, length, replicate, refl, sym, ◌∙◌, arith}
use Rattle.std.specs.Prelude.{◌↔◌}
use Rattle.std.specs.List.{list_any}
use Rattle.std.proofs.lemmas.List.{get_or-replicate}
use Rattle.std.proofs.lemmas.List.Folds.{Any-from_list_any, list_any-from_Any}
use Rattle.std.proofs.Math.ListN as lists
use Rattle.call_graph.specs.Graph.{callees_of, Calls, IsChain, BeginsChain, Leads}
use Rattle.call_graph.specs.Marks.{is_marked, callers_of}

-- only a node has callees
pub is_node : (graph : List (List ℕ)) (v k : ℕ) → k < length (callees_of graph v) → v < length graph
is_node [] v k h = absurd (omega arith)
is_node (cs ∷ graph) zero k h = omega arith
is_node (cs ∷ graph) (suc v) k h = omega (arith, is_node graph v k h)

pub caller_is_node : (graph : List (List ℕ)) (v w : ℕ) → Calls graph v w → v < length graph
caller_is_node graph v w h = is_node graph v h.callee.0 h.callee.1

pub chain_is_node : (graph : List (List ℕ)) (v : ℕ) (ws : List ℕ) → IsChain graph v ws → v < length graph
chain_is_node graph v [] h = h
chain_is_node graph v (w ∷ ws) h = caller_is_node graph v w h.0

-- the marks are those of the nodes at which a chain of so many nodes begins
pub record MarksBeginnings (graph : List (List ℕ)) (count : ℕ) (marks : List Bool) : Type 0 where
  pub exactly : (v : ℕ) → (is_marked marks v ≡ true) ↔ BeginsChain graph v count

alone : (graph : List (List ℕ)) (v : ℕ) (ws : List ℕ) → IsChain graph v ws → 1 + length ws ≡ 1 → v < length graph
alone graph v [] h e = h
alone graph v (w ∷ ws) h e = absurd (omega arith)

replicate_marked : (n v : ℕ) → is_marked (replicate n true) v ≡ true → v < n
replicate_marked zero v h = cc
replicate_marked (suc n) zero h = omega arith
replicate_marked (suc n) (suc v) h = omega (arith, replicate_marked n v h)

pub all_begin : (graph : List (List ℕ)) (marks : List Bool) → marks ≡ replicate (length graph) true → MarksBeginnings graph 1 marks
all_begin graph marks e = record {
  exactly = λ v. (
    λ h. record { others = []; is_chain = replicate_marked (length graph) v (rw (← e) h); size = refl },
    λ b. let lt = alone graph v b.others b.is_chain b.size in rw e (get_or-replicate (length graph) v true false lt),
  );
}

caller_marked : (graph : List (List ℕ)) (marks : List Bool) (v : ℕ) → is_marked (callers_of graph marks) v ≡ list_any (is_marked marks) (callees_of graph v)
caller_marked graph marks v = lists.get_or-map (λ (callees : List ℕ). list_any (is_marked marks) callees) graph v []

begins_more : (graph : List (List ℕ)) (count : ℕ) (marks : List Bool) → MarksBeginnings graph count marks → (v : ℕ) → list_any (is_marked marks) (callees_of graph v) ≡ true → BeginsChain graph v (count + 1)
begins_more graph count marks m v h =
    let any = Any-from_list_any (is_marked marks) (callees_of graph v) h in
    let w = any.1 in
    let chain = (m.exactly w).0 any.4 in
    record { others = w ∷ chain.others; is_chain = (record { callee = (any.0, any.2, any.3); exists = chain_is_node graph w chain.others chain.is_chain }, chain.is_chain); size = omega (arith, chain.size) }

calls_beginning : (graph : List (List ℕ)) (count : ℕ) (marks : List Bool) → 1 ≤ count → MarksBeginnings graph count marks → (v : ℕ) (ws : List ℕ) → IsChain graph v ws → 1 + length ws ≡ count + 1
    → list_any (is_marked marks) (callees_of graph v) ≡ true
calls_beginning graph count marks some m v [] h e = absurd (omega arith)
calls_beginning graph count marks some m v (w ∷ ws) h e =
    let marked = (m.exactly w).1 (record { others = ws; is_chain = h.1; size = omega arith }) in
    list_any-from_Any (is_marked marks) (callees_of graph v) (h.0.callee.0, w, h.0.callee.1, h.0.callee.2, marked)

pub callers_begin : (graph : List (List ℕ)) (count : ℕ) (marks callers : List Bool) → 1 ≤ count → callers ≡ callers_of graph marks → MarksBeginnings graph count marks → MarksBeginnings graph (count + 1) callers
callers_begin graph count marks callers some e m = record {
  exactly = λ v. (
    λ h. begins_more graph count marks m v (sym (caller_marked graph marks v) ∙ rw (← e) h),
    λ b. rw e (caller_marked graph marks v ∙ calls_beginning graph count marks some m v b.others b.is_chain b.size),
  );
}

-- a walk that leads into a cycle goes on for any number of calls
pub endless : (graph : List (List ℕ)) (k v w : ℕ) → Leads graph w w → Leads graph v w → (ws : List ℕ) × IsChain graph v ws × (length ws ≡ k)
endless graph zero v w cycle (Leads.call h) = ([], caller_is_node graph v w h, refl)
endless graph zero v w cycle (Leads.onward {u = u} h leads) = ([], caller_is_node graph v u h, refl)
endless graph (suc k) v w cycle (Leads.call h) = let rest = endless graph k w w cycle cycle in (w ∷ rest.0, (h, rest.1), omega (arith, rest.2))
endless graph (suc k) v w cycle (Leads.onward {u = u} h leads) = let rest = endless graph k u w cycle leads in (u ∷ rest.0, (h, rest.1), omega (arith, rest.2))

pub begins_any : (graph : List (List ℕ)) (k v w : ℕ) → Leads graph w w → Leads graph v w → BeginsChain graph v (1 + k)
begins_any graph k v w cycle leads = let chain = endless graph k v w cycle leads in record { others = chain.0; is_chain = chain.1; size = omega (arith, chain.2) }
