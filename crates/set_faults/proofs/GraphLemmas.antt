-- All calls of a kind, node after node.
use Rattle.std.proofs.Common.{◌≡◌, ◌∙◌, sym, ap, subst, ℕ, zero, suc, ◌+◌, ◌<◌, ◌≤◌, ◌==◌, nat_lt, ◌&&◌, ◌||◌, Bool, true, false, List, [], ◌∷◌, ◌++◌, length, get_or, refl, arith, append_assoc, true≢false, inl, inr}
use Rattle.std.specs.Prelude.{◌↔◌, Contains, IsTrue}
use Rattle.std.proofs.lemmas.Bool.{cases_lt}
use Rattle.std.proofs.lemmas.Bool.Decides.{nat_tests}
use Rattle.std.proofs.lemmas.List.{append-nil}
use Rattle.std.proofs.lemmas.Option.{slice_get_within, slice_get-get_or, get_or_from_slice_get}
use Rattle.call_graph.specs.declared.graph.CallSpot.{CallSpot}
use Rattle.call_graph.specs.Graph.{callees_of, BeginsChain}
use Rattle.call_graph.specs.Spots as graph
use Rattle.call_graph.specs.Spots.{IsInCycle, IsDeep}
use Rattle.call_graph.specs.Marks.{is_marked, IsInto, Reaches}
use Rattle.call_graph.proofs.Firsts.{spot_of, no_call}
use Rattle.call_graph.proofs.Cycles.{reaches_back, is_call_of_node}
use Rattle.code_check.specs.First.{InEither, here, there}
use Rattle.set_faults.specs.Listed.{IsListOf}
use Rattle.set_faults.specs.Calls.{is_call_before, call_if, Ahead, AtNode, Below, AddsCalls}
use Rattle.set_faults.proofs.ListLemmas.{contains_none, listed_nothing, listed_one, listed_same, listed_two}

-- ---- the order

earlier_node : (c d : CallSpot) → c.node < d.node → is_call_before c d ≡ true
earlier_node c d h = grind (arith, nat_tests)

earlier_call : (c d : CallSpot) → c.node ≡ d.node → c.call < d.call → is_call_before c d ≡ true
earlier_call c d e h = grind (arith, nat_tests)

pub call_one_way : (c d : CallSpot) → is_call_before c d ≡ true → is_call_before d c ≡ true → ⊥
call_one_way c d h j = grind (arith, nat_tests)

pub call_is_before : (c d : CallSpot) → graph.IsBefore c d → is_call_before c d ≡ true
call_is_before c d (inl h) = earlier_node c d h
call_is_before c d (inr h) = earlier_call c d h.0 h.1

same_call : (c : CallSpot) (node call : ℕ) → c.node ≡ node → c.call ≡ call → c ≡ spot_of node call
same_call c node call n k = ap (λ x. record { node = x; call = c.call }) n ∙ ap (λ x. record { node = node; call = x }) k

-- ---- the calls of one node

module _ (P : CallSpot → Type 0) where
  pub no_calls : (node : ℕ) (old : List CallSpot) → AddsCalls (Ahead P node 0) old old
  no_calls node old = record { list = []; is_list = listed_nothing is_call_before (Ahead P node 0) (λ c h. (let lt = h.less in omega (arith, lt))); is_new = sym (append-nil old) }

  ahead_more : (node i : ℕ) (c : CallSpot) → Ahead P node i c → Ahead P node (i + 1) c
  ahead_more node i c h = let lt = h.less in record { node_is = h.node_is; less = omega (arith, lt); holds = h.holds }

  ahead_cases : (node i : ℕ) (c : CallSpot) → Ahead P node (i + 1) c → InEither (Ahead P node i) (λ d. d ≡ spot_of node i) c
  ahead_cases node i c h = (let lt = h.less in elim (cases_lt c.call i) [
    | inl less ↦ here (record { node_is = h.node_is; less = less; holds = h.holds })
    | inr more ↦ there (same_call c node i h.node_is (omega (arith, lt)))
  ])

  pub call_more : (node i : ℕ) (b : Bool) (old mid new : List CallSpot) → (b ≡ true → P (spot_of node i)) → (P (spot_of node i) → b ≡ true) → AddsCalls (Ahead P node i) old mid → new ≡ mid ++ call_if b (spot_of node i)
      → AddsCalls (Ahead P node (i + 1)) old new
  call_more node i true old mid new to from h e =
      let c = spot_of node i in
      let one : IsListOf is_call_before (λ d. d ≡ c) (c ∷ []) = listed_one is_call_before (λ d. d ≡ c) c refl (λ d same. same) in
      let both = listed_two is_call_before (Ahead P node i) (λ d. d ≡ c) h.list (c ∷ []) (λ p q a same. earlier_call p q (a.node_is ∙ sym (ap (λ x. x.node) same)) (subst (λ x. p.call < x) (sym (ap (λ x. x.call) same)) a.less)) h.is_list one in
      record {
        list = h.list ++ c ∷ [];
        is_list = listed_same is_call_before (InEither (Ahead P node i) (λ d. d ≡ c)) (Ahead P node (i + 1)) (h.list ++ c ∷ [])
            (λ d s. elim s [ here a ↦ ahead_more node i d a | there same ↦ subst (Ahead P node (i + 1)) (sym same) (record { node_is = refl; less = omega arith; holds = to refl }) ])
            (λ d a. ahead_cases node i d a) both;
        is_new = e ∙ ap (λ l. l ++ c ∷ []) h.is_new ∙ append_assoc old h.list (c ∷ []);
      }
  call_more node i false old mid new to from h e = record {
    list = h.list;
    is_list = listed_same is_call_before (Ahead P node i) (Ahead P node (i + 1)) h.list (λ d a. ahead_more node i d a)
        (λ d a. elim (ahead_cases node i d a) [ here b ↦ b | there same ↦ absurd (true≢false (sym (from (subst P same a.holds)))) ]) h.is_list;
    is_new = e ∙ append-nil mid ∙ h.is_new;
  }

  pub calls_of_node : (node n : ℕ) (old new : List CallSpot) → ((k : ℕ) → P (spot_of node k) → k < n) → AddsCalls (Ahead P node n) old new → AddsCalls (AtNode P node) old new
  calls_of_node node n old new within h = record {
    list = h.list;
    is_list = listed_same is_call_before (Ahead P node n) (AtNode P node) h.list (λ c a. record { node_is = a.node_is; holds = a.holds })
        (λ c a. record { node_is = a.node_is; less = within c.call (subst P (same_call c node c.call a.node_is refl) a.holds); holds = a.holds }) h.is_list;
    is_new = h.is_new;
  }

  -- ---- the calls of all nodes

  pub none_below : IsListOf is_call_before (Below P 0) []
  none_below = listed_nothing is_call_before (Below P 0) (λ c h. (let lt = h.less in omega (arith, lt)))

  below_more : (node : ℕ) (c : CallSpot) → Below P node c → Below P (node + 1) c
  below_more node c h = let lt = h.less in record { less = omega (arith, lt); holds = h.holds }

  below_cases : (node : ℕ) (c : CallSpot) → Below P (node + 1) c → InEither (Below P node) (AtNode P node) c
  below_cases node c h = (let lt = h.less in elim (cases_lt c.node node) [
    | inl less ↦ here (record { less = less; holds = h.holds })
    | inr more ↦ there (record { node_is = omega (arith, lt); holds = h.holds })
  ])

  pub node_more : (node : ℕ) (old new : List CallSpot) → IsListOf is_call_before (Below P node) old → AddsCalls (AtNode P node) old new → IsListOf is_call_before (Below P (node + 1)) new
  node_more node old new h a =
      let both = listed_two is_call_before (Below P node) (AtNode P node) old a.list (λ p q b n. earlier_node p q (subst (λ x. p.node < x) (sym n.node_is) b.less)) h a.is_list in
      subst (IsListOf is_call_before (Below P (node + 1))) (sym a.is_new)
      (listed_same is_call_before (InEither (Below P node) (AtNode P node)) (Below P (node + 1)) (old ++ a.list)
      (λ c s. elim s [ here b ↦ below_more node c b | there n ↦ record { less = (let e = n.node_is in omega (arith, e)); holds = n.holds } ]) (λ c b. below_cases node c b) both)

  pub none_of_node : (node : ℕ) (old : List CallSpot) → ((k : ℕ) → P (spot_of node k) → ⊥) → AddsCalls (AtNode P node) old old
  none_of_node node old none = record {
    list = [];
    is_list = listed_nothing is_call_before (AtNode P node) (λ c n. none c.call (subst P (same_call c node c.call n.node_is refl) n.holds));
    is_new = sym (append-nil old);
  }

  pub all_nodes : (n : ℕ) (found : List CallSpot) → ((c : CallSpot) → P c → c.node < n) → IsListOf is_call_before (Below P n) found → IsListOf is_call_before P found
  all_nodes n found within h = listed_same is_call_before (Below P n) P found (λ c b. b.holds) (λ c p. record { less = within c p; holds = p }) h

-- ---- calls that lead back

pub not_marked : (marks : List Bool) (node : ℕ) → is_marked marks node ≡ false → is_marked marks node ≡ true → ⊥
not_marked marks node off on = true≢false (sym on ∙ off)

pub is_back : (graph : List (List ℕ)) (node k : ℕ) (b : Bool) → k < length (callees_of graph node) → (IsTrue b ↔ Reaches graph (get_or (callees_of graph node) k 0) node) → b ≡ true → IsInCycle graph (spot_of node k)
is_back graph node k true lt h e = record { callee = get_or (callees_of graph node) k 0; is_call = slice_get-get_or (callees_of graph node) k 0 lt; back = h.0 refl }
is_back graph node k false lt h e = absurd (true≢false (sym e))

pub back_is : (graph : List (List ℕ)) (node k : ℕ) (b : Bool) → k < length (callees_of graph node) → (IsTrue b ↔ Reaches graph (get_or (callees_of graph node) k 0) node) → IsInCycle graph (spot_of node k) → b ≡ true
back_is graph node k b lt h back = h.1 (reaches_back graph node k lt back)

pub cycle_within : (graph : List (List ℕ)) (c : CallSpot) → IsInCycle graph c → c.node < length graph
cycle_within graph c h = no_call graph c h.callee h.is_call

-- ---- calls of marked nodes

pub into_within : (graph : List (List ℕ)) (marks : List Bool) (node k : ℕ) → IsInto graph marks (spot_of node k) → k < length (callees_of graph node)
into_within graph marks node k h = slice_get_within (callees_of graph node) k h.callee h.is_call

pub is_into : (graph : List (List ℕ)) (marks : List Bool) (node k : ℕ) → k < length (callees_of graph node) → is_marked marks (get_or (callees_of graph node) k 0) ≡ true → IsInto graph marks (spot_of node k)
is_into graph marks node k lt e = record { callee = get_or (callees_of graph node) k 0; is_call = slice_get-get_or (callees_of graph node) k 0 lt; marked = e }

pub into_is : (graph : List (List ℕ)) (marks : List Bool) (node k : ℕ) → IsInto graph marks (spot_of node k) → is_marked marks (get_or (callees_of graph node) k 0) ≡ true
into_is graph marks node k h = subst (λ w. is_marked marks w ≡ true) (sym (get_or_from_slice_get (callees_of graph node) k h.callee 0 h.is_call)) h.marked

pub into_node : (graph : List (List ℕ)) (marks : List Bool) (c : CallSpot) → IsInto graph marks c → c.node < length graph
into_node graph marks c h = no_call graph c h.callee h.is_call

-- the calls of the nodes at which a chain of 32 nodes begins are those that begin one of 33
pub into_deep : (graph : List (List ℕ)) (marks : List Bool) (found : List CallSpot) → ((v : ℕ) → (is_marked marks v ≡ true) ↔ BeginsChain graph v 32)
    → IsListOf is_call_before (IsInto graph marks) found → IsListOf is_call_before (IsDeep graph) found
into_deep graph marks found exactly h =
    listed_same is_call_before (IsInto graph marks) (IsDeep graph) found
    (λ c into. record { callee = into.callee; is_call = into.is_call; chain = (exactly into.callee).0 into.marked })
    (λ c deep. record { callee = deep.callee; is_call = deep.is_call; marked = (exactly deep.callee).1 deep.chain }) h

-- ---- turns of the loops

pub back_more : (graph : List (List ℕ)) (node i : ℕ) (callees : List ℕ) (b : Bool) (old mid new : List CallSpot) → callees ≡ callees_of graph node → i < length callees → (IsTrue b ↔ Reaches graph (get_or callees i 0) node)
    → AddsCalls (Ahead (IsInCycle graph) node i) old mid → new ≡ mid ++ call_if b (spot_of node i) → AddsCalls (Ahead (IsInCycle graph) node (i + 1)) old new
back_more graph node i callees b old mid new is lt h inv e =
    let lt' : i < length (callees_of graph node) = subst (λ xs. i < length xs) is lt in
    let h' : IsTrue b ↔ Reaches graph (get_or (callees_of graph node) i 0) node = subst (λ xs. IsTrue b ↔ Reaches graph (get_or xs i 0) node) is h in
    call_more (IsInCycle graph) node i b old mid new (is_back graph node i b lt' h') (back_is graph node i b lt' h') inv e

pub back_done : (graph : List (List ℕ)) (node i : ℕ) (callees : List ℕ) (old new : List CallSpot) → callees ≡ callees_of graph node → length callees ≤ i
    → AddsCalls (Ahead (IsInCycle graph) node i) old new → AddsCalls (AtNode (IsInCycle graph) node) old new
back_done graph node i callees old new is past h = calls_of_node (IsInCycle graph) node i old new (λ k p. (let lt = is_call_of_node graph node k p in omega (arith, lt, ap length is, past))) h

pub into_more : (graph : List (List ℕ)) (marks : List Bool) (node i : ℕ) (callees : List ℕ) (b : Bool) (old mid new : List CallSpot) → callees ≡ callees_of graph node → i < length callees → b ≡ is_marked marks (get_or callees i 0)
    → AddsCalls (Ahead (IsInto graph marks) node i) old mid → new ≡ mid ++ call_if b (spot_of node i) → AddsCalls (Ahead (IsInto graph marks) node (i + 1)) old new
into_more graph marks node i callees b old mid new is lt h inv e =
    let lt' : i < length (callees_of graph node) = subst (λ xs. i < length xs) is lt in
    let h' : b ≡ is_marked marks (get_or (callees_of graph node) i 0) = subst (λ xs. b ≡ is_marked marks (get_or xs i 0)) is h in
    call_more (IsInto graph marks) node i b old mid new (λ yes. is_into graph marks node i lt' (sym h' ∙ yes)) (λ into. h' ∙ into_is graph marks node i into) inv e

pub into_done : (graph : List (List ℕ)) (marks : List Bool) (node i : ℕ) (callees : List ℕ) (old new : List CallSpot) → callees ≡ callees_of graph node → length callees ≤ i
    → AddsCalls (Ahead (IsInto graph marks) node i) old new → AddsCalls (AtNode (IsInto graph marks) node) old new
into_done graph marks node i callees old new is past h = calls_of_node (IsInto graph marks) node i old new (λ k p. (let lt = into_within graph marks node k p in omega (arith, lt, ap length is, past))) h
