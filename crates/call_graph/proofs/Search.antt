-- A search for a target from one node, over what is already known not to lead there.
use Rattle.std.proofs.Common.{◌≡◌, ◌≢◌, ◌<◌, ◌+◌, ℕ, suc, zero, Bool, true, false, List, [], ◌∷◌, ◌++◌, length, get_or, set, length-append, refl, ap, subst, sym, ◌∙◌, arith, inl, inr, ◌⊎◌}
use Rattle.std.specs.Prelude.{Contains}
use Rattle.std.proofs.lemmas.List.{length-set, get_or-set_same, get_or-set_other, set-get_or, set_past}
use Rattle.std.proofs.lemmas.List.Elements.{Contains-push, Contains-push_cases, Contains-append_left, Contains-append_right, Contains-append_cases}
use Rattle.std.proofs.lemmas.Bool.{cases_lt}
use Rattle.std.proofs.lemmas.Bool.Decides.{eqb_tells}
use Rattle.call_graph.specs.Graph.{callees_of, Calls, Leads}
use Rattle.call_graph.specs.Marks.{is_marked, Reaches, Avoids}
use Rattle.call_graph.proofs.Cycles.{leader_is_node}

-- the node is marked, or waits for its turn
abbrev pub Known : List Bool → List ℕ → ℕ → Type 0
Known seen work v = (is_marked seen v ≡ true) ⊎ Contains work v

pub record Searching (graph : List (List ℕ)) (from target : ℕ) (seen : List Bool) (work : List ℕ) : Type 0 where
  pub size : length seen ≡ length graph
  pub apart : is_marked seen target ≡ false
  pub reached : (v : ℕ) → Contains work v → v < length graph → Reaches graph from v
  pub closed : (v w : ℕ) → is_marked seen v ≡ true → Calls graph v w → Known seen work w
  pub begun : from < length graph → Known seen work from

none_in_empty : (v : ℕ) → Contains [] v → ⊥
none_in_empty v h = omega (arith, h.1)

only_one : (w v : ℕ) → Contains (w ∷ []) v → w ≡ v
only_one w v h = at h.0 h.1 h.2
  where
    at : (k : ℕ) → k < 1 → get_or (w ∷ []) k v ≡ v → w ≡ v
    at zero lt e = e
    at (suc k) lt e = absurd (omega arith)

pub search_begins : (graph : List (List ℕ)) (from target : ℕ) (seen : List Bool) → Avoids graph target seen → Searching graph from target seen (from ∷ [])
search_begins graph from target seen h = record {
  size = h.size;
  apart = h.apart;
  reached = λ v among exists. inl (only_one from v among);
  closed = λ v w marked calls. inl (h.closed v w marked calls);
  begun = λ exists. inr (0, omega arith, refl);
}

-- a node that was no node, or had a mark, is done with
is_known : (seen : List Bool) (rest : List ℕ) (node v : ℕ) → (node < length seen × (is_marked seen node ≡ false) → ⊥) → v < length seen → Known seen (rest ++ node ∷ []) v → Known seen rest v
is_known seen rest node v stale exists (inl marked) = inl marked
is_known seen rest node v stale exists (inr among) = elim (Contains-push_cases rest node v among) [
  | inl there ↦ inr there
  | inr same ↦ at (is_marked seen v) refl same
]
  where
    at : (t : Bool) → is_marked seen v ≡ t → node ≡ v → Known seen rest v
    at true e same = inl e
    at false e same = absurd (stale (rw same exists, rw same e))

pub passes_over : (graph : List (List ℕ)) (from target node : ℕ) (seen : List Bool) (rest : List ℕ) → (node < length seen × (is_marked seen node ≡ false) → ⊥)
    → Searching graph from target seen (rest ++ node ∷ []) → Searching graph from target seen rest
passes_over graph from target node seen rest stale h = record {
  size = h.size;
  apart = h.apart;
  reached = λ v among exists. h.reached v (Contains-append_left rest (node ∷ []) v among) exists;
  closed = λ v w marked calls. is_known seen rest node w stale (rw h.size calls.exists) (h.closed v w marked calls);
  begun = λ exists. is_known seen rest node from stale (rw h.size exists) (h.begun exists);
}

pub mark_stays : (seen : List Bool) (node : ℕ) → (node < length seen × (is_marked seen node ≡ false) → ⊥) → set seen node true ≡ seen
mark_stays seen node stale = at (is_marked seen node) refl
  where
    at : (t : Bool) → is_marked seen node ≡ t → set seen node true ≡ seen
    at true e = subst (λ (b : Bool). set seen node b ≡ seen) e (set-get_or seen node false)
    at false e = elim (cases_lt node (length seen)) [ inl lt ↦ absurd (stale (lt, e)) | inr past ↦ set_past seen node true past ]

marked_more : (seen : List Bool) (node v : ℕ) → node < length seen → is_marked seen v ≡ true → is_marked (set seen node true) v ≡ true
marked_more seen node v lt h = elim (eqb_tells v node) [
  | inl same ↦ rw same.1 (get_or-set_same seen node true false lt)
  | inr other ↦ get_or-set_other seen node v true false other.1 ∙ h
]

still_known : (seen : List Bool) (rest more : List ℕ) (node v : ℕ) → node < length seen → Known seen (rest ++ node ∷ []) v → Known (set seen node true) (rest ++ more) v
still_known seen rest more node v lt (inl marked) = inl (marked_more seen node v lt marked)
still_known seen rest more node v lt (inr among) = elim (Contains-push_cases rest node v among) [
  | inl there ↦ inr (Contains-append_left rest more v there)
  | inr same ↦ inl (rw (← same) (get_or-set_same seen node true false lt))
]

reaches_on : (graph : List (List ℕ)) (from node v : ℕ) → Reaches graph from node → Calls graph node v → Reaches graph from v
reaches_on graph from node v (inl same) calls = inr (Leads.call (rw same calls))
reaches_on graph from node v (inr leads) calls = inr (lead_on leads)
  where
    lead_on : {u : ℕ} → Leads graph u node → Leads graph u v
    lead_on (Leads.call h) = Leads.onward h (Leads.call calls)
    lead_on (Leads.onward h further) = Leads.onward h (lead_on further)

pub goes_on : (graph : List (List ℕ)) (from target node : ℕ) (seen : List Bool) (rest : List ℕ) → node ≢ target → node < length seen
    → Searching graph from target seen (rest ++ node ∷ []) → Searching graph from target (set seen node true) (rest ++ callees_of graph node)
goes_on graph from target node seen rest other lt h = record {
  size = length-set seen node true ∙ h.size;
  apart = get_or-set_other seen node target true false (λ e. other (sym e)) ∙ h.apart;
  reached = λ v among exists. elim (Contains-append_cases rest (callees_of graph node) v among) [
    | inl there ↦ h.reached v (Contains-append_left rest (node ∷ []) v there) exists
    | inr callee ↦ reaches_on graph from node v (h.reached node (Contains-push rest node) (rw (← h.size) lt)) (record { callee = callee; exists = exists })
  ];
  closed = λ v w marked calls. elim (eqb_tells v node) [
    | inl same ↦ inr (Contains-append_right rest (callees_of graph node) w (subst (λ (x : ℕ). Contains (callees_of graph x) w) same.1 calls.callee))
    | inr apart ↦ still_known seen rest (callees_of graph node) node w lt (h.closed v w (sym (get_or-set_other seen node v true false apart.1) ∙ marked) calls)
  ];
  begun = λ exists. still_known seen rest (callees_of graph node) node from lt (h.begun exists);
}

pub target_reached : (graph : List (List ℕ)) (from target node : ℕ) (seen : List Bool) (rest : List ℕ) → node ≡ target → target < length graph → Searching graph from target seen (rest ++ node ∷ []) → Reaches graph from target
target_reached graph from target node seen rest same exists h = h.reached target (subst (λ (v : ℕ). Contains (rest ++ node ∷ []) v) same (Contains-push rest node)) exists

in_empty : (seen : List Bool) (v : ℕ) → Known seen [] v → is_marked seen v ≡ true
in_empty seen v (inl marked) = marked
in_empty seen v (inr among) = absurd (none_in_empty v among)

pub avoids : (graph : List (List ℕ)) (from target : ℕ) (seen : List Bool) → Searching graph from target seen [] → Avoids graph target seen
avoids graph from target seen h = record { size = h.size; closed = λ v w marked calls. in_empty seen w (h.closed v w marked calls); apart = h.apart }

led_is_marked : (graph : List (List ℕ)) (target : ℕ) (seen : List Bool) → Avoids graph target seen → (v w : ℕ) → is_marked seen v ≡ true → Leads graph v w → is_marked seen w ≡ true
led_is_marked graph target seen h v w marked (Leads.call calls) = h.closed v w marked calls
led_is_marked graph target seen h v w marked (Leads.onward {u = u} calls further) = led_is_marked graph target seen h u w (h.closed v u marked calls) further

pub never_reached : (graph : List (List ℕ)) (from target : ℕ) (seen : List Bool) → target < length graph → Searching graph from target seen [] → Reaches graph from target → ⊥
never_reached graph from target seen exists h (inl same) =
    let marked : is_marked seen target ≡ true = subst (λ (v : ℕ). is_marked seen v ≡ true) same (in_empty seen from (h.begun (rw same exists))) in
    let e = h.apart in absurd (cc)
never_reached graph from target seen exists h (inr leads) =
    let marked = led_is_marked graph target seen (avoids graph from target seen h) from target (in_empty seen from (h.begun (leader_is_node graph from target leads))) leads in
    let e = h.apart in absurd (cc)

-- ---- the measure: the nodes that wait, and the calls of the nodes without a mark

pub left : List (List ℕ) → List Bool → ℕ
left [] seen = 0
left (cs ∷ graph) [] = 0
left (cs ∷ graph) (true ∷ seen) = left graph seen
left (cs ∷ graph) (false ∷ seen) = 1 + length cs + left graph seen

pub left-set : (graph : List (List ℕ)) (seen : List Bool) (node : ℕ) → length seen ≡ length graph → node < length seen → is_marked seen node ≡ false
    → left graph (set seen node true) + 1 + length (callees_of graph node) ≡ left graph seen
unfolding left
left-set [] seen node e lt h = absurd (omega arith)
left-set (cs ∷ graph) [] node e lt h = absurd (omega arith)
left-set (cs ∷ graph) (true ∷ seen) zero e lt h = cc
left-set (cs ∷ graph) (false ∷ seen) zero e lt h = omega arith
left-set (cs ∷ graph) (true ∷ seen) (suc node) e lt h = left-set graph seen node (omega arith) (omega arith) h
left-set (cs ∷ graph) (false ∷ seen) (suc node) e lt h = omega (arith, left-set graph seen node (omega arith) (omega arith) h)

-- ---- one turn of the search

pub turn_over : (graph : List (List ℕ)) (from target node : ℕ) (seen : List Bool) (work rest : List ℕ) → work ≡ rest ++ node ∷ [] → (node < length seen × (is_marked seen node ≡ false) → ⊥)
    → Searching graph from target seen work → Searching graph from target seen rest
turn_over graph from target node seen work rest popped stale h = passes_over graph from target node seen rest stale (subst (Searching graph from target seen) popped h)

pub turn_over-less : (graph : List (List ℕ)) (node : ℕ) (seen : List Bool) (work rest : List ℕ) → work ≡ rest ++ node ∷ [] → length rest + left graph seen < length work + left graph seen
turn_over-less graph node seen work rest popped = omega (arith, ap length popped, length-append rest (node ∷ []))

pub turn_on : (graph : List (List ℕ)) (from target node : ℕ) (seen : List Bool) (work rest more after : List ℕ) → work ≡ rest ++ node ∷ [] → more ≡ callees_of graph node → after ≡ rest ++ more → node ≢ target → node < length seen
    → Searching graph from target seen work → Searching graph from target (set seen node true) after
turn_on graph from target node seen work rest more after popped callees appended other lt h =
    let e : rest ++ callees_of graph node ≡ after = sym (appended ∙ ap (λ (m : List ℕ). rest ++ m) callees) in
    subst (Searching graph from target (set seen node true)) e (goes_on graph from target node seen rest other lt (subst (Searching graph from target seen) popped h))

pub turn_on-less : (graph : List (List ℕ)) (node : ℕ) (seen : List Bool) (work rest more after : List ℕ) → work ≡ rest ++ node ∷ [] → more ≡ callees_of graph node → after ≡ rest ++ more → length seen ≡ length graph → node < length seen → is_marked seen node ≡ false
    → length after + left graph (set seen node true) < length work + left graph seen
turn_on-less graph node seen work rest more after popped callees appended size lt unmarked =
    omega (arith, ap length popped, length-append rest (node ∷ []), ap length appended, length-append rest more, ap length callees, left-set graph seen node size lt unmarked)
