-- The first call of a kind.
use Rattle.std.proofs.Common.{◌≡◌, ◌<◌, ◌≤◌, ◌+◌, ℕ, Bool, true, false, cond, ltb, List, Option, Some, None, length, get_or, refl, subst, sym, arith, inl, inr}
use Rattle.std.specs.Prelude.{◌↔◌, position}
use Rattle.std.specs.List.{position_or_len}
use Rattle.std.proofs.lemmas.List.Sums.{fails_before_first}
use Rattle.std.proofs.lemmas.List.Quantifiers.{position-Some}
use Rattle.std.proofs.lemmas.Option.{slice_get_within, slice_get-get_or, get_or_from_slice_get}
use Rattle.std.proofs.lemmas.Bool.{cases_lt}
use Rattle.call_graph.specs.declared.graph.CallSpot.{CallSpot}
use Rattle.call_graph.specs.Graph.{callees_of, BeginsChain}
use Rattle.call_graph.specs.Spots.{IsCallOf, IsFirst, FindsFirst, IsDeep}
use Rattle.call_graph.specs.Marks.{is_marked, IsInto, FindsFirstIn}
use Rattle.call_graph.proofs.Chains.{is_node}

-- no call of a node below this one is of the kind
pub record NoneBelow (P : CallSpot → Type 0) (node : ℕ) : Type 0 where
  pub none : (spot : CallSpot) → spot.node < node → P spot → ⊥

pub none_below_zero : (P : CallSpot → Type 0) → NoneBelow P 0
none_below_zero P = record { none = λ spot h p. omega arith }

abbrev pub spot_of : ℕ → ℕ → CallSpot
spot_of v k = record { node = v; call = k }

at_node : (P : CallSpot → Type 0) (node : ℕ) (spot : CallSpot) → spot.node ≡ node → P spot → P (spot_of node spot.call)
at_node P node spot e p = subst (λ (v : ℕ). P (spot_of v spot.call)) e p

pub none_below_more : (P : CallSpot → Type 0) (node : ℕ) → NoneBelow P node → ((k : ℕ) → P (spot_of node k) → ⊥) → NoneBelow P (node + 1)
none_below_more P node below here = record {
  none = λ spot lt p. elim (cases_lt spot.node node) [
    | inl less ↦ below.none spot less p
    | inr more ↦ let e : spot.node ≡ node = omega arith in here spot.call (at_node P node spot e p)
  ];
}

pub first_of : (P : CallSpot → Type 0) (node call : ℕ) → NoneBelow P node → P (spot_of node call) → ((k : ℕ) → k < call → P (spot_of node k) → ⊥) → IsFirst P (spot_of node call)
first_of P node call below here none = record {
  holds = here;
  none_before = λ other before p. elim before [
    | inl less ↦ below.none other less p
    | inr same ↦ none other.call same.1 (at_node P node other same.0 p)
  ];
}

pub no_call : (graph : List (List ℕ)) (spot : CallSpot) (w : ℕ) → IsCallOf graph spot w → spot.node < length graph
no_call graph spot w h = is_node graph spot.node spot.call (slice_get_within (callees_of graph spot.node) spot.call w h)

-- the same of two kinds that hold of the same calls
pub finds_alike : (P Q : CallSpot → Type 0) → ((spot : CallSpot) → P spot → Q spot) → ((spot : CallSpot) → Q spot → P spot) → (r : Option CallSpot) → FindsFirst P r → FindsFirst Q r
finds_alike P Q to from None h = λ spot q. h spot (from spot q)
finds_alike P Q to from (Some spot) h = record { holds = to spot h.holds; none_before = λ other before q. h.none_before other before (from other q) }

-- ---- into marked nodes

position_none_at : (a b : ℕ) (t : Bool) → ltb a b ≡ t → ◌≡◌ {A = Option ℕ} (cond t (Some a) None) None → b ≤ a
position_none_at a b true e h = cc
position_none_at a b false e h = elim (cases_lt a b) [ inl less ↦ grind (arith, e) | inr more ↦ more ]

position-None : (p : ℕ → Bool) (xs : List ℕ) → position p xs ≡ None → (k d : ℕ) → k < length xs → p (get_or xs k d) ≡ false
position-None p xs h k d lt =
    let past = position_none_at (position_or_len p xs) (length xs) (ltb (position_or_len p xs) (length xs)) refl h in
    let below : k < position_or_len p xs = omega arith in fails_before_first p xs k d below

unmarked : (graph : List (List ℕ)) (marks : List Bool) (node k : ℕ) → is_marked marks (get_or (callees_of graph node) k 0) ≡ false → IsInto graph marks (spot_of node k) → ⊥
unmarked graph marks node k h into =
    let e = get_or_from_slice_get (callees_of graph node) k into.callee 0 into.is_call in
    let f : is_marked marks into.callee ≡ false = subst (λ (w : ℕ). is_marked marks w ≡ false) e h in
    let m = into.marked in absurd (cc)

pub into_first : (graph : List (List ℕ)) (marks : List Bool) (node : ℕ) (r : Option ℕ) → r ≡ position (is_marked marks) (callees_of graph node) → FindsFirstIn (IsInto graph marks) node r
into_first graph marks node None e = λ k into.
    let lt = slice_get_within (callees_of graph node) k into.callee into.is_call in
    unmarked graph marks node k (position-None (is_marked marks) (callees_of graph node) (sym e) k 0 lt) into
into_first graph marks node (Some i) e =
    let first = position-Some (is_marked marks) (callees_of graph node) i 0 (sym e) in (
      record { callee = get_or (callees_of graph node) i 0; is_call = slice_get-get_or (callees_of graph node) i 0 first.0; marked = first.1 },
      λ k lt into. unmarked graph marks node k (first.2 k lt) into,
    )

-- the first call of a node at which a chain of 32 nodes begins is the first that begins one of 33
pub into_deep : (graph : List (List ℕ)) (marks : List Bool) → ((v : ℕ) → (is_marked marks v ≡ true) ↔ BeginsChain graph v 32) → (r : Option CallSpot) → FindsFirst (IsInto graph marks) r → FindsFirst (IsDeep graph) r
into_deep graph marks exactly r first = finds_alike (IsInto graph marks) (IsDeep graph)
    (λ spot into. record { callee = into.callee; is_call = into.is_call; chain = (exactly into.callee).0 into.marked })
    (λ spot deep. record { callee = deep.callee; is_call = deep.is_call; marked = (exactly deep.callee).1 deep.chain })
    r first
