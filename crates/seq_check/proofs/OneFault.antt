-- A set is valid, or has one first fault.
use Rattle.std.proofs.Common.{◌≡◌, ◌∙◌, sym, ap, subst, ℕ, ◌<◌, slice_get, Some, inl, inr, arith}
use Rattle.std.proofs.lemmas.Bool.{cases_lt}
use Rattle.std.proofs.lemmas.Option.{same_Some}
use Rattle.sequence_resolve.specs.declared.entry.SeqSet.{SeqSet}
use Rattle.sequence_trees.specs.declared.spot.Spot.{Spot}
use Rattle.sequence_trees.specs.Trees.{SetTrees}
use Rattle.sequence_trees.proofs.SetLaws.{one_set, not_both, one_fault}
use Rattle.call_graph.specs.declared.graph.CallSpot.{CallSpot}
use Rattle.call_graph.specs.Spots as graph
use Rattle.code_check.specs.declared.fault.FaultKind.{FaultKind}
use Rattle.code_check.specs.First.{IsFirst}
use Rattle.code_check.proofs.OneFirst.{one_first}
use Rattle.seq_check.specs.SetFaults.{SetFault, is_set_before, FaultInSet}
use Rattle.seq_check.specs.Calls.{call_graph}
use Rattle.seq_check.specs.Valid as valid
use Rattle.seq_check.specs.Valid.{IsCallAt, IsFirstCallFault, spot_of, IsSound, IsFirstOf, IsValid, IsFirstFaultOf}
use Rattle.seq_check.proofs.CheckLemmas.{not_sound}
use Rattle.seq_check.proofs.OrderLaws.{is_set_before-total}

-- ---- two first calls are one

neither : (m n : ℕ) → (m < n → ⊥) → (n < m → ⊥) → m ≡ n
neither m n h j = elim (cases_lt m n) [ inl lt ↦ absurd (h lt) | inr least ↦ elim (cases_lt n m) [ inl lt ↦ absurd (j lt) | inr most ↦ omega arith ] ]

one_spot : (c d : CallSpot) → (graph.IsBefore c d → ⊥) → (graph.IsBefore d c → ⊥) → c ≡ d
one_spot c d h j =
    let node : c.node ≡ d.node = neither c.node d.node (λ lt. h (inl lt)) (λ lt. j (inl lt)) in
    let call : c.call ≡ d.call = neither c.call d.call (λ lt. h (inr (node, lt))) (λ lt. j (inr (sym node, lt))) in
    ap (λ n. record { node = n; call = c.call }) node ∙ ap (λ n. record { node = d.node; call = n }) call

one_first_call : (P : CallSpot → Type 0) (c d : CallSpot) → graph.IsFirst P c → graph.IsFirst P d → c ≡ d
one_first_call P c d h j = one_spot c d (λ before. j.none_before c before h.holds) (λ before. h.none_before d before j.holds)

pub one_place : (set : SetTrees) (c : CallSpot) (spot other : Spot) → IsCallAt set c spot → IsCallAt set c other → spot ≡ other
one_place set c spot other h j =
    let name : h.name ≡ j.name = same_Some h.name j.name (sym h.named ∙ j.named) in
    let calls : h.calls ≡ j.calls = same_Some h.calls j.calls (sym h.has ∙ j.has) in
    let call : h.call ≡ j.call = same_Some h.call j.call (sym h.is_call ∙ ap (λ cs. slice_get cs c.call) calls ∙ j.is_call) in
    h.spot_is ∙ ap (λ n. record { sequence = Some n; path = h.call.path; part = h.call.part; place = h.call.place }) name
    ∙ ap (λ x. record { sequence = Some j.name; path = x.path; part = x.part; place = x.place }) call ∙ sym j.spot_is

there : (set : SetTrees) (c d : CallSpot) (spot other : Spot) → c ≡ d → IsCallAt set c spot → IsCallAt set d other → spot ≡ other
there set c d spot other same h j = one_place set d spot other (subst (λ x. IsCallAt set x spot) same h) j

one_call_fault : (set : SetTrees) (kind other_kind : FaultKind) (spot other : Spot) → IsFirstCallFault set kind spot → IsFirstCallFault set other_kind other → (kind ≡ other_kind) × (spot ≡ other)
one_call_fault set kind other_kind spot other (valid.cycle c first at is) (valid.cycle d second at' was) =
    (is ∙ sym was, there set c d spot other (one_first_call (graph.IsInCycle (call_graph set)) c d first second) at at')
one_call_fault set kind other_kind spot other (valid.cycle c first at is) (valid.deep none d second at' was) = absurd (none c first.holds)
one_call_fault set kind other_kind spot other (valid.deep none c first at is) (valid.cycle d second at' was) = absurd (none d second.holds)
one_call_fault set kind other_kind spot other (valid.deep none c first at is) (valid.deep none' d second at' was) =
    (is ∙ sym was, there set c d spot other (one_first_call (graph.IsDeep (call_graph set)) c d first second) at at')

-- ---- a set that was read

one_set_fault : (set : SetTrees) (f g : SetFault) → IsFirst is_set_before (FaultInSet set) (Some f) → IsFirst is_set_before (FaultInSet set) (Some g) → f ≡ g
one_set_fault set f g h j = same_Some f g (one_first is_set_before (FaultInSet set) (Some f) (Some g) is_set_before-total h j)

one_first_of : (set : SetTrees) (kind other_kind : FaultKind) (spot other : Spot) → IsFirstOf set kind spot → IsFirstOf set other_kind other → (kind ≡ other_kind) × (spot ≡ other)
one_first_of set kind other_kind spot other (valid.in_texts f first is at) (valid.in_texts g second was at') =
    let same : f ≡ g = one_set_fault set f g first second in
    (is ∙ ap (λ x. x.fault.fault.kind) same ∙ sym was, at ∙ ap (spot_of set) same ∙ sym at')
one_first_of set kind other_kind spot other (valid.in_texts f first is at) (valid.in_calls none call) = absurd (none f first.holds)
one_first_of set kind other_kind spot other (valid.in_calls none call) (valid.in_texts f first is at) = absurd (none f first.holds)
one_first_of set kind other_kind spot other (valid.in_calls none call) (valid.in_calls none' call') = one_call_fault set kind other_kind spot other call call'

-- ---- sets

-- a set has one first fault at most
pub one_first_fault : (set : SeqSet) (kind other_kind : FaultKind) (spot other : Spot) → IsFirstFaultOf set kind spot → IsFirstFaultOf set other_kind other → (kind ≡ other_kind) × (spot ≡ other)
one_first_fault set kind other_kind spot other (valid.syntax first is) (valid.syntax second was) = (is ∙ sym was, one_fault set spot other first second)
one_first_fault set kind other_kind spot other (valid.syntax first is) (valid.rules trees reads fault) = absurd (not_both set trees spot reads first)
one_first_fault set kind other_kind spot other (valid.rules trees reads fault) (valid.syntax second was) = absurd (not_both set trees other reads second)
one_first_fault set kind other_kind spot other (valid.rules trees reads fault) (valid.rules trees' reads' fault') =
    let same : trees' ≡ trees = one_set set trees' trees reads' reads in
    one_first_of trees kind other_kind spot other fault (subst (λ t. IsFirstOf t other_kind other) same fault')

-- a valid set has none
pub valid_or_faulty : (set : SeqSet) (kind : FaultKind) (spot : Spot) → IsValid set → IsFirstFaultOf set kind spot → ⊥
valid_or_faulty set kind spot h (valid.syntax first is) = not_both set h.trees spot h.reads first
valid_or_faulty set kind spot h (valid.rules trees reads fault) = not_sound trees kind spot (subst IsSound (one_set set h.trees trees h.reads reads) h.sound) fault
