-- The faults of a set by phases: one answer, whose head is the first fault, and which is empty where the set is valid.
use Rattle.std.proofs.Common.{◌≡◌, ◌∙◌, sym, ap, subst, ℕ, zero, suc, ◌+◌, ◌<◌, ◌≤◌, true, List, [], ◌∷◌, ◌++◌, length, take, get_or, refl, Result, Ok, Err, IfOk, inl, inr, ◌⊎◌, arith}
use Rattle.std.specs.Prelude.{◌↔◌, ◌≢◌, Contains}
use Rattle.std.proofs.lemmas.List.{take_more, take_all}
use Rattle.dap_base.specs.declared.text.OutOfMemory.{OutOfMemory}
use Rattle.sequence_resolve.specs.declared.entry.SeqSet.{SeqSet}
use Rattle.sequence_trees.specs.declared.spot.Spot.{Spot}
use Rattle.sequence_trees.specs.Trees.{SetTrees}
use Rattle.sequence_trees.specs.Reading.{ReadsSet}
use Rattle.sequence_trees.specs.Order.{IsFirstFault}
use Rattle.sequence_trees.proofs.SetLaws.{one_set, not_both}
use Rattle.call_graph.specs.declared.graph.CallSpot.{CallSpot}
use Rattle.call_graph.specs.Spots as graph
use Rattle.code_check.specs.declared.fault.FaultKind.{FaultKind}
use Rattle.code_check.specs.declared.fault.FaultKind.TheVariants as k
use Rattle.seq_check.specs.Calls.{call_graph}
use Rattle.seq_check.specs.Valid as valid
use Rattle.seq_check.specs.Valid.{IsCallAt, IsValid, IsFirstOf, IsFirstFaultOf}
use Rattle.seq_check.proofs.OneFault.{one_place, valid_or_faulty}
use Rattle.set_faults.specs.declared.site.Fault.{Fault}
use Rattle.set_faults.specs.declared.phase.Phase.{Phase}
use Rattle.set_faults.specs.declared.phase.Phase.TheVariants as phases
use Rattle.set_faults.specs.declared.phase.SetFaults.{SetFaults}
use Rattle.set_faults.specs.Listed.{IsListOf}
use Rattle.set_faults.specs.Syntax.{AreSyntaxFaults}
use Rattle.set_faults.specs.Rules.{AreRuleFaults}
use Rattle.set_faults.specs.Calls.{is_call_before, IsFaultAt, AreCallsAt, AreCallFaults, AreCycles, AreDeepCalls, AreCalls}
use Rattle.set_faults.specs.Answers.{AreReadFaults, AreFaultsIn, AreSetFaults, AreReadSetFaults}
use Rattle.set_faults.proofs.ListLemmas.{contains_none, contains_cases, contains_first, all_at, one_list}
use Rattle.set_faults.proofs.SyntaxLaws.{one_syntax_list, first_at_head, first_is_head, some_listed}
use Rattle.set_faults.proofs.OneList as rules
use Rattle.set_faults.proofs.GraphLemmas.{call_one_way, call_is_before}

-- ---- calls as faults

-- what stands after the end of a list of calls
abbrev pub no_call : CallSpot
no_call = record { node = 0; call = 0 }

-- an item is the same, whatever stands after the end
pub one_item : (calls : List CallSpot) (i : ℕ) (d : CallSpot) → i < length calls → get_or calls i d ≡ get_or calls i no_call
one_item [] i d h = absurd (omega arith)
one_item (c ∷ calls) zero d h = refl
one_item (c ∷ calls) (suc i) d h = one_item calls i d (omega arith)

at_more : (set : SetTrees) (kind : FaultKind) (calls : List CallSpot) (c : CallSpot) (fault : Fault) (old new : List Fault) → IsFaultAt set kind c fault → new ≡ old ++ fault ∷ [] → AreCallsAt set kind calls old
    → AreCallsAt set kind (calls ++ c ∷ []) new
at_more set kind [] c fault old new at e h = (fault, [], at, e ∙ ap (λ l. l ++ fault ∷ []) h, refl)
at_more set kind (d ∷ calls) c fault old new at e h =
    let more = h.1 ++ fault ∷ [] in
    (h.0, more, h.2, e ∙ ap (λ l. l ++ fault ∷ []) h.3, at_more set kind calls c fault h.1 more at refl h.4)

pub faults_more : (set : SetTrees) (kind : FaultKind) (found : List CallSpot) (i : ℕ) (c : CallSpot) (fault : Fault) (old new : List Fault) → i < length found → c ≡ get_or found i c → IsFaultAt set kind c fault → new ≡ old ++ fault ∷ []
    → AreCallsAt set kind (take i found) old → AreCallsAt set kind (take (i + 1) found) new
faults_more set kind found i c fault old new lt is at e h =
    subst (λ cs. AreCallsAt set kind cs new) (sym (take_more found i c lt ∙ ap (λ x. take i found ++ x ∷ []) (sym is))) (at_more set kind (take i found) c fault old new at e h)

pub faults_all : (set : SetTrees) (kind : FaultKind) (found : List CallSpot) (i : ℕ) (faults : List Fault) → length found ≤ i → AreCallsAt set kind (take i found) faults → AreCallsAt set kind found faults
faults_all set kind found i faults past h = subst (λ cs. AreCallsAt set kind cs faults) (take_all i found past) h

one_fault : (set : SetTrees) (kind : FaultKind) (c : CallSpot) (fault other : Fault) → IsFaultAt set kind c fault → IsFaultAt set kind c other → fault ≡ other
one_fault set kind c fault other h j =
    ap (λ x. record { kind = x; spot = fault.spot }) (h.kind_is ∙ sym j.kind_is) ∙ ap (λ s. record { kind = other.kind; spot = s }) (one_place set c fault.spot other.spot h.at j.at)

one_at : (set : SetTrees) (kind : FaultKind) (calls : List CallSpot) (faults other : List Fault) → AreCallsAt set kind calls faults → AreCallsAt set kind calls other → faults ≡ other
one_at set kind [] faults other h j = h ∙ sym j
one_at set kind (c ∷ calls) faults other h j =
    h.3 ∙ ap (λ f. f ∷ h.1) (one_fault set kind c h.0 j.0 h.2 j.2) ∙ ap (λ l. j.0 ∷ l) (one_at set kind calls h.1 j.1 h.4 j.4) ∙ sym j.3

pub one_call_list : (set : SetTrees) (kind : FaultKind) (P : CallSpot → Type 0) (faults other : List Fault) → AreCallFaults set kind P faults → AreCallFaults set kind P other → faults ≡ other
one_call_list set kind P faults other h j =
    let calls : h.calls ≡ j.calls = one_list is_call_before call_one_way P h.calls j.calls h.is_list j.is_list in
    one_at set kind j.calls faults other (subst (λ cs. AreCallsAt set kind cs faults) calls h.are) j.are

none_at : (set : SetTrees) (kind : FaultKind) (P : CallSpot → Type 0) (calls : List CallSpot) → IsListOf is_call_before P calls → AreCallsAt set kind calls [] → (c : CallSpot) → P c → ⊥
none_at set kind P [] h are c p = contains_none c (h.has c p)
none_at set kind P (d ∷ calls) h are c p = (let e = are.3 in absurd cc)

pub no_such_call : (set : SetTrees) (kind : FaultKind) (P : CallSpot → Type 0) → AreCallFaults set kind P [] → (c : CallSpot) → P c → ⊥
no_such_call set kind P h c p = none_at set kind P h.calls h.is_list h.are c p

record IsHead (set : SetTrees) (kind : FaultKind) (P : CallSpot → Type 0) (fault : Fault) : Type 0 where
  pub call : CallSpot
  pub first : graph.IsFirst P call
  pub at : IsCallAt set call fault.spot
  pub kind_is : fault.kind ≡ kind

first_call : (P : CallSpot → Type 0) (c : CallSpot) (calls : List CallSpot) → IsListOf is_call_before P (c ∷ calls) → graph.IsFirst P c
first_call P c calls h = record {
  holds = h.holds c (contains_first c calls);
  none_before = λ other before p. elim (contains_cases c calls other (h.has other p)) [
    | inl e ↦ (let itself : is_call_before c c ≡ true = subst (λ x. is_call_before x c ≡ true) (sym e) (call_is_before other c before) in call_one_way c c itself itself)
    | inr later ↦ call_one_way c other (all_at (λ x. is_call_before c x ≡ true) calls h.rises.0 other later) (call_is_before other c before)
  ];
}

head_at : (set : SetTrees) (kind : FaultKind) (P : CallSpot → Type 0) (fault : Fault) (more : List Fault) (calls : List CallSpot) → IsListOf is_call_before P calls → AreCallsAt set kind calls (fault ∷ more) → IsHead set kind P fault
head_at set kind P fault more [] h are = absurd cc
head_at set kind P fault more (c ∷ calls) h are =
    let is : are.0 ≡ fault = (let e = are.3 in cc) in
    subst (IsHead set kind P) is (record { call = c; first = first_call P c calls h; at = are.2.at; kind_is = are.2.kind_is })

head_of : (set : SetTrees) (kind : FaultKind) (P : CallSpot → Type 0) (fault : Fault) (more : List Fault) → AreCallFaults set kind P (fault ∷ more) → IsHead set kind P fault
head_of set kind P fault more h = head_at set kind P fault more h.calls h.is_list h.are

-- ---- the calls that were found are calls of the set

pub are_back : (set : SetTrees) (g : List (List ℕ)) (found : List CallSpot) → g ≡ call_graph set → IsListOf is_call_before (graph.IsInCycle g) found → AreCalls set found
are_back set g found e h c in_list = (let p = subst (λ x. graph.IsInCycle x c) e (h.holds c in_list) in (p.callee, p.is_call))

pub are_deep : (set : SetTrees) (g : List (List ℕ)) (found : List CallSpot) → g ≡ call_graph set → IsListOf is_call_before (graph.IsDeep g) found → AreCalls set found
are_deep set g found e h c in_list = (let p = subst (λ x. graph.IsDeep x c) e (h.holds c in_list) in (p.callee, p.is_call))

pub cycles_of : (set : SetTrees) (g : List (List ℕ)) (found : List CallSpot) (faults : List Fault) → g ≡ call_graph set → IsListOf is_call_before (graph.IsInCycle g) found → AreCallsAt set k.CallCycle found faults → AreCycles set faults
cycles_of set g found faults e h are = record { calls = found; is_list = subst (λ x. IsListOf is_call_before (graph.IsInCycle x) found) e h; are = are }

pub deep_of : (set : SetTrees) (g : List (List ℕ)) (found : List CallSpot) (faults : List Fault) → g ≡ call_graph set → IsListOf is_call_before (graph.IsDeep g) found → AreCallsAt set k.CallsTooDeep found faults → AreDeepCalls set faults
deep_of set g found faults e h are = record { calls = found; is_list = subst (λ x. IsListOf is_call_before (graph.IsDeep x) found) e h; are = are }

-- as many faults as calls
pub some_at : (set : SetTrees) (kind : FaultKind) (calls : List CallSpot) (faults : List Fault) → (calls ≡ [] → ⊥) → AreCallsAt set kind calls faults → faults ≡ [] → ⊥
some_at set kind [] faults some are e = some refl
some_at set kind (c ∷ calls) faults some are e = (let is = are.3 in absurd cc)

pub no_cycles_of : (set : SetTrees) (g : List (List ℕ)) (found : List CallSpot) → g ≡ call_graph set → found ≡ [] → IsListOf is_call_before (graph.IsInCycle g) found → AreCycles set []
no_cycles_of set g found e none h = record { calls = []; is_list = subst (λ l. IsListOf is_call_before (graph.IsInCycle (call_graph set)) l) none (subst (λ x. IsListOf is_call_before (graph.IsInCycle x) found) e h); are = refl }

pub cycles_answer : (set : SetTrees) (g : List (List ℕ)) (found : List CallSpot) (faults : List Fault) → g ≡ call_graph set → (found ≡ [] → ⊥) → IsListOf is_call_before (graph.IsInCycle g) found → AreRuleFaults set []
    → AreCallsAt set k.CallCycle found faults → AreReadSetFaults set (record { phase = phases.Cycles; faults = faults })
cycles_answer set g found faults e some h none are = record { are = (none, cycles_of set g found faults e h are); some = inl (some_at set k.CallCycle found faults some are) }

pub deep_answer : (set : SetTrees) (g : List (List ℕ)) (found : List CallSpot) (faults : List Fault) → g ≡ call_graph set → IsListOf is_call_before (graph.IsDeep g) found → AreRuleFaults set [] → AreCycles set []
    → AreCallsAt set k.CallsTooDeep found faults → AreReadSetFaults set (record { phase = phases.Depth; faults = faults })
deep_answer set g found faults e h none no_cycles are = record { are = (none, no_cycles, deep_of set g found faults e h are); some = inr refl }

-- ---- one answer

-- a set that was read has no text that can not be read
not_read : (set : SeqSet) (trees : SetTrees) (faults : List Fault) → ReadsSet set trees → AreSyntaxFaults set faults → (faults ≡ [] → ⊥) → ⊥
not_read set trees [] reads h some = some refl
not_read set trees (f ∷ more) reads h some = not_both set trees f.spot reads (first_at_head set f more h)

some_of : (phase : Phase) (faults : List Fault) → (phase ≡ phases.Depth → ⊥) → ((faults ≢ []) ⊎ (phase ≡ phases.Depth)) → faults ≡ [] → ⊥
some_of phase faults other (inl some) e = some e
some_of phase faults other (inr last) e = other last

-- of one set that was read: what is listed in one phase is not so in another
one_read : (set : SetTrees) (x y : Phase) (a b : List Fault) → AreReadFaults set x a → AreReadFaults set y b → ((a ≢ []) ⊎ (x ≡ phases.Depth)) → ((b ≢ []) ⊎ (y ≡ phases.Depth)) → (x ≡ y) × (a ≡ b)
one_read set phases.Syntax y a b h j some more = absurd h
one_read set phases.Rules phases.Syntax a b h j some more = absurd j
one_read set phases.Rules phases.Rules a b h j some more = (refl, rules.one_rule_list set a b h j)
one_read set phases.Rules phases.Cycles a b h j some more = absurd (some_of phases.Rules a (λ e. cc) some (rules.one_rule_list set a [] h j.0))
one_read set phases.Rules phases.Depth a b h j some more = absurd (some_of phases.Rules a (λ e. cc) some (rules.one_rule_list set a [] h j.0))
one_read set phases.Cycles phases.Syntax a b h j some more = absurd j
one_read set phases.Cycles phases.Rules a b h j some more = absurd (some_of phases.Rules b (λ e. cc) more (rules.one_rule_list set b [] j h.0))
one_read set phases.Cycles phases.Cycles a b h j some more = (refl, one_call_list set k.CallCycle (graph.IsInCycle (call_graph set)) a b h.1 j.1)
one_read set phases.Cycles phases.Depth a b h j some more = absurd (some_of phases.Cycles a (λ e. cc) some (one_call_list set k.CallCycle (graph.IsInCycle (call_graph set)) a [] h.1 j.1))
one_read set phases.Depth phases.Syntax a b h j some more = absurd j
one_read set phases.Depth phases.Rules a b h j some more = absurd (some_of phases.Rules b (λ e. cc) more (rules.one_rule_list set b [] j h.0))
one_read set phases.Depth phases.Cycles a b h j some more = absurd (some_of phases.Cycles b (λ e. cc) more (one_call_list set k.CallCycle (graph.IsInCycle (call_graph set)) b [] j.1 h.1))
one_read set phases.Depth phases.Depth a b h j some more = (refl, one_call_list set k.CallsTooDeep (graph.IsDeep (call_graph set)) a b h.2 j.2)

-- the faults of a set that was read, or of texts that can not be read
data Read (set : SeqSet) (phase : Phase) (faults : List Fault) : Type 0 where
  unread : phase ≡ phases.Syntax → AreSyntaxFaults set faults → Read set phase faults
  read : (trees : SetTrees) → ReadsSet set trees → AreReadFaults trees phase faults → Read set phase faults

read_cases : (set : SeqSet) (phase : Phase) (faults : List Fault) → AreFaultsIn set phase faults → Read set phase faults
read_cases set phases.Syntax faults h = unread refl h
read_cases set phases.Rules faults h = read h.0 h.1 h.2
read_cases set phases.Cycles faults h = read h.0 h.1 h.2
read_cases set phases.Depth faults h = read h.0 h.1 h.2

pub read_to : (set : SeqSet) (trees : SetTrees) (phase : Phase) (faults : List Fault) → ReadsSet set trees → AreReadFaults trees phase faults → AreFaultsIn set phase faults
read_to set trees phases.Syntax faults reads h = absurd h
read_to set trees phases.Rules faults reads h = (trees, reads, h)
read_to set trees phases.Cycles faults reads h = (trees, reads, h)
read_to set trees phases.Depth faults reads h = (trees, reads, h)

depth_is_none : (phase : Phase) → phase ≡ phases.Syntax → phase ≡ phases.Depth → ⊥
depth_is_none phase e d = cc

one_phase : (set : SeqSet) (x y : Phase) (a b : List Fault) → Read set x a → Read set y b → ((a ≢ []) ⊎ (x ≡ phases.Depth)) → ((b ≢ []) ⊎ (y ≡ phases.Depth)) → (x ≡ y) × (a ≡ b)
one_phase set x y a b (unread p h) (unread q j) some more = (p ∙ sym q, one_syntax_list set a b h j)
one_phase set x y a b (unread p h) (read t reads j) some more = absurd (not_read set t a reads h (some_of x a (depth_is_none x p) some))
one_phase set x y a b (read t reads h) (unread q j) some more = absurd (not_read set t b reads j (some_of y b (depth_is_none y q) more))
one_phase set x y a b (read t reads h) (read u others j) some more = one_read u x y a b (subst (λ z. AreReadFaults z x a) (one_set set t u reads others) h) j some more

pub one_answer : (set : SeqSet) (answer other : SetFaults) → AreSetFaults set answer → AreSetFaults set other → answer ≡ other
one_answer set answer other h j =
    let both = one_phase set answer.phase other.phase answer.faults other.faults (read_cases set answer.phase answer.faults h.are) (read_cases set other.phase other.faults j.are) h.some j.some in
    ap (λ p. record { phase = p; faults = answer.faults }) both.0 ∙ ap (λ l. record { phase = other.phase; faults = l }) both.1

pub only_answer : (set : SeqSet) (r : Result SetFaults OutOfMemory) → IfOk r (AreSetFaults set) → (other : SetFaults) → AreSetFaults set other → IfOk r (λ answer. answer ≡ other)
only_answer set (Ok answer) h other j = one_answer set answer other h j
only_answer set (Err e) h other j = tt

pub read_answer : (set : SeqSet) (trees : SetTrees) (r : Result SetFaults OutOfMemory) → ReadsSet set trees → IfOk r (AreReadSetFaults trees) → IfOk r (AreSetFaults set)
read_answer set trees (Ok f) reads h = record { are = read_to set trees f.phase f.faults reads h.are; some = h.some }
read_answer set trees (Err e) reads h = tt

-- ---- the head

first_read : (set : SetTrees) (phase : Phase) (fault : Fault) (more : List Fault) → AreReadFaults set phase (fault ∷ more) → IsFirstOf set fault.kind fault.spot
first_read set phases.Syntax fault more h = absurd h
first_read set phases.Rules fault more h = rules.first_is_head set fault more h
first_read set phases.Cycles fault more h =
    let head = head_of set k.CallCycle (graph.IsInCycle (call_graph set)) fault more h.1 in
    valid.in_calls (rules.none_is_empty set h.0) (valid.cycle head.call head.first head.at head.kind_is)
first_read set phases.Depth fault more h =
    let head = head_of set k.CallsTooDeep (graph.IsDeep (call_graph set)) fault more h.2 in
    valid.in_calls (rules.none_is_empty set h.0) (valid.deep (no_such_call set k.CallCycle (graph.IsInCycle (call_graph set)) h.1) head.call head.first head.at head.kind_is)

first_in : (set : SeqSet) (phase : Phase) (fault : Fault) (more : List Fault) → Read set phase (fault ∷ more) → IsFirstFaultOf set fault.kind fault.spot
first_in set phase fault more (unread e h) = first_is_head set fault more h
first_in set phase fault more (read trees reads h) = valid.rules trees reads (first_read trees phase fault more h)

pub head_is_first : (set : SeqSet) (answer : SetFaults) (fault : Fault) (more : List Fault) → AreSetFaults set answer → answer.faults ≡ fault ∷ more → IsFirstFaultOf set fault.kind fault.spot
head_is_first set answer fault more h e = first_in set answer.phase fault more (read_cases set answer.phase (fault ∷ more) (subst (AreFaultsIn set answer.phase) e h.are))

-- ---- no fault

valid_at : (set : SeqSet) (phase : Phase) → phase ≡ phases.Depth → AreFaultsIn set phase [] → IsValid set
valid_at set phases.Syntax e h = absurd cc
valid_at set phases.Rules e h = absurd cc
valid_at set phases.Cycles e h = absurd cc
valid_at set phases.Depth e h = record {
  trees = h.0;
  reads = h.1;
  sound = record {
    no_fault = rules.none_is_empty h.0 h.2.0;
    calls = record {
      no_cycle = no_such_call h.0 k.CallCycle (graph.IsInCycle (call_graph h.0)) h.2.1;
      none_deep = no_such_call h.0 k.CallsTooDeep (graph.IsDeep (call_graph h.0)) h.2.2;
    };
  };
}

empty_valid : (set : SeqSet) (phase : Phase) (faults : List Fault) → ((faults ≢ []) ⊎ (phase ≡ phases.Depth)) → AreFaultsIn set phase faults → faults ≡ [] → IsValid set
empty_valid set phase faults (inl some) h e = absurd (some e)
empty_valid set phase faults (inr last) h e = valid_at set phase last (subst (AreFaultsIn set phase) e h)

valid_empty : (set : SeqSet) (answer : SetFaults) (faults : List Fault) → AreSetFaults set answer → answer.faults ≡ faults → IsValid set → faults ≡ []
valid_empty set answer [] h e is = refl
valid_empty set answer (f ∷ more) h e is = absurd (valid_or_faulty set f.kind f.spot is (head_is_first set answer f more h e))

pub empty_where_valid : (set : SeqSet) (answer : SetFaults) → AreSetFaults set answer → (answer.faults ≡ []) ↔ IsValid set
empty_where_valid set answer h = (λ e. empty_valid set answer.phase answer.faults h.some h.are e, λ is. valid_empty set answer answer.faults h refl is)

-- ---- texts that can not be read

pub syntax_answer : (set : SeqSet) (spot : Spot) (faults : List Fault) → IsFirstFault set spot → AreSyntaxFaults set faults → AreSetFaults set (record { phase = phases.Syntax; faults = faults })
syntax_answer set spot faults first h = record { are = h; some = inl (some_listed set spot faults first h) }
