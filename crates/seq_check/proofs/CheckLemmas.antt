-- What the check of a set answers.
use Rattle.std.proofs.Common.{◌≡◌, ◌∙◌, sym, ap, subst, ℕ, zero, suc, ◌+◌, true, false, List, [], ◌∷◌, ◌++◌, map, drop, slice_get, get_or, append_assoc, Option, Some, None, option_map, MatchOption, Result, Ok, Err, IfOk}
use Rattle.std.specs.List.{IsDistinct}
use Rattle.std.specs.Str.{bytes_eq}
use Rattle.dap_base.specs.declared.text.OutOfMemory.{OutOfMemory}
use Rattle.expr_grammar.specs.Tree.{StmtTree}
use Rattle.sequence_resolve.specs.declared.entry.SeqEntry.{SeqEntry}
use Rattle.sequence_resolve.specs.declared.entry.SeqSet.{SeqSet}
use Rattle.sequence_trees.specs.declared.spot.Part.TheVariants as parts
use Rattle.sequence_trees.specs.declared.spot.Spot.{Spot}
use Rattle.sequence_trees.specs.Trees.{SequenceTrees, SetTrees}
use Rattle.sequence_trees.specs.Reading.{ReadsEntries, ReadsSet}
use Rattle.call_graph.specs.declared.graph.CallSpot.{CallSpot}
use Rattle.call_graph.specs.Spots as graph
use Rattle.code_check.specs.declared.fault.FaultKind.{FaultKind}
use Rattle.code_check.specs.declared.fault.FaultKind.TheVariants as k
use Rattle.function_table.specs.Variables.{names_of_predefined}
use Rattle.code_check.specs.First.{IsFirst}
use Rattle.code_check.specs.BlockFaults.{names_after_all, BlockFault}
use Rattle.seq_check.specs.declared.faulty.HeldFault.{HeldFault}
use Rattle.seq_check.specs.declared.step_calls.StepCall.{StepCall}
use Rattle.seq_check.specs.declared.set_check.FirstFault.{FirstFault}
use Rattle.seq_check.specs.declared.faulty.Holder.TheVariants as holders
use Rattle.seq_check.specs.StepFaults.{At}
use Rattle.seq_check.specs.SetFaults.{SetFault, is_set_before, Of, names_of, FaultInSequences, FaultInSet}
use Rattle.seq_check.specs.Calls.{call_graph}
use Rattle.seq_check.specs.Valid as valid
use Rattle.seq_check.specs.Valid.{CallsAreSound, IsCallAt, IsFirstCallFault, IsSound, IsFirstOf}
use Rattle.seq_check.specs.Views.{held_view}
use Rattle.seq_check.proofs.SetLemmas.{drop-at, set_held, set_answer}

-- ---- calls of a graph

abbrev pub callees : List StepCall → List ℕ
callees cs = map (λ c. c.callee) cs

-- a node past the end calls nothing
pub no_list : (calls : List (List StepCall)) (node call w : ℕ) → slice_get calls node ≡ None → slice_get (get_or (map callees calls) node []) call ≡ Some w → ⊥
no_list [] zero call w h e = cc
no_list [] (suc n) call w h e = cc
no_list (x ∷ xs) zero call w h e = cc
no_list (x ∷ xs) (suc n) call w h e = no_list xs n call w h e

pub calls_more : {A B : Type 0} (F : A → B) (cs now : List B) (ts : List A) (i : ℕ) (t : A) (x : B) (all : List B)
    → slice_get ts i ≡ Some t → x ≡ F t → now ≡ cs ++ x ∷ [] → cs ++ map F (drop i ts) ≡ all → now ++ map F (drop (i + 1) ts) ≡ all
calls_more F cs now ts i t x all at is grew inv =
    let rest = map F (drop (i + 1) ts) in
    ap (λ n. n ++ rest) grew ∙ append_assoc cs (x ∷ []) rest ∙ ap (λ y. cs ++ y ∷ rest) is ∙ ap (λ d. cs ++ map F d) (sym (drop-at ts i t at)) ∙ inv

pub reported_cycle : (set : SetTrees) (g : List (List ℕ)) (kind : FaultKind) (spot reported : Spot) (c : CallSpot) → g ≡ call_graph set → graph.IsFirst (graph.IsInCycle g) c
    → IsCallAt set c spot → kind ≡ k.CallCycle → reported ≡ spot → IsFirstCallFault set kind reported
reported_cycle set g kind spot reported c e first at is same =
    valid.cycle c (subst (λ h. graph.IsFirst (graph.IsInCycle h) c) e first) (subst (IsCallAt set c) (sym same) at) is

pub no_cycle : (set : SetTrees) (g : List (List ℕ)) (o : Option CallSpot) → g ≡ call_graph set → o ≡ None → graph.FindsFirst (graph.IsInCycle g) o → (c : CallSpot) → graph.IsInCycle (call_graph set) c → ⊥
no_cycle set g None e is finds c h = finds c (subst (λ x. graph.IsInCycle x c) (sym e) h)
no_cycle set g (Some x) e is finds c h = absurd cc

pub reported_deep : (set : SetTrees) (g : List (List ℕ)) (kind : FaultKind) (spot reported : Spot) (c : CallSpot) → g ≡ call_graph set → ((c : CallSpot) → graph.IsInCycle (call_graph set) c → ⊥)
    → graph.IsFirst (graph.IsDeep g) c → IsCallAt set c spot → kind ≡ k.CallsTooDeep → reported ≡ spot → IsFirstCallFault set kind reported
reported_deep set g kind spot reported c e none first at is same =
    valid.deep none c (subst (λ h. graph.IsFirst (graph.IsDeep h) c) e first) (subst (IsCallAt set c) (sym same) at) is

pub deep_call : (set : SetTrees) (g : List (List ℕ)) (c : CallSpot) → g ≡ call_graph set → graph.IsFirst (graph.IsDeep g) c → (x : ℕ) × graph.IsCallOf (call_graph set) c x
deep_call set g c e first = (first.holds.callee, subst (λ h. graph.IsCallOf h c first.holds.callee) e first.holds.is_call)

pub calls_sound : (set : SetTrees) (g : List (List ℕ)) (o p : Option CallSpot) → g ≡ call_graph set → o ≡ None → graph.FindsFirst (graph.IsInCycle g) o
    → p ≡ None → graph.FindsFirst (graph.IsDeep g) p → CallsAreSound set
calls_sound set g o None e is finds deep_is deep = record { no_cycle = no_cycle set g o e is finds; none_deep = λ c h. deep c (subst (λ x. graph.IsDeep x c) (sym e) h) }
calls_sound set g o (Some x) e is finds deep_is deep = absurd cc

-- ---- the texts and controls of a set

pub held_first : (set : SetTrees) (names sequences : List (List ℕ)) (code : List StmtTree) (f : SetFault) → names ≡ names_of_predefined → sequences ≡ names_of set → code ≡ set.debugvars
    → IsFirst is_set_before (Of holders.Debugvars (At parts.Debugvars (BlockFault (record { visible = names; sequences = sequences; in_debugvars = true }) code))) (Some f) → IsFirst is_set_before (FaultInSet set) (Some f)
held_first set names sequences code f p q r h = set_held set f (rw (p, q, r) at h)

pub set_first : (set : SetTrees) (names sequences visible : List (List ℕ)) (code : List StmtTree) (r : Result (Option HeldFault) OutOfMemory)
    → names ≡ names_of_predefined → sequences ≡ names_of set → code ≡ set.debugvars → visible ≡ names_after_all names code
    → IsFirst is_set_before (Of holders.Debugvars (At parts.Debugvars (BlockFault (record { visible = names; sequences = sequences; in_debugvars = true }) code))) None
    → IfOk r (λ o. IsFirst is_set_before (FaultInSequences (record { visible = visible; sequences = sequences; in_debugvars = false }) 0 (map (λ s. s.steps) set.sequences)) (option_map held_view o))
    → IfOk r (λ o. IsFirst is_set_before (FaultInSet set) (option_map held_view o))
set_first set names sequences visible code r p q e v none h =
    let seen : visible ≡ names_after_all names_of_predefined set.debugvars = v ∙ ap (λ n. names_after_all n code) p ∙ ap (names_after_all names_of_predefined) e in
    let all = map (λ s. s.steps) set.sequences in
    let First : List (List ℕ) → List (List ℕ) → Type 0 = λ x y. IfOk r (λ o. IsFirst is_set_before (FaultInSequences (record { visible = x; sequences = y; in_debugvars = false }) 0 all) (option_map held_view o)) in
    set_answer set r (rw (p, q, e) at none) (subst (λ y. First (names_after_all names_of_predefined set.debugvars) y) q (subst (λ x. First x sequences) seen h))

-- ---- the whole

pub rules_answer : (set : SetTrees) (r : Result (Option FirstFault) OutOfMemory) → ((f : SetFault) → FaultInSet set f → ⊥)
    → IfOk r (λ o. MatchOption o (CallsAreSound set) (λ t. IsFirstCallFault set t.kind t.spot)) → IfOk r (λ o. MatchOption o (IsSound set) (λ t. IsFirstOf set t.kind t.spot))
rules_answer set (Err e) none h = tt
rules_answer set (Ok None) none h = record { no_fault = none; calls = h }
rules_answer set (Ok (Some t)) none h = valid.in_calls none h

pub none_holds : (set : SetTrees) → IsFirst is_set_before (FaultInSet set) None → (f : SetFault) → FaultInSet set f → ⊥
none_holds set h f s = h.none_before f s

call_fault_unsound : (set : SetTrees) (kind : FaultKind) (spot : Spot) → CallsAreSound set → IsFirstCallFault set kind spot → ⊥
call_fault_unsound set kind spot h f = elim f [ valid.cycle c first at is ↦ h.no_cycle c first.holds | valid.deep none c first at is ↦ h.none_deep c first.holds ]

-- a set with a fault is not sound
pub not_sound : (set : SetTrees) (kind : FaultKind) (spot : Spot) → IsSound set → IsFirstOf set kind spot → ⊥
not_sound set kind spot h f = elim f [ valid.in_texts g first is at ↦ h.no_fault g first.holds | valid.in_calls none c ↦ call_fault_unsound set kind spot h.calls c ]

reads_names : (es : List SeqEntry) (ss : List SequenceTrees) → ReadsEntries es ss → map (λ s. s.name) ss ≡ map (λ e. e.name) es
reads_names [] ss h = ap (map (λ s. s.name)) h
reads_names (e ∷ es) ss h = ap (map (λ s. s.name)) h.2 ∙ ap (λ n. n ∷ map (λ s. s.name) h.1) h.3.name ∙ ap (λ ns. e.name ∷ ns) (reads_names es h.1 h.4)

pub distinct_names : (set : SeqSet) (trees : SetTrees) → ReadsSet set trees → IsDistinct bytes_eq (map (λ e. e.name) set.entries) → IsDistinct bytes_eq (names_of trees)
distinct_names set trees h d = subst (IsDistinct bytes_eq) (sym (reads_names set.entries trees.sequences h.sequences)) d
