-- A set is valid, or has a first fault.
use Rattle.std.proofs.Common.{◌≡◌, ◌⊎◌, inl, inr, ℕ, zero, suc, ◌+◌, ◌≤◌, List, [], ◌∷◌, map, length, get_or, slice_get, Option, Some, None, option_map, refl, sym, ap, subst, ◌∙◌, arith}
use Rattle.std.proofs.lemmas.Bool.{cases_lt}
use Rattle.std.proofs.lemmas.List.{length-map}
use Rattle.std.proofs.lemmas.Option.{slice_get_within, slice_get-get_or, get_or_from_slice_get}
use Rattle.std.proofs.Math.ListN as lists
use Rattle.sequence_resolve.specs.declared.entry.SeqSet.{SeqSet}
use Rattle.sequence_trees.specs.declared.spot.Part.TheVariants as parts
use Rattle.sequence_trees.specs.declared.spot.Spot.{Spot}
use Rattle.sequence_trees.specs.Trees.{CodeSteps, NoSteps, SetTrees}
use Rattle.call_graph.specs.declared.graph.CallSpot.{CallSpot}
use Rattle.call_graph.specs.Graph.{callees_of}
use Rattle.call_graph.specs.Spots as graph
use Rattle.code_check.specs.declared.fault.FaultKind.{FaultKind}
use Rattle.code_check.specs.declared.fault.FaultKind.TheVariants as k
use Rattle.code_check.specs.First.{IsFirst}
use Rattle.code_check.specs.ExprFaults.{Scope}
use Rattle.code_check.specs.BlockFaults.{BlockFault}
use Rattle.seq_check.specs.declared.faulty.Holder.TheVariants as holders
use Rattle.seq_check.specs.declared.step_calls.StepCall.{StepCall}
use Rattle.seq_check.specs.StepFaults.{StepFault, is_step_before, At, FaultInSteps}
use Rattle.seq_check.specs.SetFaults.{SetFault, is_set_before, Of, names_of, debugvars_scope, sequences_scope, FaultInSequences, FaultInSet}
use Rattle.seq_check.specs.Calls.{sequence_calls, set_calls, call_graph}
use Rattle.seq_check.specs.Valid as valid
use Rattle.seq_check.specs.Valid.{CallsAreSound, IsCallAt, IsFirstCallFault, spot_of, IsSound, IsFirstOf, IsValid, IsFirstFaultOf}
use Rattle.seq_check.proofs.FirstLemmas.{first_there}
use Rattle.seq_check.proofs.SetLemmas.{held, first_held, Carries, carries_on, found_there, none_at_end, set_held}
use Rattle.seq_check.proofs.CheckLemmas.{callees, no_list}
use Rattle.sequence_trees.proofs.SomeTexts.{read_set}
use Rattle.code_check.proofs.SomeFault.{block_first}
use Rattle.seq_check.proofs.SomeStepFault.{code_first, steps_first}
use Rattle.call_graph.proofs.SomeCall.{first_in_cycle, first_deep}

-- ---- the texts and the controls of a set

-- the first such fault of a set, or none
abbrev FirstOfSet : (SetFault → Type 0) → Type 0
FirstOfSet P = (r : Option SetFault) × IsFirst is_set_before P r

module _ (s : Scope) (all : List CodeSteps) where
  abbrev Found : Type 0
  Found = FirstOfSet (FaultInSequences s 0 all)

  by_first : (i : ℕ) (steps : CodeSteps) → slice_get all i ≡ Some steps → Carries s i all → (r : Option StepFault) → IsFirst is_step_before (FaultInSteps s 0 0 steps) r → (Carries s (i + 1) all → Found) → Found
  by_first i steps at carries None h later = later (carries_on s i all steps at carries h)
  by_first i steps at carries (Some f) h later = (Some (held (holders.Sequence i) f), found_there s i all steps f at carries h)

  from : (fuel i : ℕ) → length all ≤ i + fuel → Carries s i all → Found
  from zero i enough carries = (None, none_at_end s i all (omega (arith, enough)) carries)
  from (suc fuel) i enough carries = elim (cases_lt i (length all)) [
    | inl lt ↦
        let steps = get_or all i NoSteps in
        let first = steps_first s 0 0 steps in
        by_first i steps (slice_get-get_or all i NoSteps lt) carries first.0 first.1 (from fuel (i + 1) (omega (arith, enough)))
    | inr past ↦ (None, none_at_end s i all past carries)
  ]

  sequences_first : Found
  sequences_first = from (length all) 0 (omega arith) (λ r h. h)

module _ (set : SetTrees) where
  -- the faults of the debug variables, and those of the sequences
  abbrev OfDebugvars : SetFault → Type 0
  OfDebugvars = Of holders.Debugvars (At parts.Debugvars (BlockFault (debugvars_scope set) set.debugvars))

  abbrev OfSequences : SetFault → Type 0
  OfSequences = FaultInSequences (sequences_scope set) 0 (map (λ s. s.steps) set.sequences)

  with_debugvars : (r : Option SetFault) → IsFirst is_set_before OfDebugvars r → FirstOfSet (FaultInSet set)
  with_debugvars None none =
      let later = sequences_first (sequences_scope set) (map (λ s. s.steps) set.sequences) in
      (later.0, first_there is_set_before OfDebugvars OfSequences later.0 none later.1)
  with_debugvars (Some f) h = (Some f, set_held set f h)

  texts_first : FirstOfSet (FaultInSet set)
  texts_first =
      let own = code_first parts.Debugvars (BlockFault (debugvars_scope set) set.debugvars) (block_first (debugvars_scope set) set.debugvars) in
      with_debugvars (option_map (held holders.Debugvars) own.0) (first_held holders.Debugvars (At parts.Debugvars (BlockFault (debugvars_scope set) set.debugvars)) own.0 own.1)

-- ---- calls

no_callee : (calls : List StepCall) (i w : ℕ) → slice_get calls i ≡ None → slice_get (callees calls) i ≡ Some w → ⊥
no_callee [] zero w none is = absurd cc
no_callee [] (suc i) w none is = absurd cc
no_callee (c ∷ calls) zero w none is = absurd cc
no_callee (c ∷ calls) (suc i) w none is = no_callee calls i w none is

module _ (set : SetTrees) (c : CallSpot) where
  -- the call as one of the set
  abbrev AtSpot : Type 0
  AtSpot = (spot : Spot) × IsCallAt set c spot

  calls_there : (calls : List StepCall) → slice_get (set_calls set) c.node ≡ Some calls → callees_of (call_graph set) c.node ≡ callees calls
  calls_there calls is = lists.get_or-map callees (set_calls set) c.node [] ∙ ap callees (get_or_from_slice_get (set_calls set) c.node calls [] is)

  same_length : length (set_calls set) ≡ length (names_of set)
  same_length =
      length-map (map (λ s. s.steps) set.sequences) (sequence_calls (names_of set)) ∙ length-map set.sequences (λ s. s.steps) ∙ sym (length-map set.sequences (λ s. s.name))

  name_there : (calls : List StepCall) → slice_get (set_calls set) c.node ≡ Some calls → slice_get (names_of set) c.node ≡ Some (get_or (names_of set) c.node [])
  name_there calls is = slice_get-get_or (names_of set) c.node [] (omega (arith, slice_get_within (set_calls set) c.node calls is, same_length))

  by_call : (calls : List StepCall) → slice_get (set_calls set) c.node ≡ Some calls → (w : ℕ) → graph.IsCallOf (call_graph set) c w → (o : Option StepCall) → slice_get calls c.call ≡ o → AtSpot
  by_call calls has w is None none = absurd (no_callee calls c.call w none (subst (λ (l : List ℕ). slice_get l c.call ≡ Some w) (calls_there calls has) is))
  by_call calls has w is (Some call) at =
      let name = get_or (names_of set) c.node [] in (
        record { sequence = Some name; path = call.path; part = call.part; place = call.place },
        record { name = name; named = name_there calls has; calls = calls; has = has; call = call; is_call = at; spot_is = refl },
      )

  by_calls : (w : ℕ) → graph.IsCallOf (call_graph set) c w → (o : Option (List StepCall)) → slice_get (set_calls set) c.node ≡ o → AtSpot
  by_calls w is None none = absurd (no_list (set_calls set) c.node c.call w none is)
  by_calls w is (Some calls) has = by_call calls has w is (slice_get calls c.call) refl

  call_at : (w : ℕ) → graph.IsCallOf (call_graph set) c w → AtSpot
  call_at w is = by_calls w is (slice_get (set_calls set) c.node) refl

-- the calls are sound, or one is the first that is not
calls_decided : (set : SetTrees) → CallsAreSound set ⊎ ((kind : FaultKind) × (spot : Spot) × IsFirstCallFault set kind spot)
calls_decided set = elim (first_in_cycle (call_graph set)) [
  | inl c ↦ let at = call_at set c.0 c.1.holds.callee c.1.holds.is_call in inr (k.CallCycle, at.0, valid.cycle c.0 c.1 at.1 refl)
  | inr no_cycle ↦ elim (first_deep (call_graph set)) [
    | inl c ↦ let at = call_at set c.0 c.1.holds.callee c.1.holds.is_call in inr (k.CallsTooDeep, at.0, valid.deep no_cycle c.0 c.1 at.1 refl)
    | inr none_deep ↦ inl (record { no_cycle = no_cycle; none_deep = none_deep })
  ]
]

-- ---- the whole

rules_by : (set : SetTrees) (r : Option SetFault) → IsFirst is_set_before (FaultInSet set) r → IsSound set ⊎ ((kind : FaultKind) × (spot : Spot) × IsFirstOf set kind spot)
rules_by set (Some f) first = inr (f.fault.fault.kind, spot_of set f, valid.in_texts f first refl refl)
rules_by set None none = elim (calls_decided set) [
  | inl calls ↦ inl (record { no_fault = none.none_before; calls = calls })
  | inr f ↦ inr (f.0, f.1, valid.in_calls none.none_before f.2)
]

rules_decided : (set : SetTrees) → IsSound set ⊎ ((kind : FaultKind) × (spot : Spot) × IsFirstOf set kind spot)
rules_decided set = let first = texts_first set in rules_by set first.0 first.1

-- the set is valid, or this is its first fault
pub valid_or_fault : (set : SeqSet) → IsValid set ⊎ ((kind : FaultKind) × (spot : Spot) × IsFirstFaultOf set kind spot)
valid_or_fault set = elim (read_set set) [
  | inl read ↦ elim (rules_decided read.0) [
    | inl sound ↦ inl (record { trees = read.0; reads = read.1; sound = sound })
    | inr f ↦ inr (f.0, f.1, valid.rules read.0 read.1 f.2)
  ]
  | inr f ↦ inr (k.Syntax, f.0, valid.syntax f.1 refl)
]
