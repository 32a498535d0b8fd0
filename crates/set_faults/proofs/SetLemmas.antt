-- The faults of the sequences of a set, one after another.
use Rattle.std.proofs.Common.{◌≡◌, ◌∙◌, ap, subst, ℕ, zero, suc, ◌+◌, ◌<◌, true, false, List, [], ◌∷◌, ◌++◌, map, length, take, get_or, slice_get, Option, Some, refl, arith}
use Rattle.std.proofs.lemmas.List.{take_more, length-take-le}
use Rattle.std.proofs.lemmas.Bool.{lt-ltb}
use Rattle.sequence_trees.specs.Trees.{CodeSteps, SetTrees}
use Rattle.function_table.specs.Variables.{names_of_predefined}
use Rattle.sequence_trees.specs.declared.spot.Part.TheVariants as parts
use Rattle.code_check.specs.BlockFaults.{names_after_all, BlockFault}
use Rattle.code_check.specs.First.{InEither, here, there}
use Rattle.code_check.specs.ExprFaults.{Scope}
use Rattle.seq_check.specs.declared.faulty.Holder.{Holder}
use Rattle.seq_check.specs.declared.faulty.Holder.TheVariants as holders
use Rattle.seq_check.specs.StepFaults.{StepFault, is_step_before, At, FaultInSteps}
use Rattle.seq_check.specs.SetFaults.{SetFault, holder_before, is_set_before, Of, names_of, debugvars_scope, sequences_scope, FaultInSequences}
use Rattle.seq_check.specs.Valid.{holder_name}
use Rattle.seq_check.proofs.SetLemmas.{held, held_order}
use Rattle.set_faults.specs.declared.site.Fault.{Fault}
use Rattle.set_faults.specs.Listed.{IsListOf}
use Rattle.set_faults.specs.Sites.{step_fault_at, Appends}
use Rattle.set_faults.specs.Rules.{fault_of, AreRuleFaults}
use Rattle.set_faults.proofs.ListLemmas.{listed_mapped}
use Rattle.set_faults.proofs.StepLemmas.{appends_two, appends_same}

-- ---- faults of one holder

listed_held : (holder : Holder) (P : StepFault → Type 0) (list : List StepFault) → IsListOf is_step_before P list → IsListOf is_set_before (Of holder P) (map (held holder) list)
listed_held holder P list h =
    listed_mapped is_step_before is_set_before (held holder) P (Of holder P) list (held_order holder) (λ f p. record { holder_is = refl; holds = p })
    (λ g o. (g.fault, o.holds, ap (λ x. held x g.fault) o.holder_is)) h

shown_held : (set : SetTrees) (holder : Holder) (name : Option (List ℕ)) (list : List StepFault) → name ≡ holder_name set holder → map (step_fault_at (record { sequence = name; path = [] })) list ≡ map (fault_of set) (map (held holder) list)
shown_held set holder name [] e = refl
shown_held set holder name (f ∷ list) e =
    ap (λ n. record { kind = f.fault.kind; spot = record { sequence = n; path = f.path; part = f.part; place = f.fault.place } } ∷ map (step_fault_at (record { sequence = name; path = [] })) list) e
    ∙ ap (λ l. fault_of set (held holder f) ∷ l) (shown_held set holder name list e)

-- the faults of what a set holds, with the name of that
pub appends_held : (set : SetTrees) (holder : Holder) (name : Option (List ℕ)) (P : StepFault → Type 0) (old new : List Fault) → name ≡ holder_name set holder
    → Appends is_step_before (step_fault_at (record { sequence = name; path = [] })) P old new → Appends is_set_before (fault_of set) (Of holder P) old new
appends_held set holder name P old new e h =
    record { list = map (held holder) h.list; is_list = listed_held holder P h.list h.is_list; is_new = h.is_new ∙ ap (λ l. old ++ l) (shown_held set holder name h.list e) }

-- ---- the order of what holds them

ahead : (f g : SetFault) (a b : Holder) → f.holder ≡ a → g.holder ≡ b → holder_before a b ≡ true → is_set_before f g ≡ true
ahead f g a b p q h = rw (p, q, h) refl

-- a sequence with a number below this one
record IsBelow (end : ℕ) (holder : Holder) : Type 0 where
  pub number : ℕ
  pub is : holder ≡ holders.Sequence number
  pub less : number < end

below_end : (s : Scope) (n : ℕ) (front : List CodeSteps) (f : SetFault) → FaultInSequences s n front f → IsBelow (n + length front) f.holder
below_end s n [] f h = elim h [ ]
below_end s n (x ∷ front) f h = elim h [
  | here p ↦ record { number = n; is = p.holder_is; less = omega arith }
  | there q ↦ let r = below_end s (suc n) front f q in record { number = r.number; is = r.is; less = omega (arith, r.less) }
]

front_order : (s : Scope) (front : List CodeSteps) (P : StepFault → Type 0) (p q : SetFault) → FaultInSequences s 0 front p → Of (holders.Sequence (0 + length front)) P q → is_set_before p q ≡ true
front_order s front P p q h o = (let r = below_end s 0 front p h in ahead p q (holders.Sequence r.number) (holders.Sequence (0 + length front)) r.is o.holder_is (lt-ltb r.number (0 + length front) r.less))

-- the debug variables are before the sequences
pub debugvars_order : (s : Scope) (P : StepFault → Type 0) (all : List CodeSteps) (p q : SetFault) → Of holders.Debugvars P p → FaultInSequences s 0 all q → is_set_before p q ≡ true
debugvars_order s P all p q o h = (let r = below_end s 0 all q h in ahead p q holders.Debugvars (holders.Sequence r.number) o.holder_is r.is refl)

-- ---- one sequence more

more_to : (s : Scope) (n : ℕ) (front : List CodeSteps) (steps : CodeSteps) (f : SetFault)
    → InEither (FaultInSequences s n front) (Of (holders.Sequence (n + length front)) (FaultInSteps s 0 0 steps)) f → FaultInSequences s n (front ++ steps ∷ []) f
more_to s n [] steps f h = let e : n + 0 ≡ n = omega arith in elim h [ here p ↦ elim p [ ] | there q ↦ here (subst (λ m. Of (holders.Sequence m) (FaultInSteps s 0 0 steps) f) e q) ]
more_to s n (x ∷ front) steps f h =
    let e : n + suc (length front) ≡ suc n + length front = omega arith in
    elim h [
      | here p ↦ elim p [ here u ↦ here u | there v ↦ there (more_to s (suc n) front steps f (here v)) ]
      | there q ↦ there (more_to s (suc n) front steps f (there (subst (λ m. Of (holders.Sequence m) (FaultInSteps s 0 0 steps) f) e q)))
    ]

more_from : (s : Scope) (n : ℕ) (front : List CodeSteps) (steps : CodeSteps) (f : SetFault)
    → FaultInSequences s n (front ++ steps ∷ []) f → InEither (FaultInSequences s n front) (Of (holders.Sequence (n + length front)) (FaultInSteps s 0 0 steps)) f
more_from s n [] steps f h = let e : n ≡ n + 0 = omega arith in elim h [ here p ↦ there (subst (λ m. Of (holders.Sequence m) (FaultInSteps s 0 0 steps) f) e p) | there q ↦ elim q [ ] ]
more_from s n (x ∷ front) steps f h =
    let e : suc n + length front ≡ n + suc (length front) = omega arith in
    elim h [
      | here p ↦ here (here p)
      | there q ↦ elim (more_from s (suc n) front steps f q) [ here u ↦ here (there u) | there v ↦ there (subst (λ m. Of (holders.Sequence m) (FaultInSteps s 0 0 steps) f) e v) ]
    ]

take-at : (all : List CodeSteps) (i : ℕ) (steps : CodeSteps) → slice_get all i ≡ Some steps → take (i + 1) all ≡ take i all ++ steps ∷ []
take-at all i steps h = (let r = at all i steps h in take_more all i steps r.0 ∙ ap (λ x. take i all ++ x ∷ []) r.1) where
  at : (xs : List CodeSteps) (i : ℕ) (x : CodeSteps) → slice_get xs i ≡ Some x → (i < length xs) × (get_or xs i x ≡ x)
  at [] i x h = absurd cc
  at (y ∷ ys) zero x h = (omega arith, cc)
  at (y ∷ ys) (suc i) x h = (let r = at ys i x h in (omega (arith, r.0), r.1))

pub below_length : (all : List CodeSteps) (i : ℕ) (steps : CodeSteps) → slice_get all i ≡ Some steps → i < length all
below_length [] i x h = absurd cc
below_length (y ∷ ys) zero x h = omega arith
below_length (y ∷ ys) (suc i) x h = (let r = below_length ys i x h in omega arith)

-- the next sequence of a set
pub sequences_more : (set : SetTrees) (s : Scope) (all : List CodeSteps) (i : ℕ) (steps : CodeSteps) (old mid new : List Fault) → slice_get all i ≡ Some steps
    → Appends is_set_before (fault_of set) (FaultInSequences s 0 (take i all)) old mid → Appends is_set_before (fault_of set) (Of (holders.Sequence i) (FaultInSteps s 0 0 steps)) mid new
    → Appends is_set_before (fault_of set) (FaultInSequences s 0 (take (i + 1) all)) old new
sequences_more set s all i steps old mid new at before next =
    let front = take i all in
    let P = FaultInSteps s 0 0 steps in
    let lt = below_length all i steps at in
    let e : i ≡ 0 + length front = omega (arith, length-take-le i all (omega arith)) in
    let next' : Appends is_set_before (fault_of set) (Of (holders.Sequence (0 + length front)) P) mid new = subst (λ m. Appends is_set_before (fault_of set) (Of (holders.Sequence m) P) mid new) e next in
    rw (take-at all i steps at) (appends_same (more_to s 0 front steps) (more_from s 0 front steps) (appends_two (front_order s front P) before next'))

-- ---- the debug variables, and then the sequences

pub rules_of : (set : SetTrees) (names sequences more : List (List ℕ)) (none mid all : List Fault) → names ≡ names_of_predefined → sequences ≡ names_of set → more ≡ names_after_all names set.debugvars → none ≡ []
    → Appends is_set_before (fault_of set) (Of holders.Debugvars (At parts.Debugvars (BlockFault (record { visible = names; sequences = sequences; in_debugvars = true }) set.debugvars))) none mid
    → Appends is_set_before (fault_of set) (FaultInSequences (record { visible = more; sequences = sequences; in_debugvars = false }) 0 (map (λ s. s.steps) set.sequences)) mid all → AreRuleFaults set all
rules_of set names sequences more none mid all is_names is_sequences is_more is_none h k =
    let s = debugvars_scope set in
    let first : Appends is_set_before (fault_of set) (Of holders.Debugvars (At parts.Debugvars (BlockFault s set.debugvars))) none mid =
    subst (λ ns. Appends is_set_before (fault_of set) (Of holders.Debugvars (At parts.Debugvars (BlockFault (record { visible = ns; sequences = names_of set; in_debugvars = true }) set.debugvars))) none mid) is_names
    (subst (λ ns. Appends is_set_before (fault_of set) (Of holders.Debugvars (At parts.Debugvars (BlockFault (record { visible = names; sequences = ns; in_debugvars = true }) set.debugvars))) none mid) is_sequences h) in
    let steps = map (λ s. s.steps) set.sequences in
    let visible : more ≡ names_after_all names_of_predefined set.debugvars = is_more ∙ ap (λ ns. names_after_all ns set.debugvars) is_names in
    let second : Appends is_set_before (fault_of set) (FaultInSequences (sequences_scope set) 0 steps) mid all =
    subst (λ ns. Appends is_set_before (fault_of set) (FaultInSequences (record { visible = ns; sequences = names_of set; in_debugvars = false }) 0 steps) mid all) visible
    (subst (λ ns. Appends is_set_before (fault_of set) (FaultInSequences (record { visible = more; sequences = ns; in_debugvars = false }) 0 steps) mid all) is_sequences k) in
    let both = appends_two (debugvars_order (sequences_scope set) (At parts.Debugvars (BlockFault s set.debugvars)) steps) first second in
    record { list = both.list; is_list = both.is_list; are = both.is_new ∙ ap (λ l. l ++ map (fault_of set) both.list) is_none }
