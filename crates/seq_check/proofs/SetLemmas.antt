-- The sequences of a set, one after another.
use Rattle.std.proofs.Common.{◌≡◌, ◌∙◌, sym, ap, subst, ℕ, zero, suc, ◌+◌, ◌≤◌, nat_lt, ◌||◌, true, false, List, [], ◌∷◌, ◌++◌, map, length, drop, slice_get, Option, Some, None, option_map, bytes_eq, append_assoc, refl, arith, add-one, Result, Ok, Err, IfOk}
use Rattle.std.proofs.lemmas.Bool.Decides.{nat_tests}
use Rattle.std.proofs.lemmas.List.Folds.{list_any-append}
use Rattle.std.proofs.lemmas.List.{append-nil}
use Rattle.std.specs.List.{IsDistinct, AllByRecursion}
use Rattle.std.proofs.lemmas.Bool.{or_from, lt-ltb}
use Rattle.dap_base.specs.declared.text.OutOfMemory.{OutOfMemory}
use Rattle.dap_base.proofs.Basics.{lt_itself, other_text}
use Rattle.sequence_trees.specs.declared.spot.Part.TheVariants as parts
use Rattle.sequence_trees.specs.Trees.{CodeSteps, SetTrees}
use Rattle.expr_grammar.specs.Names.{has_name, with_name}
use Rattle.code_check.specs.First.{IsFirst, InEither, here, there}
use Rattle.code_check.specs.ExprFaults.{Scope}
use Rattle.code_check.specs.BlockFaults.{BlockFault}
use Rattle.seq_check.specs.declared.faulty.HeldFault.{HeldFault}
use Rattle.seq_check.specs.Views.{held_view}
use Rattle.seq_check.specs.declared.faulty.Holder.{Holder}
use Rattle.seq_check.specs.declared.faulty.Holder.TheVariants as holders
use Rattle.seq_check.specs.StepFaults.{StepFault, is_step_before, At, FaultInSteps}
use Rattle.seq_check.specs.SetFaults.{SetFault, holder_before, is_set_before, Of, debugvars_scope, sequences_scope, FaultInSequences, FaultInSet}
use Rattle.seq_check.proofs.FirstLemmas.{first_of_none, first_here, first_there, first_mapped}

drop-slice_get : {X : Type 0} (xs : List X) (i : ℕ) (x : X) → slice_get xs i ≡ Some x → drop i xs ≡ x ∷ drop (suc i) xs
drop-slice_get [] i x h = absurd cc
drop-slice_get (y ∷ ys) zero x h = (let e : y ≡ x = cc in ap (λ z. z ∷ ys) e)
drop-slice_get (y ∷ ys) (suc i) x h = drop-slice_get ys i x h

pub drop-at : {X : Type 0} (xs : List X) (i : ℕ) (x : X) → slice_get xs i ≡ Some x → drop i xs ≡ x ∷ drop (i + 1) xs
drop-at xs i x h = rw (add-one i) (drop-slice_get xs i x h)

pub drop-past : {X : Type 0} (xs : List X) (n : ℕ) → length xs ≤ n → drop n xs ≡ []
drop-past [] zero h = refl
drop-past [] (suc n) h = refl
drop-past (x ∷ xs) zero h = absurd (omega arith)
drop-past (x ∷ xs) (suc n) h = drop-past xs n (omega arith)

-- ---- names

-- the names, and these after them
abbrev pub added : List (List ℕ) → List (List ℕ) → List (List ℕ)
added names [] = names
added names (n ∷ more) = added (with_name names n) more

-- none of the names is among those
abbrev Apart : List (List ℕ) → List (List ℕ) → Type 0
Apart names more = AllByRecursion (λ n. has_name names n ≡ false) more

still_apart : (names : List (List ℕ)) (n : List ℕ) (more : List (List ℕ)) → Apart names more → AllByRecursion (λ m. bytes_eq n m ≡ false) more → Apart (names ++ n ∷ []) more
still_apart names n [] h k = h
still_apart names n (m ∷ more) h k =
    (list_any-append (bytes_eq m) names (n ∷ []) ∙ or_from (has_name names m) (bytes_eq m n || false) h.0 (or_from (bytes_eq m n) false (other_text n m k.0) refl), still_apart names n more h.1 k.1)

added-append : (names more : List (List ℕ)) → Apart names more → IsDistinct bytes_eq more → added names more ≡ names ++ more
unfolding IsDistinct
added-append names [] h k = sym (append-nil names)
added-append names (n ∷ more) h k =
    rw h.0 (added-append (names ++ n ∷ []) more (still_apart names n more h.1 k.0) k.1 ∙ append_assoc names (n ∷ []) more)

all_apart : (more : List (List ℕ)) → Apart [] more
all_apart [] = tt
all_apart (n ∷ more) = (refl, all_apart more)

pub added-distinct : (more : List (List ℕ)) → IsDistinct bytes_eq more → added [] more ≡ more
added-distinct more h = added-append [] more (all_apart more) h

-- ---- faults of one holder

abbrev pub held : Holder → StepFault → SetFault
held holder f = record { holder = holder; fault = f }

pub held_order : (holder : Holder) (f g : StepFault) → is_set_before (held holder f) (held holder g) ≡ is_step_before f g
held_order holders.Debugvars f g = refl
held_order (holders.Sequence n) f g = rw (lt_itself n) refl

pub first_held : (holder : Holder) (P : StepFault → Type 0) (r : Option StepFault) → IsFirst is_step_before P r → IsFirst is_set_before (Of holder P) (option_map (held holder) r)
first_held holder P r h =
    first_mapped is_step_before is_set_before (held holder) P (Of holder P) r (held_order holder) (λ f p. record { holder_is = refl; holds = p })
    (λ g o. (g.fault, o.holds, ap (λ x. held x g.fault) o.holder_is)) h

-- ---- the order of sequences

-- a sequence with a number from this one on has the fault
pub record IsFrom (n : ℕ) (holder : Holder) : Type 0 where
  pub number : ℕ
  pub is : holder ≡ holders.Sequence number
  pub least : n ≤ number

from_there : (s : Scope) (n : ℕ) (more : List CodeSteps) (f : SetFault) → FaultInSequences s n more f → IsFrom n f.holder
from_there s n [] f h = elim h [ ]
from_there s n (x ∷ more) f h = elim h [
  | here p ↦ record { number = n; is = p.holder_is; least = omega arith }
  | there q ↦ let r = from_there s (suc n) more f q in record { number = r.number; is = r.is; least = omega (arith, r.least) }
]

-- what an earlier holder has is before what a later one has
after_holder : (f g : SetFault) (a b : Holder) → f.holder ≡ a → g.holder ≡ b → holder_before a b ≡ false → holder_before b a ≡ true → is_set_before f g ≡ false
after_holder f g a b p q after before = rw (p, q, after, before) refl

pub above : (n k : ℕ) → suc n ≤ k → nat_lt k n ≡ false
above n k h = grind (arith, nat_tests)

sequences_order : (s : Scope) (n : ℕ) (P : StepFault → Type 0) (more : List CodeSteps) (p q : SetFault) → Of (holders.Sequence n) P p → FaultInSequences s (suc n) more q → is_set_before q p ≡ false
sequences_order s n P more p q h j =
    let r = from_there s (suc n) more q j in
    after_holder q p (holders.Sequence r.number) (holders.Sequence n) r.is h.holder_is (above n r.number r.least) (lt-ltb n r.number r.least)

debugvars_order : (s : Scope) (n : ℕ) (P : StepFault → Type 0) (more : List CodeSteps) (p q : SetFault) → Of holders.Debugvars P p → FaultInSequences s n more q → is_set_before q p ≡ false
debugvars_order s n P more p q h j = (let r = from_there s n more q j in after_holder q p (holders.Sequence r.number) holders.Debugvars r.is h.holder_is refl refl)

-- ---- the first fault

-- what is the first fault from this sequence on is that of all sequences
abbrev pub Onward : Scope → ℕ → List CodeSteps → SetFault → Type 0
Onward s i all = FaultInSequences s i (drop i all)

abbrev pub Carries : Scope → ℕ → List CodeSteps → Type 0
Carries s i all = (r : Option SetFault) → IsFirst is_set_before (Onward s i all) r → IsFirst is_set_before (FaultInSequences s 0 all) r

-- a fault of the sequence with this number, or of a later one
opened : (s : Scope) (i : ℕ) (all : List CodeSteps) (steps : CodeSteps) (r : Option SetFault) → slice_get all i ≡ Some steps
    → IsFirst is_set_before (InEither (Of (holders.Sequence i) (FaultInSteps s 0 0 steps)) (Onward s (i + 1) all)) r → IsFirst is_set_before (Onward s i all) r
opened s i all steps r at h =
    rw (drop-at all i steps at) (subst (λ n. IsFirst is_set_before (InEither (Of (holders.Sequence i) (FaultInSteps s 0 0 steps)) (FaultInSequences s n (drop (i + 1) all))) r) (add-one i) h)

pub carries_on : (s : Scope) (i : ℕ) (all : List CodeSteps) (steps : CodeSteps) → slice_get all i ≡ Some steps → Carries s i all
    → IsFirst is_step_before (FaultInSteps s 0 0 steps) None → Carries s (i + 1) all
carries_on s i all steps at before none = λ r h. before r (opened s i all steps r at (first_there is_set_before _ _ r (first_held (holders.Sequence i) (FaultInSteps s 0 0 steps) None none) h))

pub found_there : (s : Scope) (i : ℕ) (all : List CodeSteps) (steps : CodeSteps) (f : StepFault) → slice_get all i ≡ Some steps → Carries s i all
    → IsFirst is_step_before (FaultInSteps s 0 0 steps) (Some f) → IsFirst is_set_before (FaultInSequences s 0 all) (Some (held (holders.Sequence i) f))
found_there s i all steps f at before found =
    let r = Some (held (holders.Sequence i) f) in
    let order : (p q : SetFault) → Of (holders.Sequence i) (FaultInSteps s 0 0 steps) p → Onward s (i + 1) all q → is_set_before q p ≡ false =
    λ p q u v. sequences_order s i (FaultInSteps s 0 0 steps) (drop (i + 1) all) p q u (subst (λ m. FaultInSequences s m (drop (i + 1) all) q) (add-one i) v) in
    before r (opened s i all steps r at (first_here is_set_before _ _ (held (holders.Sequence i) f) order (first_held (holders.Sequence i) (FaultInSteps s 0 0 steps) (Some f) found)))

pub none_at_end : (s : Scope) (n : ℕ) (all : List CodeSteps) → length all ≤ n → Carries s n all → IsFirst is_set_before (FaultInSequences s 0 all) None
none_at_end s n all e before = before None (rw (drop-past all n e) (first_of_none is_set_before))

-- ---- the debug variables, and then the sequences

pub set_held : (set : SetTrees) (f : SetFault)
    → IsFirst is_set_before (Of holders.Debugvars (At parts.Debugvars (BlockFault (debugvars_scope set) set.debugvars))) (Some f) → IsFirst is_set_before (FaultInSet set) (Some f)
set_held set f h = first_here is_set_before _ _ f (debugvars_order (sequences_scope set) 0 (At parts.Debugvars (BlockFault (debugvars_scope set) set.debugvars)) (map (λ s. s.steps) set.sequences)) h

pub set_answer : (set : SetTrees) (r : Result (Option HeldFault) OutOfMemory)
    → IsFirst is_set_before (Of holders.Debugvars (At parts.Debugvars (BlockFault (debugvars_scope set) set.debugvars))) None
    → IfOk r (λ o. IsFirst is_set_before (FaultInSequences (sequences_scope set) 0 (map (λ s. s.steps) set.sequences)) (option_map held_view o))
    → IfOk r (λ o. IsFirst is_set_before (FaultInSet set) (option_map held_view o))
set_answer set (Err e) none h = tt
set_answer set (Ok o) none h = first_there is_set_before _ _ (option_map held_view o) none h
