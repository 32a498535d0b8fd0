-- Of two faults of a set at most one is before the other, so there is one list.
use Rattle.std.proofs.Common.{◌≡◌, ◌∙◌, sym, ap, subst, ℕ, ◌==◌, nat_lt, ◌&&◌, ◌||◌, not, Bool, true, false, List, [], ◌∷◌, map, Some, refl, arith, true≢false, ◌⊎◌, inl, inr}
use Rattle.std.proofs.lemmas.Bool.Decides.{nat_tests}
use Rattle.sequence_trees.specs.declared.spot.Part.{Part}
use Rattle.sequence_trees.specs.declared.spot.Part.TheVariants as parts
use Rattle.sequence_trees.specs.Trees.{SetTrees}
use Rattle.code_check.specs.declared.fault.CodeFault.{CodeFault}
use Rattle.code_check.specs.Order.{is_before}
use Rattle.code_check.specs.First.{IsFirst}
use Rattle.code_check.proofs.OrderLemmas.{is_before-asym}
use Rattle.seq_check.specs.declared.faulty.Holder.{Holder}
use Rattle.seq_check.specs.declared.faulty.Holder.TheVariants as holders
use Rattle.seq_check.specs.StepFaults.{StepFault, path_before, control_rank, fault_before, is_step_before}
use Rattle.seq_check.specs.SetFaults.{SetFault, holder_before, is_set_before, FaultInSet}
use Rattle.seq_check.specs.Valid as valid
use Rattle.seq_check.specs.Valid.{IsFirstOf}
use Rattle.seq_check.proofs.OrderLaws.{one_part}
use Rattle.set_faults.specs.declared.site.Fault.{Fault}
use Rattle.set_faults.specs.Listed.{IsListOf}
use Rattle.set_faults.specs.Rules.{fault_of, AreRuleFaults}
use Rattle.set_faults.proofs.ListLemmas.{contains_none, contains_cases, contains_first, all_at, one_list}
use Rattle.sequence_trees.specs.Parts.{part_rank}

-- ---- not both ways

not_both : (f g : CodeFault) → is_before f g ≡ true → is_before g f ≡ true → ⊥
not_both f g h j = true≢false (sym j ∙ is_before-asym f g h)

-- numbers of which the first decides, and else the rest
both_ways : (m n : ℕ) (b c : Bool) → (nat_lt m n || m == n && b) ≡ true → (nat_lt n m || n == m && c) ≡ true → (m ≡ n) × (b ≡ true) × (c ≡ true)
both_ways m n b c h j = grind (arith, nat_tests)

path_one_way : (p q : List ℕ) → path_before p q ≡ true → path_before q p ≡ true → ⊥
path_one_way [] [] h j = true≢false (sym h)
path_one_way [] (y ∷ q) h j = true≢false (sym j)
path_one_way (x ∷ p) [] h j = true≢false (sym h)
path_one_way (x ∷ p) (y ∷ q) h j = let both = both_ways x y (path_before p q) (path_before q p) h j in path_one_way p q both.1 both.2

part_one_way : (part : Part) (f g : CodeFault) → fault_before part f g ≡ true → fault_before part g f ≡ true → ⊥
part_one_way parts.Control f g h j = let both = both_ways (control_rank f.kind) (control_rank g.kind) (is_before f g) (is_before g f) h j in not_both f g both.1 both.2
part_one_way parts.Debugvars f g h j = not_both f g h j
part_one_way parts.Block f g h j = not_both f g h j
part_one_way parts.If f g h j = not_both f g h j
part_one_way parts.While f g h j = not_both f g h j

-- what comes before by the first test both ways, or by the rest both ways
either_way : (a b c d : Bool) → (a || not b && c) ≡ true → (b || not a && d) ≡ true → ((a ≡ true) × (b ≡ true)) ⊎ ((c ≡ true) × (d ≡ true))
either_way true true c d h j = inl (refl, refl)
either_way true false c d h j = absurd (true≢false (sym j))
either_way false true c d h j = absurd (true≢false (sym h))
either_way false false c d h j = inr (h, j)

step_one_way : (f g : StepFault) → is_step_before f g ≡ true → is_step_before g f ≡ true → ⊥
step_one_way f g h j = elim (either_way (path_before f.path g.path) (path_before g.path f.path) _ _ h j) [
  | inl by_path ↦ path_one_way f.path g.path by_path.0 by_path.1
  | inr rest ↦
      (let both = both_ways (part_rank f.part) (part_rank g.part) (fault_before f.part f.fault g.fault) (fault_before g.part g.fault f.fault) rest.0 rest.1 in
      part_one_way f.part f.fault g.fault both.1 (subst (λ x. fault_before x g.fault f.fault ≡ true) (sym (one_part f.part g.part both.0)) both.2))
]

lower_both : (m n : ℕ) → nat_lt m n ≡ true → nat_lt n m ≡ true → ⊥
lower_both m n h j = grind (arith, nat_tests)

holder_one_way : (a b : Holder) → holder_before a b ≡ true → holder_before b a ≡ true → ⊥
holder_one_way holders.Debugvars holders.Debugvars h j = true≢false (sym h)
holder_one_way holders.Debugvars (holders.Sequence n) h j = true≢false (sym j)
holder_one_way (holders.Sequence m) holders.Debugvars h j = true≢false (sym h)
holder_one_way (holders.Sequence m) (holders.Sequence n) h j = lower_both m n h j

pub set_one_way : (f g : SetFault) → is_set_before f g ≡ true → is_set_before g f ≡ true → ⊥
set_one_way f g h j = elim (either_way (holder_before f.holder g.holder) (holder_before g.holder f.holder) _ _ h j) [
  | inl by_holder ↦ holder_one_way f.holder g.holder by_holder.0 by_holder.1
  | inr rest ↦ step_one_way f.fault g.fault rest.0 rest.1
]

-- ---- one list, whose head is the first

pub one_rule_list : (set : SetTrees) (faults other : List Fault) → AreRuleFaults set faults → AreRuleFaults set other → faults ≡ other
one_rule_list set faults other h k = h.are ∙ ap (map (fault_of set)) (one_list is_set_before set_one_way (FaultInSet set) h.list k.list h.is_list k.is_list) ∙ sym k.are

-- no fault is before itself
itself : (f : SetFault) (b : Bool) → is_set_before f f ≡ b → b ≡ false
itself f true e = absurd (set_one_way f f e e)
itself f false e = refl

other_way : (f g : SetFault) (b : Bool) → is_set_before g f ≡ b → is_set_before f g ≡ true → b ≡ false
other_way f g true e h = absurd (set_one_way f g h e)
other_way f g false e h = refl

first_of : (set : SetTrees) (f : SetFault) (more : List SetFault) → IsListOf is_set_before (FaultInSet set) (f ∷ more) → IsFirst is_set_before (FaultInSet set) (Some f)
first_of set f more h = record {
  holds = h.holds f (contains_first f more);
  none_before = λ g p. elim (contains_cases f more g (h.has g p)) [
    | inl e ↦ subst (λ x. is_set_before x f ≡ false) e (itself f (is_set_before f f) refl)
    | inr later ↦ other_way f g (is_set_before g f) refl (all_at (λ x. is_set_before f x ≡ true) more h.rises.0 g later)
  ];
}

first_rule : (set : SetTrees) (fault : Fault) (more : List Fault) (list : List SetFault) → IsListOf is_set_before (FaultInSet set) list → fault ∷ more ≡ map (fault_of set) list → IsFirstOf set fault.kind fault.spot
first_rule set fault more [] h e = absurd cc
first_rule set fault more (f ∷ list) h e =
    let is : fault ≡ fault_of set f = cc in
    valid.in_texts f (first_of set f list h) (ap (λ x. x.kind) is) (ap (λ x. x.spot) is)

pub first_is_head : (set : SetTrees) (fault : Fault) (more : List Fault) → AreRuleFaults set (fault ∷ more) → IsFirstOf set fault.kind fault.spot
first_is_head set fault more h = first_rule set fault more h.list h.is_list h.are

none_listed : (set : SetTrees) (list : List SetFault) → IsListOf is_set_before (FaultInSet set) list → [] ≡ map (fault_of set) list → (f : SetFault) → FaultInSet set f → ⊥
none_listed set [] h e f p = contains_none f (h.has f p)
none_listed set (g ∷ list) h e f p = absurd cc

pub none_is_empty : (set : SetTrees) → AreRuleFaults set [] → (f : SetFault) → FaultInSet set f → ⊥
none_is_empty set h = none_listed set h.list h.is_list h.are
