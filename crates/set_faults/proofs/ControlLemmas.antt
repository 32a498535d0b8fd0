-- The faults of the form of a control, and of what a control has itself, in their order.
use Rattle.std.proofs.Common.{◌≡◌, ◌∙◌, sym, ap, ℕ, ◌<◌, ◌≤◌, ◌==◌, nat_lt, ◌&&◌, ◌||◌, not, Bool, true, false, List, [], ◌++◌, map, Option, Some, None, refl, arith, true≢false, append_assoc, IsTrue, ◌↔◌}
use Rattle.std.proofs.lemmas.Bool.Decides.{nat_tests}
use Rattle.expr_grammar.specs.Tree.{Tree}
use Rattle.sequence_trees.specs.declared.spot.Part.{Part}
use Rattle.sequence_trees.specs.declared.spot.Part.TheVariants as parts
use Rattle.code_check.specs.declared.fault.FaultKind.{FaultKind}
use Rattle.code_check.specs.declared.fault.FaultKind.TheVariants as k
use Rattle.code_check.specs.declared.fault.CodeFault.{CodeFault}
use Rattle.code_check.specs.First.{InEither, here, there, FaultWhere}
use Rattle.code_check.proofs.CallLemmas.{is_so}
use Rattle.seq_check.specs.StepFaults.{StepFault, path_before, control_rank, fault_before, is_step_before, At, TimeoutFault, LoopFault, ControlFault}
use Rattle.seq_check.proofs.ControlLemmas.{at_from, kind_of_loop, kind_of_timeout, kind_of_where, view_at, view_order}
use Rattle.set_faults.specs.Listed.{IsListOf, found_if}
use Rattle.set_faults.specs.Controls.{is_too_long, is_unbounded}
use Rattle.set_faults.proofs.AddLemmas.{is_said}
use Rattle.set_faults.proofs.ListLemmas.{listed_nothing, listed_one, listed_two, listed_mapped}
use Rattle.expr_grammar.specs.Bare.{nowhere}
use Rattle.sequence_trees.specs.Parts.{part_rank}

abbrev before : CodeFault → CodeFault → Bool
before = fault_before parts.Control

-- ---- one fault, where a test passes

listed_if : (b : Bool) (Cause : Type 0) (kind : FaultKind) → (b ≡ true → Cause) → (Cause → b ≡ true) → IsListOf before (FaultWhere Cause nowhere kind) (found_if b nowhere kind)
listed_if true Cause kind to from = listed_one before (FaultWhere Cause nowhere kind) (record { place = nowhere; kind = kind }) (record { cause = to refl; is = refl }) (λ g w. w.is)
listed_if false Cause kind to from = listed_nothing before (FaultWhere Cause nowhere kind) (λ f w. true≢false (sym (from w.cause)))

over : (t : ℕ) → nat_lt 60000000 t ≡ true → 60000000 < t
over t h = grind (arith, nat_tests)

is_over : (t : ℕ) → 60000000 < t → nat_lt 60000000 t ≡ true
is_over t h = grind (arith, nat_tests)

zero_is : (t : ℕ) → (t == 0) ≡ true → t ≡ 0
zero_is t h = grind (arith, nat_tests)

is_zero : (t : ℕ) → t ≡ 0 → (t == 0) ≡ true
is_zero t h = grind (arith, nat_tests)

listed_timeout : (timeout : Option ℕ) → IsListOf before (TimeoutFault timeout) (found_if (is_too_long timeout) nowhere k.TimeoutTooLong)
listed_timeout None = listed_nothing before (TimeoutFault None) (λ f h. elim h [ ])
listed_timeout (Some t) = listed_if (nat_lt 60000000 t) (60000000 < t) k.TimeoutTooLong (over t) (is_over t)

listed_loop : (repeat : Option Tree) (timeout : Option ℕ) → IsListOf before (LoopFault repeat timeout) (found_if (is_unbounded repeat timeout) nowhere k.UnboundedLoop)
listed_loop None timeout = listed_nothing before (LoopFault None timeout) (λ f h. elim h [ ])
listed_loop (Some e) None = listed_if true (Unit {0}) k.UnboundedLoop (λ h. tt) (λ h. refl)
listed_loop (Some e) (Some t) = listed_if (t == 0) (t ≡ 0) k.UnboundedLoop (zero_is t) (is_zero t)

-- ---- the order of those of the form

kind_order : (f g : CodeFault) (a b : FaultKind) → f.kind ≡ a → g.kind ≡ b → nat_lt (control_rank a) (control_rank b) ≡ true → before f g ≡ true
kind_order f g a b p q lt = rw (p, q, lt) refl

form_parts : (around : ℕ) (repeat : Option Tree) (timeout : Option ℕ) (b : Bool) → (b ≡ true → 32 ≤ around) → (32 ≤ around → b ≡ true)
    → IsListOf before (ControlFault around repeat timeout) (found_if b nowhere k.NestedTooDeep ++ (found_if (is_too_long timeout) nowhere k.TimeoutTooLong ++ found_if (is_unbounded repeat timeout) nowhere k.UnboundedLoop))
form_parts around repeat timeout b to from =
    listed_two before _ _ _ _ (λ f g h j. (let nested = kind_of_where (32 ≤ around) k.NestedTooDeep f h in elim j [
      | here u ↦ kind_order f g k.NestedTooDeep k.TimeoutTooLong nested (kind_of_timeout timeout g u) refl
      | there v ↦ kind_order f g k.NestedTooDeep k.UnboundedLoop nested (kind_of_loop repeat timeout g v) refl
    ])) (listed_if b (32 ≤ around) k.NestedTooDeep to from)
    (listed_two before _ _ _ _ (λ f g h j. kind_order f g k.TimeoutTooLong k.UnboundedLoop (kind_of_timeout timeout f h) (kind_of_loop repeat timeout g j) refl) (listed_timeout timeout) (listed_loop repeat timeout))

-- the faults of the form, as they were added
pub form_listed : (around : ℕ) (repeat : Option Tree) (timeout : Option ℕ) (b : Bool) (list : List CodeFault) → (IsTrue b ↔ (32 ≤ around))
    → list ≡ found_if b nowhere k.NestedTooDeep ++ (found_if (is_too_long timeout) nowhere k.TimeoutTooLong ++ found_if (is_unbounded repeat timeout) nowhere k.UnboundedLoop)
    → IsListOf before (ControlFault around repeat timeout) list
form_listed around repeat timeout b list h e = rw e (form_parts around repeat timeout b (is_so b (32 ≤ around) h) (is_said b (32 ≤ around) h))

-- what was added to nothing, to that, and to that
pub joined : (a b c none one two three : List CodeFault) → one ≡ [] ++ a → two ≡ one ++ b → three ≡ two ++ c → three ≡ a ++ (b ++ c)
joined a b c none one two three p q r = r ∙ ap (λ l. l ++ c) (q ∙ ap (λ l. l ++ b) p) ∙ append_assoc a b c

-- ---- the parts of a step

pub listed_at : (part : Part) (P : CodeFault → Type 0) (list : List CodeFault) → IsListOf (fault_before part) P list → IsListOf is_step_before (At part P) (map (view_at part) list)
listed_at part P list h = listed_mapped (fault_before part) is_step_before (view_at part) P (At part P) list (view_order part) (λ f p. record { own = refl; part_is = refl; holds = p }) (at_from part P) h

abbrev before_by : (a b : List ℕ) (x y : Part) (f g : CodeFault) → Bool
before_by a b x y f g = path_before a b || not (path_before b a) && (nat_lt (part_rank x) (part_rank y) || part_rank x == part_rank y && fault_before x f g)

own_order : (a b : List ℕ) (x y u v : Part) (f g : CodeFault) → a ≡ [] → b ≡ [] → x ≡ u → y ≡ v → before_by [] [] u v f g ≡ true → before_by a b x y f g ≡ true
own_order a b x y u v f g p q r s h = rw (p, q, r, s) h

parts_order : (x y : Part) (P Q : CodeFault → Type 0) (p q : StepFault) → nat_lt (part_rank x) (part_rank y) ≡ true → At x P p → At y Q q → is_step_before p q ≡ true
parts_order x y P Q p q lt h j = own_order p.path q.path p.part q.part x y p.fault q.fault h.own j.own h.part_is j.part_is (rw lt refl)

pub form_order : (P Q R : CodeFault → Type 0) (p q : StepFault) → At parts.Control P p → InEither (At parts.If Q) (At parts.While R) q → is_step_before p q ≡ true
form_order P Q R p q h j = elim j [ here u ↦ parts_order parts.Control parts.If P Q p q refl h u | there v ↦ parts_order parts.Control parts.While P R p q refl h v ]

pub conditions_order : (Q R : CodeFault → Type 0) (p q : StepFault) → At parts.If Q p → At parts.While R q → is_step_before p q ≡ true
conditions_order Q R p q h j = parts_order parts.If parts.While Q R p q refl h j
