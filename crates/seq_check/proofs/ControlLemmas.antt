-- The first fault of a control itself.
use Rattle.std.proofs.Common.{◌≡◌, ◌∙◌, sym, ap, subst, ℕ, ◌<◌, ◌≤◌, ◌==◌, nat_lt, ◌&&◌, ◌||◌, not, Bool, true, false, List, [], Option, Some, None, option_map, refl, arith}
use Rattle.std.proofs.lemmas.Bool.Decides.{nat_tests}
use Rattle.std.specs.Option.{option_or}
use Rattle.expr_grammar.specs.Tree.{Tree}
use Rattle.sequence_trees.specs.declared.spot.Part.{Part}
use Rattle.sequence_trees.specs.declared.spot.Part.TheVariants as parts
use Rattle.code_check.specs.declared.fault.FaultKind.{FaultKind}
use Rattle.code_check.specs.declared.fault.FaultKind.TheVariants as k
use Rattle.code_check.specs.declared.fault.CodeFault.{CodeFault}
use Rattle.code_check.specs.First.{IsFirst, Nowhere, InEither, here, there, FaultWhere}
use Rattle.code_check.specs.ExprFaults.{Scope}
use Rattle.code_check.proofs.OrderLemmas.{is_before-irrefl}
use Rattle.seq_check.specs.declared.faulty.PartFault.{PartFault}
use Rattle.seq_check.specs.StepFaults.{StepFault, path_before, control_rank, fault_before, is_step_before, At, ConditionFault, TimeoutFault, LoopFault, ControlFault, OwnFault}
use Rattle.seq_check.specs.Views.{own_view}
use Rattle.seq_check.proofs.FirstLemmas.{first_of_none, first_or, first_mapped}
use Rattle.dap_base.proofs.Basics.{lt_itself}
use Rattle.expr_grammar.specs.Bare.{nowhere}
use Rattle.sequence_trees.specs.Parts.{part_rank}

-- ---- single faults of the form

pub same_rank : (n : ℕ) → (n == n) ≡ true
same_rank n = grind (arith, nat_tests)

not_before_itself : (f : CodeFault) → fault_before parts.Control f f ≡ false
not_before_itself f = rw (lt_itself (control_rank f.kind), same_rank (control_rank f.kind)) (is_before-irrefl f)

pub form_where : (Cause : Type 0) (kind : FaultKind) → Cause → IsFirst (fault_before parts.Control) (FaultWhere Cause nowhere kind) (Some (record { place = nowhere; kind = kind }))
form_where Cause kind c = record {
  holds = record { cause = c; is = refl };
  none_before = λ g s. subst (λ x. fault_before parts.Control x (record { place = nowhere; kind = kind }) ≡ false) (sym s.is) (not_before_itself (record { place = nowhere; kind = kind }));
}

pub form_where_not : (Cause : Type 0) (kind : FaultKind) → (Cause → ⊥) → IsFirst (fault_before parts.Control) (FaultWhere Cause nowhere kind) None
form_where_not Cause kind c = record { holds = tt; none_before = λ g s. absurd (c s.cause) }

pub form_none : IsFirst (fault_before parts.Control) Nowhere None
form_none = first_of_none (fault_before parts.Control)

pub ruleset forms = (form_where, form_where_not, form_none)

-- ---- the order of those of the form

pub kind_of_where : (Cause : Type 0) (kind : FaultKind) (f : CodeFault) → FaultWhere Cause nowhere kind f → f.kind ≡ kind
kind_of_where Cause kind f h = ap (λ x. x.kind) h.is

pub kind_of_timeout : (timeout : Option ℕ) (f : CodeFault) → TimeoutFault timeout f → f.kind ≡ k.TimeoutTooLong
kind_of_timeout None f h = elim h [ ]
kind_of_timeout (Some t) f h = kind_of_where (60000000 < t) k.TimeoutTooLong f h

pub kind_of_loop : (repeat : Option Tree) (timeout : Option ℕ) (f : CodeFault) → LoopFault repeat timeout f → f.kind ≡ k.UnboundedLoop
kind_of_loop None timeout f h = elim h [ ]
kind_of_loop (Some e) None f h = kind_of_where (Unit {0}) k.UnboundedLoop f h
kind_of_loop (Some e) (Some t) f h = kind_of_where (t ≡ 0) k.UnboundedLoop f h

-- a fault of a kind that comes later is not before one of an earlier kind
kind_order : (f g : CodeFault) (a b : FaultKind) → f.kind ≡ a → g.kind ≡ b → nat_lt (control_rank a) (control_rank b) ≡ false → (control_rank a == control_rank b) ≡ false → fault_before parts.Control f g ≡ false
kind_order f g a b p q lt eq = rw (p, q, lt, eq) refl

timeout_order : (repeat : Option Tree) (timeout : Option ℕ) (p q : CodeFault) → TimeoutFault timeout p → LoopFault repeat timeout q → fault_before parts.Control q p ≡ false
timeout_order repeat timeout p q h j = kind_order q p k.UnboundedLoop k.TimeoutTooLong (kind_of_loop repeat timeout q j) (kind_of_timeout timeout p h) refl refl

nested_order : (around : ℕ) (repeat : Option Tree) (timeout : Option ℕ) (p q : CodeFault) → FaultWhere (32 ≤ around) nowhere k.NestedTooDeep p → InEither (TimeoutFault timeout) (LoopFault repeat timeout) q → fault_before parts.Control q p ≡ false
nested_order around repeat timeout p q h j =
    let nested = kind_of_where (32 ≤ around) k.NestedTooDeep p h in
    elim j [
      | here u ↦ kind_order q p k.TimeoutTooLong k.NestedTooDeep (kind_of_timeout timeout q u) nested refl refl
      | there v ↦ kind_order q p k.UnboundedLoop k.NestedTooDeep (kind_of_loop repeat timeout q v) nested refl refl
    ]

pub control_first : (around : ℕ) (repeat : Option Tree) (timeout : Option ℕ) (a b c x r : Option CodeFault) → x ≡ option_or b c → r ≡ option_or a x
    → IsFirst (fault_before parts.Control) (FaultWhere (32 ≤ around) nowhere k.NestedTooDeep) a → IsFirst (fault_before parts.Control) (TimeoutFault timeout) b
    → IsFirst (fault_before parts.Control) (LoopFault repeat timeout) c → IsFirst (fault_before parts.Control) (ControlFault around repeat timeout) r
control_first around repeat timeout a b c x r e f nested long loop =
    let before = fault_before parts.Control in
    first_or before _ _ r a x (nested_order around repeat timeout) f nested (first_or before _ _ x b c (timeout_order repeat timeout) e long loop)

-- ---- the parts of a control

abbrev before_by : (a b : List ℕ) (x y : Part) (f g : CodeFault) → Bool
before_by a b x y f g = path_before a b || not (path_before b a) && (nat_lt (part_rank x) (part_rank y) || part_rank x == part_rank y && fault_before x f g)

own_order : (a b : List ℕ) (x y u v : Part) (f g : CodeFault) → a ≡ [] → b ≡ [] → x ≡ u → y ≡ v → before_by [] [] u v f g ≡ false → before_by a b x y f g ≡ false
own_order a b x y u v f g p q r s h = rw (p, q, r, s) h

parts_order : (x y : Part) (P Q : CodeFault → Type 0) (p q : StepFault) → nat_lt (part_rank y) (part_rank x) ≡ false → (part_rank y == part_rank x) ≡ false → At x P p → At y Q q → is_step_before q p ≡ false
parts_order x y P Q p q lt eq h j = own_order q.path p.path q.part p.part y x q.fault p.fault j.own h.own j.part_is h.part_is (rw (lt, eq) refl)

abbrev pub view_at : Part → CodeFault → StepFault
view_at part f = record { path = []; part = part; fault = f }

pub view_order : (part : Part) (f g : CodeFault) → is_step_before (view_at part f) (view_at part g) ≡ fault_before part f g
view_order part f g = rw (lt_itself (part_rank part), same_rank (part_rank part)) refl

pub at_from : (part : Part) (P : CodeFault → Type 0) (g : StepFault) → At part P g → (f : CodeFault) × P f × (g ≡ view_at part f)
at_from part P g h = (g.fault, h.holds, same_view g.path g.part g.fault part h.own h.part_is) where
  same_view : (path : List ℕ) (x : Part) (f : CodeFault) (y : Part) → path ≡ [] → x ≡ y → record { path = path; part = x; fault = f } ≡ view_at y f
  same_view path x f y p q = rw (p, q) refl

first_viewed : (part : Part) (P : CodeFault → Type 0) (r : Option CodeFault) → IsFirst (fault_before part) P r → IsFirst is_step_before (At part P) (option_map (view_at part) r)
first_viewed part P r h = first_mapped (fault_before part) is_step_before (view_at part) P (At part P) r (view_order part) (λ f p. record { own = refl; part_is = refl; holds = p }) (at_from part P) h

viewed : (part : Part) (r : Option CodeFault) (o : Option PartFault) → o ≡ option_map (λ f. record { part = part; fault = f }) r → option_map (view_at part) r ≡ option_map own_view o
viewed part None o e = rw e refl
viewed part (Some f) o e = rw e refl

pub first_in_part : (part : Part) (P : CodeFault → Type 0) (r : Option CodeFault) (o : Option PartFault) → o ≡ option_map (λ f. record { part = part; fault = f }) r
    → IsFirst (fault_before part) P r → IsFirst is_step_before (At part P) (option_map own_view o)
first_in_part part P r o e h = subst (IsFirst is_step_before (At part P)) (viewed part r o e) (first_viewed part P r h)

option_map-or : (a b : Option PartFault) → option_map own_view (option_or a b) ≡ option_or (option_map own_view a) (option_map own_view b)
option_map-or None b = refl
option_map-or (Some f) b = refl

conditions_order : (form : CodeFault → Type 0) (P Q : CodeFault → Type 0) (p q : StepFault) → At parts.Control form p → InEither (At parts.If P) (At parts.While Q) q → is_step_before q p ≡ false
conditions_order form P Q p q h j = elim j [ here u ↦ parts_order parts.Control parts.If form P p q refl refl h u | there v ↦ parts_order parts.Control parts.While form Q p q refl refl h v ]

pub own_first : (s : Scope) (around : ℕ) (cond repeat : Option Tree) (timeout : Option ℕ) (a b c x r : Option PartFault) → x ≡ option_or b c → r ≡ option_or a x
    → IsFirst is_step_before (At parts.Control (ControlFault around repeat timeout)) (option_map own_view a) → IsFirst is_step_before (At parts.If (ConditionFault s cond)) (option_map own_view b)
    → IsFirst is_step_before (At parts.While (ConditionFault s repeat)) (option_map own_view c) → IsFirst is_step_before (OwnFault s around cond repeat timeout) (option_map own_view r)
own_first s around cond repeat timeout a b c x r e f form first second =
    let P = ConditionFault s cond in
    let Q = ConditionFault s repeat in
    first_or is_step_before _ _ (option_map own_view r) (option_map own_view a) (option_map own_view x) (conditions_order (ControlFault around repeat timeout) P Q) (ap (option_map own_view) f ∙ option_map-or a x) form
    (first_or is_step_before _ _ (option_map own_view x) (option_map own_view b) (option_map own_view c) (λ p q h j. parts_order parts.If parts.While P Q p q refl refl h j) (ap (option_map own_view) e ∙ option_map-or b c) first second)

-- where a control itself has no fault, it does not stand too deep
pub not_deep : (s : Scope) (around : ℕ) (cond repeat : Option Tree) (timeout : Option ℕ) (r : Option PartFault) → IsFirst is_step_before (OwnFault s around cond repeat timeout) (option_map own_view r) → r ≡ None → around < 32
not_deep s around cond repeat timeout r h e = below (nat_lt around 32) refl where
  none : IsFirst is_step_before (OwnFault s around cond repeat timeout) None
  none = rw e at h

  deep : 32 ≤ around → ⊥
  deep too = none.none_before (view_at parts.Control (record { place = nowhere; kind = k.NestedTooDeep })) (here (record { own = refl; part_is = refl; holds = here (record { cause = too; is = refl }) }))

  below : (b : Bool) → nat_lt around 32 ≡ b → around < 32
  below true q = grind (arith, nat_tests)
  below false q = let too : 32 ≤ around = grind (arith, nat_tests) in absurd (deep too)
