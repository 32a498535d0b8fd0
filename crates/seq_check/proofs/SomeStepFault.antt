-- Steps have a first fault, or none.
use Rattle.std.proofs.Common.{◌≡◌, inl, inr, ℕ, suc, ◌<◌, ◌≤◌, not, Option, Some, None, option_map, refl}
use Rattle.std.specs.Option.{option_or}
use Rattle.expr_grammar.specs.Tree.{Tree}
use Rattle.sequence_trees.specs.declared.spot.Part.{Part}
use Rattle.sequence_trees.specs.declared.spot.Part.TheVariants as parts
use Rattle.sequence_trees.specs.Trees.{CodeStep, Block, Control, CodeSteps, NoSteps, MoreSteps}
use Rattle.code_check.specs.declared.fault.FaultKind.{FaultKind}
use Rattle.code_check.specs.declared.fault.FaultKind.TheVariants as k
use Rattle.code_check.specs.declared.fault.CodeFault.{CodeFault}
use Rattle.code_check.specs.First.{IsFirst, FaultWhere}
use Rattle.code_check.specs.ExprFaults.{Scope}
use Rattle.code_check.specs.BlockFaults.{seeing, BlockFault}
use Rattle.seq_check.specs.declared.faulty.PartFault.{PartFault}
use Rattle.seq_check.specs.StepFaults.{StepFault, fault_before, is_step_before, under, Under, At, ConditionFault, TimeoutFault, LoopFault, ControlFault, OwnFault, FaultInStep, FaultInSteps, names_after_step}
use Rattle.seq_check.specs.Views.{own_view}
use Rattle.seq_check.proofs.FirstLemmas.{first_of_none, first_or, first_mapped}
use Rattle.seq_check.proofs.ControlLemmas.{form_where, form_where_not, form_none, control_first, first_in_part, own_first}
use Rattle.seq_check.proofs.StepLemmas.{control_own, control_inner, steps_order, under_order}
use Rattle.dap_base.proofs.Least.{Decided, at_most, less, same_number}
use Rattle.code_check.proofs.SomeFault.{expr_first, block_first}
use Rattle.expr_grammar.specs.Bare.{nowhere}

-- ---- a control itself

-- the first such fault of a control itself, or none
abbrev FirstForm : (CodeFault → Type 0) → Type 0
FirstForm P = (r : Option CodeFault) × IsFirst (fault_before parts.Control) P r

form : (Cause : Type 0) (kind : FaultKind) → Decided Cause → FirstForm (FaultWhere Cause nowhere kind)
form Cause kind (inl is) = (Some (record { place = nowhere; kind = kind }), form_where Cause kind is)
form Cause kind (inr not) = (None, form_where_not Cause kind not)

timeout_first : (timeout : Option ℕ) → FirstForm (TimeoutFault timeout)
timeout_first None = (None, form_none)
timeout_first (Some timeout) = form (60000000 < timeout) k.TimeoutTooLong (less 60000000 timeout)

loop_first : (repeat : Option Tree) (timeout : Option ℕ) → FirstForm (LoopFault repeat timeout)
loop_first None timeout = (None, form_none)
loop_first (Some e) None = form (Unit {0}) k.UnboundedLoop (inl tt)
loop_first (Some e) (Some timeout) = form (timeout ≡ 0) k.UnboundedLoop (same_number timeout 0)

form_first : (around : ℕ) (repeat : Option Tree) (timeout : Option ℕ) → FirstForm (ControlFault around repeat timeout)
form_first around repeat timeout =
    let nested = form (32 ≤ around) k.NestedTooDeep (at_most 32 around) in
    let long = timeout_first timeout in
    let loop = loop_first repeat timeout in
    let later = option_or long.0 loop.0 in
    (option_or nested.0 later, control_first around repeat timeout nested.0 long.0 loop.0 later (option_or nested.0 later) refl refl nested.1 long.1 loop.1)

-- ---- a step itself

-- the first such fault of a step itself, or none
abbrev FirstOwn : (StepFault → Type 0) → Type 0
FirstOwn P = (r : Option PartFault) × IsFirst is_step_before P (option_map own_view r)

in_part : (part : Part) (P : CodeFault → Type 0) → (r : Option CodeFault) × IsFirst (fault_before part) P r → FirstOwn (At part P)
in_part part P f = (option_map (λ c. record { part = part; fault = c }) f.0, first_in_part part P f.0 (option_map (λ c. record { part = part; fault = c }) f.0) refl f.1)

cond_first : (s : Scope) (cond : Option Tree) → (r : Option CodeFault) × IsFirst (fault_before parts.If) (ConditionFault s cond) r
cond_first s None = (None, first_of_none (fault_before parts.If))
cond_first s (Some e) = expr_first s e

repeat_first : (s : Scope) (repeat : Option Tree) → (r : Option CodeFault) × IsFirst (fault_before parts.While) (ConditionFault s repeat) r
repeat_first s None = (None, first_of_none (fault_before parts.While))
repeat_first s (Some e) = expr_first s e

control_itself : (s : Scope) (around : ℕ) (cond repeat : Option Tree) (timeout : Option ℕ) → FirstOwn (OwnFault s around cond repeat timeout)
control_itself s around cond repeat timeout =
    let a = in_part parts.Control (ControlFault around repeat timeout) (form_first around repeat timeout) in
    let b = in_part parts.If (ConditionFault s cond) (cond_first s cond) in
    let c = in_part parts.While (ConditionFault s repeat) (repeat_first s repeat) in
    let later = option_or b.0 c.0 in
    (option_or a.0 later, own_first s around cond repeat timeout a.0 b.0 c.0 later (option_or a.0 later) refl refl a.1 b.1 c.1)

-- ---- steps

-- the first such fault of steps, or none
abbrev pub FirstStep : (StepFault → Type 0) → Type 0
FirstStep P = (r : Option StepFault) × IsFirst is_step_before P r

pub code_first : (part : Part) (P : CodeFault → Type 0) → (r : Option CodeFault) × IsFirst (fault_before part) P r → FirstStep (At part P)
code_first part P f = let own = in_part part P f in (option_map own_view own.0, own.1)

under_first : (n : ℕ) (P : StepFault → Type 0) → FirstStep P → FirstStep (Under n P)
under_first n P f =
    (option_map (under n) f.0, first_mapped is_step_before is_step_before (under n) P (Under n P) f.0 (under_order n) (λ g p. record { inner = g; holds = p; is = refl }) (λ g u. (u.inner, u.holds, u.is)) f.1)

with_inner : (s : Scope) (around : ℕ) (cond repeat : Option Tree) (timeout : Option ℕ) (steps : CodeSteps) (own : Option PartFault) → IsFirst is_step_before (OwnFault s around cond repeat timeout) (option_map own_view own)
    → FirstStep (FaultInSteps s (suc around) 0 steps) → FirstStep (FaultInStep s around (Control cond repeat timeout steps))
with_inner s around cond repeat timeout steps None h inner = (inner.0, control_inner s around cond repeat timeout steps inner.0 h inner.1)
with_inner s around cond repeat timeout steps (Some f) h inner = (Some (own_view f), control_own s around cond repeat timeout steps (own_view f) h)

mutual
  step_first : (s : Scope) (around : ℕ) (step : CodeStep) → FirstStep (FaultInStep s around step)
  step_first s around (Block code) = code_first parts.Block (BlockFault s code) (block_first s code)
  step_first s around (Control cond repeat timeout steps) =
      let own = control_itself s around cond repeat timeout in
      with_inner s around cond repeat timeout steps own.0 own.1 (steps_first s (suc around) 0 steps)

  pub steps_first : (s : Scope) (around n : ℕ) (steps : CodeSteps) → FirstStep (FaultInSteps s around n steps)
  steps_first s around n NoSteps = (None, first_of_none is_step_before)
  steps_first s around n (MoreSteps step more) =
      let P = FaultInStep s around step in
      let s' = seeing s (names_after_step s.visible step) in
      let Q = FaultInSteps s' around (suc n) more in
      let a = under_first n P (step_first s around step) in
      let b = steps_first s' around (suc n) more in
      (option_or a.0 b.0, first_or is_step_before (Under n P) Q (option_or a.0 b.0) a.0 b.0 (steps_order s' around n P more) refl a.1 b.1)
