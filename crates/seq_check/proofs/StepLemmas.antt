-- The first fault of steps.
use Rattle.std.proofs.Common.{Box, Global, ◌≡◌, ◌∙◌, sym, ap, subst, ℕ, suc, ◌+◌, ◌<◌, ◌≤◌, ◌==◌, nat_lt, ◌&&◌, ◌||◌, not, Bool, false, List, [], ◌∷◌, ◌++◌, map, length, take, drop, get_or, Option, Some, None, option_map, Result, Ok, Err, IfOk, refl, arith, drop-cons}
use Rattle.std.proofs.lemmas.Bool.Decides.{nat_tests}
use Rattle.std.proofs.lemmas.List.{take_more, map-append, length-map, length-take-le, take-append-drop}
use Rattle.std.proofs.lemmas.Bool.{lt-ltb}
use Rattle.expr_grammar.specs.Tree.{Tree, tree, code_trees}
use Rattle.expr_grammar.specs.declared.code.Stmt.{Stmt}
use Rattle.expr_grammar.specs.declared.code.Expr.{Expr}
use Rattle.sequence_trees.specs.declared.spot.Part.{Part}
use Rattle.sequence_trees.specs.declared.steps.CheckedStep.{CheckedStep}
use Rattle.sequence_trees.specs.declared.steps.CheckedStep.TheVariants as c
use Rattle.sequence_trees.specs.declared.steps.CheckedStep.TheOpen.{CheckedStep-F}
use Rattle.sequence_trees.specs.declared.steps.CheckedStep.TheFolds.{fold-roll-CheckedStep}
use Rattle.sequence_trees.specs.Trees.{CodeStep, Block, Control, CodeSteps, NoSteps, MoreSteps, steps_of, checked_step, step_tree, steps_tree}
use Rattle.code_check.specs.declared.fault.CodeFault.{CodeFault}
use Rattle.code_check.specs.First.{IsFirst, InEither, here, there}
use Rattle.code_check.specs.ExprFaults.{Scope}
use Rattle.code_check.specs.BlockFaults.{seeing}
use Rattle.dap_base.specs.declared.text.OutOfMemory.{OutOfMemory}
use Rattle.dap_base.proofs.Basics.{lt_itself}
use Rattle.seq_check.specs.declared.faulty.FaultyStep.{FaultyStep}
use Rattle.seq_check.specs.Views.{faulty_view}
use Rattle.seq_check.specs.StepFaults.{StepFault, path_before, fault_before, is_step_before, under, Under, OwnFault, FaultInStep, FaultInSteps, names_after_step, names_after_steps}
use Rattle.seq_check.proofs.FirstLemmas.{first_of_none, first_of_same, first_here, first_there, first_mapped}
use Rattle.seq_check.proofs.ControlLemmas.{same_rank}
use Rattle.seq_check.proofs.SetLemmas.{above}
use Rattle.sequence_trees.specs.Parts.{part_rank}

-- ---- what each form of step is as a tree

pub step_tree-Block : (code : List Stmt) → step_tree (c.Block code) ≡ Block (code_trees code)
step_tree-Block code = ap step_tree (sym (c.rolls-Block code)) ∙ fold-roll-CheckedStep CodeStep checked_step (CheckedStep-F.Block code)

pub step_tree-Control : (cond repeat : Box (Option Expr) Global) (timeout : Option ℕ) (steps : List CheckedStep)
    → step_tree (c.Control cond repeat timeout steps) ≡ Control (option_map tree cond.value) (option_map tree repeat.value) timeout (steps_tree steps)
step_tree-Control cond repeat timeout steps = ap step_tree (sym (c.rolls-Control cond repeat timeout steps)) ∙ fold-roll-CheckedStep CodeStep checked_step (CheckedStep-F.Control cond repeat timeout steps)

-- ---- the order of steps

-- the path begins with a number from this one on
pub record Numbered (from : ℕ) (path : List ℕ) : Type 0 where
  pub number : ℕ
  pub rest : List ℕ
  pub parts : path ≡ number ∷ rest
  pub least : from ≤ number

pub numbered : (s : Scope) (around n : ℕ) (steps : CodeSteps) (f : StepFault) → FaultInSteps s around n steps f → Numbered n f.path
numbered s around n NoSteps f h = elim h [ ]
numbered s around n (MoreSteps step more) f h = elim h [
  | here p ↦ record { number = n; rest = p.inner.path; parts = ap (λ x. x.path) p.is; least = omega arith }
  | there q ↦ let r = numbered (seeing s (names_after_step s.visible step)) around (suc n) more f q in record { number = r.number; rest = r.rest; parts = r.parts; least = omega (arith, r.least) }
]

abbrev pub before_by : (a b : List ℕ) (x y : Part) (f g : CodeFault) → Bool
before_by a b x y f g = path_before a b || not (path_before b a) && (nat_lt (part_rank x) (part_rank y) || part_rank x == part_rank y && fault_before x f g)

pub apart : (n j : ℕ) → suc n ≤ j → (j == n) ≡ false
apart n j h = grind (arith, nat_tests)

after_path : (a b p q : List ℕ) (n j : ℕ) (x y : Part) (f g : CodeFault) → a ≡ j ∷ p → b ≡ n ∷ q → suc n ≤ j → before_by a b x y f g ≡ false
after_path a b p q n j x y f g ea eb h = rw (ea, eb, above n j h, apart n j h, lt-ltb n j h) refl

-- what stands at a later number is not before what stands at this one
later_path : (n : ℕ) (P : StepFault → Type 0) (p q : StepFault) → Under n P p → Numbered (suc n) q.path → is_step_before q p ≡ false
later_path n P p q h r = after_path q.path p.path r.rest h.inner.path n r.number q.part p.part q.fault p.fault r.parts (ap (λ x. x.path) h.is) r.least

-- none of the later steps is before an earlier one
pub steps_order : (s : Scope) (around n : ℕ) (P : StepFault → Type 0) (more : CodeSteps) (p q : StepFault) → Under n P p → FaultInSteps s around (suc n) more q → is_step_before q p ≡ false
steps_order s around n P more p q h k = later_path n P p q h (numbered s around (suc n) more q k)

inner_path : (a b p : List ℕ) (j : ℕ) (x y : Part) (f g : CodeFault) → a ≡ j ∷ p → b ≡ [] → before_by a b x y f g ≡ false
inner_path a b p j x y f g ea eb = rw (ea, eb) refl

pub own_path : (s : Scope) (around : ℕ) (cond repeat : Option Tree) (timeout : Option ℕ) (p : StepFault) → OwnFault s around cond repeat timeout p → p.path ≡ []
own_path s around cond repeat timeout p h = elim h [ here u ↦ u.own | there v ↦ elim v [ here w ↦ w.own | there w ↦ w.own ] ]

-- no step inside a control is before the control itself
inner_order : (s : Scope) (around : ℕ) (cond repeat : Option Tree) (timeout : Option ℕ) (steps : CodeSteps) (p q : StepFault)
    → OwnFault s around cond repeat timeout p → FaultInSteps s (suc around) 0 steps q → is_step_before q p ≡ false
inner_order s around cond repeat timeout steps p q h k =
    let r = numbered s (suc around) 0 steps q k in
    inner_path q.path p.path r.rest r.number q.part p.part q.fault p.fault r.parts (own_path s around cond repeat timeout p h)

-- ---- a control, and what it holds

pub control_own : (s : Scope) (around : ℕ) (cond repeat : Option Tree) (timeout : Option ℕ) (steps : CodeSteps) (f : StepFault)
    → IsFirst is_step_before (OwnFault s around cond repeat timeout) (Some f) → IsFirst is_step_before (FaultInStep s around (Control cond repeat timeout steps)) (Some f)
control_own s around cond repeat timeout steps f h = first_here is_step_before _ _ f (inner_order s around cond repeat timeout steps) h

pub control_inner : (s : Scope) (around : ℕ) (cond repeat : Option Tree) (timeout : Option ℕ) (steps : CodeSteps) (r : Option StepFault)
    → IsFirst is_step_before (OwnFault s around cond repeat timeout) None → IsFirst is_step_before (FaultInSteps s (suc around) 0 steps) r
    → IsFirst is_step_before (FaultInStep s around (Control cond repeat timeout steps)) r
control_inner s around cond repeat timeout steps r h k = first_there is_step_before _ _ r h k

-- ---- steps one after another

pub under_order : (n : ℕ) (f g : StepFault) → is_step_before (under n f) (under n g) ≡ is_step_before f g
under_order n f g = rw (lt_itself n, same_rank n) refl

first_under : (n : ℕ) (P : StepFault → Type 0) (r : Option StepFault) → IsFirst is_step_before P r → IsFirst is_step_before (Under n P) (option_map (under n) r)
first_under n P r h = first_mapped is_step_before is_step_before (under n) P (Under n P) r (under_order n) (λ f p. record { inner = f; holds = p; is = refl }) (λ g u. (u.inner, u.holds, u.is)) h

abbrev after : Scope → List CodeStep → Scope
after s front = seeing s (names_after_steps s.visible (steps_of front))

split_to : (s : Scope) (around n : ℕ) (front back : List CodeStep) (f : StepFault)
    → InEither (FaultInSteps s around n (steps_of front)) (FaultInSteps (after s front) around (n + length front) (steps_of back)) f → FaultInSteps s around n (steps_of (front ++ back)) f
split_to s around n [] back f h = let e : n + 0 ≡ n = omega arith in elim h [ here p ↦ elim p [ ] | there q ↦ subst (λ m. FaultInSteps s around m (steps_of back) f) e q ]
split_to s around n (x ∷ front) back f h =
    let e : n + suc (length front) ≡ suc n + length front = omega arith in
    let s' = seeing s (names_after_step s.visible x) in
    elim h [
      | here p ↦ elim p [ here u ↦ here u | there v ↦ there (split_to s' around (suc n) front back f (here v)) ]
      | there q ↦ there (split_to s' around (suc n) front back f (there (subst (λ m. FaultInSteps (after s' front) around m (steps_of back) f) e q)))
    ]

split_from : (s : Scope) (around n : ℕ) (front back : List CodeStep) (f : StepFault)
    → FaultInSteps s around n (steps_of (front ++ back)) f → InEither (FaultInSteps s around n (steps_of front)) (FaultInSteps (after s front) around (n + length front) (steps_of back)) f
split_from s around n [] back f h = let e : n ≡ n + 0 = omega arith in there (subst (λ m. FaultInSteps s around m (steps_of back) f) e h)
split_from s around n (x ∷ front) back f h =
    let e : suc n + length front ≡ n + suc (length front) = omega arith in
    let s' = seeing s (names_after_step s.visible x) in
    elim h [
      | here p ↦ here (here p)
      | there q ↦ elim (split_from s' around (suc n) front back f q) [ here u ↦ here (there u) | there v ↦ there (subst (λ m. FaultInSteps (after s' front) around m (steps_of back) f) e v) ]
    ]

-- none in the steps before, and this one in the next step
found_in : (s : Scope) (around n : ℕ) (front : List CodeStep) (step : CodeStep) (back : List CodeStep) (f : StepFault) → n ≡ length front
    → IsFirst is_step_before (FaultInSteps s around 0 (steps_of front)) None → IsFirst is_step_before (FaultInStep (after s front) around step) (Some f)
    → IsFirst is_step_before (FaultInSteps s around 0 (steps_of (front ++ step ∷ back))) (Some (under n f))
found_in s around n front step back f is none found =
    let s' = seeing (after s front) (names_after_step (after s front).visible step) in
    let Later : ℕ → StepFault → Type 0 = λ m. FaultInSteps (after s front) around m (steps_of (step ∷ back)) in
    let e : n ≡ 0 + length front = omega arith in
    let here_it : IsFirst is_step_before (Later n) (Some (under n f)) = first_here is_step_before _ _ (under n f) (steps_order s' around n (FaultInStep (after s front) around step) (steps_of back)) (first_under n (FaultInStep (after s front) around step) (Some f) found) in
    first_of_same is_step_before _ _ (Some (under n f)) (split_to s around 0 front (step ∷ back)) (split_from s around 0 front (step ∷ back))
    (first_there is_step_before _ _ (Some (under n f)) none (subst (λ m. IsFirst is_step_before (Later m) (Some (under n f))) e here_it))

none_in : (s : Scope) (around : ℕ) (front : List CodeStep) (step : CodeStep) → IsFirst is_step_before (FaultInSteps s around 0 (steps_of front)) None
    → IsFirst is_step_before (FaultInStep (after s front) around step) None → IsFirst is_step_before (FaultInSteps s around 0 (steps_of (front ++ step ∷ []))) None
none_in s around front step none none' =
    first_of_same is_step_before _ _ None (split_to s around 0 front (step ∷ [])) (split_from s around 0 front (step ∷ []))
    (first_there is_step_before _ _ None none (first_there is_step_before _ _ None (first_under (0 + length front) (FaultInStep (after s front) around step) None none') (first_of_none is_step_before)))

names_after_steps-append : (names : List (List ℕ)) (front : List CodeStep) (step : CodeStep) → names_after_steps names (steps_of (front ++ step ∷ [])) ≡ names_after_step (names_after_steps names (steps_of front)) step
names_after_steps-append names [] step = refl
names_after_steps-append names (x ∷ front) step = names_after_steps-append (names_after_step names x) front step

-- ---- in a list of steps

abbrev pub fronts : List CheckedStep → ℕ → List CodeStep
fronts xs i = map step_tree (take i xs)

pub steps_tree-take : (xs : List CheckedStep) (i : ℕ) (x : CheckedStep) → i < length xs → steps_tree (take (i + 1) xs) ≡ steps_of (fronts xs i ++ step_tree (get_or xs i x) ∷ [])
steps_tree-take xs i x h = ap (λ ys. steps_of (map step_tree ys)) (take_more xs i x h) ∙ ap steps_of (map-append step_tree (take i xs) (get_or xs i x ∷ []))

steps_tree-parts : (xs : List CheckedStep) (i : ℕ) (x : CheckedStep) → i < length xs → steps_tree xs ≡ steps_of (fronts xs i ++ step_tree (get_or xs i x) ∷ map step_tree (drop (suc i) xs))
steps_tree-parts xs i x h =
    ap (λ ys. steps_of (map step_tree ys)) (sym (take-append-drop i xs) ∙ ap (λ ys. take i xs ++ ys) (drop-cons xs i x h)) ∙ ap steps_of (map-append step_tree (take i xs) (get_or xs i x ∷ drop (suc i) xs))

pub fronts-length : (xs : List CheckedStep) (i : ℕ) → i < length xs → i ≡ length (fronts xs i)
fronts-length xs i h = omega (arith, length-map (take i xs) step_tree, length-take-le i xs (omega arith))

pub step_found : (s : Scope) (around : ℕ) (xs : List CheckedStep) (i : ℕ) (x : CheckedStep) (f : StepFault) → i < length xs
    → IsFirst is_step_before (FaultInSteps s around 0 (steps_tree (take i xs))) None
    → IsFirst is_step_before (FaultInStep (seeing s (names_after_steps s.visible (steps_tree (take i xs)))) around (step_tree (get_or xs i x))) (Some f)
    → IsFirst is_step_before (FaultInSteps s around 0 (steps_tree xs)) (Some (under i f))
step_found s around xs i x f h none found =
    rw (steps_tree-parts xs i x h) (found_in s around i (fronts xs i) (step_tree (get_or xs i x)) (map step_tree (drop (suc i) xs)) f (fronts-length xs i h) none found)

pub step_none : (s : Scope) (around : ℕ) (xs : List CheckedStep) (i : ℕ) (x : CheckedStep) → i < length xs
    → IsFirst is_step_before (FaultInSteps s around 0 (steps_tree (take i xs))) None
    → IsFirst is_step_before (FaultInStep (seeing s (names_after_steps s.visible (steps_tree (take i xs)))) around (step_tree (get_or xs i x))) None
    → IsFirst is_step_before (FaultInSteps s around 0 (steps_tree (take (i + 1) xs))) None
step_none s around xs i x h none none' = rw (steps_tree-take xs i x h) (none_in s around (fronts xs i) (step_tree (get_or xs i x)) none none')

pub names_more : (names : List (List ℕ)) (xs : List CheckedStep) (i : ℕ) (x : CheckedStep) → i < length xs
    → names_after_steps names (steps_tree (take (i + 1) xs)) ≡ names_after_step (names_after_steps names (steps_tree (take i xs))) (step_tree (get_or xs i x))
names_more names xs i x h = ap (names_after_steps names) (steps_tree-take xs i x h) ∙ names_after_steps-append names (fronts xs i) (step_tree (get_or xs i x))

-- ---- as answers

pub inner_answer : (s : Scope) (around n : ℕ) (cond repeat : Option Tree) (timeout : Option ℕ) (steps : CodeSteps) (r : Result (Option FaultyStep) OutOfMemory) → n ≡ suc around
    → IsFirst is_step_before (OwnFault s around cond repeat timeout) None → IfOk r (λ o. IsFirst is_step_before (FaultInSteps s n 0 steps) (option_map faulty_view o))
    → IfOk r (λ o. IsFirst is_step_before (FaultInStep s around (Control cond repeat timeout steps)) (option_map faulty_view o))
inner_answer s around n cond repeat timeout steps (Err e) is own inner = tt
inner_answer s around n cond repeat timeout steps (Ok o) is own inner =
    control_inner s around cond repeat timeout steps (option_map faulty_view o) own (subst (λ m. IsFirst is_step_before (FaultInSteps s m 0 steps) (option_map faulty_view o)) is inner)
