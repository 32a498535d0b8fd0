-- The faults of steps, one step after another.
use Rattle.std.proofs.Common.{◌≡◌, ◌∙◌, sym, ap, subst, ℕ, suc, ◌+◌, ◌<◌, ◌≤◌, nat_lt, Bool, true, List, [], ◌∷◌, ◌++◌, map, length, take, get_or, Option, refl, arith, append_assoc, min, ◌⊎◌, inl, inr}
use Rattle.std.proofs.lemmas.Bool.{cases_lt, lt-ltb}
use Rattle.seq_check.proofs.NameLemmas.{take-names_after_steps}
use Rattle.std.proofs.lemmas.List.{append-nil, map-append}
use Rattle.expr_grammar.specs.Tree.{Tree}
use Rattle.sequence_trees.specs.declared.spot.Part.{Part}
use Rattle.sequence_trees.specs.declared.steps.CheckedStep.{CheckedStep}
use Rattle.sequence_trees.specs.Order.{SetStep}
use Rattle.sequence_trees.specs.Trees.{CodeStep, Block, Control, CodeSteps, NoSteps, MoreSteps, steps_of, step_tree, steps_tree}
use Rattle.code_check.specs.declared.fault.CodeFault.{CodeFault}
use Rattle.code_check.specs.First.{InEither, here, there}
use Rattle.code_check.specs.ExprFaults.{Scope}
use Rattle.code_check.specs.BlockFaults.{seeing}
use Rattle.seq_check.specs.StepFaults.{StepFault, fault_before, is_step_before, At, under, Under, OwnFault, FaultInStep, FaultInSteps, names_after_step, names_after_steps}
use Rattle.seq_check.proofs.StepLemmas.{before_by, fronts, fronts-length, numbered, own_path, steps_tree-take, under_order}
use Rattle.set_faults.specs.declared.site.Fault.{Fault}
use Rattle.set_faults.specs.Listed.{IsListOf}
use Rattle.set_faults.specs.Sites.{code_fault_at, step_fault_at, Appends}
use Rattle.set_faults.proofs.ListLemmas.{listed_two, listed_same, listed_mapped}
use Rattle.seq_check.proofs.ControlLemmas.{view_at}
use Rattle.set_faults.proofs.ControlLemmas.{listed_at}

-- ---- parts that are added one after the other

module _ {F : Type 0} {before : F → F → Bool} {shown : F → Fault} where
  pub appends_two : {P Q : F → Type 0} {old mid new : List Fault} → ((p q : F) → P p → Q q → before p q ≡ true) → Appends before shown P old mid → Appends before shown Q mid new → Appends before shown (InEither P Q) old new
  appends_two {P} {Q} {old} {mid} {new} order h k = record {
    list = h.list ++ k.list;
    is_list = listed_two before P Q h.list k.list order h.is_list k.is_list;
    is_new = k.is_new ∙ ap (λ l. l ++ map shown k.list) h.is_new ∙ append_assoc old (map shown h.list) (map shown k.list) ∙ ap (λ l. old ++ l) (sym (map-append shown h.list k.list));
  }

  pub appends_same : {P Q : F → Type 0} {old new : List Fault} → ((f : F) → P f → Q f) → ((f : F) → Q f → P f) → Appends before shown P old new → Appends before shown Q old new
  appends_same {P} {Q} to from h = record { list = h.list; is_list = listed_same before P Q h.list to from h.is_list; is_new = h.is_new }

-- ---- the faults of a part of a step

shown_at : (step : SetStep) (part : Part) (list : List CodeFault) → map (code_fault_at step part) list ≡ map (step_fault_at step) (map (view_at part) list)
shown_at step part [] = refl
shown_at step part (f ∷ list) =
    ap (λ x. record { kind = f.kind; spot = record { sequence = step.sequence; path = x; part = part; place = f.place } } ∷ map (code_fault_at step part) list) (sym (append-nil step.path))
    ∙ ap (λ l. step_fault_at step (view_at part f) ∷ l) (shown_at step part list)

pub appends_part : (step : SetStep) (part : Part) (P : CodeFault → Type 0) (list : List CodeFault) (old new : List Fault) → IsListOf (fault_before part) P list → new ≡ old ++ map (code_fault_at step part) list
    → Appends is_step_before (step_fault_at step) (At part P) old new
appends_part step part P list old new h e = record { list = map (view_at part) list; is_list = listed_at part P list h; is_new = e ∙ ap (λ l. old ++ l) (shown_at step part list) }

-- ---- a control, and what it holds

inner_path : (a b q : List ℕ) (j : ℕ) (x y : Part) (f g : CodeFault) → a ≡ [] → b ≡ j ∷ q → before_by a b x y f g ≡ true
inner_path a b q j x y f g ea eb = rw (ea, eb) refl

-- a control itself is before the steps inside
pub inner_order : (s s' : Scope) (around inside : ℕ) (cond repeat : Option Tree) (timeout : Option ℕ) (steps : CodeSteps) (p q : StepFault)
    → OwnFault s around cond repeat timeout p → FaultInSteps s' inside 0 steps q → is_step_before p q ≡ true
inner_order s s' around inside cond repeat timeout steps p q h j =
    let r = numbered s' inside 0 steps q j in
    inner_path p.path q.path r.rest r.number p.part q.part p.fault q.fault (own_path s around cond repeat timeout p h) r.parts

-- ---- how many controls stand around matters up to 32

mutual
  deep_step : (s : Scope) (a b : ℕ) → 32 ≤ a → 32 ≤ b → (step : CodeStep) (f : StepFault) → FaultInStep s a step f → FaultInStep s b step f
  deep_step s a b la lb (Block code) f h = h
  deep_step s a b la lb (Control cond repeat timeout steps) f h = elim h [
    | here own ↦ here (elim own [
      | here form ↦ here (record { own = form.own; part_is = form.part_is; holds = elim form.holds [ here deep ↦ here (record { cause = lb; is = deep.is }) | there other ↦ there other ] })
      | there conditions ↦ there conditions
    ])
    | there inner ↦ there (deep_steps s (suc a) (suc b) (omega arith) (omega arith) 0 steps f inner)
  ]

  deep_steps : (s : Scope) (a b : ℕ) → 32 ≤ a → 32 ≤ b → (n : ℕ) (steps : CodeSteps) (f : StepFault) → FaultInSteps s a n steps f → FaultInSteps s b n steps f
  deep_steps s a b la lb n NoSteps f h = h
  deep_steps s a b la lb n (MoreSteps step more) f h = elim h [
    | here p ↦ here (record { inner = p.inner; holds = deep_step s a b la lb step p.inner p.holds; is = p.is })
    | there q ↦ there (deep_steps (seeing s (names_after_step s.visible step)) a b la lb (suc n) more f q)
  ]

-- ---- steps one after another

-- the path begins with a number below this one
record Below (end : ℕ) (path : List ℕ) : Type 0 where
  pub number : ℕ
  pub rest : List ℕ
  pub parts : path ≡ number ∷ rest
  pub less : number < end

below_end : (s : Scope) (around n : ℕ) (front : List CodeStep) (f : StepFault) → FaultInSteps s around n (steps_of front) f → Below (n + length front) f.path
below_end s around n [] f h = elim h [ ]
below_end s around n (step ∷ front) f h = elim h [
  | here p ↦ record { number = n; rest = p.inner.path; parts = ap (λ x. x.path) p.is; less = omega arith }
  | there q ↦ let r = below_end (seeing s (names_after_step s.visible step)) around (suc n) front f q in record { number = r.number; rest = r.rest; parts = r.parts; less = omega (arith, r.less) }
]

later_path : (a b p q : List ℕ) (k n : ℕ) (x y : Part) (f g : CodeFault) → a ≡ k ∷ p → b ≡ n ∷ q → nat_lt k n ≡ true → before_by a b x y f g ≡ true
later_path a b p q k n x y f g ea eb h = rw (ea, eb, h) refl

-- what stands in the steps before is before what stands in this one
front_order : (s : Scope) (around : ℕ) (front : List CodeStep) (P : StepFault → Type 0) (p q : StepFault) → FaultInSteps s around 0 (steps_of front) p → Under (0 + length front) P q → is_step_before p q ≡ true
front_order s around front P p q h u =
    let r = below_end s around 0 front p h in
    later_path p.path q.path r.rest u.inner.path r.number (0 + length front) p.part q.part p.fault q.fault r.parts (ap (λ x. x.path) u.is) (lt-ltb r.number (0 + length front) r.less)

listed_under : (n : ℕ) (P : StepFault → Type 0) (list : List StepFault) → IsListOf is_step_before P list → IsListOf is_step_before (Under n P) (map (under n) list)
listed_under n P list h = listed_mapped is_step_before is_step_before (under n) P (Under n P) list (under_order n) (λ f p. record { inner = f; holds = p; is = refl }) (λ g u. (u.inner, u.holds, u.is)) h

abbrev inner_step : SetStep → ℕ → SetStep
inner_step step n = record { sequence = step.sequence; path = step.path ++ n ∷ [] }

shown_under : (step : SetStep) (n : ℕ) (list : List StepFault) → map (step_fault_at (inner_step step n)) list ≡ map (step_fault_at step) (map (under n) list)
shown_under step n [] = refl
shown_under step n (f ∷ list) =
    ap (λ x. record { kind = f.fault.kind; spot = record { sequence = step.sequence; path = x; part = f.part; place = f.fault.place } } ∷ map (step_fault_at (inner_step step n)) list) (append_assoc step.path (n ∷ []) f.path)
    ∙ ap (λ l. step_fault_at step (under n f) ∷ l) (shown_under step n list)

-- the faults of the step of this number, seen from the list
pub appends_under : (step : SetStep) (n : ℕ) (P : StepFault → Type 0) (old new : List Fault) → Appends is_step_before (step_fault_at (inner_step step n)) P old new → Appends is_step_before (step_fault_at step) (Under n P) old new
appends_under step n P old new h = record { list = map (under n) h.list; is_list = listed_under n P h.list h.is_list; is_new = h.is_new ∙ ap (λ l. old ++ l) (shown_under step n h.list) }

abbrev after : Scope → List CodeStep → Scope
after s front = seeing s (names_after_steps s.visible (steps_of front))

more_to : (s : Scope) (around n : ℕ) (front : List CodeStep) (step : CodeStep) (f : StepFault)
    → InEither (FaultInSteps s around n (steps_of front)) (Under (n + length front) (FaultInStep (after s front) around step)) f → FaultInSteps s around n (steps_of (front ++ step ∷ [])) f
more_to s around n [] step f h = let e : n + 0 ≡ n = omega arith in elim h [ here p ↦ elim p [ ] | there q ↦ here (subst (λ m. Under m (FaultInStep s around step) f) e q) ]
more_to s around n (x ∷ front) step f h =
    let e : n + suc (length front) ≡ suc n + length front = omega arith in
    let s' = seeing s (names_after_step s.visible x) in
    elim h [
      | here p ↦ elim p [ here u ↦ here u | there v ↦ there (more_to s' around (suc n) front step f (here v)) ]
      | there q ↦ there (more_to s' around (suc n) front step f (there (subst (λ m. Under m (FaultInStep (after s' front) around step) f) e q)))
    ]

more_from : (s : Scope) (around n : ℕ) (front : List CodeStep) (step : CodeStep) (f : StepFault)
    → FaultInSteps s around n (steps_of (front ++ step ∷ [])) f → InEither (FaultInSteps s around n (steps_of front)) (Under (n + length front) (FaultInStep (after s front) around step)) f
more_from s around n [] step f h = let e : n ≡ n + 0 = omega arith in elim h [ here p ↦ there (subst (λ m. Under m (FaultInStep s around step) f) e p) | there q ↦ elim q [ ] ]
more_from s around n (x ∷ front) step f h =
    let e : suc n + length front ≡ n + suc (length front) = omega arith in
    let s' = seeing s (names_after_step s.visible x) in
    elim h [
      | here p ↦ here (here p)
      | there q ↦ elim (more_from s' around (suc n) front step f q) [ here u ↦ here (there u) | there v ↦ there (subst (λ m. Under m (FaultInStep (after s' front) around step) f) e v) ]
    ]

-- the next step of a list
pub steps_more : (site : SetStep) (s : Scope) (around : ℕ) (xs : List CheckedStep) (i : ℕ) (x : CheckedStep) (old mid new : List Fault) → i < length xs
    → Appends is_step_before (step_fault_at site) (FaultInSteps s around 0 (steps_tree (take i xs))) old mid
    → Appends is_step_before (step_fault_at (inner_step site i)) (FaultInStep (seeing s (names_after_steps s.visible (steps_tree (take i xs)))) around (step_tree (get_or xs i x))) mid new
    → Appends is_step_before (step_fault_at site) (FaultInSteps s around 0 (steps_tree (take (i + 1) xs))) old new
steps_more site s around xs i x old mid new h before next =
    let front = fronts xs i in
    let step = step_tree (get_or xs i x) in
    let P = FaultInStep (after s front) around step in
    let e : i ≡ 0 + length front = omega (arith, fronts-length xs i h) in
    let next' : Appends is_step_before (step_fault_at site) (Under (0 + length front) P) mid new = subst (λ m. Appends is_step_before (step_fault_at site) (Under m P) mid new) e (appends_under site i P mid new next) in
    rw (steps_tree-take xs i x h) (appends_same (more_to s around 0 front step) (more_from s around 0 front step) (appends_two (front_order s around front P) before next'))

-- ---- names

pub cut_back : (names more : List (List ℕ)) (n : ℕ) (steps : CodeSteps) → n ≡ length names → more ≡ names_after_steps names steps → take n more ≡ names
cut_back names more n steps e h = rw (e, h) (take-names_after_steps names steps)

-- ---- a control, and then the steps inside

within : (s : Scope) (around inside : ℕ) (steps : CodeSteps) (f : StepFault) → (inside ≡ suc around) ⊎ (32 ≤ around × (32 ≤ inside)) → FaultInSteps s inside 0 steps f → FaultInSteps s (suc around) 0 steps f
within s around inside steps f (inl is) h = subst (λ n. FaultInSteps s n 0 steps f) is h
within s around inside steps f (inr deep) h = (let far = deep.0 in deep_steps s inside (suc around) deep.1 (omega arith) 0 steps f h)

without : (s : Scope) (around inside : ℕ) (steps : CodeSteps) (f : StepFault) → (inside ≡ suc around) ⊎ (32 ≤ around × (32 ≤ inside)) → FaultInSteps s (suc around) 0 steps f → FaultInSteps s inside 0 steps f
without s around inside steps f (inl is) h = subst (λ n. FaultInSteps s n 0 steps f) (sym is) h
without s around inside steps f (inr deep) h = (let far = deep.0 in deep_steps s (suc around) inside (omega arith) deep.1 0 steps f h)

pub control_more : (site : SetStep) (s : Scope) (around inside : ℕ) (cond repeat : Option Tree) (timeout : Option ℕ) (steps : CodeSteps) (old mid new : List Fault) → (inside ≡ suc around) ⊎ (32 ≤ around × (32 ≤ inside))
    → Appends is_step_before (step_fault_at site) (OwnFault s around cond repeat timeout) old mid → Appends is_step_before (step_fault_at site) (FaultInSteps s inside 0 steps) mid new
    → Appends is_step_before (step_fault_at site) (FaultInStep s around (Control cond repeat timeout steps)) old new
control_more site s around inside cond repeat timeout steps old mid new which h k =
    appends_two (inner_order s s around (suc around) cond repeat timeout steps) h (appends_same (λ f p. within s around inside steps f which p) (λ f p. without s around inside steps f which p) k)

-- one more around, or as many as a number holds
pub one_inside : (around inside : ℕ) → around < 18446744073709551616 → inside ≡ min (around + 1) 18446744073709551615 → (inside ≡ suc around) ⊎ (32 ≤ around × (32 ≤ inside))
one_inside around inside fits e = elim (cases_lt around 18446744073709551615) [ inl lt ↦ inl (omega arith) | inr at ↦ inr (omega arith, omega arith) ]
