-- Reading steps gives exactly the steps that the value stands for.
use Rattle.std.proofs.Common.{◌≡◌, ℕ, ◌-◌, ◌^◌, codes, Bool, true, false, cond, if◌then◌else◌, List, Option, Some, None, is_some, Result, Ok, Ordering, Less, Equal, Greater, nat_cmp, refl, ap, sym, subst, ◌∙◌}
use Rattle.dap_base.proofs.Basics.{same_Ok}
use Rattle.std.specs.Ordering.{match_ordering}
use Rattle.std.specs.Cmp.Lexicographic.{slice_cmp}
use Rattle.serde_json.specs.Data.{Data, null, boolean, number, string, array, object, Items, no_items, item, Members, no_members, member}
use Rattle.serde_json.specs.Find.{get, get_member}
use Rattle.json_form.specs.declared.fault.JobFault.{JobFault}
use Rattle.json_form.specs.declared.path.PathStep.TheVariants.{Key, Index}
use Rattle.json_form.specs.Faults.{at}
use Rattle.json_form.specs.Form.{IsText, IsNumber, MayHave, MayHaveText}
use Rattle.json_form.proofs.ReadingLaws.{Reads, bind_ok, at_ok}
use Rattle.json_form.proofs.LeafLaws.{text_reads, flag_reads, number_reads}
use Rattle.json_form.proofs.ObjectLaws.{only_keys_sound, only_keys_complete, required_reads, or_else_reads, optional_reads}
use Rattle.device_tree.specs.StepTree.{StepTree, no_steps, block, control}
use Rattle.device_tree.specs.StepsView.{cons_step, then_step, tree_len}
use Rattle.device_tree.specs.declared.steps.Step.{Step}
use Rattle.device_tree.specs.declared.steps.Step.TheVariants.{Block, Control}
use Rattle.device_tree.specs.StepsReading.{block_step, inner_steps, control_after, control_step, step_with, steps_in, items_in, step_in, control_in}
use Rattle.device_tree.specs.StepsForm.{IsControl, IsBlock, AreSteps, IsStepList}
use Rattle.device_tree.proofs.StepsOpen.{step_in-open}

-- ---- blocks

block_sound : (d : Data) (s : Step) → block_step d ≡ Ok s → (code : List ℕ) × (atomic : Bool) × (s ≡ Block code atomic) × IsBlock d code atomic
unfolding block_step
block_sound d s e =
    let a = bind_ok _ _ s e in
    let b = bind_ok _ _ s a.2 in
    let c = bind_ok _ _ s b.2 in
    let i = bind_ok _ _ s c.2 in (
      b.0,
      c.0,
      sym (same_Ok _ s i.2),
      record {
        known = only_keys_sound _ d a.0 a.1;
        code_is = (required_reads _ _ _ text_reads).sound d b.0 b.1;
        atomic_is = (or_else_reads _ _ _ _ flag_reads).sound d c.0 c.1;
        note = (i.0, (optional_reads _ _ _ text_reads).sound d i.0 i.1);
      },
    )

block_complete : (d : Data) (code : List ℕ) (atomic : Bool) → IsBlock d code atomic → block_step d ≡ Ok (Block code atomic)
unfolding block_step
block_complete d code atomic h = rw (only_keys_complete _ d h.known, (required_reads _ _ _ text_reads).complete d code h.code_is, (or_else_reads _ _ _ _ flag_reads).complete d atomic h.atomic_is, (optional_reads _ _ _ text_reads).complete d h.note.0 h.note.1) refl

-- ---- controls, after their steps

-- all but the steps inside and the key `block`
record IsRest (d : Data) (cond repeat : Option (List ℕ)) (timeout : Option ℕ) : Type 0 where
  cond_is : MayHave (codes "if") IsText d cond
  repeat_is : MayHave (codes "while") IsText d repeat
  timeout_is : MayHave (codes "timeout") (IsNumber 0 (2 ^ 64 - 1)) d timeout
  note : MayHaveText (codes "info") d

after_sound : (steps : StepTree) (d : Data) (s : Step) → control_after steps d ≡ Ok s → (cond : Option (List ℕ)) × (repeat : Option (List ℕ)) × (timeout : Option ℕ) × (s ≡ Control cond repeat timeout steps) × IsRest d cond repeat timeout
unfolding control_after
after_sound steps d s e =
    let a = bind_ok _ _ s e in
    let b = bind_ok _ _ s a.2 in
    let c = bind_ok _ _ s b.2 in
    let i = bind_ok _ _ s c.2 in (
      a.0,
      b.0,
      c.0,
      sym (same_Ok _ s i.2),
      record {
        cond_is = (optional_reads _ _ _ text_reads).sound d a.0 a.1;
        repeat_is = (optional_reads _ _ _ text_reads).sound d b.0 b.1;
        timeout_is = (optional_reads _ _ _ (number_reads 0 (2 ^ 64 - 1))).sound d c.0 c.1;
        note = (i.0, (optional_reads _ _ _ text_reads).sound d i.0 i.1);
      },
    )

after_complete : (steps : StepTree) (d : Data) (cond repeat : Option (List ℕ)) (timeout : Option ℕ) → IsRest d cond repeat timeout → control_after steps d ≡ Ok (Control cond repeat timeout steps)
unfolding control_after
after_complete steps d cond repeat timeout h = rw ((optional_reads _ _ _ text_reads).complete d cond h.cond_is, (optional_reads _ _ _ text_reads).complete d repeat h.repeat_is, (optional_reads _ _ _ (number_reads 0 (2 ^ 64 - 1))).complete d timeout h.timeout_is, (optional_reads _ _ _ text_reads).complete d h.note.0 h.note.1) refl

-- ---- steps one after another

-- the steps of two lists
abbrev tree_append : StepTree → StepTree → StepTree
tree_append no_steps more = more
tree_append (block code atomic rest) more = block code atomic (tree_append rest more)
tree_append (control cond repeat timeout steps rest) more = control cond repeat timeout steps (tree_append rest more)

append-then_step : (earlier : StepTree) (s : Step) (more : StepTree) → tree_append (then_step earlier s) more ≡ tree_append earlier (cons_step s more)
append-then_step no_steps (Block code atomic) more = refl
append-then_step no_steps (Control cond repeat timeout steps) more = refl
append-then_step (block code atomic rest) s more = ap (block code atomic) (append-then_step rest s more)
append-then_step (control cond repeat timeout steps rest) s more = ap (control cond repeat timeout steps) (append-then_step rest s more)

append-none : (earlier : StepTree) → tree_append earlier no_steps ≡ earlier
append-none no_steps = refl
append-none (block code atomic rest) = ap (block code atomic) (append-none rest)
append-none (control cond repeat timeout steps rest) = ap (control cond repeat timeout steps) (append-none rest)

-- what a step stands for
abbrev IsStep : Data → Step → Type 0
IsStep d (Block code atomic) = IsBlock d code atomic
IsStep d (Control cond repeat timeout steps) = (inner : Items) × IsControl d cond repeat timeout inner × AreSteps steps inner

are_steps-cons : (d : Data) (ds : Items) (s : Step) (more : StepTree) → IsStep d s → AreSteps more ds → AreSteps (cons_step s more) (item d ds)
are_steps-cons d ds (Block code atomic) more h rest = (d, ds, refl, h, rest)
are_steps-cons d ds (Control cond repeat timeout steps) more h rest = (d, ds, h.0, refl, h.1, h.2, rest)

-- ---- reading is sound

-- the member `control` and the steps that it stands for
abbrev Inner : Option Data → StepTree → Type 0
Inner found steps = (inner : Items) × (found ≡ Some (array inner)) × AreSteps steps inner

inner_ok : (o : Option (Result StepTree JobFault)) (steps : StepTree) → inner_steps o ≡ Ok steps → o ≡ Some (Ok steps)
inner_ok None steps e = absurd cc
inner_ok (Some r) steps e = ap (λ x. Some x) (at_ok (Key (codes "control")) r steps e)

none_of : {A : Type 0} (o : Option A) → is_some o ≡ false → o ≡ None
none_of None e = refl
none_of (Some x) e = absurd cc

step_with_sound : (d : Data) (inner : Option (Result StepTree JobFault)) (found : Option Data) (s : Step) → get (codes "control") d ≡ found
    → ((steps : StepTree) → inner ≡ Some (Ok steps) → Inner found steps) → step_with inner d ≡ Ok s → IsStep d s
unfolding step_with control_step
step_with_sound d inner found s is law e = cases (is_some (get (codes "block") d)) refl e where
  at_block : block_step d ≡ Ok s → IsStep d s
  at_block e' = (let a = block_sound d s e' in subst (IsStep d) (sym a.2) a.3)

  at_control : get (codes "block") d ≡ None → control_step inner d ≡ Ok s → IsStep d s
  at_control none e' = (
      let a = bind_ok _ _ s e' in
      let b = bind_ok _ _ s a.2 in
      let c = after_sound b.0 d s b.2 in
      let i = law b.0 (inner_ok inner b.0 b.1) in
      subst (IsStep d) (sym c.3) (i.0, record { known = only_keys_sound _ d a.0 a.1; no_block = none; steps_are = is ∙ i.1; cond_is = c.4.cond_is; repeat_is = c.4.repeat_is; timeout_is = c.4.timeout_is; note = c.4.note }, i.2))

  cases : (b : Bool) → is_some (get (codes "block") d) ≡ b → (if b then block_step d else control_step inner d) ≡ Ok s → IsStep d s
  cases true has e' = at_block e'
  cases false has e' = at_control (none_of (get (codes "block") d) has) e'

control_at : (o : Ordering) (found : Option (Result StepTree JobFault)) (d : Data) (rest : Option Data) (steps : StepTree)
    → (found ≡ Some (Ok steps) → Inner rest steps) → (steps_in d ≡ Ok steps → IsStepList d steps)
    → match_ordering o found (Some (steps_in d)) found ≡ Some (Ok steps) → Inner (match_ordering o rest (Some d) rest) steps
control_at Less found d rest steps later here e = later e
control_at Equal found d rest steps later here e = (let same : steps_in d ≡ Ok steps = cc in let a = here same in (a.0, ap (λ x. Some x) a.1, a.2))
control_at Greater found d rest steps later here e = later e

mutual
  unfolding steps_in items_in step_in control_in

  steps_sound : (d : Data) (steps : StepTree) → steps_in d ≡ Ok steps → IsStepList d steps
  steps_sound null steps e = absurd cc
  steps_sound (boolean b) steps e = absurd cc
  steps_sound (number n) steps e = absurd cc
  steps_sound (string s) steps e = absurd cc
  steps_sound (array ds) steps e = (ds, refl, (let a = items_sound no_steps ds steps e in subst (λ t. AreSteps t ds) (sym a.1) a.2))
  steps_sound (object ms) steps e = absurd cc

  items_sound : (earlier : StepTree) (ds : Items) (steps : StepTree) → items_in earlier ds ≡ Ok steps → (more : StepTree) × (steps ≡ tree_append earlier more) × AreSteps more ds
  items_sound earlier no_items steps e = (no_steps, (let same : earlier ≡ steps = cc in sym same ∙ sym (append-none earlier)), refl)
  items_sound earlier (item d ds) steps e =
      let a = bind_ok (at (Index (tree_len earlier)) (step_in d)) (λ s. items_in (then_step earlier s) ds) steps e in
      let here = step_sound d a.0 (at_ok (Index (tree_len earlier)) (step_in d) a.0 a.1) in
      let rest = items_sound (then_step earlier a.0) ds steps a.2 in
      (cons_step a.0 rest.0, rest.1 ∙ append-then_step earlier a.0 rest.0, are_steps-cons d ds a.0 rest.0 here rest.2)

  step_sound : (d : Data) (s : Step) → step_in d ≡ Ok s → IsStep d s
  step_sound null s e = absurd cc
  step_sound (boolean b) s e = absurd cc
  step_sound (number n) s e = absurd cc
  step_sound (string x) s e = absurd cc
  step_sound (array ds) s e = absurd cc
  step_sound (object ms) s e = step_with_sound (object ms) (control_in ms) (get_member (codes "control") ms) s refl (control_sound ms) e

  control_sound : (ms : Members) (steps : StepTree) → control_in ms ≡ Some (Ok steps) → Inner (get_member (codes "control") ms) steps
  control_sound no_members steps e = absurd cc
  control_sound (member k d ms) steps e = control_at (slice_cmp nat_cmp (codes "control") k) (control_in ms) d (get_member (codes "control") ms) steps (control_sound ms steps) (steps_sound d steps) e

-- ---- reading is complete

block_complete_in : (d : Data) (code : List ℕ) (atomic : Bool) → IsBlock d code atomic → step_in d ≡ Ok (Block code atomic)
unfolding step_with
block_complete_in d code atomic h = step_in-open d ∙ rw h.code_is.1 (block_complete d code atomic h)

control_complete_in : (d : Data) (cond repeat : Option (List ℕ)) (timeout : Option ℕ) (inner : Items) (steps : StepTree)
    → IsControl d cond repeat timeout inner → items_in no_steps inner ≡ Ok steps → step_in d ≡ Ok (Control cond repeat timeout steps)
unfolding step_with control_step steps_in
control_complete_in d cond repeat timeout inner steps h inside =
    step_in-open d
    ∙ rw (h.no_block, only_keys_complete _ d h.known, h.steps_are, inside)
    (after_complete steps d cond repeat timeout (record { cond_is = h.cond_is; repeat_is = h.repeat_is; timeout_is = h.timeout_is; note = h.note }))

items_complete : (steps earlier : StepTree) (ds : Items) → AreSteps steps ds → items_in earlier ds ≡ Ok (tree_append earlier steps)
unfolding items_in
items_complete no_steps earlier ds h = rw (h, append-none) refl
items_complete (block code atomic rest) earlier ds h =
    rw (h.2, block_complete_in h.0 code atomic h.3) (items_complete rest (then_step earlier (Block code atomic)) h.1 h.4 ∙ ap (λ t. Ok t) (append-then_step earlier (Block code atomic) rest))
items_complete (control cond repeat timeout steps rest) earlier ds h =
    rw (h.3, control_complete_in h.0 cond repeat timeout h.2 steps h.4 (items_complete steps no_steps h.2 h.5))
    (items_complete rest (then_step earlier (Control cond repeat timeout steps)) h.1 h.6 ∙ ap (λ t. Ok t) (append-then_step earlier (Control cond repeat timeout steps) rest))

pub steps_reads : Reads steps_in IsStepList
unfolding steps_in
steps_reads = record {
  sound = steps_sound;
  complete = λ d steps h. rw h.1 (items_complete steps no_steps h.0 h.2);
}
