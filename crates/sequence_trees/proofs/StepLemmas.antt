-- Steps read one after another.
use Rattle.std.proofs.Common.{◌≡◌, ◌∙◌, sym, subst, ap, refl, ℕ, zero, suc, ◌+◌, ◌*◌, ◌<◌, ◌≤◌, List, [], ◌∷◌, ◌++◌, map, take, length, get_or, Option, Some, Err, ◌⊎◌, inl, inr, arith}
use Rattle.std.proofs.lemmas.List.{map-append, take_more}
use Rattle.dap_base.specs.declared.text.Place.{Place}
use Rattle.expr_grammar.specs.Tree.{Tree}
use Rattle.device_tree.specs.StepTree.{tree_size}
use Rattle.device_tree.specs.StepsView.{steps_view}
use Rattle.device_tree.specs.declared.steps.Step.{Step}
use Rattle.device_tree.specs.declared.steps.Step.TheVariants as d
use Rattle.sequence_trees.specs.declared.spot.Part.{Part}
use Rattle.sequence_trees.specs.declared.spot.Part.TheVariants as kinds
use Rattle.sequence_trees.specs.declared.steps.CheckedStep.{CheckedStep}
use Rattle.sequence_trees.specs.Trees.{CodeStep, CodeSteps, NoSteps, MoreSteps, steps_of, step_tree, steps_tree}
use Rattle.sequence_trees.specs.Order.{StepText, IsFaulty, IsFirstFaulty, text_if_some, block_texts, control_texts, under, steps_texts}
use Rattle.sequence_trees.specs.Reading.{MayBeCondition, Begins, ReadsSteps}
use Rattle.sequence_trees.specs.declared.text.TextFault.{TextFault}
use Rattle.sequence_trees.specs.declared.text.TextFault.TheVariants as texts
use Rattle.sequence_trees.specs.declared.step_reader.FaultyText.{FaultyText}
use Rattle.sequence_trees.specs.declared.step_reader.StepFault.{StepFault}
use Rattle.sequence_trees.specs.declared.step_reader.StepFault.TheVariants as faults
use Rattle.sequence_trees.specs.Texts.{IsFaultyCondition}
use Rattle.sequence_trees.specs.Answers.{AnswersCode, AnswersCondition}
use Rattle.sequence_trees.specs.Outcomes.{ReadsStep, step_texts, at_part, IsUnder, IsFaultOf}
use Rattle.sequence_trees.proofs.OrderLaws.{AreFine, fine_both, fine_moved, first_before, first_after, first_moved, first_single}
use Rattle.sequence_trees.proofs.ReadingLaws.{cond_fine, repeat_fine, block_fine, control_fine, steps_fine}

-- ---- the measure of the recursion

abbrev pub step_weight : Step → ℕ
step_weight (d.Block code atomic) = 0
step_weight (d.Control cond repeat timeout steps) = 5 * tree_size steps + 5

weight_first : (s : Step) (ss : List Step) → step_weight s + 5 * tree_size (steps_view ss) ≤ 5 * tree_size (steps_view (s ∷ ss))
weight_first (d.Block code atomic) ss = omega arith
weight_first (d.Control cond repeat timeout steps) ss = omega arith

pub weight_below : (ss : List Step) (i : ℕ) (s : Step) → i < length ss → step_weight (get_or ss i s) ≤ 5 * tree_size (steps_view ss)
weight_below [] i s h = absurd (omega arith)
weight_below (x ∷ ss) zero s h = omega (arith, weight_first x ss)
weight_below (x ∷ ss) (suc i) s h = let lt : i < length ss = omega arith in omega (arith, weight_first x ss, weight_below ss i s lt)

-- ---- a step and the steps after it

first_read : (s : Step) (ss : List Step) (steps : CodeSteps) → ReadsSteps (steps_view (s ∷ ss)) steps → Begins (ReadsStep s) (λ more. ReadsSteps (steps_view ss) more) steps
first_read (d.Block code atomic) ss steps is = is
first_read (d.Control cond repeat timeout inner) ss steps is = is

read_first : (s : Step) (ss : List Step) (steps : CodeSteps) → Begins (ReadsStep s) (λ more. ReadsSteps (steps_view ss) more) steps → ReadsSteps (steps_view (s ∷ ss)) steps
read_first (d.Block code atomic) ss steps is = is
read_first (d.Control cond repeat timeout inner) ss steps is = is

pub texts_first : (s : Step) (ss : List Step) (n : ℕ) → steps_texts n (steps_view (s ∷ ss)) ≡ under n (step_texts s) ++ steps_texts (suc n) (steps_view ss)
texts_first (d.Block code atomic) ss n = refl
texts_first (d.Control cond repeat timeout inner) ss n = refl

step_fine : (s : Step) (step : CodeStep) → ReadsStep s step → AreFine (step_texts s)
step_fine (d.Block code atomic) step is = block_fine code step is
step_fine (d.Control cond repeat timeout inner) step is =
    control_fine cond repeat timeout (λ own. ReadsSteps inner own) (steps_texts 0 inner) step (λ own r. steps_fine inner 0 own r) is

-- ---- one step more

read_more : (ss : List Step) (ts : List CodeStep) (s : Step) (t : CodeStep) → ReadsSteps (steps_view ss) (steps_of ts) → ReadsStep s t
    → ReadsSteps (steps_view (ss ++ s ∷ [])) (steps_of (ts ++ t ∷ []))
read_more [] [] s t before is = read_first s [] (MoreSteps t NoSteps) (record { first = t; more = NoSteps; parts = refl; reads_first = is; reads_more = refl })
read_more [] (u ∷ us) s t before is = absurd cc
read_more (x ∷ xs) [] s t before is =
    let b = first_read x xs NoSteps before in
    let no : NoSteps ≡ MoreSteps b.first b.more = b.parts in
    absurd cc
read_more (x ∷ xs) (u ∷ us) s t before is =
    let b = first_read x xs (MoreSteps u (steps_of us)) before in
    let whole : MoreSteps u (steps_of us) ≡ MoreSteps b.first b.more = b.parts in
    let head : b.first ≡ u = cc in
    let tail : b.more ≡ steps_of us = cc in
    let rest : ReadsSteps (steps_view xs) (steps_of us) = subst (λ (m : CodeSteps). ReadsSteps (steps_view xs) m) tail b.reads_more in
    read_first x (xs ++ s ∷ []) (MoreSteps u (steps_of (us ++ t ∷ [])))
    (record { first = u; more = steps_of (us ++ t ∷ []); parts = refl; reads_first = subst (λ (v : CodeStep). ReadsStep x v) head b.reads_first; reads_more = read_more xs us s t rest is })

pub one_more : (items : List Step) (i : ℕ) (s : Step) (done : List CheckedStep) (c : CheckedStep) → i < length items → s ≡ get_or items i s
    → ReadsSteps (steps_view (take i items)) (steps_tree done) → ReadsStep s (step_tree c) → ReadsSteps (steps_view (take (i + 1) items)) (steps_tree (done ++ c ∷ []))
one_more items i s done c lt at before is =
    let grown : take (i + 1) items ≡ take i items ++ s ∷ [] = take_more items i s lt ∙ ap (λ x. take i items ++ x ∷ []) (sym at) in
    rw (grown, map-append step_tree done (c ∷ [])) (read_more (take i items) (map step_tree done) s (step_tree c) before is)

-- ---- the first fault of several steps

fault_here : (items : List Step) (n k i : ℕ) (s : Step) (steps : CodeSteps) (path : List ℕ) (part : Part) (at : Place) → k ≡ n + i → i < length items
    → ReadsSteps (steps_view (take i items)) steps → IsFirstFaulty (under k (step_texts (get_or items i s))) path part at → IsFirstFaulty (steps_texts n (steps_view items)) path part at
fault_here [] n k i s steps path part at e lt before f = absurd (omega arith)
fault_here (x ∷ items) n k zero s steps path part at e lt before f =
    let same : k ≡ n = omega (arith, e) in
    rw texts_first (first_before (under n (step_texts x)) (steps_texts (suc n) (steps_view items)) path part at (rw same at f))
fault_here (x ∷ items) n k (suc i) s steps path part at e lt before f =
    let b = first_read x (take i items) steps before in
    rw texts_first
    (first_after (under n (step_texts x)) (steps_texts (suc n) (steps_view items)) path part at
    (fine_moved (λ p. n ∷ p) (step_texts x) (step_fine x b.first b.reads_first))
    (fault_here items (suc n) k i s b.more path part at (omega (arith, e)) (omega arith) b.reads_more f))

pub fault_at : (items : List Step) (i : ℕ) (s : Step) (done : List CheckedStep) (e : StepFault) → i < length items → s ≡ get_or items i s
    → ReadsSteps (steps_view (take i items)) (steps_tree done) → IsFaultOf (under i (step_texts s)) e → IsFaultOf (steps_texts 0 (steps_view items)) e
fault_at items i s done faults.OutOfMemory lt is before f = tt
fault_at items i s done (faults.Syntax e) lt is before f =
    fault_here items 0 i i s (steps_tree done) e.path e.part e.place (omega arith) lt before
    (subst (λ (x : Step). IsFirstFaulty (under i (step_texts x)) e.path e.part e.place) is f)

-- ---- a fault seen from further out

fault_before : (xs ys : List StepText) (e : StepFault) → IsFaultOf xs e → IsFaultOf (xs ++ ys) e
fault_before xs ys faults.OutOfMemory f = tt
fault_before xs ys (faults.Syntax e) f = first_before xs ys e.path e.part e.place f

fault_after : (xs ys : List StepText) (e : StepFault) → AreFine xs → IsFaultOf ys e → IsFaultOf (xs ++ ys) e
fault_after xs ys faults.OutOfMemory a f = tt
fault_after xs ys (faults.Syntax e) a f = first_after xs ys e.path e.part e.place a f

pub fault_under : (n : ℕ) (xs : List StepText) (e reported : StepFault) → IsFaultOf xs e → IsUnder n e reported → IsFaultOf (under n xs) reported
fault_under n xs e faults.OutOfMemory f u = tt
fault_under n xs e (faults.Syntax t) f u =
    let inner : IsFirstFaulty xs u.0.path u.0.part u.0.place = subst (λ (x : StepFault). IsFaultOf xs x) u.1 f in
    let out : IsFirstFaulty (under n xs) (n ∷ u.0.path) u.0.part u.0.place = first_moved (λ p. n ∷ p) xs u.0.path u.0.part u.0.place inner in
    subst (λ (x : FaultyText). IsFirstFaulty (under n xs) x.path x.part x.place) (sym u.2) out

-- ---- the parts of a control

pub fault_cond : (cond repeat : Option (List ℕ)) (inner : List StepText) (e : StepFault) → IsFaultOf (text_if_some kinds.If cond) e → IsFaultOf (control_texts cond repeat inner) e
fault_cond cond repeat inner e f =
    fault_before (text_if_some kinds.If cond ++ text_if_some kinds.While repeat) inner e (fault_before (text_if_some kinds.If cond) (text_if_some kinds.While repeat) e f)

pub fault_repeat : (cond repeat : Option (List ℕ)) (inner : List StepText) (e : StepFault) (c : Option Tree) → MayBeCondition cond c
    → IsFaultOf (text_if_some kinds.While repeat) e → IsFaultOf (control_texts cond repeat inner) e
fault_repeat cond repeat inner e c is f =
    fault_before (text_if_some kinds.If cond ++ text_if_some kinds.While repeat) inner e (fault_after (text_if_some kinds.If cond) (text_if_some kinds.While repeat) e (cond_fine cond c is) f)

pub fault_inner : (cond repeat : Option (List ℕ)) (inner : List StepText) (e : StepFault) (c r : Option Tree) → MayBeCondition cond c → MayBeCondition repeat r
    → IsFaultOf inner e → IsFaultOf (control_texts cond repeat inner) e
fault_inner cond repeat inner e c r is was f =
    fault_after (text_if_some kinds.If cond ++ text_if_some kinds.While repeat) inner e
    (fine_both (text_if_some kinds.If cond) (text_if_some kinds.While repeat) (cond_fine cond c is) (repeat_fine repeat r was)) f

-- ---- one text

pub fault_block : (text : List ℕ) (e : TextFault) → AnswersCode text (Err e) → IsFaultOf (block_texts text) (at_part kinds.Block e)
fault_block text (texts.Syntax at) f = first_single [] kinds.Block text at f
fault_block text texts.OutOfMemory f = tt

condition_at : (part : Part) (text : List ℕ) (at : Place) → (part ≡ kinds.If) ⊎ (part ≡ kinds.While) → IsFaultyCondition text at → IsFaulty part text at
condition_at part text at (inl is) f = subst (λ (p : Part). IsFaulty p text at) (sym is) f
condition_at part text at (inr is) f = subst (λ (p : Part). IsFaulty p text at) (sym is) f

pub fault_condition : (part : Part) (text : List ℕ) (e : TextFault) → (part ≡ kinds.If) ⊎ (part ≡ kinds.While) → AnswersCondition text (Err e)
    → IsFaultOf (text_if_some part (Some text)) (at_part part e)
fault_condition part text (texts.Syntax at) which f = first_single [] part text at (condition_at part text at which f)
fault_condition part text texts.OutOfMemory which f = tt
