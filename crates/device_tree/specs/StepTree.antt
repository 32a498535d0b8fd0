-- Steps, as contracts see them: a list in which a control holds a list.
use Rattle.std.specs.Prelude.{◌≡◌, ℕ, ◌+◌, Bool, List, [], ◌∷◌, Option, refl, ◌⊎◌}
use Rattle.std.proofs.Common.{inl, inr, ap, ◌∙◌}
use Rattle.std.specs.Coded.{Coded, code_by, coded×, coded⊎, coded_ℕ, coded_bool, coded_list, coded_option}

-- the steps of a sequence or a control, in order: a `<block>` or a `<control>`, and then the rest
pub data StepTree : Type 0 where
  no_steps : StepTree
  block : List ℕ → Bool → StepTree → StepTree
  control : Option (List ℕ) → Option (List ℕ) → Option ℕ → StepTree → StepTree → StepTree

-- ---- how the logic stores steps: plumbing that no clause cites

-- a block: its code, and whether it is `atomic`
abbrev Block : Type 0
Block = List ℕ × Bool

-- a control, apart from its steps: its `if`, its `while` and its `timeout`
abbrev Control : Type 0
Control = Option (List ℕ) × (Option (List ℕ) × Option ℕ)

-- a mark for each step from left to right, and one for each end of a list
abbrev Mark : Type 0
Mark = ℕ ⊎ (Block ⊎ Control)

-- a text is stored as the list of its bytes
abbrev text_code : Coded (List ℕ)
text_code = coded_list coded_ℕ

-- a mark is stored as the end of a list, a block or a control
abbrev mark_code : Coded Mark
mark_code = coded⊎ coded_ℕ (coded⊎ (coded× text_code coded_bool) (coded× (coded_option text_code) (coded× (coded_option text_code) (coded_option coded_ℕ))))

-- the marks of steps, and then those of what follows
abbrev marks_onto : StepTree → List Mark → List Mark
marks_onto no_steps ms = inl 0 ∷ ms
marks_onto (block c a rest) ms = inr (inl (c, a)) ∷ marks_onto rest ms
marks_onto (control c r t inner rest) ms = inr (inr (c, (r, t))) ∷ marks_onto inner (marks_onto rest ms)

-- Read from the right: a stack of the lists that begin here.
abbrev pushed_lists : Mark → List StepTree → List StepTree
pushed_lists (inl n) stack = no_steps ∷ stack
pushed_lists (inr (inl b)) [] = []
pushed_lists (inr (inl b)) (rest ∷ stack) = block b.0 b.1 rest ∷ stack
pushed_lists (inr (inr c)) [] = []
pushed_lists (inr (inr c)) (inner ∷ []) = []
pushed_lists (inr (inr c)) (inner ∷ rest ∷ stack) = control c.0 c.1.0 c.1.1 inner rest ∷ stack

-- the lists that marks stand for, the first one on top
abbrev stack_of : List Mark → List StepTree
stack_of [] = []
stack_of (m ∷ ms) = pushed_lists m (stack_of ms)

-- the list on top of the stack
abbrev top_of : List StepTree → StepTree
top_of [] = no_steps
top_of (s ∷ stack) = s

-- a lemma: the marks of steps stand for the steps, on top of what the other marks stand for
stack_of-marks_onto : (s : StepTree) (ms : List Mark) → stack_of (marks_onto s ms) ≡ s ∷ stack_of ms
stack_of-marks_onto no_steps ms = refl
stack_of-marks_onto (block c a rest) ms = ap (pushed_lists (inr (inl (c, a)))) (stack_of-marks_onto rest ms)
stack_of-marks_onto (control c r t inner rest) ms =
    ap (pushed_lists (inr (inr (c, (r, t))))) (stack_of-marks_onto inner (marks_onto rest ms) ∙ ap (λ stack. inner ∷ stack) (stack_of-marks_onto rest ms))

-- a lemma: the steps are read again from their marks
pub tree_again : (s : StepTree) → top_of (stack_of (marks_onto s [])) ≡ s
tree_again s = ap top_of (stack_of-marks_onto s [])

-- steps are stored as their marks
abbrev pub tree_code : Coded StepTree
tree_code = code_by (List Mark) (coded_list mark_code) (λ s. marks_onto s []) (λ ms. top_of (stack_of ms)) tree_again

-- ---- the number of steps, inner ones too

-- the number of steps, those inside controls too
abbrev pub tree_size : StepTree → ℕ
tree_size no_steps = 0
tree_size (block c a rest) = tree_size rest + 1
tree_size (control c r t inner rest) = tree_size inner + tree_size rest + 1
