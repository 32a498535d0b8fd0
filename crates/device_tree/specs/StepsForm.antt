-- Which JSON value stands for which steps, said apart from any order of reading.
use Rattle.std.specs.Prelude.{◌≡◌, ℕ, ◌-◌, ◌^◌, codes, Bool, false, List, [], ◌∷◌, Option, Some, None}
use Rattle.serde_json.specs.Data.{Data, array, Items, no_items, item}
use Rattle.serde_json.specs.Find.{get}
use Rattle.json_form.specs.Form.{IsText, IsFlag, IsNumber, HasOnly, Has, HasOr, MayHave, MayHaveText}
use Rattle.device_tree.specs.StepTree.{StepTree, no_steps, block, control}

-- a `block`: its code, and whether it is `atomic`
pub record IsBlock (d : Data) (code : List ℕ) (atomic : Bool) : Type 0 where
  pub known : HasOnly (codes "block" ∷ codes "atomic" ∷ codes "info" ∷ []) d
  pub code_is : Has (codes "block") IsText d code
  pub atomic_is : HasOr (codes "atomic") IsFlag false d atomic
  pub note : MayHaveText (codes "info") d

-- a `control`: its conditions and its timeout. The steps inside stand for `inner`.
pub record IsControl (d : Data) (cond repeat : Option (List ℕ)) (timeout : Option ℕ) (inner : Items) : Type 0 where
  pub known : HasOnly (codes "control" ∷ codes "if" ∷ codes "while" ∷ codes "timeout" ∷ codes "info" ∷ []) d
  pub no_block : get (codes "block") d ≡ None
  pub steps_are : get (codes "control") d ≡ Some (array inner)
  pub cond_is : MayHave (codes "if") IsText d cond
  pub repeat_is : MayHave (codes "while") IsText d repeat
  pub timeout_is : MayHave (codes "timeout") (IsNumber 0 (2 ^ 64 - 1)) d timeout
  pub note : MayHaveText (codes "info") d

-- the items stand for the steps, one for one
abbrev pub AreSteps : StepTree → Items → Type 0
AreSteps no_steps items = items ≡ no_items
AreSteps (block code atomic rest) items = (d : Data) × (more : Items) × (items ≡ item d more) × IsBlock d code atomic × AreSteps rest more
AreSteps (control cond repeat timeout steps rest) items =
    (d : Data) × (more : Items) × (inner : Items) × (items ≡ item d more) × IsControl d cond repeat timeout inner × AreSteps steps inner × AreSteps rest more

-- the value of `steps` or `control` is a list that stands for the steps
abbrev pub IsStepList : Data → StepTree → Type 0
IsStepList d steps = (items : Items) × (d ≡ array items) × AreSteps steps items
