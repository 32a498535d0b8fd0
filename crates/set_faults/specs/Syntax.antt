-- The first fault of each text of a set that can not be read.
use Rattle.std.specs.Prelude.{◌≡◌, ℕ, List, [], ◌∷◌, ◌++◌, Option, None, Some}
use Rattle.dap_base.specs.declared.text.Place.{Place}
use Rattle.sequence_resolve.specs.declared.entry.SeqSet.{SeqSet}
use Rattle.sequence_trees.specs.declared.spot.Part.{Part}
use Rattle.sequence_trees.specs.Order.{TextAt, SetStep, IsFine, IsFaulty, set_texts}
use Rattle.code_check.specs.declared.fault.FaultKind.TheVariants as k
use Rattle.set_faults.specs.declared.site.Fault.{Fault}

-- the place of the first fault of a text; none of a text that can be read
abbrev pub IsFaultOf : Part → List ℕ → Option Place → Type 0
IsFaultOf part text None = IsFine part text
IsFaultOf part text (Some at) = IsFaulty part text at

-- the fault of a text of the step, where it has one
abbrev pub syntax_fault : SetStep → Part → Option Place → List Fault
syntax_fault step part None = []
syntax_fault step part (Some at) = record { kind = k.Syntax; spot = record { sequence = step.sequence; path = step.path; part = part; place = at } } ∷ []

-- the faults of the texts, in the order of the texts
abbrev pub AreFaultsOf : List (TextAt SetStep) → List Fault → Type 0
AreFaultsOf [] faults = faults ≡ []
AreFaultsOf (t ∷ texts) faults =
    (at : Option Place) × (more : List Fault) × IsFaultOf t.part t.text at × (faults ≡ syntax_fault t.step t.part at ++ more) × AreFaultsOf texts more

-- the first fault of each text of the set that can not be read
abbrev pub AreSyntaxFaults : SeqSet → List Fault → Type 0
AreSyntaxFaults set faults = AreFaultsOf (set_texts set) faults

-- the faults of the texts are added at the end: what private contracts cite
pub record AddsFaultsOf (texts : List (TextAt SetStep)) (old new : List Fault) : Type 0 where
  pub found : List Fault
  pub are : AreFaultsOf texts found
  pub is_new : new ≡ old ++ found

-- the step at the path from this one
abbrev pub inside : SetStep → List ℕ → SetStep
inside step path = record { sequence = step.sequence; path = step.path ++ path }
