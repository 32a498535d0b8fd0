-- The list of all that are so, in an order.
use Rattle.std.specs.Prelude.{◌≡◌, ◌⊎◌, Bool, true, List, [], ◌∷◌, Contains, if◌then◌else◌, ⊤}
use Rattle.std.specs.List.{AllByRecursion}
use Rattle.dap_base.specs.declared.text.Place.{Place}
use Rattle.code_check.specs.declared.fault.FaultKind.{FaultKind}
use Rattle.code_check.specs.declared.fault.CodeFault.{CodeFault}

-- each is before all those after it
abbrev pub Rises : {F : Type 0} → (F → F → Bool) → List F → Type 0
Rises before [] = ⊤
Rises before (f ∷ more) = AllByRecursion (λ g. before f g ≡ true) more × Rises before more

-- the list has all that are so and no others, each once, in this order
pub record IsListOf {F : Type 0} (before : F → F → Bool) (Holds : F → Type 0) (list : List F) : Type 0 where
  pub rises : Rises before list
  pub holds : (f : F) → Contains list f → Holds f
  pub has : (f : F) → Holds f → Contains list f

-- ---- what private contracts cite

-- this fault, where it is one
abbrev pub found_if : Bool → Place → FaultKind → List CodeFault
found_if is_fault place kind = if is_fault then record { place = place; kind = kind } ∷ [] else []

-- what was found stays, and the faults that are here are added
pub record Adds (Here : CodeFault → Type 0) (old new : List CodeFault) : Type 0 where
  pub kept : (f : CodeFault) → Contains old f → Contains new f
  pub added : (f : CodeFault) → Here f → Contains new f
  pub only : (f : CodeFault) → Contains new f → Contains old f ⊎ Here f
