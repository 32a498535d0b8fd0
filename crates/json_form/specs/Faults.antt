-- Faults with their paths, and what a function that reads a value answers.
use Rattle.std.specs.Prelude.{◌≡◌, ℕ, codes, List, Option, Some, None, Result, Ok, Err, ◌∷◌, ⊤}
use Rattle.json_form.specs.declared.fault.JobFault.{JobFault}
use Rattle.json_form.specs.declared.fault.JobFault.TheVariants.{Missing, WrongKind, UnknownKey, Repeated, BadNumber, TooMany, OutOfMemory}
use Rattle.json_form.specs.declared.path.PathStep.{PathStep}

-- the fault, seen from one step further out
abbrev pub fault_at : PathStep → JobFault → JobFault
fault_at step (Missing path) = Missing (step ∷ path)
fault_at step (WrongKind path) = WrongKind (step ∷ path)
fault_at step (UnknownKey path) = UnknownKey (step ∷ path)
fault_at step (Repeated path) = Repeated (step ∷ path)
fault_at step (BadNumber path) = BadNumber (step ∷ path)
fault_at step (TooMany path) = TooMany (step ∷ path)
fault_at step OutOfMemory = OutOfMemory

-- the name of what is wrong, as the variant is spelled
abbrev pub fault_name : JobFault → List ℕ
fault_name (Missing path) = codes "Missing"
fault_name (WrongKind path) = codes "WrongKind"
fault_name (UnknownKey path) = codes "UnknownKey"
fault_name (Repeated path) = codes "Repeated"
fault_name (BadNumber path) = codes "BadNumber"
fault_name (TooMany path) = codes "TooMany"
fault_name OutOfMemory = codes "OutOfMemory"

-- the path of a fault; refused memory has none
abbrev pub fault_path : JobFault → Option (List PathStep)
fault_path (Missing path) = Some path
fault_path (WrongKind path) = Some path
fault_path (UnknownKey path) = Some path
fault_path (Repeated path) = Some path
fault_path (BadNumber path) = Some path
fault_path (TooMany path) = Some path
fault_path OutOfMemory = None

-- what is read inside a member or an item, seen from the value around it
abbrev pub at : {A : Type 0} → PathStep → Result A JobFault → Result A JobFault
at step (Ok x) = Ok x
at step (Err fault) = Err (fault_at step fault)

-- the fault was found, unless memory ran out
abbrev pub Fails : {A : Type 0} → JobFault → Result A JobFault → Type 0
Fails (Missing path) read = read ≡ Err (Missing path)
Fails (WrongKind path) read = read ≡ Err (WrongKind path)
Fails (UnknownKey path) read = read ≡ Err (UnknownKey path)
Fails (Repeated path) read = read ≡ Err (Repeated path)
Fails (BadNumber path) read = read ≡ Err (BadNumber path)
Fails (TooMany path) read = read ≡ Err (TooMany path)
Fails OutOfMemory read = ⊤

-- the fault is one of the value, and not that memory was refused
abbrev pub IsValueFault : JobFault → Type 0
IsValueFault OutOfMemory = ⊥
IsValueFault other = ⊤

-- reading gives a value, or a fault of it
abbrev pub IsDecided : {A : Type 0} → Result A JobFault → Type 0
IsDecided (Ok x) = ⊤
IsDecided (Err fault) = IsValueFault fault

-- A function answered what reading gives: the value, the first fault with its path, or that memory ran out.
abbrev pub Gives : {A : Type 0} → Result A JobFault → Result A JobFault → Type 0
Gives (Ok x) read = read ≡ Ok x
Gives (Err fault) read = Fails fault read
