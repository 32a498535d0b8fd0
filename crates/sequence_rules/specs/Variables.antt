-- Variables in lists.
use Rattle.std.specs.Prelude.{ℕ, Bool, true, false, ◌||◌, List, [], ◌∷◌, ◌++◌, Option, Some, None, if◌then◌else◌}
use Rattle.std.specs.Option.{option_or}
use Rattle.std.specs.Str.{bytes_eq}
use Rattle.sequence_rules.specs.declared.bindings.Binding.{Binding}
use Rattle.sequence_rules.specs.Machine.{State, with_locals, with_variables}

-- a variable
abbrev pub bound_variable : {V : Type 0} → List ℕ → V → Binding V
bound_variable name v = record { name = name; value = v }

-- a variable has the name
abbrev pub has_in : {V : Type 0} → List (Binding V) → List ℕ → Bool
has_in [] name = false
has_in (b ∷ bs) name = if bytes_eq name b.name then true else has_in bs name

-- the value of the first variable with the name
abbrev pub value_named : {V : Type 0} → List (Binding V) → List ℕ → Option V
value_named [] name = None
value_named (b ∷ bs) name = if bytes_eq name b.name then Some b.value else value_named bs name

-- the first variable with the name has this value
abbrev pub set_in : {V : Type 0} → List (Binding V) → List ℕ → V → List (Binding V)
set_in [] name v = []
set_in (b ∷ bs) name v = if bytes_eq name b.name then bound_variable b.name v ∷ bs else b ∷ set_in bs name v

-- the value of the newest variable with the name, which is the last
abbrev pub newest_in : {V : Type 0} → List (Binding V) → List ℕ → Option V
newest_in [] name = None
newest_in (b ∷ bs) name = option_or (newest_in bs name) (if bytes_eq name b.name then Some b.value else None)

-- the newest variable with the name has this value
abbrev pub set_newest : {V : Type 0} → List (Binding V) → List ℕ → V → List (Binding V)
set_newest [] name v = []
set_newest (b ∷ bs) name v =
    if has_in bs name then b ∷ set_newest bs name v else (if bytes_eq name b.name then bound_variable b.name v ∷ bs else b ∷ bs)

-- one more variable, unless one has the name
abbrev pub with_new : {V : Type 0} → List (Binding V) → List ℕ → V → List (Binding V)
with_new bs name v = if has_in bs name then bs else bs ++ bound_variable name v ∷ []

-- one more variable of each of these names
abbrev pub with_all_new : {V : Type 0} → List (Binding V) → List (List ℕ) → V → List (Binding V)
with_all_new bs [] v = bs
with_all_new bs (name ∷ names) v = with_all_new (with_new bs name v) names v

-- ---- the variables of a state

-- the name is that of a variable of the running sequence, or of one that all share
abbrev pub is_visible : {V T : Type 0} → List ℕ → State V T → Bool
is_visible name s = has_in s.locals name || has_in s.globals name

-- the value of the visible variable
abbrev pub visible : {V T : Type 0} → List ℕ → State V T → Option V
visible name s = option_or (newest_in s.locals name) (value_named s.globals name)

-- the visible variable has this value
abbrev pub set_visible : {V T : Type 0} → List ℕ → V → State V T → State V T
set_visible name v s =
    if has_in s.locals name then with_locals s (set_newest s.locals name v) else with_variables s (set_in s.globals name v) s.locals
