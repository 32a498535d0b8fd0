-- A member with a default that is made only where it is requested.
use Rattle.std.proofs.Common.{◌≡◌, ℕ, List, Option, Some, None, Result, Ok, Err, refl}
use Rattle.serde_json.specs.Data.{Data}
use Rattle.serde_json.specs.Find.{get}
use Rattle.json_form.specs.declared.fault.JobFault.{JobFault}
use Rattle.json_form.specs.declared.path.PathStep.TheVariants.{Key}
use Rattle.json_form.specs.Faults.{at}
use Rattle.json_form.specs.Reading.{optional, or_else, some_of}
use Rattle.std.specs.Option.{option_map_or}

-- the member, or the default where it is absent
abbrev pub else_default : {A : Type 0} → A → Result (Option A) JobFault → Result A JobFault
else_default other (Ok (Some x)) = Ok x
else_default other (Ok None) = Ok other
else_default other (Err fault) = Err fault

read_else : {A : Type 0} (other : A) (r : Result A JobFault) → r ≡ else_default other (some_of r)
read_else other (Ok x) = refl
read_else other (Err fault) = refl

found_else : {A : Type 0} (key : List ℕ) (reads : Data → Result A JobFault) (other : A) (found : Option Data)
    → option_map_or (λ v. at (Key key) (reads v)) found (Ok other) ≡ else_default other (option_map_or (λ v. some_of (at (Key key) (reads v))) found (Ok None))
found_else key reads other None = refl
found_else key reads other (Some v) = read_else other (at (Key key) (reads v))

pub or_else-optional : {A : Type 0} (key : List ℕ) (reads : Data → Result A JobFault) (other : A) (d : Data) → or_else key reads other d ≡ else_default other (optional key reads d)
unfolding or_else optional
or_else-optional key reads other d = found_else key reads other (get key d)

pub ruleset defaulting = (or_else-optional)
