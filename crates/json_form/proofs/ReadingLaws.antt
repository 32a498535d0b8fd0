-- That a definition of reading gives exactly what a relation relates to a value.
use Rattle.std.proofs.Common.{◌≡◌, List, Result, Ok, Err, refl, subst}
use Rattle.std.specs.Prelude.{IfOk}
use Rattle.serde_json.specs.Data.{Data}
use Rattle.json_form.specs.declared.fault.JobFault.{JobFault}
use Rattle.json_form.specs.declared.path.PathStep.{PathStep}
use Rattle.json_form.specs.Faults.{Gives, at}
use Rattle.dap_base.specs.Outcome.{◌>>=◌}

-- reading gives what stands for the value, and nothing else
pub record Reads {A : Type 0} (reads : Data → Result A JobFault) (R : Data → A → Type 0) : Type 0 where
  pub sound : (d : Data) (x : A) → reads d ≡ Ok x → R d x
  pub complete : (d : Data) (x : A) → R d x → reads d ≡ Ok x

-- the same for an item that is read after the earlier ones
pub record ReadsAfter {A : Type 0} (reads : List A → Data → Result A JobFault) (R : List A → Data → A → Type 0) : Type 0 where
  pub after : (earlier : List A) → Reads (reads earlier) (R earlier)

-- ---- what a function answered

pub is_found : {A : Type 0} (reads : Data → Result A JobFault) (R : Data → A → Type 0) → Reads reads R → (d : Data) (r : Result A JobFault) → Gives r (reads d) → IfOk r (R d)
is_found reads R law d (Ok x) given = law.sound d x given
is_found reads R law d (Err fault) given = tt

pub is_only : {A : Type 0} (reads : Data → Result A JobFault) (R : Data → A → Type 0) → Reads reads R → (d : Data) (r : Result A JobFault) → Gives r (reads d) → (x : A) → R d x → Gives r (Ok x)
is_only reads R law d r given x holds = subst (λ read. Gives r read) (law.complete d x holds) given

-- ---- the steps of a reading

abbrev pub done : {A : Type 0} → A → Result A JobFault
done x = Ok x

pub bind_ok : {A B : Type 0} (r : Result A JobFault) (next : A → Result B JobFault) (y : B) → (r >>= next) ≡ Ok y → (x : A) × (r ≡ Ok x) × (next x ≡ Ok y)
bind_ok (Ok x) next y e = (x, refl, e)
bind_ok (Err fault) next y e = absurd cc

pub at_ok : {A : Type 0} (step : PathStep) (r : Result A JobFault) (y : A) → at step r ≡ Ok y → r ≡ Ok y
at_ok step (Ok x) y e = e
at_ok step (Err fault) y e = absurd cc

-- inside a member or an item the same is read
pub at_reads : {A : Type 0} (step : PathStep) (reads : Data → Result A JobFault) (R : Data → A → Type 0) → Reads reads R → Reads (λ d. at step (reads d)) R
at_reads step reads R law = record {
  sound = λ d x e. law.sound d x (at_ok step (reads d) x e);
  complete = λ d x holds. rw (law.complete d x holds) refl;
}
