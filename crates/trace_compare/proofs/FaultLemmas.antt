-- Errors that name another fault.
use Rattle.std.proofs.Common.{◌≡◌, ℕ, Bool, inr, Result, Err, subst, sym}
use Rattle.text_lines.specs.Causes.{NamesFault}
use Rattle.trace_compare.specs.declared.compare.CompareEnd.{CompareEnd}

abbrev bad : CompareEnd → Result Bool CompareEnd
bad e = Err e

-- an error that is not the named one, where the count is as before
pub names_other : (fault e : CompareEnd) (r : Result Bool CompareEnd) (before now : ℕ) → r ≡ bad e → (e ≡ fault → ⊥) → now ≡ before → NamesFault fault before now r
names_other fault e r before now is differs same =
    subst (λ (x : Result Bool CompareEnd). NamesFault fault before now x) (sym is) (record { failed = λ h. absurd (differs (let k : e ≡ fault = cc in k)); else = inr same })
