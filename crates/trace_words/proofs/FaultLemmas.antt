-- Errors that name another fault.
use Rattle.std.proofs.Common.{◌≡◌, ℕ, Bool, inr, Result, Err, subst, sym}
use Rattle.text_lines.specs.Causes.{NamesFault}
use Rattle.trace_words.specs.declared.trace.TraceEnd.{TraceEnd}

abbrev bad : TraceEnd → Result Bool TraceEnd
bad e = Err e

-- an error that is not the named one, where the count is as before
pub names_other : (fault e : TraceEnd) (r : Result Bool TraceEnd) (before now : ℕ) → r ≡ bad e → (e ≡ fault → ⊥) → now ≡ before → NamesFault fault before now r
names_other fault e r before now is differs same =
    subst (λ (x : Result Bool TraceEnd). NamesFault fault before now x) (sym is) (record { failed = λ h. absurd (differs (let k : e ≡ fault = cc in k)); else = inr same })
