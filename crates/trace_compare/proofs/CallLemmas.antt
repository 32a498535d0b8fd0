-- The statuses of a file that cannot be opened.
use Rattle.std.proofs.Common.{◌≡◌, ℕ, true, List, Option, inl, refl, subst}
use Rattle.dap_base.specs.Causes.{Rose}
use Rattle.tool_calls.specs.Calls.{Blames}
use Rattle.trace_compare.specs.declared.call.CompareStatus.{CompareStatus}
use Rattle.trace_compare.specs.declared.call.CompareStatus.TheVariants as status
use Rattle.trace_compare.specs.Blames.{BlamesFile, leaves_file}
use Rattle.trace_compare.specs.Calls.{WritesRefusal}

leaves : (name : List ℕ) (result : CompareStatus) (old new : Option (List ℕ)) → WritesRefusal name result old new → leaves_file result ≡ true → ⊥
leaves name status.Done old new text is = text
leaves name status.Wrong old new text is = text
leaves name status.Usage old new text is = text
leaves name status.ReadFault old new text is = text
leaves name status.FileFault old new text is = text
leaves name status.NotOpened old new text is = let no : ⊥ = cc in no
leaves name status.WriteFault old new text is = let no : ⊥ = cc in no
leaves name status.OutOfMemory old new text is = let no : ⊥ = cc in no

-- the count of the file rose
pub refused : (name : List ℕ) (result : CompareStatus) (old new : Option (List ℕ)) (before now : ℕ) → WritesRefusal name result old new → Rose before now → BlamesFile result before now
refused name result old new before now text rose = record { failed = λ is. rose; else = λ is. absurd (leaves name result old new text is) }

-- the source did not fail
pub unblamed : (name : List ℕ) (result : CompareStatus) (old new : Option (List ℕ)) (count : ℕ) → WritesRefusal name result old new → Blames status.ReadFault result count count
unblamed name result old new count text = record { failed = λ is. absurd (subst (λ (s : CompareStatus). WritesRefusal name s old new) is text); else = inl refl }
