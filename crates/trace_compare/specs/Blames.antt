-- Which object a status names.
use Rattle.std.specs.Prelude.{◌≡◌, ℕ, Bool, true, false, List, Option}
use Rattle.dap_base.specs.Causes.{Rose}
use Rattle.tool_calls.specs.Calls.{Blames}
use Rattle.trace_compare.specs.declared.call.CompareStatus.{CompareStatus}
use Rattle.trace_compare.specs.declared.call.CompareStatus.TheVariants as status

-- the statuses of the file
abbrev pub is_of_file : CompareStatus → Bool
is_of_file status.FileFault = true
is_of_file status.NotOpened = true
is_of_file other = false

-- the statuses that leave the file's count
abbrev pub leaves_file : CompareStatus → Bool
leaves_file status.FileFault = false
leaves_file status.NotOpened = false
leaves_file status.WriteFault = false
leaves_file status.OutOfMemory = false
leaves_file other = true

-- Two statuses name the file. Where it cannot be opened, its line can fail: then the status names the sink, or memory, and the count of
-- the file rose all the same.
pub record BlamesFile (result : CompareStatus) (before now : ℕ) : Type 0 where
  pub failed : is_of_file result ≡ true → Rose before now
  pub else : leaves_file result ≡ true → now ≡ before

-- a status names the source, the file or the sink only where that object failed
pub record BlamesEach (result : CompareStatus) (source_old source_new file_old file_new sink_old sink_new : ℕ) : Type 0 where
  pub source : Blames status.ReadFault result source_old source_new
  pub file : BlamesFile result file_old file_new
  pub sink : Blames status.WriteFault result sink_old sink_new

-- what is written by how a call ended; the status names the sink only where it failed
pub record WritesInto {K : Type 0} (Writes : CompareStatus → Option (List ℕ) → Option (List ℕ) → Type 0) (result : CompareStatus) (written : K → Option (List ℕ))
    (faults : K → ℕ) (old new : K) : Type 0 where
  pub text : Writes result (written old) (written new)
  pub sink : Blames status.WriteFault result (faults old) (faults new)
