-- What a call of a program does, by its words, its source and its sink.
use Rattle.std.specs.Prelude.{◌≡◌, ◌⊎◌, ℕ, List, Option, Result, Ok, Err, OnOk, codes}
use Rattle.std.specs.Io.KnownBytes.{Appends}
use Rattle.dap_base.specs.Causes.{Rose}
use Rattle.dap_base.specs.Streams.{AppendsPrefix}
use Rattle.text_lines.specs.Causes.{NamesFault}
use Rattle.text_lines.specs.declared.putting.TextError.{TextError}
use Rattle.text_lines.specs.declared.putting.TextError.TheVariants as errors
use Rattle.job_source.specs.Source.{AreBytesOf, AreTaken}
use Rattle.tool_calls.specs.declared.unasked.Unasked.{Unasked}
use Rattle.tool_calls.specs.declared.unasked.Unasked.TheVariants as unasked

-- ---- statuses

-- The status that names an object comes only where the object's count of faults rose, or is at its last value. A count changes only with that
-- status.
pub record Blames {E : Type 0} (fault end : E) (before now : ℕ) : Type 0 where
  pub failed : end ≡ fault → Rose before now
  pub else : (now ≡ before) ⊎ (end ≡ fault)

-- the statuses of a program where the source failed, where the sink failed, and where memory was refused
pub record FaultStatuses (E : Type 0) : Type 0 where
  pub read : E
  pub write : E
  pub memory : E

-- an object of the outside failed, or memory was refused
abbrev pub IsDisturbed : {E : Type 0} → FaultStatuses E → E → Type 0
IsDisturbed faults end = (end ≡ faults.read) ⊎ (end ≡ faults.write) ⊎ (end ≡ faults.memory)

-- a call can fail while it writes a text
abbrev pub FailsPutting : {E : Type 0} → FaultStatuses E → E → Type 0
FailsPutting faults end = (end ≡ faults.write) ⊎ (end ≡ faults.memory)

-- The text was appended, and the status is its own; or writing it failed, and a part of it was appended, from its front.
abbrev pub IsPut : {E : Type 0} → FaultStatuses E → Option (List ℕ) → Option (List ℕ) → List ℕ → E → E → Type 0
IsPut faults old new text own end = ((end ≡ own) × Appends old new text) ⊎ (FailsPutting faults end × AppendsPrefix old new text)

-- A text was put with this status, as `IsPut` says; and the status names the sink only where it failed.
pub record PutsAs {E K : Type 0} (faults : FaultStatuses E) (piece : List ℕ) (own end : E) (written : K → Option (List ℕ)) (counted : K → ℕ) (old new : K) : Type 0 where
  pub text : IsPut faults (written old) (written new) piece own end
  pub sink : Blames faults.write end (counted old) (counted new)

-- the status where a text was not written whole
abbrev pub failed_status : {E : Type 0} → FaultStatuses E → TextError → E
failed_status faults errors.Failed = faults.write
failed_status faults errors.OutOfMemory = faults.memory

-- ---- a call

-- What is known of a source and a sink at a moment. That is the bytes that are left and those that were written, each where the object is
-- observable, and the counts of faults.
pub record Moment : Type 0 where
  pub left : Option (List ℕ)
  pub source_faults : ℕ
  pub written : Option (List ℕ)
  pub sink_faults : ℕ

-- the same, by the ghost members of the two traits
abbrev pub moment : {S K : Type 0} → (S → Option (List ℕ)) → (S → ℕ) → (K → Option (List ℕ)) → (K → ℕ) → S → K → Moment
moment left source_faults written sink_faults source sink = record {
  left = left source;
  source_faults = source_faults source;
  written = written sink;
  sink_faults = sink_faults sink;
}

-- A call: its words, what is known before it and after it, and its status.
pub record Call (E : Type 0) : Type 0 where
  pub words : List (List ℕ)
  pub old : Moment
  pub new : Moment
  pub end : E

-- A program. It has the words that ask for something, what words and bytes ask for, and the text and the status of each answer. Its faults have
-- statuses too.
pub record Tool (A E : Type 0) : Type 1 where
  pub IsLine : List (List ℕ) → Type 0
  pub Asks : List (List ℕ) → List ℕ → A → Type 0
  pub text : A → List ℕ
  pub status : A → E
  pub faults : FaultStatuses E

-- the line of a source that failed
abbrev pub source_fault_line : List ℕ
source_fault_line = codes "end readfault\n"

-- What a call does. There are bytes, those of the source where it is observable, of which the words ask for an answer, and it was
-- written. Or the source failed, which words that ask for something alone read, and its line was written. Or memory was refused before
-- the answer was known, and nothing was written.
pub data Does {A E : Type 0} (tool : Tool A E) (call : Call E) : Type 0 where
  does : (bytes : List ℕ) (answer : A) → AreBytesOf call.old.left bytes → tool.Asks call.words bytes answer
      → IsPut tool.faults call.old.written call.new.written (tool.text answer) (tool.status answer) call.end → Does tool call
  unread : tool.IsLine call.words → Rose call.old.source_faults call.new.source_faults
      → IsPut tool.faults call.old.written call.new.written source_fault_line tool.faults.read call.end → Does tool call
  no_memory : call.end ≡ tool.faults.memory → call.new.written ≡ call.old.written → Does tool call

-- there are bytes, those of the source where it is observable, of which the words ask for an answer, and it was written whole with its status
pub record CallIsDone {A E : Type 0} (tool : Tool A E) (call : Call E) : Type 0 where
  pub bytes : List ℕ
  pub answer : A
  pub are : AreBytesOf call.old.left bytes
  pub asks : tool.Asks call.words bytes answer
  pub text : Appends call.old.written call.new.written (tool.text answer)
  pub status : call.end ≡ tool.status answer

-- what is written of what was found out of the words and the source
abbrev pub IsFinished : {A E : Type 0} → Tool A E → Result A Unasked → Option (List ℕ) → Option (List ℕ) → E → Type 0
IsFinished tool (Ok answer) before after end = IsPut tool.faults before after (tool.text answer) (tool.status answer) end
IsFinished tool (Err unasked.ReadFault) before after end =
    IsPut tool.faults before after source_fault_line tool.faults.read end × ((end ≡ tool.faults.read) ⊎ (end ≡ tool.faults.write))
IsFinished tool (Err unasked.OutOfMemory) before after end = (end ≡ tool.faults.memory) × (after ≡ before)

-- What was found out of the words and the source was finished, as `IsFinished` says; and the status names the sink only where it failed.
pub record Finishes {A E K : Type 0} (tool : Tool A E) (asked : Result A Unasked) (end : E) (written : K → Option (List ℕ)) (counted : K → ℕ) (old new : K) : Type 0 where
  pub done : IsFinished tool asked (written old) (written new) end
  pub sink : Blames tool.faults.write end (counted old) (counted new)

-- A job was read from a source, where there is an answer: to its end, or one byte too far. `ReadFault` comes only where the source failed.
pub record ReadsJob {T : Type 0} (result : Result T Unasked) (old new : Option (List ℕ)) (before now : ℕ) : Type 0 where
  pub taken : OnOk result (AreTaken old new)
  pub source : NamesFault unasked.ReadFault before now result
