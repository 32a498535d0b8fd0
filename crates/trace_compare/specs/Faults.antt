-- Why a comparison ends, and which object an error is of.
use Rattle.std.specs.Prelude.{◌≡◌, ◌≢◌, ◌⊎◌, ℕ, List, Option, Result, IfErr}
use Rattle.dap_base.specs.Streams.{PutAppends}
use Rattle.text_lines.specs.Causes.{NamesFault}
use Rattle.trace_events.specs.declared.events.ReadEnd.{ReadEnd}
use Rattle.trace_events.specs.declared.events.ReadEnd.TheVariants as ends
use Rattle.trace_compare.specs.declared.compare.CompareEnd.{CompareEnd}
use Rattle.trace_compare.specs.declared.compare.CompareEnd.TheVariants as end

-- of the sink, or of memory
abbrev pub IsOfSink : CompareEnd → Type 0
IsOfSink e = (e ≡ end.WriteFault) ⊎ (e ≡ end.OutOfMemory)

-- why the trace is not read on
abbrev pub trace_end : ReadEnd → CompareEnd
trace_end ends.ReadFault = end.ReadFault
trace_end ends.OutOfMemory = end.OutOfMemory

-- why the other is not
abbrev pub against_end : ReadEnd → CompareEnd
against_end ends.ReadFault = end.AgainstFault
against_end ends.OutOfMemory = end.OutOfMemory

-- ---- what a function leaves of its objects

-- A text was put: at `Ok` whole, and at an error a part of it, from its front. The error is of the sink, which failed, or of memory.
pub record PutsOnly {K : Type 0} (piece : List ℕ) (result : Result (Unit {0}) CompareEnd) (written : K → Option (List ℕ)) (faults : K → ℕ) (old new : K) : Type 0 where
  pub text : PutAppends (written old) (written new) result piece
  pub sink : NamesFault end.WriteFault (faults old) (faults new) result
  pub other : IfErr result IsOfSink

-- two traces were read: an error names the source that failed, and never the sink
pub record ReadsTwo {T : Type 0} (result : Result T CompareEnd) (source_old source_new against_old against_new : ℕ) : Type 0 where
  pub source : NamesFault end.ReadFault source_old source_new result
  pub against : NamesFault end.AgainstFault against_old against_new result
  pub other : IfErr result (λ e. e ≢ end.WriteFault)

-- two traces were compared: an error names the object that failed
pub record NamesEach {T : Type 0} (result : Result T CompareEnd) (source_old source_new against_old against_new sink_old sink_new : ℕ) : Type 0 where
  pub source : NamesFault end.ReadFault source_old source_new result
  pub against : NamesFault end.AgainstFault against_old against_new result
  pub sink : NamesFault end.WriteFault sink_old sink_new result
