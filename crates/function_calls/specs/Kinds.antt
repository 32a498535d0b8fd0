-- The kinds of functions, and what each kind does.
use Rattle.std.specs.Prelude.{◌≡◌, ◌⊎◌, ⊤, ℕ, Bool, true, false, List, drop, slice_index, Ok, if◌then◌else◌}
use Rattle.function_table.specs.declared.function.Function.{Function}
use Rattle.function_table.specs.declared.function.Function.TheVariants as f
use Rattle.target_machine.specs.declared.unit.HaltCause.TheVariants.{Unsupported}
use Rattle.sequence_rules.specs.Calls.{memory, ap_register, dp_register, zero_of, delay, clock, abort, pins, line_bits, line_result}
use Rattle.sequence_rules.specs.Lines.{message_line, query_line, value_line, load_line}
use Rattle.sequence_rules.specs.Machine.{Machine, State, Out, halt}
use Rattle.function_calls.specs.declared.kinds.Kind.{Kind}
use Rattle.function_calls.specs.declared.kinds.Kind.TheVariants as kind
use Rattle.function_calls.specs.declared.kinds.ProbeKind.{ProbeKind}
use Rattle.function_calls.specs.declared.kinds.ProbeKind.TheVariants as probe
use Rattle.function_calls.specs.declared.kinds.LineKind.{LineKind}
use Rattle.function_calls.specs.declared.kinds.LineKind.TheVariants as line

-- the kind of a function
abbrev pub call_kind_of : Function → Kind
call_kind_of f.Read8 = kind.Memory 1 true
call_kind_of f.Read16 = kind.Memory 2 true
call_kind_of f.Read32 = kind.Memory 4 true
call_kind_of f.Read64 = kind.Memory 8 true
call_kind_of f.Write8 = kind.Memory 1 false
call_kind_of f.Write16 = kind.Memory 2 false
call_kind_of f.Write32 = kind.Memory 4 false
call_kind_of f.Write64 = kind.Memory 8 false
call_kind_of f.ReadAp = kind.Ap true
call_kind_of f.WriteAp = kind.Ap false
call_kind_of f.ReadDp = kind.Dp true
call_kind_of f.WriteDp = kind.Dp false
call_kind_of f.DapDelay = kind.Probe probe.Delay
call_kind_of f.DapSwjClock = kind.Probe probe.Clock
call_kind_of f.DapWriteAbort = kind.Probe probe.Abort
call_kind_of f.DapSwjPins = kind.Probe probe.Pins
call_kind_of f.DapSwjSequence = kind.Probe probe.Bits
call_kind_of f.DapJtagSequence = kind.Unsupported
call_kind_of f.Sequence = kind.Nothing
call_kind_of f.Message = kind.Writes line.Message
call_kind_of f.Query = kind.Writes line.Query
call_kind_of f.QueryValue = kind.Writes line.Value
call_kind_of f.LoadDebugInfo = kind.Writes line.Load

-- memory is accessed by 1, 2, 4 or 8 bytes
abbrev pub IsSized : Kind → Type 0
IsSized (kind.Memory size read) = (size ≡ 1) ⊎ ((size ≡ 2) ⊎ ((size ≡ 4) ⊎ (size ≡ 8)))
IsSized other = ⊤

-- what a write writes: its second number; a read has none
abbrev pub written_value : Bool → List ℕ → ℕ
written_value read n = if read then 0 else slice_index n 1

module _ {V T : Type 0} (m : Machine V T) where
  -- a command of the probe
  abbrev pub probe_done : ProbeKind → List ℕ → State V T → Out V T V
  probe_done probe.Delay n s = zero_of m (delay m (slice_index n 0) s)
  probe_done probe.Clock n s = zero_of m (clock m (slice_index n 0) s)
  probe_done probe.Abort n s = zero_of m (abort m (slice_index n 0) s)
  probe_done probe.Pins n s = pins m (slice_index n 0) (slice_index n 1) (slice_index n 2) s
  probe_done probe.Bits n s = zero_of m (line_bits m (slice_index n 0) (slice_index n 1) s)

  -- a line is written
  abbrev pub line_done : LineKind → List ℕ → List ℕ → State V T → Out V T V
  line_done line.Message text n s = line_result m (message_line (slice_index n 0) text (drop 1 n)) 0 s
  line_done line.Query text n s = line_result m (query_line (slice_index n 0) text (slice_index n 1)) (slice_index n 1) s
  line_done line.Value text n s = line_result m (value_line text (slice_index n 0)) (slice_index n 0) s
  line_done line.Load text n s = line_result m (load_line text) 0 s

  -- what a function of the kind does
  abbrev pub kind_done : Kind → List ℕ → List ℕ → State V T → Out V T V
  kind_done (kind.Memory size read) text n s = memory m size read (slice_index n 0) (written_value read n) s
  kind_done (kind.Ap read) text n s = ap_register m read (slice_index n 0) (written_value read n) s
  kind_done (kind.Dp read) text n s = dp_register m read (slice_index n 0) (written_value read n) s
  kind_done (kind.Probe probe) text n s = probe_done probe n s
  kind_done (kind.Writes line) text n s = line_done line text n s
  kind_done kind.Unsupported text n s = halt Unsupported s
  kind_done kind.Nothing text n s = Ok (m.number 0, s)
