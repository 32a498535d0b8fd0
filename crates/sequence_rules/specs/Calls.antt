-- What a call of a function does, once its arguments are numbers.
use Rattle.std.specs.Prelude.{ℕ, ◌+◌, ◌*◌, ◌/◌, ◌%◌, ◌^◌, Bool, true, false, not, ◌&&◌, ◌||◌}
use Rattle.std.specs.Prelude.{List, drop, slice_index, codes, Option, Some, None, Result, Ok, Err, if◌then◌else◌, nat_lt, nat_eq}
use Rattle.function_table.specs.declared.function.Function.{Function}
use Rattle.function_table.specs.declared.function.Function.TheVariants as f
use Rattle.target_machine.specs.declared.unit.HaltCause.{HaltCause}
use Rattle.target_machine.specs.declared.unit.HaltCause.TheVariants.{Unsupported, AddressTooLarge, Misaligned, ArgumentOutOfRange, AccessLimit, MessageLimit}
use Rattle.target_machine.specs.declared.unit.ProbeCall.{ProbeCall}
use Rattle.target_machine.specs.declared.unit.ProbeCall.TheVariants as probe
use Rattle.target_machine.specs.declared.unit.Unit.{Unit as AccessUnit}
use Rattle.target_machine.specs.declared.unit.Unit.TheVariants as unit
use Rattle.sequence_rules.specs.Lines.{message_line, query_line, value_line, load_line}
use Rattle.dap_base.specs.Outcome.{◌>>=◌}
use Rattle.sequence_rules.specs.Variables.{value_named}
use Rattle.sequence_rules.specs.Machine.{Over, Lost, Machine, State, Out, halt, with_rest, unit_more, line_more}

-- The predefined variables that calls use: the AP, whether a fault is forgiven (bit 0 of `__errorcontrol`), and the debug port.
pub record Port : Type 0 where
  pub ap : ℕ
  pub forgive : Bool
  pub dp : ℕ

-- ---- what a call asks, or why it halts

-- what is done with this, or the halt
unfoldable pub or_halt : {V T A B : Type 0} → Result A HaltCause → (A → State V T → Out V T B) → State V T → Out V T B
or_halt (Ok x) rest s = rest x s
or_halt (Err cause) rest s = halt cause s

-- a memory access; a value that is written is cut to the access's size
unfoldable pub memory_unit : ℕ → Bool → ℕ → ℕ → ℕ → AccessUnit
memory_unit size read ap address value = unit.Memory size read ap address (if read then 0 else value % 2 ^ (8 * size))

-- the access port of a memory call of so many bytes, with its halts in their order
unfoldable pub memory_port : ℕ → ℕ → ℕ → ℕ → Result ℕ HaltCause
memory_port size address ap dp =
    if not (nat_eq dp 0) then Err Unsupported else
    if nat_lt 255 ap then Err AddressTooLarge else
    if not (nat_eq (address % size) 0) then Err Misaligned else Ok ap

-- the unit of `ReadAP` and `WriteAP`, with their halts in their order
unfoldable pub ap_unit : Bool → ℕ → ℕ → ℕ → ℕ → Result AccessUnit HaltCause
ap_unit read addr value ap dp =
    if not (nat_eq dp 0) then Err Unsupported else
    if nat_lt 255 ap || nat_lt 0xFC addr then Err AddressTooLarge else
    if not (nat_eq (addr % 4) 0) then Err Misaligned else
    Ok (unit.Ap read ap addr (if read then 0 else value % 2 ^ 32))

-- the unit of `ReadDP` and `WriteDP`, with their halts in their order; a read of RESEND or RDBUFF and a write of address 0xC are not supported
unfoldable pub dp_unit : Bool → ℕ → ℕ → ℕ → Result AccessUnit HaltCause
dp_unit read addr value dp =
    if not (nat_eq dp 0) || (read && nat_eq addr 8 || nat_eq addr 0xC) then Err Unsupported else
    if nat_lt 0xC addr then Err AddressTooLarge else
    if not (nat_eq (addr % 4) 0) then Err Misaligned else
    Ok (unit.Dp read addr (if read then 0 else value % 2 ^ 32))

-- the command of `DAP_SWJ_Pins`, with a wait of 32 bits
unfoldable pub pins_command : ℕ → ℕ → ℕ → Result ProbeCall HaltCause
pins_command output select wait = if nat_lt 0xFFFFFFFF wait then Err ArgumentOutOfRange else Ok (probe.Pins (output % 256) (select % 256) wait)

module _ {V T : Type 0} (m : Machine V T) where
  -- the number of a value, where it is used
  unfoldable pub use_now : V → State V T → Out V T ℕ
  use_now v s = Ok ((m.used v s.rest).0, with_rest s (m.used v s.rest).1)

  -- where something is missing which every valid set has: the end, or this in its place
  unfoldable pub missing : {A : Type 0} → A → State V T → Out V T A
  missing x s = if m.is_watchful then Err (Lost, s) else Ok (x, s)

  -- what is there, or this in its place
  unfoldable pub value_or_missing : {A : Type 0} → A → Option A → State V T → Out V T A
  value_or_missing x None s = missing x s
  value_or_missing x (Some y) s = Ok (y, s)

  -- the rest is done only where this is so; else something is missing which every valid set has
  unfoldable pub guarded_rest : {A : Type 0} → Bool → (State V T → Out V T A) → State V T → Out V T A
  guarded_rest ok rest s = if m.is_watchful && not ok then Err (Lost, s) else rest s

  -- the number of a predefined variable, which is used
  unfoldable pub global : List ℕ → State V T → Out V T ℕ
  global name s = value_or_missing (m.number 0) (value_named s.globals name) s >>= λ v. use_now v.0 v.1

  -- `__dp` is used last
  unfoldable pub port_with : ℕ → ℕ → State V T → Out V T Port
  port_with ap control s = global (codes "__dp") s >>= λ d. Ok (record { ap = ap; forgive = nat_eq (control % 2) 1; dp = d.0 }, d.1)

  -- `__errorcontrol` is used after `__ap`
  unfoldable pub port_from : ℕ → State V T → Out V T Port
  port_from ap s = global (codes "__errorcontrol") s >>= λ e. port_with ap e.0 e.1

  -- the variables that a memory or AP call uses, in this order
  unfoldable pub port : State V T → Out V T Port
  port s = global (codes "__ap") s >>= λ a. port_from a.0 a.1

  -- ---- units

  -- the unit is counted, however it ends
  unfoldable pub counted_answer : Result (V × T) (Over × T) → State V T → Out V T V
  counted_answer (Ok x) s = Ok (x.0, unit_more s x.1)
  counted_answer (Err e) s = Err (e.0, unit_more s e.1)

  -- an access as a unit, unless it would be number 1,000,001
  unfoldable pub ask : AccessUnit → Bool → State V T → Out V T V
  ask u forgive s = if nat_lt s.units 1000000 then counted_answer (m.asked u forgive s.rest) s else halt AccessLimit s

  -- the unit is counted, and its result is a number at once
  unfoldable pub counted_number : Result (ℕ × T) (Over × T) → State V T → Out V T V
  counted_number (Ok x) s = Ok (m.number x.0, unit_more s x.1)
  counted_number (Err e) s = Err (e.0, unit_more s e.1)

  -- a command of the probe as a unit, unless it would be number 1,000,001
  unfoldable pub command : ProbeCall → State V T → Out V T V
  command c s = if nat_lt s.units 1000000 then counted_number (m.commanded c s.rest) s else halt AccessLimit s

  -- 0 in place of a value that is dropped
  unfoldable pub zero_of : Out V T V → Out V T V
  zero_of out = out >>= λ x. Ok (m.number 0, x.1)

  -- a read has its value, and a write 0
  unfoldable pub if_read : Bool → Out V T V → Out V T V
  if_read true out = out
  if_read false out = zero_of out

  -- ---- memory

  -- the value of `Read64`: both words are confirmed, and then used
  unfoldable pub low_and_high : V → V → State V T → Out V T V
  low_and_high low high s = use_now low (with_rest s (m.confirmed s.rest)) >>= λ x. use_now high x.1 >>= λ y. Ok (m.number ((x.0 + y.0 * 2 ^ 32) % 2 ^ 64), y.1)

  -- the second unit of a 64-bit call, at the higher address
  unfoldable pub second_half : Bool → Port → ℕ → ℕ → V → State V T → Out V T V
  second_half read p address value low s =
      ask (memory_unit 4 read p.ap (address + 4) (value / 2 ^ 32)) p.forgive s >>= λ high. if read then low_and_high low high.0 high.1 else Ok (m.number 0, high.1)

  -- `Read64` and `Write64` are two units, the one at the lower address first
  unfoldable pub two_units : Bool → Port → ℕ → ℕ → State V T → Out V T V
  two_units read p address value s = ask (memory_unit 4 read p.ap address value) p.forgive s >>= λ low. second_half read p address value low.0 low.1

  -- the other memory calls are one
  unfoldable pub one_unit : ℕ → Bool → Port → ℕ → ℕ → State V T → Out V T V
  one_unit size read p address value s = if_read read (ask (memory_unit size read p.ap address value) p.forgive s)

  -- a memory call, once the port is known
  unfoldable pub memory_at : ℕ → Bool → ℕ → ℕ → Port → State V T → Out V T V
  memory_at size read address value p s =
      or_halt (memory_port size address p.ap p.dp) (λ ap r. if nat_eq size 8 then two_units read p address value r else one_unit size read p address value r) s

  -- a memory call: size in bytes, whether it reads, address, and what a write writes
  unfoldable pub memory : ℕ → Bool → ℕ → ℕ → State V T → Out V T V
  memory size read address value s = port s >>= λ p. memory_at size read address value p.0 p.1

  -- ---- registers

  -- `ReadAP` and `WriteAP`, once the port is known
  unfoldable pub ap_at : Bool → ℕ → ℕ → Port → State V T → Out V T V
  ap_at read addr value p s = or_halt (ap_unit read addr value p.ap p.dp) (λ u r. if_read read (ask u p.forgive r)) s

  -- `ReadAP` and `WriteAP`
  unfoldable pub ap_register : Bool → ℕ → ℕ → State V T → Out V T V
  ap_register read addr value s = port s >>= λ p. ap_at read addr value p.0 p.1

  -- `ReadDP` and `WriteDP`, once the debug port is known; a fault is not forgiven
  unfoldable pub dp_at : Bool → ℕ → ℕ → ℕ → State V T → Out V T V
  dp_at read addr value dp s = or_halt (dp_unit read addr value dp) (λ u r. if_read read (ask u false r)) s

  -- `ReadDP` and `WriteDP`
  unfoldable pub dp_register : Bool → ℕ → ℕ → State V T → Out V T V
  dp_register read addr value s = global (codes "__dp") s >>= λ d. dp_at read addr value d.0 d.1

  -- ---- commands of the probe

  -- `DAP_WriteABORT`, on debug port 0 alone
  unfoldable pub abort_at : ℕ → ℕ → State V T → Out V T V
  abort_at value dp s = if nat_eq dp 0 then command (probe.Abort (value % 2 ^ 32)) s else halt Unsupported s

  -- `DAP_WriteABORT`
  unfoldable pub abort : ℕ → State V T → Out V T V
  abort value s = global (codes "__dp") s >>= λ d. abort_at value d.0 d.1

  -- `DAP_Delay`, of at most 60,000,000 microseconds
  unfoldable pub delay : ℕ → State V T → Out V T V
  delay micros s = if nat_lt 60000000 micros then halt ArgumentOutOfRange s else command (probe.Delay micros) s

  -- `DAP_SWJ_Clock`, of 1 to 2^32 - 1 hertz
  unfoldable pub clock : ℕ → State V T → Out V T V
  clock hertz s = if nat_eq hertz 0 || nat_lt 0xFFFFFFFF hertz then halt ArgumentOutOfRange s else command (probe.Clock hertz) s

  -- `DAP_SWJ_Pins`
  unfoldable pub pins : ℕ → ℕ → ℕ → State V T → Out V T V
  pins output select wait s = or_halt (pins_command output select wait) (λ c r. command c r) s

  -- `DAP_SWJ_Sequence`, of 1 to 64 bits
  unfoldable pub line_bits : ℕ → ℕ → State V T → Out V T V
  line_bits count bits s = if nat_eq count 0 || nat_lt 64 count then halt ArgumentOutOfRange s else command (probe.Line count (bits % 2 ^ count)) s

  -- ---- lines

  -- the line is written, unless it would be number 100,001, and then this is the value
  unfoldable pub line_result : List ℕ → ℕ → State V T → Out V T V
  line_result line n s =
      if nat_lt s.lines 100000 then Ok (m.number n, line_more s (m.written line s.rest)) else halt MessageLimit s

  -- ---- all functions

  -- a call of a function except `Sequence`, with the numbers and the text among its arguments; a number that is not there is 0
  unfoldable pub function_result : Function → List ℕ → List ℕ → State V T → Out V T V
  function_result f.Read8 text n s = memory 1 true (slice_index n 0) 0 s
  function_result f.Read16 text n s = memory 2 true (slice_index n 0) 0 s
  function_result f.Read32 text n s = memory 4 true (slice_index n 0) 0 s
  function_result f.Read64 text n s = memory 8 true (slice_index n 0) 0 s
  function_result f.Write8 text n s = memory 1 false (slice_index n 0) (slice_index n 1) s
  function_result f.Write16 text n s = memory 2 false (slice_index n 0) (slice_index n 1) s
  function_result f.Write32 text n s = memory 4 false (slice_index n 0) (slice_index n 1) s
  function_result f.Write64 text n s = memory 8 false (slice_index n 0) (slice_index n 1) s
  function_result f.ReadAp text n s = ap_register true (slice_index n 0) 0 s
  function_result f.WriteAp text n s = ap_register false (slice_index n 0) (slice_index n 1) s
  function_result f.ReadDp text n s = dp_register true (slice_index n 0) 0 s
  function_result f.WriteDp text n s = dp_register false (slice_index n 0) (slice_index n 1) s
  function_result f.DapDelay text n s = zero_of (delay (slice_index n 0) s)
  function_result f.DapSwjClock text n s = zero_of (clock (slice_index n 0) s)
  function_result f.DapWriteAbort text n s = zero_of (abort (slice_index n 0) s)
  function_result f.DapSwjPins text n s = pins (slice_index n 0) (slice_index n 1) (slice_index n 2) s
  function_result f.DapSwjSequence text n s = zero_of (line_bits (slice_index n 0) (slice_index n 1) s)
  function_result f.DapJtagSequence text n s = halt Unsupported s
  function_result f.Sequence text n s = Ok (m.number 0, s)
  function_result f.Message text n s = line_result (message_line (slice_index n 0) text (drop 1 n)) 0 s
  function_result f.Query text n s = line_result (query_line (slice_index n 0) text (slice_index n 1)) (slice_index n 1) s
  function_result f.QueryValue text n s = line_result (value_line text (slice_index n 0)) (slice_index n 0) s
  function_result f.LoadDebugInfo text n s = line_result (load_line text) 0 s
