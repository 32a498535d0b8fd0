-- Calls of functions lack nothing where the predefined variables that they use are there.
use Rattle.std.proofs.Common.{◌≡◌, ℕ, Bool, true, false, ◌||◌, List, [], ◌∷◌, slice_index, nat_eq, nat_lt, Result, Ok, Err, codes, ap, ◌∙◌}
use Rattle.expr_grammar.specs.Names.{has_name}
use Rattle.function_table.specs.declared.function.Function.{Function}
use Rattle.function_table.specs.declared.function.Function.TheVariants as f
use Rattle.target_machine.specs.declared.unit.HaltCause.{HaltCause}
use Rattle.target_machine.specs.declared.unit.ProbeCall.{ProbeCall}
use Rattle.target_machine.specs.declared.unit.Unit.{Unit as AccessUnit}
use Rattle.sequence_rules.specs.Calls.{Port, or_halt, use_now, global, port, port_from, port_with, counted_answer, ask, counted_number, command, zero_of, if_read, low_and_high, second_half, two_units, one_unit, memory_port, memory_at, memory, ap_unit, ap_at, ap_register, dp_unit, dp_at, dp_register, pins_command, abort, abort_at, delay, clock, pins, line_bits, line_result, function_result}
use Rattle.sequence_rules.specs.Machine.{Over, Machine, State, Out, with_rest}
use Rattle.sequence_rules.specs.Values.{all_used}
use Rattle.sequence_rules.specs.Variables.{value_named}
use Rattle.sequence_rules.proofs.NameLemmas.{has_names}
use Rattle.sequence_meaning.proofs.Fine.{IsMet, Fine, fine_bind, fine_cond, fine_given, value_found, Has}

-- no operation of the machine lacks anything
abbrev pub IsMetBy : {T X : Type 0} → Result (X × T) (Over × T) → Type 0
IsMetBy (Ok x) = Unit {0}
IsMetBy (Err e) = IsMet e.0

pub record LacksNothing {V T : Type 0} (m : Machine V T) : Type 0 where
  pub asked : (u : AccessUnit) (forgive : Bool) (t : T) → IsMetBy (m.asked u forgive t)
  pub commanded : (c : ProbeCall) (t : T) → IsMetBy (m.commanded c t)

module _ {V T : Type 0} (m : Machine V T) (safe : LacksNothing m) (gs ls : List (List ℕ)) where
  abbrev S : Type 0
  S = State V T

  abbrev Now : S → Type 0
  Now s = Has gs ls s

  pub fine_use : (v : V) (s : S) → Has gs ls s → Fine (Has gs ls) (use_now m v s)
  unfolding use_now
  fine_use v s h = record { globals = h.globals; locals = h.locals }

  pub fine_all : (vs : List V) (s : S) → Has gs ls s → Fine (Has gs ls) (all_used m vs s)
  unfolding all_used
  fine_all [] s h = h
  fine_all (v ∷ vs) s h = fine_bind Now Now (use_now m v s) _ (fine_use v s h) (λ x p. fine_bind Now Now (all_used m vs x.1) _ (fine_all vs x.1 p) (λ y q. q))

  pub fine_global : (n : List ℕ) (s : S) → has_name gs n ≡ true → Has gs ls s → Fine (Has gs ls) (global m n s)
  unfolding global
  fine_global n s there h =
      let v = value_found s.globals n (has_names s.globals n ∙ ap (λ k. has_name k n) h.globals ∙ there) in
      fine_bind Now Now _ _ (fine_given m Now (m.number 0) (value_named s.globals n) v.0 s v.1 h) (λ x p. fine_use x.0 x.1 p)

  module _ (dp_there : has_name gs (codes "__dp") ≡ true) (ap_there : has_name gs (codes "__ap") ≡ true) (control_there : has_name gs (codes "__errorcontrol") ≡ true) where
    fine_port : (s : S) → Has gs ls s → Fine (Has gs ls) (port m s)
    unfolding port port_from port_with
    fine_port s h =
        fine_bind Now Now (global m (codes "__ap") s) _ (fine_global (codes "__ap") s ap_there h) (λ a p.
        fine_bind Now Now (global m (codes "__errorcontrol") a.1) _ (fine_global (codes "__errorcontrol") a.1 control_there p) (λ e q.
        fine_bind Now Now (global m (codes "__dp") e.1) _ (fine_global (codes "__dp") e.1 dp_there q) (λ d r. r)))

    fine_answered : (x : Result (V × T) (Over × T)) (s : S) → IsMetBy x → Has gs ls s → Fine (Has gs ls) (counted_answer m x s)
    unfolding counted_answer
    fine_answered (Ok x) s k h = record { globals = h.globals; locals = h.locals }
    fine_answered (Err e) s k h = k

    pub fine_ask : (u : AccessUnit) (forgive : Bool) (s : S) → Has gs ls s → Fine (Has gs ls) (ask m u forgive s)
    unfolding ask
    fine_ask u forgive s h = fine_cond Now (nat_lt s.units 1000000) _ _ (fine_answered (m.asked u forgive s.rest) s (safe.asked u forgive s.rest) h) tt

    fine_numbered : (x : Result (ℕ × T) (Over × T)) (s : S) → IsMetBy x → Has gs ls s → Fine (Has gs ls) (counted_number m x s)
    unfolding counted_number
    fine_numbered (Ok x) s k h = record { globals = h.globals; locals = h.locals }
    fine_numbered (Err e) s k h = k

    fine_command : (c : ProbeCall) (s : S) → Has gs ls s → Fine (Has gs ls) (command m c s)
    unfolding command
    fine_command c s h = fine_cond Now (nat_lt s.units 1000000) _ _ (fine_numbered (m.commanded c s.rest) s (safe.commanded c s.rest) h) tt

    fine_zero : (out : Out V T V) → Fine (Has gs ls) out → Fine (Has gs ls) (zero_of m out)
    unfolding zero_of
    fine_zero out h = fine_bind Now Now out _ h (λ x p. p)

    fine_read : (read : Bool) (out : Out V T V) → Fine (Has gs ls) out → Fine (Has gs ls) (if_read m read out)
    unfolding if_read
    fine_read true out h = h
    fine_read false out h = fine_zero out h

    fine_low : (low high : V) (s : S) → Has gs ls s → Fine (Has gs ls) (low_and_high m low high s)
    unfolding low_and_high
    fine_low low high s h =
        fine_bind Now Now (use_now m low (with_rest s (m.confirmed s.rest))) _ (fine_use low _ (record { globals = h.globals; locals = h.locals })) (λ x p.
        fine_bind Now Now (use_now m high x.1) _ (fine_use high x.1 p) (λ y q. q))

    fine_second : (read : Bool) (p : Port) (address value : ℕ) (low : V) (s : S) → Has gs ls s → Fine (Has gs ls) (second_half m read p address value low s)
    unfolding second_half
    fine_second read p address value low s h = fine_bind Now Now (ask m _ p.forgive s) _ (fine_ask _ p.forgive s h) (λ x q. fine_cond Now read _ _ (fine_low low x.0 x.1 q) q)

    fine_or_halt : {A : Type 0} (o : Result A HaltCause) (f : A → S → Out V T V) (s : S) → ((x : A) → Fine (Has gs ls) (f x s)) → Fine (Has gs ls) (or_halt o f s)
    unfolding or_halt
    fine_or_halt (Ok x) f s k = k x
    fine_or_halt (Err cause) f s k = tt

    fine_memory_at : (size : ℕ) (read : Bool) (address value : ℕ) (p : Port) (s : S) → Has gs ls s → Fine (Has gs ls) (memory_at m size read address value p s)
    unfolding memory_at two_units one_unit
    fine_memory_at size read address value p s h = fine_or_halt (memory_port size address p.ap p.dp) _ s (λ n.
        fine_cond Now (nat_eq size 8) _ _
        (fine_bind Now Now (ask m _ p.forgive s) _ (fine_ask _ p.forgive s h) (λ x q. fine_second read p address value x.0 x.1 q))
        (fine_read read _ (fine_ask _ p.forgive s h)))

    fine_memory : (size : ℕ) (read : Bool) (address value : ℕ) (s : S) → Has gs ls s → Fine (Has gs ls) (memory m size read address value s)
    unfolding memory
    fine_memory size read address value s h = fine_bind Now Now (port m s) _ (fine_port s h) (λ p q. fine_memory_at size read address value p.0 p.1 q)

    fine_ap : (read : Bool) (addr value : ℕ) (s : S) → Has gs ls s → Fine (Has gs ls) (ap_register m read addr value s)
    unfolding ap_register ap_at
    fine_ap read addr value s h = fine_bind Now Now (port m s) _ (fine_port s h) (λ p q. fine_or_halt (ap_unit read addr value p.0.ap p.0.dp) _ p.1 (λ u. fine_read read _ (fine_ask u p.0.forgive p.1 q)))

    fine_dp : (read : Bool) (addr value : ℕ) (s : S) → Has gs ls s → Fine (Has gs ls) (dp_register m read addr value s)
    unfolding dp_register dp_at
    fine_dp read addr value s h = fine_bind Now Now (global m (codes "__dp") s) _ (fine_global (codes "__dp") s dp_there h) (λ d q. fine_or_halt (dp_unit read addr value d.0) _ d.1 (λ u. fine_read read _ (fine_ask u false d.1 q)))

    fine_abort : (value : ℕ) (s : S) → Has gs ls s → Fine (Has gs ls) (abort m value s)
    unfolding abort abort_at
    fine_abort value s h = fine_bind Now Now (global m (codes "__dp") s) _ (fine_global (codes "__dp") s dp_there h) (λ d q. fine_cond Now (nat_eq d.0 0) _ _ (fine_command _ d.1 q) tt)

    fine_lined : (line : List ℕ) (n : ℕ) (s : S) → Has gs ls s → Fine (Has gs ls) (line_result m line n s)
    unfolding line_result
    fine_lined line n s h = fine_cond Now (nat_lt s.lines 100000) _ _ (record { globals = h.globals; locals = h.locals }) tt

    pub fine_performed : (function : Function) (text numbers : List ℕ) (s : S) → Has gs ls s → Fine (Has gs ls) (function_result m function text numbers s)
    unfolding function_result delay clock pins line_bits
    fine_performed f.Read8 text n s h = fine_memory 1 true _ 0 s h
    fine_performed f.Read16 text n s h = fine_memory 2 true _ 0 s h
    fine_performed f.Read32 text n s h = fine_memory 4 true _ 0 s h
    fine_performed f.Read64 text n s h = fine_memory 8 true _ 0 s h
    fine_performed f.Write8 text n s h = fine_memory 1 false _ _ s h
    fine_performed f.Write16 text n s h = fine_memory 2 false _ _ s h
    fine_performed f.Write32 text n s h = fine_memory 4 false _ _ s h
    fine_performed f.Write64 text n s h = fine_memory 8 false _ _ s h
    fine_performed f.ReadAp text n s h = fine_ap true _ 0 s h
    fine_performed f.WriteAp text n s h = fine_ap false _ _ s h
    fine_performed f.ReadDp text n s h = fine_dp true _ 0 s h
    fine_performed f.WriteDp text n s h = fine_dp false _ _ s h
    fine_performed f.DapDelay text n s h = fine_zero _ (fine_cond Now (nat_lt 60000000 (slice_index n 0)) _ _ tt (fine_command _ s h))
    fine_performed f.DapSwjClock text n s h = fine_zero _ (fine_cond Now (nat_eq (slice_index n 0) 0 || nat_lt 0xFFFFFFFF (slice_index n 0)) _ _ tt (fine_command _ s h))
    fine_performed f.DapWriteAbort text n s h = fine_zero _ (fine_abort (slice_index n 0) s h)
    fine_performed f.DapSwjPins text n s h = fine_or_halt (pins_command (slice_index n 0) (slice_index n 1) (slice_index n 2)) _ s (λ c. fine_command c s h)
    fine_performed f.DapSwjSequence text n s h = fine_zero _ (fine_cond Now (nat_eq (slice_index n 0) 0 || nat_lt 64 (slice_index n 0)) _ _ tt (fine_command _ s h))
    fine_performed f.DapJtagSequence text n s h = tt
    fine_performed f.Sequence text n s h = h
    fine_performed f.Message text n s h = fine_lined _ 0 s h
    fine_performed f.Query text n s h = fine_lined _ _ s h
    fine_performed f.QueryValue text n s h = fine_lined _ _ s h
    fine_performed f.LoadDebugInfo text n s h = fine_lined _ 0 s h
