-- Actions that write values of 32 bits give values of 32 bits, and leave targets in range.
use Rattle.std.proofs.Common.{ℕ, zero, suc, ◌+◌, Bool, true, false, cond, eqb, List, [], ◌∷◌, arith, bit_and, fold}
use Rattle.std.specs.List.{AllByRecursion}
use Rattle.target_machine.proofs.AccessRanges.{attempt_in_range, either}
use Rattle.target_machine.proofs.StartRanges.{pins_in_range, line_in_range, clock_in_range, delay_in_range}
use Rattle.target_machine.specs.Attempt.{Attempt, attempt, done_attempt}
use Rattle.target_machine.specs.InRange.{IsWord, IsInRange, IsAttemptInRange, IsCommandInRange, IsActionInRange, IsProbeInRange}
use Rattle.target_machine.specs.Lines.{pins_set}
use Rattle.target_machine.specs.Lists.{after}
use Rattle.target_machine.specs.Plain.{Action, Makes, Polls, Commands, Polled, poll_result, poll_read, dp_read_of, dp_write_of, command_attempt, action_attempt, then_acted, in_order, is_fault, given_number}
use Rattle.target_machine.specs.Registers.{abort_address, ctrl_stat_address}
use Rattle.target_machine.specs.Sound.{IsSoundProbe}
use Rattle.target_machine.specs.State.{TargetState}
use Rattle.target_machine.specs.declared.access.Outcome.{Outcome}
use Rattle.target_machine.specs.declared.access.Outcome.TheVariants.{Value, Done, Fault}
use Rattle.target_machine.specs.declared.unit.ProbeCall.{ProbeCall}
use Rattle.target_machine.specs.declared.unit.ProbeCall.TheVariants as probe

record IsPollInRange (p : Polled) : Type 0 where
  value : IsWord (given_number p.outcome)
  next : IsInRange p.next

poll_either : (b : Bool) (p q : Polled) → IsPollInRange p → IsPollInRange q → IsPollInRange (cond b p q)
poll_either true p q h k = h
poll_either false p q h k = k

looked_in_range : (o : Outcome) (u : TargetState) (mask requested : ℕ) (p : Polled) → IsInRange u → IsPollInRange p → IsPollInRange (poll_read o u mask requested p)
looked_in_range (Value n) u mask requested p h k =
    poll_either (eqb (bit_and n mask) requested) (record { outcome = Value 1; reads = 1; next = u }) (record p { reads = p.reads + 1 })
    (record { value = omega arith; next = h }) (record { value = k.value; next = k.next })
looked_in_range Done u mask requested p h k = record { value = k.value; next = k.next }
looked_in_range Fault u mask requested p h k = record { value = omega arith; next = h }

poll_in_range : (turns mask requested : ℕ) (t : TargetState) → IsInRange t → IsPollInRange (poll_result turns mask requested t)
unfolding poll_result
poll_in_range zero mask requested t h = record { value = omega arith; next = h }
poll_in_range (suc turns) mask requested t h =
    let x : Attempt = attempt t (dp_read_of ctrl_stat_address) in
    let first : IsAttemptInRange x = attempt_in_range t h (dp_read_of ctrl_stat_address) (omega arith) in
    looked_in_range x.outcome x.next mask requested (poll_result turns mask requested x.next) first.next (poll_in_range turns mask requested x.next first.next)

pins_given : (t : TargetState) (output select : ℕ) → IsInRange (pins_set t output select) → IsWord (pins_set t output select).lines.pins
pins_given t output select h = let l = h.lines in let p = l.pins in omega arith

commanded_in_range : (t : TargetState) (c : ProbeCall) → IsInRange t → IsCommandInRange c → IsAttemptInRange (command_attempt t c)
commanded_in_range t (probe.Delay micros) h v = record { value = omega arith; next = delay_in_range t h micros }
commanded_in_range t (probe.Abort value) h v = attempt_in_range t h (dp_write_of abort_address value) v
commanded_in_range t (probe.Pins output select wait) h v =
    let next : IsInRange (pins_set t output select) = pins_in_range t h output select in
    record { value = pins_given t output select next; next = next }
commanded_in_range t (probe.Clock hertz) h v = record { value = omega arith; next = clock_in_range t h hertz v }
commanded_in_range t (probe.Line count bits) h v = record { value = omega arith; next = line_in_range t h count bits v }

-- a command that may be asked writes what fits
pub sound_in_range : (c : ProbeCall) → IsSoundProbe c → IsProbeInRange c → IsCommandInRange c
sound_in_range (probe.Abort value) sound range = range
sound_in_range (probe.Clock hertz) sound range = range
sound_in_range (probe.Line count bits) sound range = sound.1
sound_in_range other sound range = tt

-- one action
pub acted_in_range : (t : TargetState) (x : Action) → IsInRange t → IsActionInRange x → IsAttemptInRange (action_attempt t x)
acted_in_range t (Makes a) h v = attempt_in_range t h a v
acted_in_range t (Polls mask requested turns) h v = let p = poll_in_range turns mask requested t h in record { value = p.value; next = p.next }
acted_in_range t (Commands c) h v = commanded_in_range t c h v

order_in_range : (xs : List Action) (m : Attempt) → IsAttemptInRange m → AllByRecursion IsActionInRange xs → IsAttemptInRange (fold then_acted m xs)
order_in_range [] m h v = h
order_in_range (x ∷ xs) m h v =
    order_in_range xs (then_acted m x) (either (is_fault m.outcome) m (action_attempt m.next x) h (acted_in_range m.next x h.next v.0)) v.1

-- actions in order
pub in_order_in_range : (xs : List Action) (t : TargetState) → IsInRange t → AllByRecursion IsActionInRange xs → IsAttemptInRange (in_order t xs)
in_order_in_range xs t h v = order_in_range xs (done_attempt t) (record { value = omega arith; next = h }) v

-- actions that are made whatever the ones before them answered
pub after_in_range : (xs : List Action) (t : TargetState) → IsInRange t → AllByRecursion IsActionInRange xs → IsInRange (after t xs)
after_in_range [] t h v = h
after_in_range (x ∷ xs) t h v = let k = acted_in_range t x h v.0 in after_in_range xs (action_attempt t x).next k.next v.1
