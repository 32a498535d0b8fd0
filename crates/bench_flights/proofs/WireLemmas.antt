-- What a flight, a poll and a command over a bench leave, by what the layer below says of them.
use Rattle.std.proofs.Common.{◌≡◌, inl, inr, ◌∙◌, ℕ, true, Option, Some, None, Ok, Err, Result, IfOk, IfErr, refl, sym, ap, subst}
use Rattle.target_machine.specs.InRange.{IsInRange}
use Rattle.target_machine.specs.Plain.{Commands}
use Rattle.target_machine.specs.declared.unit.ProbeCall.{ProbeCall}
use Rattle.target_machine.specs.declared.unit.ProbeCall.TheVariants as probe
use Rattle.dap_messages.specs.Commands.{IsCommand}
use Rattle.dap_messages.specs.declared.command_value.CommandValue.{CommandValue}
use Rattle.probe_core.specs.Bench.{BenchState, StepsTo}
use Rattle.probe_core.specs.Probe.{ExecutorState, target_of}
use Rattle.probe_core.specs.Commands.{command_result}
use Rattle.batch_packer.specs.Actions.{Acts, command_of, is_one}
use Rattle.batch_packer.specs.Commands.{DoneBy, HasDone, is_single}
use Rattle.batch_packer.specs.Flying.{transfers_of}
use Rattle.batch_packer.specs.declared.ends.FlightEnd.{FlightEnd}
use Rattle.batch_packer.specs.declared.ends.FlightEnd.TheVariants as ends
use Rattle.batch_packer.proofs.CallLemmas.{call_acts, call_gives, call_sets_nothing}
use Rattle.bench_flights.specs.Wires.{HasMadeAction, MadeOrNot, WasMade}

-- what is so of each step is so where the bench is observable
pub steps_map : (P Q : BenchState → BenchState → Type 0) → ((m o : BenchState) → P m o → Q m o) → (x y : Option BenchState) → StepsTo P x y → StepsTo Q x y
steps_map P Q f None None h = h
steps_map P Q f None (Some o) h = h
steps_map P Q f (Some m) None h = h
steps_map P Q f (Some m) (Some o) h = f m o h

-- two steps, one after the other
pub steps_join : (P Q R : BenchState → BenchState → Type 0) → ((m k o : BenchState) → P m k → Q k o → R m o) → (x y z : Option BenchState) → StepsTo P x y → StepsTo Q y z → StepsTo R x z
steps_join P Q R f None None None h k = k
steps_join P Q R f None None (Some o) h k = k
steps_join P Q R f None (Some n) z h k = absurd h
steps_join P Q R f (Some m) None z h k = absurd h
steps_join P Q R f (Some m) (Some n) None h k = k
steps_join P Q R f (Some m) (Some n) (Some o) h k = f m n o h k

-- ---- one command

-- no command of a call sets the idle cycles
call_keeps_idle : (e : ExecutorState) (call : ProbeCall) → (command_result e (command_of call)).next.idle ≡ e.idle
call_keeps_idle e (probe.Abort value) = refl
call_keeps_idle e other = refl

acts_by : (call : ProbeCall) (m o : BenchState) → is_one call ≡ true → IsCommand (command_of call) → o.probe.executor ≡ (command_result m.probe.executor (command_of call)).next → Acts (Commands call) (transfers_of m) (transfers_of o)
acts_by call m o one command same =
    subst (λ (e : ExecutorState). Acts (Commands call) (transfers_of m) e.transfers) (sym same) (call_acts m.probe.executor call one command)

was_made : (call : ProbeCall) (m o : BenchState) → is_one call ≡ true → IsCommand (command_of call) → o.probe.executor ≡ (command_result m.probe.executor (command_of call)).next → WasMade (Commands call) m o
was_made call m o one command same = record {
  acts = acts_by call m o one command same;
  setting = ap (λ (e : ExecutorState). e.transfers.setting) same ∙ call_sets_nothing m.probe.executor call;
  idle_cycles = ap (λ (e : ExecutorState). e.idle) same ∙ call_keeps_idle m.probe.executor call;
}

made_by : (call : ProbeCall) (word : ℕ) (m o : BenchState) → is_one call ≡ true → IsCommand (command_of call) → HasDone (command_of call) word m o → HasMadeAction (Commands call) word m o
made_by call word m o one command h = (let made = was_made call m o one command h.executor in record { acts = made.acts; setting = made.setting; idle_cycles = made.idle_cycles; word_is = h.number_is ∙ call_gives m.probe.executor call })

left_by : (call : ProbeCall) (end : FlightEnd) (m o : BenchState) → is_one call ≡ true → IsCommand (command_of call) → DoneBy (command_of call) (Err end) m o → MadeOrNot (Commands call) end m o
left_by call ends.BenchFault m o one command (inl same) = inr same
left_by call ends.BenchFault m o one command (inr made) = inl (was_made call m o one command made)
left_by call ends.ReplyBad m o one command h = absurd h
left_by call (ends.Cut cut) m o one command h = absurd h

pub single_made : (x y : Option BenchState) (call : ProbeCall) (c : CommandValue) (result : Result ℕ FlightEnd) → c ≡ command_of call → is_one call ≡ true → IsCommand (command_of call) →
    StepsTo (λ m n. IsInRange (target_of m.probe) → DoneBy c result m n) x y → IfOk result (λ word. StepsTo (λ m o. IsInRange (target_of m.probe) → HasMadeAction (Commands call) word m o) x y)
single_made x y call c (Ok word) same one command h =
    steps_map _ _ (λ m o f in_range. made_by call word m o one command (subst (λ (k : CommandValue). DoneBy k (Ok word) m o) same (f in_range))) x y h
single_made x y call c (Err end) same one command h = tt

pub single_left : (x y : Option BenchState) (call : ProbeCall) (c : CommandValue) (result : Result ℕ FlightEnd) → c ≡ command_of call → is_one call ≡ true → IsCommand (command_of call) →
    StepsTo (λ m n. IsInRange (target_of m.probe) → DoneBy c result m n) x y → IfErr result (λ end. StepsTo (λ m o. IsInRange (target_of m.probe) → MadeOrNot (Commands call) end m o) x y)
single_left x y call c (Ok word) same one command h = tt
single_left x y call c (Err end) same one command h =
    steps_map _ _ (λ m o f in_range. left_by call end m o one command (subst (λ (k : CommandValue). DoneBy k (Err end) m o) same (f in_range))) x y h

-- its command is no Transfer and no block
pub one_single : (call : ProbeCall) → is_single (command_of call) ≡ true
one_single (probe.Abort value) = refl
one_single other = refl
