-- Probe calls as commands, and what they leave.
use Rattle.std.proofs.Common.{◌≡◌, ℕ, zero, suc, subst, ◌+◌, ◌*◌, ◌^◌, ◌<◌, ◌≤◌, ◌&&◌, not, eqb, Bool, true, false, cond, refl, ap, sym, ◌∙◌, arith}
use Rattle.std.specs.Prelude.{bit_and, nat_le}
use Rattle.std.proofs.lemmas.Bool.Decides.{nat_tests}
use Rattle.dap_base.specs.Bits.{has_bit}
use Rattle.target_machine.proofs.AccessLaws.{attempt_keeps}
use Rattle.target_machine.proofs.ActionRanges.{acted_in_range}
use Rattle.target_machine.specs.Attempt.{Attempt, attempt, done_attempt, is_free}
use Rattle.target_machine.specs.InRange.{IsInRange}
use Rattle.target_machine.specs.Lines as lines
use Rattle.target_machine.specs.Plain.{Action, Commands, action_attempt, dp_write_of, given_number, is_fault}
use Rattle.target_machine.specs.Registers.{stkerrclr}
use Rattle.target_machine.specs.State.{TargetState}
use Rattle.target_machine.specs.declared.unit.ProbeCall.{ProbeCall}
use Rattle.target_machine.specs.declared.unit.ProbeCall.TheVariants as probe
use Rattle.dap_messages.specs.Commands.{IsCommand}
use Rattle.target_machine.specs.Packets.{delay_commands}
use Rattle.dap_transfer.specs.Lines as transfers
use Rattle.dap_transfer.specs.State.{TransferState, grown_work}
use Rattle.dap_transfer.proofs.Blocks.{grown_twice, grown_none}
use Rattle.probe_core.specs.Bench.{BenchState}
use Rattle.probe_core.specs.Commands as bench
use Rattle.probe_core.specs.Probe.{ExecutorState}
use Rattle.batch_packer.specs.Actions.{Acts, command_of, delayed_by, is_one}
use Rattle.batch_packer.specs.Commands.{number_given}
use Rattle.batch_packer.specs.Flying.{CanFly, transfers_of}

-- ---- a write of ABORT

free_goes : (b f : Bool) (x y : Attempt) → f ≡ true → cond (b && not f) x y ≡ y
free_goes true true x y e = refl
free_goes true false x y e = absurd (cc)
free_goes false f x y e = refl

abort_free : (t : TargetState) (value : ℕ) → is_free t (dp_write_of 0 value) ≡ true
unfolding is_free
abort_free t value = refl

-- the target after it
abbrev aborted : TargetState → ℕ → TargetState
aborted t value = cond (has_bit value stkerrclr) (record t { sticky = false }) t

abort_done : (t : TargetState) (value : ℕ) → attempt t (dp_write_of 0 value) ≡ done_attempt (aborted t value)
unfolding attempt
abort_done t value = free_goes t.sticky (is_free t (dp_write_of 0 value)) _ _ (abort_free t value)

either_clear : (b : Bool) (t : TargetState) → t.sticky ≡ false → (cond b (record t { sticky = false }) t).sticky ≡ false
either_clear true t e = refl
either_clear false t e = e

set_clears : (b : Bool) (t : TargetState) → b ≡ true → (cond b (record t { sticky = false }) t).sticky ≡ false
set_clears true t e = refl
set_clears false t e = absurd (cc)

-- ---- one command

one_delay : (micros : ℕ) → nat_le micros 65535 ≡ true → delay_commands micros ≡ 1
one_delay micros e = let h : micros ≤ 65535 = grind (arith, nat_tests) in omega arith

pub call_acts : (e : ExecutorState) (c : ProbeCall) → is_one c ≡ true → IsCommand (command_of c) → Acts (Commands c) e.transfers (bench.command_result e (command_of c)).next.transfers
call_acts e (probe.Delay micros) one command = record {
  passes = refl;
  target = refl;
  work = ap (λ n. grown_work e.transfers.work n) (sym (one_delay micros one));
  number = refl;
  retries = refl;
  pending = refl;
  mask = refl;
  matches = refl;
  stalls = refl;
  dpidr = refl;
  clear = λ h. h;
  in_range = λ h. (let r = acted_in_range e.transfers.line.target (Commands (probe.Delay micros)) h tt in r.next);
}
call_acts e (probe.Abort value) one command =
    let t : TargetState = e.transfers.line.target in
    let kept = attempt_keeps t (dp_write_of 0 value) in
    let is = abort_done t value in
    record {
      passes = ap (λ (x : Attempt). is_fault x.outcome) is;
      target = refl;
      work = refl;
      number = refl;
      retries = refl;
      pending = refl;
      mask = refl;
      matches = refl;
      stalls = refl;
      dpidr = kept.dpidr;
      clear = λ h. ap (λ (x : Attempt). x.next.sticky) is ∙ either_clear (has_bit value stkerrclr) t h;
      in_range = λ h. (let r = acted_in_range t (Commands (probe.Abort value)) h command in r.next);
    }
call_acts e (probe.Pins output select wait) one command = record {
  passes = refl;
  target = refl;
  work = refl;
  number = refl;
  retries = refl;
  pending = refl;
  mask = refl;
  matches = refl;
  stalls = refl;
  dpidr = refl;
  clear = λ h. h;
  in_range = λ h. (let r = acted_in_range e.transfers.line.target (Commands (probe.Pins output select wait)) h tt in r.next);
}
call_acts e (probe.Clock hertz) one command = record {
  passes = refl;
  target = refl;
  work = refl;
  number = refl;
  retries = refl;
  pending = refl;
  mask = refl;
  matches = refl;
  stalls = refl;
  dpidr = refl;
  clear = λ h. h;
  in_range = λ h. (let r = acted_in_range e.transfers.line.target (Commands (probe.Clock hertz)) h command.1 in r.next);
}
call_acts e (probe.Line count bits) one command = record {
  passes = refl;
  target = refl;
  work = refl;
  number = refl;
  retries = refl;
  pending = refl;
  mask = refl;
  matches = refl;
  stalls = refl;
  dpidr = refl;
  clear = λ h. h;
  in_range = λ h. (let r = acted_in_range e.transfers.line.target (Commands (probe.Line count bits)) h command.1 in r.next);
}

-- it leaves the settings
pub call_sets_nothing : (e : ExecutorState) (c : ProbeCall) → (bench.command_result e (command_of c)).next.transfers.setting ≡ e.transfers.setting
call_sets_nothing e (probe.Abort value) = refl
call_sets_nothing e other = refl

pub call_gives : (e : ExecutorState) (c : ProbeCall) → number_given e (command_of c) ≡ given_number (action_attempt e.transfers.line.target (Commands c)).outcome
call_gives e (probe.Abort value) = sym (ap (λ (x : Attempt). given_number x.outcome) (abort_done e.transfers.line.target value))
call_gives e other = refl

-- ---- what may follow

pub flies_after : (x : Action) (m n : BenchState) → CanFly m → Acts x (transfers_of m) (transfers_of n) → CanFly n
flies_after x m n can acts =
    let guard = can.guard in
    record {
      guard = record {
        mask = acts.mask ∙ guard.mask;
        matches = acts.matches ∙ guard.matches;
        dpidr = ap (λ (d : ℕ). eqb (bit_and d 1) 0) acts.dpidr ∙ guard.dpidr;
        clear = acts.clear guard.clear;
      };
      in_range = acts.in_range can.in_range;
    }

-- after a write of ABORT that clears STICKYERR
pub abort_clears : (value : ℕ) (p q : TransferState) → has_bit value stkerrclr ≡ true → Acts (Commands (probe.Abort value)) p q → q.line.target.sticky ≡ false
abort_clears value p q set acts =
    ap (λ (t : TargetState). t.sticky) acts.target ∙ ap (λ (x : Attempt). x.next.sticky) (abort_done p.line.target value) ∙ set_clears (has_bit value stkerrclr) p.line.target set

-- ---- a delay of several commands

later_both : (d a b : ℕ) → lines.grown_counter (lines.grown_counter d a) b ≡ lines.grown_counter d (a + b)
later_both d a b = omega arith

-- the transfers after a delay
abbrev pub waited : TransferState → ℕ → ℕ → TransferState
waited p micros work = record p { line = record p.line { target = lines.delayed_target p.line.target micros }; work = work }

waits_on : (p : TransferState) (count micros all : ℕ) → 65535 * count + micros ≡ all → transfers.state_after_delay (delayed_by p count) micros ≡ waited p all (grown_work p.work (count + 1))
waits_on p count micros all e =
    λ i. waited_at p ((later_both p.line.target.lines.delay (65535 * count) micros ∙ ap (lines.grown_counter p.line.target.lines.delay) e) i) (grown_twice p.work count 1 i)
  where
    waited_at : TransferState → ℕ → ℕ → TransferState
    waited_at r delay work = record r { line = record r.line { target = record r.line.target { lines = record r.line.target.lines { delay = delay } } }; work = work }

pub none_delayed : (p : TransferState) → IsInRange p.line.target → delayed_by p 0 ≡ p
none_delayed p h =
    let l = h.lines in
    let d = l.delay in
    λ i. waited_at p (same p.line.target.lines.delay d i) (grown_none p.work i)
  where
    same : (n : ℕ) → n < 2 ^ 64 → lines.grown_counter n (65535 * 0) ≡ n
    same n lt = omega arith

    waited_at : TransferState → ℕ → ℕ → TransferState
    waited_at r delay work = record r { line = record r.line { target = record r.line.target { lines = record r.line.target.lines { delay = delay } } }; work = work }

pub next_delayed : (p : TransferState) (count : ℕ) → transfers.state_after_delay (delayed_by p count) 65535 ≡ delayed_by p (count + 1)
next_delayed p count = waits_on p count 65535 (65535 * (count + 1)) (omega arith)

pub many_commands : (count rest : ℕ) → rest ≤ 65535 → (0 < count → 0 < rest) → delay_commands (65535 * count + rest) ≡ count + 1
many_commands zero rest few some = omega arith
many_commands (suc count) rest few some = let h = some (omega arith) in omega arith

pub last_delayed : (p : TransferState) (count rest : ℕ) → rest ≤ 65535 → (0 < count → 0 < rest) → Acts (Commands (probe.Delay (65535 * count + rest))) p (transfers.state_after_delay (delayed_by p count) rest)
last_delayed p count rest few some =
    let is = waits_on p count rest (65535 * count + rest) refl in
    record {
      passes = refl;
      target = ap (λ (q : TransferState). q.line.target) is;
      work = ap (λ (q : TransferState). q.work) is ∙ ap (λ n. grown_work p.work n) (sym (many_commands count rest few some));
      number = refl;
      retries = refl;
      pending = refl;
      mask = refl;
      matches = refl;
      stalls = refl;
      dpidr = refl;
      clear = λ h. h;
      in_range = λ h. subst (λ (t : TargetState). IsInRange t) (sym (ap (λ (q : TransferState). q.line.target) is))
          (let r = acted_in_range p.line.target (Commands (probe.Delay (65535 * count + rest))) h tt in r.next);
    }
