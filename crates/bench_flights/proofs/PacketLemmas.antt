-- How many starting packets polls and commands are over a bench.
use Rattle.std.proofs.Common.{◌≡◌, ℕ, ◌+◌, ◌-◌, ◌*◌, ◌/◌, ◌≤◌, Bool, List, Option, Some, None, Result, Ok, Err, OnOk, sym, subst, arith}
use Rattle.target_machine.specs.Attempt.{bank}
use Rattle.target_machine.specs.InRange.{IsInRange}
use Rattle.target_machine.specs.declared.access.RegAccess.{RegAccess}
use Rattle.target_machine.specs.declared.unit.ProbeCall.{ProbeCall}
use Rattle.target_machine.specs.declared.unit.ProbeCall.TheVariants as probe
use Rattle.dap_messages.specs.declared.command_value.CommandValue.{CommandValue}
use Rattle.probe_core.specs.Bench.{BenchState, StepsTo}
use Rattle.probe_core.specs.Probe.{target_of}
use Rattle.probe_core.specs.declared.job.Limits.{Limits}
use Rattle.access_regs.specs.Costs.{command_cost}
use Rattle.flight_forms.specs.declared.form.Form.{Form}
use Rattle.batch_packer.specs.Commands.{DoneBy}
use Rattle.batch_packer.specs.FlightStates.{SentBy, sent_form}
use Rattle.batch_packer.specs.Flying.{CanFly}
use Rattle.batch_packer.specs.Polling.{PolledBy}
use Rattle.batch_packer.specs.declared.ends.FlightEnd.{FlightEnd}
use Rattle.probe_core.specs.declared.job.Config.{Config}
use Rattle.batch_packer.specs.declared.poll.PollAsk.{PollAsk}
use Rattle.bench_flights.specs.Flown.{CanMatch, SendsFew}
use Rattle.bench_flights.specs.Wires.{HasDelayed, HasLooked}
use Rattle.bench_flights.proofs.LookLemmas.{bank_kept}
use Rattle.bench_flights.proofs.SendLemmas.{counted_few}
use Rattle.bench_flights.proofs.WireLemmas.{steps_map}

-- ---- one after the other

pub none_sent : (m : BenchState) → SendsFew 0 m m
none_sent m = record { few = omega arith; counts = λ few. few }

pub few_joined : (a b : ℕ) (m k o : BenchState) → SendsFew a m k → SendsFew b k o → SendsFew (a + b) m o
few_joined a b m k o h d = record { few = (let f = h.few in let e = d.few in omega (arith, f, e)); counts = λ few. d.counts (h.counts few) }

pub few_most : (a b : ℕ) (m o : BenchState) → a ≤ b → SendsFew a m o → SendsFew b m o
few_most a b m o le h = record { few = (let f = h.few in omega (arith, f, le)); counts = h.counts }

-- after steps that lead to where the next may begin
pub few_then : (P : BenchState → Type 0) (R : BenchState → BenchState → Type 0) → ((m k : BenchState) → R m k → P m → P k) → (x y z : Option BenchState) (a b : ℕ) → StepsTo R x y → StepsTo (λ m o. P m → SendsFew a m o) x y →
    StepsTo (λ m o. P m → SendsFew b m o) y z → StepsTo (λ m o. P m → SendsFew (a + b) m o) x z
few_then P R leads None None None a b r h d = d
few_then P R leads None None (Some o) a b r h d = d
few_then P R leads None (Some k) z a b r h d = absurd r
few_then P R leads (Some m) None z a b r h d = absurd r
few_then P R leads (Some m) (Some k) None a b r h d = d
few_then P R leads (Some m) (Some k) (Some o) a b r h d = λ p. few_joined a b m k o (h p) (d (leads m k r p))

pub few_begins : (P : BenchState → Type 0) (x : Option BenchState) → StepsTo (λ m o. P m → SendsFew 0 m o) x x
few_begins P None = tt
few_begins P (Some m) = λ p. none_sent m

-- ---- one command

done_few : (c : CommandValue) (word : ℕ) (m o : BenchState) → DoneBy c (Ok word) m o → SendsFew 1 m o
done_few c word m o h = counted_few m o h.starting

pub single_few : (x y : Option BenchState) (c : CommandValue) (result : Result ℕ FlightEnd) → StepsTo (λ m n. IsInRange (target_of m.probe) → DoneBy c result m n) x y → OnOk result (StepsTo (λ m o. IsInRange (target_of m.probe) → SendsFew 1 m o) x y)
single_few x y c (Err end) h = tt
single_few x y c (Ok word) h = steps_map _ _ (λ m o f in_range. done_few c word m o (f in_range)) x y h

-- ---- a delay

pub delay_few : (x y z : Option BenchState) (count : ℕ) → StepsTo (λ m o. IsInRange (target_of m.probe) → HasDelayed count m o) x y → StepsTo (λ m o. IsInRange (target_of m.probe) → SendsFew count m o) x y →
    StepsTo (λ m o. IsInRange (target_of m.probe) → SendsFew 1 m o) y z → StepsTo (λ m o. IsInRange (target_of m.probe) → SendsFew (count + 1) m o) x z
delay_few x y z count h s d =
    few_then (λ m. IsInRange (target_of m.probe)) (λ m o. IsInRange (target_of m.probe) → HasDelayed count m o) (λ m k f in_range. (f in_range).in_range) x y z count 1 h s d

pub delays_few : (x y z : Option BenchState) (count rest micros : ℕ) (result : Result ℕ FlightEnd) → rest ≤ 65535 → 65535 * count + rest ≡ micros → StepsTo (λ m o. IsInRange (target_of m.probe) → HasDelayed count m o) x y →
    StepsTo (λ m o. IsInRange (target_of m.probe) → SendsFew count m o) x y → OnOk result (StepsTo (λ m o. IsInRange (target_of m.probe) → SendsFew 1 m o) y z) → OnOk result (StepsTo (λ m o. IsInRange (target_of m.probe) → SendsFew (1 + micros / 65535) m o) x z)
delays_few x y z count rest micros (Err end) few is h s d = tt
delays_few x y z count rest micros (Ok word) few is h s d =
    let most : count + 1 ≤ 1 + micros / 65535 = omega (arith, few, is) in
    steps_map _ _ (λ m o f in_range. few_most (count + 1) (1 + micros / 65535) m o most (f in_range)) x z (delay_few x y z count h s d)

-- ---- a call

pub call_delay_few : (x y : Option BenchState) (call : ProbeCall) (micros : ℕ) (result : Result ℕ FlightEnd) → call ≡ probe.Delay micros → OnOk result (StepsTo (λ m o. IsInRange (target_of m.probe) → SendsFew (1 + micros / 65535) m o) x y) →
    OnOk result (StepsTo (λ m o. IsInRange (target_of m.probe) → SendsFew (command_cost call - 1) m o) x y)
call_delay_few x y call micros (Err end) is h = tt
call_delay_few x y call micros (Ok word) is h =
    let cost : 1 + micros / 65535 ≡ command_cost call - 1 = subst (λ (k : ProbeCall). 1 + micros / 65535 ≡ command_cost k - 1) (sym is) (omega arith) in
    steps_map _ _ (λ m o f in_range. few_most (1 + micros / 65535) (command_cost call - 1) m o (omega (arith, cost)) (f in_range)) x y h

cost_two : (call : ProbeCall) → 1 ≤ command_cost call - 1
cost_two (probe.Delay micros) = omega arith
cost_two other = omega arith

pub call_few : (x y : Option BenchState) (call : ProbeCall) (result : Result ℕ FlightEnd) → OnOk result (StepsTo (λ m o. IsInRange (target_of m.probe) → SendsFew 1 m o) x y) →
    OnOk result (StepsTo (λ m o. IsInRange (target_of m.probe) → SendsFew (command_cost call - 1) m o) x y)
call_few x y call (Err end) h = tt
call_few x y call (Ok word) h = steps_map _ _ (λ m o f in_range. few_most 1 (command_cost call - 1) m o (cost_two call) (f in_range)) x y h

-- ---- polls

polled_one : (config : Config) (ask : PollAsk) (matched : Bool) (m o : BenchState) → PolledBy config ask (Ok matched) m o → SendsFew 1 m o
polled_one config ask matched m o h = let s = h.acted.starting in record { few = omega (arith, s); counts = λ few. omega (arith, s) }

pub portion_few : (x y : Option BenchState) (config : Config) (ask : PollAsk) (result : Result Bool FlightEnd) → StepsTo (λ m o. CanFly m → bank (target_of m.probe) ≡ 0 → PolledBy config ask result m o) x y →
    OnOk result (StepsTo (λ m o. CanFly m → CanMatch config.idle config.retry m → SendsFew 1 m o) x y)
portion_few x y config ask (Err end) h = tt
portion_few x y config ask (Ok matched) h = steps_map _ _ (λ m o f flies can. polled_one config ask matched m o (f flies can.bank_zero)) x y h

abbrev CanPoll : ℕ → ℕ → BenchState → Type 0
CanPoll idle retry m = CanFly m × CanMatch idle retry m

pub portions_next : (x y z : Option BenchState) (idle retry mask requested made count : ℕ) → StepsTo (λ m o. CanFly m → CanMatch idle retry m → HasLooked mask requested made 0 m o) x y →
    StepsTo (λ m o. CanFly m → CanMatch idle retry m → SendsFew count m o) x y → StepsTo (λ m o. CanFly m → CanMatch idle retry m → SendsFew 1 m o) y z → StepsTo (λ m o. CanFly m → CanMatch idle retry m → SendsFew (count + 1) m o) x z
portions_next x y z idle retry mask requested made count h s d =
    steps_map _ _ (λ m o f flies can. f (flies, can)) x z
    (few_then (λ m. CanPoll idle retry m) (λ m o. CanFly m → CanMatch idle retry m → HasLooked mask requested made 0 m o)
    (λ m k f p. let l = f p.0 p.1 in (l.flies, bank_kept idle retry mask requested made 0 m k l p.1)) x y z count 1 h
    (steps_map _ _ (λ m o f p. f p.0 p.1) x y s) (steps_map _ _ (λ m o f p. f p.0 p.1) y z d))

pub portions_begin : (idle retry : ℕ) (x : Option BenchState) → StepsTo (λ m o. CanFly m → CanMatch idle retry m → SendsFew 0 m o) x x
portions_begin idle retry None = tt
portions_begin idle retry (Some m) = λ flies can. none_sent m

pub portions_most : (idle retry : ℕ) (x y : Option BenchState) (a b : ℕ) → a ≤ b → StepsTo (λ m o. CanFly m → CanMatch idle retry m → SendsFew a m o) x y → StepsTo (λ m o. CanFly m → CanMatch idle retry m → SendsFew b m o) x y
portions_most idle retry x y a b le h = steps_map _ _ (λ m o f flies can. few_most a b m o le (f flies can)) x y h

-- ---- reads

whole_few : (form : Option Form) (accesses : List RegAccess) (values : List (Option ℕ)) (m o : BenchState) → SentBy form accesses None values m o → SendsFew 1 m o
whole_few None accesses values m o h = subst (λ (n : BenchState). SendsFew 1 m n) (sym h.0) (few_most 0 1 m m (omega arith) (none_sent m))
whole_few (Some form) accesses values m o h = counted_few m o h.starting

pub look_few : (x y : Option BenchState) (limits : Limits) (accesses : List RegAccess) (e : Option FlightEnd) (values : List (Option ℕ)) → e ≡ None → StepsTo (λ m n. CanFly m → SentBy (sent_form limits accesses) accesses e values m n) x y → StepsTo (λ m o. CanFly m → SendsFew 1 m o) x y
look_few x y limits accesses e values is h =
    steps_map _ _ (λ m o f flies. whole_few (sent_form limits accesses) accesses values m o (subst (λ (k : Option FlightEnd). SentBy (sent_form limits accesses) accesses k values m o) is (f flies))) x y h

pub reads_next : (x y z : Option BenchState) (mask requested made : ℕ) → StepsTo (λ m o. CanFly m → HasLooked mask requested made 0 m o) x y → StepsTo (λ m o. CanFly m → SendsFew made m o) x y → StepsTo (λ m o. CanFly m → SendsFew 1 m o) y z →
    StepsTo (λ m o. CanFly m → SendsFew (made + 1) m o) x z
reads_next x y z mask requested made h s d = few_then (λ m. CanFly m) (λ m o. CanFly m → HasLooked mask requested made 0 m o) (λ m k f flies. (f flies).flies) x y z made 1 h s d
