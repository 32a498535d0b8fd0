-- Several packets or flights in a row over a bench: what goes on, and the parts of a delay.
use Rattle.std.proofs.Common.{◌≡◌, ◌⊎◌, inl, inr, ◌∙◌, ℕ, zero, suc, ◌+◌, ◌*◌, ◌<◌, ◌≤◌, true, false, Option, Some, None, Result, Ok, Err, IfOk, IfErr, refl, sym, ap, subst, arith}
use Rattle.std.specs.Prelude.{bit_and, ◌==◌}
use Rattle.target_machine.specs.InRange.{IsInRange}
use Rattle.target_machine.specs.Lines.{delayed_target}
use Rattle.target_machine.specs.Plain.{Action, Commands, Makes, Polls}
use Rattle.target_machine.specs.State.{TargetState}
use Rattle.target_machine.specs.declared.unit.ProbeCall.{ProbeCall}
use Rattle.target_machine.specs.declared.unit.ProbeCall.TheVariants as probe
use Rattle.target_machine.specs.Packets.{commands_for, delay_commands}
use Rattle.target_calls.specs.Weights.{commands_of, weight}
use Rattle.dap_transfer.specs.State.{Setting, TransferState}
use Rattle.probe_core.specs.Bench.{BenchState, StepsTo}
use Rattle.probe_core.specs.Bench.{Reported as BenchReported}
use Rattle.probe_core.specs.Probe.{ExecutorState, target_of}
use Rattle.batch_packer.specs.Actions.{Acts, is_one}
use Rattle.batch_packer.specs.Flying.{CanFly, transfers_of}
use Rattle.batch_packer.specs.declared.ends.FlightEnd.{FlightEnd}
use Rattle.batch_packer.specs.declared.ends.FlightEnd.TheVariants as ends
use Rattle.batch_packer.proofs.CallLemmas.{abort_clears, flies_after, last_delayed, next_delayed, none_delayed, many_commands}
use Rattle.probe_core.proofs.StateSteps.{runs_self, runs_then}
use Rattle.bench_flights.specs.Flown.{BenchGoesOn, CanCommand, DidLess, HasDoneWhole, IsCutResponse, LeftActionOff, MayClear, NamesNoAccess}
use Rattle.bench_flights.specs.Wires.{HasDelayed, HasMadeAction, IsNoCut, MadeOrNot, WasMade}
use Rattle.bench_flights.proofs.WireLemmas.{steps_join, steps_map}

-- ---- one after the other

pub goes_self : (a : BenchReported) (x : Option BenchState) → BenchGoesOn a a x x
goes_self a x = record { limits = refl; faults = omega arith; exchanges = omega arith; runs = runs_self x }

pub goes_then : (a b c : BenchReported) (x y z : Option BenchState) → BenchGoesOn a b x y → BenchGoesOn b c y z → BenchGoesOn a c x z
goes_then a b c x y z h k = record {
  limits = k.limits ∙ h.limits;
  faults = (let f = h.faults in let e = k.faults in omega (arith, f, e));
  exchanges = (let f = h.exchanges in let e = k.exchanges in omega (arith, f, e));
  runs = runs_then x y z h.runs k.runs;
}

-- ---- what was made is what an action does

numbers_made : (x : Action) (t : TargetState) (n m : ℕ) → n ≡ m → n + 2 * commands_of x ≤ m + 2 * weight t x
numbers_made (Makes a) t n m same = omega (arith, same)
numbers_made (Polls mask requested turns) t n m same = omega (arith, same)
numbers_made (Commands c) t n m same = omega (arith, same)

pub made_done : (x : Action) (word : ℕ) (m o : BenchState) → CanFly m → HasMadeAction x word m o → HasDoneWhole x word m o
made_done x word m o flies h = record {
  does = λ counts. record {
    target = h.acts.target;
    clear = h.acts.clear flies.guard.clear;
    work = (let w = h.acts.work in omega (arith, w, counts));
    retries = h.acts.retries;
    setting = h.setting;
    idle_cycles = h.idle_cycles;
    number = numbers_made x (target_of m.probe) _ _ h.acts.number;
  };
  good = h.acts.passes;
  word_is = h.word_is;
  next = flies_after x m o flies h.acts;
}

-- ---- a delay

delays_add : (p : TransferState) (count rest : ℕ) → rest ≤ 65535 → (0 < count → 0 < rest) → delayed_target (delayed_target p.line.target (65535 * count)) rest ≡ delayed_target p.line.target (65535 * count + rest)
delays_add p count rest few some = (last_delayed p count rest few some).target

delays_next : (p : TransferState) (count : ℕ) → delayed_target (delayed_target p.line.target (65535 * count)) 65535 ≡ delayed_target p.line.target (65535 * (count + 1))
delays_next p count = ap (λ (q : TransferState). q.line.target) (next_delayed p count)

pub delay_begins : (x : Option BenchState) → StepsTo (λ m o. IsInRange (target_of m.probe) → HasDelayed 0 m o) x x
delay_begins None = tt
delay_begins (Some m) = λ in_range. record {
  target = sym (ap (λ (q : TransferState). q.line.target) (none_delayed (transfers_of m) in_range));
  work = omega arith;
  number = refl;
  retries = refl;
  pending = refl;
  mask = refl;
  setting = refl;
  idle_cycles = refl;
  in_range = in_range;
}

one_more : (count word : ℕ) (m k o : BenchState) → (IsInRange (target_of m.probe) → HasDelayed count m k) → (IsInRange (target_of k.probe) → HasMadeAction (Commands (probe.Delay 65535)) word k o) →
    IsInRange (target_of m.probe) → HasDelayed (count + 1) m o
one_more count word m k o h d in_range =
    let a = h in_range in
    let made = d a.in_range in
    let b = made.acts in
    record {
      target = b.target ∙ ap (λ (t : TargetState). delayed_target t 65535) a.target ∙ delays_next (transfers_of m) count;
      work = (let w = a.work in let v = b.work in omega (arith, w, v));
      number = b.number ∙ a.number;
      retries = b.retries ∙ a.retries;
      pending = b.pending ∙ a.pending;
      mask = b.mask ∙ a.mask;
      setting = made.setting ∙ a.setting;
      idle_cycles = made.idle_cycles ∙ a.idle_cycles;
      in_range = b.in_range a.in_range;
    }

pub delay_next : (x y z : Option BenchState) (count word : ℕ) → StepsTo (λ m o. IsInRange (target_of m.probe) → HasDelayed count m o) x y →
    StepsTo (λ m o. IsInRange (target_of m.probe) → HasMadeAction (Commands (probe.Delay 65535)) word m o) y z → StepsTo (λ m o. IsInRange (target_of m.probe) → HasDelayed (count + 1) m o) x z
delay_next x y z count word h d = steps_join _ _ _ (one_more count word) x y z h d

delay_one : (rest : ℕ) → rest ≤ 65535 → delay_commands rest ≡ 1
delay_one rest few = omega (arith, few)

whole_acts : (count rest : ℕ) (m k o : BenchState) → rest ≤ 65535 → (0 < count → 0 < rest) → HasDelayed count m k → Acts (Commands (probe.Delay rest)) (transfers_of k) (transfers_of o) →
    IsInRange (target_of m.probe) → Acts (Commands (probe.Delay (65535 * count + rest))) (transfers_of m) (transfers_of o)
whole_acts count rest m k o few some a b in_range = record {
  passes = refl;
  target = b.target ∙ ap (λ (t : TargetState). delayed_target t rest) a.target ∙ delays_add (transfers_of m) count rest few some;
  work = (let w = a.work in let v = b.work in let one : delay_commands rest ≡ 1 = delay_one rest few in let all = many_commands count rest few some in omega (arith, w, v, one, all));
  number = b.number ∙ a.number;
  retries = b.retries ∙ a.retries;
  pending = b.pending ∙ a.pending;
  mask = b.mask ∙ a.mask;
  matches = b.matches ∙ ap (λ (s : Setting). s.matches) a.setting;
  stalls = b.stalls ∙ ap (λ (s : Setting). s.stalls) a.setting;
  dpidr = ap (λ (t : TargetState). t.dpidr) (b.target ∙ ap (λ (t : TargetState). delayed_target t rest) a.target);
  clear = λ clear. ap (λ (t : TargetState). t.sticky) (b.target ∙ ap (λ (t : TargetState). delayed_target t rest) a.target) ∙ clear;
  in_range = λ in_range. b.in_range a.in_range;
}

delay_whole : (count rest word : ℕ) → rest ≤ 65535 → (0 < count → 0 < rest) → (m k o : BenchState) → (IsInRange (target_of m.probe) → HasDelayed count m k) →
    (IsInRange (target_of k.probe) → HasMadeAction (Commands (probe.Delay rest)) word k o) → IsInRange (target_of m.probe) → HasMadeAction (Commands (probe.Delay (65535 * count + rest))) word m o
delay_whole count rest word few some m k o h d in_range =
    let a = h in_range in
    let b = d a.in_range in
    record { acts = whole_acts count rest m k o few some a b.acts in_range; setting = b.setting ∙ a.setting; idle_cycles = b.idle_cycles ∙ a.idle_cycles; word_is = b.word_is }

pub delay_made : (x y z : Option BenchState) (count rest word : ℕ) → rest ≤ 65535 → (0 < count → 0 < rest) → StepsTo (λ m o. IsInRange (target_of m.probe) → HasDelayed count m o) x y →
    StepsTo (λ m o. IsInRange (target_of m.probe) → HasMadeAction (Commands (probe.Delay rest)) word m o) y z → StepsTo (λ m o. IsInRange (target_of m.probe) → HasMadeAction (Commands (probe.Delay (65535 * count + rest))) word m o) x z
delay_made x y z count rest word few some h d = steps_join _ _ _ (delay_whole count rest word few some) x y z h d

-- ---- a delay of which a bench call failed

less_delayed : (count micros : ℕ) (m k o : BenchState) → 65535 * count < micros → HasDelayed count m k → o.probe.executor ≡ k.probe.executor → DidLess (Commands (probe.Delay micros)) m o
less_delayed count micros m k o less a same = record {
  work = count;
  work_is = λ counts. (let w = a.work in let s = ap (λ (e : ExecutorState). e.transfers.work) same in omega (arith, w, s, counts, less));
  less = omega (arith, less);
  idle_cycles = ap (λ (e : ExecutorState). e.idle) same ∙ a.idle_cycles;
  target = inr (count, less, record { same = ap (λ (t : TargetState). record t { rdbuff = 0 }) (ap (λ (e : ExecutorState). e.transfers.line.target) same ∙ a.target) });
}

none_delayed_yet : (micros : ℕ) (m k o : BenchState) → HasDelayed 0 m k → o.probe.executor ≡ k.probe.executor → IsInRange (target_of m.probe) → DidLess (Commands (probe.Delay micros)) m o
none_delayed_yet micros m k o a same in_range = record {
  work = 0;
  work_is = λ counts. (let w = a.work in let s = ap (λ (e : ExecutorState). e.transfers.work) same in omega (arith, w, s, counts));
  less = omega arith;
  idle_cycles = ap (λ (e : ExecutorState). e.idle) same ∙ a.idle_cycles;
  target = inl (refl, record { same = ap (λ (t : TargetState). record t { rdbuff = 0 }) (ap (λ (e : ExecutorState). e.transfers.line.target) same ∙ a.target ∙ ap (λ (q : TransferState). q.line.target) (none_delayed (transfers_of m) in_range)) });
}

-- the next of the parts, or the last, was made or not
part_left : (count part micros : ℕ) (end : FlightEnd) → part ≤ 65535 → (0 < count → 0 < part) → (65535 * count + part ≡ micros) ⊎ ((part ≡ 65535) × (65535 * (count + 1) < micros)) → (m k o : BenchState) →
    (IsInRange (target_of m.probe) → HasDelayed count m k) → (IsInRange (target_of k.probe) → MadeOrNot (Commands (probe.Delay part)) end k o) → CanFly m → LeftActionOff (Commands (probe.Delay micros)) end m o
part_left count part micros ends.BenchFault few some which m k o h d flies = by_what (d a.in_range) which
  where
    a : HasDelayed count m k
    a = h flies.in_range

    untouched : o.probe.executor ≡ k.probe.executor → (0 < count → 65535 * count < micros) → DidLess (Commands (probe.Delay micros)) m o
    untouched same less = by_count count refl
      where
        by_count : (n : ℕ) → count ≡ n → DidLess (Commands (probe.Delay micros)) m o
        by_count zero none = none_delayed_yet micros m k o (subst (λ (c : ℕ). HasDelayed c m k) none a) same flies.in_range
        by_count (suc n) is = less_delayed count micros m k o (less (omega (arith, is))) a same

    by_what : WasMade (Commands (probe.Delay part)) k o ⊎ (o.probe.executor ≡ k.probe.executor) → (65535 * count + part ≡ micros) ⊎ ((part ≡ 65535) × (65535 * (count + 1) < micros)) → LeftActionOff (Commands (probe.Delay micros)) ends.BenchFault m o
    by_what (inl made) (inl last) =
        inl (made_done (Commands (probe.Delay micros)) 0 m o flies (record { acts = subst (λ (n : ℕ). Acts (Commands (probe.Delay n)) (transfers_of m) (transfers_of o)) last (whole_acts count part m k o few some a made.acts flies.in_range); setting = made.setting ∙ a.setting; idle_cycles = made.idle_cycles ∙ a.idle_cycles; word_is = refl }))
    by_what (inl made) (inr (full, less)) =
        inr (less_delayed (count + 1) micros m o o less
        (one_more count 0 m k o h (λ in_range. record { acts = subst (λ (n : ℕ). Acts (Commands (probe.Delay n)) (transfers_of k) (transfers_of o)) full made.acts; setting = made.setting; idle_cycles = made.idle_cycles; word_is = refl }) flies.in_range) refl)
    by_what (inr same) (inl last) = inr (untouched same (λ some_made. omega (arith, last, some some_made)))
    by_what (inr same) (inr (full, less)) = inr (untouched same (λ some_made. omega (arith, less)))
part_left count part micros ends.ReplyBad few some which m k o h d flies = d (h flies.in_range).in_range
part_left count part micros (ends.Cut cut) few some which m k o h d flies = absurd (d (h flies.in_range).in_range)

pub delay_left : (x y z : Option BenchState) (count part micros : ℕ) (end : FlightEnd) → part ≤ 65535 → (0 < count → 0 < part) → (65535 * count + part ≡ micros) ⊎ ((part ≡ 65535) × (65535 * (count + 1) < micros)) →
    StepsTo (λ m o. IsInRange (target_of m.probe) → HasDelayed count m o) x y → StepsTo (λ m o. IsInRange (target_of m.probe) → MadeOrNot (Commands (probe.Delay part)) end m o) y z →
    StepsTo (λ m o. CanFly m → LeftActionOff (Commands (probe.Delay micros)) end m o) x z
delay_left x y z count part micros end few some which h d = steps_join _ _ _ (part_left count part micros end few some which) x y z h d

-- the last of the parts, by what it answers
pub delay_mades : (x y z : Option BenchState) (count rest micros : ℕ) (result : Result ℕ FlightEnd) → rest ≤ 65535 → (0 < count → 0 < rest) → 65535 * count + rest ≡ micros → StepsTo (λ m o. IsInRange (target_of m.probe) → HasDelayed count m o) x y →
    IfOk result (λ word. StepsTo (λ m o. IsInRange (target_of m.probe) → HasMadeAction (Commands (probe.Delay rest)) word m o) y z) → IfOk result (λ word. StepsTo (λ m o. IsInRange (target_of m.probe) → HasMadeAction (Commands (probe.Delay micros)) word m o) x z)
delay_mades x y z count rest micros (Err end) few some is h d = tt
delay_mades x y z count rest micros (Ok word) few some is h d =
    subst (λ (n : ℕ). StepsTo (λ m o. IsInRange (target_of m.probe) → HasMadeAction (Commands (probe.Delay n)) word m o) x z) is (delay_made x y z count rest word few some h d)

pub delay_lefts : (x y z : Option BenchState) (count rest micros : ℕ) (result : Result ℕ FlightEnd) → rest ≤ 65535 → (0 < count → 0 < rest) → 65535 * count + rest ≡ micros → StepsTo (λ m o. IsInRange (target_of m.probe) → HasDelayed count m o) x y →
    IfErr result (λ end. StepsTo (λ m o. IsInRange (target_of m.probe) → MadeOrNot (Commands (probe.Delay rest)) end m o) y z) → IfErr result (λ end. StepsTo (λ m o. CanFly m → LeftActionOff (Commands (probe.Delay micros)) end m o) x z)
delay_lefts x y z count rest micros (Ok word) few some is h d = tt
delay_lefts x y z count rest micros (Err end) few some is h d = delay_left x y z count rest micros end few some (inl is) h d

-- ---- a call

cleared : (call : ProbeCall) (m o : BenchState) → MayClear call m → Acts (Commands call) (transfers_of m) (transfers_of o) → (target_of o.probe).sticky ≡ false
cleared (probe.Abort value) m o h acts = abort_clears value (transfers_of m) (transfers_of o) h.clears_it acts
cleared other m o h acts = absurd (let e = h.clears_it in cc)

cleared_done : (call : ProbeCall) (word : ℕ) (m o : BenchState) → MayClear call m → HasMadeAction (Commands call) word m o → HasDoneWhole (Commands call) word m o
cleared_done call word m o h d =
    let clear : (target_of o.probe).sticky ≡ false = cleared call m o h d.acts in
    record {
      does = λ counts. record {
        target = d.acts.target;
        clear = clear;
        work = (let w = d.acts.work in omega (arith, w, counts));
        retries = d.acts.retries;
        setting = d.setting;
        idle_cycles = d.idle_cycles;
        number = numbers_made (Commands call) (target_of m.probe) _ _ d.acts.number;
      };
      good = d.acts.passes;
      word_is = d.word_is;
      next = record {
        guard = record {
          mask = d.acts.mask ∙ h.mask;
          matches = d.acts.matches ∙ h.matches;
          dpidr = ap (λ (n : ℕ). bit_and n 1 == 0) d.acts.dpidr ∙ h.dpidr;
          clear = clear;
        };
        in_range = d.acts.in_range h.in_range;
      };
    }

call_done : (call : ProbeCall) (word : ℕ) (m o : BenchState) → CanCommand call m → HasMadeAction (Commands call) word m o → HasDoneWhole (Commands call) word m o
call_done call word m o (inl flies) d = made_done (Commands call) word m o flies d
call_done call word m o (inr clears) d = cleared_done call word m o clears d

range_of : (call : ProbeCall) (m : BenchState) → CanCommand call m → IsInRange (target_of m.probe)
range_of call m (inl flies) = flies.in_range
range_of call m (inr clears) = clears.in_range

-- it is made whole
pub call_dones : (x y : Option BenchState) (call : ProbeCall) (result : Result ℕ FlightEnd) → IfOk result (λ word. StepsTo (λ m o. IsInRange (target_of m.probe) → HasMadeAction (Commands call) word m o) x y) →
    IfOk result (λ word. StepsTo (λ m o. CanCommand call m → HasDoneWhole (Commands call) word m o) x y)
call_dones x y call (Err end) h = tt
call_dones x y call (Ok word) h = steps_map _ _ (λ m o f can. call_done call word m o can (f (range_of call m can))) x y h

-- a call that is one command weighs 1
one_weighs : (call : ProbeCall) → is_one call ≡ true → commands_for call ≡ 1
one_weighs (probe.Delay micros) one = delay_one micros (let few : micros ≤ 65535 = grind (arith, one) in few)
one_weighs other one = refl

untouched_less : (call : ProbeCall) (m o : BenchState) → is_one call ≡ true → o.probe.executor ≡ m.probe.executor → DidLess (Commands call) m o
untouched_less call m o one same = record {
  work = 0;
  work_is = λ counts. (let s = ap (λ (e : ExecutorState). e.transfers.work) same in omega (arith, s));
  less = (let w = one_weighs call one in omega (arith, w));
  idle_cycles = ap (λ (e : ExecutorState). e.idle) same;
  target = inl (refl, record { same = ap (λ (e : ExecutorState). record e.transfers.line.target { rdbuff = 0 }) same });
}

call_left : (call : ProbeCall) (end : FlightEnd) (m o : BenchState) → is_one call ≡ true → CanCommand call m → MadeOrNot (Commands call) end m o → LeftActionOff (Commands call) end m o
call_left call ends.BenchFault m o one can (inl made) = inl (call_done call _ m o can (record { acts = made.acts; setting = made.setting; idle_cycles = made.idle_cycles; word_is = refl }))
call_left call ends.BenchFault m o one can (inr same) = inr (untouched_less call m o one same)
call_left call ends.ReplyBad m o one can h = h
call_left call (ends.Cut cut) m o one can h = absurd h

pub call_lefts : (x y : Option BenchState) (call : ProbeCall) (result : Result ℕ FlightEnd) → is_one call ≡ true → IfErr result (λ end. StepsTo (λ m o. IsInRange (target_of m.probe) → MadeOrNot (Commands call) end m o) x y) →
    IfErr result (λ end. StepsTo (λ m o. CanCommand call m → LeftActionOff (Commands call) end m o) x y)
call_lefts x y call (Ok word) one h = tt
call_lefts x y call (Err end) one h = steps_map _ _ (λ m o f can. call_left call end m o one can (f (range_of call m can))) x y h

delays_flies : (micros : ℕ) (m : BenchState) → CanCommand (probe.Delay micros) m → CanFly m
delays_flies micros m (inl flies) = flies
delays_flies micros m (inr h) = absurd (let e = h.clears_it in cc)

pub delays_left : (x y : Option BenchState) (micros : ℕ) (result : Result ℕ FlightEnd) → IfErr result (λ end. StepsTo (λ m o. CanFly m → LeftActionOff (Commands (probe.Delay micros)) end m o) x y) →
    IfErr result (λ end. StepsTo (λ m o. CanCommand (probe.Delay micros) m → LeftActionOff (Commands (probe.Delay micros)) end m o) x y)
delays_left x y micros (Ok word) h = tt
delays_left x y micros (Err end) h = steps_map _ _ (λ m o f can. f (delays_flies micros m can)) x y h

-- it is no cut
pub uncut_none : (result : Result ℕ FlightEnd) → IfErr result IsNoCut → IfErr result NamesNoAccess
uncut_none (Ok word) h = tt
uncut_none (Err ends.BenchFault) h = tt
uncut_none (Err ends.ReplyBad) h = tt
uncut_none (Err (ends.Cut cut)) h = absurd h

pub uncut_response : (result : Result ℕ FlightEnd) → IfErr result IsNoCut → IfErr result IsCutResponse
uncut_response (Ok word) h = tt
uncut_response (Err ends.BenchFault) h = tt
uncut_response (Err ends.ReplyBad) h = tt
uncut_response (Err (ends.Cut cut)) h = absurd h

-- every call but a delay is one command
pub one_unless : (call : ProbeCall) → ((micros : ℕ) → call ≡ probe.Delay micros → ⊥) → is_one call ≡ true
one_unless (probe.Delay micros) never = absurd (never micros refl)
one_unless other never = refl

-- a call that is a delay
pub delay_dones : (x y : Option BenchState) (call : ProbeCall) (micros : ℕ) (result : Result ℕ FlightEnd) → call ≡ probe.Delay micros →
    IfOk result (λ word. StepsTo (λ m o. IsInRange (target_of m.probe) → HasMadeAction (Commands (probe.Delay micros)) word m o) x y) → IfOk result (λ word. StepsTo (λ m o. CanCommand call m → HasDoneWhole (Commands call) word m o) x y)
delay_dones x y call micros result is h =
    subst (λ (k : ProbeCall). IfOk result (λ word. StepsTo (λ m o. CanCommand k m → HasDoneWhole (Commands k) word m o) x y)) (sym is) (call_dones x y (probe.Delay micros) result h)

pub delay_call_left : (x y : Option BenchState) (call : ProbeCall) (micros : ℕ) (result : Result ℕ FlightEnd) → call ≡ probe.Delay micros →
    IfErr result (λ end. StepsTo (λ m o. CanFly m → LeftActionOff (Commands (probe.Delay micros)) end m o) x y) → IfErr result (λ end. StepsTo (λ m o. CanCommand call m → LeftActionOff (Commands call) end m o) x y)
delay_call_left x y call micros result is h =
    subst (λ (k : ProbeCall). IfErr result (λ end. StepsTo (λ m o. CanCommand k m → LeftActionOff (Commands k) end m o) x y)) (sym is) (delays_left x y micros result h)
