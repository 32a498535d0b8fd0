-- Values that are used, units and commands, over an access; and what comes later, for the exits of functions.
use Rattle.std.proofs.Common.{inl, inr, ◌≡◌, ◌⊎◌, ℕ, ◌+◌, ◌/◌, ◌^◌, Bool, true, false, cond, List, [], ◌∷◌, ◌++◌, length, nat_lt, Option, None, Some, unwrap_or, codes, Result, Ok, Err, refl, sym, ap, subst, ◌∙◌, slice_index}
use Rattle.std.proofs.lemmas.List.{length-append}
use Rattle.std.specs.Prelude.{IsErrAnd}
use Rattle.dap_base.specs.Outcome.{◌>>=◌}
use Rattle.target_machine.specs.declared.unit.HaltCause.TheVariants.{AddressTooLarge}
use Rattle.target_machine.specs.declared.unit.ProbeCall.{ProbeCall}
use Rattle.target_machine.specs.declared.unit.Unit.{Unit as AccessUnit}
use Rattle.target_calls.specs.declared.calls.Ask.{Ask}
use Rattle.target_calls.specs.declared.calls.Asked.{Asked}
use Rattle.target_calls.specs.declared.calls.Slot.{Slot}
use Rattle.target_calls.specs.declared.calls.Value.{Value}
use Rattle.target_calls.specs.declared.calls.Value.TheVariants.{Number, Pending}
use Rattle.target_calls.specs.Asks.{unit_ask, probe_ask}
use Rattle.target_calls.specs.NeedPoints.{Asks, Costs}
use Rattle.target_calls.specs.World.{World, results, stop, small_now}
use Rattle.target_calls.proofs.NeedLemmas.{used_calls, asked_calls}
use Rattle.access_calls.specs.Answers.{AtCut, IsEnd, NoMemory, StopsCalls, UnchangedByMemory, calls_after}
use Rattle.access_calls.specs.GoesOn.{AccessGoesOn}
use Rattle.access_calls.specs.Left.{IsLeft}
use Rattle.access_calls.specs.Reported.{AccessView}
use Rattle.access_calls.specs.declared.stop.Report.{Report}
use Rattle.access_calls.specs.declared.stop.Stop.{Stop}
use Rattle.access_calls.specs.declared.stop.Stop.TheVariants.{Cut, BenchFault, ReplyBad, OutOfMemory}
use Rattle.access_calls.proofs.KeepLemmas.{goes_same, goes_trans, all_asked}
use Rattle.sequence_rules.specs.Calls.{Port, use_now, missing, value_or_missing, global, port_with, port_from, ask, counted_answer, command, counted_number, zero_of, if_read, low_and_high, second_half, memory_unit, memory_at, ap_at, dp_at, abort_at}
use Rattle.sequence_rules.specs.Machine as machine
use Rattle.sequence_rules.specs.Machine.{Over, State, Out, with_rest, unit_more, end_state}
use Rattle.sequence_rules.specs.Late.{Late, late_of, asks_with, used_late, late, Later}
use Rattle.sequence_rules.specs.Values.{all_used, both}
use Rattle.sequence_rules.specs.Variables.{value_named}
use Rattle.sequence_rules.proofs.Goes as g
use Rattle.sequence_rules.proofs.Made.{no_cost}
use Rattle.sequence_rules.proofs.LateLemmas.{later_on, later_same, later_still, steady_late, grows_same}
use Rattle.function_calls.specs.declared.end.End.{End}
use Rattle.function_calls.specs.declared.end.End.TheVariants as end
use Rattle.function_calls.specs.Ends.{AtEnd, EndsLate, HasEnded, CallHasSinkCause, IsStopAt, MeansLate, NoWriteFault, answer_by, StopsHere}
use Rattle.function_calls.specs.Frame.{EndsCall, EndsUse}
use Rattle.function_calls.specs.Stops.{end_at_stop}

abbrev S : Type 0
S = State Value Late

-- what comes of a state is later than it; a name of its own, for the search
pub record After {B : Type 0} (w : World) (s : S) (out : Out Value Late B) : Type 0 where
  pub so : Later w s.rest (end_state out).rest

-- ---- ends

pub left_on : (a b : AccessView) → AccessGoesOn a b → (answered : Option ℕ) → IsLeft b answered → IsLeft a answered
left_on a b h answered l = h.left answered l

-- where the access answers its end, it has ended
has_ended : (st : Stop) (end : Option Stop) → IsEnd end st → NoMemory st → HasEnded end
has_ended (Cut r) end is memory = subst (λ (e : Option Stop). HasEnded e) (sym is) tt
has_ended (BenchFault issued confirmed) end is memory = subst (λ (e : Option Stop). HasEnded e) (sym is) tt
has_ended ReplyBad end is memory = subst (λ (e : Option Stop). HasEnded e) (sym is) tt
has_ended OutOfMemory end is memory = absurd memory

at_end : (st : Stop) (end : Option Stop) (P : Report → Type 0) → IsEnd end st → NoMemory st → AtCut st P → AtEnd end P
at_end (Cut r) end P is memory h = subst (λ (e : Option Stop). AtEnd e P) (sym is) h
at_end (BenchFault issued confirmed) end P is memory h = subst (λ (e : Option Stop). AtEnd e P) (sym is) tt
at_end ReplyBad end P is memory h = subst (λ (e : Option Stop). AtEnd e P) (sym is) tt
at_end OutOfMemory end P is memory h = absurd memory

-- a use at which the access stopped
use_by : (T : Type 0) (st : Stop) (a b : AccessView) → IsEnd b.end st → NoMemory st → b.asks.calls ≡ a.asks.calls → EndsUse {T = T} (Err (end_at_stop st)) a b
use_by T (Cut r) a b is memory calls = record { end = has_ended (Cut r) b.end is memory; calls = calls; cause = tt }
use_by T (BenchFault issued confirmed) a b is memory calls = record { end = has_ended (BenchFault issued confirmed) b.end is memory; calls = calls; cause = tt }
use_by T ReplyBad a b is memory calls = record { end = has_ended ReplyBad b.end is memory; calls = calls; cause = tt }
use_by T OutOfMemory a b is memory calls = absurd memory

pub use_stopped : {T : Type 0} (st : Stop) (e : End) (a b : AccessView) → e ≡ end_at_stop st → IsEnd b.end st → NoMemory st → b.asks.calls ≡ a.asks.calls → EndsUse {T = T} (Err e) a b
use_stopped {T = T} st e a b by is memory calls = subst (λ (x : End). EndsUse {T = T} (Err x) a b) (sym by) (use_by T st a b is memory calls)

-- a call at which the access stopped, or memory was refused
call_by : (T : Type 0) (st : Stop) (units : ℕ) (a b : AccessView) → a.end ≡ None → IsEnd b.end st → UnchangedByMemory a b st → EndsCall {T = T} (Err (end_at_stop st)) units b
call_by T (Cut r) units a b none is same = record { end = has_ended (Cut r) b.end is tt; counted = tt; cause = tt }
call_by T (BenchFault issued confirmed) units a b none is same = record { end = has_ended (BenchFault issued confirmed) b.end is tt; counted = tt; cause = tt }
call_by T ReplyBad units a b none is same = record { end = has_ended ReplyBad b.end is tt; counted = tt; cause = tt }
call_by T OutOfMemory units a b none is same = record { end = ap (λ (t : AccessView). t.end) same ∙ none; counted = tt; cause = tt }

pub call_stopped : {T : Type 0} (st : Stop) (e : End) (units : ℕ) (a b : AccessView) → e ≡ end_at_stop st → a.end ≡ None → IsEnd b.end st → UnchangedByMemory a b st → EndsCall {T = T} (Err e) units b
call_stopped {T = T} st e units a b by none is same = subst (λ (x : End). EndsCall {T = T} (Err x) units b) (sym by) (call_by T st units a b none is same)

-- where the access stops in the middle of this
stop_by : {A : Type 0} (w : World) (b : AccessView) (now : S) (out : Out Value Late A) (st : Stop) → IsEnd b.end st → Later w now.rest (end_state out).rest → AtCut st (λ r. stop w now.rest.asks.calls ≡ Some (b.lines + 1))
    → EndsLate w b (end_at_stop st) now out
stop_by w b now out (Cut r) is later first = record { later = later; first = record { so = at_end (Cut r) b.end (λ q. stop w now.rest.asks.calls ≡ Some (b.lines + 1)) is tt first } }
stop_by w b now out (BenchFault issued confirmed) is later first = record { later = later; first = record { so = at_end (BenchFault issued confirmed) b.end (λ q. stop w now.rest.asks.calls ≡ Some (b.lines + 1)) is tt tt } }
stop_by w b now out ReplyBad is later first = record { later = later; first = record { so = at_end ReplyBad b.end (λ q. stop w now.rest.asks.calls ≡ Some (b.lines + 1)) is tt tt } }
stop_by w b now out OutOfMemory is later first = later

stops_by : {A : Type 0} (w : World) (b : AccessView) (now : S) (out : Out Value Late A) (st : Stop) (e : End) → e ≡ end_at_stop st → IsEnd b.end st → Later w now.rest (end_state out).rest
    → AtCut st (λ r. stop w now.rest.asks.calls ≡ Some (b.lines + 1)) → EndsLate w b e now out
stops_by w b now out st e by is later first = subst (λ (x : End). EndsLate w b x now out) (sym by) (stop_by w b now out st is later first)

-- where the access stops before it has made all
flush_by : (w : World) (calls : List Ask) (b : AccessView) (st : Stop) → IsEnd b.end st → NoMemory st → StopsCalls w calls b.lines st → IsStopAt w calls b (end_at_stop st)
flush_by w calls b (Cut r) is memory stops = record { so = at_end (Cut r) b.end (λ q. stop w calls ≡ Some (b.lines + 1)) is tt stops.so }
flush_by w calls b (BenchFault issued confirmed) is memory stops = record { so = at_end (BenchFault issued confirmed) b.end (λ q. stop w calls ≡ Some (b.lines + 1)) is tt tt }
flush_by w calls b ReplyBad is memory stops = record { so = at_end ReplyBad b.end (λ q. stop w calls ≡ Some (b.lines + 1)) is tt tt }
flush_by w calls b OutOfMemory is memory stops = absurd memory

pub flush_stopped : (w : World) (calls : List Ask) (b : AccessView) (st : Stop) (e : End) → e ≡ end_at_stop st → IsEnd b.end st → NoMemory st → StopsCalls w calls b.lines st → IsStopAt w calls b e
flush_stopped w calls b st e by is memory stops = subst (λ (x : End). IsStopAt w calls b x) (sym by) (flush_by w calls b st is memory stops)

-- a call without a sink
pub quiet_cause : {A : Type 0} (result : Result A End) (n : ℕ) → NoWriteFault result → CallHasSinkCause result n n
quiet_cause (Ok x) n h = refl
quiet_cause (Err (end.Halted cause)) n h = refl
quiet_cause (Err end.Stopped) n h = refl
quiet_cause (Err end.OutOfMemory) n h = refl
quiet_cause (Err end.WriteFault) n h = absurd h

-- one call more is counted
pub counted_more : (units : ℕ) (old new : List Ask) (ask : Ask) → units ≡ length old → new ≡ old ++ ask ∷ [] → units + 1 ≡ length new
counted_more units old new ask is more = ap (λ n. n + 1) is ∙ sym (ap length more ∙ length-append old (ask ∷ []))

-- ---- values

used_rest : (cost : Costs) (w : World) (v : Value) (s : S) → (end_state (use_now (late cost w) v s)).rest ≡ (used_late cost w v s.rest).1
unfolding use_now late
used_rest cost w v s = refl

-- a value whose look-up stops
pub ends_use : (cost : Costs) (w : World) (slot : Slot) (s : S) (b : AccessView) (st : Stop) (e : End) → e ≡ end_at_stop st → IsEnd b.end st → b.asks.calls ≡ s.rest.asks.calls → StopsCalls w s.rest.asks.calls b.lines st
    → EndsLate w b e (with_rest s (late_of b.asks s.rest.written)) (use_now (late cost w) (Pending slot) s)
ends_use cost w slot s b st e by is calls stops =
    stops_by w b (with_rest s (late_of b.asks s.rest.written)) (use_now (late cost w) (Pending slot) s) st e by is
    (rw (used_rest cost w (Pending slot) s) (later_still cost w _ _ (used_calls slot s.rest.asks ∙ sym calls) refl))
    (subst (λ (c : List Ask). AtCut st (λ r. stop w c ≡ Some (b.lines + 1))) (sym calls) stops.so)

-- ---- units

pub ask_slot : (cost : Costs) (w : World) (u : AccessUnit) (forgive : Bool) (s : S) (b : Asks) (slot : Slot) → nat_lt s.units 1000000 ≡ true → small_now w s.rest.asks.calls (unit_ask u forgive) ≡ false
    → slot.index ≡ length s.rest.asks.calls → b ≡ asks_with cost w (unit_ask u forgive) s.rest.asks → ask (late cost w) u forgive s ≡ Ok (Pending slot, unit_more s (late_of b s.rest.written))
unfolding ask counted_answer late
ask_slot cost w u forgive s b slot some large index is =
    let place : slot ≡ record { index = length s.rest.asks.calls } = ap (λ i. record { index = i }) index in
    rw some (rw large (rw is (rw place refl)))

pub ask_small : (cost : Costs) (w : World) (u : AccessUnit) (forgive : Bool) (s : S) (b : Asks) → nat_lt s.units 1000000 ≡ true → small_now w s.rest.asks.calls (unit_ask u forgive) ≡ true
    → b ≡ asks_with cost w (unit_ask u forgive) s.rest.asks → ask (late cost w) u forgive s ≡ Err (machine.Halted AddressTooLarge, unit_more s (late_of b s.rest.written))
unfolding ask counted_answer late
ask_small cost w u forgive s b some small is = rw some (rw small (rw is refl))

ask_rest : (cost : Costs) (w : World) (u : AccessUnit) (forgive : Bool) (s : S) → nat_lt s.units 1000000 ≡ true → (end_state (ask (late cost w) u forgive s)).rest ≡ late_of (asks_with cost w (unit_ask u forgive) s.rest.asks) s.rest.written
unfolding ask counted_answer late
ask_rest cost w u forgive s some = rw some (either (small_now w s.rest.asks.calls (unit_ask u forgive)))
  where
    either : (c : Bool) → (end_state (counted_answer (late cost w) (cond c (Err (machine.Halted AddressTooLarge, late_of (asks_with cost w (unit_ask u forgive) s.rest.asks) s.rest.written)) (Ok (Pending (record { index = length s.rest.asks.calls }), late_of (asks_with cost w (unit_ask u forgive) s.rest.asks) s.rest.written))) s)).rest
        ≡ late_of (asks_with cost w (unit_ask u forgive) s.rest.asks) s.rest.written
    either true = refl
    either false = refl

-- the calls after a call at which the access stops: that call is among them, except where memory was refused
StopsAt : World → List Ask → Ask → ℕ → List Ask → Stop → Type 0
StopsAt w calls ask lines now st = ((now ≡ calls) ⊎ (now ≡ calls ++ ask ∷ [])) × AtCut st (λ r. stop w now ≡ Some (lines + 1))

stops_at : (T : Type 0) (w : World) (a b : AccessView) (ask : Ask) (st : Stop) → a.end ≡ None → b.asks.calls ≡ calls_after {T = T} a ask (Err st) → StopsCalls w (a.asks.calls ++ ask ∷ []) b.lines st → StopsAt w a.asks.calls ask b.lines b.asks.calls st
unfolding StopsAt
stops_at T w a b ask (Cut r) none calls stops = let all = all_asked a b ask none calls in (inr all, ap (stop w) all ∙ stops.so)
stops_at T w a b ask (BenchFault issued confirmed) none calls stops = (inr (all_asked a b ask none calls), tt)
stops_at T w a b ask ReplyBad none calls stops = (inr (all_asked a b ask none calls), tt)
stops_at T w a b ask OutOfMemory none calls stops = (inl calls, tt)

-- what was asked then comes first in what the meaning asks
left_asked : {A : Type 0} (cost : Costs) (w : World) (ask : Ask) (s : S) (b : AccessView) (st : Stop) (e : End) (out : Out Value Late A) → e ≡ end_at_stop st → IsEnd b.end st
    → (end_state out).rest ≡ late_of (asks_with cost w ask s.rest.asks) s.rest.written → StopsAt w s.rest.asks.calls ask b.lines b.asks.calls st → EndsLate w b e (with_rest s (late_of b.asks s.rest.written)) out
unfolding StopsAt
left_asked cost w ask s b st e out by end is (inl same, first) =
    stops_by w b (with_rest s (late_of b.asks s.rest.written)) out st e by end (rw is (record { more = ask ∷ []; calls = all ∙ ap (λ c. c ++ ask ∷ []) (sym same); kept = λ n e. refl; grows = grows_same s.rest.written })) first
  where
    all : (asks_with cost w ask s.rest.asks).calls ≡ s.rest.asks.calls ++ ask ∷ []
    all = asked_calls (cost w.target s.rest.asks.calls ask) ask s.rest.asks
left_asked cost w ask s b st e out by end is (inr more, first) =
    stops_by w b (with_rest s (late_of b.asks s.rest.written)) out st e by end (rw is (later_still cost w _ _ (asked_calls (cost w.target s.rest.asks.calls ask) ask s.rest.asks ∙ sym more) refl)) first

pub ends_ask : (cost : Costs) (w : World) (u : AccessUnit) (forgive : Bool) (s : S) (a b : AccessView) (st : Stop) (e : End) → e ≡ end_at_stop st → IsEnd b.end st → s.rest.asks ≡ a.asks → nat_lt s.units 1000000 ≡ true → a.end ≡ None
    → b.asks.calls ≡ calls_after {T = Asked} a (unit_ask u forgive) (Err st) → StopsCalls w (a.asks.calls ++ unit_ask u forgive ∷ []) b.lines st
    → EndsLate w b e (with_rest s (late_of b.asks s.rest.written)) (ask (late cost w) u forgive s)
ends_ask cost w u forgive s a b st e by is same some none calls stops =
    left_asked cost w (unit_ask u forgive) s b st e _ by is (ask_rest cost w u forgive s some)
    (subst (λ (x : Asks). StopsAt w x.calls (unit_ask u forgive) b.lines b.asks.calls st) (sym same) (stops_at Asked w a b (unit_ask u forgive) st none calls stops))

-- ---- commands

pub command_on : (cost : Costs) (w : World) (c : ProbeCall) (s : S) (b : Asks) (n : ℕ) → nat_lt s.units 1000000 ≡ true → n ≡ slice_index (results w (s.rest.asks.calls ++ probe_ask c ∷ [])) (length s.rest.asks.calls)
    → b ≡ asks_with cost w (probe_ask c) s.rest.asks → command (late cost w) c s ≡ Ok (Number n, unit_more s (late_of b s.rest.written))
unfolding command counted_number late
command_on cost w c s b n some value is = rw some (rw is (rw value refl))

command_rest : (cost : Costs) (w : World) (c : ProbeCall) (s : S) → nat_lt s.units 1000000 ≡ true → (end_state (command (late cost w) c s)).rest ≡ late_of (asks_with cost w (probe_ask c) s.rest.asks) s.rest.written
unfolding command counted_number late
command_rest cost w c s some = rw some refl

pub ends_command : (cost : Costs) (w : World) (c : ProbeCall) (s : S) (a b : AccessView) (st : Stop) (e : End) → e ≡ end_at_stop st → IsEnd b.end st → s.rest.asks ≡ a.asks → nat_lt s.units 1000000 ≡ true → a.end ≡ None
    → b.asks.calls ≡ calls_after {T = ℕ} a (probe_ask c) (Err st) → StopsCalls w (a.asks.calls ++ probe_ask c ∷ []) b.lines st
    → EndsLate w b e (with_rest s (late_of b.asks s.rest.written)) (command (late cost w) c s)
ends_command cost w c s a b st e by is same some none calls stops =
    left_asked cost w (probe_ask c) s b st e _ by is (command_rest cost w c s some)
    (subst (λ (x : Asks). StopsAt w x.calls (probe_ask c) b.lines b.asks.calls st) (sym same) (stops_at ℕ w a b (probe_ask c) st none calls stops))

-- ---- what comes later

-- Such lemmas name nothing that their conclusion does not determine, so no costs.

pub later_bind : {A B : Type 0} (w : World) (s : S) (out : Out Value Late A) (f : A × S → Out Value Late B) → After w s out → ((x : A × S) → After w x.1 (f x)) → After w s (out >>= f)
later_bind w s (Ok x) f h k = record { so = later_on no_cost w _ _ _ h.so (k x).so }
later_bind w s (Err e) f h k = record { so = h.so }

pub later_cond : {A : Type 0} (w : World) (s : S) (c : Bool) (x y : Out Value Late A) → After w s x → After w s y → After w s (cond c x y)
later_cond w s true x y h k = h
later_cond w s false x y h k = k

pub later_ok : {A : Type 0} (w : World) (s : S) (x : A) → After w s (Ok (x, s))
later_ok w s x = record { so = later_same no_cost w s.rest }

pub later_halt : {A : Type 0} (w : World) (s : S) (e : Over) → After {B = A} w s (Err (e, s))
later_halt w s e = record { so = later_same no_cost w s.rest }

-- an end goes on outwards
pub ends_on : {A B : Type 0} (w : World) (reached : AccessView) (e : End) (now : S) (out : Out Value Late A) (f : A × S → Out Value Late B) → EndsLate w reached e now out → ((x : A × S) → After w x.1 (f x)) → EndsLate w reached e now (out >>= f)
ends_on w reached (end.Halted cause) now out f h k = ap (λ o. o >>= f) h
ends_on w reached end.Stopped now (Ok x) f h k = record { later = later_on no_cost w _ _ _ h.later (k x).so; first = h.first }
ends_on w reached end.Stopped now (Err e) f h k = record { later = h.later; first = h.first }
ends_on w reached end.OutOfMemory now (Ok x) f h k = later_on no_cost w _ _ _ h (k x).so
ends_on w reached end.OutOfMemory now (Err e) f h k = h
ends_on w reached end.WriteFault now (Ok x) f h k = later_on no_cost w _ _ _ h (k x).so
ends_on w reached end.WriteFault now (Err e) f h k = h

-- An error that `?` hands on is the end that is answered.
pub passed : {A : Type 0} (w : World) (reached : AccessView) (e : End) (now : S) (out : Out Value Late A) (result : Result A End) → IsErrAnd result (λ x. x ≡ e) → EndsLate w reached e now out → MeansLate w reached result now out
passed w reached e now out (Ok x) is h = absurd is
passed w reached e now out (Err x) is h = subst (λ y. EndsLate w reached y now out) (sym is) h

-- the same, where something else stands in place of the answer
pub passed_by : {A B : Type 0} (w : World) (reached : AccessView) (view : A → B) (e : End) (now : S) (out : Out Value Late B) (result : Result A End) → IsErrAnd result (λ x. x ≡ e) → EndsLate w reached e now out
    → MeansLate w reached (answer_by view result) now out
passed_by w reached view e now out (Ok x) is h = absurd is
passed_by w reached view e now out (Err x) is h = subst (λ y. EndsLate w reached y now out) (sym is) h

-- what stands in place of an answer is no answer where it ended
pub err_by : {A B : Type 0} (view : A → B) (e : End) (result : Result A End) → IsErrAnd result (λ x. x ≡ e) → IsErrAnd (answer_by view result) (λ x. x ≡ e)
err_by view e (Ok x) is = absurd is
err_by view e (Err x) is = is

-- the access stopped before this
pub stops_before : {B : Type 0} (w : World) (reached : AccessView) (e : End) (s : S) (b : Asks) (out : Out Value Late B) → After w s out → b.calls ≡ s.rest.asks.calls → IsStopAt w s.rest.asks.calls reached e → EndsLate w reached e (with_rest s (late_of b s.rest.written)) out
stops_before w reached (end.Halted cause) s b out h calls stops = absurd stops
stops_before w reached end.Stopped s b out h calls stops = record {
  later = later_on no_cost w (late_of b s.rest.written) s.rest _ (later_still no_cost w (late_of b s.rest.written) s.rest (sym calls) refl) h.so;
  first = subst (λ (c : List Ask). StopsHere w c reached) (sym calls) stops;
}
stops_before w reached end.OutOfMemory s b out h calls stops = absurd stops
stops_before w reached end.WriteFault s b out h calls stops = absurd stops

-- one line for each definition
pub later_use : (cost : Costs) (w : World) (v : Value) (s : S) → After w s (use_now (late cost w) v s)
later_use cost w v s = record { so = (g.goes_use (late cost w) (Later w) (steady_late cost w) v s).so }

pub later_both : (cost : Costs) (w : World) (v u : Value) (s : S) → After w s (both (late cost w) v u s)
later_both cost w v u s = record { so = (g.goes_both (late cost w) (Later w) (steady_late cost w) v u s).so }

pub later_all_used : (cost : Costs) (w : World) (vs : List Value) (s : S) → After w s (all_used (late cost w) vs s)
later_all_used cost w vs s = record { so = (g.goes_all_used (late cost w) (Later w) (steady_late cost w) vs s).so }

pub later_global : (cost : Costs) (w : World) (name : List ℕ) (s : S) → After w s (global (late cost w) name s)
later_global cost w name s = record { so = (g.goes_global (late cost w) (Later w) (steady_late cost w) name s).so }

pub later_ask : (cost : Costs) (w : World) (u : AccessUnit) (forgive : Bool) (s : S) → After w s (ask (late cost w) u forgive s)
later_ask cost w u forgive s = record { so = (g.goes_ask (late cost w) (Later w) (steady_late cost w) u forgive s).so }

pub later_port_with : (cost : Costs) (w : World) (a e : ℕ) (s : S) → After w s (port_with (late cost w) a e s)
unfolding port_with
later_port_with cost w a e s = later_bind w s _ _ (later_global cost w (codes "__dp") s) (λ d. later_ok w d.1 _)

pub later_port_from : (cost : Costs) (w : World) (a : ℕ) (s : S) → After w s (port_from (late cost w) a s)
unfolding port_from
later_port_from cost w a s = later_bind w s _ _ (later_global cost w (codes "__errorcontrol") s) (λ e. later_port_with cost w a e.0 e.1)

pub later_low_and_high : (cost : Costs) (w : World) (low high : Value) (s : S) → After w s (low_and_high (late cost w) low high s)
later_low_and_high cost w low high s = record { so = (g.goes_low_and_high (late cost w) (Later w) (steady_late cost w) low high s).so }

pub later_second_half : (cost : Costs) (w : World) (read : Bool) (p : Port) (address n : ℕ) (low : Value) (s : S) → After w s (second_half (late cost w) read p address n low s)
later_second_half cost w read p address n low s = record { so = (g.goes_second_half (late cost w) (Later w) (steady_late cost w) read p address n low s).so }

pub later_memory_at : (cost : Costs) (w : World) (size : ℕ) (read : Bool) (address n : ℕ) (p : Port) (s : S) → After w s (memory_at (late cost w) size read address n p s)
later_memory_at cost w size read address n p s = record { so = (g.goes_memory_at (late cost w) (Later w) (steady_late cost w) size read address n p s).so }

pub later_ap_at : (cost : Costs) (w : World) (read : Bool) (addr n : ℕ) (p : Port) (s : S) → After w s (ap_at (late cost w) read addr n p s)
later_ap_at cost w read addr n p s = record { so = (g.goes_ap_at (late cost w) (Later w) (steady_late cost w) read addr n p s).so }

pub later_dp_at : (cost : Costs) (w : World) (read : Bool) (addr n dp : ℕ) (s : S) → After w s (dp_at (late cost w) read addr n dp s)
later_dp_at cost w read addr n dp s = record { so = (g.goes_dp_at (late cost w) (Later w) (steady_late cost w) read addr n dp s).so }

pub later_abort_at : (cost : Costs) (w : World) (n dp : ℕ) (s : S) → After w s (abort_at (late cost w) n dp s)
later_abort_at cost w n dp s = record { so = (g.goes_abort_at (late cost w) (Later w) (steady_late cost w) n dp s).so }

pub ruleset goes_on = (ends_on, later_bind, later_cond, later_ok, later_halt, later_use, later_global, later_ask, later_port_with, later_port_from, later_low_and_high, later_second_half, later_memory_at, later_ap_at, later_dp_at, later_abort_at, goes_trans, goes_same, left_on)

-- the number of a variable that is used
global_is : (cost : Costs) (w : World) (name : List ℕ) (s : S) → global (late cost w) name s ≡ use_now (late cost w) (unwrap_or (value_named s.globals name) (Number 0)) s
unfolding global value_or_missing missing late
global_is cost w name s = one (value_named s.globals name)
  where
    one : (o : Option Value) → (value_or_missing (late cost w) ((late cost w).number 0) o s >>= λ v. use_now (late cost w) v.0 v.1) ≡ use_now (late cost w) (unwrap_or o (Number 0)) s
    one None = refl
    one (Some v) = refl

pub global_gives : (cost : Costs) (w : World) (reached : AccessView) (name : List ℕ) (v : Value) (s now : S) (result : Result ℕ End) → v ≡ unwrap_or (value_named s.globals name) (Number 0) → MeansLate w reached result now (use_now (late cost w) v s) → MeansLate w reached result now (global (late cost w) name s)
global_gives cost w reached name v s now result is h = subst (λ o. MeansLate w reached result now o) (ap (λ x. use_now (late cost w) x s) is ∙ sym (global_is cost w name s)) h

pub ruleset leaves = (goes_same, left_on, use_stopped, call_stopped)

-- the second unit of a 64-bit call
pub second_write : (cost : Costs) (w : World) (read : Bool) (p : Port) (address n : ℕ) (low v : Value) (u : AccessUnit) (s now : S) → read ≡ false → u ≡ memory_unit 4 read p.ap (address + 4) (n / 2 ^ 32) → ask (late cost w) u p.forgive s ≡ Ok (v, now)
    → second_half (late cost w) read p address n low s ≡ Ok (Number 0, now)
unfolding second_half late
second_write cost w read p address n low v u s now written is h =
    ap (λ x. ask (late cost w) x p.forgive s >>= λ high. cond read (low_and_high (late cost w) low high.0 high.1) (Ok (Number 0, high.1))) (sym is)
    ∙ ap (λ o. o >>= λ high. cond read (low_and_high (late cost w) low high.0 high.1) (Ok (Number 0, high.1))) h
    ∙ ap (λ b. cond b (low_and_high (late cost w) low v now) (Ok (Number 0, now))) written

-- a write has 0, and so has a command whose result is dropped
pub zero_on : (cost : Costs) (w : World) (v : Value) (out : Out Value Late Value) (now : S) → out ≡ Ok (v, now) → zero_of (late cost w) out ≡ Ok (Number 0, now)
unfolding zero_of late
zero_on cost w v out now h = ap (λ o. o >>= λ x. Ok (Number 0, x.1)) h

pub write_on : (cost : Costs) (w : World) (read : Bool) (v : Value) (out : Out Value Late Value) (now : S) → read ≡ false → out ≡ Ok (v, now) → if_read (late cost w) read out ≡ Ok (Number 0, now)
unfolding if_read
write_on cost w true v out now is h = absurd cc
write_on cost w false v out now is h = zero_on cost w v out now h

-- a small ruleset for exits: the search gives up where it has many rules
pub ruleset exits = (ends_on, later_bind, later_ok, later_use)
