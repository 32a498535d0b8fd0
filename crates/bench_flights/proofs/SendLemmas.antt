-- What a flight over a bench leaves.
use Rattle.std.proofs.Common.{◌≡◌, inl, inr, ◌∙◌, ℕ, zero, suc, ◌^◌, ◌<◌, true, false, List, [], ◌∷◌, ◌++◌, Option, Some, None, Ok, Err, Result, IfErr, OnOk, MatchResult, refl, sym, ap, subst, arith}
use Rattle.std.specs.Prelude.{is_some}
use Rattle.target_machine.specs.declared.access.RegAccess.{RegAccess}
use Rattle.dap_messages.specs.Responses.{code_of, response_of}
use Rattle.dap_messages.specs.declared.request.Response.{Response}
use Rattle.dap_messages.specs.declared.request.Response.TheVariants.{Good, Wait, Fault, Mismatch}
use Rattle.dap_replies.proofs.ReplyLaws.{response_is}
use Rattle.dap_transfer.specs.State.{TransferState}
use Rattle.flight_forms.specs.Flights.{DoesPart}
use Rattle.flight_forms.proofs.Capacity.{one_fits}
use Rattle.flight_forms.specs.Packing.{AreWords, IsTaken}
use Rattle.flight_forms.specs.declared.form.Form.{Form}
use Rattle.probe_core.specs.Bench.{BenchState, StepsTo, counted_up}
use Rattle.probe_core.specs.Probe.{ExecutorState}
use Rattle.probe_core.specs.Ranges.{AreLimits}
use Rattle.probe_core.specs.declared.job.Limits.{Limits}
use Rattle.batch_packer.specs.FlightEnds.{FlewCut, cut_part, whole_part}
use Rattle.batch_packer.specs.FlightStates.{SentBy, has_room, sent_form}
use Rattle.batch_packer.specs.Flying.{CanFly, NoneOrPart, transfers_of}
use Rattle.batch_packer.specs.Flying.{MayHaveFlown as FlewSome}
use Rattle.batch_packer.specs.declared.ends.Cut.{Cut}
use Rattle.batch_packer.specs.declared.ends.FlightEnd.{FlightEnd}
use Rattle.batch_packer.specs.declared.ends.FlightEnd.TheVariants as ends
use Rattle.batch_packer.proofs.NextFlight.{flies_again}
use Rattle.bench_flights.specs.Flown.{BrokeOff, HasCome, MayHaveDonePart, WasCut}
use Rattle.bench_flights.specs.Flown.{SendsFew}
use Rattle.bench_flights.specs.Wires.{AreHeld, HaveWordValues}
use Rattle.bench_flights.proofs.WireLemmas.{steps_map}

-- ---- it came

nothing_flies : (p : TransferState) → p.line.target.sticky ≡ false → DoesPart p p [] (whole_part [] [])
nothing_flies p clear = record {
  made = record {
    most = omega arith;
    doubt = false;
    near = refl;
    target = refl;
    clear = clear;
    whole = λ good. refl;
    short = λ bad. absurd (bad refl);
    fault = λ fault. absurd (cc);
    never = λ never. cc;
  };
  values = refl;
  work = omega arith;
  setting = refl;
  retries = refl;
  pending = λ wait. absurd (cc);
  number = omega arith;
  over = λ e. absurd (cc);
}

pub counted_few : (m o : BenchState) → o.starting ≡ counted_up m.starting → SendsFew 1 m o
counted_few m o is = record { few = omega (arith, is); counts = λ few. omega (arith, is) }

came_by : (form : Option Form) (accesses : List RegAccess) (values : List (Option ℕ)) (m o : BenchState) → (form ≡ None → accesses ≡ []) → SentBy form accesses None values m o → CanFly m → HasCome accesses values m o
came_by None accesses values m o empty sent flies =
    let none : accesses ≡ [] = empty refl in
    let start : HasCome [] [] m m = record {
      part = whole_part [] [];
      flies = record { does = nothing_flies (transfers_of m) flies.guard.clear; idle_cycles = refl };
      good = refl;
      values_are = refl;
      next = flies;
      starting = record { few = omega arith; counts = λ few. few };
    } in
    subst (λ (n : BenchState). HasCome accesses values m n) (sym sent.0)
    (subst (λ (l : List RegAccess). HasCome l values m m) (sym none) (subst (λ (v : List (Option ℕ)). HasCome [] v m m) (sym sent.2) start))
came_by (Some form) accesses values m o empty sent flies = record {
  part = whole_part accesses values;
  flies = record { does = sent.does; idle_cycles = ap (λ (e : ExecutorState). e.idle) sent.executor };
  good = refl;
  values_are = refl;
  next = flies_again form accesses values m o flies sent;
  starting = counted_few m o sent.starting;
}

-- a flight that has accesses has a form
none_empty : (limits : Limits) (accesses : List RegAccess) → AreHeld limits accesses → sent_form limits accesses ≡ None → accesses ≡ []
none_empty limits [] held none = refl
none_empty limits (a ∷ rest) held none = absurd (let h = held (omega arith) in let k = ap is_some none in cc (h, k))

pub send_came : {A : Type 0} (x y : Option BenchState) (limits : Limits) (accesses : List RegAccess) (values : List (Option ℕ)) (e : Option FlightEnd) (result : Result A FlightEnd) → AreHeld limits accesses →
    MatchResult result (λ _. e ≡ None) (λ end. e ≡ Some end) → StepsTo (λ m n. CanFly m → SentBy (sent_form limits accesses) accesses e values m n) x y → OnOk result (StepsTo (λ m o. CanFly m → HasCome accesses values m o) x y)
send_came x y limits accesses values e (Err end) held is h = tt
send_came x y limits accesses values e (Ok done) held is h =
    steps_map _ _ (λ m o f flies. came_by (sent_form limits accesses) accesses values m o (none_empty limits accesses held) (subst (λ (end : Option FlightEnd). SentBy (sent_form limits accesses) accesses end values m o) is (f flies)) flies) x y h

-- ---- it did not come to its end

cut_by : (form : Form) (accesses : List RegAccess) (cut : Cut) (values : List (Option ℕ)) (m o : BenchState) (r : Option Response) → response_of cut.response ≡ r → FlewCut form accesses cut values r m o → WasCut cut accesses m o
cut_by form accesses cut values m o None named h = absurd h
cut_by form accesses cut values m o (Some response) named h = record {
  part = cut_part cut response values;
  flies = record { does = h.1.does; idle_cycles = ap (λ (e : ExecutorState). e.idle) h.1.executor };
  performed = refl;
  confirmed = refl;
  wait = λ two. (let k : response_of cut.response ≡ Some Wait = ap response_of two in cc (k, named));
  fault = λ other. by_response response named h.0 h.1.does.made.never (λ wait. other (response_is cut.response response named ∙ ap code_of wait));
}
  where
    by_response : (s : Response) → response_of cut.response ≡ Some s → (s ≡ Good → ⊥) → (s ≡ Mismatch → ⊥) → (s ≡ Wait → ⊥) → s ≡ Fault
    by_response Good named bad never other = absurd (bad refl)
    by_response Wait named bad never other = absurd (other refl)
    by_response Fault named bad never other = refl
    by_response Mismatch named bad never other = absurd (never refl)

failed_by : (form : Form) (accesses : List RegAccess) (m o : BenchState) → FlewSome form accesses m o → MayHaveDonePart accesses m o
failed_by form accesses m o may = by_either may.either
  where
    by_either : NoneOrPart form accesses m o → MayHaveDonePart accesses m o
    by_either (inl same) = record { part = whole_part accesses []; either = inl same; idle_cycles = may.idle_cycles; never = λ never. cc }
    by_either (inr (part, does, once)) = record { part = part; either = inr does; idle_cycles = may.idle_cycles; never = does.made.never }

broke_by : (form : Option Form) (accesses : List RegAccess) (end : FlightEnd) (values : List (Option ℕ)) (m o : BenchState) → SentBy form accesses (Some end) values m o → BrokeOff end accesses m o
broke_by None accesses end values m o h = absurd (let k = h.1 in cc)
broke_by (Some form) accesses (ends.Cut cut) values m o h = cut_by form accesses cut values m o (response_of cut.response) refl h
broke_by (Some form) accesses ends.BenchFault values m o h = failed_by form accesses m o h
broke_by (Some form) accesses ends.ReplyBad values m o h = h

pub send_broke : {A : Type 0} (x y : Option BenchState) (form : Option Form) (accesses : List RegAccess) (values : List (Option ℕ)) (e : Option FlightEnd) (result : Result A FlightEnd) →
    MatchResult result (λ _. e ≡ None) (λ end. e ≡ Some end) → StepsTo (λ m n. CanFly m → SentBy form accesses e values m n) x y → IfErr result (λ end. StepsTo (λ m o. CanFly m → BrokeOff end accesses m o) x y)
send_broke x y form accesses values e (Ok done) is h = tt
send_broke x y form accesses values e (Err end) is h =
    steps_map _ _ (λ m o f flies. broke_by form accesses end values m o (subst (λ (k : Option FlightEnd). SentBy form accesses k values m o) is (f flies))) x y h

-- an access alone always has room
pub room_alone : (limits : Limits) (next : RegAccess) → AreLimits limits → has_room limits [] next ≡ true
room_alone limits next fits = ap is_some (one_fits limits.packet_size limits.packet_count next fits.size_low fits.size_high)

-- after a flight there is room for any
pub room_after : {A : Type 0} (result : Result A FlightEnd) (old limits : Limits) (accesses : List RegAccess) → AreLimits old → limits ≡ old → accesses ≡ [] →
    OnOk result ((next : RegAccess) → IsTaken next → has_room limits accesses next ≡ true)
room_after (Err end) old limits accesses fits same none = tt
room_after (Ok done) old limits accesses fits same none = λ next taken.
    ap (λ (l : List RegAccess). has_room limits l next) none ∙ ap (λ (l : Limits). has_room l [] next) same ∙ room_alone old next fits

-- the values that are written are of 32 bits
pub small_words : (accesses : List RegAccess) → HaveWordValues accesses → AreWords accesses
small_words [] h = tt
small_words (a ∷ rest) h = (h 0 a refl, small_words rest (λ k b there. h (suc k) b there))

pub small_more : (accesses : List RegAccess) (next : RegAccess) → HaveWordValues accesses → next.value < 2 ^ 32 → HaveWordValues (accesses ++ next ∷ [])
small_more [] next h fits zero a there = subst (λ (b : RegAccess). b.value < 2 ^ 32) (let s : next ≡ a = cc in s) fits
small_more [] next h fits (suc k) a there = absurd (cc)
small_more (b ∷ rest) next h fits zero a there = h 0 a there
small_more (b ∷ rest) next h fits (suc k) a there = small_more rest next (λ n c at. h (suc n) c at) fits k a there
