-- One read of CTRL/STAT in a flight of its own.
use Rattle.std.proofs.Common.{◌≡◌, ◌⊎◌, inl, inr, ◌∙◌, ℕ, ◌+◌, ◌-◌, ◌^◌, min, Bool, true, false, cond, List, [], ◌∷◌, take, Option, Some, None, refl, sym, ap, subst, arith}
use Rattle.std.specs.Prelude.{◌&&◌, ◌==◌, bit_and, not}
use Rattle.std.specs.Option.{unwrap_or}
use Rattle.target_machine.specs.Attempt.{answers, attempt, bank, ctrl_stat, dp_read, is_free}
use Rattle.target_machine.specs.Plain.{dp_read_of}
use Rattle.target_machine.specs.State.{TargetState}
use Rattle.target_machine.specs.declared.access.Outcome.TheVariants.{Value}
use Rattle.target_machine.specs.declared.access.Outcome.TheVariants as outcome
use Rattle.target_machine.specs.declared.access.RegAccess.{RegAccess}
use Rattle.dap_messages.specs.Responses.{response_of}
use Rattle.dap_messages.specs.declared.request.Response.{Response}
use Rattle.dap_messages.specs.declared.request.Response.TheVariants.{Good, Wait, Fault, Mismatch}
use Rattle.dap_replies.proofs.ReplyLaws.{response_is}
use Rattle.target_machine.specs.Counts.{one_if}
use Rattle.dap_transfer.specs.Laws.{one_at_a_time, value_now}
use Rattle.dap_transfer.specs.State.{TransferState, grown_work, is_wait}
use Rattle.dap_transfer.specs.WireTransfer.{value_of}
use Rattle.flight_forms.specs.Flights.{AreClear, DoesPart, Part}
use Rattle.flight_forms.specs.declared.form.Form.{Form}
use Rattle.flight_forms.specs.declared.form.Form.TheVariants.{Transfer}
use Rattle.flight_forms.proofs.Capacity.{one_fits}
use Rattle.flight_forms.proofs.Rows.{dpidr_stays}
use Rattle.probe_core.specs.Bench.{BenchState, StepsTo}
use Rattle.probe_core.specs.Probe.{ExecutorState, target_of, work_of}
use Rattle.access_calls.specs.Standing.{idle_cycles_of}
use Rattle.probe_core.specs.Ranges.{AreLimits}
use Rattle.probe_core.specs.declared.job.Limits.{Limits}
use Rattle.batch_packer.specs.FlightEnds.{EndsBy, Flew, FlewCut, cut_part, flight_reading, whole_part}
use Rattle.batch_packer.specs.FlightStates.{ReadBy, SentBy, sent_form}
use Rattle.batch_packer.specs.Flying.{CanFly, HasFlown, MayHaveFlown, NoneOrPart, ReadsOnce, transfers_of}
use Rattle.batch_packer.specs.SlotList.{slot_at}
use Rattle.batch_packer.specs.declared.ends.Cut.{Cut}
use Rattle.batch_packer.specs.declared.ends.FlightEnd.{FlightEnd}
use Rattle.batch_packer.specs.declared.ends.FlightEnd.TheVariants as ends
use Rattle.batch_packer.proofs.AloneLemmas.{after_in_range}
use Rattle.bench_flights.specs.Flown.{FlightHasCause, IsCutResponse, NamesNoAccess}
use Rattle.probe_core.specs.Bench.{Reported as BenchReported}
use Rattle.bench_flights.specs.Wires.{HasRead, HasWaited, IsUnread, ReadOrNot, unnamed_end}
use Rattle.bench_flights.proofs.WireLemmas.{steps_map}

abbrev pub look : List RegAccess
look = dp_read_of 0x4 ∷ []

-- a read of it gives a value where STICKYERR is clear
either_value : (b : Bool) (m n : ℕ) (t u : TargetState) → (cond b (answers m t) (answers n u)).outcome ≡ Value (value_of (cond b (answers m t) (answers n u)).outcome)
either_value true m n t u = refl
either_value false m n t u = refl

read_gives : (t : TargetState) → t.sticky ≡ false → (attempt t (dp_read_of 0x4)).outcome ≡ Value (value_of (attempt t (dp_read_of 0x4)).outcome)
unfolding attempt
read_gives t clear =
    by_stuck (t.sticky && not (is_free t (dp_read_of 0x4))) (ap (λ (b : Bool). b && not (is_free t (dp_read_of 0x4))) clear)
  where
    by_stuck : (b : Bool) → b ≡ false → (cond b (record { outcome = outcome.Fault; next = t }) (dp_read t 0x4)).outcome ≡ Value (value_of (cond b (record { outcome = outcome.Fault; next = t }) (dp_read t 0x4)).outcome)
    by_stuck true e = absurd (cc)
    by_stuck false e = either_value (bank t == 0) (ctrl_stat t) 0 (record t { reads = min (t.reads + 1) (2 ^ 32 - 1) }) t

module _ (m o : BenchState) (part : Part) (flies : CanFly m) (does : DoesPart (transfers_of m) (transfers_of o) look part) (once : ReadsOnce part (transfers_of m) (transfers_of o)) (idle : idle_cycles_of o ≡ idle_cycles_of m) where
  -- a read that was good
  all_made : part.response ≡ Good → (part.confirmed ≡ 1) × (part.performed ≡ 1)
  all_made good = (does.made.whole good, (let w = does.made.whole good in let n = does.made.near in let p = does.made.most in omega (arith, w, n, p)))

  next_is : part.response ≡ Good → target_of o.probe ≡ (attempt (target_of m.probe) (dp_read_of 0x4)).next
  next_is good = does.made.target ∙ ap (λ (n : ℕ). one_at_a_time (target_of m.probe) (take n look)) (all_made good).1

  has_read : part.response ≡ Good → HasRead (value_now (target_of m.probe) (dp_read_of 0x4)) m o
  has_read good =
      let clear : (target_of o.probe).sticky ≡ false = after_clear (subst (λ (n : ℕ). AreClear (target_of m.probe) (take n look)) (all_made good).0 does.made.clear) in
      record {
        gives = read_gives (target_of m.probe) flies.guard.clear;
        target = next_is good;
        work = does.work ∙ ap (grown_work (work_of m.probe)) (all_made good).1;
        retries = does.retries ∙ ap (λ (r : Response). cond (is_wait r) (min ((transfers_of m).ended_retries + 1) (2 ^ 32 - 1)) (transfers_of m).ended_retries) good;
        number = (let n = does.number in let w : one_if (is_wait part.response) ≡ 0 = ap (λ (r : Response). one_if (is_wait r)) good in let p = (all_made good).1 in omega (arith, n, w, p));
        setting = does.setting;
        idle_cycles = idle;
        flies = record {
          guard = record {
            mask = once.mask ∙ flies.guard.mask;
            matches = ap (λ s. s.matches) does.setting ∙ flies.guard.matches;
            dpidr = ap (λ (n : ℕ). bit_and n 1 == 0) (ap (λ (t : TargetState). t.dpidr) does.made.target ∙ dpidr_stays (target_of m.probe) (take part.performed look)) ∙ flies.guard.dpidr;
            clear = clear;
          };
          in_range = after_in_range (transfers_of m) (transfers_of o) look part does flies.in_range (omega arith, tt);
        };
      }
    where
      after_clear : AreClear (target_of m.probe) (take 1 look) → (target_of o.probe).sticky ≡ false
      after_clear h = ap (λ (t : TargetState). t.sticky) (next_is good) ∙ h.1

  -- one that was not
  unread : (part.response ≡ Good → ⊥) → IsUnread m o
  unread bad =
      let none : part.performed ≡ 0 = once.refused bad in
      record {
        target = does.made.target ∙ ap (λ (n : ℕ). one_at_a_time (target_of m.probe) (take n look)) none;
        work = does.work ∙ ap (grown_work (work_of m.probe)) none;
        idle_cycles = idle;
      }

  waited : part.response ≡ Wait → HasWaited m o
  waited wait =
      let bad : part.response ≡ Good → ⊥ = (λ good. cc (good, wait)) in
      let none : part.performed ≡ 0 = once.refused bad in
      record {
        unread = unread bad;
        other = λ zero_bank. bad (once.free zero_bank);
        retries = λ few. does.retries ∙ ap (λ (r : Response). cond (is_wait r) (min ((transfers_of m).ended_retries + 1) (2 ^ 32 - 1)) (transfers_of m).ended_retries) wait ∙ (omega (arith, few));
        over = does.over wait;
        number = (let n = does.number in let w : one_if (is_wait part.response) ≡ 1 = ap (λ (r : Response). one_if (is_wait r)) wait in omega (arith, n, w, none));
        pending = pending_none (transfers_of o).pending (let p = does.pending wait in omega (arith, p, none));
      }
    where
      pending_none : (b : Bool) → one_if b ≡ 0 → b ≡ false
      pending_none true h = absurd (omega (arith, h))
      pending_none false h = refl

  never_faults : part.response ≡ Fault → ⊥
  never_faults fault =
      let none : part.performed ≡ 0 = once.refused (λ good. cc (good, fault)) in
      let doubt = (does.made.fault fault).0 in
      let one : one_if does.made.doubt ≡ 1 = ap one_if doubt in
      (let n = does.made.near in omega (arith, n, none, one))

  by_response : (r : Response) → part.response ≡ r → ((value : ℕ) × HasRead value m o) ⊎ IsUnread m o
  by_response Good is = inl (value_now (target_of m.probe) (dp_read_of 0x4), has_read is)
  by_response Wait is = inr (unread (λ good. cc (good, is)))
  by_response Fault is = inr (unread (λ good. cc (good, is)))
  by_response Mismatch is = inr (unread (λ good. cc (good, is)))

-- ---- by how the flight ended

came_once : (values : List (Option ℕ)) (value : ℕ) (m o : BenchState) → value ≡ unwrap_or (slot_at values 0) 0 → CanFly m → HasFlown Transfer look (whole_part look values) m o → HasRead value m o
came_once values value m o is flies h =
    let one : values ≡ Some (value_now (target_of m.probe) (dp_read_of 0x4)) ∷ [] = h.does.values in
    let same : value ≡ value_now (target_of m.probe) (dp_read_of 0x4) = is ∙ ap (λ (v : List (Option ℕ)). unwrap_or (slot_at v 0) 0) one in
    subst (λ (v : ℕ). HasRead v m o) (sym same) (has_read m o (whole_part look values) flies h.does (h.once refl refl) (ap (λ (e : ExecutorState). e.idle) h.executor) refl)

cut_once : (cut : Cut) (values : List (Option ℕ)) (m o : BenchState) (r : Option Response) → response_of cut.response ≡ r → CanFly m → FlewCut Transfer look cut values r m o → (cut.response ≡ 0x02) × HasWaited m o
cut_once cut values m o None named flies h = absurd h
cut_once cut values m o (Some Good) named flies h = absurd (h.0 refl)
cut_once cut values m o (Some Mismatch) named flies h = absurd (h.1.does.made.never refl)
cut_once cut values m o (Some Wait) named flies h = (response_is cut.response Wait named, waited m o (cut_part cut Wait values) flies h.1.does (h.1.once refl refl) (ap (λ (e : ExecutorState). e.idle) h.1.executor) refl)
cut_once cut values m o (Some Fault) named flies h = absurd (never_faults m o (cut_part cut Fault values) flies h.1.does (h.1.once refl refl) (ap (λ (e : ExecutorState). e.idle) h.1.executor) refl)

failed_once : (m o : BenchState) → CanFly m → MayHaveFlown Transfer look m o → ((value : ℕ) × HasRead value m o) ⊎ IsUnread m o
failed_once m o flies may = by_either may.either
  where
    by_either : NoneOrPart Transfer look m o → ((value : ℕ) × HasRead value m o) ⊎ IsUnread m o
    by_either (inl same) = inr (record { target = ap (λ (p : TransferState). p.line.target) same; work = (let w = ap (λ (p : TransferState). p.work) same in omega (arith, w)); idle_cycles = may.idle_cycles })
    by_either (inr (part, does, once)) = by_response m o part flies does (once refl refl) may.idle_cycles part.response refl

left_once : (end : FlightEnd) (values : List (Option ℕ)) (m o : BenchState) → CanFly m → Flew Transfer look (Some end) values m o → ReadOrNot end m o
left_once (ends.Cut cut) values m o flies h = cut_once cut values m o (response_of cut.response) refl flies h
left_once ends.BenchFault values m o flies h = failed_once m o flies h
left_once ends.ReplyBad values m o flies h = h

-- ---- over a bench

sent_once : (limits : Limits) (accesses : List RegAccess) (e : Option FlightEnd) (values : List (Option ℕ)) (m o : BenchState) → AreLimits limits → accesses ≡ look → SentBy (sent_form limits accesses) accesses e values m o → Flew Transfer look e values m o
sent_once limits accesses e values m o fits is h =
    subst (λ (f : Option Form). SentBy f look e values m o) (one_fits limits.packet_size limits.packet_count (dp_read_of 0x4) fits.size_low fits.size_high)
    (subst (λ (l : List RegAccess). SentBy (sent_form limits l) l e values m o) is h)

pub look_made : (x y : Option BenchState) (limits : Limits) (accesses : List RegAccess) (e : Option FlightEnd) (values : List (Option ℕ)) (value : ℕ) → AreLimits limits → accesses ≡ look → e ≡ None → value ≡ unwrap_or (slot_at values 0) 0 →
    StepsTo (λ m n. CanFly m → SentBy (sent_form limits accesses) accesses e values m n) x y → StepsTo (λ m o. CanFly m → HasRead value m o) x y
look_made x y limits accesses e values value fits is whole given h =
    steps_map _ _ (λ m o f flies. came_once values value m o given flies (subst (λ (k : Option FlightEnd). Flew Transfer look k values m o) whole (sent_once limits accesses e values m o fits is (f flies)))) x y h

pub look_left : (x y : Option BenchState) (limits : Limits) (accesses : List RegAccess) (e : Option FlightEnd) (values : List (Option ℕ)) (end : FlightEnd) → AreLimits limits → accesses ≡ look → e ≡ Some end →
    StepsTo (λ m n. CanFly m → SentBy (sent_form limits accesses) accesses e values m n) x y → StepsTo (λ m o. CanFly m → ReadOrNot end m o) x y
look_left x y limits accesses e values end fits is broke h =
    steps_map _ _ (λ m o f flies. left_once end values m o flies (subst (λ (k : Option FlightEnd). Flew Transfer look k values m o) broke (sent_once limits accesses e values m o fits is (f flies)))) x y h

-- ---- an end that names no access

pub unnamed_left : (x y : Option BenchState) (end shown : FlightEnd) → shown ≡ unnamed_end end → StepsTo (λ m o. CanFly m → ReadOrNot end m o) x y → StepsTo (λ m o. CanFly m → ReadOrNot shown m o) x y
unnamed_left x y end shown is h = subst (λ (e : FlightEnd). StepsTo (λ m o. CanFly m → ReadOrNot e m o) x y) (sym is) (by_end end h)
  where
    by_end : (e : FlightEnd) → StepsTo (λ m o. CanFly m → ReadOrNot e m o) x y → StepsTo (λ m o. CanFly m → ReadOrNot (unnamed_end e) m o) x y
    by_end (ends.Cut cut) h = h
    by_end ends.BenchFault h = h
    by_end ends.ReplyBad h = h

pub unnamed_cause : (end shown : FlightEnd) (a b : BenchReported) (packet reply : List ℕ) → shown ≡ unnamed_end end → FlightHasCause end a b packet reply → FlightHasCause shown a b packet reply
unnamed_cause end shown a b packet reply is h = subst (λ (e : FlightEnd). FlightHasCause e a b packet reply) (sym is) (by_end end h)
  where
    by_end : (e : FlightEnd) → FlightHasCause e a b packet reply → FlightHasCause (unnamed_end e) a b packet reply
    by_end (ends.Cut cut) h = h
    by_end ends.BenchFault h = h
    by_end ends.ReplyBad h = h

pub unnamed_response : (end shown : FlightEnd) → shown ≡ unnamed_end end → IsCutResponse end → IsCutResponse shown
unnamed_response end shown is h = subst IsCutResponse (sym is) (by_end end h)
  where
    by_end : (e : FlightEnd) → IsCutResponse e → IsCutResponse (unnamed_end e)
    by_end (ends.Cut cut) h = h
    by_end ends.BenchFault h = h
    by_end ends.ReplyBad h = h

pub unnamed_none : (end shown : FlightEnd) → shown ≡ unnamed_end end → NamesNoAccess shown
unnamed_none end shown is = subst NamesNoAccess (sym is) (by_end end)
  where
    by_end : (e : FlightEnd) → NamesNoAccess (unnamed_end e)
    by_end (ends.Cut cut) = (refl, refl)
    by_end ends.BenchFault = tt
    by_end ends.ReplyBad = tt

-- how a cut is answered
ends_stopped : (form : Option Form) (size : ℕ) (accesses : List RegAccess) (replies : List (List ℕ)) (end : FlightEnd) (values : List (Option ℕ)) → ReadBy form size accesses replies (Some end) values → IsCutResponse end
ends_stopped form size accesses replies ends.BenchFault values h = tt
ends_stopped form size accesses replies ends.ReplyBad values h = tt
ends_stopped None size accesses replies (ends.Cut cut) values h = absurd (let k = h.0 in cc)
ends_stopped (Some form) size accesses replies (ends.Cut cut) values h = by_found (flight_reading form size accesses replies) h
  where
    by_found : (found : Option Part) → EndsBy found (Some (ends.Cut cut)) values → IsCutResponse (ends.Cut cut)
    by_found None k = absurd k
    by_found (Some part) k = k.stopped

pub cut_stopped : (form : Option Form) (size : ℕ) (accesses : List RegAccess) (replies : List (List ℕ)) (e : Option FlightEnd) (end : FlightEnd) (values : List (Option ℕ)) → e ≡ Some end → ReadBy form size accesses replies e values → IsCutResponse end
cut_stopped form size accesses replies e end values is h = ends_stopped form size accesses replies end values (subst (λ (k : Option FlightEnd). ReadBy form size accesses replies k values) is h)
