-- A flight for which there is no room, and one that was cut by a fault.
use Rattle.std.proofs.Common.{◌≡◌, ◌⊎◌, inl, inr, ◌∙◌, ℕ, ◌<◌, ◌≤◌, true, false, List, [], ◌∷◌, ◌++◌, length, Option, Some, None, Result, Ok, Err, IfErr, MatchResult, refl, sym, subst, arith, length-append}
use Rattle.std.proofs.lemmas.Bool.{cases_lt}
use Rattle.std.specs.Prelude.{is_some}
use Rattle.access_calls.specs.Bounds as bounds
use Rattle.target_machine.specs.declared.access.RegAccess.{RegAccess}
use Rattle.dap_messages.specs.Responses.{response_of}
use Rattle.dap_messages.specs.declared.request.Response.{Response}
use Rattle.flight_forms.proofs.Capacity.{few_fit_transfer, none_fits, refused_is_full, refused_writes}
use Rattle.flight_forms.specs.Forms.{all_write_drw, fits_transfer, form_of}
use Rattle.flight_forms.specs.declared.form.Form.{Form}
use Rattle.probe_core.specs.Bench.{BenchState, StepsTo}
use Rattle.probe_core.specs.Ranges.{AreLimits}
use Rattle.probe_core.specs.declared.job.Limits.{Limits}
use Rattle.batch_packer.specs.FlightEnds.{FlewCut}
use Rattle.batch_packer.specs.FlightStates.{SentBy, has_room, sent_form}
use Rattle.batch_packer.specs.Flying.{CanFly}
use Rattle.batch_packer.specs.declared.ends.FlightEnd.{FlightEnd}
use Rattle.batch_packer.specs.declared.ends.FlightEnd.TheVariants as ends
use Rattle.bench_flights.specs.Clearing.{is_fault_end}
use Rattle.bench_flights.specs.Flown.{SendsFew}
use Rattle.bench_flights.specs.Full.{IsFull, transfer_accesses}
use Rattle.bench_flights.proofs.SendLemmas.{counted_few}
use Rattle.bench_flights.proofs.WireLemmas.{steps_map}

-- what one Transfer does not hold is more than this
transfer_full : (limits : Limits) (accesses : List RegAccess) (next : RegAccess) → AreLimits limits → form_of limits.packet_size limits.packet_count (accesses ++ next ∷ []) ≡ None → transfer_accesses limits ≤ length accesses
transfer_full limits accesses next fits none = by_size (cases_lt (length accesses) (transfer_accesses limits))
  where
    refused : fits_transfer limits.packet_size (accesses ++ next ∷ []) ≡ false
    refused = (none_fits limits.packet_size limits.packet_count (accesses ++ next ∷ []) none).0

    by_size : (length accesses < transfer_accesses limits) ⊎ (transfer_accesses limits ≤ length accesses) → transfer_accesses limits ≤ length accesses
    by_size (inl less) =
        let more = length-append accesses (next ∷ []) in
        let held : fits_transfer limits.packet_size (accesses ++ next ∷ []) ≡ true = few_fit_transfer limits.packet_size (accesses ++ next ∷ []) fits.size_high (let low = fits.size_low in omega (arith, more, less, low)) in
        absurd (let e : true ≡ false = sym held ∙ refused in cc)
    by_size (inr le) = le

-- A flight for which there is no room for one access more has the capacity of accesses. Where it and that one are writes of DRW, it has a block
-- of them.
full_by_form : (limits : Limits) (accesses : List RegAccess) (next : RegAccess) → AreLimits limits → form_of limits.packet_size limits.packet_count (accesses ++ next ∷ []) ≡ None →
    (bounds.flight_capacity limits ≤ length accesses) × (all_write_drw (accesses ++ next ∷ []) ≡ true → bounds.block_words limits ≤ length accesses)
full_by_form limits accesses next range none =
    let more = length-append accesses (next ∷ []) in
    let least = range.size_low in
    let most = range.size_high in
    let full = refused_is_full limits.packet_size limits.packet_count (accesses ++ next ∷ []) (omega (arith, least)) most none in
    ((omega (arith, full, more)), (λ write. (let w = refused_writes limits.packet_size limits.packet_count (accesses ++ next ∷ []) least most (omega (arith, more)) write none in omega (arith, w, more))))

-- a flight for which there is no room for one more has the capacity
pub room_full : (limits : Limits) (accesses : List RegAccess) (next : RegAccess) → AreLimits limits → has_room limits accesses next ≡ false → IsFull limits accesses next
room_full limits accesses next fits none = by_form (form_of limits.packet_size limits.packet_count (accesses ++ next ∷ [])) refl none
  where
    by_form : (f : Option Form) → form_of limits.packet_size limits.packet_count (accesses ++ next ∷ []) ≡ f → is_some f ≡ false → IsFull limits accesses next
    by_form None is empty = (let f = full_by_form limits accesses next fits is in record { many = f.0; words = f.1; wide = transfer_full limits accesses next fits is })
    by_form (Some form) is empty = absurd (cc)

-- a flight that was cut by a fault was one starting packet
cut_few : (form : Form) (accesses : List RegAccess) (end : FlightEnd) (values : List (Option ℕ)) (m o : BenchState) → is_fault_end end ≡ true → SentBy (Some form) accesses (Some end) values m o → SendsFew 1 m o
cut_few form accesses ends.BenchFault values m o fault h = absurd (cc)
cut_few form accesses ends.ReplyBad values m o fault h = absurd (cc)
cut_few form accesses (ends.Cut cut) values m o fault h = by_response (response_of cut.response) h
  where
    by_response : (r : Option Response) → FlewCut form accesses cut values r m o → SendsFew 1 m o
    by_response None k = absurd k
    by_response (Some response) k = counted_few m o k.1.starting

cut_few_by : (form : Option Form) (accesses : List RegAccess) (end : FlightEnd) (values : List (Option ℕ)) (m o : BenchState) → is_fault_end end ≡ true → SentBy form accesses (Some end) values m o → SendsFew 1 m o
cut_few_by None accesses end values m o fault h = absurd (let e = h.1 in cc)
cut_few_by (Some form) accesses end values m o fault h = cut_few form accesses end values m o fault h

pub cuts_few : {A : Type 0} (x y : Option BenchState) (limits : Limits) (accesses : List RegAccess) (values : List (Option ℕ)) (e : Option FlightEnd) (result : Result A FlightEnd) → MatchResult result (λ _. e ≡ None) (λ end. e ≡ Some end) →
    StepsTo (λ m n. CanFly m → SentBy (sent_form limits accesses) accesses e values m n) x y → IfErr result (λ end. is_fault_end end ≡ true → StepsTo (λ m o. CanFly m → SendsFew 1 m o) x y)
cuts_few x y limits accesses values e (Ok done) is h = tt
cuts_few x y limits accesses values e (Err end) is h = λ fault.
    steps_map _ _ (λ m o f flies. cut_few_by (sent_form limits accesses) accesses end values m o fault (subst (λ (n : Option FlightEnd). SentBy (sent_form limits accesses) accesses n values m o) is (f flies))) x y h
