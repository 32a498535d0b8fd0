-- The form of a flight of a few accesses, and the bench after one Transfer that was cut.
use Rattle.std.proofs.Common.{◌≡◌, ◌∙◌, ℕ, ◌+◌, ◌*◌, ◌<◌, Bool, true, false, cond, eqb, List, [], ◌∷◌, ◌++◌, length, take, Option, Some, None, Result, Ok, Err, IfErr, refl, ap, subst, arith, length-append}
use Rattle.std.specs.Prelude.{MatchResult, bit_and, nat_le, ◌&&◌}
use Rattle.std.specs.Option.{is_some}
use Rattle.target_machine.specs.State.{TargetState}
use Rattle.target_machine.specs.declared.access.RegAccess.{RegAccess}
use Rattle.dap_messages.specs.Responses.{response_of}
use Rattle.dap_messages.specs.declared.request.Response.{Response}
use Rattle.dap_transfer.specs.State.{Setting}
use Rattle.flight_forms.specs.Forms.{all_write_drw, fits_block, fits_chain, fits_transfer}
use Rattle.flight_forms.specs.Packing.{IsTaken}
use Rattle.flight_forms.specs.declared.form.Form.{Form}
use Rattle.flight_forms.specs.declared.form.Form.TheVariants.{Block, Transfer, Chain}
use Rattle.flight_forms.proofs.Capacity.{few_fit_transfer}
use Rattle.flight_forms.proofs.Rows.{dpidr_stays}
use Rattle.probe_core.specs.Bench.{BenchState, StepsTo}
use Rattle.probe_core.specs.Ranges.{AreLimits}
use Rattle.probe_core.specs.declared.job.Limits.{Limits}
use Rattle.batch_packer.specs.FlightEnds.{FlewCut}
use Rattle.batch_packer.specs.FlightStates.{SentBy, can_resume_by, has_room, sent_form}
use Rattle.batch_packer.specs.Flying.{CanFly, transfers_of}
use Rattle.batch_packer.specs.declared.ends.Cut.{Cut}
use Rattle.batch_packer.specs.declared.ends.FlightEnd.{FlightEnd}
use Rattle.batch_packer.specs.declared.ends.FlightEnd.TheVariants as ends
use Rattle.bench_flights.specs.Clearing.{CanClear, IsOneTransfer, is_fault_end}
use Rattle.bench_flights.proofs.WireLemmas.{steps_map}

-- ---- forms

-- what one Transfer holds some form holds
some_form : (b c : Bool) → is_some (cond b (Some Block) (cond true (Some Transfer) (cond c (Some Chain) None))) ≡ true
some_form true c = refl
some_form false c = refl

fitting : (b t c : Bool) → t ≡ true → is_some (cond b (Some Block) (cond t (Some Transfer) (cond c (Some Chain) None))) ≡ true
fitting b true c h = some_form b c
fitting b false c h = absurd (cc)

-- fewer than five accesses leave room
pub few_room : (limits : Limits) (accesses : List RegAccess) (next : RegAccess) → AreLimits limits → length accesses < 4 → has_room limits accesses next ≡ true
few_room limits accesses next fits few =
    let long : length (accesses ++ next ∷ []) ≡ length accesses + 1 = length-append accesses (next ∷ []) in
    fitting (fits_block limits.packet_size (accesses ++ next ∷ [])) (fits_transfer limits.packet_size (accesses ++ next ∷ [])) (fits_chain limits.packet_size limits.packet_count (accesses ++ next ∷ []))
    (few_fit_transfer limits.packet_size (accesses ++ next ∷ []) fits.size_high (let low = fits.size_low in omega (arith, low, long, few)))

-- after one more
pub few_after : (limits now : Limits) (old accesses : List RegAccess) (last : RegAccess) → AreLimits limits → now ≡ limits → accesses ≡ old ++ last ∷ [] → (next : RegAccess) → IsTaken next → length accesses < 4 → has_room now accesses next ≡ true
few_after limits now old accesses last fits same are next taken few = ap (λ (l : Limits). has_room l accesses next) same ∙ few_room limits accesses next fits few

no_block : (a b c : Bool) → ((a && (false && b)) && c) ≡ false
no_block true b c = refl
no_block false b c = refl

by_transfer : (b t c : Bool) → b ≡ false → t ≡ true → (cond b (Some Block) (cond t (Some Transfer) (cond c (Some Chain) None))) ≡ Some Transfer
by_transfer false true c is_b is_t = refl
by_transfer true t c is_b is_t = absurd (cc)
by_transfer false false c is_b is_t = absurd (cc)

-- a few accesses that are no block are one Transfer
pub one_transfer : (limits : Limits) (accesses : List RegAccess) → AreLimits limits → IsOneTransfer accesses → sent_form limits accesses ≡ Some Transfer
one_transfer limits [] fits h = absurd h
one_transfer limits (a ∷ []) fits h =
    by_transfer (fits_block limits.packet_size (a ∷ [])) (fits_transfer limits.packet_size (a ∷ [])) (fits_chain limits.packet_size limits.packet_count (a ∷ [])) refl
    (few_fit_transfer limits.packet_size (a ∷ []) fits.size_high (let low = fits.size_low in omega (arith, low)))
one_transfer limits (a ∷ b ∷ rest) fits h =
    let short = h.0 in
    let none : fits_block limits.packet_size (a ∷ b ∷ rest) ≡ false = (let w = h.1 in rw w (no_block (nat_le 2 (length (a ∷ b ∷ rest))) (all_write_drw (b ∷ rest)) (nat_le (5 + 4 * length (a ∷ b ∷ rest)) limits.packet_size))) in
    by_transfer (fits_block limits.packet_size (a ∷ b ∷ rest)) (fits_transfer limits.packet_size (a ∷ b ∷ rest)) (fits_chain limits.packet_size limits.packet_count (a ∷ b ∷ rest)) none
    (few_fit_transfer limits.packet_size (a ∷ b ∷ rest) fits.size_high (let low = fits.size_low in omega (arith, low, short)))

-- ---- a Transfer that was cut

-- it can be used again after a fault
pub resumes : (limits : Limits) (accesses : List RegAccess) (resumable : Bool) (end : Option FlightEnd) (result : Result (Unit {0}) FlightEnd) → AreLimits limits → resumable ≡ can_resume_by (sent_form limits accesses) end →
    MatchResult result (λ _. end ≡ None) (λ e. end ≡ Some e) → IfErr result (λ e. IsOneTransfer accesses → resumable ≡ is_fault_end e)
resumes limits accesses resumable end (Ok done) fits is ended = tt
resumes limits accesses resumable end (Err (ends.Cut cut)) fits is ended = λ one. is ∙ (λ j. can_resume_by (one_transfer limits accesses fits one j) (ended j))
resumes limits accesses resumable end (Err ends.BenchFault) fits is ended = λ one. is ∙ (λ j. can_resume_by (one_transfer limits accesses fits one j) (ended j))
resumes limits accesses resumable end (Err ends.ReplyBad) fits is ended = λ one. is ∙ (λ j. can_resume_by (one_transfer limits accesses fits one j) (ended j))

flown_clear : (accesses : List RegAccess) (cut : Cut) (values : List (Option ℕ)) (r : Option Response) (m n : BenchState) → CanFly m → FlewCut Transfer accesses cut values r m n → CanClear n
flown_clear accesses cut values None m n can h = absurd h
flown_clear accesses cut values (Some response) m n can h =
    let has = h.1 in
    record {
      mask = has.mask refl;
      matches = ap (λ (s : Setting). s.matches) has.does.setting ∙ can.guard.matches;
      dpidr = ap (λ (t : TargetState). eqb (bit_and t.dpidr 1) 0) has.does.made.target ∙ ap (λ (d : ℕ). eqb (bit_and d 1) 0) (dpidr_stays (transfers_of m).line.target (take cut.performed accesses)) ∙ can.guard.dpidr;
      in_range = has.in_range;
    }

pub clears_after : (x y : Option BenchState) (limits : Limits) (accesses : List RegAccess) (values : List (Option ℕ)) (end : Option FlightEnd) (result : Result (Unit {0}) FlightEnd) → AreLimits limits →
    MatchResult result (λ _. end ≡ None) (λ e. end ≡ Some e) → StepsTo (λ m n. CanFly m → SentBy (sent_form limits accesses) accesses end values m n) x y →
    IfErr result (λ e. IsOneTransfer accesses → is_fault_end e ≡ true → StepsTo (λ m o. CanFly m → CanClear o) x y)
clears_after x y limits accesses values end (Ok done) fits ended h = tt
clears_after x y limits accesses values end (Err ends.BenchFault) fits ended h = λ one fault. absurd (cc)
clears_after x y limits accesses values end (Err ends.ReplyBad) fits ended h = λ one fault. absurd (cc)
clears_after x y limits accesses values end (Err (ends.Cut cut)) fits ended h = λ one fault.
    steps_map _ _ (λ m o f can. flown_clear accesses cut values (response_of cut.response) m o can (by_form m o one (f can))) x y h
  where
    by_form : (m o : BenchState) → IsOneTransfer accesses → SentBy (sent_form limits accesses) accesses end values m o → FlewCut Transfer accesses cut values (response_of cut.response) m o
    by_form m o one s = subst (λ (e : Option FlightEnd). SentBy (Some Transfer) accesses e values m o) ended (subst (λ (f : Option Form). SentBy f accesses end values m o) (one_transfer limits accesses fits one) s)
