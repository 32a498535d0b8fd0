-- A flight in the form that holds it.
use Rattle.std.proofs.Common.{◌≡◌, inl, inr, ℕ, ◌<◌, ◌≤◌, Bool, true, false, cond, List, [], ◌∷◌, length, Option, Some, None, refl, ap, sym, subst, arith}
use Rattle.std.specs.Prelude.{nat_le}
use Rattle.std.proofs.lemmas.Bool.{leb-true}
use Rattle.target_machine.specs.declared.access.RegAccess.{RegAccess}
use Rattle.dap_messages.specs.declared.request.Response.{Response}
use Rattle.dap_messages.specs.declared.request.Response.TheVariants.{Good, Wait, Fault, Mismatch}
use Rattle.dap_messages.specs.Responses.{code_of}
use Rattle.probe_core.specs.Bench.{BenchState, Exchange, StepsTo}
use Rattle.probe_core.specs.Ranges.{AreLimits}
use Rattle.probe_core.specs.declared.job.Limits.{Limits}
use Rattle.flight_forms.proofs.Capacity.{held_most}
use Rattle.flight_forms.proofs.Fits.{block_fits, parts_fit_packets, transfer_fits}
use Rattle.flight_forms.proofs.Rows.{good_whole}
use Rattle.flight_forms.specs.Flights.{Part}
use Rattle.flight_forms.specs.Forms.{fits_block, fits_chain, fits_transfer, form_of, parts_of}
use Rattle.flight_forms.specs.Packets.{FitsPacket, block_command, transfer_command}
use Rattle.flight_forms.specs.Packing.{AreWords}
use Rattle.flight_forms.specs.declared.form.Form.{Form}
use Rattle.flight_forms.specs.declared.form.Form.TheVariants.{Block, Transfer, Chain}
use Rattle.batch_packer.proofs.PacketLemmas.{fits_more}
use Rattle.probe_core.proofs.StateSteps.{steps_map}
use Rattle.batch_packer.specs.ChainReadings.{is_mismatch}
use Rattle.batch_packer.specs.FlightEnds.{EndsBy, Flew, end_at, end_of, flight_reading, form_reading, unless_mismatch, whole_part}
use Rattle.batch_packer.specs.Flying.{HasFlown, HasFlownBy, IsReady, IsWithin}
use Rattle.batch_packer.specs.Queues.{IsChain}
use Rattle.batch_packer.specs.Readings.{IsSeen, part_with}
use Rattle.batch_packer.specs.declared.ends.FlightEnd.{FlightEnd}
use Rattle.batch_packer.specs.declared.ends.FlightEnd.TheVariants as ends
use Rattle.batch_packer.specs.declared.part.FlightProgress.{FlightProgress}
use Rattle.dap_base.proofs.Basics.{second_true}

-- ---- what a form holds

abbrev chosen : Bool → Bool → Bool → Option Form
chosen b t c = cond b (Some Block) (cond t (Some Transfer) (cond c (Some Chain) None))

is_block : (b t c : Bool) → chosen b t c ≡ Some Block → b ≡ true
is_block true t c e = refl
is_block false true c e = absurd (cc)
is_block false false true e = absurd (cc)
is_block false false false e = absurd (cc)

is_transfer : (b t c : Bool) → chosen b t c ≡ Some Transfer → t ≡ true
is_transfer true t c e = absurd (cc)
is_transfer false true c e = refl
is_transfer false false true e = absurd (cc)
is_transfer false false false e = absurd (cc)

is_chain : (b t c : Bool) → chosen b t c ≡ Some Chain → c ≡ true
is_chain true t c e = absurd (cc)
is_chain false true c e = absurd (cc)
is_chain false false true e = refl
is_chain false false false e = absurd (cc)

pub block_sent : (limits given : Limits) (accesses : List RegAccess) → AreLimits limits → IsWithin limits given → AreWords accesses → form_of limits.packet_size limits.packet_count accesses ≡ Some Block →
    FitsPacket given.packet_size 0 (block_command accesses)
block_sent limits given accesses in_range within words is =
    fits_more limits.packet_size given.packet_size 0 (block_command accesses) within.size
    (block_fits limits.packet_size accesses (let h = in_range.size_high in omega arith) words
    (is_block (fits_block limits.packet_size accesses) (fits_transfer limits.packet_size accesses) (fits_chain limits.packet_size limits.packet_count accesses) is))

pub transfer_sent : (limits given : Limits) (accesses : List RegAccess) → 0 < length accesses → IsWithin limits given → AreWords accesses → form_of limits.packet_size limits.packet_count accesses ≡ Some Transfer →
    FitsPacket given.packet_size 0 (transfer_command accesses)
transfer_sent limits given [] some within words is = absurd (omega arith)
transfer_sent limits given (a ∷ rest) some within words is =
    fits_more limits.packet_size given.packet_size 0 (transfer_command (a ∷ rest)) within.size
    (transfer_fits limits.packet_size a rest words
    (is_transfer (fits_block limits.packet_size (a ∷ rest)) (fits_transfer limits.packet_size (a ∷ rest)) (fits_chain limits.packet_size limits.packet_count (a ∷ rest)) is))

pub few_parts : (limits : Limits) (accesses : List RegAccess) → form_of limits.packet_size limits.packet_count accesses ≡ Some Chain → length (parts_of limits.packet_size accesses) ≤ limits.packet_count
few_parts limits accesses is =
    leb-true (length (parts_of limits.packet_size accesses)) limits.packet_count
    (second_true (nat_le 2 limits.packet_count) (nat_le (length (parts_of limits.packet_size accesses)) limits.packet_count)
    (is_chain (fits_block limits.packet_size accesses) (fits_transfer limits.packet_size accesses) (fits_chain limits.packet_size limits.packet_count accesses) is))

pub chain_sent : (limits given : Limits) (accesses : List RegAccess) → 0 < length accesses → AreLimits limits → IsWithin limits given → AreWords accesses →
    form_of limits.packet_size limits.packet_count accesses ≡ Some Chain → IsChain limits.packet_size given accesses
chain_sent limits given accesses some in_range within words is = record {
  some = some;
  few = (let h = held_most limits.packet_size limits.packet_count accesses Chain in_range.size_low in_range.size_high in_range.count_low is in let c = in_range.count_high in omega arith);
  smaller = within.size;
  fits = parts_fit_packets limits.packet_size accesses in_range.size_low in_range.size_high words;
  parts = (let f = few_parts limits accesses is in let c = within.count in omega arith);
}

-- ---- how it ends

same_whole : (accesses : List RegAccess) (progress : FlightProgress) (values : List (Option ℕ)) → progress.performed ≡ length accesses → progress.confirmed ≡ length accesses → progress.response ≡ Good →
    part_with progress values ≡ whole_part accesses values
same_whole accesses progress values p k r = λ i. record { performed = p i; confirmed = k i; response = r i; values = values }

flew_one : (form : Form) (accesses : List RegAccess) (progress : FlightProgress) (values : List (Option ℕ)) (m n : BenchState) → HasFlown form accesses (part_with progress values) m n →
    Flew form accesses (end_at progress.response progress) values m n
flew_one form accesses progress values m n has = by_response progress.response refl
  where
    part_as : Response → Part
    part_as x = record { performed = progress.performed; confirmed = progress.confirmed; response = x; values = values }

    moved : (x : Response) → progress.response ≡ x → HasFlown form accesses (part_as x) m n
    moved x e = subst (λ (y : Response). HasFlown form accesses (part_as y) m n) e has

    by_response : (x : Response) → progress.response ≡ x → Flew form accesses (end_at x progress) values m n
    by_response Good e =
        let does = has.does in
        let whole = good_whole does.made e in
        subst (λ (y : Part). HasFlown form accesses y m n) (same_whole accesses progress values whole.0 whole.1 e) has
    by_response Wait e = ((λ f. absurd (cc)), moved Wait e)
    by_response Fault e = ((λ f. absurd (cc)), moved Fault e)
    by_response Mismatch e = let does = has.does in let made = does.made in absurd (made.never e)

flew_found : (form : Form) (accesses : List RegAccess) (progress : Option FlightProgress) (values : List (Option ℕ)) (m n : BenchState) → HasFlownBy form accesses progress values m n →
    Flew form accesses (end_of progress) values m n
flew_found form accesses None values m n has = absurd has
flew_found form accesses (Some progress) values m n has = flew_one form accesses progress values m n has

pub flew_so : (form : Form) (given : Limits) (accesses : List RegAccess) (progress : Option FlightProgress) (end : Option FlightEnd) (values : List (Option ℕ)) (a b : Option BenchState) → end ≡ end_of progress →
    StepsTo (λ m n. IsReady given m → HasFlownBy form accesses progress values m n) a b → StepsTo (λ m n. IsReady given m → Flew form accesses end values m n) a b
flew_so form given accesses progress end values a b is steps =
    steps_map (λ m n h ready. subst (λ (e : Option FlightEnd). Flew form accesses e values m n) (sym is) (flew_found form accesses progress values m n (h ready))) a b steps

ends_one : (progress : FlightProgress) (values : List (Option ℕ)) → EndsBy (unless_mismatch (Some (part_with progress values))) (end_at progress.response progress) values
ends_one progress values = by_response progress.response refl
  where
    by_response : (x : Response) → progress.response ≡ x → EndsBy (cond (is_mismatch x) None (Some (part_with progress values))) (end_at x progress) values
    by_response Good e = record { response = e; seen = refl }
    by_response Wait e = record { performed = refl; confirmed = refl; response = ap code_of (sym e); stopped = inl refl; seen = refl }
    by_response Fault e = record { performed = refl; confirmed = refl; response = ap code_of (sym e); stopped = inr refl; seen = refl }
    by_response Mismatch e = tt

ends_seen : (found : Option Part) (progress : FlightProgress) (values : List (Option ℕ)) → IsSeen found (Some progress) values → EndsBy (unless_mismatch found) (end_at progress.response progress) values
ends_seen None progress values h = absurd h
ends_seen (Some part) progress values h = subst (λ (x : Part). EndsBy (unless_mismatch (Some x)) (end_at progress.response progress) values) (sym h) (ends_one progress values)

ends_found : (found : Option Part) (progress : Option FlightProgress) (values : List (Option ℕ)) → IsSeen found progress values → EndsBy (unless_mismatch found) (end_of progress) values
ends_found None None values h = tt
ends_found None (Some progress) values h = absurd h
ends_found (Some part) None values h = absurd h
ends_found (Some part) (Some progress) values h = ends_seen (Some part) progress values h

pub ends_so : (form : Form) (size : ℕ) (accesses : List RegAccess) (packets replies : List (List ℕ)) (last : Exchange) (progress : Option FlightProgress) (end : Option FlightEnd) (values : List (Option ℕ)) →
    last ≡ record { packets = packets; replies = replies } → end ≡ end_of progress → IsSeen (form_reading form size accesses replies) progress values →
    EndsBy (flight_reading form size accesses last.replies) end values
ends_so form size accesses packets replies last progress end values kept is seen =
    subst (λ (x : Exchange). EndsBy (flight_reading form size accesses x.replies) end values) (sym kept)
    (subst (λ (e : Option FlightEnd). EndsBy (flight_reading form size accesses replies) e values) (sym is) (ends_found (form_reading form size accesses replies) progress values seen))

ends_failed : (found : Option Part) (values : List (Option ℕ)) → EndsBy found (Some ends.BenchFault) values
ends_failed None values = tt
ends_failed (Some part) values = tt

pub ends_fault : (form : Form) (size : ℕ) (accesses : List RegAccess) (replies : List (List ℕ)) (values : List (Option ℕ)) → EndsBy (flight_reading form size accesses replies) (Some ends.BenchFault) values
ends_fault form size accesses replies values = ends_failed (flight_reading form size accesses replies) values
