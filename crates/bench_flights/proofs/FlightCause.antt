-- The cause of the end of a flight: which of its packets and replies shows it.
use Rattle.std.proofs.Common.{◌≡◌, ◌⊎◌, inl, inr, ◌∙◌, ℕ, zero, suc, ◌+◌, ◌-◌, ◌*◌, ◌/◌, ◌<◌, ◌≤◌, Bool, true, false, cond, List, [], ◌∷◌, ◌++◌, length, take, Option, Some, None, Ok, Err, Result, IfErr, MatchResult, refl, sym, ap, subst, arith, append-nil, append_assoc}
use Rattle.std.specs.Prelude.{nat_le, slice_get}
use Rattle.std.proofs.lemmas.Bool.{eq-eqb, leb-true, le-leb, lt-ltb}
use Rattle.target_machine.specs.declared.access.RegAccess.{RegAccess}
use Rattle.dap_messages.specs.Commands.{alone, command_bytes}
use Rattle.dap_messages.specs.PacketReading.{packet_read}
use Rattle.dap_replies.specs.ReplyViews.{Shown}
use Rattle.dap_replies.specs.ReplyReading.{reply_read}
use Rattle.dap_messages.specs.Requests.{reads_in}
use Rattle.dap_messages.specs.Responses.{code_of, response_of}
use Rattle.dap_messages.specs.declared.command_value.CommandValue.{CommandValue}
use Rattle.dap_messages.specs.declared.error.MessageError.{MessageError}
use Rattle.dap_messages.specs.declared.request.Request.{Request}
use Rattle.dap_messages.specs.declared.request.Response.{Response}
use Rattle.dap_messages.specs.declared.request.Response.TheVariants.{Good, Wait, Fault, Mismatch}
use Rattle.dap_messages.proofs.PacketLaws.{alone_is_read}
use Rattle.dap_replies.proofs.ReplyLaws.{response-code}
use Rattle.flight_forms.specs.Chains.{nothing_yet}
use Rattle.flight_forms.specs.Flights.{Part, part_of}
use Rattle.flight_forms.specs.Forms.{bytes_in, filled_parts, fits_guarded, fits_transfer, form_of, parts_of}
use Rattle.flight_forms.specs.Packets.{FitChain, block_command, transfer_command}
use Rattle.flight_forms.specs.Packing.{AreWords, requests_for}
use Rattle.flight_forms.specs.declared.form.Form.{Form}
use Rattle.flight_forms.specs.declared.form.Form.TheVariants.{Block, Transfer, Chain}
use Rattle.flight_forms.proofs.Capacity.{one_fits}
use Rattle.flight_forms.proofs.Fits.{parts_fit_packets}
use Rattle.flight_forms.proofs.SizeLemmas.{some_parts}
use Rattle.flight_forms.proofs.RequestSizes.{three_parts, three_from}
use Rattle.probe_core.specs.Ranges.{AreLimits}
use Rattle.probe_core.specs.declared.job.Limits.{Limits}
use Rattle.probe_core.specs.Bench.{Exchange}
use Rattle.probe_core.specs.Bench.{Reported as BenchReported}
use Rattle.access_calls.specs.Causes.{HasResponse, IsBadReply, is_queue}
use Rattle.batch_packer.specs.ChainReadings.{is_mismatch, readings_after}
use Rattle.batch_packer.proofs.FormLemmas.{block_sent, transfer_sent}
use Rattle.batch_packer.specs.Alone.{one_reading}
use Rattle.batch_packer.specs.FlightEnds.{HasEndCause as HasFaultCause}
use Rattle.batch_packer.specs.FlightStates.{FlightState, ReadBy, item_at, items_kept, sent_form}
use Rattle.batch_packer.specs.Kept.{AreCounted, AreReplied, AreSent, EndedAt, form_ended_at, form_packets}
use Rattle.bench_flights.specs.Flown.{FlightHasCause}
use Rattle.batch_packer.specs.FlightEnds.{EndsBy, flight_reading, got_replies, unless_mismatch}
use Rattle.batch_packer.specs.declared.ends.Cut.{Cut}
use Rattle.batch_packer.specs.declared.ends.FlightEnd.{FlightEnd}
use Rattle.batch_packer.specs.declared.ends.FlightEnd.TheVariants as ends
use Rattle.batch_packer.specs.Readings.{part_as, part_in, reading, shown_in}
use Rattle.batch_packer.proofs.ChainBench.{packet_count}
use Rattle.bench_flights.proofs.CauseLemmas.{IsShownAt, ShowsEnd, bad_alone, end_cause}
use Rattle.bench_flights.proofs.ChainCause.{ComesTo, block_view, chain_shows, transfer_view}

-- ---- a flight in one packet

-- the one reply to a command of a flight shows how it ended
one_shows : (c : CommandValue) (rs : List Request) (last : Exchange) (end : FlightEnd) (values : List (Option ℕ)) → packet_read (command_bytes c) ≡ Ok (alone c) → last.packets ≡ command_bytes c ∷ [] → (reply : List ℕ) → last.replies ≡ reply ∷ [] →
    ((bytes : List ℕ) (view : Shown) → reply_read c bytes ≡ Ok view → (r : Response) × (view.response ≡ code_of r) × (r ≡ Mismatch → ⊥)) → EndsBy (unless_mismatch (reading c 0 rs reply)) (Some end) values → ShowsEnd end last 0
one_shows c rs last end values reads packets reply replies views by = by_result (reply_read c reply) refl by
  where
    sent : slice_get last.packets 0 ≡ Some (command_bytes c)
    sent = ap (λ (l : List (List ℕ)). slice_get l 0) packets

    got : slice_get last.replies 0 ≡ Some reply
    got = ap (λ (l : List (List ℕ)). slice_get l 0) replies

    cut_one : (view : Shown) (r : Response) → reply_read c reply ≡ Ok view → view.response ≡ code_of r → (cut : Cut) → cut.response ≡ code_of r → IsShownAt (HasResponse cut.response) last 0
    cut_one view r read code cut is = record {
      packet = command_bytes c;
      reply = reply;
      sent = sent;
      got = got;
      so = record {
        shows = view ∷ [];
        reply = record {
          packet = alone c;
          reply = reply;
          replied = record { bytes = command_bytes c; sent = sent; reads = reads; got = got };
          shown = record { parts = reply ∷ []; replies = (read, tt); bytes = sym (append-nil reply) };
        };
        has = rw (eq-eqb view.response cut.response (code ∙ sym is)) refl;
      };
    }

    by_end : (view : Shown) (r : Response) → reply_read c reply ≡ Ok view → view.response ≡ code_of r → (r ≡ Mismatch → ⊥) → (e : FlightEnd) → EndsBy (unless_mismatch (Some (part_of (take (view.count - 0) rs) r view.words))) (Some e) values → ShowsEnd e last 0
    by_end view r read code never ends.BenchFault h = tt
    by_end view Good read code never ends.ReplyBad h = absurd h
    by_end view Wait read code never ends.ReplyBad h = absurd h
    by_end view Fault read code never ends.ReplyBad h = absurd h
    by_end view Mismatch read code never ends.ReplyBad h = absurd (never refl)
    by_end view Good read code never (ends.Cut cut) h = cut_one view Good read code cut h.response
    by_end view Wait read code never (ends.Cut cut) h = cut_one view Wait read code cut h.response
    by_end view Fault read code never (ends.Cut cut) h = cut_one view Fault read code cut h.response
    by_end view Mismatch read code never (ends.Cut cut) h = absurd (never refl)

    none_end : (e : FlightEnd) → shown_in (reply_read c reply) ≡ None → EndsBy None (Some e) values → ShowsEnd e last 0
    none_end ends.BenchFault none h = tt
    none_end ends.ReplyBad none h = bad_alone c (command_bytes c) reply last reads packets replies none
    none_end (ends.Cut cut) none h = absurd h

    by_result : (found : Result Shown MessageError) → reply_read c reply ≡ found → EndsBy (unless_mismatch (part_in 0 rs (shown_in found))) (Some end) values → ShowsEnd end last 0
    by_result (Err fault) read h = none_end end (ap shown_in read) h
    by_result (Ok view) read h =
        let v = views reply view read in
        by_end view v.0 read v.1 v.2 end (subst (λ (o : Option Response). EndsBy (unless_mismatch (part_as 0 rs view o)) (Some end) values) (ap response_of v.1 ∙ response-code v.0) h)

single_reply : (replies : List (List ℕ)) → length replies ≡ 1 → (reply : List ℕ) × (replies ≡ reply ∷ [])
single_reply [] long = absurd (omega (arith, long))
single_reply (reply ∷ []) long = (reply, refl)
single_reply (reply ∷ other ∷ replies) long = absurd (omega (arith, long))

-- ---- a chain has two packets or more

-- where there is one part alone, all accesses fit it
filled_one : (size : ℕ) (part rest : List RegAccess) → length (filled_parts size part rest) ≡ 1 → (rest ≡ []) ⊎ (fits_guarded size (part ++ rest) ≡ true)
filled_one size part [] one = inl refl
filled_one size part (a ∷ rest) one = inr (by_fit (fits_guarded size (part ++ a ∷ [])) refl one (λ e. filled_one size (part ++ a ∷ []) rest e))
  where
    by_fit : (b : Bool) → fits_guarded size (part ++ a ∷ []) ≡ b → length (cond b (filled_parts size (part ++ a ∷ []) rest) (part ∷ filled_parts size (a ∷ []) rest)) ≡ 1 →
        (length (filled_parts size (part ++ a ∷ []) rest) ≡ 1 → (rest ≡ []) ⊎ (fits_guarded size ((part ++ a ∷ []) ++ rest) ≡ true)) → fits_guarded size (part ++ a ∷ rest) ≡ true
    by_fit false fit one go = absurd (let s = some_parts size (a ∷ []) rest in omega (arith, one, s))
    by_fit true fit one go = by_rest (go one)
      where
        by_rest : (rest ≡ []) ⊎ (fits_guarded size ((part ++ a ∷ []) ++ rest) ≡ true) → fits_guarded size (part ++ a ∷ rest) ≡ true
        by_rest (inl none) = ap (λ (l : List RegAccess). fits_guarded size (part ++ a ∷ l)) none ∙ fit
        by_rest (inr all) = ap (fits_guarded size) (sym (append_assoc part (a ∷ []) rest)) ∙ all

-- what fits a guarded Transfer fits one without a guard
guarded_transfer : (size : ℕ) (accesses : List RegAccess) → 64 ≤ size → fits_guarded size accesses ≡ true → fits_transfer size accesses ≡ true
guarded_transfer size accesses least fit =
    let rs : List Request = requests_for false accesses in
    let t = three_parts (nat_le (bytes_in rs + 21) size) (nat_le (reads_in rs) ((size - 9) / 4)) (nat_le (length rs) 251) fit in
    let bytes : bytes_in rs + 21 ≤ size = leb-true _ _ t.0 in
    let reads : reads_in rs ≤ (size - 9) / 4 = leb-true _ _ t.1 in
    let few : length rs ≤ 251 = leb-true _ _ t.2 in
    three_from (nat_le (3 + bytes_in rs) size) (nat_le (3 + 4 * reads_in rs) size) (nat_le (length rs) 255)
    (le-leb _ _ (omega (arith, bytes))) (le-leb _ _ (omega (arith, reads, least))) (le-leb _ _ (omega (arith, few)))

not_transfer : (b t c : Bool) → cond b (Some Block) (cond t (Some Transfer) (cond c (Some Chain) None)) ≡ Some Chain → t ≡ false
not_transfer true t c h = absurd (cc)
not_transfer false true c h = absurd (cc)
not_transfer false false c h = refl

chain_parts : (size count : ℕ) (accesses : List RegAccess) → 64 ≤ size → size ≤ 1024 → form_of size count accesses ≡ Some Chain → 0 < length accesses → 2 ≤ length (parts_of size accesses)
chain_parts size count [] least most is some = absurd (omega (arith, some))
chain_parts size count (a ∷ rest) least most is some = by_one (length (filled_parts size (a ∷ []) rest)) refl (some_parts size (a ∷ []) rest)
  where
    unfit : fits_transfer size (a ∷ rest) ≡ false
    unfit = not_transfer _ _ _ is

    by_which : (rest ≡ []) ⊎ (fits_guarded size ((a ∷ []) ++ rest) ≡ true) → ⊥
    by_which (inl none) = (let alone : form_of size count (a ∷ rest) ≡ Some Transfer = ap (λ (l : List RegAccess). form_of size count (a ∷ l)) none ∙ one_fits size count a least most in cc (alone, is))
    by_which (inr fit) = (let t = guarded_transfer size (a ∷ rest) least fit in cc (t, unfit))

    by_one : (n : ℕ) → length (filled_parts size (a ∷ []) rest) ≡ n → 1 ≤ n → 2 ≤ length (filled_parts size (a ∷ []) rest)
    by_one zero is some = absurd (omega (arith, some))
    by_one (suc zero) is some = absurd (by_which (filled_one size (a ∷ []) rest is))
    by_one (suc (suc n)) is some = omega (arith, is)

mismatch_of : (r : Response) → is_mismatch r ≡ true → r ≡ Mismatch
mismatch_of Good h = absurd (cc)
mismatch_of Wait h = absurd (cc)
mismatch_of Fault h = absurd (cc)
mismatch_of Mismatch h = refl

-- ---- any flight

chain_end : (last : Exchange) (at : ℕ) (end : FlightEnd) (values : List (Option ℕ)) (size : ℕ) (short : size ≤ 1024) (queue : is_queue last ≡ true) (found : Option Part) → ComesTo size last short queue found at → EndsBy (unless_mismatch found) (Some end) values → ShowsEnd end last at
chain_end last at ends.BenchFault values size short queue found comes h = tt
chain_end last at ends.ReplyBad values size short queue None comes h = comes
chain_end last at (ends.Cut cut) values size short queue None comes h = absurd h
chain_end last at ends.ReplyBad values size short queue (Some part) comes h = by_mismatch (is_mismatch part.response) refl h comes
  where
    by_mismatch : (b : Bool) → is_mismatch part.response ≡ b → EndsBy (cond b None (Some part)) (Some ends.ReplyBad) values → (part.response ≡ Good) ⊎ (IsShownAt (HasResponse (code_of part.response)) last at × (part.response ≡ Mismatch → ⊥)) → IsShownAt IsBadReply last at
    by_mismatch false is h c = absurd h
    by_mismatch true is h (inl good) = absurd (let m = ap is_mismatch good in cc (m, is))
    by_mismatch true is h (inr cut) = absurd (cut.1 (mismatch_of part.response is))
chain_end last at (ends.Cut cut) values size short queue (Some part) comes h = by_mismatch (is_mismatch part.response) refl h comes
  where
    by_mismatch : (b : Bool) → is_mismatch part.response ≡ b → EndsBy (cond b None (Some part)) (Some (ends.Cut cut)) values → (part.response ≡ Good) ⊎ (IsShownAt (HasResponse (code_of part.response)) last at × (part.response ≡ Mismatch → ⊥)) → IsShownAt (HasResponse cut.response) last at
    by_mismatch true is h c = absurd h
    by_mismatch false is h (inl good) = absurd (let s = h.stopped in let one : cut.response ≡ 0x01 = h.response ∙ ap code_of good in omega (arith, s, one))
    by_mismatch false is h (inr shown) = subst (λ (n : ℕ). IsShownAt (HasResponse n) last at) (sym h.response) shown.0

pub form_shows : (form : Form) (limits : Limits) (accesses : List RegAccess) (last : Exchange) (end : FlightEnd) (values : List (Option ℕ)) (at : ℕ) → form_of limits.packet_size limits.packet_count accesses ≡ Some form → 0 < length accesses → AreLimits limits → AreWords accesses →
    EndsBy (flight_reading form limits.packet_size accesses last.replies) (Some end) values → last.packets ≡ form_packets form limits.packet_size accesses → length last.replies ≡ length last.packets →
    at ≡ form_ended_at form limits.packet_size accesses last.replies → ShowsEnd end last at
form_shows Block limits accesses last end values at is some fits words h packets long at_is =
    let r = single_reply last.replies (long ∙ ap length packets) in
    let fit = block_sent limits limits accesses fits (record { size = omega arith; count = omega arith }) words is in
    subst (λ (n : ℕ). ShowsEnd end last n) (sym at_is)
    (one_shows (block_command accesses) (requests_for false accesses) last end values
    (alone_is_read (block_command accesses) fit.command (let b = fit.bytes in let s = fits.size_high in omega (arith, b, s))) packets r.0 r.1 (block_view accesses)
    (subst (λ (l : List (List ℕ)). EndsBy (unless_mismatch (one_reading true accesses l)) (Some end) values) r.1 h))
form_shows Transfer limits accesses last end values at is some fits words h packets long at_is =
    let r = single_reply last.replies (long ∙ ap length packets) in
    let fit = transfer_sent limits limits accesses some (record { size = omega arith; count = omega arith }) words is in
    subst (λ (n : ℕ). ShowsEnd end last n) (sym at_is)
    (one_shows (transfer_command accesses) (requests_for false accesses) last end values
    (alone_is_read (transfer_command accesses) fit.command (let b = fit.bytes in let s = fits.size_high in omega (arith, b, s))) packets r.0 r.1 (transfer_view accesses)
    (subst (λ (l : List (List ℕ)). EndsBy (unless_mismatch (one_reading false accesses l)) (Some end) values) r.1 h))
form_shows Chain limits accesses last end values at is some fits words h packets long at_is =
    let size : ℕ = limits.packet_size in
    let many : 2 ≤ length last.packets = (let p = chain_parts limits.packet_size limits.packet_count accesses fits.size_low fits.size_high is some in let n = ap length packets ∙ packet_count (parts_of limits.packet_size accesses) in omega (arith, p, n)) in
    let queue : is_queue last ≡ true = lt-ltb 1 (length last.packets) (omega (arith, many)) in
    let fit : FitChain limits.packet_size (parts_of limits.packet_size accesses) = parts_fit_packets limits.packet_size accesses fits.size_low fits.size_high words in
    subst (λ (n : ℕ). ShowsEnd end last n) (sym at_is)
    (chain_end last _ end values limits.packet_size fits.size_high queue (readings_after (Some nothing_yet) (parts_of limits.packet_size accesses) last.replies)
    (chain_shows limits.packet_size last fits.size_high queue (parts_of limits.packet_size accesses) fit packets long) h)

-- what the layer below says of the end of a flight, in one record
pub record IsFlightEnd (form : Option Form) (size : ℕ) (accesses : List RegAccess) (e : Option FlightEnd) (old new : BenchReported) (f : FlightState) (values : List (Option ℕ)) : Type 0 where
  pub cause : HasFaultCause old.faults new.faults e
  pub read : ReadBy form size accesses new.last.replies e values
  pub sent : got_replies e ≡ true → AreSent form size accesses new.last.packets
  pub replied : got_replies e ≡ true → AreReplied form new.last
  pub counted_are : got_replies e ≡ true → AreCounted form old.exchanges new.exchanges
  pub packets_are : f.packets ≡ items_kept e new.last.packets
  pub replies_are : f.replies ≡ items_kept e new.last.replies
  pub at : got_replies e ≡ true → EndedAt form size accesses new.last.replies f.at

has_form : (limits : Limits) (accesses : List RegAccess) (form : Form) → sent_form limits accesses ≡ Some form → (form_of limits.packet_size limits.packet_count accesses ≡ Some form) × (0 < length accesses)
has_form limits [] form is = absurd (cc)
has_form limits (a ∷ rest) form is = (is, omega arith)

flight_ended : (limits : Limits) (accesses : List RegAccess) (end : FlightEnd) (old new : BenchReported) (f : FlightState) (values : List (Option ℕ)) (form : Option Form) → sent_form limits accesses ≡ form → AreLimits limits → AreWords accesses →
    IsFlightEnd form limits.packet_size accesses (Some end) old new f values → FlightHasCause end old new (item_at f.packets f.at) (item_at f.replies f.at)
flight_ended limits accesses end old new f values None is fits words h = absurd (let r = h.read.0 in cc)
flight_ended limits accesses end old new f values (Some form) is fits words h =
    let there = has_form limits accesses form is in
    end_cause end old new f.packets f.replies f.at
    (record {
      cause = h.cause;
      exchanges = h.counted_are;
      packets_are = h.packets_are;
      replies_are = h.replies_are;
      shows = λ got. form_shows form limits accesses new.last end values f.at there.0 there.1 fits words h.read (h.sent got) (h.replied got) (h.at got);
    })

pub send_cause : {A : Type 0} (limits : Limits) (accesses : List RegAccess) (result : Result A FlightEnd) (old new : BenchReported) (f : FlightState) (values : List (Option ℕ)) → AreLimits limits → AreWords accesses →
    MatchResult result (λ _. f.end ≡ None) (λ end. f.end ≡ Some end) → IsFlightEnd (sent_form limits accesses) limits.packet_size accesses f.end old new f values → IfErr result (λ end. FlightHasCause end old new (item_at f.packets f.at) (item_at f.replies f.at))
send_cause limits accesses (Ok done) old new f values fits words is h = tt
send_cause limits accesses (Err end) old new f values fits words is h =
    flight_ended limits accesses end old new f values (sent_form limits accesses) refl fits words (subst (λ (e : Option FlightEnd). IsFlightEnd (sent_form limits accesses) limits.packet_size accesses e old new f values) is h)
