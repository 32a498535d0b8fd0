-- The cause of the end of a poll: the one reply to its packet.
use Rattle.std.proofs.Common.{◌≡◌, ◌⊎◌, inl, inr, ◌∙◌, ℕ, zero, suc, ◌-◌, ◌≤◌, Bool, true, false, cond, List, [], ◌∷◌, length, take, Option, Some, None, Ok, Err, Result, IfErr, MatchResult, refl, sym, ap, subst, arith}
use Rattle.std.proofs.Math.Bool.{or-true}
use Rattle.std.specs.Prelude.{◌&&◌, is_some, nat_lt, ◌==◌, slice_get, slice_index, slice_range}
use Rattle.std.specs.List.{concat, list_any}
use Rattle.std.proofs.lemmas.Bool.{eq-eqb, eqb-true, and_from}
use Rattle.dap_messages.specs.Commands.{Packet, packet_bytes}
use Rattle.dap_messages.specs.PacketReading.{packet_read}
use Rattle.dap_messages.specs.Replies.{TransferProgress, progress_at}
use Rattle.dap_replies.specs.ReplyViews.{Shown}
use Rattle.dap_messages.specs.Requests.{reads_in}
use Rattle.dap_replies.specs.ReplyReading.{is_missing, reply_read, words_given}
use Rattle.dap_messages.specs.declared.error.MessageError.{MessageError}
use Rattle.dap_messages.specs.Responses.{code_of, response_of}
use Rattle.dap_messages.specs.declared.command.PacketKind.TheVariants.{Execute}
use Rattle.dap_messages.specs.declared.command_value.CommandValue.{CommandValue}
use Rattle.dap_messages.specs.declared.command_value.CommandValue.TheVariants.{Configure, Transfer}
use Rattle.dap_messages.specs.declared.request.Response.{Response}
use Rattle.dap_messages.specs.declared.request.Response.TheVariants.{Good, Wait, Fault, Mismatch}
use Rattle.flight_forms.specs.Polls.{clear_mask, poll_commands, poll_requests}
use Rattle.probe_core.specs.Bench.{Exchange}
use Rattle.probe_core.specs.Bench.{Reported as BenchReported}
use Rattle.access_calls.specs.Causes.{AreReplies, HasFront, HasResponse, ReplyShows, is_queue}
use Rattle.batch_packer.specs.FlightEnds.{got_replies}
use Rattle.batch_packer.specs.FlightStates.{FlightState, item_at}
use Rattle.batch_packer.specs.Polling.{is_framed, is_of_four, is_read, match_by, match_end, matched_in, matched_read, packet_of, poll_cut}
use Rattle.batch_packer.specs.Readings.{shown_in}
use Rattle.batch_packer.specs.declared.ends.FlightEnd.{FlightEnd}
use Rattle.batch_packer.specs.declared.ends.FlightEnd.TheVariants as ends
use Rattle.probe_core.specs.declared.job.Config.{Config}
use Rattle.batch_packer.specs.declared.poll.PollAsk.{PollAsk}
use Rattle.dap_replies.proofs.ReplyLaws.{response_is}
use Rattle.batch_packer.proofs.PacketLemmas.{reads_packet}
use Rattle.batch_packer.proofs.PollLemmas.{IsPoll, poll_is_packet}
use Rattle.bench_flights.specs.Flown.{FlightHasCause, IsUnnamed}
use Rattle.bench_flights.proofs.CauseLemmas.{IsEndBelow, IsShownAt, ShowsEnd, below_is}
use Rattle.bench_flights.proofs.ReplyReads.{configure_long, transfer_read}
use Rattle.dap_base.proofs.Basics.{first_true, second_true}

-- a list of two numbers, or of three
two_of : (xs : List ℕ) → length xs ≡ 2 → (a : ℕ) × (b : ℕ) × (xs ≡ a ∷ b ∷ [])
two_of [] long = absurd (omega (arith, long))
two_of (a ∷ []) long = absurd (omega (arith, long))
two_of (a ∷ b ∷ []) long = (a, b, refl)
two_of (a ∷ b ∷ c ∷ xs) long = absurd (omega (arith, long))

three_of : (xs : List ℕ) → length xs ≡ 3 → (a : ℕ) × (b : ℕ) × (c : ℕ) × (xs ≡ a ∷ b ∷ c ∷ [])
three_of [] long = absurd (omega (arith, long))
three_of (a ∷ []) long = absurd (omega (arith, long))
three_of (a ∷ b ∷ []) long = absurd (omega (arith, long))
three_of (a ∷ b ∷ c ∷ []) long = (a, b, c, refl)
three_of (a ∷ b ∷ c ∷ d ∷ xs) long = absurd (omega (arith, long))

-- a list of twelve numbers
record Twelve (xs : List ℕ) : Type 0 where
  a : ℕ
  b : ℕ
  c : ℕ
  d : ℕ
  e : ℕ
  f : ℕ
  g : ℕ
  h : ℕ
  i : ℕ
  j : ℕ
  k : ℕ
  l : ℕ
  are : xs ≡ a ∷ b ∷ c ∷ d ∷ e ∷ f ∷ g ∷ h ∷ i ∷ j ∷ k ∷ l ∷ []

twelve_of : (xs : List ℕ) → length xs ≡ 12 → Twelve xs
twelve_of [] long = absurd (omega (arith, long))
twelve_of (a ∷ []) long = absurd (omega (arith, long))
twelve_of (a ∷ b ∷ []) long = absurd (omega (arith, long))
twelve_of (a ∷ b ∷ c ∷ []) long = absurd (omega (arith, long))
twelve_of (a ∷ b ∷ c ∷ d ∷ []) long = absurd (omega (arith, long))
twelve_of (a ∷ b ∷ c ∷ d ∷ e ∷ []) long = absurd (omega (arith, long))
twelve_of (a ∷ b ∷ c ∷ d ∷ e ∷ f ∷ []) long = absurd (omega (arith, long))
twelve_of (a ∷ b ∷ c ∷ d ∷ e ∷ f ∷ g ∷ []) long = absurd (omega (arith, long))
twelve_of (a ∷ b ∷ c ∷ d ∷ e ∷ f ∷ g ∷ h ∷ []) long = absurd (omega (arith, long))
twelve_of (a ∷ b ∷ c ∷ d ∷ e ∷ f ∷ g ∷ h ∷ i ∷ []) long = absurd (omega (arith, long))
twelve_of (a ∷ b ∷ c ∷ d ∷ e ∷ f ∷ g ∷ h ∷ i ∷ j ∷ []) long = absurd (omega (arith, long))
twelve_of (a ∷ b ∷ c ∷ d ∷ e ∷ f ∷ g ∷ h ∷ i ∷ j ∷ k ∷ []) long = absurd (omega (arith, long))
twelve_of (a ∷ b ∷ c ∷ d ∷ e ∷ f ∷ g ∷ h ∷ i ∷ j ∷ k ∷ l ∷ []) long = record { a = a; b = b; c = c; d = d; e = e; f = f; g = g; h = h; i = i; j = j; k = k; l = l; are = refl }
twelve_of (a ∷ b ∷ c ∷ d ∷ e ∷ f ∷ g ∷ h ∷ i ∷ j ∷ k ∷ l ∷ x ∷ xs) long = absurd (omega (arith, long))

-- ---- its commands

match_reads : (mask requested n : ℕ) → n ≤ 2 → reads_in (take n (poll_requests mask requested)) ≡ 0
match_reads mask requested zero few = refl
match_reads mask requested (suc zero) few = refl
match_reads mask requested (suc (suc zero)) few = refl
match_reads mask requested (suc (suc (suc n))) few = absurd (omega (arith, few))

clear_reads : (n : ℕ) → n ≤ 1 → reads_in (take n clear_mask) ≡ 0
clear_reads zero few = refl
clear_reads (suc zero) few = refl
clear_reads (suc (suc n)) few = absurd (omega (arith, few))

none_given : (p : TransferProgress) (missing : Bool) → p.reads ≡ 0 → words_given p missing ≡ 0
none_given p true none = omega (arith, none)
none_given p false none = none

match_long : (mask requested : ℕ) (bytes : List ℕ) (s : Shown) → reply_read (Transfer (poll_requests mask requested)) bytes ≡ Ok s → length bytes ≡ 3
match_long mask requested bytes s e =
    let t = transfer_read (poll_requests mask requested) bytes s e in
    let w = none_given (progress_at (poll_requests mask requested) t.count) (is_missing t.response (progress_at (poll_requests mask requested) t.count) t.rest) (match_reads mask requested t.count t.within) in
    (let l = ap length t.bytes_are in let n = t.long in omega (arith, l, n, w))

clear_long : (bytes : List ℕ) (s : Shown) → reply_read (Transfer clear_mask) bytes ≡ Ok s → length bytes ≡ 3
clear_long bytes s e =
    let t = transfer_read clear_mask bytes s e in
    let w = none_given (progress_at clear_mask t.count) (is_missing t.response (progress_at clear_mask t.count) t.rest) (clear_reads t.count t.within) in
    (let l = ap length t.bytes_are in let n = t.long in omega (arith, l, n, w))

-- ---- a reply that its packet may get

-- the reply to the first of several commands, and those to the others
record OneOf (c : CommandValue) (cs : List CommandValue) (parts : List (List ℕ)) (shows : List Shown) : Type 0 where
  part : List ℕ
  show : Shown
  later : List (List ℕ)
  others : List Shown
  parts_are : parts ≡ part ∷ later
  shows_are : shows ≡ show ∷ others
  read : reply_read c part ≡ Ok show
  rest : AreReplies cs later others

one_of : (c : CommandValue) (cs : List CommandValue) (parts : List (List ℕ)) (shows : List Shown) → AreReplies (c ∷ cs) parts shows → OneOf c cs parts shows
one_of c cs [] [] all = absurd all
one_of c cs [] (s ∷ shows) all = absurd all
one_of c cs (p ∷ parts) [] all = absurd all
one_of c cs (p ∷ parts) (s ∷ shows) all = record { part = p; show = s; later = parts; others = shows; parts_are = refl; shows_are = refl; read = all.0; rest = all.1 }

none_of : (parts : List (List ℕ)) (shows : List Shown) → AreReplies [] parts shows → parts ≡ []
none_of [] [] all = refl
none_of [] (s ∷ shows) all = absurd all
none_of (p ∷ parts) shows all = absurd (no shows all)
  where
    no : (shows : List Shown) → AreReplies [] (p ∷ parts) shows → ⊥
    no [] all = all
    no (s ∷ shows) all = all

read_true : (c : CommandValue) (part : List ℕ) (s : Shown) → reply_read c part ≡ Ok s → is_read c part ≡ true
read_true c part s e = ap (λ (r : Result Shown MessageError). is_some (shown_in r)) e

-- a value match is answered by a response
match_answers : (mask requested : ℕ) (part : List ℕ) (s : Shown) → reply_read (Transfer (poll_requests mask requested)) part ≡ Ok s → match_by (shown_in (reply_read (Transfer (poll_requests mask requested)) part)) ≡ Err ends.ReplyBad → ⊥
match_answers mask requested part s e bad =
    let t = transfer_read (poll_requests mask requested) part s e in
    by_response t.response (sym (ap (λ (r : Result Shown MessageError). match_by (shown_in r)) e ∙ ap (λ (n : ℕ). match_end (response_of n)) t.response_is) ∙ bad)
  where
    by_response : (r : Response) → match_end (response_of (code_of r)) ≡ Err ends.ReplyBad → ⊥
    by_response Good h = cc
    by_response Wait h = cc
    by_response Fault h = cc
    by_response Mismatch h = cc

module _ (config : Config) (ask : PollAsk) where
  framed_at : (a b c d e f g h i j : ℕ) → is_read (Configure config.idle config.retry (ask.turns - 1)) (a ∷ b ∷ []) ≡ true → is_read (Transfer clear_mask) (f ∷ g ∷ h ∷ []) ≡ true →
      is_read (Configure config.idle config.retry 0) (i ∷ j ∷ []) ≡ true → is_framed config ask (0x7F ∷ 4 ∷ a ∷ b ∷ c ∷ d ∷ e ∷ f ∷ g ∷ h ∷ i ∷ j ∷ []) ≡ true
  framed_at a b c d e f g h i j first clear last =
      and_from (is_read (Configure config.idle config.retry (ask.turns - 1)) (a ∷ b ∷ [])) (is_read (Transfer clear_mask) (f ∷ g ∷ h ∷ []) && is_read (Configure config.idle config.retry 0) (i ∷ j ∷ [])) first
      (and_from (is_read (Transfer clear_mask) (f ∷ g ∷ h ∷ [])) (is_read (Configure config.idle config.retry 0) (i ∷ j ∷ [])) clear last)

  -- such a reply is not bad
  never_bad : (packet : Packet) (reply : List ℕ) (shows : List Shown) → packet ≡ packet_of config ask → ReplyShows false packet reply shows → matched_in config ask reply ≡ Err ends.ReplyBad → ⊥
  never_bad packet reply shows is h bad = by_parts (subst (λ (p : Packet). AreReplies p.commands h.parts shows) is h.replies) (front (subst (λ (p : Packet). HasFront p.kind false (length p.commands) (concat h.parts) reply) is h.bytes))
    where
      front : (reply ≡ 0x7F ∷ 4 ∷ concat h.parts) ⊎ ((false ≡ true) × (reply ≡ 0x7E ∷ 4 ∷ concat h.parts)) → reply ≡ 0x7F ∷ 4 ∷ concat h.parts
      front (inl same) = same
      front (inr never) = absurd (let n = never.0 in cc)

      by_parts : AreReplies (poll_commands config.idle config.retry ask.mask ask.value ask.turns) h.parts shows → reply ≡ 0x7F ∷ 4 ∷ concat h.parts → ⊥
      by_parts all same =
          let one = one_of (Configure config.idle config.retry (ask.turns - 1)) (Transfer (poll_requests ask.mask ask.value) ∷ Transfer clear_mask ∷ Configure config.idle config.retry 0 ∷ []) h.parts shows all in
          let two = one_of (Transfer (poll_requests ask.mask ask.value)) (Transfer clear_mask ∷ Configure config.idle config.retry 0 ∷ []) one.later one.others one.rest in
          let three = one_of (Transfer clear_mask) (Configure config.idle config.retry 0 ∷ []) two.later two.others two.rest in
          let four = one_of (Configure config.idle config.retry 0) [] three.later three.others three.rest in
          let none = none_of four.later four.others four.rest in
          let ab = two_of one.part (configure_long config.idle config.retry (ask.turns - 1) one.part one.show one.read) in
          let cde = three_of two.part (match_long ask.mask ask.value two.part two.show two.read) in
          let fgh = three_of three.part (clear_long three.part three.show three.read) in
          let ij = two_of four.part (configure_long config.idle config.retry 0 four.part four.show four.read) in
          let parts : h.parts ≡ (ab.0 ∷ ab.1 ∷ []) ∷ (cde.0 ∷ cde.1 ∷ cde.2 ∷ []) ∷ (fgh.0 ∷ fgh.1 ∷ fgh.2 ∷ []) ∷ (ij.0 ∷ ij.1 ∷ []) ∷ [] =
          one.parts_are ∙ (λ x. ab.2 x ∷ (two.parts_are ∙ (λ y. cde.3 y ∷ (three.parts_are ∙ (λ z. fgh.3 z ∷ (four.parts_are ∙ (λ w. ij.2 w ∷ none w)) z)) y)) x) in
          let bytes : reply ≡ 0x7F ∷ 4 ∷ ab.0 ∷ ab.1 ∷ cde.0 ∷ cde.1 ∷ cde.2 ∷ fgh.0 ∷ fgh.1 ∷ fgh.2 ∷ ij.0 ∷ ij.1 ∷ [] = same ∙ ap (λ (ps : List (List ℕ)). 0x7F ∷ 4 ∷ concat ps) parts in
          let framed : is_framed config ask reply ≡ true = ap (is_framed config ask) bytes
          ∙ framed_at ab.0 ab.1 cde.0 cde.1 cde.2 fgh.0 fgh.1 fgh.2 ij.0 ij.1
          (sym (ap (is_read (Configure config.idle config.retry (ask.turns - 1))) ab.2) ∙ read_true (Configure config.idle config.retry (ask.turns - 1)) one.part one.show one.read)
          (sym (ap (is_read (Transfer clear_mask)) fgh.3) ∙ read_true (Transfer clear_mask) three.part three.show three.read)
          (sym (ap (is_read (Configure config.idle config.retry 0)) ij.2) ∙ read_true (Configure config.idle config.retry 0) four.part four.show four.read) in
          let middle : slice_range reply 4 7 ≡ two.part = ap (λ (r : List ℕ). slice_range r 4 7) bytes ∙ sym cde.3 in
          match_answers ask.mask ask.value two.part two.show two.read
          (ap (λ (m : List ℕ). match_by (shown_in (reply_read (Transfer (poll_requests ask.mask ask.value)) m))) (sym middle)
          ∙ ap (λ (b : Bool). cond b (match_by (shown_in (reply_read (Transfer (poll_requests ask.mask ask.value)) (slice_range reply 4 7)))) (Err ends.ReplyBad)) (sym framed) ∙ bad)

-- ---- how a poll ends by its reply

-- the value match was answered 02 or 04, in a reply that is as it has to be around it
record IsCutBy (config : Config) (ask : PollAsk) (reply : List ℕ) (end : FlightEnd) : Type 0 where
  show : Shown
  framed : is_framed config ask reply ≡ true
  read : reply_read (Transfer (poll_requests ask.mask ask.value)) (slice_range reply 4 7) ≡ Ok show
  is : end ≡ poll_cut show.response
  stopped : (show.response ≡ 0x02) ⊎ (show.response ≡ 0x04)

by_match : (config : Config) (ask : PollAsk) (reply : List ℕ) (end : FlightEnd) (r : Result Shown MessageError) → is_framed config ask reply ≡ true → reply_read (Transfer (poll_requests ask.mask ask.value)) (slice_range reply 4 7) ≡ r →
    Err end ≡ match_by (shown_in r) → (end ≡ ends.ReplyBad) ⊎ IsCutBy config ask reply end
by_match config ask reply end (Err fault) framed found e = inl cc
by_match config ask reply end (Ok show) framed found e = by_response (response_of show.response) refl e
  where
    by_response : (o : Option Response) → response_of show.response ≡ o → Err end ≡ match_end o → (end ≡ ends.ReplyBad) ⊎ IsCutBy config ask reply end
    by_response None named h = inl cc
    by_response (Some Good) named h = absurd cc
    by_response (Some Mismatch) named h = absurd cc
    by_response (Some Wait) named h =
        let two : show.response ≡ 0x02 = response_is show.response Wait named in
        inr (record { show = show; framed = framed; read = found; is = (let k : end ≡ poll_cut 0x02 = cc in k ∙ ap poll_cut (sym two)); stopped = inl two })
    by_response (Some Fault) named h =
        let four : show.response ≡ 0x04 = response_is show.response Fault named in
        inr (record { show = show; framed = framed; read = found; is = (let k : end ≡ poll_cut 0x04 = cc in k ∙ ap poll_cut (sym four)); stopped = inr four })

poll_end : (config : Config) (ask : PollAsk) (reply : List ℕ) (end : FlightEnd) → Err end ≡ matched_in config ask reply → (end ≡ ends.ReplyBad) ⊎ IsCutBy config ask reply end
poll_end config ask reply end e = by_frame (is_framed config ask reply) refl e
  where
    by_frame : (b : Bool) → is_framed config ask reply ≡ b → Err end ≡ cond b (match_by (shown_in (reply_read (Transfer (poll_requests ask.mask ask.value)) (slice_range reply 4 7)))) (Err ends.ReplyBad) → (end ≡ ends.ReplyBad) ⊎ IsCutBy config ask reply end
    by_frame false is h = inl cc
    by_frame true is h = by_match config ask reply end _ is refl h

read_some : (r : Result Shown MessageError) → is_some (shown_in r) ≡ true → (s : Shown) × (r ≡ Ok s)
read_some (Ok s) h = (s, refl)
read_some (Err fault) h = absurd cc

any_second : (code : ℕ) (x y z w : Shown) → (y.response ≡ code) → list_any (λ (s : Shown). s.response == code) (x ∷ y ∷ z ∷ w ∷ []) ≡ true
any_second code x y z w same = rw (eq-eqb y.response code same) (or-true (x.response == code))

module _ (config : Config) (ask : PollAsk) (reply : List ℕ) (end : FlightEnd) (h : IsCutBy config ask reply end) where
  of_four : is_of_four reply ≡ true
  of_four = first_true (is_of_four reply) (is_read (Configure config.idle config.retry (ask.turns - 1)) (slice_range reply 2 4) && (is_read (Transfer clear_mask) (slice_range reply 7 10) && is_read (Configure config.idle config.retry 0) (slice_range reply 10 12))) h.framed

  around : (is_read (Configure config.idle config.retry (ask.turns - 1)) (slice_range reply 2 4) && (is_read (Transfer clear_mask) (slice_range reply 7 10) && is_read (Configure config.idle config.retry 0) (slice_range reply 10 12))) ≡ true
  around = second_true (is_of_four reply) (is_read (Configure config.idle config.retry (ask.turns - 1)) (slice_range reply 2 4) && (is_read (Transfer clear_mask) (slice_range reply 7 10) && is_read (Configure config.idle config.retry 0) (slice_range reply 10 12))) h.framed

  after_it : (is_read (Transfer clear_mask) (slice_range reply 7 10) && is_read (Configure config.idle config.retry 0) (slice_range reply 10 12)) ≡ true
  after_it = second_true (is_read (Configure config.idle config.retry (ask.turns - 1)) (slice_range reply 2 4)) (is_read (Transfer clear_mask) (slice_range reply 7 10) && is_read (Configure config.idle config.retry 0) (slice_range reply 10 12)) around

  ends_of : (slice_index reply 0 == 0x7F) && (slice_index reply 1 == 4) ≡ true
  ends_of = second_true (length reply == 12) ((slice_index reply 0 == 0x7F) && (slice_index reply 1 == 4)) of_four

  twelve : Twelve reply
  twelve = twelve_of reply (eqb-true (length reply) 12 (first_true (length reply == 12) ((slice_index reply 0 == 0x7F) && (slice_index reply 1 == 4)) of_four))

  first_read : (s : Shown) × (reply_read (Configure config.idle config.retry (ask.turns - 1)) (slice_range reply 2 4) ≡ Ok s)
  first_read = read_some _ (first_true (is_read (Configure config.idle config.retry (ask.turns - 1)) (slice_range reply 2 4)) (is_read (Transfer clear_mask) (slice_range reply 7 10) && is_read (Configure config.idle config.retry 0) (slice_range reply 10 12)) around)

  clear_read : (s : Shown) × (reply_read (Transfer clear_mask) (slice_range reply 7 10) ≡ Ok s)
  clear_read = read_some _ (first_true (is_read (Transfer clear_mask) (slice_range reply 7 10)) (is_read (Configure config.idle config.retry 0) (slice_range reply 10 12)) after_it)

  last_read : (s : Shown) × (reply_read (Configure config.idle config.retry 0) (slice_range reply 10 12) ≡ Ok s)
  last_read = read_some _ (second_true (is_read (Transfer clear_mask) (slice_range reply 7 10)) (is_read (Configure config.idle config.retry 0) (slice_range reply 10 12)) after_it)

  joined : reply ≡ 0x7F ∷ 4 ∷ concat (slice_range reply 2 4 ∷ slice_range reply 4 7 ∷ slice_range reply 7 10 ∷ slice_range reply 10 12 ∷ [])
  joined =
      let t = twelve in
      let zero_is : t.a ≡ 0x7F = sym (ap (λ (r : List ℕ). slice_index r 0) t.are) ∙ eqb-true (slice_index reply 0) 0x7F (first_true (slice_index reply 0 == 0x7F) (slice_index reply 1 == 4) ends_of) in
      let one_is : t.b ≡ 4 = sym (ap (λ (r : List ℕ). slice_index r 1) t.are) ∙ eqb-true (slice_index reply 1) 4 (second_true (slice_index reply 0 == 0x7F) (slice_index reply 1 == 4) ends_of) in
      t.are ∙ (λ x. zero_is x ∷ one_is x ∷ t.c ∷ t.d ∷ t.e ∷ t.f ∷ t.g ∷ t.h ∷ t.i ∷ t.j ∷ t.k ∷ t.l ∷ [])
      ∙ ap (λ (r : List ℕ). 0x7F ∷ 4 ∷ concat (slice_range r 2 4 ∷ slice_range r 4 7 ∷ slice_range r 7 10 ∷ slice_range r 10 12 ∷ [])) (sym t.are)

  abbrev all_shown : List Shown
  all_shown = first_read.0 ∷ h.show ∷ clear_read.0 ∷ last_read.0 ∷ []

  shows_all : (queued : Bool) → ReplyShows queued (packet_of config ask) reply all_shown
  shows_all queued = record {
    parts = slice_range reply 2 4 ∷ slice_range reply 4 7 ∷ slice_range reply 7 10 ∷ slice_range reply 10 12 ∷ [];
    replies = (first_read.1, (h.read, (clear_read.1, (last_read.1, tt))));
    bytes = inl joined;
  }

  cut_shown : (packet : List ℕ) (last : Exchange) → packet_read packet ≡ Ok (packet_of config ask) → last.packets ≡ packet ∷ [] → last.replies ≡ reply ∷ [] → IsShownAt (HasResponse h.show.response) last 0
  cut_shown packet last reads packets replies =
      let sent : slice_get last.packets 0 ≡ Some packet = ap (λ (l : List (List ℕ)). slice_get l 0) packets in
      let got : slice_get last.replies 0 ≡ Some reply = ap (λ (l : List (List ℕ)). slice_get l 0) replies in
      record {
        packet = packet;
        reply = reply;
        sent = sent;
        got = got;
        so = record {
          shows = all_shown;
          reply = record { packet = packet_of config ask; reply = reply; replied = record { bytes = packet; sent = sent; reads = reads; got = got }; shown = shows_all (is_queue last) };
          has = any_second h.show.response first_read.0 h.show clear_read.0 last_read.0 refl;
        };
      }

-- the end of a poll is shown by its one reply
poll_shows : (config : Config) (ask : PollAsk) (packet : List ℕ) (last : Exchange) (end : FlightEnd) → packet_read packet ≡ Ok (packet_of config ask) → last.packets ≡ packet ∷ [] → length last.replies ≡ 1 →
    Err end ≡ matched_read config ask last.replies → ShowsEnd end last 0
poll_shows config ask packet last end reads packets one e = by_replies last.replies refl one e
  where
    by_end : (reply : List ℕ) → last.replies ≡ reply ∷ [] → Err end ≡ matched_in config ask reply → (end ≡ ends.ReplyBad) ⊎ IsCutBy config ask reply end → ShowsEnd end last 0
    by_end reply replies e (inl bad) =
        let sent : slice_get last.packets 0 ≡ Some packet = ap (λ (l : List (List ℕ)). slice_get l 0) packets in
        let got : slice_get last.replies 0 ≡ Some reply = ap (λ (l : List (List ℕ)). slice_get l 0) replies in
        let queue : is_queue last ≡ false = ap (λ (l : List (List ℕ)). nat_lt 1 (length l)) packets in
        subst (λ (x : FlightEnd). ShowsEnd x last 0) (sym bad)
        (record {
          packet = packet;
          reply = reply;
          sent = sent;
          got = got;
          so = record {
            packet = packet_of config ask;
            reply = reply;
            replied = record { bytes = packet; sent = sent; reads = reads; got = got };
            bad = inl (λ shows s. never_bad config ask (packet_of config ask) reply shows refl (subst (λ (b : Bool). ReplyShows b (packet_of config ask) reply shows) queue s) (sym e ∙ ap (λ (x : FlightEnd). Err x) bad));
          };
        })
    by_end reply replies e (inr cut) = subst (λ (x : FlightEnd). ShowsEnd x last 0) (sym cut.is) (cut_shown config ask reply end cut packet last reads packets replies)

    by_replies : (replies : List (List ℕ)) → last.replies ≡ replies → length replies ≡ 1 → Err end ≡ matched_read config ask replies → ShowsEnd end last 0
    by_replies [] same long e = absurd (omega (arith, long))
    by_replies (reply ∷ []) same long e = by_end reply same e (poll_end config ask reply end e)
    by_replies (reply ∷ other ∷ replies) same long e = absurd (omega (arith, long))

bad_names : (end : FlightEnd) → end ≡ ends.ReplyBad → IsUnnamed end
bad_names end bad = subst IsUnnamed (sym bad) (record { none = tt; response = tt })

-- it names no access, and a cut has the response 02 or 04
poll_names : (config : Config) (ask : PollAsk) (replies : List (List ℕ)) (end : FlightEnd) → Err end ≡ matched_read config ask replies → IsUnnamed end
poll_names config ask [] end e = bad_names end cc
poll_names config ask (reply ∷ []) end e = by_end (poll_end config ask reply end e)
  where
    by_end : (end ≡ ends.ReplyBad) ⊎ IsCutBy config ask reply end → IsUnnamed end
    by_end (inl bad) = bad_names end bad
    by_end (inr cut) = subst IsUnnamed (sym cut.is) (record { none = (refl, refl); response = cut.stopped })
poll_names config ask (reply ∷ other ∷ replies) end e = bad_names end cc

pub poll_cause : (config : Config) (ask : PollAsk) (result : Result Bool FlightEnd) (old new : BenchReported) (f : FlightState) → IsPoll config ask →
    MatchResult result (λ _. f.end ≡ None) (λ end. f.end ≡ Some end) → IsEndBelow f.end old new f →
    (got_replies f.end ≡ true → result ≡ matched_read config ask new.last.replies) → (got_replies f.end ≡ true → new.last.packets ≡ packet_bytes (packet_of config ask) ∷ []) → (got_replies f.end ≡ true → length new.last.replies ≡ 1) →
    IfErr result (λ end. FlightHasCause end old new (item_at f.packets f.at) (item_at f.replies f.at))
poll_cause config ask (Ok matched) old new f fits is h read packets long = tt
poll_cause config ask (Err end) old new f fits is h read packets long =
    below_is f.end end old new f is h
    (λ got. let there : got_replies f.end ≡ true = ap got_replies is ∙ got in
    poll_shows config ask (packet_bytes (packet_of config ask)) new.last end (reads_packet Execute (poll_commands config.idle config.retry ask.mask ask.value ask.turns) (packet_bytes (packet_of config ask)) (poll_is_packet config ask (packet_bytes (packet_of config ask)) fits refl))
    (packets there) (long there) (read there))

pub poll_unnamed : (config : Config) (ask : PollAsk) (result : Result Bool FlightEnd) (replies : List (List ℕ)) (e : Option FlightEnd) → MatchResult result (λ _. e ≡ None) (λ end. e ≡ Some end) →
    (got_replies e ≡ true → result ≡ matched_read config ask replies) → IfErr result IsUnnamed
poll_unnamed config ask (Ok matched) replies e is read = tt
poll_unnamed config ask (Err ends.BenchFault) replies e is read = record { none = tt; response = tt }
poll_unnamed config ask (Err ends.ReplyBad) replies e is read = record { none = tt; response = tt }
poll_unnamed config ask (Err (ends.Cut cut)) replies e is read = poll_names config ask replies (ends.Cut cut) (read (ap got_replies is))
