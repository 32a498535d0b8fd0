-- At a cut the replies name accesses of the flight, whatever bench gave them.
use Rattle.std.proofs.Common.{◌≡◌, ℕ, zero, suc, ◌+◌, ◌-◌, ◌<◌, ◌≤◌, Bool, true, false, List, [], ◌∷◌, length, take, drop, length-drop, get_or, Option, Some, None, IfSome, refl, ap, sym, subst, ◌∙◌, arith, slice_get}
use Rattle.target_machine.specs.declared.access.RegAccess.{RegAccess}
use Rattle.dap_replies.proofs.ReplyLaws.{response_is}
use Rattle.dap_messages.specs.declared.command_value.CommandValue.{CommandValue}
use Rattle.dap_messages.specs.declared.request.Request.{Request}
use Rattle.dap_messages.specs.declared.request.Response.{Response}
use Rattle.dap_messages.specs.declared.request.Response.TheVariants.{Good, Wait, Fault, Mismatch}
use Rattle.dap_messages.specs.Replies.{Answers, ReplyValue}
use Rattle.dap_replies.specs.ReplyViews.{IsReplyTo, Shown, reply_shown}
use Rattle.dap_messages.specs.Replies as reply
use Rattle.dap_replies.specs.ReplyReading.{reply_read}
use Rattle.dap_messages.specs.Responses.{code_of, response_of, is_good}
use Rattle.flight_forms.proofs.GuardedShortness.{guarded_shows, parts_joined}
use Rattle.flight_forms.proofs.Shortness.{block_shows, transfer_shows}
use Rattle.flight_forms.specs.Chains.{AllTaken, joined_as}
use Rattle.flight_forms.specs.Flights.{IsPartOf, Part, part_of}
use Rattle.flight_forms.specs.Packets.{guarded_command}
use Rattle.flight_forms.specs.Packing.{AreTaken, payload, requests_for}
use Rattle.batch_packer.proofs.AloneLemmas.{part_same, less_none}
use Rattle.batch_packer.proofs.ReadLemmas.{inner_is, take_bytes}
use Rattle.batch_packer.specs.Alone.{IsBlock, one_command}
use Rattle.batch_packer.specs.ChainReadings.{guarded_in, guarded_reading, is_mismatch, is_of_one, joined_if, then_reading}
use Rattle.batch_packer.specs.FlightEnds.{IsShort, end_at, end_of}
use Rattle.batch_packer.specs.Readings.{IsReadFrom, IsSeen, IsShown, part_as, part_in, part_with, shown_in}
use Rattle.batch_packer.specs.declared.ends.FlightEnd.{FlightEnd}
use Rattle.batch_packer.specs.declared.part.FlightProgress.{FlightProgress}

one_is : (found command : CommandValue) → Some found ≡ slice_get (command ∷ []) 0 → found ≡ command
one_is found command e = some_is found command e
  where
    some_is : (x y : CommandValue) → Some x ≡ Some y → x ≡ y
    some_is x y f = cc

pub read_from : (command found : CommandValue) (replied : List ℕ) (view : Shown) (before : ℕ) (requests : List Request) (old new : List (Option ℕ)) (result : Option FlightProgress) → Some found ≡ slice_get (command ∷ []) 0 →
    Some view ≡ shown_in (reply_read found replied) → IsReplyTo found replied view → IsShown (part_as before requests view (response_of view.response)) result old new → IfSome result (IsReadFrom command before requests replied old new)
read_from command found replied view before requests old new None is read answers reply_shown = tt
read_from command found replied view before requests old new (Some progress) is read answers reply_shown = record {
  view = view;
  answers = subst (λ (c : CommandValue). IsReplyTo c replied view) (one_is found command is) answers;
  read = sym (read ∙ ap (λ c. shown_in (reply_read c replied)) (one_is found command is));
  shown = reply_shown;
}

-- ---- what one reply shows

-- of a flight in one packet
one_part_short : (b : Bool) (accesses : List RegAccess) (answer : ReplyValue) (view : Shown) (progress : FlightProgress) (new : List (Option ℕ)) (x : Option Response) → (b ≡ true → IsBlock accesses) → AreTaken accesses →
    Answers (one_command b accesses) answer → view ≡ reply_shown answer → response_of view.response ≡ x → IsShown (part_as 0 (requests_for false accesses) view x) (Some progress) [] new →
    IsPartOf (length accesses) (part_with progress new)
one_part_short b accesses answer view progress new None block taken may shows is reply_shown = absurd reply_shown
one_part_short true accesses (reply.Block n code) view progress new (Some x) block taken may shows is reply_shown =
    let here = block refl in
    let count : view.count - 0 ≡ n = less_none view.count ∙ ap (λ (v : Shown). v.count) shows in
    let words : view.words ≡ [] = ap (λ (v : Shown). v.words) shows in
    let code_is : code ≡ code_of x = response_is code x (ap (λ (v : Shown). response_of v.response) (sym shows) ∙ is) in
    let has = block_shows here.0 accesses n x here.2 (subst (λ c. Answers (one_command true accesses) (reply.Block n c)) code_is may) in
    let same : part_with progress new ≡ part_of (take n (requests_for false accesses)) x [] = part_same (part_of (take (view.count - 0) (requests_for false accesses)) x view.words) progress [] new reply_shown refl
    ∙ (λ i. part_of (take (count i) (requests_for false accesses)) x (words i)) in
    subst (λ (p : Part). IsPartOf (length accesses) p) (sym same) has
one_part_short false accesses (reply.Transfer n code words) view progress new (Some x) block taken may shows is reply_shown =
    let count : view.count - 0 ≡ n = less_none view.count ∙ ap (λ (v : Shown). v.count) shows in
    let words_are : view.words ≡ words = ap (λ (v : Shown). v.words) shows in
    let code_is : code ≡ code_of x = response_is code x (ap (λ (v : Shown). response_of v.response) (sym shows) ∙ is) in
    let has = transfer_shows accesses n x words taken (subst (λ c. Answers (one_command false accesses) (reply.Transfer n c words)) code_is may) in
    let same : part_with progress new ≡ part_of (take n (requests_for false accesses)) x words = part_same (part_of (take (view.count - 0) (requests_for false accesses)) x view.words) progress [] new reply_shown refl
    ∙ (λ i. part_of (take (count i) (requests_for false accesses)) x (words_are i)) in
    subst (λ (p : Part). IsPartOf (length accesses) p) (sym same) has
one_part_short true accesses (reply.Info bytes) view progress new (Some x) block taken may shows is reply_shown = absurd may
one_part_short true accesses (reply.Status id status) view progress new (Some x) block taken may shows is reply_shown = absurd may
one_part_short true accesses (reply.Pins pins) view progress new (Some x) block taken may shows is reply_shown = absurd may
one_part_short true accesses (reply.Transfer n code words) view progress new (Some x) block taken may shows is reply_shown = absurd may
one_part_short false accesses (reply.Info bytes) view progress new (Some x) block taken may shows is reply_shown = absurd may
one_part_short false accesses (reply.Status id status) view progress new (Some x) block taken may shows is reply_shown = absurd may
one_part_short false accesses (reply.Pins pins) view progress new (Some x) block taken may shows is reply_shown = absurd may
one_part_short false accesses (reply.Block n code) view progress new (Some x) block taken may shows is reply_shown = absurd may

pub alone_short : (b : Bool) (accesses : List RegAccess) (replied : List ℕ) (result : Option FlightProgress) (new : List (Option ℕ)) → (b ≡ true → IsBlock accesses) → AreTaken accesses →
    IfSome result (IsReadFrom (one_command b accesses) 0 (requests_for false accesses) replied [] new) → IfSome result (λ p. IsPartOf (length accesses) (part_with p new))
alone_short b accesses replied None new block taken from = tt
alone_short b accesses replied (Some progress) new block taken from =
    let answers = from.answers in
    one_part_short b accesses answers.answer from.view progress new (response_of (from.view).response) block taken answers.may answers.shows refl from.shown

-- of a part of a chain
guarded_part_short : (accesses : List RegAccess) (answer : ReplyValue) (view : Shown) (x : Option Response) → AreTaken accesses → 0 < length accesses → Answers (guarded_command accesses) answer → view ≡ reply_shown answer →
    response_of view.response ≡ x → IfSome (part_as 2 (payload accesses) view x) (IsPartOf (length accesses))
guarded_part_short accesses answer view None taken some may shows is = tt
guarded_part_short accesses (reply.Transfer n code words) view (Some x) taken some may shows is =
    let count : view.count ≡ n = ap (λ (v : Shown). v.count) shows in
    let words_are : view.words ≡ words = ap (λ (v : Shown). v.words) shows in
    let code_is : code ≡ code_of x = response_is code x (ap (λ (v : Shown). response_of v.response) (sym shows) ∙ is) in
    let has = guarded_shows accesses n x words taken some (subst (λ c. Answers (guarded_command accesses) (reply.Transfer n c words)) code_is may) in
    let same : part_of (take (view.count - 2) (payload accesses)) x view.words ≡ part_of (take (n - 2) (payload accesses)) x words = λ i. part_of (take (count i - 2) (payload accesses)) x (words_are i) in
    subst (λ (p : Part). IsPartOf (length accesses) p) (sym same) has
guarded_part_short accesses (reply.Info bytes) view (Some x) taken some may shows is = absurd may
guarded_part_short accesses (reply.Status id status) view (Some x) taken some may shows is = absurd may
guarded_part_short accesses (reply.Pins pins) view (Some x) taken some may shows is = absurd may
guarded_part_short accesses (reply.Block n code) view (Some x) taken some may shows is = absurd may

pub guarded_short : (accesses : List RegAccess) (replied : List ℕ) (rs : List Request) (result : Option FlightProgress) (old new : List (Option ℕ)) → AreTaken accesses → 0 < length accesses → 2 ≤ length replied →
    is_of_one (get_or replied 0 0) (get_or replied 1 0) ≡ true → IfSome result (IsReadFrom (guarded_command accesses) 2 rs (take (length replied - 2) (drop 2 replied)) old new) →
    IfSome result (λ _. IfSome (guarded_reading accesses replied) (IsPartOf (length accesses)))
guarded_short accesses replied rs None old new taken some two first from = tt
guarded_short accesses replied rs (Some progress) old new taken some two first from =
    let c : CommandValue = guarded_command accesses in
    let answers = from.answers in
    let left : take (length replied - 2) (drop 2 replied) ≡ drop 2 replied = take_bytes (length replied - 2) (drop 2 replied) (let l = length-drop 2 replied in omega arith) in
    let same : guarded_reading accesses replied ≡ part_as 2 (payload accesses) from.view (response_of (from.view).response) =
    ap (guarded_in accesses) (inner_is replied two first)
    ∙ ap (λ xs. part_in 2 (payload accesses) (shown_in (reply_read c xs))) (sym left)
    ∙ ap (part_in 2 (payload accesses)) from.read in
    subst (λ (o : Option Part). IfSome o (IsPartOf (length accesses))) (sym same)
    (guarded_part_short accesses answers.answer from.view (response_of (from.view).response) taken some answers.may answers.shows refl)

-- ---- what several replies show

joined_shown : (x : Response) (unmet : Bool) (sofar next : Part) (progress : FlightProgress) (new : List (Option ℕ)) → IsSeen (joined_if (is_good x) unmet sofar next) (Some progress) new →
    joined_as x sofar next ≡ part_with progress new
joined_shown Good false sofar next progress new h = h
joined_shown Good true sofar next progress new h = absurd h
joined_shown Wait true sofar next progress new h = h
joined_shown Wait false sofar next progress new h = absurd h
joined_shown Fault true sofar next progress new h = h
joined_shown Fault false sofar next progress new h = absurd h
joined_shown Mismatch true sofar next progress new h = h
joined_shown Mismatch false sofar next progress new h = absurd h

pub next_short : (m n : ℕ) (sofar : Part) (found : Option Part) (progress : FlightProgress) (new : List (Option ℕ)) → IsSeen (then_reading sofar found) (Some progress) new → IfSome found (IsPartOf n) →
    IsPartOf m sofar → IsPartOf (m + n) (part_with progress new)
next_short m n sofar None progress new seen short before = absurd seen
next_short m n sofar (Some next) progress new seen short before =
    subst (λ (p : Part). IsPartOf (m + n) p) (joined_shown sofar.response (is_mismatch next.response) sofar next progress new seen) (parts_joined m n sofar next before short)

-- no reply was read yet
pub none_short : IsPartOf 0 (part_with (record { performed = 0; confirmed = 0; response = Good }) [])
none_short = record {
  most = omega arith;
  within = omega arith;
  near = omega arith;
  whole = λ e. refl;
  short = λ f. absurd (f refl);
  values = refl;
}

-- all replies were read
pub all_short : (n m : ℕ) (progress : FlightProgress) (values : List (Option ℕ)) → n ≡ m → IsPartOf n (part_with progress values) → IsPartOf m (part_with progress values)
all_short n m progress values e h = subst (λ (k : ℕ). IsPartOf k (part_with progress values)) e h

-- ---- how a flight ends

end_short : (count : ℕ) (progress : FlightProgress) (new : List (Option ℕ)) → IsPartOf count (part_with progress new) → IsShort count (end_at progress.response progress)
end_short count progress new h = by_response progress.response refl
  where
    by_response : (x : Response) → progress.response ≡ x → IsShort count (end_at x progress)
    by_response Good e = tt
    by_response Wait e = (h.most, h.short (λ f. absurd (let g : ◌≡◌ {A = Response} Wait Good = sym e ∙ f in cc)))
    by_response Fault e = (h.most, h.short (λ f. absurd (let g : ◌≡◌ {A = Response} Fault Good = sym e ∙ f in cc)))
    by_response Mismatch e = tt

end_found : (count : ℕ) (progress : Option FlightProgress) (new : List (Option ℕ)) → IfSome progress (λ p. IsPartOf count (part_with p new)) → IsShort count (end_of progress)
end_found count None new h = tt
end_found count (Some progress) new h = end_short count progress new h

pub ends_short : (count : ℕ) (progress : Option FlightProgress) (end : Option FlightEnd) (new : List (Option ℕ)) → end ≡ end_of progress → IfSome progress (λ p. IsPartOf count (part_with p new)) → IsShort count end
ends_short count progress end new is h = subst (λ (e : Option FlightEnd). IsShort count e) (sym is) (end_found count progress new h)

-- each of the parts has accesses that a flight takes
pub taken_left : (part : List RegAccess) (parts left : List (List RegAccess)) → parts ≡ part ∷ left → AllTaken parts → AreTaken part × AllTaken left
taken_left part parts left is taken = subst (λ (xs : List (List RegAccess)). AllTaken xs) is taken

pub some_taken : (len : ℕ) (rest : List RegAccess) → 0 < len → len ≤ length rest → 0 < length (take len rest)
some_taken zero rest some within = absurd (omega arith)
some_taken (suc len) [] some within = absurd (omega arith)
some_taken (suc len) (a ∷ rest) some within = omega arith
