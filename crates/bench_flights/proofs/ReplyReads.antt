-- What a reply is that was read, whatever its bytes are.
use Rattle.std.proofs.Common.{◌≡◌, ◌∙◌, ℕ, ◌+◌, ◌-◌, ◌*◌, ◌≤◌, Bool, true, false, cond, eqb, ltb, List, [], ◌∷◌, length, take, drop, Option, Some, None, Ok, Err, Result, refl, sym, ap, subst, arith}
use Rattle.dap_base.proofs.Basics.{same_Ok}
use Rattle.std.specs.Prelude.{slice_index}
use Rattle.std.specs.Int.{w16, w64, from_le_bytes}
use Rattle.std.proofs.Math.Seq.{take-length}
use Rattle.batch_packer.specs.Readings.{shown_in}
use Rattle.std.proofs.lemmas.Bool.{eqb-true, ltb-false}
use Rattle.std.proofs.lemmas.List.{length-drop}
use Rattle.dap_base.specs.Outcome.{◌>>=◌}
use Rattle.dap_messages.specs.declared.command_value.CommandValue.{CommandValue}
use Rattle.dap_messages.specs.declared.command_value.CommandValue.TheVariants as command
use Rattle.dap_messages.specs.declared.error.MessageError.TheVariants.{BadCount, BadId, BadRequest, Short}
use Rattle.dap_messages.specs.declared.error.MessageError.{MessageError}
use Rattle.dap_messages.specs.declared.request.Request.{Request}
use Rattle.dap_messages.specs.declared.request.Response.{Response}
use Rattle.dap_messages.specs.Responses.{code_of, response_of}
use Rattle.dap_messages.specs.Rest.{Rest, bytes_past, byte_at, bytes_at, end_of, at_end, first_byte, number_at, whole}
use Rattle.dap_messages.specs.Words.{words_in}
use Rattle.dap_messages.specs.Replies.{TransferProgress, info_least, info_size, may_end, may_end_block, progress_at}
use Rattle.dap_replies.specs.ReplyViews.{Shown, shown_plain}
use Rattle.dap_replies.specs.ReplyReading.{answer_at, answered_at, block_reply_at, id_byte, info_reply_at, is_missing, judged_at, fault_of_response, refused_block, reply_read, reply_words_at, status_at, transfer_reply_at, words_given}
use Rattle.dap_messages.proofs.Fields.{bind_ok, not_refused, passed}
use Rattle.dap_messages.proofs.PacketLaws.{ended_ok_at}
use Rattle.dap_replies.proofs.ReplyLaws.{response_is}

-- the first byte was there
byte_there_from : (place : ℕ) (bytes : List ℕ) (x : ℕ × Rest) → first_byte place bytes ≡ Ok x → bytes ≡ x.0 ∷ x.1.bytes
byte_there_from place [] x e = absurd cc
byte_there_from place (b ∷ bytes) x e =
    let made : ℕ × Rest = (b, record { place = place + 1; bytes = bytes }) in
    subst (λ (y : ℕ × Rest). b ∷ bytes ≡ y.0 ∷ y.1.bytes) (same_Ok made x e) refl

byte_there : (r : Rest) (x : ℕ × Rest) → byte_at r ≡ Ok x → r.bytes ≡ x.0 ∷ x.1.bytes
byte_there r x e = byte_there_from r.place r.bytes x e

-- a status has one byte
status_long : (r : Rest) (s : Shown) → status_at r ≡ Ok s → length r.bytes ≡ 1
unfolding status_at
status_long r s e =
    let b = bind_ok (byte_at r) (λ status. cond (eqb status.0 0) (at_end (shown_plain r.bytes) status.1) (Err (BadRequest r.place))) s e in
    let p = passed (eqb b.0.0 0) (BadRequest r.place) (at_end (shown_plain r.bytes) b.0.1) s b.2 in
    let q = ended_ok_at (shown_plain r.bytes) s b.0.1.place b.0.1.bytes p.1 in
    ap length (byte_there r b.0 b.1 ∙ ap (λ (rest : List ℕ). b.0.0 ∷ rest) q.1)

-- so many words have four bytes each
words_long : (count response number : ℕ) (r : Rest) (s : Shown) → reply_words_at count response number r ≡ Ok s → (length r.bytes ≡ 4 * number) × (s.count ≡ count) × (s.response ≡ response)
unfolding reply_words_at
words_long count response number r s e =
    let b = bind_ok (bytes_at (4 * number) r) (λ bytes. at_end (record { count = count; response = response; bytes = bytes.0; words = words_in bytes.0 }) bytes.1) s e in
    let g = not_refused (ltb (length r.bytes) (4 * number)) (Short (end_of r)) (Ok (take (4 * number) r.bytes, bytes_past (4 * number) r)) b.0 b.1 in
    let made : List ℕ × Rest = (take (4 * number) r.bytes, bytes_past (4 * number) r) in
    let low : 4 * number ≤ length r.bytes = ltb-false _ _ g.0 in
    let q = ended_ok_at (record { count = count; response = response; bytes = b.0.0; words = words_in b.0.0 }) s b.0.1.place b.0.1.bytes b.2 in
    let none : drop (4 * number) r.bytes ≡ [] = ap (λ (x : List ℕ × Rest). x.1.bytes) (same_Ok made b.0 g.1) ∙ q.1 in
    let short : length r.bytes - 4 * number ≡ 0 = sym (length-drop (4 * number) r.bytes) ∙ ap length none in
    (omega (arith, low, short), ap (λ (x : Shown). x.count) (sym q.0), ap (λ (x : Shown). x.response) (sym q.0))

-- what a reply to a transfer is that was read
pub record ReadTransfer (requests : List Request) (bytes : List ℕ) (s : Shown) : Type 0 where
  pub count : ℕ
  pub response : Response
  pub rest : Rest
  pub bytes_are : bytes ≡ 0x05 ∷ count ∷ code_of response ∷ rest.bytes
  pub within : count ≤ length requests
  pub ends : may_end response (progress_at requests count) (is_missing response (progress_at requests count) rest) ≡ true
  pub long : length rest.bytes ≡ 4 * words_given (progress_at requests count) (is_missing response (progress_at requests count) rest)
  pub count_is : s.count ≡ count
  pub response_is : s.response ≡ code_of response

judged_read : (o : Option Response) (requests : List Request) (count place code : ℕ) (r : Rest) (s : Shown) → response_of code ≡ o → count ≤ length requests →
    judged_at o (progress_at requests count) count place r ≡ Ok s → ReadTransfer requests (0x05 ∷ count ∷ code ∷ r.bytes) s
unfolding answered_at
judged_read None requests count place code r s named within e = absurd cc
judged_read (Some response) requests count place code r s named within e =
    let p : TransferProgress = progress_at requests count in
    let g = passed (may_end response p (is_missing response p r)) (fault_of_response response place (place + 1)) (reply_words_at count (code_of response) (words_given p (is_missing response p r)) r) s e in
    let w = words_long count (code_of response) (words_given p (is_missing response p r)) r s g.1 in
    record {
      count = count;
      response = response;
      rest = r;
      bytes_are = ap (λ (n : ℕ). 0x05 ∷ count ∷ n ∷ r.bytes) (response_is code response named);
      within = within;
      ends = g.0;
      long = w.0;
      count_is = w.1;
      response_is = w.2;
    }

transfer_read_at : (requests : List Request) (r : Rest) (s : Shown) → transfer_reply_at requests r ≡ Ok s → ReadTransfer requests (0x05 ∷ r.bytes) s
unfolding transfer_reply_at
transfer_read_at requests r s e =
    let a = bind_ok (byte_at r) (λ count. cond (ltb (length requests) count.0) (Err (BadCount r.place))
    (byte_at count.1 >>= λ code. judged_at (response_of code.0) (progress_at requests count.0) count.0 r.place code.1)) s e in
    let g = not_refused (ltb (length requests) a.0.0) (BadCount r.place) (byte_at a.0.1 >>= λ code. judged_at (response_of code.0) (progress_at requests a.0.0) a.0.0 r.place code.1) s a.2 in
    let within : a.0.0 ≤ length requests = ltb-false (length requests) a.0.0 g.0 in
    let b = bind_ok (byte_at a.0.1) (λ code. judged_at (response_of code.0) (progress_at requests a.0.0) a.0.0 r.place code.1) s g.1 in
    let bytes : r.bytes ≡ a.0.0 ∷ b.0.0 ∷ b.0.1.bytes = byte_there r a.0 a.1 ∙ ap (λ (rest : List ℕ). a.0.0 ∷ rest) (byte_there a.0.1 b.0 b.1) in
    subst (λ (text : List ℕ). ReadTransfer requests (0x05 ∷ text) s) (sym bytes) (judged_read (response_of b.0.0) requests a.0.0 r.place b.0.0 b.0.1 s refl within b.2)

-- what follows the id was read
record ReadAfter (c : CommandValue) (bytes : List ℕ) (s : Shown) : Type 0 where
  rest : Rest
  bytes_are : bytes ≡ id_byte c ∷ rest.bytes
  read : answer_at c rest ≡ Ok s

read_after : (c : CommandValue) (bytes : List ℕ) (s : Shown) → reply_read c bytes ≡ Ok s → ReadAfter c bytes s
unfolding reply_read
read_after c bytes s e =
    let b = bind_ok (byte_at (whole bytes)) (λ id. cond (eqb id.0 (id_byte c)) (answer_at c id.1) (Err (BadId 0))) s e in
    let p = passed (eqb b.0.0 (id_byte c)) (BadId 0) (answer_at c b.0.1) s b.2 in
    record { rest = b.0.1; bytes_are = byte_there (whole bytes) b.0 b.1 ∙ ap (λ (n : ℕ). n ∷ b.0.1.bytes) (eqb-true b.0.0 (id_byte c) p.0); read = p.1 }

pub transfer_read : (requests : List Request) (bytes : List ℕ) (s : Shown) → reply_read (command.Transfer requests) bytes ≡ Ok s → ReadTransfer requests bytes s
transfer_read requests bytes s e =
    let a = read_after (command.Transfer requests) bytes s e in
    subst (λ (text : List ℕ). ReadTransfer requests text s) (sym a.bytes_are) (transfer_read_at requests a.rest s a.read)

pub configure_long : (idle retry matches : ℕ) (bytes : List ℕ) (s : Shown) → reply_read (command.Configure idle retry matches) bytes ≡ Ok s → length bytes ≡ 2
configure_long idle retry matches bytes s e =
    let a = read_after (command.Configure idle retry matches) bytes s e in
    (let n = status_long a.rest s a.read in let l = ap length a.bytes_are in omega (arith, n, l))

-- what a reply to a block of writes is that was read: its response is one of a block
pub record ReadBlock (words : ℕ) (s : Shown) : Type 0 where
  pub count : ℕ
  pub ends : may_end_block (response_of s.response) count words ≡ true

block_read_at : (words : ℕ) (r : Rest) (s : Shown) → block_reply_at words r ≡ Ok s → ReadBlock words s
unfolding block_reply_at
block_read_at words r s e =
    let a = bind_ok (number_at w16 r) (λ count. cond (ltb words count.0) (Err (BadCount r.place))
    (byte_at count.1 >>= λ code. cond (may_end_block (response_of code.0) count.0 words) (at_end (record { count = count.0; response = code.0; bytes = []; words = [] }) code.1) (Err (refused_block (response_of code.0) r.place)))) s e in
    let g = not_refused (ltb words a.0.0) (BadCount r.place)
    (byte_at a.0.1 >>= λ code. cond (may_end_block (response_of code.0) a.0.0 words) (at_end (record { count = a.0.0; response = code.0; bytes = []; words = [] }) code.1) (Err (refused_block (response_of code.0) r.place))) s a.2 in
    let b = bind_ok (byte_at a.0.1) (λ code. cond (may_end_block (response_of code.0) a.0.0 words) (at_end (record { count = a.0.0; response = code.0; bytes = []; words = [] }) code.1) (Err (refused_block (response_of code.0) r.place))) s g.1 in
    let made : Shown = record { count = a.0.0; response = b.0.0; bytes = []; words = [] } in
    let p = passed (may_end_block (response_of b.0.0) a.0.0 words) (refused_block (response_of b.0.0) r.place) (at_end made b.0.1) s b.2 in
    let q = ended_ok_at made s b.0.1.place b.0.1.bytes p.1 in
    record { count = a.0.0; ends = ap (λ (x : Shown). may_end_block (response_of x.response) a.0.0 words) (sym q.0) ∙ p.0 }

pub block_read : (request : ℕ) (words bytes : List ℕ) (s : Shown) → reply_read (command.WriteBlock request words) bytes ≡ Ok s → ReadBlock (length words) s
block_read request words bytes s e =
    let a = read_after (command.WriteBlock request words) bytes s e in
    block_read_at (length words) a.rest s a.read

-- a number of one byte or of two
number_of : (one : Bool) (size : ℕ) (rest : List ℕ) → length rest ≡ cond one 1 2 → cond one 1 64 ≤ from_le_bytes w64 rest → cond one 1 64 ≤ slice_index (size ∷ rest) 1 + 256 * slice_index (size ∷ rest) 2
number_of true size [] long least = absurd (omega (arith, long))
number_of true size (a ∷ []) long least = omega (arith, least)
number_of true size (a ∷ b ∷ rest) long least = absurd (omega (arith, long))
number_of false size [] long least = absurd (omega (arith, long))
number_of false size (a ∷ []) long least = absurd (omega (arith, long))
number_of false size (a ∷ b ∷ []) long least = omega (arith, least)
number_of false size (a ∷ b ∷ c ∷ rest) long least = absurd (omega (arith, long))

-- the number in the reply to DAP_Info is at least the least one
info_at : (id : ℕ) (r : Rest) (s : Shown) → info_reply_at id r ≡ Ok s → info_least id ≤ slice_index s.bytes 1 + 256 * slice_index s.bytes 2
unfolding info_reply_at
info_at id r s e =
    let a = bind_ok (byte_at r) (λ size. cond (eqb size.0 (info_size id))
    (bytes_at (info_size id) size.1 >>= λ bytes. cond (ltb (from_le_bytes w64 bytes.0) (info_least id)) (Err (BadCount size.1.place)) (at_end (shown_plain r.bytes) bytes.1)) (Err (BadCount r.place))) s e in
    let p = passed (eqb a.0.0 (info_size id)) (BadCount r.place)
    (bytes_at (info_size id) a.0.1 >>= λ bytes. cond (ltb (from_le_bytes w64 bytes.0) (info_least id)) (Err (BadCount a.0.1.place)) (at_end (shown_plain r.bytes) bytes.1)) s a.2 in
    let b = bind_ok (bytes_at (info_size id) a.0.1) (λ bytes. cond (ltb (from_le_bytes w64 bytes.0) (info_least id)) (Err (BadCount a.0.1.place)) (at_end (shown_plain r.bytes) bytes.1)) s p.1 in
    let n : ℕ = info_size id in
    let h = not_refused (ltb (length a.0.1.bytes) (info_size id)) (Short (end_of a.0.1)) (Ok (take (info_size id) a.0.1.bytes, bytes_past (info_size id) a.0.1)) b.0 b.1 in
    let made : List ℕ × Rest = (take (info_size id) a.0.1.bytes, bytes_past (info_size id) a.0.1) in
    let low : info_size id ≤ length a.0.1.bytes = ltb-false _ _ h.0 in
    let g = not_refused (ltb (from_le_bytes w64 b.0.0) (info_least id)) (BadCount a.0.1.place) (at_end (shown_plain r.bytes) b.0.1) s b.2 in
    let q = ended_ok_at (shown_plain r.bytes) s b.0.1.place b.0.1.bytes g.1 in
    let none : drop (info_size id) a.0.1.bytes ≡ [] = ap (λ (x : List ℕ × Rest). x.1.bytes) (same_Ok made b.0 h.1) ∙ q.1 in
    let long : length a.0.1.bytes ≡ info_size id = (let short : length a.0.1.bytes - info_size id ≡ 0 = sym (length-drop (info_size id) a.0.1.bytes) ∙ ap length none in omega (arith, low, short)) in
    let taken : b.0.0 ≡ a.0.1.bytes = sym (ap (λ (x : List ℕ × Rest). x.0) (same_Ok made b.0 h.1)) ∙ ap (λ (k : ℕ). take k a.0.1.bytes) (sym long) ∙ take-length a.0.1.bytes in
    let least : info_least id ≤ from_le_bytes w64 a.0.1.bytes = subst (λ (bytes : List ℕ). info_least id ≤ from_le_bytes w64 bytes) taken (ltb-false _ _ g.0) in
    let shown : s.bytes ≡ a.0.0 ∷ a.0.1.bytes = ap (λ (x : Shown). x.bytes) (sym q.0) ∙ byte_there r a.0 a.1 in
    subst (λ (bytes : List ℕ). info_least id ≤ slice_index bytes 1 + 256 * slice_index bytes 2) (sym shown) (number_of (eqb id 0xFE) a.0.0 a.0.1.bytes long least)

pub info_read : (id : ℕ) (bytes : List ℕ) (s : Shown) → shown_in (reply_read (command.Info id) bytes) ≡ Some s → info_least id ≤ slice_index s.bytes 1 + 256 * slice_index s.bytes 2
info_read id bytes s e = by_result (reply_read (command.Info id) bytes) refl e
  where
    by_result : (r : Result Shown MessageError) → reply_read (command.Info id) bytes ≡ r → shown_in r ≡ Some s → info_least id ≤ slice_index s.bytes 1 + 256 * slice_index s.bytes 2
    by_result (Err fault) is k = absurd (cc)
    by_result (Ok view) is k = (let same : view ≡ s = cc in let a = read_after (command.Info id) bytes s (is ∙ ap (λ (v : Shown). Ok v) same) in info_at id a.rest s a.read)
