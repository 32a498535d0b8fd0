-- Lines of digits: the bytes that they show, and what follows them.
use Rattle.std.proofs.Common.{◌≡◌, ◌∙◌, ℕ, zero, suc, ◌/◌, ◌%◌, ◌==◌, ◌&&◌, Bool, true, false, not, List, [], ◌∷◌, ◌++◌, get_or, length, Option, Some, None, Result, Ok, Err, refl, sym, ap, subst, append_assoc, arith}
use Rattle.std.specs.Prelude.{codes, slice_index}
use Rattle.std.specs.List.{list_all}
use Rattle.std.proofs.lemmas.Bool.{and_from, and_parts}
use Rattle.hex.specs.Hex.{IsBytes, decode_of, encode_lower, encode_with, lower_digits}
use Rattle.hex.specs.declared.error.FromHexError.{FromHexError}
use Rattle.hex.proofs.HexLemmas.{decode_of-encode_lower}
use Rattle.dap_messages.specs.declared.error.MessageError.{MessageError}
use Rattle.dap_messages.specs.Commands.{Packet}
use Rattle.dap_messages.specs.PacketReading.{packet_read}
use Rattle.register_words.specs.declared.known.KnownRegisters.{KnownRegisters}
use Rattle.packet_words.specs.Laws.{AreBytes}
use Rattle.packet_words.specs.Requests.{first_read_word}
use Rattle.packet_words.specs.Exchange.{exchange, no_packet_line, replied_line, reply_line, said_of, trace_lines, unreplied_line}

-- ---- line feeds

-- no line feed
abbrev other : ℕ → Bool
other byte = not (byte == 10)

-- a line feed is none of these
fed : (b : ℕ) (bs : List ℕ) → 10 ≡ b → list_all other (b ∷ bs) ≡ true → ⊥
fed b bs is all =
    let here : other b ≡ true = (and_parts (other b) (list_all other bs) all).0 in
    let there : other 10 ≡ true = subst (λ (n : ℕ). other n ≡ true) (sym is) here in
    absurd (let no : false ≡ true = there in cc)

-- two texts without line feeds that are equal up to the first one are equal, and so is what follows
pub same_line : (xs ys s t : List ℕ) → list_all other xs ≡ true → list_all other ys ≡ true → xs ++ (10 ∷ s) ≡ ys ++ (10 ∷ t) → (xs ≡ ys) × (s ≡ t)
same_line [] [] s t p q e = (refl, cc)
same_line [] (y ∷ ys) s t p q e = absurd (fed y ys (let h : 10 ≡ y = cc in h) q)
same_line (x ∷ xs) [] s t p q e = absurd (fed x xs (let h : 10 ≡ x = cc in h) p)
same_line (x ∷ xs) (y ∷ ys) s t p q e =
    let head : x ≡ y = cc in
    let tail : xs ++ (10 ∷ s) ≡ ys ++ (10 ∷ t) = cc in
    let rest = same_line xs ys s t (and_parts (other x) (list_all other xs) p).1 (and_parts (other y) (list_all other ys) q).1 tail in
    let others : xs ≡ ys = rest.0 in
    (cc, rest.1)

-- ---- digits

-- an element of a table without line feeds, or 0
table_at : (t : List ℕ) (i : ℕ) → list_all other t ≡ true → other (get_or t i 0) ≡ true
table_at [] i all = refl
table_at (x ∷ xs) zero all = (and_parts (other x) (list_all other xs) all).0
table_at (x ∷ xs) (suc i) all = table_at xs i (and_parts (other x) (list_all other xs) all).1

-- digits have no line feed
no_line_feed : (bytes : List ℕ) → list_all other (encode_lower bytes) ≡ true
unfolding encode_with
no_line_feed [] = refl
no_line_feed (b ∷ bytes) =
    and_from (other (get_or lower_digits (b / 16) 0)) _ (table_at lower_digits (b / 16) refl)
    (and_from (other (get_or lower_digits (b % 16) 0)) _ (table_at lower_digits (b % 16) refl) (no_line_feed bytes))

abbrev decoded : List ℕ → Result (List ℕ) FromHexError
decoded bytes = Ok bytes

-- equal digits are of equal bytes
same_digits : (xs ys : List ℕ) → IsBytes xs → IsBytes ys → encode_lower xs ≡ encode_lower ys → xs ≡ ys
same_digits xs ys p q e =
    let both : decoded xs ≡ decoded ys = sym (decode_of-encode_lower xs p) ∙ ap decode_of e ∙ decode_of-encode_lower ys q in
    cc

-- a line of digits, and what follows it
same_digit_line : (xs ys s t : List ℕ) → IsBytes xs → IsBytes ys → encode_lower xs ++ (10 ∷ s) ≡ encode_lower ys ++ (10 ∷ t) → (xs ≡ ys) × (s ≡ t)
same_digit_line xs ys s t p q e =
    let line = same_line (encode_lower xs) (encode_lower ys) s t (no_line_feed xs) (no_line_feed ys) e in
    (same_digits xs ys p q line.0, line.1)

-- ---- the lines of a trace

-- the words begin with an `e`
starts : (known : KnownRegisters) (number size : ℕ) (r : Result Packet MessageError) (reply : Option (List ℕ)) → first_read_word (said_of known number size r reply).text ≡ Some 101
unfolding replied_line unreplied_line no_packet_line
starts known number size (Ok p) None = refl
starts known number size (Ok p) (Some reply) = refl
starts known number size (Err fault) reply = refl

-- the line of a reply, and what follows it
reply_shape : (reply x : List ℕ) → reply_line (Some reply) ++ x ≡ 60 ∷ 32 ∷ (encode_lower reply ++ (10 ∷ x))
unfolding reply_line
reply_shape reply x = simp append_assoc refl

none_shape : (x : List ℕ) → reply_line None ++ x ≡ x
unfolding reply_line
none_shape x = refl

-- the lines of a packet and its reply, and what follows them
shape : (packet : List ℕ) (reply : Option (List ℕ)) (x : List ℕ) → trace_lines packet reply ++ x ≡ 62 ∷ 32 ∷ (encode_lower packet ++ (10 ∷ (reply_line reply ++ x)))
unfolding trace_lines
shape packet reply x = simp append_assoc refl

abbrev found : ℕ → Option ℕ
found byte = Some byte

same_found : (m n : ℕ) → found m ≡ found n → m ≡ n
same_found m n e = cc

different : (n : ℕ) → n ≡ 60 → n ≡ 101 → ⊥
different n p q = omega (arith, p, q)

-- a reply is no beginning of words
apart : (x y : List ℕ) → first_read_word x ≡ Some 101 → x ≡ 60 ∷ y → ⊥
apart x y start e = different 101 (same_found 101 60 (sym start ∙ ap first_read_word e)) refl

-- equal lines of replies, before words, are of equal replies
same_reply : (a b : Option (List ℕ)) (x y : List ℕ) → AreBytes a → AreBytes b → first_read_word x ≡ Some 101 → first_read_word y ≡ Some 101 → reply_line a ++ x ≡ reply_line b ++ y → a ≡ b
same_reply None None x y p q s t e = refl
same_reply None (Some b) x y p q s t e = absurd (apart x _ s (sym (none_shape x) ∙ e ∙ reply_shape b y))
same_reply (Some a) None x y p q s t e = absurd (apart y _ t (sym (none_shape y) ∙ sym e ∙ reply_shape a x))
same_reply (Some a) (Some b) x y p q s t e =
    let lines : 60 ∷ 32 ∷ (encode_lower a ++ (10 ∷ x)) ≡ 60 ∷ 32 ∷ (encode_lower b ++ (10 ∷ y)) = sym (reply_shape a x) ∙ e ∙ reply_shape b y in
    let rest : encode_lower a ++ (10 ∷ x) ≡ encode_lower b ++ (10 ∷ y) = cc in
    ap Some (same_digit_line a b x y p q rest).0

-- equal words are of equal packets and replies
pub equal_words : (known other_known : KnownRegisters) (m n : ℕ) (p q : List ℕ) (a b : Option (List ℕ)) → IsBytes p → IsBytes q → AreBytes a → AreBytes b
    → (exchange known m p a).text ≡ (exchange other_known n q b).text → (p ≡ q) × (a ≡ b)
equal_words known other_known m n p q a b bytes_p bytes_q bytes_a bytes_b e =
    let x = (said_of known m (length p) (packet_read p) a).text in
    let y = (said_of other_known n (length q) (packet_read q) b).text in
    let lines : 62 ∷ 32 ∷ (encode_lower p ++ (10 ∷ (reply_line a ++ x))) ≡ 62 ∷ 32 ∷ (encode_lower q ++ (10 ∷ (reply_line b ++ y))) =
    sym (shape p a x) ∙ e ∙ shape q b y in
    let rest : encode_lower p ++ (10 ∷ (reply_line a ++ x)) ≡ encode_lower q ++ (10 ∷ (reply_line b ++ y)) = cc in
    let packets = same_digit_line p q (reply_line a ++ x) (reply_line b ++ y) bytes_p bytes_q rest in
    (packets.0, same_reply a b x y bytes_a bytes_b (starts known m (length p) (packet_read p) a) (starts other_known n (length q) (packet_read q) b) packets.1)
