-- When a log is kept whole: of all its entries, and of the packets and replies of a bench.
use Rattle.std.proofs.Common.{◌≡◌, ◌↔◌, ℕ, zero, suc, ◌+◌, ◌-◌, ◌*◌, ◌^◌, ◌<◌, ◌≤◌, min, nat_le, Bool, true, false, cond, ◌&&◌, List, [], ◌∷◌, ◌++◌, length, take, slice_get, Some, refl, sym, ap, subst, ◌∙◌, arith, length-append}
use Rattle.dap_base.proofs.Basics.{first_true}
use Rattle.std.proofs.Math.Nat.{mul-suc, suc-mul}
use Rattle.std.proofs.lemmas.Nat.{mul-le}
use Rattle.std.proofs.lemmas.List.{length-drop}
use Rattle.std.proofs.lemmas.Bool.{both_ways}
use Rattle.std.proofs.lemmas.Grind.{common_steps}
use Rattle.probe_core.specs.Bench.{BenchState, counted_up}
use Rattle.probe_core.specs.Log.{Entry, IsCountedLog, IsLongestFront, IsMeasuredLog, Log, empty_log, keeps, log_with, logged_all, packet_entry, reply_entry, size_of, total_size}
use Rattle.probe_core.specs.Packet.{probe_after_packet}
use Rattle.probe_core.specs.Probe.{ProbeState, is_queued}
use Rattle.probe_core.specs.Ranges.{AreLimits}
use Rattle.probe_core.specs.Reports.{AreTallied, IsTallied}
use Rattle.probe_core.specs.Runs.{without_oldest}
use Rattle.probe_core.specs.declared.job.Limits.{Limits}
use Rattle.probe_core.proofs.BenchLemmas.{held_as, limits_as, one_fewer, waiting_as}
use Rattle.probe_core.proofs.LogLemmas.{kept_fits, size_of_each, total_size-append}

-- ---- one more entry

more_as : (k b : Bool) (kept : List Entry) (e : Entry) → k ≡ b → cond k (kept ++ e ∷ []) kept ≡ cond b (kept ++ e ∷ []) kept
more_as k b kept e is = ap (λ (b : Bool). cond b (kept ++ e ∷ []) kept) is

-- a log that kept an entry
kept_more : (log : Log) (e : Entry) → keeps log e ≡ true → (log_with log e).kept ≡ log.kept ++ e ∷ []
kept_more log e k = more_as (keeps log e) true log.kept e k

kept_same : (log : Log) (e : Entry) → keeps log e ≡ false → (log_with log e).kept ≡ log.kept
kept_same log e k = more_as (keeps log e) false log.kept e k

-- an entry that is not kept by a whole log does not fit
too_big : (log : Log) (e : Entry) → log.whole ≡ true → keeps log e ≡ false → log.room < total_size log.kept + size_of e
too_big log e whole k = by (nat_le (total_size log.kept + size_of e) log.room) refl (sym (ap (λ (w : Bool). w && nat_le (total_size log.kept + size_of e) log.room) whole) ∙ k) where
  by : (b : Bool) → nat_le (total_size log.kept + size_of e) log.room ≡ b → b ≡ false → log.room < total_size log.kept + size_of e
  by true is other = absurd (cc)
  by false is other = grind (arith, common_steps, is)

was_whole : (log : Log) (e : Entry) → keeps log e ≡ true → log.whole ≡ true
was_whole log e k = first_true log.whole (nat_le (total_size log.kept + size_of e) log.room) k

-- an entry that fits is kept by a whole log
fits_keeps : (log : Log) (e : Entry) → log.whole ≡ true → total_size log.kept + size_of e ≤ log.room → keeps log e ≡ true
fits_keeps log e whole fits = by (keeps log e) refl where
  by : (b : Bool) → keeps log e ≡ b → keeps log e ≡ true
  by true is = is
  by false is = absurd (let over = too_big log e whole is in omega (arith, over, fits))

-- ---- all entries

-- a log is whole only where it was
all_was_whole : (es : List Entry) (log : Log) → (logged_all log es).whole ≡ true → log.whole ≡ true
all_was_whole [] log whole = whole
all_was_whole (e ∷ es) log whole = was_whole log e (all_was_whole es (log_with log e) whole)

size_more : (log : Log) (e : Entry) → keeps log e ≡ true → total_size (log_with log e).kept ≡ total_size log.kept + size_of e
size_more log e k = ap total_size (kept_more log e k) ∙ total_size-append log.kept e

whole_fits : (es : List Entry) (log : Log) → total_size log.kept ≤ log.room → (logged_all log es).whole ≡ true → total_size log.kept + total_size es ≤ log.room
whole_fits [] log fits whole = omega (arith, fits)
whole_fits (e ∷ es) log fits whole =
    let k = all_was_whole es (log_with log e) whole in
    let more = size_more log e k in
    let here = kept_fits log e k in
    let rest = whole_fits es (log_with log e) (omega (arith, more, here)) whole in
    omega (arith, more, rest)

fits_whole : (es : List Entry) (log : Log) → log.whole ≡ true → total_size log.kept + total_size es ≤ log.room → (logged_all log es).whole ≡ true
fits_whole [] log whole fits = whole
fits_whole (e ∷ es) log whole fits =
    let k = fits_keeps log e whole (omega (arith, fits)) in
    let more = size_more log e k in
    fits_whole es (log_with log e) k (omega (arith, more, fits))

-- once an entry was not kept, none is
none_kept : (es : List Entry) (log : Log) → log.whole ≡ false → (logged_all log es).kept ≡ log.kept
none_kept [] log cut = refl
none_kept (e ∷ es) log cut =
    let k : keeps log e ≡ false = ap (λ (w : Bool). w && nat_le (total_size log.kept + size_of e) log.room) cut in
    none_kept es (log_with log e) k ∙ kept_same log e k

-- what is kept of further entries
record KeepsFront (log : Log) (es : List Entry) : Type 0 where
  front : List Entry
  kept : (logged_all log es).kept ≡ log.kept ++ front
  part : front ≡ take (length front) es
  fits : total_size log.kept + total_size front ≤ log.room
  longest : length front < length es → log.room < total_size log.kept + total_size (take (length front + 1) es)

append_nil : (es : List Entry) → es ++ [] ≡ es
append_nil [] = refl
append_nil (e ∷ es) = ap (λ (l : List Entry). e ∷ l) (append_nil es)

append_one : (xs : List Entry) (e : Entry) (ys : List Entry) → (xs ++ e ∷ []) ++ ys ≡ xs ++ e ∷ ys
append_one [] e ys = refl
append_one (x ∷ xs) e ys = ap (λ (l : List Entry). x ∷ l) (append_one xs e ys)

take_more : (n : ℕ) (e : Entry) (es : List Entry) → take (suc n + 1) (e ∷ es) ≡ e ∷ take (n + 1) es
take_more n e es = let m : suc n + 1 ≡ suc (n + 1) = omega arith in ap (λ (m : ℕ). take m (e ∷ es)) m

keeps_front : (es : List Entry) (log : Log) → log.whole ≡ true → total_size log.kept ≤ log.room → KeepsFront log es
keeps_front [] log whole fits = record {
  front = [];
  kept = sym (append_nil log.kept);
  part = refl;
  fits = omega (arith, fits);
  longest = λ less. absurd (omega (arith, less));
}
keeps_front (e ∷ es) log whole fits = by (keeps log e) refl (keeps_front es (log_with log e)) where
  by : (b : Bool) → keeps log e ≡ b → ((log_with log e).whole ≡ true → total_size (log_with log e).kept ≤ log.room → KeepsFront (log_with log e) es) → KeepsFront log (e ∷ es)
  by true k go =
      let more = size_more log e k in
      let here = kept_fits log e k in
      let rest = go k (omega (arith, more, here)) in record {
        front = e ∷ rest.front;
        kept = rest.kept ∙ ap (λ (l : List Entry). l ++ rest.front) (kept_more log e k) ∙ append_one log.kept e rest.front;
        part = ap (λ (l : List Entry). e ∷ l) rest.part;
        fits = (let f = rest.fits in omega (arith, more, f));
        longest = λ less.
            let over = rest.longest (omega (arith, less)) in
            let sum : total_size (take (suc (length rest.front) + 1) (e ∷ es)) ≡ size_of e + total_size (take (length rest.front + 1) es) = ap total_size (take_more (length rest.front) e es) in
            omega (arith, more, over, sum);
      }
  by false k go = record {
    front = [];
    kept = none_kept es (log_with log e) k ∙ kept_same log e k ∙ sym (append_nil log.kept);
    part = refl;
    fits = omega (arith, fits);
    longest = λ less. let over = too_big log e whole k in omega (arith, over);
  }

-- ---- the laws of lists

pub whole_log : (room : ℕ) (es : List Entry) → ((logged_all (empty_log room) es).whole ≡ true) ↔ (total_size es ≤ room)
whole_log room es = (
  λ whole. let sum = whole_fits es (empty_log room) (omega arith) whole in omega (arith, sum),
  λ fits. fits_whole es (empty_log room) refl (omega (arith, fits)),
)

pub kept_front : (room : ℕ) (es : List Entry) → IsLongestFront room es (logged_all (empty_log room) es).kept
kept_front room es =
    let k = keeps_front es (empty_log room) refl (omega arith) in
    subst (λ (kept : List Entry). IsLongestFront room es kept) (sym k.kept) (record { front = k.part; fits = (let f = k.fits in omega (arith, f)); longest = λ less. (let l = k.longest less in omega (arith, l)) })

front_size : (n : ℕ) (es : List Entry) → total_size (take n es) ≤ total_size es
front_size zero es = omega arith
front_size (suc n) [] = omega arith
front_size (suc n) (e ∷ es) = let rest = front_size n es in omega (arith, rest)

front_length : (n : ℕ) (es : List Entry) → length es ≤ n → take n es ≡ es
front_length zero [] le = refl
front_length zero (e ∷ es) le = absurd (omega (arith, le))
front_length (suc n) [] le = refl
front_length (suc n) (e ∷ es) le = ap (λ (l : List Entry). e ∷ l) (front_length n es (omega (arith, le)))

pub kept_all : (room : ℕ) (es : List Entry) → total_size es ≤ room → (logged_all (empty_log room) es).kept ≡ es
kept_all room es fits =
    let f = kept_front room es in
    let kept = (logged_all (empty_log room) es).kept in
    f.front ∙ front_length (length kept) es (by (nat_le (length es) (length kept)) refl f.longest) where
      by : (b : Bool) → nat_le (length es) (length (logged_all (empty_log room) es).kept) ≡ b
          → (length (logged_all (empty_log room) es).kept < length es → room < total_size (take (length (logged_all (empty_log room) es).kept + 1) es))
          → length es ≤ length (logged_all (empty_log room) es).kept
      by true is longest = grind (arith, common_steps, is)
      by false is longest =
          let less : length (logged_all (empty_log room) es).kept < length es = grind (arith, common_steps, is) in
          let over = longest less in
          absurd (let part = front_size (length (logged_all (empty_log room) es).kept + 1) es in omega (arith, over, part, fits))

-- ---- a log that is measured

one_more_of : (n k : ℕ) → (n + 1) * k ≡ n * k + k
one_more_of n k = ap (λ (m : ℕ). m * k) (let e : n + 1 ≡ suc n = omega arith in e) ∙ suc-mul n k

le_of : (a b k : ℕ) → a ≤ b → a * k ≤ b * k
le_of a b k le = mul-le a k b k le (omega arith)

-- the counts of a log that kept all so far
few_kept : (log : Log) → IsCountedLog log → 3 * length log.kept ≤ 1048576
few_kept log c = let each = size_of_each log.kept in let fits = c.fits in let room = c.room in omega (arith, each, fits, room)

measured_by : (most : ℕ) (log : Log) (e : Entry) (k : Bool) → keeps log e ≡ k → IsCountedLog log → IsMeasuredLog most log → length e.bytes ≤ most → IsMeasuredLog most (log_with log e)
measured_by most log e true k c m size =
    let whole = was_whole log e k in
    let all = m.all whole in
    let few = few_kept log c in
    let count : min (log.count + 1) (2 ^ 32 - 1) ≡ log.count + 1 = omega (arith, all, few) in
    let more = size_more log e k in
    let total = m.size whole in
    let product = one_more_of log.count (most + 3) in record {
      all = λ _. ap length (kept_more log e k) ∙ length-append log.kept (e ∷ []) ∙ (let sum : length log.kept + 1 ≡ log.count + 1 = omega (arith, all) in sum) ∙ sym count;
      size = λ _. subst (λ (n : ℕ). total_size (log_with log e).kept ≤ n * (most + 3)) (sym count) (omega (arith, more, total, product, size));
      lacks = λ cut. absurd (both_ways (keeps log e) cut k);
      over = λ cut. absurd (both_ways (keeps log e) cut k);
    }
measured_by most log e false k c m size = by log.whole refl where
  same : length (log_with log e).kept ≡ length log.kept
  same = ap length (kept_same log e k)

  by : (w : Bool) → log.whole ≡ w → IsMeasuredLog most (log_with log e)
  by true whole =
      let all = m.all whole in
      let few = few_kept log c in
      let count : min (log.count + 1) (2 ^ 32 - 1) ≡ log.count + 1 = omega (arith, all, few) in
      let total = m.size whole in
      let over = too_big log e whole k in
      let product = one_more_of log.count (most + 3) in record {
        all = λ is. absurd (both_ways (keeps log e) k is);
        size = λ is. absurd (both_ways (keeps log e) k is);
        lacks = λ _. omega (arith, same, all, count);
        over = λ _. subst (λ (n : ℕ). log.room < n * (most + 3)) (sym count) (omega (arith, over, total, product, size));
      }
  by false cut =
      let lacks = m.lacks cut in
      let few = c.few in
      let over = m.over cut in
      let le : log.count ≤ min (log.count + 1) (2 ^ 32 - 1) = omega (arith, few) in
      let product = le_of log.count (min (log.count + 1) (2 ^ 32 - 1)) (most + 3) le in record {
        all = λ is. absurd (both_ways (keeps log e) k is);
        size = λ is. absurd (both_ways (keeps log e) k is);
        lacks = λ _. omega (arith, same, lacks, le);
        over = λ _. omega (arith, over, product);
      }

measured : (most : ℕ) (log after : Log) (e : Entry) → after ≡ log_with log e → IsCountedLog log → IsMeasuredLog most log → length e.bytes ≤ most → IsMeasuredLog most after
measured most log after e is c m size = subst (λ (l : Log). IsMeasuredLog most l) (sym is) (measured_by most log e (keeps log e) refl c m size)

-- ---- how many entries exchanges have

-- one more entry, and a packet that is held
few_held : (count waiting held most : ℕ) → count + waiting ≤ most + held → min (count + 1) (2 ^ 32 - 1) + waiting ≤ most + (held + 1)
few_held count waiting held most few = omega (arith, few)

-- one more entry, and the packets of an exchange are answered
few_answered : (count waiting held size starting : ℕ) → count < 2 ^ 32 → waiting ≡ 0 → held < size → size ≤ 64 → count + waiting ≤ 2 * size * starting + held
    → min (count + 1) (2 ^ 32 - 1) + (held + 1) ≤ 2 * size * counted_up starting + 0
few_answered count waiting held size starting small none room most few = by (nat_le (starting + 1) (2 ^ 64 - 1)) refl where
  by : (b : Bool) → nat_le (starting + 1) (2 ^ 64 - 1) ≡ b → min (count + 1) (2 ^ 32 - 1) + (held + 1) ≤ 2 * size * counted_up starting + 0
  by true is =
      let le : starting + 1 ≤ 2 ^ 64 - 1 = grind (arith, common_steps, is) in
      let next : counted_up starting ≡ suc starting = omega (arith, le) in
      let product : 2 * size * counted_up starting ≡ 2 * size * starting + 2 * size = ap (λ (n : ℕ). 2 * size * n) next ∙ mul-suc (2 * size) starting in
      omega (arith, product, few, none, room)
  by false is =
      let high : 2 ^ 64 - 1 < starting + 1 = grind (arith, common_steps, is) in
      let last : counted_up starting ≡ 2 ^ 64 - 1 = omega (arith, high) in
      let product : 2 * size * counted_up starting ≡ 2 * size * (2 ^ 64 - 1) = ap (λ (n : ℕ). 2 * size * n) last in
      omega (arith, product, room, most)

-- one more entry, and one reply fewer
few_replied : (count waiting held most : ℕ) → 0 < waiting → count + waiting ≤ most + held → min (count + 1) (2 ^ 32 - 1) + (waiting - 1) ≤ most + held
few_replied count waiting held most some few = omega (arith, some, few)

-- ---- a bench

-- after a packet that is held or not
packet_by : (b : Bool) (p : ProbeState) (packet : List ℕ) (starting : ℕ) (log : Log) → AreLimits p.executor.limits → length p.held < p.executor.limits.packet_count → length p.waiting ≡ 0
    → IsCountedLog log → log.count + length p.waiting ≤ 2 * p.executor.limits.packet_count * starting + length p.held
    → min (log.count + 1) (2 ^ 32 - 1) + cond b (length p.waiting) (length p.held + 1)
    ≤ 2 * p.executor.limits.packet_count * cond b starting (counted_up starting) + cond b (length p.held + 1) 0
packet_by true p packet starting log range room none c few = few_held log.count (length p.waiting) (length p.held) (2 * p.executor.limits.packet_count * starting) few
packet_by false p packet starting log range room none c few = few_answered log.count (length p.waiting) (length p.held) p.executor.limits.packet_count starting c.few none room range.count_high few

-- the same where the parts are those of a probe after the packet
pub tallied_packet : (p q : ProbeState) (packet : List ℕ) (starting next : ℕ) (queued : Bool) (log after : Log) → AreLimits p.executor.limits → length p.held < p.executor.limits.packet_count
    → length p.waiting ≡ 0 → length packet ≤ p.executor.limits.packet_size → IsCountedLog log → AreTallied p.executor.limits (length p.held) (length p.waiting) starting log
    → q ≡ probe_after_packet p packet → next ≡ cond queued starting (counted_up starting) → queued ≡ is_queued packet → after ≡ log_with log (packet_entry packet)
    → AreTallied q.executor.limits (length q.held) (length q.waiting) next after
tallied_packet p q packet starting next queued log after range room none size c t is_q is_next is_queue is_log =
    rw is_q (subst (λ (l : Limits). AreTallied l (length (probe_after_packet p packet).held) (length (probe_after_packet p packet).waiting) next after) (sym (limits_as (is_queued packet) p packet)) (record {
      measured = measured p.executor.limits.packet_size log after (packet_entry packet) is_log c t.measured size;
      few =
          rw (is_log, is_next, is_queue, held_as (is_queued packet) p packet, waiting_as (is_queued packet) p packet none)
          (packet_by (is_queued packet) p packet starting log range room none c t.few);
    }))

-- the same after a reply
pub tallied_reply : (p q : ProbeState) (reply : List ℕ) (starting : ℕ) (log after : Log) → length reply ≤ p.executor.limits.packet_size → slice_get p.waiting 0 ≡ Some reply
    → IsCountedLog log → AreTallied p.executor.limits (length p.held) (length p.waiting) starting log → q ≡ without_oldest p → after ≡ log_with log (reply_entry reply)
    → AreTallied q.executor.limits (length q.held) (length q.waiting) starting after
tallied_reply p q reply starting log after size at c t is_q is_log =
    rw is_q (record {
      measured = measured p.executor.limits.packet_size log after (reply_entry reply) is_log c t.measured size;
      few =
          rw (is_log, length-drop 1 p.waiting)
          (few_replied log.count (length p.waiting) (length p.held) (2 * p.executor.limits.packet_count * starting) (one_fewer p.waiting reply at) t.few);
    })

-- a bench without an entry
pub tallied_empty : (limits : Limits) (room : ℕ) → AreTallied limits 0 0 0 (empty_log room)
tallied_empty limits room = record {
  measured = record { all = λ _. refl; size = λ _. omega arith; lacks = λ e. absurd (cc); over = λ e. absurd (cc) };
  few = omega arith;
}

-- ---- when a bench keeps all

whole_either : (log : Log) → (w : Bool) → log.whole ≡ w → (log.whole ≡ false → ⊥) → log.whole ≡ true
whole_either log true is none = is
whole_either log false is none = absurd (none is)

pub whole_counted : (m : BenchState) → IsTallied m → (m.log.whole ≡ true) ↔ (length m.log.kept ≡ m.log.count)
whole_counted m t = (t.measured.all, λ same. whole_either m.log m.log.whole refl (λ cut. let less = t.measured.lacks cut in omega (arith, less, same)))

pub whole_fitting : (m : BenchState) → IsTallied m → m.log.count * (m.probe.executor.limits.packet_size + 3) ≤ m.log.room → m.log.whole ≡ true
whole_fitting m t fits = whole_either m.log m.log.whole refl (λ cut. let over = t.measured.over cut in omega (arith, over, fits))

pub whole_exchanges : (m : BenchState) → IsTallied m
    → (2 * m.probe.executor.limits.packet_count * m.starting + length m.probe.held) * (m.probe.executor.limits.packet_size + 3) ≤ m.log.room → m.log.whole ≡ true
whole_exchanges m t fits =
    let few = t.few in
    let le : m.log.count ≤ 2 * m.probe.executor.limits.packet_count * m.starting + length m.probe.held = omega (arith, few) in
    let product = le_of m.log.count (2 * m.probe.executor.limits.packet_count * m.starting + length m.probe.held) (m.probe.executor.limits.packet_size + 3) le in
    whole_fitting m t (omega (arith, product, fits))
