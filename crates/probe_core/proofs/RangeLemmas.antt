-- What a bench reports stays in range.
use Rattle.std.proofs.Common.{◌≡◌, ℕ, ◌+◌, ◌^◌, ◌<◌, ◌==◌, Bool, true, false, cond, if◌then◌else◌, List, [], ◌∷◌, ◌++◌, length, length-append, refl, ap, ◌∙◌, arith}
use Rattle.probe_core.specs.Bench.{CanSend, Exchange, Reported, counted_up, last_with, reported_after_load, reported_after_reply, reported_after_packet}
use Rattle.probe_core.specs.Probe.{is_queued}
use Rattle.probe_core.specs.Ranges.{AreLimits, IsBenchJob}
use Rattle.probe_core.specs.Reports.{AreInRange, IsInRange}
use Rattle.probe_core.specs.declared.job.BenchJob.{BenchJob}
use Rattle.probe_core.specs.declared.job.Limits.{Limits}

pub one_more : (xs : List (List ℕ)) (x : List ℕ) → length (xs ++ x ∷ []) ≡ length xs + 1
one_more xs x = length-append xs (x ∷ [])

-- the exchange after a packet that begins one, or goes on with the last
abbrev exchange_as : Bool → Exchange → List ℕ → Exchange
exchange_as z last packet = cond z (record { packets = packet ∷ []; replies = [] }) (record { packets = last.packets ++ packet ∷ []; replies = last.replies })

packets_as : (z : Bool) (r : Reported) (packet : List ℕ) → z ≡ (r.held == 0) → IsInRange r → length (exchange_as z r.last packet).packets ≡ r.held + 1
packets_as true r packet is range = grind arith
packets_as false r packet is range =
    let held : 0 < r.held = grind arith in one_more r.last.packets packet ∙ ap (λ n. n + 1) (range.all_held held)

replies_as : (z : Bool) (r : Reported) (packet : List ℕ) → z ≡ (r.held == 0) → IsInRange r → length (exchange_as z r.last packet).replies ≡ 0
replies_as true r packet is range = refl
replies_as false r packet is range = let held : 0 < r.held = grind arith in range.none_replied held

in_range_as : (q : Bool) (limits : Limits) (held waiting exchanges : ℕ) (last : Exchange) → AreLimits limits → held < limits.packet_count → waiting ≡ 0 → (q ≡ true → held + 1 < limits.packet_count)
    → length last.packets ≡ held + 1 → length last.replies ≡ 0 → exchanges < 2 ^ 64 → AreInRange limits (cond q (held + 1) 0) (cond q waiting (held + 1)) exchanges last
in_range_as true limits held waiting exchanges last range few none room packets replies few_exchanges = record {
  limits_in_range = range;
  few_held = room refl;
  few_packets = omega (arith, few, packets);
  few_replies = omega (arith, none, replies);
  none_waits = λ _. none;
  all_held = λ _. packets;
  none_replied = λ _. replies;
  few_exchanges = few_exchanges;
}
in_range_as false limits held waiting exchanges last range few none room packets replies few_exchanges = record {
  limits_in_range = range;
  few_held = omega (arith, few);
  few_packets = omega (arith, few, packets);
  few_replies = omega (arith, few, replies);
  none_waits = λ h. absurd (omega (arith, h));
  all_held = λ h. absurd (omega (arith, h));
  none_replied = λ _. replies;
  few_exchanges = few_exchanges;
}

pub loaded_in_range : (r : Reported) (job : BenchJob) → IsBenchJob job → r.exchanges < 2 ^ 64 → IsInRange (reported_after_load r job)
loaded_in_range r job range few_exchanges = record {
  limits_in_range = range.limits;
  few_held = (let low = range.limits.count_low in omega (arith, low));
  few_packets = (let low = range.limits.count_low in omega (arith, low));
  few_replies = (let low = range.limits.count_low in omega (arith, low));
  none_waits = λ _. refl;
  all_held = λ _. refl;
  none_replied = λ _. refl;
  few_exchanges = few_exchanges;
}

abbrev exchanges_with : Reported → ℕ
exchanges_with r = if r.held == 0 then counted_up r.exchanges else r.exchanges

few_as : (z : Bool) (n : ℕ) → n < 2 ^ 64 → cond z (counted_up n) n < 2 ^ 64
few_as true n few = omega arith
few_as false n few = few

pub sent_in_range : (r : Reported) (packet : List ℕ) → CanSend r packet → IsInRange r → IsInRange (reported_after_packet r packet)
sent_in_range r packet can range =
    in_range_as (is_queued packet) r.limits r.held r.waiting (exchanges_with r) (last_with r packet) range.limits_in_range range.few_held can.none_waits can.room
    (packets_as (r.held == 0) r packet refl range) (replies_as (r.held == 0) r packet refl range) (few_as (r.held == 0) r.exchanges range.few_exchanges)

pub received_in_range : (r : Reported) (reply : List ℕ) → 0 < r.waiting → IsInRange r → IsInRange (reported_after_reply r reply)
received_in_range r reply waits range = record {
  limits_in_range = range.limits_in_range;
  few_held = range.few_held;
  few_packets = range.few_packets;
  few_replies = (let few = range.few_replies in omega (arith, few, waits, one_more r.last.replies reply));
  none_waits = λ h. absurd (let none = range.none_waits h in omega (arith, none, waits));
  all_held = range.all_held;
  none_replied = λ h. absurd (let none = range.none_waits h in omega (arith, none, waits));
  few_exchanges = range.few_exchanges;
}
