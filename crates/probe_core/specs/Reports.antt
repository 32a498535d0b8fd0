-- What is so of every report of a bench, and of the state of one that is observable.
use Rattle.std.specs.Prelude.{◌≡◌, ℕ, ◌+◌, ◌*◌, ◌^◌, ◌<◌, ◌≤◌, length}
use Rattle.probe_core.specs.Bench.{BenchState, Exchange, Reported}
use Rattle.probe_core.specs.Log.{IsMeasuredLog, Log}
use Rattle.probe_core.specs.Ranges.{AreLimits}
use Rattle.probe_core.specs.declared.job.Limits.{Limits}

-- The packet limits are in range. Fewer packets are held than the packet count; an exchange has at most packet count
-- packets, and at most as many replies, with those that wait. While packets are held, no reply waits, and the last
-- exchange is of just these packets, with no reply. Exchanges are counted up to 2^64 - 1.
pub record AreInRange (limits : Limits) (held waiting exchanges : ℕ) (last : Exchange) : Type 0 where
  pub limits_in_range : AreLimits limits
  pub few_held : held < limits.packet_count
  pub few_packets : length last.packets ≤ limits.packet_count
  pub few_replies : waiting + length last.replies ≤ limits.packet_count
  pub none_waits : 0 < held → waiting ≡ 0
  pub all_held : 0 < held → length last.packets ≡ held
  pub none_replied : 0 < held → length last.replies ≡ 0
  pub few_exchanges : exchanges < 2 ^ 64

-- what a bench reports is in range
abbrev pub IsInRange : Reported → Type 0
IsInRange reported = AreInRange reported.limits reported.held reported.waiting reported.exchanges reported.last

-- what a bench reports is so of its state
pub record AgreesWith (reported : Reported) (m : BenchState) : Type 0 where
  pub limits : reported.limits ≡ m.probe.executor.limits
  pub held : reported.held ≡ length m.probe.held
  pub waiting : reported.waiting ≡ length m.probe.waiting

-- The log is measured by the packet size. An exchange ends with a packet that is not held, which is a starting one, and has at most packet
-- count packets and as many replies.
pub record AreTallied (limits : Limits) (held waiting starting : ℕ) (log : Log) : Type 0 where
  pub measured : IsMeasuredLog limits.packet_size log
  pub few : log.count + waiting ≤ 2 * limits.packet_count * starting + held

-- the packets and replies of a bench are tallied
abbrev pub IsTallied : BenchState → Type 0
IsTallied m = AreTallied m.probe.executor.limits (length m.probe.held) (length m.probe.waiting) m.starting m.log
