-- How an access over a bench begins: three exchanges with the probe, and where they leave it.
use Rattle.std.specs.Prelude.{◌≡◌, ℕ, List, []}
use Rattle.dap_base.specs.Causes.{Rose}
use Rattle.dap_messages.specs.Replies.{info_least}
use Rattle.dap_messages.specs.declared.command_value.CommandValue.{CommandValue}
use Rattle.dap_messages.specs.declared.command_value.CommandValue.TheVariants as command
use Rattle.probe_core.specs.Bench.{BenchState}
use Rattle.probe_core.specs.Bench.{Reported as BenchReported}
use Rattle.probe_core.specs.declared.job.Config.{Config}
use Rattle.probe_core.specs.declared.job.Limits.{Limits}
use Rattle.batch_packer.specs.declared.ends.FlightEnd.{FlightEnd}
use Rattle.batch_packer.specs.declared.ends.FlightEnd.TheVariants as ends
use Rattle.access_calls.specs.Causes.{IsBadReply}
use Rattle.access_calls.specs.Opening.{HasTried}
use Rattle.access_calls.specs.declared.stop.Stop.{Stop}
use Rattle.access_calls.specs.declared.stop.Stop.TheVariants as stop
use Rattle.bench_flights.specs.Flown.{WasRepliedSince}

-- the least number that the reply to a command gives: a packet size from 64, a packet count from 1
abbrev pub least_of : CommandValue → ℕ
least_of (command.Info id) = info_least id
least_of c = 0

-- What an exchange leaves that did not come to its end: a call of the bench failed, as a reply of an observable bench is never bad.
abbrev pub LeftOpen : Config → FlightEnd → BenchState → BenchState → Type 0
LeftOpen config end m o = (end ≡ ends.BenchFault) × HasTried config m o

-- a probe with these limits answers just them
abbrev pub GivesLimits : Limits → Limits → BenchState → BenchState → Type 0
GivesLimits limits given m o = m.probe.executor.limits ≡ limits → given ≡ limits

-- no packet and no reply are handed back
pub record ShowsNone (sent got : List ℕ) : Type 0 where
  pub sent_none : sent ≡ []
  pub got_none : got ≡ []

-- Why an access did not begin, by what its bench reports before and afterwards, and by the packet and the reply that are handed back. Memory was
-- refused before anything was sent. Or a call of the bench failed, and its count of faults rose. Or a reply of these exchanges is none that its
-- packet may get.
abbrev pub IsOpeningRefusal : Stop → BenchReported → BenchReported → List ℕ → List ℕ → Type 0
IsOpeningRefusal stop.OutOfMemory old new sent got = (new ≡ old) × ShowsNone sent got
IsOpeningRefusal (stop.BenchFault issued confirmed) old new sent got = (issued ≡ 0) × (confirmed ≡ 0) × Rose old.faults new.faults × ShowsNone sent got
IsOpeningRefusal stop.ReplyBad old new sent got = (new.faults ≡ old.faults) × WasRepliedSince IsBadReply old new sent got
IsOpeningRefusal (stop.Cut report) old new sent got = ⊥

-- The stop that is said of such an end, and what is handed back of its packet and reply.
abbrev pub IsStopFor : FlightEnd → Stop → List ℕ → List ℕ → List ℕ → List ℕ → Type 0
IsStopFor ends.BenchFault s packet reply sent got = (s ≡ stop.BenchFault 0 0) × ShowsNone sent got
IsStopFor ends.ReplyBad s packet reply sent got = (s ≡ stop.ReplyBad) × (sent ≡ packet) × (got ≡ reply)
IsStopFor (ends.Cut cut) s packet reply sent got = ⊥
