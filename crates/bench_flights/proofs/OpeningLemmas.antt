-- How an access begins over a bench.
use Rattle.std.proofs.Common.{◌≡◌, ◌∙◌, ℕ, ◌≤◌, true, List, [], ◌∷◌, Option, Some, None, Ok, Err, Result, IfOk, MatchResult, refl, sym, ap, subst, arith}
use Rattle.std.specs.Prelude.{bit_and, ◌==◌}
use Rattle.target_machine.specs.InRange.{IsInRange}
use Rattle.dap_messages.specs.declared.command_value.CommandValue.{CommandValue}
use Rattle.dap_messages.specs.declared.command_value.CommandValue.TheVariants as command
use Rattle.dap_replies.specs.ReplyViews.{Shown}
use Rattle.dap_replies.specs.ReplyReading.{reply_read}
use Rattle.probe_core.specs.Bench.{BenchState}
use Rattle.probe_core.specs.Probe.{ExecutorState, target_of}
use Rattle.probe_core.specs.declared.job.Config.{Config}
use Rattle.batch_packer.specs.Commands.{number_by, number_in, number_read}
use Rattle.batch_packer.specs.FlightEnds.{got_replies}
use Rattle.batch_packer.specs.Flying.{CanFly}
use Rattle.batch_packer.specs.Readings.{shown_in}
use Rattle.batch_packer.specs.declared.ends.FlightEnd.{FlightEnd}
use Rattle.access_calls.specs.Opening.{HasOpened, MayBegin}
use Rattle.bench_flights.specs.Opening.{least_of}
use Rattle.bench_flights.proofs.ReplyReads.{info_read}

-- ---- the least number of a reply

least_shown : (c : CommandValue) (n : ℕ) (reply : List ℕ) (found : Option Shown) → shown_in (reply_read c reply) ≡ found → Ok n ≡ number_by c found → least_of c ≤ n
least_shown c n reply None is e = absurd (cc)
least_shown (command.Info id) n reply (Some view) is e = (let same : n ≡ number_in (command.Info id) view = cc in let l = info_read id reply view is in omega (arith, same, l))
least_shown (command.Configure idle retry matches) n reply (Some view) is e = omega arith
least_shown (command.Transfer requests) n reply (Some view) is e = omega arith
least_shown (command.WriteBlock request words) n reply (Some view) is e = omega arith
least_shown (command.Abort word) n reply (Some view) is e = omega arith
least_shown (command.Delay time) n reply (Some view) is e = omega arith
least_shown (command.Pins output select wait) n reply (Some view) is e = omega arith
least_shown (command.Clock clock) n reply (Some view) is e = omega arith
least_shown (command.Line count bits) n reply (Some view) is e = omega arith

least_read : (c : CommandValue) (n : ℕ) (replies : List (List ℕ)) → Ok n ≡ number_read c replies → least_of c ≤ n
least_read c n [] e = absurd (cc)
least_read c n (reply ∷ []) e = least_shown c n reply (shown_in (reply_read c reply)) refl e
least_read c n (reply ∷ other ∷ replies) e = absurd (cc)

pub number_least : (c : CommandValue) (result : Result ℕ FlightEnd) (e : Option FlightEnd) (replies : List (List ℕ)) → MatchResult result (λ _. e ≡ None) (λ end. e ≡ Some end) → (got_replies e ≡ true → result ≡ number_read c replies) → IfOk result (λ n. least_of c ≤ n)
number_least c (Err end) e replies is read = tt
number_least c (Ok n) e replies is read = least_read c n replies (read (ap got_replies is))

-- ---- after the opening

pub opened_target : (config : Config) (m o : BenchState) → HasOpened config m o → target_of o.probe ≡ target_of m.probe
opened_target config m o h = ap (λ (e : ExecutorState). e.transfers.line.target) h.executor

pub opened_flies : (config : Config) (m o : BenchState) → MayBegin m → HasOpened config m o → CanFly o
opened_flies config m o b h = record {
  guard = record {
    mask = ap (λ (e : ExecutorState). e.transfers.mask) h.executor ∙ b.mask;
    matches = ap (λ (e : ExecutorState). e.transfers.setting.matches) h.executor;
    dpidr = ap (λ (n : ℕ). bit_and n 1 == 0) (ap (λ (e : ExecutorState). e.transfers.line.target.dpidr) h.executor) ∙ b.dpidr;
    clear = ap (λ (e : ExecutorState). e.transfers.line.target.sticky) h.executor ∙ b.fresh.clear;
  };
  in_range = subst IsInRange (sym (opened_target config m o h)) b.in_range;
}
