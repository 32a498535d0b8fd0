-- An access over a bench, and why one did not begin.
use Rattle.std.proofs.Common.{◌≡◌, ◌⊎◌, ℕ, List, Option, Some, None, Result, Ok, Err, IfErr, refl, ap}
use Rattle.probe_core.specs.Bench.{BenchState, StepsTo}
use Rattle.probe_core.specs.Bench.{Reported as BenchReported}
use Rattle.probe_core.specs.declared.job.Config.{Config}
use Rattle.access_calls.specs.Opening.{HasTried, IsNotBegun, MayBegin, RefusedBy}
use Rattle.access_calls.specs.declared.stop.Stop.{Stop}
use Rattle.access_calls.specs.declared.stop.Stop.TheVariants as stop
use Rattle.bench_flights.specs.Flown.{BenchGoesOn}
use Rattle.bench_flights.specs.Opening.{IsOpeningRefusal}
use Rattle.bench_flights.proofs.WireLemmas.{steps_map}

refused_by : (s : Stop) (config : Config) (old new : BenchReported) (x y : Option BenchState) (sent got : List ℕ) → IsOpeningRefusal s old new sent got → StepsTo (λ m o. MayBegin m → (s ≡ stop.ReplyBad → ⊥) × HasTried config m o) x y →
    RefusedBy s (record { reported = old; state = x }) (record { reported = new; state = y }) sent got
refused_by (stop.Cut r) config old new x y sent got is left = absurd is
refused_by (stop.BenchFault issued confirmed) config old new x y sent got is left = (is.0, is.1, is.2)
refused_by stop.ReplyBad config old new x y sent got is left =
    (is.0, record { begun = is.1.begun; place = is.1.place; packet = is.1.sent; reply = is.1.got; bad = is.1.so }, steps_map _ _ (λ m o f may. (f may).0 refl) x y left)
refused_by stop.OutOfMemory config old new x y sent got is left = ap (λ (r : BenchReported). r.faults) is.0

not_begun_by : (s : Stop) (config : Config) (old new : BenchReported) (x y : Option BenchState) (sent got : List ℕ) → IsOpeningRefusal s old new sent got → StepsTo (λ m o. MayBegin m → (s ≡ stop.ReplyBad → ⊥) × HasTried config m o) x y →
    BenchGoesOn old new x y → IsNotBegun config (record { reported = old; state = x }) (record { reported = new; state = y }) s sent got
not_begun_by s config old new x y sent got is left goes = record {
  cause = refused_by s config old new x y sent got is left;
  goes = record { limits = goes.limits; exchanges = goes.exchanges; runs = goes.runs };
  tried = steps_map _ _ (λ m o f may. (f may).1) x y left;
}

pub not_begun : {A E : Type 0} (r : Result A E) (stop_of : E → Stop) (new_of : E → BenchReported) (state_of : E → Option BenchState) (sent_of got_of : E → List ℕ) (config : Config) (old : BenchReported) (x : Option BenchState) →
    IfErr r (λ e. IsOpeningRefusal (stop_of e) old (new_of e) (sent_of e) (got_of e)) → IfErr r (λ e. StepsTo (λ m o. MayBegin m → (stop_of e ≡ stop.ReplyBad → ⊥) × HasTried config m o) x (state_of e)) →
    IfErr r (λ e. BenchGoesOn old (new_of e) x (state_of e)) →
    IfErr r (λ e. IsNotBegun config (record { reported = old; state = x }) (record { reported = new_of e; state = state_of e }) (stop_of e) (sent_of e) (got_of e))
not_begun (Ok a) stop_of new_of state_of sent_of got_of config old x is left goes = tt
not_begun (Err e) stop_of new_of state_of sent_of got_of config old x is left goes = not_begun_by (stop_of e) config old (new_of e) x (state_of e) (sent_of e) (got_of e) is left goes
