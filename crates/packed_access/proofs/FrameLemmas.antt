-- What a sender keeps is kept by steps in a row.
use Rattle.std.proofs.Common.{◌≡◌, ◌∙◌, ℕ, List, Option, None, refl, sym, ap, subst}
use Rattle.probe_core.specs.Bench.{BenchState}
use Rattle.probe_core.specs.Bench.{Reported as BenchReported}
use Rattle.target_calls.specs.declared.calls.Ask.{Ask}
use Rattle.access_calls.specs.GoesOn.{AccessGoesOn}
use Rattle.access_calls.proofs.KeepLemmas.{goes_same, goes_trans}
use Rattle.packed_access.specs.Frame.{KeepsSender}
use Rattle.packed_access.specs.Logs.{IsFurther, LogState, asks_of, reported_by}
use Rattle.packed_access.specs.Views.{SenderView, access_view}
use Rattle.packed_access.proofs.GoesLemmas.{goes_still}

-- nothing that is done keeps all
pub keeps_same : (a : SenderView) → KeepsSender a a
keeps_same a = record { same_bench = refl; same_limits = refl; calls = refl; goes = goes_same (access_view a) }

-- two steps keep what each of them keeps
pub keeps_on : (a b c : SenderView) → KeepsSender a b → KeepsSender b c → KeepsSender a c
keeps_on a b c first second = record {
  same_bench = second.same_bench ∙ first.same_bench;
  same_limits = second.same_limits ∙ first.same_limits;
  calls = second.calls ∙ first.calls;
  goes = goes_trans _ _ _ first.goes second.goes;
}

-- where the bench is the same and no call came
pub keeps_still : (a b : SenderView) → b.identity ≡ a.identity → b.limits ≡ a.limits → b.bench ≡ a.bench → b.state ≡ a.state → b.log.calls ≡ a.log.calls →
    a.log.end ≡ None → b.log.end ≡ None → b.log.came ≡ a.log.came → b.log.known ≡ a.log.known → KeepsSender a b
keeps_still a b bench_is limits reported state calls none none' came known = record {
  same_bench = bench_is;
  same_limits = limits;
  calls = calls;
  goes = subst (λ (r : BenchReported). AccessGoesOn (access_view a) (reported_by r b.state b.log b.sent b.got)) (sym reported)
      (subst (λ (x : Option BenchState). AccessGoesOn (access_view a) (reported_by a.bench x b.log b.sent b.got)) (sym state)
      (goes_still a.bench a.state a.log b.log a.sent a.got b.sent b.got none none' came known));
}

-- what was issued in two steps
pub further_then : (a b c : LogState) → IsFurther a b → IsFurther b c → IsFurther a c
further_then a b c first second = record {
  calls = second.calls ∙ first.calls;
  places = second.places ∙ first.places;
  whole = second.whole ∙ first.whole;
  room = second.room ∙ first.room;
  needs = second.needs ∙ first.needs;
  fence = second.fence ∙ first.fence;
  skipped = second.skipped ∙ first.skipped;
  end = second.end;
}

-- there is no need point among them
pub asks_further : (a b : LogState) → IsFurther a b → asks_of b ≡ asks_of a
asks_further a b h =
    ap (λ (x : List Ask). record { calls = x; needs = b.needs; fence = b.fence }) h.calls
    ∙ ap (λ (x : ℕ). record { calls = a.calls; needs = x; fence = b.fence }) h.needs
    ∙ ap (λ (x : ℕ). record { calls = a.calls; needs = a.needs; fence = x }) h.fence
