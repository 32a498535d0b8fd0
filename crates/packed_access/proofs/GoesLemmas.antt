-- What each call of an access keeps.
use Rattle.std.proofs.Common.{◌≡◌, ◌⊎◌, inl, inr, ℕ, ◌≤◌, List, Option, Some, None, refl, sym, subst, arith}
use Rattle.probe_core.specs.Bench.{BenchState}
use Rattle.probe_core.specs.Bench.{Reported as BenchReported}
use Rattle.probe_core.proofs.StateSteps.{runs_self}
use Rattle.target_calls.specs.World.{AtLeast}
use Rattle.access_calls.specs.Causes.{HasStopCause, code_of_cause}
use Rattle.access_calls.specs.GoesOn.{AccessGoesOn, StaysEnded}
use Rattle.access_calls.specs.Left.{IsLeftAt, IsLeftCut}
use Rattle.access_calls.specs.Reported.{AccessView}
use Rattle.access_calls.specs.declared.stop.Stop.{Stop}
use Rattle.access_calls.specs.declared.stop.StopCause.{StopCause}
use Rattle.access_calls.specs.declared.stop.StopCause.TheVariants.{Faulted, NoAnswer}
use Rattle.bench_flights.specs.Flown.{BenchGoesOn}
use Rattle.packed_access.specs.Logs.{IsCause, LogState, all_confirmed, all_taken, reported_by}

-- ---- how many calls may be answered

pub least_less : (n : Option ℕ) (k j : ℕ) → k ≤ j → AtLeast j n → AtLeast k n
least_less None k j le h = tt
least_less (Some n) k j le h = omega (arith, le, h)

left_open : (end : Option Stop) (lines came : ℕ) (n : Option ℕ) → end ≡ None → AtLeast came n → IsLeftAt end lines came n
left_open end lines came n none h = subst (λ (e : Option Stop). IsLeftAt e lines came n) (sym none) h

-- after a cut at least so many calls are answered
left_cut : (cause : StopCause) (n : Option ℕ) (lines came k : ℕ) → came ≡ lines → k ≤ lines → IsLeftCut cause lines came n → AtLeast k n
left_cut Faulted n lines came k same le left = least_less n k came (omega (arith, same, le)) left
left_cut NoAnswer n lines came k same le left = subst (λ (x : Option ℕ). AtLeast k x) (sym left) le

-- ---- a flight that came

pub goes_sent : (b b' : BenchReported) (x y : Option BenchState) (old new : LogState) (packet reply packet' reply' : List ℕ) (values : List (Option ℕ)) → BenchGoesOn b b' x y → b'.faults ≡ b.faults →
    old.end ≡ None → old.known ≤ old.whole → old.came ≤ old.whole → new ≡ all_confirmed (all_taken values old) → AccessGoesOn (reported_by b x old packet reply) (reported_by b' y new packet' reply')
goes_sent b b' x y old new packet reply packet' reply' values goes faults none known came is =
    subst (λ (l : LogState). AccessGoesOn (reported_by b x old packet reply) (reported_by b' y l packet' reply')) (sym is)
    (record {
      limits = goes.limits;
      faults = goes.faults;
      exchanges = goes.exchanges;
      runs = goes.runs;
      known = known;
      left = λ n left. record { so = left_open old.end old.lines old.came n none (least_less n old.came old.whole came (subst (λ (e : Option Stop). IsLeftAt e old.lines old.whole n) none left.so)) };
      ended = subst (λ (e : Option Stop). StaysEnded (reported_by b x old packet reply) (reported_by b' y (all_confirmed (all_taken values old)) packet' reply') e) (sym none)
          (subst (λ (e : Option Stop). HasStopCause (reported_by b x old packet reply) (reported_by b' y (all_confirmed (all_taken values old)) packet' reply') e) (sym none) faults);
    })

-- ---- an end

code_is : (response : ℕ) (cause : StopCause) → IsCause response cause → (response ≡ 0x02) ⊎ (response ≡ 0x04) → response ≡ code_of_cause cause
code_is response Faulted not (inl two) = absurd (not two)
code_is response Faulted not (inr four) = four
code_is response NoAnswer two either = two

module _ (b b' : BenchReported) (x y : Option BenchState) (old : LogState) (packet reply packet' reply' : List ℕ) (goes : BenchGoesOn b b' x y) (none : old.end ≡ None) where
  abbrev a : AccessView
  a = reported_by b x old packet reply

-- ---- nothing is sent

-- where what is asked and issued changes alone, while there is no end
pub goes_still : (b : BenchReported) (x : Option BenchState) (old new : LogState) (packet reply packet' reply' : List ℕ) → old.end ≡ None → new.end ≡ None → new.came ≡ old.came → new.known ≡ old.known → AccessGoesOn (reported_by b x old packet reply) (reported_by b x new packet' reply')
goes_still b x old new packet reply packet' reply' none none' came known = record {
  limits = refl;
  faults = omega arith;
  exchanges = omega arith;
  runs = runs_self x;
  known = omega (arith, known);
  left = λ n left. record { so = left_open old.end old.lines old.came n none (subst (λ (k : ℕ). AtLeast k n) came (subst (λ (e : Option Stop). IsLeftAt e new.lines new.came n) none' left.so)) };
  ended = subst (λ (e : Option Stop). StaysEnded (reported_by b x old packet reply) (reported_by b x new packet' reply') e) (sym none)
      (subst (λ (e : Option Stop). HasStopCause (reported_by b x old packet reply) (reported_by b x new packet' reply') e) (sym none') refl);
}

-- where calls came while there is no end
pub goes_later : (b : BenchReported) (x : Option BenchState) (old new : LogState) (packet reply packet' reply' : List ℕ) → old.end ≡ None → new.end ≡ None → old.came ≤ new.came → old.known ≤ new.known → AccessGoesOn (reported_by b x old packet reply) (reported_by b x new packet' reply')
goes_later b x old new packet reply packet' reply' none none' came known = record {
  limits = refl;
  faults = omega arith;
  exchanges = omega arith;
  runs = runs_self x;
  known = known;
  left = λ n left. record { so = left_open old.end old.lines old.came n none (least_less n old.came new.came came (subst (λ (e : Option Stop). IsLeftAt e new.lines new.came n) none' left.so)) };
  ended = subst (λ (e : Option Stop). StaysEnded (reported_by b x old packet reply) (reported_by b x new packet' reply') e) (sym none)
      (subst (λ (e : Option Stop). HasStopCause (reported_by b x old packet reply) (reported_by b x new packet' reply') e) (sym none') refl);
}
