-- What each call keeps is kept by calls in a row.
use Rattle.std.proofs.Common.{◌≡◌, ◌∙◌, ℕ, ◌≤◌, cond, [], ◌∷◌, ◌++◌, Option, Some, None, refl, sym, ap, subst, arith}
use Rattle.std.specs.Prelude.{is_some}
use Rattle.dap_base.specs.Causes.{Rose}
use Rattle.probe_core.specs.Bench.{BenchState}
use Rattle.probe_core.specs.Runs.{KeepsRuns}
use Rattle.probe_core.proofs.StateSteps.{runs_self, runs_then}
use Rattle.target_calls.specs.NeedPoints.{Asks}
use Rattle.target_calls.specs.World.{AtLeast}
use Rattle.target_calls.specs.declared.calls.Ask.{Ask}
use Rattle.access_calls.specs.Causes.{HasStopCause}
use Rattle.access_calls.specs.GoesOn.{AccessGoesOn, IsSameButAsks, StaysEnded}
use Rattle.access_calls.specs.Keeps.{KeepsAccess}
use Rattle.access_calls.specs.Left.{IsLeft, IsLeftAt, IsLeftCut, answered_at_end, answered_by, answered_cut}
use Rattle.access_calls.specs.Reported.{AccessView}
use Rattle.access_calls.specs.declared.stop.Stop.{Stop}
use Rattle.access_calls.specs.declared.stop.Stop.TheVariants.{Cut, BenchFault, ReplyBad, OutOfMemory}
use Rattle.access_calls.specs.declared.stop.StopCause.{StopCause}
use Rattle.access_calls.specs.declared.stop.StopCause.TheVariants.{Faulted, NoAnswer}

rose_later : (a b c : ℕ) → a ≤ b → Rose b c → Rose a c
rose_later a b c le rose = omega (arith, le, rose)

stays_same : (e : Option Stop) (a : AccessView) → a.end ≡ e → StaysEnded a a e
stays_same None a none = subst (HasStopCause a a) (sym none) refl
stays_same (Some s) a is = record { same = refl }

-- no call keeps all
pub goes_same : (a : AccessView) → AccessGoesOn a a
goes_same a = record {
  limits = refl;
  faults = omega arith;
  exchanges = omega arith;
  runs = runs_self a.state;
  known = omega arith;
  left = λ n left. left;
  ended = stays_same a.end a refl;
}

-- the end came in the second of two rows of calls
ended_later : (e : Option Stop) (a b c : AccessView) → b.bench.faults ≡ a.bench.faults → a.bench.exchanges ≤ b.bench.exchanges → HasStopCause b c e → HasStopCause a c e
ended_later None a b c faults exchanges by = by ∙ faults
ended_later (Some (Cut r)) a b c faults exchanges by =
    (by.0 ∙ faults, record { begun = rose_later _ _ _ exchanges by.1.begun; place = by.1.place; sent = by.1.sent; got = by.1.got; so = by.1.so })
ended_later (Some (BenchFault issued confirmed)) a b c faults exchanges by = rose_later _ _ _ (omega (arith, faults)) by
ended_later (Some ReplyBad) a b c faults exchanges by =
    (by.0 ∙ faults, record { begun = rose_later _ _ _ exchanges by.1.begun; place = by.1.place; sent = by.1.sent; got = by.1.got; so = by.1.so })
ended_later (Some OutOfMemory) a b c faults exchanges by = by

-- it came in the first, and stays
ended_before : (e : Option Stop) (a b : AccessView) (x : Asks) → HasStopCause a b e → HasStopCause a (record b { asks = x }) e
ended_before None a b x by = by
ended_before (Some (Cut r)) a b x by = (by.0, record { begun = by.1.begun; place = by.1.place; sent = by.1.sent; got = by.1.got; so = by.1.so })
ended_before (Some (BenchFault issued confirmed)) a b x by = by
ended_before (Some ReplyBad) a b x by = (by.0, record { begun = by.1.begun; place = by.1.place; sent = by.1.sent; got = by.1.got; so = by.1.so })
ended_before (Some OutOfMemory) a b x by = by

stays_then : (x y : Option Stop) (a b c : AccessView) → a.end ≡ x → b.end ≡ y → a.bench.exchanges ≤ b.bench.exchanges → StaysEnded a b x → StaysEnded b c y → StaysEnded a c x
stays_then None None a b c is then_is exchanges first second =
    let faults : b.bench.faults ≡ a.bench.faults = subst (HasStopCause a b) then_is first in
    ended_later c.end a b c faults exchanges second
stays_then None (Some s) a b c is then_is exchanges first second =
    let whole = second.same in
    subst (λ t. HasStopCause a t t.end) (sym whole) (ended_before b.end a b c.asks first)
stays_then (Some s) y a b c is then_is exchanges first second = by_end y then_is second
  where
    still : IsSameButAsks b c → IsSameButAsks a c
    still second = record { same = second.same ∙ ap (λ (t : AccessView). record t { asks = c.asks }) first.same }

    same_end : b.end ≡ Some s
    same_end = ap (λ t. t.end) first.same ∙ is

    by_end : (y : Option Stop) → b.end ≡ y → StaysEnded b c y → IsSameButAsks a c
    by_end None e second = absurd (cc)
    by_end (Some z) e second = still second

-- two rows of calls keep what each of them keeps
pub goes_trans : (a b c : AccessView) → AccessGoesOn a b → AccessGoesOn b c → AccessGoesOn a c
goes_trans a b c first second = record {
  limits = second.limits ∙ first.limits;
  faults = let f = first.faults in let g = second.faults in omega (arith, f, g);
  exchanges = let f = first.exchanges in let g = second.exchanges in omega (arith, f, g);
  runs = runs_then a.state b.state c.state first.runs second.runs;
  known = let f = first.known in let g = second.known in omega (arith, f, g);
  left = λ n left. first.left n (second.left n left);
  ended = stays_then a.end b.end a b c refl refl first.exchanges first.ended second.ended;
}

module _ {S : Type 0} (begun : S → BenchState → Type 0) (reported : S → AccessView) (identity : S → ℕ) where
  -- no call keeps all
  pub keeps_same : (a : S) → KeepsAccess begun reported identity a a
  keeps_same a = record { on = λ m b. b; same_bench = refl; goes = goes_same (reported a) }

  -- two rows of calls keep what each of them keeps
  pub keeps_on : (a b c : S) → KeepsAccess begun reported identity a b → KeepsAccess begun reported identity b c → KeepsAccess begun reported identity a c
  keeps_on a b c first second = record {
    on = λ m b. second.on m (first.on m b);
    same_bench = second.same_bench ∙ first.same_bench;
    goes = goes_trans _ _ _ first.goes second.goes;
  }

-- so many calls may be answered as a caller takes it at its end
pub left_by : (a : AccessView) → IsLeft a (answered_by a)
left_by a = record { so = left_at_end a.end a.lines a.came }
  where
    left_cut : (why : StopCause) (lines came : ℕ) → IsLeftCut why lines came (answered_cut why lines)
    left_cut Faulted lines came = tt
    left_cut NoAnswer lines came = refl

    left_at_end : (end : Option Stop) (lines came : ℕ) → IsLeftAt end lines came (answered_at_end end lines)
    left_at_end None lines came = tt
    left_at_end (Some (Cut r)) lines came = left_cut r.cause lines came
    left_at_end (Some (BenchFault issued confirmed)) lines came = tt
    left_at_end (Some ReplyBad) lines came = tt
    left_at_end (Some OutOfMemory) lines came = tt

-- after an end nothing but what was asked changes
pub end_is_silent : (a b : AccessView) (s : Stop) → AccessGoesOn a b → a.end ≡ Some s → b ≡ record a { asks = b.asks }
end_is_silent a b s goes is = (subst (StaysEnded a b) is goes.ended).same

-- an end stays
pub end_stays : (a b : AccessView) (s : Stop) → AccessGoesOn a b → a.end ≡ Some s → b.end ≡ Some s
end_stays a b s goes is = ap (λ t. t.end) (end_is_silent a b s goes is) ∙ is

-- the bench failed, which is the end
pub goes_by_fault : (a b : AccessView) (issued confirmed : ℕ) → a.end ≡ None → b.end ≡ Some (BenchFault issued confirmed) → b.bench.limits ≡ a.bench.limits
    → a.bench.faults ≤ b.bench.faults → Rose a.bench.faults b.bench.faults → a.bench.exchanges ≤ b.bench.exchanges → KeepsRuns a.state b.state → a.known ≤ b.known → a.came ≤ b.came → AccessGoesOn a b
goes_by_fault a b issued confirmed none end limits faults rose exchanges runs known came = record {
  limits = limits;
  faults = faults;
  exchanges = exchanges;
  runs = runs;
  known = known;
  left = λ n left. record { so = subst (λ e. IsLeftAt e a.lines a.came n) (sym none) (fewer n (subst (λ e. IsLeftAt e b.lines b.came n) end left.so)) };
  ended = subst (StaysEnded a b) (sym none) (subst (HasStopCause a b) (sym end) rose);
}
  where
    fewer : (n : Option ℕ) → AtLeast b.came n → AtLeast a.came n
    fewer None enough = tt
    fewer (Some n) enough = omega (arith, came, enough)

-- a call that is asked while none has ended is the last of those asked
pub all_asked : (a b : AccessView) (ask : Ask) → a.end ≡ None → b.asks.calls ≡ cond (is_some a.end) a.asks.calls (a.asks.calls ++ ask ∷ []) → b.asks.calls ≡ a.asks.calls ++ ask ∷ []
all_asked a b ask none calls = calls ∙ ap (λ (e : Option Stop). cond (is_some e) a.asks.calls (a.asks.calls ++ ask ∷ [])) none
