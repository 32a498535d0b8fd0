-- What calls in a row come to.
use Rattle.std.proofs.Common.{◌≡◌, ◌∙◌, ℕ, suc, ◌+◌, Bool, true, false, cond, List, [], ◌∷◌, take, Option, None, Some, refl, ap, arith}
use Rattle.target_calls.specs.World.{World, done_now, end_result, later_by, next_world, results, stop, stops_here}
use Rattle.target_calls.specs.declared.calls.Ask.{Ask}
use Rattle.target_calls.proofs.CallLists.{head_of}
use Rattle.sequels.specs.Sequel.{Comes, Ends, comes, stopped_at, call_first}
use Rattle.image_load.specs.LoadSequel.{asks_each}

-- where none of them stops
pub comes_whole : {X : Type 0} (w : World) (calls : List Ask) (end : List ℕ → X) → stop w calls ≡ None
    → comes w (asks_each calls (λ found. Ends (end found))) ≡ record { calls = calls; written = []; end = Some (end (results w calls)) }
comes_whole w [] end h = refl
comes_whole w (a ∷ calls) end h =
    let q = head_of (stops_here w a) (stop (next_world w a) calls) h in
    rw q.0 (ap (call_first a) (comes_whole (next_world w a) calls (λ found. end (end_result (done_now w a).end ∷ found)) q.1))

-- where they stop
pub comes_stopped : {X : Type 0} (w : World) (calls : List Ask) (end : List ℕ → X) (k : ℕ) → stop w calls ≡ Some k
    → comes w (asks_each calls (λ found. Ends (end found))) ≡ record { calls = take k calls; written = []; end = None }
comes_stopped w [] end k h = absurd cc
comes_stopped {X = X} w (a ∷ calls) end k h = one (stops_here w a) (stop (next_world w a) calls) h (λ j e. comes_stopped (next_world w a) calls (λ found. end (end_result (done_now w a).end ∷ found)) j e)
  where
    rest : Comes X
    rest = comes (next_world w a) (asks_each calls (λ found. Ends (end (end_result (done_now w a).end ∷ found))))

    one : (b : Bool) (at : Option ℕ) → cond b (Some 1) (later_by 1 at) ≡ Some k → ((j : ℕ) → at ≡ Some j → rest ≡ record { calls = take j calls; written = []; end = None })
        → cond b (stopped_at a) (call_first a rest) ≡ record { calls = take k (a ∷ calls); written = []; end = None }
    one true at h same = (let e : 1 ≡ k = cc in ap (λ (n : ℕ). record { calls = take n (a ∷ calls); written = []; end = None }) e)
    one false None h same = absurd cc
    one false (Some j) h same =
        let e : 1 + j ≡ k = cc in
        let more : suc j ≡ k = omega (arith, e) in
        ap (call_first a) (same j refl) ∙ ap (λ (n : ℕ). record { calls = take n (a ∷ calls); written = []; end = None }) more
