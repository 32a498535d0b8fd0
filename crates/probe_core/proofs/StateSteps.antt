-- Steps of a bench that is observable, one after the other.
use Rattle.std.proofs.Common.{◌≡◌, Option, None, Some, refl, subst, sym, ◌∙◌}
use Rattle.probe_core.specs.Bench.{BenchState, StepsTo}
use Rattle.probe_core.specs.Runs.{KeepsLog, KeepsRuns}

pub steps_then : {A B C : BenchState → BenchState → Type 0} → ((m n o : BenchState) → A m n → B n o → C m o) → (a b c : Option BenchState) → StepsTo A a b → StepsTo B b c → StepsTo C a c
steps_then f None None None s t = tt
steps_then f None None (Some o) s t = absurd t
steps_then f None (Some n) c s t = absurd s
steps_then f (Some m) None c s t = absurd s
steps_then f (Some m) (Some n) None s t = absurd t
steps_then f (Some m) (Some n) (Some o) s t = f m n o s t

pub steps_map : {A B : BenchState → BenchState → Type 0} → ((m n : BenchState) → A m n → B m n) → (a b : Option BenchState) → StepsTo A a b → StepsTo B a b
steps_map f None None s = tt
steps_map f None (Some n) s = absurd s
steps_map f (Some m) None s = absurd s
steps_map f (Some m) (Some n) s = f m n s

-- a state steps to itself
steps_self : (A : BenchState → BenchState → Type 0) → ((m : BenchState) → A m m) → (a : Option BenchState) → StepsTo A a a
steps_self A f None = tt
steps_self A f (Some m) = f m

pub steps_same : (A : BenchState → BenchState → Type 0) → ((m : BenchState) → A m m) → (a b : Option BenchState) → b ≡ a → StepsTo A a b
steps_same A f a b e = subst (λ (x : Option BenchState). StepsTo A a x) (sym e) (steps_self A f a)

-- runs that are kept to a second state and on to a third
pub runs_then : (a b c : Option BenchState) → KeepsRuns a b → KeepsRuns b c → KeepsRuns a c
runs_then a b c s t = steps_then (λ m n o f g. record { room = g.room ∙ f.room; runs = λ first h. g.runs first (f.runs first h) }) a b c s t

pub runs_same : (a b : Option BenchState) → b ≡ a → KeepsRuns a b
runs_same a b e = steps_same KeepsLog (λ m. record { room = refl; runs = λ first h. h }) a b e

pub runs_self : (a : Option BenchState) → KeepsRuns a a
runs_self a = runs_same a a refl
