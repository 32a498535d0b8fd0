-- How each call of an access ends, whatever it asks, and in which worlds its answers are so.
use Rattle.std.specs.Prelude.{◌≡◌, ℕ, length, Option, None, Result, Err, OnOk, IfErr, IfSome}
use Rattle.probe_core.specs.Bench.{BenchState}
use Rattle.target_calls.specs.World.{World}
use Rattle.access_calls.specs.Answers.{IsEnd, NoMemory, UnchangedByMemory}
use Rattle.access_calls.specs.Keeps.{KeepsAccess}
use Rattle.access_calls.specs.Left.{IsLeft}
use Rattle.access_calls.specs.Reported.{AccessView, world_from}
use Rattle.access_calls.specs.declared.stop.Stop.{Stop}

-- It is so in each world that is left after the call, which says where the access began, and how many calls may be answered.
abbrev pub InEachWorld : {S : Type 0} → (S → BenchState → Type 0) → (S → AccessView) → S → S → (World → Type 0) → Type 0
InEachWorld begun reported old new P = (m : BenchState) (answered : Option ℕ) → begun old m → IsLeft (reported new) answered → P (world_from m answered)

-- It is so in each world that is left after the call, where the access had no end before.
abbrev pub InEachOpenWorld : {S : Type 0} → (S → BenchState → Type 0) → (S → AccessView) → S → S → (World → Type 0) → Type 0
InEachOpenWorld begun reported old new P = (m : BenchState) (answered : Option ℕ) → begun old m → IsLeft (reported new) answered
    → (reported old).end ≡ None → P (world_from m answered)

-- How a call ends that asks. Its error is the end of the access, and an end from before is its error. Where memory is refused all stays as it was.
pub record EndsAtAsk {S T : Type 0} (begun : S → BenchState → Type 0) (reported : S → AccessView) (identity : S → ℕ) (result : Result T Stop)
    (old new : S) : Type 0 where
  pub no_end : OnOk result ((reported new).end ≡ None)
  pub memory : IfErr result (UnchangedByMemory (reported old) (reported new))
  pub end : IfErr result (IsEnd (reported new).end)
  pub ended : IfSome (reported old).end (λ s. result ≡ Err s)
  pub keeps : KeepsAccess begun reported identity old new

-- How a call ends that answers a result. Its error is the end of the access. After an end from before it answers that end or a result. It
-- takes no memory.
pub record EndsAtValue {S T : Type 0} (begun : S → BenchState → Type 0) (reported : S → AccessView) (identity : S → ℕ) (result : Result T Stop)
    (old new : S) : Type 0 where
  pub no_end : (reported old).end ≡ None → OnOk result ((reported new).end ≡ None)
  pub memory : IfErr result NoMemory
  pub end : IfErr result (IsEnd (reported new).end)
  pub ended : IfSome (reported old).end (λ s. IfErr result (λ t. t ≡ s))
  pub keeps : KeepsAccess begun reported identity old new

-- How a call ends that makes all that was asked: then each result is known. Its error is the end of the access, and an end from before is its
-- error. It takes no memory.
pub record EndsAtFlush {S T : Type 0} (begun : S → BenchState → Type 0) (reported : S → AccessView) (identity : S → ℕ) (result : Result T Stop)
    (old new : S) : Type 0 where
  pub known : OnOk result ((reported new).known ≡ length (reported new).asks.calls)
  pub no_end : OnOk result ((reported new).end ≡ None)
  pub memory : IfErr result NoMemory
  pub end : IfErr result (IsEnd (reported new).end)
  pub ended : IfSome (reported old).end (λ s. result ≡ Err s)
  pub keeps : KeepsAccess begun reported identity old new
