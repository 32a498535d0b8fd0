-- The frame of a call that puts lines: what it keeps of its bench, how it ends, and what comes first of what it puts.
use Rattle.std.specs.Prelude.{◌≡◌, ◌≢◌, ℕ, List, ◌++◌, Option, Result, IfErr, IfSome}
use Rattle.std.specs.Io.KnownBytes.{Appends}
use Rattle.dap_base.specs.Streams.{PutAppends}
use Rattle.target_machine.specs.State.{TargetState}
use Rattle.probe_core.specs.Bench.{BenchState, IsAsBefore, Reported, seen_bench}
use Rattle.text_lines.specs.Causes.{NamesFault}
use Rattle.report_lines.specs.Views.{IsViewedAsBefore, View}
use Rattle.report_lines.specs.declared.put.TextEnd.{TextEnd}
use Rattle.report_lines.specs.declared.put.TextEnd.TheVariants as ends

-- What a sink held, where that is known, stays in front of what it holds.
pub record AppendsSome (old new : Option (List ℕ)) : Type 0 where
  pub piece : List ℕ
  pub appends : Appends old new piece

-- These lines come first of what was put: at `Ok` whole, and at an error perhaps a part of them.
pub record PutsFirst {E : Type 0} (lines : List ℕ) (old new : Option (List ℕ)) (result : Result (Unit {0}) E) : Type 0 where
  pub rest : List ℕ
  pub puts : PutAppends old new result (lines ++ rest)

-- A call keeps its bench: all is as it was except the count of faults, and it is the same loan.
pub record KeepsBench {B : Type 0} (reported : B → Reported) (state : B → Option BenchState) (identity : B → ℕ) (old new : B) : Type 0 where
  pub same : IsAsBefore (seen_bench reported state old) (seen_bench reported state new)
  pub same_bench : identity new ≡ identity old

-- How a call ends that asks no bench. What the sink held stays in front, and no answer says that a bench failed. The sink's count of faults rose
-- where the answer says that it failed, and else it is the same.
pub record EndsPutting {T K : Type 0} (written : K → Option (List ℕ)) (faults : K → ℕ) (result : Result T TextEnd) (old new : K) : Type 0 where
  pub some : AppendsSome (written old) (written new)
  pub bench : IfErr result (λ e. e ≢ ends.BenchFault)
  pub sink : NamesFault ends.WriteFault (faults old) (faults new) result

-- Lines were put, and no bench was asked: at `Ok` all of them, and at an error a prefix of them, where what the sink holds is known. The
-- call ends as one that asks no bench.
pub record PutsLines {K : Type 0} (lines : List ℕ) (result : Result (Unit {0}) TextEnd) (written : K → Option (List ℕ)) (faults : K → ℕ)
    (old new : K) : Type 0 where
  pub text : PutAppends (written old) (written new) result lines
  pub ends : EndsPutting written faults result old new

-- How a call ends that asks a bench. The same is true, and the bench's count of faults rose where the answer says that it failed, and else it
-- stays.
pub record EndsShowing {T K : Type 0} (written : K → Option (List ℕ)) (faults : K → ℕ) (result : Result T TextEnd)
    (bench_old bench_new : Reported) (old new : K) : Type 0 where
  pub some : AppendsSome (written old) (written new)
  pub bench : NamesFault ends.BenchFault bench_old.faults bench_new.faults result
  pub sink : NamesFault ends.WriteFault (faults old) (faults new) result

-- What a call keeps that asks what shows a target, and how it ends. All that is known of what shows it is as it was, except the count of faults
-- of its bench. It ends as a call that asks that bench.
pub record ShowsView {S T K : Type 0} (known : S → View) (written : K → Option (List ℕ)) (faults : K → ℕ) (result : Result T TextEnd)
    (shower_old shower_new : S) (old new : K) : Type 0 where
  pub keeps : IsViewedAsBefore (known shower_old) (known shower_new)
  pub ends : EndsShowing written faults result (known shower_old).bench.reported (known shower_new).bench.reported old new

-- The lines of a target were put: at `Ok` all of them, and at an error a prefix of them, where what the sink holds and what shows the target
-- are known. The call keeps what shows the target, and ends as one that asks it.
pub record PutsTarget {S K : Type 0} (lines : TargetState → List ℕ) (result : Result (Unit {0}) TextEnd) (known : S → View)
    (written : K → Option (List ℕ)) (faults : K → ℕ) (shower_old shower_new : S) (old new : K) : Type 0 where
  pub text : IfSome (known shower_old).target (λ t. PutAppends (written old) (written new) result (lines t))
  pub shows : ShowsView known written faults result shower_old shower_new old new

-- The lines of a bench were put: at `Ok` all of them, and at an error a prefix of them, where what the sink holds and the bench are known.
-- The call keeps its bench, and ends as one that asks it.
pub record PutsShown {B K : Type 0} (lines : BenchState → List ℕ) (result : Result (Unit {0}) TextEnd) (reported : B → Reported)
    (state : B → Option BenchState) (identity : B → ℕ) (written : K → Option (List ℕ)) (faults : K → ℕ) (bench_old bench_new : B) (old new : K) : Type 0 where
  pub text : IfSome (state bench_old) (λ m. PutAppends (written old) (written new) result (lines m))
  pub keeps : KeepsBench reported state identity bench_old bench_new
  pub ends : EndsShowing written faults result (reported bench_old) (reported bench_new) old new
