-- A run over an access goes on with what follows it.
use Rattle.std.proofs.Common.{◌≡◌, ◌∙◌, ℕ, ◌+◌, ◌^◌, ◌<◌, Bool, true, false, List, length, Option, None, Some, Result, Ok, Err, refl, sym, ap, subst}
use Rattle.std.specs.Prelude.{IfOk, is_none}
use Rattle.probe_core.specs.Bench.{BenchState}
use Rattle.probe_core.specs.Probe.{target_of}
use Rattle.target_calls.specs.World.{World, skips, stop, world_after}
use Rattle.target_calls.proofs.MarkLemmas.{after_marked, stop_marked}
use Rattle.access_calls.specs.Left.{answered_at_end, answered_by}
use Rattle.access_calls.specs.Reported.{AccessView, world_from}
use Rattle.access_calls.specs.declared.ended.Ended.{Ended}
use Rattle.access_calls.specs.declared.ended.Ending.{Ending}
use Rattle.access_calls.specs.declared.ended.Ending.TheVariants as ending
use Rattle.access_calls.specs.declared.stop.Stop.{Stop}
use Rattle.access_calls.specs.declared.stop.Stop.TheVariants.{Cut, BenchFault, ReplyBad, OutOfMemory}
use Rattle.sequence_rules.specs.Known.{Knows, known_part}
use Rattle.sequence_rules.specs.Runs as runs
use Rattle.sequence_rules.specs.Runs.{Outcome, Program, meaning, outcome, outcome_of}
use Rattle.sequence_rules.proofs.KnownLemmas.{knows_more}
use Rattle.sequels.specs.Sequel.{Sequel, comes}
use Rattle.sequels.specs.declared.close.Close.{Close}
use Rattle.sequels.specs.declared.close.Close.TheVariants as close
use Rattle.followed_runs.specs.Followed as followed
use Rattle.followed_runs.specs.Followed.{closed_at, followed_at, joined_outcome}
use Rattle.control_flow.specs.Answers.{EndBy, HasLines, IsAll, IsPartOfOutcome, RunEndsAs, RunHasSinkCause, ran}
use Rattle.control_flow.specs.Closing.{ComesToEnd}
use Rattle.function_calls.specs.Lines.{AppendsLines}
use Rattle.function_calls.proofs.WholeLines.{lines_more}
use Rattle.task_runs.specs.Following as following
use Rattle.task_runs.specs.Following.{ClosingEndIs, FollowsAs, TaskIsClosed, ending_by}
use Rattle.task_runs.specs.Tasks.{ClosesAs, goes_on, is_done, scanning, sequel_of}
use Rattle.task_runs.specs.declared.followed.Followed.{Followed}
use Rattle.task_runs.specs.declared.followed.Followed.TheVariants.{Nothing, Load, Scan}
use Rattle.task_runs.specs.declared.following.Closed.{Closed}
use Rattle.task_runs.specs.declared.following.Unclosed.{Unclosed}
use Rattle.task_runs.specs.declared.following.Unclosed.TheVariants as unclosed
use Rattle.task_runs.specs.declared.task.TaskEnded.{TaskEnded}
use Rattle.image_load.specs.LoadSequel.{load_sequel}
use Rattle.task_runs.proofs.JoinLemmas.{Closes, follows, follows_part}
use Rattle.task_runs.proofs.TaskLemmas.{done_elsewhere}

-- ---- where something follows

done_so : (en : Ending) → is_done en ≡ true → en ≡ ending.Done
done_so ending.Done is = refl
done_so (ending.Halted cause) is = absurd cc
done_so (ending.Cut report) is = absurd cc
done_so (ending.BenchFault issued confirmed) is = absurd cc
done_so ending.ReplyBad is = absurd cc
done_so ending.WriteFault is = absurd cc
done_so ending.OutOfMemory is = absurd cc

pub is_going : (f : Followed) (en : Ending) → goes_on f en ≡ true → (en ≡ ending.Done) × ((s : Sequel Close) × (sequel_of f ≡ Some s))
is_going Nothing en is = absurd cc
is_going (Load ap' image) en is = (done_so en is, (load_sequel ap' image.now, refl))
is_going (Scan ap') en is = (done_so en is, (scanning ap', refl))

-- ---- where nothing follows

not_done : (en : Ending) → is_done en ≡ false → en ≡ ending.Done → ⊥
not_done en none is = (let bad : is_done ending.Done ≡ false = ap is_done (sym is) ∙ none in cc)

pub nothing_closes : (f : Followed) (en : Ending) (w : World) (o : Outcome) → goes_on f en ≡ false → en ≡ ending.Done → close.Nothing ≡ followed.close_after_run (sequel_of f) w o
nothing_closes Nothing en w o none is = refl
nothing_closes (Load ap' image) en w o none is = absurd (not_done en none is)
nothing_closes (Scan ap') en w o none is = absurd (not_done en none is)

pub nothing_closes_as : (f : Followed) (en : Ending) → goes_on f en ≡ false → en ≡ ending.Done → ClosesAs f close.Nothing
nothing_closes_as Nothing en none is = refl
nothing_closes_as (Load ap' image) en none is = absurd (not_done en none is)
nothing_closes_as (Scan ap') en none is = absurd (not_done en none is)

pub some_follows : (f : Followed) (en : Ending) → goes_on f en ≡ true → is_none (sequel_of f) ≡ true → ⊥
some_follows Nothing en is none = cc
some_follows (Load ap' image) en is none = cc
some_follows (Scan ap') en is none = cc

-- ---- by what was closed

-- how it ended says whether it was closed
pub unclosed_end : (u : Unclosed) → ending_by u ≡ ending.Done → ⊥
unclosed_end unclosed.WriteFault is = cc
unclosed_end (unclosed.Stopped (Cut r)) is = cc
unclosed_end (unclosed.Stopped (BenchFault issued confirmed)) is = cc
unclosed_end (unclosed.Stopped ReplyBad) is = cc
unclosed_end (unclosed.Stopped OutOfMemory) is = cc

pub closes_as : (f : Followed) (closed : Result Closed Unclosed) (ended : Ended) (skipped : ℕ) (task : TaskEnded) → TaskIsClosed closed ended skipped task → IfOk closed (λ x. ClosesAs f x.close) → task.ended.ending ≡ ending.Done → ClosesAs f task.close
closes_as f (Ok x) ended skipped task is closes done = subst (ClosesAs f) (sym is.close) closes
closes_as f (Err u) ended skipped task is closes done = absurd (unclosed_end u (sym is.ending ∙ done))

pub closes_not : (closed : Result Closed Unclosed) (ended : Ended) (skipped : ℕ) (task : TaskEnded) → ended.ending ≡ ending.Done → TaskIsClosed closed ended skipped task → (task.ended.ending ≡ ending.Done → ⊥) → task.close ≡ close.Nothing
closes_not (Ok x) ended skipped task done is never = absurd (never (is.ending ∙ done))
closes_not (Err u) ended skipped task done is never = is.close

-- the access has the end that is answered
pub ends_by : (closed : Result Closed Unclosed) (ended : Ended) (skipped : ℕ) (task : TaskEnded) (end : Option Stop) → ended.ending ≡ ending.Done → TaskIsClosed closed ended skipped task → ClosingEndIs closed end → EndBy task.ended.ending end
ends_by (Ok x) ended skipped task end done is h = subst (λ (e : Ending). EndBy e end) (sym (is.ending ∙ done)) h
ends_by (Err unclosed.WriteFault) ended skipped task end done is h = subst (λ (e : Ending). EndBy e end) (sym is.ending) h
ends_by (Err (unclosed.Stopped (Cut r))) ended skipped task end done is h = subst (λ (e : Ending). EndBy e end) (sym is.ending) h
ends_by (Err (unclosed.Stopped (BenchFault issued confirmed))) ended skipped task end done is h = subst (λ (e : Ending). EndBy e end) (sym is.ending) h
ends_by (Err (unclosed.Stopped ReplyBad)) ended skipped task end done is h = subst (λ (e : Ending). EndBy e end) (sym is.ending) h
ends_by (Err (unclosed.Stopped OutOfMemory)) ended skipped task end done is h = subst (λ (e : Ending). EndBy e end) (sym is.ending) h

pub skipped_by : (closed : Result Closed Unclosed) (ended : Ended) (skipped : ℕ) (task : TaskEnded) → TaskIsClosed closed ended skipped task → task.ended.skipped ≡ skipped
skipped_by (Ok x) ended skipped task is = is.skips
skipped_by (Err u) ended skipped task is = is.skips

lines_after : (a b c : Option (List ℕ)) → AppendsLines a b → AppendsLines b c → AppendsLines a c
lines_after a b c first second = lines_more a b c second.text first second.whole second.appends

pub lines_by : (closed : Result Closed Unclosed) (ended : Ended) (skipped : ℕ) (task : TaskEnded) (a b c : Option (List ℕ)) → ended.ending ≡ ending.Done → TaskIsClosed closed ended skipped task
    → HasLines ended.ending a b → following.ClosingHasLines closed b c → HasLines task.ended.ending a c
lines_by (Ok x) ended skipped task a b c done is first h = subst (λ (e : Ending). HasLines e a c) (sym (is.ending ∙ done)) (lines_after a b c (subst (λ (e : Ending). HasLines e a b) done first) h)
lines_by (Err unclosed.WriteFault) ended skipped task a b c done is first h = subst (λ (e : Ending). HasLines e a c) (sym is.ending) tt
lines_by (Err (unclosed.Stopped (Cut r))) ended skipped task a b c done is first h = subst (λ (e : Ending). HasLines e a c) (sym is.ending) (lines_after a b c (subst (λ (e : Ending). HasLines e a b) done first) h)
lines_by (Err (unclosed.Stopped (BenchFault issued confirmed))) ended skipped task a b c done is first h =
    subst (λ (e : Ending). HasLines e a c) (sym is.ending) (lines_after a b c (subst (λ (e : Ending). HasLines e a b) done first) h)
lines_by (Err (unclosed.Stopped ReplyBad)) ended skipped task a b c done is first h = subst (λ (e : Ending). HasLines e a c) (sym is.ending) (lines_after a b c (subst (λ (e : Ending). HasLines e a b) done first) h)
lines_by (Err (unclosed.Stopped OutOfMemory)) ended skipped task a b c done is first h = subst (λ (e : Ending). HasLines e a c) (sym is.ending) (lines_after a b c (subst (λ (e : Ending). HasLines e a b) done first) h)

pub caused_by : (closed : Result Closed Unclosed) (ended : Ended) (skipped : ℕ) (task : TaskEnded) (a b c : ℕ) → ended.ending ≡ ending.Done → TaskIsClosed closed ended skipped task
    → RunHasSinkCause ended.ending a b → following.ClosingHasSinkCause closed b c → RunHasSinkCause task.ended.ending a c
caused_by closed ended skipped task a b c done is first h = by_closed closed is (subst (λ (n : ℕ). following.ClosingHasSinkCause closed n c) (subst (λ (e : Ending). RunHasSinkCause e a b) done first) h)
  where
    by_closed : (k : Result Closed Unclosed) → TaskIsClosed k ended skipped task → following.ClosingHasSinkCause k a c → RunHasSinkCause task.ended.ending a c
    by_closed (Ok x) q h = subst (λ (e : Ending). RunHasSinkCause e a c) (sym (q.ending ∙ done)) h
    by_closed (Err unclosed.WriteFault) q h = subst (λ (e : Ending). RunHasSinkCause e a c) (sym q.ending) h
    by_closed (Err (unclosed.Stopped (Cut r))) q h = subst (λ (e : Ending). RunHasSinkCause e a c) (sym q.ending) h
    by_closed (Err (unclosed.Stopped (BenchFault issued confirmed))) q h = subst (λ (e : Ending). RunHasSinkCause e a c) (sym q.ending) h
    by_closed (Err (unclosed.Stopped ReplyBad)) q h = subst (λ (e : Ending). RunHasSinkCause e a c) (sym q.ending) h
    by_closed (Err (unclosed.Stopped OutOfMemory)) q h = subst (λ (e : Ending). RunHasSinkCause e a c) (sym q.ending) h

-- what the sink held is still known after a run that is done
pub knows_done : (known : Bool) (en : Ending) (a b : Option (List ℕ)) → en ≡ ending.Done → HasLines en a b → Knows known a → Knows known b
knows_done known en a b done h k = (let lines = subst (λ (e : Ending). HasLines e a b) done h in knows_more known a b lines.text lines.appends k)

-- so it is where what follows was closed, of an access that has no end then
pub where_closed : (closed : Result Closed Unclosed) (end : Option Stop) (P : Type 0) → ClosingEndIs closed end → (end ≡ None → P) → IfOk closed (λ x. P)
where_closed (Ok x) end P is f = f is
where_closed (Err u) end P is f = tt

-- ---- together

-- What is known of a run that was done and of what followed it, over an access that reported a0 between and reports a now, in a world that is left.
pub record Going (f : Followed) (m : BenchState) (n : Option ℕ) (p : Program) (before : Option (List ℕ)) (a0 a : AccessView) (ended : Ended) (closed : Result Closed Unclosed) (task : TaskEnded) (known : Bool) (mid now : Option (List ℕ)) : Type 0 where
  pub sequel : Sequel Close
  pub is : sequel_of f ≡ Some sequel
  pub done : ended.ending ≡ ending.Done
  pub no_end : a0.end ≡ None
  pub ends : RunEndsAs ended.ending a0.lines (outcome_of (meaning (world_from m (answered_by a0)) p before)) (ran ended a0.asks (known_part known mid))
  pub whole : stop (world_from m n) a0.asks.calls ≡ None
  pub follows : FollowsAs a.lines (comes (world_after (world_from m n) a0.asks.calls) sequel) closed a0.asks.calls a.asks.calls mid now
  pub end : ClosingEndIs closed a.end
  pub skipped : ℕ
  pub closes : TaskIsClosed closed ended skipped task
  pub knows : Knows known mid
  pub units : IfOk closed (λ x. length a.asks.calls ≡ ended.units + x.units)
  pub skips : IfOk closed (λ x. (skipped ≡ skips (world_from m n) a.asks.calls) × (skipped < 2 ^ 32))

module _ (f : Followed) (m : BenchState) (n : Option ℕ) (p : Program) (before : Option (List ℕ)) (a0 a : AccessView) (ended : Ended) (closed : Result Closed Unclosed) (task : TaskEnded) (known : Bool) (mid now : Option (List ℕ)) (g : Going f m n p before a0 a ended closed task known mid now) where
  abbrev w : World
  w = world_from m n

  abbrev o : Outcome
  o = outcome p (target_of m.probe) before

  done_all : (o.ending ≡ runs.Done) × IsAll o (ran ended a0.asks (known_part known mid))
  done_all = subst (λ (x : Option Stop). RunEndsAs ending.Done a0.lines (outcome_of (meaning (world_from m (answered_at_end x a0.lines)) p before)) (ran ended a0.asks (known_part known mid))) g.no_end
      (subst (λ (e : Ending). RunEndsAs e a0.lines (outcome_of (meaning (world_from m (answered_by a0)) p before)) (ran ended a0.asks (known_part known mid))) g.done g.ends)

  whole_here : stop w o.calls ≡ None
  whole_here = sym (stop_marked w o.calls) ∙ ap (stop w) (sym done_all.1.calls) ∙ g.whole

  same : outcome_of (meaning w p before) ≡ o
  same = done_elsewhere (target_of m.probe) n p before whole_here

  here : world_after w a0.asks.calls ≡ world_after w o.calls
  here = ap (world_after w) done_all.1.calls ∙ after_marked w o.calls

  followed_here : FollowsAs a.lines (comes (world_after w o.calls) g.sequel) closed a0.asks.calls a.asks.calls mid now
  followed_here = subst (λ (u : World). FollowsAs a.lines (comes u g.sequel) closed a0.asks.calls a.asks.calls mid now) here g.follows

  joins : followed.followed_outcome (sequel_of f) w (outcome_of (meaning w p before)) ≡ joined_outcome w o (comes (world_after w o.calls) g.sequel)
  joins = ap (λ (q : Option (Sequel Close)). followed.followed_outcome q w (outcome_of (meaning w p before))) g.is
      ∙ ap (λ (x : Outcome). followed.followed_outcome (Some g.sequel) w x) same ∙ ap (followed_at w g.sequel o) done_all.0

  closed_is : followed.close_after_run (sequel_of f) w (outcome_of (meaning w p before)) ≡ followed.close_of (comes (world_after w o.calls) g.sequel).end
  closed_is = ap (λ (q : Option (Sequel Close)). followed.close_after_run q w (outcome_of (meaning w p before))) g.is
      ∙ ap (λ (x : Outcome). followed.close_after_run (Some g.sequel) w x) same ∙ ap (closed_at w g.sequel o) done_all.0

  closing : Closes w g.sequel o whole_here closed ended task a.asks a0.asks.calls known mid
  closing = record {
    ending = g.done;
    variables = done_all.1.variables;
    lines = done_all.1.written;
    knows = g.knows;
    calls = done_all.1.calls;
    skipped = g.skipped;
    is = g.closes;
    units = g.units;
    skips = g.skips;
  }

  pub goes_so : n ≡ answered_by a → RunEndsAs task.ended.ending a.lines (followed.followed_outcome (sequel_of f) w (outcome_of (meaning w p before))) (ran task.ended a.asks (known_part known now))
  goes_so by = subst (λ (x : Outcome). RunEndsAs task.ended.ending a.lines x (ran task.ended a.asks (known_part known now))) (sym joins)
      (follows w g.sequel o whole_here a.lines closed ended task a.asks a0.asks.calls known mid now a.end closing by g.end followed_here)

  pub part_so : (ComesToEnd task.ended.ending → ⊥) → IsPartOfOutcome (followed.followed_outcome (sequel_of f) w (outcome_of (meaning w p before))) (ran task.ended a.asks (known_part known now))
  part_so never = subst (λ (x : Outcome). IsPartOfOutcome x (ran task.ended a.asks (known_part known now))) (sym joins)
      (follows_part w g.sequel o whole_here a.lines closed ended task a.asks a0.asks.calls known mid now closing never followed_here)

  pub closes_here : task.ended.ending ≡ ending.Done → task.close ≡ followed.close_after_run (sequel_of f) w (outcome_of (meaning w p before))
  closes_here done = by_closed closed g.closes followed_here ∙ sym closed_is
    where
      by_closed : (k : Result Closed Unclosed) → TaskIsClosed k ended g.skipped task → FollowsAs a.lines (comes (world_after w o.calls) g.sequel) k a0.asks.calls a.asks.calls mid now
          → task.close ≡ followed.close_of (comes (world_after w o.calls) g.sequel).end
      by_closed (Ok x) q h = q.close ∙ ap followed.close_of (sym h.end)
      by_closed (Err u) q h = absurd (unclosed_end u (sym q.ending ∙ done))
