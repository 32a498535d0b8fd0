-- What a run that was done comes to with what follows it, by how far that has come.
use Rattle.std.proofs.Common.{◌≡◌, ◌∙◌, inl, inr, ℕ, ◌+◌, ◌-◌, ◌^◌, ◌<◌, ◌≤◌, min, nat_lt, Bool, true, false, cond, List, [], ◌∷◌, ◌++◌, append-nil, append_assoc, length, Option, None, Some, Result, Ok, Err, refl, sym, ap, subst, arith}
use Rattle.std.specs.Io.KnownBytes.{Appends}
use Rattle.std.specs.Prelude.{IfOk, MatchOption, is_some, option_map}
use Rattle.std.proofs.lemmas.Bool.{lt-ltb}
use Rattle.std.proofs.lemmas.List.{length-append}
use Rattle.target_calls.specs.Asks.{settled_last}
use Rattle.target_calls.specs.NeedPoints.{Asks}
use Rattle.target_calls.specs.World.{AtLeast, World, fewer, skips, stop, world_after}
use Rattle.target_calls.specs.declared.calls.Ask.{Ask}
use Rattle.target_calls.proofs.MarkLemmas.{length_marked, skips_marked}
use Rattle.target_calls.proofs.WorldLemmas.{whole_after, whole_least}
use Rattle.access_calls.specs.Left.{answered_at_end, answered_cut}
use Rattle.access_calls.specs.declared.ended.Ended.{Ended}
use Rattle.access_calls.specs.declared.ended.Ending.{Ending}
use Rattle.access_calls.specs.declared.ended.Ending.TheVariants as ending
use Rattle.access_calls.specs.declared.stop.Stop.{Stop}
use Rattle.access_calls.specs.declared.stop.Stop.TheVariants.{Cut, BenchFault, ReplyBad, OutOfMemory}
use Rattle.access_calls.specs.declared.stop.StopCause.{StopCause}
use Rattle.access_calls.specs.declared.stop.StopCause.TheVariants.{Faulted, NoAnswer}
use Rattle.sequence_rules.specs.Known.{Knows, known_part}
use Rattle.sequence_rules.specs.Late.{Grows}
use Rattle.sequence_rules.specs.Runs as runs
use Rattle.sequence_rules.specs.Runs.{Outcome, units_of, variables_of}
use Rattle.sequence_rules.proofs.KnownLemmas.{known_more}
use Rattle.sequels.specs.Sequel.{Comes, Sequel, comes}
use Rattle.sequels.specs.Limits.{GoesOnFrom}
use Rattle.sequels.specs.declared.close.Close.{Close}
use Rattle.sequels.proofs.SequelLemmas.{stops_by_end}
use Rattle.followed_runs.specs.Followed.{faulted_last, joined_outcome, stopped_by}
use Rattle.control_flow.specs.Answers as answers
use Rattle.control_flow.specs.Answers.{EndsAtCut, EndsAtFault, IsAll, IsPartOfOutcome, Ran, RunEndsAs, SharesCalls, StopsAfter, ran}
use Rattle.control_flow.specs.Closing.{ComesToEnd}
use Rattle.task_runs.specs.Following.{CameToEnd, ClosingEndIs, FollowsAs, LeftInMiddle, SequelIsCutOff, SequelStopsAt, Shares, TaskIsClosed}
use Rattle.task_runs.specs.declared.following.Closed.{Closed}
use Rattle.task_runs.specs.declared.following.Unclosed.{Unclosed}
use Rattle.task_runs.specs.declared.following.Unclosed.TheVariants as unclosed
use Rattle.task_runs.specs.declared.task.TaskEnded.{TaskEnded}

-- calls that end by a fault are neither done nor halted
not_whole : (calls : List Ask) → answers.EndsWhole (faulted_last calls) → ⊥
not_whole [] h = h
not_whole (a ∷ []) h = h
not_whole (a ∷ b ∷ calls) h = not_whole (b ∷ calls) h

-- nor are calls that stop
never_whole : (answered : Option ℕ) (calls : List Ask) → answers.EndsWhole (stopped_by answered calls) → ⊥
never_whole None calls h = not_whole calls h
never_whole (Some n) calls h = one (nat_lt n (length calls)) h
  where
    one : (b : Bool) → answers.EndsWhole (cond b runs.Unanswered (faulted_last calls)) → ⊥
    one true h = h
    one false h = not_whole calls h

some_faulted : (a : Ask) (calls : List Ask) → EndsAtFault (faulted_last (a ∷ calls))
some_faulted a [] = tt
some_faulted a (b ∷ calls) = some_faulted b calls

-- calls that stop end by a fault, where all are answered
stop_faults : (u : World) (calls : List Ask) → stop u calls ≡ Some (length calls) → EndsAtFault (faulted_last calls)
stop_faults u [] stops = absurd (cc)
stop_faults u (a ∷ calls) stops = some_faulted a calls

-- the units of a run and of what follows it are within 32 bits
least_skips : (n m : ℕ) → n ≡ m → n < 2 ^ 32 → n ≡ min m 4294967295
least_skips n m is few = grind (arith)

module _ (w : World) (s : Sequel Close) (o : Outcome) (none : stop w o.calls ≡ None) where
  abbrev u : World
  u = world_after w o.calls

  abbrev c : Comes Close
  c = comes (world_after w o.calls) s

  abbrev j : Outcome
  j = joined_outcome w o (comes (world_after w o.calls) s)

  abbrev end_by : Option Close → runs.Ending
  end_by e = cond (is_some e) runs.Done (stopped_by (world_after w o.calls).answered (comes (world_after w o.calls) s).calls)

  left_answers : (world_after w o.calls).answered ≡ fewer w.answered (length o.calls)
  left_answers = ap (λ (x : World). x.answered) (whole_after w o.calls none)

  -- it is done or halted only where what follows came to its end
  whole_end : answers.EndsWhole j.ending → (x : Close) × (c.end ≡ Some x)
  whole_end h = by_end c.end h
    where
      by_end : (e : Option Close) → answers.EndsWhole (end_by e) → (x : Close) × (e ≡ Some x)
      by_end None h = absurd (never_whole (world_after w o.calls).answered (comes (world_after w o.calls) s).calls h)
      by_end (Some x) h = (x, refl)

  stops_last : c.end ≡ None → stop u c.calls ≡ Some (length c.calls)
  stops_last is = subst (λ (e : Option Close). MatchOption e (stop u c.calls ≡ Some (length c.calls)) (λ x. stop u c.calls ≡ None)) is (stops_by_end u s).so

  shared : (old new : List Ask) → old ≡ settled_last o.calls → Shares c old new → SharesCalls new j
  shared old new is h = record {
    all = h.all;
    ours = h.ours;
    theirs = subst (λ (l : List Ask). GoesOnFrom (l ++ c.calls) h.all) is h.theirs;
    only = λ whole. (let e = whole_end whole in subst (λ (l : List Ask). length h.all ≤ length (l ++ c.calls)) is (h.only e.0 e.1));
  }

  -- ---- where it stopped

  -- the calls of both
  long : (old : List Ask) → old ≡ settled_last o.calls → units_of j ≡ length (old ++ c.calls)
  long old is = ap (λ (l : List Ask). length (l ++ c.calls)) (sym is)

  -- what follows has no end: the whole ends where its calls do
  ends_cut : c.end ≡ None → j.ending ≡ stopped_by u.answered c.calls
  ends_cut is = ap end_by is

  ends_done : (x : Close) → c.end ≡ Some x → j.ending ≡ runs.Done
  ends_done x is = ap end_by is

  cut_unanswered : (lines : ℕ) (old : List Ask) → old ≡ settled_last o.calls → w.answered ≡ Some lines → c.end ≡ None → length (old ++ c.calls) ≡ lines + 1 → j.ending ≡ runs.Unanswered
  cut_unanswered lines old is answered end count =
      let left : u.answered ≡ Some (lines - length o.calls) = left_answers ∙ ap (λ (a : Option ℕ). fewer a (length o.calls)) answered in
      let few : length o.calls ≤ lines = subst (AtLeast (length o.calls)) answered (whole_least w o.calls none) in
      let both = length-append old c.calls in
      let marked : length old ≡ length o.calls = ap length is ∙ length_marked o.calls in
      let over : lines - length o.calls < length c.calls = omega (arith, few, both, marked, count) in
      ends_cut end ∙ ap (λ (a : Option ℕ). stopped_by a c.calls) left
      ∙ ap (λ (b : Bool). cond b runs.Unanswered (faulted_last c.calls)) (lt-ltb (lines - length o.calls) (length c.calls) over)

  stops_at : (cause : StopCause) (lines : ℕ) (old : List Ask) → old ≡ settled_last o.calls → w.answered ≡ answered_cut cause lines → SequelStopsAt cause lines c old → StopsAfter cause lines j
  stops_at Faulted lines old is answered h =
      let free : u.answered ≡ None = left_answers ∙ ap (λ (a : Option ℕ). fewer a (length o.calls)) answered in
      let fault : EndsAtFault (stopped_by None c.calls) = stop_faults u c.calls (stops_last h.0) in
      (subst EndsAtFault (sym (ends_cut h.0 ∙ ap (λ (a : Option ℕ). stopped_by a c.calls) free)) fault, long old is ∙ h.1)
  stops_at NoAnswer lines old is answered (inl h) = inl (cut_unanswered lines old is answered h.0 h.1, long old is ∙ h.1)
  stops_at NoAnswer lines old is answered (inr h) = inr (subst answers.EndsWhole (sym (ends_done h.0 h.1)) tt, long old is ∙ h.2)

  -- ---- what was written

  wrote : (known : Bool) (mid now : Option (List ℕ)) (text : List ℕ) → Knows known mid → known_part known mid ≡ o.written → Appends mid now text → known_part known now ≡ option_map (λ bytes. bytes ++ text) o.written
  wrote known mid now text knows is put = known_more known mid now text put knows ∙ ap (option_map (λ bytes. bytes ++ text)) is

  grew : (known : Bool) (mid now : Option (List ℕ)) (part rest : List ℕ) → Knows known mid → known_part known mid ≡ o.written → Appends mid now part → c.written ≡ part ++ rest → Grows (known_part known now) j.written
  grew known mid now part rest knows is put parts = record {
    part = rest;
    same = by_known o.written ∙ ap (option_map (λ bytes. bytes ++ rest)) (sym (wrote known mid now part knows is put));
  }
    where
      by_known : (k : Option (List ℕ)) → option_map (λ bytes. bytes ++ c.written) k ≡ option_map (λ bytes. bytes ++ rest) (option_map (λ bytes. bytes ++ part) k)
      by_known None = refl
      by_known (Some xs) = ap Some (ap (λ (l : List ℕ). xs ++ l) parts ∙ sym (append_assoc xs part rest))

  -- ---- by what was answered

  -- What is known of the run and of what followed: the run was done, with these variables and lines; what followed was closed so.
  pub record Closes (closed : Result Closed Unclosed) (ended : Ended) (task : TaskEnded) (asks : Asks) (old : List Ask) (known : Bool) (mid : Option (List ℕ)) : Type 0 where
    pub ending : ended.ending ≡ ending.Done
    pub variables : variables_of ended.variables ≡ o.variables
    pub lines : known_part known mid ≡ o.written
    pub knows : Knows known mid
    pub calls : old ≡ settled_last o.calls
    pub skipped : ℕ
    pub is : TaskIsClosed closed ended skipped task
    pub units : IfOk closed (λ x. length asks.calls ≡ ended.units + x.units)
    pub skips : IfOk closed (λ x. (skipped ≡ skips w asks.calls) × (skipped < 2 ^ 32))

  all_of : (x : Closed) (ended : Ended) (task : TaskEnded) (asks : Asks) (old : List Ask) (known : Bool) (mid now : Option (List ℕ)) → Closes (Ok x) ended task asks old known mid → CameToEnd c old asks.calls mid now x.close
      → IsAll j (ran task.ended asks (known_part known now))
  all_of x ended task asks old known mid now k came =
      let marked : asks.calls ≡ settled_last (settled_last o.calls ++ c.calls) = came.calls ∙ ap (λ (l : List Ask). settled_last (l ++ c.calls)) k.calls in
      record {
        variables = ap variables_of k.is.variables ∙ k.variables ∙ sym (ap (λ (e : Option Close). cond (is_some e) o.variables []) came.end);
        units = k.is.units ∙ sym k.units ∙ ap length marked ∙ length_marked (settled_last o.calls ++ c.calls);
        skipped = k.is.skips ∙ least_skips k.skipped (skips w (settled_last o.calls ++ c.calls)) (k.skips.0 ∙ ap (skips w) marked ∙ skips_marked w (settled_last o.calls ++ c.calls)) k.skips.1;
        calls = marked;
        written = wrote known mid now c.written k.knows k.lines came.written;
      }

  part_of : (task : TaskEnded) (asks : Asks) (old : List Ask) (known : Bool) (mid now : Option (List ℕ)) → Knows known mid → known_part known mid ≡ o.written → old ≡ settled_last o.calls → LeftInMiddle c old asks.calls mid now
      → IsPartOfOutcome j (ran task.ended asks (known_part known now))
  part_of task asks old known mid now knows lines calls h = record {
    written = grew known mid now h.part h.rest knows lines h.written h.lines;
    calls = shared old asks.calls calls h.calls;
  }

  cut_of : (cause : StopCause) (lines : ℕ) (task : TaskEnded) (asks : Asks) (old : List Ask) (known : Bool) (mid now : Option (List ℕ)) → Knows known mid → known_part known mid ≡ o.written → old ≡ settled_last o.calls
      → w.answered ≡ answered_cut cause lines → SequelIsCutOff cause lines c old asks.calls mid now → EndsAtCut cause lines j (ran task.ended asks (known_part known now))
  cut_of cause lines task asks old known mid now knows wrote_is calls answered h = record {
    stops = stops_at cause lines old calls answered h.stops;
    written = wrote known mid now c.written knows wrote_is h.written;
    calls = shared old asks.calls calls h.calls;
  }

  cut_part : (cause : StopCause) (lines : ℕ) (task : TaskEnded) (asks : Asks) (old : List Ask) (known : Bool) (mid now : Option (List ℕ)) → Knows known mid → known_part known mid ≡ o.written → old ≡ settled_last o.calls
      → SequelIsCutOff cause lines c old asks.calls mid now → IsPartOfOutcome j (ran task.ended asks (known_part known now))
  cut_part cause lines task asks old known mid now knows wrote_is calls h = record {
    written = grew known mid now c.written [] knows wrote_is h.written (sym (append-nil c.written));
    calls = shared old asks.calls calls h.calls;
  }

  -- what was not closed comes first in the whole
  pub follows_part : (lines : ℕ) (closed : Result Closed Unclosed) (ended : Ended) (task : TaskEnded) (asks : Asks) (old : List Ask) (known : Bool) (mid now : Option (List ℕ)) → Closes closed ended task asks old known mid → (ComesToEnd task.ended.ending → ⊥)
      → FollowsAs lines c closed old asks.calls mid now → IsPartOfOutcome j (ran task.ended asks (known_part known now))
  follows_part lines (Ok x) ended task asks old known mid now k never h = absurd (never (subst ComesToEnd (sym (k.is.ending ∙ k.ending)) tt))
  follows_part lines (Err unclosed.WriteFault) ended task asks old known mid now k never h = part_of task asks old known mid now k.knows k.lines k.calls h
  follows_part lines (Err (unclosed.Stopped (Cut r))) ended task asks old known mid now k never h = cut_part r.cause lines task asks old known mid now k.knows k.lines k.calls h
  follows_part lines (Err (unclosed.Stopped (BenchFault issued confirmed))) ended task asks old known mid now k never h = part_of task asks old known mid now k.knows k.lines k.calls h
  follows_part lines (Err (unclosed.Stopped ReplyBad)) ended task asks old known mid now k never h = part_of task asks old known mid now k.knows k.lines k.calls h
  follows_part lines (Err (unclosed.Stopped OutOfMemory)) ended task asks old known mid now k never h = part_of task asks old known mid now k.knows k.lines k.calls h

  pub follows : (lines : ℕ) (closed : Result Closed Unclosed) (ended : Ended) (task : TaskEnded) (asks : Asks) (old : List Ask) (known : Bool) (mid now : Option (List ℕ)) (end : Option Stop)
      → Closes closed ended task asks old known mid → w.answered ≡ answered_at_end end lines → ClosingEndIs closed end → FollowsAs lines c closed old asks.calls mid now
      → RunEndsAs task.ended.ending lines j (ran task.ended asks (known_part known now))
  follows lines (Ok x) ended task asks old known mid now end k answered ends h =
      subst (λ (e : Ending). RunEndsAs e lines j (ran task.ended asks (known_part known now))) (sym (k.is.ending ∙ k.ending))
      (ends_done x.close h.end, all_of x ended task asks old known mid now k h)
  follows lines (Err unclosed.WriteFault) ended task asks old known mid now end k answered ends h =
      subst (λ (e : Ending). RunEndsAs e lines j (ran task.ended asks (known_part known now))) (sym k.is.ending) (part_of task asks old known mid now k.knows k.lines k.calls h)
  follows lines (Err (unclosed.Stopped (Cut r))) ended task asks old known mid now end k answered ends h =
      subst (λ (e : Ending). RunEndsAs e lines j (ran task.ended asks (known_part known now))) (sym k.is.ending)
      (cut_of r.cause lines task asks old known mid now k.knows k.lines k.calls (answered ∙ ap (λ (e : Option Stop). answered_at_end e lines) ends) h)
  follows lines (Err (unclosed.Stopped (BenchFault issued confirmed))) ended task asks old known mid now end k answered ends h =
      subst (λ (e : Ending). RunEndsAs e lines j (ran task.ended asks (known_part known now))) (sym k.is.ending) (part_of task asks old known mid now k.knows k.lines k.calls h)
  follows lines (Err (unclosed.Stopped ReplyBad)) ended task asks old known mid now end k answered ends h =
      subst (λ (e : Ending). RunEndsAs e lines j (ran task.ended asks (known_part known now))) (sym k.is.ending) (part_of task asks old known mid now k.knows k.lines k.calls h)
  follows lines (Err (unclosed.Stopped OutOfMemory)) ended task asks old known mid now end k answered ends h =
      subst (λ (e : Ending). RunEndsAs e lines j (ran task.ended asks (known_part known now))) (sym k.is.ending) (part_of task asks old known mid now k.knows k.lines k.calls h)
