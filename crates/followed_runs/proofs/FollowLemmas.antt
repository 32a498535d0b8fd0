-- A run with what follows it, where only so many units are answered.
use Rattle.std.proofs.Common.{◌≡◌, ◌∙◌, ◌⊎◌, inl, inr, ℕ, zero, suc, ◌+◌, ◌-◌, ◌≤◌, min, Bool, true, false, cond, ◌||◌, List, [], ◌∷◌, ◌++◌, append_assoc, length, Option, None, Some, refl, sym, ap, subst, arith}
use Rattle.std.proofs.lemmas.Bool.{le-ltb, lt-ltb}
use Rattle.std.proofs.lemmas.List.{length-append}
use Rattle.std.specs.Prelude.{is_some, option_map}
use Rattle.target_machine.specs.State.{TargetState}
use Rattle.target_calls.specs.Asks.{settled_last}
use Rattle.target_calls.specs.World.{World, done_now, is_faulted, is_over, next_world, one_fewer, one_if_skipped, skips, start_world, stop, world_after}
use Rattle.target_calls.specs.declared.calls.Ask.{Ask}
use Rattle.target_calls.proofs.MarkLemmas.{length_marked}
use Rattle.target_calls.proofs.WorldLemmas.{unlimited_whole, whole_after}
use Rattle.sequence_rules.specs.Late.{Grows}
use Rattle.sequence_rules.specs.Laws as laws
use Rattle.sequence_rules.specs.Runs as runs
use Rattle.sequence_rules.specs.Runs.{Ending, Outcome, Program, outcome, outcome_within, units_of}
use Rattle.sequence_rules.proofs.LateLemmas.{grows_on}
use Rattle.sequence_rules.proofs.Limits.{limit_cuts}
use Rattle.sequence_rules.proofs.Made.{are_made}
use Rattle.sequels.specs.Limits as limits
use Rattle.sequels.specs.Limits.{CutShort, GoesOnFrom, SameWithin, limited_world}
use Rattle.sequels.specs.Sequel.{Comes, Sequel, comes}
use Rattle.sequels.proofs.LimitLemmas.{from_on, limit_comes}
use Rattle.followed_runs.specs.Followed.{followed_outcome, followed_at, joined_outcome, stopped_by}
use Rattle.followed_runs.specs.Laws.{OutcomeIsCutShort, OutcomeIsLimited}

-- ---- as many calls as are answered

same_skips : (w : World) (m : ℕ) (calls : List Ask) → w.answered ≡ None → length calls ≤ m → skips (limited_world w m) calls ≡ skips w calls
same_skips w m [] free few = refl
same_skips w zero (a ∷ calls) free few = absurd (omega (arith, few))
same_skips w (suc m) (a ∷ calls) free few =
    subst (λ (o : Option ℕ). cond f 0 (n + skips (limited_world (next_world w a) m) calls) ≡ cond (is_over o || f) 0 (n + skips (next_world w a) calls)) (sym free)
    (ap (λ (k : ℕ). cond f 0 (n + k)) (same_skips (next_world w a) m calls (ap one_fewer free) (omega (arith, few))))
  where
    f : Bool
    f = is_faulted (done_now w a).end

    n : ℕ
    n = one_if_skipped (done_now w a).end

same_target : (w : World) (m : ℕ) (calls : List Ask) → w.answered ≡ None → length calls ≤ m → (world_after (limited_world w m) calls).target ≡ (world_after w calls).target
same_target w m [] free few = refl
same_target w zero (a ∷ calls) free few = absurd (omega (arith, few))
same_target w (suc m) (a ∷ calls) free few =
    one f (same_target (next_world w a) m calls (ap one_fewer free) (omega (arith, few)))
    ∙ sym (ap (λ (o : Option ℕ). (cond (is_over o || f) (cond (is_over o) w (next_world w a)) (world_after (next_world w a) calls)).target) free)
  where
    f : Bool
    f = is_faulted (done_now w a).end

    one : (b : Bool) → (world_after (limited_world (next_world w a) m) calls).target ≡ (world_after (next_world w a) calls).target
        → (cond b (limited_world (next_world w a) m) (world_after (limited_world (next_world w a) m) calls)).target ≡ (cond b (next_world w a) (world_after (next_world w a) calls)).target
    one true h = refl
    one false h = h

-- ---- what follows

grows_more : (old : Option (List ℕ)) (a b part : List ℕ) → b ≡ a ++ part → Grows (option_map (λ bytes. bytes ++ a) old) (option_map (λ bytes. bytes ++ b) old)
grows_more None a b part e = record { part = part; same = refl }
grows_more (Some xs) a b part e = record { part = part; same = ap Some (ap (λ (l : List ℕ). xs ++ l) e ∙ sym (append_assoc xs a part)) }

grows_by : (old : Option (List ℕ)) (part : List ℕ) → Grows old (option_map (λ bytes. bytes ++ part) old)
grows_by old part = record { part = part; same = refl }

-- a run that is cut short is so with what follows it
cut_followed : {C : Type 0} (s : Sequel C) (m : ℕ) (w wm : World) (whole short : Outcome) → laws.IsCutShort m whole short → OutcomeIsCutShort m (followed_outcome (Some s) w whole) (followed_outcome (Some s) wm short)
cut_followed {C = C} s m w wm whole short h = subst (λ (e : Ending). OutcomeIsCutShort m (followed_at w s whole whole.ending) (followed_at wm s short e)) (sym h.ending) (by_whole whole.ending)
  where
    from : GoesOnFrom short.calls whole.calls
    from = record { more = h.more; so = inl h.calls }

    alone : OutcomeIsCutShort m whole short
    alone = record { ending = h.ending; units = h.units; calls = from; lines = h.lines }

    by_whole : (e : Ending) → OutcomeIsCutShort m (followed_at w s whole e) short
    by_whole runs.Done =
        let c : Comes C = comes (world_after w whole.calls) s in
        record {
          ending = h.ending;
          units = h.units;
          calls = from_on short.calls whole.calls (settled_last whole.calls ++ c.calls) from (record { more = c.calls; so = inr refl });
          lines = grows_on short.written whole.written (option_map (λ bytes. bytes ++ c.written) whole.written) h.lines (grows_by whole.written c.written);
        }
    by_whole (runs.Halted cause) = alone
    by_whole (runs.Faulted call) = alone
    by_whole runs.Unanswered = alone
    by_whole runs.Lost = alone

-- a run that was done, in both worlds
module _ {C : Type 0} (s : Sequel C) (m : ℕ) (t : TargetState) (o : Outcome) (none : stop (start_world t None) o.calls ≡ None) (few : length o.calls ≤ m) where
  abbrev w : World
  w = start_world t None

  abbrev wm : World
  wm = start_world t (Some m)

  abbrev u : World
  u = world_after w o.calls

  abbrev k : ℕ
  k = m - length o.calls

  abbrev front : List Ask
  front = settled_last o.calls

  free : u.answered ≡ None
  free = ap (λ (x : World). x.answered) (whole_after w o.calls none)

  there : world_after wm o.calls ≡ limited_world u k
  there = whole_after wm o.calls (unlimited_whole wm o.calls none few)

  count : (c : Comes C) → length (front ++ c.calls) ≡ length o.calls + length c.calls
  count c = (let a = length-append front c.calls in let b = length_marked o.calls in omega (arith, a, b))

  -- the outcome by its parts
  abbrev parts : Comes C → Ending → ℕ → TargetState → Outcome
  parts c e n q = record { ending = e; variables = cond (is_some c.end) o.variables []; calls = front ++ c.calls; skipped = min n 4294967295; written = option_map (λ bytes. bytes ++ c.written) o.written; target = q }

  abbrev end_of : Comes C → Option ℕ → Ending
  end_of c answered = cond (is_some c.end) runs.Done (stopped_by answered c.calls)

  few_ends : (c : Comes C) → length c.calls ≤ k → end_of c (Some k) ≡ end_of c None
  few_ends c le = ap (λ (b : Bool). cond (is_some c.end) runs.Done (cond b runs.Unanswered (stopped_by None c.calls))) (le-ltb k (length c.calls) le)

  same_parts : (c : Comes C) → length c.calls ≤ k → joined_outcome wm o c ≡ joined_outcome w o c
  same_parts c le =
      let all : length (front ++ c.calls) ≤ m = (let n = count c in omega (arith, n, le, few)) in
      ap (λ (x : World). parts c (end_of c x.answered) (skips wm (front ++ c.calls)) (world_after wm (front ++ c.calls)).target) there
      ∙ ap (λ (e : Ending). parts c e (skips wm (front ++ c.calls)) (world_after wm (front ++ c.calls)).target) (few_ends c le ∙ ap (end_of c) (sym free))
      ∙ ap (λ (n : ℕ). parts c (end_of c u.answered) n (world_after wm (front ++ c.calls)).target) (same_skips w m (front ++ c.calls) refl all)
      ∙ ap (λ (q : TargetState). parts c (end_of c u.answered) (skips w (front ++ c.calls)) q) (same_target w m (front ++ c.calls) refl all)

  short_end : (c : Comes C) → c.end ≡ None → length c.calls ≡ k + 1 → end_of c (world_after wm o.calls).answered ≡ runs.Unanswered
  short_end c end_is long =
      ap (λ (x : World). end_of c x.answered) there
      ∙ ap (λ (x : Option C). cond (is_some x) runs.Done (stopped_by (Some k) c.calls)) end_is
      ∙ ap (λ (b : Bool). cond b runs.Unanswered (stopped_by None c.calls)) (lt-ltb k (length c.calls) (omega (arith, long)))

  by_limit : (c cm : Comes C) → limits.IsLimited k c cm → OutcomeIsLimited m (joined_outcome w o c) (joined_outcome wm o cm)
  by_limit c cm (inl h) = inl (record {
    units = (let n = count c in let le = h.few in omega (arith, n, le, few));
    same = ap (joined_outcome wm o) h.same ∙ same_parts c h.few;
  })
  by_limit c cm (inr h) = inr (record {
    ending = short_end cm h.none h.count;
    units = (let n = count cm in let long = h.count in omega (arith, n, long, few));
    calls = record { more = h.more; so = inl (ap (λ (l : List Ask). front ++ l) h.calls ∙ sym (append_assoc front cm.calls h.more)) };
    lines = grows_more o.written cm.written c.written h.further h.written;
  })

  pub done_followed : OutcomeIsLimited m (joined_outcome w o (comes u s)) (joined_outcome wm o (comes (world_after wm o.calls) s))
  done_followed = subst (λ (x : World). OutcomeIsLimited m (joined_outcome w o (comes u s)) (joined_outcome wm o (comes x s))) (sym there) (by_limit (comes u s) (comes (limited_world u k) s) (limit_comes u k s free))

pub limits_followed : {C : Type 0} (s : Option (Sequel C)) (m : ℕ) (p : Program) (t : TargetState) (written : Option (List ℕ))
    → OutcomeIsLimited m (followed_outcome s (start_world t None) (outcome p t written)) (followed_outcome s (start_world t (Some m)) (outcome_within m p t written))
limits_followed None m p t written = by_run (limit_cuts m p t written)
  where
    by_run : laws.IsWhole m (outcome p t written) (outcome_within m p t written) ⊎ laws.IsCutShort m (outcome p t written) (outcome_within m p t written) → OutcomeIsLimited m (outcome p t written) (outcome_within m p t written)
    by_run (inl h) = inl (record { units = h.units; same = h.same })
    by_run (inr h) = inr (record { ending = h.ending; units = h.units; calls = record { more = h.more; so = inl h.calls }; lines = h.lines })
limits_followed (Some s) m p t written = by_run (limit_cuts m p t written)
  where
    by_run : laws.IsWhole m (outcome p t written) (outcome_within m p t written) ⊎ laws.IsCutShort m (outcome p t written) (outcome_within m p t written)
        → OutcomeIsLimited m (followed_outcome (Some s) (start_world t None) (outcome p t written)) (followed_outcome (Some s) (start_world t (Some m)) (outcome_within m p t written))
    by_run (inl h) = subst (λ (x : Outcome). OutcomeIsLimited m (followed_outcome (Some s) (start_world t None) o) (followed_outcome (Some s) wm x)) (sym h.same) (by_end o.ending refl)
      where
        w : World
        w = start_world t None

        wm : World
        wm = start_world t (Some m)

        o : Outcome
        o = outcome p t written

        alone : (e : Ending) → o.ending ≡ e → followed_at w s o e ≡ o → followed_at wm s o e ≡ o → OutcomeIsLimited m (followed_at w s o o.ending) (followed_at wm s o o.ending)
        alone e is a b = inl (record {
          units = subst (λ (x : Outcome). units_of x ≤ m) (sym (ap (followed_at w s o) is ∙ a)) h.units;
          same = ap (followed_at wm s o) is ∙ b ∙ sym (ap (followed_at w s o) is ∙ a);
        })

        by_end : (e : Ending) → o.ending ≡ e → OutcomeIsLimited m (followed_at w s o o.ending) (followed_at wm s o o.ending)
        by_end runs.Done is = subst (λ (e : Ending). OutcomeIsLimited m (followed_at w s o e) (followed_at wm s o e)) (sym is)
            (done_followed s m t o (subst (λ (e : Ending). laws.StopBy w e o.calls) is (are_made w p written).made.ending) h.units)
        by_end (runs.Halted cause) is = alone (runs.Halted cause) is refl refl
        by_end (runs.Faulted call) is = alone (runs.Faulted call) is refl refl
        by_end runs.Unanswered is = alone runs.Unanswered is refl refl
        by_end runs.Lost is = alone runs.Lost is refl refl
    by_run (inr h) = inr (cut_followed s m (start_world t None) (start_world t (Some m)) (outcome p t written) (outcome_within m p t written) h)
