-- A run with what follows it is what its calls come to.
use Rattle.std.proofs.Common.{◌≡◌, ◌∙◌, ℕ, suc, ◌+◌, ◌-◌, ◌≤◌, nat_lt, Bool, true, false, cond, List, [], ◌∷◌, ◌++◌, append_assoc, length, take, Option, None, Some, refl, sym, ap, subst, arith}
use Rattle.std.proofs.Math.Seq.{take-append_seam}
use Rattle.std.proofs.lemmas.List.{length-append}
use Rattle.std.proofs.lemmas.Bool.{ltb-false, ltb-true}
use Rattle.std.specs.Prelude.{MatchOption, is_some}
use Rattle.target_calls.specs.Asks.{settled_last}
use Rattle.target_calls.specs.World.{AtLeast, World, fewer, is_over, later_by, stop, world_after}
use Rattle.target_calls.specs.declared.calls.Ask.{Ask}
use Rattle.target_calls.proofs.CallLists.{append_after, append_stop, stop_before}
use Rattle.target_calls.proofs.MarkLemmas.{after_marked, stop_marked}
use Rattle.target_calls.proofs.WorldLemmas.{whole_after, whole_least}
use Rattle.sequence_rules.specs.Laws.{IsMadeIn, StopAtLast, StopBy}
use Rattle.sequence_rules.specs.Runs as runs
use Rattle.sequence_rules.specs.Runs.{Ending, Outcome, meaning, outcome_of}
use Rattle.sequence_rules.proofs.Made.{are_made}
use Rattle.sequels.specs.Sequel.{Comes, Sequel, comes}
use Rattle.sequels.proofs.SequelLemmas.{stops_by_end}
use Rattle.followed_runs.specs.Followed.{faulted_last, followed_outcome, followed_at, joined_outcome, stopped_by}
use Rattle.followed_runs.specs.Laws.{FollowedRunsAreMade}

-- some calls, by those before the last one
record LastOf (calls : List Ask) : Type 0 where
  earlier : List Ask
  last : Ask
  parts : calls ≡ earlier ++ last ∷ []

last_of : (ask : Ask) (calls : List Ask) → LastOf (ask ∷ calls)
last_of ask [] = record { earlier = []; last = ask; parts = refl }
last_of ask (next ∷ calls) = (let h = last_of next calls in record { earlier = ask ∷ h.earlier; last = h.last; parts = ap (λ (l : List Ask). ask ∷ l) h.parts })

faulted_at : (earlier : List Ask) (last : Ask) → faulted_last (earlier ++ last ∷ []) ≡ runs.Faulted last.call
faulted_at [] last = refl
faulted_at (a ∷ []) last = refl
faulted_at (a ∷ b ∷ earlier) last = faulted_at (b ∷ earlier) last

-- calls that stop are some
some_calls : (u : World) (calls : List Ask) → stop u calls ≡ Some (length calls) → LastOf calls
some_calls u [] stops = absurd (cc)
some_calls u (ask ∷ calls) stops = last_of ask calls

-- calls that stop at their last one, after calls that do not stop
module _ (w : World) (front : List Ask) (none : stop w front ≡ None) (calls : List Ask) (stops : stop (world_after w front) calls ≡ Some (length calls)) where
  u : World
  u = world_after w front

  at : LastOf calls
  at = some_calls (world_after w front) calls stops

  long : length calls ≡ suc (length at.earlier)
  long = ap length at.parts ∙ length-append at.earlier (at.last ∷ []) ∙ (let a : length at.earlier + 1 ≡ suc (length at.earlier) = omega arith in a)

  earlier_goes : stop (world_after w front) at.earlier ≡ None
  earlier_goes = ap (stop (world_after w front)) (sym (ap (take (length at.earlier)) at.parts ∙ take-append_seam at.earlier (at.last ∷ [])))
      ∙ stop_before (world_after w front) calls (length at.earlier) (stops ∙ ap Some long)

  stop_at : (b : Bool) → is_over (fewer (world_after w front).answered (length at.earlier)) ≡ b → StopAtLast w b (front ++ calls)
  stop_at b over = record {
    earlier = front ++ at.earlier;
    last = at.last;
    parts = ap (λ (l : List Ask). front ++ l) at.parts ∙ sym (append_assoc front at.earlier (at.last ∷ []));
    cause = ap (λ (x : World). is_over x.answered) (append_after w front at.earlier none ∙ whole_after (world_after w front) at.earlier earlier_goes) ∙ over;
    first = append_stop w front calls none ∙ ap (later_by (length front)) stops ∙ ap Some (sym (length-append front calls));
  }

  faults : is_over (fewer (world_after w front).answered (length at.earlier)) ≡ false → StopBy w (faulted_last calls) (front ++ calls)
  unfolding stop_at at
  faults over = subst (λ (e : Ending). StopBy w e (front ++ calls)) (sym (ap faulted_last at.parts ∙ faulted_at at.earlier at.last))
      (record { stopped = stop_at false over; call_is = refl })

  -- so many calls are answered, at least those before the last
  within : (n : ℕ) → (world_after w front).answered ≡ Some n → length at.earlier ≤ n
  within n is = subst (AtLeast (length at.earlier)) is (whole_least (world_after w front) at.earlier earlier_goes)

  limited : (n : ℕ) → (world_after w front).answered ≡ Some n → (b : Bool) → nat_lt n (length calls) ≡ b → StopBy w (cond b runs.Unanswered (faulted_last calls)) (front ++ calls)
  limited n is true less = stop_at true (ap (λ (o : Option ℕ). is_over (fewer o (length at.earlier))) is ∙ last_one)
    where
      last_one : is_over (Some (n - length at.earlier)) ≡ true
      last_one =
          let few = ltb-true n (length calls) less in
          let l = long in
          let none_left : n - length at.earlier ≡ 0 = omega (arith, few, l) in
          ap (λ (k : ℕ). is_over (Some k)) none_left
  limited n is false more = faults (ap (λ (o : Option ℕ). is_over (fewer o (length at.earlier))) is ∙ some_left)
    where
      some_left : is_over (Some (n - length at.earlier)) ≡ false
      some_left =
          let many = ltb-false n (length calls) more in
          let l = long in
          let left : n - length at.earlier ≡ suc (n - length at.earlier - 1) = omega (arith, many, l) in
          ap (λ (k : ℕ). is_over (Some k)) left

  pub stopped : StopBy w (stopped_by (world_after w front).answered calls) (front ++ calls)
  stopped = by_answered (world_after w front).answered refl
    where
      by_answered : (o : Option ℕ) → (world_after w front).answered ≡ o → StopBy w (stopped_by o calls) (front ++ calls)
      by_answered None is = faults (ap (λ (o : Option ℕ). is_over (fewer o (length at.earlier))) is)
      by_answered (Some n) is = limited n is (nat_lt n (length calls)) refl

-- a run that was done, with what a sequel comes to
module _ {C : Type 0} (w : World) (s : Sequel C) (o : Outcome) (none : stop w o.calls ≡ None) where
  front_goes : stop w (settled_last o.calls) ≡ None
  front_goes = stop_marked w o.calls ∙ none

  here : world_after w (settled_last o.calls) ≡ world_after w o.calls
  here = after_marked w o.calls

  ending_at : (c : Comes C) → MatchOption c.end (stop (world_after w o.calls) c.calls ≡ Some (length c.calls)) (λ x. stop (world_after w o.calls) c.calls ≡ None) → StopBy w (joined_outcome w o c).ending (joined_outcome w o c).calls
  ending_at c h = by_end c.end h
    where
      by_end : (end : Option C) → MatchOption end (stop (world_after w o.calls) c.calls ≡ Some (length c.calls)) (λ x. stop (world_after w o.calls) c.calls ≡ None)
          → StopBy w (cond (is_some end) runs.Done (stopped_by (world_after w o.calls).answered c.calls)) (settled_last o.calls ++ c.calls)
      by_end None stops = subst (λ (x : World). StopBy w (stopped_by x.answered c.calls) (settled_last o.calls ++ c.calls)) here
          (stopped w (settled_last o.calls) front_goes c.calls (subst (λ (x : World). stop x c.calls ≡ Some (length c.calls)) (sym here) stops))
      by_end (Some x) goes = append_stop w (settled_last o.calls) c.calls front_goes
          ∙ ap (λ (x : World). later_by (length (settled_last o.calls)) (stop x c.calls)) here ∙ ap (later_by (length (settled_last o.calls))) goes

  pub joined_made : IsMadeIn w (joined_outcome w o (comes (world_after w o.calls) s))
  joined_made = record { target = refl; skipped = refl; ending = ending_at (comes (world_after w o.calls) s) (stops_by_end (world_after w o.calls) s).so }

made_with : {C : Type 0} (s : Option (Sequel C)) (w : World) (o : Outcome) → IsMadeIn w o → IsMadeIn w (followed_outcome s w o)
made_with None w o h = h
made_with {C = C} (Some s) w o h = by_ending o.ending refl
  where
    by_ending : (e : Ending) → o.ending ≡ e → IsMadeIn w (followed_at w s o e)
    by_ending runs.Done is = joined_made w s o (subst (λ (e : Ending). StopBy w e o.calls) is h.ending)
    by_ending (runs.Halted cause) is = h
    by_ending (runs.Faulted call) is = h
    by_ending runs.Unanswered is = h
    by_ending runs.Lost is = h

pub followed_made : FollowedRunsAreMade
followed_made w k written = made_with k.sequel w (outcome_of (meaning w k.program written)) (are_made w k.program written).made
