-- Lists of calls, by their journal.
use Rattle.std.proofs.Common.{◌≡◌, ◌≢◌, ◌∙◌, ℕ, ◌+◌, Bool, true, false, cond, not, ◌&&◌, List, [], ◌∷◌, ◌++◌, append_assoc, refl, sym, ap, subst, arith, length}
use Rattle.target_machine.specs.Plain.{Action, action_attempt, is_fault, given_number, result_of, call_done, CallDone, CallEnd, Answered, Skipped, Faulted, Small}
use Rattle.target_machine.specs.State.{TargetState}
use Rattle.target_machine.specs.declared.unit.Call.{Call}
use Rattle.access_regs.specs.Kept.{Kept}
use Rattle.access_regs.specs.Plan.{settle, kept_after_settling}
use Rattle.access_regs.specs.Journal.{Issue, Step, making, steps_of, actions_of, finish, issue_of, finish_of, steps_at, entries_at, numbered_entries, issued_from, kept_from}
use Rattle.access_regs.specs.Alone.{call_alone, alone_after, large_of_all, NoneFaults, StopsAt, AnswersWith}
use Rattle.access_regs.specs.Follows.{Follows}
use Rattle.access_regs.proofs.Course.{actions_append, actions_steps}
use Rattle.access_regs.specs.Course.{Course, IsAnswered, IsStopped, answered, stopped, small, skipped, IsPassing}
use Rattle.access_regs.proofs.Settle as settling
use Rattle.target_machine.proofs.ActionLists.{pass_append, pass_after, after_append}
use Rattle.target_machine.specs.Lists.{after, PassTo}
use Rattle.target_calls.specs.Asks.{is_forgiving}
use Rattle.target_calls.specs.declared.journal.Part.TheVariants.{Settles, Leads, Ends, Skips}
use Rattle.target_calls.specs.declared.journal.Part.{Part}
use Rattle.target_calls.specs.declared.calls.Ask.{Ask}
use Rattle.target_calls.specs.Journal.{Entry, settles, actions_in, Passes}
use Rattle.target_calls.proofs.EndLemmas.{end_faulted, end_skipped}
use Rattle.access_regs.proofs.Settle.{settled_calm, follows_agree}
use Rattle.access_regs.specs.declared.planner.Planner.{Planner}
use Rattle.access_regs.proofs.Seams.{passes_both}

-- ---- entries and steps

pub actions_numbered : (n : ℕ) (forgiving : Bool) (steps : List Step) → actions_in (numbered_entries n forgiving steps) ≡ actions_of steps
actions_numbered n forgiving [] = refl
actions_numbered n forgiving (s ∷ steps) = ap (λ (l : List Action). s.action ∷ l) (actions_numbered n forgiving steps)

pub actions_in_append : (xs ys : List Entry) → actions_in (xs ++ ys) ≡ actions_in xs ++ actions_in ys
actions_in_append [] ys = refl
actions_in_append (x ∷ xs) ys = ap (λ (l : List Action). x.action ∷ l) (actions_in_append xs ys)

pub actions_entries : (p : Planner) (n : ℕ) (u : TargetState) (k : Kept) (c : Ask) → actions_in (entries_at p n u k c) ≡ actions_of (steps_at p u k c)
actions_entries p n u k c =
    actions_in_append (numbered_entries n (is_forgiving c) (issue_of p u k c).steps) (numbered_entries (n + 1) false (finish_of p u k c).steps)
    ∙ ap (λ (l : List Action). l ++ actions_in (numbered_entries (n + 1) false (finish_of p u k c).steps)) (actions_numbered n (is_forgiving c) (issue_of p u k c).steps)
    ∙ ap (λ (l : List Action). actions_of (issue_of p u k c).steps ++ l) (actions_numbered (n + 1) false (finish_of p u k c).steps)
    ∙ sym (actions_append (issue_of p u k c).steps (finish_of p u k c).steps)

-- ---- one call

-- after a call that does not end at a fault
pub course_follows : (i : Issue) (d : CallDone) (call : Call) (u : TargetState) → Course i d call u → d.end ≢ Faulted → Follows i.kept d.large d.next (after u (actions_of i.steps))
course_follows i d call u (answered a) ne =
    let last : List Step = record { part = Ends; action = a.action } ∷ [] in
    let e : after u (actions_of i.steps) ≡ (action_attempt a.at a.action).next =
    ap (λ (l : List Step). after u (actions_of l)) a.steps
    ∙ ap (after u) (actions_append a.leads last) ∙ after_append u (actions_of a.leads) (actions_of last)
    ∙ ap (λ (s : TargetState). (action_attempt s a.action).next) (pass_after u a.at (actions_of a.leads) a.pass) in
    subst (Follows i.kept d.large d.next) (sym e) a.follows
course_follows i d call u (stopped a) ne = absurd (ne a.end)
course_follows i d call u (small a) ne = subst (Follows i.kept d.large d.next) (sym (pass_after u a.at (actions_of i.steps) a.pass)) a.follows
course_follows i d call u (skipped a) ne = a.follows

finish_follows : (b : Bool) (k : Kept) (large : List ℕ) (t u : TargetState) → Follows k large t u → Follows (finish b k).kept large t (after u (actions_of (finish b k).steps))
finish_follows false k large t u f = f
finish_follows true k large t u f =
    let g = settling.settles k large t u f in
    subst (Follows (kept_after_settling k) large t)
    (sym (ap (after u) (actions_steps Settles (settle k)) ∙ pass_after u g.at (making (settle k)) g.pass)) g.follows

module _ (p : Planner) (Ok : Ask → Type 0) (each : (k : Kept) (large : List ℕ) (t u : TargetState) → Follows k large t u → (c : Ask) → Ok c → Course (issue_of p u k c) (call_alone t large c) c.call u) where
  abbrev pub AllOk : List Ask → Type 0
  AllOk [] = Unit {0}
  AllOk (c ∷ cs) = Ok c × AllOk cs

  pub step_follows : (k : Kept) (large : List ℕ) (t u : TargetState) → Follows k large t u → (c : Ask) → Ok c → (call_alone t large c).end ≢ Faulted →
      Follows (finish_of p u k c).kept (call_alone t large c).large (call_alone t large c).next (after u (actions_of (steps_at p u k c)))
  step_follows k large t u f c ok ne =
      let d : CallDone = call_alone t large c in
      let g = course_follows (issue_of p u k c) d c.call u (each k large t u f c ok) ne in
      let h = finish_follows c.settled (issue_of p u k c).kept d.large d.next (after u (actions_of (issue_of p u k c).steps)) g in
      subst (Follows (finish_of p u k c).kept d.large d.next)
      (sym (ap (after u) (actions_append (issue_of p u k c).steps (finish_of p u k c).steps) ∙ after_append u (actions_of (issue_of p u k c).steps) (actions_of (finish_of p u k c).steps))) h

  -- after a list of calls
  pub list_follows : (n : ℕ) (k : Kept) (large : List ℕ) (t u : TargetState) → Follows k large t u → (cs : List Ask) → AllOk cs → NoneFaults t large cs →
      Follows (kept_from p k u cs) (large_of_all t large cs) (alone_after t large cs) (after u (actions_in (issued_from p n k u cs)))
  list_follows n k large t u f [] ok none = f
  list_follows n k large t u f (c ∷ cs) ok none =
      let d : CallDone = call_alone t large c in
      let v : TargetState = after u (actions_of (steps_at p u k c)) in
      let g = list_follows (n + 1) (finish_of p u k c).kept d.large d.next v (step_follows k large t u f c ok.0 none.0) cs ok.1 none.1 in
      let rest : List Entry = issued_from p (n + 1) (finish_of p u k c).kept v cs in
      let e : after u (actions_in (entries_at p n u k c ++ rest)) ≡ after v (actions_in rest) =
      ap (after u) (actions_in_append (entries_at p n u k c) rest)
      ∙ after_append u (actions_in (entries_at p n u k c)) (actions_in rest)
      ∙ ap (λ (l : List Action). after (after u l) (actions_in rest)) (actions_entries p n u k c) in
      subst (Follows (kept_from p k u (c ∷ cs)) (large_of_all t large (c ∷ cs)) (alone_after t large (c ∷ cs))) (sym e) g

-- ---- entries that pass

passes_numbered : (n : ℕ) (forgiving : Bool) (u v : TargetState) (steps : List Step) → PassTo u (actions_of steps) v → Passes u (numbered_entries n forgiving steps)
passes_numbered n forgiving u v [] h = tt
passes_numbered n forgiving u v (s ∷ steps) h =
    (ap (λ (b : Bool). b && not (forgiving && not (settles s.part))) h.0, passes_numbered n forgiving (action_attempt u s.action).next v steps h.1)

not_not : (a b : Bool) → (a && b) ≡ false → (a && not (true && not b)) ≡ false
not_not a true e = e
not_not a false e = e

passes_forgiving : (n : ℕ) (u : TargetState) (steps : List Step) → IsPassing u steps → Passes u (numbered_entries n true steps)
passes_forgiving n u [] h = tt
passes_forgiving n u (s ∷ steps) h = (not_not (is_fault (action_attempt u s.action).outcome) (settles s.part) h.0, passes_forgiving n (action_attempt u s.action).next steps h.1)

skipped_forgiving : (t : TargetState) (large : List ℕ) (c : Ask) → (call_alone t large c).end ≡ Skipped → is_forgiving c ≡ true
unfolding call_done
skipped_forgiving t large c e = end_skipped _ (is_forgiving c) _ _ _ _ _ e

course_passes : (n : ℕ) (u t : TargetState) (large : List ℕ) (i : Issue) (c : Ask) → Course i (call_alone t large c) c.call u → (call_alone t large c).end ≢ Faulted → Passes u (numbered_entries n (is_forgiving c) i.steps)
course_passes n u t large i c (answered a) ne =
    let last : List Step = record { part = Ends; action = a.action } ∷ [] in
    subst (λ (l : List Step). Passes u (numbered_entries n (is_forgiving c) l)) (sym a.steps)
    (passes_numbered n (is_forgiving c) u (action_attempt a.at a.action).next (a.leads ++ last)
    (subst (λ (l : List Action). PassTo u l (action_attempt a.at a.action).next) (sym (actions_append a.leads last))
    (pass_append u a.at (action_attempt a.at a.action).next (actions_of a.leads) (actions_of last) a.pass (a.good, refl))))
course_passes n u t large i c (stopped a) ne = absurd (ne a.end)
course_passes n u t large i c (small a) ne = passes_numbered n (is_forgiving c) u a.at i.steps a.pass
course_passes n u t large i c (skipped a) ne =
    subst (λ (b : Bool). Passes u (numbered_entries n b i.steps)) (sym (skipped_forgiving t large c a.end)) (passes_forgiving n u i.steps a.passes)

finish_passes : (n : ℕ) (b : Bool) (k : Kept) (large : List ℕ) (t u : TargetState) → Follows k large t u → Passes u (numbered_entries n false (finish b k).steps)
finish_passes n false k large t u f = tt
finish_passes n true k large t u f =
    let g = settling.settles k large t u f in
    passes_numbered n false u g.at (steps_of Settles (settle k)) (subst (λ (l : List Action). PassTo u l g.at) (sym (actions_steps Settles (settle k))) g.pass)

module _ (p : Planner) (Ok : Ask → Type 0) (each : (k : Kept) (large : List ℕ) (t u : TargetState) → Follows k large t u → (c : Ask) → Ok c → Course (issue_of p u k c) (call_alone t large c) c.call u) where
  step_passes : (n : ℕ) (k : Kept) (large : List ℕ) (t u : TargetState) → Follows k large t u → (c : Ask) → Ok c → (call_alone t large c).end ≢ Faulted → Passes u (entries_at p n u k c)
  step_passes n k large t u f c ok ne =
      let d : CallDone = call_alone t large c in
      let course : Course (issue_of p u k c) d c.call u = each k large t u f c ok in
      let g = course_follows (issue_of p u k c) d c.call u course ne in
      let v : TargetState = after u (actions_of (issue_of p u k c).steps) in
      passes_both u (numbered_entries n (is_forgiving c) (issue_of p u k c).steps) (numbered_entries (n + 1) false (finish_of p u k c).steps)
      (course_passes n u t large (issue_of p u k c) c course ne)
      (subst (λ (l : List Action). Passes (after u l) (numbered_entries (n + 1) false (finish_of p u k c).steps)) (sym (actions_numbered n (is_forgiving c) (issue_of p u k c).steps))
      (finish_passes (n + 1) c.settled (issue_of p u k c).kept d.large d.next v g))

  -- no entry of a list of calls of which none ends at a fault stops
  pub list_passes : (n : ℕ) (k : Kept) (large : List ℕ) (t u : TargetState) → Follows k large t u → (cs : List Ask) → AllOk p Ok each cs → NoneFaults t large cs → Passes u (issued_from p n k u cs)
  list_passes n k large t u f [] ok none = tt
  list_passes n k large t u f (c ∷ cs) ok none =
      let d : CallDone = call_alone t large c in
      let v : TargetState = after u (actions_of (steps_at p u k c)) in
      let rest : List Entry = issued_from p (n + 1) (finish_of p u k c).kept v cs in
      passes_both u (entries_at p n u k c) rest (step_passes n k large t u f c ok.0 none.0)
      (subst (λ (l : List Action). Passes (after u l) rest) (sym (actions_entries p n u k c))
      (list_passes (n + 1) (finish_of p u k c).kept d.large d.next v (step_follows p Ok each k large t u f c ok.0 none.0) cs ok.1 none.1))

-- ---- a call that ends at a fault

pub record Stops (p : Planner) (n units : ℕ) (k : Kept) (u : TargetState) (cs : List Ask) (left : TargetState) : Type 0 where
  pub front : List Entry
  pub entry : Entry
  pub stops : StopsAt u (issued_from p n k u cs) front entry
  pub unit : entry.unit ≡ units
  pub own : entry.part ≢ Settles
  -- the memory is the one that the calls leave
  pub words : (action_attempt (after u (actions_in front)) entry.action).next.words ≡ left.words

pub numbered_append : (n : ℕ) (b : Bool) (xs ys : List Step) → numbered_entries n b (xs ++ ys) ≡ numbered_entries n b xs ++ numbered_entries n b ys
numbered_append n b [] ys = refl
numbered_append n b (x ∷ xs) ys = ap (λ (l : List Entry). record { unit = cond (settles x.part) n (n + 1); part = x.part; forgiving = b && not (settles x.part); action = x.action } ∷ l) (numbered_append n b xs ys)

pub not_settling : (p : Part) → p ≢ Settles → settles p ≡ false
not_settling Settles ne = absurd (ne refl)
not_settling Leads ne = refl
not_settling Ends ne = refl
not_settling (Skips attempted) ne = refl

pub faulted_strict : (t : TargetState) (large : List ℕ) (c : Ask) → (call_alone t large c).end ≡ Faulted → is_forgiving c ≡ false
unfolding call_done
faulted_strict t large c e = end_faulted _ (is_forgiving c) _ _ _ _ _ e

is_stopped : (i : Issue) (d : CallDone) (call : Call) (u : TargetState) → Course i d call u → d.end ≡ Faulted → IsStopped i d u
is_stopped i d call u (answered a) e = let x : ◌≡◌ {A = CallEnd} _ Faulted = sym a.end ∙ e in absurd (cc)
is_stopped i d call u (stopped a) e = a
is_stopped i d call u (small a) e = let x : ◌≡◌ {A = CallEnd} Small Faulted = sym a.end ∙ e in absurd (cc)
is_stopped i d call u (skipped a) e = let x : ◌≡◌ {A = CallEnd} Skipped Faulted = sym a.end ∙ e in absurd (cc)

module _ (p : Planner) (n : ℕ) (k : Kept) (large : List ℕ) (t u : TargetState) (c : Ask) (course : Course (issue_of p u k c) (call_alone t large c) c.call u) (bad : (call_alone t large c).end ≡ Faulted) (rest : List Entry) where
  stop : IsStopped (issue_of p u k c) (call_alone t large c) u
  stop = is_stopped (issue_of p u k c) (call_alone t large c) c.call u course bad

  abbrev entry_of : Step → Entry
  entry_of s = record { unit = cond (settles s.part) n (n + 1); part = s.part; forgiving = is_forgiving c && not (settles s.part); action = s.action }

  stop_entries : entries_at p n u k c ++ rest ≡ numbered_entries n (is_forgiving c) stop.leads ++ entry_of stop.step ∷ (numbered_entries n (is_forgiving c) stop.more ++ (numbered_entries (n + 1) false (finish_of p u k c).steps ++ rest))
  stop_entries =
      ap (λ (l : List Step). (numbered_entries n (is_forgiving c) l ++ numbered_entries (n + 1) false (finish_of p u k c).steps) ++ rest) stop.steps
      ∙ append_assoc (numbered_entries n (is_forgiving c) (stop.leads ++ stop.step ∷ stop.more)) (numbered_entries (n + 1) false (finish_of p u k c).steps) rest
      ∙ ap (λ (l : List Entry). l ++ (numbered_entries (n + 1) false (finish_of p u k c).steps ++ rest)) (numbered_append n (is_forgiving c) stop.leads (stop.step ∷ stop.more))
      ∙ append_assoc (numbered_entries n (is_forgiving c) stop.leads) (numbered_entries n (is_forgiving c) (stop.step ∷ stop.more)) (numbered_entries (n + 1) false (finish_of p u k c).steps ++ rest)

  stop_at : after u (actions_in (numbered_entries n (is_forgiving c) stop.leads)) ≡ stop.at
  stop_at = ap (after u) (actions_numbered n (is_forgiving c) stop.leads) ∙ pass_after u stop.at (actions_of stop.leads) stop.pass

  call_stops : StopsAt u (entries_at p n u k c ++ rest) (numbered_entries n (is_forgiving c) stop.leads) (entry_of stop.step)
  call_stops = record {
    more = numbered_entries n (is_forgiving c) stop.more ++ (numbered_entries (n + 1) false (finish_of p u k c).steps ++ rest);
    is = stop_entries;
    passes = passes_numbered n (is_forgiving c) u stop.at stop.leads stop.pass;
    faults = ap (λ (s : TargetState). is_fault (action_attempt s stop.step.action).outcome) stop_at ∙ stop.bad;
    strict = ap (λ (b : Bool). b && not (settles stop.step.part)) (faulted_strict t large c bad);
  }

module _ (p : Planner) (Ok : Ask → Type 0) (each : (k : Kept) (large : List ℕ) (t u : TargetState) → Follows k large t u → (c : Ask) → Ok c → Course (issue_of p u k c) (call_alone t large c) c.call u) where
  -- the first entry that faults is one of the call that ends at a fault
  pub list_stops : (n : ℕ) (k : Kept) (large : List ℕ) (t u : TargetState) → Follows k large t u → (cs : List Ask) (c : Ask) → AllOk p Ok each cs → Ok c → NoneFaults t large cs →
      (call_alone (alone_after t large cs) (large_of_all t large cs) c).end ≡ Faulted →
      Stops p n (n + length cs + 1) k u (cs ++ c ∷ []) (call_alone (alone_after t large cs) (large_of_all t large cs) c).next
  list_stops n k large t u f [] c ok okc none bad =
      let course : Course (issue_of p u k c) (call_alone t large c) c.call u = each k large t u f c okc in
      let st = stop p n k large t u c course bad [] in
      record {
        front = numbered_entries n (is_forgiving c) st.leads;
        entry = entry_of p n k large t u c course bad [] st.step;
        stops = call_stops p n k large t u c course bad [];
        unit = ap (λ (b : Bool). cond b n (n + 1)) (not_settling st.step.part st.own) ∙ omega arith;
        own = st.own;
        words = ap (λ (s : TargetState). (action_attempt s st.step.action).next.words) (stop_at p n k large t u c course bad []) ∙ st.words;
      }
  list_stops n k large t u f (b ∷ cs) c ok okc none bad =
      let d : CallDone = call_alone t large b in
      let v : TargetState = after u (actions_of (steps_at p u k b)) in
      let g = list_stops (n + 1) (finish_of p u k b).kept d.large d.next v (step_follows p Ok each k large t u f b ok.0 none.0) cs c ok.1 okc none.1 bad in
      let s = g.stops in
      let at : after u (actions_in (entries_at p n u k b ++ g.front)) ≡ after v (actions_in g.front) =
      ap (after u) (actions_in_append (entries_at p n u k b) g.front)
      ∙ after_append u (actions_in (entries_at p n u k b)) (actions_in g.front)
      ∙ ap (λ (l : List Action). after (after u l) (actions_in g.front)) (actions_entries p n u k b) in
      record {
        front = entries_at p n u k b ++ g.front;
        entry = g.entry;
        stops = record {
          more = s.more;
          is = ap (λ (l : List Entry). entries_at p n u k b ++ l) s.is ∙ sym (append_assoc (entries_at p n u k b) g.front (g.entry ∷ s.more));
          passes = passes_both u (entries_at p n u k b) g.front (step_passes p Ok each n k large t u f b ok.0 none.0)
              (subst (λ (l : List Action). Passes (after u l) g.front) (sym (actions_entries p n u k b)) s.passes);
          faults = ap (λ (x : TargetState). is_fault (action_attempt x g.entry.action).outcome) at ∙ s.faults;
          strict = s.strict;
        };
        unit = g.unit ∙ omega arith;
        own = g.own;
        words = ap (λ (x : TargetState). (action_attempt x g.entry.action).next.words) at ∙ g.words;
      }

is_answered : (i : Issue) (d : CallDone) (call : Call) (u : TargetState) (v : ℕ) → Course i d call u → d.end ≡ Answered v → IsAnswered i d call u
is_answered i d call u v (answered a) e = a
is_answered i d call u v (stopped a) e = let x : ◌≡◌ {A = CallEnd} Faulted (Answered v) = sym a.end ∙ e in absurd (cc)
is_answered i d call u v (small a) e = let x : ◌≡◌ {A = CallEnd} Small (Answered v) = sym a.end ∙ e in absurd (cc)
is_answered i d call u v (skipped a) e = let x : ◌≡◌ {A = CallEnd} Skipped (Answered v) = sym a.end ∙ e in absurd (cc)

call_answers : (p : Planner) (n : ℕ) (k : Kept) (large : List ℕ) (t u : TargetState) (c : Ask) (v : ℕ) → Course (issue_of p u k c) (call_alone t large c) c.call u → (call_alone t large c).end ≡ Answered v → (rest : List Entry) →
    AnswersWith u (entries_at p n u k c ++ rest) (n + 1) c.call v
call_answers p n k large t u c v course e rest =
    let a = is_answered (issue_of p u k c) (call_alone t large c) c.call u v course e in
    let last : Step = record { part = Ends; action = a.action } in
    let fin : List Entry = numbered_entries (n + 1) false (finish_of p u k c).steps in
    let at : after u (actions_in (numbered_entries n (is_forgiving c) a.leads)) ≡ a.at = ap (after u) (actions_numbered n (is_forgiving c) a.leads) ∙ pass_after u a.at (actions_of a.leads) a.pass in
    let value : ◌≡◌ {A = CallEnd} (Answered (result_of c.call (given_number (action_attempt a.at a.action).outcome))) (Answered v) = sym a.end ∙ e in
    let same : result_of c.call (given_number (action_attempt a.at a.action).outcome) ≡ v = cc in
    record {
      front = numbered_entries n (is_forgiving c) a.leads;
      entry = record { unit = n + 1; part = Ends; forgiving = is_forgiving c && not false; action = a.action };
      more = fin ++ rest;
      is =
          ap (λ (l : List Step). (numbered_entries n (is_forgiving c) l ++ fin) ++ rest) a.steps
          ∙ append_assoc (numbered_entries n (is_forgiving c) (a.leads ++ last ∷ [])) fin rest
          ∙ ap (λ (l : List Entry). l ++ (fin ++ rest)) (numbered_append n (is_forgiving c) a.leads (last ∷ []))
          ∙ append_assoc (numbered_entries n (is_forgiving c) a.leads) (numbered_entries n (is_forgiving c) (last ∷ [])) (fin ++ rest);
      unit = refl;
      ends = refl;
      gives = ap (λ (s : TargetState). result_of c.call (given_number (action_attempt s a.action).outcome)) at ∙ same;
    }

module _ (p : Planner) (Ok : Ask → Type 0) (each : (k : Kept) (large : List ℕ) (t u : TargetState) → Follows k large t u → (c : Ask) → Ok c → Course (issue_of p u k c) (call_alone t large c) c.call u) where
  -- each answer is given by the last own entry of its unit
  pub list_answers : (n : ℕ) (k : Kept) (large : List ℕ) (t u : TargetState) → Follows k large t u → (cs more : List Ask) (c : Ask) (v : ℕ) → AllOk p Ok each cs → Ok c → NoneFaults t large cs →
      (call_alone (alone_after t large cs) (large_of_all t large cs) c).end ≡ Answered v → AnswersWith u (issued_from p n k u (cs ++ c ∷ more)) (n + length cs + 1) c.call v
  list_answers n k large t u f [] more c v ok okc none e =
      let a = call_answers p n k large t u c v (each k large t u f c okc) e (issued_from p (n + 1) (finish_of p u k c).kept (after u (actions_of (steps_at p u k c))) more) in
      record { front = a.front; entry = a.entry; more = a.more; is = a.is; unit = a.unit ∙ omega arith; ends = a.ends; gives = a.gives }
  list_answers n k large t u f (b ∷ cs) more c v ok okc none e =
      let d : CallDone = call_alone t large b in
      let w : TargetState = after u (actions_of (steps_at p u k b)) in
      let g = list_answers (n + 1) (finish_of p u k b).kept d.large d.next w (step_follows p Ok each k large t u f b ok.0 none.0) cs more c v ok.1 okc none.1 e in
      let at : after u (actions_in (entries_at p n u k b ++ g.front)) ≡ after w (actions_in g.front) =
      ap (after u) (actions_in_append (entries_at p n u k b) g.front)
      ∙ after_append u (actions_in (entries_at p n u k b)) (actions_in g.front)
      ∙ ap (λ (l : List Action). after (after u l) (actions_in g.front)) (actions_entries p n u k b) in
      record {
        front = entries_at p n u k b ++ g.front;
        entry = g.entry;
        more = g.more;
        is = ap (λ (l : List Entry). entries_at p n u k b ++ l) g.is ∙ sym (append_assoc (entries_at p n u k b) g.front (g.entry ∷ g.more));
        unit = g.unit ∙ omega arith;
        ends = g.ends;
        gives = ap (λ (x : TargetState). result_of c.call (given_number (action_attempt x g.entry.action).outcome)) at ∙ g.gives;
      }
