-- Calls all of whose entries were made.
use Rattle.std.proofs.Common.{◌≡◌, ◌∙◌, ℕ, suc, ◌+◌, Bool, true, false, cond, ◌||◌, List, [], ◌∷◌, ◌++◌, length, slice_index, Option, Some, None, refl, sym, ap, subst, arith, append-nil, append_assoc, length-append}
use Rattle.std.proofs.Math.Bool.{or-true}
use Rattle.std.proofs.lemmas.Bool.{both_ways}
use Rattle.target_machine.specs.Plain.{CallEnd, Answered, Faulted, Skipped, Small, action_attempt, call_done, given_number, result_of}
use Rattle.target_machine.specs.State.{TargetState}
use Rattle.probe_core.specs.Bench.{BenchState}
use Rattle.probe_core.specs.Probe.{target_of}
use Rattle.target_calls.specs.Asks.{AreAskable, is_forgiving}
use Rattle.target_calls.specs.Journal.{Entry, Passes, target_after}
use Rattle.target_machine.specs.Fresh.{IsFresh}
use Rattle.target_calls.specs.World.{World, done_now, end_result, is_faulted, is_over, is_small_end, left_at, next_world, one_if_skipped, results, skips, small_now, start_world, stop, stops_here, world_after}
use Rattle.target_calls.specs.declared.calls.Ask.{Ask}
use Rattle.target_calls.proofs.CallLists.{count_of, head_of, results_front, whole_front}
use Rattle.target_calls.proofs.EndLemmas.{skipped_forgives}
use Rattle.target_calls.proofs.OneCall.{one_last, one_results, one_skips, one_small, one_stops}
use Rattle.access_regs.specs.Alone.{call_alone, alone_after, large_of_all}
use Rattle.access_regs.specs.Entries.{AnsweredAt, kept_by, target_by}
use Rattle.access_regs.specs.Journal.{issue_of, issued_entries}
use Rattle.access_regs.specs.Stops.{world_at}
use Rattle.access_regs.proofs.SkipLemmas.{fault_skips, passing_is_made}
use Rattle.access_regs.proofs.EntryLemmas.{call_answers}
use Rattle.access_regs.proofs.StopLists.{passing_stops}
use Rattle.flight_laws.specs.Coming.{AllCame, NoneStopped, PassComes, PassGiven, ResultGiven, SkipComes, SmallGiven}
use Rattle.flight_laws.specs.Sending.{IsSending}
use Rattle.flight_laws.specs.UnderWay.{IsUnderWay}
use Rattle.flight_laws.proofs.OpenLemmas.{after_alone, large_alone}
use Rattle.flight_laws.proofs.PushLemmas.{same_cut}
use Rattle.flight_laws.proofs.SmallLemmas.{NeverStops, never_stops}
use Rattle.access_regs.specs.declared.planner.Planner.{Planner}

-- all entries were made
all_made : (p : Planner) (calls : List Ask) (confirmed count : ℕ) (came : List ℕ) (m0 m : BenchState) → (s : IsSending p calls confirmed count [] [] [] came m0 m) → issued_entries p (target_of m0.probe) calls ≡ s.made
all_made p calls confirmed count came m0 m s = s.on.are ∙ append-nil s.made

pub none_stopped : NoneStopped
none_stopped p calls confirmed count came m0 m n s enough =
    (passing_stops p (target_of m0.probe) calls s.fresh s.askable (subst (Passes (target_of m0.probe)) (sym (all_made p calls confirmed count came m0 m s)) s.on.passes)).stops n enough

pub all_came : AllCame
all_came p calls confirmed count old came m0 m b kept s h = record {
  fresh = s.fresh;
  askable = subst AreAskable (sym h.calls_are) s.askable;
  made = s.made;
  flying = [];
  on = subst (λ (l : List Ask). IsUnderWay (issued_entries p (target_of m0.probe) l) s.made [] [] [] m0 m) (sym h.calls_are) s.on;
  kept_is = ap (kept_by p (target_of m0.probe)) h.calls_are ∙ h.kept_is;
  confirmed = s.confirmed_is ∙ sym h.confirmed_is;
  issued_is = (let c = s.confirmed_is in let i = h.issued_is in omega (arith, c, i));
  strict = tt;
  front = calls;
  back = [];
  calls = h.calls_are ∙ sym (append-nil calls);
  part = [];
  made_is = sym (all_made p calls confirmed count old m0 m s) ∙ sym (append-nil (issued_entries p (target_of m0.probe) calls));
  came_is = h.came_is;
  came_are = h.came_are;
  skipped_is = h.skipped_is;
  mild = tt;
  calm = λ _. (refl, refl);
}

-- ---- results

-- all calls are answered there
never_over : (asks : List Ask) (t : TargetState) (large : List ℕ) → stop (world_at t large None) asks ≡ None → (world_after (world_at t large None) asks).answered ≡ None
never_over [] t large whole = refl
never_over (x ∷ asks) t large whole =
    let h = head_of (stops_here (world_at t large None) x) (stop (next_world (world_at t large None) x) asks) whole in
    ap (λ (b : Bool). (cond b (left_at (world_at t large None) x) (world_after (next_world (world_at t large None) x) asks)).answered) h.0
    ∙ never_over asks (call_alone t large x).next (call_alone t large x).large h.1

module _ (t : TargetState) (asks : List Ask) (ask : Ask) (more : List Ask) (whole : stop (start_world t None) (asks ++ ask ∷ more) ≡ None) where
  abbrev w : World
  w = start_world t None

  abbrev u : World
  u = world_after (start_world t None) asks

  before_whole : stop w asks ≡ None
  before_whole = whole_front w asks (ask ∷ more) whole

  with_whole : stop w (asks ++ ask ∷ []) ≡ None
  with_whole = whole_front w (asks ++ ask ∷ []) more (ap (stop w) (append_assoc asks (ask ∷ []) more) ∙ whole)

  goes_here : stops_here u ask ≡ false
  goes_here = by_test (stops_here u ask) refl
    where
      by_test : (b : Bool) → stops_here u ask ≡ b → b ≡ false
      by_test true here = absurd (let x : ◌≡◌ {A = Option ℕ} None (Some (suc (length asks))) = sym with_whole ∙ one_stops w asks ask before_whole here in cc)
      by_test false here = refl

  -- the result is that of the call
  result_there : slice_index (results w (asks ++ ask ∷ more)) (length asks) ≡ end_result (done_now u ask).end
  result_there =
      let count : length (results w (asks ++ ask ∷ [])) ≡ length (asks ++ ask ∷ []) = count_of w (asks ++ ask ∷ []) with_whole in
      let long = length-append asks (ask ∷ []) in
      ap (λ (l : List Ask). slice_index (results w l) (length asks)) (sym (append_assoc asks (ask ∷ []) more))
      ∙ results_front w (asks ++ ask ∷ []) more (length asks) (omega (arith, count, long))
      ∙ one_last w asks ask before_whole goes_here

-- the end of a call after others that do not stop, by the calls alone
module _ (t : TargetState) (asks : List Ask) (ask : Ask) (whole : stop (start_world t None) asks ≡ None) where
  pub never : NeverStops t [] None asks
  never = never_stops t [] None asks whole

  abbrev pub there : CallEnd
  there = (done_now (world_after (start_world t None) asks) ask).end

  pub alone_is : there ≡ (call_alone (alone_after t [] asks) (large_of_all t [] asks) ask).end
  alone_is =
      let target = after_alone t [] None asks never.none never.enough in
      let larges = large_alone t [] None asks never.none never.enough in
      (λ j. (call_done (target j) (larges j) ask.forgive ask.call).end)

  -- a call that does not end at a fault is no stop
  pub goes_on : (x : CallEnd) → there ≡ x → is_faulted x ≡ false → stops_here (world_after (start_world t None) asks) ask ≡ false
  goes_on x is good =
      let live : is_over (world_after (start_world t None) asks).answered ≡ false = ap is_over (never_over asks t [] whole) in
      (λ j. live j || is_faulted (is j)) ∙ good

-- the answer of a call that is answered
module _ (p : Planner) (t : TargetState) (asks : List Ask) (ask : Ask) (more : List Ask) (front : List Entry) (e : Entry) (rest : List Entry) (fresh : IsFresh t) (ok : AreAskable (asks ++ ask ∷ more))
    (whole : stop (start_world t None) asks ≡ None) (is : issued_entries p t (asks ++ ask ∷ more) ≡ front ++ e ∷ rest)
    (at : length front + 1 ≡ length (issued_entries p t asks) + length (issue_of p (target_by p t asks) (kept_by p t asks) ask).steps) where
  pub answer_given : (v : ℕ) → there t asks ask whole ≡ Answered v → v ≡ result_of ask.call (given_number (action_attempt (target_after t front) e.action).outcome)
  answer_given v end =
      let a : AnsweredAt p t (issued_entries p t (asks ++ ask ∷ more)) asks ask v = call_answers p t asks ask more v fresh ok (never t asks ask whole).none (sym (alone_is t asks ask whole) ∙ end) in
      let place = a.at in
      let same = same_cut a.front front a.entry e a.more rest (sym a.is ∙ is) (omega (arith, place, at)) in
      sym a.gives_it ∙ (λ j. result_of ask.call (given_number (action_attempt (target_after t (same.0 j)) (same.1 j).action).outcome))

pub result_given : ResultGiven
result_given p t asks ask more front e rest fresh ok whole mild large is at = result_there t asks ask more whole ∙ by_end (done_now (world_after (start_world t None) asks) ask).end refl
  where
    before : stop (start_world t None) asks ≡ None
    before = before_whole t asks ask more whole

    by_end : (x : CallEnd) → (done_now (world_after (start_world t None) asks) ask).end ≡ x → end_result x ≡ result_of ask.call (given_number (action_attempt (target_after t front) e.action).outcome)
    by_end (Answered v) end = answer_given p t asks ask more front e rest fresh ok before is at v end
    by_end Skipped end = absurd (both_ways (is_forgiving ask) mild (skipped_forgives (world_after (start_world t None) asks) ask end))
    by_end Faulted end = absurd (both_ways (stops_here (world_after (start_world t None) asks) ask) (goes_here t asks ask more whole) (faulted_here end))
      where
        faulted_here : (done_now (world_after (start_world t None) asks) ask).end ≡ Faulted → stops_here (world_after (start_world t None) asks) ask ≡ true
        faulted_here end = rw end (or-true _)
    by_end Small end = absurd (both_ways (small_now (start_world t None) asks ask) large (one_small (start_world t None) asks ask before ∙ ap is_small_end end))

-- ---- one call more

pub skip_comes : SkipComes
skip_comes p t asks ask leads step more at fresh ok whole forgives is pass bad =
    let end : there t asks ask whole ≡ Skipped = alone_is t asks ask whole ∙ fault_skips p t asks ask leads step more at fresh ok (never t asks ask whole).none forgives is pass bad in
    let goes = goes_on t asks ask whole Skipped end refl in (
      one_skips (start_world t None) asks ask whole goes ∙ ap (λ (x : CallEnd). skips (start_world t None) asks + one_if_skipped x) end,
      one_results (start_world t None) asks ask whole goes ∙ ap (λ (x : CallEnd). results (start_world t None) asks ++ end_result x ∷ []) end,
    )

pub pass_comes : PassComes
pass_comes p t asks ask at fresh ok whole pass =
    let ends = passing_is_made p t asks ask at fresh ok (never t asks ask whole).none pass in
    by_end (there t asks ask whole) refl (λ e. ends.0 (sym (alone_is t asks ask whole) ∙ e)) (λ e. ends.1 (sym (alone_is t asks ask whole) ∙ e))
  where
    w : World
    w = start_world t None

    by_end : (x : CallEnd) → there t asks ask whole ≡ x → (there t asks ask whole ≡ Skipped → ⊥) → (there t asks ask whole ≡ Faulted → ⊥) → skips w (asks ++ ask ∷ []) ≡ skips w asks
    by_end (Answered v) e no_skip no_fault = one_skips w asks ask whole (goes_on t asks ask whole (Answered v) e refl) ∙ ap (λ (x : CallEnd). skips w asks + one_if_skipped x) e ∙ omega arith
    by_end Skipped e no_skip no_fault = absurd (no_skip e)
    by_end Faulted e no_skip no_fault = absurd (no_fault e)
    by_end Small e no_skip no_fault = one_skips w asks ask whole (goes_on t asks ask whole Small e refl) ∙ ap (λ (x : CallEnd). skips w asks + one_if_skipped x) e ∙ omega arith

pub pass_given : PassGiven
pass_given p t asks ask front e rest at fresh ok whole pass large is place =
    let ends = passing_is_made p t asks ask at fresh ok (never t asks ask whole).none pass in
    by_end (there t asks ask whole) refl (λ e. ends.0 (sym (alone_is t asks ask whole) ∙ e)) (λ e. ends.1 (sym (alone_is t asks ask whole) ∙ e))
  where
    w : World
    w = start_world t None

    value : ℕ
    value = result_of ask.call (given_number (action_attempt (target_after t front) e.action).outcome)

    by_end : (x : CallEnd) → there t asks ask whole ≡ x → (there t asks ask whole ≡ Skipped → ⊥) → (there t asks ask whole ≡ Faulted → ⊥) →
        results w (asks ++ ask ∷ []) ≡ results w asks ++ result_of ask.call (given_number (action_attempt (target_after t front) e.action).outcome) ∷ []
    by_end (Answered v) end no_skip no_fault =
        one_results w asks ask whole (goes_on t asks ask whole (Answered v) end refl) ∙ ap (λ (x : CallEnd). results w asks ++ end_result x ∷ []) end
        ∙ ap (λ (n : ℕ). results w asks ++ n ∷ []) (answer_given p t asks ask [] front e rest fresh ok whole is place v end)
    by_end Skipped end no_skip no_fault = absurd (no_skip end)
    by_end Faulted end no_skip no_fault = absurd (no_fault end)
    by_end Small end no_skip no_fault = absurd (both_ways (small_now w asks ask) large (one_small w asks ask whole ∙ ap is_small_end end))

pub small_given : SmallGiven
small_given t asks ask whole small =
    by_end (there t asks ask whole) refl
  where
    w : World
    w = start_world t None

    is_end : is_small_end (there t asks ask whole) ≡ true
    is_end = sym (one_small w asks ask whole) ∙ small

    by_end : (x : CallEnd) → there t asks ask whole ≡ x → (skips w (asks ++ ask ∷ []) ≡ skips w asks) × (results w (asks ++ ask ∷ []) ≡ results w asks ++ 0 ∷ [])
    by_end Small e = (
      one_skips w asks ask whole (goes_on t asks ask whole Small e refl) ∙ ap (λ (x : CallEnd). skips w asks + one_if_skipped x) e ∙ omega arith,
      one_results w asks ask whole (goes_on t asks ask whole Small e refl) ∙ ap (λ (x : CallEnd). results w asks ++ end_result x ∷ []) e,
    )
    by_end (Answered v) e = absurd (both_ways (is_small_end (there t asks ask whole)) (ap is_small_end e) is_end)
    by_end Skipped e = absurd (both_ways (is_small_end (there t asks ask whole)) (ap is_small_end e) is_end)
    by_end Faulted e = absurd (both_ways (is_small_end (there t asks ask whole)) (ap is_small_end e) is_end)
