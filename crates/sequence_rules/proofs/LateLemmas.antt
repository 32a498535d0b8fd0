-- Values that come later change nothing.
use Rattle.std.proofs.Common.{◌≡◌, ℕ, suc, ◌+◌, ◌<◌, min, Bool, true, false, cond, List, [], ◌∷◌, ◌++◌, length, slice_index, Option, None, Some, option_map, Result, Ok, Err, refl, sym, ap, subst, ◌∙◌, arith}
use Rattle.std.proofs.Math.ListN.{get_or-append}
use Rattle.std.proofs.lemmas.List.{length-append, append_assoc, append-nil}
use Rattle.target_machine.specs.State.{TargetState}
use Rattle.target_machine.specs.Plain.{Action, CallEnd, Answered, Skipped, Faulted, Small, call_done, ended_call}
use Rattle.target_machine.specs.declared.unit.HaltCause.TheVariants.{AddressTooLarge}
use Rattle.target_machine.specs.declared.unit.ProbeCall.{ProbeCall}
use Rattle.target_calls.specs.declared.calls.Ask.{Ask}
use Rattle.target_calls.specs.declared.calls.Value.{Value}
use Rattle.target_calls.specs.declared.calls.Value.TheVariants.{Number, Pending}
use Rattle.target_calls.specs.Asks.{unit_ask, probe_ask}
use Rattle.target_calls.specs.NeedPoints.{Costs}
use Rattle.target_calls.specs.World.{World, is_over, done_now, next_world, stops_here, end_result, results, stop, left_at, world_after, one_if_skipped, skips, is_small_end, small_now}
use Rattle.target_calls.proofs.CallLists.{append_results, append_skips, stop_stays, whole_front, count_of}
use Rattle.target_calls.proofs.NeedLemmas.{used_calls, asked_calls}
use Rattle.target_calls.proofs.OneCall as one
use Rattle.sequence_rules.specs.Machine as machine
use Rattle.sequence_rules.specs.Machine.{Over, rest_of}
use Rattle.sequence_rules.specs.Steady.{Steady}
use Rattle.sequence_rules.specs.Alike.{CallMatches, Equal, Tracks}
use Rattle.sequence_rules.specs.Direct.{Now, with_call, with_line, line_after, answers, made_call, direct}
use Rattle.sequence_rules.specs.Late.{Late, late_of, line_unless, asks_with, used_late, written_late, late, ComesTo, SameRest, StoppedAt, StoppedBy, Grows, Later}

-- ---- what was written

pub append_none : (o : Option (List ℕ)) → o ≡ option_map (line_after []) o
append_none None = refl
append_none (Some xs) = ap Some (sym (append-nil xs))

pub grows_same : (o : Option (List ℕ)) → Grows o o
grows_same o = record { part = []; same = append_none o }

pub append_twice : (o : Option (List ℕ)) (xs ys : List ℕ) → option_map (line_after ys) (option_map (line_after xs) o) ≡ option_map (line_after (xs ++ ys)) o
append_twice None xs ys = refl
append_twice (Some zs) xs ys = ap Some (append_assoc zs xs ys)

pub grows_on : (a b c : Option (List ℕ)) → Grows a b → Grows b c → Grows a c
grows_on a b c h k = record { part = h.part ++ k.part; same = rw (k.same, h.same) (append_twice a h.part k.part) }

line_grows : (o : Option ℕ) (written : Option (List ℕ)) (line : List ℕ) → Grows written (option_map (line_unless o line) written)
line_grows None written line = record { part = line; same = refl }
line_grows (Some n) None line = record { part = []; same = refl }
line_grows (Some n) (Some xs) line = record { part = []; same = ap Some (sym (append-nil xs)) }

-- once the calls stop, a line changes nothing
no_line : (n : ℕ) (written : Option (List ℕ)) (line : List ℕ) → option_map (line_unless (Some n) line) written ≡ written
no_line n None line = refl
no_line n (Some xs) line = refl

module _ (cost : Costs) (w : World) where
  -- ---- what each operation keeps

  pub later_same : (t : Late) → Later w t t
  later_same t = record { more = []; calls = sym (append-nil t.asks.calls); kept = λ n e. refl; grows = grows_same t.written }

  pub later_on : (a b c : Late) → Later w a b → Later w b c → Later w a c
  later_on a b c h k = record {
    more = h.more ++ k.more;
    calls = rw (k.calls, h.calls) (append_assoc a.asks.calls h.more k.more);
    kept = λ n e. k.kept n (ap (stop w) h.calls ∙ stop_stays w a.asks.calls h.more n e) ∙ h.kept n e;
    grows = grows_on _ _ _ h.grows k.grows;
  }

  -- nothing was asked and nothing written
  pub later_still : (t t2 : Late) → t2.asks.calls ≡ t.asks.calls → t2.written ≡ t.written → Later w t t2
  later_still t t2 e f = record { more = []; calls = e ∙ sym (append-nil t.asks.calls); kept = λ n k. f; grows = record { part = []; same = f ∙ append_none t.written } }

  pub later_asked : (ask : Ask) (t : Late) → Later w t (late_of (asks_with cost w ask t.asks) t.written)
  later_asked ask t = record { more = ask ∷ []; calls = asked_calls (cost w.target t.asks.calls ask) ask t.asks; kept = λ n k. refl; grows = grows_same t.written }

  later_used : (v : Value) (t : Late) → Later w t (used_late cost w v t).1
  later_used (Number n) t = later_same t
  later_used (Pending slot) t = later_still t _ (used_calls slot t.asks) refl

  later_unit : (b : Bool) (ask : Ask) (t : Late) (v : Value)
      → Later w t (rest_of (cond b (Err (machine.Halted AddressTooLarge, late_of (asks_with cost w ask t.asks) t.written)) (Ok (v, late_of (asks_with cost w ask t.asks) t.written))))
  later_unit true ask t v = later_asked ask t
  later_unit false ask t v = later_asked ask t

  later_line : (line : List ℕ) (t : Late) → Later w t (written_late cost w line t)
  later_line line t = record { more = []; calls = sym (append-nil t.asks.calls); kept = λ n e. rw e (no_line n t.written line); grows = line_grows (stop w t.asks.calls) t.written line }

  pub steady_late : Steady (late cost w) (Later w)
  unfolding late
  steady_late = record {
    same = later_same;
    on = later_on;
    used = later_used;
    asked = λ u forgive t. later_unit _ (unit_ask u forgive) t _;
    commanded = λ c t. later_asked (probe_ask c) t;
    confirmed = λ t. later_still t _ refl refl;
    written = later_line;
  }

  -- ---- values

  keeps_late : (k : ℕ) (t t2 : Late) (u : Now) (v : Value) (n : ℕ) → Later w t t2 → SameRest w k t2 u → ComesTo w t v n → ComesTo w t2 v n
  keeps_late k t t2 u (Number i) n p r h = (h.0, tt)
  keeps_late k t t2 u (Pending slot) n p r h =
      let whole : stop w t.asks.calls ≡ None = whole_front w t.asks.calls p.more (ap (stop w) (sym p.calls) ∙ r.whole) in
      let few : slot.index < length (results w t.asks.calls) = rw (count_of w t.asks.calls whole) h.1 in
      let same : slice_index (results w (t.asks.calls ++ p.more)) slot.index ≡ slice_index (results w t.asks.calls) slot.index
      = rw (append_results w t.asks.calls p.more whole) (get_or-append (results w t.asks.calls) _ 0 slot.index few) in
      let long : length t2.asks.calls ≡ length t.asks.calls + length p.more = ap length p.calls ∙ length-append t.asks.calls p.more in
      let below = h.1 in
      (h.0 ∙ sym same ∙ ap (λ c. slice_index (results w c) slot.index) (sym p.calls), omega (arith, long, below))

  -- the calls stop here too
  pub stop_here : (b : Bool) (t : Late) (k : ℕ) (u : Now) → StoppedAt w b t k u → stop w t.asks.calls ≡ Some k
  stop_here b t k u h = ap (stop w) h.calls ∙ stop_stays w u.calls h.more k h.first

  stopped_later : (b : Bool) (t t2 : Late) (k : ℕ) (u : Now) → Later w t t2 → StoppedAt w b t k u → StoppedAt w b t2 k u
  stopped_later b t t2 k u p h = record {
    first = h.first;
    count = h.count;
    earlier = h.earlier;
    last = h.last;
    parts = h.parts;
    cause = h.cause;
    world = h.world;
    skipped = h.skipped;
    written = h.written ∙ sym (p.kept k (stop_here b t k u h));
    more = h.more ++ p.more;
    calls = p.calls ∙ ap (λ c. c ++ p.more) h.calls ∙ append_assoc u.calls h.more p.more;
  }

  ended_later : (here : Option Over) (t t2 : Late) (k : ℕ) (over : Over) (u : Now) → Later w t t2 → StoppedBy w None t k over u → StoppedBy w here t2 k over u
  unfolding stopped_later
  ended_later here t t2 k (machine.Halted cause) u p h = h
  ended_later here t t2 k (machine.Faulted call) u p h = record { stopped = stopped_later false t t2 k u p h.stopped; call_is = h.call_is }
  ended_later here t t2 k machine.Unanswered u p h = stopped_later true t t2 k u p h
  ended_later here t t2 k machine.Lost u p h = h

  used_same : (k : ℕ) (t : Late) (u : Now) (v : Value) (n : ℕ) → SameRest w k t u → ComesTo w t v n → (n ≡ (used_late cost w v t).0) × SameRest w k (used_late cost w v t).1 u
  used_same k t u (Number i) n r h = (h.0, r)
  used_same k t u (Pending slot) n r h =
      let same = used_calls slot t.asks in
      (h.0, record { count = r.count ∙ ap length (sym same); whole = ap (stop w) same ∙ r.whole; world = r.world ∙ ap (world_after w) (sym same); calls = r.calls ∙ sym same; skipped = r.skipped ∙ ap (λ c. min (skips w c) 4294967295) (sym same); written = r.written })

  -- ---- one call

  module _ (ask : Ask) (k : ℕ) (t : Late) (u : Now) (r : SameRest w k t u) where
    abbrev more : Late
    more = late_of (asks_with cost w ask t.asks) t.written

    more_are : more.asks.calls ≡ t.asks.calls ++ ask ∷ []
    more_are = asked_calls (cost w.target t.asks.calls ask) ask t.asks

    one_more : k + 1 ≡ length more.asks.calls
    one_more = let e = r.count in let f : length more.asks.calls ≡ length t.asks.calls + 1 = ap length more_are ∙ length-append t.asks.calls (ask ∷ []) in omega (arith, e, f)

    there : (b : Bool) → stops_here u.world ask ≡ b → stops_here (world_after w t.asks.calls) ask ≡ b
    there b e = ap (λ x. stops_here x ask) (sym r.world) ∙ e

    -- the calls stop at it
    stopped : (b : Bool) (x : World) → is_over u.world.answered ≡ b → stops_here u.world ask ≡ true → x ≡ left_at u.world ask → StoppedAt w b more (k + 1) (with_call ask x u)
    stopped b x over here is = record {
      first = ap (λ c. stop w (c ++ ask ∷ [])) r.calls ∙ one.one_stops w t.asks.calls ask r.whole (there true here) ∙ ap Some next_number;
      count = one_more ∙ ap length (more_are ∙ ap (λ c. c ++ ask ∷ []) (sym r.calls));
      earlier = u.calls;
      last = ask;
      parts = refl;
      cause = ap (λ c. is_over (world_after w c).answered) r.calls ∙ ap (λ (y : World). is_over y.answered) (sym r.world) ∙ over;
      world = is ∙ ap (λ y. left_at y ask) r.world ∙ sym (one.one_left w t.asks.calls ask r.whole (there true here)) ∙ ap (λ c. world_after w (c ++ ask ∷ [])) (sym r.calls);
      skipped = r.skipped ∙ ap (λ i. min i 4294967295) (same_skips_here ∙ sym (append_skips w t.asks.calls (ask ∷ []) r.whole)) ∙ ap (λ c. min (skips w (c ++ ask ∷ [])) 4294967295) (sym r.calls);
      written = r.written;
      more = [];
      calls = more_are ∙ ap (λ c. c ++ ask ∷ []) (sym r.calls) ∙ sym (append-nil (u.calls ++ ask ∷ []));
    }
      where
        same_skips_here : skips w t.asks.calls ≡ skips w t.asks.calls + skips (world_after w t.asks.calls) (ask ∷ [])
        same_skips_here = rw (there true here) (omega arith)

        next_number : suc (length t.asks.calls) ≡ k + 1
        next_number = let e = r.count in omega (arith, e)

    -- it is answered
    goes_on : (n : ℕ) → stops_here u.world ask ≡ false → n ≡ min (skips w t.asks.calls + one_if_skipped (done_now u.world ask).end) 4294967295
        → SameRest w (k + 1) more (record { world = next_world u.world ask; calls = u.calls ++ ask ∷ []; skipped = n; written = u.written })
    goes_on n here is = record {
      count = one_more;
      whole = ap (stop w) more_are ∙ one.one_goes w t.asks.calls ask r.whole (there false here);
      world = ap (λ x. next_world x ask) r.world ∙ sym (one.one_after w t.asks.calls ask r.whole (there false here)) ∙ ap (world_after w) (sym more_are);
      calls = ap (λ c. c ++ ask ∷ []) r.calls ∙ sym more_are;
      skipped = is ∙ ap (λ i. min i 4294967295) (ap (λ x. skips w t.asks.calls + one_if_skipped (done_now x ask).end) r.world ∙ sym (one.one_skips w t.asks.calls ask r.whole (there false here)) ∙ ap (skips w) (sym more_are));
      written = r.written;
    }

    result_there : stops_here u.world ask ≡ false → end_result (done_now u.world ask).end ≡ slice_index (results w more.asks.calls) (length t.asks.calls)
    result_there here = ap (λ x. end_result (done_now x ask).end) r.world ∙ sym (one.one_last w t.asks.calls ask r.whole (there false here)) ∙ ap (λ c. slice_index (results w c) (length t.asks.calls)) (sym more_are)

    abbrev Comes : Result (Value × Late) (Over × Late) → Result (ℕ × Now) (Over × Now) → Type 0
    Comes x y = CallMatches (SameRest w) (StoppedBy w) (ComesTo w) (k + 1) x y

    -- what the late machine answers
    abbrev late_unit : Bool → Result (Value × Late) (Over × Late)
    late_unit small = cond small (Err (machine.Halted AddressTooLarge, more)) (Ok (Pending (record { index = length t.asks.calls }), more))

    unanswered : (small : Bool) → is_over u.world.answered ≡ true → Comes (late_unit small) (Err (machine.Unanswered, with_call ask u.world u))
    unanswered true over = stopped true u.world over (rw over refl) (rw over refl)
    unanswered false over = stopped true u.world over (rw over refl) (rw over refl)

    below : length t.asks.calls < length more.asks.calls
    below = let e = r.count in let f = one_more in omega (arith, e, f)

    same_skips : u.skipped ≡ min (skips w t.asks.calls + 0) 4294967295
    same_skips = r.skipped ∙ ap (λ i. min i 4294967295) (omega arith)

    answered_by : (e : CallEnd) → (done_now u.world ask).end ≡ e → is_over u.world.answered ≡ false → Comes (late_unit (is_small_end e)) (answers ask e (with_call ask (next_world u.world ask) u))
    unfolding stopped
    answered_by (Answered n) is up =
        let here : stops_here u.world ask ≡ false = rw (up, is) refl in
        (goes_on u.skipped here (rw is same_skips), (sym (ap end_result is) ∙ result_there here, below))
    answered_by Skipped is up =
        let here : stops_here u.world ask ≡ false = rw (up, is) refl in
        let s = r.skipped in
        (goes_on (min (u.skipped + 1) 4294967295) here (rw is (omega (arith, s))), (sym (ap end_result is) ∙ result_there here, below))
    answered_by Faulted is up = record { stopped = stopped false (next_world u.world ask) up (rw (up, is) refl) (rw up refl); call_is = refl }
    answered_by Small is up =
        let here : stops_here u.world ask ≡ false = rw (up, is) refl in
        (refl, goes_on u.skipped here (rw is same_skips))

    either_way : (o : Bool) → is_over u.world.answered ≡ o
        → Comes (late_unit (is_small_end (done_now u.world ask).end)) (cond o (Err (machine.Unanswered, with_call ask u.world u)) (answers ask (done_now u.world ask).end (with_call ask (next_world u.world ask) u)))
    either_way true is = unanswered (is_small_end (done_now u.world ask).end) is
    either_way false is = answered_by (done_now u.world ask).end refl is

    small_is : small_now w t.asks.calls ask ≡ is_small_end (done_now u.world ask).end
    small_is = one.one_small w t.asks.calls ask r.whole ∙ ap (λ x. is_small_end (done_now x ask).end) (sym r.world)

    unit_matches : Comes (late_unit (small_now w t.asks.calls ask)) (made_call ask u)
    unfolding made_call
    unit_matches = rw small_is (either_way (is_over u.world.answered) refl)

    -- the same of a command, whose number is known at once
    abbrev Gives : Result (ℕ × Late) (Over × Late) → Result (ℕ × Now) (Over × Now) → Type 0
    Gives x y = CallMatches (SameRest w) (StoppedBy w) Equal (k + 1) x y

    abbrev number_there : ℕ
    number_there = slice_index (results w more.asks.calls) (length t.asks.calls)

    number_by : (e : CallEnd) → (done_now u.world ask).end ≡ e → ¬ (e ≡ Small) → is_over u.world.answered ≡ false → Gives (Ok (number_there, more)) (answers ask e (with_call ask (next_world u.world ask) u))
    unfolding stopped
    number_by (Answered n) is large up =
        let here : stops_here u.world ask ≡ false = rw (up, is) refl in
        (goes_on u.skipped here (rw is same_skips), sym (ap end_result is) ∙ result_there here)
    number_by Skipped is large up =
        let here : stops_here u.world ask ≡ false = rw (up, is) refl in
        let s = r.skipped in
        (goes_on (min (u.skipped + 1) 4294967295) here (rw is (omega (arith, s))), sym (ap end_result is) ∙ result_there here)
    number_by Faulted is large up = record { stopped = stopped false (next_world u.world ask) up (rw (up, is) refl) (rw up refl); call_is = refl }
    number_by Small is large up = absurd (large refl)

    number_way : (o : Bool) → is_over u.world.answered ≡ o → ¬ ((done_now u.world ask).end ≡ Small)
        → Gives (Ok (number_there, more)) (cond o (Err (machine.Unanswered, with_call ask u.world u)) (answers ask (done_now u.world ask).end (with_call ask (next_world u.world ask) u)))
    number_way true is large = stopped true u.world is (rw is refl) (rw is refl)
    number_way false is large = number_by (done_now u.world ask).end refl large is

    number_matches : ¬ ((done_now u.world ask).end ≡ Small) → Gives (Ok (slice_index (results w (t.asks.calls ++ ask ∷ [])) (length t.asks.calls), more)) (made_call ask u)
    unfolding made_call
    number_matches large = subst (λ c. Gives (Ok (slice_index (results w c) (length t.asks.calls), more)) (made_call ask u)) more_are (number_way (is_over u.world.answered) refl large)

  -- a command of the probe has no address
  probe_large : (x : World) (c : ProbeCall) → ¬ ((done_now x (probe_ask c)).end ≡ Small)
  unfolding call_done
  probe_large x c = by_end _ _ _ _ _ _
    where
      by_end : (f : Bool) (n : ℕ) (t2 : TargetState) (large : List ℕ) (actions : List Action) (g : Bool) → ¬ ((ended_call f g false n t2 large actions).end ≡ Small)
      by_end true n t2 large actions true h = cc
      by_end true n t2 large actions false h = cc
      by_end false n t2 large actions g h = cc

  line_same : (k : ℕ) (t : Late) (u : Now) (line : List ℕ) → SameRest w k t u → SameRest w k (written_late cost w line t) (with_line line u)
  line_same k t u line r = record { count = r.count; whole = r.whole; world = r.world; calls = r.calls; skipped = r.skipped; written = ap (option_map (line_after line)) r.written ∙ ap (λ o. option_map (line_unless o line) t.written) (sym r.whole) }

  -- each operation is that of the meaning
  pub late_tracks : Tracks (late cost w) (direct false) (ComesTo w) (SameRest w) (Later w) (StoppedBy w)
  unfolding late direct
  late_tracks = record {
    steady = steady_late;
    keeps = keeps_late;
    ended = ended_later;
    careless = refl;
    lost = λ k t u e r. absurd cc;
    number = λ t n. (refl, tt);
    used = used_same;
    asked = λ k t u unit forgive r. unit_matches (unit_ask unit forgive) k t u r;
    commanded = λ k t u c r. number_matches (probe_ask c) k t u r (probe_large u.world c);
    confirmed = λ k t u r. record { count = r.count; whole = r.whole; world = r.world; calls = r.calls; skipped = r.skipped; written = r.written };
    written = line_same;
  }
