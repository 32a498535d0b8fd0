-- What an access and a run over it report together is what a run leaves.
use Rattle.std.proofs.Common.{◌≡◌, ◌∙◌, ◌⊎◌, inl, inr, ℕ, ◌+◌, ◌-◌, ◌*◌, ◌/◌, ◌<◌, ◌≤◌, if◌then◌else◌, List, length, take, Bool, true, false, Option, None, Some, refl, sym, ap, subst, arith}
use Rattle.std.specs.List.{AllByRecursion}
use Rattle.std.specs.Prelude.{◌&&◌, is_none, option_map, slice_get}
use Rattle.std.proofs.lemmas.List.{length-append}
use Rattle.target_machine.specs.Start.{start}
use Rattle.target_machine.specs.State.{Agree, TargetState}
use Rattle.probe_core.specs.Bench.{BenchState, Seen, StepsTo, fresh}
use Rattle.probe_core.specs.Probe.{ExecutorState, target_of, work_of}
use Rattle.probe_core.specs.declared.job.Config.{Config}
use Rattle.probe_core.specs.declared.job.BenchJob.{BenchJob}
use Rattle.probe_core.specs.declared.job.Limits.{Limits}
use Rattle.target_calls.specs.Asks.{is_settled, settled_last}
use Rattle.target_calls.specs.Journal.{Entry, lines_before, target_after}
use Rattle.target_calls.specs.Journal.{settles as is_settling}
use Rattle.target_calls.specs.NeedPoints.{Asks, asks_at_finish, asks_at_need}
use Rattle.target_calls.specs.Weights.{commands_in, registers_in, weight_in}
use Rattle.target_calls.specs.World.{start_world, world_after}
use Rattle.target_calls.specs.World.{stop as call_stop}
use Rattle.target_calls.specs.declared.calls.Ask.{Ask}
use Rattle.target_calls.proofs.MarkLemmas.{after_marked, marked_settled}
use Rattle.access_calls.specs.Bounds.{AreNextWrites, KeepsBounds, KeepsBoundsIf, block_words, flight_capacity, starting_since}
use Rattle.access_calls.specs.Left.{IsLeft, IsLeftAt, answered_at_end, answered_by, answered_cut}
use Rattle.access_calls.specs.Growing.{IsForFirstCalls, JournalGoesOn, JournalSettles}
use Rattle.access_calls.specs.Made.{HasMemory, units_made}
use Rattle.access_calls.specs.Numbers.{HasNumbers, StopNumbers, lines_at, unit_at}
use Rattle.access_calls.specs.Reported.{AccessView, began, world_from}
use Rattle.access_calls.specs.Standing as s
use Rattle.access_calls.specs.Standing.{AccessStands, StandsAt, WhereObservable, HasPerformed, StandsOpen, grown_since, transfer_number_of, pending_of}
use Rattle.access_calls.specs.declared.ended.Ended.{Ended}
use Rattle.access_calls.specs.declared.ended.Ending.{Ending}
use Rattle.access_calls.specs.declared.ended.Ending.TheVariants as e
use Rattle.access_calls.specs.declared.stop.Report.{Report}
use Rattle.access_calls.specs.declared.stop.Stop.{Stop}
use Rattle.access_calls.specs.declared.stop.Stop.TheVariants as stop
use Rattle.access_calls.specs.declared.stop.StopCause.{StopCause}
use Rattle.access_calls.specs.declared.stop.StopCause.TheVariants.{Faulted, NoAnswer}
use Rattle.sequence_rules.specs.Runs.{Outcome, late_meaning, units_of}
use Rattle.sequence_rules.specs.Machine.{end_state}
use Rattle.sequence_rules.proofs.Writing.{only_written}
use Rattle.control_flow.specs.Answers as answers
use Rattle.control_flow.specs.Answers.{EndBy, EndsAtCut, HasNeeds, IsAll, IsPartOfOutcome, Ran, RunEndsAs, SharesCalls, StopsAfter, ran}
use Rattle.control_flow.specs.Closing.{ComesToEnd}
use Rattle.sequence_rules.specs.Known.{Knows, known_part}
use Rattle.target_machine.specs.Counts.{one_if}
use Rattle.target_machine.proofs.CountLemmas.{one_most}
use Rattle.sequels.specs.Limits.{GoesOnFrom}
use Rattle.sequels.proofs.LimitLemmas.{from_same}
use Rattle.followed_runs.specs.Followed.{Task, task_outcome}
use Rattle.followed_runs.specs.Followed as followed
use Rattle.followed_runs.specs.Laws as laws
use Rattle.followed_runs.specs.Laws.{OutcomeIsCutShort}
use Rattle.followed_runs.proofs.FollowLemmas.{limits_followed}
use Rattle.followed_runs.proofs.MadeLemmas.{followed_made}
use Rattle.job_runs.proofs.BegunLemmas.{Share, asked_stop, begun_share, count_begun, ends_how, in_common, later_own, part_shared}
use Rattle.job_runs.proofs.FrontLemmas.{Covers, Meeting, call_within, covered, covers, few_asked, get_some, meeting, meets, own_call, same_fault, same_first, same_made, same_numbers}
use Rattle.job_runs.proofs.SharedLemmas.{Common, first_same, near_by, passes_same, same_together, work_least, work_less}
use Rattle.job_runs.proofs.WordsLemmas.{after_from, after_meets, same_made_units, short_target}
use Rattle.job_runs.specs.Runs.{AccessKind, JobComesTo, HasStopped, IsBroken, IsFaultStop, HasFewPackets, IsFewIf, IsFront, IsLeftOff, IsNotOpened, IsRetryStop, IsStop, IsUnopened, RunIsWhole, KeepsIdleCycles, Left, LeavesAs, Run, all_entries, calls_in, entries_in, is_bounded, known_after, needs_in, not_opened, opened, outcome_with, entries_before_settling}
use Rattle.access_calls.specs.Endings.{ending_of}
use Rattle.access_calls.specs.Opening.{HasTried, IsNotBegun, MayBegin, RefusedBy, opened_bench}

-- what an access reports at this end, where its bench is observable
stands_at : (journal : TargetState → List Ask → List Entry) (a : AccessView) (first n : BenchState) (end : Option Stop) → a.end ≡ end → a.state ≡ Some n
    → AccessStands journal a (began first (answered_by a)) → StandsAt end (journal (target_of first.probe) a.asks.calls) a (began first (answered_at_end end a.lines)) n
stands_at journal a first n end is seen h =
    subst (λ (x : Option Stop). StandsAt x (journal (target_of first.probe) a.asks.calls) a (began first (answered_at_end x a.lines)) n) is
    (subst (λ (o : Option BenchState). WhereObservable o (λ m. StandsAt a.end (journal (target_of first.probe) a.asks.calls) a (began first (answered_by a)) m)) seen h)

-- what a run answers at this end
ends_at : (ending : Ending) (k : Task) (a : AccessView) (first : BenchState) (before : Option (List ℕ)) (r : Ran) (end : Option Stop) → a.end ≡ end
    → RunEndsAs ending a.lines (followed.outcome_in_world (world_from first (answered_by a)) k before) r
    → RunEndsAs ending a.lines (followed.outcome_in_world (world_from first (answered_at_end end a.lines)) k before) r
ends_at ending k a first before r end is h =
    subst (λ (x : Option Stop). RunEndsAs ending a.lines (followed.outcome_in_world (world_from first (answered_at_end x a.lines)) k before) r) is h

-- what came since the load, from which the access counts
since_load : (now first most : ℕ) → first ≡ 0 → now - first ≤ most → now ≤ most
since_load now first most none few = omega (arith, none, few)

-- the unit of an entry is at most one more than those that have their lines before it
unit_by_lines : (e : Entry) → e.unit ≤ lines_before e + 1
unit_by_lines e = one (is_settling e.part)
  where
    one : (b : Bool) → e.unit ≤ (if b then e.unit else e.unit - 1) + 1
    one true = omega arith
    one false = omega arith

module _ (access : AccessKind) (grows : JournalGoesOn access.journal) (settles : JournalSettles access.journal) (limits : Limits) (k : Task) (first : BenchState) (before : Option (List ℕ)) where
  abbrev run : Run
  run = record { access = access; limits = limits; task = k; first = first; before = before }

  abbrev entries : AccessView → List Entry
  entries a = access.journal (target_of first.probe) a.asks.calls

  abbrev whole : Outcome
  whole = task_outcome k (target_of first.probe) before

  -- the target after all calls, the last of them marked
  settled_target : (calls : List Ask) → calls ≡ settled_last whole.calls → (world_after (start_world (target_of first.probe) None) calls).target ≡ whole.target
  settled_target calls is =
      let w = start_world (target_of first.probe) None in
      ap (λ (c : List Ask). (world_after w c).target) is ∙ ap (λ x. x.target) (after_marked w whole.calls) ∙ sym (followed_made w k before).target

  -- what an access reports of need points at the end of its run
  abbrev HasRunNeeds : Ending → AccessView → Type 0
  HasRunNeeds ending a = HasNeeds ending a.asks (late_meaning access.cost (world_from first (answered_by a)) k.program before)

  -- the same where all is answered
  all_needs : (ending : Ending) (a : AccessView) → a.end ≡ None → HasRunNeeds ending a → HasNeeds ending a.asks (late_meaning access.cost (world_from first None) k.program before)
  all_needs ending a end h = subst (λ (x : Option Stop). HasNeeds ending a.asks (late_meaning access.cost (world_from first (answered_at_end x a.lines)) k.program before)) end h

  -- the lines before do not count
  counted_needs : (a : AccessView) → a.asks ≡ asks_at_need (asks_at_finish (end_state (late_meaning access.cost (world_from first None) k.program before)).rest.asks) → a.asks.needs ≡ needs_in run
  counted_needs a is = ap (λ (x : Asks). x.needs) is
      ∙ ap (λ (x : Asks). (asks_at_need (asks_at_finish x)).needs) (sym (only_written access.cost (world_from first None) k.program before None).asks)

  -- the bounds of the access are those of the run
  is_few : (answered : Option ℕ) (a : AccessView) (l : Left) → a.bench.limits ≡ limits → first.starting ≡ 0 → a.asks.calls ≡ settled_last whole.calls → a.asks.needs ≡ needs_in run
      → KeepsBounds (entries a) a (began first answered) l.bench → HasFewPackets run l
  is_few answered a l same opening calls points h = record {
    few = since_load _ first.starting _ opening
        (subst (λ (x : Limits). starting_since (began first answered) l.bench ≤ 3 + needs_in run + registers_in (entries_in run (calls_in run)) / flight_capacity x) same
        (subst (λ (c : List Ask). starting_since (began first answered) l.bench ≤ 3 + needs_in run + registers_in (entries_in run c) / flight_capacity a.bench.limits) calls
        (subst (λ (n : ℕ). starting_since (began first answered) l.bench ≤ 3 + n + registers_in (entries a) / flight_capacity a.bench.limits) points h.few)));
    blocks = λ size ap_ address some next low two. since_load _ first.starting _ opening
        (subst (λ (x : Limits). starting_since (began first answered) l.bench ≤ 6 + (length (calls_in run) + block_words x - 1) / block_words x) same
        (subst (λ (c : List Ask). starting_since (began first answered) l.bench ≤ 6 + (length c + block_words a.bench.limits - 1) / block_words a.bench.limits) calls
        (h.blocks size ap_ address
        (subst (λ (c : List Ask). 0 < length c) (sym calls) some)
        (subst (λ (c : List Ask). AreNextWrites (address / 1024) size ap_ address c) (sym calls) next)
        low (subst (λ (n : ℕ). n ≤ 2) (sym points) two))));
  }

  -- so it is of an access that says so, where nothing follows the program
  few_if : (is_sparing none : Bool) (answered : Option ℕ) (a : AccessView) (l : Left) → a.end ≡ None → a.state ≡ Some l.bench → a.bench.limits ≡ limits → first.starting ≡ 0
      → a.asks.calls ≡ settled_last whole.calls → (none ≡ true → a.asks.needs ≡ needs_in run) → KeepsBoundsIf is_sparing (entries a) a (began first answered) → IsFewIf (is_sparing && none) run l
  few_if false none answered a l end seen same opening calls points h = tt
  few_if true false answered a l end seen same opening calls points h = tt
  few_if true true answered a l end seen same opening calls points h =
      is_few answered a l same opening calls (points refl) (subst (λ (o : Option BenchState). WhereObservable o (λ m. KeepsBounds (entries a) a (began first answered) m)) seen (h end))

  is_whole : (a : AccessView) (l : Left) → IsAll whole (ran l.ended a.asks l.written) → StandsOpen (entries a) a (began first None) l.bench → IsFewIf (is_bounded run) run l → RunIsWhole run l
  is_whole a l all at few = record {
    variables = all.variables;
    units = all.units;
    skipped = all.skipped;
    written = all.written;
    target = subst (λ (t : TargetState). Agree (target_of l.bench.probe) t) (settled_target a.asks.calls all.calls)
        (at.settled (subst (λ (c : List Ask). is_settled c ≡ true) (sym all.calls) (marked_settled whole.calls)));
    retries = at.retries;
    idle_cycles = at.idle_cycles;
    packets = few;
  }

  -- all that was asked is the outcome's, where no more were asked
  covered_by : (a : AccessView) → SharesCalls a.asks.calls whole → length a.asks.calls ≤ length whole.calls → Covers access.journal grows settles (target_of first.probe) a.asks.calls whole.calls
  covered_by a shares few = covers access.journal grows settles (target_of first.probe) a.asks.calls whole.calls (meets a.asks.calls whole shares) few

  -- where more were asked, the outcome ends at its last call, and what was begun is not after that
  begun_own : (a : AccessView) (begun : ℕ) → SharesCalls a.asks.calls whole → s.StayWithin (target_of first.probe) a.asks.calls (take begun (entries a))
      → length whole.calls < length a.asks.calls → AllByRecursion (IsForFirstCalls (length whole.calls)) (take begun (entries a))
  begun_own a begun shares own more = by_end (ends_how (start_world (target_of first.probe) None) whole.ending whole.calls (followed_made (start_world (target_of first.probe) None) k before).ending)
    where
      by_end : answers.EndsWhole whole.ending ⊎ (call_stop (start_world (target_of first.probe) None) whole.calls ≡ Some (length whole.calls)) → AllByRecursion (IsForFirstCalls (length whole.calls)) (take begun (entries a))
      by_end (inl ends) = absurd (let few = few_asked a.asks.calls whole shares ends in omega (arith, few, more))
      by_end (inr stops) = own.so (length whole.calls) (asked_stop (start_world (target_of first.probe) None) a.asks.calls whole.calls (meets a.asks.calls whole shares) more stops)

  shared_by : (a : AccessView) (begun : ℕ) → SharesCalls a.asks.calls whole → s.StayWithin (target_of first.probe) a.asks.calls (take begun (entries a)) → begun ≤ length (entries a)
      → Share begun (entries a) (entries_in run (calls_in run))
  shared_by a begun shares own le =
      begun_share access.journal grows settles (target_of first.probe) a.asks.calls whole.calls begun (meets a.asks.calls whole shares) le (begun_own a begun shares own)

  is_front : (a : AccessView) (begun : ℕ) (l : Left) → IsPartOfOutcome whole (ran l.ended a.asks l.written) → Share begun (entries a) (all_entries run) → IsFront run begun l
  is_front a begun l part share = record { written = part.written; within = share.within }

  is_left_off : (a : AccessView) (l : Left) → IsPartOfOutcome whole (ran l.ended a.asks l.written) → StandsOpen (entries a) a (began first None) l.bench → IsLeftOff run l
  is_left_off a l part at =
      let share = shared_by a a.confirmed part.calls at.own at.performed.within in
      record {
        sent = a.confirmed;
        front = is_front a a.confirmed l part share;
        work = at.work ∙ ap (weight_in (target_of first.probe)) share.same;
        target = subst (λ (es : List Entry). Agree (target_of l.bench.probe) (target_after (target_of first.probe) es)) share.same at.performed.target;
        retries = at.retries;
        idle_cycles = at.idle_cycles;
      }

  -- So it is in each world that is left, where it is neither done nor halted.
  abbrev IsPartThere : Ending → AccessView → Left → Type 0
  IsPartThere ending a l = (n : Option ℕ) → IsLeft a n → (ComesToEnd ending → ⊥) → IsPartOfOutcome (followed.outcome_in_world (world_from first n) k before) (ran l.ended a.asks l.written)

  -- the calls that came are answered
  came_left : (issued confirmed : ℕ) (a : AccessView) → a.end ≡ Some (stop.BenchFault issued confirmed) → IsLeft a (Some a.came)
  came_left issued confirmed a end = record { so = subst (λ (x : Option Stop). IsLeftAt x a.lines a.came (Some a.came)) (sym end) (let le : a.came ≤ a.came = omega arith in le) }

  is_broken : (issued confirmed : ℕ) (a : AccessView) (l : Left) → IsPartOfOutcome whole (ran l.ended a.asks l.written) → IsPartOfOutcome (outcome_with run a.came) (ran l.ended a.asks l.written)
      → s.IsBenchFault limits a.asks.calls a.came (entries a) issued confirmed (began first None) l.bench → IsBroken run issued confirmed l
  is_broken issued confirmed a l part short fault =
      let broken = fault.broken in
      let begun_within : broken.begun ≤ length (entries a) = (let high = broken.high in let within = broken.within in omega (arith, high, within)) in
      let count_within : broken.count ≤ broken.begun = count_begun (entries a) broken.count broken.begun (began first None) l.bench broken.target in
      let apart : confirmed ≤ issued = (let low = broken.low in let high = broken.high in let k = count_within in omega (arith, low, high, k)) in
      let share = shared_by a broken.begun part.calls fault.own begun_within in
      let both : Common (entries a) (entries_before_settling run) = in_common access.journal grows settles (target_of first.probe) a.asks.calls whole.calls (meets a.asks.calls whole part.calls) in
      let t0 : TargetState = target_of first.probe in
      let n : ℕ = grown_since (began first None) l.bench in
      record {
        came = a.came;
        count = broken.count;
        begun = broken.begun;
        front = is_front a broken.begun l part share;
        lines = short.written;
        low = broken.low;
        high = broken.high;
        near = near_by limits (entries a) issued confirmed apart broken.within broken.together;
        together = same_together limits (entries a) (entries_before_settling run) confirmed issued both broken.within broken.together;
        later = later_own access.journal grows settles t0 a.asks.calls whole.calls confirmed a.came (meets a.asks.calls whole part.calls) fault.asked (let within = broken.within in omega (arith, apart, within)) fault.later;
        good = passes_same t0 broken.begun (broken.begun - 1) (entries a) (all_entries run) (omega arith) share.same broken.good;
        least = work_least t0 (entries a) broken.count n broken.count_is (all_entries run) (first_same broken.count broken.begun (entries a) (all_entries run) count_within share.same);
        most = subst (λ (es : List Entry). n ≤ weight_in t0 es) share.same broken.up_to;
        part = λ less. subst (λ (es : List Entry). n < weight_in t0 es) share.same (work_less t0 (entries a) broken.count n broken.count_is broken.begun less begun_within);
        whole = λ ends.
            let few = covered_by a part.calls (few_asked a.asks.calls whole part.calls ends) in
            let long = ap length few.goes_on.joined ∙ length-append (entries a) few.goes_on.rest in
            (let within = broken.within in omega (arith, within, long));
        idle_cycles = broken.idle_cycles;
        target = part_shared (entries a) (all_entries run) broken.count broken.begun (began first None) l.bench share.same broken.target;
      }

  -- the entry that a stop names, and that its unit was asked
  record Names (a : AccessView) (r : Report) : Type 0 where
    entry : Entry
    at : slice_get (entries a) r.confirmed ≡ Some entry
    lines : lines_before entry ≡ a.lines
    asked : r.unit ≤ length a.asks.calls
    unit : r.unit ≤ a.lines + 1

  names : (a : AccessView) (r : Report) → HasNumbers (entries a) a.asks.calls a.skipped a.lines r → Names a r
  names a r numbers =
      let e = get_some r.confirmed (entries a) numbers.named in
      let lines : a.lines ≡ lines_before e.0 = ap (λ (n : StopNumbers). n.lines) numbers.numbers ∙ ap lines_at e.1 in
      let unit : r.unit ≡ e.0.unit = ap (λ (n : StopNumbers). n.unit) numbers.numbers ∙ ap unit_at e.1 in
      record {
        entry = e.0;
        at = e.1;
        lines = sym lines;
        asked = (let there = call_within a.asks.calls (r.unit - 1) r.what numbers.what in omega (arith, there));
        unit = (let high = unit_by_lines e.0 in omega (arith, lines, unit, high));
      }

  -- the first calls that were asked leave what the first calls of the whole outcome leave
  abbrev Reaches : AccessView → Type 0
  Reaches a = (n : ℕ) → n ≤ length a.asks.calls → n ≤ a.lines + 1 → (world_after (start_world (target_of first.probe) (Some n)) a.asks.calls).target ≡ (world_after (start_world (target_of first.probe) (Some n)) whole.calls).target

  has_stopped : (answered : Option ℕ) (o : Outcome) (a : AccessView) (r : Report) (l : Left) (calls : List Ask) → EndsAtCut r.cause a.lines o (ran l.ended a.asks l.written) → l.ended.skipped ≡ a.skipped
      → HasNumbers (entries a) a.asks.calls a.skipped a.lines r → HasMemory (target_of first.probe) a.asks.calls (units_made r.cause (entries a) r a.lines) a.lines l.bench → Reaches a
      → HasPerformed (entries a) r.accesses (began first answered) l.bench
      → grown_since (began first answered) l.bench ≤ weight_in (target_of first.probe) (take (r.confirmed + 1) (entries a)) → KeepsIdleCycles run l → r.accesses ≤ r.confirmed + 1
      → Meeting r (entries a) (entries_in run calls) → option_map (λ (x : Ask). x.call) (slice_get calls (r.unit - 1)) ≡ Some r.what
      → HasStopped run answered o calls a.lines r l
  has_stopped answered o a r l calls cut skipped numbers memory reaches performed up_to idle one meet what = record {
    stops = cut.stops;
    written = cut.written;
    numbers = subst (λ (n : ℕ). HasNumbers (entries_in run calls) calls n a.lines r) (sym skipped)
        (same_numbers r (entries a) (entries_in run calls) meet one a.asks.calls calls a.skipped a.lines numbers what);
    performed = same_made r (entries a) (entries_in run calls) meet one (began first answered) l.bench performed up_to;
    idle_cycles = idle;
    words =
        let n = units_made r.cause (entries a) r a.lines in
        memory.words ∙ ap (λ (t : TargetState). t.words) (reaches n memory.asked memory.few ∙ sym (short_target k (target_of first.probe) before n))
        ∙ ap (λ (m : ℕ). (outcome_with run m).target.words) (same_made_units r.cause r a.lines (entries a) (entries_in run calls) (same_first r (entries a) (entries_in run calls) meet one));
  }

  is_fault_stop : (a : AccessView) (r : Report) (l : Left) → r.cause ≡ Faulted → EndsAtCut r.cause a.lines whole (ran l.ended a.asks l.written) → l.ended.skipped ≡ a.skipped
      → s.IsFaulted (entries a) r a (began first None) l.bench → r.unit ≡ a.lines + 1 → HasMemory (target_of first.probe) a.asks.calls (units_made r.cause (entries a) r a.lines) a.lines l.bench → IsFaultStop run r l
  is_fault_stop a r l cause cut skipped at own memory =
      let n = names a r at.numbers in
      let units : length whole.calls ≡ a.lines + 1 = (subst (λ (c : StopCause). StopsAfter c a.lines whole) cause cut.stops).1 in
      let one : r.accesses ≤ r.confirmed + 1 = (let c = at.confirmed in omega (arith, c)) in
      let m = meets a.asks.calls whole cut.calls in
      let meet : Meeting r (entries a) (entries_in run (calls_in run)) =
      meeting access.journal grows settles (target_of first.probe) r a.asks.calls whole.calls whole.calls n.entry m (from_same whole.calls) n.at
      (let lines = n.lines in omega (arith, lines, units)) n.asked (let high = n.unit in omega (arith, units, high)) in
      let what = own_call a.asks.calls whole.calls whole.calls (r.unit - 1) r.what m (from_same whole.calls) (let high = n.unit in omega (arith, units, high)) at.numbers.what in
      record {
        lines = a.lines;
        stopped = has_stopped None whole a r l (calls_in run) cut skipped at.numbers memory (λ n few next. after_meets (target_of first.probe) n a.asks.calls whole.calls m few (omega (arith, next, units))) at.performed at.up_to at.idle_cycles one meet what;
        unit = own ∙ sym units;
        fault = same_fault r (entries a) (entries_in run (calls_in run)) meet one (target_of first.probe) at.first;
        confirmed = at.confirmed;
        retries = at.retries;
      }

  -- the outcome with so many units answered, by how it stops
  abbrev short : ℕ → Outcome
  short lines = outcome_with run lines

  retry_one : (r : Report) (m : BenchState) → r.accesses ≡ r.confirmed + one_if (pending_of m) → r.accesses ≤ r.confirmed + 1
  retry_one r m is = (let few = one_most (pending_of m) in omega (arith, is, few))

  -- a retry that ended, in the journal of the whole outcome's calls
  retry_in : (a : AccessView) (r : Report) (l : Left) → EndsAtCut r.cause a.lines (short a.lines) (ran l.ended a.asks l.written) → l.ended.skipped ≡ a.skipped
      → s.IsUnanswered (entries a) r a (began first (Some a.lines)) l.bench → Meeting r (entries a) (entries_in run (calls_in run))
      → option_map (λ (x : Ask). x.call) (slice_get (calls_in run) (r.unit - 1)) ≡ Some r.what → HasMemory (target_of first.probe) a.asks.calls (units_made r.cause (entries a) r a.lines) a.lines l.bench → Reaches a → IsRetryStop run r l
  retry_in a r l cut skipped at meet what memory reaches =
      let one = retry_one r l.bench at.confirmed in
      record {
        lines = a.lines;
        stopped = has_stopped (Some a.lines) (short a.lines) a r l (calls_in run) cut skipped at.numbers memory reaches at.performed at.up_to at.idle_cycles one meet what;
        confirmed = at.confirmed;
        retries = at.retries;
        over = at.over;
        number = subst (λ (es : List Entry). transfer_number_of l.bench + 2 * commands_in es ≤ transfer_number_of first + 2 * grown_since (began first (Some a.lines)) l.bench + 1)
            (same_first r (entries a) (entries_in run (calls_in run)) meet one) at.number;
      }

  -- where the next unit is not answered
  retry_short : (a : AccessView) (r : Report) (l : Left) → EndsAtCut r.cause a.lines (short a.lines) (ran l.ended a.asks l.written) → l.ended.skipped ≡ a.skipped
      → s.IsUnanswered (entries a) r a (began first (Some a.lines)) l.bench → HasMemory (target_of first.probe) a.asks.calls (units_made r.cause (entries a) r a.lines) a.lines l.bench
      → units_of (short a.lines) ≡ a.lines + 1 → GoesOnFrom (short a.lines).calls whole.calls → IsRetryStop run r l
  retry_short a r l cut skipped at memory units on =
      let n = names a r at.numbers in
      let m = meets a.asks.calls (short a.lines) cut.calls in
      retry_in a r l cut skipped at
      (meeting access.journal grows settles (target_of first.probe) r a.asks.calls (short a.lines).calls whole.calls n.entry m on n.at
      (let lines = n.lines in omega (arith, lines, units)) n.asked (let high = n.unit in omega (arith, units, high)))
      (own_call a.asks.calls (short a.lines).calls whole.calls (r.unit - 1) r.what m on (let high = n.unit in omega (arith, units, high)) at.numbers.what)
      memory
      (λ i few next. after_meets (target_of first.probe) i a.asks.calls (short a.lines).calls m few (omega (arith, next, units)) ∙ sym (after_from (target_of first.probe) i (short a.lines).calls whole.calls on (omega (arith, next, units))))

  -- where the outcome comes to its end
  retry_whole : (a : AccessView) (r : Report) (l : Left) → EndsAtCut r.cause a.lines (short a.lines) (ran l.ended a.asks l.written) → l.ended.skipped ≡ a.skipped
      → s.IsUnanswered (entries a) r a (began first (Some a.lines)) l.bench → HasMemory (target_of first.probe) a.asks.calls (units_made r.cause (entries a) r a.lines) a.lines l.bench
      → answers.EndsWhole (short a.lines).ending → short a.lines ≡ whole → IsRetryStop run r l
  retry_whole a r l cut skipped at memory ends same =
      let n = names a r at.numbers in
      let shares : SharesCalls a.asks.calls whole = subst (λ (o : Outcome). SharesCalls a.asks.calls o) same cut.calls in
      let fewer = few_asked a.asks.calls whole shares (subst (λ (o : Outcome). answers.EndsWhole o.ending) same ends) in
      let c = covered_by a shares fewer in
      retry_in a r l cut skipped at
      (covered access.journal grows settles (target_of first.probe) r a.asks.calls whole.calls c at.numbers.named n.asked)
      (c.same (r.unit - 1) r.what at.numbers.what)
      memory
      (λ i few next. after_meets (target_of first.probe) i a.asks.calls whole.calls (meets a.asks.calls whole shares) few (omega (arith, few, fewer)))

  is_retry_stop : (a : AccessView) (r : Report) (l : Left) → r.cause ≡ NoAnswer → EndsAtCut r.cause a.lines (short a.lines) (ran l.ended a.asks l.written) → l.ended.skipped ≡ a.skipped
      → s.IsUnanswered (entries a) r a (began first (Some a.lines)) l.bench → HasMemory (target_of first.probe) a.asks.calls (units_made r.cause (entries a) r a.lines) a.lines l.bench → IsRetryStop run r l
  is_retry_stop a r l cause cut skipped at memory = by_limit (limits_followed k.sequel a.lines k.program (target_of first.probe) before) (subst (λ (c : StopCause). StopsAfter c a.lines (short a.lines)) cause cut.stops)
    where
      by_limit : laws.OutcomeIsWhole a.lines whole (short a.lines) ⊎ OutcomeIsCutShort a.lines whole (short a.lines) → StopsAfter NoAnswer a.lines (short a.lines) → IsRetryStop run r l
      by_limit (inl h) (inl stops) =
          let units = ap units_of h.same in let few = h.units in let many = stops.1 in absurd (omega (arith, units, few, many))
      by_limit (inl h) (inr stops) = retry_whole a r l cut skipped at memory stops.0 h.same
      by_limit (inr h) (inl stops) = retry_short a r l cut skipped at memory stops.1 h.calls
      by_limit (inr h) (inr stops) = absurd (subst answers.EndsWhole h.ending stops.0)

  -- by the cause
  is_stop : (cause : StopCause) (a : AccessView) (r : Report) (l : Left) → cause ≡ r.cause
      → EndsAtCut r.cause a.lines (followed.outcome_in_world (world_from first (answered_cut cause a.lines)) k before) (ran l.ended a.asks l.written) → l.ended.skipped ≡ a.skipped
      → s.IsCutBy cause (entries a) r a (began first (answered_cut cause a.lines)) l.bench → (r.cause ≡ Faulted → r.unit ≡ a.lines + 1)
      → HasMemory (target_of first.probe) a.asks.calls (units_made r.cause (entries a) r a.lines) a.lines l.bench → IsStop cause run r l
  is_stop Faulted a r l is cut skipped at own memory = is_fault_stop a r l (sym is) cut skipped at (own (sym is)) memory
  is_stop NoAnswer a r l is cut skipped at own memory = is_retry_stop a r l (sym is) cut skipped at memory

  -- what is known of the packets of an access
  pub record SendsFew (ending : Ending) (a : AccessView) : Type 0 where
    pub limits_are : a.bench.limits ≡ limits
    pub opening : first.starting ≡ 0
    pub points : is_none k.sequel ≡ true → HasRunNeeds ending a
    pub bounds : KeepsBoundsIf access.is_sparing (entries a) a (began first (answered_by a))

  -- What a run leaves, by how it ended.
  pub leaves : (ending : Ending) (a : AccessView) (l : Left) → EndBy ending a.end → l.ended.skipped ≡ a.skipped → a.state ≡ Some l.bench → SendsFew ending a
      → RunEndsAs ending a.lines (followed.outcome_in_world (world_from first (answered_by a)) k before) (ran l.ended a.asks l.written)
      → IsPartThere ending a l → AccessStands access.journal a (began first (answered_by a)) → LeavesAs ending run l
  leaves e.Done a l end skipped seen few ends parts stands =
      let so = ends_at e.Done k a first before (ran l.ended a.asks l.written) None end ends in (
        so.0,
        is_whole a l so.1 (stands_at access.journal a first l.bench None end seen stands)
            (few_if access.is_sparing (is_none k.sequel) (answered_by a) a l end seen few.limits_are few.opening so.1.calls (λ none. counted_needs a (all_needs e.Done a end (few.points none))) few.bounds),
      )
  leaves (e.Halted cause) a l end skipped seen few ends parts stands =
      let so = ends_at (e.Halted cause) k a first before (ran l.ended a.asks l.written) None end ends in (
        so.0,
        is_whole a l so.1 (stands_at access.journal a first l.bench None end seen stands)
            (few_if access.is_sparing (is_none k.sequel) (answered_by a) a l end seen few.limits_are few.opening so.1.calls (λ none. counted_needs a (all_needs (e.Halted cause) a end (few.points none))) few.bounds),
      )
  leaves (e.Cut r) a l end skipped seen few ends parts stands =
      let at : s.StandsAtCut (entries a) r a (began first (answered_cut r.cause a.lines)) l.bench = stands_at access.journal a first l.bench (Some (stop.Cut r)) end seen stands in
      is_stop r.cause a r l refl (ends_at (e.Cut r) k a first before (ran l.ended a.asks l.written) (Some (stop.Cut r)) end ends) skipped at.stands at.own at.memory
  leaves (e.BenchFault issued confirmed) a l end skipped seen few ends parts stands =
      is_broken issued confirmed a l (ends_at (e.BenchFault issued confirmed) k a first before (ran l.ended a.asks l.written) (Some (stop.BenchFault issued confirmed)) end ends)
      (parts (Some a.came) (came_left issued confirmed a end) (λ never. never))
      (subst (λ (x : Limits). s.IsBenchFault x a.asks.calls a.came (entries a) issued confirmed (began first None) l.bench) few.limits_are
      (stands_at access.journal a first l.bench (Some (stop.BenchFault issued confirmed)) end seen stands))
  leaves e.ReplyBad a l end skipped seen few ends parts stands = stands_at access.journal a first l.bench (Some stop.ReplyBad) end seen stands
  leaves e.WriteFault a l end skipped seen few ends parts stands =
      is_left_off a l (ends_at e.WriteFault k a first before (ran l.ended a.asks l.written) None end ends) (stands_at access.journal a first l.bench None end seen stands)
  leaves e.OutOfMemory a l end skipped seen few ends parts stands =
      is_left_off a l (ends_at e.OutOfMemory k a first before (ran l.ended a.asks l.written) None end ends) (stands_at access.journal a first l.bench None end seen stands)

-- what was known before is known, or nothing is
pub known_by : (old new : Option (List ℕ)) → (known : Bool) × Knows known old × (known_part known old ≡ old) × (known_part known new ≡ known_after old new)
known_by None new = (false, tt, refl, refl)
known_by (Some old) new = (true, refl, refl, refl)

-- an observable bench stays so
pub still_seen : (step : BenchState → BenchState → Type 0) (m : BenchState) (old new : Option BenchState) → old ≡ Some m → StepsTo step old new → (n : BenchState) × (new ≡ Some n) × step m n
still_seen step m old new is goes = by_new new (subst (λ (o : Option BenchState). StepsTo step o new) is goes)
  where
    by_new : (o : Option BenchState) → StepsTo step (Some m) o → (n : BenchState) × (o ≡ Some n) × step m n
    by_new None h = absurd h
    by_new (Some n) h = (n, refl, h)

unopened : (s : Stop) (old new : Seen) (sent got : List ℕ) (job : BenchJob) → old.state ≡ Some (fresh job) → MayBegin (fresh job) → RefusedBy s old new sent got → IsUnopened (ending_of s)
unopened (stop.Cut r) old new sent got job is may h = absurd h
unopened (stop.BenchFault issued confirmed) old new sent got job is may h = (h.0, h.1)
unopened stop.ReplyBad old new sent got job is may h = absurd (let seen = still_seen (λ m n. MayBegin m → ⊥) (fresh job) old.state new.state is h.2 in seen.2 may)
unopened stop.OutOfMemory old new sent got job is may h = tt

tried_work : (config : Config) (job : BenchJob) (n : BenchState) → HasTried config (fresh job) n → work_of n.probe ≡ 0
tried_work config job n (inl same) = ap (λ (e : ExecutorState). e.transfers.work) same
tried_work config job n (inr set) = ap (λ (e : ExecutorState). e.transfers.work) set

tried_target : (config : Config) (job : BenchJob) (n : BenchState) → HasTried config (fresh job) n → Agree (target_of n.probe) (start job.target)
tried_target config job n (inl same) = subst (λ (t : TargetState). Agree t (start job.target)) (sym (ap (λ (e : ExecutorState). e.transfers.line.target) same)) (record { same = refl })
tried_target config job n (inr set) = subst (λ (t : TargetState). Agree t (start job.target)) (sym (ap (λ (e : ExecutorState). e.transfers.line.target) set)) (record { same = refl })

-- an access that did not begin
pub not_begun : (access : AccessKind) (config : Config) (job : BenchJob) (k : Task) (before : Option (List ℕ)) (s : Stop) (old new : Seen) (sent got : List ℕ) (ended : Ended) (after : Option (List ℕ))
    → old.state ≡ Some (fresh job) → MayBegin (fresh job) → IsNotBegun config old new s sent got → ended.ending ≡ ending_of s → after ≡ before
    → (n : BenchState) × (new.state ≡ Some n) × JobComesTo access config job k before (record { ended = ended; written = after; bench = n })
not_begun access config job k before s old new sent got ended after is may h ending same =
    let seen = still_seen (λ m n. MayBegin m → HasTried config m n) (fresh job) old.state new.state is h.tried in
    let tried : HasTried config (fresh job) seen.0 = seen.2 may in
    let so : IsNotOpened config job before (record { ended = ended; written = after; bench = seen.0 }) = record {
      ending = subst (λ (x : Ending). IsUnopened x) (sym ending) (unopened s old new sent got job is may h.cause);
      written = same;
      tried = tried;
      work = tried_work config job seen.0 tried;
      target = tried_target config job seen.0 tried;
    } in
    (seen.0, seen.1, not_opened so)

-- an access that is known to stand somewhere has an observable bench
where_seen : (o : Option BenchState) (P : BenchState → Type 0) → WhereObservable o P → (n : BenchState) × (o ≡ Some n)
where_seen None P h = absurd h
where_seen (Some n) P h = (n, refl)

-- what a run answers, by what was known before
abbrev EndsOf : Task → BenchState → AccessView → Ended → Option (List ℕ) → Option (List ℕ) → Type 0
EndsOf k first a ended before after = RunEndsAs ended.ending a.lines (followed.outcome_in_world (world_from first (answered_by a)) k before) (ran ended a.asks after)

-- what it wrote in a world that is left
abbrev PartOf : Task → BenchState → Option ℕ → AccessView → Ended → Option (List ℕ) → Option (List ℕ) → Type 0
PartOf k first n a ended before after = IsPartOfOutcome (followed.outcome_in_world (world_from first n) k before) (ran ended a.asks after)

-- where it began
abbrev began_at : Config → BenchJob → BenchState
began_at config job = opened_bench config (fresh job)

-- a run over an access that began
pub opened_run : (access : AccessKind) → JournalGoesOn access.journal → JournalSettles access.journal → (config : Config) (job : BenchJob) (k : Task) (before mid : Option (List ℕ)) (a : AccessView) (ended : Ended)
    → (AccessStands access.journal a (began (began_at config job) (answered_by a))
    × ((known : Bool) → Knows known before → EndsOf k (began_at config job) a ended (known_part known before) (known_part known mid))
    × ((known : Bool) → Knows known before → is_none k.sequel ≡ true → HasNeeds ended.ending a.asks (late_meaning access.cost (world_from (began_at config job) (answered_by a)) k.program (known_part known before)))
    × KeepsBoundsIf access.is_sparing (access.journal (target_of (began_at config job).probe) a.asks.calls) a (began (began_at config job) (answered_by a))
    × ((n : Option ℕ) (known : Bool) → IsLeft a n → Knows known before → (ComesToEnd ended.ending → ⊥) → PartOf k (began_at config job) n a ended (known_part known before) (known_part known mid)))
    → EndBy ended.ending a.end → ended.skipped ≡ a.skipped → a.bench.limits ≡ job.limits
    → (n : BenchState) × (a.state ≡ Some n) × JobComesTo access config job k before (record { ended = ended; written = known_after before mid; bench = n })
opened_run access grows settles config job k before mid a ended h end skipped limits_are =
    let first : BenchState = began_at config job in
    let seen = where_seen a.state (λ m. StandsAt a.end (access.journal (target_of first.probe) a.asks.calls) a (began first (answered_by a)) m) h.0 in
    let known = known_by before mid in
    let ends : EndsOf k first a ended before (known_after before mid) =
    subst (λ (x : Option (List ℕ)). EndsOf k first a ended before x) known.3
    (subst (λ (x : Option (List ℕ)). EndsOf k first a ended x (known_part known.0 mid)) known.2 (h.1 known.0 known.1)) in
    let parts = λ (n : Option ℕ) (left : IsLeft a n) (never : ComesToEnd ended.ending → ⊥). subst (λ (x : Option (List ℕ)). PartOf k first n a ended before x) known.3
    (subst (λ (x : Option (List ℕ)). PartOf k first n a ended x (known_part known.0 mid)) known.2 (h.4 n known.0 left known.1 never)) in
    let points = λ (none : is_none k.sequel ≡ true). subst (λ (x : Option (List ℕ)). HasNeeds ended.ending a.asks (late_meaning access.cost (world_from first (answered_by a)) k.program x)) known.2 (h.2 known.0 known.1 none) in
    let few : SendsFew access grows settles job.limits k first before ended.ending a = record { limits_are = limits_are; opening = refl; points = points; bounds = h.3 } in (
      seen.0,
      seen.1,
      opened (leaves access grows settles job.limits k first before ended.ending a (record { ended = ended; written = known_after before mid; bench = seen.0 }) end skipped seen.1 few ends parts h.0),
    )

-- nothing was written
pub nothing_written : (w : Option (List ℕ)) → known_after w w ≡ w
nothing_written None = refl
nothing_written (Some xs) = refl
