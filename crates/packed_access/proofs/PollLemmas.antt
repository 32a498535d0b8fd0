-- A poll as the last call.
use Rattle.std.proofs.Common.{◌≡◌, ◌∙◌, ℕ, ◌+◌, ◌-◌, ◌≤◌, Bool, true, false, cond, List, [], ◌∷◌, ◌++◌, length, take, Option, Some, None, refl, sym, ap, subst, arith, length-append}
use Rattle.std.proofs.Math.Seq.{take-append_seam}
use Rattle.std.proofs.lemmas.Bool.{eqb-true}
use Rattle.std.proofs.lemmas.Nat.{and_assoc}
use Rattle.std.specs.Prelude.{bit_and, is_some, slice_get}
use Rattle.std.proofs.Math.Bool.{and-false}
use Rattle.target_machine.specs.Attempt.{bank}
use Rattle.dap_transfer.specs.State.{Setting}
use Rattle.bench_flights.specs.Flown.{CanMatch, IsSetTo}
use Rattle.target_machine.specs.Plain.{Action, Polls, call_done, poll_result, result_of}
use Rattle.target_machine.specs.Registers.{dpbanksel, select_stored}
use Rattle.target_machine.specs.State.{TargetState}
use Rattle.target_machine.specs.declared.unit.Call.{Call}
use Rattle.target_machine.specs.declared.unit.Call.TheVariants.{Access}
use Rattle.target_machine.specs.declared.unit.Unit.TheVariants as unit
use Rattle.target_machine.specs.declared.access.RegAccess.{RegAccess}
use Rattle.probe_core.specs.Bench.{BenchState, StepsTo}
use Rattle.probe_core.specs.Bench.{Reported as BenchReported}
use Rattle.probe_core.specs.Probe.{target_of}
use Rattle.target_calls.specs.Asks.{AreAskable, is_forgiving, is_settled}
use Rattle.target_calls.specs.Journal.{Entry, Passes, target_after}
use Rattle.target_calls.specs.NeedPoints.{Cost, asks_with_call, needed_more}
use Rattle.target_calls.specs.World.{World, small_after, small_now, stop, world_after}
use Rattle.target_calls.specs.declared.calls.Ask.{Ask}
use Rattle.target_calls.specs.declared.journal.Part.TheVariants.{Ends}
use Rattle.access_regs.specs.Alone.{NoneFaults}
use Rattle.access_regs.specs.Costs.{call_cost, cost_by, leading_reads, poll_cost, portions}
use Rattle.access_regs.specs.Entries.{kept_by, target_by}
use Rattle.access_regs.specs.Journal.{Issue, after_settling, alone_at, by_cfg, issue, issue_of, issued_entries, numbered_entries, issue_of_plan}
use Rattle.access_regs.specs.Kept.{Kept}
use Rattle.access_regs.specs.Plan.{bank_zero, bank_zero_of}
use Rattle.access_regs.proofs.AllCalls.{journal_follows}
use Rattle.access_regs.proofs.EntryLemmas.{journal_grows, askable_first}
use Rattle.access_regs.proofs.StopLists.{passing_stops}
use Rattle.access_calls.specs.Issued.{kept_of}
use Rattle.access_calls.specs.Standing.{WhereObservable}
use Rattle.batch_packer.specs.Flying.{CanFly}
use Rattle.flight_laws.specs.Sending.{IsSending}
use Rattle.flight_laws.proofs.SmallLemmas.{not_small}
use Rattle.packed_access.specs.Actions.{entry_of_call, log_done}
use Rattle.packed_access.specs.Begun.{HasBegun, HasIssued, IsIssuing, LogHasAsked, entries_for_call, most_weight}
use Rattle.packed_access.specs.Logs.{LogState, asks_of, result_for, with_needs}
use Rattle.packed_access.specs.Sparing.{managed_points}
use Rattle.packed_access.specs.Polls.{HasPoll}
use Rattle.packed_access.proofs.ActionLemmas.{at_rest}
use Rattle.packed_access.proofs.AskLemmas.{asked_calm}
use Rattle.packed_access.proofs.BegunLemmas.{issued_begun}
use Rattle.packed_access.proofs.CommandLemmas.{last_there}
use Rattle.packed_access.proofs.NeedLemmas.{needs_more}
use Rattle.access_regs.specs.declared.planner.Planner.{Planner}
use Rattle.access_regs.specs.declared.planner.Planner.TheVariants.{Managed, Plain}
use Rattle.access_regs.specs.Journal.{is_alone}
use Rattle.access_regs.proofs.LightLemmas.{polled_few}

-- ---- what a poll issues, and what is known after it

poll_planned : (t : TargetState) (k : Kept) (mask requested turns : ℕ) → issue_of_plan t k (unit.Poll mask requested turns) ≡ record { steps = record { part = Ends; action = Polls mask requested turns } ∷ []; kept = k }
poll_planned t k mask requested turns = ap (λ (b : Bool). cond b (after_settling t k (λ u l. by_cfg u l (unit.Poll mask requested turns))) (by_cfg t k (unit.Poll mask requested turns))) (and-false (is_some k.unsettled))

pub poll_issue : (p : Planner) (t : TargetState) (k : Kept) (forgive : Bool) (mask requested turns : ℕ) → issue p t k forgive (Access (unit.Poll mask requested turns)) ≡ record { steps = record { part = Ends; action = Polls mask requested turns } ∷ []; kept = k }
poll_issue p t k forgive mask requested turns =
    ap (λ (b : Bool). cond b (after_settling t k (alone_at forgive (unit.Poll mask requested turns))) (issue_of_plan t k (unit.Poll mask requested turns))) (and-false (is_alone p forgive))
    ∙ poll_planned t k mask requested turns

pub poll_issue_of : (p : Planner) (t : TargetState) (k : Kept) (ask : Ask) (mask requested turns : ℕ) → ask.call ≡ Access (unit.Poll mask requested turns) → issue_of p t k ask ≡ record { steps = record { part = Ends; action = Polls mask requested turns } ∷ []; kept = k }
poll_issue_of p t k ask mask requested turns call = ap (issue p t k ask.forgive) call ∙ poll_issue p t k ask.forgive mask requested turns

pub poll_mild : (ask : Ask) (mask requested turns : ℕ) → ask.call ≡ Access (unit.Poll mask requested turns) → is_forgiving ask ≡ false
poll_mild ask mask requested turns call = ap (λ (c : Call). is_forgiving (record ask { call = c })) call ∙ and-false ask.forgive

pub poll_entries : (p : Planner) (t : TargetState) (calls : List Ask) (k : Kept) (ask : Ask) (mask requested turns : ℕ) → ask.call ≡ Access (unit.Poll mask requested turns) → entries_for_call p t calls k ask ≡ entry_of_call calls (Polls mask requested turns) ∷ []
poll_entries p t calls k ask mask requested turns call =
    (λ j. numbered_entries (length calls) (poll_mild ask mask requested turns call j) (poll_issue_of p (target_by p t calls) k ask mask requested turns call j).steps)

-- it never ends because its AP has no large addresses
small_here : (x : Option ℕ) (w : World) (forgive settled : Bool) (mask requested turns : ℕ) → small_after x w (record { call = Access (unit.Poll mask requested turns); forgive = forgive; settled = settled }) ≡ false
unfolding call_done
small_here None w forgive settled mask requested turns = not_small _ _ false _ _ _ _ refl
small_here (Some n) w forgive settled mask requested turns = refl

pub poll_not_small : (w : World) (calls : List Ask) (ask : Ask) (mask requested turns : ℕ) → ask.call ≡ Access (unit.Poll mask requested turns) → small_now w calls ask ≡ false
poll_not_small w calls ask mask requested turns call =
    ap (λ (c : Call). small_after (stop w calls) (world_after w calls) (record { call = c; forgive = ask.forgive; settled = ask.settled })) call ∙ small_here (stop w calls) (world_after w calls) ask.forgive ask.settled mask requested turns

-- ---- how much it weighs

pub poll_light : (turns mask requested : ℕ) (t : TargetState) → turns ≤ 60000000 → (poll_result turns mask requested t).reads ≤ most_weight
poll_light turns mask requested t few = (let r = polled_few turns mask requested t in omega (arith, r, few))

-- ---- what is kept after it

pub asked_log : (log new : LogState) (calls : List Ask) (ask : Ask) (x : Action) (word : ℕ) → log.calls ≡ calls ++ ask ∷ [] → log.came ≡ length calls →
    new ≡ log_done log (record { unit = length log.calls; part = Ends }) log.came (result_for (slice_get log.calls log.came) word) →
    new ≡ log_done log (kept_of (entry_of_call calls x)) (length calls) (result_of ask.call word)
asked_log log new calls ask x word are came is =
    let count : length log.calls ≡ length calls + 1 = ap length are ∙ length-append calls (ask ∷ []) in
    let there : slice_get log.calls log.came ≡ Some ask = (λ j. slice_get (are j) (came j)) ∙ last_there calls ask in
    is ∙ (λ j. log_done log (record { unit = count j; part = Ends }) (came j) (result_for (there j) word))

-- ---- DPBANKSEL before it

masked_zero : (v select : ℕ) → select ≡ bit_and v select_stored → bit_and v dpbanksel ≡ 0 → bit_and select dpbanksel ≡ 0
masked_zero v select is zeros = ap (λ (n : ℕ). bit_and n dpbanksel) is ∙ and_assoc dpbanksel v select_stored ∙ zeros

bank_known : (x : Option ℕ) (select : ℕ) → ((v : ℕ) → x ≡ Some v → select ≡ bit_and v select_stored) → bank_zero_of x ≡ true → bit_and select dpbanksel ≡ 0
bank_known None select known zeros = absurd (cc)
bank_known (Some v) select known zeros = masked_zero v select (known v refl) (eqb-true (bit_and v dpbanksel) 0 zeros)

module _ (p : Planner) (log : LogState) (kept : Kept) (calls : List Ask) (ask : Ask) (mask requested turns : ℕ) (m0 m : BenchState) (h : IsIssuing p log [] (entry_of_call calls (Polls mask requested turns) ∷ []) m0 m) (are : log.calls ≡ calls ++ ask ∷ [])
    (call : ask.call ≡ Access (unit.Poll mask requested turns)) (unmarked : ask.settled ≡ false) (kept_is : kept_by p (target_of m0.probe) calls ≡ kept) where
  abbrev t0 : TargetState
  t0 = target_of m0.probe

  rest_is : IsSending p log.calls log.confirmed log.came [] (entry_of_call calls (Polls mask requested turns) ∷ []) [] (take log.known log.results) m0 m
  rest_is = at_rest p log (entry_of_call calls (Polls mask requested turns) ∷ []) m0 m h

  grown : issued_entries p t0 log.calls ≡ issued_entries p t0 calls ++ entry_of_call calls (Polls mask requested turns) ∷ []
  grown =
      ap (issued_entries p t0) are ∙ (journal_grows p t0 calls ask unmarked).0
      ∙ ap (λ (l : List Entry). issued_entries p t0 calls ++ l) (poll_entries p t0 calls (kept_by p t0 calls) ask mask requested turns call)

  same_count : length rest_is.made ≡ length (issued_entries p t0 calls)
  same_count =
      let a = ap length rest_is.on.are in
      let b = length-append rest_is.made (entry_of_call calls (Polls mask requested turns) ∷ []) in
      let c = ap length grown in
      let d = length-append (issued_entries p t0 calls) (entry_of_call calls (Polls mask requested turns) ∷ []) in
      omega (arith, a, b, c, d)

  made_is : rest_is.made ≡ issued_entries p t0 calls
  made_is =
      sym (take-append_seam rest_is.made (entry_of_call calls (Polls mask requested turns) ∷ []))
      ∙ (λ j. take (same_count j) ((sym rest_is.on.are ∙ grown) j))
      ∙ take-append_seam (issued_entries p t0 calls) (entry_of_call calls (Polls mask requested turns) ∷ [])

  pub target_there : target_of m.probe ≡ target_by p t0 calls
  target_there = rest_is.on.target ∙ ap (target_after t0) made_is

  none : NoneFaults t0 [] calls
  none = (passing_stops p t0 calls h.sending.fresh (askable_first calls (ask ∷ []) (subst AreAskable are h.sending.askable)) (subst (Passes t0) made_is rest_is.on.passes)).none

  pub bank_there : bank_zero kept ≡ true → bank (target_of m.probe) ≡ 0
  bank_there zeros =
      let f = journal_follows p t0 calls h.sending.fresh (askable_first calls (ask ∷ []) (subst AreAskable are h.sending.askable)) none in
      ap bank (target_there ∙ f.rest)
      ∙ bank_known kept.select _ (λ v is. f.select v (ap (λ (k : Kept). k.select) kept_is ∙ is)) zeros

-- ---- where the bench is observable

pub step_with : (x y : Option BenchState) (Q : BenchState → Type 0) (P R : BenchState → BenchState → Type 0) → WhereObservable x Q → StepsTo P x y → ((m o : BenchState) → Q m → P m o → R m o) → StepsTo R x y
step_with None y Q P R h s f = absurd h
step_with (Some m) None Q P R h s f = s
step_with (Some m) (Some o) Q P R h s f = f m o h s

fact_with : (x y : Option BenchState) (Q : BenchState → Type 0) (P : BenchState → BenchState → Type 0) (A : Type 0) → WhereObservable x Q → StepsTo P x y → ((m o : BenchState) → Q m → P m o → A) → A
fact_with None y Q P A h s f = absurd h
fact_with (Some m) None Q P A h s f = absurd s
fact_with (Some m) (Some o) Q P A h s f = f m o h s

module _ (p : Planner) (x y : Option BenchState) (log : LogState) (kept : Kept) (calls : List Ask) (ask : Ask) (mask requested turns idle retry : ℕ) (m0 : BenchState) (h : HasPoll p x log kept calls ask mask requested turns idle retry m0) (zero_is : Bool) where
  -- what is so where DPBANKSEL is 0 is so
  pub poll_steps : (zero_is ≡ true → bank_zero kept ≡ true) → (R : BenchState → BenchState → Type 0) → StepsTo (λ m o. CanFly m → (zero_is ≡ true → CanMatch idle retry m) → R m o) x y → StepsTo (λ m o. CanFly m → R m o) x y
  poll_steps by R s =
      step_with x y (λ m. IsIssuing p log [] (entry_of_call calls (Polls mask requested turns) ∷ []) m0 m) (λ m o. CanFly m → (zero_is ≡ true → CanMatch idle retry m) → R m o) (λ m o. CanFly m → R m o) h.issued.so s
      (λ m o i part_is fly. part_is fly (λ is. record {
        bank_zero = bank_there p log kept calls ask mask requested turns m0 m i h.are h.call h.unmarked h.kept_is (by is);
        set = record { idle_is = i.sending.on.idle_cycles ∙ h.set.idle_is; retry_is = ap (λ (s : Setting). s.retry) i.sending.on.setting ∙ h.set.retry_is };
      }))

  pub poll_points : zero_is ≡ bank_zero kept → (points : ℕ) → StepsTo (λ m o. CanFly m → points ≡ 1 + cond zero_is (portions turns) (poll_result turns mask requested (target_of m.probe)).reads) x y → points ≡ poll_cost kept (target_by p (target_of m0.probe) calls) mask requested turns
  poll_points by points s =
      fact_with x y (λ m. IsIssuing p log [] (entry_of_call calls (Polls mask requested turns) ∷ []) m0 m) (λ m o. CanFly m → points ≡ 1 + cond zero_is (portions turns) (poll_result turns mask requested (target_of m.probe)).reads) _ h.issued.so s
      (λ m o i part_is. part_is i.flies ∙ (λ j. 1 + cond (by j) (portions turns) (poll_result turns mask requested (target_there p log kept calls ask mask requested turns m0 m i h.are h.call h.unmarked h.kept_is j)).reads))

-- ---- need points

poll_before : (p : Planner) (t : TargetState) (calls : List Ask) (ask : Ask) (mask requested turns : ℕ) → ask.call ≡ Access (unit.Poll mask requested turns) → leading_reads (issue_of p (target_by p t calls) (kept_by p t calls) ask).steps ≡ 0
poll_before p t calls ask mask requested turns call = ap (λ (i : Issue). leading_reads i.steps) (poll_issue_of p (target_by p t calls) (kept_by p t calls) ask mask requested turns call)

poll_cost_is : (p : Planner) (t : TargetState) (calls : List Ask) (ask : Ask) (mask requested turns points : ℕ) → ask.call ≡ Access (unit.Poll mask requested turns) → (p ≡ Managed → points ≡ poll_cost (kept_by p t calls) (target_by p t calls) mask requested turns) →
    cost_by p t calls ask ≡ record { before = 0; after = managed_points p points }
poll_cost_is Managed t calls ask mask requested turns points call points_are =
    (λ j. record { before = poll_before Managed t calls ask mask requested turns call j; after = cond (poll_mild ask mask requested turns call j) 5 (call_cost (kept_by Managed t calls) (target_by Managed t calls) (call j)) })
    ∙ ap (λ (n : ℕ). record { before = 0; after = n }) (sym (points_are refl))
poll_cost_is Plain t calls ask mask requested turns points call points_are = refl

pub poll_needs : (p : Planner) (t : TargetState) (calls : List Ask) (ask : Ask) (mask requested turns found points count needs fence : ℕ) (log new : LogState) → ask.call ≡ Access (unit.Poll mask requested turns) →
    (p ≡ Managed → found ≡ poll_cost (kept_by p t calls) (target_by p t calls) mask requested turns) → points ≡ managed_points p found → new ≡ with_needs log points count → count ≡ length log.calls → asks_of log ≡ record { calls = calls ++ ask ∷ []; needs = needs; fence = fence } →
    asks_of new ≡ asks_with_call (cost_by p t calls ask) ask (record { calls = calls; needs = needs; fence = fence })
poll_needs p t calls ask mask requested turns found points count needs fence log new call found_is points_are is at asks =
    ap asks_of is ∙ (λ j. asks_of (with_needs log (points_are j) (at j))) ∙ needs_more log (managed_points p found) ∙ ap (needed_more (managed_points p found)) asks
    ∙ ap (λ (c : Cost). asks_with_call c ask (record { calls = calls; needs = needs; fence = fence })) (sym (poll_cost_is p t calls ask mask requested turns found call found_is))

-- ---- between two calls

-- all that was asked before is sent
pub asked_poll : (p : Planner) (x y : Option BenchState) (log mid : LogState) (accesses : List RegAccess) (kept kept' : Kept) (calls : List Ask) (ask : Ask) (mask requested turns idle retry : ℕ) (m0 : BenchState) → IsSetTo idle retry m0 → ask.call ≡ Access (unit.Poll mask requested turns) → LogHasAsked p x log accesses kept calls ask m0 →
    HasIssued p y mid [] (entries_for_call p (target_of m0.probe) calls kept ask) m0 → mid.calls ≡ log.calls → kept' ≡ kept → HasPoll p y mid kept' calls ask mask requested turns idle retry m0
asked_poll p x y log mid accesses kept kept' calls ask mask requested turns idle retry m0 set call h there same kept_is = record {
  are = same ∙ h.are;
  call = call;
  unmarked = h.unmarked;
  kept_is = h.kept_is ∙ sym kept_is;
  issued = subst (λ (rest : List Entry). HasIssued p y mid [] rest m0) (poll_entries p (target_of m0.probe) calls kept ask mask requested turns call) there;
  set = set;
}

-- the poll is made
pub begun_polled : (p : Planner) (bench : BenchReported) (x y : Option BenchState) (log new : LogState) (sent got : List ℕ) (kept kept' : Kept) (accesses : List RegAccess) (calls : List Ask) (ask : Ask) (mask requested turns idle retry : ℕ) (m0 : BenchState) → HasPoll p x log kept calls ask mask requested turns idle retry m0 →
    HasIssued p y new [] [] m0 → new.calls ≡ log.calls → new.end ≡ None → new.whole ≡ length new.calls → kept' ≡ kept → accesses ≡ [] → HasBegun p bench y new sent got kept' accesses m0
begun_polled p bench x y log new sent got kept kept' accesses calls ask mask requested turns idle retry m0 h there same none whole kept_is empty =
    subst (λ (xs : List RegAccess). HasBegun p bench y new sent got kept' xs m0) (sym empty)
    (issued_begun p bench y new sent got kept' [] m0 there none whole
    (ap (kept_by p (target_of m0.probe)) (same ∙ h.are) ∙ (journal_grows p (target_of m0.probe) calls ask h.unmarked).1
    ∙ ap (λ (i : Issue). i.kept) (poll_issue_of p (target_by p (target_of m0.probe) calls) (kept_by p (target_of m0.probe) calls) ask mask requested turns h.call) ∙ h.kept_is ∙ sym kept_is)
    (λ settled. absurd (asked_calm calls ask h.unmarked (subst (λ (l : List Ask). is_settled l ≡ true) (same ∙ h.are) settled))))
