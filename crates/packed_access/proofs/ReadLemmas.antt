-- The value of a read that ends a flight.
use Rattle.std.proofs.Common.{◌≡◌, ◌∙◌, ℕ, ◌+◌, ◌-◌, ◌<◌, ◌≤◌, Bool, true, false, not, ◌&&◌, List, [], ◌∷◌, ◌++◌, length, map, take, Option, Some, None, refl, sym, ap, subst, arith, append-nil, append_assoc, length-append}
use Rattle.std.proofs.Math.Seq.{take-append_seam}
use Rattle.std.proofs.lemmas.List.{map-append, length-map}
use Rattle.std.specs.Option.{unwrap_or}
use Rattle.target_machine.specs.Lists.{after}
use Rattle.target_machine.specs.Plain.{Makes, action_attempt, given_number, is_fault}
use Rattle.target_machine.specs.State.{TargetState}
use Rattle.target_machine.specs.declared.access.RegAccess.{RegAccess}
use Rattle.probe_core.specs.Bench.{BenchState, StepsTo}
use Rattle.probe_core.specs.Probe.{target_of}
use Rattle.target_calls.specs.Journal.{Entry, Passes, actions_in, target_after}
use Rattle.target_calls.specs.declared.journal.Part.{Part}
use Rattle.target_calls.proofs.EntryLemmas.{pass_rest}
use Rattle.access_regs.specs.Entries.{NoneFault}
use Rattle.access_regs.specs.Journal.{gives, issued_entries, making}
use Rattle.access_regs.proofs.Seams.{after_split}
use Rattle.access_calls.specs.Standing.{WhereObservable}
use Rattle.batch_packer.specs.Flying.{CanFly}
use Rattle.batch_packer.specs.SlotList.{slot_at}
use Rattle.flight_laws.proofs.PushLemmas.{plan_gives}
use Rattle.packed_access.specs.Begun.{HasIssued, IsIssuing, strict_entries, target_issued}
use Rattle.bench_flights.specs.Flown.{HasCome}
use Rattle.packed_access.specs.Logs.{LogState}
use Rattle.packed_access.proofs.SlotLemmas.{slot_gives}
use Rattle.access_regs.specs.declared.planner.Planner.{Planner}

-- ---- the last access of a flight

last_there : (p : Planner) (log : LogState) (accesses : List RegAccess) (rest : List Entry) (values : List (Option ℕ)) (m0 m o : BenchState) (front : List Entry) (e : Entry) (more : List Entry) → IsIssuing p log accesses rest m0 m → HasCome accesses values m o →
    issued_entries p (target_of m0.probe) log.calls ≡ front ++ e ∷ more → length front + 1 ≡ length log.entries → log.confirmed < length log.entries →
    unwrap_or (slot_at values (length log.entries - log.confirmed - 1)) 0 ≡ given_number (action_attempt (target_after (target_of m0.probe) front) e.action).outcome
last_there p log accesses rest values m0 m o front e more h c is at some =
    slot_gives (issued_entries p (target_of m0.probe) log.calls) h.sending.made h.flying rest accesses m0 m o c.part values front e more (length log.entries - log.confirmed - 1) h.sending.on c.flies c.good c.values_are is
    (let k = h.sending.confirmed_is in omega (arith, at, k, some)) (let n = h.count in omega (arith, n, some))

last_where : (p : Planner) (x y : Option BenchState) (log : LogState) (accesses : List RegAccess) (rest : List Entry) (values : List (Option ℕ)) (m0 : BenchState) (front : List Entry) (e : Entry) (more : List Entry) → WhereObservable x (λ m. IsIssuing p log accesses rest m0 m) → StepsTo (λ m o. CanFly m → HasCome accesses values m o) x y →
    issued_entries p (target_of m0.probe) log.calls ≡ front ++ e ∷ more → length front + 1 ≡ length log.entries → log.confirmed < length log.entries →
    unwrap_or (slot_at values (length log.entries - log.confirmed - 1)) 0 ≡ given_number (action_attempt (target_after (target_of m0.probe) front) e.action).outcome
last_where p None y log accesses rest values m0 front e more h c is at some = absurd h
last_where p (Some m) None log accesses rest values m0 front e more h c is at some = absurd c
last_where p (Some m) (Some o) log accesses rest values m0 front e more h c is at some = last_there p log accesses rest values m0 m o front e more h (c h.flies) is at some

pub last_value : (p : Planner) (x y : Option BenchState) (log : LogState) (accesses : List RegAccess) (rest : List Entry) (values : List (Option ℕ)) (m0 : BenchState) (front : List Entry) (e : Entry) (more : List Entry) → HasIssued p x log accesses rest m0 → StepsTo (λ m o. CanFly m → HasCome accesses values m o) x y →
    issued_entries p (target_of m0.probe) log.calls ≡ front ++ e ∷ more → length front + 1 ≡ length log.entries → log.confirmed < length log.entries →
    unwrap_or (slot_at values (length log.entries - log.confirmed - 1)) 0 ≡ given_number (action_attempt (target_after (target_of m0.probe) front) e.action).outcome
last_value p x y log accesses rest values m0 front e more h c is at some = last_where p x y log accesses rest values m0 front e more h.so c is at some

-- ---- what a plan that ends with a read gives

pub actions_of_entries : (unit : ℕ) (part : Part) (accesses : List RegAccess) → actions_in (strict_entries unit part accesses) ≡ making accesses
actions_of_entries unit part [] = refl
actions_of_entries unit part (a ∷ accesses) = ap (λ l. Makes a ∷ l) (actions_of_entries unit part accesses)

pub clear_of : (b : Bool) → (b && true) ≡ false → b ≡ false
clear_of true h = h
clear_of false h = refl

-- entries that pass do not fault, where they forgive nothing
none_fault : (u : TargetState) (unit : ℕ) (part : Part) (lead : List RegAccess) (more : List Entry) → Passes u (strict_entries unit part lead ++ more) → NoneFault u lead
none_fault u unit part [] more h = tt
none_fault u unit part (a ∷ lead) more h = (clear_of (is_fault (action_attempt u (Makes a)).outcome) h.0, none_fault (action_attempt u (Makes a)).next unit part lead more h.1)

-- the entry of the read, and what it gives
pub record IsReadAt (p : Planner) (old : LogState) (m0 : BenchState) (accesses : List RegAccess) : Type 0 where
  pub front : List Entry
  pub entry : Entry
  pub more : List Entry
  pub is : issued_entries p (target_of m0.probe) old.calls ≡ front ++ entry ∷ more
  pub at : length front + 1 ≡ length old.entries + length accesses
  pub gives_it : given_number (action_attempt (target_after (target_of m0.probe) front) entry.action).outcome ≡ gives (target_issued p old m0) accesses

-- where the entries lie
pub seam_of : (p : Planner) (x : Option BenchState) (log : LogState) (accesses : List RegAccess) (rest : List Entry) (m0 : BenchState) → WhereObservable x (λ m. IsIssuing p log accesses rest m0 m) →
    (issued_entries p (target_of m0.probe) log.calls ≡ take (length log.entries) (issued_entries p (target_of m0.probe) log.calls) ++ rest) × (length (take (length log.entries) (issued_entries p (target_of m0.probe) log.calls)) ≡ length log.entries)
seam_of p None log accesses rest m0 h = absurd h
seam_of p (Some m) log accesses rest m0 h =
    let is : issued_entries p (target_of m0.probe) log.calls ≡ (h.sending.made ++ h.flying) ++ rest = h.sending.on.are ∙ sym (append_assoc h.sending.made h.flying rest) in
    let at : length (h.sending.made ++ h.flying) ≡ length log.entries = (let l = length-append h.sending.made h.flying in let c = h.sending.confirmed_is in let k = h.count in omega (arith, l, c, k)) in
    let first : take (length log.entries) (issued_entries p (target_of m0.probe) log.calls) ≡ h.sending.made ++ h.flying = (λ j. take (sym at j) (is j)) ∙ take-append_seam (h.sending.made ++ h.flying) rest in
    (is ∙ ap (λ (l : List Entry). l ++ rest) (sym first), ap length first ∙ at)

-- those that are confirmed pass
passes_of : (p : Planner) (x : Option BenchState) (log : LogState) (accesses : List RegAccess) (rest : List Entry) (m0 : BenchState) → WhereObservable x (λ m. IsIssuing p log accesses rest m0 m) → log.confirmed ≡ length log.entries →
    Passes (target_of m0.probe) (take (length log.entries) (issued_entries p (target_of m0.probe) log.calls))
passes_of p None log accesses rest m0 h all = absurd h
passes_of p (Some m) log accesses rest m0 h all =
    let at : length h.sending.made ≡ length log.entries = h.sending.confirmed_is ∙ all in
    let first : take (length log.entries) (issued_entries p (target_of m0.probe) log.calls) ≡ h.sending.made = (λ j. take (sym at j) (h.sending.on.are j)) ∙ take-append_seam h.sending.made (h.flying ++ rest) in
    subst (Passes (target_of m0.probe)) (sym first) h.sending.on.passes

module _ (p : Planner) (x y : Option BenchState) (old new : LogState) (accesses accesses' : List RegAccess) (unit : ℕ) (part : Part) (lead : List RegAccess) (a : RegAccess) (rest : List Entry) (m0 : BenchState)
    (h : HasIssued p x old accesses (strict_entries unit part (lead ++ a ∷ []) ++ rest) m0) (k : HasIssued p y new accesses' rest m0) (calls : new.calls ≡ old.calls) (count : length new.entries ≡ length old.entries + length (lead ++ a ∷ [])) (all : new.confirmed ≡ length new.entries) where
  abbrev journal : List Entry
  journal = issued_entries p (target_of m0.probe) old.calls

  abbrev first : List Entry
  first = take (length old.entries) (issued_entries p (target_of m0.probe) old.calls)

  before : (issued_entries p (target_of m0.probe) old.calls ≡ take (length old.entries) (issued_entries p (target_of m0.probe) old.calls) ++ (strict_entries unit part (lead ++ a ∷ []) ++ rest))
      × (length (take (length old.entries) (issued_entries p (target_of m0.probe) old.calls)) ≡ length old.entries)
  before = seam_of p x old accesses (strict_entries unit part (lead ++ a ∷ []) ++ rest) m0 h.so

  parts : strict_entries unit part (lead ++ a ∷ []) ≡ strict_entries unit part lead ++ strict_entries unit part (a ∷ [])
  parts = map-append _ lead (a ∷ [])

  journal_is : issued_entries p (target_of m0.probe) old.calls ≡ (first ++ strict_entries unit part lead) ++ record { unit = unit; part = part; forgiving = false; action = Makes a } ∷ rest
  journal_is =
      before.0 ∙ ap (λ (l : List Entry). first ++ (l ++ rest)) parts ∙ ap (λ (l : List Entry). first ++ l) (append_assoc (strict_entries unit part lead) (strict_entries unit part (a ∷ [])) rest)
      ∙ sym (append_assoc first (strict_entries unit part lead) (strict_entries unit part (a ∷ []) ++ rest))

  long : length (first ++ strict_entries unit part (lead ++ a ∷ [])) ≡ length new.entries
  long = (let s = before.1 in let l = length-append first (strict_entries unit part (lead ++ a ∷ [])) in let m : length (strict_entries unit part (lead ++ a ∷ [])) ≡ length (lead ++ a ∷ []) = length-map (lead ++ a ∷ []) _ in omega (arith, s, l, m, count))

  taken : take (length new.entries) (issued_entries p (target_of m0.probe) new.calls) ≡ first ++ strict_entries unit part (lead ++ a ∷ [])
  taken =
      (λ j. take (sym long j) ((ap (issued_entries p (target_of m0.probe)) calls ∙ before.0 ∙ sym (append_assoc first (strict_entries unit part (lead ++ a ∷ [])) rest)) j))
      ∙ take-append_seam (first ++ strict_entries unit part (lead ++ a ∷ [])) rest

  passing : Passes (target_of m0.probe) (first ++ (strict_entries unit part lead ++ strict_entries unit part (a ∷ [])))
  passing = subst (Passes (target_of m0.probe)) (taken ∙ ap (λ (l : List Entry). first ++ l) parts) (passes_of p y new accesses' rest m0 k.so all)

  none : NoneFault (target_after (target_of m0.probe) first) lead
  none = none_fault (target_after (target_of m0.probe) first) unit part lead (strict_entries unit part (a ∷ [])) (pass_rest (target_of m0.probe) first (strict_entries unit part lead ++ strict_entries unit part (a ∷ [])) passing)

  pub read_gives : IsReadAt p old m0 (lead ++ a ∷ [])
  read_gives = record {
    front = first ++ strict_entries unit part lead;
    entry = record { unit = unit; part = part; forgiving = false; action = Makes a };
    more = rest;
    is = journal_is;
    at = (let s = before.1 in let l = length-append first (strict_entries unit part lead) in let m : length (strict_entries unit part lead) ≡ length lead = length-map lead _ in let n = length-append lead (a ∷ []) in omega (arith, s, l, m, n));
    gives_it =
        ap (λ (t : TargetState). given_number (action_attempt t (Makes a)).outcome) (after_split (target_of m0.probe) first (strict_entries unit part lead) ∙ ap (after (target_after (target_of m0.probe) first)) (actions_of_entries unit part lead))
        ∙ sym (plan_gives (target_after (target_of m0.probe) first) lead a none);
  }
