-- What a unit that forgives a fault comes to among the calls.
use Rattle.std.proofs.Common.{◌≡◌, ◌∙◌, ℕ, ◌+◌, Bool, true, false, cond, not, ◌&&◌, List, [], ◌∷◌, ◌++◌, length, None, refl, sym, ap, subst, arith, append_assoc, length-append}
use Rattle.std.proofs.lemmas.List.{length-map, map-append}
use Rattle.std.proofs.lemmas.List.Sums.{sum_by-cons}
use Rattle.std.proofs.lemmas.Bool.{and_from}
use Rattle.target_machine.specs.Lists.{PassTo, after}
use Rattle.target_machine.specs.Plain.{Action, Makes, action_attempt, given_number, is_fault, result_of}
use Rattle.target_machine.specs.State.{TargetState}
use Rattle.target_machine.specs.declared.access.RegAccess.{RegAccess}
use Rattle.target_machine.specs.declared.unit.Call.TheVariants.{Access}
use Rattle.target_machine.specs.declared.unit.Unit.{Unit as AccessUnit}
use Rattle.target_machine.specs.declared.unit.Unit.TheVariants as unit
use Rattle.target_machine.specs.Plain.{may_forgive}
use Rattle.target_calls.specs.Asks.{unit_ask}
use Rattle.target_machine.specs.Counts.{one_if}
use Rattle.target_machine.proofs.ActionLists.{pass_append}
use Rattle.target_calls.specs.Journal.{Entry, settles, target_after}
use Rattle.target_calls.specs.World.{is_small_end, results, skips, small_now, start_world}
use Rattle.target_calls.specs.declared.calls.Ask.{Ask}
use Rattle.target_calls.specs.declared.journal.Part.{Part}
use Rattle.target_calls.specs.declared.journal.Part.TheVariants.{Ends, Leads, Settles}
use Rattle.target_calls.proofs.OneCall.{one_small}
use Rattle.access_regs.specs.Alone.{alone_after, large_of_all}
use Rattle.access_regs.specs.Costs.{is_leading_read, leading_reads}
use Rattle.access_regs.specs.Entries.{NoneFault, kept_by, target_by}
use Rattle.access_regs.specs.Journal.{Issue, Step, actions_of, is_last, issued_entries, making, numbered_entries, steps_of}
use Rattle.access_regs.specs.Kept.{Kept}
use Rattle.access_regs.specs.Plan.{needs_cfg, settle, kept_after_settling}
use Rattle.access_regs.specs.Skips.{own_steps}
use Rattle.access_regs.proofs.EntryLemmas.{journal_grows}
use Rattle.access_regs.proofs.Seams.{after_split}
use Rattle.access_regs.proofs.SkipLemmas.{fault_skips}
use Rattle.flight_laws.specs.Forgiving.{abort_after, steps_of_unit}
use Rattle.flight_laws.proofs.CfgLemmas.{small_alone}
use Rattle.flight_laws.proofs.ComeLemmas.{alone_is, never, pass_comes, pass_given, skip_comes, small_given}
use Rattle.flight_laws.proofs.PushLemmas.{pass_makes}
use Rattle.flight_laws.proofs.SmallLemmas.{done_small, small_none}
use Rattle.packed_access.specs.Begun.{strict_entries}
use Rattle.packed_access.specs.Forgiving.{CfgShows}
use Rattle.packed_access.proofs.TryBeginLemmas.{IsBefore, IsCalm, alone_issue, askable_front, askable_last, entries_are, is_calm, issue_is, settles_in, target_settled}
use Rattle.packed_access.proofs.TryStepLemmas.{steps_both, unit_actions_in}
use Rattle.access_regs.specs.declared.planner.Planner.{Planner}
use Rattle.access_regs.specs.Journal.{is_alone}
use Rattle.access_regs.proofs.Course.{actions_steps}
use Rattle.access_regs.proofs.Lists.{numbered_append}

-- ---- lists of steps

unit_steps_in : (asked : AccessUnit) (xs : List RegAccess) → actions_of (steps_of_unit asked xs) ≡ making xs
unit_steps_in asked [] = refl
unit_steps_in asked (x ∷ xs) = ap (λ l. Makes x ∷ l) (unit_steps_in asked xs)

none_first : (u : TargetState) (xs : List RegAccess) (a : RegAccess) → NoneFault u (xs ++ a ∷ []) → NoneFault u xs
none_first u [] a h = tt
none_first u (x ∷ xs) a h = (h.0, none_first (action_attempt u (Makes x)).next xs a h.1)

-- settling reads nothing
pub no_reads : (xs : List RegAccess) (steps : List Step) → leading_reads (steps_of Settles xs ++ steps) ≡ leading_reads steps
no_reads [] steps = refl
no_reads (x ∷ xs) steps =
    (let c : leading_reads (steps_of Settles (x ∷ xs) ++ steps) ≡ one_if (is_leading_read Settles (Makes x)) + leading_reads (steps_of Settles xs ++ steps) =
    sum_by-cons (λ (s : Step). one_if (is_leading_read s.part s.action)) (record { part = Settles; action = Makes x }) (steps_of Settles xs ++ steps) in let r = no_reads xs steps in omega (arith, c, r))

-- the part of an access, and the number of its unit
abbrev if_last : AccessUnit → RegAccess → Part
if_last asked last = cond (is_last asked last) Ends Leads

abbrev if_units : AccessUnit → RegAccess → ℕ → ℕ
if_units asked last units = cond (settles (if_last asked last)) units (units + 1)

-- ---- the unit as the last call

module _ (p : Planner) (forgive : Bool) (t : TargetState) (calls : List Ask) (unit_ : AccessUnit) (alone : is_alone p forgive ≡ true) (may : may_forgive (Access unit_) ≡ true) (b : IsBefore t calls (unit_ask unit_ forgive)) where
  abbrev pub the_ask : Ask
  the_ask = unit_ask unit_ forgive

  abbrev pub k : Kept
  k = kept_by p t calls

  abbrev pub u : TargetState
  u = target_settled p t calls k

  abbrev pub steps : List Step
  steps = (alone_issue p forgive t calls k unit_).steps

  calm : IsCalm p t calls
  calm = is_calm p t calls the_ask b

  own_are : own_steps p t calls the_ask ≡ steps_of Settles (settle k) ++ steps
  own_are = ap (λ (i : Issue). i.steps) (issue_is p forgive t calls k unit_ alone may)

  -- the accesses that passed, with the settling
  settled_pass : (xs : List RegAccess) → NoneFault u xs → PassTo (target_by p t calls) (actions_of (steps_of Settles (settle k) ++ steps_of_unit unit_ xs)) (after u (making xs))
  settled_pass xs good =
      subst (λ (l : List Action). PassTo (target_by p t calls) l (after u (making xs)))
      (sym (map-append (λ (s : Step). s.action) (steps_of Settles (settle k)) (steps_of_unit unit_ xs) ∙ (λ j. actions_steps Settles (settle k) j ++ unit_steps_in unit_ xs j)))
      (pass_append (target_by p t calls) u (after u (making xs)) (making (settle k)) (making xs) calm.pass (pass_makes u xs good))

  -- ---- it was skipped

  module _ (made : List RegAccess) (last : RegAccess) (forgives : forgive ≡ true) (are : steps ≡ steps_of_unit unit_ (made ++ last ∷ []) ++ abort_after unit_ (made ++ last ∷ []) ∷ []) (good : NoneFault u made) (bad : is_fault (action_attempt (after u (making made)) (Makes last)).outcome ≡ true) where
    forgives_it : (forgive && may_forgive (Access unit_)) ≡ true
    forgives_it = and_from forgive (may_forgive (Access unit_)) forgives may

    abbrev step : Step
    step = record { part = if_last unit_ last; action = Makes last }

    cut : own_steps p t calls the_ask ≡ (steps_of Settles (settle k) ++ steps_of_unit unit_ made) ++ step ∷ (abort_after unit_ (made ++ last ∷ []) ∷ [])
    cut =
        own_are ∙ ap (λ (l : List Step). steps_of Settles (settle k) ++ l) (are ∙ ap (λ (l : List Step). l ++ abort_after unit_ (made ++ last ∷ []) ∷ []) (steps_both unit_ made (last ∷ [])) ∙ append_assoc (steps_of_unit unit_ made) (step ∷ []) (abort_after unit_ (made ++ last ∷ []) ∷ []))
        ∙ sym (append_assoc (steps_of Settles (settle k)) (steps_of_unit unit_ made) (step ∷ abort_after unit_ (made ++ last ∷ []) ∷ []))

    pub skip_outcome : (skips (start_world t None) (calls ++ the_ask ∷ []) ≡ skips (start_world t None) calls + 1) × (results (start_world t None) (calls ++ the_ask ∷ []) ≡ results (start_world t None) calls ++ 0 ∷ [])
    skip_outcome = skip_comes p t calls the_ask (steps_of Settles (settle k) ++ steps_of_unit unit_ made) step (abort_after unit_ (made ++ last ∷ []) ∷ []) (after u (making made)) b.fresh b.askable b.whole forgives_it cut (settled_pass made good) bad

    pub skip_not_small : small_now (start_world t None) calls the_ask ≡ false
    skip_not_small =
        one_small (start_world t None) calls the_ask b.whole
        ∙ ap is_small_end (alone_is t calls the_ask b.whole ∙ fault_skips p t calls the_ask (steps_of Settles (settle k) ++ steps_of_unit unit_ made) step (abort_after unit_ (made ++ last ∷ []) ∷ []) (after u (making made)) b.fresh b.askable (never t calls the_ask b.whole).none forgives_it cut (settled_pass made good) bad)

  -- ---- it came

  module _ (made : List RegAccess) (last : RegAccess) (are : steps ≡ steps_of_unit unit_ (made ++ last ∷ [])) (good : NoneFault u (made ++ last ∷ [])) where
    whole_pass : PassTo (target_by p t calls) (actions_of (own_steps p t calls the_ask)) (after u (making (made ++ last ∷ [])))
    whole_pass = subst (λ (l : List Step). PassTo (target_by p t calls) (actions_of l) (after u (making (made ++ last ∷ [])))) (sym (own_are ∙ ap (λ (l : List Step). steps_of Settles (settle k) ++ l) are)) (settled_pass (made ++ last ∷ []) good)

    pub pass_skips : skips (start_world t None) (calls ++ the_ask ∷ []) ≡ skips (start_world t None) calls
    pass_skips = pass_comes p t calls the_ask (after u (making (made ++ last ∷ []))) b.fresh b.askable b.whole whole_pass

    abbrev last_entry : Entry
    last_entry = record { unit = if_units unit_ last (length calls); part = if_last unit_ last; forgiving = forgive && not (settles (if_last unit_ last)); action = Makes last }

    abbrev front : List Entry
    front = issued_entries p t calls ++ (strict_entries (length calls) Settles (settle k) ++ numbered_entries (length calls) forgive (steps_of_unit unit_ made))

    journal : issued_entries p t (calls ++ the_ask ∷ []) ≡ front ++ last_entry ∷ []
    journal =
        (journal_grows p t calls the_ask refl).0 ∙ ap (λ (l : List Entry). issued_entries p t calls ++ l)
        (entries_are p forgive t calls k unit_ alone may ∙ ap (λ (l : List Step). strict_entries (length calls) Settles (settle k) ++ numbered_entries (length calls) forgive l) (are ∙ steps_both unit_ made (last ∷ []))
        ∙ ap (λ (l : List Entry). strict_entries (length calls) Settles (settle k) ++ l) (numbered_append (length calls) forgive (steps_of_unit unit_ made) (steps_of_unit unit_ (last ∷ [])))
        ∙ sym (append_assoc (strict_entries (length calls) Settles (settle k)) (numbered_entries (length calls) forgive (steps_of_unit unit_ made)) (last_entry ∷ [])))
        ∙ sym (append_assoc (issued_entries p t calls) (strict_entries (length calls) Settles (settle k) ++ numbered_entries (length calls) forgive (steps_of_unit unit_ made)) (last_entry ∷ []))

    place : length front + 1 ≡ length (issued_entries p t calls) + length (own_steps p t calls the_ask)
    place =
        let g = ap length ((journal_grows p t calls the_ask refl).0) in
        let j = ap length journal in
        let a = length-append (issued_entries p t calls) (numbered_entries (length calls) (forgive && may_forgive (Access unit_)) (own_steps p t calls the_ask)) in
        let n : length (numbered_entries (length calls) (forgive && may_forgive (Access unit_)) (own_steps p t calls the_ask)) ≡ length (own_steps p t calls the_ask) = length-map (own_steps p t calls the_ask) _ in
        let c = length-append front (last_entry ∷ []) in
        omega (arith, g, j, a, n, c)

    target_there : target_after t front ≡ after u (making made)
    target_there =
        after_split t (issued_entries p t calls) (strict_entries (length calls) Settles (settle k) ++ numbered_entries (length calls) forgive (steps_of_unit unit_ made))
        ∙ after_split (target_by p t calls) (strict_entries (length calls) Settles (settle k)) (numbered_entries (length calls) forgive (steps_of_unit unit_ made))
        ∙ (λ j. after (after (target_by p t calls) (settles_in (length calls) (settle k) j)) (unit_actions_in forgive (length calls) unit_ made j))

    pub pass_results : small_now (start_world t None) calls the_ask ≡ false → results (start_world t None) (calls ++ the_ask ∷ []) ≡ results (start_world t None) calls ++ result_of (Access unit_) (given_number (action_attempt (after u (making made)) (Makes last)).outcome) ∷ []
    pass_results large =
        pass_given p t calls the_ask front last_entry [] (after u (making (made ++ last ∷ []))) b.fresh b.askable b.whole whole_pass large journal place
        ∙ ap (λ (v : TargetState). results (start_world t None) calls ++ result_of (Access unit_) (given_number (action_attempt v (Makes last)).outcome) ∷ []) target_there

-- ---- whether its access port has no large addresses

-- bit 1 of CFG says it, where that was read
pub small_shown : (p : Planner) (forgive : Bool) (t : TargetState) (calls : List Ask) (unit_ : AccessUnit) (b : IsBefore t calls (unit_ask unit_ forgive)) (large : Bool) → needs_cfg (kept_after_settling (kept_by p t calls)) unit_ ≡ true → CfgShows unit_ (target_settled p t calls (kept_by p t calls)) large →
    small_now (start_world t None) calls (unit_ask unit_ forgive) ≡ not large
small_shown p forgive t calls (unit.Memory size read n address value) b large wide shows =
    small_alone p t calls None size read n address value forgive b.fresh (askable_front calls (unit_ask (unit.Memory size read n address value) forgive) b.askable) b.whole (askable_last calls (unit_ask (unit.Memory size read n address value) forgive) b.askable).range.0 wide shows.0
    ∙ ap not shows.1
small_shown p forgive t calls (unit.Ap read n addr value) b large wide shows = absurd (let x : ◌≡◌ {A = Bool} false true = wide in cc)
small_shown p forgive t calls (unit.Dp read addr value) b large wide shows = absurd (let x : ◌≡◌ {A = Bool} false true = wide in cc)
small_shown p forgive t calls (unit.Poll mask value turns) b large wide shows = absurd (let x : ◌≡◌ {A = Bool} false true = wide in cc)

pub small_unread : (p : Planner) (forgive : Bool) (t : TargetState) (calls : List Ask) (unit_ : AccessUnit) (b : IsBefore t calls (unit_ask unit_ forgive)) → needs_cfg (kept_after_settling (kept_by p t calls)) unit_ ≡ false → small_now (start_world t None) calls (unit_ask unit_ forgive) ≡ false
small_unread p forgive t calls unit_ b none =
    let c : IsCalm p t calls = is_calm p t calls (unit_ask unit_ forgive) b in
    one_small (start_world t None) calls (unit_ask unit_ forgive) b.whole
    ∙ ap is_small_end (alone_is t calls (unit_ask unit_ forgive) b.whole)
    ∙ done_small (alone_after t [] calls) (large_of_all t [] calls) forgive (Access unit_)
    (small_none (alone_after t [] calls) (large_of_all t [] calls) (kept_after_settling (kept_by p t calls)) unit_ (askable_last calls (unit_ask unit_ forgive) b.askable).range c.follows.larges none)

-- its address is too large for its access port
pub small_outcome : (forgive : Bool) (t : TargetState) (calls : List Ask) (unit_ : AccessUnit) (b : IsBefore t calls (unit_ask unit_ forgive)) → small_now (start_world t None) calls (unit_ask unit_ forgive) ≡ true →
    (skips (start_world t None) (calls ++ unit_ask unit_ forgive ∷ []) ≡ skips (start_world t None) calls) × (results (start_world t None) (calls ++ unit_ask unit_ forgive ∷ []) ≡ results (start_world t None) calls ++ 0 ∷ [])
small_outcome forgive t calls unit_ b small = small_given t calls (unit_ask unit_ forgive) b.whole small
