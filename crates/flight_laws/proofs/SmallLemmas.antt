-- Which accesses do not end because their AP has no large addresses.
use Rattle.std.proofs.Common.{◌≡◌, ◌≢◌, ◌∙◌, ℕ, zero, suc, ◌<◌, Bool, true, false, not, ◌&&◌, nat_lt, List, [], ◌∷◌, length, Option, Some, None, refl, ap, subst, arith}
use Rattle.std.proofs.lemmas.Bool.{or_parts, both_ways, and_left}
use Rattle.target_machine.specs.Fresh.{IsFresh}
use Rattle.target_machine.specs.Plain.{Action, CallEnd, Faulted, call_done, contains, ended_call, is_small}
use Rattle.target_machine.specs.State.{TargetState}
use Rattle.target_machine.specs.declared.unit.Call.{Call}
use Rattle.target_machine.specs.declared.unit.Call.TheVariants.{Access}
use Rattle.target_machine.specs.declared.unit.Unit.{Unit as AccessUnit}
use Rattle.target_machine.specs.declared.unit.Unit.TheVariants as unit
use Rattle.probe_core.specs.Probe.{target_of}
use Rattle.target_calls.specs.Asks.{AreAskable, IsUnitInRange, is_wide, unit_ask}
use Rattle.target_calls.specs.World.{AtLeast, is_faulted, is_over, is_small_end, one_fewer, small_after, small_now, start_world, stop, stops_here, world_after}
use Rattle.target_calls.specs.declared.calls.Ask.{Ask}
use Rattle.target_calls.proofs.CallLists.{head_of}
use Rattle.access_regs.specs.Alone.{NoneFaults, call_alone, alone_after, large_of_all}
use Rattle.access_regs.specs.Entries.{kept_by}
use Rattle.access_regs.specs.Kept.{Kept, known_at}
use Rattle.access_regs.specs.Plan.{needs_cfg}
use Rattle.access_regs.specs.Stops.{world_at}
use Rattle.access_regs.specs.declared.planner.Planner.{Planner}
use Rattle.access_regs.proofs.AllCalls.{journal_follows}
use Rattle.flight_laws.specs.Small.{NotSmall}
use Rattle.flight_laws.proofs.OpenLemmas.{after_alone, large_alone}

-- where calls do not stop, none ends at a fault, and all are answered
pub record NeverStops (t : TargetState) (large : List ℕ) (n : Option ℕ) (asks : List Ask) : Type 0 where
  pub none : NoneFaults t large asks
  pub enough : AtLeast (length asks) n

not_faulted : (x : CallEnd) → is_faulted x ≡ false → x ≢ Faulted
not_faulted x good e = both_ways (is_faulted x) good (ap is_faulted e)

enough_more : (n : Option ℕ) (k : ℕ) → is_over n ≡ false → AtLeast k (one_fewer n) → AtLeast (suc k) n
enough_more None k live h = tt
enough_more (Some zero) k live h = absurd (cc)
enough_more (Some (suc n)) k live h = omega (arith, h)

never_at : (n : Option ℕ) → AtLeast 0 n
never_at None = tt
never_at (Some n) = omega arith

pub never_stops : (t : TargetState) (large : List ℕ) (n : Option ℕ) (asks : List Ask) → stop (world_at t large n) asks ≡ None → NeverStops t large n asks
never_stops t large n [] e = record { none = tt; enough = never_at n }
never_stops t large n (ask ∷ asks) e =
    let h = head_of (stops_here (world_at t large n) ask) (stop (world_at (call_alone t large ask).next (call_alone t large ask).large (one_fewer n)) asks) e in
    let g = or_parts (is_over n) (is_faulted (call_alone t large ask).end) h.0 in
    let r = never_stops (call_alone t large ask).next (call_alone t large ask).large (one_fewer n) asks h.1 in
    record { none = (not_faulted (call_alone t large ask).end g.1, r.none); enough = enough_more n (length asks) g.0 r.enough }

pub not_small : (b forgive s : Bool) (v : ℕ) (t : TargetState) (l : List ℕ) (xs : List Action) → s ≡ false → is_small_end (ended_call b forgive s v t l xs).end ≡ false
not_small true true s v t l xs e = refl
not_small true false s v t l xs e = refl
not_small false forgive true v t l xs e = absurd (cc)
not_small false forgive false v t l xs e = refl

and_not : (a b c : Bool) → b ≡ c → (a && not b) ≡ false → (a && not c) ≡ false
and_not a b c e h = subst (λ (x : Bool). (a && not x) ≡ false) e h

pub small_none : (t : TargetState) (large : List ℕ) (k : Kept) (asked : AccessUnit) → IsUnitInRange asked → ((ap : ℕ) → ap < 256 → (known_at k ap).large ≡ contains large ap) → needs_cfg k asked ≡ false → is_small t large (Access asked) ≡ false
small_none t large k (unit.Memory size read n address value) range larges none = and_left _ _ (and_not (nat_lt 0xFFFF_FFFF address) (known_at k n).large (contains large n) (larges n range.0) none)
small_none t large k (unit.Ap read n addr value) range larges none = refl
small_none t large k (unit.Dp read addr value) range larges none = refl
small_none t large k (unit.Poll mask value turns) range larges none = refl

pub done_small : (t : TargetState) (large : List ℕ) (forgive : Bool) (call : Call) → is_small t large call ≡ false → is_small_end (call_done t large forgive call).end ≡ false
unfolding call_done
done_small t large forgive call none = not_small _ _ (is_small t large call) _ _ _ _ none

-- an access of an address of 32 bits, and what is no memory access, does not end so
small_narrow : (t : TargetState) (large : List ℕ) (asked : AccessUnit) → is_wide asked ≡ false → is_small t large (Access asked) ≡ false
small_narrow t large (unit.Memory size read n address value) e = and_left _ _ (and_left _ _ e)
small_narrow t large (unit.Ap read n addr value) e = refl
small_narrow t large (unit.Dp read addr value) e = refl
small_narrow t large (unit.Poll mask value turns) e = refl

pub never_narrow : (t : TargetState) (asks : List Ask) (n : Option ℕ) (asked : AccessUnit) (forgive : Bool) → is_wide asked ≡ false → small_now (start_world t n) asks (unit_ask asked forgive) ≡ false
never_narrow t asks n asked forgive narrow = by_stop (stop (start_world t n) asks)
  where
    by_stop : (x : Option ℕ) → small_after x (world_after (start_world t n) asks) (unit_ask asked forgive) ≡ false
    by_stop (Some k) = refl
    by_stop None = done_small (world_after (start_world t n) asks).target (world_after (start_world t n) asks).large forgive (Access asked) (small_narrow (world_after (start_world t n) asks).target (world_after (start_world t n) asks).large asked narrow)

-- by the calls alone
pub never_small : (p : Planner) (t : TargetState) (asks : List Ask) (n : Option ℕ) (asked : AccessUnit) (forgive : Bool) → IsFresh t → AreAskable asks → IsUnitInRange asked → needs_cfg (kept_by p t asks) asked ≡ false →
    small_now (start_world t n) asks (unit_ask asked forgive) ≡ false
never_small p t asks n asked forgive fresh ok range none = by_stop (stop (world_at t [] n) asks) refl
  where
    by_stop : (x : Option ℕ) → stop (world_at t [] n) asks ≡ x → small_after x (world_after (world_at t [] n) asks) (unit_ask asked forgive) ≡ false
    by_stop (Some k) e = refl
    by_stop None e =
        let s = never_stops t [] n asks e in
        let follows = journal_follows p t asks fresh ok s.none in
        let target = after_alone t [] n asks s.none s.enough in
        let large = large_alone t [] n asks s.none s.enough in
        (λ j. is_small_end (call_done (target j) (large j) forgive (Access asked)).end)
        ∙ done_small (alone_after t [] asks) (large_of_all t [] asks) forgive (Access asked)
        (small_none (alone_after t [] asks) (large_of_all t [] asks) (kept_by p t asks) asked range follows.larges none)

pub not_small_now : NotSmall
not_small_now p a kept accesses came n m0 m asked forgive f enough range none =
    never_small p (target_of m0.probe) a.asks.calls n asked forgive f.fresh f.askable range (ap (λ (k : Kept). needs_cfg k asked) f.kept_is ∙ none)
