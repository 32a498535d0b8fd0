-- Where calls stop, by the entries that they issue: inductions over calls.
use Rattle.std.proofs.Common.{◌≡◌, ◌≢◌, ◌⊎◌, inl, inr, ◌∙◌, ℕ, zero, suc, ◌+◌, ◌-◌, Bool, true, false, cond, not, ◌&&◌, ◌||◌, List, [], ◌∷◌, ◌++◌, length, Option, Some, None, refl, sym, ap, subst, arith, append-nil, append_assoc}
use Rattle.std.proofs.Math.Bool.{or-true}
use Rattle.access_regs.proofs.AllCalls.{call_course, fresh_follows}
use Rattle.access_regs.proofs.Lists.{Stops, actions_entries, list_passes, list_stops, step_follows}
use Rattle.access_regs.proofs.Seams.{Breaks, InFirst, InSecond, SameFirst, after_split, one_first, passes_none, passes_second, seam_in}
use Rattle.access_regs.specs.Alone.{call_alone}
use Rattle.access_regs.specs.Follows.{Follows}
use Rattle.access_regs.specs.Journal.{Step, actions_of, entries_at, finish, finish_of, issue_of, issued_from, numbered_entries, steps_at, steps_of}
use Rattle.access_regs.specs.Kept.{Kept, nothing_kept}
use Rattle.access_regs.specs.Plan.{settle}
use Rattle.access_regs.specs.Stops.{FaultStops, NoneStops, PassingStops, StaysThere, StopsThere, WaitStops, world_at}
use Rattle.target_calls.specs.Asks.{AreAskable, IsAskable, is_forgiving, is_settled}
use Rattle.target_calls.specs.Journal.{Entry, Passes, actions_in, lines_before, settles}
use Rattle.target_calls.specs.World.{AtLeast, World, is_faulted, is_over, later_by, next_world, one_fewer, stop, stops_here}
use Rattle.target_calls.specs.declared.calls.Ask.{Ask}
use Rattle.target_calls.specs.declared.journal.Part.{Part}
use Rattle.target_calls.specs.declared.journal.Part.TheVariants.{Ends, Leads, Settles, Skips}
use Rattle.target_calls.proofs.EntryLemmas.{pass_front}
use Rattle.target_machine.specs.Lists.{after}
use Rattle.target_machine.specs.State.{TargetState}
use Rattle.target_machine.specs.Plain.{Makes, CallDone, CallEnd, Answered, Skipped, Faulted, Small}
use Rattle.target_machine.specs.declared.access.RegAccess.{RegAccess}
use Rattle.access_regs.specs.declared.planner.Planner.{Planner}

-- ---- one call

-- the call ends at a fault, or it does not
pub ends_how : (x : CallEnd) → (x ≡ Faulted) ⊎ ((x ≢ Faulted) × (is_faulted x ≡ false))
ends_how Faulted = inl refl
ends_how (Answered v) = inr (λ e. absurd (cc), refl)
ends_how Skipped = inr (λ e. absurd (cc), refl)
ends_how Small = inr (λ e. absurd (cc), refl)

-- a call that ends at a fault has an entry that breaks, which is its own
pub record FirstBreak (p : Planner) (base : ℕ) (k : Kept) (u : TargetState) (c : Ask) : Type 0 where
  pub front : List Entry
  pub entry : Entry
  pub more : List Entry
  pub is : entries_at p base u k c ≡ front ++ entry ∷ more
  pub passes : Passes u front
  pub bad : Breaks (after u (actions_in front)) entry
  pub unit : entry.unit ≡ base + 1
  pub own : entry.part ≢ Settles

pub first_break : (p : Planner) (base : ℕ) (k : Kept) (large : List ℕ) (t u : TargetState) → Follows k large t u → (c : Ask) → IsAskable c → (call_alone t large c).end ≡ Faulted → FirstBreak p base k u c
first_break p base k large t u f c ok bad =
    let s : Stops p base (base + 0 + 1) k u (c ∷ []) (call_alone t large c).next = list_stops p IsAskable (call_course p) base k large t u f [] c tt ok tt bad in
    record {
      front = s.front;
      entry = s.entry;
      more = s.stops.more;
      is = sym (append-nil (entries_at p base u k c)) ∙ s.stops.is;
      passes = s.stops.passes;
      bad = record { bad = s.stops.faults; strict = s.stops.strict };
      unit = s.unit ∙ omega arith;
      own = s.own;
    }

pub call_passes : (p : Planner) (base : ℕ) (k : Kept) (large : List ℕ) (t u : TargetState) → Follows k large t u → (c : Ask) → IsAskable c → (call_alone t large c).end ≢ Faulted → Passes u (entries_at p base u k c)
call_passes p base k large t u f c ok ne = subst (Passes u) (append-nil (entries_at p base u k c)) (list_passes p IsAskable (call_course p) base k large t u f (c ∷ []) (ok, tt) (ne, tt))

-- the target after a call, by its entries
call_after : (p : Planner) (base : ℕ) (k : Kept) (u : TargetState) (c : Ask) → after u (actions_in (entries_at p base u k c)) ≡ after u (actions_of (steps_at p u k c))
call_after p base k u c = ap (after u) (actions_entries p base u k c)

-- ---- worlds

-- calls of which the first does not end at a fault stop where those after it do
pub stop_goes : (t : TargetState) (large : List ℕ) (n : Option ℕ) (ask : Ask) (asks : List Ask) → is_over n ≡ false → is_faulted (call_alone t large ask).end ≡ false →
    stop (world_at t large n) (ask ∷ asks) ≡ later_by 1 (stop (world_at (call_alone t large ask).next (call_alone t large ask).large (one_fewer n)) asks)
stop_goes t large n ask asks live good = rw (live, good) refl

stop_here : (t : TargetState) (large : List ℕ) (n : Option ℕ) (ask : Ask) (asks : List Ask) → (call_alone t large ask).end ≡ Faulted → stop (world_at t large n) (ask ∷ asks) ≡ Some 1
stop_here t large n ask asks bad =
    let w : World = world_at t large n in
    let here : stops_here w ask ≡ true = ap (λ (x : CallEnd). is_over n || is_faulted x) bad ∙ or-true (is_over n) in
    ap (λ (b : Bool). cond b (Some 1) (later_by 1 (stop (next_world w ask) asks))) here

pub live_more : (n : Option ℕ) (j : ℕ) → AtLeast (suc j) n → (is_over n ≡ false) × AtLeast j (one_fewer n)
live_more None j h = (refl, tt)
live_more (Some zero) j h = absurd (omega (arith, h))
live_more (Some (suc n)) j h = (refl, omega (arith, h))

-- ---- entries of steps

settles_is : (p : Part) → settles p ≡ true → p ≡ Settles
settles_is Settles e = refl
settles_is Leads e = absurd (cc)
settles_is Ends e = absurd (cc)
settles_is (Skips attempted) e = absurd (cc)

pub good_end : (x : CallEnd) → x ≢ Faulted → is_faulted x ≡ false
good_end Faulted ne = absurd (ne refl)
good_end (Answered v) ne = refl
good_end Skipped ne = refl
good_end Small ne = refl

pub numbered_unit : (n : ℕ) (b : Bool) (steps : List Step) (front : List Entry) (e : Entry) (more : List Entry) → numbered_entries n b steps ≡ front ++ e ∷ more → e.unit ≡ cond (settles e.part) n (n + 1)
numbered_unit n b [] [] e more is = absurd (cc)
numbered_unit n b [] (x ∷ front) e more is = absurd (cc)
numbered_unit n b (s ∷ steps) [] e more is =
    let head : record { unit = cond (settles s.part) n (n + 1); part = s.part; forgiving = b && not (settles s.part); action = s.action } ≡ e = cc in
    subst (λ (x : Entry). x.unit ≡ cond (settles x.part) n (n + 1)) head refl
numbered_unit n b (s ∷ steps) (x ∷ front) e more is = numbered_unit n b steps front e more (cc)

settling_settles : (n : ℕ) (xs : List RegAccess) (front : List Entry) (e : Entry) (more : List Entry) → numbered_entries n false (steps_of Settles xs) ≡ front ++ e ∷ more → settles e.part ≡ true
settling_settles n [] [] e more is = absurd (cc)
settling_settles n [] (x ∷ front) e more is = absurd (cc)
settling_settles n (a ∷ xs) [] e more is =
    let head : record { unit = n; part = Settles; forgiving = false; action = Makes a } ≡ e = cc in
    subst (λ (x : Entry). settles x.part ≡ true) head refl
settling_settles n (a ∷ xs) (x ∷ front) e more is = settling_settles n xs front e more (cc)

pub finish_settles : (n : ℕ) (b : Bool) (k : Kept) (front : List Entry) (e : Entry) (more : List Entry) → numbered_entries n false (finish b k).steps ≡ front ++ e ∷ more → settles e.part ≡ true
finish_settles n true k front e more is = settling_settles n (settle k) front e more is
finish_settles n false k [] e more is = absurd (cc)
finish_settles n false k (x ∷ front) e more is = absurd (cc)

finish_marked : (n : ℕ) (b : Bool) (k : Kept) (front : List Entry) (e : Entry) (more : List Entry) → numbered_entries n false (finish b k).steps ≡ front ++ e ∷ more → b ≡ true
finish_marked n true k front e more is = refl
finish_marked n false k [] e more is = absurd (cc)
finish_marked n false k (x ∷ front) e more is = absurd (cc)

-- the last of more calls is marked
settled_later : (p : Planner) (n : ℕ) (k : Kept) (u : TargetState) (ask : Ask) (asks : List Ask) (back : List Entry) (e : Entry) (more : List Entry) → issued_from p n k u asks ≡ back ++ e ∷ more → is_settled asks ≡ true → is_settled (ask ∷ asks) ≡ true
settled_later p n k u ask [] [] e more is h = absurd (cc)
settled_later p n k u ask [] (x ∷ back) e more is h = absurd (cc)
settled_later p n k u ask (q ∷ qs) back e more is h = h

pub lines_own : (n : ℕ) (e : Entry) → e.unit ≡ cond (settles e.part) n (n + 1) → lines_before e ≡ n
lines_own n e is = by_mark (settles e.part) is
  where
    by_mark : (b : Bool) → e.unit ≡ cond b n (n + 1) → cond b e.unit (e.unit - 1) ≡ n
    by_mark true is = is
    by_mark false is = omega (arith, is)

-- ---- a list whose first call is made

module _ (p : Planner) (base : ℕ) (k : Kept) (large : List ℕ) (t u : TargetState) (f : Follows k large t u) (ask : Ask) (asks : List Ask) (ok : IsAskable ask) where
  abbrev first : List Entry
  first = entries_at p base u k ask

  abbrev v : TargetState
  v = after u (actions_of (steps_at p u k ask))

  abbrev d : CallDone
  d = call_alone t large ask

  abbrev rest : List Entry
  rest = issued_from p (base + 1) (finish_of p u k ask).kept v asks

  fault_first : (front : List Entry) (e : Entry) (more : List Entry) → first ++ rest ≡ front ++ e ∷ more → Passes u front → Breaks (after u (actions_in front)) e → d.end ≡ Faulted → StopsThere base t large (ask ∷ asks) e
  fault_first front e more is pass bad end =
      let b = first_break p base k large t u f ask ok end in
      let two : b.front ++ b.entry ∷ (b.more ++ rest) ≡ front ++ e ∷ more = sym (append_assoc b.front (b.entry ∷ b.more) rest) ∙ ap (λ (l : List Entry). l ++ rest) (sym b.is) ∙ is in
      let same : SameFirst b.front front b.entry e = one_first u b.front front b.entry e (b.more ++ rest) more two b.passes pass b.bad bad in
      record {
        at = 0;
        unit = ap (λ (x : Entry). x.unit) (sym same.entry_is) ∙ b.unit;
        own = subst (λ (x : Entry). x.part ≢ Settles) same.entry_is b.own;
        within = omega arith;
        none = tt;
        stops = λ n h. stop_here t large n ask asks end;
      }

  fault_later : (e : Entry) → d.end ≢ Faulted → is_faulted d.end ≡ false → StopsThere (base + 1) d.next d.large asks e → StopsThere base t large (ask ∷ asks) e
  fault_later e ne good s = record {
    at = suc s.at;
    unit = s.unit ∙ omega arith;
    own = s.own;
    within = (let w = s.within in omega (arith, w));
    none = (ne, s.none);
    stops = λ n h. (let g = live_more n s.at h in stop_goes t large n ask asks g.0 good ∙ ap (later_by 1) (s.stops (one_fewer n) g.1) ∙ (let same : 1 + suc s.at ≡ suc (suc s.at) = omega arith in ap Some same));
  }

  -- what comes after the call
  passed_after : (back : List Entry) → Passes u (first ++ back) → Passes v back
  passed_after back pass = subst (λ (s : TargetState). Passes s back) (call_after p base k u ask) (passes_second u first back pass)

  here_after : (back : List Entry) → after u (actions_in (first ++ back)) ≡ after v (actions_in back)
  here_after back = after_split u first back ∙ ap (λ (s : TargetState). after s (actions_in back)) (call_after p base k u ask)

  fault_beyond : (front : List Entry) (e : Entry) (more : List Entry) → Passes u front → Breaks (after u (actions_in front)) e → (d.end ≢ Faulted) → is_faulted d.end ≡ false → InFirst first front e ⊎ InSecond first rest front e more
      → ((back : List Entry) → rest ≡ back ++ e ∷ more → Passes v back → Breaks (after v (actions_in back)) e → StopsThere (base + 1) d.next d.large asks e) → StopsThere base t large (ask ∷ asks) e
  fault_beyond front e more pass bad ne good (inl i) again = absurd (passes_none u first front e i.more (call_passes p base k large t u f ask ok ne) i.is bad)
  fault_beyond front e more pass bad ne good (inr i) again =
      let here : Breaks (after u (actions_in (first ++ i.back))) e = subst (λ (l : List Entry). Breaks (after u (actions_in l)) e) i.front_is bad in
      fault_later e ne good (again i.back i.is (passed_after i.back (subst (Passes u) i.front_is pass)) (subst (λ (s : TargetState). Breaks s e) (here_after i.back) here))

  fault_by : (front : List Entry) (e : Entry) (more : List Entry) → first ++ rest ≡ front ++ e ∷ more → Passes u front → Breaks (after u (actions_in front)) e → (d.end ≡ Faulted) ⊎ ((d.end ≢ Faulted) × (is_faulted d.end ≡ false))
      → ((d.end ≢ Faulted) → (back : List Entry) → rest ≡ back ++ e ∷ more → Passes v back → Breaks (after v (actions_in back)) e → StopsThere (base + 1) d.next d.large asks e) → StopsThere base t large (ask ∷ asks) e
  fault_by front e more is pass bad (inl end) again = fault_first front e more is pass bad end
  fault_by front e more is pass bad (inr g) again = fault_beyond front e more pass bad g.0 g.1 (seam_in first rest front e more is) (again g.0)

  -- ---- no entry stops

  pub not_faulted : Passes u (numbered_entries base (is_forgiving ask) (issue_of p u k ask).steps) → d.end ≢ Faulted
  not_faulted pass end = by_place (first_break p base k large t u f ask ok end)
    where
      by_place : FirstBreak p base k u ask → ⊥
      by_place b = by_seam b (seam_in (numbered_entries base (is_forgiving ask) (issue_of p u k ask).steps) (numbered_entries (base + 1) false (finish_of p u k ask).steps) b.front b.entry b.more b.is)
        where
          by_seam : (b : FirstBreak p base k u ask) → InFirst (numbered_entries base (is_forgiving ask) (issue_of p u k ask).steps) b.front b.entry ⊎ InSecond (numbered_entries base (is_forgiving ask) (issue_of p u k ask).steps) (numbered_entries (base + 1) false (finish_of p u k ask).steps) b.front b.entry b.more → ⊥
          by_seam b (inl i) = passes_none u (numbered_entries base (is_forgiving ask) (issue_of p u k ask).steps) b.front b.entry i.more pass i.is b.bad
          by_seam b (inr i) = b.own (settles_is b.entry.part (finish_settles (base + 1) ask.settled (issue_of p u k ask).kept i.back b.entry b.more i.is))

  none_first : Passes u (first ++ rest) → d.end ≢ Faulted
  none_first pass = not_faulted (pass_front u (numbered_entries base (is_forgiving ask) (issue_of p u k ask).steps) (numbered_entries (base + 1) false (finish_of p u k ask).steps) (pass_front u first rest pass))

  none_more : (d.end ≢ Faulted) → NoneStops d.next d.large asks → NoneStops t large (ask ∷ asks)
  none_more ne s = record {
    none = (ne, s.none);
    stops = λ n h. (let g = live_more n (length asks) h in stop_goes t large n ask asks g.0 (good_end d.end ne) ∙ ap (later_by 1) (s.stops (one_fewer n) g.1));
  }

  -- ---- an entry after which nothing is answered

  stays_first : (front : List Entry) (e : Entry) → InFirst (numbered_entries base (is_forgiving ask) (issue_of p u k ask).steps) front e → StaysThere base t large (ask ∷ asks) e
  stays_first front e i = record {
    at = 0;
    lines = lines_own base e (numbered_unit base (is_forgiving ask) (issue_of p u k ask).steps front e i.more i.is) ∙ omega arith;
    within = omega arith;
    none = tt;
    stops = inl refl;
  }

  stays_finish : (front back more : List Entry) (e : Entry) → Passes u front → front ≡ numbered_entries base (is_forgiving ask) (issue_of p u k ask).steps ++ back → numbered_entries (base + 1) false (finish_of p u k ask).steps ≡ back ++ e ∷ more → StaysThere base t large (ask ∷ asks) e
  stays_finish front back more e pass front_is is =
      let ne : d.end ≢ Faulted = not_faulted (pass_front u (numbered_entries base (is_forgiving ask) (issue_of p u k ask).steps) back (subst (Passes u) front_is pass)) in
      let mark : settles e.part ≡ true = finish_settles (base + 1) ask.settled (issue_of p u k ask).kept back e more is in
      let number : e.unit ≡ cond (settles e.part) (base + 1) (base + 1 + 1) = numbered_unit (base + 1) false (finish_of p u k ask).steps back e more is in
      record {
        at = 1;
        lines = ap (λ (b : Bool). cond b e.unit (e.unit - 1)) mark ∙ number ∙ ap (λ (b : Bool). cond b (base + 1) (base + 1 + 1)) mark;
        within = omega arith;
        none = (ne, tt);
        stops = stops_by asks ne (finish_marked (base + 1) ask.settled (issue_of p u k ask).kept back e more is);
      }
    where
      stops_by : (qs : List Ask) → d.end ≢ Faulted → ask.settled ≡ true → (stop (world_at t large (Some 1)) (ask ∷ qs) ≡ Some 2) ⊎ ((stop (world_at t large (Some 1)) (ask ∷ qs) ≡ None) × ((1 ≡ suc (length qs)) × (is_settled (ask ∷ qs) ≡ true)))
      stops_by [] ne mark = inr (stop_goes t large (Some 1) ask [] refl (good_end d.end ne), (refl, mark))
      stops_by (q ∷ qs) ne mark = inl (stop_goes t large (Some 1) ask (q ∷ qs) refl (good_end d.end ne))

  stays_later : (e : Entry) (back more : List Entry) → rest ≡ back ++ e ∷ more → d.end ≢ Faulted → StaysThere (base + 1) d.next d.large asks e → StaysThere base t large (ask ∷ asks) e
  stays_later e back more is ne s = record {
    at = suc s.at;
    lines = s.lines ∙ omega arith;
    within = (let w = s.within in omega (arith, w));
    none = (ne, s.none);
    stops = stops_by s.at s.stops;
  }
    where
      stops_by : (n : ℕ) → (stop (world_at d.next d.large (Some n)) asks ≡ Some (suc n)) ⊎ ((stop (world_at d.next d.large (Some n)) asks ≡ None) × ((n ≡ length asks) × (is_settled asks ≡ true)))
          → (stop (world_at t large (Some (suc n))) (ask ∷ asks) ≡ Some (suc (suc n))) ⊎ ((stop (world_at t large (Some (suc n))) (ask ∷ asks) ≡ None) × ((suc n ≡ length (ask ∷ asks)) × (is_settled (ask ∷ asks) ≡ true)))
      stops_by n (inl h) = inl (stop_goes t large (Some (suc n)) ask asks refl (good_end d.end ne) ∙ ap (later_by 1) h ∙ (let same : 1 + suc n ≡ suc (suc n) = omega arith in ap Some same))
      stops_by n (inr h) = inr (stop_goes t large (Some (suc n)) ask asks refl (good_end d.end ne) ∙ ap (later_by 1) h.0, (ap suc h.1.0, settled_later p (base + 1) (finish_of p u k ask).kept v ask asks back e more is h.1.1))

  stays_by : (front : List Entry) (e : Entry) (more : List Entry) → first ++ rest ≡ front ++ e ∷ more → Passes u front → ((d.end ≢ Faulted) → (back : List Entry) → rest ≡ back ++ e ∷ more → Passes v back → StaysThere (base + 1) d.next d.large asks e) → StaysThere base t large (ask ∷ asks) e
  stays_by front e more is pass again = by_seam (seam_in first rest front e more is)
    where
      by_half : (more' : List Entry) → InFirst (numbered_entries base (is_forgiving ask) (issue_of p u k ask).steps) front e ⊎ InSecond (numbered_entries base (is_forgiving ask) (issue_of p u k ask).steps) (numbered_entries (base + 1) false (finish_of p u k ask).steps) front e more' → StaysThere base t large (ask ∷ asks) e
      by_half more' (inl i) = stays_first front e i
      by_half more' (inr i) = stays_finish front i.back more' e pass i.front_is i.is

      by_seam : InFirst first front e ⊎ InSecond first rest front e more → StaysThere base t large (ask ∷ asks) e
      by_seam (inl i) = by_half i.more (seam_in (numbered_entries base (is_forgiving ask) (issue_of p u k ask).steps) (numbered_entries (base + 1) false (finish_of p u k ask).steps) front e i.more i.is)
      by_seam (inr i) =
          let both : Passes u (first ++ i.back) = subst (Passes u) i.front_is pass in
          let ne : d.end ≢ Faulted = none_first_of (pass_front u first i.back both) in
          stays_later e i.back more i.is ne (again ne i.back i.is (passed_after i.back both))
        where
          none_first_of : Passes u first → d.end ≢ Faulted
          none_first_of pass = not_faulted (pass_front u (numbered_entries base (is_forgiving ask) (issue_of p u k ask).steps) (numbered_entries (base + 1) false (finish_of p u k ask).steps) pass)

-- ---- lists

pub list_faults : (p : Planner) (base : ℕ) (k : Kept) (large : List ℕ) (t u : TargetState) → Follows k large t u → (asks : List Ask) → AreAskable asks → (front : List Entry) (e : Entry) (more : List Entry) →
    issued_from p base k u asks ≡ front ++ e ∷ more → Passes u front → Breaks (after u (actions_in front)) e → StopsThere base t large asks e
list_faults p base k large t u f [] ok [] e more is pass bad = absurd (cc)
list_faults p base k large t u f [] ok (x ∷ front) e more is pass bad = absurd (cc)
list_faults p base k large t u f (ask ∷ asks) ok front e more is pass bad =
    fault_by p base k large t u f ask asks ok.0 front e more is pass bad (ends_how (call_alone t large ask).end)
    (λ ne back i q b. list_faults p (base + 1) (finish_of p u k ask).kept (call_alone t large ask).large (call_alone t large ask).next (after u (actions_of (steps_at p u k ask)))
    (step_follows p IsAskable (call_course p) k large t u f ask ok.0 ne) asks ok.1 back e more i q b)

pub list_stays : (p : Planner) (base : ℕ) (k : Kept) (large : List ℕ) (t u : TargetState) → Follows k large t u → (asks : List Ask) → AreAskable asks → (front : List Entry) (e : Entry) (more : List Entry) →
    issued_from p base k u asks ≡ front ++ e ∷ more → Passes u front → StaysThere base t large asks e
list_stays p base k large t u f [] ok [] e more is pass = absurd (cc)
list_stays p base k large t u f [] ok (x ∷ front) e more is pass = absurd (cc)
list_stays p base k large t u f (ask ∷ asks) ok front e more is pass =
    stays_by p base k large t u f ask asks ok.0 front e more is pass
    (λ ne back i q. list_stays p (base + 1) (finish_of p u k ask).kept (call_alone t large ask).large (call_alone t large ask).next (after u (actions_of (steps_at p u k ask)))
    (step_follows p IsAskable (call_course p) k large t u f ask ok.0 ne) asks ok.1 back e more i q)

pub list_none : (p : Planner) (base : ℕ) (k : Kept) (large : List ℕ) (t u : TargetState) → Follows k large t u → (asks : List Ask) → AreAskable asks → Passes u (issued_from p base k u asks) → NoneStops t large asks
list_none p base k large t u f [] ok pass = record { none = tt; stops = λ n h. refl }
list_none p base k large t u f (ask ∷ asks) ok pass =
    let ne = none_first p base k large t u f ask asks ok.0 pass in
    let both = passes_second u (entries_at p base u k ask) (rest p base k large t u f ask asks ok.0) pass in
    none_more p base k large t u f ask asks ok.0 ne
    (list_none p (base + 1) (finish_of p u k ask).kept (call_alone t large ask).large (call_alone t large ask).next (after u (actions_of (steps_at p u k ask)))
    (step_follows p IsAskable (call_course p) k large t u f ask ok.0 ne) asks ok.1 (subst (λ (s : TargetState). Passes s (rest p base k large t u f ask asks ok.0)) (call_after p base k u ask) both))

pub fault_stops : FaultStops
fault_stops p t asks front e more fresh ok is pass bad strict = list_faults p 0 nothing_kept [] t t (fresh_follows t fresh) asks ok front e more is pass (record { bad = bad; strict = strict })

pub wait_stops : WaitStops
wait_stops p t asks front e more fresh ok is pass = list_stays p 0 nothing_kept [] t t (fresh_follows t fresh) asks ok front e more is pass

pub passing_stops : PassingStops
passing_stops p t asks fresh ok pass = list_none p 0 nothing_kept [] t t (fresh_follows t fresh) asks ok pass
