-- What the plain planner issues is what calls issue when each is made alone.
use Rattle.std.proofs.Common.{◌≡◌, ◌≢◌, ◌∙◌, ℕ, ◌+◌, ◌<◌, ◌⊎◌, inl, inr, Bool, true, false, cond, eqb, not, ◌&&◌, nat_lt, List, [], ◌∷◌, ◌++◌, length, Option, None, refl, sym, ap, subst, arith, append-nil, is_some}
use Rattle.std.proofs.lemmas.Bool.{cases_eq}
use Rattle.std.proofs.lemmas.List.{length-replicate}
use Rattle.std.proofs.Math.Bool.{and-false}
use Rattle.access_regs.proofs.AllCalls.{known_nothing}
use Rattle.access_regs.proofs.EntryLemmas.{settle_none}
use Rattle.access_regs.proofs.Forgiving.{actions_parts, contains_one, joined_other, joined_same, memory_done, port_done}
use Rattle.access_regs.proofs.MemoryShape.{csw_at, memory_shape, shape}
use Rattle.access_regs.proofs.Lists.{actions_entries, actions_in_append}
use Rattle.access_regs.proofs.PortFacts.{known_other, known_same, table_kept}
use Rattle.access_regs.specs.Alone.{actions_alone, call_alone, alone_after}
use Rattle.access_regs.specs.Journal.{Issue, Step, actions_of, after_settling, alone_at, before, by_cfg, done_alone, entries_at, finish, finish_of, is_early, issue, issue_of, issued_from, kept_at, large_of, last_action, making, issue_of_plan, port_of, steps_at, steps_of, target_at}
use Rattle.access_regs.specs.Kept.{Kept, forgotten, known_at, nothing_kept, kept_with_select, unknown, with_known}
use Rattle.access_regs.specs.Laws.{PlainIsAlone}
use Rattle.access_regs.specs.Plan.{kept_after_plan, must_follow_settling, settled_at, settling}
use Rattle.access_regs.specs.declared.known.Known.{Known}
use Rattle.access_regs.specs.declared.known.Unsettled.{Unsettled}
use Rattle.access_regs.specs.declared.planner.Planner.TheVariants.{Plain}
use Rattle.access_regs.proofs.KeptLemmas.{ended_large}
use Rattle.target_calls.specs.Asks.{AreAskable, IsAskable, IsCallInRange}
use Rattle.target_calls.specs.Journal.{actions_in}
use Rattle.target_calls.specs.declared.calls.Ask.{Ask}
use Rattle.target_calls.specs.declared.journal.Part.TheVariants.{Ends, Settles}
use Rattle.target_machine.proofs.ActionLists.{after_append, after_issued}
use Rattle.target_machine.specs.Lists.{after}
use Rattle.target_machine.specs.Plain.{Action, CallDone, Commands, action_attempt, call_actions, call_done, command_attempt, contains, ended_call, forgives, given_number, has_large, in_order, is_fault, issued_actions, large_after, may_forgive, result_of, unit_actions}
use Rattle.target_machine.specs.State.{TargetState}
use Rattle.target_machine.specs.declared.unit.Call.{Call}
use Rattle.target_machine.specs.declared.unit.Call.TheVariants.{Access, Probe}
use Rattle.target_machine.specs.declared.unit.Unit.{Unit as AccessUnit}
use Rattle.target_machine.specs.declared.unit.Unit.TheVariants as unit

-- ---- a call alone

ended_next : (b f s : Bool) (v : ℕ) (t u : TargetState) (l : List ℕ) (xs : List Action) → after t xs ≡ u → after t (ended_call b f s v u l xs).actions ≡ (ended_call b f s v u l xs).next
ended_next true true s v t u l xs e = after_append t xs (Commands forgives ∷ []) ∙ ap (λ (w : TargetState). (command_attempt w forgives).next) e
ended_next true false s v t u l xs e = e
ended_next false f true v t u l xs e = e
ended_next false f false v t u l xs e = e

-- the target after a call is the one after what it issues
next_after : (t : TargetState) (large : List ℕ) (forgive : Bool) (call : Call) → after t (call_done t large forgive call).actions ≡ (call_done t large forgive call).next
unfolding call_done
next_after t large forgive call = ended_next _ _ _ _ t (in_order t (call_actions t large call)).next _ (issued_actions t (call_actions t large call)) (after_issued (call_actions t large call) t)

-- the same except for the list of APs
ended_other : (b f s : Bool) (v : ℕ) (t : TargetState) (l m : List ℕ) (xs : List Action) → (ended_call b f s v t l xs).actions ≡ (ended_call b f s v t m xs).actions
ended_other true true s v t l m xs = refl
ended_other true false s v t l m xs = refl
ended_other false f true v t l m xs = refl
ended_other false f false v t l m xs = refl

-- two lists that say the same of the unit's AP
record SameDone (n : ℕ) (large : List ℕ) (x y : CallDone) : Type 0 where
  actions : x.actions ≡ y.actions
  here : contains x.large n ≡ contains y.large n
  others : (q : ℕ) → q ≢ n → contains y.large q ≡ contains large q

ended_pair : (b f s : Bool) (v : ℕ) (t : TargetState) (xs : List Action) (n : ℕ) (l m : List ℕ) (joins : Bool) → contains l n ≡ contains m n →
    SameDone n m (ended_call b f s v t (cond joins (l ++ n ∷ []) l) xs) (ended_call b f s v t (cond joins (m ++ n ∷ []) m) xs)
ended_pair b f s v t xs n l m joins same = record {
  actions = ended_other b f s v t (cond joins (l ++ n ∷ []) l) (cond joins (m ++ n ∷ []) m) xs;
  here =
      ap (λ (x : List ℕ). contains x n) (ended_large b f s v t (cond joins (l ++ n ∷ []) l) xs) ∙ joined_same l m n joins same
      ∙ sym (ap (λ (x : List ℕ). contains x n) (ended_large b f s v t (cond joins (m ++ n ∷ []) m) xs));
  others = λ q ne. ap (λ (x : List ℕ). contains x q) (ended_large b f s v t (cond joins (m ++ n ∷ []) m) xs) ∙ joined_other m n q joins ne;
}

module _ (t : TargetState) (forgive : Bool) (size : ℕ) (read : Bool) (n address value : ℕ) where
  abbrev memory_unit : AccessUnit
  memory_unit = unit.Memory size read n address value

  abbrev wide : Bool → Bool
  wide c = nat_lt 0xFFFF_FFFF address && not c

  abbrev acts : Bool → List Action
  acts c = shape size read n address value (wide c) (has_large t n) c (csw_at size read n address value t (wide c))

  abbrev done_by : Bool → List ℕ → List Action → CallDone
  done_by c l xs =
      ended_call (is_fault (in_order t xs).outcome) forgive (wide c && not (has_large t n)) (result_of (Access memory_unit) (given_number (in_order t xs).outcome)) (in_order t xs).next
      (cond (wide c && has_large t n) (l ++ n ∷ []) l) (issued_actions t xs)

  done_is : (l : List ℕ) → call_done t l forgive (Access memory_unit) ≡ done_by (contains l n) l (acts (contains l n))
  done_is l = memory_done forgive t l size read n address value ∙ ap (done_by (contains l n) l) (memory_shape size read n address value t l)

  memory_same : (l m : List ℕ) → contains l n ≡ contains m n → SameDone n m (call_done t l forgive (Access memory_unit)) (call_done t m forgive (Access memory_unit))
  memory_same l m same =
      let xs : List Action = acts (contains m n) in
      let pair : SameDone n m (done_by (contains m n) l xs) (done_by (contains m n) m xs) =
      ended_pair (is_fault (in_order t xs).outcome) forgive (wide (contains m n) && not (has_large t n)) (result_of (Access memory_unit) (given_number (in_order t xs).outcome)) (in_order t xs).next (issued_actions t xs) n l m (wide (contains m n) && has_large t n) same in
      subst (λ (x : CallDone). SameDone n m x (call_done t m forgive (Access memory_unit))) (sym (done_is l ∙ ap (λ (c : Bool). done_by c l (acts c)) same))
      (subst (SameDone n m (done_by (contains m n) l xs)) (sym (done_is m)) pair)

port_same : (t : TargetState) (forgive read : Bool) (n addr value : ℕ) (l m : List ℕ) → contains l n ≡ contains m n →
    SameDone n m (call_done t l forgive (Access (unit.Ap read n addr value))) (call_done t m forgive (Access (unit.Ap read n addr value)))
port_same t forgive read n addr value l m same =
    let xs : List Action = unit_actions t l (unit.Ap read n addr value) in
    let D : List ℕ → CallDone = λ x. ended_call (is_fault (in_order t xs).outcome) forgive false (result_of (Access (unit.Ap read n addr value)) (given_number (in_order t xs).outcome)) (in_order t xs).next x (issued_actions t xs) in
    let pair : SameDone n m (D l) (D m) =
    ended_pair (is_fault (in_order t xs).outcome) forgive false (result_of (Access (unit.Ap read n addr value)) (given_number (in_order t xs).outcome)) (in_order t xs).next (issued_actions t xs) n l m false same in
    subst (λ (x : CallDone). SameDone n m x (call_done t m forgive (Access (unit.Ap read n addr value)))) (sym (port_done forgive t l read n addr value))
    (subst (SameDone n m (D l)) (sym (port_done forgive t m read n addr value)) pair)

-- a call of one action
one_action : (t : TargetState) (x : Action) → issued_actions t (x ∷ []) ≡ x ∷ []
one_action t x = by_fault (is_fault (action_attempt t x).outcome)
  where
    by_fault : (b : Bool) → x ∷ cond b [] [] ≡ x ∷ []
    by_fault true = refl
    by_fault false = refl

ended_strict : (b f s : Bool) (v : ℕ) (t : TargetState) (l : List ℕ) (xs : List Action) → f ≡ false → (ended_call b f s v t l xs).actions ≡ xs
ended_strict true true s v t l xs e = absurd (cc)
ended_strict true false s v t l xs e = refl
ended_strict false f true v t l xs e = refl
ended_strict false f false v t l xs e = refl

-- a DP unit, a poll or a command of the probe
record IsSingle (call : Call) (x : Action) : Type 0 where
  strict : may_forgive call ≡ false
  acts : (t : TargetState) (large : List ℕ) → call_actions t large call ≡ x ∷ []
  list : (t : TargetState) (large : List ℕ) → large_after t large call ≡ large

single_actions : (t : TargetState) (large : List ℕ) (forgive : Bool) (call : Call) (x : Action) → IsSingle call x → (call_done t large forgive call).actions ≡ x ∷ []
unfolding call_done
single_actions t large forgive call x s =
    ended_strict _ _ _ _ _ _ (issued_actions t (call_actions t large call)) (ap (λ (b : Bool). forgive && b) s.strict ∙ and-false forgive)
    ∙ ap (issued_actions t) (s.acts t large) ∙ one_action t x

single_large : (t : TargetState) (large : List ℕ) (forgive : Bool) (call : Call) (x : Action) → IsSingle call x → (call_done t large forgive call).large ≡ large
unfolding call_done
single_large t large forgive call x s = ended_large _ _ _ _ _ _ _ ∙ s.list t large

-- ---- what is kept

-- nothing is unsettled, and of each AP is known whether it has large addresses
record Knows (k : Kept) (large : List ℕ) : Type 0 where
  calm : k.unsettled ≡ None
  table : length k.ports ≡ 256
  larges : (q : ℕ) → q < 256 → (known_at k q).large ≡ contains large q

-- a call issues what it makes alone, and that is known after it
record GoesAlone (i : Issue) (d : CallDone) : Type 0 where
  actions : actions_of i.steps ≡ d.actions
  knows : Knows i.kept d.large

-- nothing is settled
calm_issue : (k : Kept) (t : TargetState) (next : TargetState → Kept → Issue) → k.unsettled ≡ None → after_settling t k next ≡ next t k
calm_issue k t next calm =
    subst (λ (o : Option Unsettled). before (steps_of Settles (settling k o)) (next (after t (making (settling k o))) (settled_at k o)) ≡ next t k) (sym calm) refl

-- a unit that is made alone
alone_goes : (k : Kept) (large : List ℕ) (t : TargetState) (forgive : Bool) (asked : AccessUnit) (d : CallDone) → Knows k large → port_of asked < 256 → SameDone (port_of asked) large (done_alone t k forgive asked) d →
    GoesAlone (alone_at forgive asked t k) d
alone_goes k large t forgive asked d h lt same = record {
  actions = actions_parts (is_early asked (done_alone t k forgive asked).actions) asked (done_alone t k forgive asked).actions ∙ same.actions;
  knows = record { calm = h.calm; table = table_kept k n a ∙ h.table; larges = λ q less. larges_at q less (cases_eq q n) };
}
  where
    n : ℕ
    n = port_of asked

    a : Known
    a = record (forgotten (known_at k (port_of asked))) { large = contains (done_alone t k forgive asked).large (port_of asked) }

    there : n < length k.ports
    there = (let e = h.table in omega (arith, e, lt))

    larges_at : (q : ℕ) → q < 256 → (q ≡ n) ⊎ (q ≢ n) → (known_at (with_known k n a) q).large ≡ contains d.large q
    larges_at q less (inl is) = ap (λ (i : ℕ). (known_at (with_known k n a) i).large) is ∙ ap (λ (x : Known). x.large) (known_same k n a there) ∙ same.here ∙ ap (contains d.large) (sym is)
    larges_at q less (inr ne) = ap (λ (x : Known). x.large) (known_other k n q a ne) ∙ h.larges q less ∙ sym (same.others q ne)

-- a unit that has no more than its plan
plan_goes : (k : Kept) (large : List ℕ) (t : TargetState) (forgive : Bool) (asked : AccessUnit) → Knows k large → IsSingle (Access asked) (last_action asked) → by_cfg t k asked ≡ record { steps = record { part = Ends; action = last_action asked } ∷ []; kept = kept_after_plan k asked } →
    Knows (kept_after_plan k asked) large → GoesAlone (issue_of_plan t k asked) (call_done t large forgive (Access asked))
plan_goes k large t forgive asked h single plan knows =
    subst (λ (i : Issue). GoesAlone i (call_done t large forgive (Access asked))) (sym (unsettled ∙ plan)) (record {
      actions = sym (single_actions t large forgive (Access asked) (last_action asked) single);
      knows = subst (Knows (kept_after_plan k asked)) (sym (single_large t large forgive (Access asked) (last_action asked) single)) knows;
    })
  where
    unsettled : issue_of_plan t k asked ≡ by_cfg t k asked
    unsettled = ap (λ (o : Option Unsettled). cond (is_some o && must_follow_settling k asked) (after_settling t k (λ u l. by_cfg u l asked)) (by_cfg t k asked)) h.calm

selects_knows : (k : Kept) (large : List ℕ) (b : Bool) (value : ℕ) → Knows k large → Knows (cond b (kept_with_select k value) k) large
selects_knows k large true value h = record { calm = h.calm; table = h.table; larges = h.larges }
selects_knows k large false value h = h

dp_single : (read : Bool) (addr value : ℕ) → IsSingle (Access (unit.Dp read addr value)) (last_action (unit.Dp read addr value))
dp_single read addr value = record { strict = refl; acts = λ t large. refl; list = λ t large. refl }

call_goes_alone : (k : Kept) (large : List ℕ) (t : TargetState) (c : Ask) → Knows k large → IsAskable c → GoesAlone (issue_of Plain t k c) (call_alone t large c)
call_goes_alone k large t c h ok = by_call c.call ok.range
  where
    one : (n : ℕ) → n < 256 → contains (cond (known_at k n).large (n ∷ []) []) n ≡ contains large n
    one n lt = contains_one (known_at k n).large n ∙ h.larges n lt

    by_call : (call : Call) → IsCallInRange call → GoesAlone (issue Plain t k c.forgive call) (call_done t large c.forgive call)
    by_call (Access (unit.Memory size read n address value)) range =
        let asked : AccessUnit = unit.Memory size read n address value in
        subst (λ (i : Issue). GoesAlone i (call_done t large c.forgive (Access asked))) (sym (calm_issue k t (alone_at c.forgive asked) h.calm))
        (alone_goes k large t c.forgive asked (call_done t large c.forgive (Access asked)) h range.0 (memory_same t c.forgive size read n address value (large_of k asked) large (one n range.0)))
    by_call (Access (unit.Ap read n addr value)) range =
        let asked : AccessUnit = unit.Ap read n addr value in
        subst (λ (i : Issue). GoesAlone i (call_done t large c.forgive (Access asked))) (sym (calm_issue k t (alone_at c.forgive asked) h.calm))
        (alone_goes k large t c.forgive asked (call_done t large c.forgive (Access asked)) h range.0 (port_same t c.forgive read n addr value (large_of k asked) large (one n range.0)))
    by_call (Access (unit.Dp read addr value)) range =
        plan_goes k large t c.forgive (unit.Dp read addr value) h (dp_single read addr value) refl (selects_knows k large (not read && eqb addr 8) value h)
    by_call (Access (unit.Poll mask value turns)) range =
        plan_goes k large t c.forgive (unit.Poll mask value turns) h (record { strict = refl; acts = λ t large. refl; list = λ t large. refl }) refl h
    by_call (Probe x) range =
        let single : IsSingle (Probe x) (Commands x) = record { strict = refl; acts = λ t large. refl; list = λ t large. refl } in
        record { actions = sym (single_actions t large c.forgive (Probe x) (Commands x) single); knows = subst (Knows k) (sym (single_large t large c.forgive (Probe x) (Commands x) single)) h }

-- ---- lists of calls

finish_nothing : (b : Bool) (k : Kept) → k.unsettled ≡ None → ((finish b k).steps ≡ []) × ((finish b k).kept ≡ k)
finish_nothing true k calm = let n = settle_none k calm in (ap (steps_of Settles) n.0, n.1)
finish_nothing false k calm = (refl, refl)

-- what calls issue, and the target after that
abbrev GoAlone : ℕ → Kept → List ℕ → TargetState → List Ask → Type 0
GoAlone n k large t cs = (actions_in (issued_from Plain n k t cs) ≡ actions_alone t large cs) × (after t (actions_in (issued_from Plain n k t cs)) ≡ alone_after t large cs)

module _ (n : ℕ) (k : Kept) (large : List ℕ) (t : TargetState) (c : Ask) (cs : List Ask) (g : GoesAlone (issue_of Plain t k c) (call_alone t large c)) where
  abbrev d : CallDone
  d = call_alone t large c

  none : ((finish_of Plain t k c).steps ≡ []) × ((finish_of Plain t k c).kept ≡ (issue_of Plain t k c).kept)
  none = finish_nothing c.settled (issue_of Plain t k c).kept g.knows.calm

  own : actions_of (steps_at Plain t k c) ≡ d.actions
  own = ap (λ (l : List Step). actions_of ((issue_of Plain t k c).steps ++ l)) none.0 ∙ ap actions_of (append-nil (issue_of Plain t k c).steps) ∙ g.actions

  at : target_at Plain t k c ≡ d.next
  at = ap (after t) own ∙ next_after t large c.forgive c.call

  knows_then : Knows (kept_at Plain t k c) d.large
  knows_then = subst (λ (l : Kept). Knows l d.large) (sym none.1) g.knows

  step_goes : GoAlone (n + 1) (kept_at Plain t k c) d.large d.next cs → GoAlone n k large t (c ∷ cs)
  step_goes again = (whole, ap (after t) whole ∙ after_append t d.actions (actions_alone d.next d.large cs) ∙ ap (λ (s : TargetState). after s (actions_alone d.next d.large cs)) (next_after t large c.forgive c.call) ∙ ap (after d.next) (sym again.0) ∙ again.1)
    where
      whole : actions_in (issued_from Plain n k t (c ∷ cs)) ≡ d.actions ++ actions_alone d.next d.large cs
      whole =
          actions_in_append (entries_at Plain n t k c) (issued_from Plain (n + 1) (kept_at Plain t k c) (target_at Plain t k c) cs)
          ∙ ap (λ (l : List Action). l ++ actions_in (issued_from Plain (n + 1) (kept_at Plain t k c) (target_at Plain t k c) cs)) (actions_entries Plain n t k c ∙ own)
          ∙ ap (λ (s : TargetState). d.actions ++ actions_in (issued_from Plain (n + 1) (kept_at Plain t k c) s cs)) at
          ∙ ap (λ (l : List Action). d.actions ++ l) again.0

list_goes : (n : ℕ) (k : Kept) (large : List ℕ) (t : TargetState) (cs : List Ask) → Knows k large → AreAskable cs → GoAlone n k large t cs
list_goes n k large t [] h ok = (refl, refl)
list_goes n k large t (c ∷ cs) h ok =
    let g = call_goes_alone k large t c h ok.0 in
    step_goes n k large t c cs g (list_goes (n + 1) (kept_at Plain t k c) (call_alone t large c).large (call_alone t large c).next cs (knows_then n k large t c cs g) ok.1)

pub plain_is_alone : PlainIsAlone
plain_is_alone t calls ok =
    list_goes 0 nothing_kept [] t calls (record { calm = refl; table = length-replicate 256 unknown; larges = λ q less. ap (λ (x : Known). x.large) (known_nothing q) }) ok
