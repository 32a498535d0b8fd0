-- An access made at once is the call of its unit.
use Rattle.std.proofs.Common.{◌≡◌, ◌∙◌, ℕ, ◌/◌, ◌%◌, Bool, true, false, cond, not, ◌&&◌, length, take, List, [], ◌∷◌, ◌++◌, map, sym, subst, refl, ap}
use Rattle.std.proofs.lemmas.Bool.{true≢false, false≢true}
use Rattle.std.proofs.lemmas.List.{append-nil}
use Rattle.target_machine.specs.Attempt.{Attempt, attempt}
use Rattle.target_machine.specs.Plain.{Action, Makes, CallDone, CallEnd, Answered, Skipped, Faulted, Small, in_order, is_fault, given_number, issued_actions, csw_actions, cfg_actions, transfer_actions, memory_actions, has_large, contains, needs_cfg, unit_actions, result_of, from_lanes, may_forgive, ended_call, command_attempt, forgives, call_done, select_of, ap_access_of, dp_read_of, dp_write_of, poll_result}
use Rattle.target_calls.specs.World.{is_faulted}
use Rattle.dap_base.specs.Bits.{has_bit}
use Rattle.target_machine.specs.Registers.{cfg_la}
use Rattle.target_machine.specs.declared.access.Outcome.TheVariants as outcome
use Rattle.target_machine.specs.State.{TargetState}
use Rattle.target_machine.specs.declared.access.Outcome.{Outcome}
use Rattle.target_machine.specs.declared.access.RegAccess.{RegAccess}
use Rattle.target_machine.specs.declared.unit.Call.{Call}
use Rattle.target_machine.specs.declared.unit.Call.TheVariants.{Access, Probe}
use Rattle.target_machine.specs.declared.unit.ProbeCall.{ProbeCall}
use Rattle.target_machine.specs.declared.unit.Unit.{Unit as AccessUnit}
use Rattle.target_machine.specs.declared.unit.Unit.TheVariants as unit
use Rattle.direct_calls.specs.Made.{IsDone, end_by, memory_end_by}
use Rattle.direct_calls.proofs.ActionLemmas.{joined_fault, joined_pass}

cons_nil : (a : Action) (rest : List Action) → a ∷ rest ≡ [] → ⊥
cons_nil a rest e = cc

-- ---- the transfer of a memory access

module _ (t : TargetState) (large : Bool) (size : ℕ) (read : Bool) (n address value : ℕ) where
  pub transfer_fault : (x : Attempt) → x ≡ in_order t (csw_actions n) → is_fault x.outcome ≡ true → x ≡ in_order t (memory_actions t large size read n address value)
  transfer_fault x is bad = joined_fault t (csw_actions n) (transfer_actions large size read address value (given_number (in_order t (csw_actions n)).outcome)) x is bad

  pub transfer_pass : (x y : Attempt) → x ≡ in_order t (csw_actions n) → is_fault x.outcome ≡ false → y ≡ in_order x.next (transfer_actions large size read address value (given_number x.outcome))
      → y ≡ in_order t (memory_actions t large size read n address value)
  transfer_pass x y is good next =
      let csw : given_number x.outcome ≡ given_number (in_order t (csw_actions n)).outcome = ap (λ (z : Attempt). given_number z.outcome) is in
      joined_pass t (csw_actions n) (transfer_actions large size read address value (given_number (in_order t (csw_actions n)).outcome)) x y (cons_nil _ _) is good (next ∙ ap (λ (k : ℕ). in_order x.next (transfer_actions large size read address value k)) csw)

-- ---- the calls

-- a call that forgives nothing, from what its actions come to
plain : Bool → ℕ → Attempt → List ℕ → List Action → CallDone
plain small n x large actions = ended_call (is_fault x.outcome) false small n x.next large actions

plain_end : (b : Bool) (n : ℕ) (next : TargetState) (large : List ℕ) (actions : List Action) → IsDone (ended_call b false false n next large actions) (cond b Faulted (Answered n)) next large
plain_end true n next large actions = record { end_is = refl; next_is = refl; large_is = refl }
plain_end false n next large actions = record { end_is = refl; next_is = refl; large_is = refl }

pub ap_done : (t : TargetState) (large : List ℕ) (read : Bool) (n addr value : ℕ) (x : Attempt) → x ≡ in_order t (unit_actions t large (unit.Ap read n addr value))
    → IsDone (call_done t large false (Access (unit.Ap read n addr value))) (end_by x.outcome) x.next large
unfolding call_done
ap_done t large read n addr value x is =
    subst (λ (y : Attempt). IsDone (call_done t large false (Access (unit.Ap read n addr value))) (end_by y.outcome) y.next large) (sym is)
    (plain_end (is_fault (in_order t (unit_actions t large (unit.Ap read n addr value))).outcome) _ _ large _)

pub dp_done : (t : TargetState) (large : List ℕ) (read : Bool) (addr value : ℕ) (x : Attempt) → x ≡ in_order t (unit_actions t large (unit.Dp read addr value))
    → IsDone (call_done t large false (Access (unit.Dp read addr value))) (end_by x.outcome) x.next large
unfolding call_done
dp_done t large read addr value x is =
    subst (λ (y : Attempt). IsDone (call_done t large false (Access (unit.Dp read addr value))) (end_by y.outcome) y.next large) (sym is)
    (plain_end (is_fault (in_order t (unit_actions t large (unit.Dp read addr value))).outcome) _ _ large _)

pub poll_done : (t : TargetState) (large : List ℕ) (mask value turns : ℕ) (x : Attempt) → x ≡ in_order t (unit_actions t large (unit.Poll mask value turns))
    → IsDone (call_done t large false (Access (unit.Poll mask value turns))) (end_by x.outcome) x.next large
unfolding call_done
poll_done t large mask value turns x is =
    subst (λ (y : Attempt). IsDone (call_done t large false (Access (unit.Poll mask value turns))) (end_by y.outcome) y.next large) (sym is)
    (plain_end (is_fault (in_order t (unit_actions t large (unit.Poll mask value turns))).outcome) _ _ large _)

-- ---- memory

module _ (t : TargetState) (large : List ℕ) (size : ℕ) (read : Bool) (n address value : ℕ) where
  U : AccessUnit
  U = unit.Memory size read n address value

  -- the call, by whether CFG is read and whether the AP has large addresses
  shape : Bool → Bool → List Action → CallDone
  shape w h actions =
      let x : Attempt = in_order t actions in
      ended_call (is_fault x.outcome) false (w && not h) (result_of (Access (unit.Memory size read n address value)) (given_number x.outcome)) x.next (cond (w && h) (large ++ n ∷ []) large) (issued_actions t actions)

  actions_of : Bool → Bool → List Action
  actions_of w h = cond w (cfg_actions n ++ cond h (memory_actions (in_order t (cfg_actions n)).next true size read n address value) []) (memory_actions t (contains large n) size read n address value)

  by_definition : call_done t large false (Access (unit.Memory size read n address value)) ≡ shape (needs_cfg large n address) (has_large t n) (actions_of (needs_cfg large n address) (has_large t n))
  unfolding call_done shape actions_of
  by_definition = refl

  value_of : (r : Bool) (k : ℕ) → result_of (Access (unit.Memory size r n address value)) k ≡ cond r (from_lanes size address k) k
  value_of true k = refl
  value_of false k = refl

  end_one : (b : Bool) (k : ℕ) (next : TargetState) (l : List ℕ) (actions : List Action)
      → IsDone (ended_call b false false (result_of (Access (unit.Memory size read n address value)) k) next l actions) (cond b Faulted (Answered (cond read (from_lanes size address k) k))) next l
  end_one true k next l actions = record { end_is = refl; next_is = refl; large_is = refl }
  end_one false k next l actions = record { end_is = ap Answered (value_of read k); next_is = refl; large_is = refl }

  -- CFG is not read
  pub near_done : (x : Attempt) → needs_cfg large n address ≡ false → x ≡ in_order t (memory_actions t (contains large n) size read n address value)
      → IsDone (call_done t large false (Access (unit.Memory size read n address value))) (memory_end_by size read address x.outcome) x.next large
  unfolding shape actions_of
  near_done x near is =
      let whole : call_done t large false (Access (unit.Memory size read n address value)) ≡ shape false (has_large t n) (actions_of false (has_large t n)) = by_definition ∙ ap (λ (w : Bool). shape w (has_large t n) (actions_of w (has_large t n))) near in
      subst (λ (d : CallDone). IsDone d (memory_end_by size read address x.outcome) x.next large) (sym whole)
      (subst (λ (y : Attempt). IsDone (shape false (has_large t n) (memory_actions t (contains large n) size read n address value)) (memory_end_by size read address y.outcome) y.next large) (sym is)
      (end_one (is_fault (in_order t (memory_actions t (contains large n) size read n address value)).outcome) _ _ large _))

  module _ (wide : needs_cfg large n address ≡ true) where
    whole_by : (h : Bool) → has_large t n ≡ h → call_done t large false (Access (unit.Memory size read n address value)) ≡ shape true h (actions_of true h)
    whole_by h is = by_definition ∙ ap (λ (w : Bool). shape w (has_large t n) (actions_of w (has_large t n))) wide ∙ ap (λ (k : Bool). shape true k (actions_of true k)) is

    -- the AP has large addresses
    pub wide_done : (x y : Attempt) → has_large t n ≡ true → x ≡ in_order t (cfg_actions n) → is_fault x.outcome ≡ false → y ≡ in_order x.next (memory_actions x.next true size read n address value)
        → IsDone (call_done t large false (Access (unit.Memory size read n address value))) (memory_end_by size read address y.outcome) y.next (large ++ n ∷ [])
    unfolding shape actions_of
    wide_done x y h is good next =
        let joined : y ≡ in_order t (cfg_actions n ++ memory_actions x.next true size read n address value) = joined_pass t (cfg_actions n) (memory_actions x.next true size read n address value) x y (cons_nil _ _) is good next in
        let same : y ≡ in_order t (actions_of true true) = joined ∙ ap (λ (u : TargetState). in_order t (cfg_actions n ++ memory_actions u true size read n address value)) (ap (λ (z : Attempt). z.next) is) in
        subst (λ (d : CallDone). IsDone d (memory_end_by size read address y.outcome) y.next (large ++ n ∷ [])) (sym (whole_by true h))
        (subst (λ (z : Attempt). IsDone (shape true true (actions_of true true)) (memory_end_by size read address z.outcome) z.next (large ++ n ∷ [])) (sym same)
        (end_one (is_fault (in_order t (actions_of true true)).outcome) _ _ (large ++ n ∷ []) _))

    short_end : (b : Bool) (k : ℕ) (next : TargetState) (actions : List Action) → IsDone (ended_call b false true k next large actions) (cond b Faulted Small) next large
    short_end true k next actions = record { end_is = refl; next_is = refl; large_is = refl }
    short_end false k next actions = record { end_is = refl; next_is = refl; large_is = refl }

    -- the AP has none, or the read of CFG faulted
    pub short_done : (x : Attempt) → has_large t n ≡ false → x ≡ in_order t (cfg_actions n) → IsDone (call_done t large false (Access (unit.Memory size read n address value))) (cond (is_fault x.outcome) Faulted Small) x.next large
    unfolding shape actions_of
    short_done x h is =
        let same : x ≡ in_order t (cfg_actions n ++ []) = is ∙ ap (in_order t) (sym (append-nil (cfg_actions n))) in
        subst (λ (d : CallDone). IsDone d (cond (is_fault x.outcome) Faulted Small) x.next large) (sym (whole_by false h))
        (subst (λ (z : Attempt). IsDone (shape true false (cfg_actions n ++ [])) (cond (is_fault z.outcome) Faulted Small) z.next large) (sym same)
        (short_end (is_fault (in_order t (cfg_actions n ++ [])).outcome) _ _ _))

-- ---- as the code comes to them

pub ap_made : (t : TargetState) (read : Bool) (n addr value : ℕ) (a b : RegAccess) (o : Outcome) (u : TargetState) (e : CallEnd) → a ≡ select_of n (addr / 16) → b ≡ ap_access_of read (addr % 16) value
    → record { outcome = o; next = u } ≡ in_order t (map Makes (a ∷ b ∷ [])) → e ≡ end_by o → (large : List ℕ) → IsDone (call_done t large false (Access (unit.Ap read n addr value))) e u large
ap_made t read n addr value a b o u e ha hb is he large =
    let acts : record { outcome = o; next = u } ≡ in_order t (Makes (select_of n (addr / 16)) ∷ Makes (ap_access_of read (addr % 16) value) ∷ []) =
    is ∙ ap (λ (x : RegAccess). in_order t (Makes x ∷ Makes b ∷ [])) ha ∙ ap (λ (x : RegAccess). in_order t (Makes (select_of n (addr / 16)) ∷ Makes x ∷ [])) hb in
    subst (λ (k : CallEnd). IsDone (call_done t large false (Access (unit.Ap read n addr value))) k u large) (sym he) (ap_done t large read n addr value (record { outcome = o; next = u }) acts)

pub dp_made : (t : TargetState) (read : Bool) (addr value : ℕ) (a : RegAccess) (o : Outcome) (u : TargetState) (e : CallEnd) → a ≡ cond read (dp_read_of addr) (dp_write_of addr value)
    → record { outcome = o; next = u } ≡ attempt t a → e ≡ end_by o → (large : List ℕ) → IsDone (call_done t large false (Access (unit.Dp read addr value))) e u large
dp_made t read addr value a o u e ha is he large =
    subst (λ (k : CallEnd). IsDone (call_done t large false (Access (unit.Dp read addr value))) k u large) (sym he)
    (dp_done t large read addr value (record { outcome = o; next = u }) (is ∙ ap (λ (x : RegAccess). attempt t x) ha))

pub poll_made : (t : TargetState) (mask value turns : ℕ) (o : Outcome) (u : TargetState) (e : CallEnd) → o ≡ (poll_result turns mask value t).outcome → u ≡ (poll_result turns mask value t).next → e ≡ end_by o
    → (large : List ℕ) → IsDone (call_done t large false (Access (unit.Poll mask value turns))) e u large
poll_made t mask value turns o u e ho hu he large =
    subst (λ (k : CallEnd). IsDone (call_done t large false (Access (unit.Poll mask value turns))) k u large) (sym he)
    (poll_done t large mask value turns (record { outcome = o; next = u }) (ap (λ (x : Outcome). attempt_at x u) ho ∙ ap (λ (x : TargetState). attempt_at (poll_result turns mask value t).outcome x) hu))
  where
    attempt_at : Outcome → TargetState → Attempt
    attempt_at x y = record { outcome = x; next = y }

module _ (t : TargetState) (large : List ℕ) (size : ℕ) (read : Bool) (n address value : ℕ) where
  pub near_made : (b : Bool) (o : Outcome) (u : TargetState) (e : CallEnd) → false ≡ needs_cfg large n address → b ≡ contains large n → record { outcome = o; next = u } ≡ in_order t (memory_actions t b size read n address value)
      → e ≡ memory_end_by size read address o → IsDone (call_done t large false (Access (unit.Memory size read n address value))) e u large
  near_made b o u e near hb is he =
      subst (λ (k : CallEnd). IsDone (call_done t large false (Access (unit.Memory size read n address value))) k u large) (sym he)
      (near_done t large size read n address value (record { outcome = o; next = u }) (sym near) (is ∙ ap (λ (c : Bool). in_order t (memory_actions t c size read n address value)) hb))

  pub wide_made : needs_cfg large n address ≡ true → (v u : TargetState) (o : Outcome) (e : CallEnd) (l : List ℕ) → v ≡ (in_order t (cfg_actions n)).next → is_fault (in_order t (cfg_actions n)).outcome ≡ false → has_large t n ≡ true
      → record { outcome = o; next = u } ≡ in_order v (memory_actions v true size read n address value) → e ≡ memory_end_by size read address o → l ≡ large ++ n ∷ [] → IsDone (call_done t large false (Access (unit.Memory size read n address value))) e u l
  wide_made wide v u o e l hv good h is he hl =
      subst (λ (k : CallEnd). IsDone (call_done t large false (Access (unit.Memory size read n address value))) k u l) (sym he)
      (subst (λ (k : List ℕ). IsDone (call_done t large false (Access (unit.Memory size read n address value))) (memory_end_by size read address o) u k) (sym hl)
      (wide_done t large size read n address value wide (in_order t (cfg_actions n)) (record { outcome = o; next = u }) h refl good (is ∙ ap (λ (w : TargetState). in_order w (memory_actions w true size read n address value)) hv)))

  none_given : (o : Outcome) → is_fault o ≡ true → has_bit (given_number o) cfg_la ≡ false
  none_given (outcome.Value k) h = absurd cc
  none_given outcome.Done h = absurd cc
  none_given outcome.Fault h = refl

  front : (xs ys : List ℕ) (k : ℕ) → k ≡ length xs → take k (xs ++ ys) ≡ xs
  front xs ys k h = ap (λ i. take i (xs ++ ys)) h ∙ all xs
    where
      all : (zs : List ℕ) → take (length zs) (zs ++ ys) ≡ zs
      all [] = none ys
        where
          none : (ws : List ℕ) → take 0 ws ≡ []
          none [] = refl
          none (w ∷ ws) = refl
      all (z ∷ zs) = ap (λ r. z ∷ r) (all zs)

  pub fault_made : needs_cfg large n address ≡ true → (v : TargetState) (l m : List ℕ) (k : ℕ) → v ≡ (in_order t (cfg_actions n)).next → is_fault (in_order t (cfg_actions n)).outcome ≡ true → m ≡ large ++ n ∷ [] → k ≡ length large → l ≡ take k m
      → IsDone (call_done t large false (Access (unit.Memory size read n address value))) Faulted v l
  fault_made wide v l m k hv bad hm hk hl =
      let same : l ≡ large = hl ∙ ap (take k) hm ∙ front large (n ∷ []) k hk in
      subst (λ (r : List ℕ). IsDone (call_done t large false (Access (unit.Memory size read n address value))) Faulted v r) (sym same)
      (subst (λ (w : TargetState). IsDone (call_done t large false (Access (unit.Memory size read n address value))) Faulted w large) (sym hv)
      (subst (λ (b : Bool). IsDone (call_done t large false (Access (unit.Memory size read n address value))) (cond b Faulted Small) (in_order t (cfg_actions n)).next large) bad
      (short_done t large size read n address value wide (in_order t (cfg_actions n)) (none_given _ bad) refl)))

  pub small_made : needs_cfg large n address ≡ true → (v : TargetState) (l m : List ℕ) (k : ℕ) → v ≡ (in_order t (cfg_actions n)).next → is_fault (in_order t (cfg_actions n)).outcome ≡ false → has_large t n ≡ false → m ≡ large ++ n ∷ [] → k ≡ length large → l ≡ take k m
      → IsDone (call_done t large false (Access (unit.Memory size read n address value))) Small v l
  small_made wide v l m k hv good h hm hk hl =
      let same : l ≡ large = hl ∙ ap (take k) hm ∙ front large (n ∷ []) k hk in
      subst (λ (r : List ℕ). IsDone (call_done t large false (Access (unit.Memory size read n address value))) Small v r) (sym same)
      (subst (λ (w : TargetState). IsDone (call_done t large false (Access (unit.Memory size read n address value))) Small w large) (sym hv)
      (subst (λ (b : Bool). IsDone (call_done t large false (Access (unit.Memory size read n address value))) (cond b Faulted Small) (in_order t (cfg_actions n)).next large) good
      (short_done t large size read n address value wide (in_order t (cfg_actions n)) h refl)))

-- ---- faults that are forgiven

-- a fault is not forgiven
kept_one : (b fm s : Bool) (k : ℕ) (u : TargetState) (l : List ℕ) (acts : List Action) (e : CallEnd) (v : TargetState) (r : List ℕ) → (is_faulted e && fm) ≡ false → IsDone (ended_call b false s k u l acts) e v r → IsDone (ended_call b fm s k u l acts) e v r
kept_one true true s k u l acts e v r h d = absurd (true≢false (subst (λ (x : CallEnd). (is_faulted x && true) ≡ false) (sym d.end_is) h))
kept_one true false s k u l acts e v r h d = d
kept_one false true true k u l acts e v r h d = d
kept_one false true false k u l acts e v r h d = d
kept_one false false true k u l acts e v r h d = d
kept_one false false false k u l acts e v r h d = d

pub kept_end : (t : TargetState) (large : List ℕ) (f : Bool) (call : Call) (e : CallEnd) (v : TargetState) (r : List ℕ) → (is_faulted e && (f && may_forgive call)) ≡ false → IsDone (call_done t large false call) e v r → IsDone (call_done t large f call) e v r
unfolding call_done
kept_end t large f call e v r h d = kept_one _ (f && may_forgive call) _ _ _ _ _ e v r h d

skipped_one : (b s : Bool) (k : ℕ) (u : TargetState) (l : List ℕ) (acts : List Action) (e : CallEnd) (v : TargetState) (r : List ℕ) → is_faulted e ≡ true → IsDone (ended_call b false s k u l acts) e v r → IsDone (ended_call b true s k u l acts) Skipped (command_attempt v forgives).next r
skipped_one true s k u l acts e v r h d = record { end_is = refl; next_is = ap (λ (x : TargetState). (command_attempt x forgives).next) d.next_is; large_is = d.large_is }
skipped_one false true k u l acts e v r h d = absurd (false≢true (subst (λ (x : CallEnd). is_faulted x ≡ true) (sym d.end_is) h))
skipped_one false false k u l acts e v r h d = absurd (false≢true (subst (λ (x : CallEnd). is_faulted x ≡ true) (sym d.end_is) h))

skipped_two : (b fm s : Bool) (k : ℕ) (u : TargetState) (l : List ℕ) (acts : List Action) (e : CallEnd) (v : TargetState) (r : List ℕ) → (is_faulted e && fm) ≡ true → IsDone (ended_call b false s k u l acts) e v r → IsDone (ended_call b fm s k u l acts) Skipped (command_attempt v forgives).next r
skipped_two b fm s k u l acts e v r h d = by fm (is_faulted e) refl h
  where
    by : (g p : Bool) → is_faulted e ≡ p → (p && g) ≡ true → IsDone (ended_call b g s k u l acts) Skipped (command_attempt v forgives).next r
    by true true same q = skipped_one b s k u l acts e v r same d
    by false true same q = absurd cc
    by g false same q = absurd cc

pub skipped_end : (t : TargetState) (large : List ℕ) (f : Bool) (call : Call) (e : CallEnd) (v w : TargetState) (r : List ℕ) → (is_faulted e && (f && may_forgive call)) ≡ true → w ≡ (command_attempt v forgives).next → IsDone (call_done t large false call) e v r
    → IsDone (call_done t large f call) Skipped w r
unfolding call_done
skipped_end t large f call e v w r h hw d =
    subst (λ (x : TargetState). IsDone (call_done t large f call) Skipped x r) (sym hw) (skipped_two _ (f && may_forgive call) _ _ _ _ _ e v r h d)

-- ---- commands of the probe

probe_by : (b : Bool) (k : ℕ) (next : TargetState) (large : List ℕ) (actions : List Action) → b ≡ false → IsDone (ended_call b false false k next large actions) (Answered k) next large
probe_by true k next large actions h = absurd cc
probe_by false k next large actions h = record { end_is = refl; next_is = refl; large_is = refl }

command_done : (t : TargetState) (large : List ℕ) (c : ProbeCall) → is_fault (command_attempt t c).outcome ≡ false → IsDone (call_done t large false (Probe c)) (Answered (given_number (command_attempt t c).outcome)) (command_attempt t c).next large
unfolding call_done
command_done t large c passes = probe_by (is_fault (command_attempt t c).outcome) _ _ large _ passes

pub command_made : (t : TargetState) (c : ProbeCall) (n : ℕ) (u : TargetState) → is_fault (command_attempt t c).outcome ≡ false → n ≡ given_number (command_attempt t c).outcome → u ≡ (command_attempt t c).next → (large : List ℕ) → IsDone (call_done t large false (Probe c)) (Answered n) u large
command_made t c n u passes hn hu large = (let d = command_done t large c passes in record { end_is = d.end_is ∙ ap Answered (sym hn); next_is = d.next_is ∙ sym hu; large_is = d.large_is })
