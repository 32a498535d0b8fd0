-- Accesses of the DP, polls and commands: no access port has a part in them.
use Rattle.std.proofs.Common.{◌≡◌, ◌∙◌, ℕ, ◌+◌, ◌-◌, ◌^◌, ◌<◌, ◌≤◌, Bool, true, false, cond, eqb, leb, not, ◌&&◌, min, List, Option, Some, None, refl, sym, ap, subst, arith, bit_and, zero, suc}
use Rattle.std.specs.FinMap as map
use Rattle.std.proofs.lemmas.Bool.{leb-true, le-leb, and_parts}
use Rattle.target_machine.specs.Attempt.{Attempt, attempt, done_attempt, answers, acknowledges, bank, ctrl_stat, ctrl_written, is_free, dp_access, ap_access}
use Rattle.target_machine.specs.Lines.{pins_set, line_shifted, clock_set, delayed_target}
use Rattle.target_machine.specs.Plain.{dp_read_of, dp_write_of, is_fault, poll_result, poll_read, Polled, command_attempt}
use Rattle.target_machine.specs.State.{TargetState}
use Rattle.target_machine.specs.declared.ap.ApState.{ApState}
use Rattle.target_machine.specs.declared.access.Outcome.{Outcome}
use Rattle.target_machine.specs.declared.access.Outcome.TheVariants.{Value, Done, Fault}
use Rattle.target_machine.specs.declared.access.RegAccess.{RegAccess}
use Rattle.target_machine.specs.declared.unit.ProbeCall.{ProbeCall}
use Rattle.target_machine.specs.declared.unit.ProbeCall.TheVariants as probe
use Rattle.access_regs.specs.Kept.{Kept, known_at, kept_with_select}
use Rattle.access_regs.specs.Follows.{Follows, FollowsPort, unsettled_tar}
use Rattle.access_regs.specs.declared.known.Unsettled.{Unsettled}
use Rattle.access_regs.proofs.Drw.{Ports, other}
use Rattle.dap_base.specs.Bits.{has_bit}

-- ---- what changes neither ports nor SELECT

-- the same is done whatever RDBUFF and the ports are, and the ports stay
pub record Beside (g : TargetState → TargetState) (t : TargetState) : Type 0 where
  pub commutes : (r : ℕ) (m : Ports) → g (other t r m) ≡ other (g t) r m
  pub ports : (g t).aps ≡ t.aps
  pub clear : t.sticky ≡ false → (g t).sticky ≡ false
  pub few : (g t).power_reads ≡ t.power_reads

module _ (k : Kept) (large : List ℕ) (t u : TargetState) (f : Follows k large t u) (g : TargetState → TargetState) (beside : Beside g t) where
  image : g u ≡ other (g t) u.rdbuff u.aps
  image = ap g f.rest ∙ beside.commutes u.rdbuff u.aps

  port_at : (q : ℕ) → FollowsPort (known_at k q) (unsettled_tar k q) (map.get (g t).aps q) (map.get (g u).aps q)
  port_at q =
      let x : map.get (g t).aps q ≡ map.get t.aps q = ap (λ (m : Ports). map.get m q) beside.ports in
      let y : map.get (g u).aps q ≡ map.get u.aps q = ap (λ (s : TargetState). map.get s.aps q) image in
      subst (λ (o : Option ApState). FollowsPort (known_at k q) (unsettled_tar k q) o (map.get (g u).aps q)) (sym x)
      (subst (λ (o : Option ApState). FollowsPort (known_at k q) (unsettled_tar k q) (map.get t.aps q) o) (sym y) (f.ports q))

  pub follows_beside : (g t).select ≡ t.select → ((s : Unsettled) → k.unsettled ≡ Some s → acknowledges t 0x1000_0000 ≡ true → acknowledges (g t) 0x1000_0000 ≡ true) → Follows k large (g t) (g u)
  follows_beside same_select power = record {
    rest = image ∙ sym (ap (λ (s : TargetState). other (g t) s.rdbuff s.aps) image);
    clear = beside.clear f.clear;
    few = subst (λ (x : ℕ). x < 2 ^ 32) (sym beside.few) f.few;
    table = f.table;
    select = λ v e. same_select ∙ f.select v e;
    larges = f.larges;
    ports = port_at;
    unsettled = λ s e. (let h = f.unsettled s e in (h.0, h.1, power s e h.2));
  }

  -- where nothing is unsettled SELECT may change
  pub follows_selected : (v : ℕ) → k.unsettled ≡ None → (g t).select ≡ bit_and v 0xFF00_00FF → Follows (kept_with_select k v) large (g t) (g u)
  follows_selected v calm is = record {
    rest = image ∙ sym (ap (λ (s : TargetState). other (g t) s.rdbuff s.aps) image);
    clear = beside.clear f.clear;
    few = subst (λ (x : ℕ). x < 2 ^ 32) (sym beside.few) f.few;
    table = f.table;
    select = λ w e. (let same : v ≡ w = cc in is ∙ ap (λ (x : ℕ). bit_and x 0xFF00_00FF) same);
    larges = f.larges;
    ports = port_at;
    unsettled = λ s e. (let x : ◌≡◌ {A = Option Unsettled} None (Some s) = sym calm ∙ e in absurd (cc));
  }

-- ---- reads of CTRL/STAT

abbrev pub stat_read : TargetState → TargetState
stat_read t = cond (eqb (bank t) 0) (record t { reads = min (t.reads + 1) (2 ^ 32 - 1) }) t

abbrev pub stat_value : TargetState → ℕ
stat_value t = cond (eqb (bank t) 0) (ctrl_stat t) 0

-- an access of the DP where STICKYERR is clear
dp_clear : (t : TargetState) (a : RegAccess) → t.sticky ≡ false → a.ap ≡ false → attempt t a ≡ dp_access t a
unfolding attempt
dp_clear t a clear is =
    ap (λ (b : Bool). cond (b && not (is_free t a)) (record { outcome = Fault; next = t }) (cond a.ap (ap_access t a) (dp_access t a))) clear
    ∙ ap (λ (b : Bool). cond b (ap_access t a) (dp_access t a)) is

pub stat_reads : (t : TargetState) → t.sticky ≡ false → attempt t (dp_read_of 4) ≡ answers (stat_value t) (stat_read t)
stat_reads t clear = dp_clear t (dp_read_of 4) clear refl ∙ by_bank (eqb (bank t) 0)
  where
    by_bank : (b : Bool) → cond b (answers (ctrl_stat t) (record t { reads = min (t.reads + 1) (2 ^ 32 - 1) })) (answers 0 t) ≡ answers (cond b (ctrl_stat t) 0) (cond b (record t { reads = min (t.reads + 1) (2 ^ 32 - 1) }) t)
    by_bank true = refl
    by_bank false = refl

cond_other : (b : Bool) (x y : TargetState) (r : ℕ) (m : Ports) → cond b (other x r m) (other y r m) ≡ other (cond b x y) r m
cond_other true x y r m = refl
cond_other false x y r m = refl

either : (P : TargetState → Type 0) (b : Bool) (x y : TargetState) → P x → P y → P (cond b x y)
either P true x y h k = h
either P false x y h k = k

beside_either : (test : TargetState → Bool) (g : TargetState → TargetState) (t : TargetState) → ((r : ℕ) (m : Ports) → test (other t r m) ≡ test t) → Beside g t →
    Beside (λ s. cond (test s) (g s) s) t
beside_either test g t same h = record {
  commutes = λ r m. ap (λ (b : Bool). cond b (g (other t r m)) (other t r m)) (same r m) ∙ ap (λ (x : TargetState). cond (test t) x (other t r m)) (h.commutes r m) ∙ cond_other (test t) (g t) t r m;
  ports = either (λ s. s.aps ≡ t.aps) (test t) (g t) t h.ports refl;
  clear = λ e. either (λ s. s.sticky ≡ false) (test t) (g t) t (h.clear e) e;
  few = either (λ s. s.power_reads ≡ t.power_reads) (test t) (g t) t h.few refl;
}

pub stat_beside : (t : TargetState) → Beside stat_read t
stat_beside t =
    beside_either (λ s. eqb (bank s) 0) (λ s. record s { reads = min (s.reads + 1) (2 ^ 32 - 1) }) t (λ r m. refl)
    (record { commutes = λ r m. refl; ports = refl; clear = λ e. e; few = refl })

-- an acknowledgement stays where CTRL/STAT is read
pub stat_power : (t : TargetState) → t.power_reads < 2 ^ 32 → acknowledges t 0x1000_0000 ≡ true → acknowledges (stat_read t) 0x1000_0000 ≡ true
stat_power t few on =
    let h = and_parts (has_bit t.ctrl 0x1000_0000) (leb t.power_reads t.reads) on in
    let le : t.power_reads ≤ t.reads = leb-true t.power_reads t.reads h.1 in
    let more : leb t.power_reads (min (t.reads + 1) (2 ^ 32 - 1)) ≡ true = le-leb t.power_reads (min (t.reads + 1) (2 ^ 32 - 1)) (omega arith) in
    either (λ s. acknowledges s 0x1000_0000 ≡ true) (eqb (bank t) 0) (record t { reads = min (t.reads + 1) (2 ^ 32 - 1) }) t
    (ap (λ (b : Bool). b && leb t.power_reads (min (t.reads + 1) (2 ^ 32 - 1))) h.0 ∙ more) on

pub stat_select : (t : TargetState) → (stat_read t).select ≡ t.select
stat_select t = either (λ s. s.select ≡ t.select) (eqb (bank t) 0) (record t { reads = min (t.reads + 1) (2 ^ 32 - 1) }) t refl refl

-- ---- the other accesses of the DP

abbrev pub abort_write : ℕ → TargetState → TargetState
abort_write v t = cond (has_bit v 4) (record t { sticky = false }) t

abbrev pub ctrl_write : ℕ → TargetState → TargetState
ctrl_write v t = cond (eqb (bank t) 0) (ctrl_written t v) t

abbrev pub select_stored : ℕ → TargetState → TargetState
select_stored v t = record t { select = bit_and v 0xFF00_00FF }

pub id_reads : (t : TargetState) → t.sticky ≡ false → attempt t (dp_read_of 0) ≡ answers t.dpidr t
id_reads t clear = dp_clear t (dp_read_of 0) clear refl

pub abort_writes : (t : TargetState) (v : ℕ) → t.sticky ≡ false → attempt t (dp_write_of 0 v) ≡ done_attempt (abort_write v t)
abort_writes t v clear = dp_clear t (dp_write_of 0 v) clear refl

pub ctrl_writes : (t : TargetState) (v : ℕ) → t.sticky ≡ false → attempt t (dp_write_of 4 v) ≡ done_attempt (ctrl_write v t)
ctrl_writes t v clear = dp_clear t (dp_write_of 4 v) clear refl

pub select_writes : (t : TargetState) (v : ℕ) → t.sticky ≡ false → attempt t (dp_write_of 8 v) ≡ done_attempt (select_stored v t)
select_writes t v clear = dp_clear t (dp_write_of 8 v) clear refl

pub abort_beside : (v : ℕ) (t : TargetState) → Beside (abort_write v) t
abort_beside v t =
    beside_either (λ s. has_bit v 4) (λ s. record s { sticky = false }) t (λ r m. refl)
    (record { commutes = λ r m. refl; ports = refl; clear = λ e. refl; few = refl })

pub ctrl_beside : (v : ℕ) (t : TargetState) → Beside (ctrl_write v) t
ctrl_beside v t =
    beside_either (λ s. eqb (bank s) 0) (λ s. ctrl_written s v) t (λ r m. refl)
    (record { commutes = λ r m. refl; ports = refl; clear = λ e. e; few = refl })

pub select_beside : (v : ℕ) (t : TargetState) → Beside (select_stored v) t
select_beside v t = record { commutes = λ r m. refl; ports = refl; clear = λ e. e; few = refl }

pub ctrl_select : (v : ℕ) (t : TargetState) → (ctrl_write v t).select ≡ t.select
ctrl_select v t = either (λ s. s.select ≡ t.select) (eqb (bank t) 0) (ctrl_written t v) t refl refl

pub abort_select : (v : ℕ) (t : TargetState) → (abort_write v t).select ≡ t.select
abort_select v t = either (λ s. s.select ≡ t.select) (has_bit v 4) (record t { sticky = false }) t refl refl

pub abort_power : (v : ℕ) (t : TargetState) → acknowledges t 0x1000_0000 ≡ true → acknowledges (abort_write v t) 0x1000_0000 ≡ true
abort_power v t on = either (λ s. acknowledges s 0x1000_0000 ≡ true) (has_bit v 4) (record t { sticky = false }) t on on

-- ---- polls

pub record Polls' (turns mask requested : ℕ) (t : TargetState) : Type 0 where
  pub commutes : (r : ℕ) (m : Ports) → (poll_result turns mask requested (other t r m)).next ≡ other (poll_result turns mask requested t).next r m
  pub outcome : (r : ℕ) (m : Ports) → (poll_result turns mask requested (other t r m)).outcome ≡ (poll_result turns mask requested t).outcome
  pub good : is_fault (poll_result turns mask requested t).outcome ≡ false
  pub ports : (poll_result turns mask requested t).next.aps ≡ t.aps
  pub clear : (poll_result turns mask requested t).next.sticky ≡ false
  pub few : (poll_result turns mask requested t).next.power_reads ≡ t.power_reads
  pub select : (poll_result turns mask requested t).next.select ≡ t.select
  pub power : acknowledges t 0x1000_0000 ≡ true → acknowledges (poll_result turns mask requested t).next 0x1000_0000 ≡ true

module _ (mask requested : ℕ) where
  abbrev hit : TargetState → Bool
  hit t = eqb (bit_and (stat_value t) mask) requested

  abbrev first_look : TargetState → Polled → Polled
  first_look t rest = cond (hit t) (record { outcome = Value 1; reads = 1; next = stat_read t }) (record rest { reads = rest.reads + 1 })

  poll_step : (n : ℕ) (t : TargetState) → t.sticky ≡ false → poll_result (suc n) mask requested t ≡ first_look t (poll_result n mask requested (stat_read t))
  unfolding poll_result
  poll_step n t clear = ap (λ (x : Attempt). poll_read x.outcome x.next mask requested (poll_result n mask requested x.next)) (stat_reads t clear)

  poll_zero : (t : TargetState) → poll_result zero mask requested t ≡ record { outcome = Value 0; reads = 0; next = t }
  unfolding poll_result
  poll_zero t = refl

  look_next : (b : Bool) (x y : Polled) → (cond b x (record y { reads = y.reads + 1 })).next ≡ cond b x.next y.next
  look_next true x y = refl
  look_next false x y = refl

  look_outcome : (b : Bool) (x y : Polled) → (cond b x (record y { reads = y.reads + 1 })).outcome ≡ cond b x.outcome y.outcome
  look_outcome true x y = refl
  look_outcome false x y = refl

  poll_next : (n : ℕ) (t : TargetState) → t.sticky ≡ false → (poll_result (suc n) mask requested t).next ≡ cond (hit t) (stat_read t) (poll_result n mask requested (stat_read t)).next
  poll_next n t clear = ap (λ (p : Polled). p.next) (poll_step n t clear) ∙ look_next (hit t) _ (poll_result n mask requested (stat_read t))

  poll_outcome : (n : ℕ) (t : TargetState) → t.sticky ≡ false → (poll_result (suc n) mask requested t).outcome ≡ cond (hit t) (Value 1) (poll_result n mask requested (stat_read t)).outcome
  poll_outcome n t clear = ap (λ (p : Polled). p.outcome) (poll_step n t clear) ∙ look_outcome (hit t) _ (poll_result n mask requested (stat_read t))

  not_fault : (b : Bool) (o : Outcome) → is_fault o ≡ false → is_fault (cond b (Value 1) o) ≡ false
  not_fault true o e = refl
  not_fault false o e = e

  pub polls_are : (turns : ℕ) (t : TargetState) → t.sticky ≡ false → t.power_reads < 2 ^ 32 → Polls' turns mask requested t
  polls_are zero t clear few = record {
    commutes = λ r m. ap (λ (p : Polled). p.next) (poll_zero (other t r m)) ∙ ap (λ (p : Polled). other p.next r m) (sym (poll_zero t));
    outcome = λ r m. ap (λ (p : Polled). p.outcome) (poll_zero (other t r m)) ∙ ap (λ (p : Polled). p.outcome) (sym (poll_zero t));
    good = ap (λ (p : Polled). is_fault p.outcome) (poll_zero t);
    ports = ap (λ (p : Polled). p.next.aps) (poll_zero t);
    clear = ap (λ (p : Polled). p.next.sticky) (poll_zero t) ∙ clear;
    few = ap (λ (p : Polled). p.next.power_reads) (poll_zero t);
    select = ap (λ (p : Polled). p.next.select) (poll_zero t);
    power = λ on. ap (λ (p : Polled). acknowledges p.next 0x1000_0000) (poll_zero t) ∙ on;
  }
  polls_are (suc n) t clear few =
      let b = stat_beside t in
      let t' : TargetState = stat_read t in
      let clear' : t'.sticky ≡ false = b.clear clear in
      let few' : t'.power_reads < 2 ^ 32 = subst (λ (x : ℕ). x < 2 ^ 32) (sym b.few) few in
      let h = polls_are n t' clear' few' in
      let next : (poll_result (suc n) mask requested t).next ≡ cond (hit t) t' (poll_result n mask requested t').next = poll_next n t clear in
      record {
        commutes = λ r m.
            poll_next n (other t r m) clear
            ∙ ap (λ (x : TargetState). cond (hit t) x (poll_result n mask requested x).next) (b.commutes r m)
            ∙ ap (λ (x : TargetState). cond (hit t) (other t' r m) x) (h.commutes r m)
            ∙ cond_other (hit t) t' (poll_result n mask requested t').next r m
            ∙ ap (λ (x : TargetState). other x r m) (sym next);
        outcome = λ r m.
            poll_outcome n (other t r m) clear
            ∙ ap (λ (x : TargetState). cond (hit t) (Value 1) (poll_result n mask requested x).outcome) (b.commutes r m)
            ∙ ap (λ (x : Outcome). cond (hit t) (Value 1) x) (h.outcome r m)
            ∙ sym (poll_outcome n t clear);
        good = ap is_fault (poll_outcome n t clear) ∙ not_fault (hit t) (poll_result n mask requested t').outcome h.good;
        ports = ap (λ (x : TargetState). x.aps) next ∙ either (λ s. s.aps ≡ t.aps) (hit t) t' (poll_result n mask requested t').next b.ports (h.ports ∙ b.ports);
        clear = ap (λ (x : TargetState). x.sticky) next ∙ either (λ s. s.sticky ≡ false) (hit t) t' (poll_result n mask requested t').next clear' h.clear;
        few = ap (λ (x : TargetState). x.power_reads) next ∙ either (λ s. s.power_reads ≡ t.power_reads) (hit t) t' (poll_result n mask requested t').next b.few (h.few ∙ b.few);
        select = ap (λ (x : TargetState). x.select) next ∙ either (λ s. s.select ≡ t.select) (hit t) t' (poll_result n mask requested t').next (stat_select t) (h.select ∙ stat_select t);
        power = λ on. (let on' = stat_power t few on in
            ap (λ (x : TargetState). acknowledges x 0x1000_0000) next ∙ either (λ s. acknowledges s 0x1000_0000 ≡ true) (hit t) t' (poll_result n mask requested t').next on' (h.power on'));
      }

-- ---- commands

abbrev pub commands : ProbeCall → TargetState → TargetState
commands (probe.Abort value) t = abort_write value t
commands other t = (command_attempt t other).next

pub commands_beside : (c : ProbeCall) (t : TargetState) → Beside (commands c) t
commands_beside (probe.Abort value) t = abort_beside value t
commands_beside other t = record { commutes = λ r m. refl; ports = refl; clear = λ e. e; few = refl }

pub commands_select : (c : ProbeCall) (t : TargetState) → (commands c t).select ≡ t.select
commands_select (probe.Abort value) t = abort_select value t
commands_select other t = refl

pub commands_power : (c : ProbeCall) (t : TargetState) → acknowledges t 0x1000_0000 ≡ true → acknowledges (commands c t) 0x1000_0000 ≡ true
commands_power (probe.Abort value) t on = abort_power value t on
commands_power other t on = on

-- what a command answers: the pins, or nothing
abbrev pub command_outcome : ProbeCall → TargetState → Outcome
command_outcome (probe.Pins output select wait) t = Value (pins_set t output select).lines.pins
command_outcome _ t = Done

pub commanded_is : (c : ProbeCall) (t : TargetState) → t.sticky ≡ false → command_attempt t c ≡ record { outcome = command_outcome c t; next = commands c t }
commanded_is (probe.Abort value) t clear = abort_writes t value clear
commanded_is other t clear = refl
