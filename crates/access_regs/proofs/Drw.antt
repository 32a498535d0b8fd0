-- An access by DRW on two targets that differ in CSW.AddrInc of the selected AP.
use Rattle.std.proofs.Common.{◌≡◌, ◌≢◌, ◌∙◌, ℕ, ◌/◌, ◌^◌, Bool, true, false, cond, eqb, Option, Some, None, refl, sym, ap, subst, bit_and}
use Rattle.std.specs.Option.{option_map}
use Rattle.std.specs.Ordering.{nat_cmp}
use Rattle.std.specs.FinMap as map
use Rattle.std.proofs.lemmas.Bool.{eq-eqb, ne_eqb, eqb-true, cond-true, cond-false}
use Rattle.target_machine.proofs.Maps.{got_inserted}
use Rattle.target_machine.specs.Memory.{Memory, word_read, word_written}
use Rattle.target_machine.specs.Attempt.{Attempt, attempt, done_attempt, posted_attempt, bus_error, drw_read, drw_write, size_of, memory_read, memory_write, read_through, advanced_target, drw_address, lanes, next_tar}
use Rattle.target_machine.specs.Plain.{ap_access_of, is_fault}
use Rattle.target_machine.specs.State.{TargetState}
use Rattle.target_machine.specs.declared.access.RegAccess.{RegAccess}
use Rattle.target_machine.specs.declared.ap.ApState.{ApState}
use Rattle.access_regs.proofs.Port.{Selects, attempt_none, drw_some}

abbrev pub Ports : Type 0
Ports = map.FinMap nat_cmp ApState

-- TAR moves on
abbrev pub moves : Bool → ℕ → ApState → ApState
moves carry size p = record p { tar = next_tar carry p.tar size }

-- the same target with another RDBUFF and other ports
abbrev pub other : TargetState → ℕ → Ports → TargetState
other t r m = record t { rdbuff = r; aps = m }

-- What two accesses come to, of which the second is made on a target with other ports.
pub record Together (t : TargetState) (m : Ports) (n : ℕ) (f : ApState → ApState) (x y : Attempt) : Type 0 where
  pub outcome : y.outcome ≡ x.outcome
  pub rest : y.next ≡ other x.next y.next.rdbuff y.next.aps
  pub plain_rest : x.next ≡ record t { sticky = x.next.sticky; rdbuff = x.next.rdbuff; aps = x.next.aps; words = x.next.words }
  pub plain : (q : ℕ) → map.get x.next.aps q ≡ map.get t.aps q
  pub planned : is_fault x.outcome ≡ false → map.get y.next.aps n ≡ option_map f (map.get m n)
  pub others : (q : ℕ) → q ≢ n → map.get y.next.aps q ≡ map.get m q
  pub clear : is_fault x.outcome ≡ false → x.next.sticky ≡ t.sticky
  pub words : is_fault x.outcome ≡ true → x.next.words ≡ t.words

module _ (t : TargetState) (r : ℕ) (m : Ports) (n : ℕ) (f : ApState → ApState) where
  fails : Together t m n f (bus_error t) (bus_error (other t r m))
  fails = record { outcome = refl; rest = refl; plain_rest = refl; plain = λ q. refl; planned = λ e. absurd (cc); others = λ q ne. refl; clear = λ e. absurd (cc); words = λ e. refl }

  module _ (a b : Ports) (plain : (q : ℕ) → map.get a q ≡ map.get t.aps q) (planned : map.get b n ≡ option_map f (map.get m n)) (others : (q : ℕ) → q ≢ n → map.get b q ≡ map.get m q) where
    reads : (mask : ℕ) (w : Option ℕ) (words : Memory) →
        Together t m n f (read_through t (record t { aps = a }) mask w words) (read_through (other t r m) (other t r b) mask w words)
    reads mask None words = fails
    reads mask (Some w) words = record { outcome = refl; rest = refl; plain_rest = refl; plain = plain; planned = λ e. planned; others = others; clear = λ e. refl; words = λ e. absurd (cc) }

    writes : (is_done : Bool) (words : Memory) →
        Together t m n f (cond is_done (done_attempt (record t { aps = a; words = words })) (bus_error t)) (cond is_done (done_attempt (record t { rdbuff = r; aps = b; words = words })) (bus_error (other t r m)))
    writes false words = fails
    writes true words = record { outcome = refl; rest = refl; plain_rest = refl; plain = plain; planned = λ e. planned; others = others; clear = λ e. refl; words = λ e. absurd (cc) }

  none_reads : map.get m n ≡ None → Together t m n f (posted_attempt 0 t) (posted_attempt 0 (other t r m))
  none_reads none = record { outcome = refl; rest = refl; plain_rest = refl; plain = λ q. refl; planned = λ e. none ∙ sym (ap (option_map f) none); others = λ q ne. refl; clear = λ e. refl; words = λ e. absurd (cc) }

  none_writes : map.get m n ≡ None → Together t m n f (done_attempt t) (done_attempt (other t r m))
  none_writes none = record { outcome = refl; rest = refl; plain_rest = refl; plain = λ q. refl; planned = λ e. none ∙ sym (ap (option_map f) none); others = λ q ne. refl; clear = λ e. refl; words = λ e. absurd (cc) }

  by_read : (b : Bool) (x y v w : Attempt) → Together t m n f x v → Together t m n f y w → Together t m n f (cond b x y) (cond b v w)
  by_read true x y v w h k = h
  by_read false x y v w h k = k

  both : (x x' y y' : Attempt) → x ≡ x' → y ≡ y' → Together t m n f x' y' → Together t m n f x y
  both x x' y y' e g h = subst (λ (z : Attempt). Together t m n f z y) (sym e) (subst (λ (z : Attempt). Together t m n f x' z) (sym g) h)

-- the map in which the port of an AP is set to what it was
same_inserted : (m : Ports) (n : ℕ) (p : ApState) → map.get m n ≡ Some p → (q : ℕ) → map.get (map.insert m n p) q ≡ map.get m q
same_inserted m n p is q = got_inserted m n p q ∙ by_test (eqb q n) refl
  where
    by_test : (b : Bool) → eqb q n ≡ b → cond b (Some p) (map.get m q) ≡ map.get m q
    by_test true e = sym is ∙ ap (map.get m) (sym (eqb-true q n e))
    by_test false e = refl

module _ (t : TargetState) (r : ℕ) (m : Ports) (n size : ℕ) (read : Bool) (v : ℕ) (at : Selects t n) where
  abbrev moved : ApState → ApState
  moved = moves t.carry size

  other_at : Selects (other t r m) n
  other_at = record { power = at.power; clear = at.clear; here = at.here; bank = at.bank }

  abbrev drw : RegAccess
  drw = ap_access_of read 0xC v

  pub without_port : map.get t.aps n ≡ None → map.get m n ≡ None → Together t m n moved (attempt t drw) (attempt (other t r m) drw)
  without_port plain planned =
      both t r m n moved (attempt t drw) (cond read (posted_attempt 0 t) (done_attempt t)) (attempt (other t r m) drw) (cond read (posted_attempt 0 (other t r m)) (done_attempt (other t r m)))
      (attempt_none t n at drw refl plain) (attempt_none (other t r m) n other_at drw refl planned)
      (by_read t r m n moved read (posted_attempt 0 t) (done_attempt t) (posted_attempt 0 (other t r m)) (done_attempt (other t r m)) (none_reads t r m n moved planned) (none_writes t r m n moved planned))

  module _ (p : ApState) (c : ℕ) (plain : map.get t.aps n ≡ Some p) (planned : map.get m n ≡ Some (record p { csw = c }))
      (plain_size : size_of p.csw ≡ Some size) (planned_size : size_of c ≡ Some size) (plain_inc : bit_and p.csw 0x30 ≡ 0) (planned_inc : bit_and c 0x30 ≡ 0x10) where
    abbrev q : ApState
    q = record p { csw = c }

    abbrev a : Ports
    a = map.insert t.aps (t.select / 2 ^ 24) p

    abbrev b : Ports
    b = map.insert m (t.select / 2 ^ 24) (moved q)

    plain_advanced : advanced_target t p size ≡ record t { aps = a }
    plain_advanced = rw plain_inc refl

    planned_advanced : advanced_target (other t r m) q size ≡ other t r b
    planned_advanced = rw planned_inc refl

    a_is : (i : ℕ) → map.get a i ≡ map.get t.aps i
    a_is i = same_inserted t.aps (t.select / 2 ^ 24) p (ap (map.get t.aps) at.here ∙ plain) i

    b_is : (i : ℕ) → map.get b i ≡ cond (eqb i n) (Some (moved q)) (map.get m i)
    b_is i = ap (λ (k : ℕ). map.get (map.insert m k (moved q)) i) at.here ∙ got_inserted m n (moved q) i

    b_here : map.get b n ≡ option_map moved (map.get m n)
    b_here = b_is n ∙ cond-true _ _ _ (eq-eqb n n refl) ∙ sym (ap (option_map moved) planned)

    b_others : (i : ℕ) → i ≢ n → map.get b i ≡ map.get m i
    b_others i ne = b_is i ∙ cond-false _ _ _ (ne_eqb i n ne)

    drw_reads : Together t m n moved (drw_read t p (size_of p.csw)) (drw_read (other t r m) q (size_of c))
    drw_reads =
        let word = word_read t.words (drw_address p) in
        both t r m n moved _ (read_through t (record t { aps = a }) (lanes size p.tar) word.value word.next) _ (read_through (other t r m) (other t r b) (lanes size p.tar) word.value word.next)
        (ap (drw_read t p) plain_size ∙ ap (λ (s : TargetState). memory_read t s (drw_address p) (lanes size p.tar)) plain_advanced)
        (ap (drw_read (other t r m) q) planned_size ∙ ap (λ (s : TargetState). memory_read (other t r m) s (drw_address p) (lanes size p.tar)) planned_advanced)
        (reads t r m n moved a b a_is b_here b_others (lanes size p.tar) word.value word.next)

    drw_writes : Together t m n moved (drw_write t p (cond read 0 v) (size_of p.csw)) (drw_write (other t r m) q (cond read 0 v) (size_of c))
    drw_writes =
        let word = word_written t.words (drw_address p) (lanes size p.tar) (cond read 0 v) in
        both t r m n moved _ (cond word.done (done_attempt (record t { aps = a; words = word.next })) (bus_error t)) _ (cond word.done (done_attempt (record t { rdbuff = r; aps = b; words = word.next })) (bus_error (other t r m)))
        (ap (drw_write t p (cond read 0 v)) plain_size ∙ ap (λ (s : TargetState). memory_write t s (drw_address p) (lanes size p.tar) (cond read 0 v)) plain_advanced)
        (ap (drw_write (other t r m) q (cond read 0 v)) planned_size ∙ ap (λ (s : TargetState). memory_write (other t r m) s (drw_address p) (lanes size p.tar) (cond read 0 v)) planned_advanced)
        (writes t r m n moved a b a_is b_here b_others word.done word.next)

    pub with_port : Together t m n moved (attempt t drw) (attempt (other t r m) drw)
    with_port =
        both t r m n moved (attempt t drw) (cond read (drw_read t p (size_of p.csw)) (drw_write t p (cond read 0 v) (size_of p.csw)))
        (attempt (other t r m) drw) (cond read (drw_read (other t r m) q (size_of c)) (drw_write (other t r m) q (cond read 0 v) (size_of c)))
        (drw_some t n at p read v plain) (drw_some (other t r m) n other_at q read v planned)
        (by_read t r m n moved read _ _ _ _ drw_reads drw_writes)
