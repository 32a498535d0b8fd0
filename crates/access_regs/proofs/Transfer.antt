-- CSW, the upper word, TAR and DRW: the plain ones against those of a plan.
use Rattle.std.proofs.Common.{◌≡◌, ◌≢◌, ◌∙◌, ℕ, ◌+◌, ◌/◌, ◌%◌, ◌^◌, ◌<◌, inl, inr, Bool, true, false, cond, eqb, not, ◌||◌, List, [], ◌∷◌, ◌++◌, Option, Some, None, refl, sym, ap, subst, arith}
use Rattle.std.specs.FinMap as map
use Rattle.std.proofs.lemmas.Bool.{eqb-true, eqb-false}
use Rattle.target_machine.specs.Attempt.{stored_csw, next_tar}
use Rattle.target_machine.specs.Plain.{ap_access_of}
use Rattle.target_machine.specs.State.{TargetState}
use Rattle.target_machine.specs.declared.access.RegAccess.{RegAccess}
use Rattle.target_machine.specs.declared.ap.ApState.{ApState}
use Rattle.access_regs.specs.Kept.{csw_of, is_known}
use Rattle.access_regs.specs.Plan.{planned_csw, unless, csw_needed, high_needed, tar_needed, port_writes, predicted_tar}
use Rattle.access_regs.specs.Follows.{IsTrueOf}
use Rattle.access_regs.specs.declared.known.Known.{Known}
use Rattle.access_regs.proofs.Csw.{IsSize}
use Rattle.access_regs.proofs.Port.{Selects, Turns, same_turns, heightened, csw_writes, tar_writes, high_writes}
use Rattle.access_regs.proofs.Select.{Part, part, part_then, same_after, turns_select, turns_then}

pub is_known_some : (o : Option ℕ) (v : ℕ) → is_known o v ≡ true → o ≡ Some v
is_known_some None v e = absurd (cc)
is_known_some (Some m) v e = ap (λ (x : ℕ). Some x) (eqb-true m v e)

-- ---- what the writes before DRW make of a port

abbrev pub sized : ℕ → ApState → ApState
sized csw p = record p { csw = stored_csw csw }

abbrev pub high_if : Bool → ℕ → ApState → ApState
high_if b v p = record p { high = cond b (cond p.large v p.high) p.high }

abbrev pub pointed : ℕ → ApState → ApState
pointed tar p = record p { tar = tar }

abbrev pub ready : ℕ → Bool → ℕ → ApState → ApState
ready csw large address p = pointed (address % 2 ^ 32) (high_if large (address / 2 ^ 32) (sized csw p))

-- the plain writes
abbrev pub plain_writes : ℕ → Bool → ℕ → List RegAccess
plain_writes csw large address =
    ap_access_of false 0 csw ∷ unless (not large) (ap_access_of false 8 (address / 2 ^ 32)) ++ ap_access_of false 4 (address % 2 ^ 32) ∷ []

high_part : (u : TargetState) (n v : ℕ) (large knows : Bool) → Selects u n → (large ≡ true → knows ≡ true → Turns u n (heightened v) u) →
    Part u n (high_if large v) (unless (not large || knows) (ap_access_of false 8 v))
high_part u n v true true at same = record { next = u; pass = refl; turns = same refl refl }
high_part u n v true false at same = part u n (heightened v) false (ap_access_of false 8 v) (λ e. absurd (cc)) (high_writes u n at v)
high_part u n v false knows at same = record { next = u; pass = refl; turns = same_turns u n (λ p. p) (λ p is. refl) }

plain_high : (u : TargetState) (n v : ℕ) (large : Bool) → Selects u n → Part u n (high_if large v) (unless (not large) (ap_access_of false 8 v))
plain_high u n v true at = high_part u n v true false at (λ e d. absurd (cc))
plain_high u n v false at = high_part u n v false false at (λ e d. absurd (cc))

pub plain_part : (t : TargetState) (n csw address : ℕ) (large : Bool) → Selects t n → Part t n (ready csw large address) (plain_writes csw large address)
plain_part t n csw address large at =
    let low : ℕ = address % 2 ^ 32 in
    let high : ℕ = address / 2 ^ 32 in
    let a : Part t n (sized csw) (ap_access_of false 0 csw ∷ []) = part t n (sized csw) false (ap_access_of false 0 csw) (λ (e : false ≡ true). absurd (cc)) (csw_writes t n at csw) in
    let at1 : Selects a.next n = turns_select t a.next n (sized csw) a.turns at in
    let b : Part a.next n (high_if large high) (unless (not large) (ap_access_of false 8 high)) = plain_high a.next n high large at1 in
    let at2 : Selects b.next n = turns_select a.next b.next n (high_if large high) b.turns at1 in
    let c : Part b.next n (pointed low) (ap_access_of false 4 low ∷ []) = part b.next n (pointed low) false (ap_access_of false 4 low) (λ (e : false ≡ true). absurd (cc)) (tar_writes b.next n at2 low) in
    part_then t n (sized csw) (λ p. pointed low (high_if large high p)) (ap_access_of false 0 csw ∷ []) (unless (not large) (ap_access_of false 8 high) ++ ap_access_of false 4 low ∷ [])
    a (part_then a.next n (high_if large high) (pointed low) (unless (not large) (ap_access_of false 8 high)) (ap_access_of false 4 low ∷ []) b c)

-- what is known of the port, where it is there
abbrev pub Sure : TargetState → ℕ → Known → Type 0
Sure u n a = (r : ApState) → map.get u.aps n ≡ Some r → IsTrueOf a r

high_same : (v : ℕ) (r : ApState) → (r.large ≡ true → r.high ≡ v) → heightened v r ≡ r
high_same v r so = by_large r.large refl
  where
    by_large : (b : Bool) → r.large ≡ b → heightened v r ≡ r
    by_large true e = ap (λ (c : Bool). record r { high = cond c v r.high }) e ∙ (λ i. record r { high = sym (so e) i })
    by_large false e = ap (λ (c : Bool). record r { high = cond c v r.high }) e

pub planned_part : (u : TargetState) (n size address : ℕ) (a : Known) → Selects u n → Sure u n a → Part u n (ready (planned_csw (csw_of a) size) a.large address) (port_writes a size address)
planned_part u n size address a at sure =
    let low : ℕ = address % 2 ^ 32 in
    let high : ℕ = address / 2 ^ 32 in
    let csw : ℕ = planned_csw (csw_of a) size in
    let p1 : Part u n (sized csw) (csw_needed a size) =
    part u n (sized csw) (is_known a.csw csw) (ap_access_of false 0 csw)
    (λ (e : is_known a.csw csw ≡ true). same_turns u n (sized csw) (λ r is. (let so = sure r is in λ i. record r { csw = sym (so.csw csw (is_known_some a.csw csw e)) i })))
    (csw_writes u n at csw) in
    let at1 : Selects p1.next n = turns_select u p1.next n (sized csw) p1.turns at in
    let p2 : Part p1.next n (high_if a.large high) (high_needed a address) =
    high_part p1.next n high a.large (is_known a.high high) at1
    (λ (l : a.large ≡ true) (e : is_known a.high high ≡ true). same_after u p1.next n (sized csw) (heightened high) p1.turns
    (λ r is. (let so = sure r is in high_same high (sized csw r) (λ (b : r.large ≡ true). so.high high (is_known_some a.high high e) b)))) in
    let at2 : Selects p2.next n = turns_select p1.next p2.next n (high_if a.large high) p2.turns at1 in
    let t12 : Turns u n (λ r. high_if a.large high (sized csw r)) p2.next = turns_then u p1.next n (sized csw) p1.turns p2.next (high_if a.large high) p2.turns in
    let p3 : Part p2.next n (pointed low) (tar_needed a address) =
    part p2.next n (pointed low) (is_known a.tar low) (ap_access_of false 4 low)
    (λ (e : is_known a.tar low ≡ true). same_after u p2.next n (λ r. high_if a.large high (sized csw r)) (pointed low) t12
    (λ r is. (let so = sure r is in λ i. record (high_if a.large high (sized csw r)) { tar = sym (so.tar low (is_known_some a.tar low e)) i })))
    (tar_writes p2.next n at2 low) in
    part_then u n (sized csw) (λ p. pointed low (high_if a.large high p)) (csw_needed a size) (high_needed a address ++ tar_needed a address)
    p1 (part_then p1.next n (high_if a.large high) (pointed low) (high_needed a address) (tar_needed a address) p2 p3)

-- ---- numbers

pub low_aligned : (size address : ℕ) → IsSize size → address % size ≡ 0 → (address % 2 ^ 32) % size ≡ 0
low_aligned size address (inl e) a = rw e (omega arith)
low_aligned size address (inr (inl e)) a = let b : address % 2 ≡ 0 = subst (λ (s : ℕ). address % s ≡ 0) e a in rw e (omega arith)
low_aligned size address (inr (inr e)) a = let b : address % 4 ≡ 0 = subst (λ (s : ℕ). address % s ≡ 0) e a in rw e (omega arith)

next_is : (carry : Bool) (low size : ℕ) → low % 1024 + size < 1024 → low < 2 ^ 32 → next_tar carry low size ≡ low + size
next_is true low size fits lt = let a : low + size < 2 ^ 32 = omega arith in omega arith
next_is false low size fits lt = omega arith

inside : (low size : ℕ) → IsSize size → low % size ≡ 0 → (low + size) % 1024 ≢ 0 → low % 1024 + size < 1024
inside low size (inl e) a ne = let b : size ≡ 1 = e in omega arith
inside low size (inr (inl e)) a ne = let b : low % 2 ≡ 0 = subst (λ (s : ℕ). low % s ≡ 0) e a in omega arith
inside low size (inr (inr e)) a ne = let b : low % 4 ≡ 0 = subst (λ (s : ℕ). low % s ≡ 0) e a in omega arith

-- where TAR is predicted, it is there, whichever way increments go
pub predicted_is : (carry : Bool) (low size v : ℕ) → IsSize size → low % size ≡ 0 → low < 2 ^ 32 → predicted_tar low size ≡ Some v → next_tar carry low size ≡ v
predicted_is carry low size v is a lt e = by_edge (eqb ((low + size) % 1024) 0) refl e
  where
    by_edge : (b : Bool) → eqb ((low + size) % 1024) 0 ≡ b → cond b None (Some (low + size)) ≡ Some v → next_tar carry low size ≡ v
    by_edge true e h = absurd (cc)
    by_edge false e h =
        let ne : (low + size) % 1024 ≢ 0 = eqb-false ((low + size) % 1024) 0 e in
        let q : low + size ≡ v = cc in
        next_is carry low size (inside low size is a ne) lt ∙ q
