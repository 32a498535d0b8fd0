-- The access that the request of an access asks for.
use Rattle.std.proofs.Common.{◌≡◌, eqb, ℕ, ◌+◌, ◌<◌, ◌^◌, ◌&&◌, ◌||◌, not, Bool, true, false, cond, refl, ap, sym, ◌∙◌, subst, ◌⊎◌, inl, inr, Option, Some, None}
use Rattle.std.specs.Prelude.{bit_and}
use Rattle.std.specs.FinMap as map
use Rattle.target_machine.specs.declared.ap.ApState.{ApState}
use Rattle.target_machine.specs.State.{TargetState}
use Rattle.target_machine.specs.Attempt.{attempt, is_free, register, ap_access, at_ap, ap_read, ap_write, dp_access, bank, acknowledges, bus_error, selected_ap}
use Rattle.target_machine.specs.declared.access.Outcome.TheVariants as outcome
use Rattle.target_machine.specs.declared.access.RegAccess.{RegAccess}
use Rattle.dap_messages.specs.declared.request.RequestKind.{RequestKind}
use Rattle.dap_messages.specs.declared.request.RequestKind.TheVariants.{Posted, Read, Write}
use Rattle.dap_messages.specs.Requests.{IsRequest, Says, kind, read_request, write_request}
use Rattle.dap_messages.proofs.RequestBits.{quarter, read_is_request, read_says, write_is_request, write_says}
use Rattle.dap_transfer.specs.CommandEnds.{may_be_free}
use Rattle.dap_transfer.specs.Wires.{access_of}
use Rattle.flight_forms.specs.Flights.{is_own}
use Rattle.flight_forms.specs.Packing.{request_of, IsTaken}

-- what a request asks for, by the access
abbrev pub kind_for : Bool → Bool → RequestKind
kind_for ap_is read_is = cond read_is (cond ap_is Posted Read) Write

says_by : (read_is ap_is : Bool) (addr v : ℕ) → Says (cond read_is (read_request ap_is addr) (write_request ap_is addr v)).byte ap_is read_is addr (kind_for ap_is read_is)
says_by true ap_is addr v = read_says ap_is addr
says_by false ap_is addr v = write_says ap_is addr v

pub word_by : (read_is ap_is : Bool) (addr v : ℕ) → (cond read_is (read_request ap_is addr) (write_request ap_is addr v)).word ≡ cond read_is 0 v
word_by true ap_is addr v = refl
word_by false ap_is addr v = refl

-- the access that its request asks for: only bits 3 and 2 of the address, and a value with a write alone
abbrev pub carried : RegAccess → RegAccess
carried a = record { ap = a.ap; read = a.read; addr = bit_and a.addr 12; value = cond a.read 0 a.value }

pub carries : (a : RegAccess) → access_of (request_of a) ≡ carried a
carries a =
    let says = says_by a.read a.ap a.addr a.value in
    λ i. record { ap = says.port i; read = says.direction i; addr = says.address i; value = word_by a.read a.ap a.addr a.value i }

pub kind_carried : (a : RegAccess) → kind (request_of a) ≡ kind_for a.ap a.read
kind_carried a = let says = says_by a.read a.ap a.addr a.value in says.asks_for

request_by : (read_is ap_is : Bool) (addr v : ℕ) → v < 2 ^ 32 → IsRequest (cond read_is (read_request ap_is addr) (write_request ap_is addr v))
request_by true ap_is addr v h = read_is_request ap_is addr
request_by false ap_is addr v h = write_is_request ap_is addr v h

pub request_is : (a : RegAccess) → a.value < 2 ^ 32 → IsRequest (request_of a)
request_is a h = request_by a.read a.ap a.addr a.value h

-- ---- an access of the debug port is asked for as it is

again : (x : ℕ) → (x ≡ 0) ⊎ ((x ≡ 4) ⊎ ((x ≡ 8) ⊎ (x ≡ 12))) → bit_and x 12 ≡ x
again x (inl e) = subst (λ x. bit_and x 12 ≡ x) (sym e) refl
again x (inr (inl e)) = subst (λ x. bit_and x 12 ≡ x) (sym e) refl
again x (inr (inr (inl e))) = subst (λ x. bit_and x 12 ≡ x) (sym e) refl
again x (inr (inr (inr e))) = subst (λ x. bit_and x 12 ≡ x) (sym e) refl

dp_addr : (a : RegAccess) → IsTaken a → a.ap ≡ false → bit_and a.addr 12 ≡ a.addr
dp_addr a taken at = by_read a.read refl
  where
    by_read : (b : Bool) → a.read ≡ b → bit_and a.addr 12 ≡ a.addr
    by_read true e = elim (taken.read at e) [ inl f ↦ again a.addr (inl f) | inr f ↦ again a.addr (inr (inl f)) ]
    by_read false e = again a.addr (taken.write at e)

value_apart : (b : Bool) (t : TargetState) (addr v : ℕ) → dp_access t (record { ap = false; read = b; addr = addr; value = cond b 0 v }) ≡ dp_access t (record { ap = false; read = b; addr = addr; value = v })
value_apart true t addr v = refl
value_apart false t addr v = refl

at_apart : (b : Bool) (t : TargetState) (addr other v : ℕ) (port : Option ApState) → register t other ≡ register t addr →
    at_ap t (record { ap = true; read = b; addr = other; value = cond b 0 v }) port ≡ at_ap t (record { ap = true; read = b; addr = addr; value = v }) port
at_apart true t addr other v None e = refl
at_apart false t addr other v None e = refl
at_apart true t addr other v (Some port) e = ap (λ n. ap_read t port n) e
at_apart false t addr other v (Some port) e = ap (λ n. ap_write t port n v) e

port_apart : (b : Bool) (t : TargetState) (addr other v : ℕ) → register t other ≡ register t addr →
    ap_access t (record { ap = true; read = b; addr = other; value = cond b 0 v }) ≡ ap_access t (record { ap = true; read = b; addr = addr; value = v })
port_apart b t addr other v e =
    ap (λ x. cond (acknowledges t 0x1000_0000) x (bus_error t)) (at_apart b t addr other v (map.get t.aps (selected_ap t)) e)

same_fields : (t : TargetState) (ap_is read_is : Bool) (addr v : ℕ) → IsTaken (record { ap = ap_is; read = read_is; addr = addr; value = v }) →
    attempt t (record { ap = ap_is; read = read_is; addr = bit_and addr 12; value = cond read_is 0 v }) ≡ attempt t (record { ap = ap_is; read = read_is; addr = addr; value = v })
unfolding attempt is_free
same_fields t true b addr v taken =
    let same : register t (bit_and addr 12) ≡ register t addr = ap (λ n. bit_and t.select 0xF0 + n) (again (bit_and addr 12) (quarter addr)) in
    ap (λ x. cond (t.sticky && true) (record { outcome = outcome.Fault; next = t }) x) (port_apart b t addr (bit_and addr 12) v same)
same_fields t false b addr v taken =
    let same : bit_and addr 12 ≡ addr = dp_addr (record { ap = false; read = b; addr = addr; value = v }) taken refl in
    ap (λ n. attempt t (record { ap = false; read = b; addr = n; value = cond b 0 v })) same
    ∙ ap (λ x. cond (t.sticky && not (cond b (eqb addr 0 || (eqb addr 4 && eqb (bank t) 0)) (eqb addr 0))) (record { outcome = outcome.Fault; next = t }) x) (value_apart b t addr v)

-- what is asked for is the access
pub same_attempt : (t : TargetState) (a : RegAccess) → IsTaken a → attempt t (access_of (request_of a)) ≡ attempt t a
same_attempt t a taken = ap (attempt t) (carries a) ∙ same_fields t a.ap a.read a.addr a.value taken

-- it reads no RDBUFF
own_by : (ap_is read_is : Bool) (addr v : ℕ) → IsTaken (record { ap = ap_is; read = read_is; addr = addr; value = v }) →
    is_own (record { ap = ap_is; read = read_is; addr = bit_and addr 12; value = cond read_is 0 v }) ≡ true
own_by true b addr v taken = refl
own_by false true addr v taken =
    let same : bit_and addr 12 ≡ addr = dp_addr (record { ap = false; read = true; addr = addr; value = v }) taken refl in
    ap (λ n. not (eqb n 12)) same ∙ elim (taken.read refl refl) [ inl f ↦ ap (λ n. not (eqb n 12)) f | inr f ↦ ap (λ n. not (eqb n 12)) f ]
own_by false false addr v taken = refl

pub own_carried : (a : RegAccess) → IsTaken a → is_own (access_of (request_of a)) ≡ true
own_carried a taken = ap is_own (carries a) ∙ own_by a.ap a.read a.addr a.value taken

-- it may act while STICKYERR is set where the access may
free_by : (ap_is read_is : Bool) (addr v : ℕ) → IsTaken (record { ap = ap_is; read = read_is; addr = addr; value = v }) →
    may_be_free (record { ap = ap_is; read = read_is; addr = bit_and addr 12; value = cond read_is 0 v }) ≡ may_be_free (record { ap = ap_is; read = read_is; addr = addr; value = v })
free_by true b addr v taken = refl
free_by false b addr v taken = ap (λ n. cond b (eqb n 0 || eqb n 4) (eqb n 0)) (dp_addr (record { ap = false; read = b; addr = addr; value = v }) taken refl)

pub free_carried : (a : RegAccess) → IsTaken a → may_be_free (access_of (request_of a)) ≡ may_be_free a
free_carried a taken = ap may_be_free (carries a) ∙ free_by a.ap a.read a.addr a.value taken
