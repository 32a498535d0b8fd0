-- What the accesses of the selected AP do, whether it is there or not.
use Rattle.std.proofs.Common.{◌≡◌, ◌≢◌, ◌∙◌, ℕ, ◌/◌, ◌^◌, Bool, true, false, cond, Option, Some, None, refl, sym, ap, subst, bit_and, bit_or}
use Rattle.std.specs.Option.{option_map}
use Rattle.std.specs.FinMap as map
use Rattle.std.proofs.lemmas.Bool.{eq-eqb, ne_eqb, cond-true, cond-false}
use Rattle.target_machine.proofs.Maps.{got_inserted}
use Rattle.target_machine.specs.Attempt.{Attempt, attempt, done_attempt, posted_attempt, acknowledges, stored_csw, with_ap, drw_read, drw_write, size_of}
use Rattle.target_machine.specs.Plain.{ap_access_of}
use Rattle.target_machine.specs.State.{TargetState}
use Rattle.target_machine.specs.declared.access.RegAccess.{RegAccess}
use Rattle.target_machine.specs.declared.ap.ApState.{ApState}

-- the AP is selected with bank 0, and powered
pub record Selects (t : TargetState) (ap : ℕ) : Type 0 where
  pub power : acknowledges t 0x1000_0000 ≡ true
  pub clear : t.sticky ≡ false
  pub here : t.select / 2 ^ 24 ≡ ap
  pub bank : bit_and t.select 0xF0 ≡ 0

-- From t the port of one AP, where it is there, became what f makes of it, and nothing else changed except RDBUFF.
pub record Turns (t : TargetState) (ap : ℕ) (f : ApState → ApState) (u : TargetState) : Type 0 where
  pub rest : u ≡ record t { rdbuff = u.rdbuff; aps = u.aps }
  pub port : map.get u.aps ap ≡ option_map f (map.get t.aps ap)
  pub others : (q : ℕ) → q ≢ ap → map.get u.aps q ≡ map.get t.aps q

abbrev pub put : TargetState → ℕ → ApState → TargetState
put t ap p = record t { aps = map.insert t.aps ap p }

put_turns : (t : TargetState) (ap : ℕ) (f : ApState → ApState) (p : ApState) → map.get t.aps ap ≡ Some p → Turns t ap f (put t ap (f p))
put_turns t n f p is = record {
  rest = refl;
  port = got_inserted t.aps n (f p) n ∙ cond-true _ _ _ (eq-eqb n n refl) ∙ sym (ap (option_map f) is);
  others = λ q ne. got_inserted t.aps n (f p) q ∙ cond-false _ _ _ (ne_eqb q n ne);
}

none_turns : (t : TargetState) (ap : ℕ) (f : ApState → ApState) → map.get t.aps ap ≡ None → Turns t ap f t
none_turns t n f is = record { rest = refl; port = is ∙ sym (ap (option_map f) is); others = λ q ne. refl }

-- nothing has to change where f changes nothing
pub same_turns : (t : TargetState) (ap : ℕ) (f : ApState → ApState) → ((p : ApState) → map.get t.aps ap ≡ Some p → f p ≡ p) → Turns t ap f t
same_turns t n f same = record { rest = refl; port = by_port (map.get t.aps n) refl; others = λ q ne. refl }
  where
    by_port : (o : Option ApState) → map.get t.aps n ≡ o → map.get t.aps n ≡ option_map f (map.get t.aps n)
    by_port None is = is ∙ sym (ap (option_map f) is)
    by_port (Some p) is = is ∙ ap (λ (x : ApState). Some x) (sym (same p is)) ∙ sym (ap (option_map f) is)

-- writes of CSW, TAR and the upper word
pub record Writes (x : Attempt) (t : TargetState) (ap : ℕ) (f : ApState → ApState) : Type 0 where
  pub is : x ≡ done_attempt x.next
  pub turns : Turns t ap f x.next

-- the upper word of TAR is written where the port has it
abbrev pub heightened : ℕ → ApState → ApState
heightened v p = record p { high = cond p.large v p.high }

heightened_is : (v : ℕ) (p : ApState) → cond p.large (record p { high = v }) p ≡ heightened v p
heightened_is v p = by_large p.large
  where
    by_large : (b : Bool) → cond b (record p { high = v }) p ≡ record p { high = cond b v p.high }
    by_large true = refl
    by_large false = refl

module _ (t : TargetState) (n : ℕ) (at : Selects t n) where
  pub attempt_none : (a : RegAccess) → a.ap ≡ true → map.get t.aps n ≡ None → attempt t a ≡ cond a.read (posted_attempt 0 t) (done_attempt t)
  unfolding attempt
  attempt_none a is none = rw (at.clear, is, at.power, at.here, none) refl

  placed : (q : ApState) → done_attempt (with_ap t q) ≡ done_attempt (put t n q)
  placed q = ap (λ (i : ℕ). done_attempt (record t { aps = map.insert t.aps i q })) at.here

  csw_there : (p : ApState) (v : ℕ) → map.get t.aps n ≡ Some p → attempt t (ap_access_of false 0 v) ≡ done_attempt (with_ap t (record p { csw = stored_csw v }))
  unfolding attempt
  csw_there p v some = let there : map.get t.aps (t.select / 2 ^ 24) ≡ Some p = ap (map.get t.aps) at.here ∙ some in rw (at.clear, at.power, there, at.bank) refl

  csw_some : (p : ApState) (v : ℕ) → map.get t.aps n ≡ Some p → attempt t (ap_access_of false 0 v) ≡ done_attempt (put t n (record p { csw = stored_csw v }))
  csw_some p v some = csw_there p v some ∙ placed (record p { csw = stored_csw v })

  tar_there : (p : ApState) (v : ℕ) → map.get t.aps n ≡ Some p → attempt t (ap_access_of false 4 v) ≡ done_attempt (with_ap t (record p { tar = v }))
  unfolding attempt
  tar_there p v some = let there : map.get t.aps (t.select / 2 ^ 24) ≡ Some p = ap (map.get t.aps) at.here ∙ some in rw (at.clear, at.power, there, at.bank) refl

  tar_some : (p : ApState) (v : ℕ) → map.get t.aps n ≡ Some p → attempt t (ap_access_of false 4 v) ≡ done_attempt (put t n (record p { tar = v }))
  tar_some p v some = tar_there p v some ∙ placed (record p { tar = v })

  high_there : (p : ApState) (v : ℕ) → map.get t.aps n ≡ Some p → attempt t (ap_access_of false 8 v) ≡ done_attempt (with_ap t (cond p.large (record p { high = v }) p))
  unfolding attempt
  high_there p v some = let there : map.get t.aps (t.select / 2 ^ 24) ≡ Some p = ap (map.get t.aps) at.here ∙ some in rw (at.clear, at.power, there, at.bank) refl

  high_some : (p : ApState) (v : ℕ) → map.get t.aps n ≡ Some p → attempt t (ap_access_of false 8 v) ≡ done_attempt (put t n (heightened v p))
  high_some p v some = high_there p v some ∙ ap (λ (q : ApState). done_attempt (with_ap t q)) (heightened_is v p) ∙ placed (heightened v p)

  pub read_some : (p : ApState) → map.get t.aps n ≡ Some p → attempt t (ap_access_of true 0 0) ≡ posted_attempt (bit_or p.csw 0x40) t
  unfolding attempt
  read_some p some = rw (at.clear, at.power, at.here, some, at.bank) refl

  pub drw_some : (p : ApState) (read : Bool) (v : ℕ) → map.get t.aps n ≡ Some p →
      attempt t (ap_access_of read 0xC v) ≡ cond read (drw_read t p (size_of p.csw)) (drw_write t p (cond read 0 v) (size_of p.csw))
  unfolding attempt
  drw_some p read v some = rw (at.clear, at.power, at.here, some, at.bank) refl

  writes_by : (a : RegAccess) (f : ApState → ApState) → a.ap ≡ true → a.read ≡ false →
      ((p : ApState) → map.get t.aps n ≡ Some p → attempt t a ≡ done_attempt (put t n (f p))) → Writes (attempt t a) t n f
  writes_by a f is write some = by_port (map.get t.aps n) refl
    where
      by_port : (o : Option ApState) → map.get t.aps n ≡ o → Writes (attempt t a) t n f
      by_port None none =
          let e : attempt t a ≡ done_attempt t = attempt_none a is none ∙ ap (λ (b : Bool). cond b (posted_attempt 0 t) (done_attempt t)) write in
          subst (λ (x : Attempt). Writes x t n f) (sym e) (record { is = refl; turns = none_turns t n f none })
      by_port (Some p) at =
          subst (λ (x : Attempt). Writes x t n f) (sym (some p at)) (record { is = refl; turns = put_turns t n f p at })

  pub csw_writes : (v : ℕ) → Writes (attempt t (ap_access_of false 0 v)) t n (λ p. record p { csw = stored_csw v })
  csw_writes v = writes_by (ap_access_of false 0 v) (λ p. record p { csw = stored_csw v }) refl refl (λ p is. csw_some p v is)

  pub tar_writes : (v : ℕ) → Writes (attempt t (ap_access_of false 4 v)) t n (λ p. record p { tar = v })
  tar_writes v = writes_by (ap_access_of false 4 v) (λ p. record p { tar = v }) refl refl (λ p is. tar_some p v is)

  pub high_writes : (v : ℕ) → Writes (attempt t (ap_access_of false 8 v)) t n (heightened v)
  high_writes v = writes_by (ap_access_of false 8 v) (heightened v) refl refl (λ p is. high_some p v is)
