-- A memory unit after its read of CSW: the plain accesses and the plan, up to DRW and after it.
use Rattle.std.proofs.Common.{◌≡◌, ◌≢◌, ◌∙◌, ℕ, ◌+◌, ◌/◌, ◌%◌, ◌^◌, ◌<◌, ◌⊎◌, inl, inr, Bool, true, false, cond, List, Option, Some, None, refl, sym, ap, subst, arith, bit_and, bit_or, length}
use Rattle.std.specs.Option.{option_map}
use Rattle.std.specs.FinMap as map
use Rattle.std.proofs.lemmas.Bool.{eq-eqb, ne_eqb, cond-true, cond-false, cases_eq}
use Rattle.std.proofs.lemmas.Nat.{and_assoc}
use Rattle.target_machine.specs.Attempt.{Attempt, attempt, stored_csw, acknowledges, size_of}
use Rattle.target_machine.specs.Plain.{csw_for, size_code, contains, drw_of, to_lanes, is_fault}
use Rattle.target_machine.specs.State.{TargetState}
use Rattle.target_machine.specs.declared.access.RegAccess.{RegAccess}
use Rattle.target_machine.specs.declared.ap.ApState.{ApState}
use Rattle.access_regs.specs.Kept.{Kept, known_at, with_known, csw_of}
use Rattle.access_regs.specs.Plan.{planned_csw, select_value, port_writes, after_drw}
use Rattle.access_regs.specs.Follows.{Follows, FollowsPort, IsUnsettledPort, IsTrueOf, unsettled_tar}
use Rattle.access_regs.specs.declared.known.Known.{Known}
use Rattle.access_regs.specs.declared.known.Unsettled.{Unsettled}
use Rattle.access_regs.proofs.Csw.{fixed, stored_for, stored_planned, increment_off_planned, planned_size, plain_size, planned_inc, plain_inc, IsSize}
use Rattle.access_regs.proofs.Port.{Selects}
use Rattle.access_regs.proofs.Drw.{Together, moves, other, with_port, without_port}
use Rattle.access_regs.proofs.Select.{Part, turns_select, select_kept}
use Rattle.access_regs.proofs.PortFacts.{Like, like, known_same, known_other, table_kept, plain_stored}
use Rattle.access_regs.proofs.Transfer.{ready, plain_writes, plain_part, planned_part, Sure, predicted_is, low_aligned}

-- a port of both targets, or of neither
module _ {G : Type 0} (a : Known) (unsettled : Option ℕ) where
  pub by_ports : (x y : Option ApState) → FollowsPort a unsettled x y → (x ≡ None → y ≡ None → G) → ((p r : ApState) → x ≡ Some p → y ≡ Some r → FollowsPort a unsettled (Some p) (Some r) → G) → G
  by_ports None None h none some = none refl refl
  by_ports (Some p) (Some r) h none some = some p r refl refl h
  by_ports None (Some r) h none some = absurd h
  by_ports (Some p) None h none some = absurd h

pub put_ports : (a : Known) (unsettled : Option ℕ) (x v y w : Option ApState) → x ≡ v → y ≡ w → FollowsPort a unsettled v w → FollowsPort a unsettled x y
put_ports a unsettled x v y w e g h = subst (λ (z : Option ApState). FollowsPort a unsettled z y) (sym e) (subst (λ (z : Option ApState). FollowsPort a unsettled v z) (sym g) h)

pub like_port : (a c : Known) (m o : Option ℕ) (x v y w : Option ApState) → a ≡ c → m ≡ o → x ≡ v → y ≡ w → FollowsPort c o v w → FollowsPort a m x y
like_port a c m o x v y w ea em e g h =
    subst (λ (z : Known). FollowsPort z m x y) (sym ea) (subst (λ (z : Option ℕ). FollowsPort c z x y) (sym em) (put_ports c o x v y w e g h))

pub is_true_of : (k : Kept) (large : List ℕ) (t u : TargetState) (n : ℕ) → Follows k large t u → Sure u n (known_at k n)
is_true_of k large t u n f r is = by_ports {G = IsTrueOf (known_at k n) r} (known_at k n) (unsettled_tar k n) (map.get t.aps n) (map.get u.aps n) (f.ports n)
    (λ nt nu. (let e : ◌≡◌ {A = Option ApState} None (Some r) = sym nu ∙ is in absurd (cc)))
    (λ p q pt qu h. (let e : ◌≡◌ {A = Option ApState} (Some q) (Some r) = sym qu ∙ is in let same : q ≡ r = cc in let l = like (known_at k n) (unsettled_tar k n) p q h in subst (IsTrueOf (known_at k n)) same l.so))

ready_like : (csw plain : ℕ) (b : Bool) (address : ℕ) (p r : ApState) → r ≡ record p { csw = r.csw; tar = r.tar } →
    ready csw b address r ≡ record (ready plain b address p) { csw = stored_csw csw }
ready_like csw plain b address p r e = ap (ready csw b address) e

module _ (k : Kept) (large : List ℕ) (t u : TargetState) (size : ℕ) (read : Bool) (n address value : ℕ) (lt : n < 256) (is : IsSize size) (aligned : address % size ≡ 0)
    (f : Follows k large t u) (knows : (known_at k n).csw ≡ Some (csw_of (known_at k n))) (at : Selects t n) (selects : t.select ≡ select_value n 0)
    (idle : (q : ℕ) → q ≢ n → unsettled_tar k q ≡ None) (csw : ℕ) (csw_read : (p : ApState) → map.get t.aps n ≡ Some p → csw ≡ bit_or p.csw 0x40) where
  abbrev pub a : Known
  a = known_at k n

  abbrev pub drw : RegAccess
  drw = drw_of read address value

  pub other_at : Selects u n
  other_at = subst (λ (s : TargetState). Selects s n) (sym f.rest) (record { power = at.power; clear = at.clear; here = at.here; bank = at.bank })

  abbrev pub plain : Part t n (ready (csw_for csw size) a.large address) (plain_writes (csw_for csw size) a.large address)
  plain = plain_part t n (csw_for csw size) address a.large at

  abbrev pub planned : Part u n (ready (planned_csw (csw_of a) size) a.large address) (port_writes a size address)
  planned = planned_part u n size address a other_at (is_true_of k large t u n f)

  abbrev pub t3 : TargetState
  t3 = plain.next

  abbrev pub u3 : TargetState
  u3 = planned.next

  abbrev pub F : ApState → ApState
  F = ready (csw_for csw size) a.large address

  abbrev pub G : ApState → ApState
  G = ready (planned_csw (csw_of a) size) a.large address

  pub at3 : Selects t3 n
  at3 = turns_select t t3 n F plain.turns at

  rest3 : u3 ≡ other t3 u3.rdbuff u3.aps
  rest3 =
      planned.turns.rest
      ∙ ap (λ (s : TargetState). record s { rdbuff = u3.rdbuff; aps = u3.aps }) f.rest
      ∙ sym (ap (λ (s : TargetState). record s { rdbuff = u3.rdbuff; aps = u3.aps }) plain.turns.rest)

  abbrev pub moved : ApState → ApState
  moved = moves t3.carry size

  abbrev pub Drws : TargetState → Type 0
  Drws s = Together t3 u3.aps n moved (attempt t3 drw) (attempt s drw)

  neither : map.get t.aps n ≡ None → map.get u.aps n ≡ None → Drws (other t3 u3.rdbuff u3.aps)
  neither nt nu =
      without_port t3 u3.rdbuff u3.aps n size read (to_lanes address value) at3
      (plain.turns.port ∙ ap (option_map F) nt) (planned.turns.port ∙ ap (option_map G) nu)

  both : (p r : ApState) → map.get t.aps n ≡ Some p → map.get u.aps n ≡ Some r → Like a p r → Drws (other t3 u3.rdbuff u3.aps)
  both p r pt ru l =
      let c : ℕ = stored_csw (planned_csw (csw_of a) size) in
      let stored : stored_csw (csw_for csw size) ≡ fixed (csw_of a) + size_code size =
      ap (λ (x : ℕ). stored_csw (csw_for x size)) (csw_read p pt) ∙ plain_stored a p r (csw_of a) size l knows in
      let planned_stored : c ≡ fixed (csw_of a) + size_code size + 0x10 = stored_planned (csw_of a) size in
      with_port t3 u3.rdbuff u3.aps n size read (to_lanes address value) at3 (F p) c
      (plain.turns.port ∙ ap (option_map F) pt)
      (planned.turns.port ∙ ap (option_map G) ru ∙ ap (λ (x : ApState). Some x) (ready_like (planned_csw (csw_of a) size) (csw_for csw size) a.large address p r l.others))
      (ap size_of stored ∙ plain_size (csw_of a) size is)
      (ap size_of planned_stored ∙ planned_size (csw_of a) size is)
      (ap (λ (x : ℕ). bit_and x 0x30) stored ∙ plain_inc (csw_of a) size)
      (ap (λ (x : ℕ). bit_and x 0x30) planned_stored ∙ planned_inc (csw_of a) size)

  pub together : Drws u3
  together =
      subst Drws (sym rest3)
      (by_ports {G = Drws (other t3 u3.rdbuff u3.aps)} a (unsettled_tar k n) (map.get t.aps n) (map.get u.aps n) (f.ports n) neither
      (λ p r pt ru h. both p r pt ru (like a (unsettled_tar k n) p r h)))

  -- ---- after DRW

  abbrev pub X : Attempt
  X = attempt t3 drw

  abbrev pub Y : Attempt
  Y = attempt u3 drw

  abbrev low : ℕ
  low = address % 2 ^ 32

  abbrev b : Known
  b = after_drw a size address

  abbrev pub made_kept : Kept
  made_kept = record (with_known k n b) { select = Some (select_value n 0); unsettled = Some (record { ap = n; tar = low }) }

  -- what DRW left of everything but RDBUFF, the ports and the memory
  kept_rest : X.next ≡ record t { sticky = X.next.sticky; rdbuff = X.next.rdbuff; aps = X.next.aps; words = X.next.words }
  kept_rest =
      together.plain_rest
      ∙ ap (λ (s : TargetState). record s { sticky = X.next.sticky; rdbuff = X.next.rdbuff; aps = X.next.aps; words = X.next.words }) plain.turns.rest

  carry_is : t3.carry ≡ t.carry
  carry_is = ap (λ (s : TargetState). s.carry) plain.turns.rest

  table : n < length k.ports
  table = let e = f.table in omega arith

  known_here : known_at made_kept n ≡ b
  known_here = known_same k n b table

  known_there : (q : ℕ) → q ≢ n → known_at made_kept q ≡ known_at k q
  known_there q ne = known_other k n q b ne

  unsettled_here : unsettled_tar made_kept n ≡ Some low
  unsettled_here = cond-true _ _ _ (eq-eqb n n refl)

  unsettled_there : (q : ℕ) → q ≢ n → unsettled_tar made_kept q ≡ None
  unsettled_there q ne = cond-false _ _ _ (ne_eqb q n ne)

  close : (p r : ApState) → Like a p r → csw ≡ bit_or p.csw 0x40 → IsUnsettledPort b low (F p) (moved (G r))
  close p r l read_is = record {
    learned = refl;
    csw =
        ap (λ (x : ℕ). stored_csw (csw_for x size)) read_is ∙ plain_stored a p r (csw_of a) size l knows
        ∙ sym (ap stored_csw (increment_off_planned (csw_of a) size) ∙ stored_for (csw_of a) size);
    at = refl;
    others = ap (λ (x : ApState). moved (G x)) l.others;
  }

  true_after : (r : ApState) → IsTrueOf a r → IsTrueOf b (moved (G r))
  true_after r so = record {
    csw = λ c e. (let same : planned_csw (csw_of a) size ≡ c = cc in ap stored_csw same);
    tar = λ v e. predicted_is t3.carry low size v is (low_aligned size address is aligned) (omega arith) e;
    high = λ h e big. by_high a.large h e big;
    stored = and_assoc 0xFF00_003F (planned_csw (csw_of a) size) 0xFF00_003F;
  }
    where
      by_high : (l : Bool) (h : ℕ) → cond l (Some (address / 2 ^ 32)) a.high ≡ Some h → r.large ≡ true → cond l (cond r.large (address / 2 ^ 32) r.high) r.high ≡ h
      by_high true h e big = ap (λ (c : Bool). cond c (address / 2 ^ 32) r.high) big ∙ cc
      by_high false h e big = so.high h e big

  module _ (good : is_fault X.outcome ≡ false) where
    x_port : map.get X.next.aps n ≡ option_map F (map.get t.aps n)
    x_port = together.plain n ∙ plain.turns.port

    y_port : map.get Y.next.aps n ≡ option_map moved (option_map G (map.get u.aps n))
    y_port = together.planned good ∙ ap (option_map moved) planned.turns.port

    port_here : FollowsPort b (Some low) (map.get X.next.aps n) (map.get Y.next.aps n)
    port_here =
        by_ports a (unsettled_tar k n) (map.get t.aps n) (map.get u.aps n) (f.ports n)
        (λ nt nu. put_ports b (Some low) (map.get X.next.aps n) None (map.get Y.next.aps n) None
        (x_port ∙ ap (option_map F) nt) (y_port ∙ ap (λ (o : Option ApState). option_map moved (option_map G o)) nu) tt)
        (λ p r pt ru h. (let l = like a (unsettled_tar k n) p r h in
        put_ports b (Some low) (map.get X.next.aps n) (Some (F p)) (map.get Y.next.aps n) (Some (moved (G r)))
        (x_port ∙ ap (option_map F) pt) (y_port ∙ ap (λ (o : Option ApState). option_map moved (option_map G o)) ru)
        (close p r l (csw_read p pt), true_after r l.so)))

    port_there : (q : ℕ) → q ≢ n → FollowsPort (known_at made_kept q) (unsettled_tar made_kept q) (map.get X.next.aps q) (map.get Y.next.aps q)
    port_there q ne =
        like_port (known_at made_kept q) (known_at k q) (unsettled_tar made_kept q) (unsettled_tar k q) (map.get X.next.aps q) (map.get t.aps q) (map.get Y.next.aps q) (map.get u.aps q)
        (known_there q ne) (unsettled_there q ne ∙ sym (idle q ne)) (together.plain q ∙ plain.turns.others q ne) (together.others q ne ∙ planned.turns.others q ne) (f.ports q)

    port_at : (q : ℕ) → (q ≡ n) ⊎ (q ≢ n) → FollowsPort (known_at made_kept q) (unsettled_tar made_kept q) (map.get X.next.aps q) (map.get Y.next.aps q)
    port_at q (inl same) =
        subst (λ (i : ℕ). FollowsPort (known_at made_kept i) (unsettled_tar made_kept i) (map.get X.next.aps i) (map.get Y.next.aps i)) (sym same)
        (like_port (known_at made_kept n) b (unsettled_tar made_kept n) (Some low) (map.get X.next.aps n) (map.get X.next.aps n) (map.get Y.next.aps n) (map.get Y.next.aps n)
        known_here unsettled_here refl refl port_here)
    port_at q (inr ne) = port_there q ne

    larges_at : (q : ℕ) → q < 256 → (q ≡ n) ⊎ (q ≢ n) → (known_at made_kept q).large ≡ contains large q
    larges_at q less (inl same) =
        ap (λ (i : ℕ). (known_at made_kept i).large) same ∙ ap (λ (c : Known). c.large) known_here ∙ f.larges n lt ∙ ap (contains large) (sym same)
    larges_at q less (inr ne) = ap (λ (c : Known). c.large) (known_there q ne) ∙ f.larges q less

    pub follows : Follows made_kept large X.next Y.next
    follows = record {
      rest = together.rest;
      clear = together.clear good ∙ at3.clear;
      few = subst (λ (x : ℕ). x < 2 ^ 32) (sym (ap (λ (s : TargetState). s.power_reads) kept_rest)) f.few;
      table = table_kept k n b ∙ f.table;
      select = λ v e. (let same : select_value n 0 ≡ v = cc in
          ap (λ (s : TargetState). s.select) kept_rest ∙ selects ∙ sym (select_kept n 0 lt (omega arith)) ∙ ap (λ (x : ℕ). bit_and x 0xFF00_00FF) same);
      larges = λ q less. larges_at q less (cases_eq q n);
      ports = λ q. port_at q (cases_eq q n);
      unsettled = λ s e. (let same : ◌≡◌ {A = Unsettled} (record { ap = n; tar = low }) s = cc in
          subst (λ (s : Unsettled). (◌≡◌ {A = Option ℕ} (Some (select_value n 0)) (Some (select_value s.ap 0))) × (s.ap < 256) × (acknowledges X.next 0x1000_0000 ≡ true)) same
          (refl, lt, subst (λ (x : TargetState). acknowledges x 0x1000_0000 ≡ true) (sym kept_rest) at.power));
    }
