-- Settling.
use Rattle.std.proofs.Common.{◌≡◌, ◌≢◌, ◌∙◌, ℕ, ◌<◌, ◌⊎◌, inl, inr, true, false, List, [], ◌∷◌, Option, Some, None, refl, sym, ap, subst, arith}
use Rattle.std.specs.FinMap as map
use Rattle.std.specs.Option.{option_map}
use Rattle.std.proofs.lemmas.Bool.{eq-eqb, cond-true, cases_eq}
use Rattle.std.proofs.lemmas.Nat.{and_assoc}
use Rattle.target_machine.proofs.Maps.{same_map}
use Rattle.target_machine.specs.Attempt.{stored_csw}
use Rattle.target_machine.specs.Plain.{contains, ap_access_of}
use Rattle.target_machine.specs.State.{TargetState, Agree}
use Rattle.target_machine.specs.declared.ap.ApState.{ApState}
use Rattle.target_machine.specs.declared.access.RegAccess.{RegAccess}
use Rattle.access_regs.specs.Kept.{Kept, known_at, with_known, csw_of}
use Rattle.access_regs.specs.Plan.{select_value, settling, settle, settled_at, kept_after_settling, increment_off}
use Rattle.access_regs.specs.Journal.{making}
use Rattle.access_regs.specs.Follows.{Follows, FollowsPort, unsettled_tar, tar_if}
use Rattle.access_regs.specs.declared.known.Known.{Known}
use Rattle.access_regs.specs.declared.known.Unsettled.{Unsettled}
use Rattle.access_regs.proofs.Port.{Selects, csw_writes, tar_writes}
use Rattle.access_regs.proofs.Select.{Part, part, part_then, turns_select, selected_is, select_kept}
use Rattle.access_regs.proofs.PortFacts.{known_same, known_other, table_kept, unsettled_other}
use Rattle.access_regs.proofs.Stage.{by_ports, put_ports, like_port}
use Rattle.target_machine.specs.Lists.{PassTo}
use Rattle.access_regs.proofs.FollowsFacts.{planned_clear, same_power}

pub record Goes (k k' : Kept) (large : List ℕ) (t u : TargetState) (accesses : List RegAccess) : Type 0 where
  pub at : TargetState
  pub pass : PassTo u (making accesses) at
  pub follows : Follows k' large t at

module _ (k : Kept) (large : List ℕ) (t u : TargetState) (f : Follows k large t u) (s : Unsettled) (unsettled : k.unsettled ≡ Some s) where
  abbrev n : ℕ
  n = s.ap

  abbrev a : Known
  a = known_at k n

  abbrev c : ℕ
  c = increment_off (csw_of a)

  abbrev b : Known
  b = record a { csw = Some c; tar = Some s.tar }

  abbrev k' : Kept
  k' = record (with_known k n b) { unsettled = None }

  lt : n < 256
  lt = let h = f.unsettled s unsettled in h.1

  selects : t.select ≡ select_value n 0
  selects = let h = f.unsettled s unsettled in f.select (select_value n 0) h.0 ∙ select_kept n 0 lt (omega arith)

  at : Selects u n
  at =
      let h = f.unsettled s unsettled in
      selected_is u n lt (planned_clear k large t u f) (same_power k large t u f ∙ h.2) (ap (λ (x : TargetState). x.select) f.rest ∙ selects)

  abbrev still_csw : ApState → ApState
  still_csw p = record p { csw = stored_csw c }

  abbrev back : ApState → ApState
  back p = record p { tar = s.tar }

  written : Part u n (λ p. back (still_csw p)) (ap_access_of false 0 c ∷ ap_access_of false 4 s.tar ∷ [])
  written =
      let x : Part u n still_csw (ap_access_of false 0 c ∷ []) = part u n still_csw false (ap_access_of false 0 c) (λ (e : false ≡ true). absurd (cc)) (csw_writes u n at c) in
      let at1 : Selects x.next n = turns_select u x.next n still_csw x.turns at in
      part_then u n still_csw back (ap_access_of false 0 c ∷ []) (ap_access_of false 4 s.tar ∷ []) x
      (part x.next n back false (ap_access_of false 4 s.tar) (λ (e : false ≡ true). absurd (cc)) (tar_writes x.next n at1 s.tar))

  abbrev v : TargetState
  v = written.next

  unsettled_is : unsettled_tar k n ≡ Some s.tar
  unsettled_is = ap (λ (o : Option Unsettled). tar_if o n) unsettled ∙ cond-true _ _ _ (eq-eqb n n refl)

  here : known_at k' n ≡ b
  here = let e = f.table in let l : n < 256 = lt in known_same k n b (omega arith)

  port_of : (p r : ApState) → FollowsPort a (unsettled_tar k n) (Some p) (Some r) → FollowsPort b None (Some p) (Some (back (still_csw r)))
  port_of p r h =
      let g : FollowsPort a (Some s.tar) (Some p) (Some r) = subst (λ (o : Option ℕ). FollowsPort a o (Some p) (Some r)) unsettled_is h in
      let close = g.0 in
      let so = g.1 in (
        ap (λ (x : ApState). back (still_csw x)) close.others ∙ (λ i. record p { csw = sym close.csw i; tar = sym close.at i }),
        record {
          csw = λ x e. (let same : c ≡ x = cc in ap stored_csw same);
          tar = λ x e. cc;
          high = so.high;
          stored = and_assoc 0xFF00_003F c 0xFF00_003F;
        },
      )

  port_here : FollowsPort b None (map.get t.aps n) (map.get v.aps n)
  port_here =
      by_ports a (unsettled_tar k n) (map.get t.aps n) (map.get u.aps n) (f.ports n)
      (λ nt nu. put_ports b None (map.get t.aps n) None (map.get v.aps n) None nt (written.turns.port ∙ ap (option_map (λ p. back (still_csw p))) nu) tt)
      (λ p r pt ru h. put_ports b None (map.get t.aps n) (Some p) (map.get v.aps n) (Some (back (still_csw r))) pt (written.turns.port ∙ ap (option_map (λ p. back (still_csw p))) ru) (port_of p r h))

  port_at : (q : ℕ) → (q ≡ n) ⊎ (q ≢ n) → FollowsPort (known_at k' q) None (map.get t.aps q) (map.get v.aps q)
  port_at q (inl same) =
      subst (λ (i : ℕ). FollowsPort (known_at k' i) None (map.get t.aps i) (map.get v.aps i)) (sym same)
      (subst (λ (x : Known). FollowsPort x None (map.get t.aps n) (map.get v.aps n)) (sym here) port_here)
  port_at q (inr ne) =
      like_port (known_at k' q) (known_at k q) None (unsettled_tar k q) (map.get t.aps q) (map.get t.aps q) (map.get v.aps q) (map.get u.aps q)
      (known_other k n q b ne) (sym (unsettled_other k q s unsettled ne)) refl (written.turns.others q ne) (f.ports q)

  large_at : (q : ℕ) → q < 256 → (q ≡ n) ⊎ (q ≢ n) → (known_at k' q).large ≡ contains large q
  large_at q less (inl same) = ap (λ (i : ℕ). (known_at k' i).large) same ∙ ap (λ (x : Known). x.large) here ∙ f.larges n lt ∙ ap (contains large) (sym same)
  large_at q less (inr ne) = ap (λ (x : Known). x.large) (known_other k n q b ne) ∙ f.larges q less

  settled_some : Goes k k' large t u (ap_access_of false 0 c ∷ ap_access_of false 4 s.tar ∷ [])
  settled_some = record {
    at = v;
    pass = written.pass;
    follows = record {
      rest = written.turns.rest ∙ ap (λ (x : TargetState). record x { rdbuff = v.rdbuff; aps = v.aps }) f.rest;
      clear = f.clear;
      few = f.few;
      table = table_kept k n b ∙ f.table;
      select = f.select;
      larges = λ q less. large_at q less (cases_eq q n);
      ports = λ q. port_at q (cases_eq q n);
      unsettled = λ x e. absurd (cc);
    };
  }

-- After settling nothing is unsettled, and none of its accesses faults.
pub settles : (k : Kept) (large : List ℕ) (t u : TargetState) → Follows k large t u → Goes k (kept_after_settling k) large t u (settle k)
settles k large t u f = by_unsettled k.unsettled refl
  where
    by_unsettled : (o : Option Unsettled) → k.unsettled ≡ o → Goes k (kept_after_settling k) large t u (settle k)
    by_unsettled None none =
        subst (λ (o : Option Unsettled). Goes k (settled_at k o) large t u (settling k o)) (sym none) (record { at = u; pass = refl; follows = f })
    by_unsettled (Some s) some =
        subst (λ (o : Option Unsettled). Goes k (settled_at k o) large t u (settling k o)) (sym some) (settled_some k large t u f s some)

pub settled_calm : (k : Kept) → (kept_after_settling k).unsettled ≡ None
settled_calm k = by_unsettled k.unsettled refl
  where
    by_unsettled : (o : Option Unsettled) → k.unsettled ≡ o → (settled_at k k.unsettled).unsettled ≡ None
    by_unsettled None none = ap (λ (o : Option Unsettled). (settled_at k o).unsettled) none ∙ none
    by_unsettled (Some s) some = ap (λ (o : Option Unsettled). (settled_at k o).unsettled) some

-- where nothing is unsettled the targets agree
pub follows_agree : (k : Kept) (large : List ℕ) (t u : TargetState) → Follows k large t u → k.unsettled ≡ None → Agree t u
follows_agree k large t u f calm =
    let ports : (q : ℕ) → map.get t.aps q ≡ map.get u.aps q = λ q. by_port (known_at k q) (map.get t.aps q) (map.get u.aps q)
    (subst (λ (o : Option ℕ). FollowsPort (known_at k q) o (map.get t.aps q) (map.get u.aps q)) (ap (λ (o : Option Unsettled). tar_if o q) calm) (f.ports q)) in
    record { same = ap (λ (m : map.FinMap _ ApState). record t { rdbuff = 0; aps = m }) (same_map t.aps u.aps ports) ∙ sym (ap (λ (x : TargetState). record x { rdbuff = 0 }) f.rest) }
  where
    by_port : (x : Known) (p r : Option ApState) → FollowsPort x None p r → p ≡ r
    by_port x None None h = refl
    by_port x (Some p) (Some r) h = ap (λ (y : ApState). Some y) (sym h.0)
    by_port x None (Some r) h = absurd h
    by_port x (Some p) None h = absurd h
