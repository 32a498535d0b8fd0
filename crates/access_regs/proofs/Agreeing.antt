-- Targets that agree: the same accesses on both.
use Rattle.std.proofs.Common.{◌≡◌, ◌≢◌, ◌∙◌, ℕ, ◌^◌, ◌<◌, ◌⊎◌, inl, inr, false, List, Option, Some, None, refl, sym, ap, subst, bit_and, length}
use Rattle.std.specs.FinMap as map
use Rattle.std.proofs.lemmas.Bool.{cases_eq}
use Rattle.target_machine.specs.Attempt.{attempt}
use Rattle.target_machine.specs.Plain.{contains}
use Rattle.target_machine.specs.State.{TargetState, Agree}
use Rattle.target_machine.specs.declared.ap.ApState.{ApState}
use Rattle.target_machine.specs.declared.access.RegAccess.{RegAccess}
use Rattle.access_regs.specs.Kept.{Kept, known_at, with_known}
use Rattle.access_regs.specs.Follows.{Follows, FollowsPort, IsTrueOf, unsettled_tar}
use Rattle.access_regs.specs.declared.known.Known.{Known}
use Rattle.access_regs.specs.declared.known.Unsettled.{Unsettled}
use Rattle.access_regs.proofs.Drw.{Ports}
use Rattle.target_machine.specs.Fresh.{HasStoredCsw, HaveStoredCsw}
use Rattle.access_regs.proofs.PortFacts.{known_same, known_other, unsettled_none}
use Rattle.target_machine.proofs.AccessLaws.{attempt_keeps}
use Rattle.access_regs.proofs.Stage.{is_true_of}

pub agree_aps : (t u : TargetState) → Agree t u → t.aps ≡ u.aps
agree_aps t u a = ap (λ (s : TargetState). s.aps) a.same

pub agree_rest : (t u : TargetState) → Agree t u → u ≡ record t { rdbuff = u.rdbuff; aps = u.aps }
agree_rest t u a = ap (λ (s : TargetState). record s { rdbuff = u.rdbuff; aps = u.aps }) (sym a.same)

-- targets that agree, and what is kept is so
pub record Facts (k : Kept) (large : List ℕ) (t u : TargetState) : Type 0 where
  pub agree : Agree t u
  pub clear : t.sticky ≡ false
  pub few : t.power_reads < 2 ^ 32
  pub table : length k.ports ≡ 256
  pub select : (v : ℕ) → k.select ≡ Some v → t.select ≡ bit_and v 0xFF00_00FF
  pub larges : (q : ℕ) → q < 256 → (known_at k q).large ≡ contains large q
  pub so : (q : ℕ) (p : ApState) → map.get u.aps q ≡ Some p → IsTrueOf (known_at k q) p
  pub calm : k.unsettled ≡ None

pub follows_facts : (k : Kept) (large : List ℕ) (t u : TargetState) → Facts k large t u → Follows k large t u
follows_facts k large t u h = record {
  rest = agree_rest t u h.agree;
  clear = h.clear;
  few = h.few;
  table = h.table;
  select = h.select;
  larges = h.larges;
  ports = λ q. port_at q;
  unsettled = λ s e. (let x : ◌≡◌ {A = Option Unsettled} None (Some s) = sym h.calm ∙ e in absurd (cc));
}
  where
    by_port : (a : Known) (o p : Option ApState) → o ≡ p → ((r : ApState) → p ≡ Some r → IsTrueOf a r) → FollowsPort a None o p
    by_port a None None e so = tt
    by_port a (Some x) (Some y) e so = (let same : x ≡ y = cc in (sym same, so y refl))
    by_port a None (Some y) e so = absurd (cc)
    by_port a (Some x) None e so = absurd (cc)

    port_at : (q : ℕ) → FollowsPort (known_at k q) (unsettled_tar k q) (map.get t.aps q) (map.get u.aps q)
    port_at q =
        subst (λ (o : Option ℕ). FollowsPort (known_at k q) o (map.get t.aps q) (map.get u.aps q)) (sym (unsettled_none k q h.calm))
        (by_port (known_at k q) (map.get t.aps q) (map.get u.aps q) (ap (λ (m : Ports). map.get m q) (agree_aps t u h.agree)) (h.so q))

-- after accesses of one AP nothing is known of it
pub forgotten_true : (k : Kept) (n : ℕ) (a : Known) (u v : TargetState) → n < length k.ports → a.csw ≡ None → a.tar ≡ None → a.high ≡ None →
    ((q : ℕ) → q ≢ n → map.get v.aps q ≡ map.get u.aps q) → HaveStoredCsw v → ((q : ℕ) (p : ApState) → map.get u.aps q ≡ Some p → IsTrueOf (known_at k q) p) →
    (q : ℕ) (p : ApState) → map.get v.aps q ≡ Some p → IsTrueOf (known_at (with_known k n a) q) p
forgotten_true k n a u v lt csw tar high others stored so q p is = by_q (cases_eq q n)
  where
    here : HasStoredCsw p → IsTrueOf a p
    here w = record {
      csw = λ c e. (let x : ◌≡◌ {A = Option ℕ} None (Some c) = sym csw ∙ e in absurd (cc));
      tar = λ c e. (let x : ◌≡◌ {A = Option ℕ} None (Some c) = sym tar ∙ e in absurd (cc));
      high = λ c e. (let x : ◌≡◌ {A = Option ℕ} None (Some c) = sym high ∙ e in absurd (cc));
      stored = w;
    }

    by_q : (q ≡ n) ⊎ (q ≢ n) → IsTrueOf (known_at (with_known k n a) q) p
    by_q (inl same) = subst (λ (x : Known). IsTrueOf x p) (sym (ap (known_at (with_known k n a)) same ∙ known_same k n a lt)) (here (stored q p is))
    by_q (inr ne) = subst (λ (x : Known). IsTrueOf x p) (sym (known_other k n q a ne)) (so q p (sym (others q ne) ∙ is))

pub forgotten_large : (k : Kept) (large : List ℕ) (n : ℕ) (a : Known) → n < length k.ports → a.large ≡ contains large n → ((q : ℕ) → q < 256 → (known_at k q).large ≡ contains large q) →
    (q : ℕ) → q < 256 → (known_at (with_known k n a) q).large ≡ contains large q
forgotten_large k large n a lt is larges q less = by_q (cases_eq q n)
  where
    by_q : (q ≡ n) ⊎ (q ≢ n) → (known_at (with_known k n a) q).large ≡ contains large q
    by_q (inl same) = ap (λ (i : ℕ). (known_at (with_known k n a) i).large) same ∙ ap (λ (x : Known). x.large) (known_same k n a lt) ∙ is ∙ ap (contains large) (sym same)
    by_q (inr ne) = ap (λ (x : Known). x.large) (known_other k n q a ne) ∙ larges q less

pub whole_from : (k : Kept) (large : List ℕ) (t u : TargetState) → Follows k large t u → HaveStoredCsw u
whole_from k large t u f q p is = let so = is_true_of k large t u q f p is in so.stored

pub keeps_few : (t : TargetState) (a : RegAccess) → t.power_reads < 2 ^ 32 → (attempt t a).next.power_reads < 2 ^ 32
keeps_few t a few = let k = attempt_keeps t a in subst (λ (x : ℕ). x < 2 ^ 32) (sym k.power_reads) few
