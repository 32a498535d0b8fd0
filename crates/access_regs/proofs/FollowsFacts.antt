-- What keeps `Follows`.
use Rattle.std.proofs.Common.{◌≡◌, ◌≢◌, ◌∙◌, ℕ, ◌<◌, ◌⊎◌, inl, inr, Bool, true, false, List, [], ◌∷◌, Option, Some, None, refl, sym, ap, subst, arith, bit_and, bit_or}
use Rattle.std.specs.FinMap as map
use Rattle.std.proofs.lemmas.Bool.{cases_eq}
use Rattle.std.proofs.lemmas.Nat.{and_or_apart}
use Rattle.target_machine.specs.Attempt.{Attempt, stored_csw, acknowledges}
use Rattle.target_machine.specs.Plain.{Makes, contains, select_of, is_fault}
use Rattle.target_machine.specs.State.{TargetState}
use Rattle.target_machine.specs.declared.ap.ApState.{ApState}
use Rattle.access_regs.specs.Kept.{Kept, known_at, with_known, csw_of, is_known, kept_with_select}
use Rattle.access_regs.specs.Plan.{select_value, unless, select_needed}
use Rattle.access_regs.specs.Journal.{making}
use Rattle.access_regs.specs.Follows.{Follows, FollowsPort, IsTrueOf, unsettled_tar}
use Rattle.access_regs.specs.declared.known.Known.{Known}
use Rattle.access_regs.specs.declared.known.Unsettled.{Unsettled}
use Rattle.access_regs.proofs.Select.{select_kept, select_write}
use Rattle.access_regs.proofs.PortFacts.{known_same, known_other, table_kept}
use Rattle.access_regs.proofs.Transfer.{is_known_some}
use Rattle.target_machine.specs.Lists.{PassTo}

abbrev pub at_select : TargetState → ℕ → ℕ → TargetState
at_select t n bank = record t { select = select_value n bank }

module _ (k : Kept) (large : List ℕ) (t u : TargetState) (f : Follows k large t u) where
  pub planned_clear : u.sticky ≡ false
  planned_clear = ap (λ (s : TargetState). s.sticky) f.rest ∙ f.clear

  -- the same on both targets
  pub same_words : u.words ≡ t.words
  same_words = ap (λ (s : TargetState). s.words) f.rest

  pub same_power : acknowledges u 0x1000_0000 ≡ acknowledges t 0x1000_0000
  same_power = ap (λ (s : TargetState). acknowledges s 0x1000_0000) f.rest

  -- RDBUFF does not matter
  pub follows_rdbuff : (x y : ℕ) → Follows k large (record t { rdbuff = x }) (record u { rdbuff = y })
  follows_rdbuff x y = record {
    rest = ap (λ (s : TargetState). record s { rdbuff = y }) f.rest;
    clear = f.clear;
    few = f.few;
    table = f.table;
    select = f.select;
    larges = f.larges;
    ports = f.ports;
    unsettled = f.unsettled;
  }

  module _ (n bank : ℕ) (lt : n < 256) (banked : bank < 16) where
    -- SELECT is written on both, or known to have the value
    pub follows_select : ((s : Unsettled) → k.unsettled ≡ Some s → select_value n bank ≡ select_value s.ap 0) → Follows (kept_with_select k (select_value n bank)) large (at_select t n bank) (at_select u n bank)
    follows_select stays = record {
      rest = ap (λ (s : TargetState). at_select s n bank) f.rest;
      clear = f.clear;
      few = f.few;
      table = f.table;
      select = λ v e. (let same : select_value n bank ≡ v = cc in sym (select_kept n bank lt banked) ∙ ap (λ (x : ℕ). bit_and x 0xFF00_00FF) same);
      larges = f.larges;
      ports = f.ports;
      unsettled = λ s e. (let b = f.unsettled s e in (ap (λ (x : ℕ). Some x) (stays s e), b.1, b.2));
    }

    pub plain_select : PassTo t (Makes (select_of n bank) ∷ []) (at_select t n bank)
    plain_select = (ap (λ (x : Attempt). is_fault x.outcome) (select_write n bank lt banked t f.clear), sym (ap (λ (x : Attempt). x.next) (select_write n bank lt banked t f.clear)))

    pub planned_select : PassTo u (making (select_needed k n bank)) (at_select u n bank)
    planned_select = by_known (is_known k.select (select_value n bank)) refl
      where
        by_known : (b : Bool) → is_known k.select (select_value n bank) ≡ b → PassTo u (making (unless b (select_of n bank))) (at_select u n bank)
        by_known true e =
            let is : t.select ≡ select_value n bank = f.select (select_value n bank) (is_known_some k.select (select_value n bank) e) ∙ select_kept n bank lt banked in
            let at : u.select ≡ select_value n bank = ap (λ (s : TargetState). s.select) f.rest ∙ is in
            λ i. record u { select = sym at i }
        by_known false e = (ap (λ (x : Attempt). is_fault x.outcome) (select_write n bank lt banked u planned_clear), sym (ap (λ (x : Attempt). x.next) (select_write n bank lt banked u planned_clear)))

-- what the first plan reads is so
csw_true : (a : Known) (r : ApState) → IsTrueOf a r → IsTrueOf (record a { csw = Some (bit_or r.csw 0x40) }) r
csw_true a r so = record {
  csw = λ c e. (let same : bit_or r.csw 0x40 ≡ c = cc in sym so.stored ∙ sym (and_or_apart 0xFF00_003F r.csw 0x40 refl) ∙ ap stored_csw same);
  tar = so.tar;
  high = so.high;
  stored = so.stored;
}

pub learned_port : (a : Known) (unsettled : Option ℕ) (c : ℕ) (x y : Option ApState) → a.csw ≡ None → ((r : ApState) → y ≡ Some r → c ≡ bit_or r.csw 0x40) →
    FollowsPort a unsettled x y → FollowsPort (record a { csw = Some c }) unsettled x y
learned_port a unsettled c None None none read h = tt
learned_port a None c (Some p) (Some r) none read h =
    (h.0, subst (λ (v : ℕ). IsTrueOf (record a { csw = Some v }) r) (sym (read r refl)) (csw_true a r h.1))
learned_port a (Some tar) c (Some p) (Some r) none read h = let e : ◌≡◌ {A = Option ℕ} None (Some (csw_of a)) = sym none ∙ h.0.learned in absurd (cc)
learned_port a unsettled c None (Some r) none read h = h
learned_port a unsettled c (Some p) None none read h = h

-- what is kept of one AP changes, and holds of it
module _ (k : Kept) (large : List ℕ) (t u : TargetState) (f : Follows k large t u) (n : ℕ) (a : Known) (lt : n < 256)
    (is_large : a.large ≡ (known_at k n).large) (port : FollowsPort a (unsettled_tar k n) (map.get t.aps n) (map.get u.aps n)) where
  abbrev k' : Kept
  k' = with_known k n a

  here : known_at k' n ≡ a
  here = let e = f.table in known_same k n a (omega arith)

  port_at : (q : ℕ) → (q ≡ n) ⊎ (q ≢ n) → FollowsPort (known_at k' q) (unsettled_tar k q) (map.get t.aps q) (map.get u.aps q)
  port_at q (inl same) =
      subst (λ (i : ℕ). FollowsPort (known_at k' i) (unsettled_tar k i) (map.get t.aps i) (map.get u.aps i)) (sym same)
      (subst (λ (c : Known). FollowsPort c (unsettled_tar k n) (map.get t.aps n) (map.get u.aps n)) (sym here) port)
  port_at q (inr ne) = subst (λ (c : Known). FollowsPort c (unsettled_tar k q) (map.get t.aps q) (map.get u.aps q)) (sym (known_other k n q a ne)) (f.ports q)

  large_at : (q : ℕ) → q < 256 → (q ≡ n) ⊎ (q ≢ n) → (known_at k' q).large ≡ contains large q
  large_at q less (inl same) = ap (λ (i : ℕ). (known_at k' i).large) same ∙ ap (λ (c : Known). c.large) here ∙ is_large ∙ f.larges n lt ∙ ap (contains large) (sym same)
  large_at q less (inr ne) = ap (λ (c : Known). c.large) (known_other k n q a ne) ∙ f.larges q less

  pub follows_known : Follows k' large t u
  follows_known = record {
    rest = f.rest;
    clear = f.clear;
    few = f.few;
    table = table_kept k n a ∙ f.table;
    select = f.select;
    larges = λ q less. large_at q less (cases_eq q n);
    ports = λ q. port_at q (cases_eq q n);
    unsettled = f.unsettled;
  }
