-- Neighbouring units have few own entries.
use Rattle.std.proofs.Common.{◌≡◌, ◌≢◌, ◌∙◌, ℕ, ◌+◌, ◌*◌, ◌/◌, ◌%◌, ◌^◌, ◌<◌, ◌≤◌, ◌⊎◌, inl, inr, Bool, true, false, cond, not, ◌&&◌, ◌||◌, nat_lt, List, [], ◌∷◌, ◌++◌, Option, Some, None, refl, sym, ap, subst, arith, length, is_some, is_none, zero, suc, get_or, set}
use Rattle.std.proofs.lemmas.List.{length-append}
use Rattle.std.proofs.Math.Nat.{mul-suc}
use Rattle.std.proofs.lemmas.Bool.{eq-eqb, ne_eqb, le-ltb}
use Rattle.std.proofs.Math.Bool.{and-false}
use Rattle.target_machine.specs.Plain.{Makes, drw_of, ap_access_of, select_of}
use Rattle.target_machine.specs.State.{TargetState}
use Rattle.target_machine.specs.declared.access.RegAccess.{RegAccess}
use Rattle.target_machine.specs.declared.unit.Call.TheVariants.{Access}
use Rattle.target_machine.specs.declared.unit.Unit.{Unit as AccessUnit}
use Rattle.target_machine.specs.declared.unit.Unit.TheVariants as unit
use Rattle.access_regs.specs.Kept.{Kept, known_at, with_known, csw_of, is_known, unknown}
use Rattle.access_regs.specs.Plan.{select_value, unless, select_needed, csw_needed, high_needed, tar_needed, port_writes, planned_csw, first_plan, kept_after_csw, kept_after_plan, after_drw, predicted_tar, settle, kept_after_settling, settled_at, increment_off, needs_settle, needs_csw, leads}
use Rattle.access_regs.specs.Plan as plans
use Rattle.access_regs.specs.Journal.{Issue, Step, steps_of, numbered_entries, before, gives, by_plan, by_csw, by_cfg, by_cfg_read, after_settling, issue_of_plan, issued_from, making, entries_at, steps_at, actions_of}
use Rattle.access_regs.specs.Neighbours.{own_entries, AreNeighbours}
use Rattle.access_regs.specs.declared.known.Known.{Known}
use Rattle.access_regs.specs.declared.known.Unsettled.{Unsettled}
use Rattle.access_regs.proofs.Csw.{planned_again}
use Rattle.target_machine.specs.Lists.{after}
use Rattle.target_calls.specs.declared.journal.Part.TheVariants.{Settles, Leads, Ends}
use Rattle.target_calls.specs.Journal.{Entry}
use Rattle.target_calls.specs.declared.calls.Ask.{Ask}
use Rattle.access_regs.proofs.PortFacts.{known_same, table_kept}
use Rattle.access_regs.specs.declared.planner.Planner.TheVariants.{Managed}

own_append : (xs ys : List Entry) → own_entries (xs ++ ys) ≡ own_entries xs + own_entries ys
own_append [] ys = omega arith
own_append (x ∷ xs) ys = let h = own_append xs ys in omega (arith, h)

abbrev pub own_steps : ℕ → Bool → List Step → ℕ
own_steps n b steps = own_entries (numbered_entries n b steps)

pub own_steps_append : (n : ℕ) (b : Bool) (xs ys : List Step) → own_steps n b (xs ++ ys) ≡ own_steps n b xs + own_steps n b ys
own_steps_append n b [] ys = omega arith
own_steps_append n b (x ∷ xs) ys = let h = own_steps_append n b xs ys in omega (arith, h)

pub own_leads : (n : ℕ) (b : Bool) (xs : List RegAccess) → own_steps n b (steps_of Leads xs) ≡ length xs
own_leads n b [] = refl
own_leads n b (x ∷ xs) = let h = own_leads n b xs in omega (arith, h)

pub own_settling : (n : ℕ) (b : Bool) (xs : List RegAccess) → own_steps n b (steps_of Settles xs) ≡ 0
own_settling n b [] = refl
own_settling n b (x ∷ xs) = let h = own_settling n b xs in omega (arith, h)

pub few_unless : (b : Bool) (a : RegAccess) → length (unless b a) ≤ 1
few_unless true a = omega arith
few_unless false a = omega arith

few_high : (a : Known) (address : ℕ) → length (high_needed a address) ≤ cond a.large 1 0
few_high a address = by_large a.large (is_known a.high (address / 2 ^ 32))
  where
    by_large : (l x : Bool) → length (unless (not l || x) (ap_access_of false 8 (address / 2 ^ 32))) ≤ cond l 1 0
    by_large true x = few_unless x _
    by_large false x = omega arith

few_writes : (a : Known) (size address : ℕ) → length (port_writes a size address) ≤ 2 + cond a.large 1 0
few_writes a size address =
    let x = few_unless (is_known a.csw (planned_csw (csw_of a) size)) (ap_access_of false 0 (planned_csw (csw_of a) size)) in
    let y = few_high a address in
    let z = few_unless (is_known a.tar (address % 2 ^ 32)) (ap_access_of false 4 (address % 2 ^ 32)) in
    let e = length-append (csw_needed a size) (high_needed a address ++ tar_needed a address) in
    let f = length-append (high_needed a address) (tar_needed a address) in
    omega (arith, x, y, z, e, f)

-- another CSW and TAR of a port leave what is known of large addresses
large_in : (c d : Option ℕ) (xs : List Known) (m q : ℕ) → (get_or (set xs m (record (get_or xs m unknown) { csw = c; tar = d })) q unknown).large ≡ (get_or xs q unknown).large
large_in c d [] m q = refl
large_in c d (x ∷ xs) zero zero = refl
large_in c d (x ∷ xs) zero (suc q) = refl
large_in c d (x ∷ xs) (suc m) zero = refl
large_in c d (x ∷ xs) (suc m) (suc q) = large_in c d xs m q

large_same : (k : Kept) (m q : ℕ) (c d : Option ℕ) → (known_at (with_known k m (record (known_at k m) { csw = c; tar = d })) q).large ≡ (known_at k q).large
large_same k m q c d = large_in c d k.ports m q

pub settled_large : (k : Kept) (q : ℕ) → ((known_at (kept_after_settling k) q).large ≡ (known_at k q).large) × (length (kept_after_settling k).ports ≡ length k.ports)
settled_large k q = by_unsettled k.unsettled
  where
    by_unsettled : (o : Option Unsettled) → ((known_at (settled_at k o) q).large ≡ (known_at k q).large) × (length (settled_at k o).ports ≡ length k.ports)
    by_unsettled None = (refl, refl)
    by_unsettled (Some s) = (large_same k s.ap q (Some (increment_off (csw_of (known_at k s.ap)))) (Some s.tar), table_kept k s.ap (record (known_at k s.ap) { csw = Some (increment_off (csw_of (known_at k s.ap))); tar = Some s.tar }))

module _ (size m address : ℕ) (read : Bool) (value : ℕ) where
  abbrev asked : AccessUnit
  asked = unit.Memory size read m address value

  abbrev extra : Kept → ℕ
  extra k = cond (known_at k m).large 1 0

  plan_own : (n : ℕ) (k : Kept) → own_steps n false (by_plan k asked).steps ≤ length (select_needed k m 0) + 3 + extra k
  plan_own n k =
      let a = own_steps_append n false (steps_of Leads (leads k asked)) (record { part = Ends; action = Makes (drw_of read address value) } ∷ []) in
      let b = own_leads n false (leads k asked) in
      let c = length-append (select_needed k m 0) (port_writes (known_at k m) size address) in
      let d = few_writes (known_at k m) size address in
      omega (arith, a, b, c, d)

  no_select : (k : Kept) (v : ℕ) → length (select_needed (kept_after_csw k m v) m 0) ≡ 0
  no_select k v = ap (λ (b : Bool). length (unless b (select_of m 0))) (eq-eqb (select_value m 0) (select_value m 0) refl)

  learned_extra : (k : Kept) (v : ℕ) → m < length k.ports → extra (kept_after_csw k m v) ≡ extra k
  learned_extra k v lt = ap (λ (a : Known). cond a.large 1 0) (known_same k m (record (known_at k m) { csw = Some v }) lt)

  pub csw_own : (n : ℕ) (t : TargetState) (k : Kept) → m < length k.ports → own_steps n false (by_csw t k asked).steps ≤ 5 + extra k
  csw_own n t k lt = by_needs (needs_csw k asked)
    where
      v : ℕ
      v = gives t (first_plan k m)

      by_needs : (b : Bool) → own_steps n false (cond b (before (steps_of Leads (first_plan k m)) (by_plan (kept_after_csw k m v) asked)) (by_plan k asked)).steps ≤ 5 + extra k
      by_needs true =
          let a = own_steps_append n false (steps_of Leads (first_plan k m)) (by_plan (kept_after_csw k m v) asked).steps in
          let b = own_leads n false (first_plan k m) in
          let c = length-append (select_needed k m 0) (ap_access_of true 0 0 ∷ []) in
          let d = few_unless (is_known k.select (select_value m 0)) (select_of m 0) in
          let e = plan_own n (kept_after_csw k m v) in
          let f = no_select k v in
          let g = learned_extra k v lt in
          omega (arith, a, b, c, d, e, f, g)
      by_needs false =
          let d = few_unless (is_known k.select (select_value m 0)) (select_of m 0) in
          let e = plan_own n k in
          omega (arith, d, e)

  -- what is kept after the unit comes from what is kept before its plan
  pub record MadeFrom (k : Kept) (kept : Kept) : Type 0 where
    pub from : Kept
    pub is : kept ≡ kept_after_plan from asked
    pub table : length from.ports ≡ length k.ports
    pub large : (known_at from m).large ≡ (known_at k m).large

  pub csw_made : (t : TargetState) (k : Kept) → m < length k.ports → MadeFrom k (by_csw t k asked).kept
  csw_made t k lt = by_needs (needs_csw k asked)
    where
      v : ℕ
      v = gives t (first_plan k m)

      by_needs : (b : Bool) → MadeFrom k (cond b (before (steps_of Leads (first_plan k m)) (by_plan (kept_after_csw k m v) asked)) (by_plan k asked)).kept
      by_needs true = record {
        from = kept_after_csw k m v;
        is = refl;
        table = table_kept k m (record (known_at k m) { csw = Some v });
        large = ap (λ (a : Known). a.large) (known_same k m (record (known_at k m) { csw = Some v }) lt);
      }
      by_needs false = record { from = k; is = refl; table = refl; large = refl }

  -- the first of the units
  pub record First (n : ℕ) (k : Kept) (i : Issue) : Type 0 where
    pub few : own_steps n false i.steps ≤ 5 + extra k
    pub made : MadeFrom k i.kept

  cfg_first : (n : ℕ) (t : TargetState) (k : Kept) → m < length k.ports → plans.needs_cfg k asked ≡ false → First n k (by_cfg t k asked)
  cfg_first n t k lt narrow =
      subst (λ (b : Bool). First n k (cond b (before (steps_of Leads (plans.cfg_plan k m)) (by_cfg_read (after t (making (plans.cfg_plan k m))) k asked (gives t (plans.cfg_plan k m)))) (by_csw t k asked))) (sym narrow)
      (record { few = csw_own n t k lt; made = csw_made t k lt })

  pub first_unit : (n : ℕ) (t : TargetState) (k : Kept) → m < length k.ports → plans.needs_cfg k asked ≡ false → First n k (issue_of_plan t k asked)
  first_unit n t k lt narrow = by_settle (needs_settle k asked)
    where
      v : TargetState
      v = after t (making (settle k))

      by_settle : (b : Bool) → First n k (cond b (after_settling t k (λ u l. by_cfg u l asked)) (by_cfg t k asked))
      by_settle true =
          let e = settled_large k m in
          let g = cfg_first n v (kept_after_settling k) (let h = e.1 in omega arith) (ap (λ (b : Bool). nat_lt 0xFFFF_FFFF address && not b) e.0 ∙ narrow) in
          let a = own_steps_append n false (steps_of Settles (settle k)) (by_cfg v (kept_after_settling k) asked).steps in
          let b = own_settling n false (settle k) in
          let few = g.few in
          let same : extra (kept_after_settling k) ≡ extra k = ap (λ (b : Bool). cond b 1 0) e.0 in
          let made = g.made in
          record {
            few = omega (arith, a, b, few, same);
            made = record { from = made.from; is = made.is; table = made.table ∙ e.1; large = made.large ∙ e.0 };
          }
      by_settle false = cfg_first n t k lt narrow

-- ---- what is known once such a unit was made

-- the next unit needs nothing but DRW
pub record Ready (size m address : ℕ) (k : Kept) : Type 0 where
  pub table : m < length k.ports
  pub select : is_known k.select (select_value m 0) ≡ true
  pub csw : is_known (known_at k m).csw (planned_csw (csw_of (known_at k m)) size) ≡ true
  pub some : is_none (known_at k m).csw ≡ false
  pub high : (not (known_at k m).large || is_known (known_at k m).high (address / 2 ^ 32)) ≡ true
  pub tar : is_known (known_at k m).tar (address % 2 ^ 32) ≡ true
  pub narrow : (nat_lt 0xFFFF_FFFF address && not (known_at k m).large) ≡ false

low_next : (address size : ℕ) → address % 1024 + size < 1024 → (address + size) % 2 ^ 32 ≡ address % 2 ^ 32 + size
low_next address size fits = omega arith

high_next : (address size : ℕ) → address % 1024 + size < 1024 → (address + size) / 2 ^ 32 ≡ address / 2 ^ 32
high_next address size fits = omega arith

no_edge : (address size : ℕ) → 0 < size → address % 1024 + size < 1024 → (address % 2 ^ 32 + size) % 1024 ≢ 0
no_edge address size some fits e = absurd (omega arith)

module _ (size m address : ℕ) (read : Bool) (value : ℕ) where
  abbrev pub unit_here : AccessUnit
  unit_here = unit.Memory size read m address value

  ready_settle : (k : Kept) → Ready size m address k → needs_settle k unit_here ≡ false
  ready_settle k r =
      ap (λ (b : Bool). is_some k.unsettled && (b || not (is_known k.select (select_value m 0)))) r.narrow
      ∙ ap (λ (b : Bool). is_some k.unsettled && not b) r.select ∙ and-false (is_some k.unsettled)

  pub ready_plan : (t : TargetState) (k : Kept) → Ready size m address k → issue_of_plan t k unit_here ≡ by_plan k unit_here
  ready_plan t k r =
      ap (λ (b : Bool). cond b (after_settling t k (λ u l. by_cfg u l unit_here)) (by_cfg t k unit_here)) (ready_settle k r)
      ∙ ap (λ (b : Bool). cond b (before (steps_of Leads (plans.cfg_plan k m)) (by_cfg_read (after t (making (plans.cfg_plan k m))) k unit_here (gives t (plans.cfg_plan k m)))) (by_csw t k unit_here)) r.narrow
      ∙ ap (λ (b : Bool). cond b (before (steps_of Leads (first_plan k m)) (by_plan (kept_after_csw k m (gives t (first_plan k m))) unit_here)) (by_plan k unit_here)) r.some

  pub ready_leads : (k : Kept) → Ready size m address k → leads k unit_here ≡ []
  ready_leads k r =
      let a : Known = known_at k m in
      ap (λ (b : Bool). unless b (select_of m 0) ++ port_writes a size address) r.select
      ∙ ap (λ (b : Bool). unless b (ap_access_of false 0 (planned_csw (csw_of a) size)) ++ (high_needed a address ++ tar_needed a address)) r.csw
      ∙ ap (λ (b : Bool). unless b (ap_access_of false 8 (address / 2 ^ 32)) ++ tar_needed a address) r.high
      ∙ ap (λ (b : Bool). unless b (ap_access_of false 4 (address % 2 ^ 32))) r.tar

  ready_own : (n : ℕ) (t : TargetState) (k : Kept) → Ready size m address k → own_steps n false (issue_of_plan t k unit_here).steps ≡ 1
  ready_own n t k r =
      ap (λ (i : Issue). own_steps n false i.steps) (ready_plan t k r)
      ∙ ap (λ (l : List RegAccess). own_steps n false (steps_of Leads l ++ record { part = Ends; action = Makes (drw_of read address value) } ∷ [])) (ready_leads k r)

  -- made, the one after it needs nothing but DRW either
  made_high : (l : Bool) (o : Option ℕ) (h : ℕ) → h ≡ address / 2 ^ 32 → (not l || is_known (cond l (Some (address / 2 ^ 32)) o) h) ≡ true
  made_high true o h e = eq-eqb (address / 2 ^ 32) h (sym e)
  made_high false o h e = refl

  made_narrow : (l : Bool) → (l ≡ true) ⊎ (address + size < 2 ^ 32) → (nat_lt 0xFFFF_FFFF (address + size) && not l) ≡ false
  made_narrow l (inl e) = ap (λ (b : Bool). nat_lt 0xFFFF_FFFF (address + size) && not b) e ∙ and-false (nat_lt 0xFFFF_FFFF (address + size))
  made_narrow l (inr less) = ap (λ (b : Bool). b && not l) (le-ltb 0xFFFF_FFFF (address + size) (omega arith))

  pub made_ready : (k : Kept) → m < length k.ports → 0 < size → address % 1024 + size < 1024 → ((known_at k m).large ≡ true) ⊎ (address + size < 2 ^ 32) → Ready size m (address + size) (kept_after_plan k unit_here)
  made_ready k lt some fits where_ =
      let a : Known = known_at k m in
      let b : Known = after_drw a size address in
      let here : known_at (kept_after_plan k unit_here) m ≡ b = known_same k m b lt in
      record {
        table = subst (λ (x : ℕ). m < x) (sym (table_kept k m b)) lt;
        select = eq-eqb (select_value m 0) (select_value m 0) refl;
        csw = ap (λ (x : Known). is_known x.csw (planned_csw (csw_of x) size)) here ∙ eq-eqb (planned_csw (csw_of a) size) (planned_csw (planned_csw (csw_of a) size) size) (sym (planned_again (csw_of a) size));
        some = ap (λ (x : Known). is_none x.csw) here;
        high = ap (λ (x : Known). not x.large || is_known x.high ((address + size) / 2 ^ 32)) here ∙ made_high a.large a.high ((address + size) / 2 ^ 32) (high_next address size fits);
        tar = ap (λ (x : Known). is_known x.tar ((address + size) % 2 ^ 32)) here
            ∙ ap (λ (c : Bool). is_known (cond c None (Some (address % 2 ^ 32 + size))) ((address + size) % 2 ^ 32)) (ne_eqb ((address % 2 ^ 32 + size) % 1024) 0 (no_edge address size some fits))
            ∙ eq-eqb (address % 2 ^ 32 + size) ((address + size) % 2 ^ 32) (sym (low_next address size fits));
        narrow = ap (λ (x : Known). nat_lt 0xFFFF_FFFF (address + size) && not x.large) here ∙ made_narrow a.large where_;
      }

  pub made_large : (k : Kept) → m < length k.ports → (known_at (kept_after_plan k unit_here) m).large ≡ (known_at k m).large
  made_large k lt = ap (λ (x : Known). x.large) (known_same k m (after_drw (known_at k m) size address) lt)

  -- the journal of one such unit and more
  abbrev pub here_asked : Ask
  here_asked = record { call = Access unit_here; forgive = false; settled = false }

  pub own_first : (n : ℕ) (k : Kept) (t : TargetState) (cs : List Ask) → own_entries (issued_from Managed n k t (here_asked ∷ cs))
      ≡ own_steps n false (issue_of_plan t k unit_here).steps + own_entries (issued_from Managed (n + 1) (issue_of_plan t k unit_here).kept (after t (actions_of (steps_at Managed t k here_asked))) cs)
  own_first n k t cs =
      let a = own_append (entries_at Managed n t k here_asked) (issued_from Managed (n + 1) (issue_of_plan t k unit_here).kept (after t (actions_of (steps_at Managed t k here_asked))) cs) in
      let b = own_append (numbered_entries n false (issue_of_plan t k unit_here).steps) [] in
      omega (arith, a, b)

pub next_where : (l : Bool) (address size n : ℕ) → (l ≡ true) ⊎ (address + size * suc (suc n) ≤ 2 ^ 32) → 0 < size → (l ≡ true) ⊎ (address + size < 2 ^ 32)
next_where l address size n (inl e) some = inl e
next_where l address size n (inr le) some = inr (let a = mul-suc size (suc n) in let b = mul-suc size n in omega (arith, a, b))

pub rest_where : (l : Bool) (address size n : ℕ) → (l ≡ true) ⊎ (address + size * suc n ≤ 2 ^ 32) → (l ≡ true) ⊎ ((address + size) + size * n ≤ 2 ^ 32)
rest_where l address size n (inl e) = inl e
rest_where l address size n (inr le) = inr (let a = mul-suc size n in omega (arith, a))

-- units after one that was made need one entry each
pub ready_few : (c : Ask) (cs : List Ask) (n : ℕ) (k : Kept) (t : TargetState) (size m address : ℕ) → 0 < size → address % 1024 + size * suc (length cs) ≤ 1024 → AreNeighbours size m address (c ∷ cs) →
    ((known_at k m).large ≡ true) ⊎ (address + size * suc (length cs) ≤ 2 ^ 32) → Ready size m address k → own_entries (issued_from Managed n k t (c ∷ cs)) ≤ suc (length cs)
ready_few c [] n k t size m address some fits near where_ ready =
    let u = near.0 in
    let a = own_first size m address u.read u.value n k t [] in
    let b = ready_own size m address u.read u.value n t k ready in
    subst (λ (x : Ask). own_entries (issued_from Managed n k t (x ∷ [])) ≤ 1) (sym u.is) (omega (arith, a, b))
ready_few c (d ∷ ds) n k t size m address some fits near where_ ready =
    let u = near.0 in
    let here : AccessUnit = unit_here size m address u.read u.value in
    let e : (issue_of_plan t k here).kept ≡ kept_after_plan k here = ap (λ (i : Issue). i.kept) (ready_plan size m address u.read u.value t k ready) in
    let inside : address % 1024 + size < 1024 = (let x = mul-suc size (suc (length ds)) in let y = mul-suc size (length ds) in omega (arith, x, y)) in
    let more : (address + size) % 1024 + size * suc (length ds) ≤ 1024 = (let x = mul-suc size (suc (length ds)) in omega (arith, x)) in
    let next = made_ready size m address u.read u.value k ready.table some inside (next_where (known_at k m).large address size (length ds) where_ some) in
    let large : (known_at (kept_after_plan k here) m).large ≡ (known_at k m).large = made_large size m address u.read u.value k ready.table in
    let rest = rest_where (known_at k m).large address size (suc (length ds)) where_ in
    let g = ready_few d ds (n + 1) (issue_of_plan t k here).kept (after t (actions_of (steps_at Managed t k (here_asked size m address u.read u.value)))) size m (address + size) some more near.1
    (subst (λ (x : Kept). ((known_at x m).large ≡ true) ⊎ ((address + size) + size * suc (length ds) ≤ 2 ^ 32)) (sym e)
    (subst (λ (l : Bool). (l ≡ true) ⊎ ((address + size) + size * suc (length ds) ≤ 2 ^ 32)) (sym large) rest))
    (subst (Ready size m (address + size)) (sym e) next) in
    let a = own_first size m address u.read u.value n k t (d ∷ ds) in
    let b = ready_own size m address u.read u.value n t k ready in
    subst (λ (x : Ask). own_entries (issued_from Managed n k t (x ∷ d ∷ ds)) ≤ suc (suc (length ds))) (sym u.is) (omega (arith, a, b, g))

pub some_size : (size : ℕ) → (size ≡ 1) ⊎ ((size ≡ 2) ⊎ (size ≡ 4)) → 0 < size
some_size size (inl e) = omega arith
some_size size (inr (inl e)) = omega arith
some_size size (inr (inr e)) = omega arith

pub start_narrow : (l : Bool) (address : ℕ) → (l ≡ true) ⊎ (address < 2 ^ 32) → (nat_lt 0xFFFF_FFFF address && not l) ≡ false
start_narrow l address (inl e) = ap (λ (b : Bool). nat_lt 0xFFFF_FFFF address && not b) e ∙ and-false (nat_lt 0xFFFF_FFFF address)
start_narrow l address (inr less) = ap (λ (b : Bool). b && not l) (le-ltb 0xFFFF_FFFF address (omega arith))

pub start_where : (l : Bool) (address size n : ℕ) → (l ≡ true) ⊎ (address < 2 ^ 32) → address % 1024 + size * n ≤ 1024 → (l ≡ true) ⊎ (address + size * n ≤ 2 ^ 32)
start_where l address size n (inl e) fits = inl e
start_where l address size n (inr less) fits = inr (omega arith)

extra_bound : (l : Bool) → 5 + cond l 1 0 ≡ 1 + cond l 5 4
extra_bound true = refl
extra_bound false = refl

-- where CFG is not read
pub narrow_few : (n : ℕ) (k : Kept) (t : TargetState) (size m address : ℕ) (calls : List Ask) → length k.ports ≡ 256 → m < 256 → ((size ≡ 1) ⊎ ((size ≡ 2) ⊎ (size ≡ 4))) →
    address % size ≡ 0 → address % 1024 + size * length calls ≤ 1024 → AreNeighbours size m address calls → ((known_at k m).large ≡ true) ⊎ (address < 2 ^ 32) →
    own_entries (issued_from Managed n k t calls) ≤ length calls + cond (known_at k m).large 5 4
narrow_few n k t size m address [] table lt is aligned fits near where_ = omega arith
narrow_few n k t size m address (c ∷ []) table lt is aligned fits near where_ =
    let u = near.0 in
    let f = first_unit size m address u.read u.value n t k (omega arith) (start_narrow (known_at k m).large address where_) in
    let few = f.few in
    let a = own_first size m address u.read u.value n k t [] in
    let b = extra_bound (known_at k m).large in
    subst (λ (x : Ask). own_entries (issued_from Managed n k t (x ∷ [])) ≤ 1 + cond (known_at k m).large 5 4) (sym u.is) (omega (arith, a, few, b))
narrow_few n k t size m address (c ∷ d ∷ ds) table lt is aligned fits near where_ =
    let u = near.0 in
    let some : 0 < size = some_size size is in
    let here : AccessUnit = unit_here size m address u.read u.value in
    let f = first_unit size m address u.read u.value n t k (omega arith) (start_narrow (known_at k m).large address where_) in
    let few = f.few in
    let made_ = f.made in
    let from : Kept = made_.from in
    let below : m < length from.ports = (let x = made_.table in omega arith) in
    let inside : address % 1024 + size < 1024 = (let x = mul-suc size (suc (length ds)) in let y = mul-suc size (length ds) in omega (arith, x, y)) in
    let more : (address + size) % 1024 + size * suc (length ds) ≤ 1024 = (let x = mul-suc size (suc (length ds)) in omega (arith, x)) in
    let stored : ((known_at k m).large ≡ true) ⊎ (address + size * suc (suc (length ds)) ≤ 2 ^ 32) = start_where (known_at k m).large address size (suc (suc (length ds))) where_ fits in
    let next = made_ready size m address u.read u.value from below some inside
    (subst (λ (l : Bool). (l ≡ true) ⊎ (address + size < 2 ^ 32)) (sym made_.large) (next_where (known_at k m).large address size (length ds) stored some)) in
    let large : (known_at (kept_after_plan from here) m).large ≡ (known_at k m).large = made_large size m address u.read u.value from below ∙ made_.large in
    let g = ready_few d ds (n + 1) (issue_of_plan t k here).kept (after t (actions_of (steps_at Managed t k (here_asked size m address u.read u.value)))) size m (address + size) some more near.1
    (subst (λ (x : Kept). ((known_at x m).large ≡ true) ⊎ ((address + size) + size * suc (length ds) ≤ 2 ^ 32)) (sym made_.is)
    (subst (λ (l : Bool). (l ≡ true) ⊎ ((address + size) + size * suc (length ds) ≤ 2 ^ 32)) (sym large) (rest_where (known_at k m).large address size (suc (length ds)) stored)))
    (subst (Ready size m (address + size)) (sym made_.is) next) in
    let a = own_first size m address u.read u.value n k t (d ∷ ds) in
    let b = extra_bound (known_at k m).large in
    subst (λ (x : Ask). own_entries (issued_from Managed n k t (x ∷ d ∷ ds)) ≤ suc (suc (length ds)) + cond (known_at k m).large 5 4) (sym u.is) (omega (arith, a, few, g, b))
