-- Calls that write memory at neighbouring addresses issue few accesses besides their writes of DRW, and these in few places.
use Rattle.std.proofs.Common.{◌≡◌, ◌⊎◌, inl, inr, ◌∙◌, ℕ, zero, suc, ◌+◌, ◌*◌, ◌/◌, ◌%◌, ◌^◌, ◌<◌, ◌≤◌, Bool, true, false, cond, not, ◌&&◌, ◌||◌, List, [], ◌∷◌}
use Rattle.std.proofs.Common.{◌++◌, length, Option, Some, None, refl, sym, ap, subst, arith, append_assoc}
use Rattle.std.proofs.lemmas.Bool.{eq-eqb, le-ltb}
use Rattle.std.proofs.lemmas.List.{length-append}
use Rattle.std.proofs.lemmas.List.Sums.{sum_by-append, sum_by-cons}
use Rattle.std.specs.List.{AllByRecursion}
use Rattle.std.specs.Prelude.{nat_lt, is_none, is_some, sum_by}
use Rattle.std.proofs.Math.Bool.{and-false}
use Rattle.target_machine.specs.Lists.{after}
use Rattle.target_machine.specs.Plain.{Makes, ap_access_of, drw_of, may_forgive, select_of}
use Rattle.target_machine.specs.State.{TargetState}
use Rattle.target_machine.specs.declared.access.RegAccess.{RegAccess}
use Rattle.target_machine.specs.declared.unit.Call.TheVariants.{Access}
use Rattle.target_machine.specs.declared.unit.Unit.{Unit as AccessUnit}
use Rattle.target_machine.specs.declared.unit.Unit.TheVariants as unit
use Rattle.target_calls.specs.Asks.{is_forgiving}
use Rattle.target_machine.specs.Counts.{one_if}
use Rattle.target_calls.specs.Journal.{Entry, settles}
use Rattle.target_calls.specs.declared.calls.Ask.{Ask}
use Rattle.target_calls.specs.declared.journal.Part.{Part}
use Rattle.target_calls.specs.declared.journal.Part.TheVariants.{Ends, Leads, Settles}
use Rattle.access_regs.specs.Journal.{Issue, Step, actions_of, after_settling, before, by_cfg, by_cfg_read, by_csw, by_plan, entries_at, finish, gives, issued_entries}
use Rattle.access_regs.specs.Journal.{issued_from, kept_at, making, numbered_entries, issue_of_plan, steps_of, target_at}
use Rattle.access_regs.specs.Kept.{Kept, csw_of, is_known, known_at, nothing_kept, unknown}
use Rattle.access_regs.specs.Plan.{cfg_plan, csw_needed, first_plan, high_needed, leads, kept_after_csw, kept_after_plan, needs_settle, planned_csw, port_writes, select_needed}
use Rattle.access_regs.specs.Plan.{select_value, settle, kept_after_settling, tar_needed, unless}
use Rattle.access_regs.specs.declared.known.Known.{Known}
use Rattle.access_regs.specs.declared.planner.Planner.TheVariants.{Managed}
use Rattle.access_regs.proofs.AllCalls.{known_nothing}
use Rattle.access_regs.proofs.Few.{Ready, few_unless, made_large, made_ready, ready_leads, ready_plan, settled_large, unit_here}
use Rattle.access_regs.proofs.PortFacts.{known_same, table_kept}
use Rattle.access_regs.proofs.Course.{steps_append}
use Rattle.access_calls.specs.Bounds.{AreNextWrites, IsWriteAt}
use Rattle.flight_laws.specs.Packets.{is_drw_write}
use Rattle.flight_laws.specs.Changes.{changes_after, changes_in, differs, marks_in, others_in}

-- ---- lists of entries

-- accesses that are no writes of DRW
abbrev AreBare : List RegAccess → Type 0
AreBare accesses = AllByRecursion (λ a. is_drw_write (Makes a) ≡ false) accesses

-- accesses and more of them are no writes of DRW, where both are none
bare_both : (xs ys : List RegAccess) → AreBare xs → AreBare ys → AreBare (xs ++ ys)
bare_both [] ys h k = k
bare_both (x ∷ xs) ys h k = (h.0, bare_both xs ys h.1 k)

-- an access that is no write of DRW, which may be left out
bare_unless : (b : Bool) (a : RegAccess) → is_drw_write (Makes a) ≡ false → AreBare (unless b a)
bare_unless true a e = tt
bare_unless false a e = (e, tt)

-- the first entry counts, unless it is a write of DRW
others_cons : (e : Entry) (es : List Entry) → others_in (e ∷ es) ≡ one_if (not (is_drw_write e.action)) + others_in es
others_cons e es = sum_by-cons (λ (x : Entry). one_if (not (is_drw_write x.action))) e es

-- entries that are no writes of DRW come first
bare_changes : (n : ℕ) (f : Bool) (part : Part) (xs : List RegAccess) (es : List Entry) → AreBare xs →
    changes_after false (numbered_entries n f (steps_of part xs) ++ es) ≡ changes_after false es
bare_changes n f part [] es h = refl
bare_changes n f part (x ∷ xs) es h =
    ap (λ (b : Bool). one_if b + changes_after b (numbered_entries n f (steps_of part xs) ++ es)) h.0 ∙ (let r = bare_changes n f part xs es h.1 in omega (arith, r))

-- each access that is no write of DRW counts
bare_others : (n : ℕ) (f : Bool) (part : Part) (xs : List RegAccess) (es : List Entry) → AreBare xs →
    others_in (numbered_entries n f (steps_of part xs) ++ es) ≡ length xs + others_in es
bare_others n f part [] es h = omega arith
bare_others n f part (x ∷ xs) es h =
    let c = others_cons (record { unit = cond (settles part) n (n + 1); part = part; forgiving = f && not (settles part); action = Makes x })
    (numbered_entries n f (steps_of part xs) ++ es) in
    let one = ap (λ (b : Bool). one_if (not b)) h.0 in
    let r = bare_others n f part xs es h.1 in
    omega (arith, c, one, r)

-- ---- one write and its settling

-- a write of DRW is one change after what leads to it, and none directly after another write of DRW
lead_changes : (b : Bool) (n : ℕ) (xs : List RegAccess) (d : Step) (rest : List Entry) → AreBare xs → is_drw_write d.action ≡ true → (b ≡ true → xs ≡ []) →
    changes_after b (numbered_entries n false (steps_of Leads xs ++ d ∷ []) ++ rest) ≡ one_if (not b) + changes_after true rest
lead_changes true n [] d rest h is none = ap (λ (x : Bool). differs true x + changes_after x rest) is
lead_changes false n [] d rest h is none = ap (λ (x : Bool). differs false x + changes_after x rest) is
lead_changes true n (x ∷ xs) d rest h is none = absurd (let e = none refl in cc)
lead_changes false n (x ∷ xs) d rest h is none =
    ap (λ (b : Bool). one_if b + changes_after b (numbered_entries n false (steps_of Leads xs ++ d ∷ []) ++ rest)) h.0
    ∙ (let r = lead_changes false n xs d rest h.1 is (λ e. absurd (cc)) in omega (arith, r))

-- what leads to a write of DRW counts, and the write does not
lead_others : (n : ℕ) (xs : List RegAccess) (d : Step) (rest : List Entry) → AreBare xs → is_drw_write d.action ≡ true →
    others_in (numbered_entries n false (steps_of Leads xs ++ d ∷ []) ++ rest) ≡ length xs + others_in rest
lead_others n [] d rest h is =
    let c = others_cons (record { unit = cond (settles d.part) n (n + 1); part = d.part; forgiving = false; action = d.action }) rest in
    let none = ap (λ (b : Bool). one_if (not b)) is in
    omega (arith, c, none)
lead_others n (x ∷ xs) d rest h is =
    let c = others_cons (record { unit = n + 1; part = Leads; forgiving = false; action = Makes x }) (numbered_entries n false (steps_of Leads xs ++ d ∷ []) ++ rest) in
    let one = ap (λ (b : Bool). one_if (not b)) h.0 in
    let r = lead_others n xs d rest h.1 is in
    omega (arith, c, one, r)

-- After entries of which the last is a write of DRW or not: few changes, and few entries that are no such writes.
record HasFew (b : Bool) (entries : List Entry) (changes others : ℕ) : Type 0 where
  changing : changes_after b entries ≤ changes
  bare : others_in entries ≤ others

module _ (size m address value n : ℕ) (from : Kept) where
  -- the unit that writes the value at the address
  abbrev here : AccessUnit
  here = unit.Memory size false m address value

  -- its write of DRW
  abbrev write : Step
  write = record { part = Ends; action = Makes (drw_of false address value) }

  -- the write, what leads to it, and the settling after it
  unit_few : (b s : Bool) (xs : List RegAccess) (rest : List Entry) (changes others : ℕ) → AreBare xs → (b ≡ true → xs ≡ []) → HasFew (not s) rest changes others →
      HasFew b ((numbered_entries n false (steps_of Leads xs ++ write ∷ []) ++ numbered_entries (n + 1) false (finish s (kept_after_plan from here)).steps) ++ rest)
      (one_if (not b) + one_if s + changes) (length xs + 2 * one_if s + others)
  unit_few b s xs rest changes others bare none h =
      subst (λ (l : List Entry). HasFew b l (one_if (not b) + one_if s + changes) (length xs + 2 * one_if s + others))
      (sym (append_assoc (numbered_entries n false (steps_of Leads xs ++ write ∷ [])) (numbered_entries (n + 1) false (finish s (kept_after_plan from here)).steps) rest))
      (by_mark s h)
    where
      by_mark : (s : Bool) → HasFew (not s) rest changes others →
          HasFew b (numbered_entries n false (steps_of Leads xs ++ write ∷ []) ++ (numbered_entries (n + 1) false (finish s (kept_after_plan from here)).steps ++ rest))
          (one_if (not b) + one_if s + changes) (length xs + 2 * one_if s + others)
      by_mark true k =
          let fin : List Entry = numbered_entries (n + 1) false (finish true (kept_after_plan from here)).steps ++ rest in
          let a = lead_changes b n xs write fin bare refl none in
          let o = lead_others n xs write fin bare refl in
          let f : changes_after true fin ≡ 1 + changes_after false rest = omega arith in
          let g : others_in fin ≡ 2 + others_in rest = sum_by-append (λ (e : Entry). one_if (not (is_drw_write e.action)))
          (numbered_entries (n + 1) false (finish true (kept_after_plan from here)).steps) rest in
          let x = k.changing in let y = k.bare in
          record { changing = omega (arith, a, f, x); bare = omega (arith, o, g, y) }
      by_mark false k =
          let a = lead_changes b n xs write rest bare refl none in
          let o = lead_others n xs write rest bare refl in
          let x = k.changing in let y = k.bare in
          record { changing = omega (arith, a, x); bare = omega (arith, o, y) }

-- ---- what is known of the registers

-- SELECT and CSW are known, and the AP is not known to have large addresses
record IsHalfReady (m : ℕ) (k : Kept) : Type 0 where
  table : m < length k.ports
  select : is_known k.select (select_value m 0) ≡ true
  some : is_none (known_at k m).csw ≡ false
  large : (known_at k m).large ≡ false

-- the last entry was a write of DRW, and the next needs nothing else; or it was none
abbrev IsAt : Bool → ℕ → ℕ → ℕ → Kept → Type 0
IsAt true size m address k = Ready size m address k × ((known_at k m).large ≡ false)
IsAt false size m address k = IsHalfReady m k

-- the plan of a write
record IsPlanned (b : Bool) (size m address value most : ℕ) (i : Issue) : Type 0 where
  lead : List RegAccess
  bare : AreBare lead
  few : length lead ≤ most
  none : b ≡ true → lead ≡ []
  from : Kept
  steps : i.steps ≡ steps_of Leads lead ++ record { part = Ends; action = Makes (drw_of false address value) } ∷ []
  kept : i.kept ≡ kept_after_plan from (unit.Memory size false m address value)
  table : m < length from.ports
  large : (known_at from m).large ≡ false

module _ (size m address value : ℕ) (t : TargetState) where
  -- the unit that writes the value at the address
  abbrev asked : AccessUnit
  asked = unit.Memory size false m address value

  -- its write of DRW
  abbrev end : Step
  end = record { part = Ends; action = Makes (drw_of false address value) }

  -- where the access port is ready for the address, the plan is the write of DRW alone
  ready_planned : (k : Kept) → IsAt true size m address k → IsPlanned true size m address value 0 (issue_of_plan t k asked)
  ready_planned k h = record {
    lead = [];
    bare = tt;
    few = omega arith;
    none = λ e. refl;
    from = k;
    steps = ap (λ (i : Issue). i.steps) (ready_plan size m address false value t k h.0)
        ∙ ap (λ (l : List RegAccess). steps_of Leads l ++ end ∷ []) (ready_leads size m address false value k h.0);
    kept = ap (λ (i : Issue). i.kept) (ready_plan size m address false value t k h.0);
    table = h.0.table;
    large = h.1;
  }

  -- an address of 32 bits needs no large addresses
  narrow_port : (k : Kept) → address < 2 ^ 32 → (nat_lt 0xFFFF_FFFF address && not (known_at k m).large) ≡ false
  narrow_port k low = ap (λ (b : Bool). b && not (known_at k m).large) (le-ltb 0xFFFF_FFFF address (omega (arith, low)))

  -- where SELECT is known, only writes of the port's CSW and TAR lead to the write of DRW
  half_leads : (k : Kept) → IsHalfReady m k → leads k asked ≡ port_writes (known_at k m) size address
  half_leads k h = ap (λ (b : Bool). unless b (select_of m 0) ++ port_writes (known_at k m) size address) h.select

  -- the writes of CSW and TAR are no writes of DRW
  port_bare : (a : Known) → AreBare (port_writes a size address)
  port_bare a =
      bare_both (csw_needed a size) (high_needed a address ++ tar_needed a address) (bare_unless (is_known a.csw (planned_csw (csw_of a) size)) _ refl)
      (bare_both (high_needed a address) (tar_needed a address) (bare_unless (not a.large || is_known a.high (address / 2 ^ 32)) _ refl)
      (bare_unless (is_known a.tar (address % 2 ^ 32)) _ refl))

  -- a port without large addresses needs at most two of them
  port_few : (a : Known) → a.large ≡ false → length (port_writes a size address) ≤ 2
  port_few a narrow =
      let c = few_unless (is_known a.csw (planned_csw (csw_of a) size)) (ap_access_of false 0 (planned_csw (csw_of a) size)) in
      let d : length (high_needed a address) ≡ 0 = ap (λ (b : Bool). length
      (unless (not b || is_known a.high (address / 2 ^ 32)) (ap_access_of false 8 (address / 2 ^ 32)))) narrow in
      let e = few_unless (is_known a.tar (address % 2 ^ 32)) (ap_access_of false 4 (address % 2 ^ 32)) in
      let f = length-append (csw_needed a size) (high_needed a address ++ tar_needed a address) in
      let g = length-append (high_needed a address) (tar_needed a address) in
      omega (arith, c, d, e, f, g)

  -- where SELECT and CSW are known, at most two accesses lead to the write of DRW
  half_planned : (k : Kept) → address < 2 ^ 32 → IsHalfReady m k → IsPlanned false size m address value 2 (issue_of_plan t k asked)
  half_planned k low h = record {
    lead = port_writes (known_at k m) size address;
    bare = port_bare (known_at k m);
    few = port_few (known_at k m) h.large;
    none = λ e. absurd (cc);
    from = k;
    steps = ap (λ (i : Issue). i.steps) is ∙ ap (λ (l : List RegAccess). steps_of Leads l ++ end ∷ []) (half_leads k h);
    kept = ap (λ (i : Issue). i.kept) is;
    table = h.table;
    large = h.large;
  }
    where
      no_settle : needs_settle k asked ≡ false
      no_settle =
          ap (λ (b : Bool). is_some k.unsettled && (b || not (is_known k.select (select_value m 0)))) (narrow_port k low)
          ∙ ap (λ (b : Bool). is_some k.unsettled && not b) h.select ∙ and-false (is_some k.unsettled)

      is : issue_of_plan t k asked ≡ by_plan k asked
      is =
          ap (λ (b : Bool). cond b (after_settling t k (λ u l. by_cfg u l asked)) (by_cfg t k asked)) no_settle
          ∙ ap (λ (b : Bool). cond b (before (steps_of Leads (cfg_plan k m)) (by_cfg_read (after t (making (cfg_plan k m))) k asked (gives t (cfg_plan k m))))
          (by_csw t k asked)) (narrow_port k low)
          ∙ ap (λ (b : Bool). cond b (before (steps_of Leads (first_plan k m)) (by_plan (kept_after_csw k m (gives t (first_plan k m))) asked)) (by_plan k asked)) h.some

  -- the CSW that is read before the first write
  abbrev csw_first : ℕ
  csw_first = gives t (first_plan nothing_kept m)

  -- what is known after this read
  abbrev first_kept : Kept
  first_kept = kept_after_csw nothing_kept m csw_first

  -- after this read SELECT and CSW are known
  first_half : m < 256 → IsHalfReady m first_kept
  first_half lt =
      let same : known_at first_kept m ≡ record (known_at nothing_kept m) { csw = Some csw_first } =
      known_same nothing_kept m (record (known_at nothing_kept m) { csw = Some csw_first }) lt in
      record {
        table = (let e = table_kept nothing_kept m (record (known_at nothing_kept m) { csw = Some csw_first }) in omega (arith, e, lt));
        select = eq-eqb (select_value m 0) (select_value m 0) refl;
        some = ap (λ (a : Known). is_none a.csw) same;
        large = ap (λ (a : Known). a.large) same ∙ ap (λ (a : Known). a.large) (known_nothing m);
      }

  -- the first write of all reads CSW, and is then planned by what was read
  first_is : address < 2 ^ 32 → issue_of_plan t nothing_kept asked ≡ before (steps_of Leads (first_plan nothing_kept m)) (by_plan first_kept asked)
  first_is low =
      ap (λ (b : Bool). cond b (before (steps_of Leads (cfg_plan nothing_kept m))
      (by_cfg_read (after t (making (cfg_plan nothing_kept m))) nothing_kept asked (gives t (cfg_plan nothing_kept m)))) (by_csw t nothing_kept asked))
      (narrow_port nothing_kept low)
      ∙ ap (λ (a : Known). cond (is_none a.csw) (before (steps_of Leads (first_plan nothing_kept m)) (by_plan first_kept asked)) (by_plan nothing_kept asked))
      (known_nothing m)

  -- what leads to the first write has no writes of DRW
  first_bare : AreBare (first_plan nothing_kept m ++ port_writes (known_at first_kept m) size address)
  first_bare = bare_both (first_plan nothing_kept m) (port_writes (known_at first_kept m) size address) (refl, (refl, tt)) (port_bare (known_at first_kept m))

  -- at most four accesses lead to the first write
  first_few : m < 256 → length (first_plan nothing_kept m ++ port_writes (known_at first_kept m) size address) ≤ 4
  first_few lt = (let a = length-append (first_plan nothing_kept m) (port_writes (known_at first_kept m) size address) in let d =
      port_few (known_at first_kept m) (first_half lt).large in omega (arith, a, d))

  -- the first one of all reads CSW
  first_planned : address < 2 ^ 32 → m < 256 → IsPlanned false size m address value 4 (issue_of_plan t nothing_kept asked)
  first_planned low lt = record {
    lead = first_plan nothing_kept m ++ port_writes (known_at first_kept m) size address;
    bare = first_bare;
    few = first_few lt;
    none = λ e. absurd (cc);
    from = first_kept;
    steps = ap (λ (i : Issue). i.steps) (first_is low)
        ∙ ap (λ (p : List RegAccess). steps_of Leads (first_plan nothing_kept m) ++ (steps_of Leads p ++ end ∷ [])) (half_leads first_kept (first_half lt))
        ∙ sym (append_assoc (steps_of Leads (first_plan nothing_kept m)) (steps_of Leads (port_writes (known_at first_kept m) size address)) (end ∷ []))
        ∙ ap (λ (s : List Step). s ++ end ∷ []) (sym (steps_append Leads (first_plan nothing_kept m) (port_writes (known_at first_kept m) size address)));
    kept = ap (λ (i : Issue). i.kept) (first_is low);
    table = (first_half lt).table;
    large = (first_half lt).large;
  }

-- ---- the calls

-- the calls begin in this block of 1,024 bytes
abbrev Begins : ℕ → ℕ → List Ask → Type 0
Begins block address [] = ⊥
Begins block address (c ∷ cs) = address / 1024 ≡ block

-- where the calls begin in a block, the address of the first is in it
begins_near : (block address : ℕ) (cs : List Ask) → Begins block address cs → address / 1024 ≡ block
begins_near block address [] h = absurd h
begins_near block address (c ∷ cs) h = h

-- what is few is few by larger bounds too
more_few : (b : Bool) (entries : List Entry) (x y x' y' : ℕ) → HasFew b entries x y → x ≤ x' → y ≤ y' → HasFew b entries x' y'
more_few b entries x y x' y' h le le' = record { changing = (let c = h.changing in omega (arith, c, le)); bare = (let o = h.bare in omega (arith, o, le')) }

module _ (size m address value : ℕ) where
  -- the unit that writes the value at the address
  abbrev this : AccessUnit
  this = unit.Memory size false m address value

  -- a unit is inside its block, where the next address is in the block too
  inside : (block : ℕ) → address / 1024 ≡ block → (address + size) / 1024 ≡ block → address % 1024 + size < 1024
  inside block near next = omega (arith, near, next)

  -- after a write the port is ready for the next address, where that is in the block
  made_at : (block : ℕ) (from : Kept) → 0 < size → block < 2 ^ 22 → m < length from.ports → (known_at from m).large ≡ false → address / 1024 ≡ block →
      (address + size) / 1024 ≡ block → IsAt true size m (address + size) (kept_after_plan from this)
  made_at block from some low table narrow near next = (
    made_ready size m address false value from table some (inside block near next) (inr (omega (arith, next, low))),
    made_large size m address false value from table ∙ narrow,
  )

  -- after a write and its settling, SELECT and CSW are known
  settled_at : (from : Kept) → m < length from.ports → (known_at from m).large ≡ false → IsHalfReady m (kept_after_settling (kept_after_plan from this))
  settled_at from table narrow =
      let k : Kept = kept_after_plan from this in
      let l = settled_large k m in
      let t : length k.ports ≡ length from.ports = table_kept from m _ in
      let lt : m < length k.ports = omega (arith, t, table) in
      record {
        table = (let e = l.1 in omega (arith, e, lt));
        select = eq-eqb (select_value m 0) (select_value m 0) refl;
        some = ap (λ (a : Known). is_none a.csw) (known_same k m _ lt);
        large = l.0 ∙ made_large size m address false value from table ∙ narrow;
      }

  -- the calls after it
  module _ (n block : ℕ) (cs : List Ask) (u : TargetState) (from : Kept) (some : 0 < size) (low : block < 2 ^ 22) (near : address / 1024 ≡ block)
      (table : m < length from.ports) (narrow : (known_at from m).large ≡ false)
      (rest : (d : Bool) (l : Kept) → (Begins block (address + size) cs → IsAt d size m (address + size) l) →
      HasFew d (issued_from Managed (n + 1) l u cs) (one_if (not d) + 2 * marks_in cs) (2 * one_if (not d) + 4 * marks_in cs)) where
    made_few : (b s : Bool) (most : ℕ) (xs : List RegAccess) → AreBare xs → (b ≡ true → xs ≡ []) → length xs ≤ most →
        HasFew b ((numbered_entries n false (steps_of Leads xs ++ record { part = Ends; action = Makes (drw_of false address value) } ∷ [])
        ++ numbered_entries (n + 1) false (finish s (kept_after_plan from this)).steps) ++ issued_from Managed (n + 1) (finish s (kept_after_plan from this)).kept u cs)
        (one_if (not b) + 2 * (one_if s + marks_in cs)) (most + 4 * (one_if s + marks_in cs))
    made_few b true most xs bare none few =
        more_few b _ _ _ _ _ (unit_few size m address value n from b true xs (issued_from Managed (n + 1) (kept_after_settling (kept_after_plan from this)) u cs) (1 + 2 * marks_in cs)
        (2 + 4 * marks_in cs) bare none (rest false (kept_after_settling (kept_after_plan from this)) (λ begins. settled_at from table narrow)))
        (omega arith) (omega (arith, few))
    made_few b false most xs bare none few =
        more_few b _ _ _ _ _ (unit_few size m address value n from b false xs (issued_from Managed (n + 1) (kept_after_plan from this) u cs) (0 + 2 * marks_in cs)
        (0 + 4 * marks_in cs) bare none (rest true (kept_after_plan from this) (λ begins. made_at block from some low table narrow near
        (begins_near block (address + size) cs begins))))
        (omega arith) (omega (arith, few))

  -- a write, and the calls after it
  write_few : (b : Bool) (n most block : ℕ) (c : Ask) (cs : List Ask) (k : Kept) (t : TargetState) → 0 < size → block < 2 ^ 22 → c.call ≡ Access this →
      c.forgive ≡ false → address / 1024 ≡ block → IsPlanned b size m address value most (issue_of_plan t k this) →
      ((d : Bool) (l : Kept) (u : TargetState) → (Begins block (address + size) cs → IsAt d size m (address + size) l) →
      HasFew d (issued_from Managed (n + 1) l u cs) (one_if (not d) + 2 * marks_in cs) (2 * one_if (not d) + 4 * marks_in cs)) →
      HasFew b (issued_from Managed n k t (c ∷ cs)) (one_if (not b) + 2 * (one_if c.settled + marks_in cs)) (most + 4 * (one_if c.settled + marks_in cs))
  write_few b n most block c cs k t some low call mild near p rest =
      let asked_ : Ask = record { call = Access this; forgive = false; settled = c.settled } in
      let same : asked_ ≡ c = (λ j. record { call = sym call j; forgive = sym mild j; settled = c.settled }) in
      let i : Issue = issue_of_plan t k this in
      let u : TargetState = target_at Managed t k asked_ in
      let all = made_few n block cs u p.from some low near p.table p.large (λ d l at. rest d l u at) b c.settled most p.lead p.bare p.none p.few in
      subst (λ (a : Ask). HasFew b (issued_from Managed n k t (a ∷ cs)) (one_if (not b) + 2 * (one_if c.settled + marks_in cs))
      (most + 4 * (one_if c.settled + marks_in cs))) same
      (subst (λ (steps : List Step). HasFew b ((numbered_entries n false steps ++ numbered_entries (n + 1) false (finish c.settled i.kept).steps)
      ++ issued_from Managed (n + 1) (finish c.settled i.kept).kept u cs) (one_if (not b) + 2 * (one_if c.settled + marks_in cs))
      (most + 4 * (one_if c.settled + marks_in cs))) (sym p.steps)
      (subst (λ (l : Kept). HasFew b ((numbered_entries n false (steps_of Leads p.lead ++ record { part = Ends; action = Makes (drw_of false address value) } ∷ [])
      ++ numbered_entries (n + 1) false (finish c.settled l).steps) ++ issued_from Managed (n + 1) (finish c.settled l).kept u cs)
      (one_if (not b) + 2 * (one_if c.settled + marks_in cs)) (most + 4 * (one_if c.settled + marks_in cs))) (sym p.kept) all))

-- a write of memory that forgives no fault was not asked to forgive one
pub mild_write : (c : Ask) (size m address value : ℕ) → c.call ≡ Access (unit.Memory size false m address value) → is_forgiving c ≡ false → c.forgive ≡ false
mild_write c size m address value call mild = by_forgive c.forgive ((λ j. c.forgive && may_forgive (sym call j)) ∙ mild)
  where
    by_forgive : (f : Bool) → (f && may_forgive (Access (unit.Memory size false m address value))) ≡ false → f ≡ false
    by_forgive true e = e
    by_forgive false e = refl

-- the first call's mark counts, where it has one
marks_cons : (c : Ask) (cs : List Ask) → marks_in (c ∷ cs) ≡ one_if c.settled + marks_in cs
marks_cons c cs = sum_by-cons (λ (a : Ask). one_if a.settled) c cs

-- neighbouring writes from such a state on
writes_few : (b : Bool) (cs : List Ask) (n : ℕ) (k : Kept) (t : TargetState) (size m address block : ℕ) → 0 < size → block < 2 ^ 22 →
    AreNextWrites block size m address cs → (Begins block address cs → IsAt b size m address k) →
    HasFew b (issued_from Managed n k t cs) (one_if (not b) + 2 * marks_in cs) (2 * one_if (not b) + 4 * marks_in cs)
writes_few b [] n k t size m address block some low are at = record { changing = omega arith; bare = omega arith }
writes_few b (c ∷ cs) n k t size m address block some low are at =
    let w = are.0 in
    let marks = marks_cons c cs in
    let few = write_few size m address w.value b n (2 * one_if (not b)) block c cs k t some low w.is (mild_write c size m address w.value w.is w.strict) w.near
    (by_kept b (at w.near) w.value (omega (arith, low, w.near)))
    (λ d l u there. writes_few d cs (n + 1) l u size m (address + size) block some low are.1 there) in
    more_few b _ _ _ _ _ few (omega (arith, marks)) (omega (arith, marks))
  where
    by_kept : (b : Bool) → IsAt b size m address k → (value : ℕ) → address < 2 ^ 32 →
        IsPlanned b size m address value (2 * one_if (not b)) (issue_of_plan t k (unit.Memory size false m address value))
    by_kept true ready value fits = ready_planned size m address value t k ready
    by_kept false half value fits = half_planned size m address value t k fits half

-- The journal of such calls. It has at most four accesses besides writes of DRW, and four more for each mark of a `finish`. These change to
-- writes of DRW, or back, at most once, and twice more for each mark.
pub journal_few : (t : TargetState) (size m address : ℕ) (calls : List Ask) → 0 < size → m < 256 → address < 2 ^ 32 →
    AreNextWrites (address / 1024) size m address calls →
    (changes_in (issued_entries Managed t calls) ≤ 1 + 2 * marks_in calls) × (others_in (issued_entries Managed t calls) ≤ 4 + 4 * marks_in calls)
journal_few t size m address [] some lt low are = (omega arith, omega arith)
journal_few t size m address (c ∷ cs) some lt low are =
    let w = are.0 in
    let marks = marks_cons c cs in
    let few = write_few size m address w.value false 0 4 (address / 1024) c cs nothing_kept t some (omega (arith, low)) w.is
    (mild_write c size m address w.value w.is w.strict) w.near (first_planned size m address w.value t low lt)
    (λ d l u there. writes_few d cs 1 l u size m (address + size) (address / 1024) some (omega (arith, low)) are.1 there) in
    (let x = few.changing in omega (arith, x, marks), let y = few.bare in omega (arith, y, marks))
