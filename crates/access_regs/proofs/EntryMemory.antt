-- The memory before an entry of a journal, and after it.
use Rattle.std.proofs.Common.{◌≡◌, ◌≢◌, ◌∙◌, ◌⊎◌, inl, inr, ℕ, ◌+◌, ◌-◌, ◌≤◌, max, Bool, true, false, cond, not, ◌&&◌, List, [], ◌∷◌, ◌++◌, append-nil, append_assoc, length, refl, sym, ap, subst, arith, zero, suc, take}
use Rattle.std.specs.List.{AllByRecursion}
use Rattle.target_machine.specs.Lists.{after}
use Rattle.target_machine.specs.Plain.{action_attempt, is_fault, Faulted, CallDone}
use Rattle.target_machine.specs.State.{TargetState}
use Rattle.target_calls.specs.Asks.{AreAskable, IsAskable, is_forgiving}
use Rattle.target_calls.specs.Journal.{Entry, Passes, is_unforgiven, lines_before, target_after}
use Rattle.target_calls.specs.World.{is_faulted}
use Rattle.target_calls.specs.declared.calls.Ask.{Ask}
use Rattle.target_calls.proofs.EntryLemmas.{pass_front}
use Rattle.access_regs.specs.Alone.{call_alone, alone_after}
use Rattle.access_regs.specs.Closed.{HasMade, MemoryAtEntry, closed_after, closed_by, closes}
use Rattle.access_regs.specs.Follows.{Follows}
use Rattle.access_regs.specs.Journal.{actions_of, entries_at, finish_of, issue_of, issued_from, numbered_entries, steps_at}
use Rattle.access_regs.specs.Kept.{Kept, nothing_kept}
use Rattle.access_regs.specs.declared.planner.Planner.{Planner}
use Rattle.access_regs.proofs.AllCalls.{call_course, fresh_follows}
use Rattle.access_regs.proofs.Joins.{later_entries}
use Rattle.access_regs.proofs.Lists.{Stops, actions_entries, actions_numbered, course_follows, faulted_strict, list_stops, step_follows}
use Rattle.access_regs.proofs.MemoryPoints.{AllAre, Cut, EntriesKeep, Open, all_numbered, closed_append, cut, entries_keep, faulted_open, finish_keeps, issue_keeps, keep_numbered, kept_at, none_left, open_, same_words, settling_keep, shut, still, strict_one}
use Rattle.access_regs.proofs.OneEnd.{IsNoEnd, IsSettling, finish_settles, never}
use Rattle.access_regs.proofs.Seams.{Breaks, InFirst, InSecond, SameFirst, after_split, one_first, passes_both, passes_none, passes_second, seam_in}
use Rattle.access_regs.proofs.StopLists.{call_passes, ends_how, lines_own, not_faulted, numbered_unit}

-- The memory that the calls leave which have their lines before an entry; or that of the next call too, whose own access or skip came.
data Leaves (n units lines : ℕ) (large : List ℕ) (t u : TargetState) (calls : List Ask) (front : List Entry) : Type 0 where
  without : closed_after units front ≤ lines → (target_after u front).words ≡ (alone_after t large (take (lines - n) calls)).words → Leaves n units lines large t u calls front
  with_next : closed_after units front ≡ lines + 1 → lines + 1 ≤ n + length calls → (target_after u front).words ≡ (alone_after t large (take (lines + 1 - n) calls)).words → Leaves n units lines large t u calls front

-- Before an entry, and after it; and where it faults and its unit does not forgive it.
record At (n units : ℕ) (large : List ℕ) (t u : TargetState) (calls : List Ask) (front : List Entry) (e : Entry) : Type 0 where
  asked : lines_before e ≤ n + length calls
  before : Leaves n units (lines_before e) large t u calls front
  later : Leaves n units (lines_before e) large t u calls (front ++ e ∷ [])
  fault : is_unforgiven (target_after u front) e ≡ true → (target_after u (front ++ e ∷ [])).words ≡ (alone_after t large (take (lines_before e + 1 - n) calls)).words

-- ---- entries

unforgiven_breaks : (u : TargetState) (e : Entry) → is_unforgiven u e ≡ true → Breaks u e
unforgiven_breaks u e h = one (is_fault (action_attempt u e.action).outcome) e.forgiving refl refl h
  where
    one : (b c : Bool) → is_fault (action_attempt u e.action).outcome ≡ b → e.forgiving ≡ c → (b && not c) ≡ true → Breaks u e
    one true false x y h = record { bad = x; strict = y }
    one true true x y h = absurd (cc)
    one false c x y h = absurd (cc)

-- one entry more
after_one : (u : TargetState) (front : List Entry) (e : Entry) → target_after u (front ++ e ∷ []) ≡ (action_attempt (target_after u front) e.action).next
after_one u front e = after_split u front (e ∷ [])

all_at : (P : Entry → Type 0) (front : List Entry) (e : Entry) (more : List Entry) → AllByRecursion P (front ++ e ∷ more) → P e
all_at P [] e more h = h.0
all_at P (x ∷ front) e more h = all_at P front e more h.1

one_more : (front : List Entry) (e : Entry) (more : List Entry) → front ++ e ∷ more ≡ (front ++ e ∷ []) ++ more
one_more front e more = sym (append_assoc front (e ∷ []) more)

-- ---- the first call

module _ (p : Planner) (n units : ℕ) (k : Kept) (large : List ℕ) (t u : TargetState) (f : Follows k large t u) (c : Ask) (cs : List Ask) (ok : IsAskable c) (low : units ≤ n) where
  abbrev own : List Entry
  own = numbered_entries n (is_forgiving c) (issue_of p u k c).steps

  abbrev fin : List Entry
  fin = numbered_entries (n + 1) false (finish_of p u k c).steps

  abbrev es : List Entry
  es = own ++ fin

  abbrev v : TargetState
  v = after u (actions_of (steps_at p u k c))

  abbrev d : CallDone
  d = call_alone t large c

  abbrev rest : List Entry
  rest = issued_from p (n + 1) (finish_of p u k c).kept v cs

  abbrev Here : ℕ → List Entry → Type 0
  Here lines front = Leaves n units lines large t u (c ∷ cs) front

  next : d.end ≢ Faulted → Follows (finish_of p u k c).kept d.large d.next v
  next ne = step_follows p IsAskable (call_course p) k large t u f c ok ne

  whole : target_after u es ≡ v
  whole = ap (after u) (actions_entries p n u k c)

  after_call : d.end ≢ Faulted → (target_after u es).words ≡ d.next.words
  after_call ne = ap (λ (s : TargetState). s.words) whole ∙ same_words (finish_of p u k c).kept d.large d.next v (next ne)

  no_call : (m : ℕ) → m ≡ n → (alone_after t large (take (m - n) (c ∷ cs))).words ≡ t.words
  no_call m e =
      let none : m - n ≡ zero = omega (arith, e) in
      ap (λ (i : ℕ). (alone_after t large (take i (c ∷ cs))).words) none

  one_call : (m : ℕ) → m ≡ n + 1 → (alone_after t large (take (m - n) (c ∷ cs))).words ≡ d.next.words
  one_call m e =
      let one : m - n ≡ suc zero = omega (arith, e) in
      ap (λ (i : ℕ). (alone_after t large (take i (c ∷ cs))).words) one

  -- a first part of its own entries
  by_cut : d.end ≢ Faulted → (front : List Entry) → Cut n units u es front → Here n front
  by_cut ne front (open_ count words) = without (omega (arith, count, low)) (words ∙ same_words k large t u f ∙ sym (no_call n refl))
  by_cut ne front (shut count words) = with_next count (omega arith) (words ∙ after_call ne ∙ sym (one_call (n + 1) refl))

  -- before an own entry, and after it
  record Own (front : List Entry) (e : Entry) : Type 0 where
    before : Here n front
    later : Here n (front ++ e ∷ [])
    fault : is_unforgiven (target_after u front) e ≡ true → (target_after u (front ++ e ∷ [])).words ≡ (alone_after t large (take (n + 1 - n) (c ∷ cs))).words

  by_open : (front : List Entry) → Open units u front → Here n front
  by_open front o = without (let e = o.count in omega (arith, e, low)) (o.words ∙ same_words k large t u f ∙ sym (no_call n refl))

  -- where the call ends at a fault, before the entry that gives it, and after that
  module _ (bad : d.end ≡ Faulted) (front : List Entry) (e : Entry) (more : List Entry) (pass : Passes u front) (is : own ≡ front ++ e ∷ more) where
    abbrev stops : Stops p n (n + 0 + 1) k u (c ∷ []) d.next
    stops = list_stops p IsAskable (call_course p) n k large t u f [] c tt ok tt bad

    split : (front' more' : List Entry) → own ≡ front' ++ more' → entries_at p n u k c ++ [] ≡ front' ++ (more' ++ fin)
    split front' more' e = append-nil es ∙ ap (λ (l : List Entry). l ++ fin) e ∙ append_assoc front' more' fin

    opens : (front' more' : List Entry) → own ≡ front' ++ more' → Passes u front' → Here n front'
    opens front' more' e pass' = by_open front' (faulted_open p n units k large t u f c ok bad front' (more' ++ fin) [] pass' (split front' more' e))

    keeps : EntriesKeep IsSettling n u own
    keeps =
        let h = issue_keeps p k large t u f c ok in
        subst (EntriesKeep IsSettling n u) (append-nil own)
        (keep_numbered IsSettling n (n + 1) (is_forgiving c) (issue_of p u k c).steps [] u h.memory (strict_one p k large t u f c ok (faulted_strict t large c bad)) tt (none_left n (after u (actions_of (issue_of p u k c).steps))))

    module _ (b : Breaks (target_after u front) e) where
      same : SameFirst stops.front front stops.entry e
      same = one_first u stops.front front stops.entry e stops.stops.more (more ++ fin) (sym stops.stops.is ∙ split front (e ∷ more) is) stops.stops.passes pass (record { bad = stops.stops.faults; strict = stops.stops.strict }) b

      unit : e.unit ≡ n + 1
      unit = ap (λ (x : Entry). x.unit) (sym same.entry_is) ∙ stops.unit ∙ omega arith

      words : (target_after u (front ++ e ∷ [])).words ≡ d.next.words
      words = ap (λ (s : TargetState). s.words) (after_one u front e) ∙ (λ j. (action_attempt (target_after u (sym same.front_is j)) (sym same.entry_is j).action).next.words) ∙ stops.words

      opened : Open units u front
      opened = faulted_open p n units k large t u f c ok bad front ((e ∷ more) ++ fin) [] pass (split front (e ∷ more) is)

      count : closed_after units (front ++ e ∷ []) ≡ closed_by units e
      count = closed_append units front (e ∷ []) ∙ ap (λ (m : ℕ). closed_by m e) opened.count

      by_part : (b : Bool) → closes e.part ≡ b → Here n (front ++ e ∷ [])
      by_part true q =
          let at : closed_by units e ≡ n + 1 = ap (λ (b : Bool). cond b e.unit units) q ∙ unit in
          with_next (count ∙ at) (omega arith) (words ∙ sym (one_call (n + 1) refl))
      by_part false q =
          let at : closed_by units e ≡ units = ap (λ (b : Bool). cond b e.unit units) q in
          let stays = kept_at n u front e more (subst (EntriesKeep IsSettling n u) is keeps) (λ r. never (closes e.part) q (ap closes r)) in
          without (omega (arith, count, at, low)) (ap (λ (s : TargetState). s.words) (after_one u front e) ∙ stays ∙ opened.words ∙ same_words k large t u f ∙ sym (no_call n refl))

      breaks_here : Here n (front ++ e ∷ [])
      breaks_here = by_part (closes e.part) refl

    faulted_here : Own front e
    faulted_here = record {
      before = opens front (e ∷ more) is pass;
      later = by_entry (is_unforgiven (target_after u front) e) refl;
      fault = λ q. words (unforgiven_breaks (target_after u front) e q) ∙ sym (one_call (n + 1) refl);
    }
      where
        by_entry : (b : Bool) → is_unforgiven (target_after u front) e ≡ b → Here n (front ++ e ∷ [])
        by_entry true q = breaks_here (unforgiven_breaks (target_after u front) e q)
        by_entry false q = opens (front ++ e ∷ []) more (is ∙ one_more front e more) (passes_both u front (e ∷ []) pass (q, tt))

  -- where it does not, no entry of it gives a fault that it does not forgive
  none_faults : d.end ≢ Faulted → (front : List Entry) (e : Entry) (more : List Entry) → es ≡ front ++ e ∷ more → is_unforgiven (target_after u front) e ≡ true → ⊥
  none_faults ne front e more is q = passes_none u es front e more (call_passes p n k large t u f c ok ne) is (unforgiven_breaks (target_after u front) e q)

  -- an own entry
  own_entry : (front : List Entry) (e : Entry) (more : List Entry) → Passes u front → own ≡ front ++ e ∷ more → (d.end ≡ Faulted) ⊎ ((d.end ≢ Faulted) × (is_faulted d.end ≡ false)) → Own front e
  own_entry front e more pass is (inl bad) = faulted_here bad front e more pass is
  own_entry front e more pass is (inr good) =
      let keep = entries_keep p n k large t u f c ok good.0 in
      let all : es ≡ front ++ (e ∷ more ++ fin) = ap (λ (l : List Entry). l ++ fin) is ∙ append_assoc front (e ∷ more) fin in
      record {
        before = by_cut good.0 front (cut n units u es front (e ∷ more ++ fin) keep all);
        later = by_cut good.0 (front ++ e ∷ []) (cut n units u es (front ++ e ∷ []) (more ++ fin) keep (all ∙ one_more front e (more ++ fin)));
        fault = λ q. absurd (none_faults good.0 front e (more ++ fin) all q);
      }

  -- a part of the settling
  finishing : d.end ≢ Faulted → (back more : List Entry) → fin ≡ back ++ more → Here (n + 1) (own ++ back)
  finishing ne back more is = without closed (same back more is ∙ sym (same fin [] (sym (append-nil fin))) ∙ after_call ne ∙ sym (one_call (n + 1) refl))
    where
      w : TargetState
      w = after u (actions_of (issue_of p u k c).steps)

      keep : EntriesKeep IsNoEnd n (target_after u own) fin
      keep =
          let g = course_follows (issue_of p u k c) d c.call u (call_course p k large t u f c ok) ne in
          subst (λ (s : TargetState). EntriesKeep IsNoEnd n s fin) (sym own_after)
          (settling_keep IsNoEnd n (n + 1) (finish_of p u k c).steps w (finish_settles IsSettling refl c.settled (issue_of p u k c).kept) (finish_keeps c.settled (issue_of p u k c).kept d.large d.next w g))
        where
          own_after : target_after u own ≡ w
          own_after = ap (after u) (actions_numbered n (is_forgiving c) (issue_of p u k c).steps)

      none : AllAre IsNoEnd fin
      none = all_numbered IsNoEnd (n + 1) false (finish_of p u k c).steps (finish_settles IsNoEnd (λ e. absurd (cc)) c.settled (issue_of p u k c).kept)

      same : (back more : List Entry) → fin ≡ back ++ more → (target_after u (own ++ back)).words ≡ (target_after u own).words
      same back more is = ap (λ (s : TargetState). s.words) (after_split u own back) ∙ still n (target_after u own) fin back more keep none is

      closed : closed_after units (own ++ back) ≤ n + 1
      closed = by (cut n units u es (own ++ back) more (entries_keep p n k large t u f c ok ne) (ap (λ (l : List Entry). own ++ l) is ∙ sym (append_assoc own back more)))
        where
          by : Cut n units u es (own ++ back) → closed_after units (own ++ back) ≤ n + 1
          by (open_ count words) = omega (arith, count, low)
          by (shut count words) = omega (arith, count)

  -- entries after those of the call
  module _ (ne : d.end ≢ Faulted) where
    all_closed : closed_after units es ≤ n + 1
    all_closed = by (cut n units u es es [] (entries_keep p n k large t u f c ok ne) (sym (append-nil es)))
      where
        by : Cut n units u es es → closed_after units es ≤ n + 1
        by (open_ count words) = omega (arith, count, low)
        by (shut count words) = omega (arith, count)

    more_calls : (m : ℕ) → n + 1 ≤ m → (alone_after d.next d.large (take (m - (n + 1)) cs)).words ≡ (alone_after t large (take (m - n) (c ∷ cs))).words
    more_calls m le =
        let e : m - n ≡ suc (m - (n + 1)) = omega arith in
        sym (ap (λ (i : ℕ). (alone_after t large (take i (c ∷ cs))).words) e)

    later : (lines : ℕ) (back : List Entry) → n + 1 ≤ lines → Leaves (n + 1) (closed_after units es) lines d.large d.next v cs back → Here lines (es ++ back)
    later lines back le h = by h
      where
        counts : closed_after units (es ++ back) ≡ closed_after (closed_after units es) back
        counts = closed_append units es back

        words_at : (target_after u (es ++ back)).words ≡ (target_after v back).words
        words_at = ap (λ (s : TargetState). s.words) (after_split u es back ∙ ap (λ (s : TargetState). target_after s back) whole)

        by : Leaves (n + 1) (closed_after units es) lines d.large d.next v cs back → Here lines (es ++ back)
        by (without few words) = without (omega (arith, counts, few)) (words_at ∙ words ∙ more_calls lines le)
        by (with_next count asked words) = with_next (counts ∙ count) (omega (arith, asked)) (words_at ∙ words ∙ more_calls (lines + 1) (omega (arith, le)))

  abbrev Both : List Entry → Entry → Type 0
  Both front e = At n units large t u (c ∷ cs) front e

  abbrev Later : Type 0
  Later = (d.end ≢ Faulted) → (back : List Entry) (e : Entry) (more : List Entry) → Passes v back → rest ≡ back ++ e ∷ more → At (n + 1) (closed_after units es) d.large d.next v cs back e

  at_own : (front : List Entry) (e : Entry) (more : List Entry) → Passes u front → own ≡ front ++ e ∷ more → Both front e
  at_own front e more pass is =
      let lines : lines_before e ≡ n = lines_own n e (numbered_unit n (is_forgiving c) (issue_of p u k c).steps front e more is) in
      let h = own_entry front e more pass is (ends_how d.end) in
      record {
        asked = omega (arith, lines);
        before = subst (λ (m : ℕ). Here m front) (sym lines) h.before;
        later = subst (λ (m : ℕ). Here m (front ++ e ∷ [])) (sym lines) h.later;
        fault = λ q. subst (λ (m : ℕ). (target_after u (front ++ e ∷ [])).words ≡ (alone_after t large (take (m + 1 - n) (c ∷ cs))).words) (sym lines) (h.fault q);
      }

  at_finish : (front back : List Entry) (e : Entry) (more : List Entry) → Passes u front → front ≡ own ++ back → fin ≡ back ++ e ∷ more → Both front e
  at_finish front back e more pass front_is is =
      let ne = not_faulted p n k large t u f c cs ok (pass_front u own back (subst (Passes u) front_is pass)) in
      let lines : lines_before e ≡ n + 1 = lines_own (n + 1) e (numbered_unit (n + 1) false (finish_of p u k c).steps back e more is) in
      let longer : front ++ e ∷ [] ≡ own ++ (back ++ e ∷ []) = ap (λ (l : List Entry). l ++ e ∷ []) front_is ∙ append_assoc own back (e ∷ []) in
      let all : es ≡ front ++ e ∷ more = ap (λ (l : List Entry). own ++ l) is ∙ sym (append_assoc own back (e ∷ more)) ∙ ap (λ (l : List Entry). l ++ e ∷ more) (sym front_is) in
      record {
        asked = omega (arith, lines);
        before = subst (λ (m : ℕ). Here m front) (sym lines) (subst (Here (n + 1)) (sym front_is) (finishing ne back (e ∷ more) is));
        later = subst (λ (m : ℕ). Here m (front ++ e ∷ [])) (sym lines) (subst (Here (n + 1)) (sym longer) (finishing ne (back ++ e ∷ []) more (is ∙ one_more back e more)));
        fault = λ q. absurd (none_faults ne front e more all q);
      }

  at_later : (front back : List Entry) (e : Entry) (more : List Entry) → Passes u front → front ≡ es ++ back → rest ≡ back ++ e ∷ more → Later → Both front e
  at_later front back e more pass front_is is again =
      let all : Passes u (es ++ back) = subst (Passes u) front_is pass in
      let ne = not_faulted p n k large t u f c cs ok (pass_front u own fin (pass_front u es back all)) in
      let passed : Passes v back = subst (λ (s : TargetState). Passes s back) whole (passes_second u es back all) in
      let h = again ne back e more passed is in
      let le : n + 1 ≤ lines_before e = all_at (λ (x : Entry). n + 1 ≤ lines_before x) back e more (subst (AllByRecursion (λ (x : Entry). n + 1 ≤ lines_before x)) is (later_entries p (n + 1) (finish_of p u k c).kept v cs)) in
      let longer : front ++ e ∷ [] ≡ es ++ (back ++ e ∷ []) = ap (λ (l : List Entry). l ++ e ∷ []) front_is ∙ append_assoc es back (e ∷ []) in
      let here : target_after u front ≡ target_after v back = ap (target_after u) front_is ∙ after_split u es back ∙ ap (λ (s : TargetState). target_after s back) whole in
      let there : (target_after u (front ++ e ∷ [])).words ≡ (target_after v (back ++ e ∷ [])).words = ap (λ (l : List Entry). (target_after u l).words) longer
      ∙ ap (λ (s : TargetState). s.words) (after_split u es (back ++ e ∷ []) ∙ ap (λ (s : TargetState). target_after s (back ++ e ∷ [])) whole) in
      record {
        asked = (let a = h.asked in omega (arith, a));
        before = subst (Here (lines_before e)) (sym front_is) (later ne (lines_before e) back le h.before);
        later = subst (Here (lines_before e)) (sym longer) (later ne (lines_before e) (back ++ e ∷ []) le h.later);
        fault = λ q. there ∙ h.fault (ap (λ (s : TargetState). is_unforgiven s e) (sym here) ∙ q) ∙ more_calls ne (lines_before e + 1) (omega (arith, le));
      }

  first_or_later : (front : List Entry) (e : Entry) (more : List Entry) → Passes u front → es ++ rest ≡ front ++ e ∷ more → Later → Both front e
  first_or_later front e more pass is again = by_seam (seam_in es rest front e more is)
    where
      by_half : (m : List Entry) → InFirst own front e ⊎ InSecond own fin front e m → Both front e
      by_half m (inl i) = at_own front e i.more pass i.is
      by_half m (inr i) = at_finish front i.back e m pass i.front_is i.is

      by_seam : InFirst es front e ⊎ InSecond es rest front e more → Both front e
      by_seam (inl i) = by_half i.more (seam_in own fin front e i.more i.is)
      by_seam (inr i) = at_later front i.back e more pass i.front_is i.is again

-- ---- all calls

at_entry : (p : Planner) (n units : ℕ) (k : Kept) (large : List ℕ) (t u : TargetState) → Follows k large t u → (calls : List Ask) → AreAskable calls → units ≤ n → (front : List Entry) (e : Entry) (more : List Entry) →
    Passes u front → issued_from p n k u calls ≡ front ++ e ∷ more → At n units large t u calls front e
at_entry p n units k large t u f [] ok low [] e more pass is = absurd (cc)
at_entry p n units k large t u f [] ok low (x ∷ front) e more pass is = absurd (cc)
at_entry p n units k large t u f (c ∷ cs) ok low front e more pass is =
    first_or_later p n units k large t u f c cs ok.0 low front e more pass is
    (λ ne back e' more' passed there. at_entry p (n + 1) (closed_after units (entries_at p n u k c)) (finish_of p u k c).kept (call_alone t large c).large (call_alone t large c).next (after u (actions_of (steps_at p u k c)))
    (next p n units k large t u f c cs ok.0 low ne) cs ok.1 (all_closed p n units k large t u f c cs ok.0 low ne) back e' more' passed there)

made_is : (t : TargetState) (calls : List Ask) (lines : ℕ) (front : List Entry) → lines ≤ 0 + length calls → Leaves 0 0 lines [] t t calls front → HasMade t calls lines front
made_is t calls lines front asked (without few words) =
    let same : lines - 0 ≡ max lines (closed_after 0 front) = omega (arith, few) in
    record {
      few = omega (arith, few);
      asked = omega (arith, few, asked);
      words = words ∙ ap (λ (i : ℕ). (alone_after t [] (take i calls)).words) same;
    }
made_is t calls lines front asked (with_next count within words) =
    let same : lines + 1 - 0 ≡ max lines (closed_after 0 front) = omega (arith, count) in
    record {
      few = omega (arith, count);
      asked = omega (arith, count, within);
      words = words ∙ ap (λ (i : ℕ). (alone_after t [] (take i calls)).words) same;
    }

pub memory_at_entry : MemoryAtEntry
memory_at_entry p t calls front e more fresh ok is pass =
    let h = at_entry p 0 0 nothing_kept [] t t (fresh_follows t fresh) calls ok (omega arith) front e more pass is in
    record {
      before = made_is t calls (lines_before e) front h.asked h.before;
      after = made_is t calls (lines_before e) (front ++ e ∷ []) h.asked h.later;
      fault = λ q. h.fault q ∙ (let all : lines_before e + 1 - 0 ≡ lines_before e + 1 = omega arith in ap (λ (i : ℕ). (alone_after t [] (take i calls)).words) all);
    }
