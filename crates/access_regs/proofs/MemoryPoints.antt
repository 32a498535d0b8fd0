-- The memory after the first entries of a journal.
use Rattle.std.proofs.Common.{◌≡◌, ◌≢◌, ◌∙◌, ◌⊎◌, inl, inr, ℕ, ◌+◌, ◌-◌, ◌≤◌, Bool, true, false, cond, ◌&&◌, List, [], ◌∷◌, ◌++◌, append-nil, append_assoc, Option, Some, None, refl, sym, ap, subst, arith, zero, suc, take}
use Rattle.std.proofs.lemmas.Bool.{and_parts}
use Rattle.target_machine.specs.Lists.{after}
use Rattle.target_machine.specs.Plain.{action_attempt, may_forgive, Faulted, CallDone}
use Rattle.target_machine.specs.State.{TargetState}
use Rattle.target_machine.specs.declared.unit.Call.{Call}
use Rattle.target_machine.specs.declared.unit.Call.TheVariants.{Access, Probe}
use Rattle.target_machine.specs.declared.unit.Unit.{Unit as AccessUnit}
use Rattle.target_calls.specs.Asks.{AreAskable, IsAskable, IsCallInRange, is_forgiving}
use Rattle.target_calls.specs.Journal.{Entry, Passes, settles, target_after}
use Rattle.target_calls.specs.World.{is_faulted}
use Rattle.target_calls.specs.declared.calls.Ask.{Ask}
use Rattle.target_calls.specs.declared.journal.Part.{Part}
use Rattle.target_calls.specs.declared.journal.Part.TheVariants.{Settles, Leads, Ends, Skips}
use Rattle.target_calls.proofs.EntryLemmas.{pass_front}
use Rattle.access_regs.specs.Alone.{KeepsMemory, call_alone, alone_after}
use Rattle.access_regs.specs.Closed.{MemoryFollowsCalls, closed_after, closed_by, closes}
use Rattle.access_regs.specs.Follows.{Follows}
use Rattle.access_regs.specs.Journal.{Step, steps_of, actions_of, issue, issue_of, finish, finish_of, steps_at, entries_at, numbered_entries, issued_from, issue_of_plan, after_settling, alone_at, is_alone}
use Rattle.access_regs.specs.Kept.{Kept, nothing_kept}
use Rattle.access_regs.specs.Plan.{settle, settling}
use Rattle.access_regs.specs.declared.known.Unsettled.{Unsettled}
use Rattle.access_regs.proofs.AllCalls.{call_course, fresh_follows}
use Rattle.access_regs.proofs.ForgivingMemory.{Keeps, settled_keeps, skips}
use Rattle.access_regs.proofs.Keeps.{planned_keep, settle_keep}
use Rattle.access_regs.proofs.Lists.{actions_entries, course_follows, faulted_strict, step_follows}
use Rattle.access_regs.proofs.OneEnd.{AllParts, IsNoEnd, IsSettling, OneEnd, planned_one, finish_settles, never}
use Rattle.access_regs.proofs.Seams.{InFirst, InSecond, after_split, passes_none, passes_second, seam_in}
use Rattle.access_regs.proofs.StopLists.{FirstBreak, ends_how, first_break}
use Rattle.access_regs.specs.declared.planner.Planner.{Planner}

-- ---- what one call issues

pub issue_keeps : (p : Planner) (k : Kept) (large : List ℕ) (t u : TargetState) → Follows k large t u → (c : Ask) → IsAskable c → Keeps IsNoEnd u (issue_of p u k c).steps
issue_keeps p k large t u f c ok = by_call c.call ok.range
  where
    by_mark : (asked : AccessUnit) (b : Bool) → (is_alone p c.forgive && may_forgive (Access asked)) ≡ b → IsCallInRange (Access asked) →
        Keeps IsNoEnd u (cond b (after_settling u k (alone_at c.forgive asked)) (issue_of_plan u k asked)).steps
    by_mark asked false e range = record { memory = planned_keep k large t u f asked range; one = planned_one IsNoEnd u k asked }
    by_mark asked true e range = settled_keeps IsNoEnd c.forgive (λ h early. skips early) k large t u f asked range (and_parts (is_alone p c.forgive) (may_forgive (Access asked)) e).1

    by_call : (call : Call) → IsCallInRange call → Keeps IsNoEnd u (issue p u k c.forgive call).steps
    by_call (Access asked) range = by_mark asked (is_alone p c.forgive && may_forgive (Access asked)) refl range
    by_call (Probe x) range = record { memory = ((λ ne. absurd (ne refl)), tt); one = ((λ e. tt), tt) }

pub finish_keeps : (b : Bool) (k : Kept) (large : List ℕ) (t u : TargetState) → Follows k large t u → KeepsMemory u (finish b k).steps
finish_keeps false k large t u f = tt
finish_keeps true k large t u f = by_unsettled k.unsettled refl
  where
    by_unsettled : (o : Option Unsettled) → k.unsettled ≡ o → KeepsMemory u (steps_of Settles (settle k))
    by_unsettled None none = subst (λ (o : Option Unsettled). KeepsMemory u (steps_of Settles (settling k o))) (sym none) tt
    by_unsettled (Some s) some = subst (KeepsMemory u) (append-nil (steps_of Settles (settle k))) (settle_keep k large t u f s some [] (λ v p. tt))

-- ---- the entries of one call

-- each of these entries is such a part
pub AllAre : (Part → Type 0) → List Entry → Type 0
AllAre P [] = Unit {0}
AllAre P (e ∷ es) = P e.part × AllAre P es

-- The memory stays but at the access that the unit with this number is for. What closes a unit is this unit's, and after it come
-- only such parts.
pub EntriesKeep : (Part → Type 0) → ℕ → TargetState → List Entry → Type 0
EntriesKeep P n u [] = Unit {0}
EntriesKeep P n u (e ∷ es) =
    (e.part ≢ Ends → (action_attempt u e.action).next.words ≡ u.words) × ((closes e.part ≡ true → (e.unit ≡ n + 1) × AllAre P es) × EntriesKeep P n (action_attempt u e.action).next es)

all_append : (P : Part → Type 0) (xs ys : List Entry) → AllAre P xs → AllAre P ys → AllAre P (xs ++ ys)
unfolding AllAre
all_append P [] ys h k = k
all_append P (x ∷ xs) ys h k = (h.0, all_append P xs ys h.1 k)

pub all_numbered : (P : Part → Type 0) (n : ℕ) (b : Bool) (steps : List Step) → AllParts P steps → AllAre P (numbered_entries n b steps)
unfolding AllAre
all_numbered P n b [] h = tt
all_numbered P n b (s ∷ steps) h = (h.0, all_numbered P n b steps h.1)

closing_unit : (part : Part) (n : ℕ) → closes part ≡ true → cond (settles part) n (n + 1) ≡ n + 1
closing_unit Settles n e = absurd (cc)
closing_unit Leads n e = absurd (cc)
closing_unit Ends n e = refl
closing_unit (Skips attempted) n e = refl

pub keep_numbered : (P : Part → Type 0) (n m : ℕ) (b : Bool) (steps finishing : List Step) (u : TargetState) → KeepsMemory u steps → OneEnd P steps → AllParts P finishing →
    EntriesKeep P n (after u (actions_of steps)) (numbered_entries m false finishing) → EntriesKeep P n u (numbered_entries n b steps ++ numbered_entries m false finishing)
unfolding EntriesKeep
keep_numbered P n m b [] finishing u h one all k = k
keep_numbered P n m b (s ∷ steps) finishing u h one all k = (
  h.0,
  (
    (λ e. (closing_unit s.part n e, all_append P (numbered_entries n b steps) (numbered_entries m false finishing) (all_numbered P n b steps (one.0 e)) (all_numbered P m false finishing all))),
    keep_numbered P n m b steps finishing (action_attempt u s.action).next h.1 one.1 all k,
  ),
)

pub settling_keep : (P : Part → Type 0) (n m : ℕ) (steps : List Step) (u : TargetState) → AllParts IsSettling steps → KeepsMemory u steps → EntriesKeep P n u (numbered_entries m false steps)
unfolding EntriesKeep
settling_keep P n m [] u only h = tt
settling_keep P n m (s ∷ steps) u only h = (h.0, ((λ e. never (closes s.part) (ap closes only.0) e), settling_keep P n m steps (action_attempt u s.action).next only.1 h.1))

-- ---- a part of the entries of one call, from the front

pub still : (n : ℕ) (u : TargetState) (es front more : List Entry) → EntriesKeep IsNoEnd n u es → AllAre IsNoEnd es → es ≡ front ++ more → (target_after u front).words ≡ u.words
unfolding EntriesKeep AllAre
still n u es [] more h none is = refl
still n u [] (y ∷ front) more h none is = absurd (cc)
still n u (x ∷ es) (y ∷ front) more h none is =
    let head : x ≡ y = cc in
    let tail : es ≡ front ++ more = cc in
    subst (λ (e : Entry). (target_after (action_attempt u e.action).next front).words ≡ u.words) head (still n (action_attempt u x.action).next es front more h.1.1 none.1 tail ∙ h.0 none.0)

-- the unit is not closed, and the memory is that before it; or it is, and the memory is that after it
pub data Cut (n units : ℕ) (u : TargetState) (es front : List Entry) : Type 0 where
  open_ : closed_after units front ≡ units → (target_after u front).words ≡ u.words → Cut n units u es front
  shut : closed_after units front ≡ n + 1 → (target_after u front).words ≡ (target_after u es).words → Cut n units u es front

pub cut : (n units : ℕ) (u : TargetState) (es front more : List Entry) → EntriesKeep IsNoEnd n u es → es ≡ front ++ more → Cut n units u es front
unfolding EntriesKeep
cut n units u es [] more h is = open_ refl refl
cut n units u [] (y ∷ front) more h is = absurd (cc)
cut n units u (x ∷ es) (y ∷ front) more h is =
    let head : x ≡ y = cc in
    let tail : es ≡ front ++ more = cc in
    subst (λ (e : Entry). Cut n units u (x ∷ es) (e ∷ front)) head (by_part (closes x.part) refl tail (λ m. cut n m (action_attempt u x.action).next es front more h.1.1 tail))
  where
    v : TargetState
    v = (action_attempt u x.action).next

    shut_after : (m : ℕ) → m ≡ n + 1 → Cut n m v es front → closed_after m front ≡ n + 1
    shut_after m e (open_ same words) = same ∙ e
    shut_after m e (shut same words) = same

    by_part : (b : Bool) → closes x.part ≡ b → es ≡ front ++ more → ((m : ℕ) → Cut n m v es front) → Cut n units u (x ∷ es) (x ∷ front)
    by_part true e tail again =
        let own = h.1.0 e in
        let at : closed_by units x ≡ n + 1 = ap (λ (b : Bool). cond b x.unit units) e ∙ own.0 in
        shut (shut_after (closed_by units x) at (again (closed_by units x)))
        (still n v es front more h.1.1 own.1 tail ∙ sym (still n v es es [] h.1.1 own.1 (sym (append-nil es))))
    by_part false e tail again =
        let same : closed_by units x ≡ units = ap (λ (b : Bool). cond b x.unit units) e in
        let not_end : x.part ≢ Ends = λ p. never (closes x.part) e (ap closes p) in
        by_rest (again units) (h.0 not_end) same
      where
        by_rest : Cut n units v es front → v.words ≡ u.words → closed_by units x ≡ units → Cut n units u (x ∷ es) (x ∷ front)
        by_rest (open_ count words) kept same = open_ (ap (λ (m : ℕ). closed_after m front) same ∙ count) (words ∙ kept)
        by_rest (shut count words) kept same = shut (ap (λ (m : ℕ). closed_after m front) same ∙ count) words

pub entries_keep : (p : Planner) (n : ℕ) (k : Kept) (large : List ℕ) (t u : TargetState) → Follows k large t u → (c : Ask) → IsAskable c → (call_alone t large c).end ≢ Faulted → EntriesKeep IsNoEnd n u (entries_at p n u k c)
entries_keep p n k large t u f c ok ne =
    let d : CallDone = call_alone t large c in
    let h = issue_keeps p k large t u f c ok in
    let g = course_follows (issue_of p u k c) d c.call u (call_course p k large t u f c ok) ne in
    let v : TargetState = after u (actions_of (issue_of p u k c).steps) in
    keep_numbered IsNoEnd n (n + 1) (is_forgiving c) (issue_of p u k c).steps (finish_of p u k c).steps u h.memory h.one (finish_settles IsNoEnd (λ e. absurd (cc)) c.settled (issue_of p u k c).kept)
    (settling_keep IsNoEnd n (n + 1) (finish_of p u k c).steps v (finish_settles IsSettling refl c.settled (issue_of p u k c).kept) (finish_keeps c.settled (issue_of p u k c).kept d.large d.next v g))

-- a list that is joined in two ways: the front ends in the first part, or in the second
pub data Seam {A : Type 0} (xs ys front more : List A) : Type 0 where
  first : (rest : List A) → xs ≡ front ++ rest → Seam xs ys front more
  second : (back : List A) → front ≡ xs ++ back → ys ≡ back ++ more → Seam xs ys front more

seam : {A : Type 0} → (xs ys front more : List A) → xs ++ ys ≡ front ++ more → Seam xs ys front more
seam [] ys front more is = second front refl is
seam (x ∷ xs) ys [] more is = first (x ∷ xs) refl
seam (x ∷ xs) ys (y ∷ front) more is =
    let head : x ≡ y = cc in
    let tail : xs ++ ys ≡ front ++ more = cc in
    by_seam x xs ys y front more head (seam xs ys front more tail)
  where
    by_seam : {A : Type 0} → (x : A) (xs ys : List A) (y : A) (front more : List A) → x ≡ y → Seam xs ys front more → Seam (x ∷ xs) ys (y ∷ front) more
    by_seam x xs ys y front more head (first rest is) = first rest (λ j. head j ∷ is j)
    by_seam x xs ys y front more head (second back is rest) = second back (λ j. sym head j ∷ is j) rest

-- ---- a call that ends at a fault

-- a call that forgives nothing issues nothing after the access that it is for
pub strict_one : (p : Planner) (k : Kept) (large : List ℕ) (t u : TargetState) → Follows k large t u → (c : Ask) → IsAskable c → is_forgiving c ≡ false → OneEnd IsSettling (issue_of p u k c).steps
strict_one p k large t u f c ok strict = by_call c.call ok.range strict
  where
    by_mark : (asked : AccessUnit) (b : Bool) → (is_alone p c.forgive && may_forgive (Access asked)) ≡ b → IsCallInRange (Access asked) → (c.forgive && may_forgive (Access asked)) ≡ false →
        OneEnd IsSettling (cond b (after_settling u k (alone_at c.forgive asked)) (issue_of_plan u k asked)).steps
    by_mark asked false e range mild = planned_one IsSettling u k asked
    by_mark asked true e range mild =
        let may = (and_parts (is_alone p c.forgive) (may_forgive (Access asked)) e).1 in
        let kept = settled_keeps IsSettling c.forgive (λ h early. never (c.forgive && may_forgive (Access asked)) mild (ap (λ (x : Bool). x && may_forgive (Access asked)) h ∙ may)) k large t u f asked range may in
        kept.one

    by_call : (call : Call) → IsCallInRange call → (c.forgive && may_forgive call) ≡ false → OneEnd IsSettling (issue p u k c.forgive call).steps
    by_call (Access asked) range mild = by_mark asked (is_alone p c.forgive && may_forgive (Access asked)) refl range mild
    by_call (Probe x) range mild = ((λ e. tt), tt)

among : (P : Part → Type 0) (xs : List Entry) (e : Entry) (more : List Entry) → AllAre P (xs ++ e ∷ more) → P e.part
unfolding AllAre
among P [] e more h = h.0
among P (x ∷ xs) e more h = among P xs e more h.1

-- an entry that is not the access of its unit leaves the memory
pub kept_at : (n : ℕ) (u : TargetState) (front : List Entry) (e : Entry) (more : List Entry) → EntriesKeep IsSettling n u (front ++ e ∷ more) → e.part ≢ Ends → (action_attempt (target_after u front) e.action).next.words ≡ (target_after u front).words
unfolding EntriesKeep
kept_at n u [] e more h ne = h.0 ne
kept_at n u (x ∷ front) e more h ne = kept_at n (action_attempt u x.action).next front e more h.1.1 ne

-- before an entry that settles nothing its unit is not closed, and the memory is that before it
pub record Open (units : ℕ) (u : TargetState) (front : List Entry) : Type 0 where
  pub count : closed_after units front ≡ units
  pub words : (target_after u front).words ≡ u.words

pub stays_open : (n units : ℕ) (u : TargetState) (front back : List Entry) (e : Entry) (more : List Entry) → EntriesKeep IsSettling n u (front ++ (back ++ e ∷ more)) → e.part ≢ Settles → Open units u front
unfolding EntriesKeep
stays_open n units u [] back e more h own = record { count = refl; words = refl }
stays_open n units u (x ∷ front) back e more h own = by_part (closes x.part) refl (stays_open n units (action_attempt u x.action).next front back e more h.1.1 own)
  where
    in_rest : (xs : List Entry) → AllAre IsSettling (xs ++ (back ++ e ∷ more)) → e.part ≡ Settles
    in_rest xs all = among IsSettling (xs ++ back) e more (subst (AllAre IsSettling) (sym (append_assoc xs back (e ∷ more))) all)

    by_part : (b : Bool) → closes x.part ≡ b → Open units (action_attempt u x.action).next front → Open units u (x ∷ front)
    by_part true p rest = let own_end = h.1.0 p in absurd (own (in_rest front own_end.1))
    by_part false p rest =
        let same : closed_by units x ≡ units = ap (λ (b : Bool). cond b x.unit units) p in
        record { count = ap (λ (m : ℕ). closed_after m front) same ∙ rest.count; words = rest.words ∙ h.0 (λ q. never (closes x.part) p (ap closes q)) }

pub none_left : (n : ℕ) (u : TargetState) → EntriesKeep IsSettling n u []
unfolding EntriesKeep
none_left n u = tt

-- the call without the mark of a `finish`
unmarked : Ask → Ask
unmarked c = record c { settled = false }

pub faulted_open : (p : Planner) (n units : ℕ) (k : Kept) (large : List ℕ) (t u : TargetState) → Follows k large t u → (c : Ask) → IsAskable c → (call_alone t large c).end ≡ Faulted → (front more rest : List Entry) →
    Passes u front → entries_at p n u k c ++ rest ≡ front ++ more → Open units u front
unfolding unmarked
faulted_open p n units k large t u f c ok bad front more rest pass is =
    by_seam (seam own (numbered_entries (n + 1) false (finish_of p u k c).steps ++ rest) front more (sym (append_assoc own (numbered_entries (n + 1) false (finish_of p u k c).steps) rest) ∙ is))
  where
    own : List Entry
    own = numbered_entries n (is_forgiving c) (issue_of p u k c).steps

    b : FirstBreak p n k u (unmarked c)
    b = first_break p n k large t u f (unmarked c) (record { sound = ok.sound; range = ok.range }) bad

    broken : own ≡ b.front ++ b.entry ∷ b.more
    broken = sym (append-nil own) ∙ b.is

    keeps : EntriesKeep IsSettling n u own
    keeps =
        let h = issue_keeps p k large t u f c ok in
        subst (EntriesKeep IsSettling n u) (append-nil own)
        (keep_numbered IsSettling n (n + 1) (is_forgiving c) (issue_of p u k c).steps [] u h.memory (strict_one p k large t u f c ok (faulted_strict t large c bad)) tt (none_left n (after u (actions_of (issue_of p u k c).steps))))

    before : (back : List Entry) → own ≡ front ++ back → InFirst front b.front b.entry ⊎ InSecond front back b.front b.entry b.more → Open units u front
    before back split (inl first_) = absurd (passes_none u front b.front b.entry first_.more pass first_.is b.bad)
    before back split (inr second_) =
        stays_open n units u front second_.back b.entry b.more (subst (EntriesKeep IsSettling n u) (split ∙ ap (λ (l : List Entry). front ++ l) second_.is) keeps) b.own

    by_seam : Seam own (numbered_entries (n + 1) false (finish_of p u k c).steps ++ rest) front more → Open units u front
    by_seam (first back split) = before back split (seam_in front back b.front b.entry b.more (sym split ∙ broken))
    by_seam (second back split tail) =
        absurd (passes_none u own b.front b.entry b.more (pass_front u own back (subst (Passes u) split pass)) broken b.bad)

-- ---- lists of calls

-- No unit of these calls is closed, and the memory is that before them; or it is that after the calls up to the one closed last.
data Reached (n units : ℕ) (large : List ℕ) (t u : TargetState) (calls : List Ask) (front : List Entry) : Type 0 where
  none : closed_after units front ≡ units → (target_after u front).words ≡ t.words → Reached n units large t u calls front
  some : n + 1 ≤ closed_after units front → (target_after u front).words ≡ (alone_after t large (take (closed_after units front - n) calls)).words → Reached n units large t u calls front

pub same_words : (k : Kept) (large : List ℕ) (t u : TargetState) → Follows k large t u → u.words ≡ t.words
same_words k large t u f = ap (λ (s : TargetState). s.words) f.rest

pub closed_append : (units : ℕ) (xs ys : List Entry) → closed_after units (xs ++ ys) ≡ closed_after (closed_after units xs) ys
closed_append units [] ys = refl
closed_append units (x ∷ xs) ys = closed_append (closed_by units x) xs ys

-- one call that does not end at a fault, and the calls after it
module _ (p : Planner) (n units : ℕ) (k : Kept) (large : List ℕ) (t u : TargetState) (f : Follows k large t u) (c : Ask) (cs : List Ask) (ok : IsAskable c) (ne : (call_alone t large c).end ≢ Faulted) (front more : List Entry) (pass : Passes u front) where
  abbrev es : List Entry
  es = entries_at p n u k c

  abbrev v : TargetState
  v = after u (actions_of (steps_at p u k c))

  abbrev d : CallDone
  d = call_alone t large c

  abbrev rest : List Entry
  rest = issued_from p (n + 1) (finish_of p u k c).kept v cs

  keeps : EntriesKeep IsNoEnd n u es
  keeps = entries_keep p n k large t u f c ok ne

  next : Follows (finish_of p u k c).kept d.large d.next v
  next = step_follows p IsAskable (call_course p) k large t u f c ok ne

  whole : target_after u es ≡ v
  whole = ap (after u) (actions_entries p n u k c)

  after_call : (target_after u es).words ≡ d.next.words
  after_call = ap (λ (s : TargetState). s.words) whole ∙ same_words (finish_of p u k c).kept d.large d.next v next

  one_call : (m : ℕ) → m ≡ n + 1 → (alone_after t large (take (m - n) (c ∷ cs))).words ≡ d.next.words
  one_call m e =
      let one : m - n ≡ suc zero = omega (arith, e) in
      ap (λ (i : ℕ). (alone_after t large (take i (c ∷ cs))).words) one

  more_calls : (m : ℕ) → n + 2 ≤ m → (alone_after d.next d.large (take (m - (n + 1)) cs)).words ≡ (alone_after t large (take (m - n) (c ∷ cs))).words
  more_calls m le =
      let e : m - n ≡ suc (m - (n + 1)) = omega arith in
      sym (ap (λ (i : ℕ). (alone_after t large (take i (c ∷ cs))).words) e)

  within : Cut n units u es front → Reached n units large t u (c ∷ cs) front
  within (open_ count words) = none count (words ∙ same_words k large t u f)
  within (shut count words) = some (omega (arith, count)) (words ∙ after_call ∙ sym (one_call (closed_after units front) count))

  -- the front goes on past this call
  beyond : (back : List Entry) → front ≡ es ++ back → Reached (n + 1) (closed_after units es) d.large d.next v cs back → Reached n units large t u (c ∷ cs) front
  beyond back is again = by_cut (cut n units u es es [] keeps (sym (append-nil es))) again
    where
      m : ℕ
      m = closed_after units es

      counts : closed_after units front ≡ closed_after m back
      counts = ap (closed_after units) is ∙ closed_append units es back

      words_at : (target_after u front).words ≡ (target_after v back).words
      words_at = ap (λ (l : List Entry). (target_after u l).words) is ∙ ap (λ (s : TargetState). s.words) (after_split u es back ∙ ap (λ (s : TargetState). target_after s back) whole)

      by_cut : Cut n units u es es → Reached (n + 1) m d.large d.next v cs back → Reached n units large t u (c ∷ cs) front
      by_cut (open_ count words) (none same kept) = none (counts ∙ same ∙ count) (words_at ∙ kept ∙ sym after_call ∙ words ∙ same_words k large t u f)
      by_cut (shut count words) (none same kept) = some (omega (arith, counts, same, count)) (words_at ∙ kept ∙ sym (one_call (closed_after units front) (counts ∙ same ∙ count)))
      by_cut cut_ (some le words) =
          let at_least : n + 2 ≤ closed_after m back = omega (arith, le) in
          some (omega (arith, counts, at_least))
          (words_at ∙ words ∙ more_calls (closed_after m back) at_least ∙ ap (λ (i : ℕ). (alone_after t large (take (i - n) (c ∷ cs))).words) (sym counts))

  goes_on : ((m : ℕ) → Follows (finish_of p u k c).kept d.large d.next v → (back : List Entry) → Passes v back → rest ≡ back ++ more → Reached (n + 1) m d.large d.next v cs back) → es ++ rest ≡ front ++ more →
      Reached n units large t u (c ∷ cs) front
  goes_on recurse is = by_seam (seam es rest front more is)
    where
      by_seam : Seam es rest front more → Reached n units large t u (c ∷ cs) front
      by_seam (first back split) = within (cut n units u es front back keeps split)
      by_seam (second back split tail) =
          let passed : Passes v back = subst (λ (s : TargetState). Passes s back) whole (passes_second u es back (subst (Passes u) split pass)) in
          beyond back split (recurse (closed_after units es) next back passed tail)

reached : (p : Planner) (n units : ℕ) (k : Kept) (large : List ℕ) (t u : TargetState) → Follows k large t u → (calls : List Ask) → AreAskable calls → (front more : List Entry) → Passes u front →
    issued_from p n k u calls ≡ front ++ more → Reached n units large t u calls front
reached p n units k large t u f [] ok [] more pass is = none refl (same_words k large t u f)
reached p n units k large t u f [] ok (e ∷ front) more pass is = absurd (cc)
reached p n units k large t u f (c ∷ cs) ok front more pass is =
    by_end (ends_how (call_alone t large c).end)
    (λ m next back passed tail. reached p (n + 1) m (finish_of p u k c).kept (call_alone t large c).large (call_alone t large c).next (after u (actions_of (steps_at p u k c))) next cs ok.1 back more passed tail)
  where
    by_end : ((call_alone t large c).end ≡ Faulted) ⊎ (((call_alone t large c).end ≢ Faulted) × (is_faulted (call_alone t large c).end ≡ false)) →
        ((m : ℕ) → Follows (finish_of p u k c).kept (call_alone t large c).large (call_alone t large c).next (after u (actions_of (steps_at p u k c))) → (back : List Entry) → Passes (after u (actions_of (steps_at p u k c))) back →
        issued_from p (n + 1) (finish_of p u k c).kept (after u (actions_of (steps_at p u k c))) cs ≡ back ++ more → Reached (n + 1) m (call_alone t large c).large (call_alone t large c).next (after u (actions_of (steps_at p u k c))) cs back) →
        Reached n units large t u (c ∷ cs) front
    by_end (inl bad) recurse =
        let o = faulted_open p n units k large t u f c ok.0 bad front more (issued_from p (n + 1) (finish_of p u k c).kept (after u (actions_of (steps_at p u k c))) cs) pass is in
        none o.count (o.words ∙ same_words k large t u f)
    by_end (inr good) recurse = goes_on p n units k large t u f c cs ok.0 good.0 front more pass recurse is

pub memory_follows : MemoryFollowsCalls
memory_follows p t calls front more fresh ok pass is = by_reached (reached p 0 0 nothing_kept [] t t (fresh_follows t fresh) calls ok front more pass is)
  where
    by_reached : Reached 0 0 [] t t calls front → (target_after t front).words ≡ (alone_after t [] (take (closed_after 0 front) calls)).words
    by_reached (none count words) = words ∙ sym (ap (λ (i : ℕ). (alone_after t [] (take i calls)).words) count)
    by_reached (some le words) =
        let same : closed_after 0 front - 0 ≡ closed_after 0 front = omega arith in
        words ∙ ap (λ (i : ℕ). (alone_after t [] (take i calls)).words) same
