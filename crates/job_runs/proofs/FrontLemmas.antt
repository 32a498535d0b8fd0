-- The journal of the calls that were asked, and that of the outcome's calls: they have a front in common, in which all lies that a
-- stop speaks of.
use Rattle.std.proofs.Common.{◌≡◌, ◌∙◌, ◌⊎◌, inl, inr, ℕ, zero, suc, ◌+◌, ◌-◌, ◌<◌, ◌≤◌, Bool, true, false, cond, List, [], ◌∷◌, ◌++◌, append-nil, append_assoc, length, take, Option, None, Some, refl, sym, ap, subst, arith}
use Rattle.target_calls.proofs.WorldLemmas.{first_is_positive}
use Rattle.std.specs.List.{AllByRecursion}
use Rattle.std.specs.Prelude.{option_map, slice_get}
use Rattle.std.proofs.lemmas.Bool.{cases_lt}
use Rattle.std.proofs.lemmas.List.{length-append, take-append-le}
use Rattle.std.proofs.lemmas.Option.{same_Some, slice_get_within}
use Rattle.target_machine.specs.Plain.{action_attempt}
use Rattle.target_machine.specs.State.{Agree, TargetState}
use Rattle.target_machine.specs.declared.unit.Call.{Call}
use Rattle.probe_core.specs.Bench.{BenchState}
use Rattle.probe_core.specs.Probe.{target_of}
use Rattle.target_calls.specs.Asks.{is_settled, settled_last}
use Rattle.target_calls.specs.Journal.{Entry, attempted_in, first_fault, is_unforgiven, lines_before, skipped_in, target_after}
use Rattle.target_calls.specs.Weights.{weight_in}
use Rattle.target_calls.proofs.EntryLemmas.{performed_fits, performed_most}
use Rattle.target_calls.specs.World.{later_by}
use Rattle.target_calls.specs.declared.calls.Ask.{Ask}
use Rattle.target_calls.proofs.MarkLemmas.{length_marked, marked_same}
use Rattle.access_calls.specs.Growing.{GoesOnWith, IsAfter, JournalGoesOn, JournalSettles}
use Rattle.access_calls.specs.Numbers.{HasNumbers, StopNumbers, attempted_by, lines_at, unit_at}
use Rattle.access_calls.specs.Reported.{Beginning, start_of}
use Rattle.access_calls.specs.Standing.{HasPerformed, grown_since}
use Rattle.access_calls.specs.declared.stop.Report.{Report}
use Rattle.access_calls.specs.declared.stop.StopCause.{StopCause}
use Rattle.control_flow.specs.Answers.{EndsWhole, SharesCalls}
use Rattle.sequence_rules.specs.Runs.{Outcome}
use Rattle.sequels.specs.Limits.{GoesOnFrom}
use Rattle.sequels.proofs.LimitLemmas.{from_on, from_same}
use Rattle.followed_runs.proofs.CallLemmas.{from_few, from_length}
use Rattle.job_runs.specs.Runs.{HasMadeEntries}

-- ---- lists

-- of two lists that come first in one, one comes first in the other
overlap : {A : Type 0} (xs more ys over : List A) → xs ++ more ≡ ys ++ over → ((rest : List A) × (ys ≡ xs ++ rest)) ⊎ ((rest : List A) × (xs ≡ ys ++ rest))
overlap [] more ys over e = inl (ys, refl)
overlap (x ∷ xs) more [] over e = inr (x ∷ xs, refl)
overlap {A = A} (x ∷ xs) more (y ∷ ys) over e =
    let head : x ≡ y = cc in
    let tail : xs ++ more ≡ ys ++ over = cc in
    one head (overlap xs more ys over tail)
  where
    one : x ≡ y → ((rest : List A) × (ys ≡ xs ++ rest)) ⊎ ((rest : List A) × (xs ≡ ys ++ rest)) → ((rest : List A) × (y ∷ ys ≡ x ∷ (xs ++ rest))) ⊎ ((rest : List A) × (x ∷ xs ≡ y ∷ (ys ++ rest)))
    one head (inl h) = inl (h.0, (let same = h.1 in cc))
    one head (inr h) = inr (h.0, (let same = h.1 in cc))

-- a place in the first of two lists
get_front : {A : Type 0} (i : ℕ) (xs ys : List A) → i < length xs → slice_get (xs ++ ys) i ≡ slice_get xs i
get_front i [] ys less = absurd (omega (arith, less))
get_front zero (x ∷ xs) ys less = refl
get_front (suc i) (x ∷ xs) ys less = get_front i xs ys (omega (arith, less))

-- what stands at a place
pub get_some : {A : Type 0} (i : ℕ) (xs : List A) → i < length xs → (x : A) × (slice_get xs i ≡ Some x)
get_some i [] less = absurd (omega (arith, less))
get_some zero (x ∷ xs) less = (x, refl)
get_some (suc i) (x ∷ xs) less = get_some i xs (omega (arith, less))

-- ---- calls

-- what a call is does not depend on the mark
call_marked : (xs : List Ask) (i : ℕ) → option_map (λ (a : Ask). a.call) (slice_get (settled_last xs) i) ≡ option_map (λ (a : Ask). a.call) (slice_get xs i)
call_marked [] i = refl
call_marked (a ∷ []) zero = refl
call_marked (a ∷ []) (suc i) = refl
call_marked (a ∷ b ∷ xs) zero = refl
call_marked (a ∷ b ∷ xs) (suc i) = call_marked (b ∷ xs) i

pub call_within : (xs : List Ask) (i : ℕ) (c : Call) → option_map (λ (a : Ask). a.call) (slice_get xs i) ≡ Some c → i < length xs
call_within [] i c is = absurd (cc)
call_within (a ∷ xs) zero c is = omega arith
call_within (a ∷ xs) (suc i) c is = (let less = call_within xs i c is in omega (arith, less))

-- a mark says nothing else of a call
unmarked : (a b : List Ask) → is_settled a ≡ false → is_settled b ≡ false → settled_last a ≡ settled_last b → a ≡ b
unmarked [] b at is e = absurd (cc)
unmarked (x ∷ a) [] at is e = absurd (cc)
unmarked (x ∷ []) (y ∷ []) at is e =
    let head : record x { settled = true } ≡ record y { settled = true } = cc in
    let same : record x { settled = false } ≡ record y { settled = false } = ap (λ (k : Ask). record k { settled = false }) head in
    ap (λ (b : Bool). record x { settled = b } ∷ []) at ∙ ap (λ (k : Ask). k ∷ []) same ∙ ap (λ (b : Bool). record y { settled = b } ∷ []) (sym is)
unmarked (x ∷ []) (y ∷ z ∷ b) at is e = absurd (let long = ap length e in let same = length_marked (z ∷ b) in omega (arith, long, same))
unmarked (x ∷ y ∷ a) (z ∷ []) at is e = absurd (let long = ap length e in let same = length_marked (y ∷ a) in omega (arith, long, same))
unmarked (x ∷ y ∷ a) (z ∷ u ∷ b) at is e =
    let head : x ≡ z = cc in
    let tail : settled_last (y ∷ a) ≡ settled_last (u ∷ b) = cc in
    ap (λ (k : Ask). k ∷ (y ∷ a)) head ∙ ap (λ (l : List Ask). z ∷ l) (unmarked (y ∷ a) (u ∷ b) at is tail)

-- what a call is, at a place
abbrev pub call_at : List Ask → ℕ → Option Call
call_at calls i = option_map (λ (a : Ask). a.call) (slice_get calls i)

-- ---- calls that go on from others

-- a call stands where it stood
pub from_call : (a b : List Ask) (i : ℕ) → GoesOnFrom a b → i < length a → call_at b i ≡ call_at a i
from_call a b i g less = by_mark g.so
  where
    by_mark : (b ≡ a ++ g.more) ⊎ (b ≡ settled_last a ++ g.more) → call_at b i ≡ call_at a i
    by_mark (inl e) = ap (λ (l : List Ask). call_at l i) e ∙ ap (option_map (λ (c : Ask). c.call)) (get_front i a g.more less)
    by_mark (inr e) =
        ap (λ (l : List Ask). call_at l i) e
        ∙ ap (option_map (λ (c : Ask). c.call)) (get_front i (settled_last a) g.more (let same = length_marked a in omega (arith, less, same)))
        ∙ call_marked a i

-- the same calls with a mark after the last
pub from_mark : (calls : List Ask) → GoesOnFrom calls (settled_last calls)
from_mark calls = record { more = []; so = inr (sym (append-nil (settled_last calls))) }

-- calls that are settled, by a first part and what comes after it: the mark is after the last
unsettled : (calls front : List Ask) (x : Ask) (rest : List Ask) → settled_last calls ≡ front ++ x ∷ rest → (more : List Ask) × (calls ≡ front ++ more)
unsettled calls [] x rest e = (calls, refl)
unsettled [] (y ∷ front) x rest e = absurd (cc)
unsettled (c ∷ []) (y ∷ []) x rest e = absurd (cc)
unsettled (c ∷ []) (y ∷ z ∷ front) x rest e = absurd (cc)
unsettled (c ∷ d ∷ calls) (y ∷ front) x rest e =
    let head : c ≡ y = cc in
    let h = unsettled (d ∷ calls) front x rest (let tail : settled_last (d ∷ calls) ≡ front ++ x ∷ rest = cc in tail) in
    (h.0, ap (λ (l : List Ask). c ∷ l) h.1 ∙ ap (λ (k : Ask). k ∷ (front ++ h.0)) head)

-- calls that are the same once they are settled: one goes on from the other
same_settled : (a b : List Ask) → settled_last a ≡ settled_last b → GoesOnFrom a b ⊎ GoesOnFrom b a
same_settled a b e = by_marks (is_settled a) (is_settled b) refl refl
  where
    by_marks : (m n : Bool) → is_settled a ≡ m → is_settled b ≡ n → GoesOnFrom a b ⊎ GoesOnFrom b a
    by_marks m true at is = inl (record { more = []; so = inr (sym (marked_same b is) ∙ sym e ∙ sym (append-nil (settled_last a))) })
    by_marks true false at is = inr (record { more = []; so = inr (sym (marked_same a at) ∙ e ∙ sym (append-nil (settled_last b))) })
    by_marks false false at is = inl (record { more = []; so = inl (sym (unmarked a b at is e) ∙ sym (append-nil a)) })

-- How what was asked and the calls of an outcome meet: one goes on from the other.
pub data Meets (asked calls : List Ask) : Type 0 where
  within : GoesOnFrom asked calls → Meets asked calls
  beyond : GoesOnFrom calls asked → Meets asked calls

-- calls from which one list goes on
both_from : (a b all : List Ask) → GoesOnFrom a all → GoesOnFrom b all → Meets a b
both_from a b all g h = by_marks g.so h.so
  where
    plain : ((rest : List Ask) × (b ≡ a ++ rest)) ⊎ ((rest : List Ask) × (a ≡ b ++ rest)) → Meets a b
    plain (inl r) = within (record { more = r.0; so = inl r.1 })
    plain (inr r) = beyond (record { more = r.0; so = inl r.1 })

    -- a first part of settled calls
    part_of : (x y : List Ask) (rest : List Ask) → settled_last y ≡ x ++ rest → GoesOnFrom x y ⊎ GoesOnFrom y x
    part_of x y [] e = inr (record { more = []; so = inr (sym (append-nil x) ∙ sym e ∙ sym (append-nil (settled_last y))) })
    part_of x y (z ∷ rest) e = (let q = unsettled y x z rest e in inl (record { more = q.0; so = inl q.1 }))

    by_part : GoesOnFrom a b ⊎ GoesOnFrom b a → Meets a b
    by_part (inl q) = within q
    by_part (inr q) = beyond q

    turned : GoesOnFrom b a ⊎ GoesOnFrom a b → Meets a b
    turned (inl q) = beyond q
    turned (inr q) = within q

    second : ((rest : List Ask) × (settled_last b ≡ a ++ rest)) ⊎ ((rest : List Ask) × (a ≡ settled_last b ++ rest)) → Meets a b
    second (inl r) = by_part (part_of a b r.0 r.1)
    second (inr r) = beyond (record { more = r.0; so = inr r.1 })

    first : ((rest : List Ask) × (b ≡ settled_last a ++ rest)) ⊎ ((rest : List Ask) × (settled_last a ≡ b ++ rest)) → Meets a b
    first (inl r) = within (record { more = r.0; so = inr r.1 })
    first (inr r) = turned (part_of b a r.0 r.1)

    -- settled calls that go on from settled calls
    longer : (x y : List Ask) (rest : List Ask) → settled_last y ≡ settled_last x ++ rest → GoesOnFrom x y ⊎ GoesOnFrom y x
    longer x y [] e = same_settled x y (sym (append-nil (settled_last x)) ∙ sym e)
    longer x y (z ∷ rest) e = (let q = unsettled y (settled_last x) z rest e in inl (record { more = q.0; so = inr q.1 }))

    both : ((rest : List Ask) × (settled_last b ≡ settled_last a ++ rest)) ⊎ ((rest : List Ask) × (settled_last a ≡ settled_last b ++ rest)) → Meets a b
    both (inl r) = by_part (longer a b r.0 r.1)
    both (inr r) = turned (longer b a r.0 r.1)

    by_marks : (all ≡ a ++ g.more) ⊎ (all ≡ settled_last a ++ g.more) → (all ≡ b ++ h.more) ⊎ (all ≡ settled_last b ++ h.more) → Meets a b
    by_marks (inl e) (inl f) = plain (overlap a g.more b h.more (sym e ∙ f))
    by_marks (inl e) (inr f) = second (overlap a g.more (settled_last b) h.more (sym e ∙ f))
    by_marks (inr e) (inl f) = first (overlap (settled_last a) g.more b h.more (sym e ∙ f))
    by_marks (inr e) (inr f) = both (overlap (settled_last a) g.more (settled_last b) h.more (sym e ∙ f))

pub meets : (asked : List Ask) (o : Outcome) → SharesCalls asked o → Meets asked o.calls
meets asked o s = both_from asked o.calls s.all s.ours s.theirs

-- where the outcome is Done or Halted, no more was asked than its calls
pub few_asked : (asked : List Ask) (o : Outcome) → SharesCalls asked o → EndsWhole o.ending → length asked ≤ length o.calls
few_asked asked o s whole = (let first = from_length asked s.all s.ours in let most = s.only whole in omega (arith, first, most))

-- the call at a place of what was asked stands there in the calls of the outcome too, where these reach so far
pub own_call : (asked calls all : List Ask) (i : ℕ) (c : Call) → Meets asked calls → GoesOnFrom calls all → i < length calls → call_at asked i ≡ Some c → call_at (settled_last all) i ≡ Some c
own_call asked calls all i c meet on less is = call_marked all i ∙ from_call calls all i on less ∙ here meet
  where
    here : Meets asked calls → call_at calls i ≡ Some c
    here (within g) = from_call asked calls i g (call_within asked i c is) ∙ is
    here (beyond g) = sym (from_call calls asked i g less) ∙ is

-- ---- entries

-- entries that are issued after so many calls are issued after fewer
pub after_fewer : (low high : ℕ) (es : List Entry) → low ≤ high → AllByRecursion (IsAfter high) es → AllByRecursion (IsAfter low) es
after_fewer low high [] le h = tt
after_fewer low high (e ∷ es) le h = ((let x = h.0 in omega (arith, x, le)), after_fewer low high es le h.1)

-- an entry that is issued before so many calls were asked is none of those that come after them
in_front : (calls i : ℕ) (front rest : List Entry) (e : Entry) → slice_get (front ++ rest) i ≡ Some e → AllByRecursion (IsAfter calls) rest → lines_before e < calls → i < length front
in_front calls i [] [] e is later less = absurd (cc)
in_front calls zero [] (x ∷ rest) e is later less =
    let low : calls ≤ lines_before e = subst (λ (y : Entry). calls ≤ lines_before y) (same_Some x e is) later.0 in absurd (omega (arith, low, less))
in_front calls (suc i) [] (x ∷ rest) e is later less = (let none = in_front calls i [] rest e is later.1 less in absurd (omega (arith, none)))
in_front calls zero (x ∷ front) rest e is later less = omega arith
in_front calls (suc i) (x ∷ front) rest e is later less = (let there = in_front calls i front rest e is later less in omega (arith, there))

-- the number of a first fault is none of nothing
fault_some : (t : TargetState) (es : List Entry) → first_fault t es ≡ Some 0 → ⊥
fault_some t [] is = cc
fault_some t (e ∷ es) is = first_is_positive (is_unforgiven t e) (first_fault (action_attempt t e.action).next es) is

-- a first fault among those that come first is the first whatever comes after them
fault_of_front : (t : TargetState) (xs ys zs : List Entry) (f : ℕ) → first_fault t (xs ++ ys) ≡ Some f → f ≤ length xs → first_fault t (xs ++ zs) ≡ Some f
fault_of_front t [] ys zs f is le =
    let none : f ≡ 0 = omega (arith, le) in absurd (fault_some t ys (is ∙ ap Some none))
fault_of_front t (x ∷ xs) ys zs f is le =
    let u : TargetState = (action_attempt t x.action).next in one (is_unforgiven t x) (first_fault u (xs ++ ys)) (first_fault u (xs ++ zs)) (fault_of_front u xs ys zs) is
  where
    one : (b : Bool) (o n : Option ℕ) → ((k : ℕ) → o ≡ Some k → k ≤ length xs → n ≡ Some k) → cond b (Some 1) (later_by 1 o) ≡ Some f → cond b (Some 1) (later_by 1 n) ≡ Some f
    one true o n h e = e
    one false None n h e = absurd (cc)
    one false (Some k) n h e =
        let number : 1 + k ≡ f = same_Some (1 + k) f e in
        ap (later_by 1) (h k refl (omega (arith, number, le))) ∙ ap Some number

-- ---- a stop

-- the numbers of a stop, by the entry that it names and those that were performed
abbrev numbers_by : Option Entry → List Entry → StopCause → StopNumbers
numbers_by next entries cause = record {
  unit = unit_at next;
  attempted = attempted_by cause (unit_at next) (attempted_in entries);
  skipped = skipped_in entries;
  lines = lines_at next;
}

-- Two journals have a front in common, in which the entry lies that a stop names; what comes after it in the second is issued once all
-- calls up to the named unit were asked.
pub record Meeting (r : Report) (ours theirs : List Entry) : Type 0 where
  pub front : List Entry
  pub our_rest : List Entry
  pub their_rest : List Entry
  pub ours_are : ours ≡ front ++ our_rest
  pub theirs_are : theirs ≡ front ++ their_rest
  pub later : AllByRecursion (IsAfter r.unit) their_rest
  pub next : r.confirmed < length front

module _ (r : Report) (ours theirs : List Entry) (h : Meeting r ours theirs) (one : r.accesses ≤ r.confirmed + 1) where
  within_front : r.accesses ≤ length h.front
  within_front = (let n = h.next in omega (arith, n, one))

  -- the same entries come first in both
  pub same_first : take r.accesses ours ≡ take r.accesses theirs
  same_first =
      ap (take r.accesses) h.ours_are ∙ take-append-le r.accesses h.front h.our_rest within_front
      ∙ sym (take-append-le r.accesses h.front h.their_rest within_front) ∙ sym (ap (take r.accesses) h.theirs_are)

  same_next : slice_get ours r.confirmed ≡ slice_get theirs r.confirmed
  same_next =
      ap (λ (l : List Entry). slice_get l r.confirmed) h.ours_are ∙ get_front r.confirmed h.front h.our_rest h.next
      ∙ sym (get_front r.confirmed h.front h.their_rest h.next) ∙ sym (ap (λ (l : List Entry). slice_get l r.confirmed) h.theirs_are)

  -- so a stop has the same numbers in both
  pub same_numbers : (asked calls : List Ask) (skipped lines : ℕ) → HasNumbers ours asked skipped lines r → option_map (λ (a : Ask). a.call) (slice_get calls (r.unit - 1)) ≡ Some r.what
      → HasNumbers theirs calls skipped lines r
  same_numbers asked calls skipped lines numbers what = record {
    named =
        let long : length theirs ≡ length h.front + length h.their_rest = ap length h.theirs_are ∙ length-append h.front h.their_rest in
        let n = h.next in omega (arith, long, n);
    numbers = numbers.numbers
        ∙ ap (λ (next : Option Entry). numbers_by next (take r.accesses ours) r.cause) same_next
        ∙ ap (λ (es : List Entry). numbers_by (slice_get theirs r.confirmed) es r.cause) same_first;
    what = what;
  }

  -- up to the named one too
  same_named : take (r.confirmed + 1) ours ≡ take (r.confirmed + 1) theirs
  same_named =
      let within : r.confirmed + 1 ≤ length h.front = (let n = h.next in omega (arith, n)) in
      ap (take (r.confirmed + 1)) h.ours_are ∙ take-append-le (r.confirmed + 1) h.front h.our_rest within
      ∙ sym (take-append-le (r.confirmed + 1) h.front h.their_rest within) ∙ sym (ap (take (r.confirmed + 1)) h.theirs_are)

  named_within : r.confirmed < length ours
  named_within = (let long : length ours ≡ length h.front + length h.our_rest = ap length h.ours_are ∙ length-append h.front h.our_rest in let n = h.next in omega (arith, long, n))

  -- and the same entries were performed
  pub same_made : (b : Beginning) (m : BenchState) → HasPerformed ours r.accesses b m → grown_since b m ≤ weight_in (start_of b) (take (r.confirmed + 1) ours) → HasMadeEntries theirs r b m
  same_made b m p up_to = record {
    low = subst (λ (l : List Entry). weight_in (start_of b) l ≤ grown_since b m) same_first
        (subst (λ (n : ℕ). weight_in (start_of b) (take n ours) ≤ grown_since b m) (sym p.count_is) (performed_fits (start_of b) ours (grown_since b m)));
    high = subst (λ (l : List Entry). grown_since b m ≤ weight_in (start_of b) l) same_named up_to;
    part = λ same. subst (λ (l : List Entry). grown_since b m < weight_in (start_of b) l) same_named (less same (cases_lt (grown_since b m) (weight_in (start_of b) (take (r.confirmed + 1) ours))));
    target = subst (λ (l : List Entry). Agree (target_of m.probe) (target_after (start_of b) l)) same_first p.target;
  }
    where
      -- else the named one were performed
      less : r.accesses ≡ r.confirmed → (grown_since b m < weight_in (start_of b) (take (r.confirmed + 1) ours)) ⊎ (weight_in (start_of b) (take (r.confirmed + 1) ours) ≤ grown_since b m)
          → grown_since b m < weight_in (start_of b) (take (r.confirmed + 1) ours)
      less same (inl few) = few
      less same (inr fits) =
          let within = named_within in
          let more = performed_most (start_of b) ours (grown_since b m) (r.confirmed + 1) (omega (arith, within)) fits in
          let count = p.count_is in
          absurd (omega (arith, more, count, same))

  pub same_fault : (t : TargetState) → first_fault t ours ≡ Some r.accesses → first_fault t theirs ≡ Some r.accesses
  same_fault t is =
      ap (first_fault t) h.theirs_are ∙ fault_of_front t h.front h.our_rest h.their_rest r.accesses (sym (ap (first_fault t) h.ours_are) ∙ is) within_front

-- both go on from the journal of the outcome's calls
common : (r : Report) (calls : List Ask) (first ours theirs : List Entry) (e : Entry) → GoesOnWith (length calls) first ours → GoesOnWith (length calls) first theirs
    → slice_get ours r.confirmed ≡ Some e → lines_before e < length calls → r.unit ≤ length calls → Meeting r ours theirs
common r calls first ours theirs e g h at less high = record {
  front = first;
  our_rest = g.rest;
  their_rest = h.rest;
  ours_are = g.joined;
  theirs_are = h.joined;
  later = after_fewer r.unit (length calls) h.rest high h.later;
  next = in_front (length calls) r.confirmed first g.rest e (sym (ap (λ (l : List Entry). slice_get l r.confirmed) g.joined) ∙ at) g.later less;
}

-- ---- journals of calls

all_joined : (P : Entry → Type 0) (xs ys : List Entry) → AllByRecursion P xs → AllByRecursion P ys → AllByRecursion P (xs ++ ys)
all_joined P [] ys h k = k
all_joined P (x ∷ xs) ys h k = (h.0, all_joined P xs ys h.1 k)

goes_twice : (calls : ℕ) (a b c : List Entry) → GoesOnWith calls a b → GoesOnWith calls b c → GoesOnWith calls a c
goes_twice calls a b c g h = record {
  rest = g.rest ++ h.rest;
  joined = h.joined ∙ ap (λ (l : List Entry). l ++ h.rest) g.joined ∙ append_assoc a g.rest h.rest;
  later = all_joined (IsAfter calls) g.rest h.rest g.later h.later;
}

module _ (journal : TargetState → List Ask → List Entry) (grows : JournalGoesOn journal) (settles : JournalSettles journal) (t : TargetState) where
  -- the journal of calls that go on from others goes on from theirs
  pub from_journal : (asks all : List Ask) → GoesOnFrom asks all → GoesOnWith (length asks) (journal t asks) (journal t all)
  from_journal asks all g = by_mark g.so
    where
      by_mark : (all ≡ asks ++ g.more) ⊎ (all ≡ settled_last asks ++ g.more) → GoesOnWith (length asks) (journal t asks) (journal t all)
      by_mark (inl e) = subst (λ (c : List Ask). GoesOnWith (length asks) (journal t asks) (journal t c)) (sym e) (grows t asks g.more)
      by_mark (inr e) = subst (λ (c : List Ask). GoesOnWith (length asks) (journal t asks) (journal t c)) (sym e)
          (goes_twice (length asks) (journal t asks) (journal t (settled_last asks)) (journal t (settled_last asks ++ g.more)) (settles t asks)
          (subst (λ (k : ℕ). GoesOnWith k (journal t (settled_last asks)) (journal t (settled_last asks ++ g.more))) (length_marked asks) (grows t (settled_last asks) g.more)))

  -- the same of calls that are settled then
  settled_journal : (asks all : List Ask) → GoesOnFrom asks all → GoesOnWith (length asks) (journal t asks) (journal t (settled_last all))
  settled_journal asks all g = from_journal asks (settled_last all) (from_on asks all (settled_last all) g (from_mark all))

  -- Where a stop names one of the outcome's units: the journal of what was asked, and that of the outcome's calls and of more.
  pub meeting : (r : Report) (asked calls all : List Ask) (e : Entry) → Meets asked calls → GoesOnFrom calls all → slice_get (journal t asked) r.confirmed ≡ Some e → lines_before e < length calls
      → r.unit ≤ length asked → r.unit ≤ length calls → Meeting r (journal t asked) (journal t (settled_last all))
  meeting r asked calls all e (within g) on at less low high =
      let h = settled_journal asked all (from_on asked calls all g on) in
      record {
        front = journal t asked;
        our_rest = [];
        their_rest = h.rest;
        ours_are = sym (append-nil (journal t asked));
        theirs_are = h.joined;
        later = after_fewer r.unit (length asked) h.rest low h.later;
        next = slice_get_within (journal t asked) r.confirmed e at;
      }
  meeting r asked calls all e (beyond g) on at less low high =
      common r calls (journal t calls) (journal t asked) (journal t (settled_last all)) e (from_journal calls asked g) (settled_journal calls all on) at less high

  -- What was asked comes first in the calls of the outcome, settled after the last.
  pub record Covers (asked calls : List Ask) : Type 0 where
    pub goes_on : GoesOnWith (length asked) (journal t asked) (journal t (settled_last calls))
    pub same : (i : ℕ) (c : Call) → call_at asked i ≡ Some c → call_at (settled_last calls) i ≡ Some c

  -- since these go on from it
  covers_by : (asked calls : List Ask) → GoesOnFrom asked (settled_last calls) → Covers asked calls
  covers_by asked calls g = record {
    goes_on = from_journal asked (settled_last calls) g;
    same = λ i c at. from_call asked (settled_last calls) i g (call_within asked i c at) ∙ at;
  }

  -- where no more were asked
  pub covers : (asked calls : List Ask) → Meets asked calls → length asked ≤ length calls → Covers asked calls
  covers asked calls (within g) few = covers_by asked calls (from_on asked calls (settled_last calls) g (from_mark calls))
  covers asked calls (beyond g) few = by_few (from_few calls asked g few)
    where
      by_few : (asked ≡ calls) ⊎ (asked ≡ settled_last calls) → Covers asked calls
      by_few (inl e) = subst (λ (c : List Ask). Covers c calls) (sym e) (covers_by calls calls (from_mark calls))
      by_few (inr e) = subst (λ (c : List Ask). Covers c calls) (sym e) (covers_by (settled_last calls) calls (from_same (settled_last calls)))

  -- so the journals meet where the stop names any entry
  pub covered : (r : Report) (asked calls : List Ask) (h : Covers asked calls) → r.confirmed < length (journal t asked) → r.unit ≤ length asked → Meeting r (journal t asked) (journal t (settled_last calls))
  covered r asked calls h named low = record {
    front = journal t asked;
    our_rest = [];
    their_rest = h.goes_on.rest;
    ours_are = sym (append-nil (journal t asked));
    theirs_are = h.goes_on.joined;
    later = after_fewer r.unit (length asked) h.goes_on.rest low h.goes_on.later;
    next = named;
  }

  -- where more were asked, the journal of what was asked goes on from that of the outcome's calls
  pub goes_beyond : (asked calls : List Ask) → Meets asked calls → length calls < length asked → GoesOnWith (length calls) (journal t calls) (journal t asked)
  goes_beyond asked calls (within g) more = absurd (let long = from_length asked calls g in omega (arith, long, more))
  goes_beyond asked calls (beyond g) more = from_journal calls asked g
