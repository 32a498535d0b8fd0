-- One more call.
use Rattle.std.proofs.Common.{◌≡◌, ◌∙◌, ℕ, suc, ◌+◌, Bool, true, false, not, ◌&&◌, List, [], ◌∷◌, ◌++◌, length, None, refl, sym, ap, arith, append-nil, append_assoc, length-append}
use Rattle.access_regs.proofs.AllCalls.{call_course, journal_follows}
use Rattle.access_regs.proofs.Joins.{journal_joins, kept_joins}
use Rattle.access_regs.proofs.Seams.{after_split}
use Rattle.access_regs.proofs.Settle.{settled_calm}
use Rattle.access_regs.specs.Alone.{call_alone, alone_after, large_of_all}
use Rattle.access_regs.specs.Course.{Course, IsAnswered, answered, skipped, small, stopped}
use Rattle.access_regs.specs.Entries.{CallAnswers, JournalGrows, JournalMarks, kept_by, target_by}
use Rattle.access_regs.specs.Journal.{Issue, Step, actions_of, entries_at, finish, finish_of, issue_of, issued_entries, issued_from, kept_from, numbered_entries, steps_at, steps_of}
use Rattle.access_regs.specs.Kept.{Kept, nothing_kept}
use Rattle.access_regs.specs.Plan.{settle, kept_after_settling, settled_at, settling}
use Rattle.target_calls.specs.Asks.{AreAskable, IsAskable, is_forgiving, settled_last}
use Rattle.target_calls.specs.Journal.{Entry, actions_in}
use Rattle.target_calls.specs.Weights.{AreWeighty}
use Rattle.target_calls.specs.declared.calls.Ask.{Ask}
use Rattle.target_calls.specs.declared.journal.Part.TheVariants.{Ends, Settles}
use Rattle.target_machine.proofs.ActionLists.{pass_after}
use Rattle.target_machine.specs.Lists.{after}
use Rattle.target_machine.specs.State.{TargetState}
use Rattle.target_machine.specs.Plain.{action_attempt, given_number, result_of, Answered, CallEnd, CallDone, Skipped, Faulted, Small}
use Rattle.target_machine.specs.declared.access.RegAccess.{RegAccess}
use Rattle.access_regs.specs.declared.planner.Planner.{Planner}
use Rattle.access_regs.proofs.Lists.{actions_numbered, numbered_append}

issued_after : (p : Planner) (t : TargetState) (xs ys : List Ask) → issued_entries p t (xs ++ ys) ≡ issued_entries p t xs ++ issued_from p (length xs) (kept_from p nothing_kept t xs) (after t (actions_in (issued_entries p t xs))) ys
issued_after p t xs ys =
    journal_joins p 0 nothing_kept t xs ys
    ∙ (let number : 0 + length xs ≡ length xs = omega arith in ap (λ (i : ℕ). issued_entries p t xs ++ issued_from p i (kept_from p nothing_kept t xs) (after t (actions_in (issued_entries p t xs))) ys) number)

finish_none : (n : ℕ) (b : Bool) (k : Kept) → b ≡ false → (numbered_entries n false (finish b k).steps ≡ []) × ((finish b k).kept ≡ k)
finish_none n true k e = absurd (cc)
finish_none n false k e = (refl, refl)

pub journal_grows : JournalGrows
journal_grows p t asks ask unmarked =
    let k : Kept = kept_by p t asks in
    let u : TargetState = target_by p t asks in
    let c : Ask = ask in
    let own : List Entry = numbered_entries (length asks) (is_forgiving c) (issue_of p u k c).steps in
    let none = finish_none (length asks + 1) ask.settled (issue_of p u k c).kept unmarked in (
      issued_after p t asks (c ∷ [])
          ∙ ap (λ (l : List Entry). issued_entries p t asks ++ ((own ++ l) ++ [])) none.0
          ∙ ap (λ (l : List Entry). issued_entries p t asks ++ l) (append-nil (own ++ []) ∙ append-nil own),
      kept_joins p 0 nothing_kept t asks (c ∷ []) ∙ none.1,
    )

-- ---- a mark

pub settle_none : (k : Kept) → k.unsettled ≡ None → (settle k ≡ []) × (kept_after_settling k ≡ k)
settle_none k calm = (ap (settling k) calm, ap (settled_at k) calm)

-- one call that is marked, against the same one as it was
one_marks : (n : ℕ) (own : List Entry) (k : Kept) (b : Bool) →
    ((own ++ numbered_entries n false (finish true k).steps) ++ [] ≡ ((own ++ numbered_entries n false (finish b k).steps) ++ []) ++ numbered_entries n false (steps_of Settles (settle (finish b k).kept)))
    × ((finish true k).kept ≡ kept_after_settling (finish b k).kept)
one_marks n own k false = (append-nil (own ++ numbered_entries n false (steps_of Settles (settle k))) ∙ ap (λ (l : List Entry). l ++ numbered_entries n false (steps_of Settles (settle k))) (sym (append-nil own) ∙ sym (append-nil (own ++ []))), refl)
one_marks n own k true =
    let calm = settle_none (kept_after_settling k) (settled_calm k) in
    (sym (append-nil ((own ++ numbered_entries n false (steps_of Settles (settle k))) ++ [])) ∙ ap (λ (l : List RegAccess). ((own ++ numbered_entries n false (steps_of Settles (settle k))) ++ []) ++ numbered_entries n false (steps_of Settles l)) (sym calm.0), sym calm.1)

list_marks : (p : Planner) (n : ℕ) (k : Kept) (t : TargetState) (ask : Ask) (asks : List Ask) →
    (issued_from p n k t ((settled_last (ask ∷ asks))) ≡ issued_from p n k t ((ask ∷ asks)) ++ numbered_entries (n + length (ask ∷ asks)) false (steps_of Settles (settle (kept_from p k t ((ask ∷ asks))))))
    × (kept_from p k t ((settled_last (ask ∷ asks))) ≡ kept_after_settling (kept_from p k t ((ask ∷ asks))))
list_marks p n k t ask [] =
    let own : List Entry = numbered_entries n (is_forgiving ask) (issue_of p t k ask).steps in
    let m = one_marks (n + 1) own (issue_of p t k ask).kept ask.settled in
    (m.0, m.1)
list_marks p n k t ask (next ∷ asks) =
    let v : TargetState = after t (actions_of (steps_at p t k ask)) in
    let rest = list_marks p (n + 1) (finish_of p t k ask).kept v next asks in
    let number : (n + 1) + length (next ∷ asks) ≡ n + length (ask ∷ next ∷ asks) = omega arith in
    let tail : List Entry = issued_from p (n + 1) (finish_of p t k ask).kept v ((next ∷ asks)) in (
      ap (λ (l : List Entry). entries_at p n t k ask ++ l) rest.0
          ∙ sym (append_assoc (entries_at p n t k ask) tail (numbered_entries ((n + 1) + length (next ∷ asks)) false (steps_of Settles (settle (kept_from p (finish_of p t k ask).kept v ((next ∷ asks)))))))
          ∙ ap (λ (i : ℕ). (entries_at p n t k ask ++ tail) ++ numbered_entries i false (steps_of Settles (settle (kept_from p (finish_of p t k ask).kept v ((next ∷ asks)))))) number,
      rest.1,
    )

pub journal_marks : JournalMarks
journal_marks p t [] = (refl, refl)
journal_marks p t (ask ∷ asks) =
    let m = list_marks p 0 nothing_kept t ask asks in
    let number : 0 + length (ask ∷ asks) ≡ length (ask ∷ asks) = omega arith in
    (m.0 ∙ ap (λ (i : ℕ). issued_entries p t ((ask ∷ asks)) ++ numbered_entries i false (steps_of Settles (settle (kept_by p t (ask ∷ asks))))) number, m.1)

pub weighty_both : (xs ys : List Entry) → AreWeighty xs → AreWeighty ys → AreWeighty (xs ++ ys)
weighty_both [] ys h k = k
weighty_both (x ∷ xs) ys h k = (h.0, weighty_both xs ys h.1 k)

-- ---- answers

is_answered : (i : Issue) (d : CallDone) (c : Ask) (u : TargetState) (v : ℕ) → Course i d c.call u → d.end ≡ Answered v → IsAnswered i d c.call u
is_answered i d c u v (answered a) e = a
is_answered i d c u v (stopped a) e = let x : ◌≡◌ {A = CallEnd} Faulted (Answered v) = sym a.end ∙ e in absurd (cc)
is_answered i d c u v (small a) e = let x : ◌≡◌ {A = CallEnd} Small (Answered v) = sym a.end ∙ e in absurd (cc)
is_answered i d c u v (skipped a) e = let x : ◌≡◌ {A = CallEnd} Skipped (Answered v) = sym a.end ∙ e in absurd (cc)

pub askable_first : (xs ys : List Ask) → AreAskable (xs ++ ys) → AreAskable xs
askable_first [] ys h = tt
askable_first (x ∷ xs) ys h = (h.0, askable_first xs ys h.1)

pub askable_here : (xs : List Ask) (ask : Ask) (ys : List Ask) → AreAskable ((xs ++ ask ∷ ys)) → IsAskable ask
askable_here [] ask ys h = h.0
askable_here (x ∷ xs) ask ys h = askable_here xs ask ys h.1

pub call_answers : CallAnswers
call_answers p t asks ask more v fresh ok none end =
    let k : Kept = kept_by p t asks in
    let u : TargetState = target_by p t asks in
    let c : Ask = ask in
    let d : CallDone = call_alone (alone_after t [] asks) (large_of_all t [] asks) c in
    let course : Course (issue_of p u k c) d c.call u = call_course p k (large_of_all t [] asks) (alone_after t [] asks) u (journal_follows p t asks fresh (askable_first asks (ask ∷ more) ok) none) c (askable_here asks ask more ok) in
    let a : IsAnswered (issue_of p u k c) d c.call u = is_answered (issue_of p u k c) d c u v course end in
    let last : Step = record { part = Ends; action = a.action } in
    let n : ℕ = length asks in
    let leads : List Entry = numbered_entries n (is_forgiving c) a.leads in
    let own : numbered_entries n (is_forgiving c) (issue_of p u k c).steps ≡ leads ++ numbered_entries n (is_forgiving c) (last ∷ []) = ap (numbered_entries n (is_forgiving c)) a.steps ∙ numbered_append n (is_forgiving c) a.leads (last ∷ []) in
    let fin : List Entry = numbered_entries (n + 1) false (finish_of p u k c).steps in
    let rest : List Entry = issued_from p (n + 1) (finish_of p u k c).kept (after u (actions_of (steps_at p u k c))) more in
    let before : List Entry = issued_entries p t asks in
    let whole : issued_entries p t ((asks ++ ask ∷ more)) ≡ before ++ ((numbered_entries n (is_forgiving c) (issue_of p u k c).steps ++ fin) ++ rest) = issued_after p t asks (c ∷ more) in
    let value : ◌≡◌ {A = CallEnd} (Answered (result_of c.call (given_number (action_attempt a.at a.action).outcome))) (Answered v) = sym a.end ∙ end in
    let same : result_of c.call (given_number (action_attempt a.at a.action).outcome) ≡ v = cc in
    let steps : length (issue_of p u k c).steps ≡ length a.leads + 1 = ap length a.steps ∙ length-append a.leads (last ∷ []) in
    record {
      front = before ++ leads;
      entry = record { unit = n + 1; part = Ends; forgiving = is_forgiving c && not false; action = a.action };
      more = fin ++ rest;
      is =
          whole
          ∙ ap (λ (l : List Entry). before ++ ((l ++ fin) ++ rest)) own
          ∙ ap (λ (l : List Entry). before ++ l) (append_assoc (leads ++ numbered_entries n (is_forgiving c) (last ∷ [])) fin rest ∙ append_assoc leads (numbered_entries n (is_forgiving c) (last ∷ [])) (fin ++ rest))
          ∙ sym (append_assoc before leads (numbered_entries n (is_forgiving c) (last ∷ []) ++ (fin ++ rest)));
      at = (let x = length-append before leads in let y = numbered_length n (is_forgiving c) a.leads in omega (arith, x, y, steps));
      gives_it =
          ap (λ (s : TargetState). result_of c.call (given_number (action_attempt s a.action).outcome))
          (after_split t before leads ∙ ap (after u) (actions_numbered n (is_forgiving c) a.leads) ∙ pass_after u a.at (actions_of a.leads) a.pass)
          ∙ same;
    }
  where
    numbered_length : (n : ℕ) (b : Bool) (steps : List Step) → length (numbered_entries n b steps) ≡ length steps
    numbered_length n b [] = refl
    numbered_length n b (s ∷ steps) = ap suc (numbered_length n b steps)
