-- How what an access keeps goes on whose calls lie in a flight.
use Rattle.std.proofs.Common.{◌≡◌, ◌∙◌, ℕ, Bool, true, false, List, [], ◌∷◌, ◌++◌, length, None, refl, sym, ap, subst, arith, append-nil, append_assoc, length-append}
use Rattle.std.proofs.lemmas.List.{map-append}
use Rattle.target_calls.proofs.MarkLemmas.{settled_append}
use Rattle.access_regs.proofs.EntryLemmas.{journal_grows, weighty_both}
use Rattle.access_regs.proofs.Lists.{actions_in_append, actions_numbered}
use Rattle.access_regs.specs.Entries.{kept_by, target_by}
use Rattle.access_regs.specs.Journal.{Step, issue_of, issued_entries, making, numbered_entries}
use Rattle.access_regs.specs.Kept.{Kept}
use Rattle.target_calls.specs.Asks.{AreAskable, ForgiveNothing, IsAskable, is_forgiving, is_settled}
use Rattle.target_calls.specs.Journal.{Entry, actions_in}
use Rattle.target_calls.specs.Weights.{AreWeighty, IsWeighty}
use Rattle.target_calls.specs.declared.calls.Ask.{Ask}
use Rattle.flight_laws.proofs.FlightLemmas.{flight_length, head_makes, whole_flies}
use Rattle.flight_laws.proofs.OpenLemmas.{is_skipped}
use Rattle.flight_laws.specs.Flights.{AreStrict}
use Rattle.flight_laws.specs.GoesOn.{FlushGoes, PushGoes}
use Rattle.flight_laws.specs.UnderWay.{IsUnderWay}
use Rattle.probe_core.specs.Probe.{target_of}
use Rattle.target_machine.specs.Plain.{Makes}
use Rattle.target_machine.specs.State.{TargetState}
use Rattle.target_machine.specs.declared.access.RegAccess.{RegAccess}
use Rattle.target_calls.specs.declared.calls.Ask.{Ask}

pub flush_goes : FlushGoes
flush_goes p a b kept accesses came flushed m0 m o part f flies good h =
    let t0 : TargetState = target_of m0.probe in
    let whole = whole_flies (issued_entries p t0 a.asks.calls) f.made f.flying [] accesses m0 m o part f.on flies good in
    record {
      fresh = f.fresh;
      askable = subst (λ (l : List Ask). AreAskable l) (sym h.calls) f.askable;
      made = f.made ++ f.flying;
      flying = [];
      on = subst (λ (l : List Ask). IsUnderWay (issued_entries p t0 l) (f.made ++ f.flying) [] [] [] m0 o) (sym h.calls) whole;
      kept_is = ap (kept_by p t0) h.calls ∙ f.kept_is;
      confirmed = length-append f.made f.flying ∙ f.issued_is ∙ sym h.confirmed;
      issued_is = (let l = length-append f.made f.flying in let i = f.issued_is in let j = h.issued in omega (arith, l, i, j));
      strict = tt;
      front = a.asks.calls;
      back = [];
      calls = h.calls ∙ sym (append-nil a.asks.calls);
      part = [];
      made_is = sym (append-nil (f.made ++ f.flying)) ∙ append_assoc f.made f.flying [] ∙ sym f.on.are ∙ sym (append-nil (issued_entries p t0 a.asks.calls));
      came_is = h.came_all;
      came_are = h.came_are;
      skipped_is = h.skipped ∙ is_skipped p a kept accesses came None m0 m f tt;
      mild = tt;
      calm = λ _. (refl, refl);
    }

-- ---- a call more

mild_both : (xs : List Ask) (ask : Ask) → ForgiveNothing xs → is_forgiving ask ≡ false → ForgiveNothing (xs ++ ask ∷ [])
mild_both [] ask h k = (k, tt)
mild_both (x ∷ xs) ask h k = (h.0, mild_both xs ask h.1 k)

pub askable_both : (xs : List Ask) (ask : Ask) → AreAskable xs → IsAskable ask → AreAskable (xs ++ ask ∷ [])
askable_both [] ask h k = (k, tt)
askable_both (x ∷ xs) ask h k = (h.0, askable_both xs ask h.1 k)

strict_both : (xs ys : List Entry) → AreStrict xs → AreStrict ys → AreStrict (xs ++ ys)
strict_both [] ys h k = k
strict_both (x ∷ xs) ys h k = (h.0, strict_both xs ys h.1 k)

strict_numbered : (n : ℕ) (b : Bool) (steps : List Step) → b ≡ false → AreStrict (numbered_entries n b steps)
strict_numbered n true steps e = absurd (cc)
strict_numbered n false [] e = tt
strict_numbered n false (s ∷ steps) e = (refl, strict_numbered n false steps e)

-- register accesses weigh something
weighty_makes : (es : List Entry) (accesses : List RegAccess) → actions_in es ≡ making accesses → AreWeighty es
weighty_makes [] accesses e = tt
weighty_makes (x ∷ es) [] e = absurd (cc)
weighty_makes (x ∷ es) (a ∷ accesses) e =
    let h = head_makes x.action (Makes a) (actions_in es) (making accesses) e in
    (subst IsWeighty (sym h.0) tt, weighty_makes es accesses h.1)

pub push_goes : PushGoes
push_goes p a b ask kept learned accesses more came m0 m f h =
    let t0 : TargetState = target_of m0.probe in
    let calls : List Ask = a.asks.calls in
    let u : TargetState = target_by p t0 calls in
    let steps : List Step = (issue_of p u kept ask).steps in
    let own : List Entry = numbered_entries (length calls) (is_forgiving ask) steps in
    let acts : actions_in own ≡ making more = actions_numbered (length calls) (is_forgiving ask) steps ∙ h.accesses in
    let grows = journal_grows p t0 calls ask h.unmarked in
    let entries : issued_entries p t0 b.asks.calls ≡ issued_entries p t0 calls ++ own =
    ap (λ (l : List Ask). issued_entries p t0 l) h.calls ∙ grows.0
    ∙ ap (λ (k : Kept). issued_entries p t0 calls ++ numbered_entries (length calls) (is_forgiving ask) (issue_of p u k ask).steps) f.kept_is in
    let len : length own ≡ length more = flight_length own more acts in
    let on = f.on in
    record {
      fresh = f.fresh;
      askable = subst (λ (l : List Ask). AreAskable l) (sym h.calls) (askable_both calls ask f.askable h.askable);
      made = f.made;
      flying = f.flying ++ own;
      on = record {
        are = entries ∙ ap (λ (l : List Entry). l ++ own) on.are ∙ append_assoc f.made (f.flying ++ []) own ∙ ap (λ (l : List Entry). f.made ++ (l ++ own)) (append-nil f.flying) ∙ ap (λ (l : List Entry). f.made ++ l) (sym (append-nil (f.flying ++ own)));
        weighty = subst AreWeighty (sym entries) (weighty_both (issued_entries p t0 calls) own on.weighty (weighty_makes own more acts));
        flight = actions_in_append f.flying own ∙ (λ j. on.flight j ++ acts j) ∙ sym (map-append (λ (x : RegAccess). Makes x) accesses more);
        passes = on.passes;
        target = on.target;
        clear = on.clear;
        work = on.work;
        room = (let l = length-append f.flying own in let r = h.room in let i = f.issued_is in let c = f.confirmed in omega (arith, l, len, r, i, c));
        retries = on.retries;
        few = on.few;
        setting = on.setting;
        idle_cycles = on.idle_cycles;
        number = on.number;
      };
      kept_is = ap (kept_by p t0) h.calls ∙ grows.1 ∙ ap (λ (k : Kept). (issue_of p u k ask).kept) f.kept_is ∙ sym h.kept_is;
      confirmed = f.confirmed ∙ sym h.confirmed;
      issued_is = (let l = length-append f.flying own in let i = f.issued_is in let j = h.issued in omega (arith, l, len, i, j));
      strict = strict_both f.flying own f.strict (strict_numbered (length calls) (is_forgiving ask) steps h.mild);
      front = f.front;
      back = f.back ++ ask ∷ [];
      calls = h.calls ∙ ap (λ (l : List Ask). l ++ ask ∷ []) f.calls ∙ append_assoc f.front f.back (ask ∷ []);
      part = f.part;
      made_is = f.made_is;
      came_is = h.came ∙ f.came_is;
      came_are = f.came_are;
      skipped_is = h.skipped ∙ f.skipped_is;
      mild = mild_both f.back ask f.mild h.mild;
      calm = λ settled. absurd (let e : is_settled (calls ++ ask ∷ []) ≡ false = settled_append calls ask ∙ h.unmarked in let g : is_settled (calls ++ ask ∷ []) ≡ true = ap is_settled (sym h.calls) ∙ settled in let x : ◌≡◌ {A = Bool} true false = sym g ∙ e in cc);
    }
