-- Runs of a probe, entry by entry.
use Rattle.std.proofs.Common.{◌≡◌, ℕ, suc, ◌+◌, Bool, true, false, List, [], ◌∷◌, ◌++◌, length, slice_get, Option, Some, None, Result, Ok, Err, refl, sym, ap, subst, ◌∙◌}
use Rattle.probe_core.specs.Log.{Entry}
use Rattle.probe_core.specs.Probe.{ProbeState, refusal_of}
use Rattle.probe_core.specs.Runs.{CanCome, IsRun, after_entry}
use Rattle.trace_audit.specs.declared.auditing.Audited.{Audited}
use Rattle.trace_audit.specs.declared.auditing.AuditFault.{AuditFault}
use Rattle.trace_audit.specs.declared.auditing.AuditFault.TheVariants as faults
use Rattle.trace_audit.specs.declared.auditing.Wrong.{Wrong}
use Rattle.trace_audit.specs.declared.auditing.Wrong.TheVariants as wrongs
use Rattle.trace_audit.specs.declared.entry.Entry as trace
use Rattle.std.proofs.Common.{◌<◌, ◌⊎◌, inl, inr, take, drop, get_or, arith}
use Rattle.std.specs.Str.{bytes_eq}
use Rattle.std.specs.Cmp.Lexicographic.{bytes_decides}
use Rattle.std.proofs.lemmas.Bool.{both_ways}
use Rattle.probe_core.specs.declared.probe.ProbeRefusal.{ProbeRefusal}
use Rattle.std.proofs.lemmas.List.{take_more, map_push, map-append, take-append-drop, drop_more, length-map, length-take-le}
use Rattle.std.proofs.lemmas.Option.{same_Some}
use Rattle.trace_audit.specs.Audits.{Accepts, Audits, Comes, IsFault, IsFirstWrong, IsWrong, IsWrongEntry, entry_of, entries_of, fault_at}
use Rattle.dap_base.proofs.Basics.{some_none}

-- a run with a further entry
pub run_push : (p q r : ProbeState) (es : List Entry) (e : Entry) → IsRun p es q → CanCome e.is_reply q e.bytes → r ≡ after_entry e.is_reply q e.bytes → IsRun p (es ++ e ∷ []) r
run_push p q r [] e run can is =
    (subst (λ (s : ProbeState). CanCome e.is_reply s e.bytes) (sym run) can, ap (λ (s : ProbeState). after_entry e.is_reply s e.bytes) run ∙ sym is)
run_push p q r (x ∷ es) e run can is = (run.0, run_push (after_entry x.is_reply p x.bytes) q r es e run.1 can is)

-- a run leads to one probe
pub one_end : (first p q : ProbeState) (es : List Entry) → IsRun first es p → IsRun first es q → p ≡ q
one_end first p q [] run other = sym run ∙ other
one_end first p q (e ∷ es) run other = one_end (after_entry e.is_reply first e.bytes) p q es run.1 other.1

nil_some : (xs : List (List ℕ)) (x : List ℕ) → xs ≡ [] → slice_get xs 0 ≡ Some x → ⊥
nil_some [] x e at = absurd (some_none x (sym at))
nil_some (y ∷ xs) x e at = absurd cc

-- an entry that cannot come does not come
pub not_both : (is_reply : Bool) (p : ProbeState) (bytes : List ℕ) (wrong : Wrong) → CanCome is_reply p bytes → IsWrongEntry is_reply p bytes wrong → ⊥
not_both false p bytes (wrongs.Refused refusal) can is = some_none refusal (sym is ∙ can)
not_both false p bytes wrongs.NoReply can is = is
not_both false p bytes wrongs.OtherReply can is = is
not_both true p bytes (wrongs.Refused refusal) can is = is
not_both true p bytes wrongs.NoReply can is = nil_some p.waiting bytes is can
not_both true p bytes wrongs.OtherReply can is = is.2 (same_Some is.0 bytes (sym is.1 ∙ can))

-- an entry cannot come for one reason
one_wrong : (is_reply : Bool) (p : ProbeState) (bytes : List ℕ) (x y : Wrong) → IsWrongEntry is_reply p bytes x → IsWrongEntry is_reply p bytes y → x ≡ y
one_wrong false p bytes (wrongs.Refused x) (wrongs.Refused y) a b = ap wrongs.Refused (same_Some x y (sym a ∙ b))
one_wrong false p bytes (wrongs.Refused x) wrongs.NoReply a b = absurd b
one_wrong false p bytes (wrongs.Refused x) wrongs.OtherReply a b = absurd b
one_wrong false p bytes wrongs.NoReply y a b = absurd a
one_wrong false p bytes wrongs.OtherReply y a b = absurd a
one_wrong true p bytes (wrongs.Refused x) y a b = absurd a
one_wrong true p bytes wrongs.NoReply (wrongs.Refused y) a b = absurd b
one_wrong true p bytes wrongs.NoReply wrongs.NoReply a b = refl
one_wrong true p bytes wrongs.NoReply wrongs.OtherReply a b = absurd (nil_some p.waiting b.0 a b.1)
one_wrong true p bytes wrongs.OtherReply (wrongs.Refused y) a b = absurd b
one_wrong true p bytes wrongs.OtherReply wrongs.NoReply a b = absurd (nil_some p.waiting a.0 b a.1)
one_wrong true p bytes wrongs.OtherReply wrongs.OtherReply a b = refl

-- the entries before one that cannot come are no run with it
wrong_run : (first last p : ProbeState) (before later : List Entry) (e : Entry) (wrong : Wrong) → IsRun first before p → IsWrong p e wrong → IsRun first (before ++ e ∷ later) last → ⊥
wrong_run first last p [] later e wrong run is all = not_both e.is_reply first e.bytes wrong all.0 (subst (λ (s : ProbeState). IsWrong s e wrong) (sym run) is)
wrong_run first last p (x ∷ before) later e wrong run is all = wrong_run (after_entry x.is_reply first x.bytes) last p before later e wrong run.1 is all.1

pub no_run : (first last : ProbeState) (es : List Entry) (fault : AuditFault) → IsFirstWrong first es fault → IsRun first es last → ⊥
no_run first last es fault w run = wrong_run first last w.probe w.before w.later w.here w.wrong w.run w.is (subst (λ (l : List Entry). IsRun first l last) w.parts run)

-- two lists of entries before one that cannot come
record SameWrong (x y : ℕ) (v w : Wrong) : Type 0 where
  number : x ≡ y
  wrong : v ≡ w

cons_is : (x y : Entry) (xs ys : List Entry) → x ∷ xs ≡ y ∷ ys → (x ≡ y) × (xs ≡ ys)
cons_is x y xs ys e = (cc, cc)

same_wrong : (first p q : ProbeState) (a b c d : List Entry) (x y : Entry) (v w : Wrong) → a ++ x ∷ c ≡ b ++ y ∷ d → IsRun first a p → IsWrong p x v → IsRun first b q → IsWrong q y w → SameWrong (length a) (length b) v w
same_wrong first p q [] [] c d x y v w e ra ia rb ib =
    let same = cons_is x y c d e in
    let here : IsWrong first x v = subst (λ (s : ProbeState). IsWrong s x v) (sym ra) ia in
    let there : IsWrong first x w = subst (λ (z : Entry). IsWrong first z w) (sym same.0) (subst (λ (s : ProbeState). IsWrong s y w) (sym rb) ib) in
    record { number = refl; wrong = one_wrong x.is_reply first x.bytes v w here there }
same_wrong first p q [] (z ∷ b) c d x y v w e ra ia rb ib =
    let same = cons_is x z c (b ++ y ∷ d) e in
    let here : IsWrong first z v = subst (λ (z : Entry). IsWrong first z v) same.0 (subst (λ (s : ProbeState). IsWrong s x v) (sym ra) ia) in
    absurd (not_both z.is_reply first z.bytes v rb.0 here)
same_wrong first p q (z ∷ a) [] c d x y v w e ra ia rb ib =
    let same = cons_is z y (a ++ x ∷ c) d e in
    let here : IsWrong first z w = subst (λ (z : Entry). IsWrong first z w) (sym same.0) (subst (λ (s : ProbeState). IsWrong s y w) (sym rb) ib) in
    absurd (not_both z.is_reply first z.bytes w ra.0 here)
same_wrong first p q (z ∷ a) (k ∷ b) c d x y v w e ra ia rb ib =
    let same = cons_is z k (a ++ x ∷ c) (b ++ y ∷ d) e in
    let other : IsRun (after_entry z.is_reply first z.bytes) b q = subst (λ (z : Entry). IsRun (after_entry z.is_reply first z.bytes) b q) (sym same.0) rb.1 in
    let s = same_wrong (after_entry z.is_reply first z.bytes) p q a b c d x y v w same.1 ra.1 ia other ib in
    record { number = ap suc s.number; wrong = s.wrong }

pub one_fault : (first : ProbeState) (es : List Entry) (x y : AuditFault) → IsFirstWrong first es x → IsFirstWrong first es y → x ≡ y
one_fault first es x y a b =
    let s = same_wrong first a.probe b.probe a.before b.before a.later b.later a.here b.here a.wrong b.wrong (sym a.parts ∙ b.parts) a.run a.is b.run b.is in
    a.fault_is ∙ ap (λ (n : ℕ). fault_at n a.wrong) s.number ∙ ap (fault_at (length b.before)) s.wrong ∙ sym b.fault_is

-- what an audit answers of a run
pub accepts : (first last : ProbeState) (es : List Entry) (r : Result Audited AuditFault) → Audits first es r → IsRun first es last → Accepts last r
accepts first last es (Ok a) h run = one_end first a.probe last es h.run run
accepts first last es (Err faults.OutOfMemory) h run = tt
accepts first last es (Err (faults.Refused n r)) h run = no_run first last es (faults.Refused n r) h run
accepts first last es (Err (faults.NoReply n)) h run = no_run first last es (faults.NoReply n) h run
accepts first last es (Err (faults.WrongReply n)) h run = no_run first last es (faults.WrongReply n) h run

-- ---- the loop

pub entries_more : (es : List trace.Entry) (i : ℕ) (e : trace.Entry) → i < length es → e ≡ get_or es i e → entries_of (take (i + 1) es) ≡ entries_of (take i es) ++ entry_of e ∷ []
entries_more es i e lt is = ap entries_of (take_more es i e lt ∙ ap (λ (x : trace.Entry). take i es ++ x ∷ []) (sym is)) ∙ map_push entry_of (take i es) e

pub goes_on : (first p q : ProbeState) (es : List trace.Entry) (i : ℕ) (e : trace.Entry) → i < length es → e ≡ get_or es i e → IsRun first (entries_of (take i es)) p → Comes p (entry_of e) q → IsRun first (entries_of (take (i + 1) es)) q
goes_on first p q es i e lt is run comes =
    let further = run_push first p q (entries_of (take i es)) (entry_of e) run comes.can comes.next in
    subst (λ (l : List Entry). IsRun first l q) (sym (entries_more es i e lt is)) further

entries_split : (es : List trace.Entry) (i : ℕ) (e : trace.Entry) → i < length es → e ≡ get_or es i e → entries_of es ≡ entries_of (take i es) ++ entry_of e ∷ entries_of (drop (i + 1) es)
entries_split es i e lt is =
    let parts : es ≡ take i es ++ e ∷ drop (i + 1) es = sym (take-append-drop i es) ∙ ap (λ (l : List trace.Entry). take i es ++ l) (drop_more es i e lt ∙ ap (λ (x : trace.Entry). x ∷ drop (i + 1) es) (sym is)) in
    ap entries_of parts ∙ map-append entry_of (take i es) (e ∷ drop (i + 1) es)

is_fault : (first : ProbeState) (es : List Entry) (fault : AuditFault) → IsFirstWrong first es fault → IsFault first es fault
is_fault first es faults.OutOfMemory w = tt
is_fault first es (faults.Refused n r) w = w
is_fault first es (faults.NoReply n) w = w
is_fault first es (faults.WrongReply n) w = w

pub stops : (first p : ProbeState) (es : List trace.Entry) (i : ℕ) (e : trace.Entry) (wrong : Wrong) (fault : AuditFault) → i < length es → e ≡ get_or es i e → IsRun first (entries_of (take i es)) p → IsWrong p (entry_of e) wrong
    → fault ≡ fault_at i wrong → IsFault first (entries_of es) fault
stops first p es i e wrong fault lt is run w fault_is =
    let size : length (entries_of (take i es)) ≡ i = length-map (take i es) entry_of ∙ length-take-le i es (omega (arith, lt)) in
    is_fault first (entries_of es) fault (record {
      before = entries_of (take i es);
      here = entry_of e;
      later = entries_of (drop (i + 1) es);
      parts = entries_split es i e lt is;
      probe = p;
      run = run;
      wrong = wrong;
      is = w;
      fault_is = fault_is ∙ ap (λ (n : ℕ). fault_at n wrong) (sym size);
    })

-- ---- each trace is a run, or has a first entry that cannot come

-- an entry can come, or cannot for a reason
data Decided (is_reply : Bool) (p : ProbeState) (bytes : List ℕ) : Type 0 where
  can : CanCome is_reply p bytes → Decided is_reply p bytes
  cannot : (wrong : Wrong) → IsWrongEntry is_reply p bytes wrong → Decided is_reply p bytes

packet_by : (p : ProbeState) (bytes : List ℕ) (o : Option ProbeRefusal) → refusal_of p bytes ≡ o → Decided false p bytes
packet_by p bytes None e = can e
packet_by p bytes (Some refusal) e = cannot (wrongs.Refused refusal) e

reply_by : (p : ProbeState) (bytes oldest : List ℕ) (more : List (List ℕ)) (b : Bool) → p.waiting ≡ oldest ∷ more → bytes_eq oldest bytes ≡ b → Decided true p bytes
reply_by p bytes oldest more true e is =
    let first : slice_get p.waiting 0 ≡ Some oldest = ap (λ (l : List (List ℕ)). slice_get l 0) e in
    can (first ∙ ap (λ (l : List ℕ). Some l) ((bytes_decides oldest bytes).0 is))
reply_by p bytes oldest more false e is =
    let first : slice_get p.waiting 0 ≡ Some oldest = ap (λ (l : List (List ℕ)). slice_get l 0) e in
    cannot wrongs.OtherReply (oldest, first, λ same. both_ways (bytes_eq oldest bytes) is ((bytes_decides oldest bytes).1 same))

waiting_by : (p : ProbeState) (bytes : List ℕ) (l : List (List ℕ)) → p.waiting ≡ l → Decided true p bytes
waiting_by p bytes [] e = cannot wrongs.NoReply e
waiting_by p bytes (oldest ∷ more) e = reply_by p bytes oldest more (bytes_eq oldest bytes) e refl

decide : (is_reply : Bool) (p : ProbeState) (bytes : List ℕ) → Decided is_reply p bytes
decide false p bytes = packet_by p bytes (refusal_of p bytes) refl
decide true p bytes = waiting_by p bytes p.waiting refl

abbrev Judged : ProbeState → List Entry → Type 0
Judged first es = ((last : ProbeState) × IsRun first es last) ⊎ ((fault : AuditFault) × IsFirstWrong first es fault)

further : (first : ProbeState) (e : Entry) (es : List Entry) → CanCome e.is_reply first e.bytes → Judged (after_entry e.is_reply first e.bytes) es → Judged first (e ∷ es)
further first e es c (inl r) = inl (r.0, (c, r.1))
further first e es c (inr w) =
    let f = w.1 in
    inr (
      fault_at (length (e ∷ f.before)) f.wrong,
      record {
        before = e ∷ f.before;
        here = f.here;
        later = f.later;
        parts = ap (λ (l : List Entry). e ∷ l) f.parts;
        probe = f.probe;
        run = (c, f.run);
        wrong = f.wrong;
        is = f.is;
        fault_is = refl;
      },
    )

judge_by : (first : ProbeState) (e : Entry) (es : List Entry) → Decided e.is_reply first e.bytes → Judged (after_entry e.is_reply first e.bytes) es → Judged first (e ∷ es)
judge_by first e es (can c) rest = further first e es c rest
judge_by first e es (cannot wrong w) rest = inr (fault_at 0 wrong, record { before = []; here = e; later = es; parts = refl; probe = first; run = refl; wrong = wrong; is = w; fault_is = refl })

pub judge : (first : ProbeState) (es : List Entry) → ((last : ProbeState) × IsRun first es last) ⊎ ((fault : AuditFault) × IsFirstWrong first es fault)
judge first [] = inl (first, refl)
judge first (e ∷ es) = judge_by first e es (decide e.is_reply first e.bytes) (judge (after_entry e.is_reply first e.bytes) es)
