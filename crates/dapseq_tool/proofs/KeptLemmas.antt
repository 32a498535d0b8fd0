-- What `trace` prints of a log is read as the entries of the log, and accepted.
use Rattle.std.proofs.Common.{◌≡◌, ◌∙◌, ℕ, zero, suc, ◌+◌, ◌/◌, ◌<◌, ◌≤◌, Bool, true, false, List, [], ◌∷◌, ◌++◌, length, drop, map, slice_index, codes, Option, Ok, inl, inr, refl, sym, ap, ap₂, subst, arith}
use Rattle.std.proofs.lemmas.Bool.{cases_lt}
use Rattle.std.proofs.lemmas.List.{get_or_past}
use Rattle.std.proofs.lemmas.List.Elements.{All-tail}
use Rattle.std.proofs.lemmas.List.Folds.{flat_map-map}
use Rattle.std.specs.List.{All, AllPass, flat_map}
use Rattle.hex.specs.Hex.{decode_of, encode_lower, encode_with, is_hex_digit, lower_digits}
use Rattle.hex.proofs.HexLemmas.{decode_of-encode_lower, decode_of-ok}
use Rattle.probe_core.specs.Bench.{BenchState}
use Rattle.probe_core.specs.Log.{Entry, Log}
use Rattle.probe_core.specs.Probe.{fresh_probe, target_of}
use Rattle.probe_core.specs.Runs.{IsRun}
use Rattle.probe_core.specs.declared.job.BenchJob.{BenchJob}
use Rattle.trace_audit.specs.Texts as texts
use Rattle.trace_audit.specs.Texts.{AreEntriesOf, IsEntry, IsEntryText, entry_mark}
use Rattle.trace_audit.proofs.TextLemmas.{one_list}
use Rattle.report_lines.specs.Trace.{kept_line, trace}
use Rattle.report_lines.specs.Audit.{audit_ok_line}
use Rattle.report_lines.specs.Report.{target_part}
use Rattle.report_lines.specs.Target.{target_lines}
use Rattle.job_text.specs.declared.job.Job.{Job}
use Rattle.job_text.specs.declared.job.WatchItem.{WatchItem}
use Rattle.job_text.specs.Answers.{Describes}
use Rattle.job_runs.specs.Runs.{AccessKind}
use Rattle.dapseq_tool.specs.Answers.{answer_text}
use Rattle.dapseq_tool.specs.Audit.{AsksOfAudit, HasEntries, accepted, described}
use Rattle.dapseq_tool.specs.Headline.{After, IsRunTo, RunEnd}
use Rattle.dapseq_tool.specs.Kept.{HasKept, entry_text, kept_audit, kept_texts}
use Rattle.dapseq_tool.specs.declared.asking.Answer.TheVariants as answers
use Rattle.dapseq_tool.specs.declared.asking.Run.{Run}
use Rattle.dapseq_tool.specs.declared.asking.What.TheVariants as whats
use Rattle.dapseq_tool.specs.declared.auditing.Audit.{Audit}
use Rattle.dapseq_tool.proofs.AuditLemmas.{texts_are}

-- ---- what is printed

pub printed : (log : Log) → trace log ≡ flat_map (λ text. text ++ codes "\n") (kept_texts log) ++ kept_line (length log.kept) log.count
printed log = ap (λ (lines : List ℕ). lines ++ kept_line (length log.kept) log.count) (sym (flat_map-map (λ (text : List ℕ). text ++ codes "\n") entry_text log.kept))

-- ---- one entry

-- the value of a place at which the table has a digit
in_table : (n : ℕ) → is_hex_digit (slice_index lower_digits n) ≡ true → n < 16
in_table n is = elim (cases_lt n 16) [
  | inl lt ↦ lt
  | inr past ↦
      let zero_there : slice_index lower_digits n ≡ 0 = get_or_past lower_digits n 0 past in
      let none : false ≡ true = ap is_hex_digit (sym zero_there) ∙ is in
      absurd cc
]

-- numbers that are written in digits are bytes
are_bytes : (bytes : List ℕ) → AllPass is_hex_digit (encode_with lower_digits bytes) → (i : ℕ) → slice_index bytes i < 256
unfolding encode_with
are_bytes [] all i = omega arith
are_bytes (b ∷ rest) all zero = (let high = in_table (b / 16) (all 0 0 (omega arith)) in omega (arith, high))
are_bytes (b ∷ rest) all (suc k) = are_bytes rest (λ k d lt. all (suc (suc k)) d (omega (arith, lt))) k

same_mark : (is_reply : Bool) → entry_mark is_reply ≡ texts.entry_mark is_reply
same_mark true = refl
same_mark false = refl

after_mark : (is_reply : Bool) (digits : List ℕ) → drop 2 (entry_mark is_reply ++ digits) ≡ digits
after_mark true digits = refl
after_mark false digits = refl

after_own_mark : (is_reply : Bool) (digits : List ℕ) → drop 2 (texts.entry_mark is_reply ++ digits) ≡ digits
after_own_mark true digits = refl
after_own_mark false digits = refl

digits_are : (e x : Entry) (h : IsEntryText (entry_text e) x) → h.digits ≡ encode_lower e.bytes
digits_are e x h = sym (after_own_mark x.is_reply h.digits) ∙ ap (drop 2) (sym h.parts) ∙ after_mark e.is_reply (encode_lower e.bytes)

-- what is printed of an entry is its text, where it is that of some entry
own_text : (e x : Entry) → IsEntryText (entry_text e) x → IsEntryText (entry_text e) e
own_text e x h =
    let same = digits_are e x h in
    let read : decode_of (encode_lower e.bytes) ≡ Ok x.bytes = subst (λ (digits : List ℕ). decode_of digits ≡ Ok x.bytes) same h.bytes in
    record {
      digits = encode_lower e.bytes;
      parts = ap (λ (mark : List ℕ). mark ++ encode_lower e.bytes) (same_mark e.is_reply);
      few = subst (λ (digits : List ℕ). length digits ≤ 2048) same h.few;
      bytes = decode_of-encode_lower e.bytes (are_bytes e.bytes (decode_of-ok (encode_lower e.bytes) x.bytes read).1);
    }

first_is : (x e : Entry) → x ∷ [] ≡ e ∷ [] → x ≡ e
first_is x e same = cc

pub printed_entry : (e x : Entry) → IsEntryText (entry_text e) x → x ≡ e
printed_entry e x h = first_is x e (one_list (entry_text e ∷ []) (x ∷ []) (e ∷ []) (h, tt) (own_text e x h, tt))

-- ---- all entries

own_texts : (es : List Entry) → All IsEntry (map entry_text es) → AreEntriesOf (map entry_text es) es
own_texts [] all = tt
own_texts (e ∷ es) all =
    let here = all 0 [] (omega arith) in
    (own_text e here.0 here.1, own_texts es (All-tail IsEntry (entry_text e) (map entry_text es) all))

pub accepted_trace : (access : AccessKind) (run : Run) (before : Option (List ℕ)) (r : RunEnd) (a : After) (n : BenchState) (job : Job) (bytes : List ℕ) → IsRunTo access run before r a n → n.log.whole ≡ true → HasKept run n.log job
    → Describes bytes job → AsksOfAudit bytes (whats.Answer (answers.Audited (kept_audit job n)))
accepted_trace access run before r a n job bytes to whole kept is =
    let audit : Audit = kept_audit job n in
    let are = own_texts n.log.kept (texts_are bytes job (kept_texts n.log) is kept.trace) in
    let entries : HasEntries job n.log.kept = record { texts = kept_texts n.log; trace = kept.trace; are = are } in
    let leads = subst (λ (j : BenchJob). IsRun (fresh_probe j) n.log.kept n.probe) (sym kept.bench) (to.log whole) in
    (answers.Audited audit, described job is (accepted audit (record { of = refl; es = n.log.kept; entries = entries; run = record { run = leads; packets = refl; replies = refl } }) refl), refl)

-- the lines of the target are those of the report
pub same_target : (run : Run) (n : BenchState) (job : Job) → HasKept run n.log job
    → answer_text (answers.Audited (kept_audit job n)) ≡ audit_ok_line (kept_audit job n).audited ++ target_part true run.valid.job (target_of n.probe)
unfolding answer_text
same_target run n job kept =
    ap₂ (λ (bench : BenchJob) (watch : List WatchItem). audit_ok_line (kept_audit job n).audited ++ target_lines (target_of n.probe) bench.target.aps watch) kept.bench kept.watch
