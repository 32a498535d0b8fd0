-- Words and bytes ask for one thing at most.
use Rattle.std.proofs.Common.{◌≡◌, ◌∙◌, ℕ, Bool, true, false, List, Option, None, Some, Result, Ok, Err, length, nat_le, sym, ap, subst, refl}
use Rattle.std.specs.Prelude.{MatchBool}
use Rattle.std.proofs.lemmas.Option.{same_Some}
use Rattle.command_words.specs.declared.answer.Command.{Command}
use Rattle.command_words.specs.declared.answer.Command.TheVariants as commands
use Rattle.command_words.specs.Table.{WordsAreCommand}
use Rattle.command_words.proofs.TableLemmas.{one_command}
use Rattle.sequence_resolve.specs.declared.selection.Selection.{Selection}
use Rattle.job_check.specs.Running.{IsRefusedRun, IsSameRun, IsValidRun}
use Rattle.job_check.specs.declared.running.RunRefusal.{RunRefusal}
use Rattle.job_check.specs.declared.running.RunRefusal.TheVariants as refusals
use Rattle.job_check.specs.declared.running.ValidRun.{ValidRun}
use Rattle.job_check.proofs.OneAnswer as check
use Rattle.job_check.proofs.OneRun as one
use Rattle.dapseq_tool.proofs.AuditLemmas.{one_audit}
use Rattle.dapseq_tool.specs.Asked.{AsksForRequest, CommandAsksOfBytes, AsksOfCheck, AsksOfCommand, AsksOfRun, IsNoRunOf, IsRunOf, IsSameAsked, IsSameWhat, own_for_purpose, IsNoCommand, ReadsSource, command, generated, of_check, of_refused, usage}
use Rattle.job_source.specs.Source.{limit}
use Rattle.dapseq_tool.specs.Generated.{its_device, its_sequence, job_text}
use Rattle.dapseq_tool.specs.declared.asking.Answer.{Answer}
use Rattle.dapseq_tool.specs.declared.asking.Answer.TheVariants as answers
use Rattle.dapseq_tool.specs.declared.asking.Purpose.{Purpose}
use Rattle.dapseq_tool.specs.declared.asking.Purpose.TheVariants as purposes
use Rattle.dapseq_tool.specs.declared.asking.Requested.{Requested}
use Rattle.dapseq_tool.specs.declared.asking.Run.{Run}
use Rattle.dapseq_tool.specs.declared.asking.What.{What}
use Rattle.dapseq_tool.specs.declared.asking.What.TheVariants as whats
use Rattle.dapseq_tool.proofs.FrameLemmas.{inner}

-- ---- the same

itself : (x : What) → IsSameWhat x x
itself (whats.Answer a) = refl
itself (whats.Run a) = record { valid = record { job = refl; image = refl; set = refl; trees = refl }; name = refl; mode = refl }

same_by : (x y : What) → x ≡ y → IsSameWhat x y
same_by x y is = subst (IsSameWhat x) is (itself x)

-- ---- a run

-- the reason of an answer
reason : (s : Selection) (sequence : List ℕ) (purpose : Purpose) (bytes : List ℕ) (a : Answer) → IsNoRunOf s sequence purpose bytes a
    → (end : RunRefusal) × IsRefusedRun bytes (own_for_purpose purpose) s sequence end × (of_refused end ≡ Some (whats.Answer a))
reason s sequence purpose bytes answers.NoSequence h = (refusals.NoSequence, h, refl)
reason s sequence purpose bytes (answers.Refused r) h = (refusals.Refused r, h, refl)
reason s sequence purpose bytes other h = absurd h

one_no_run : (s : Selection) (sequence : List ℕ) (purpose : Purpose) (bytes : List ℕ) (a b : Answer) → IsNoRunOf s sequence purpose bytes a → IsNoRunOf s sequence purpose bytes b → a ≡ b
one_no_run s sequence purpose bytes a b p q =
    let x = reason s sequence purpose bytes a p in
    let y = reason s sequence purpose bytes b q in
    let same = one.one_refusal bytes (own_for_purpose purpose) s sequence x.0 y.0 x.1 y.1 in
    inner a b (same_Some (whats.Answer a) (whats.Answer b) (sym x.2 ∙ ap of_refused same ∙ y.2))

of_run : (s : Selection) (sequence : List ℕ) (purpose : Purpose) (bytes : List ℕ) (x y : What) → AsksOfRun s sequence purpose bytes x → AsksOfRun s sequence purpose bytes y → IsSameWhat x y
of_run s sequence purpose bytes (whats.Run a) (whats.Run b) p q = record {
  valid = one.one_run bytes (own_for_purpose purpose) s sequence a.valid b.valid p.valid q.valid;
  name = p.name ∙ sym q.name;
  mode = p.mode ∙ sym q.mode;
}
of_run s sequence purpose bytes (whats.Run a) (whats.Answer b) p q = let r = reason s sequence purpose bytes b q in one.run_or_refusal bytes (own_for_purpose purpose) s sequence a.valid r.0 p.valid r.1
of_run s sequence purpose bytes (whats.Answer a) (whats.Run b) p q = let r = reason s sequence purpose bytes a p in one.run_or_refusal bytes (own_for_purpose purpose) s sequence b.valid r.0 q.valid r.1
of_run s sequence purpose bytes (whats.Answer a) (whats.Answer b) p q = one_no_run s sequence purpose bytes a b p q

-- ---- the bytes

of_a_check : (s : Selection) (bytes : List ℕ) (x y : What) → AsksOfCheck s bytes x → AsksOfCheck s bytes y → x ≡ y
of_a_check s bytes x y p q = p.2 ∙ ap of_check (check.one_answer bytes s p.0 q.0 p.1 q.1) ∙ sym q.2

of_bytes : (c : Command) (bytes : List ℕ) (x y : What) → CommandAsksOfBytes c bytes x → CommandAsksOfBytes c bytes y → IsSameWhat x y
of_bytes (commands.Check s) bytes x y p q = same_by x y (of_a_check s bytes x y p q)
of_bytes (commands.Run s sequence) bytes x y p q = of_run s sequence purposes.Run bytes x y p q
of_bytes (commands.Trace s sequence) bytes x y p q = of_run s sequence purposes.Trace bytes x y p q
of_bytes (commands.Load s sequence) bytes x y p q = of_run s sequence purposes.Load bytes x y p q
of_bytes (commands.Scan s sequence ap') bytes x y p q = of_run s sequence (purposes.Scan ap') bytes x y p q
of_bytes (commands.Gen number) bytes x y p q = absurd p
of_bytes commands.Audit bytes x y p q = same_by x y (one_audit bytes x y p q)

of_command : (c : Command) (bytes : List ℕ) (x y : What) → AsksOfCommand c bytes x → AsksOfCommand c bytes y → IsSameWhat x y
of_command c bytes x y p q = by_length (nat_le (length bytes) limit) p q
  where
    by_length : (b : Bool) → MatchBool b (CommandAsksOfBytes c bytes x) (x ≡ whats.Answer answers.TooLong) → MatchBool b (CommandAsksOfBytes c bytes y) (y ≡ whats.Answer answers.TooLong) → IsSameWhat x y
    by_length true p q = of_bytes c bytes x y p q
    by_length false p q = same_by x y (p ∙ sym q)

-- ---- the words

of_commands : (words : List (List ℕ)) (bytes : List ℕ) (x y : What) (a b : Command) → WordsAreCommand words a → WordsAreCommand words b → AsksOfCommand a bytes x → AsksOfCommand b bytes y → IsSameWhat x y
of_commands words bytes x y a b is_a is_b p q = of_command a bytes x y p (subst (λ (c : Command). AsksOfCommand c bytes y) (one_command words b a is_b is_a) q)

not_generated : (words : List (List ℕ)) (c : Command) (n : ℕ) → WordsAreCommand words c → WordsAreCommand words (commands.Gen n) → ReadsSource c → ⊥
not_generated words c n is gen reads = subst ReadsSource (one_command words c (commands.Gen n) is gen) reads

same_number : (n m : ℕ) → commands.Gen n ≡ commands.Gen m → n ≡ m
same_number n m e = cc

of_numbers : (words : List (List ℕ)) (x y : What) (n m : ℕ) → WordsAreCommand words (commands.Gen n) → WordsAreCommand words (commands.Gen m) → AsksOfRun its_device its_sequence purposes.Run (job_text n) x
    → AsksOfRun its_device its_sequence purposes.Run (job_text m) y → IsSameWhat x y
of_numbers words x y n m is_n is_m p q =
    of_run its_device its_sequence purposes.Run (job_text n) x y p
    (subst (λ (k : ℕ). AsksOfRun its_device its_sequence purposes.Run (job_text k) y) (same_number m n (one_command words (commands.Gen m) (commands.Gen n) is_m is_n)) q)

pub one_what : (words : List (List ℕ)) (bytes : List ℕ) (x y : Requested) → AsksForRequest words bytes x → AsksForRequest words bytes y → IsSameWhat x.what y.what
one_what words bytes x y p q = elim p [
  | usage none number is ↦ elim q [
    | usage none_too number_too is_too ↦ same_by x.what y.what (is ∙ sym is_too)
    | command c is_c reads number_too of ↦ absurd (none c is_c)
    | generated n is_n number_too of ↦ absurd (none (commands.Gen n) is_n)
  ]
  | command a is_a reads number of ↦ elim q [
    | usage none number_too is ↦ absurd (none a is_a)
    | command b is_b reads_too number_too of_too ↦ of_commands words bytes x.what y.what a b is_a is_b of of_too
    | generated n is_n number_too of_too ↦ absurd (not_generated words a n is_a is_n reads)
  ]
  | generated n is_n number of ↦ elim q [
    | usage none number_too is ↦ absurd (none (commands.Gen n) is_n)
    | command b is_b reads number_too of_too ↦ absurd (not_generated words b n is_b is_n reads)
    | generated m is_m number_too of_too ↦ of_numbers words x.what y.what n m is_n is_m of of_too
  ]
]
