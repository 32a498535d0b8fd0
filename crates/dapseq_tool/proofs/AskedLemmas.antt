-- What the words and the bytes ask for, step by step.
use Rattle.std.proofs.Common.{◌≡◌, ℕ, Bool, true, false, List, Option, None, Some, Result, Ok, Err, length, nat_le, ◌<◌, ◌≤◌, ◌∙◌, ◌⊎◌, ap, inl, inr, sym, subst, refl, arith}
use Rattle.std.specs.Prelude.{⊤, IfErr, IfOk, IsErrOf, MatchBool, OnOk, ◌≢◌}
use Rattle.std.proofs.lemmas.Option.{same_Some}
use Rattle.dap_base.specs.Causes.{Rose}
use Rattle.text_lines.specs.Causes.{NamesFault}
use Rattle.command_words.specs.declared.answer.Command.{Command}
use Rattle.command_words.specs.declared.answer.Command.TheVariants as commands
use Rattle.command_words.specs.Table.{WordsAreCommand}
use Rattle.command_words.proofs.TableLemmas.{one_command}
use Rattle.sequence_resolve.specs.declared.selection.Selection.{Selection}
use Rattle.job_check.specs.Running.{IsRefusedRun, OnEnd}
use Rattle.job_check.specs.declared.running.RunRefusal.{RunRefusal}
use Rattle.job_check.specs.declared.running.RunRefusal.TheVariants as refusals
use Rattle.dapseq_tool.specs.Asked.{IsSoundAnswer, of_refused, OnRun, AsksForRequest, CommandAsksOfBytes, AsksOfCommand, AsksOfRun, IsReadLine, IsRunCommand, IsRunLine, IsNoCommand, ReadsSource, command, generated, own_for_purpose, usage}
use Rattle.job_source.specs.Source.{AreBytesOf, limit}
use Rattle.job_source.proofs.SourceLemmas.{some_bytes}
use Rattle.dapseq_tool.specs.Frame.{IsFit, RequestIsAsked}
use Rattle.dapseq_tool.proofs.FrameLemmas.{fit_answer, on_run_so, plain}
use Rattle.dapseq_tool.specs.Generated.{its_device, its_sequence, job_text}
use Rattle.dapseq_tool.specs.declared.asking.Answer.{Answer}
use Rattle.dapseq_tool.specs.declared.asking.Purpose.{Purpose}
use Rattle.dapseq_tool.specs.declared.asking.Purpose.TheVariants as purposes
use Rattle.dapseq_tool.specs.declared.asking.Run.{Run}
use Rattle.dapseq_tool.specs.declared.asking.Answer.TheVariants as answers
use Rattle.dapseq_tool.specs.declared.asking.Requested.{Requested}
use Rattle.tool_calls.specs.declared.unasked.Unasked.{Unasked}
use Rattle.tool_calls.specs.declared.unasked.Unasked.TheVariants as unasked
use Rattle.dapseq_tool.specs.declared.asking.What.{What}
use Rattle.dapseq_tool.specs.declared.asking.What.TheVariants as whats

-- words that are no command ask for the usage
pub usage_asked : (words : List (List ℕ)) (left : Option (List ℕ)) (asked : Requested) → IsNoCommand words → asked.number ≡ None → asked.what ≡ whats.Answer answers.Usage
    → (bytes : List ℕ) × AreBytesOf left bytes × AsksForRequest words bytes asked
usage_asked words left asked none number what = let some = some_bytes left in (some.0, some.1, usage none number what)

-- too many bytes ask for the refusal
pub long_asked : (left : Option (List ℕ)) (c : Command) → ((bytes : List ℕ) × AreBytesOf left bytes × (limit < length bytes))
    → (bytes : List ℕ) × AreBytesOf left bytes × AsksOfCommand c bytes (whats.Answer answers.TooLong)
long_asked left c long = (long.0, long.1, by_length (nat_le (length long.0) limit) refl)
  where
    by_length : (b : Bool) → nat_le (length long.0) limit ≡ b → MatchBool b (CommandAsksOfBytes c long.0 (whats.Answer answers.TooLong)) (whats.Answer answers.TooLong ≡ whats.Answer answers.TooLong)
    by_length true e = let past = long.2 in let no : ⊥ = grind arith in absurd no
    by_length false e = refl

-- what a command asks for, the words do
pub command_asked : (words : List (List ℕ)) (left : Option (List ℕ)) (c : Command) (asked : Requested) → WordsAreCommand words c → ReadsSource c → asked.number ≡ None
    → ((bytes : List ℕ) × AreBytesOf left bytes × AsksOfCommand c bytes asked.what) → (bytes : List ℕ) × AreBytesOf left bytes × AsksForRequest words bytes asked
command_asked words left c asked is reads number asks = (asks.0, asks.1, command c is reads number asks.2)

-- a number asks for its job
pub number_asked : (words : List (List ℕ)) (left : Option (List ℕ)) (n : ℕ) (asked : Requested) → WordsAreCommand words (commands.Gen n) → asked.number ≡ Some n
    → AsksOfRun its_device its_sequence purposes.Run (job_text n) asked.what → (bytes : List ℕ) × AreBytesOf left bytes × AsksForRequest words bytes asked
number_asked words left n asked is number asks = let some = some_bytes left in (some.0, some.1, generated n is number asks)

-- a command that reads no source is none of those that do
pub no_read : (words : List (List ℕ)) (n : ℕ) → WordsAreCommand words (commands.Gen n) → IsReadLine words → ⊥
no_read words n is line = subst ReadsSource (one_command words line.0 (commands.Gen n) line.1 is) line.2

pub none_taken : {E : Type 0} (words : List (List ℕ)) (c : Command) (n : ℕ) (P : Type 0) (r : Result Requested E) → WordsAreCommand words c → c ≡ commands.Gen n → OnOk r (IsReadLine words → P)
none_taken words c n P (Ok asked) is gen = λ line. absurd (no_read words n (subst (WordsAreCommand words) gen is) line)
none_taken words c n P (Err e) is gen = tt

-- ---- where no sequence runs

no_what : (what : What) → None ≡ Some what → ⊥
no_what what e = cc

pub refused_asked : {E : Type 0} (s : Selection) (sequence : List ℕ) (purpose : Purpose) (bytes : List ℕ) (end : RunRefusal) (r : Result What E)
    → OnEnd (IsRefusedRun bytes (own_for_purpose purpose) s sequence) end → IfOk r (λ what. of_refused end ≡ Some what) → IfOk r (AsksOfRun s sequence purpose bytes)
refused_asked s sequence purpose bytes end (Err e) h is = tt
refused_asked s sequence purpose bytes (refusals.Refused f) (Ok what) h is = subst (AsksOfRun s sequence purpose bytes) (same_Some (whats.Answer (answers.Refused f)) what is) h
refused_asked s sequence purpose bytes refusals.NoSequence (Ok what) h is = subst (AsksOfRun s sequence purpose bytes) (same_Some (whats.Answer answers.NoSequence) what is) h
refused_asked s sequence purpose bytes refusals.OutOfMemory (Ok what) h is = absurd (no_what what is)

-- it is in its ranges, and neither a run nor the usage
pub refused_fit : {E : Type 0} (end : RunRefusal) (r : Result What E) → IfOk r (λ what. of_refused end ≡ Some what) → IfOk r (IsFit ⊤)
unfolding IsSoundAnswer
refused_fit end (Err e) is = tt
refused_fit (refusals.Refused f) (Ok what) is = subst (IsFit ⊤) (same_Some (whats.Answer (answers.Refused f)) what is) (fit_answer ⊤ (answers.Refused f) tt (λ e. cc e))
refused_fit refusals.NoSequence (Ok what) is = subst (IsFit ⊤) (same_Some (whats.Answer answers.NoSequence) what is) (fit_answer ⊤ answers.NoSequence tt (λ e. cc e))
refused_fit refusals.OutOfMemory (Ok what) is = absurd (no_what what is)

-- ---- the bytes

-- what a command asks for of bytes
pub bytes_asked : {E : Type 0} (c one : Command) (bytes : List ℕ) (r : Result What E) → c ≡ one → IfOk r (CommandAsksOfBytes one bytes) → IfOk r (CommandAsksOfBytes c bytes)
bytes_asked c one bytes r is h = subst (λ (x : Command). IfOk r (CommandAsksOfBytes x bytes)) (sym is) h

pub bytes_fit : {E : Type 0} (c one : Command) (r : Result What E) → c ≡ one → IfOk r (IsFit (IsRunCommand one)) → IfOk r (IsFit (IsRunCommand c))
bytes_fit c one r is h = subst (λ (x : Command). IfOk r (IsFit (IsRunCommand x))) (sym is) h

-- ---- the words

module _ {E : Type 0} (words : List (List ℕ)) (left : Option (List ℕ)) (c : Command) (is : WordsAreCommand words c) where
  -- a number asks for its job
  pub with_number : (n : ℕ) (r : Result Requested E) → c ≡ commands.Gen n → IfOk r (λ asked. asked.number ≡ Some n)
      → IfOk r (λ asked. AsksOfRun its_device its_sequence purposes.Run (job_text n) asked.what) → IfOk r (λ asked. IsFit ⊤ asked.what) → IfOk r (RequestIsAsked words left)
  with_number n (Err e) gen number asks fit = tt
  with_number n (Ok asked) gen number asks fit = record {
    asks = number_asked words left n asked (subst (WordsAreCommand words) gen is) number asks;
    usage = λ h. absurd (fit.used h);
    usage_only = λ none. absurd (none c is);
    sound = fit.sound;
    run = on_run_so ⊤ (IsRunLine words) (λ so. (commands.Gen n, subst (WordsAreCommand words) gen is, so)) asked.what fit.run;
  }

  -- what the bytes of a source ask for
  pub with_source : (r : Result Requested E) → ReadsSource c → IfOk r (λ asked. asked.number ≡ None)
      → IfOk r (λ asked. (bytes : List ℕ) × AreBytesOf left bytes × AsksOfCommand c bytes asked.what) → IfOk r (λ asked. IsFit (IsRunCommand c) asked.what) → IfOk r (RequestIsAsked words left)
  with_source (Err e) reads number asks fit = tt
  with_source (Ok asked) reads number asks fit = record {
    asks = command_asked words left c asked is reads number asks;
    usage = λ h. absurd (fit.used h);
    usage_only = λ none. absurd (none c is);
    sound = fit.sound;
    run = on_run_so (IsRunCommand c) (IsRunLine words) (λ runs. (c, is, runs)) asked.what fit.run;
  }

-- words that are no command
pub with_usage : (words : List (List ℕ)) (left : Option (List ℕ)) → IsNoCommand words → RequestIsAsked words left (record { number = None; what = whats.Answer answers.Usage })
unfolding IsSoundAnswer
with_usage words left none = record {
  asks = usage_asked words left (record { number = None; what = whats.Answer answers.Usage }) none refl refl;
  usage = λ is. none;
  usage_only = λ is. refl;
  sound = plain answers.Usage tt;
  run = tt;
}

pub taken_by_line : {E : Type 0} (words : List (List ℕ)) (P : Type 0) (r : Result Requested E) → OnOk r P → OnOk r (IsReadLine words → P)
taken_by_line words P (Ok asked) h = λ line. h
taken_by_line words P (Err e) h = tt

-- where memory alone is refused the source did not fail
pub never_read : {T : Type 0} (r : Result T Unasked) → IfErr r (λ e. e ≡ unasked.OutOfMemory) → IsErrOf r unasked.ReadFault → ⊥
never_read (Ok x) h is = absurd (cc is)
never_read (Err e) h is = absurd (cc (h, is))

pub memory_only : {T : Type 0} (r : Result T Unasked) (n : ℕ) → IfErr r (λ e. e ≡ unasked.OutOfMemory) → NamesFault unasked.ReadFault n n r
memory_only (Ok x) n h = record { failed = λ is. absurd (never_read (Ok x) h is); else = refl }
memory_only (Err e) n h = record { failed = λ is. absurd (never_read (Err e) h is); else = inr refl }
