-- The words and the bytes of the source ask for something.
use Rattle.std.proofs.Common.{◌≡◌, ◌⊎◌, inl, inr, ℕ, ◌<◌, ◌≤◌, ◌^◌, nat_le, Bool, true, false, List, length, Option, Some, None, MatchBool, refl, arith}
use Rattle.std.proofs.lemmas.Bool.{leb-true}
use Rattle.command_words.specs.declared.answer.Command.{Command}
use Rattle.command_words.specs.declared.answer.Command.TheVariants as commands
use Rattle.command_words.specs.Table.{WordsAreCommand}
use Rattle.sequence_resolve.specs.declared.selection.Selection.{Selection}
use Rattle.job_check.specs.declared.running.RunRefusal.{RunRefusal}
use Rattle.job_check.specs.declared.running.RunRefusal.TheVariants as refusals
use Rattle.job_check.specs.Running.{IsRefusedRun}
use Rattle.job_check.proofs.RunningLemmas.{never_memory}
use Rattle.job_check.proofs.SomeAnswer.{some_answer}
use Rattle.job_check.proofs.SomeRun.{run_or_refusal}
use Rattle.dapseq_tool.specs.Generated.{its_device, its_sequence, job_text}
use Rattle.dapseq_tool.specs.declared.asking.Answer.TheVariants as answers
use Rattle.dapseq_tool.specs.declared.asking.Purpose.{Purpose}
use Rattle.dapseq_tool.specs.declared.asking.Purpose.TheVariants as purposes
use Rattle.dapseq_tool.specs.declared.asking.Requested.{Requested}
use Rattle.dapseq_tool.specs.declared.asking.What.{What}
use Rattle.dapseq_tool.specs.declared.asking.What.TheVariants as whats
use Rattle.dapseq_tool.specs.Asked.{own_for_purpose, ReadsSource, of_check, AsksOfRun, CommandAsksOfBytes, AsksOfCommand, AsksForRequest, usage, command, generated}
use Rattle.job_source.specs.Source.{limit}
use Rattle.dapseq_tool.proofs.AuditLemmas.{some_audit}
use Rattle.dapseq_tool.proofs.JobLength.{job_few}
use Rattle.command_words.proofs.SomeCommand.{command_or_none}

module _ (s : Selection) (sequence : List ℕ) (purpose : Purpose) (bytes : List ℕ) where
  -- the answer where no sequence runs
  no_run : (end : RunRefusal) → IsRefusedRun bytes (own_for_purpose purpose) s sequence end → (what : What) × AsksOfRun s sequence purpose bytes what
  no_run (refusals.Refused r) is = (whats.Answer (answers.Refused r), is)
  no_run refusals.NoSequence is = (whats.Answer answers.NoSequence, is)
  no_run refusals.OutOfMemory is = absurd (never_memory bytes (own_for_purpose purpose) s sequence refusals.OutOfMemory is refl)

  of_run : length bytes < 2 ^ 63 → (what : What) × AsksOfRun s sequence purpose bytes what
  of_run few = elim (run_or_refusal bytes (own_for_purpose purpose) s sequence few) [
    | inl run ↦ (whats.Run (record { valid = run.0; sequence = sequence; purpose = purpose }), record { name = refl; mode = refl; valid = run.1 })
    | inr none ↦ no_run none.0 none.1
  ]

-- what a command that reads the source asks for, where there are not too many bytes
of_bytes : (c : Command) → ReadsSource c → (bytes : List ℕ) → length bytes ≤ limit → (what : What) × CommandAsksOfBytes c bytes what
of_bytes (commands.Check s) reads bytes few = let answer = some_answer bytes s in (of_check answer.0, (answer.0, answer.1, refl))
of_bytes (commands.Run s sequence) reads bytes few = of_run s sequence purposes.Run bytes (omega (arith, few))
of_bytes (commands.Trace s sequence) reads bytes few = of_run s sequence purposes.Trace bytes (omega (arith, few))
of_bytes (commands.Load s sequence) reads bytes few = of_run s sequence purposes.Load bytes (omega (arith, few))
of_bytes (commands.Scan s sequence ap') reads bytes few = of_run s sequence (purposes.Scan ap') bytes (omega (arith, few))
of_bytes (commands.Gen n) reads bytes few = absurd reads
of_bytes commands.Audit reads bytes few = some_audit bytes

by_length : (c : Command) → ReadsSource c → (bytes : List ℕ) (b : Bool) → nat_le (length bytes) limit ≡ b → (what : What) × MatchBool b (CommandAsksOfBytes c bytes what) (what ≡ whats.Answer answers.TooLong)
by_length c reads bytes true few = of_bytes c reads bytes (leb-true (length bytes) limit few)
by_length c reads bytes false many = (whats.Answer answers.TooLong, refl)

of_command : (c : Command) → ReadsSource c → (bytes : List ℕ) → (what : What) × AsksOfCommand c bytes what
of_command c reads bytes = by_length c reads bytes (nat_le (length bytes) limit) refl

module _ (words : List (List ℕ)) (bytes : List ℕ) where
  read_line : (c : Command) → WordsAreCommand words c → ReadsSource c → (asked : Requested) × AsksForRequest words bytes asked
  read_line c is reads = let w = of_command c reads bytes in (record { number = None; what = w.0 }, command c is reads refl w.1)

  by_command : (c : Command) → WordsAreCommand words c → (asked : Requested) × AsksForRequest words bytes asked
  by_command (commands.Check s) is = read_line (commands.Check s) is tt
  by_command (commands.Run s sequence) is = read_line (commands.Run s sequence) is tt
  by_command (commands.Trace s sequence) is = read_line (commands.Trace s sequence) is tt
  by_command (commands.Load s sequence) is = read_line (commands.Load s sequence) is tt
  by_command (commands.Scan s sequence ap') is = read_line (commands.Scan s sequence ap') is tt
  by_command commands.Audit is = read_line commands.Audit is tt
  by_command (commands.Gen n) is =
      let w = of_run its_device its_sequence purposes.Run (job_text n) (job_few n is.found.row.2.bits) in
      (record { number = Some n; what = w.0 }, generated n is refl w.1)

  pub something_is_asked : (asked : Requested) × AsksForRequest words bytes asked
  something_is_asked = elim (command_or_none words) [
    | inl c ↦ by_command c.0 c.1
    | inr none ↦ (record { number = None; what = whats.Answer answers.Usage }, usage none refl refl)
  ]
