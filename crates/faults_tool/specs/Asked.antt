-- What the words and the bytes of a source ask for.
use Rattle.std.specs.Prelude.{◌≡◌, ℕ, ◌<◌, ◌≤◌, Bool, true, false, List, length, Option, Some, None}
use Rattle.device_tree.specs.declared.pack.Pack.{Pack}
use Rattle.job_check.specs.declared.answer.Refusal.{Refusal}
use Rattle.job_check.specs.declared.answer.Refusal.TheVariants as refusals
use Rattle.pack_faults.specs.declared.request.PackRequest.{PackRequest}
use Rattle.pack_faults.specs.declared.request.PackRefusal.{PackRefusal}
use Rattle.pack_faults.specs.declared.request.PackRefusal.TheVariants as packs
use Rattle.pack_faults.specs.declared.answer.PackFaults.{PackFaults}
use Rattle.pack_faults.specs.Sets.{refusal, sets_of}
use Rattle.pack_faults.specs.Answers.{ArePackFaults, AreValid}
use Rattle.pack_warnings.specs.declared.answer.PackWarning.{PackWarning}
use Rattle.pack_warnings.specs.Answers.{ArePackWarnings}
use Rattle.faults_words.specs.declared.answer.FaultsCommand.{FaultsCommand}
use Rattle.faults_words.specs.declared.format.Format.{Format}
use Rattle.faults_words.specs.Asks as words
use Rattle.job_source.specs.Source.{limit}
use Rattle.faults_tool.specs.declared.asking.FaultsAnswer.{FaultsAnswer}
use Rattle.faults_tool.specs.declared.asking.FaultsAnswer.TheVariants as answers
use Rattle.faults_tool.specs.Packs.{DescribesPack, NoPack}

-- ---- the words

-- the words ask for nothing
abbrev pub IsFaultsUsage : List (List ℕ) → Type 0
IsFaultsUsage given = (a : FaultsCommand) → words.WordsAskForFaults given a → ⊥

-- the words ask for something
abbrev pub IsFaultsLine : List (List ℕ) → Type 0
IsFaultsLine given = (a : FaultsCommand) × words.WordsAskForFaults given a

-- whose sets they name
abbrev pub request_of_words : FaultsCommand → PackRequest
request_of_words a = record { device = a.device; variant = a.variant; pname = a.pname }

-- ---- the bytes

-- the answer where there is no set, unless memory ran out
abbrev pub answer_of_pack_refusal : PackRefusal → Option FaultsAnswer
answer_of_pack_refusal packs.NoDevice = Some (answers.Refused refusals.NoDevice)
answer_of_pack_refusal packs.NoVariant = Some (answers.Refused refusals.NoVariant)
answer_of_pack_refusal packs.NoPname = Some answers.NoPname
answer_of_pack_refusal packs.OutOfMemory = None

-- the faults of the sets, in this format; with the warnings of the sets, where they are asked for
pub data IsList (pack : Pack) (r : PackRequest) (format : Format) (warnings : Bool) (faults : PackFaults) (answer : FaultsAnswer) : Type 0 where
  plain : warnings ≡ false → answer ≡ answers.Faults format faults → IsList pack r format warnings faults answer
  warned : (list : List PackWarning) → warnings ≡ true → ArePackWarnings pack r list → answer ≡ answers.Warned format faults list
      → IsList pack r format warnings faults answer

-- what is asked for of a pack: why there is no set, or all faults of the sets, in the format that is named, with their warnings or without
pub data AsksOfPack (pack : Pack) (a : FaultsCommand) (answer : FaultsAnswer) : Type 0 where
  no_set : (r : PackRefusal) → refusal pack (request_of_words a) ≡ Some r → answer_of_pack_refusal r ≡ Some answer → AsksOfPack pack a answer
  sets : (faults : PackFaults) → refusal pack (request_of_words a) ≡ None → ArePackFaults pack (request_of_words a) faults
      → IsList pack (request_of_words a) a.format a.warnings faults answer → AsksOfPack pack a answer

-- the same of bytes: why they describe no pack, or what is asked for of the pack
pub data AsksOfPackBytes (bytes : List ℕ) (a : FaultsCommand) (answer : FaultsAnswer) : Type 0 where
  no_pack : (r : Refusal) → NoPack bytes r → answer ≡ answers.Refused r → AsksOfPackBytes bytes a answer
  pack : (pack : Pack) → DescribesPack bytes pack → AsksOfPack pack a answer → AsksOfPackBytes bytes a answer

-- This is what the words and all the bytes of the source ask for.
pub data AsksForFaults (given : List (List ℕ)) (bytes : List ℕ) (answer : FaultsAnswer) : Type 0 where
  usage : IsFaultsUsage given → answer ≡ answers.Usage → AsksForFaults given bytes answer
  too_long : IsFaultsLine given → limit < length bytes → answer ≡ answers.TooLong → AsksForFaults given bytes answer
  job : (a : FaultsCommand) → words.WordsAskForFaults given a → length bytes ≤ limit → AsksOfPackBytes bytes a answer → AsksForFaults given bytes answer

-- ---- valid sets

-- the bytes describe a pack that has sets which the words name, and each of these is valid
pub record AreAllValid (given : List (List ℕ)) (bytes : List ℕ) : Type 0 where
  pub asked : FaultsCommand
  pub asks : words.WordsAskForFaults given asked
  pub short : length bytes ≤ limit
  pub pack : Pack
  pub describes : DescribesPack bytes pack
  pub some : refusal pack (request_of_words asked) ≡ None
  pub valid : AreValid pack (sets_of pack (request_of_words asked))
