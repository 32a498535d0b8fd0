-- What is asked for, by how the source was read.
use Rattle.std.proofs.Common.{◌≡◌, ◌⊎◌, inl, inr, ℕ, ◌<◌, ◌≤◌, List, length, Option, None, Some, Result, Ok, Err, refl, subst}
use Rattle.std.specs.Prelude.{IfOk}
use Rattle.dap_base.specs.declared.text.OutOfMemory.{OutOfMemory}
use Rattle.device_tree.specs.declared.pack.Pack.{Pack}
use Rattle.pack_faults.specs.declared.request.PackRefusal.{PackRefusal}
use Rattle.pack_faults.specs.declared.request.PackRefusal.TheVariants as packs
use Rattle.pack_faults.specs.Sets.{refusal}
use Rattle.faults_words.specs.declared.answer.FaultsCommand.{FaultsCommand}
use Rattle.faults_words.specs.Asks as words
use Rattle.faults_tool.specs.Asked.{AsksForFaults, AsksOfPack, AsksOfPackBytes, IsFaultsUsage, answer_of_pack_refusal, job, no_set, request_of_words, too_long, usage}
use Rattle.job_source.specs.Source.{AreBytesOf, limit}
use Rattle.job_source.proofs.SourceLemmas.{some_bytes}
use Rattle.faults_tool.specs.declared.asking.FaultsAnswer.{FaultsAnswer}
use Rattle.faults_tool.specs.declared.asking.FaultsAnswer.TheVariants as answers

-- the words ask for nothing
pub with_usage : (given : List (List ℕ)) (left : Option (List ℕ)) → IsFaultsUsage given → (bytes : List ℕ) × AreBytesOf left bytes × AsksForFaults given bytes answers.Usage
with_usage given left is = (let some = some_bytes left in (some.0, some.1, usage is refl))

-- there are too many bytes
pub with_too_long : (given : List (List ℕ)) (left : Option (List ℕ)) (a : FaultsCommand) → words.WordsAskForFaults given a
    → (bytes : List ℕ) × AreBytesOf left bytes × (limit < length bytes) → (bytes : List ℕ) × AreBytesOf left bytes × AsksForFaults given bytes answers.TooLong
with_too_long given left a asks long = (long.0, long.1, too_long (a, asks) long.2 refl)

-- the bytes ask for an answer
pub with_bytes : (given : List (List ℕ)) (left : Option (List ℕ)) (a : FaultsCommand) (bytes : List ℕ) (answer : FaultsAnswer) → words.WordsAskForFaults given a → AreBytesOf left bytes
    → length bytes ≤ limit → AsksOfPackBytes bytes a answer → (bytes : List ℕ) × AreBytesOf left bytes × AsksForFaults given bytes answer
with_bytes given left a bytes answer asks are short of = (bytes, are, job a asks short of)

-- ---- a pack

-- there is a set
pub none_by : (o : Option PackRefusal) → ((e : PackRefusal) → o ≡ Some e → ⊥) → o ≡ None
none_by None no_refusal = refl
none_by (Some e) no_refusal = absurd (no_refusal e refl)

-- why there is none
pub refused_asks : (p : Pack) (a : FaultsCommand) (e : PackRefusal) (r : Result FaultsAnswer OutOfMemory) → (e ≡ packs.OutOfMemory) ⊎ (refusal p (request_of_words a) ≡ Some e)
    → IfOk r (λ answer. answer_of_pack_refusal e ≡ Some answer) → IfOk r (AsksOfPack p a)
refused_asks p a e (Ok answer) (inl is) of = (let none : answer_of_pack_refusal packs.OutOfMemory ≡ Some answer = subst (λ (q : PackRefusal). answer_of_pack_refusal q ≡ Some answer) is of in absurd cc)
refused_asks p a e (Ok answer) (inr is) of = no_set e is of
refused_asks p a e (Err end) is of = tt
