-- What each step of a check answers.
use Rattle.std.proofs.Common.{◌≡◌, ℕ, List, Result, Ok, Err, ap, subst, refl}
use Rattle.std.specs.Prelude.{IfOk, IfErr, IsErrAnd}
use Rattle.sequence_resolve.specs.declared.selection.Selection.{Selection}
use Rattle.sequence_resolve.specs.declared.entry.SeqSet.{SeqSet}
use Rattle.sequence_resolve.specs.Resolving.{IsEffectiveSet}
use Rattle.seq_check.specs.Valid.{IsValid}
use Rattle.seq_check.specs.Answers.{checked_trees}
use Rattle.job_text.specs.declared.job.Job.{Job}
use Rattle.job_text.specs.Answers.{Describes}
use Rattle.job_check.specs.declared.answer.ValidSet.{ValidSet}
use Rattle.job_check.specs.declared.answer.CheckRefusal.{CheckRefusal}
use Rattle.job_check.specs.declared.answer.CheckRefusal.TheVariants as ends
use Rattle.dbgconf_text.specs.declared.conf.ConfItem.{ConfItem}
use Rattle.job_check.specs.Values.{HasConf, NoConf, HasStartingValues, NoValues}
use Rattle.job_check.specs.Answers.{OnAnswer, OnRefusal, NoJob, NoSet, NoValid, AreTreesOf, valid, not_valid, with_values, without_values, resolved, not_resolved, IsAnswerOf, has_conf, no_conf, IsCheckAnswer, described, not_described}

abbrev Ended : Type 0
Ended = Result ValidSet CheckRefusal

-- the bytes are no job
pub without_job : (bytes : List ℕ) (s : Selection) (e : CheckRefusal) (r : Ended) → OnRefusal (NoJob bytes) e → IsErrAnd r (λ f. f ≡ e) → OnAnswer (IsCheckAnswer bytes s) r
without_job bytes s e (Ok found) h given = absurd given
without_job bytes s (ends.Refused r) (Err f) h given = rw given (not_described r h refl)
without_job bytes s ends.OutOfMemory (Err f) h given = rw given tt

-- the job has an answer
pub with_job : (bytes : List ℕ) (s : Selection) (job : Job) (r : Ended) → Describes bytes job → OnAnswer (IsAnswerOf job s) r → OnAnswer (IsCheckAnswer bytes s) r
with_job bytes s job (Ok found) is answer = described job is answer
with_job bytes s job (Err (ends.Refused r)) is answer = described job is answer
with_job bytes s job (Err ends.OutOfMemory) is answer = tt

module _ (job : Job) (s : Selection) where
  -- the values can not be read
  pub without_conf : (e : CheckRefusal) (r : Ended) → OnRefusal (NoConf job.dbgconf) e → IsErrAnd r (λ f. f ≡ e) → OnAnswer (IsAnswerOf job s) r
  without_conf e (Ok found) h given = absurd given
  without_conf (ends.Refused r) (Err f) h given = rw given (no_conf r h refl)
  without_conf ends.OutOfMemory (Err f) h given = rw given tt

  module _ (items : List ConfItem) (has : HasConf job.dbgconf items) where
    -- the pack has no set for the selection
    pub without_set : (e : CheckRefusal) (r : Ended) → OnRefusal (NoSet job.pack s) e → IsErrAnd r (λ f. f ≡ e) → OnAnswer (IsAnswerOf job s) r
    without_set e (Ok found) h given = absurd given
    without_set (ends.Refused r) (Err f) h given = rw given (has_conf items has (not_resolved r h refl))
    without_set ends.OutOfMemory (Err f) h given = rw given tt

    module _ (plain : SeqSet) (at : IsEffectiveSet job.pack s.device s.variant s.pname plain) where
      -- the values can not be put in
      pub unreplaced : (e : CheckRefusal) (r : Ended) → OnRefusal (NoValues job.dbgconf items plain) e → IsErrAnd r (λ f. f ≡ e) → OnAnswer (IsAnswerOf job s) r
      unreplaced e (Ok found) h given = absurd given
      unreplaced (ends.Refused r) (Err f) h given = rw given (has_conf items has (resolved plain at (without_values r h refl)))
      unreplaced ends.OutOfMemory (Err f) h given = rw given tt

      -- the set was checked
      pub with_set : (set : SeqSet) (r : Ended) → HasStartingValues job.dbgconf items plain set → IfOk r (λ v. v.set ≡ set) → IfOk r (λ v. AreTreesOf v.set v.trees) → IfErr r (OnRefusal (NoValid set)) → OnAnswer (IsAnswerOf job s) r
      with_set set (Ok v) is same trees none =
          let sound : IsValid v.set = record { trees = checked_trees v.trees; reads = trees.reads; sound = trees.sound } in
          has_conf items has (resolved plain at (with_values set is (valid (subst IsValid same sound) (ap Ok same))))
      with_set set (Err (ends.Refused r)) is same sound none = has_conf items has (resolved plain at (with_values set is (not_valid r none refl)))
      with_set set (Err ends.OutOfMemory) is same sound none = tt
