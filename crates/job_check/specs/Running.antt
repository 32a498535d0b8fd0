-- Which sequence of a job runs, or why none does.
use Rattle.std.specs.Prelude.{◌≡◌, ℕ, Bool, true, false, List, Option, Ok, Err, ⊤}
use Rattle.std.specs.List.{list_any}
use Rattle.std.specs.Str.{bytes_eq}
use Rattle.sequence_resolve.specs.declared.entry.SeqEntry.{SeqEntry}
use Rattle.sequence_resolve.specs.declared.entry.SeqSet.{SeqSet}
use Rattle.sequence_resolve.specs.declared.selection.Selection.{Selection}
use Rattle.sequence_resolve.specs.Resolving.{IsEffectiveSet}
use Rattle.job_text.specs.declared.job.Job.{Job}
use Rattle.job_text.specs.Answers.{Describes}
use Rattle.seq_check.specs.Valid.{IsValid}
use Rattle.seq_check.specs.Answers.{checked_trees}
use Rattle.dbgconf_text.specs.declared.conf.ConfItem.{ConfItem}
use Rattle.job_check.specs.Values.{HasConf, NoConf, HasStartingValues, NoValues}
use Rattle.job_check.specs.Answers.{NoJob, NoSet, NoValid, AreTreesOf}
use Rattle.job_check.specs.Own.{own_of}
use Rattle.job_check.specs.declared.own.JobImage.{JobImage}
use Rattle.job_check.specs.declared.own.Own.{Own}
use Rattle.job_check.specs.declared.answer.Refusal.{Refusal}
use Rattle.job_check.specs.declared.answer.CheckRefusal.{CheckRefusal}
use Rattle.job_check.specs.declared.answer.CheckRefusal.TheVariants as checks
use Rattle.job_check.specs.declared.running.ValidRun.{ValidRun}
use Rattle.job_check.specs.declared.running.RunRefusal.{RunRefusal}
use Rattle.job_check.specs.declared.running.RunRefusal.TheVariants as ends

-- a sequence of the set has the name, disabled or not
abbrev pub has_sequence : SeqSet → List ℕ → Bool
has_sequence set name = list_any (λ (e : SeqEntry). bytes_eq e.name name) set.entries

-- ---- of a job

-- the values of the job, and the set of the selection as it is before they are put into it
pub record HasPlain (job : Job) (s : Selection) (items : List ConfItem) (plain : SeqSet) : Type 0 where
  pub values : HasConf job.dbgconf items
  pub resolved : IsEffectiveSet job.pack s.device s.variant s.pname plain

-- this set is that of the selection, with the values of the job
pub record IsSetOfJob (job : Job) (s : Selection) (set : SeqSet) : Type 0 where
  pub items : List ConfItem
  pub plain : SeqSet
  pub of : HasPlain job s items plain
  pub replaced : HasStartingValues job.dbgconf items plain set

-- The set is that of the selection, with the values of the job, and a sequence of it has the name. The trees are those of the set, in which
-- nothing is wrong.
pub record IsRunOfJob (s : Selection) (name : List ℕ) (r : ValidRun) : Type 0 where
  pub set : IsSetOfJob r.job s r.set
  pub named : has_sequence r.set name ≡ true
  pub trees : AreTreesOf r.set r.trees

-- The set of the selection, with the values of the job, is valid, and a sequence of it has the name. That is all of a run, except where its
-- trees lie in memory.
pub record HasRunOf (job : Job) (s : Selection) (name : List ℕ) : Type 0 where
  pub set : SeqSet
  pub of : IsSetOfJob job s set
  pub named : has_sequence set name ≡ true
  pub valid : IsValid set

-- Why no sequence of a job runs. The starting values of the job can not be read, or it has no set for the selection. Or no sequence of the set
-- has the name. Or the values can not be put into the set, or the set with the values is not valid.
pub data IsRefusedRunOf (job : Job) (s : Selection) (name : List ℕ) (end : RunRefusal) : Type 0 where
  no_conf : (r : Refusal) → NoConf job.dbgconf r → end ≡ ends.Refused r → IsRefusedRunOf job s name end
  not_resolved : (items : List ConfItem) (r : Refusal) → HasConf job.dbgconf items → NoSet job.pack s r → end ≡ ends.Refused r → IsRefusedRunOf job s name end
  not_named : (items : List ConfItem) (plain : SeqSet) → HasPlain job s items plain → has_sequence plain name ≡ false
      → end ≡ ends.NoSequence → IsRefusedRunOf job s name end
  no_values : (items : List ConfItem) (plain : SeqSet) (r : Refusal) → HasPlain job s items plain → has_sequence plain name ≡ true → NoValues job.dbgconf items plain r
      → end ≡ ends.Refused r → IsRefusedRunOf job s name end
  not_valid : (set : SeqSet) (r : Refusal) → IsSetOfJob job s set → has_sequence set name ≡ true → NoValid set r → end ≡ ends.Refused r → IsRefusedRunOf job s name end

-- ---- with what a mode needs

-- a sequence of the job runs, and the image is what the mode needs
pub record IsRunFor (own : Own) (s : Selection) (name : List ℕ) (r : ValidRun) : Type 0 where
  pub image : own_of own r.job.image ≡ Ok r.image
  pub run : IsRunOfJob s name r

-- the job has what the mode needs, and all of a run
pub record HasRunFor (job : Job) (own : Own) (s : Selection) (name : List ℕ) : Type 0 where
  pub image : Option JobImage
  pub is : own_of own job.image ≡ Ok image
  pub run : HasRunOf job s name

-- why no sequence of a job runs: the job has not got what the mode needs; or it has, and no sequence of it runs
pub data IsRefusedRunFor (job : Job) (own : Own) (s : Selection) (name : List ℕ) (end : RunRefusal) : Type 0 where
  no_own : (r : Refusal) → own_of own job.image ≡ Err r → end ≡ ends.Refused r → IsRefusedRunFor job own s name end
  has_own : (image : Option JobImage) → own_of own job.image ≡ Ok image → IsRefusedRunOf job s name end → IsRefusedRunFor job own s name end

-- ---- of bytes

-- the job is that of the bytes, and its sequence runs
pub record IsValidRun (bytes : List ℕ) (own : Own) (s : Selection) (name : List ℕ) (r : ValidRun) : Type 0 where
  pub job : Describes bytes r.job
  pub run : IsRunFor own s name r

-- the bytes describe a job that has all of a run
pub record HasRun (bytes : List ℕ) (own : Own) (s : Selection) (name : List ℕ) : Type 0 where
  pub job : Job
  pub of : Describes bytes job
  pub run : HasRunFor job own s name

-- why no sequence runs: the bytes are no job; or no sequence of the job that they describe runs
pub data IsRefusedRun (bytes : List ℕ) (own : Own) (s : Selection) (name : List ℕ) (end : RunRefusal) : Type 0 where
  not_described : (r : Refusal) → NoJob bytes r → end ≡ ends.Refused r → IsRefusedRun bytes own s name end
  described : (job : Job) → Describes bytes job → IsRefusedRunFor job own s name end → IsRefusedRun bytes own s name end

-- a fact on why no sequence runs, unless memory ran out
abbrev pub OnEnd : (RunRefusal → Type 0) → RunRefusal → Type 0
OnEnd P (ends.Refused r) = P (ends.Refused r)
OnEnd P ends.NoSequence = P ends.NoSequence
OnEnd P ends.OutOfMemory = ⊤

-- why no sequence runs, by why there is no valid set
abbrev pub run_refusal_of : CheckRefusal → RunRefusal
run_refusal_of (checks.Refused r) = ends.Refused r
run_refusal_of checks.OutOfMemory = ends.OutOfMemory

-- two runs of one job, with the same image, the same set and the same trees
pub record IsSameRun (x y : ValidRun) : Type 0 where
  pub job : x.job ≡ y.job
  pub image : x.image ≡ y.image
  pub set : x.set ≡ y.set
  pub trees : checked_trees x.trees ≡ checked_trees y.trees
