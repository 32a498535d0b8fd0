-- Why no sequence of a job runs.
use Rattle.std.proofs.Common.{◌≡◌, ◌≢◌, ◌∙◌, ℕ, true, false, List, Option, Result, Ok, Err, refl, ap, sym, subst}
use Rattle.std.specs.Prelude.{IfOk, IfErr}
use Rattle.sequence_resolve.specs.declared.entry.SeqSet.{SeqSet}
use Rattle.sequence_resolve.specs.declared.selection.Selection.{Selection}
use Rattle.sequence_resolve.specs.Resolving.{IsEffectiveSet}
use Rattle.job_text.specs.declared.job.Job.{Job}
use Rattle.job_text.specs.Answers.{Describes}
use Rattle.dbgconf_text.specs.declared.conf.ConfItem.{ConfItem}
use Rattle.job_check.specs.Values.{HasConf, HasStartingValues, NoConf, NoValues}
use Rattle.job_check.specs.Answers.{AreTreesOf, NoJob, NoSet, NoValid, OnRefusal}
use Rattle.job_check.specs.Running.{HasPlain, IsRefusedRun, IsRefusedRunFor, IsRefusedRunOf, IsRunFor, IsRunOfJob, IsSetOfJob, IsValidRun, OnEnd, described, has_own, has_sequence, no_conf, no_own, no_values, not_described, not_named, not_resolved, not_valid, run_refusal_of}
use Rattle.job_check.specs.Own.{own_of}
use Rattle.job_check.specs.declared.own.JobImage.{JobImage}
use Rattle.job_check.specs.declared.own.Own.{Own}
use Rattle.job_check.specs.declared.answer.CheckRefusal.{CheckRefusal}
use Rattle.job_check.specs.declared.answer.CheckRefusal.TheVariants as checks
use Rattle.job_check.specs.declared.answer.Refusal.{Refusal}
use Rattle.job_check.specs.declared.running.RunRefusal.{RunRefusal}
use Rattle.job_check.specs.declared.running.RunRefusal.TheVariants as ends
use Rattle.job_check.specs.declared.running.ValidRun.{ValidRun}
use Rattle.seq_check.specs.declared.checked.Checked.{Checked}
use Rattle.job_check.proofs.OneRun.{same_names}

abbrev found_image : Option JobImage → Result (Option JobImage) Refusal
found_image image = Ok image

-- ---- of a job

module _ (job : Job) (s : Selection) (name : List ℕ) where
  pub unread : (r : CheckRefusal) → OnRefusal (NoConf job.dbgconf) r → OnEnd (IsRefusedRunOf job s name) (run_refusal_of r)
  unread (checks.Refused r) h = no_conf r h refl
  unread checks.OutOfMemory h = tt

  pub no_set : (items : List ConfItem) (r : CheckRefusal) → HasConf job.dbgconf items → OnRefusal (NoSet job.pack s) r → OnEnd (IsRefusedRunOf job s name) (run_refusal_of r)
  no_set items (checks.Refused r) has h = not_resolved items r has h refl
  no_set items checks.OutOfMemory has h = tt

  pub plain_of : (items : List ConfItem) (plain : SeqSet) → HasConf job.dbgconf items → IsEffectiveSet job.pack s.device s.variant s.pname plain → HasPlain job s items plain
  plain_of items plain has at = record { values = has; resolved = at }

  pub no_sequence : (items : List ConfItem) (plain : SeqSet) → HasPlain job s items plain → has_sequence plain name ≡ false → IsRefusedRunOf job s name ends.NoSequence
  no_sequence items plain of none = not_named items plain of none refl

  pub unreplaced : (items : List ConfItem) (plain : SeqSet) (r : CheckRefusal) → HasPlain job s items plain → has_sequence plain name ≡ true → OnRefusal (NoValues job.dbgconf items plain) r
      → OnEnd (IsRefusedRunOf job s name) (run_refusal_of r)
  unreplaced items plain (checks.Refused r) of named h = no_values items plain r of named h refl
  unreplaced items plain checks.OutOfMemory of named h = tt

  pub set_of : (items : List ConfItem) (plain set : SeqSet) → HasPlain job s items plain → HasStartingValues job.dbgconf items plain set → IsSetOfJob job s set
  set_of items plain set of is = record { items = items; plain = plain; of = of; replaced = is }

  pub no_valid : (set : SeqSet) (r : CheckRefusal) → IsSetOfJob job s set → has_sequence set name ≡ true → OnRefusal (NoValid set) r → OnEnd (IsRefusedRunOf job s name) (run_refusal_of r)
  no_valid set (checks.Refused r) is named h = not_valid set r is named h refl
  no_valid set checks.OutOfMemory is named h = tt

  -- what runs
  pub found : (image : Option JobImage) (items : List ConfItem) (plain set valid : SeqSet) (trees : Checked) → HasPlain job s items plain → HasStartingValues job.dbgconf items plain set → valid ≡ set
      → has_sequence plain name ≡ true → AreTreesOf valid trees → IsRunOfJob s name (record { job = job; image = image; set = valid; trees = trees })
  found image items plain set valid trees of is same named are = record {
    set = subst (IsSetOfJob job s) (sym same) (set_of items plain set of is);
    named = subst (λ (x : SeqSet). has_sequence x name ≡ true) (sym same) (same_names job s items plain set name is ∙ named);
    trees = are;
  }

-- ---- with what a mode needs

module _ (job : Job) (own : Own) (s : Selection) (name : List ℕ) where
  pub without_own : (r : CheckRefusal) → OnRefusal (λ r. own_of own job.image ≡ Err r) r → OnEnd (IsRefusedRunFor job own s name) (run_refusal_of r)
  without_own (checks.Refused r) h = no_own r h refl
  without_own checks.OutOfMemory h = tt

  with_own : (image : Option JobImage) (end : RunRefusal) → own_of own job.image ≡ Ok image → OnEnd (IsRefusedRunOf job s name) end → OnEnd (IsRefusedRunFor job own s name) end
  with_own image (ends.Refused r) has h = has_own image has h
  with_own image ends.NoSequence has h = has_own image has h
  with_own image ends.OutOfMemory has h = tt

  -- the run of the job, with the image that the mode needs
  pub run_for : (image : Option JobImage) (r : Result ValidRun RunRefusal) → own_of own job.image ≡ Ok image → IfOk r (λ v. v.job ≡ job) → IfOk r (λ v. v.image ≡ image) → IfOk r (IsRunOfJob s name)
      → IfOk r (IsRunFor own s name)
  run_for image (Ok v) has same given run = record { image = ap (λ (j : Job). own_of own j.image) same ∙ has ∙ ap found_image (sym given); run = run }
  run_for image (Err end) has same given run = tt

  pub refused_for : (image : Option JobImage) (r : Result ValidRun RunRefusal) → own_of own job.image ≡ Ok image → IfErr r (OnEnd (IsRefusedRunOf job s name))
      → IfErr r (OnEnd (IsRefusedRunFor job own s name))
  refused_for image (Ok v) has refused = tt
  refused_for image (Err end) has refused = with_own image end has refused

-- ---- of bytes

module _ (bytes : List ℕ) (own : Own) (s : Selection) (name : List ℕ) where
  pub no_job : (r : CheckRefusal) → OnRefusal (NoJob bytes) r → OnEnd (IsRefusedRun bytes own s name) (run_refusal_of r)
  no_job (checks.Refused r) h = not_described r h refl
  no_job checks.OutOfMemory h = tt

  pub of_job : (job : Job) (end : RunRefusal) → Describes bytes job → OnEnd (IsRefusedRunFor job own s name) end → OnEnd (IsRefusedRun bytes own s name) end
  of_job job (ends.Refused r) is h = described job is h
  of_job job ends.NoSequence is h = described job is h
  of_job job ends.OutOfMemory is h = tt

  -- the run of the job is that of the bytes
  pub of_run : (job : Job) (r : Result ValidRun RunRefusal) → Describes bytes job → IfOk r (λ v. v.job ≡ job) → IfOk r (IsRunFor own s name) → IfOk r (IsValidRun bytes own s name)
  of_run job (Ok v) is same run = record { job = subst (Describes bytes) (sym same) is; run = run }
  of_run job (Err end) is same run = tt

  pub of_refusal : (job : Job) (r : Result ValidRun RunRefusal) → Describes bytes job → IfErr r (OnEnd (IsRefusedRunFor job own s name)) → IfErr r (OnEnd (IsRefusedRun bytes own s name))
  of_refusal job (Ok v) is refused = tt
  of_refusal job (Err end) is refused = of_job job end is refused

-- a fact on the job is one on the job of the run
pub on_job : (P : Job → Type 0) (job : Job) (r : Result ValidRun RunRefusal) → P job → IfOk r (λ v. v.job ≡ job) → IfOk r (λ v. P v.job)
on_job P job (Ok v) is same = subst P (sym same) is
on_job P job (Err end) is same = tt

-- ---- memory is no reason

refused_some : (r : Refusal) (end : RunRefusal) → end ≡ ends.Refused r → end ≢ ends.OutOfMemory
refused_some r end is e = absurd cc

unnamed_some : (end : RunRefusal) → end ≡ ends.NoSequence → end ≢ ends.OutOfMemory
unnamed_some end is e = absurd cc

never_memory_of : (job : Job) (s : Selection) (name : List ℕ) (end : RunRefusal) → IsRefusedRunOf job s name end → end ≢ ends.OutOfMemory
never_memory_of job s name end is = elim is [
  | no_conf r none e ↦ refused_some r end e
  | not_resolved items r has none e ↦ refused_some r end e
  | not_named items plain of none e ↦ unnamed_some end e
  | no_values items plain r of named none e ↦ refused_some r end e
  | not_valid set r of named none e ↦ refused_some r end e
]

never_memory_for : (job : Job) (own : Own) (s : Selection) (name : List ℕ) (end : RunRefusal) → IsRefusedRunFor job own s name end → end ≢ ends.OutOfMemory
never_memory_for job own s name end is = elim is [ no_own r none e ↦ refused_some r end e | has_own image has of ↦ never_memory_of job s name end of ]

-- no run is refused for refused memory
pub never_memory : (bytes : List ℕ) (own : Own) (s : Selection) (name : List ℕ) (end : RunRefusal) → IsRefusedRun bytes own s name end → end ≢ ends.OutOfMemory
never_memory bytes own s name end is = elim is [ not_described r none e ↦ refused_some r end e | described job here of ↦ never_memory_for job own s name end of ]
