-- A job, a selection and a name have a valid set with a sequence of the name, or a reason why none runs. So have the bytes of a job.
use Rattle.std.proofs.Common.{◌≡◌, ◌⊎◌, inl, inr, ℕ, ◌<◌, ◌^◌, Bool, true, false, List, length, Option, Result, Ok, Err, codes, refl, sym, subst, ◌∙◌}
use Rattle.device_tree.specs.PackForm.{IsPack}
use Rattle.sequence_resolve.specs.declared.selection.Selection.{Selection}
use Rattle.sequence_resolve.specs.declared.entry.SeqSet.{SeqSet}
use Rattle.sequence_trees.specs.Reading.{ReadsSet}
use Rattle.seq_check.specs.declared.checked.Checked.{Checked}
use Rattle.seq_check.specs.Valid.{IsSound}
use Rattle.seq_check.specs.Answers.{checked_trees}
use Rattle.job_check.specs.Own.{own_of}
use Rattle.job_check.specs.declared.own.JobImage.{JobImage}
use Rattle.job_check.specs.declared.own.Own.{Own}
use Rattle.job_check.specs.declared.answer.Refusal.{Refusal}
use Rattle.job_check.specs.declared.answer.Refusal.TheVariants as refusals
use Rattle.job_check.specs.declared.running.RunRefusal.{RunRefusal}
use Rattle.job_check.specs.declared.running.RunRefusal.TheVariants as ends
use Rattle.job_check.specs.declared.running.ValidRun.{ValidRun}
use Rattle.job_text.specs.declared.job.Job.{Job}
use Rattle.job_text.specs.Answers.{Describes}
use Rattle.dbgconf_text.specs.declared.conf.ConfItem.{ConfItem}
use Rattle.job_check.specs.Values.{HasConf}
use Rattle.job_check.specs.Running.{has_sequence, HasPlain, HasRun, HasRunFor, HasRunOf, IsRefusedRun, IsRefusedRunFor, IsRefusedRunOf, IsRunFor, IsRunOfJob, IsSetOfJob, IsValidRun, described, has_own, no_conf, no_own, no_values, not_described, not_named, not_resolved, not_valid}
use Rattle.json_form.specs.Short.{AreShort}
use Rattle.json_form.proofs.TextValues.{value_is_short}
use Rattle.job_check.proofs.ShortNames.{has_short, PackShort, pack_short, EntriesShort, set_short}
use Rattle.job_check.proofs.TreeValues.{checked_of}
use Rattle.job_check.proofs.SomeJob.{job_or_none}
use Rattle.job_check.proofs.SomeSet.{set_or_none}
use Rattle.seq_check.proofs.SomeSetFault.{valid_or_fault}
use Rattle.job_check.proofs.SomeValues.{conf_or_none, values_or_none}
use Rattle.job_check.proofs.OneValues.{same_entries}
use Rattle.job_check.proofs.OneRun.{same_names}

-- ---- of a job

module _ (job : Job) (s : Selection) (name : List ℕ) where
  abbrev pub RunOrReasonOf : Type 0
  RunOrReasonOf = HasRunOf job s name ⊎ ((end : RunRefusal) × IsRefusedRunOf job s name end)

  by_values : (items : List ConfItem) (plain : SeqSet) → HasPlain job s items plain → has_sequence plain name ≡ true → RunOrReasonOf
  by_values items plain of named = elim (values_or_none job.dbgconf items plain) [
    | inl v ↦ by_set v.0 (record { items = items; plain = plain; of = of; replaced = v.1 }) (same_names job s items plain v.0 name v.1 ∙ named)
    | inr none ↦ inr (ends.Refused none.0, no_values items plain none.0 of named none.1 refl)
  ]
    where
      by_set : (set : SeqSet) → IsSetOfJob job s set → has_sequence set name ≡ true → RunOrReasonOf
      by_set set of named = elim (valid_or_fault set) [
        | inl is ↦ inl (record { set = set; of = of; named = named; valid = is })
        | inr f ↦ let r = refusals.Check f.0 f.1 in inr (ends.Refused r, not_valid set r of named f.2 refl)
      ]

  by_name : (items : List ConfItem) (plain : SeqSet) → HasPlain job s items plain → (b : Bool) → has_sequence plain name ≡ b → RunOrReasonOf
  by_name items plain of false none = inr (ends.NoSequence, not_named items plain of none refl)
  by_name items plain of true named = by_values items plain of named

  by_conf : (items : List ConfItem) → HasConf job.dbgconf items → RunOrReasonOf
  by_conf items has = elim (set_or_none job.pack s) [
    | inl r ↦ by_name items r.0 (record { values = has; resolved = r.1 }) (has_sequence r.0 name) refl
    | inr none ↦ inr (ends.Refused none.0, not_resolved items none.0 has none.1 refl)
  ]

  pub run_or_reason_of : RunOrReasonOf
  run_or_reason_of = elim (conf_or_none job.dbgconf) [
    | inl found ↦ by_conf found.0 found.1
    | inr none ↦ inr (ends.Refused none.0, no_conf none.0 none.1 refl)
  ]

  -- the run, once a value holds the trees of the set
  run_with : (image : Option JobImage) (has : HasRunOf job s name) (trees : Checked) → checked_trees trees ≡ has.valid.trees
      → IsRunOfJob s name (record { job = job; image = image; set = has.set; trees = trees })
  run_with image has trees same = record {
    set = has.of;
    named = has.named;
    trees = record {
      reads = subst (ReadsSet has.set) (sym same) has.valid.reads;
      sound = subst IsSound (sym same) has.valid.sound;
    };
  }

-- ---- with what a mode needs

module _ (job : Job) (own : Own) (s : Selection) (name : List ℕ) where
  abbrev pub RunOrReasonFor : Type 0
  RunOrReasonFor = HasRunFor job own s name ⊎ ((end : RunRefusal) × IsRefusedRunFor job own s name end)

  by_own : (r : Result (Option JobImage) Refusal) → own_of own job.image ≡ r → RunOrReasonFor
  by_own (Ok image) is = elim (run_or_reason_of job s name) [
    | inl has ↦ inl (record { image = image; is = is; run = has })
    | inr none ↦ inr (none.0, has_own image is none.1)
  ]
  by_own (Err r) is = inr (ends.Refused r, no_own r is refl)

  pub run_or_reason_for : RunOrReasonFor
  run_or_reason_for = by_own (own_of own job.image) refl

-- ---- of bytes

module _ (bytes : List ℕ) (own : Own) (s : Selection) (name : List ℕ) where
  abbrev pub RunOrReason : Type 0
  RunOrReason = HasRun bytes own s name ⊎ ((end : RunRefusal) × IsRefusedRun bytes own s name end)

  of_job : (job : Job) → Describes bytes job → RunOrReason
  of_job job is = elim (run_or_reason_for job own s name) [
    | inl has ↦ inl (record { job = job; of = is; run = has })
    | inr none ↦ inr (none.0, described job is none.1)
  ]

  pub run_or_reason : RunOrReason
  run_or_reason = elim (job_or_none bytes) [
    | inl found ↦ of_job found.0 found.1
    | inr none ↦ inr (ends.Refused none.0, not_described none.0 none.1 refl)
  ]

  -- ---- a value for the trees

  -- the names of the set are texts, with no more bytes than the job
  entries_short : (job : Job) → Describes bytes job → (set : SeqSet) → IsSetOfJob job s set → EntriesShort (length bytes) set.entries
  entries_short job is set of =
      let n = length bytes in
      let d = is.0 in
      let text = is.1 in
      let values : AreShort n d = value_is_short bytes d text.0 text.1 in
      let pack : PackShort n job.pack = has_short n (codes "pack") IsPack (PackShort n) (λ v p short is. pack_short n v p short is) d job.pack values is.2.pack in
      let plain : EntriesShort n of.plain.entries = set_short n job.pack s.device s.variant s.pname of.plain pack of.of.resolved in
      subst (EntriesShort n) (sym (same_entries job.dbgconf of.items of.plain set of.replaced)) plain

  valid_run_for : length bytes < 2 ^ 63 → (job : Job) → Describes bytes job → HasRunFor job own s name → (run : ValidRun) × (run.job ≡ job) × IsRunFor own s name run
  valid_run_for small job is has =
      let of = has.run in
      let trees = checked_of (length bytes) small of.set of.valid.trees of.valid.reads of.valid.sound (entries_short job is of.set of.of) in
      (record { job = job; image = has.image; set = of.set; trees = trees.0 }, refl, record { image = has.is; run = run_with job s name has.image of trees.0 trees.1 })

  pub run_or_refusal_for : length bytes < 2 ^ 63 → (job : Job) → Describes bytes job → ((run : ValidRun) × (run.job ≡ job) × IsRunFor own s name run) ⊎ ((end : RunRefusal) × IsRefusedRunFor job own s name end)
  run_or_refusal_for small job is = elim (run_or_reason_for job own s name) [ inl has ↦ inl (valid_run_for small job is has) | inr none ↦ inr none ]

  valid_run : length bytes < 2 ^ 63 → HasRun bytes own s name → (run : ValidRun) × IsValidRun bytes own s name run
  valid_run small has =
      let r = valid_run_for small has.job has.of has.run in
      (r.0, record { job = subst (Describes bytes) (sym r.1) has.of; run = r.2 })

  pub run_or_refusal : length bytes < 2 ^ 63 → ((run : ValidRun) × IsValidRun bytes own s name run) ⊎ ((end : RunRefusal) × IsRefusedRun bytes own s name end)
  run_or_refusal small = elim run_or_reason [ inl has ↦ inl (valid_run small has) | inr none ↦ inr none ]
