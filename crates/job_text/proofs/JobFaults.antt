-- A fault of the last members of a job is that of the job.
use Rattle.std.proofs.Common.{◌≡◌, codes, Result, Ok, Err, refl, sym, subst}
use Rattle.std.specs.Prelude.{IsErrAnd}
use Rattle.serde_json.specs.Data.{Data}
use Rattle.json_form.specs.declared.fault.JobFault.{JobFault}
use Rattle.json_form.specs.declared.fault.JobFault.TheVariants.{Missing, WrongKind, UnknownKey, Repeated, BadNumber, TooMany, OutOfMemory}
use Rattle.json_form.specs.Faults.{Fails, Gives}
use Rattle.json_form.specs.Reading.{only_keys, required_value, or_else}
use Rattle.dap_base.specs.Outcome.{◌>>=◌}
use Rattle.device_tree.specs.declared.pack.Pack.{Pack}
use Rattle.device_tree.specs.PackReading.{pack_in}
use Rattle.target_machine.specs.declared.unit.Settings.{Settings}
use Rattle.probe_core.specs.declared.job.BenchJob.{BenchJob}
use Rattle.job_text.specs.declared.reading.JobParts.{JobParts}
use Rattle.job_text.specs.Keys.{job_keys}
use Rattle.job_text.specs.RunReading.{run_in, default_settings}
use Rattle.job_text.specs.TargetReading.{bench_in}
use Rattle.job_text.specs.JobReading.{job_in, optional_in}

-- a fault of a step is that of the reading that begins with it
fails_bind : {A B : Type 0} (fault : JobFault) (r : Result A JobFault) (next : A → Result B JobFault) → Fails fault r → Fails fault (r >>= next)
fails_bind (Missing path) r next h = rw h refl
fails_bind (WrongKind path) r next h = rw h refl
fails_bind (UnknownKey path) r next h = rw h refl
fails_bind (Repeated path) r next h = rw h refl
fails_bind (BadNumber path) r next h = rw h refl
fails_bind (TooMany path) r next h = rw h refl
fails_bind OutOfMemory r next h = tt

gives_fault : {A : Type 0} (fault : JobFault) (r read : Result A JobFault) → IsErrAnd r (λ f. f ≡ fault) → Fails fault read → Gives r read
gives_fault fault (Ok x) read is h = absurd is
gives_fault fault (Err f) read is h = subst (λ (g : JobFault). Fails g read) (sym is) h

pub own_fails : (d : Data) (r : Result JobParts JobFault) (known : Unit {0}) (pack : Pack) (settings : Settings) (bench : BenchJob) (fault : JobFault) → only_keys job_keys d ≡ Ok known
    → required_value (codes "pack") pack_in d ≡ Ok pack → or_else (codes "run") run_in default_settings d ≡ Ok settings → required_value (codes "bench") bench_in d ≡ Ok bench
    → Fails fault (optional_in bench.target.memory d) → IsErrAnd r (λ f. f ≡ fault) → Gives r (job_in d)
unfolding job_in
own_fails d r known pack settings bench fault k p s b h is = gives_fault fault r _ is (rw (k, p, s, b) (fails_bind fault (optional_in bench.target.memory d) _ h))
