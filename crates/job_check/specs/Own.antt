-- What a mode needs of a job besides its sequences, and why it has not got it.
use Rattle.std.specs.Prelude.{ℕ, [], ◌∷◌, codes, Option, Some, None, Result, Ok, Err}
use Rattle.json_form.specs.declared.fault.JobFault.TheVariants as faults
use Rattle.json_form.specs.declared.path.PathStep.TheVariants as steps
use Rattle.hex_image.specs.Image.{Bytes, FaultAt, image}
use Rattle.job_text.specs.declared.job.ImageJob.{ImageJob}
use Rattle.job_check.specs.declared.own.JobImage.{JobImage}
use Rattle.job_check.specs.declared.own.Own.{Own}
use Rattle.job_check.specs.declared.own.Own.TheVariants as own
use Rattle.job_check.specs.declared.answer.Refusal.{Refusal}
use Rattle.job_check.specs.declared.answer.Refusal.TheVariants as refusals

-- the image that a text means, with the access port; or the text's first fault
abbrev pub of_text : ℕ → Result Bytes FaultAt → Result (Option JobImage) Refusal
of_text ap (Ok bytes) = Ok (Some (record { ap = ap; image = bytes }))
of_text ap (Err fault) = Err (refusals.Image fault.kind fault.line)

-- the image of a job, which has to have one
abbrev pub image_of : Option ImageJob → Result (Option JobImage) Refusal
image_of None = Err (refusals.Job (faults.Missing (steps.Key (codes "image") ∷ [])))
image_of (Some given) = of_text given.ap (image given.hex)

-- What a mode finds of what it needs. A mode that needs nothing finds nothing.
abbrev pub own_of : Own → Option ImageJob → Result (Option JobImage) Refusal
own_of own.Nothing given = Ok None
own_of own.Image given = image_of given
