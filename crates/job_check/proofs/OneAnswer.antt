-- The bytes of a job and a selection have one answer at most.
use Rattle.std.proofs.Common.{◌≡◌, ◌∙◌, ℕ, List, Option, Result, Ok, Err, ap, ap₂, sym, subst, refl}
use Rattle.device_tree.specs.declared.pack.Pack.{Pack}
use Rattle.sequence_resolve.specs.declared.selection.Selection.{Selection}
use Rattle.sequence_resolve.specs.declared.entry.SeqSet.{SeqSet}
use Rattle.sequence_resolve.specs.declared.fault.ResolveFault.{ResolveFault}
use Rattle.sequence_resolve.specs.declared.fault.ResolveFault.TheVariants as resolving
use Rattle.sequence_resolve.specs.Resolving.{IsEffectiveSet, HasNone}
use Rattle.sequence_resolve.proofs.OneSet.{one_set, set_or_refusal, one_refusal}
use Rattle.seq_check.specs.Valid.{IsValid}
use Rattle.seq_check.proofs.OneFault.{one_first_fault, valid_or_faulty}
use Rattle.job_text.specs.declared.job.Job.{Job}
use Rattle.job_text.specs.Answers.{Describes}
use Rattle.job_text.proofs.AnswerLaws.{job_or_fault, one_fault, one_job}
use Rattle.job_check.specs.declared.answer.Refusal.{Refusal}
use Rattle.job_check.specs.declared.answer.Refusal.TheVariants as refusals
use Rattle.job_check.specs.declared.answer.ValidSet.{ValidSet}
use Rattle.job_check.specs.declared.answer.CheckRefusal.{CheckRefusal}
use Rattle.job_check.specs.declared.answer.CheckRefusal.TheVariants as ends
use Rattle.dbgconf_text.specs.declared.conf.ConfItem.{ConfItem}
use Rattle.job_check.specs.Answers.{NoJob, NoSet, NoValid, AnswersCheckedSet, valid, not_valid, AnswersPlain, with_values, without_values, AnswersConf, resolved, not_resolved, IsAnswerOf, has_conf, no_conf, IsCheckAnswer, described, not_described, OnAnswer, AnswersAs}
use Rattle.job_check.proofs.OneValues.{one_conf, conf_and_none, one_no_conf, one_with_values, values_and_none, one_no_values}

abbrev Answer : Type 0
Answer = Result SeqSet Refusal

-- ---- the set

pub valid_and_not : (s : SeqSet) (r : Refusal) → IsValid s → NoValid s r → ⊥
valid_and_not s (refusals.Check kind spot) is none = valid_or_faulty s kind spot is none
valid_and_not s refusals.BadJson is none = none
valid_and_not s (refusals.Job fault) is none = none
valid_and_not s (refusals.Dbgconf kind at) is none = none
valid_and_not s (refusals.Image what line) is none = none
valid_and_not s refusals.NoDevice is none = none
valid_and_not s refusals.AmbiguousDevice is none = none
valid_and_not s refusals.NoVariant is none = none

pub one_not_valid : (s : SeqSet) (a b : Refusal) → NoValid s a → NoValid s b → a ≡ b
one_not_valid s (refusals.Check kind spot) (refusals.Check other there) p q =
    let same = one_first_fault s kind other spot there p q in
    ap₂ refusals.Check same.0 same.1
one_not_valid s (refusals.Check kind spot) refusals.BadJson p q = absurd q
one_not_valid s (refusals.Check kind spot) (refusals.Job fault) p q = absurd q
one_not_valid s (refusals.Check kind spot) (refusals.Dbgconf what at) p q = absurd q
one_not_valid s (refusals.Check kind spot) (refusals.Image what line) p q = absurd q
one_not_valid s (refusals.Check kind spot) refusals.NoDevice p q = absurd q
one_not_valid s (refusals.Check kind spot) refusals.AmbiguousDevice p q = absurd q
one_not_valid s (refusals.Check kind spot) refusals.NoVariant p q = absurd q
one_not_valid s refusals.BadJson b p q = absurd p
one_not_valid s (refusals.Job fault) b p q = absurd p
one_not_valid s (refusals.Dbgconf what at) b p q = absurd p
one_not_valid s (refusals.Image what line) b p q = absurd p
one_not_valid s refusals.NoDevice b p q = absurd p
one_not_valid s refusals.AmbiguousDevice b p q = absurd p
one_not_valid s refusals.NoVariant b p q = absurd p

of_set : (s : SeqSet) (x y : Answer) → AnswersCheckedSet s x → AnswersCheckedSet s y → x ≡ y
of_set s x y p q = elim p [
  | valid is x_is ↦ elim q [ valid too y_is ↦ x_is ∙ sym y_is | not_valid r none y_is ↦ absurd (valid_and_not s r is none) ]
  | not_valid r none x_is ↦ elim q [ valid is y_is ↦ absurd (valid_and_not s r is none) | not_valid other too y_is ↦ x_is ∙ ap Err (one_not_valid s r other none too) ∙ sym y_is ]
]

-- ---- the pack

pub set_and_none : (pack : Pack) (s : Selection) (found : SeqSet) (r : Refusal) → IsEffectiveSet pack s.device s.variant s.pname found → NoSet pack s r → ⊥
set_and_none pack s found refusals.NoDevice is none = (let e = set_or_refusal pack s.device s.variant s.pname found resolving.NoDevice is none in cc)
set_and_none pack s found refusals.AmbiguousDevice is none = (let e = set_or_refusal pack s.device s.variant s.pname found resolving.AmbiguousDevice is none in cc)
set_and_none pack s found refusals.NoVariant is none = (let e = set_or_refusal pack s.device s.variant s.pname found resolving.NoVariant is none in cc)
set_and_none pack s found refusals.BadJson is none = none
set_and_none pack s found (refusals.Job fault) is none = none
set_and_none pack s found (refusals.Dbgconf kind at) is none = none
set_and_none pack s found (refusals.Image what line) is none = none
set_and_none pack s found (refusals.Check kind spot) is none = none

-- two causes are one
same_cause : (pack : Pack) (s : Selection) (a b : ResolveFault) → HasNone pack s.device s.variant a → HasNone pack s.device s.variant b → (a ≡ resolving.OutOfMemory → ⊥) → (b ≡ resolving.OutOfMemory → ⊥) → a ≡ b
same_cause pack s a b p q x y = one_refusal pack s.device s.variant a b p q x y

no_device : resolving.NoDevice ≡ resolving.OutOfMemory → ⊥
no_device e = cc

several : resolving.AmbiguousDevice ≡ resolving.OutOfMemory → ⊥
several e = cc

no_variant : resolving.NoVariant ≡ resolving.OutOfMemory → ⊥
no_variant e = cc

pub one_none : (pack : Pack) (s : Selection) (a b : Refusal) → NoSet pack s a → NoSet pack s b → a ≡ b
one_none pack s refusals.NoDevice refusals.NoDevice p q = refl
one_none pack s refusals.NoDevice refusals.AmbiguousDevice p q = (let e = same_cause pack s resolving.NoDevice resolving.AmbiguousDevice p q no_device several in cc)
one_none pack s refusals.NoDevice refusals.NoVariant p q = (let e = same_cause pack s resolving.NoDevice resolving.NoVariant p q no_device no_variant in cc)
one_none pack s refusals.AmbiguousDevice refusals.NoDevice p q = (let e = same_cause pack s resolving.AmbiguousDevice resolving.NoDevice p q several no_device in cc)
one_none pack s refusals.AmbiguousDevice refusals.AmbiguousDevice p q = refl
one_none pack s refusals.AmbiguousDevice refusals.NoVariant p q = (let e = same_cause pack s resolving.AmbiguousDevice resolving.NoVariant p q several no_variant in cc)
one_none pack s refusals.NoVariant refusals.NoDevice p q = (let e = same_cause pack s resolving.NoVariant resolving.NoDevice p q no_variant no_device in cc)
one_none pack s refusals.NoVariant refusals.AmbiguousDevice p q = (let e = same_cause pack s resolving.NoVariant resolving.AmbiguousDevice p q no_variant several in cc)
one_none pack s refusals.NoVariant refusals.NoVariant p q = refl
one_none pack s a refusals.BadJson p q = absurd q
one_none pack s a (refusals.Job fault) p q = absurd q
one_none pack s a (refusals.Dbgconf kind at) p q = absurd q
one_none pack s a (refusals.Image what line) p q = absurd q
one_none pack s a (refusals.Check kind spot) p q = absurd q
one_none pack s refusals.BadJson b p q = absurd p
one_none pack s (refusals.Job fault) b p q = absurd p
one_none pack s (refusals.Dbgconf kind at) b p q = absurd p
one_none pack s (refusals.Image what line) b p q = absurd p
one_none pack s (refusals.Check kind spot) b p q = absurd p

-- ---- the job

pub job_and_none : (bytes : List ℕ) (j : Job) (r : Refusal) → Describes bytes j → NoJob bytes r → ⊥
job_and_none bytes j refusals.BadJson is none = none is.0 is.1
job_and_none bytes j (refusals.Job fault) is none = job_or_fault bytes j none.0 fault is none.1 none.2
job_and_none bytes j (refusals.Dbgconf kind at) is none = none
job_and_none bytes j (refusals.Image what line) is none = none
job_and_none bytes j refusals.NoDevice is none = none
job_and_none bytes j refusals.AmbiguousDevice is none = none
job_and_none bytes j refusals.NoVariant is none = none
job_and_none bytes j (refusals.Check kind spot) is none = none

pub one_no_job : (bytes : List ℕ) (a b : Refusal) → NoJob bytes a → NoJob bytes b → a ≡ b
one_no_job bytes refusals.BadJson refusals.BadJson p q = refl
one_no_job bytes refusals.BadJson (refusals.Job fault) p q = absurd (p q.0 q.1)
one_no_job bytes (refusals.Job fault) refusals.BadJson p q = absurd (q p.0 p.1)
one_no_job bytes (refusals.Job fault) (refusals.Job other) p q =
    ap refusals.Job (one_fault bytes p.0 q.0 fault other p.1 q.1 p.2 q.2)
one_no_job bytes a (refusals.Dbgconf kind at) p q = absurd q
one_no_job bytes a (refusals.Image what line) p q = absurd q
one_no_job bytes a refusals.NoDevice p q = absurd q
one_no_job bytes a refusals.AmbiguousDevice p q = absurd q
one_no_job bytes a refusals.NoVariant p q = absurd q
one_no_job bytes a (refusals.Check kind spot) p q = absurd q
one_no_job bytes (refusals.Dbgconf kind at) b p q = absurd p
one_no_job bytes (refusals.Image what line) b p q = absurd p
one_no_job bytes refusals.NoDevice b p q = absurd p
one_no_job bytes refusals.AmbiguousDevice b p q = absurd p
one_no_job bytes refusals.NoVariant b p q = absurd p
one_no_job bytes (refusals.Check kind spot) b p q = absurd p

-- ---- the set with the values

of_sets : (x y : Answer) (a b : SeqSet) → a ≡ b → AnswersCheckedSet a x → AnswersCheckedSet b y → x ≡ y
of_sets x y a b same p q = of_set a x y p (subst (λ (c : SeqSet). AnswersCheckedSet c y) (sym same) q)

module _ (dbgconf : Option (List ℕ)) (items : List ConfItem) (plain : SeqSet) where
  of_plain : (x y : Answer) → AnswersPlain dbgconf items plain x → AnswersPlain dbgconf items plain y → x ≡ y
  of_plain x y p q = elim p [
    | with_values a is x_of ↦ elim q [
      | with_values b too y_of ↦ of_sets x y a b (one_with_values dbgconf items plain a b is too) x_of y_of
      | without_values r none y_is ↦ absurd (values_and_none dbgconf items plain a r is none)
    ]
    | without_values r none x_is ↦ elim q [
      | with_values b is y_of ↦ absurd (values_and_none dbgconf items plain b r is none)
      | without_values other too y_is ↦ x_is ∙ ap Err (one_no_values dbgconf items plain r other none too) ∙ sym y_is
    ]
  ]

-- ---- the job with its values

module _ (job : Job) (s : Selection) where
  of_plains : (items : List ConfItem) (x y : Answer) (a b : SeqSet) → IsEffectiveSet job.pack s.device s.variant s.pname a → IsEffectiveSet job.pack s.device s.variant s.pname b
      → AnswersPlain job.dbgconf items a x → AnswersPlain job.dbgconf items b y → x ≡ y
  of_plains items x y a b is_a is_b p q =
      of_plain job.dbgconf items a x y p (subst (λ (c : SeqSet). AnswersPlain job.dbgconf items c y) (one_set job.pack s.device s.variant s.pname b a is_b is_a) q)

  of_conf : (items : List ConfItem) (x y : Answer) → AnswersConf job items s x → AnswersConf job items s y → x ≡ y
  of_conf items x y p q = elim p [
    | resolved a is x_of ↦ elim q [ resolved b too y_of ↦ of_plains items x y a b is too x_of y_of | not_resolved r none y_is ↦ absurd (set_and_none job.pack s a r is none) ]
    | not_resolved r none x_is ↦ elim q [
      | resolved b is y_of ↦ absurd (set_and_none job.pack s b r is none)
      | not_resolved other too y_is ↦ x_is ∙ ap Err (one_none job.pack s r other none too) ∙ sym y_is
    ]
  ]

  of_confs : (x y : Answer) (a b : List ConfItem) → a ≡ b → AnswersConf job a s x → AnswersConf job b s y → x ≡ y
  of_confs x y a b same p q = of_conf a x y p (subst (λ (c : List ConfItem). AnswersConf job c s y) (sym same) q)

  pub one_answer_of : (x y : Answer) → IsAnswerOf job s x → IsAnswerOf job s y → x ≡ y
  one_answer_of x y p q = elim p [
    | has_conf a is x_of ↦ elim q [ has_conf b too y_of ↦ of_confs x y a b (one_conf job.dbgconf a b is too) x_of y_of | no_conf r none y_is ↦ absurd (conf_and_none job.dbgconf a r is none) ]
    | no_conf r none x_is ↦ elim q [ has_conf b is y_of ↦ absurd (conf_and_none job.dbgconf b r is none) | no_conf other too y_is ↦ x_is ∙ ap Err (one_no_conf job.dbgconf r other none too) ∙ sym y_is ]
  ]

-- ---- the bytes

of_jobs : (bytes : List ℕ) (s : Selection) (x y : Answer) (a b : Job) → Describes bytes a → Describes bytes b → IsAnswerOf a s x → IsAnswerOf b s y → x ≡ y
of_jobs bytes s x y a b is_a is_b p q = one_answer_of a s x y p (subst (λ (j : Job). IsAnswerOf j s y) (one_job bytes b a is_b is_a) q)

pub one_answer : (bytes : List ℕ) (s : Selection) (x y : Answer) → IsCheckAnswer bytes s x → IsCheckAnswer bytes s y → x ≡ y
one_answer bytes s x y p q = elim p [
  | described a is x_of ↦ elim q [ described b too y_of ↦ of_jobs bytes s x y a b is too x_of y_of | not_described r none y_is ↦ absurd (job_and_none bytes a r is none) ]
  | not_described r none x_is ↦ elim q [ described b is y_of ↦ absurd (job_and_none bytes b r is none) | not_described other too y_is ↦ x_is ∙ ap Err (one_no_job bytes r other none too) ∙ sym y_is ]
]

-- ---- what a call answers

-- the one answer that there is, is what is answered, unless memory is refused
answered_as : (P : Answer → Type 0) → ((x y : Answer) → P x → P y → x ≡ y) → (r : Result ValidSet CheckRefusal) → OnAnswer P r → (answer : Answer) → P answer → AnswersAs answer r
answered_as P one (Ok v) given answer is = one answer (Ok v.set) is given
answered_as P one (Err (ends.Refused r)) given answer is = one answer (Err r) is given
answered_as P one (Err ends.OutOfMemory) given answer is = tt

pub only_of : (job : Job) (s : Selection) (r : Result ValidSet CheckRefusal) → OnAnswer (IsAnswerOf job s) r → (answer : Answer) → IsAnswerOf job s answer → AnswersAs answer r
only_of job s r given answer is = answered_as (IsAnswerOf job s) (one_answer_of job s) r given answer is

pub only : (bytes : List ℕ) (s : Selection) (r : Result ValidSet CheckRefusal) → OnAnswer (IsCheckAnswer bytes s) r → (answer : Answer) → IsCheckAnswer bytes s answer → AnswersAs answer r
only bytes s r given answer is = answered_as (IsCheckAnswer bytes s) (one_answer bytes s) r given answer is
