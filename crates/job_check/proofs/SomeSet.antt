-- A pack has a set for each selection, or a refusal why there is none.
use Rattle.std.proofs.Common.{◌≢◌, ◌⊎◌, inl, inr, refl}
use Rattle.device_tree.specs.declared.pack.Pack.{Pack}
use Rattle.sequence_resolve.specs.declared.selection.Selection.{Selection}
use Rattle.sequence_resolve.specs.declared.entry.SeqSet.{SeqSet}
use Rattle.sequence_resolve.specs.declared.fault.ResolveFault.{ResolveFault}
use Rattle.sequence_resolve.specs.declared.fault.ResolveFault.TheVariants as faults
use Rattle.sequence_resolve.specs.Resolving.{IsEffectiveSet, HasNone}
use Rattle.sequence_resolve.proofs.SomeSet as resolving
use Rattle.job_check.specs.declared.answer.Refusal.{Refusal}
use Rattle.job_check.specs.declared.answer.Refusal.TheVariants as refusals
use Rattle.job_check.specs.Answers.{NoSet}

module _ (pack : Pack) (s : Selection) where
  -- the refusal of a cause
  refused : (fault : ResolveFault) → HasNone pack s.device s.variant fault → fault ≢ faults.OutOfMemory → (r : Refusal) × NoSet pack s r
  refused faults.NoDevice none own = (refusals.NoDevice, none)
  refused faults.AmbiguousDevice none own = (refusals.AmbiguousDevice, none)
  refused faults.NoVariant none own = (refusals.NoVariant, none)
  refused faults.OutOfMemory none own = absurd (own refl)

  pub set_or_none : ((set : SeqSet) × IsEffectiveSet pack s.device s.variant s.pname set) ⊎ ((r : Refusal) × NoSet pack s r)
  set_or_none = elim (resolving.set_or_none pack s.device s.variant s.pname) [ inl found ↦ inl found | inr none ↦ inr (refused none.0 none.1 none.2) ]
