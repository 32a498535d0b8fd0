-- A call between two changes that its state does not show.
use Rattle.std.proofs.Common.{◌≡◌, ℕ, Result, subst, sym}
use Rattle.sequence_rules.specs.Direct.{Now}
use Rattle.sequence_rules.specs.Machine.{Out, State}
use Rattle.sequence_meaning.specs.declared.end.DirectEnd.{DirectEnd}
use Rattle.sequence_meaning.specs.declared.end.Stopped.{Stopped}
use Rattle.sequence_meaning.specs.Held.{MeansDirect}

pub between : {A : Type 0} (F : State ℕ Now → Out ℕ Now A) (e : DirectEnd) (result : Result A Stopped) (s r q p : State ℕ Now) → r ≡ s → p ≡ q → MeansDirect e result q (F r) → MeansDirect e result p (F s)
between F e result s r q p before after h = subst (λ x. MeansDirect e result p (F x)) before (subst (λ x. MeansDirect e result x (F r)) (sym after) h)
