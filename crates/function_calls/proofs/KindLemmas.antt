-- What a function does is what its kind does.
use Rattle.std.proofs.Common.{◌≡◌, ℕ, List, Result, Ok, refl, ap, subst, ◌∙◌}
use Rattle.function_table.specs.declared.function.Function.{Function}
use Rattle.function_table.specs.declared.function.Function.TheVariants as f
use Rattle.target_calls.specs.declared.calls.Value.{Value}
use Rattle.target_calls.specs.declared.calls.Value.TheVariants.{Number}
use Rattle.target_calls.specs.NeedPoints.{Costs}
use Rattle.target_calls.specs.World.{World}
use Rattle.access_calls.specs.Reported.{AccessView}
use Rattle.sequence_rules.specs.Calls.{function_result}
use Rattle.sequence_rules.specs.Late.{Late, late}
use Rattle.sequence_rules.specs.Machine.{State}
use Rattle.function_calls.specs.declared.end.End.{End}
use Rattle.function_calls.specs.declared.kinds.Kind.{Kind}
use Rattle.function_calls.specs.declared.kinds.Kind.TheVariants as kind
use Rattle.function_calls.specs.Ends.{MeansLate}
use Rattle.function_calls.specs.Kinds.{call_kind_of, kind_done}

same_done : (cost : Costs) (w : World) (function : Function) (text n : List ℕ) (s : State Value Late) → kind_done (late cost w) (call_kind_of function) text n s ≡ function_result (late cost w) function text n s
unfolding function_result
same_done cost w f.Read8 text n s = refl
same_done cost w f.Read16 text n s = refl
same_done cost w f.Read32 text n s = refl
same_done cost w f.Read64 text n s = refl
same_done cost w f.Write8 text n s = refl
same_done cost w f.Write16 text n s = refl
same_done cost w f.Write32 text n s = refl
same_done cost w f.Write64 text n s = refl
same_done cost w f.ReadAp text n s = refl
same_done cost w f.WriteAp text n s = refl
same_done cost w f.ReadDp text n s = refl
same_done cost w f.WriteDp text n s = refl
same_done cost w f.DapDelay text n s = refl
same_done cost w f.DapSwjClock text n s = refl
same_done cost w f.DapWriteAbort text n s = refl
same_done cost w f.DapSwjPins text n s = refl
same_done cost w f.DapSwjSequence text n s = refl
same_done cost w f.DapJtagSequence text n s = refl
same_done cost w f.Sequence text n s = refl
same_done cost w f.Message text n s = refl
same_done cost w f.Query text n s = refl
same_done cost w f.QueryValue text n s = refl
same_done cost w f.LoadDebugInfo text n s = refl

-- `Sequence` does nothing
pub nothing_done : (cost : Costs) (w : World) (text n : List ℕ) (s : State Value Late) → kind_done (late cost w) kind.Nothing text n s ≡ Ok (Number 0, s)
unfolding late
nothing_done cost w text n s = refl

pub by_kind : (cost : Costs) (w : World) (reached : AccessView) (function : Function) (its : Kind) (text n : List ℕ) (s now : State Value Late) (result : Result Value End) → its ≡ call_kind_of function
    → MeansLate w reached result now (kind_done (late cost w) its text n s) → MeansLate w reached result now (function_result (late cost w) function text n s)
by_kind cost w reached function its text n s now result is h = subst (λ o. MeansLate w reached result now o) (ap (λ k. kind_done (late cost w) k text n s) is ∙ same_done cost w function text n s) h
