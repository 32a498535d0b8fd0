-- Equal variables, and how a run ended.
use Rattle.std.proofs.Common.{◌≡◌, List, [], ◌∷◌, None, Some, unwrap_or, refl, sym, ap}
use Rattle.sequence_rules.specs.declared.bindings.Binding.{Binding}
use Rattle.sequence_rules.specs.Alike.{Binds, Equal}
use Rattle.sequence_rules.specs.Machine.{Over}

pub same_binds : {V T : Type 0} (t : T) (bs cs : List (Binding V)) → Binds (Equal t) bs cs → cs ≡ bs
same_binds t [] [] h = refl
same_binds t [] (c ∷ cs) h = absurd h
same_binds t (b ∷ bs) [] h = absurd h
same_binds t (b ∷ bs) (c ∷ cs) h = rw (sym h.0, h.1, same_binds t bs cs h.2) refl

pub none_is : {A : Type 0} {x : Over} → None ≡ Some x → A
none_is e = absurd cc

pub here_is : {x y : Over} → Some x ≡ Some y → x ≡ y
here_is {x} e = ap (λ o. unwrap_or o x) e
