-- A run on two machines starts alike.
use Rattle.std.proofs.Common.{ℕ, List, [], ◌∷◌, refl}
use Rattle.sequence_rules.specs.declared.bindings.Binding.{Binding}
use Rattle.sequence_rules.specs.Alike.{Binds, Alike, EndRelation, Matches, Equal, Tracks}
use Rattle.sequence_rules.specs.Machine.{Machine}
use Rattle.sequence_rules.specs.Runs.{Program, as_values, run_on}
use Rattle.sequence_rules.specs.Steps.{start_state, declared_names}
use Rattle.sequence_rules.proofs.Matching.{binds_all_new, run_of_of}

module _ {V W T U : Type 0} (m : Machine V T) (d : Machine W U) (Val : T → V → W → Type 0) (R : ℕ → T → U → Type 0) (P : T → T → Type 0) (D : EndRelation T U) (h : Tracks m d Val R P D) where
  numbers_alike : (t : T) (bs : List (Binding ℕ)) → Binds (Val t) (as_values m bs) (as_values d bs)
  numbers_alike t [] = tt
  numbers_alike t (b ∷ bs) = (refl, h.number t b.value, numbers_alike t bs)

  start_alike : (p : Program) (t : T) (u : U) → R 0 t u → Alike Val R (start_state m p.turn_us p.set (as_values m p.predefined) t) (start_state d p.turn_us p.set (as_values d p.predefined) u)
  start_alike p t u r = record {
    globals = binds_all_new (Val t) (as_values m p.predefined) (as_values d p.predefined) (declared_names p.set.debugvars) _ _ (numbers_alike t p.predefined) (h.number t 0);
    locals = tt;
    units = refl;
    lines = refl;
    steps = refl;
    rest = r;
  }

  -- what comes of a whole run on both
  pub runs_alike : (p : Program) (t : T) (u : U) → R 0 t u → Matches Val R D Equal (run_on m p t) (run_on d p u)
  runs_alike p t u r = run_of_of m d Val R P D h p.turn_us p.set p.start _ _ (start_alike p t u r)
