-- Cuts of a run.
use Rattle.std.proofs.Common.{◌≡◌, ℕ, ◌+◌, ◌⊎◌, inl, inr, List, [], ◌∷◌, length, take, Option, None, refl, sym, ap, subst, ◌∙◌, arith}
use Rattle.std.proofs.lemmas.List.{length-append}
use Rattle.target_calls.specs.World.{start_world, world_after}
use Rattle.target_calls.specs.declared.calls.Ask.{Ask}
use Rattle.target_machine.specs.State.{TargetState}
use Rattle.sequence_rules.specs.Late.{Grows}
use Rattle.sequence_rules.specs.Laws.{IsWhole, IsCutShort, IsCutFront}
use Rattle.sequence_rules.specs.Runs.{Program, Outcome, outcome, outcome_within, units_of, target_at, written_before}
use Rattle.sequence_rules.proofs.LateLemmas.{grows_same}
use Rattle.sequence_rules.proofs.Limits.{limit_cuts}
use Rattle.sequence_rules.proofs.Made.{no_cost, are_made}
use Rattle.sequence_rules.proofs.Writing.{only_written}

take_all : (xs : List Ask) → take (length xs) xs ≡ xs
take_all [] = refl
take_all (x ∷ xs) = ap (λ ys. x ∷ ys) (take_all xs)

module _ (p : Program) (t : TargetState) (written : Option (List ℕ)) where
  abbrev o : Outcome
  o = outcome p t written

  same_calls : (outcome p t None).calls ≡ o.calls
  same_calls = ap (λ (x : Outcome). x.calls) (only_written no_cost (start_world t None) p written None).outcome

  whole_target : target_at (units_of o) p t ≡ o.target
  whole_target =
      ap (λ c. (world_after (start_world t None) (take (units_of o) c)).target) same_calls
      ∙ ap (λ c. (world_after (start_world t None) c).target) (take_all o.calls)
      ∙ sym (are_made (start_world t None) p written).made.target

  whole_by : IsWhole (units_of o) o (outcome_within (units_of o) p t written) ⊎ IsCutShort (units_of o) o (outcome_within (units_of o) p t written) → written_before (units_of o) p t written ≡ o.written
  whole_by (inl h) = ap (λ (x : Outcome). x.written) h.same
  whole_by (inr h) =
      let e = h.units in
      let all : length o.calls ≡ length (outcome_within (units_of o) p t written).calls + length h.more = ap (λ (c : List Ask). length c) h.calls ∙ length-append (outcome_within (units_of o) p t written).calls h.more in
      absurd (omega (arith, e, all))

  whole_written : written_before (units_of o) p t written ≡ o.written
  whole_written = whole_by (limit_cuts (units_of o) p t written)

  front_by : (m : ℕ) → IsWhole m o (outcome_within m p t written) ⊎ IsCutShort m o (outcome_within m p t written) → Grows (written_before m p t written) o.written
  front_by m (inl h) = subst (λ (x : Outcome). Grows x.written o.written) (sym h.same) (grows_same o.written)
  front_by m (inr h) = h.lines

  pub is_cut : IsCutFront p t written
  is_cut = record {
    target = whole_target;
    written = whole_written;
    front = λ m. front_by m (limit_cuts m p t written);
  }
