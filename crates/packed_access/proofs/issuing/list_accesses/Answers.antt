use Rattle.std.proofs.Common.{rules, ◌≡◌, ◌∙◌, ◌⊎◌, inl, inr, ℕ, ◌≤◌, ◌<◌, List, length, take, refl, sym, ap, arith}
use Rattle.std.specs.Prelude.{min}
use Rattle.std.proofs.Math.Seq.{take-length}
use Rattle.std.proofs.lemmas.Bool.{cases_lt}
use Rattle.std.proofs.lemmas.List.{take_all}
use Rattle.target_machine.specs.declared.access.RegAccess.{RegAccess}
use Rattle.packed_access.proofs.issuing.list_accesses.Goals as goal

take_within : (n : ℕ) (xs : List RegAccess) → take (min n (length xs)) xs ≡ take n xs
take_within n xs = by_length (cases_lt n (length xs))
  where
    by_length : (n < length xs) ⊎ (length xs ≤ n) → take (min n (length xs)) xs ≡ take n xs
    by_length (inl less) = (let e : min n (length xs) ≡ n = omega (arith, less) in ap (λ (k : ℕ). take k xs) e)
    by_length (inr le) = (let e : min n (length xs) ≡ length xs = omega (arith, le) in ap (λ (k : ℕ). take k xs) e ∙ take-length xs ∙ sym (take_all n xs le))

pub returns : goal.returns
returns c =
    let count : c.min-count.result ≡ min c.args.plan.now.count (length c.args.plan.now.accesses) = search rules in
    ap (λ (k : ℕ). take k c.args.plan.now.accesses) count ∙ take_within c.args.plan.now.count c.args.plan.now.accesses
