-- Need points.
use Rattle.std.proofs.Common.{◌≡◌, ◌∙◌, ℕ, zero, suc, ◌+◌, ◌^◌, ◌<◌, ◌≤◌, Bool, true, false, cond, [], ◌∷◌, ◌++◌, length, nat_lt, refl, sym, ap, arith}
use Rattle.std.proofs.Math.Nat.{zero-add}
use Rattle.target_calls.proofs.MarkLemmas.{length_marked}
use Rattle.target_calls.specs.NeedPoints.{Asks, Cost, asks_with_call, asks_at_finish, asks_at_need, needed_more, asks_at_use, with_call}
use Rattle.target_calls.specs.declared.calls.Ask.{Ask}
use Rattle.target_calls.specs.declared.calls.Slot.{Slot}
use Rattle.target_machine.specs.Lines.{grown_counter}

capped_twice : (needs few more : ℕ) → grown_counter (grown_counter needs few) more ≡ grown_counter needs (few + more)
capped_twice needs few more = omega arith

pub none_last : (n : ℕ) → n ≡ n + 0
none_last n = omega arith

some_more : (n : ℕ) (asks : Asks) → 0 < n → needed_more n asks ≡ record asks { needs = grown_counter asks.needs n; fence = length asks.calls }
some_more zero asks some = absurd (omega (arith, some))
some_more (suc n) asks some = refl

pub needed_twice : (few more : ℕ) (asks : Asks) → needed_more more (needed_more few asks) ≡ needed_more (few + more) asks
needed_twice zero more asks = ap (λ n. needed_more n asks) (sym (zero-add more))
needed_twice (suc few) zero asks = ap (λ n. needed_more n asks) (none_last (suc few))
needed_twice (suc few) (suc more) asks = ap (λ n. record asks { needs = n; fence = length asks.calls }) (capped_twice asks.needs (suc few) (suc more)) ∙ sym (some_more (suc few + suc more) asks (omega arith))

pub needed_exact : (more : ℕ) (asks : Asks) → asks.needs + more < 2 ^ 64 → (needed_more more asks).needs ≡ asks.needs + more
needed_exact zero asks h = omega arith
needed_exact (suc more) asks h = omega (arith, h)

pub needed_most : (more : ℕ) (asks : Asks) → (needed_more more asks).needs ≤ asks.needs + more
needed_most zero asks = omega arith
needed_most (suc more) asks = omega arith

pub needed_least : (more : ℕ) (asks : Asks) → asks.needs < 2 ^ 64 → asks.needs ≤ (needed_more more asks).needs
needed_least zero asks h = omega arith
needed_least (suc more) asks h = omega (arith, h)

pub needed_calls : (more : ℕ) (asks : Asks) → (needed_more more asks).calls ≡ asks.calls
needed_calls zero asks = refl
needed_calls (suc more) asks = refl

pub used_calls : (slot : Slot) (asks : Asks) → (asks_at_use slot asks).calls ≡ asks.calls
used_calls slot asks = elim (nat_lt slot.index asks.fence) as (λ b. (cond b asks (asks_at_need asks)).calls ≡ asks.calls) [ true ↦ refl | false ↦ refl ]

pub asked_calls : (cost : Cost) (ask : Ask) (asks : Asks) → (asks_with_call cost ask asks).calls ≡ asks.calls ++ ask ∷ []
asked_calls cost ask asks = needed_calls cost.after (with_call ask (needed_more cost.before asks)) ∙ ap (λ c. c ++ ask ∷ []) (needed_calls cost.before asks)

pub used_free : (slot : Slot) (asks : Asks) → slot.index < length asks.calls → asks_at_use slot (asks_at_need asks) ≡ asks_at_need asks
used_free slot asks h =
    let low : nat_lt slot.index (length asks.calls) ≡ true = grind (arith, h) in
    rw low refl

pub used_finished : (slot : Slot) (asks : Asks) → slot.index < length asks.calls → asks_at_use slot (asks_at_need (asks_at_finish asks)) ≡ asks_at_need (asks_at_finish asks)
used_finished slot asks h =
    let count = length_marked asks.calls in
    used_free slot (asks_at_finish asks) (grind (arith, h, count))

pub used_again : (slot : Slot) (asks : Asks) → slot.index < length asks.calls → asks_at_use slot (asks_at_use slot asks) ≡ asks_at_use slot asks
used_again slot asks h = one (nat_lt slot.index asks.fence) refl
  where
    one : (b : Bool) → nat_lt slot.index asks.fence ≡ b → asks_at_use slot (cond b asks (asks_at_need asks)) ≡ cond b asks (asks_at_need asks)
    one true e = rw e refl
    one false e = used_free slot asks h
