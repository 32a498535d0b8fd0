-- Values that are used one after the other.
use Rattle.std.proofs.Common.{◌≡◌, ℕ, zero, suc, ◌+◌, ◌*◌, ◌%◌, ◌^◌, ◌<◌, ◌≤◌, List, [], ◌∷◌, ◌++◌, length, drop, get_or, Ok, Err, refl, sym, ap, subst, ◌∙◌, arith}
use Rattle.std.proofs.Math.Nat.{add-mod-mod}
use Rattle.std.proofs.lemmas.List.{append_assoc, append-nil, drop_more}
use Rattle.dap_base.specs.Outcome.{◌>>=◌}
use Rattle.target_calls.specs.declared.calls.Value.{Value}
use Rattle.target_calls.specs.declared.calls.Value.TheVariants.{Number}
use Rattle.target_calls.specs.NeedPoints.{Asks, Costs, asks_at_need}
use Rattle.target_calls.specs.World.{World}
use Rattle.access_calls.specs.Reported.{AccessView}
use Rattle.sequence_rules.specs.Calls.{use_now, low_and_high}
use Rattle.sequence_rules.specs.Machine.{State, Out, with_rest, end_state}
use Rattle.sequence_rules.specs.Late.{Late, late, late_of, Later}
use Rattle.sequence_rules.specs.Values.{all_used, both}
use Rattle.access_calls.proofs.KeepLemmas.{goes_same, goes_trans}
use Rattle.function_calls.specs.declared.end.End.{End}
use Rattle.function_calls.specs.Ends.{EndsLate}
use Rattle.function_calls.proofs.Leaves.{ends_on, later_bind, later_ok, later_all_used, left_on}

abbrev S : Type 0
S = State Value Late

abbrev O : Type 0 → Type 0
O A = Out Value Late A

-- the numbers so far, and those of the rest
abbrev pub with_rest_of : List ℕ → O (List ℕ) → O (List ℕ)
with_rest_of got out = out >>= λ y. Ok (got ++ y.0, y.1)

joined : (got : List ℕ) (n : ℕ) (out : O (List ℕ)) → with_rest_of got (out >>= λ y. Ok (n ∷ y.0, y.1)) ≡ with_rest_of (got ++ n ∷ []) out
joined got n (Ok x) = ap (λ l. Ok (l, x.1)) (sym (append_assoc got (n ∷ []) x.0))
joined got n (Err e) = refl

module _ (cost : Costs) (w : World) where
  one_more : (vs : List Value) (i : ℕ) (d : Value) (s : S) → i < length vs
      → all_used (late cost w) (drop i vs) s ≡ (use_now (late cost w) (get_or vs i d) s >>= λ x. all_used (late cost w) (drop (i + 1) vs) x.1 >>= λ y. Ok (x.0 ∷ y.0, y.1))
  unfolding all_used
  one_more vs i d s h = rw (drop_more vs i d h) refl

  pub all_on : (total : O (List ℕ)) (vs : List Value) (i : ℕ) (d v : Value) (got now : List ℕ) (n : ℕ) (s r : S) → total ≡ with_rest_of got (all_used (late cost w) (drop i vs) s) → i < length vs → v ≡ get_or vs i d
      → use_now (late cost w) v s ≡ Ok (n, r) → now ≡ got ++ n ∷ [] → total ≡ with_rest_of now (all_used (late cost w) (drop (i + 1) vs) r)
  all_on total vs i d v got now n s r same h item is more =
      same ∙ ap (with_rest_of got) (one_more vs i d s h)
      ∙ ap (λ x. with_rest_of got (use_now (late cost w) x s >>= λ x. all_used (late cost w) (drop (i + 1) vs) x.1 >>= λ y. Ok (x.0 ∷ y.0, y.1))) (sym item)
      ∙ ap (λ o. with_rest_of got (o >>= λ x. all_used (late cost w) (drop (i + 1) vs) x.1 >>= λ y. Ok (x.0 ∷ y.0, y.1))) is
      ∙ joined got n (all_used (late cost w) (drop (i + 1) vs) r)
      ∙ ap (λ l. with_rest_of l (all_used (late cost w) (drop (i + 1) vs) r)) (sym more)

  pub all_fail : (reached : AccessView) (e : End) (total : O (List ℕ)) (vs : List Value) (i : ℕ) (d v : Value) (got : List ℕ) (s r : S) → total ≡ with_rest_of got (all_used (late cost w) (drop i vs) s) → i < length vs → v ≡ get_or vs i d
      → EndsLate w reached e r (use_now (late cost w) v s) → EndsLate w reached e r total
  all_fail reached e total vs i d v got s r same h item ends =
      rw (same ∙ ap (with_rest_of got) (one_more vs i d s h))
      (ends_on w reached e r _ _
      (ends_on w reached e r (use_now (late cost w) (get_or vs i d) s) _ (subst (λ x. EndsLate w reached e r (use_now (late cost w) x s)) item ends)
      (λ x. later_bind w x.1 _ _ (later_all_used cost w (drop (i + 1) vs) x.1) (λ y. later_ok w y.1 _)))
      (λ y. later_ok w y.1 _))

  pub all_over : (total : O (List ℕ)) (vs : List Value) (i : ℕ) (got : List ℕ) (s : S) → total ≡ with_rest_of got (all_used (late cost w) (drop i vs) s) → length vs ≤ i → total ≡ Ok (got, s)
  unfolding all_used
  all_over total vs i got s same h = same ∙ rw (nothing vs i h) (ap (λ l. Ok (l, s)) (append-nil got))
    where
      nothing : (xs : List Value) (k : ℕ) → length xs ≤ k → drop k xs ≡ []
      nothing [] zero q = refl
      nothing [] (suc k) q = refl
      nothing (x ∷ xs) zero q = absurd (omega arith)
      nothing (x ∷ xs) (suc k) q = nothing xs k (omega arith)

  -- memory was refused for a number
  pub all_refused : (total : O (List ℕ)) (vs : List Value) (i : ℕ) (got : List ℕ) (s : S) → total ≡ with_rest_of got (all_used (late cost w) (drop i vs) s) → Later w s.rest (end_state total).rest
  all_refused total vs i got s same = rw same (later_bind w s _ _ (later_all_used cost w (drop i vs) s) (λ y. later_ok w y.1 _)).so

-- ---- the value of `Read64`

pub joined_is : (low high p n : ℕ) → p ≡ (high * 2 ^ 32) % 2 ^ 64 → n ≡ (low + p) % 2 ^ 64 → n ≡ (low + high * 2 ^ 32) % 2 ^ 64
joined_is low high p n product sum = sum ∙ ap (λ x. (low + x) % 2 ^ 64) product ∙ add-mod-mod low (high * 2 ^ 32) (2 ^ 64)

module _ (cost : Costs) (w : World) (low high : Value) (s : S) (b : Asks) (is : b ≡ asks_at_need s.rest.asks) where
  confirmed_as : with_rest s ((late cost w).confirmed s.rest) ≡ with_rest s (late_of b s.rest.written)
  unfolding late
  confirmed_as = ap (λ a. with_rest s (late_of a s.rest.written)) (sym is)

  by_confirmed : low_and_high (late cost w) low high s ≡ (both (late cost w) low high (with_rest s ((late cost w).confirmed s.rest)) >>= λ x. Ok ((late cost w).number ((x.0.0 + x.0.1 * 2 ^ 32) % 2 ^ 64), x.1))
  unfolding low_and_high both use_now
  by_confirmed = refl

  by_both : low_and_high (late cost w) low high s ≡ (both (late cost w) low high (with_rest s (late_of b s.rest.written)) >>= λ x. Ok ((late cost w).number ((x.0.0 + x.0.1 * 2 ^ 32) % 2 ^ 64), x.1))
  by_both = by_confirmed ∙ ap (λ q. both (late cost w) low high q >>= λ x. Ok ((late cost w).number ((x.0.0 + x.0.1 * 2 ^ 32) % 2 ^ 64), x.1)) confirmed_as

  pub read64_on : (x y n : ℕ) (now : S) → both (late cost w) low high (with_rest s (late_of b s.rest.written)) ≡ Ok ((x, y), now) → n ≡ (x + y * 2 ^ 32) % 2 ^ 64 → low_and_high (late cost w) low high s ≡ Ok (Number n, now)
  unfolding late
  read64_on x y n now h value = by_both ∙ rw h (rw value refl)

  pub read64_ends : (reached : AccessView) (e : End) (now : S) → EndsLate w reached e now (both (late cost w) low high (with_rest s (late_of b s.rest.written))) → EndsLate w reached e now (low_and_high (late cost w) low high s)
  read64_ends reached e now h = rw by_both (ends_on w reached e now _ _ h (λ x. later_ok w x.1 _))

pub ruleset using_all = (goes_trans, goes_same, left_on)
