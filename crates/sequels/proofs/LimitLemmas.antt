-- What comes of a sequel where only so many calls are answered.
use Rattle.std.proofs.Common.{◌≡◌, ◌∙◌, ◌⊎◌, inl, inr, ℕ, zero, suc, Bool, true, false, cond, ◌||◌, List, [], ◌∷◌, ◌++◌, append_assoc, append-nil, Option, None, refl, sym, ap, subst, arith}
use Rattle.target_calls.specs.Asks.{settled_last}
use Rattle.target_calls.specs.World.{World, done_now, end_result, is_faulted, is_over, next_world, one_fewer, stops_here}
use Rattle.target_calls.specs.declared.calls.Ask.{Ask}
use Rattle.target_calls.proofs.MarkLemmas.{marked_same, marked_settled}
use Rattle.sequels.specs.Sequel.{Sequel, Ends, Asks, Writes, Comes, comes, stopped_at, call_first, line_first}
use Rattle.sequels.specs.Limits.{GoesOnFrom, IsLimited, limited_world}

-- one more call before both
more_call : {X : Type 0} (ask : Ask) (m : ℕ) (whole short : Comes X) → IsLimited m whole short → IsLimited (suc m) (call_first ask whole) (call_first ask short)
more_call ask m whole short (inl h) = inl (record { few = (let few = h.few in omega (arith, few)); same = ap (call_first ask) h.same })
more_call ask m whole short (inr h) = inr (record {
  none = h.none;
  count = (let count = h.count in omega (arith, count));
  more = h.more;
  calls = ap (λ (l : List Ask). ask ∷ l) h.calls;
  further = h.further;
  written = h.written;
})

more_line : {X : Type 0} (line : List ℕ) (m : ℕ) (whole short : Comes X) → IsLimited m whole short → IsLimited m (line_first line whole) (line_first line short)
more_line line m whole short (inl h) = inl (record { few = h.few; same = ap (line_first line) h.same })
more_line line m whole short (inr h) = inr (record {
  none = h.none;
  count = h.count;
  more = h.more;
  calls = h.calls;
  further = h.further;
  written = ap (λ (l : List ℕ). line ++ l) h.written ∙ sym (append_assoc line short.written h.further);
})

pub limit_comes : {X : Type 0} (w : World) (m : ℕ) (s : Sequel X) → w.answered ≡ None → IsLimited m (comes w s) (comes (limited_world w m) s)
limit_comes w m (Ends x) free = inl (record { few = omega arith; same = refl })
limit_comes {X = X} w zero (Asks ask on) free = one (stops_here w ask)
  where
    cut : (c : Comes X) → IsLimited 0 (call_first ask c) (stopped_at ask)
    cut c = inr (record { none = refl; count = refl; more = c.calls; calls = refl; further = c.written; written = refl })

    one : (b : Bool) → IsLimited 0 (cond b (stopped_at ask) (call_first ask (comes (next_world w ask) (on (end_result (done_now w ask).end))))) (stopped_at ask)
    one true = inr (record { none = refl; count = refl; more = []; calls = refl; further = []; written = refl })
    one false = cut (comes (next_world w ask) (on (end_result (done_now w ask).end)))
limit_comes {X = X} w (suc m) (Asks ask on) free =
    subst (λ (o : Option ℕ). IsLimited (suc m) (cond (is_over o || f) (stopped_at ask) (call_first ask first)) (cond f (stopped_at ask) (call_first ask second))) (sym free)
    (one f (limit_comes (next_world w ask) m (on (end_result (done_now w ask).end)) (ap one_fewer free)))
  where
    f : Bool
    f = is_faulted (done_now w ask).end

    first : Comes X
    first = comes (next_world w ask) (on (end_result (done_now w ask).end))

    second : Comes X
    second = comes (limited_world (next_world w ask) m) (on (end_result (done_now w ask).end))

    one : (b : Bool) → IsLimited m first second → IsLimited (suc m) (cond b (stopped_at ask) (call_first ask first)) (cond b (stopped_at ask) (call_first ask second))
    one true h = inl (record { few = omega arith; same = refl })
    one false h = more_call ask m first second h
limit_comes w m (Writes line on) free = more_line line m (comes w on) (comes (limited_world w m) on) (limit_comes w m on free)

-- ---- calls that go on from others

pub from_same : (calls : List Ask) → GoesOnFrom calls calls
from_same calls = record { more = []; so = inl (sym (append-nil calls)) }

settled_front : (xs : List Ask) (y : Ask) (ys : List Ask) → settled_last (xs ++ y ∷ ys) ≡ xs ++ settled_last (y ∷ ys)
settled_front [] y ys = refl
settled_front (x ∷ []) y ys = refl
settled_front (x ∷ z ∷ xs) y ys = ap (λ (l : List Ask). x ∷ l) (settled_front (z ∷ xs) y ys)

settled_nil : (xs : List Ask) → settled_last (xs ++ []) ≡ settled_last xs
settled_nil xs = ap settled_last (append-nil xs)

-- one after the other
pub from_on : (a b c : List Ask) → GoesOnFrom a b → GoesOnFrom b c → GoesOnFrom a c
from_on a b c g h = by_first g.so h.so
  where
    settled_joined : (xs more : List Ask) → ((rest : List Ask) × (settled_last (xs ++ more) ≡ xs ++ rest)) ⊎ (settled_last (xs ++ more) ≡ settled_last xs)
    settled_joined xs [] = inr (settled_nil xs)
    settled_joined xs (y ∷ ys) = inl (settled_last (y ∷ ys), settled_front xs y ys)

    twice : (xs more : List Ask) → ((rest : List Ask) × (settled_last (settled_last xs ++ more) ≡ settled_last xs ++ rest))
    twice xs [] = ([], settled_nil (settled_last xs) ∙ marked_same (settled_last xs) (marked_settled xs) ∙ sym (append-nil (settled_last xs)))
    twice xs (y ∷ ys) = (settled_last (y ∷ ys), settled_front (settled_last xs) y ys)

    by_first : (b ≡ a ++ g.more) ⊎ (b ≡ settled_last a ++ g.more) → (c ≡ b ++ h.more) ⊎ (c ≡ settled_last b ++ h.more) → GoesOnFrom a c
    by_first (inl e) (inl f) = record { more = g.more ++ h.more; so = inl (f ∙ ap (λ (l : List Ask). l ++ h.more) e ∙ append_assoc a g.more h.more) }
    by_first (inr e) (inl f) = record { more = g.more ++ h.more; so = inr (f ∙ ap (λ (l : List Ask). l ++ h.more) e ∙ append_assoc (settled_last a) g.more h.more) }
    by_first (inl e) (inr f) = one (settled_joined a g.more)
      where
        at : c ≡ settled_last (a ++ g.more) ++ h.more
        at = f ∙ ap (λ (l : List Ask). settled_last l ++ h.more) e

        one : ((rest : List Ask) × (settled_last (a ++ g.more) ≡ a ++ rest)) ⊎ (settled_last (a ++ g.more) ≡ settled_last a) → GoesOnFrom a c
        one (inl r) = record { more = r.0 ++ h.more; so = inl (at ∙ ap (λ (l : List Ask). l ++ h.more) r.1 ∙ append_assoc a r.0 h.more) }
        one (inr r) = record { more = h.more; so = inr (at ∙ ap (λ (l : List Ask). l ++ h.more) r) }
    by_first (inr e) (inr f) =
        let r = twice a g.more in
        record { more = r.0 ++ h.more; so = inr (f ∙ ap (λ (l : List Ask). settled_last l ++ h.more) e ∙ ap (λ (l : List Ask). l ++ h.more) r.1 ∙ append_assoc (settled_last a) r.0 h.more) }
