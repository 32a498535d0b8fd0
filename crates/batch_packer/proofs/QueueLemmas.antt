-- Packets sent and replies taken, one after the other.
use Rattle.std.proofs.Common.{◌≡◌, ℕ, zero, suc, ◌+◌, ◌<◌, ◌⊎◌, inl, inr, arith, take, drop, length, length-append, Option, Some, None, List, [], ◌∷◌, ◌++◌, fold, refl, ap, sym, ◌∙◌, subst}
use Rattle.std.specs.Prelude.{slice_get}
use Rattle.std.proofs.lemmas.Option.{same_Some}
use Rattle.probe_core.specs.Bench.{BenchState, HasReceived, HandsOut, IsAsBefore, Reported, StepsTo, bench_after_reply, reported_after_reply, reported_after_packet, bench_after_packet}
use Rattle.probe_core.proofs.StateSteps.{runs_self, runs_then, steps_map, steps_then}
use Rattle.batch_packer.specs.Queues.{HandedSome, ServedSome}
use Rattle.batch_packer.proofs.ChainLemmas.{drop_twice}

-- ---- packet after packet

take_next : (i : ℕ) (xs : List (List ℕ)) (x : List ℕ) → slice_get xs i ≡ Some x → take (i + 1) xs ≡ take i xs ++ x ∷ []
take_next zero [] x e = absurd (cc)
take_next zero (y ∷ xs) x e = let same : y ≡ x = same_Some y x e in ap (λ z. z ∷ []) same
take_next (suc i) [] x e = absurd (cc)
take_next (suc i) (y ∷ xs) x e = let n : suc i + 1 ≡ suc (i + 1) = omega arith in ap (λ k. take k (y ∷ xs)) n ∙ ap (λ zs. y ∷ zs) (take_next i xs x e)

served_last : (m : BenchState) (xs : List (List ℕ)) (x : List ℕ) → fold bench_after_packet m (xs ++ x ∷ []) ≡ bench_after_packet (fold bench_after_packet m xs) x
served_last m [] x = refl
served_last m (y ∷ xs) x = served_last (bench_after_packet m y) xs x

sent_last : (t : Reported) (xs : List (List ℕ)) (x : List ℕ) → fold reported_after_packet t (xs ++ x ∷ []) ≡ reported_after_packet (fold reported_after_packet t xs) x
sent_last t [] x = refl
sent_last t (y ∷ xs) x = sent_last (reported_after_packet t y) xs x

pub sent_next : (i : ℕ) (xs : List (List ℕ)) (x : List ℕ) (t u v : Reported) → slice_get xs i ≡ Some x → u ≡ fold reported_after_packet t (take i xs) → v ≡ reported_after_packet u x → v ≡ fold reported_after_packet t (take (i + 1) xs)
sent_next i xs x t u v e h k = k ∙ ap (λ w. reported_after_packet w x) h ∙ sym (sent_last t (take i xs) x) ∙ ap (fold reported_after_packet t) (sym (take_next i xs x e))

served_one : (i : ℕ) (xs : List (List ℕ)) (x : List ℕ) (m n o : BenchState) → slice_get xs i ≡ Some x → n ≡ fold bench_after_packet m (take i xs) → o ≡ bench_after_packet n x → o ≡ fold bench_after_packet m (take (i + 1) xs)
served_one i xs x m n o e h k = k ∙ ap (λ w. bench_after_packet w x) h ∙ sym (served_last m (take i xs) x) ∙ ap (fold bench_after_packet m) (sym (take_next i xs x e))

pub served_next : (i : ℕ) (xs : List (List ℕ)) (x : List ℕ) (a b c : Option BenchState) → slice_get xs i ≡ Some x → StepsTo (λ m n. n ≡ fold bench_after_packet m (take i xs)) a b → StepsTo (λ m n. n ≡ bench_after_packet m x) b c →
    StepsTo (λ m n. n ≡ fold bench_after_packet m (take (i + 1) xs)) a c
served_next i xs x a b c e h k = steps_then (λ m n o s t. served_one i xs x m n o e s t) a b c h k

some_of : (i : ℕ) (xs : List (List ℕ)) (a b : Option BenchState) → StepsTo (λ m n. n ≡ fold bench_after_packet m (take i xs)) a b → StepsTo (ServedSome xs) a b
some_of i xs a b h = steps_map (λ m n s. record { count = i; next = s }) a b h

pub served_some : (i : ℕ) (xs : List (List ℕ)) (x : List ℕ) (a : Option BenchState) (t u : Reported) (b c : Option BenchState) → slice_get xs i ≡ Some x → StepsTo (λ m n. n ≡ fold bench_after_packet m (take i xs)) a b →
    IsAsBefore (record { reported = t; state = b }) (record { reported = u; state = c }) ⊎ HasReceived x (record { reported = t; state = b }) (record { reported = u; state = c }) → StepsTo (ServedSome xs) a c
served_some i xs x a t u b c e h (inl same) = some_of i xs a c (subst (λ (y : Option BenchState). StepsTo (λ m n. n ≡ fold bench_after_packet m (take i xs)) a y) (sym same.state) h)
served_some i xs x a t u b c e h (inr received) = some_of (i + 1) xs a c (served_next i xs x a b c e h received.state)

-- ---- reply after reply

handed_last : (m : BenchState) (xs : List (List ℕ)) (x : List ℕ) → fold bench_after_reply m (xs ++ x ∷ []) ≡ bench_after_reply (fold bench_after_reply m xs) x
handed_last m [] x = refl
handed_last m (y ∷ xs) x = handed_last (bench_after_reply m y) xs x

received_last : (t : Reported) (xs : List (List ℕ)) (x : List ℕ) → fold reported_after_reply t (xs ++ x ∷ []) ≡ reported_after_reply (fold reported_after_reply t xs) x
received_last t [] x = refl
received_last t (y ∷ xs) x = received_last (reported_after_reply t y) xs x

left_waiting : (m : BenchState) (xs : List (List ℕ)) → (fold bench_after_reply m xs).probe.waiting ≡ drop (length xs) m.probe.waiting
left_waiting m [] = refl
left_waiting m (y ∷ xs) = left_waiting (bench_after_reply m y) xs ∙ drop_twice (length xs) m.probe.waiting

first_left : (n : ℕ) (ws : List (List ℕ)) (x : List ℕ) → slice_get (drop n ws) 0 ≡ Some x → slice_get ws n ≡ Some x
first_left zero ws x e = e
first_left (suc n) [] x e = absurd (cc)
first_left (suc n) (w ∷ ws) x e = first_left n ws x e

handed_one : (xs new : List (List ℕ)) (x : List ℕ) (m n o : BenchState) → new ≡ xs ++ x ∷ [] → HandedSome xs m n → HandsOut x n o → HandedSome new m o
handed_one xs new x m n o is h out =
    let waits : slice_get m.probe.waiting (length xs) ≡ Some x =
    first_left (length xs) m.probe.waiting x (ap (λ ws. slice_get ws 0) (sym (ap (λ (b : BenchState). b.probe.waiting) h.next ∙ left_waiting m xs)) ∙ out.oldest) in
    let count : length new ≡ length xs + 1 = ap length is ∙ length-append xs (x ∷ []) in
    record {
      front = ap (λ k. take k m.probe.waiting) count ∙ take_next (length xs) m.probe.waiting x waits ∙ ap (λ ys. ys ++ x ∷ []) h.front ∙ sym is;
      next = out.next ∙ ap (λ b. bench_after_reply b x) h.next ∙ sym (handed_last m xs x) ∙ ap (fold bench_after_reply m) (sym is);
    }

pub handed_next : (xs new : List (List ℕ)) (x : List ℕ) (a b c : Option BenchState) → new ≡ xs ++ x ∷ [] → StepsTo (HandedSome xs) a b → StepsTo (HandsOut x) b c → StepsTo (HandedSome new) a c
handed_next xs new x a b c is h k = steps_then (λ m n o s t. handed_one xs new x m n o is s t) a b c h k

pub handed_same : (xs : List (List ℕ)) (a b c : Option BenchState) → c ≡ b → StepsTo (HandedSome xs) a b → StepsTo (HandedSome xs) a c
handed_same xs a b c same h = subst (λ (y : Option BenchState). StepsTo (HandedSome xs) a y) (sym same) h

pub received_next : (xs new : List (List ℕ)) (x : List ℕ) (t u v : Reported) → new ≡ xs ++ x ∷ [] → u ≡ fold reported_after_reply t xs → v ≡ reported_after_reply u x → v ≡ fold reported_after_reply t new
received_next xs new x t u v is h k = k ∙ ap (λ w. reported_after_reply w x) h ∙ sym (received_last t xs x) ∙ ap (fold reported_after_reply t) (sym is)

pub none_handed : (a : Option BenchState) → StepsTo (HandedSome []) a a
none_handed None = tt
none_handed (Some m) = record { front = refl; next = refl }

pub one_fewer : (t u v : Reported) (x : List ℕ) (k n : ℕ) → v ≡ reported_after_reply u x → u.waiting + k ≡ n → k < n → v.waiting + (k + 1) ≡ n
one_fewer t u v x k n h e below = let w = ap (λ (y : Reported). y.waiting) h in omega arith

pub one_longer : (xs new : List (List ℕ)) (x : List ℕ) (n : ℕ) → new ≡ xs ++ x ∷ [] → length xs ≡ n → length new ≡ n + 1
one_longer xs new x n is e = let s = ap length is ∙ length-append xs (x ∷ []) in omega arith

pub ruleset handing = (none_handed, handed_same, runs_then, runs_self)
