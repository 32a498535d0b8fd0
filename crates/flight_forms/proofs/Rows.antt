-- Accesses one after the other, where all before them were good.
use Rattle.std.proofs.Common.{◌≡◌, ℕ, ◌+◌, ◌≤◌, false, cond, List, [], ◌∷◌, ◌++◌, take, length, refl, ap, ◌∙◌, arith, suc, zero, subst, Some, None}
use Rattle.target_machine.specs.State.{TargetState}
use Rattle.target_machine.specs.Attempt.{attempt}
use Rattle.target_machine.proofs.AccessLaws.{attempt_keeps}
use Rattle.target_machine.specs.declared.access.RegAccess.{RegAccess}
use Rattle.dap_messages.specs.declared.request.Request.{Request}
use Rattle.dap_messages.specs.declared.request.Response.{Response}
use Rattle.dap_messages.specs.declared.request.Response.TheVariants.{Good}
use Rattle.dap_transfer.specs.Laws.{one_at_a_time, value_now}
use Rattle.flight_forms.specs.Flights.{AreClear, Performs, slot_values}

pub take_past : (rs : List Request) (n : ℕ) → length rs ≤ n → take n rs ≡ rs
take_past [] zero h = refl
take_past [] (suc n) h = refl
take_past (r ∷ rs) zero h = absurd (omega arith)
take_past (r ∷ rs) (suc n) h = ap (λ xs. r ∷ xs) (take_past rs n (omega arith))

pub take_all : (xs : List RegAccess) → take (length xs) xs ≡ xs
take_all [] = refl
take_all (x ∷ xs) = ap (λ ys. x ∷ ys) (take_all xs)

pub take_front : (k : ℕ) (xs ys : List RegAccess) → k ≤ length xs → take k (xs ++ ys) ≡ take k xs
take_front zero xs ys h = refl
take_front (suc k) [] ys h = absurd (omega arith)
take_front (suc k) (x ∷ xs) ys h = ap (λ zs. x ∷ zs) (take_front k xs ys (omega arith))

pub take_after : (xs ys : List RegAccess) (n k : ℕ) → n ≡ length xs + k → take n (xs ++ ys) ≡ xs ++ take k ys
take_after [] ys n k e = let same : n ≡ k = omega arith in ap (λ m. take m ys) same
take_after (x ∷ xs) ys zero k e = absurd (omega arith)
take_after (x ∷ xs) ys (suc n) k e = ap (λ zs. x ∷ zs) (take_after xs ys n k (omega arith))

pub one-append : (t : TargetState) (xs ys : List RegAccess) → one_at_a_time t (xs ++ ys) ≡ one_at_a_time (one_at_a_time t xs) ys
one-append t [] ys = refl
one-append t (x ∷ xs) ys = one-append (attempt t x).next xs ys

pub clear-append : (t : TargetState) (xs ys : List RegAccess) → AreClear t xs → AreClear (one_at_a_time t xs) ys → AreClear t (xs ++ ys)
clear-append t [] ys h k = k
clear-append t (x ∷ xs) ys h k = (h.0, clear-append (attempt t x).next xs ys h.1 k)

pub clear_end : (t : TargetState) (xs : List RegAccess) → AreClear t xs → (one_at_a_time t xs).sticky ≡ false
clear_end t [] h = h
clear_end t (x ∷ xs) h = clear_end (attempt t x).next xs h.1

pub slots-append : (t : TargetState) (xs ys : List RegAccess) → slot_values t xs ++ slot_values (one_at_a_time t xs) ys ≡ slot_values t (xs ++ ys)
slots-append t [] ys = refl
slots-append t (x ∷ xs) ys = ap (λ zs. cond x.read (Some (value_now t x)) None ∷ zs) (slots-append (attempt t x).next xs ys)

pub dpidr_stays : (t : TargetState) (xs : List RegAccess) → (one_at_a_time t xs).dpidr ≡ t.dpidr
dpidr_stays t [] = refl
dpidr_stays t (x ∷ xs) = dpidr_stays (attempt t x).next xs ∙ (let kept = attempt_keeps t x in kept.dpidr)

-- where all went well
pub good_whole : {t u : TargetState} {xs : List RegAccess} {k c : ℕ} {x : Response} → Performs t u xs k c x → x ≡ Good → (k ≡ length xs) × (c ≡ length xs) × (u ≡ one_at_a_time t xs) × AreClear t xs
good_whole {t = t} {u = u} {xs = xs} {k = k} {c = c} h e =
    let c_is : c ≡ length xs = h.whole e in
    let k_is : k ≡ length xs = (let a = h.near in let b = h.most in omega arith) in (
      k_is,
      c_is,
      h.target ∙ ap (λ n. one_at_a_time t (take n xs)) k_is ∙ ap (one_at_a_time t) (take_all xs),
      subst (AreClear t) (ap (λ n. take n xs) c_is ∙ take_all xs) h.clear,
    )
