-- Guarded chains.
use Rattle.std.proofs.Common.{◌≡◌, eqb, ℕ, ◌+◌, ◌-◌, ◌^◌, ◌≤◌, false, cond, List, [], ◌∷◌, ◌++◌, take, length, refl, ap, sym, ◌∙◌, arith, subst, inl, inr, length-append}
use Rattle.std.specs.Prelude.{bit_and, min}
use Rattle.std.specs.List.{AllByRecursion}
use Rattle.target_machine.specs.State.{TargetState}
use Rattle.target_machine.specs.declared.access.RegAccess.{RegAccess}
use Rattle.dap_messages.specs.declared.request.Response.{Response}
use Rattle.dap_messages.specs.declared.request.Response.TheVariants.{Good, Wait, Fault, Mismatch}
use Rattle.dap_messages.specs.Requests.{mask_request}
use Rattle.target_machine.specs.Counts.{one_if}
use Rattle.dap_transfer.specs.Laws.{one_at_a_time}
use Rattle.dap_transfer.specs.State.{Setting, TransferState, Transferred, grown_work, is_wait}
use Rattle.dap_transfer.specs.Transfer.{transfer_result}
use Rattle.dap_transfer.proofs.Guards.{match_shuts}
use Rattle.dap_transfer.proofs.Prefix.{good_or_not}
use Rattle.flight_forms.specs.Packing.{guarded_requests, payload}
use Rattle.flight_forms.specs.Flights.{AreClear, DoesPart, Part, slot_values}
use Rattle.flight_forms.specs.Chains.{AllTaken, CutAs, DoesChain, IsCutOnce, IsGuardOpen, IsGuardShut, IsShut, LeavesGuard, all_of, chain_after, chain_part, chain_replies, guarded_part, joined_as, nothing_yet}
use Rattle.flight_forms.proofs.Guarded.{DoesGuarded, does_guarded, leaves_by}
use Rattle.flight_forms.proofs.Rows.{clear-append, good_whole, one-append, slots-append, take_after, take_all, take_front}
use Rattle.dap_transfer.specs.WireTransfer.{RetryIsOver}

grown_twice : (w v a b : ℕ) → v ≡ grown_work w a → grown_work v b ≡ grown_work w (a + b)
grown_twice w v a b e = omega arith

no_wait_one : (x : Response) → x ≡ Good → one_if (is_wait x) ≡ 0
no_wait_one x e = ap (λ y. one_if (is_wait y)) e

no_wait : (x : Response) (n m : ℕ) → x ≡ Good → cond {A = ℕ} (is_wait x) n m ≡ m
no_wait x n m e = ap (λ y. cond {A = ℕ} (is_wait y) n m) e

-- a part that came to its end, and one after it
part_joined : (p q r : TransferState) (xs ys : List RegAccess) (a b : Part) → a.response ≡ Good → DoesPart p q xs a → DoesPart q r ys b → DoesPart p r (xs ++ ys) (joined_as Good a b)
part_joined p q r xs ys a b e first last =
    let t : TargetState = p.line.target in
    let u : TargetState = q.line.target in
    let good = good_whole first.made e in
    let made = last.made in
    let both : take (a.performed + b.performed) (xs ++ ys) ≡ xs ++ take b.performed ys = take_after xs ys (a.performed + b.performed) b.performed (let z = good.0 in omega arith) in
    let sure : take (a.confirmed + b.confirmed) (xs ++ ys) ≡ xs ++ take b.confirmed ys = take_after xs ys (a.confirmed + b.confirmed) b.confirmed (let z = good.1 in omega arith) in
    let length_is : length (xs ++ ys) ≡ length xs + length ys = length-append xs ys in
    let a_taken : take a.confirmed xs ≡ xs = ap (λ n. take n xs) good.1 ∙ take_all xs in
    record {
      made = record {
        most = (let z = good.0 in let y = made.most in omega arith);
        doubt = made.doubt;
        near = (let z = good.0 in let y = good.1 in let x = made.near in omega arith);
        target = made.target ∙ ap (λ v. one_at_a_time v (take b.performed ys)) good.2 ∙ sym (one-append t xs (take b.performed ys)) ∙ ap (one_at_a_time t) (sym both);
        clear = subst (AreClear t) (sym sure) (clear-append t xs (take b.confirmed ys) good.3 (subst (λ v. AreClear v (take b.confirmed ys)) good.2 made.clear));
        whole = λ f. (let z = good.1 in let y = made.whole f in omega arith);
        short = λ bad. (let z = good.1 in let y = made.short bad in omega arith);
        fault = made.fault;
        never = made.never;
      };
      values =
          (λ i. first.values i ++ last.values i)
          ∙ (λ i. slot_values t (a_taken i) ++ slot_values (good.2 i) (take b.confirmed ys))
          ∙ slots-append t xs (take b.confirmed ys) ∙ ap (slot_values t) (sym sure);
      work = last.work ∙ grown_twice p.work q.work a.performed b.performed first.work;
      setting = last.setting ∙ first.setting;
      retries = last.retries ∙ ap (λ n. cond (is_wait b.response) (min (n + 1) (2 ^ 32 - 1)) n) (first.retries ∙ no_wait a.response (min (p.ended_retries + 1) (2 ^ 32 - 1)) p.ended_retries e);
      pending = λ f. (let z = good.0 in let y = good.1 in let x = last.pending f in omega arith);
      number = (let y = first.number in let x = last.number in let w = no_wait_one a.response e in omega arith);
      over = λ f. subst (λ (s : Setting). RetryIsOver s r.line.number) first.setting (last.over f);
    }

-- a part after which nothing was done
part_front : (p q : TransferState) (xs ys : List RegAccess) (a : Part) → (a.response ≡ Good → ⊥) → DoesPart p q xs a → DoesPart p q (xs ++ ys) a
part_front p q xs ys a bad h =
    let t : TargetState = p.line.target in
    let made = h.made in
    let fits : a.performed ≤ length xs = made.most in
    let sure : a.confirmed ≤ length xs = (let z = made.near in omega arith) in
    record {
      made = record {
        most = (let z = length-append xs ys in omega arith);
        doubt = made.doubt;
        near = made.near;
        target = made.target ∙ ap (one_at_a_time t) (sym (take_front a.performed xs ys fits));
        clear = subst (AreClear t) (sym (take_front a.confirmed xs ys sure)) made.clear;
        whole = λ e. absurd (bad e);
        short = λ _. (let z = length-append xs ys in let y = made.short bad in omega arith);
        fault = made.fault;
        never = made.never;
      };
      values = h.values ∙ ap (slot_values t) (sym (take_front a.confirmed xs ys sure));
      work = h.work;
      setting = h.setting;
      retries = h.retries;
      pending = h.pending;
      number = h.number;
      over = h.over;
    }

pub shut_now : (q : TransferState) (accesses : List RegAccess) → IsGuardShut q → transfer_result q (guarded_requests accesses) ≡ record { executed = 0; response = Mismatch; words = []; next = q }
shut_now q accesses shut =
    match_shuts q 0 (mask_request 1 ∷ payload accesses ++ mask_request 0 ∷ []) shut.matches (ap (λ m. eqb (bit_and q.line.target.dpidr m) 0) shut.mask ∙ shut.dpidr)

-- commands that are not let in
pub all_shut : (q : TransferState) (parts : List (List RegAccess)) → IsGuardShut q → AllByRecursion IsShut (chain_replies q parts) × (chain_after q parts ≡ q)
all_shut q [] shut = (tt, refl)
all_shut q (accesses ∷ parts) shut =
    let d : Transferred = transfer_result q (guarded_requests accesses) in
    let is = shut_now q accesses shut in
    let next : d.next ≡ q = ap (λ (x : Transferred). x.next) is in
    let rest = all_shut q parts shut in (
      (
        record {
          response = ap (λ (x : Transferred). x.response) is;
          executed = ap (λ (x : Transferred). x.executed) is;
          words = ap (λ (x : Transferred). x.words) is;
        },
        subst (λ (v : TransferState). AllByRecursion IsShut (chain_replies v parts)) (sym next) rest.0,
      ),
      ap (λ (v : TransferState). chain_after v parts) next ∙ rest.1,
    )

none_done : (p : TransferState) → p.line.target.sticky ≡ false → DoesPart p p [] nothing_yet
none_done p clear = record {
  made = record { most = omega arith; doubt = false; near = omega arith; target = refl; clear = clear; whole = λ e. refl; short = λ bad. absurd (bad refl); fault = λ e. absurd (cc); never = λ e. cc };
  values = refl;
  work = omega arith;
  setting = refl;
  retries = refl;
  pending = λ e. absurd (cc);
  number = omega arith;
  over = λ e. absurd (cc);
}

cut_here : (x : Response) (p q r : TransferState) (xs ys : List RegAccess) (a b : Part) (replies : List Transferred) (rest : Type 0) → a.response ≡ x → (x ≡ Good → ⊥) → (x ≡ Mismatch → ⊥) →
    DoesPart p q xs a → LeavesGuard x q → (IsGuardShut q → AllByRecursion IsShut replies × (r ≡ q)) →
    DoesPart p r (xs ++ ys) (joined_as x a b) × LeavesGuard (joined_as x a b).response r × CutAs x replies rest
cut_here Good p q r xs ys a b replies rest e bad never part guard shut = absurd (bad refl)
cut_here Mismatch p q r xs ys a b replies rest e bad never part guard shut = absurd (never refl)
cut_here Wait p q r xs ys a b replies rest e bad never part guard shut =
    let all = shut guard in (
      subst (λ (v : TransferState). DoesPart p v (xs ++ ys) a) (sym all.1) (part_front p q xs ys a (λ f. bad (sym e ∙ f)) part),
      leaves_by Wait a.response r e (subst IsGuardShut (sym all.1) guard),
      all.0,
    )
cut_here Fault p q r xs ys a b replies rest e bad never part guard shut =
    let all = shut guard in (
      subst (λ (v : TransferState). DoesPart p v (xs ++ ys) a) (sym all.1) (part_front p q xs ys a (λ f. bad (sym e ∙ f)) part),
      leaves_by Fault a.response r e (subst IsGuardShut (sym all.1) guard),
      all.0,
    )

abbrev ChainBy : Response → TransferState → TransferState → List RegAccess → Part → Part → List Transferred → Type 0 → Type 0
ChainBy x p r accesses a b replies rest = DoesPart p r accesses (joined_as x a b) × LeavesGuard (joined_as x a b).response r × CutAs x replies rest

-- A guarded chain performs a prefix of its accesses: a command does accesses only where the one before came to its end.
pub does_chain : (p : TransferState) (parts : List (List RegAccess)) → AllTaken parts → IsGuardOpen p → DoesChain p parts
does_chain p [] taken opened = record { part = none_done p opened.clear; guard = opened; cut = tt }
does_chain p (accesses ∷ parts) taken opened =
    let d : Transferred = transfer_result p (guarded_requests accesses) in
    let one : DoesGuarded p accesses = does_guarded p accesses taken.0 opened in
    let a : Part = guarded_part accesses d in
    let replies : List Transferred = chain_replies d.next parts in
    let b : Part = chain_part parts replies in
    let r : TransferState = chain_after d.next parts in
    elim (good_or_not d.response) [
      | inl good ↦
          let next : IsGuardOpen d.next = subst (λ x. LeavesGuard x d.next) good one.guard in
          let rest : DoesChain d.next parts = does_chain d.next parts taken.1 next in
          record {
            part = subst (λ x. DoesPart p r (accesses ++ all_of parts) (joined_as x a b)) (sym good) (part_joined p d.next r accesses (all_of parts) a b good one.part rest.part);
            guard = subst (λ x. LeavesGuard (joined_as x a b).response r) (sym good) rest.guard;
            cut = subst (λ x. CutAs x replies (IsCutOnce replies)) (sym good) rest.cut;
          }
      | inr bad ↦
          let here = cut_here d.response p d.next r accesses (all_of parts) a b replies (IsCutOnce replies) refl bad one.never one.part one.guard (all_shut d.next parts) in
          record { part = here.0; guard = here.1; cut = here.2 }
    ]
