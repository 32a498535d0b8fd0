-- What the two targets and what is kept say of one AP.
use Rattle.std.proofs.Common.{◌≡◌, ◌≢◌, ◌∙◌, ℕ, ◌+◌, ◌<◌, Option, Some, None, sym, ap, subst, bit_or, length}
use Rattle.std.specs.Option.{unwrap_or}
use Rattle.std.proofs.lemmas.List.{get_or-set_same, get_or-set_other}
use Rattle.std.proofs.Math.ListN.{length-set}
use Rattle.std.proofs.lemmas.Bool.{ne_eqb, cond-false}
use Rattle.target_machine.specs.Attempt.{stored_csw}
use Rattle.target_machine.specs.Plain.{csw_for, size_code}
use Rattle.target_machine.specs.declared.ap.ApState.{ApState}
use Rattle.access_regs.specs.Kept.{Kept, known_at, with_known, csw_of, unknown}
use Rattle.access_regs.specs.Plan.{increment_off}
use Rattle.access_regs.specs.Follows.{FollowsPort, IsTrueOf, unsettled_tar, tar_if}
use Rattle.access_regs.specs.declared.known.Known.{Known}
use Rattle.access_regs.specs.declared.known.Unsettled.{Unsettled}
use Rattle.access_regs.proofs.Csw.{fixed, fixed_stored, fixed_increment_off, fixed_read, stored_for}

-- ---- the table

pub known_same : (k : Kept) (n : ℕ) (a : Known) → n < length k.ports → known_at (with_known k n a) n ≡ a
known_same k n a lt = get_or-set_same k.ports n a unknown lt

pub known_other : (k : Kept) (n q : ℕ) (a : Known) → q ≢ n → known_at (with_known k n a) q ≡ known_at k q
known_other k n q a ne = get_or-set_other k.ports n q a unknown ne

pub table_kept : (k : Kept) (n : ℕ) (a : Known) → length (with_known k n a).ports ≡ length k.ports
table_kept k n a = length-set k.ports n a

-- ---- a port that both targets have

pub record Like (a : Known) (p r : ApState) : Type 0 where
  pub others : r ≡ record p { csw = r.csw; tar = r.tar }
  pub so : IsTrueOf a r
  pub fixed : (c : ℕ) → a.csw ≡ Some c → fixed p.csw ≡ fixed c

is_some_of : (a : Known) (c : ℕ) → a.csw ≡ Some c → csw_of a ≡ c
is_some_of a c e = ap (λ (o : Option ℕ). unwrap_or o 0) e

pub like : (a : Known) (unsettled : Option ℕ) (p r : ApState) → FollowsPort a unsettled (Some p) (Some r) → Like a p r
like a None p r h = record {
  others = subst (λ (x : ApState). r ≡ record p { csw = x.csw; tar = x.tar }) (sym h.0) h.0;
  so = h.1;
  fixed = λ c e. ap (λ (x : ApState). fixed x.csw) (sym h.0) ∙ ap fixed (h.1.csw c e) ∙ fixed_stored c;
}
like a (Some tar) p r h = record {
  others = h.0.others;
  so = h.1;
  fixed = λ c e. ap fixed h.0.csw ∙ fixed_stored (increment_off (csw_of a)) ∙ fixed_increment_off (csw_of a) ∙ ap fixed (is_some_of a c e);
}

-- the plain CSW write, which follows a read of CSW, leaves what a settling leaves
pub plain_stored : (a : Known) (p r : ApState) (c size : ℕ) → Like a p r → a.csw ≡ Some c → stored_csw (csw_for (bit_or p.csw 0x40) size) ≡ fixed c + size_code size
plain_stored a p r c size l e = stored_for (bit_or p.csw 0x40) size ∙ ap (λ (x : ℕ). x + size_code size) (fixed_read p.csw ∙ l.fixed c e)

-- ---- an AP that is not unsettled

pub unsettled_none : (k : Kept) (q : ℕ) → k.unsettled ≡ None → unsettled_tar k q ≡ None
unsettled_none k q none = ap (λ (o : Option Unsettled). tar_if o q) none

pub unsettled_other : (k : Kept) (q : ℕ) (s : Unsettled) → k.unsettled ≡ Some s → q ≢ s.ap → unsettled_tar k q ≡ None
unsettled_other k q s is ne = ap (λ (o : Option Unsettled). tar_if o q) is ∙ cond-false _ _ _ (ne_eqb q s.ap ne)
