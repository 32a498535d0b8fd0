-- Two faults of a set are in order or the same.
use Rattle.std.proofs.Common.{◌≡◌, ◌∙◌, sym, ap, subst, ℕ, ◌==◌, nat_lt, ◌&&◌, ◌||◌, not, Bool, true, false, List, [], ◌∷◌, get_or, refl, arith, true≢false}
use Rattle.std.proofs.lemmas.Bool.Decides.{nat_tests}
use Rattle.sequence_trees.specs.declared.spot.Part.{Part}
use Rattle.sequence_trees.specs.declared.spot.Part.TheVariants as parts
use Rattle.code_check.specs.declared.fault.CodeFault.{CodeFault}
use Rattle.code_check.specs.Order.{is_before}
use Rattle.code_check.proofs.OneFirst.{is_before-total}
use Rattle.seq_check.specs.declared.faulty.Holder.{Holder}
use Rattle.seq_check.specs.declared.faulty.Holder.TheVariants as holders
use Rattle.seq_check.specs.StepFaults.{StepFault, path_before, control_rank, fault_before, is_step_before}
use Rattle.seq_check.specs.SetFaults.{SetFault, holder_before, is_set_before}
use Rattle.sequence_trees.specs.Parts.{part_rank}

pub or_first : (a b : Bool) → (a || b) ≡ false → a ≡ false
or_first true b h = h
or_first false b h = refl

past : (a b c : Bool) → (a || not b && c) ≡ false → b ≡ false → c ≡ false
past true b c h e = absurd (true≢false h)
past false true c h e = absurd (true≢false e)
past false false c h e = h

-- numbers of which neither is below the other are the same, and leave the rest to decide
tie : (m n : ℕ) (b c : Bool) → (nat_lt m n || m == n && b) ≡ false → (nat_lt n m || n == m && c) ≡ false → (m ≡ n) × (b ≡ false) × (c ≡ false)
tie m n b c h j = grind (arith, nat_tests)

one_path : (p q : List ℕ) → path_before p q ≡ false → path_before q p ≡ false → p ≡ q
one_path [] [] h j = refl
one_path [] (y ∷ q) h j = absurd (true≢false h)
one_path (x ∷ p) [] h j = absurd (true≢false j)
one_path (x ∷ p) (y ∷ q) h j =
    let same = tie x y (path_before p q) (path_before q p) h j in
    ap (λ n. n ∷ p) same.0 ∙ ap (λ r. y ∷ r) (one_path p q same.1 same.2)

-- the parts in their order
ranked : List Part
ranked = parts.Debugvars ∷ parts.Control ∷ parts.Block ∷ parts.If ∷ parts.While ∷ []

part_at_rank : (part : Part) → get_or ranked (part_rank part) parts.Debugvars ≡ part
unfolding ranked
part_at_rank parts.Debugvars = refl
part_at_rank parts.Control = refl
part_at_rank parts.Block = refl
part_at_rank parts.If = refl
part_at_rank parts.While = refl

pub one_part : (x y : Part) → part_rank x ≡ part_rank y → x ≡ y
one_part x y e = sym (part_at_rank x) ∙ ap (λ n. get_or ranked n parts.Debugvars) e ∙ part_at_rank y

one_in_part : (part : Part) (f g : CodeFault) → fault_before part f g ≡ false → fault_before part g f ≡ false → f ≡ g
one_in_part parts.Control f g h j =
    let same = tie (control_rank f.kind) (control_rank g.kind) (is_before f g) (is_before g f) h j in
    is_before-total f g same.1 same.2
one_in_part parts.Debugvars f g h j = is_before-total f g h j
one_in_part parts.Block f g h j = is_before-total f g h j
one_in_part parts.If f g h j = is_before-total f g h j
one_in_part parts.While f g h j = is_before-total f g h j

is_step_before-total : (f g : StepFault) → is_step_before f g ≡ false → is_step_before g f ≡ false → f ≡ g
is_step_before-total f g h j =
    let no_path = or_first (path_before f.path g.path) _ h in
    let no_other = or_first (path_before g.path f.path) _ j in
    let tied = tie (part_rank f.part) (part_rank g.part) (fault_before f.part f.fault g.fault) (fault_before g.part g.fault f.fault)
    (past (path_before f.path g.path) (path_before g.path f.path) _ h no_other) (past (path_before g.path f.path) (path_before f.path g.path) _ j no_path) in
    let part : f.part ≡ g.part = one_part f.part g.part tied.0 in
    let fault : f.fault ≡ g.fault = one_in_part f.part f.fault g.fault tied.1 (subst (λ x. fault_before x g.fault f.fault ≡ false) (sym part) tied.2) in
    ap (λ x. record { path = x; part = f.part; fault = f.fault }) (one_path f.path g.path no_path no_other)
    ∙ ap (λ x. record { path = g.path; part = x; fault = f.fault }) part
    ∙ ap (λ x. record { path = g.path; part = g.part; fault = x }) fault

neither : (m n : ℕ) → nat_lt m n ≡ false → nat_lt n m ≡ false → m ≡ n
neither m n h j = grind (arith, nat_tests)

one_holder : (a b : Holder) → holder_before a b ≡ false → holder_before b a ≡ false → a ≡ b
one_holder holders.Debugvars holders.Debugvars h j = refl
one_holder holders.Debugvars (holders.Sequence n) h j = absurd (true≢false h)
one_holder (holders.Sequence m) holders.Debugvars h j = absurd (true≢false j)
one_holder (holders.Sequence m) (holders.Sequence n) h j = ap (λ x. holders.Sequence x) (neither m n h j)

pub is_set_before-total : (f g : SetFault) → is_set_before f g ≡ false → is_set_before g f ≡ false → f ≡ g
is_set_before-total f g h j =
    let no_holder = or_first (holder_before f.holder g.holder) _ h in
    let no_other = or_first (holder_before g.holder f.holder) _ j in
    let fault : f.fault ≡ g.fault = is_step_before-total f.fault g.fault
    (past (holder_before f.holder g.holder) (holder_before g.holder f.holder) _ h no_other) (past (holder_before g.holder f.holder) (holder_before f.holder g.holder) _ j no_holder) in
    ap (λ x. record { holder = x; fault = f.fault }) (one_holder f.holder g.holder no_holder no_other)
    ∙ ap (λ x. record { holder = g.holder; fault = x }) fault
