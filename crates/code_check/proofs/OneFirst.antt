-- Two faults of one text are in order or the same, so there is one first fault.
use Rattle.std.proofs.Common.{◌≡◌, ◌∙◌, sym, ap, ℕ, Bool, false, List, [], ◌∷◌, get_or, Option, Some, None, refl, arith}
use Rattle.std.proofs.lemmas.Bool.Decides.{nat_tests}
use Rattle.expr_grammar.specs.Tree.{Tree, StmtTree}
use Rattle.code_check.specs.declared.fault.FaultKind.{FaultKind}
use Rattle.code_check.specs.declared.fault.FaultKind.TheVariants as k
use Rattle.code_check.specs.declared.fault.CodeFault.{CodeFault}
use Rattle.code_check.specs.Order.{rank, is_before}
use Rattle.code_check.specs.First.{IsFirst}
use Rattle.code_check.specs.ExprFaults.{Scope, ExprFault}
use Rattle.code_check.specs.BlockFaults.{BlockFault}
use Rattle.code_check.proofs.OrderLemmas.{lexical}

-- the kinds in their order
ranked : List FaultKind
ranked =
    k.Syntax ∷ k.UndefinedName ∷ k.Redeclared ∷ k.UndefinedSequence ∷ k.UndefinedFunction ∷ k.ArgumentCount ∷ k.TextExpected ∷ k.NumberExpected ∷ k.FormatMismatch
    ∷ k.BadDebugvars ∷ k.UnboundedLoop ∷ k.TimeoutTooLong ∷ k.NestedTooDeep ∷ k.CallCycle ∷ k.CallsTooDeep ∷ []

kind_at_rank : (kind : FaultKind) → get_or ranked (rank kind) k.Syntax ≡ kind
unfolding ranked
kind_at_rank k.Syntax = refl
kind_at_rank k.UndefinedName = refl
kind_at_rank k.Redeclared = refl
kind_at_rank k.UndefinedSequence = refl
kind_at_rank k.UndefinedFunction = refl
kind_at_rank k.ArgumentCount = refl
kind_at_rank k.TextExpected = refl
kind_at_rank k.NumberExpected = refl
kind_at_rank k.FormatMismatch = refl
kind_at_rank k.BadDebugvars = refl
kind_at_rank k.UnboundedLoop = refl
kind_at_rank k.TimeoutTooLong = refl
kind_at_rank k.NestedTooDeep = refl
kind_at_rank k.CallCycle = refl
kind_at_rank k.CallsTooDeep = refl

one_kind : (x y : FaultKind) → rank x ≡ rank y → x ≡ y
one_kind x y e = sym (kind_at_rank x) ∙ ap (λ n. get_or ranked n k.Syntax) e ∙ kind_at_rank y

lexical-total : (a b c x y z : ℕ) → lexical a b c x y z ≡ false → lexical x y z a b c ≡ false → (a ≡ x) × (b ≡ y) × (c ≡ z)
lexical-total a b c x y z h j = grind (arith, nat_tests)

pub is_before-total : (f g : CodeFault) → is_before f g ≡ false → is_before g f ≡ false → f ≡ g
is_before-total f g h j =
    let same = lexical-total f.place.line f.place.column (rank f.kind) g.place.line g.place.column (rank g.kind) h j in
    ap (λ n. record { place = record { line = n; column = f.place.column }; kind = f.kind }) same.0
    ∙ ap (λ n. record { place = record { line = g.place.line; column = n }; kind = f.kind }) same.1
    ∙ ap (λ x. record { place = g.place; kind = x }) (one_kind f.kind g.kind same.2)

-- where no two faults are unordered, there is one first fault
pub one_first : {F : Type 0} (before : F → F → Bool) (Holds : F → Type 0) (a b : Option F) → ((f g : F) → before f g ≡ false → before g f ≡ false → f ≡ g)
    → IsFirst before Holds a → IsFirst before Holds b → a ≡ b
one_first before Holds None None total h j = refl
one_first before Holds None (Some g) total h j = absurd (h.none_before g j.holds)
one_first before Holds (Some f) None total h j = absurd (j.none_before f h.holds)
one_first before Holds (Some f) (Some g) total h j = ap (λ x. Some x) (total f g (j.none_before f h.holds) (h.none_before g j.holds))

pub one_expr_fault : (s : Scope) (e : Tree) (a b : Option CodeFault) → IsFirst is_before (ExprFault s e) a → IsFirst is_before (ExprFault s e) b → a ≡ b
one_expr_fault s e a b h j = one_first is_before (ExprFault s e) a b is_before-total h j

pub one_block_fault : (s : Scope) (code : List StmtTree) (a b : Option CodeFault) → IsFirst is_before (BlockFault s code) a → IsFirst is_before (BlockFault s code) b → a ≡ b
one_block_fault s code a b h j = one_first is_before (BlockFault s code) a b is_before-total h j
