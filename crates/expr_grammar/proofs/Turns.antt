-- One turn of the loop over operators.
use Rattle.std.proofs.Common.{◌≡◌, ℕ, ◌+◌, ◌≤◌, false, ltb, List, ◌∷◌, Some, Ok, refl, sym, ap, ◌∙◌}
use Rattle.std.proofs.lemmas.Bool.{le-ltb}
use Rattle.expr_grammar.specs.declared.code.BinaryOp.{BinaryOp}
use Rattle.expr_grammar.specs.declared.fault.Fault.{Fault}
use Rattle.expr_grammar.specs.declared.fault.Fault.TheVariants as faults
use Rattle.expr_grammar.specs.Tree as t
use Rattle.expr_grammar.specs.Tree.{Tree}
use Rattle.expr_grammar.specs.Lexeme.{Lexeme}
use Rattle.expr_grammar.specs.Grammar.{level}
use Rattle.expr_grammar.specs.Reading.{Read, Fails, Climb, read, at_level, climb, binary_of}
use Rattle.dap_base.specs.Outcome.{◌>>=◌}
use Rattle.expr_grammar.proofs.Fix.{climb_is, level_is}

-- with an operator that binds tightly enough
pub climbs : (l : ℕ) (e : Tree) (ts : List Lexeme) (m : Lexeme) (us : List Lexeme) (op : BinaryOp) → ts ≡ m ∷ us → binary_of m ≡ Some op → l ≤ level op
    → read (Climb l e) ts ≡ (at_level read (level op + 1) us >>= λ x. read (Climb l (t.Binary op e x.0)) x.1)
unfolding climb
climbs l e ts m us op parts is le =
    let no : ltb (level op) l ≡ false = le-ltb (level op) l le in
    ap (read (Climb l e)) parts ∙ climb_is l e (m ∷ us) ∙ rw (is, no, level_is) refl

pub goes_on : (l : ℕ) (e : Tree) (ts : List Lexeme) (m : Lexeme) (us : List Lexeme) (op : BinaryOp) (right made : Tree) (after : List Lexeme) (total : Read) → ts ≡ m ∷ us → binary_of m ≡ Some op → l ≤ level op
    → at_level read (level op + 1) us ≡ Ok (right, after) → made ≡ t.Binary op e right → read (Climb l e) ts ≡ total → read (Climb l made) after ≡ total
goes_on l e ts m us op right made after total parts is le got made_is so_far =
    let one = climbs l e ts m us op parts is le in
    rw (made_is) (sym (one ∙ rw got refl) ∙ so_far)

pub fails : (f : Fault) (l : ℕ) (e : Tree) (ts : List Lexeme) (m : Lexeme) (us : List Lexeme) (op : BinaryOp) (total : Read) → ts ≡ m ∷ us → binary_of m ≡ Some op → l ≤ level op
    → Fails f (at_level read (level op + 1) us) → read (Climb l e) ts ≡ total → Fails f total
fails faults.Memory l e ts m us op total parts is le got so_far = tt
fails (faults.Unexpected k) l e ts m us op total parts is le got so_far =
    sym so_far ∙ climbs l e ts m us op parts is le ∙ rw got refl
