-- Tokens with which what stands before can go on, and the law of each part of the reader.
use Rattle.std.proofs.Common.{◌≡◌, ℕ, zero, suc, ◌+◌, ◌<◌, ◌≤◌, Bool, true, false, cond, ltb, List, [], ◌∷◌, ◌++◌, length, Option, Some, None, Result, Ok, Err, refl, sym, ap, subst, ◌∙◌, arith}
use Rattle.std.specs.Prelude.{codes}
use Rattle.std.proofs.lemmas.Bool.{ltb-true}
use Rattle.expr_grammar.specs.declared.code.BinaryOp.{BinaryOp}
use Rattle.expr_grammar.specs.declared.token.TokenKind.{TokenKind}
use Rattle.expr_grammar.specs.declared.token.TokenKind.TheVariants as kinds
use Rattle.expr_grammar.specs.Lexeme.{Lexeme}
use Rattle.expr_grammar.specs.Tree as t
use Rattle.expr_grammar.specs.Tree.{Tree, ArgTree, ArgTrees, StmtTree}
use Rattle.expr_grammar.specs.Grammar.{level, IsMark, Single, Ended, Reads, ReadsArgs, ReadsMore, ReadsCode}
use Rattle.expr_grammar.specs.Reading.{Read, Aim, Whole, Choice, Level, Climb, Operand, Arguments, Further, Statements, is_mark, is_name_kind, binary_of, expect, climb_by, read, at_level, climb, operand}
use Rattle.dap_base.specs.Outcome.{◌>>=◌}
use Rattle.expr_grammar.specs.Refusal.{Begins}
use Rattle.expr_grammar.proofs.Found.{mark_from}
use Rattle.expr_grammar.proofs.Fix.{shrinks, level_is, climb_is, operand_is}
use Rattle.expr_grammar.proofs.Outcome.{Reader, Outcome, refused, loosen, by_head, at_end}
use Rattle.expr_grammar.proofs.Levels.{level_of, binds, top, level_most}

pub option_most : (o : Option BinaryOp) → level_of o ≤ 11
option_most None = omega arith
option_most (Some op) = level_most op

pub binds_most : (ts : List Lexeme) → binds ts ≤ 11
binds_most [] = omega arith
binds_most (k ∷ ts) = option_most (binary_of k)

-- ---- tokens with which what stands before can go on

abbrev pub mark : List ℕ → Lexeme
mark text = record { kind = kinds.Mark; text = text; start = 0; at = record { line = 0; column = 0 } }

abbrev pub nought : Lexeme
nought = record { kind = kinds.Number; text = codes "0"; start = 0; at = record { line = 0; column = 0 } }

abbrev pub some_name : Lexeme
some_name = record { kind = kinds.Name; text = codes "x"; start = 0; at = record { line = 0; column = 0 } }

pub name_kind : (kind : TokenKind) → is_name_kind kind ≡ true → kind ≡ kinds.Name
name_kind kinds.Name e = refl
name_kind kinds.Number e = absurd cc
name_kind kinds.Text e = absurd cc
name_kind kinds.Mark e = absurd cc

pub mark_marks : (text : List ℕ) → IsMark text (mark text)
mark_marks text = record { kind = refl; text_is = refl }

abbrev pub Viable : ℕ → List Lexeme → Type 0
Viable l ts = Begins (Reads l) ts

pub nought_reads : (l : ℕ) → l ≤ 12 → Reads l (nought ∷ []) (t.Number 0)
nought_reads l le = (le, record { only = nought; parts = refl; is = record { kind = refl; value = refl } })

pub viable_nothing : (l : ℕ) → l ≤ 12 → Viable l []
viable_nothing l le = record { more = nought ∷ []; made = t.Number 0; is = nought_reads l le }

-- ---- one mark

pub expect_by : (text : List ℕ) (k : Lexeme) (ts : List Lexeme) (v : Bool) → is_mark text k ≡ v → Outcome (λ front x. Single (IsMark text) front) (λ front. front ≡ []) (expect text) (k ∷ ts) (cond v (Ok (tt, ts)) (Err (suc (length ts))))
unfolding expect
expect_by text k ts true is = record { front = k ∷ []; parts = refl; is = record { only = k; parts = refl; is = mark_from text k is }; only = λ us same. rw is refl }
expect_by text k ts false is = refused (λ front x. Single (IsMark text) front) (λ front. front ≡ []) (expect text) (k ∷ ts) refl (by_head (λ us. expect text us ≡ Err (length us)) k ts (λ us. rw is refl))

pub expect_law : (text : List ℕ) (ts : List Lexeme) → Outcome (λ front x. Single (IsMark text) front) (λ front. front ≡ []) (expect text) ts (expect text ts)
unfolding expect
expect_law text [] = refused (λ front x. Single (IsMark text) front) (λ front. front ≡ []) (expect text) [] refl (at_end (λ us. expect text us ≡ Err (length us)) refl)
expect_law text (k ∷ ts) = expect_by text k ts (is_mark text k) refl

-- ---- what stands between a call's parentheses, with the closing one

abbrev pub SomeArgs : List Lexeme → ArgTrees → Type 0
SomeArgs ts t.NoArgs = ⊥
SomeArgs ts (t.MoreArgs a more) = Ended (λ inner. ReadsArgs inner (t.MoreArgs a more)) (codes ")") ts

abbrev pub MoreArgs : List Lexeme → ArgTrees → Type 0
MoreArgs ts args = Ended (λ inner. ReadsMore inner args) (codes ")") ts

-- ---- the laws of each part

abbrev pub Stops : ℕ → Read → Type 0
Stops l (Ok x) = binds x.1 < l
Stops l (Err k) = Unit {0}

abbrev pub Law : Aim → List Lexeme → Type 0
Law Whole ts = Outcome (Reads 0) (Viable 0) (read Whole) ts (read Whole ts)
Law Choice ts = Outcome (Reads 1) (Viable 1) (read Choice) ts (read Choice ts)
Law Operand ts = Outcome (Reads 12) (Viable 12) (read Operand) ts (read Operand ts)
Law Arguments ts = Outcome SomeArgs (Begins SomeArgs) (read Arguments) ts (read Arguments ts)
Law Further ts = Outcome MoreArgs (Begins MoreArgs) (read Further) ts (read Further ts)
Law Statements ts = Outcome ReadsCode (Begins ReadsCode) (read Statements) ts (read Statements ts)
Law (Level l) ts = 2 ≤ l → l ≤ 12 → Outcome (Reads l) (Viable l) (read (Level l)) ts (read (Level l) ts)
Law (Climb l e) ts = 2 ≤ l → (before : List Lexeme) → Reads l before e → binds ts ≤ top e
    → Outcome (λ front x. Reads l (before ++ front) x) (λ front. Viable l (before ++ front)) (read (Climb l e)) ts (read (Climb l e) ts)

pub stops_bind : (l : ℕ) (r : Read) (g : Tree × List Lexeme → Read) → ((x : Tree × List Lexeme) → r ≡ Ok x → Stops l (g x)) → Stops l (r >>= g)
stops_bind l (Ok x) g h = h x refl
stops_bind l (Err k) g h = tt

-- after a level no operator of it comes
module _ (l : ℕ) (pos : 0 < l) (n : ℕ) (H : (e : Tree) (ts : List Lexeme) → length ts < n → Stops l (read (Climb l e) ts)) where
  ends_op : (e : Tree) (k : Lexeme) (ts : List Lexeme) → length ts < n → (op : BinaryOp) → binary_of k ≡ Some op → (v : Bool) → ltb (level op) l ≡ v
      → Stops l (cond v (Ok (e, k ∷ ts)) (read (Level (level op + 1)) ts >>= λ x. read (Climb l (t.Binary op e x.0)) x.1))
  ends_op e k ts lt op is true v_is = omega (arith, ltb-true (level op) l v_is, ap level_of is)
  ends_op e k ts lt op is false v_is = stops_bind l (read (Level (level op + 1)) ts) (λ x. read (Climb l (t.Binary op e x.0)) x.1) (λ x got. H (t.Binary op e x.0) x.1 (omega (arith, shrinks (Level (level op + 1)) ts x got)))

  ends_by : (e : Tree) (k : Lexeme) (ts : List Lexeme) → length ts < n → (o : Option BinaryOp) → binary_of k ≡ o → Stops l (climb_by read l e o k ts)
  ends_by e k ts lt None is = omega (arith, ap level_of is)
  ends_by e k ts lt (Some op) is = ends_op e k ts lt op is (ltb (level op) l) refl

  ends_step : (e : Tree) (ts : List Lexeme) → length ts ≤ n → Stops l (climb read l e ts)
  unfolding climb
  ends_step e [] le = pos
  ends_step e (k ∷ ts) le = ends_by e k ts (omega arith) (binary_of k) refl

pub climb_ends : (n l : ℕ) → 0 < l → (e : Tree) (ts : List Lexeme) → length ts < n → Stops l (read (Climb l e) ts)
climb_ends zero l pos e ts lt = absurd (omega arith)
climb_ends (suc n) l pos e ts lt = subst (Stops l) (sym (climb_is l e ts)) (ends_step l pos n (climb_ends n l pos) e ts (omega arith))

pub level_steps : (l : ℕ) (ts : List Lexeme) → read (Level l) ts ≡ (operand read ts >>= λ x. read (Climb l x.0) x.1)
unfolding at_level
level_steps l ts = level_is l ts

pub level_ends : (l : ℕ) → 0 < l → (ts : List Lexeme) (x : Tree × List Lexeme) → read (Level l) ts ≡ Ok x → binds x.1 < l
level_ends l pos ts x e =
    let s : Stops l (read (Level l) ts) = subst (Stops l) (sym (level_steps l ts)) (stops_bind l (operand read ts) (λ y. read (Climb l y.0) y.1) (λ y _. climb_ends (suc (length y.1)) l pos y.0 y.1 (omega arith))) in
    let here : Stops l (Ok x) = subst (Stops l) e s in here

-- from the steps to the reader
pub by_steps : {X : Type 0} (P : List Lexeme → X → Type 0) (V : List Lexeme → Type 0) (f g : Reader X) (ts : List Lexeme) → ((us : List Lexeme) → f us ≡ g us) → Outcome P V g ts (g ts) → Outcome P V f ts (f ts)
by_steps {X} P V f g ts same o =
    subst (λ (r : Result (X × List Lexeme) ℕ). Outcome P V f ts r) (sym (same ts)) (loosen P P V V g f ts (g ts) same (λ front x h. h) (λ front h. h) o)

pub operand_short : (ts : List Lexeme) (x : Tree × List Lexeme) → operand read ts ≡ Ok x → length x.1 < length ts
operand_short ts x is = shrinks Operand ts x (operand_is ts ∙ is)
