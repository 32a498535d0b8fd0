-- Operators between operands: what is read is in the grammar, and where nothing is.
use Rattle.std.proofs.Common.{◌≡◌, ℕ, ◌+◌, ◌<◌, ◌≤◌, Bool, true, false, cond, ltb, List, [], ◌∷◌, ◌++◌, length, Option, Some, None, Ok, refl, sym, subst, append_assoc, arith}
use Rattle.std.proofs.lemmas.Bool.{ltb-false}
use Rattle.std.proofs.lemmas.List.{append-nil}
use Rattle.expr_grammar.specs.declared.code.BinaryOp.{BinaryOp}
use Rattle.expr_grammar.specs.Lexeme.{Lexeme}
use Rattle.expr_grammar.specs.Tree as t
use Rattle.expr_grammar.specs.Tree.{Tree, ArgTree, ArgTrees, StmtTree}
use Rattle.expr_grammar.specs.Grammar.{level, binary_text, IsMark, Reads}
use Rattle.expr_grammar.specs.Reading.{Read, Aim, Level, Climb, binary_of, climb_by, read, at_level, climb, operand}
use Rattle.dap_base.specs.Outcome.{◌>>=◌}
use Rattle.expr_grammar.proofs.Found.{binary_found}
use Rattle.expr_grammar.proofs.Fix.{shrinks}
use Rattle.expr_grammar.proofs.Outcome.{Outcome, seq, after, nothing_taken, loosen, by_head, at_end}
use Rattle.expr_grammar.proofs.Levels.{level_of, binds, top, level_most, level_least}
use Rattle.expr_grammar.proofs.Complete.{relevel, below_top}
use Rattle.expr_grammar.proofs.Viable.{binds_most, Viable, Law, level_ends, operand_short}
use Rattle.expr_grammar.proofs.SoundOperands.{operand_law}

module _ (n : ℕ) (H : (aim : Aim) (ts : List Lexeme) → length ts < n → Law aim ts) where
  -- ---- operators
  module _ (l : ℕ) (two : 2 ≤ l) (e : Tree) (before : List Lexeme) (r : Reads l before e) where
    abbrev Climbs : List Lexeme → Read → Type 0
    Climbs ts res = Outcome (λ front x. Reads l (before ++ front) x) (λ front. Viable l (before ++ front)) (climb read l e) ts res

    nothing_here : Reads l (before ++ []) e
    nothing_here = subst (λ (x : List Lexeme). Reads l x e) (sym (append-nil before)) r

    climb_leaves : (k : Lexeme) (ts : List Lexeme) → ((us : List Lexeme) → climb read l e (k ∷ us) ≡ Ok (e, k ∷ us)) → Climbs (k ∷ ts) (Ok (e, k ∷ ts))
    climb_leaves k ts h = nothing_taken (λ front x. Reads l (before ++ front) x) (λ front. Viable l (before ++ front)) (climb read l e) (k ∷ ts) e nothing_here (by_head (λ us. climb read l e us ≡ Ok (e, us)) k ts h)

    joined : (k : Lexeme) (op : BinaryOp) → IsMark (binary_text op) k → l ≤ level op → level op ≤ top e → (right : List Lexeme) (y : Tree) → Reads (level op + 1) right y → Reads l (before ++ k ∷ right) (t.Binary op e y)
    joined k op m le tops right y ry = (le, record { left = before; mark = k; right = right; parts = refl; is_mark = m; first = relevel e l (level op) before r tops; second = ry })

    assoc : (k : Lexeme) (front back : List Lexeme) → (before ++ k ∷ front) ++ back ≡ before ++ k ∷ (front ++ back)
    assoc k front back = append_assoc before (k ∷ front) back

    abbrev turn : BinaryOp → List Lexeme → Read
    turn op us = read (Level (level op + 1)) us >>= λ x. read (Climb l (t.Binary op e x.0)) x.1

    climb_turn : (k : Lexeme) (ts : List Lexeme) (op : BinaryOp) → length ts < n → IsMark (binary_text op) k → l ≤ level op → level op ≤ top e
        → Outcome (λ front x. Reads l (before ++ k ∷ front) x) (λ front. Viable l (before ++ k ∷ front)) (turn op) ts (turn op ts)
    climb_turn k ts op lt m le tops =
        let P = λ (front : List Lexeme) (x : Tree). Reads l (before ++ k ∷ front) x in
        let V = λ (front : List Lexeme). Viable l (before ++ k ∷ front) in
        seq P V (read (Level (level op + 1))) (λ y us. read (Climb l (t.Binary op e y)) us) ts (Reads (level op + 1)) (Viable (level op + 1))
        (H (Level (level op + 1)) ts lt (omega (arith, level_least op)) (omega (arith, level_most op)))
        (λ front v. record { more = v.more; made = t.Binary op e v.made; is = subst (λ (x : List Lexeme). Reads l x (t.Binary op e v.made)) (sym (assoc k front v.more)) (joined k op m le tops (front ++ v.more) v.made v.is) })
        (λ front x is parts ry.
        let c = H (Climb l (t.Binary op e x.0)) x.1 (omega (arith, shrinks (Level (level op + 1)) ts x is)) two (before ++ k ∷ front) (joined k op m le tops front x.0 ry) (omega (arith, level_ends (level op + 1) (omega arith) ts x is)) in
        loosen (λ back y. Reads l ((before ++ k ∷ front) ++ back) y) (λ back y. P (front ++ back) y) (λ back. Viable l ((before ++ k ∷ front) ++ back)) (λ back. V (front ++ back)) (read (Climb l (t.Binary op e x.0))) (read (Climb l (t.Binary op e x.0))) x.1 (read (Climb l (t.Binary op e x.0)) x.1) (λ us. refl)
        (λ back y h. subst (λ (z : List Lexeme). Reads l z y) (assoc k front back) h) (λ back h. subst (Viable l) (assoc k front back) h) c)

    climb_op_law : (k : Lexeme) (ts : List Lexeme) → length ts < n → (op : BinaryOp) → binary_of k ≡ Some op → level op ≤ top e → (v : Bool) → ltb (level op) l ≡ v → Climbs (k ∷ ts) (cond v (Ok (e, k ∷ ts)) (turn op ts))
    unfolding climb
    climb_op_law k ts lt op is tops true v_is = climb_leaves k ts (λ us. rw (is, v_is) refl)
    climb_op_law k ts lt op is tops false v_is =
        after (λ front x. Reads l (before ++ front) x) (λ front. Viable l (before ++ front)) (climb read l e) (turn op) k ts (turn op ts) (λ us. rw (is, v_is) refl)
        (climb_turn k ts op lt (binary_found k op is) (ltb-false (level op) l v_is) tops)

    climb_by_law : (k : Lexeme) (ts : List Lexeme) → length ts < n → (o : Option BinaryOp) → binary_of k ≡ o → level_of o ≤ top e → Climbs (k ∷ ts) (climb_by read l e o k ts)
    unfolding climb
    climb_by_law k ts lt None is tops = climb_leaves k ts (λ us. rw is refl)
    climb_by_law k ts lt (Some op) is tops = climb_op_law k ts lt op is tops (ltb (level op) l) refl

    pub climb_law : (ts : List Lexeme) → length ts ≤ n → binds ts ≤ top e → Climbs ts (climb read l e ts)
    unfolding climb
    climb_law [] le tops = nothing_taken (λ front x. Reads l (before ++ front) x) (λ front. Viable l (before ++ front)) (climb read l e) [] e nothing_here (at_end (λ us. climb read l e us ≡ Ok (e, us)) refl)
    climb_law (k ∷ ts) le tops = climb_by_law k ts (omega arith) (binary_of k) refl tops

  pub level_law : (l : ℕ) (ts : List Lexeme) → length ts ≤ n → 2 ≤ l → l ≤ 12 → Outcome (Reads l) (Viable l) (at_level read l) ts (at_level read l ts)
  unfolding at_level
  level_law l ts le two most =
      let lower = λ (front : List Lexeme) (x : Tree) (r : Reads 12 front x). relevel x 12 l front r (omega (arith, below_top x 12 front r)) in
      seq (Reads l) (Viable l) (operand read) (λ x us. read (Climb l x) us) ts (Reads 12) (Viable 12) (operand_law n H ts le)
      (λ front v. record { more = v.more; made = v.made; is = lower (front ++ v.more) v.made v.is })
      (λ front x is parts r. H (Climb l x.0) x.1 (omega (arith, operand_short ts x is)) two front (lower front x.0 r) (omega (arith, binds_most x.1, below_top x.0 12 front r)))
