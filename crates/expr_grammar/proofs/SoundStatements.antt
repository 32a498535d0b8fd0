-- Statements: what is read is in the grammar, and where nothing is.
use Rattle.std.proofs.Common.{◌≡◌, ℕ, suc, ◌<◌, ◌≤◌, Bool, true, false, cond, List, [], ◌∷◌, ◌++◌, length, Ok, Err, refl, sym, ap, subst, ◌∙◌, append_assoc, arith}
use Rattle.std.specs.Prelude.{codes}
use Rattle.std.proofs.lemmas.List.{append-nil}
use Rattle.dap_base.specs.declared.text.Place.{Place}
use Rattle.expr_grammar.specs.declared.code.Name.{Name}
use Rattle.expr_grammar.specs.Lexeme.{Lexeme}
use Rattle.expr_grammar.specs.Tree as t
use Rattle.expr_grammar.specs.Tree.{Tree, ArgTree, ArgTrees, StmtTree}
use Rattle.expr_grammar.specs.Grammar.{IsMark, IsName, Single, Ended, BeginsAt, Reads, ReadsStmt, ReadsCode}
use Rattle.expr_grammar.specs.Reading.{Front, Aim, Statements, is_mark, is_name_kind, name_of, expect, name_first, declaration_after, plain, statement, statements, read, whole}
use Rattle.dap_base.specs.Outcome.{◌>>=◌}
use Rattle.expr_grammar.specs.Refusal.{Begins}
use Rattle.expr_grammar.proofs.Found.{mark_from}
use Rattle.expr_grammar.proofs.Shrinks.{statement_shrinks, name_shrinks, expect_shrinks}
use Rattle.expr_grammar.proofs.Fix.{shrinks}
use Rattle.expr_grammar.proofs.Outcome.{Outcome, seq, after, nothing_taken, refused, by_head, at_end, headed}
use Rattle.expr_grammar.proofs.Complete.{ended}
use Rattle.expr_grammar.proofs.Viable.{mark, nought, some_name, name_kind, mark_marks, Viable, nought_reads, expect_law, Law}
use Rattle.expr_grammar.proofs.SoundChoices.{whole_law}
use Rattle.expr_grammar.proofs.SoundArgs.{no_empty, head_is}

module _ (n : ℕ) (H : (aim : Aim) (ts : List Lexeme) → length ts < n → Law aim ts) where
  -- ---- statements

  pub name_by_law : (k : Lexeme) (ts : List Lexeme) (v : Bool) → is_name_kind k.kind ≡ v → Outcome (λ front m. Single (IsName m) front) (λ front. front ≡ []) name_first (k ∷ ts) (cond v (Ok (name_of k, ts)) (Err (suc (length ts))))
  unfolding name_first
  name_by_law k ts true is = record { front = k ∷ []; parts = refl; is = record { only = k; parts = refl; is = record { kind = name_kind k.kind is; text_is = refl; at_is = refl } }; only = λ us same. rw is refl }
  name_by_law k ts false is = refused (λ front m. Single (IsName m) front) (λ front. front ≡ []) name_first (k ∷ ts) refl (by_head (λ us. name_first us ≡ Err (length us)) k ts (λ us. rw is refl))

  pub name_first_law : (ts : List Lexeme) → Outcome (λ front m. Single (IsName m) front) (λ front. front ≡ []) name_first ts (name_first ts)
  unfolding name_first
  name_first_law [] = refused (λ front m. Single (IsName m) front) (λ front. front ≡ []) name_first [] refl (at_end (λ us. name_first us ≡ Err (length us)) refl)
  name_first_law (k ∷ ts) = name_by_law k ts (is_name_kind k.kind) refl

  -- an expression and its semicolon
  pub ended_value : (front : List Lexeme) (e : Tree) → Reads 0 front e → (k : Lexeme) → IsMark (codes ";") k → Ended (λ value. Reads 0 value e) (codes ";") (front ++ k ∷ [])
  ended_value front e r k m = record { front = front; mark = k; parts = refl; is_mark = m; inner = r }

  module _ (var : Lexeme) (is_var : IsMark (codes "__var") var) where
    abbrev Declares : List Lexeme → StmtTree → Type 0
    Declares front s = ReadsStmt (var ∷ front) s

    abbrev DeclaresOn : List Lexeme → Type 0
    DeclaresOn front = Begins ReadsStmt (var ∷ front)

    declared_by : (m : Name) (left : List Lexeme) → Single (IsName m) left → (equals : Lexeme) → IsMark (codes "=") equals → (value : List Lexeme) (e : Tree) → Ended (λ v. Reads 0 v e) (codes ";") value → Declares (left ++ equals ∷ value) (t.Declare m e)
    declared_by m left name equals q value e ended = record { mark = var; rest = left ++ equals ∷ value; parts = refl; is_mark = is_var; inner = record { left = left; mark = equals; right = value; parts = refl; is_mark = q; first = name; second = ended } }

    abbrev semicolon : Lexeme
    semicolon = mark (codes ";")

    nought_ended : Ended (λ v. Reads 0 v (t.Number 0)) (codes ";") (nought ∷ semicolon ∷ [])
    nought_ended = ended_value (nought ∷ []) (t.Number 0) (nought_reads 0 (omega arith)) semicolon (mark_marks (codes ";"))

    -- after the keyword
    no_name : DeclaresOn []
    no_name = record {
      more = some_name ∷ mark (codes "=") ∷ nought ∷ semicolon ∷ [];
      made = t.Declare (name_of some_name) (t.Number 0);
      is = declared_by (name_of some_name) (some_name ∷ []) (record { only = some_name; parts = refl; is = record { kind = refl; text_is = refl; at_is = refl } }) (mark (codes "=")) (mark_marks (codes "=")) (nought ∷ semicolon ∷ []) (t.Number 0) nought_ended;
    }

    -- after the name
    no_equals : (m : Name) (left : List Lexeme) → Single (IsName m) left → DeclaresOn left
    no_equals m left name = record { more = mark (codes "=") ∷ nought ∷ semicolon ∷ []; made = t.Declare m (t.Number 0); is = declared_by m left name (mark (codes "=")) (mark_marks (codes "=")) (nought ∷ semicolon ∷ []) (t.Number 0) nought_ended }

    -- in the value
    no_value : (m : Name) (left : List Lexeme) → Single (IsName m) left → (equals : Lexeme) → IsMark (codes "=") equals → (front : List Lexeme) → Viable 0 front → DeclaresOn (left ++ equals ∷ front)
    no_value m left name equals q front v = record {
      more = v.more ++ semicolon ∷ [];
      made = t.Declare m v.made;
      is = subst (λ (l : List Lexeme). ReadsStmt (var ∷ l) (t.Declare m v.made)) (ap (λ (l : List Lexeme). left ++ equals ∷ l) (append_assoc front v.more (semicolon ∷ [])) ∙ sym (append_assoc left (equals ∷ front) (v.more ++ semicolon ∷ [])))
          (declared_by m left name equals q ((front ++ v.more) ++ semicolon ∷ []) v.made (ended_value (front ++ v.more) v.made v.is semicolon (mark_marks (codes ";"))));
    }

    -- after the value
    no_end : (m : Name) (left : List Lexeme) → Single (IsName m) left → (equals : Lexeme) → IsMark (codes "=") equals → (front : List Lexeme) (e : Tree) → Reads 0 front e → DeclaresOn (left ++ equals ∷ front)
    no_end m left name equals q front e r = no_value m left name equals q front (record { more = []; made = e; is = subst (λ (l : List Lexeme). Reads 0 l e) (sym (append-nil front)) r })

    -- one token in place of a list of one
    turned : (left back rest : List Lexeme) (only : Lexeme) → back ≡ only ∷ [] → left ++ only ∷ rest ≡ left ++ (back ++ rest)
    turned left back rest only e = ap (λ (l : List Lexeme). left ++ (l ++ rest)) (sym e)

    declared_law : (ts : List Lexeme) → length ts ≤ n → Outcome Declares DeclaresOn (declaration_after read) ts (declaration_after read ts)
    unfolding declaration_after
    declared_law ts le =
        seq Declares DeclaresOn name_first (λ m us. expect (codes "=") us >>= λ equals. whole read equals.1 >>= λ x. expect (codes ";") x.1 >>= λ rest. Ok (t.Declare m x.0, rest.1)) ts (λ front m. Single (IsName m) front) (λ front. front ≡ []) (name_first_law ts)
        (λ front nil. subst DeclaresOn (sym nil) no_name)
        (λ left m e1 parts1 name.
        seq (λ back s. Declares (left ++ back) s) (λ back. DeclaresOn (left ++ back)) (expect (codes "=")) (λ _ us. whole read us >>= λ x. expect (codes ";") x.1 >>= λ rest. Ok (t.Declare m.0 x.0, rest.1)) m.1 (λ back y. Single (IsMark (codes "=")) back) (λ back. back ≡ []) (expect_law (codes "=") m.1)
        (λ back nil. subst (λ (l : List Lexeme). DeclaresOn (left ++ l)) (sym nil) (subst DeclaresOn (sym (append-nil left)) (no_equals m.0 left name)))
        (λ back y e2 parts2 q.
        let shorter : length y.1 ≤ n = omega (arith, name_shrinks n read (λ aim us z lt e. shrinks aim us z e) ts m e1, expect_shrinks (codes "=") m.1 y e2, le) in
        seq (λ mid s. Declares (left ++ (back ++ mid)) s) (λ mid. DeclaresOn (left ++ (back ++ mid))) (whole read) (λ x us. expect (codes ";") us >>= λ rest. Ok (t.Declare m.0 x, rest.1)) y.1 (Reads 0) (Viable 0) (whole_law n H y.1 shorter)
        (λ mid v. subst DeclaresOn (turned left back mid q.only q.parts) (no_value m.0 left name q.only q.is mid v))
        (λ mid x e3 parts3 r.
        seq (λ last s. Declares (left ++ (back ++ (mid ++ last))) s) (λ last. DeclaresOn (left ++ (back ++ (mid ++ last)))) (expect (codes ";")) (λ _ us. Ok (t.Declare m.0 x.0, us)) x.1 (λ last z. Single (IsMark (codes ";")) last) (λ last. last ≡ []) (expect_law (codes ";") x.1)
        (λ last nil. subst (λ (l : List Lexeme). DeclaresOn (left ++ (back ++ (mid ++ l)))) (sym nil) (subst (λ (l : List Lexeme). DeclaresOn (left ++ (back ++ l))) (sym (append-nil mid)) (subst DeclaresOn (turned left back mid q.only q.parts) (no_end m.0 left name q.only q.is mid x.0 r))))
        (λ last z e4 parts4 semi.
        nothing_taken (λ end s. Declares (left ++ (back ++ (mid ++ (last ++ end)))) s) (λ end. DeclaresOn (left ++ (back ++ (mid ++ (last ++ end))))) (λ us. Ok (t.Declare m.0 x.0, us)) z.1 (t.Declare m.0 x.0)
        (subst (λ (l : List Lexeme). Declares l (t.Declare m.0 x.0)) (turned left back (mid ++ (last ++ [])) q.only q.parts)
        (declared_by m.0 left name q.only q.is (mid ++ (last ++ [])) x.0 (subst (λ (l : List Lexeme). Ended (λ v. Reads 0 v x.0) (codes ";") (mid ++ l)) (sym (append-nil last ∙ semi.parts)) (ended_value mid x.0 r semi.only semi.is))))
        (λ us same. refl)))))

  pub plain_by : (at : Place) (front : List Lexeme) (e : Tree) → Reads 0 front e → BeginsAt at front → (k : Lexeme) → IsMark (codes ";") k → ReadsStmt (front ++ k ∷ []) (t.Plain at e)
  plain_by at front e r b k m = record { front = front; mark = k; parts = refl; is_mark = m; inner = (r, b) }

  pub plain_some : (front : List Lexeme) (e : Tree) → Reads 0 front e → (k : Lexeme) → IsMark (codes ";") k → (s : StmtTree) × ReadsStmt (front ++ k ∷ []) s
  plain_some [] e r k m = absurd (no_empty n H e r)
  plain_some (j ∷ front) e r k m = (t.Plain j.at e, plain_by j.at (j ∷ front) e r refl k m)

  pub plain_begins : (front : List Lexeme) → Viable 0 front → Begins ReadsStmt front
  plain_begins front v =
      let end = mark (codes ";") ∷ [] in
      let s = plain_some (front ++ v.more) v.made v.is (mark (codes ";")) (mark_marks (codes ";")) in
      record { more = v.more ++ end; made = s.0; is = subst (λ (l : List Lexeme). ReadsStmt l s.0) (append_assoc front v.more end) s.1 }

  pub plain_ends : (front : List Lexeme) (e : Tree) → Reads 0 front e → Begins ReadsStmt front
  plain_ends front e r = plain_begins front (record { more = []; made = e; is = subst (λ (l : List Lexeme). Reads 0 l e) (sym (append-nil front)) r })

  pub plain_law : (k : Lexeme) (ts : List Lexeme) → length ts < n → Outcome ReadsStmt (Begins ReadsStmt) (plain read k.at) (k ∷ ts) (plain read k.at (k ∷ ts))
  unfolding plain
  plain_law k ts lt =
      seq ReadsStmt (Begins ReadsStmt) (whole read) (λ x us. expect (codes ";") us >>= λ rest. Ok (t.Plain k.at x, rest.1)) (k ∷ ts) (Reads 0) (Viable 0) (whole_law n H (k ∷ ts) lt)
      (λ front v. plain_begins front v)
      (λ front x e parts r.
      seq (λ last s. ReadsStmt (front ++ last) s) (λ last. Begins ReadsStmt (front ++ last)) (expect (codes ";")) (λ _ us. Ok (t.Plain k.at x.0, us)) x.1 (λ last z. Single (IsMark (codes ";")) last) (λ last. last ≡ []) (expect_law (codes ";") x.1)
      (λ last nil. subst (λ (l : List Lexeme). Begins ReadsStmt (front ++ l)) (sym nil) (subst (Begins ReadsStmt) (sym (append-nil front)) (plain_ends front x.0 r)))
      (λ last z e2 parts2 semi.
      nothing_taken (λ end s. ReadsStmt (front ++ (last ++ end)) s) (λ end. Begins ReadsStmt (front ++ (last ++ end))) (λ us. Ok (t.Plain k.at x.0, us)) z.1 (t.Plain k.at x.0)
      (subst (λ (l : List Lexeme). ReadsStmt (front ++ l) (t.Plain k.at x.0)) (sym (append-nil last ∙ semi.parts)) (plain_by k.at front x.0 r (head_is n H k ts front x.1 x.0 r parts) semi.only semi.is)) (λ us same. refl)))

  abbrev pub Stmts : List Lexeme → Front StmtTree → Type 0
  Stmts ts r = Outcome ReadsStmt (Begins ReadsStmt) (statement read) ts r

  pub empty_by : (k : Lexeme) → IsMark (codes ";") k → ReadsStmt (k ∷ []) (t.Empty k.at)
  empty_by k m = record { only = k; parts = refl; is = (m, refl) }

  pub statement_by_law : (k : Lexeme) (ts : List Lexeme) → length ts < n → (v w : Bool) → is_mark (codes ";") k ≡ v → is_mark (codes "__var") k ≡ w → Stmts (k ∷ ts) (cond v (Ok (t.Empty k.at, ts)) (cond w (declaration_after read ts) (plain read k.at (k ∷ ts))))
  unfolding statement
  statement_by_law k ts lt true w is is2 =
      after ReadsStmt (Begins ReadsStmt) (statement read) (λ us. Ok (t.Empty k.at, us)) k ts (Ok (t.Empty k.at, ts)) (λ us. rw is refl)
      (nothing_taken (λ back s. ReadsStmt (k ∷ back) s) (λ back. Begins ReadsStmt (k ∷ back)) (λ us. Ok (t.Empty k.at, us)) ts (t.Empty k.at) (empty_by k (mark_from (codes ";") k is)) (λ us same. refl))
  statement_by_law k ts lt false true is is2 =
      after ReadsStmt (Begins ReadsStmt) (statement read) (declaration_after read) k ts (declaration_after read ts) (λ us. rw (is, is2) refl) (declared_law k (mark_from (codes "__var") k is2) ts (omega (arith, lt)))
  statement_by_law k ts lt false false is is2 =
      headed ReadsStmt (Begins ReadsStmt) (statement read) (plain read k.at) k ts (plain read k.at (k ∷ ts)) (λ us. rw (is, is2) refl) (plain_law k ts lt)

  pub statement_law : (k : Lexeme) (ts : List Lexeme) → length ts < n → Stmts (k ∷ ts) (statement read (k ∷ ts))
  unfolding statement
  statement_law k ts lt = statement_by_law k ts lt (is_mark (codes ";") k) (is_mark (codes "__var") k) refl refl

  -- a statement and those after it
  pub code_by : (front : List Lexeme) (s : StmtTree) → ReadsStmt front s → (back : List Lexeme) (more : List StmtTree) → ReadsCode back more → ReadsCode (front ++ back) (s ∷ more)
  code_by front s r back more m = record { left = front; right = back; parts = refl; first = r; second = m }

  pub no_code : Begins ReadsCode []
  no_code = record { more = []; made = []; is = refl }

  pub code_begins : (front : List Lexeme) → Begins ReadsStmt front → Begins ReadsCode front
  code_begins front v = record { more = v.more; made = v.made ∷ []; is = subst (λ (l : List Lexeme). ReadsCode l (v.made ∷ [])) (append-nil (front ++ v.more)) (code_by (front ++ v.more) v.made v.is [] [] refl) }

  pub code_goes_on : (front : List Lexeme) (s : StmtTree) → ReadsStmt front s → (back : List Lexeme) → Begins ReadsCode back → Begins ReadsCode (front ++ back)
  code_goes_on front s r back v = record { more = v.more; made = s ∷ v.made; is = subst (λ (l : List Lexeme). ReadsCode l (s ∷ v.made)) (sym (append_assoc front back v.more)) (code_by front s r (back ++ v.more) v.made v.is) }

  pub statement_shorter : (ts : List Lexeme) (x : StmtTree × List Lexeme) → statement read ts ≡ Ok x → length x.1 < length ts
  statement_shorter ts x is = statement_shrinks (suc (length ts)) read (λ aim us y lt e. shrinks aim us y e) ts x (omega arith) is

  abbrev pub code_steps : List Lexeme → Front (List StmtTree)
  code_steps us = statement read us >>= λ s. read Statements s.1 >>= λ more. Ok (s.0 ∷ more.0, more.1)

  pub some_statements : (k : Lexeme) (ts : List Lexeme) → length ts < n → Outcome ReadsCode (Begins ReadsCode) code_steps (k ∷ ts) (code_steps (k ∷ ts))
  some_statements k ts lt =
      seq ReadsCode (Begins ReadsCode) (statement read) (λ s us. read Statements us >>= λ more. Ok (s ∷ more.0, more.1)) (k ∷ ts) ReadsStmt (Begins ReadsStmt) (statement_law k ts lt)
      (λ front v. code_begins front v)
      (λ front x e parts r.
      seq (λ back y. ReadsCode (front ++ back) y) (λ back. Begins ReadsCode (front ++ back)) (read Statements) (λ more us. Ok (x.0 ∷ more, us)) x.1 ReadsCode (Begins ReadsCode) (H Statements x.1 (omega (arith, statement_shorter (k ∷ ts) x e, lt)))
      (λ back v. code_goes_on front x.0 r back v)
      (λ back y e2 parts2 m.
      nothing_taken (λ last z. ReadsCode (front ++ (back ++ last)) z) (λ last. Begins ReadsCode (front ++ (back ++ last))) (λ us. Ok (x.0 ∷ y.0, us)) y.1 (x.0 ∷ y.0)
      (code_by front x.0 r (back ++ []) y.0 (subst (λ (l : List Lexeme). ReadsCode l y.0) (sym (append-nil back)) m)) (λ us same. refl)))

  pub statements_law : (ts : List Lexeme) → length ts ≤ n → Outcome ReadsCode (Begins ReadsCode) (statements read) ts (statements read ts)
  unfolding statements
  statements_law [] le = nothing_taken ReadsCode (Begins ReadsCode) (statements read) [] [] refl (at_end (λ us. statements read us ≡ Ok ([], us)) refl)
  statements_law (k ∷ ts) le = headed ReadsCode (Begins ReadsCode) (statements read) code_steps k ts (code_steps (k ∷ ts)) (λ us. refl) (some_statements k ts (omega (arith, le)))
