-- Choices and assignments: what is read is in the grammar, and where nothing is.
use Rattle.std.proofs.Common.{◌≡◌, ℕ, ◌<◌, ◌≤◌, Bool, true, false, cond, List, [], ◌∷◌, ◌++◌, length, Ok, refl, sym, ap, subst, ◌∙◌, append_assoc, arith}
use Rattle.std.specs.Prelude.{codes}
use Rattle.std.proofs.lemmas.List.{append-nil, length-append}
use Rattle.expr_grammar.specs.declared.code.Name.{Name}
use Rattle.expr_grammar.specs.Lexeme.{Lexeme}
use Rattle.expr_grammar.specs.Tree as t
use Rattle.expr_grammar.specs.Tree.{Tree, ArgTree, ArgTrees, StmtTree}
use Rattle.expr_grammar.specs.Grammar.{IsMark, IsName, Single, Reads}
use Rattle.expr_grammar.specs.Reading.{Read, Aim, Whole, Choice, Level, is_mark, expect, choice_after, set_to, assignment_after, read, whole, choice, at_level}
use Rattle.dap_base.specs.Outcome.{◌>>=◌}
use Rattle.expr_grammar.proofs.Found.{mark_from}
use Rattle.expr_grammar.proofs.Fix.{shrinks, choice_is, level_is}
use Rattle.expr_grammar.proofs.Outcome.{Outcome, seq, after, nothing_taken, by_head, at_end}
use Rattle.expr_grammar.proofs.Complete.{relevel, below_top}
use Rattle.expr_grammar.proofs.Viable.{mark, nought, mark_marks, Viable, nought_reads, expect_law, Law}
use Rattle.expr_grammar.proofs.SoundLevels.{level_law}

module _ (n : ℕ) (H : (aim : Aim) (ts : List Lexeme) → length ts < n → Law aim ts) where
  -- ---- choices
  module _ (c : Tree) (before : List Lexeme) (r : Reads 2 before c) where
    abbrev Asks : List Lexeme → Tree → Type 0
    Asks front x = Reads 1 (before ++ front) x

    abbrev AsksOn : List Lexeme → Type 0
    AsksOn front = Viable 1 (before ++ front)

    -- the tree of a whole choice, from its parts
    chosen : (k : Lexeme) → IsMark (codes "?") k → (middle : List Lexeme) (x : Tree) → Reads 0 middle x → (k2 : Lexeme) → IsMark (codes ":") k2 → (last : List Lexeme) (y : Tree) → Reads 1 last y
        → Reads 1 (before ++ k ∷ (middle ++ k2 ∷ last)) (t.Cond c x y)
    chosen k m middle x rx k2 m2 last y ry =
        (omega arith, record { left = before; mark = k; right = middle ++ k2 ∷ last; parts = refl; is_mark = m; first = r; second = record { left = middle; mark = k2; right = last; parts = refl; is_mark = m2; first = rx; second = ry } })

    assoc3 : (k : Lexeme) (front more : List Lexeme) → (before ++ k ∷ front) ++ more ≡ before ++ k ∷ (front ++ more)
    assoc3 k front more = append_assoc before (k ∷ front) more

    -- after the question mark, with part of the middle
    viable_middle : (k : Lexeme) → IsMark (codes "?") k → (front : List Lexeme) → Viable 0 front → Viable 1 (before ++ k ∷ front)
    viable_middle k m front v =
        let tail = mark (codes ":") ∷ nought ∷ [] in
        record {
          more = v.more ++ tail;
          made = t.Cond c v.made (t.Number 0);
          is = subst (λ (z : List Lexeme). Reads 1 z (t.Cond c v.made (t.Number 0))) (sym (assoc3 k front (v.more ++ tail) ∙ ap (λ (z : List Lexeme). before ++ k ∷ z) (sym (append_assoc front v.more tail))))
              (chosen k m (front ++ v.more) v.made v.is (mark (codes ":")) (mark_marks (codes ":")) (nought ∷ []) (t.Number 0) (nought_reads 1 (omega arith)));
        }

    -- after the middle
    viable_colon : (k : Lexeme) → IsMark (codes "?") k → (front : List Lexeme) (x : Tree) → Reads 0 front x → Viable 1 (before ++ k ∷ front)
    viable_colon k m front x rx =
        viable_middle k m front (record { more = []; made = x; is = subst (λ (z : List Lexeme). Reads 0 z x) (sym (append-nil front)) rx })

    -- after the colon, with part of the last
    viable_last : (k : Lexeme) → IsMark (codes "?") k → (front : List Lexeme) (x : Tree) → Reads 0 front x → (k2 : Lexeme) → IsMark (codes ":") k2 → (back : List Lexeme) → Viable 1 back → Viable 1 (before ++ k ∷ (front ++ k2 ∷ back))
    viable_last k m front x rx k2 m2 back v = record {
      more = v.more;
      made = t.Cond c x v.made;
      is = subst (λ (z : List Lexeme). Reads 1 z (t.Cond c x v.made)) (sym (assoc3 k (front ++ k2 ∷ back) v.more ∙ ap (λ (z : List Lexeme). before ++ k ∷ z) (append_assoc front (k2 ∷ back) v.more)))
          (chosen k m front x rx k2 m2 (back ++ v.more) v.made v.is);
    }

    abbrev asking : List Lexeme → Read
    asking us = read Whole us >>= λ x. expect (codes ":") x.1 >>= λ rest. read Choice rest.1 >>= λ y. Ok (t.Cond c x.0 y.0, y.1)

    asking_law : (k : Lexeme) (ts : List Lexeme) → length ts < n → IsMark (codes "?") k → Outcome (λ front x. Asks (k ∷ front) x) (λ front. AsksOn (k ∷ front)) asking ts (asking ts)
    asking_law k ts lt m =
        seq (λ front x. Asks (k ∷ front) x) (λ front. AsksOn (k ∷ front)) (read Whole) (λ x us. expect (codes ":") us >>= λ rest. read Choice rest.1 >>= λ y. Ok (t.Cond c x y.0, y.1)) ts (Reads 0) (Viable 0) (H Whole ts lt)
        (λ front v. viable_middle k m front v)
        (λ front x e parts rx.
        seq (λ back y. Asks (k ∷ (front ++ back)) y) (λ back. AsksOn (k ∷ (front ++ back))) (expect (codes ":")) (λ _ us. read Choice us >>= λ y. Ok (t.Cond c x.0 y.0, y.1)) x.1 (λ back y. Single (IsMark (codes ":")) back) (λ back. back ≡ []) (expect_law (codes ":") x.1)
        (λ back nil. subst (λ (z : List Lexeme). Viable 1 (before ++ k ∷ (front ++ z))) (sym nil) (subst (λ (z : List Lexeme). Viable 1 (before ++ k ∷ z)) (sym (append-nil front)) (viable_colon k m front x.0 rx)))
        (λ back y e2 parts2 one.
        let turned = λ (more : List Lexeme). let a : front ++ one.only ∷ more ≡ front ++ (back ++ more) = ap (λ (z : List Lexeme). front ++ (z ++ more)) (sym one.parts) in a in
        let shorter : length y.1 < n = omega (arith, shrinks Whole ts x e, ap length parts2, length-append back y.1) in
        seq (λ last z. Asks (k ∷ (front ++ (back ++ last))) z) (λ last. AsksOn (k ∷ (front ++ (back ++ last)))) (read Choice) (λ z us. Ok (t.Cond c x.0 z, us)) y.1 (Reads 1) (Viable 1) (H Choice y.1 shorter)
        (λ last v. subst (λ (z : List Lexeme). Viable 1 (before ++ k ∷ z)) (turned last) (viable_last k m front x.0 rx one.only one.is last v))
        (λ last z e3 parts3 rz.
        nothing_taken (λ end w. Asks (k ∷ (front ++ (back ++ (last ++ end)))) w) (λ end. AsksOn (k ∷ (front ++ (back ++ (last ++ end))))) (λ us. Ok (t.Cond c x.0 z.0, us)) z.1 (t.Cond c x.0 z.0)
        (subst (λ (w : List Lexeme). Reads 1 (before ++ k ∷ w) (t.Cond c x.0 z.0)) (turned (last ++ [])) (chosen k m front x.0 rx one.only one.is (last ++ []) z.0 (subst (λ (w : List Lexeme). Reads 1 w z.0) (sym (append-nil last)) rz)))
        (λ us same. refl))))

    no_choice : Reads 1 (before ++ []) c
    no_choice = subst (λ (z : List Lexeme). Reads 1 z c) (sym (append-nil before)) (relevel c 2 1 before r (omega (arith, below_top c 2 before r)))

    asked_by_law : (k : Lexeme) (ts : List Lexeme) → length ts < n → (v : Bool) → is_mark (codes "?") k ≡ v → Outcome Asks AsksOn (choice_after read c) (k ∷ ts) (cond v (asking ts) (Ok (c, k ∷ ts)))
    unfolding choice_after
    asked_by_law k ts lt true is = after Asks AsksOn (choice_after read c) asking k ts (asking ts) (λ us. rw is refl) (asking_law k ts lt (mark_from (codes "?") k is))
    asked_by_law k ts lt false is = nothing_taken Asks AsksOn (choice_after read c) (k ∷ ts) c no_choice (by_head (λ us. choice_after read c us ≡ Ok (c, us)) k ts (λ us. rw is refl))

    asked_law : (ts : List Lexeme) → length ts ≤ n → Outcome Asks AsksOn (choice_after read c) ts (choice_after read c ts)
    unfolding choice_after
    asked_law [] le = nothing_taken Asks AsksOn (choice_after read c) [] c no_choice (at_end (λ us. choice_after read c us ≡ Ok (c, us)) refl)
    asked_law (k ∷ ts) le = asked_by_law k ts (omega arith) (is_mark (codes "?") k) refl

  pub level_short : (l : ℕ) (ts : List Lexeme) (x : Tree × List Lexeme) → at_level read l ts ≡ Ok x → length x.1 < length ts
  level_short l ts x is = shrinks (Level l) ts x (level_is l ts ∙ is)

  pub choice_law : (ts : List Lexeme) → length ts ≤ n → Outcome (Reads 1) (Viable 1) (choice read) ts (choice read ts)
  unfolding choice
  choice_law ts le =
      seq (Reads 1) (Viable 1) (at_level read 2) (λ c us. choice_after read c us) ts (Reads 2) (Viable 2) (level_law n H 2 ts le (omega arith) (omega arith))
      (λ front v. record { more = v.more; made = v.made; is = relevel v.made 2 1 (front ++ v.more) v.is (omega (arith, below_top v.made 2 (front ++ v.more) v.is)) })
      (λ front x is parts r. asked_law x.0 front r x.1 (omega (arith, level_short 2 ts x is)))

  -- ---- assignments
  module _ (m : Name) (before : List Lexeme) (name : Single (IsName m) before) where
    abbrev Sets : List Lexeme → Tree → Type 0
    Sets front x = Reads 0 (before ++ front) x

    abbrev SetsOn : List Lexeme → Type 0
    SetsOn front = Viable 0 (before ++ front)

    given : (k : Lexeme) → IsMark (codes "=") k → (right : List Lexeme) (a : Tree) → Reads 0 right a → Reads 0 (before ++ k ∷ right) (t.Assign m a)
    given k is right a ra = (omega arith, record { left = before; mark = k; right = right; parts = refl; is_mark = is; first = name; second = ra })

    setting_law : (k : Lexeme) (ts : List Lexeme) → length ts < n → IsMark (codes "=") k
        → Outcome (λ front x. Sets (k ∷ front) x) (λ front. SetsOn (k ∷ front)) (λ us. read Whole us >>= λ x. Ok (t.Assign m x.0, x.1)) ts (read Whole ts >>= λ x. Ok (t.Assign m x.0, x.1))
    setting_law k ts lt is =
        seq (λ front x. Sets (k ∷ front) x) (λ front. SetsOn (k ∷ front)) (read Whole) (λ a us. Ok (t.Assign m a, us)) ts (Reads 0) (Viable 0) (H Whole ts lt)
        (λ front v. record { more = v.more; made = t.Assign m v.made; is = subst (λ (z : List Lexeme). Reads 0 z (t.Assign m v.made)) (sym (append_assoc before (k ∷ front) v.more)) (given k is (front ++ v.more) v.made v.is) })
        (λ front x e parts ra.
        nothing_taken (λ back y. Sets (k ∷ (front ++ back)) y) (λ back. SetsOn (k ∷ (front ++ back))) (λ us. Ok (t.Assign m x.0, us)) x.1 (t.Assign m x.0)
        (given k is (front ++ []) x.0 (subst (λ (z : List Lexeme). Reads 0 z x.0) (sym (append-nil front)) ra)) (λ us same. refl))

    no_set : Reads 0 (before ++ []) (t.Named m)
    no_set = (omega arith, subst (Single (IsName m)) (sym (append-nil before)) name)

    set_by_law : (k : Lexeme) (ts : List Lexeme) → length ts < n → (v : Bool) → is_mark (codes "=") k ≡ v → Outcome Sets SetsOn (set_to read m) (k ∷ ts) (cond v (read Whole ts >>= λ x. Ok (t.Assign m x.0, x.1)) (Ok (t.Named m, k ∷ ts)))
    set_by_law k ts lt true is = after Sets SetsOn (set_to read m) (λ us. read Whole us >>= λ x. Ok (t.Assign m x.0, x.1)) k ts (read Whole ts >>= λ x. Ok (t.Assign m x.0, x.1)) (λ us. rw is refl) (setting_law k ts lt (mark_from (codes "=") k is))
    set_by_law k ts lt false is = nothing_taken Sets SetsOn (set_to read m) (k ∷ ts) (t.Named m) no_set (by_head (λ us. set_to read m us ≡ Ok (t.Named m, us)) k ts (λ us. rw is refl))

    set_law : (ts : List Lexeme) → length ts ≤ n → Outcome Sets SetsOn (set_to read m) ts (set_to read m ts)
    set_law [] le = nothing_taken Sets SetsOn (set_to read m) [] (t.Named m) no_set (at_end (λ us. set_to read m us ≡ Ok (t.Named m, us)) refl)
    set_law (k ∷ ts) le = set_by_law k ts (omega arith) (is_mark (codes "=") k) refl

  -- a tree that is no name
  pub kept : (e : Tree) (before : List Lexeme) → Reads 1 before e → (ts : List Lexeme) → ((us : List Lexeme) → assignment_after read e us ≡ Ok (e, us))
      → Outcome (λ front x. Reads 0 (before ++ front) x) (λ front. Viable 0 (before ++ front)) (assignment_after read e) ts (Ok (e, ts))
  kept e before r ts h =
      nothing_taken (λ front x. Reads 0 (before ++ front) x) (λ front. Viable 0 (before ++ front)) (assignment_after read e) ts e
      (subst (λ (z : List Lexeme). Reads 0 z e) (sym (append-nil before)) (relevel e 1 0 before r (omega arith))) (λ us same. h us)

  pub assigned_law : (e : Tree) (before : List Lexeme) → Reads 1 before e → (ts : List Lexeme) → length ts ≤ n
      → Outcome (λ front x. Reads 0 (before ++ front) x) (λ front. Viable 0 (before ++ front)) (assignment_after read e) ts (assignment_after read e ts)
  unfolding assignment_after
  assigned_law (t.Named m) before r ts le = set_law m before r.1 ts le
  assigned_law (t.Number v) before r ts le = kept (t.Number v) before r ts (λ us. refl)
  assigned_law (t.Group a) before r ts le = kept (t.Group a) before r ts (λ us. refl)
  assigned_law (t.Unary op a) before r ts le = kept (t.Unary op a) before r ts (λ us. refl)
  assigned_law (t.Binary op x y) before r ts le = kept (t.Binary op x y) before r ts (λ us. refl)
  assigned_law (t.Cond c x y) before r ts le = kept (t.Cond c x y) before r ts (λ us. refl)
  assigned_law (t.Assign m a) before r ts le = kept (t.Assign m a) before r ts (λ us. refl)
  assigned_law (t.Call m args) before r ts le = kept (t.Call m args) before r ts (λ us. refl)

  pub choice_short : (ts : List Lexeme) (x : Tree × List Lexeme) → choice read ts ≡ Ok x → length x.1 < length ts
  choice_short ts x is = shrinks Choice ts x (choice_is ts ∙ is)

  pub whole_law : (ts : List Lexeme) → length ts ≤ n → Outcome (Reads 0) (Viable 0) (whole read) ts (whole read ts)
  unfolding whole
  whole_law ts le =
      seq (Reads 0) (Viable 0) (choice read) (λ e us. assignment_after read e us) ts (Reads 1) (Viable 1) (choice_law ts le)
      (λ front v. record { more = v.more; made = v.made; is = relevel v.made 1 0 (front ++ v.more) v.is (omega arith) })
      (λ front x is parts r. assigned_law x.0 front r x.1 (omega (arith, choice_short ts x is)))
