-- A text in which values are replaced is not much longer than it was.
use Rattle.std.proofs.Common.{◌≡◌, ℕ, zero, suc, ◌+◌, ◌*◌, ◌-◌, ◌/◌, ◌^◌, ◌<◌, ◌≤◌, Bool, true, false, cond, List, [], ◌∷◌, ◌++◌, length, take, drop, Option, Some, None, Ok, refl, sym, ap, ◌∙◌, arith}
use Rattle.std.specs.Prelude.{◌==◌, ◌%◌, codes}
use Rattle.std.specs.Str.{bytes_eq}
use Rattle.std.specs.Fmt.{digits, digit_glyph, digits_onto}
use Rattle.std.proofs.Math.Nat.{pow-suc}
use Rattle.std.proofs.lemmas.List.{length-append, length-drop, length-map, length-take}
use Rattle.text_lines.specs.Hex.{hex}
use Rattle.expr_grammar.specs.Lexeme.{Lexeme}
use Rattle.expr_grammar.specs.Tree.{StmtTree}
use Rattle.expr_grammar.specs.Reading.{is_mark}
use Rattle.expr_grammar.specs.Grammar.{ReadsCode}
use Rattle.expr_grammar.specs.Lexing.{AreTokensOf, Divides, nothing}
use Rattle.expr_grammar.proofs.Moves.{divides_order}
use Rattle.dbgconf_text.specs.declared.conf.ConfItem.{ConfItem}
use Rattle.dbgconf_text.specs.Cuts.{AreSmall, Cut, Setting, cut_after, cuts, spliced_text, value_of, without}
use Rattle.dbgconf_text.specs.Replacing.{Replaces, code, no_code, no_memory, setting_of, settings_of}
use Rattle.dbgconf_text.proofs.Splice.{Cutting, apart, cut, done, token_within}
use Rattle.dbgconf_text.proofs.Changed.{changes}

-- ---- numbers

ne_by : (m : ℕ) → (m == 0) ≡ false → m ≡ 0 → ⊥
ne_by zero more none = absurd cc
ne_by (suc m) more none = absurd (omega (arith, none))

-- one digit more than the digits of a sixteenth, where this is not 0
digit_more : (n digit : ℕ) (rest after : List ℕ) (j : ℕ) → n < 16 ^ suc j → ((i : ℕ) → n / 16 < 16 ^ suc i → length rest ≤ suc i + length (digit ∷ after)) → (b : Bool) → (n / 16 == 0) ≡ b
    → length (cond b (digit ∷ after) rest) ≤ suc j + length after
digit_more n digit rest after j lt more true e = omega arith
digit_more n digit rest after zero lt more false e = absurd (ne_by (n / 16) e (omega (arith, lt)))
digit_more n digit rest after (suc j) lt more false e =
    let le = more j (omega (arith, lt, pow-suc 16 (suc j))) in
    omega (arith, le)

-- a number below 16 to the power j + 1 has at most j + 1 digits
onto_size : (k j n : ℕ) (after : List ℕ) → n < 16 ^ suc j → length (digits_onto k 16 false n after) ≤ suc j + length after
onto_size zero j n after lt = omega arith
onto_size (suc k) j n after lt =
    let digit = digit_glyph false (n % 16) in
    digit_more n digit (digits_onto k 16 false (n / 16) (digit ∷ after)) after j lt (λ i less. onto_size k i (n / 16) (digit ∷ after) less) (n / 16 == 0) refl

digits_size : (v : ℕ) → v < 2 ^ 64 → length (digits 16 false v) ≤ 16
unfolding digits
digits_size v small = onto_size 64 15 v [] (omega (arith, small))

hex_size : (v : ℕ) → v < 2 ^ 64 → length (hex v) ≤ 18
hex_size v small = omega (arith, digits_size v small, length-append (codes "0x") (digits 16 false v))

-- ---- cuts

some_by : (name : List ℕ) (s : Setting) (more : List Setting) (v : ℕ) (b : Bool) → bytes_eq s.name name ≡ b → length (without name more) ≤ length more → (value_of name more ≡ Some v → suc (length (without name more)) ≤ length more)
    → value_of name (s ∷ more) ≡ Some v → suc (length (without name (s ∷ more))) ≤ length (s ∷ more)
some_by name s more v true is fewer one e = rw is (omega (arith, fewer))
some_by name s more v false is fewer one e =
    let there : value_of name (s ∷ more) ≡ value_of name more = rw is refl in
    let rest = one (sym there ∙ e) in
    rw is (omega (arith, rest))

fewer_by : (name : List ℕ) (s : Setting) (more : List Setting) (b : Bool) → bytes_eq s.name name ≡ b → length (without name more) ≤ length more → length (without name (s ∷ more)) ≤ length (s ∷ more)
fewer_by name s more true is le = rw is (omega (arith, le))
fewer_by name s more false is le = rw is (omega (arith, le))

fewer : (name : List ℕ) (set : List Setting) → length (without name set) ≤ length set
fewer name [] = omega arith
fewer name (s ∷ more) = fewer_by name s more (bytes_eq s.name name) refl (fewer name more)

one_fewer : (name : List ℕ) (set : List Setting) (v : ℕ) → value_of name set ≡ Some v → suc (length (without name set)) ≤ length set
one_fewer name [] v e = absurd cc
one_fewer name (s ∷ more) v e = some_by name s more v (bytes_eq s.name name) refl (fewer name more) (one_fewer name more v) e

after_size : (name : List ℕ) (set : List Setting) (equals : Lexeme) (ts : List Lexeme) (more : List Cut) (o : Option ℕ) → value_of name set ≡ o → length more ≤ length (without name set) → length (cut_after o equals ts more) ≤ length set
after_size name set equals ts more None e le = omega (arith, le, fewer name set)
after_size name set equals ts more (Some v) e le = omega (arith, le, one_fewer name set v e)

cuts_by : (set : List Setting) (k n e : Lexeme) (ts : List Lexeme) (b : Bool) → is_mark (codes "__var") k ≡ b → length (cuts (without n.text set) (n ∷ e ∷ ts)) ≤ length (without n.text set) → length (cuts set (n ∷ e ∷ ts)) ≤ length set
    → length (cuts set (k ∷ n ∷ e ∷ ts)) ≤ length set
cuts_by set k n e ts true is own other = rw is (after_size n.text set e ts (cuts (without n.text set) (n ∷ e ∷ ts)) (value_of n.text set) refl own)
cuts_by set k n e ts false is own other = rw is other

-- there are no more cuts than settings
cuts_size : (set : List Setting) (ts : List Lexeme) → length (cuts set ts) ≤ length set
cuts_size set [] = omega arith
cuts_size set (k ∷ []) = omega arith
cuts_size set (k ∷ n ∷ []) = omega arith
cuts_size set (k ∷ n ∷ e ∷ ts) = cuts_by set k n e ts (is_mark (codes "__var") k) refl (cuts_size (without n.text set) (n ∷ e ∷ ts)) (cuts_size set (n ∷ e ∷ ts))

-- ---- texts

spliced_size : (text : List ℕ) {ts changed : List Lexeme} {cs : List Cut} → Cutting ts changed cs → (a : ℕ) → Divides text a ts (length text) → length (spliced_text text a cs) ≤ (length text - a) + 19 * length cs
spliced_size text done a d = omega (arith, length-drop a text)
spliced_size text (cut front mid rest changed equals number semi v more eq_is semi_is kind_is text_is small sub) a d =
    let p = apart text a front equals (mid ++ semi ∷ rest) (length text) d in
    let one : length equals.text ≡ 1 = ap length eq_is.text_is in
    let semi_one : length semi.text ≡ 1 = ap length semi_is.text_is in
    let q = apart text (equals.start + length equals.text) mid semi rest (length text) p.after in
    let later = spliced_size text sub semi.start (nothing, q.here, q.after) in
    let low : a ≤ equals.start = divides_order text a front equals.start p.before in
    let mid_low : equals.start + length equals.text ≤ semi.start = divides_order text (equals.start + length equals.text) mid semi.start q.before in
    let semi_in = token_within text semi q.here (omega (arith, semi_one)) in
    let front_size : length (take (equals.start + 1 - a) (drop a text)) ≤ equals.start + 1 - a = omega (arith, length-take (equals.start + 1 - a) (drop a text)) in
    let all = length-append (take (equals.start + 1 - a) (drop a text)) (32 ∷ (hex v ++ spliced_text text semi.start more)) in
    let after = length-append (hex v) (spliced_text text semi.start more) in
    omega (arith, later, low, mid_low, one, semi_one, semi_in, front_size, all, after, hex_size v small)

pub replaced_size : (text : List ℕ) (set : List Setting) (ts : List Lexeme) (trees : List StmtTree) → AreSmall set → AreTokensOf text ts → ReadsCode ts trees → length (spliced_text text 0 (cuts set ts)) ≤ length text + 19 * length set
replaced_size text set ts trees small are reads =
    let whole = spliced_size text (changes trees set ts small reads).cutting 0 are in
    omega (arith, whole, cuts_size set ts)

pub answer_size : (text : List ℕ) (conf : List ConfItem) (new : List ℕ) → AreSmall (settings_of conf) → Replaces text conf (Ok new) → length new ≤ length text + 19 * length conf
answer_size text conf new small (code ts are is answer) =
    let whole = replaced_size text (settings_of conf) ts is.0 small are is.1.reads in
    omega (arith, whole, ap length answer.1, length-map conf setting_of)
answer_size text conf new small (no_code none e) = let same : new ≡ text = cc in omega (arith, ap length same)
answer_size text conf new small (no_memory e) = absurd cc
