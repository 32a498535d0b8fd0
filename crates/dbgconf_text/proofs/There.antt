-- Values that code has already.
use Rattle.std.proofs.Common.{◌≡◌, ℕ, Bool, true, false, cond, List, [], ◌∷◌, Option, Some, None, Ok, refl, sym, ap, ◌∙◌}
use Rattle.std.specs.Str.{bytes_eq}
use Rattle.std.specs.Cmp.Lexicographic.{bytes_decides}
use Rattle.std.proofs.lemmas.Option.{none-some, same_Some}
use Rattle.expr_grammar.specs.declared.code.Name.{Name}
use Rattle.expr_grammar.specs.declared.limit.Span.TheVariants.{Statement}
use Rattle.expr_grammar.specs.Lexeme.{Lexeme}
use Rattle.expr_grammar.specs.Lexing.{AreTokensOf}
use Rattle.expr_grammar.specs.Grammar.{ReadsCode}
use Rattle.expr_grammar.specs.Refusal.{IsAccepted}
use Rattle.expr_grammar.specs.Tree.{Tree, Number, StmtTree, Empty, Declare, Plain}
use Rattle.expr_grammar.specs.Bare.{bare_code}
use Rattle.dbgconf_text.specs.declared.conf.ConfItem.{ConfItem}
use Rattle.dbgconf_text.specs.Cuts.{AreSmall, Setting, new_value, value_of, with_values, without}
use Rattle.dbgconf_text.specs.Replacing.{Replaces, settings_of}
use Rattle.dbgconf_text.specs.There.{AreThere, first_declared}
use Rattle.dbgconf_text.proofs.Statements.{value_without}
use Rattle.dbgconf_text.proofs.Replaced.{has_values}
use Rattle.dap_base.proofs.Basics.{text_itself}

-- a declaration with its own value
own_value : (o : Option ℕ) (e : Tree) → ((v : ℕ) → o ≡ Some v → e ≡ Number v) → new_value o e ≡ e
own_value None e h = refl
own_value (Some v) e h = sym (h v refl)

has_own : (o : Option ℕ) (e : Tree) (v : ℕ) → new_value o e ≡ e → o ≡ Some v → e ≡ Number v
has_own o e v same is = sym same ∙ ap (λ (p : Option ℕ). new_value p e) is

-- ---- what is there of the other names is there after a declaration

there_by : (b : Bool) (name : List ℕ) (set : List Setting) (value : ℕ) (d e : Tree) (more : Option Tree)
    → cond b None (value_of name set) ≡ Some value → more ≡ Some e → (value_of name set ≡ Some value) × (cond b (Some d) more ≡ Some e)
there_by true name set value d e more is there = absurd (none-some value is)
there_by false name set value d e more is there = (is, there)

there_after : (n : Name) (d : Tree) (more : List StmtTree) (set : List Setting) → AreThere set (Declare n d ∷ more) → AreThere (without n.text set) more
there_after n d more set h = λ name value e is there.
    let p = there_by (bytes_eq n.text name) name set value d e (first_declared name more) (sym (value_without n.text name set) ∙ is) there in
    h name value e p.0 p.1

pub not_changed : (code : List StmtTree) (set : List Setting) → AreThere set code → with_values set code ≡ code
not_changed [] set h = refl
not_changed (Empty at ∷ more) set h = ap (λ (c : List StmtTree). Empty at ∷ c) (not_changed more set h)
not_changed (Plain at e ∷ more) set h = ap (λ (c : List StmtTree). Plain at e ∷ c) (not_changed more set h)
not_changed (Declare n e ∷ more) set h =
    let there : first_declared n.text (Declare n e ∷ more) ≡ Some e = rw (text_itself n.text) refl in
    let own : new_value (value_of n.text set) e ≡ e = own_value (value_of n.text set) e (λ v is. h n.text v e is there) in
    ap (λ (x : Tree). Declare n x ∷ with_values (without n.text set) more) own ∙ ap (λ (c : List StmtTree). Declare n e ∷ c) (not_changed more (without n.text set) (there_after n e more set h))

-- ---- and where nothing is changed, all was there

rest_same : (s : StmtTree) (xs ys : List StmtTree) → s ∷ xs ≡ s ∷ ys → xs ≡ ys
rest_same s xs ys e = cc

declare_same : (n : Name) (x y : Tree) (xs ys : List StmtTree) → Declare n x ∷ xs ≡ Declare n y ∷ ys → (x ≡ y) × (xs ≡ ys)
declare_same n x y xs ys e = (cc, cc)

-- what is there after a declaration, and the value of the declaration itself
there_before : (n : Name) (d : Tree) (more : List StmtTree) (set : List Setting) → new_value (value_of n.text set) d ≡ d → AreThere (without n.text set) more → AreThere set (Declare n d ∷ more)
there_before n d more set own rest = λ name value e. by name value e (bytes_eq n.text name) refl where
  by : (name : List ℕ) (value : ℕ) (e : Tree) (b : Bool) → bytes_eq n.text name ≡ b → value_of name set ≡ Some value → cond (bytes_eq n.text name) (Some d) (first_declared name more) ≡ Some e → e ≡ Number value
  by name value e true eq is there =
      let same : d ≡ e = same_Some d e (sym (ap (λ (b : Bool). cond b (Some d) (first_declared name more)) eq) ∙ there) in
      let value_is : value_of n.text set ≡ Some value = ap (λ (m : List ℕ). value_of m set) ((bytes_decides n.text name).0 eq) ∙ is in
      sym same ∙ has_own (value_of n.text set) d value own value_is
  by name value e false eq is there =
      let in_rest : first_declared name more ≡ Some e = sym (ap (λ (b : Bool). cond b (Some d) (first_declared name more)) eq) ∙ there in
      let left : value_of name (without n.text set) ≡ Some value = value_without n.text name set ∙ ap (λ (b : Bool). cond b None (value_of name set)) eq ∙ is in
      rest name value e left in_rest

pub all_there : (code : List StmtTree) (set : List Setting) → with_values set code ≡ code → AreThere set code
all_there [] set same = λ name value e is there. absurd cc
all_there (Empty at ∷ more) set same = all_there more set (rest_same (Empty at) (with_values set more) more same)
all_there (Plain at d ∷ more) set same = all_there more set (rest_same (Plain at d) (with_values set more) more same)
all_there (Declare n d ∷ more) set same =
    let parts = declare_same n (new_value (value_of n.text set) d) d (with_values (without n.text set) more) more same in
    there_before n d more set parts.0 (all_there more (without n.text set) parts.1)

-- ---- the text

pub reads_the_same : (text : List ℕ) (conf : List ConfItem) (new : List ℕ) (ts : List Lexeme) (code : List StmtTree) → AreSmall (settings_of conf) → Replaces text conf (Ok new)
    → AreTokensOf text ts → IsAccepted ReadsCode Statement ts code → AreThere (settings_of conf) code
    → (us : List Lexeme) × (trees : List StmtTree) × AreTokensOf new us × IsAccepted ReadsCode Statement us trees × (bare_code trees ≡ bare_code code)
reads_the_same text conf new ts code small replaced are is there =
    let v = has_values text conf new replaced ts code small are is in
    (v.0, v.1, v.2, v.3, v.4 ∙ ap bare_code (not_changed code (settings_of conf) there))
