-- What is answered to a text of debug variables.
use Rattle.std.proofs.Common.{◌≡◌, ℕ, false, List, Result, Ok, Err, IfOk, sym, ap, subst, ◌∙◌}
use Rattle.dap_base.specs.declared.text.Place.{Place}
use Rattle.expr_grammar.specs.declared.parse.ParseError.{ParseError}
use Rattle.expr_grammar.specs.declared.parse.ParseError.TheVariants as parsing
use Rattle.expr_grammar.specs.declared.token_list.TokenError.TheVariants as tokens
use Rattle.expr_grammar.specs.declared.limit.Span.TheVariants.{Statement}
use Rattle.expr_grammar.specs.Lexeme.{Lexeme}
use Rattle.expr_grammar.specs.Tree.{StmtTree, code_trees}
use Rattle.expr_grammar.specs.Grammar.{ReadsCode}
use Rattle.expr_grammar.specs.Lexing.{AreTokensOf, Lexes}
use Rattle.expr_grammar.specs.Refusal.{Accepts, IsAccepted}
use Rattle.expr_grammar.proofs.OneDivision.{gives_tokens}
use Rattle.dbgconf_text.specs.declared.conf.ConfItem.{ConfItem}
use Rattle.dbgconf_text.specs.declared.replacing.ReplaceFault.{ReplaceFault}
use Rattle.dbgconf_text.specs.Cuts.{cuts, spliced_text}
use Rattle.dbgconf_text.specs.Replacing.{AreCode, HasValues, Replaces, code, no_code, no_memory, settings_of}
use Rattle.dbgconf_text.specs.Splicing.{is_memory}
use Rattle.dbgconf_text.proofs.Whole.{accepted}

pub not_code : (ts : List Lexeme) (e : ParseError) → ((trees : List StmtTree) → IsAccepted ReadsCode Statement ts trees → Accepts code_trees trees (Err e)) → is_memory e ≡ false → AreCode ts → ⊥
not_code ts (parsing.Unexpected at) only e c = only c.0 c.1
not_code ts (parsing.TooDeep at) only e c = only c.0 c.1
not_code ts parsing.OutOfMemory only e c = absurd cc

-- no other list of tokens is the text's
pub other_tokens : (text : List ℕ) (ts : List Lexeme) → AreTokensOf text ts → (AreCode ts → ⊥) → (us : List Lexeme) → AreTokensOf text us → AreCode us → ⊥
other_tokens text ts are other us them c =
    let same : ts ≡ us = gives_tokens text (Ok ts) are us them in
    other (subst AreCode (sym same) c)

pub no_tokens : (text : List ℕ) (at : Place) → Lexes text (Err (tokens.BadToken at)) → (us : List Lexeme) → AreTokensOf text us → AreCode us → ⊥
no_tokens text at l us them c = gives_tokens text (Err (tokens.BadToken at)) l us them

has_by : (text : List ℕ) (conf : List ConfItem) (new : List ℕ) (ts : List Lexeme) → AreTokensOf text ts → new ≡ spliced_text text 0 (cuts (settings_of conf) ts) → HasValues text conf new
has_by text conf new ts are is us trees small them acc =
    let same : ts ≡ us = gives_tokens text (Ok ts) are us them in
    let r = accepted text (settings_of conf) us trees small them acc in
    let whole : new ≡ spliced_text text 0 (cuts (settings_of conf) us) = is ∙ ap (λ (l : List Lexeme). spliced_text text 0 (cuts (settings_of conf) l)) same in
    (r.tokens, r.trees, subst (λ (n : List ℕ). AreTokensOf n r.tokens) (sym whole) r.are, r.accepted, r.same)

pub has_values : (text : List ℕ) (conf : List ConfItem) (new : List ℕ) → Replaces text conf (Ok new) → HasValues text conf new
has_values text conf new (code ts are is answer) = has_by text conf new ts are answer.1
has_values text conf new (no_code none e) = λ ts trees small them acc. absurd (none ts them (trees, acc))
has_values text conf new (no_memory e) = absurd cc

pub as_it_is : (text same : List ℕ) (conf : List ConfItem) → ((ts : List Lexeme) → AreTokensOf text ts → AreCode ts → ⊥) → same ≡ text → Replaces text conf (Ok same)
as_it_is text same conf none e = no_code none (ap (λ (l : List ℕ). Ok l) e)

pub has_ok : (text : List ℕ) (conf : List ConfItem) (r : Result (List ℕ) ReplaceFault) → Replaces text conf r → IfOk r (HasValues text conf)
has_ok text conf (Ok new) h = has_values text conf new h
has_ok text conf (Err e) h = tt
