-- A text in which the values of declarations are replaced: its tokens, and its code.
use Rattle.std.proofs.Common.{◌≡◌, ℕ, List, refl, arith}
use Rattle.expr_grammar.specs.Lexeme.{Lexeme}
use Rattle.expr_grammar.specs.Tree.{StmtTree}
use Rattle.expr_grammar.specs.Grammar.{ReadsCode}
use Rattle.expr_grammar.specs.Lexing.{AreTokensOf}
use Rattle.expr_grammar.specs.Bare.{bare_code}
use Rattle.dbgconf_text.specs.Cuts.{Setting, cuts, spliced_text, with_values, AreSmall}
use Rattle.dbgconf_text.proofs.Splice.{spliced_tokens}
use Rattle.dbgconf_text.proofs.Changed.{changes}
use Rattle.expr_grammar.proofs.Again.{again_code}
use Rattle.expr_grammar.specs.Fits.{Fits}
use Rattle.expr_grammar.proofs.Fits.{fits_moved, fits, none_deep}
use Rattle.expr_grammar.specs.declared.limit.Span.TheVariants.{Statement}
use Rattle.expr_grammar.specs.Refusal.{IsAccepted}
use Rattle.std.proofs.Common.{[]}

pub record Replaced (new : List ℕ) (code : List StmtTree) : Type 0 where
  pub tokens : List Lexeme
  pub trees : List StmtTree
  pub are : AreTokensOf new tokens
  pub reads : ReadsCode tokens trees
  pub same : bare_code trees ≡ bare_code code
  pub fits : Fits [] tokens

pub replaced : (text : List ℕ) (set : List Setting) (ts : List Lexeme) (code : List StmtTree) → AreSmall set → AreTokensOf text ts → ReadsCode ts code → Fits [] ts → Replaced (spliced_text text 0 (cuts set ts)) (with_values set code)
replaced text set ts code small are reads fit =
    let new = spliced_text text 0 (cuts set ts) in
    let c = changes code set ts small reads in
    let m = spliced_tokens text new c.cutting 0 0 are (omega arith) (omega arith) refl in
    let x = again_code (with_values set code) c.changed m.us c.reads m.moved in
    record { tokens = m.us; trees = x.trees; are = m.divides; reads = x.reads; same = x.same; fits = fits_moved c.changed m.us [] [] (c.fits fit) m.moved tt }

pub record IsReplaced (new : List ℕ) (code : List StmtTree) : Type 0 where
  pub tokens : List Lexeme
  pub trees : List StmtTree
  pub are : AreTokensOf new tokens
  pub accepted : IsAccepted ReadsCode Statement tokens trees
  pub same : bare_code trees ≡ bare_code code

pub accepted : (text : List ℕ) (set : List Setting) (ts : List Lexeme) (code : List StmtTree) → AreSmall set → AreTokensOf text ts → IsAccepted ReadsCode Statement ts code → IsReplaced (spliced_text text 0 (cuts set ts)) (with_values set code)
accepted text set ts code small are is =
    let r = replaced text set ts code small are is.reads (fits ts is.none_deep) in
    record { tokens = r.tokens; trees = r.trees; are = r.are; accepted = record { reads = r.reads; none_deep = none_deep r.tokens r.fits }; same = r.same }
