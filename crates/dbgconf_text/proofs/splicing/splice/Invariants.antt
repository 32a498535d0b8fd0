use Rattle.std.proofs.Common.{◌-◌, ◌≤◌, length, take}
use Rattle.std.specs.Prelude.{string_bytes}
use Rattle.expr_grammar.specs.Lexeme.{lexemes}
use Rattle.dbgconf_text.specs.Replacing.{settings_of}
use Rattle.dbgconf_text.specs.Splicing.{Splicing}
use Rattle.dbgconf_text.proofs.Stepping.{Holds}
use Rattle.dbgconf_text.proofs.splicing.splice.Given as goal

abbrev pub invariant-loop-start : goal.invariant-loop-start
invariant-loop-start l =
    record {
      at : Splicing l.text (string_bytes l.out) l.rest (lexemes l.tokens) l.start (settings_of l.conf);
      values : Holds l.left (settings_of l.conf) (take l.start (lexemes l.tokens));
      within : l.start ≤ length l.tokens;
    }

abbrev pub decreases-loop-start : goal.decreases-loop-start
decreases-loop-start l = length l.tokens - l.start
