-- Words ask for one thing, that of their values.
use Rattle.std.proofs.Common.{◌≡◌, ℕ, Bool, List, [], codes, unwrap_or, Option, None, Some, sym, ap, ◌∙◌}
use Rattle.std.specs.Str.Parse.{digits_value}
use Rattle.log_words.specs.declared.answer.LogCommand.{LogCommand}
use Rattle.word_options.specs.Line.{given_value, is_set}
use Rattle.log_words.specs.Line.{log_command_line}
use Rattle.log_words.specs.Asks.{IsTurns, IsLogRequest, WordsAskForLog}

-- the turns by their text
turns_from : Option (List ℕ) → ℕ
turns_from None = 2
turns_from (Some text) = digits_value 10 text

turns_are : (v : Option (List ℕ)) (n : ℕ) → IsTurns v n → n ≡ turns_from v
unfolding turns_from
turns_are None n is = is
turns_are (Some text) n is = sym is.value

-- what is asked for, by the value of each name
asked_from : (List ℕ → Option (List ℕ)) → LogCommand
asked_from value = record {
  selection = record { device = unwrap_or (value (codes "device")) []; variant = value (codes "variant"); pname = value (codes "pname") };
  sequence = unwrap_or (value (codes "sequence")) [];
  turns = turns_from (value (codes "turns"));
  fail = is_set (value (codes "fail"));
}

-- what is asked for, of its parts
abbrev made : List ℕ → Option (List ℕ) → Option (List ℕ) → List ℕ → ℕ → Bool → LogCommand
made device variant pname sequence turns fail =
    record { selection = record { device = device; variant = variant; pname = pname }; sequence = sequence; turns = turns; fail = fail }

is_from : (value : List ℕ → Option (List ℕ)) (a : LogCommand) → IsLogRequest value a → a ≡ asked_from value
unfolding asked_from
is_from value a is =
    let s = a.selection in
    ap (λ d. made d s.variant s.pname a.sequence a.turns a.fail) (sym (ap (λ v. unwrap_or v []) is.device))
    ∙ (ap (λ v. made (unwrap_or (value (codes "device")) []) v s.pname a.sequence a.turns a.fail) is.variant
    ∙ (ap (λ p. made (unwrap_or (value (codes "device")) []) (value (codes "variant")) p a.sequence a.turns a.fail) is.pname
    ∙ (ap (λ q. made (unwrap_or (value (codes "device")) []) (value (codes "variant")) (value (codes "pname")) q a.turns a.fail) (sym (ap (λ v. unwrap_or v []) is.sequence))
    ∙ (ap (λ n. made (unwrap_or (value (codes "device")) []) (value (codes "variant")) (value (codes "pname")) (unwrap_or (value (codes "sequence")) []) n a.fail) (turns_are (value (codes "turns")) a.turns is.turns)
    ∙ ap (λ f. made (unwrap_or (value (codes "device")) []) (value (codes "variant")) (value (codes "pname")) (unwrap_or (value (codes "sequence")) []) (turns_from (value (codes "turns"))) f) is.fail))))

-- one thing
pub one_asked : (words : List (List ℕ)) (a b : LogCommand) → WordsAskForLog words a → WordsAskForLog words b → a ≡ b
one_asked words a b is other = is_from (given_value log_command_line words) a is.found ∙ sym (is_from (given_value log_command_line words) b other.found)
