-- Words ask for one thing, that of their values.
use Rattle.std.proofs.Common.{◌≡◌, ◌==◌, ℕ, Bool, List, [], ◌∷◌, if◌then◌else◌, codes, Option, None, Some, refl, sym, ap, ◌∙◌}
use Rattle.faults_words.specs.declared.answer.FaultsCommand.{FaultsCommand}
use Rattle.faults_words.specs.declared.format.Format.{Format}
use Rattle.faults_words.specs.declared.format.Format.TheVariants.{Text, Json, Sarif}
use Rattle.word_options.specs.Line.{given_value}
use Rattle.faults_words.specs.Line.{faults_command_line}
use Rattle.faults_words.specs.Asks.{IsFormat, WordsAskForFaults, format_text}

first : List ℕ → ℕ
first [] = 0
first (b ∷ bs) = b

-- the format by the first letter of its name: `t`, `j` or another
by_letter : ℕ → Format
by_letter b = if b == 116 then Text else (if b == 106 then Json else Sarif)

by_name : (f : Format) → by_letter (first (format_text f)) ≡ f
unfolding first by_letter
by_name Text = refl
by_name Json = refl
by_name Sarif = refl

same_named : (f g : Format) → format_text f ≡ format_text g → f ≡ g
same_named f g e = sym (by_name f) ∙ (ap (λ name. by_letter (first name)) e ∙ by_name g)

same_format : (v : Option (List ℕ)) (f g : Format) → IsFormat v f → IsFormat v g → f ≡ g
same_format None f g is other = is ∙ sym other
same_format (Some name) f g is other = same_named f g (sym is ∙ other)

-- what is asked for, of its parts
abbrev made : Option (List ℕ) → Option (List ℕ) → Option (List ℕ) → Format → Bool → FaultsCommand
made device variant pname format warnings = record { device = device; variant = variant; pname = pname; format = format; warnings = warnings }

-- one thing
pub one_asked : (words : List (List ℕ)) (a b : FaultsCommand) → WordsAskForFaults words a → WordsAskForFaults words b → a ≡ b
one_asked words a b is other =
    ap (λ d. made d a.variant a.pname a.format a.warnings) (is.found.device ∙ sym other.found.device)
    ∙ (ap (λ v. made b.device v a.pname a.format a.warnings) (is.found.variant ∙ sym other.found.variant)
    ∙ (ap (λ p. made b.device b.variant p a.format a.warnings) (is.found.pname ∙ sym other.found.pname)
    ∙ (ap (λ f. made b.device b.variant b.pname f a.warnings) (same_format (given_value faults_command_line words (codes "format")) a.format b.format is.found.format other.found.format)
    ∙ ap (λ w. made b.device b.variant b.pname b.format w) (is.found.warnings ∙ sym other.found.warnings))))
