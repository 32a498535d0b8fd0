-- An answer to words, by what clap finds in them.
use Rattle.std.proofs.Common.{◌≡◌, List, Option, Result, Ok, Err, refl, sym, subst}
use Rattle.std.specs.Prelude.{IfOk, IfErr, MatchResult}
use Rattle.std.proofs.lemmas.Result.{IfOk-weaker}
use Rattle.std.proofs.Math.Path.{fun_ext}
use Rattle.clap.specs.Words.{App, Text, first_value, found_of}
use Rattle.clap.specs.declared.parser.matches.ArgMatches.{ArgMatches}
use Rattle.word_options.specs.declared.answer.WordsError.{WordsError}
use Rattle.word_options.specs.declared.answer.WordsError.TheVariants as errors
use Rattle.word_options.specs.Line.{HasMatches, WordsAskFor, given_value}

module _ {A : Type 0} (line : App) (IsAskedBy : (Text → Option Text) → A → Type 0) (words texts : List Text) (m : ArgMatches) (r : Result A WordsError) (same : texts ≡ words)
    (has : HasMatches line texts (Ok m)) where
  of_words : HasMatches line words (Ok m)
  of_words = subst (λ (ws : List Text). HasMatches line ws (Ok m)) same has

  values : first_value (found_of m) ≡ given_value line words
  values = fun_ext of_words.values

  pub answered : IfOk r (IsAskedBy (first_value (found_of m))) → IfOk r (WordsAskFor line IsAskedBy words)
  answered answer = IfOk-weaker r (IsAskedBy (first_value (found_of m))) (WordsAskFor line IsAskedBy words) (λ a is. record {
    taken = of_words.taken;
    found = subst (λ (value : Text → Option Text). IsAskedBy value a) values is;
  }) answer

  pub no_usage : IfErr r (λ e. e ≡ errors.Usage → (a : A) → IsAskedBy (first_value (found_of m)) a → ⊥) → IfErr r (λ e. e ≡ errors.Usage → (a : A) → WordsAskFor line IsAskedBy words a → ⊥)
  no_usage usage = go r usage
    where
      back : (a : A) → WordsAskFor line IsAskedBy words a → IsAskedBy (first_value (found_of m)) a
      back a asks = subst (λ (value : Text → Option Text). IsAskedBy value a) (sym values) asks.found

      go : (q : Result A WordsError) → IfErr q (λ e. e ≡ errors.Usage → (a : A) → IsAskedBy (first_value (found_of m)) a → ⊥) → IfErr q (λ e. e ≡ errors.Usage → (a : A) → WordsAskFor line IsAskedBy words a → ⊥)
      go (Ok a) usage = tt
      go (Err e) usage = λ is a asks. usage is a (back a asks)

-- what words ask for is answered, unless memory is refused
pub only_asked : {A : Type 0} (Asks : A → Type 0) (r : Result A WordsError) → ((a b : A) → Asks a → Asks b → a ≡ b) → IfOk r Asks
    → IfErr r (λ e. e ≡ errors.Usage → (a : A) → Asks a → ⊥) → (a : A) → Asks a → MatchResult r (λ x. x ≡ a) (λ e. e ≡ errors.OutOfMemory)
only_asked Asks (Ok x) one answer usage a asks = one x a answer asks
only_asked Asks (Err errors.Usage) one answer usage a asks = absurd (usage refl a asks)
only_asked Asks (Err errors.OutOfMemory) one answer usage a asks = refl
