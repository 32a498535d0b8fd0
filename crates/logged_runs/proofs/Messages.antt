-- Which lines are those of messages of type 2.
use Rattle.std.proofs.Common.{◌≡◌, ◌∙◌, ℕ, ◌+◌, ◌<◌, ◌^◌, nat_eq, nat_lt, slice_index, get_or, drop, Bool, true, false, cond, ◌&&◌, List, [], ◌∷◌, ◌++◌, codes, decimal, Some, Ok, Err, refl, sym, ap, arith}
use Rattle.std.proofs.lemmas.Bool.{eqb-true, le-ltb, lt-ltb, ne_eqb, and_right}
use Rattle.std.proofs.lemmas.Fmt.{decimal_digit, decimal_injective, decimal_is_IsNumeral}
use Rattle.std.proofs.lemmas.Str.Parse.{digit_from_value}
use Rattle.std.specs.Str.Parse.{IsNumeral}
use Rattle.function_table.specs.declared.function.Function.{Function}
use Rattle.function_table.specs.declared.function.Function.TheVariants as f
use Rattle.sequence_rules.specs.Calls.{function_result, line_result}
use Rattle.sequence_rules.specs.Direct.{Now, direct}
use Rattle.sequence_rules.specs.Lines.{message_line, query_line, value_line, load_line}
use Rattle.sequence_rules.specs.Machine.{State, Out, end_state}
use Rattle.run_events.specs.OfValues.{new_line, written_line}
use Rattle.logged_runs.specs.Seen.{has_error, is_error_call, is_error_line}
use Rattle.dap_base.proofs.Basics.{or_none}

abbrev S : Type 0
S = State ℕ Now

not_two : (k : ℕ) → (k ≡ 2 → ⊥) → false ≡ nat_eq k 2
not_two k some = sym (ne_eqb k 2 some)

decimal_two : decimal 2 ≡ 50 ∷ []
decimal_two = decimal_digit 2 (omega arith)

by_digits : (k : ℕ) (ds a b : List ℕ) → k < 2 ^ 64 → ds ≡ decimal k → IsNumeral 10 ds → is_error_line (codes "message " ++ ds ++ codes " " ++ a ++ b) ≡ nat_eq k 2
by_digits k [] a b fits is h = absurd (omega (arith, h.0))
by_digits k (d ∷ []) a b fits is h = one (nat_eq d 50) refl
  where
    two_is : d ≡ 50 → k ≡ 2
    two_is e = decimal_injective k 2 fits (omega arith) (sym is ∙ ap (λ x. x ∷ []) e ∙ sym decimal_two)

    one : (c : Bool) → nat_eq d 50 ≡ c → is_error_line (codes "message " ++ d ∷ [] ++ codes " " ++ a ++ b) ≡ nat_eq k 2
    one true e = (let same : d ≡ 50 = eqb-true d 50 e in rw (same, two_is same) refl)
    one false e = rw e (not_two k (λ two. differs (ap (λ x. get_or x 0 0) (is ∙ ap decimal two ∙ decimal_two))))
      where
        differs : d ≡ 50 → ⊥
        differs same = (let yes : nat_eq d 50 ≡ true = rw same refl in absurd cc)
by_digits k (d ∷ e ∷ more) a b fits is h =
    let digit = digit_from_value e h.1.1.0 in
    let other : nat_eq e 32 ≡ false = ne_eqb e 32 (omega (arith, digit.0)) in
    rw other (and_right (nat_eq d 50) false refl ∙ not_two k (λ two. longer (is ∙ ap decimal two ∙ decimal_two)))
  where
    longer : d ∷ e ∷ more ≡ 50 ∷ [] → ⊥
    longer same = absurd cc

pub message_is : (k : ℕ) (text numbers : List ℕ) → k < 2 ^ 64 → is_error_line (message_line k text numbers) ≡ nat_eq k 2
unfolding message_line
message_is k text numbers fits = by_digits k (decimal k) _ _ fits refl (decimal_is_IsNumeral k fits).0

query_is : (k n : ℕ) (text : List ℕ) → is_error_line (query_line k text n) ≡ false
unfolding query_line
query_is k n text = refl

value_is : (n : ℕ) (text : List ℕ) → is_error_line (value_line text n) ≡ false
unfolding value_line
value_is n text = refl

load_is : (text : List ℕ) → is_error_line (load_line text) ≡ false
unfolding load_line
load_is text = refl

-- a call came to a value
abbrev pub came : Out ℕ Now ℕ → Bool
came (Ok x) = true
came (Err e) = false

nothing : (test : Bool) → has_error (cond test [] []) ≡ false
nothing true = refl
nothing false = refl

-- a line is one more, or the run halts
line_error : (line : List ℕ) (n : ℕ) (s : S) (b : Bool) → is_error_line line ≡ b
    → has_error (cond (nat_lt s.lines (end_state (line_result (direct false) line n s)).lines) (written_line (Some line)) []) ≡ (b && came (line_result (direct false) line n s))
unfolding line_result
line_error line n s b is = by (nat_lt s.lines 100000) refl
  where
    more : nat_lt s.lines (s.lines + 1) ≡ true
    more = lt-ltb s.lines (s.lines + 1) (omega arith)

    same : nat_lt s.lines s.lines ≡ false
    same = le-ltb s.lines s.lines (omega arith)

    and_true : (c : Bool) → c ≡ (c && true)
    and_true true = refl
    and_true false = refl

    by : (c : Bool) → nat_lt s.lines 100000 ≡ c → has_error (cond (nat_lt s.lines (end_state (line_result (direct false) line n s)).lines) (written_line (Some line)) []) ≡ (b && came (line_result (direct false) line n s))
    by true e = rw e (rw more (sym (or_none (is_error_line line)) ∙ is ∙ and_true b))
    by false e = rw e (rw same (sym (and_right b false refl)))

-- whether a call of a function writes the line of a message of type 2
pub error_is : (function : Function) (text n : List ℕ) (s : S) → slice_index n 0 < 2 ^ 64
    → has_error (new_line function text n s (end_state (function_result (direct false) function text n s))) ≡ (is_error_call function n && came (function_result (direct false) function text n s))
unfolding function_result
error_is f.Message text n s fits = line_error _ _ s _ (message_is (slice_index n 0) text (drop 1 n) fits)
error_is f.Query text n s fits = line_error _ _ s _ (query_is (slice_index n 0) (slice_index n 1) text)
error_is f.QueryValue text n s fits = line_error _ _ s _ (value_is (slice_index n 0) text)
error_is f.LoadDebugInfo text n s fits = line_error _ _ s _ (load_is text)
error_is other text n s fits = nothing (nat_lt s.lines (end_state (function_result (direct false) other text n s)).lines)
