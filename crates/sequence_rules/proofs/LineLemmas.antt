-- Formats, one piece at a time.
use Rattle.std.proofs.Common.{◌≡◌, ℕ, zero, suc, ◌-◌, ◌<◌, List, ◌++◌, Some, refl, ap, sym, ◌∙◌, arith}
use Rattle.std.proofs.lemmas.List.{append_assoc}
use Rattle.function_table.specs.declared.format.FormatPiece.{FormatPiece}
use Rattle.function_table.specs.Front.{front_of}
use Rattle.sequence_rules.specs.Lines.{formatted_text, piece_shown, piece_rest, first_number}

pub formatted_step : (n : ℕ) (format numbers : List ℕ) (p : FormatPiece) (after : List ℕ) → front_of format ≡ Some (p, after) → 0 < n
    → formatted_text n format numbers ≡ piece_shown p (first_number numbers) ++ formatted_text (n - 1) after (piece_rest p numbers)
unfolding formatted_text
formatted_step zero format numbers p after is pos = absurd (omega arith)
formatted_step (suc k) format numbers p after is pos =
    let less : suc k - 1 ≡ k = omega arith in
    rw less (rw is refl)

pub format_on : (total : List ℕ) (n x : ℕ) (out now rest after numbers left : List ℕ) (p : FormatPiece) → total ≡ out ++ formatted_text n rest numbers → front_of rest ≡ Some (p, after) → 0 < n
    → x ≡ first_number numbers → now ≡ out ++ piece_shown p x → left ≡ piece_rest p numbers → total ≡ now ++ formatted_text (n - 1) after left
format_on total n x out now rest after numbers left p same is pos first more lefts =
    rw more (rw lefts (rw first
    (same ∙ ap (λ t. out ++ t) (formatted_step n rest numbers p after is pos) ∙ sym (append_assoc out (piece_shown p (first_number numbers)) (formatted_text (n - 1) after (piece_rest p numbers))))))
