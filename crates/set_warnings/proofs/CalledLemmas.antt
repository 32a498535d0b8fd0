-- The marks of sequences that are called.
use Rattle.std.proofs.Common.{◌≡◌, ◌≢◌, ◌∙◌, sym, ap, refl, ℕ, ◌<◌, ◌==◌, ◌||◌, Bool, true, false, List, [], ◌∷◌, length, set, get_or, fold, replicate, true≢false, arith}
use Rattle.std.proofs.Math.Bool.{or_assoc}
use Rattle.std.proofs.lemmas.List.{length-set, get_or-set_same, get_or-set_other, get_or-replicate, length-replicate}
use Rattle.std.proofs.lemmas.Bool.{eq-eqb, eqb-true}
use Rattle.std.specs.List.{list_any}
use Rattle.seq_check.specs.declared.step_calls.StepCall.{StepCall}
use Rattle.set_warnings.specs.Sequences.{is_called, flags_with_call, all_marked, AreCalledFlags}
use Rattle.dap_base.proofs.Basics.{or_any, or_none}

-- one mark
one_mark : (flags : List Bool) (k i : ℕ) → i < length flags → get_or (set flags k true) i false ≡ (get_or flags i false || k == i)
one_mark flags k i h = go (k == i) refl where
  go : (b : Bool) → (k == i) ≡ b → get_or (set flags k true) i false ≡ (get_or flags i false || b)
  go true e = (let same : k ≡ i = eqb-true k i e in ap (λ j. get_or (set flags j true) i false) same ∙ get_or-set_same flags i true false h ∙ or_any (get_or flags i false))
  go false e = (let apart : i ≢ k = λ p. true≢false (sym (eq-eqb k i (sym p)) ∙ e) in get_or-set_other flags k i true false apart ∙ or_none (get_or flags i false))

length-marked : (flags : List Bool) (calls : List StepCall) → length (all_marked flags calls) ≡ length flags
length-marked flags [] = refl
length-marked flags (c ∷ calls) = length-marked (flags_with_call flags c) calls ∙ length-set flags c.callee true

-- the marks of the calls of one sequence
list_marks : (flags : List Bool) (calls : List StepCall) (i : ℕ) → i < length flags → get_or (all_marked flags calls) i false ≡ (get_or flags i false || list_any (λ c. c.callee == i) calls)
list_marks flags [] i h = or_none (get_or flags i false)
list_marks flags (c ∷ calls) i h =
    let within : i < length (flags_with_call flags c) = omega (arith, h, length-set flags c.callee true) in
    list_marks (flags_with_call flags c) calls i within ∙ ap (λ b. b || list_any (λ d. d.callee == i) calls) (one_mark flags c.callee i h)
    ∙ or_assoc (get_or flags i false) (c.callee == i) (list_any (λ d. d.callee == i) calls)

length-all : (flags : List Bool) (lists : List (List StepCall)) → length (fold all_marked flags lists) ≡ length flags
length-all flags [] = refl
length-all flags (cs ∷ lists) = length-all (all_marked flags cs) lists ∙ length-marked flags cs

all_marks : (flags : List Bool) (lists : List (List StepCall)) (i : ℕ) → i < length flags → get_or (fold all_marked flags lists) i false ≡ (get_or flags i false || is_called lists i)
all_marks flags [] i h = or_none (get_or flags i false)
all_marks flags (cs ∷ lists) i h =
    let within : i < length (all_marked flags cs) = omega (arith, h, length-marked flags cs) in
    all_marks (all_marked flags cs) lists i within ∙ ap (λ b. b || is_called lists i) (list_marks flags cs i h)
    ∙ or_assoc (get_or flags i false) (list_any (λ d. d.callee == i) cs) (is_called lists i)

pub are_flags : (lists : List (List StepCall)) (count : ℕ) (flags : List Bool) → flags ≡ fold all_marked (replicate count false) lists → AreCalledFlags lists count flags
are_flags lists count flags is =
    let none = replicate count false in
    record {
      len = ap length is ∙ length-all none lists ∙ length-replicate count false;
      flag = λ i h.
          let within : i < length none = omega (arith, h, length-replicate count false) in
          ap (λ fs. get_or fs i false) is ∙ all_marks none lists i within ∙ ap (λ b. b || is_called lists i) (get_or-replicate count i false false h);
    }
