-- What is no row of the table, and the one command of a row and of words.
use Rattle.std.proofs.Common.{◌≡◌, ◌∙◌, ap, ap₂, refl, sym, subst, ℕ, false, true≢false, eq-eqb, nat_eq, List, [], Option, Some, None, codes, slice_index}
use Rattle.std.specs.Prelude.{MatchOption, if◌then◌else◌, ◌==◌, unwrap_or}
use Rattle.std.specs.Str.Parse.{digits_value}
use Rattle.command_words.specs.declared.answer.Command.{Command}
use Rattle.command_words.specs.declared.answer.Command.TheVariants.{Check, Run, Trace, Load, Scan, Gen, Audit}
use Rattle.sequence_resolve.specs.declared.selection.Selection.{Selection}
use Rattle.command_words.specs.declared.mode.Mode.{Mode}
use Rattle.command_words.specs.declared.mode.Mode.TheVariants as mode
use Rattle.command_words.specs.declared.options.Options.{Options}
use Rattle.word_options.specs.Line.{given_value}
use Rattle.command_words.specs.Line.{command_line}
use Rattle.command_words.specs.Table.{IsCommandBy, IsForPort, IsPort, IsRow, IsShortNumber, WordsAreCommand, for_device, for_number, mode_text, no_options, options_by}

-- two names of modes differ at their first bytes
differ : (a b : List ℕ) → nat_eq (slice_index a 0) (slice_index b 0) ≡ false → a ≡ b → ⊥
differ a b not_same e = true≢false (sym (eq-eqb (slice_index a 0) (slice_index b 0) (ap (λ (t : List ℕ). slice_index t 0) e)) ∙ not_same)

pub no_check : (options : Options) → ((s : Selection) → options ≡ for_device s None → ⊥) → (c : Command) → IsRow (codes "check") options c → ⊥
no_check options never (Check s) row = never s row.1
no_check options never (Run s name) row = differ (codes "check") (codes "run") refl row.0
no_check options never (Trace s name) row = differ (codes "check") (codes "trace") refl row.0
no_check options never (Load s name) row = differ (codes "check") (codes "load") refl row.0
no_check options never (Scan s name ap') row = differ (codes "check") (codes "scan") refl row.0
no_check options never (Gen n) row = differ (codes "check") (codes "gen") refl row.0
no_check options never Audit row = differ (codes "check") (codes "audit") refl row.0

pub no_run : (options : Options) → ((s : Selection) (name : List ℕ) → options ≡ for_device s (Some name) → ⊥) → (c : Command) → IsRow (codes "run") options c → ⊥
no_run options never (Check s) row = differ (codes "run") (codes "check") refl row.0
no_run options never (Run s name) row = never s name row.1
no_run options never (Trace s name) row = differ (codes "run") (codes "trace") refl row.0
no_run options never (Load s name) row = differ (codes "run") (codes "load") refl row.0
no_run options never (Scan s name ap') row = differ (codes "run") (codes "scan") refl row.0
no_run options never (Gen n) row = differ (codes "run") (codes "gen") refl row.0
no_run options never Audit row = differ (codes "run") (codes "audit") refl row.0

pub no_trace : (options : Options) → ((s : Selection) (name : List ℕ) → options ≡ for_device s (Some name) → ⊥) → (c : Command) → IsRow (codes "trace") options c → ⊥
no_trace options never (Check s) row = differ (codes "trace") (codes "check") refl row.0
no_trace options never (Run s name) row = differ (codes "trace") (codes "run") refl row.0
no_trace options never (Trace s name) row = never s name row.1
no_trace options never (Load s name) row = differ (codes "trace") (codes "load") refl row.0
no_trace options never (Scan s name ap') row = differ (codes "trace") (codes "scan") refl row.0
no_trace options never (Gen n) row = differ (codes "trace") (codes "gen") refl row.0
no_trace options never Audit row = differ (codes "trace") (codes "audit") refl row.0

pub no_load : (options : Options) → ((s : Selection) (name : List ℕ) → options ≡ for_device s (Some name) → ⊥) → (c : Command) → IsRow (codes "load") options c → ⊥
no_load options never (Check s) row = differ (codes "load") (codes "check") refl row.0
no_load options never (Run s name) row = differ (codes "load") (codes "run") refl row.0
no_load options never (Trace s name) row = differ (codes "load") (codes "trace") refl row.0
no_load options never (Load s name) row = never s name row.1
no_load options never (Scan s name ap') row = differ (codes "load") (codes "scan") refl row.0
no_load options never (Gen n) row = differ (codes "load") (codes "gen") refl row.0
no_load options never Audit row = differ (codes "load") (codes "audit") refl row.0

pub no_scan : (options : Options) → ((s : Selection) (name : List ℕ) (ap' : ℕ) → IsForPort options s name ap' → ⊥) → (c : Command) → IsRow (codes "scan") options c → ⊥
no_scan options never (Check s) row = differ (codes "scan") (codes "check") refl row.0
no_scan options never (Run s name) row = differ (codes "scan") (codes "run") refl row.0
no_scan options never (Trace s name) row = differ (codes "scan") (codes "trace") refl row.0
no_scan options never (Load s name) row = differ (codes "scan") (codes "load") refl row.0
no_scan options never (Scan s name ap') row = never s name ap' row.1
no_scan options never (Gen n) row = differ (codes "scan") (codes "gen") refl row.0
no_scan options never Audit row = differ (codes "scan") (codes "audit") refl row.0

pub no_gen : (options : Options) → ((text : List ℕ) (n : ℕ) → IsShortNumber text n → options ≡ for_number text → ⊥) → (c : Command) → IsRow (codes "gen") options c → ⊥
no_gen options never (Check s) row = differ (codes "gen") (codes "check") refl row.0
no_gen options never (Run s name) row = differ (codes "gen") (codes "run") refl row.0
no_gen options never (Trace s name) row = differ (codes "gen") (codes "trace") refl row.0
no_gen options never (Load s name) row = differ (codes "gen") (codes "load") refl row.0
no_gen options never (Scan s name ap') row = differ (codes "gen") (codes "scan") refl row.0
no_gen options never (Gen n) row = never row.1 n row.2 row.3
no_gen options never Audit row = differ (codes "gen") (codes "audit") refl row.0

pub no_audit : (options : Options) → (options ≡ no_options → ⊥) → (c : Command) → IsRow (codes "audit") options c → ⊥
no_audit options never (Check s) row = differ (codes "audit") (codes "check") refl row.0
no_audit options never (Run s name) row = differ (codes "audit") (codes "run") refl row.0
no_audit options never (Trace s name) row = differ (codes "audit") (codes "trace") refl row.0
no_audit options never (Load s name) row = differ (codes "audit") (codes "load") refl row.0
no_audit options never (Scan s name ap') row = differ (codes "audit") (codes "scan") refl row.0
no_audit options never (Gen n) row = differ (codes "audit") (codes "gen") refl row.0
no_audit options never Audit row = never row.1

pub none_of : (m : Mode) (text : List ℕ) (options : Options) (r : Option Command) → r ≡ None → mode_text m ≡ text → ((c : Command) → IsRow text options c → ⊥)
    → MatchOption r ((c : Command) → IsRow (mode_text m) options c → ⊥) (λ c. IsRow (mode_text m) options c)
none_of m text options r none is never = rw none (λ c row. never c (subst (λ (t : List ℕ). IsRow t options c) is row))

-- a row has one of the modes
pub mode_of_row : (text : List ℕ) (options : Options) (c : Command) → IsRow text options c → (m : Mode) × (text ≡ mode_text m)
mode_of_row text options (Check s) row = (mode.Check, row.0)
mode_of_row text options (Run s name) row = (mode.Run, row.0)
mode_of_row text options (Trace s name) row = (mode.Trace, row.0)
mode_of_row text options (Load s name) row = (mode.Load, row.0)
mode_of_row text options (Scan s name ap') row = (mode.Scan, row.0)
mode_of_row text options (Gen n) row = (mode.Gen, row.0)
mode_of_row text options Audit row = (mode.Audit, row.0)

-- ---- the one command

abbrev selection_of : Options → Selection
selection_of o = record { device = unwrap_or o.device []; variant = o.variant; pname = o.pname }

-- the number of an access port by its digits
abbrev port_from : Option (List ℕ) → ℕ
port_from None = 0
port_from (Some text) = digits_value 10 text

port_is : (number : Option (List ℕ)) (ap' : ℕ) → IsPort number ap' → port_from number ≡ ap'
port_is None ap' is = sym is
port_is (Some text) ap' is = is.0.value

-- by the first byte of the mode
abbrev command_from : List ℕ → Options → Command
command_from m o =
    if slice_index m 0 == 99 then Check (selection_of o)
    else (if slice_index m 0 == 114 then Run (selection_of o) (unwrap_or o.sequence [])
    else (if slice_index m 0 == 116 then Trace (selection_of o) (unwrap_or o.sequence [])
    else (if slice_index m 0 == 103 then Gen (digits_value 10 (unwrap_or o.number []))
    else (if slice_index m 0 == 108 then Load (selection_of o) (unwrap_or o.sequence [])
    else (if slice_index m 0 == 115 then Scan (selection_of o) (unwrap_or o.sequence []) (port_from o.number)
    else Audit)))))

of_row : (m : List ℕ) (o : Options) (c : Command) → IsRow m o c → command_from m o ≡ c
of_row m o (Check s) row = ap₂ command_from row.0 row.1
of_row m o (Run s name) row = ap₂ command_from row.0 row.1
of_row m o (Trace s name) row = ap₂ command_from row.0 row.1
of_row m o (Load s name) row = ap₂ command_from row.0 row.1
of_row m o (Scan s name ap') row = ap₂ command_from row.0 row.1.1 ∙ ap (λ (n : ℕ). Scan s name n) (port_is o.number ap' row.1.0)
of_row m o (Gen n) row = ap₂ command_from row.0 row.3 ∙ ap Gen row.2.value
of_row m o Audit row = ap₂ command_from row.0 row.1

of_words : (words : List (List ℕ)) (c : Command) → WordsAreCommand words c → command_from (unwrap_or (given_value command_line words (codes "mode")) []) (options_by (given_value command_line words)) ≡ c
of_words words c is =
    let value = given_value command_line words in
    ap (λ (v : Option (List ℕ)). command_from (unwrap_or v []) (options_by value)) is.found.found ∙ of_row is.found.mode (options_by value) c is.found.row

pub one_command : (words : List (List ℕ)) (a b : Command) → WordsAreCommand words a → WordsAreCommand words b → a ≡ b
one_command words a b is_a is_b = sym (of_words words a is_a) ∙ of_words words b is_b

-- ---- the command of the values that were found

module _ (value : List ℕ → Option (List ℕ)) where
  pub is_command : (m : Mode) (options : Options) (c : Command) → value (codes "mode") ≡ Some (mode_text m) → options ≡ options_by value → IsRow (mode_text m) options c → IsCommandBy value c
  is_command m options c at_mode is row = record { mode = mode_text m; found = at_mode; row = subst (λ (o : Options). IsRow (mode_text m) o c) is row }

  pub no_mode : ((m : Mode) → value (codes "mode") ≡ Some (mode_text m) → ⊥) → (c : Command) → IsCommandBy value c → ⊥
  no_mode never c is = let m = mode_of_row is.mode (options_by value) c is.row in never m.0 (is.found ∙ ap Some m.1)

  -- the mode that was found makes no command with the options
  pub no_row : (m : Mode) (options : Options) → value (codes "mode") ≡ Some (mode_text m) → options ≡ options_by value → ((c : Command) → IsRow (mode_text m) options c → ⊥) → (c : Command) → IsCommandBy value c → ⊥
  no_row m options at_mode is never c by =
      let same : mode_text m ≡ by.mode = ap (λ (v : Option (List ℕ)). unwrap_or v []) (sym at_mode ∙ by.found) in
      never c (subst (λ (o : Options). IsRow (mode_text m) o c) (sym is) (subst (λ (t : List ℕ). IsRow t (options_by value) c) (sym same) by.row))
