-- Words are a command, or they are none.
use Rattle.std.proofs.Common.{◌≡◌, ◌⊎◌, inl, inr, ℕ, ◌^◌, ◌<◌, Bool, true, false, List, [], ◌∷◌, length, bytes_eq, codes, Option, Some, None, refl, sym, ap, subst, ◌∙◌}
use Rattle.std.specs.Char.{digit_value}
use Rattle.std.specs.Str.Parse.{AllDigits, digits_value}
use Rattle.std.specs.Cmp.Lexicographic.{bytes_decides, same_text}
use Rattle.std.proofs.lemmas.Bool.{both_ways}
use Rattle.clap.specs.Words.{Kinds, fault_of}
use Rattle.dap_base.proofs.Least.{Decided, at_most, less}
use Rattle.sequence_resolve.specs.declared.selection.Selection.{Selection}
use Rattle.command_words.specs.declared.answer.Command.{Command}
use Rattle.command_words.specs.declared.answer.Command.TheVariants.{Check, Run, Trace, Load, Scan, Gen, Audit}
use Rattle.command_words.specs.declared.mode.Mode.{Mode}
use Rattle.command_words.specs.declared.mode.Mode.TheVariants as mode
use Rattle.command_words.specs.declared.options.Options.{Options}
use Rattle.word_options.specs.Line.{WordsAreTaken, given_value}
use Rattle.command_words.specs.Line.{command_line}
use Rattle.command_words.specs.Table.{IsForPort, IsPort, IsRow, IsShortNumber, WordsAreCommand, for_device, for_number, mode_text, no_options, options_by}
use Rattle.command_words.proofs.TableLemmas.{mode_of_row, no_audit, no_check, no_gen, no_load, no_run, no_scan, no_trace}

-- ---- short numbers

all_digits : (text : List ℕ) → Decided (AllDigits 10 text)
all_digits [] = inl tt
all_digits (c ∷ text) = elim (less (digit_value c) 10) [
  | inl is ↦ elim (all_digits text) [ inl all ↦ inl (is, all) | inr not ↦ inr (λ all. not all.1) ]
  | inr not ↦ inr (λ all. not all.0)
]

short_number : (text : List ℕ) → Decided (IsShortNumber text (digits_value 10 text))
short_number text = elim (less 0 (length text)) [
  | inl some ↦ elim (all_digits text) [
    | inl all ↦ elim (at_most (length text) 5) [
      | inl five ↦ elim (less (digits_value 10 text) (2 ^ 16)) [
        | inl bits ↦ inl (record { digits = (some, all); five = five; value = refl; bits = bits })
        | inr not ↦ inr (λ n. not n.bits)
      ]
      | inr not ↦ inr (λ n. not n.five)
    ]
    | inr not ↦ inr (λ n. not n.digits.1)
  ]
  | inr not ↦ inr (λ n. not n.digits.0)
]

-- ---- the options of each mode

abbrev Value : Type 0
Value = Option (List ℕ)

abbrev value : List ℕ → Value
value text = Some text

no_value : (text : List ℕ) → None ≡ value text → ⊥
no_value text e = cc

same_value : (a b : List ℕ) → value a ≡ value b → a ≡ b
same_value a b e = cc

-- the options with these values
abbrev made : (device variant pname sequence number : Value) → Options
made device variant pname sequence number = record { device = device; variant = variant; pname = pname; sequence = sequence; number = number }

device_alone : (device variant pname sequence number : Value)
    → ((s : Selection) × (made device variant pname sequence number ≡ for_device s None)) ⊎ ((s : Selection) → made device variant pname sequence number ≡ for_device s None → ⊥)
device_alone None variant pname sequence number = inr (λ s e. no_value s.device (ap (λ (o : Options). o.device) e))
device_alone (Some device) variant pname (Some sequence) number = inr (λ s e. no_value sequence (sym (ap (λ (o : Options). o.sequence) e)))
device_alone (Some device) variant pname None (Some number) = inr (λ s e. no_value number (sym (ap (λ (o : Options). o.number) e)))
device_alone (Some device) variant pname None None = inl (record { device = device; variant = variant; pname = pname }, refl)

abbrev WithSequence : Options → Type 0
WithSequence o = ((s : Selection) × (name : List ℕ) × (o ≡ for_device s (Some name))) ⊎ ((s : Selection) (name : List ℕ) → o ≡ for_device s (Some name) → ⊥)

with_sequence : (device variant pname sequence number : Value) → WithSequence (made device variant pname sequence number)
with_sequence None variant pname sequence number = inr (λ s name e. no_value s.device (ap (λ (o : Options). o.device) e))
with_sequence (Some device) variant pname None number = inr (λ s name e. no_value name (ap (λ (o : Options). o.sequence) e))
with_sequence (Some device) variant pname (Some sequence) (Some number) = inr (λ s name e. no_value number (sym (ap (λ (o : Options). o.number) e)))
with_sequence (Some device) variant pname (Some sequence) None = inl (record { device = device; variant = variant; pname = pname }, sequence, refl)

-- the number of an access port
port : (number : Value) → ((ap' : ℕ) × IsPort number ap') ⊎ ((ap' : ℕ) → IsPort number ap' → ⊥)
port None = inl (0, refl)
port (Some text) = elim (short_number text) [
  | inl is ↦ elim (less (digits_value 10 text) (2 ^ 8)) [
    | inl few ↦ inl (digits_value 10 text, (is, few))
    | inr not ↦ inr (λ n it. not (subst (λ (k : ℕ). k < 2 ^ 8) (sym it.0.value) it.1))
  ]
  | inr not ↦ inr (λ n it. not (record { digits = it.0.digits; five = it.0.five; value = refl; bits = subst (λ (k : ℕ). k < 2 ^ 16) (sym it.0.value) it.0.bits }))
]

abbrev WithPort : Options → Type 0
WithPort o = ((s : Selection) × (name : List ℕ) × (ap' : ℕ) × IsForPort o s name ap') ⊎ ((s : Selection) (name : List ℕ) (ap' : ℕ) → IsForPort o s name ap' → ⊥)

with_port : (device variant pname sequence number : Value) → WithPort (made device variant pname sequence number)
with_port None variant pname sequence number = inr (λ s name n is. no_value s.device (ap (λ (o : Options). o.device) is.1))
with_port (Some device) variant pname None number = inr (λ s name n is. no_value name (ap (λ (o : Options). o.sequence) is.1))
with_port (Some device) variant pname (Some sequence) number = elim (port number) [
  | inl it ↦ inl (record { device = device; variant = variant; pname = pname }, sequence, it.0, (it.1, refl))
  | inr never ↦ inr (λ s name n is. never n is.0)
]

abbrev NumberAlone : Options → Type 0
NumberAlone o = ((n : ℕ) × (text : List ℕ) × IsShortNumber text n × (o ≡ for_number text)) ⊎ ((text : List ℕ) (n : ℕ) → IsShortNumber text n → o ≡ for_number text → ⊥)

by_number : (number : List ℕ) → NumberAlone (for_number number)
by_number number = elim (short_number number) [
  | inl is ↦ inl (digits_value 10 number, number, is, refl)
  | inr not ↦ inr (λ text n is e.
      let same : number ≡ text = same_value number text (ap (λ (o : Options). o.number) e) in
      let here : IsShortNumber number n = subst (λ (t : List ℕ). IsShortNumber t n) (sym same) is in
      not (subst (IsShortNumber number) (sym here.value) here))
]

number_alone : (device variant pname sequence number : Value) → NumberAlone (made device variant pname sequence number)
number_alone (Some device) variant pname sequence number = inr (λ text n is e. no_value device (sym (ap (λ (o : Options). o.device) e)))
number_alone None (Some variant) pname sequence number = inr (λ text n is e. no_value variant (sym (ap (λ (o : Options). o.variant) e)))
number_alone None None (Some pname) sequence number = inr (λ text n is e. no_value pname (sym (ap (λ (o : Options). o.pname) e)))
number_alone None None None (Some sequence) number = inr (λ text n is e. no_value sequence (sym (ap (λ (o : Options). o.sequence) e)))
number_alone None None None None None = inr (λ text n is e. no_value text (ap (λ (o : Options). o.number) e))
number_alone None None None None (Some number) = by_number number

none_given : (device variant pname sequence number : Value) → Decided (made device variant pname sequence number ≡ no_options)
none_given (Some device) variant pname sequence number = inr (λ e. no_value device (sym (ap (λ (o : Options). o.device) e)))
none_given None (Some variant) pname sequence number = inr (λ e. no_value variant (sym (ap (λ (o : Options). o.variant) e)))
none_given None None (Some pname) sequence number = inr (λ e. no_value pname (sym (ap (λ (o : Options). o.pname) e)))
none_given None None None (Some sequence) number = inr (λ e. no_value sequence (sym (ap (λ (o : Options). o.sequence) e)))
none_given None None None None (Some number) = inr (λ e. no_value number (sym (ap (λ (o : Options). o.number) e)))
none_given None None None None None = inl refl

-- ---- rows of the table

abbrev Row : List ℕ → Options → Type 0
Row m o = ((c : Command) × IsRow m o c) ⊎ ((c : Command) → IsRow m o c → ⊥)

check_row : (o : Options) → Row (codes "check") o
check_row o = elim (device_alone o.device o.variant o.pname o.sequence o.number) [ inl s ↦ inl (Check s.0, (refl, s.1)) | inr never ↦ inr (no_check o never) ]

run_row : (o : Options) → Row (codes "run") o
run_row o = elim (with_sequence o.device o.variant o.pname o.sequence o.number) [ inl s ↦ inl (Run s.0 s.1, (refl, s.2)) | inr never ↦ inr (no_run o never) ]

trace_row : (o : Options) → Row (codes "trace") o
trace_row o = elim (with_sequence o.device o.variant o.pname o.sequence o.number) [ inl s ↦ inl (Trace s.0 s.1, (refl, s.2)) | inr never ↦ inr (no_trace o never) ]

load_row : (o : Options) → Row (codes "load") o
load_row o = elim (with_sequence o.device o.variant o.pname o.sequence o.number) [ inl s ↦ inl (Load s.0 s.1, (refl, s.2)) | inr never ↦ inr (no_load o never) ]

scan_row : (o : Options) → Row (codes "scan") o
scan_row o = elim (with_port o.device o.variant o.pname o.sequence o.number) [ inl s ↦ inl (Scan s.0 s.1 s.2, (refl, s.3)) | inr never ↦ inr (no_scan o never) ]

gen_row : (o : Options) → Row (codes "gen") o
gen_row o = elim (number_alone o.device o.variant o.pname o.sequence o.number) [ inl n ↦ inl (Gen n.0, (refl, n.1, n.2, n.3)) | inr never ↦ inr (no_gen o never) ]

audit_row : (o : Options) → Row (codes "audit") o
audit_row o = elim (none_given o.device o.variant o.pname o.sequence o.number) [ inl is ↦ inl (Audit, (refl, is)) | inr never ↦ inr (no_audit o never) ]

apart : (a b : List ℕ) → bytes_eq a b ≡ false → a ≡ b → ⊥
apart a b differ e = both_ways (bytes_eq a b) differ ((bytes_decides a b).1 e)

-- the row of a text, by that of the mode whose name it is
named_row : (m name : List ℕ) (o : Options) → bytes_eq m name ≡ true → Row name o → Row m o
named_row m name o is row = subst (λ (t : List ℕ). Row t o) (sym (same_text m name (sym is))) row

no_row : (m : List ℕ) (o : Options) → ((mode : Mode) → m ≡ mode_text mode → ⊥) → Row m o
no_row m o never = inr (λ c row. let is = mode_of_row m o c row in never is.0 is.1)

by_mode : (m : List ℕ) (o : Options) (a b c d e f g : Bool) → bytes_eq m (codes "check") ≡ a → bytes_eq m (codes "run") ≡ b → bytes_eq m (codes "trace") ≡ c → bytes_eq m (codes "gen") ≡ d
    → bytes_eq m (codes "audit") ≡ e → bytes_eq m (codes "load") ≡ f → bytes_eq m (codes "scan") ≡ g → Row m o
by_mode m o true b c d e f g p q r s t u v = named_row m (codes "check") o p (check_row o)
by_mode m o false true c d e f g p q r s t u v = named_row m (codes "run") o q (run_row o)
by_mode m o false false true d e f g p q r s t u v = named_row m (codes "trace") o r (trace_row o)
by_mode m o false false false true e f g p q r s t u v = named_row m (codes "gen") o s (gen_row o)
by_mode m o false false false false true f g p q r s t u v = named_row m (codes "audit") o t (audit_row o)
by_mode m o false false false false false true g p q r s t u v = named_row m (codes "load") o u (load_row o)
by_mode m o false false false false false false true p q r s t u v = named_row m (codes "scan") o v (scan_row o)
by_mode m o false false false false false false false p q r s t u v = no_row m o never where
  never : (is : Mode) → m ≡ mode_text is → ⊥
  never mode.Check e = apart m (codes "check") p e
  never mode.Run e = apart m (codes "run") q e
  never mode.Trace e = apart m (codes "trace") r e
  never mode.Gen e = apart m (codes "gen") s e
  never mode.Audit e = apart m (codes "audit") t e
  never mode.Load e = apart m (codes "load") u e
  never mode.Scan e = apart m (codes "scan") v e

row : (m : List ℕ) (o : Options) → Row m o
row m o =
    by_mode m o (bytes_eq m (codes "check")) (bytes_eq m (codes "run")) (bytes_eq m (codes "trace")) (bytes_eq m (codes "gen")) (bytes_eq m (codes "audit")) (bytes_eq m (codes "load"))
    (bytes_eq m (codes "scan")) refl refl refl refl refl refl refl

-- ---- words

module _ (words : List (List ℕ)) where
  abbrev pub CommandOrNone : Type 0
  CommandOrNone = ((c : Command) × WordsAreCommand words c) ⊎ ((c : Command) → WordsAreCommand words c → ⊥)

  taken_by : (faults : Kinds) → fault_of command_line words ≡ faults → Decided (WordsAreTaken command_line words)
  unfolding WordsAreTaken
  taken_by [] none = inl none
  taken_by (fault ∷ more) some = inr (λ taken. (let e : [] ≡ fault ∷ more = sym taken ∙ some in absurd cc))

  same_mode : (m : List ℕ) → given_value command_line words (codes "mode") ≡ Some m → (is : List ℕ) → given_value command_line words (codes "mode") ≡ Some is → is ≡ m
  same_mode m e is f = same_value is m (sym f ∙ e)

  found_by : WordsAreTaken command_line words → (o : Option (List ℕ)) → given_value command_line words (codes "mode") ≡ o → CommandOrNone
  found_by taken None none = inr (λ c is. no_value is.found.mode (sym none ∙ is.found.found))
  found_by taken (Some m) found = elim (row m (options_by (given_value command_line words))) [
    | inl r ↦ inl (r.0, record { taken = taken; found = record { mode = m; found = found; row = r.1 } })
    | inr none ↦ inr (λ c is. none c (subst (λ (t : List ℕ). IsRow t (options_by (given_value command_line words)) c) (same_mode m found is.found.mode is.found.found) is.found.row))
  ]

  pub command_or_none : CommandOrNone
  command_or_none = elim (taken_by (fault_of command_line words) refl) [
    | inl taken ↦ found_by taken (given_value command_line words (codes "mode")) refl
    | inr refused ↦ inr (λ c is. refused is.taken)
  ]
