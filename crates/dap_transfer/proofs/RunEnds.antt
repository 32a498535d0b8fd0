-- Runs of one or two wire transfers: how they end.
use Rattle.std.proofs.Common.{◌≡◌, ℕ, ◌+◌, ◌&&◌, ◌||◌, Bool, true, false, [], ◌∷◌, ◌++◌, length, refl, ap, sym, ◌∙◌, arith, subst, length-append}
use Rattle.std.proofs.lemmas.Bool.{both_ways}
use Rattle.std.proofs.Math.Bool.{and-true}
use Rattle.target_machine.specs.State.{TargetState}
use Rattle.target_machine.specs.Attempt.{is_free}
use Rattle.dap_messages.specs.declared.request.Response.{Response}
use Rattle.dap_messages.specs.declared.request.Response.TheVariants.{Good, Wait, Fault, Mismatch}
use Rattle.dap_transfer.specs.Wires.{Wire, Role, Posts, Moves, Fetches, Reads, Matches, Writes, Checks}
use Rattle.dap_transfer.specs.State.{Setting, WireState}
use Rattle.dap_transfer.specs.Transfer.{RunResult, is_pending, is_writes, reads_back, word_of_role}
use Rattle.dap_transfer.specs.WireTransfer.{Ending, ends, wire_ending_as}
use Rattle.dap_transfer.specs.Private.{first_then, front, run, run_then}
use Rattle.dap_transfer.proofs.Prefix.{IsPlain, plain_once}
use Rattle.dap_transfer.proofs.ReadWords.{not_sticky}
use Rattle.target_machine.specs.Counts.{one_if}
use Rattle.dap_transfer.proofs.StickyFacts.{fault_sticky, no_mismatch}

abbrev pub gives_one : Role → ℕ
gives_one Moves = 1
gives_one Fetches = 1
gives_one Reads = 1
gives_one _ = 0

-- how one wire transfer leaves its run
abbrev pub OneAs : Response → Bool → WireState → Wire → RunResult → Type 0
OneAs Good before l w ran = (ran.response ≡ Good) × (length ran.words ≡ gives_one w.role) × (ran.written ≡ is_writes w.role)
OneAs r before l w ran = (ran.response ≡ r) × (length ran.words ≡ 0) × (ran.pending ≡ is_pending w.role before 0)

word_count : (role : Role) (v : ℕ) → length (word_of_role role v ++ []) ≡ gives_one role
word_count Posts v = refl
word_count Moves v = refl
word_count Fetches v = refl
word_count Reads v = refl
word_count (Matches w) v = refl
word_count Writes v = refl
word_count Checks v = refl

abbrev ran_as : Response → Setting → Bool → WireState → Wire → RunResult
ran_as r s before l w = let d : Ending = wire_ending_as r l w.access in first_then d.response before l w d (run s (is_writes w.role) d.line [])

one_is : (s : Setting) (before : Bool) (l : WireState) (w : Wire) → IsPlain w.role → run s before l (w ∷ []) ≡ ran_as (ends s l w.access) s before l w
one_is s before l w plain = ap (λ (d : Ending). first_then d.response before l w d (run s (is_writes w.role) d.line [])) (plain_once w.role s l w.mask w.access plain)

one_as : (r : Response) (s : Setting) (before : Bool) (l : WireState) (w : Wire) → OneAs r before l w (ran_as r s before l w)
one_as Good s before l w = (refl, word_count w.role _, refl)
one_as Wait s before l w = (refl, refl, refl)
one_as Fault s before l w = (refl, refl, refl)
one_as Mismatch s before l w = (refl, refl, refl)

pub one_ends : (s : Setting) (before : Bool) (l : WireState) (w : Wire) → IsPlain w.role → OneAs (ends s l w.access) before l w (run s before l (w ∷ []))
one_ends s before l w plain = subst (OneAs (ends s l w.access) before l w) (sym (one_is s before l w plain)) (one_as (ends s l w.access) s before l w)

-- What the wire transfers of a request, or the end of a command, report, with a read outstanding or a write unchecked before
-- them: whether STICKYERR was clear, and how many words came.
abbrev pub ReportsAs : Response → Bool → Bool → TargetState → Bool → ℕ → ℕ → RunResult → Type 0
ReportsAs Good outstanding before t waits after own ran = ((outstanding || waits) ≡ true → t.sticky ≡ false) × (length ran.words + after ≡ one_if outstanding + own)
ReportsAs Wait outstanding before t waits after own ran =
    (ran.pending ≡ true → (outstanding || before) ≡ true)
    × (ran.pending ≡ false → (before ≡ false) × (outstanding ≡ true → t.sticky ≡ false))
    × (length ran.words + one_if (ran.pending && outstanding) ≡ one_if outstanding)
ReportsAs Fault outstanding before t waits after own ran = (t.sticky ≡ true) × (length ran.words ≡ 0)
ReportsAs Mismatch outstanding before t waits after own ran = ⊥

-- the same for what ran
abbrev pub Reports : Bool → Bool → TargetState → Bool → ℕ → ℕ → RunResult → Type 0
Reports outstanding before t waits after own ran = ReportsAs ran.response outstanding before t waits after own ran

or_false : (b : Bool) → (false || b) ≡ b
or_false true = refl
or_false false = refl

never_pending : (role : Role) (before : Bool) → reads_back role ≡ false → is_pending role before 0 ≡ before
never_pending Posts before e = and-true before
never_pending Moves before e = absurd (cc)
never_pending Fetches before e = absurd (cc)
never_pending Reads before e = and-true before
never_pending (Matches w) before e = and-true before
never_pending Writes before e = and-true before
never_pending Checks before e = and-true before

pub reports_by : (x : Response) (o before : Bool) (t : TargetState) (waits : Bool) (after own : ℕ) (ran : RunResult) → ran.response ≡ x → ReportsAs x o before t waits after own ran → Reports o before t waits after own ran
reports_by x o before t waits after own ran e h = subst (λ (y : Response). ReportsAs y o before t waits after own ran) (sym e) h

-- one wire transfer of a request of its own, with no read outstanding
pub alone_reports : (s : Setting) (before : Bool) (l : WireState) (w : Wire) (waits : Bool) (after own : ℕ) → IsPlain w.role → reads_back w.role ≡ false →
    (waits ≡ true → is_free l.target w.access ≡ false) → gives_one w.role + after ≡ own →
    Reports false before l.target waits after own (run s before l (w ∷ []))
alone_reports s before l w waits after own plain back free count =
    by_end (ends s l w.access) refl (one_ends s before l w plain)
  where
    not_pending : (ran : RunResult) → ran.pending ≡ is_pending w.role before 0 → ran.pending ≡ before
    not_pending ran e = e ∙ never_pending w.role before back

    none : (b : Bool) → one_if (b && false) ≡ 0
    none true = refl
    none false = refl

    by_end : (r : Response) → ends s l w.access ≡ r → OneAs r before l w (run s before l (w ∷ [])) → Reports false before l.target waits after own (run s before l (w ∷ []))
    by_end Good e one =
        let ran : RunResult = run s before l (w ∷ []) in
        reports_by Good false before l.target waits after own ran one.0
        ((λ h. not_sticky s l w.access e (free h)), (let n = one.1 in omega arith))
    by_end Wait e one =
        let ran : RunResult = run s before l (w ∷ []) in
        let pending : ran.pending ≡ before = not_pending ran one.2 in
        reports_by Wait false before l.target waits after own ran one.0
        ((λ h. sym pending ∙ h), (λ h. (sym pending ∙ h, (λ e. absurd (cc)))), (let n = one.1 in let m = none ran.pending in omega arith))
    by_end Fault e one =
        let ran : RunResult = run s before l (w ∷ []) in
        reports_by Fault false before l.target waits after own ran one.0 (fault_sticky s l w.access e, one.1)
    by_end Mismatch e one = absurd (no_mismatch s l w.access e)

-- one wire transfer that gives the word of the read before it
pub back_reports : (s : Setting) (l : WireState) (w : Wire) (waits : Bool) (after own : ℕ) → IsPlain w.role → reads_back w.role ≡ true →
    is_free l.target w.access ≡ false → after ≡ own → gives_one w.role ≡ 1 →
    Reports true false l.target waits after own (run s false l (w ∷ []))
back_reports s l w waits after own plain back waits_is count gives =
    by_end (ends s l w.access) refl (one_ends s false l w plain)
  where
    is_back : (b c : Bool) → b ≡ true → (b || c) ≡ true
    is_back true c e = refl
    is_back false c e = absurd (cc)

    by_end : (r : Response) → ends s l w.access ≡ r → OneAs r false l w (run s false l (w ∷ [])) → Reports true false l.target waits after own (run s false l (w ∷ []))
    by_end Good e one =
        let ran : RunResult = run s false l (w ∷ []) in
        reports_by Good true false l.target waits after own ran one.0
        ((λ h. not_sticky s l w.access e waits_is), (let n = one.1 in omega arith))
    by_end Wait e one =
        let ran : RunResult = run s false l (w ∷ []) in
        let pending : ran.pending ≡ true = one.2 ∙ is_back (reads_back w.role) _ back in
        reports_by Wait true false l.target waits after own ran one.0
        ((λ h. refl), (λ h. absurd (cc)), (let n = one.1 in let m = ap (λ b. one_if (b && true)) pending in omega arith))
    by_end Fault e one =
        let ran : RunResult = run s false l (w ∷ []) in
        reports_by Fault true false l.target waits after own ran one.0 (fault_sticky s l w.access e, one.1)
    by_end Mismatch e one = absurd (no_mismatch s l w.access e)

-- a fetch, and one wire transfer of its own after it
pub fetched_reports : (x : Response) (a : RunResult) (s : Setting) (w : Wire) (t : TargetState) (waits : Bool) (after own : ℕ) → a.response ≡ x →
    ReportsAs x true false t true 0 0 a → a.line.target ≡ t → (x ≡ Good → a.written ≡ false) → IsPlain w.role → reads_back w.role ≡ false → gives_one w.role + after ≡ own →
    Reports true false t waits after own (run_then x a (run s a.written a.line (w ∷ [])))
fetched_reports Good a s w t waits after own e h same written plain back count =
    by_end (ends s a.line w.access) refl (one_ends s a.written a.line w plain)
  where
    b : RunResult
    b = run s a.written a.line (w ∷ [])

    clear : t.sticky ≡ false
    clear = let f = h.0 in f refl

    words : length (a.words ++ b.words) ≡ 1 + length b.words
    words = length-append a.words b.words ∙ ap (λ n. n + length b.words) (let n = h.1 in omega arith)

    by_end : (r : Response) → ends s a.line w.access ≡ r → OneAs r a.written a.line w b → Reports true false t waits after own (front a.words a.work b)
    by_end Good f one =
        reports_by Good true false t waits after own (front a.words a.work b) one.0
        ((λ _. clear), (let n = one.1 in let m = words in omega arith))
    by_end Wait f one =
        let pending : b.pending ≡ false = one.2 ∙ never_pending w.role a.written back ∙ written refl in
        reports_by Wait true false t waits after own (front a.words a.work b) one.0
        ((λ e. absurd (cc)), (λ _. (refl, (λ _. clear))), (let n = one.1 in let m = words in let k = ap (λ b. one_if (b && true)) pending in omega arith))
    by_end Fault f one =
        let set : t.sticky ≡ true = ap (λ (u : TargetState). u.sticky) (sym same) ∙ fault_sticky s a.line w.access f in
        absurd (both_ways t.sticky clear set)
    by_end Mismatch f one = absurd (no_mismatch s a.line w.access f)
fetched_reports Wait a s w t waits after own e h same written plain back count =
    reports_by Wait true false t waits after own a e h
fetched_reports Fault a s w t waits after own e h same written plain back count =
    reports_by Fault true false t waits after own a e h
fetched_reports Mismatch a s w t waits after own e h same written plain back count = absurd h
