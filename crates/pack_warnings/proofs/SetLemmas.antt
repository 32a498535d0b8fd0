-- The warnings of sets, one set after another.
use Rattle.std.proofs.Common.{◌≡◌, ◌∙◌, sym, ap, refl, ℕ, zero, suc, ◌+◌, ◌<◌, Some, List, [], ◌∷◌, ◌++◌, map, take, length, get_or, subst, Result, Ok, Err, IfOk, arith}
use Rattle.std.specs.List.{All, slice_get}
use Rattle.std.proofs.lemmas.Option.{same_Some, get_or_from_slice_get, slice_get_within}
use Rattle.std.proofs.lemmas.List.Elements.{All-weaker, All-get_or}
use Rattle.std.proofs.lemmas.List.{take_more, map-append, length-map, length-take-le}
use Rattle.dap_base.specs.declared.text.OutOfMemory.{OutOfMemory}
use Rattle.device_tree.specs.declared.pack.Pack.{Pack}
use Rattle.sequence_resolve.specs.declared.entry.SeqSet.{SeqSet}
use Rattle.sequence_resolve.specs.Resolving.{IsSetAlong}
use Rattle.sequence_resolve.proofs.OneSet.{one_set_along}
use Rattle.set_warnings.specs.declared.warning.Warning.{Warning}
use Rattle.set_warnings.specs.Answers.{AreSetWarnings}
use Rattle.set_warnings.proofs.SetLemmas as of_sets
use Rattle.pack_faults.specs.declared.request.PackRefusal.{PackRefusal}
use Rattle.pack_faults.specs.declared.request.PackRequest.{PackRequest}
use Rattle.pack_faults.specs.declared.known.KnownSet.{KnownSet}
use Rattle.pack_faults.specs.declared.sets.SetRef.{SetRef}
use Rattle.pack_faults.specs.Sets.{SetAt, sets_of}
use Rattle.pack_faults.specs.Shared.{HasNumberOfSet}
use Rattle.pack_faults.specs.Views.{set_view}
use Rattle.pack_faults.proofs.SharedLemmas.{set_along_path}
use Rattle.pack_warnings.specs.declared.answer.FoundWarning.{FoundWarning}
use Rattle.pack_warnings.specs.declared.answer.PackWarning.{PackWarning}
use Rattle.pack_warnings.specs.declared.lined.WarnedSet.{WarnedSet}
use Rattle.pack_warnings.specs.declared.lined.LinedWarnings.{LinedWarnings}
use Rattle.pack_warnings.specs.Merged.{with_each_warning, with_sets_from, merged_warnings}
use Rattle.pack_warnings.specs.Answers.{warning_found_in, AreFound, AreFoundIn, ArePackWarnings, AreMerged}
use Rattle.pack_warnings.specs.Lined.{IsWarned, found_of, lined_set_view, IsWarnedAt, IsFoundAt}

with_sets-append : (number : ℕ) (lists : List (List FoundWarning)) (found : List FoundWarning) (warnings : List PackWarning)
    → with_sets_from number (lists ++ found ∷ []) warnings ≡ with_each_warning (number + length lists) found (with_sets_from number lists warnings)
with_sets-append number [] found warnings = (let e : number ≡ number + 0 = omega arith in ap (λ n. with_each_warning n found warnings) e)
with_sets-append number (x ∷ lists) found warnings =
    let e : suc number + length lists ≡ number + suc (length lists) = omega arith in
    with_sets-append (suc number) lists found (with_each_warning number x warnings) ∙ ap (λ n. with_each_warning n found (with_sets_from (suc number) lists (with_each_warning number x warnings))) e

found-append : (pack : Pack) (sets : List SetAt) (s : SetAt) (lists : List (List FoundWarning)) (found : List FoundWarning)
    → AreFoundIn pack sets lists → AreFound pack s found → AreFoundIn pack (sets ++ s ∷ []) (lists ++ found ∷ [])
found-append pack [] s lists found are is = (found, [], is, ap (λ ls. ls ++ found ∷ []) are, refl)
found-append pack (t ∷ sets) s lists found are is =
    (are.0, are.1 ++ found ∷ [], are.2, ap (λ ls. ls ++ found ∷ []) are.3, found-append pack sets s are.1 found are.4 is)

found-length : (pack : Pack) (sets : List SetAt) (lists : List (List FoundWarning)) → AreFoundIn pack sets lists → length lists ≡ length sets
found-length pack [] lists are = ap length are
found-length pack (t ∷ sets) lists are = ap length are.3 ∙ ap suc (found-length pack sets are.1 are.4)

one_more : (pack : Pack) (sets : List SetAt) (s : SetAt) (number : ℕ) (found : List FoundWarning) (old new : List PackWarning) → length sets ≡ number
    → AreMerged pack sets old → AreFound pack s found → new ≡ with_each_warning number found old → AreMerged pack (sets ++ s ∷ []) new
one_more pack sets s number found old new size done are is =
    let e : number ≡ 0 + length done.lists = omega (arith, size, found-length pack sets done.lists done.are) in
    record {
      lists = done.lists ++ found ∷ [];
      are = found-append pack sets s done.lists found done.are are;
      is = is ∙ ap (λ ws. with_each_warning number found ws) done.is ∙ ap (λ n. with_each_warning n found (merged_warnings done.lists)) e ∙ sym (with_sets-append 0 done.lists found []);
    }

pub merged_more : (pack : Pack) (xs : List SetRef) (i : ℕ) (x : SetRef) (found : List FoundWarning) (old new : List PackWarning) → i < length xs → x ≡ get_or xs i x
    → AreMerged pack (map set_view (take i xs)) old → AreFound pack (set_view x) found → new ≡ with_each_warning i found old → AreMerged pack (map set_view (take (i + 1) xs)) new
merged_more pack xs i x found old new h at done are is =
    let size : length (map set_view (take i xs)) ≡ i = length-map (take i xs) set_view ∙ length-take-le i xs (omega (arith, h)) in
    let next : map set_view (take (i + 1) xs) ≡ map set_view (take i xs) ++ set_view (get_or xs i x) ∷ [] = ap (map set_view) (take_more xs i x h) ∙ map-append set_view (take i xs) (get_or xs i x ∷ []) in
    let whole : map set_view (take i xs) ++ set_view x ∷ [] ≡ map set_view (take (i + 1) xs) = ap (λ (y : SetRef). map set_view (take i xs) ++ set_view y ∷ []) at ∙ sym next in
    subst (λ (sets : List SetAt). AreMerged pack sets new) whole (one_more pack (map set_view (take i xs)) (set_view x) i found old new size done are is)

-- ---- the sets that were found

-- a known set stands at its number with its warnings
warned_at : (known : List KnownSet) (warned : List WarnedSet) (n : ℕ) (k : KnownSet) → slice_get known n ≡ Some k → map (λ s. s.set.now) warned ≡ map (λ k. k.set) known
    → (w : WarnedSet) × (slice_get warned n ≡ Some w) × (w.set.now ≡ k.set)
warned_at [] warned n k there sets = absurd cc
warned_at (x ∷ known) [] n k there sets = absurd cc
warned_at (x ∷ known) (w ∷ warned) zero k there sets =
    let set : w.set.now ≡ x.set = cc in
    (w, refl, set ∙ ap (λ (y : KnownSet). y.set) (same_Some x k there))
warned_at (x ∷ known) (w ∷ warned) (suc n) k there sets =
    let later : map (λ (s : WarnedSet). s.set.now) warned ≡ map (λ (k : KnownSet). k.set) known = cc in
    warned_at known warned n k there later

-- its warnings stand there with their lines
lined_at : (warned : List WarnedSet) (lined : List LinedWarnings) (n : ℕ) (w : WarnedSet) → slice_get warned n ≡ Some w → map lined_set_view lined ≡ map found_of warned
    → (l : LinedWarnings) × (slice_get lined n ≡ Some l) × (lined_set_view l ≡ found_of w)
lined_at [] lined n w there views = absurd cc
lined_at (x ∷ warned) [] n w there views = absurd cc
lined_at (x ∷ warned) (l ∷ lined) zero w there views =
    let view : lined_set_view l ≡ found_of x = cc in
    (l, refl, view ∙ ap found_of (same_Some x w there))
lined_at (x ∷ warned) (l ∷ lined) (suc n) w there views =
    let later : map lined_set_view lined ≡ map found_of warned = cc in
    lined_at warned lined n w there later

is_warned : (warned : List WarnedSet) (n : ℕ) (w : WarnedSet) → All IsWarned warned → slice_get warned n ≡ Some w → IsWarned w
is_warned warned n w all there =
    subst IsWarned (get_or_from_slice_get warned n w w there) (All-get_or IsWarned warned n w (slice_get_within warned n w there) all)

all_found : (pack : Pack) (warned : List WarnedSet) (lined : List LinedWarnings) (sets : List SetRef) → All IsWarned warned → map lined_set_view lined ≡ map found_of warned
    → All (IsWarnedAt pack warned) sets → All (IsFoundAt pack lined) sets
all_found pack warned lined sets all views are = All-weaker (IsWarnedAt pack warned) (IsFoundAt pack lined) at sets are where
  at : (s : SetRef) → IsWarnedAt pack warned s → IsFoundAt pack lined s
  at s is =
      let found = lined_at warned lined s.number is.one is.there views in
      let own : AreFound pack (set_view s) (found_of is.one) = record {
        set = is.one.set.now;
        is_set = is.is;
        warnings = is.one.warnings;
        are = (is_warned warned s.number is.one all is.there).warnings;
        is = refl;
      } in
      record { one = found.0; there = found.1; is = subst (AreFound pack (set_view s)) (sym found.2) own }

all_warned : (pack : Pack) (known : List KnownSet) (warned : List WarnedSet) (sets : List SetRef) → map (λ s. s.set.now) warned ≡ map (λ k. k.set) known
    → All (HasNumberOfSet pack known) sets → All (IsWarnedAt pack warned) sets
all_warned pack known warned sets same are = All-weaker (HasNumberOfSet pack known) (IsWarnedAt pack warned) at sets are where
  at : (s : SetRef) → HasNumberOfSet pack known s → IsWarnedAt pack warned s
  at s is =
      let found = warned_at known warned s.number is.one is.there same in
      let along = set_along_path pack (set_view s).place (set_view s).variant (set_view s).pname is.one.set is.is in
      record { one = found.0; there = found.1; is = subst (IsSetAlong pack (set_view s).place (set_view s).variant (set_view s).pname) (sym found.2) along }

-- as many sets as before
pub lined_within : (warned : List WarnedSet) (lined slice : List LinedWarnings) (sets : List SetRef) → map lined_set_view lined ≡ map found_of warned → slice ≡ lined
    → All (λ (s : SetRef). s.number < length warned) sets → All (λ (s : SetRef). s.number < length slice) sets
lined_within warned lined slice sets views is within =
    let size : length warned ≡ length slice =
    sym (ap length is ∙ sym (length-map lined lined_set_view) ∙ ap length views ∙ length-map warned found_of) in
    subst (λ n. All (λ (s : SetRef). s.number < n) sets) size within

pub warned_within : (known : List KnownSet) (warned slice : List WarnedSet) (sets : List SetRef) → map (λ s. s.set.now) warned ≡ map (λ k. k.set) known → slice ≡ warned
    → All (λ (s : SetRef). s.number < length known) sets → All (λ (s : SetRef). s.number < length slice) sets
warned_within known warned slice sets same is within =
    let size : length known ≡ length slice =
    sym (ap length is ∙ sym (length-map warned (λ (s : WarnedSet). s.set.now)) ∙ ap length same ∙ length-map known (λ (k : KnownSet). k.set)) in
    subst (λ n. All (λ (s : SetRef). s.number < n) sets) size within

-- the list of the warnings of warned sets, and of known ones
pub list_of_warned : (warned : List WarnedSet) (lined slice : List LinedWarnings) (sets : List SetRef) (items : List PackWarning) (made : Result (List PackWarning) OutOfMemory)
    → All IsWarned warned → map lined_set_view lined ≡ map found_of warned → slice ≡ lined → IfOk made (λ list. list ≡ items)
    → ((pack : Pack) → All (IsFoundAt pack slice) sets → AreMerged pack (map set_view sets) items)
    → IfOk made (λ list. (pack : Pack) → All (IsWarnedAt pack warned) sets → AreMerged pack (map set_view sets) list)
list_of_warned warned lined slice sets items (Err e) all views is same merged = tt
list_of_warned warned lined slice sets items (Ok list) all views is same merged = λ pack are.
    subst (λ (ws : List PackWarning). AreMerged pack (map set_view sets) ws) (sym same)
    (merged pack (subst (λ (ls : List LinedWarnings). All (IsFoundAt pack ls) sets) (sym is) (all_found pack warned lined sets all views are)))

pub list_of_known : (known : List KnownSet) (warned slice : List WarnedSet) (sets : List SetRef) (made : Result (List PackWarning) OutOfMemory)
    → map (λ s. s.set.now) warned ≡ map (λ k. k.set) known → slice ≡ warned
    → IfOk made (λ list. (pack : Pack) → All (IsWarnedAt pack slice) sets → AreMerged pack (map set_view sets) list)
    → IfOk made (λ list. (pack : Pack) → All (HasNumberOfSet pack known) sets → AreMerged pack (map set_view sets) list)
list_of_known known warned slice sets (Err e) same is merged = tt
list_of_known known warned slice sets (Ok list) same is merged = λ pack are.
    merged pack (subst (λ (ws : List WarnedSet). All (IsWarnedAt pack ws) sets) (sym is) (all_warned pack known warned sets same are))

-- ---- one list

one_found : (pack : Pack) (s : SetAt) (x y : List FoundWarning) → AreFound pack s x → AreFound pack s y → x ≡ y
one_found pack s x y p q =
    let set : p.set ≡ q.set = one_set_along pack s.place s.variant s.pname p.set q.set p.is_set q.is_set in
    let are : AreSetWarnings q.set p.warnings = subst (λ (z : SeqSet). AreSetWarnings z p.warnings) set p.are in
    let same : p.warnings ≡ q.warnings = of_sets.one_list q.set p.warnings q.warnings are q.are in
    p.is ∙ ap (λ (z : SeqSet). map (warning_found_in z) p.warnings) set ∙ ap (λ (ws : List Warning). map (warning_found_in q.set) ws) same ∙ sym q.is

one_lists : (pack : Pack) (sets : List SetAt) (xs ys : List (List FoundWarning)) → AreFoundIn pack sets xs → AreFoundIn pack sets ys → xs ≡ ys
one_lists pack [] xs ys p q = p ∙ sym q
one_lists pack (s ∷ sets) xs ys p q =
    p.3 ∙ ap (λ c. c ∷ p.1) (one_found pack s p.0 q.0 p.2 q.2) ∙ ap (λ cs. q.0 ∷ cs) (one_lists pack sets p.1 q.1 p.4 q.4) ∙ sym q.3

pub one_answer : (pack : Pack) (r : PackRequest) (x y : List PackWarning) → ArePackWarnings pack r x → ArePackWarnings pack r y → x ≡ y
one_answer pack r x y p q = p.is ∙ ap (λ (ls : List (List FoundWarning)). merged_warnings ls) (one_lists pack (sets_of pack r) p.lists q.lists p.are q.are) ∙ sym q.is

pub only_answer : (pack : Pack) (r : PackRequest) (made : Result (List PackWarning) PackRefusal) → IfOk made (ArePackWarnings pack r) → (other : List PackWarning) → ArePackWarnings pack r other → IfOk made (λ x. x ≡ other)
only_answer pack r (Ok x) are other is = one_answer pack r x other are is
only_answer pack r (Err e) are other is = tt
