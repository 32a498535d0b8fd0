-- Sets that are checked one after another, and that a pack has one answer.
use Rattle.std.proofs.Common.{◌≡◌, ◌∙◌, ◌↔◌, ℕ, zero, suc, ◌+◌, ◌<◌, Bool, false, cond, ◌||◌, List, [], ◌∷◌, ◌++◌, map, count_by, length, Some, Result, Ok, Err, IfOk, refl, ap, sym, subst, true≢false}
use Rattle.std.specs.List.{All, list_any, slice_get}
use Rattle.std.proofs.lemmas.Option.{same_Some, get_or_from_slice_get, slice_get_within}
use Rattle.std.proofs.lemmas.List.Elements.{All-weaker, All-get_or}
use Rattle.std.proofs.lemmas.List.{map-append, length-map}
use Rattle.std.proofs.lemmas.List.Sums.{sum_by-cons}
use Rattle.dap_base.specs.declared.text.OutOfMemory.{OutOfMemory}
use Rattle.device_tree.specs.declared.pack.Pack.{Pack}
use Rattle.sequence_resolve.specs.declared.entry.SeqSet.{SeqSet}
use Rattle.sequence_resolve.proofs.OneSet.{one_set_along}
use Rattle.seq_check.specs.Valid.{IsValid}
use Rattle.set_faults.specs.declared.phase.SetFaults.{SetFaults}
use Rattle.set_faults.specs.Answers.{AreSetFaults}
use Rattle.set_faults.proofs.PhaseLemmas as faults
use Rattle.pack_faults.specs.declared.request.PackRequest.{PackRequest}
use Rattle.pack_faults.specs.declared.answer.Found.{Found}
use Rattle.pack_faults.specs.declared.answer.PackFaults.{PackFaults}
use Rattle.pack_faults.specs.declared.checking.Checking.{Checking}
use Rattle.pack_faults.specs.declared.known.KnownSet.{KnownSet}
use Rattle.pack_faults.specs.declared.lined.LinedSet.{LinedSet}
use Rattle.pack_faults.specs.declared.sets.SetRef.{SetRef}
use Rattle.pack_faults.specs.declared.sets.DeviceSets.{DeviceSets}
use Rattle.pack_faults.specs.Sets.{SetAt, sets_of}
use Rattle.pack_faults.specs.Merged.{same_found, all_found, each_once, with_sets, merged_faults}
use Rattle.pack_faults.specs.Answers.{found_in, Checked, IsCheckOfSet, AreChecked, is_unread, is_unfinished, ArePackFaults, IsValidAt, AreValid}
use Rattle.pack_faults.specs.Steps.{with_each, AreDone}
use Rattle.pack_faults.specs.Known.{IsKnown}
use Rattle.pack_faults.specs.Lined.{checked_view, checked_of, IsCheckedAt}
use Rattle.pack_faults.specs.Shared.{HasNumberOfSet, AreFine}
use Rattle.pack_faults.specs.Views.{set_view}
use Rattle.pack_faults.proofs.SameLemmas.{same_itself}
use Rattle.pack_faults.proofs.SharedLemmas.{set_along_path}
use Rattle.pack_faults.proofs.MergeLemmas.{merged_set, has-each_once}

-- ---- one more set

are_checked-append : (pack : Pack) (sets : List SetAt) (s : SetAt) (checked : List Checked) (c : Checked)
    → AreChecked pack sets checked → IsCheckOfSet pack s c → AreChecked pack (sets ++ s ∷ []) (checked ++ c ∷ [])
are_checked-append pack [] s checked c are is = (c, [], is, ap (λ cs. cs ++ c ∷ []) are, refl)
are_checked-append pack (t ∷ sets) s checked c are is =
    (are.0, are.1 ++ c ∷ [], are.2, ap (λ cs. cs ++ c ∷ []) are.3, are_checked-append pack sets s are.1 c are.4 is)

-- the checks of these sets, and of one more
pub done_one : (pack : Pack) (sets : List SetAt) (s : SetAt) (c : Checked) (old new : Checking) → AreDone pack sets old → IsCheckOfSet pack s c
    → new.phases ≡ old.phases ++ c.phase ∷ [] → new.faults.list.items ≡ with_each (length old.phases) c.found old.faults.list.items → AreDone pack (sets ++ s ∷ []) new
done_one pack sets s c old new done is phases faults =
    let lists = map (λ x. x.found) done.checked in
    let size : length old.phases ≡ length lists =
    ap length done.phases ∙ length-map done.checked (λ x. x.phase) ∙ sym (length-map done.checked (λ x. x.found)) in
    let list : new.faults.list.items ≡ merged_faults (lists ++ c.found ∷ []) =
    faults ∙ ap (λ n. with_each n c.found old.faults.list.items) size ∙ ap (with_each (length lists) c.found) done.faults ∙ merged_set lists c.found in
    record {
      checked = done.checked ++ c ∷ [];
      are = are_checked-append pack sets s done.checked c done.are is;
      phases = phases ∙ ap (λ ps. ps ++ c.phase ∷ []) done.phases ∙ sym (map-append (λ x. x.phase) done.checked (c ∷ []));
      faults = list ∙ ap merged_faults (sym (map-append (λ x. x.found) done.checked (c ∷ [])));
    }

-- ---- the sets that were found

-- what was found in a known set stands at its number
lined_at : (known : List KnownSet) (lined : List LinedSet) (n : ℕ) (k : KnownSet) → slice_get known n ≡ Some k → map checked_view lined ≡ map checked_of known
    → (l : LinedSet) × (slice_get lined n ≡ Some l) × (checked_view l ≡ checked_of k)
lined_at [] lined n k there e = absurd cc
lined_at (x ∷ known) [] n k there e = absurd cc
lined_at (x ∷ known) (l ∷ lined) zero k there e =
    let first : checked_view l ≡ checked_of x = cc in
    (l, refl, first ∙ ap checked_of (same_Some x k there))
lined_at (x ∷ known) (l ∷ lined) (suc n) k there e =
    let later : map checked_view lined ≡ map checked_of known = cc in
    lined_at known lined n k there later

known_at : (known : List KnownSet) (n : ℕ) (k : KnownSet) → All IsKnown known → slice_get known n ≡ Some k → IsKnown k
known_at known n k all there =
    subst IsKnown (get_or_from_slice_get known n k k there) (All-get_or IsKnown known n k (slice_get_within known n k there) all)

-- so it is of each of these sets
all_checked : (pack : Pack) (known : List KnownSet) (lined : List LinedSet) (sets : List SetRef) → map checked_view lined ≡ map checked_of known → All IsKnown known
    → All (HasNumberOfSet pack known) sets → All (IsCheckedAt pack lined) sets
all_checked pack known lined sets views fine found = All-weaker (HasNumberOfSet pack known) (IsCheckedAt pack lined) at sets found where
  at : (s : SetRef) → HasNumberOfSet pack known s → IsCheckedAt pack lined s
  at s is =
      let found_at = lined_at known lined s.number is.one is.there views in
      let of_known : IsCheckOfSet pack (set_view s) (checked_of is.one) = record {
        set = is.one.set;
        is_set = set_along_path pack (set_view s).place (set_view s).variant (set_view s).pname is.one.set is.is;
        faults = is.one.found;
        are = (known_at known s.number is.one fine is.there).faults;
        is = refl;
      } in
      record { one = found_at.0; there = found_at.1; is = subst (IsCheckOfSet pack (set_view s)) (sym found_at.2) of_known }

pub numbers_within : (known : List KnownSet) (lined slice : List LinedSet) (sets : List SetRef) → map checked_view lined ≡ map checked_of known → slice ≡ lined
    → All (λ (s : SetRef). s.number < length known) sets → All (λ (s : SetRef). s.number < length slice) sets
numbers_within known lined slice sets views is within =
    let size : length known ≡ length slice =
    sym (ap length is ∙ sym (length-map lined checked_view) ∙ ap length views ∙ length-map known checked_of) in
    subst (λ n. All (λ (s : SetRef). s.number < n) sets) size within

pub done_of : (known : List KnownSet) (lined slice : List LinedSet) (sets : List SetRef) (made : Result Checking OutOfMemory) → map checked_view lined ≡ map checked_of known
    → slice ≡ lined → All IsKnown known → IfOk made (λ checking. (p : Pack) → All (IsCheckedAt p slice) sets → AreDone p (map set_view sets) checking)
    → IfOk made (λ checking. (p : Pack) → All (HasNumberOfSet p known) sets → AreDone p (map set_view sets) checking)
done_of known lined slice sets (Err e) views is fine done = tt
done_of known lined slice sets (Ok checking) views is fine done = λ p found. done p (subst (λ (ls : List LinedSet). All (IsCheckedAt p ls) sets) (sym is) (all_checked p known lined sets views fine found))

-- the sets that were found
pub found_within : (pack : Pack) (f : DeviceSets) (known : List KnownSet) (sets : List SetRef) → known ≡ f.known → sets ≡ f.sets → AreFine pack f
    → All (λ (s : SetRef). s.number < length known) sets
found_within pack f known sets same_known same_sets fine =
    let own : All (λ (s : SetRef). s.number < length f.known) f.sets =
    All-weaker (HasNumberOfSet pack f.known) (λ (s : SetRef). s.number < length f.known) (λ s is. slice_get_within f.known s.number is.one is.there) f.sets fine.found in
    let these : All (λ (s : SetRef). s.number < length f.known) sets = subst (λ (ss : List SetRef). All (λ (s : SetRef). s.number < length f.known) ss) (sym same_sets) own in
    subst (λ (ks : List KnownSet). All (λ (s : SetRef). s.number < length ks) sets) (sym same_known) these

pub done_found : (pack : Pack) (f : DeviceSets) (known : List KnownSet) (sets : List SetRef) (checking : Checking) → known ≡ f.known → sets ≡ f.sets → AreFine pack f
    → ((p : Pack) → All (HasNumberOfSet p known) sets → AreDone p (map set_view sets) checking) → AreDone pack (map set_view f.sets) checking
done_found pack f known sets checking same_known same_sets fine done =
    let known_done = subst (λ (ks : List KnownSet). (p : Pack) → All (HasNumberOfSet p ks) sets → AreDone p (map set_view sets) checking) same_known done in
    let all_done = subst (λ (ss : List SetRef). (p : Pack) → All (HasNumberOfSet p f.known) ss → AreDone p (map set_view ss) checking) same_sets known_done in
    all_done pack fine.found

-- ---- counts

pub count-map : {A B : Type 0} (p : B → Bool) (f : A → B) (xs : List A) → count_by p (map f xs) ≡ count_by (λ x. p (f x)) xs
count-map p f [] = refl
count-map p f (x ∷ xs) =
    sum_by-cons (λ y. cond (p y) 1 0) (f x) (map f xs) ∙ ap (λ n. cond (p (f x)) 1 0 + n) (count-map p f xs) ∙ sym (sum_by-cons (λ y. cond (p (f y)) 1 0) x xs)

-- ---- one answer

one_checked : (pack : Pack) (s : SetAt) (c d : Checked) → IsCheckOfSet pack s c → IsCheckOfSet pack s d → c ≡ d
one_checked pack s c d p q =
    let set : p.set ≡ q.set = one_set_along pack s.place s.variant s.pname p.set q.set p.is_set q.is_set in
    let are : AreSetFaults q.set p.faults = subst (λ (x : SeqSet). AreSetFaults x p.faults) set p.are in
    let faults : p.faults ≡ q.faults = faults.one_answer q.set p.faults q.faults are q.are in
    let one : c ≡ record { phase = q.faults.phase; found = map (found_in p.set) q.faults.faults } =
    p.is ∙ ap (λ (x : SetFaults). record { phase = x.phase; found = map (found_in p.set) x.faults }) faults in
    let two : c ≡ record { phase = q.faults.phase; found = map (found_in q.set) q.faults.faults } =
    one ∙ ap (λ (x : SeqSet). record { phase = q.faults.phase; found = map (found_in x) q.faults.faults }) set in
    two ∙ sym q.is

one_list : (pack : Pack) (sets : List SetAt) (xs ys : List Checked) → AreChecked pack sets xs → AreChecked pack sets ys → xs ≡ ys
one_list pack [] xs ys p q = p ∙ sym q
one_list pack (s ∷ sets) xs ys p q =
    let first : p.0 ≡ q.0 = one_checked pack s p.0 q.0 p.2 q.2 in
    let rest : p.1 ≡ q.1 = one_list pack sets p.1 q.1 p.4 q.4 in
    p.3 ∙ ap (λ c. c ∷ p.1) first ∙ ap (λ cs. q.0 ∷ cs) rest ∙ sym q.3

same_answer : (x y : PackFaults) → x.devices ≡ y.devices → x.sets ≡ y.sets → x.faults ≡ y.faults → x.unread ≡ y.unread → x.unreached ≡ y.unreached → x ≡ y
same_answer x y p q r s t =
    let one : x ≡ record x { devices = y.devices } = ap (λ v. record x { devices = v }) p in
    let two : record x { devices = y.devices } ≡ record x { devices = y.devices; sets = y.sets } = ap (λ v. record x { devices = y.devices; sets = v }) q in
    let three : record x { devices = y.devices; sets = y.sets } ≡ record y { unread = x.unread; unreached = x.unreached } =
    ap (λ v. record x { devices = y.devices; sets = y.sets; faults = v }) r in
    let four : record y { unread = x.unread; unreached = x.unreached } ≡ record y { unreached = x.unreached } = ap (λ v. record y { unread = v; unreached = x.unreached }) s in
    let five : record y { unreached = x.unreached } ≡ y = ap (λ v. record y { unreached = v }) t in
    one ∙ two ∙ three ∙ four ∙ five

pub one_answer : (pack : Pack) (request : PackRequest) (x y : PackFaults) → ArePackFaults pack request x → ArePackFaults pack request y → x ≡ y
one_answer pack request x y p q =
    let list : p.checked ≡ q.checked = one_list pack (sets_of pack request) p.checked q.checked p.are q.are in
    same_answer x y (p.devices ∙ sym q.devices) (p.sets ∙ sym q.sets)
    (p.faults ∙ ap (λ (cs : List Checked). merged_faults (map (λ c. c.found) cs)) list ∙ sym q.faults)
    (p.unread ∙ ap (λ (cs : List Checked). count_by (λ c. is_unread c.phase) cs) list ∙ sym q.unread)
    (p.unreached ∙ ap (λ (cs : List Checked). count_by (λ c. is_unfinished c.phase) cs) list ∙ sym q.unreached)

-- ---- no fault

map_empty : {A B : Type 0} (f : A → B) (xs : List A) → map f xs ≡ [] → xs ≡ []
map_empty f [] e = refl
map_empty f (x ∷ xs) e = absurd cc

append_empty : {A : Type 0} (xs ys : List A) → xs ++ ys ≡ [] → (xs ≡ []) × (ys ≡ [])
append_empty [] ys e = (refl, e)
append_empty (x ∷ xs) ys e = absurd cc

none_found : (fs : List Found) → each_once [] fs ≡ [] → fs ≡ []
none_found [] e = refl
none_found (f ∷ fs) e =
    let is : (same_found f f || list_any (same_found f) fs) ≡ false = sym (has-each_once [] (f ∷ fs) f) ∙ ap (list_any (same_found f)) e in
    absurd (true≢false (sym (ap (λ b. b || list_any (same_found f) fs) (same_itself f)) ∙ is))

valid_at : (pack : Pack) (s : SetAt) (c : Checked) → IsCheckOfSet pack s c → c.found ≡ [] → IsValidAt pack s
valid_at pack s c p e = λ set is.
    let same : p.set ≡ set = one_set_along pack s.place s.variant s.pname p.set set p.is_set is in
    let none : p.faults.faults ≡ [] = map_empty (found_in p.set) p.faults.faults (sym (ap (λ (x : Checked). x.found) p.is) ∙ e) in
    subst (λ (x : SeqSet). IsValid x) same ((faults.empty_where_valid p.set p.faults p.are).0 none)

none_at : (pack : Pack) (s : SetAt) (c : Checked) → IsCheckOfSet pack s c → IsValidAt pack s → c.found ≡ []
none_at pack s c p valid =
    let none : p.faults.faults ≡ [] = (faults.empty_where_valid p.set p.faults p.are).1 (valid p.set p.is_set) in
    ap (λ (x : Checked). x.found) p.is ∙ ap (map (found_in p.set)) none

abbrev lists_of : List Checked → List Found
lists_of cs = all_found (map (λ c. c.found) cs)

all_valid : (pack : Pack) (sets : List SetAt) (cs : List Checked) → AreChecked pack sets cs → lists_of cs ≡ [] → AreValid pack sets
all_valid pack [] cs are e = tt
all_valid pack (s ∷ sets) cs are e =
    let parts = append_empty are.0.found (lists_of are.1) (sym (ap lists_of are.3) ∙ e) in
    (valid_at pack s are.0 are.2 parts.0, all_valid pack sets are.1 are.4 parts.1)

all_none : (pack : Pack) (sets : List SetAt) (cs : List Checked) → AreChecked pack sets cs → AreValid pack sets → lists_of cs ≡ []
all_none pack [] cs are valid = ap lists_of are
all_none pack (s ∷ sets) cs are valid =
    ap lists_of are.3 ∙ ap (λ fs. fs ++ lists_of are.1) (none_at pack s are.0 are.2 valid.0) ∙ all_none pack sets are.1 are.4 valid.1

pub empty_where_valid : (pack : Pack) (request : PackRequest) (answer : PackFaults) → ArePackFaults pack request answer → (answer.faults ≡ []) ↔ AreValid pack (sets_of pack request)
empty_where_valid pack request answer p =
    let lists = map (λ c. c.found) p.checked in
    let there : answer.faults ≡ [] → AreValid pack (sets_of pack request) =
    (λ (e : answer.faults ≡ []). all_valid pack (sets_of pack request) p.checked p.are
    (none_found (all_found lists) (map_empty (with_sets lists) (each_once [] (all_found lists)) (sym p.faults ∙ e)))) in
    let back : AreValid pack (sets_of pack request) → answer.faults ≡ [] =
    (λ (valid : AreValid pack (sets_of pack request)). p.faults ∙ ap (λ fs. map (with_sets lists) (each_once [] fs)) (all_none pack (sets_of pack request) p.checked p.are valid)) in
    (there, back)
