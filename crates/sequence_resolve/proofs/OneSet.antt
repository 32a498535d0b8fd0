-- There is one effective set at most, and one cause why there is none.
use Rattle.std.proofs.Common.{◌≡◌, ◌≢◌, ◌∙◌, ℕ, ◌<◌, ◌≤◌, true, List, [], ◌∷◌, ◌++◌, length, map, Option, Some, None, bytes_eq, refl, ap, sym, subst, arith}
use Rattle.std.specs.List.{AllByRecursion}
use Rattle.std.proofs.lemmas.Slice.Eq.{bytes_eq-Decides}
use Rattle.device_tree.specs.declared.pack.Variant.{Variant}
use Rattle.device_tree.specs.declared.pack.Pack.{Pack}
use Rattle.sequence_resolve.specs.declared.entry.SeqSet.{SeqSet}
use Rattle.sequence_resolve.specs.declared.fault.ResolveFault.{ResolveFault}
use Rattle.sequence_resolve.specs.declared.fault.ResolveFault.TheVariants as faults
use Rattle.sequence_resolve.specs.Places.{DevicePlace, devices_named, requested_variant}
use Rattle.sequence_resolve.specs.Levels.{LevelAt, path_of, deepest}
use Rattle.sequence_resolve.specs.Effective.{Candidate, NoneAbove, AllBelow, Wins, AreWinners, candidates, entry_of}
use Rattle.sequence_resolve.specs.Resolving.{IsSetAlong, IsEffectiveSet, HasNone}
use Rattle.sequence_resolve.proofs.Greatest.{names_of}
use Rattle.dap_base.proofs.Basics.{first_is}

-- ---- one winner of each name

abbrev SameName : Candidate → Candidate → Type 0
SameName c w = bytes_eq c.sequence.name w.sequence.name ≡ true

same_names : (v w : Candidate) → v.sequence.name ≡ w.sequence.name → SameName v w
same_names v w e = (bytes_eq-Decides v.sequence.name w.sequence.name).1 e

-- each of all that stand below it
among_below : (before after : List Candidate) (v w : Candidate) → AllBelow (before ++ v ∷ after) w → SameName v w → v.rank < w.rank
among_below [] after v w h is = h.0 is
among_below (c ∷ before) after v w h is = among_below before after v w h.1 is

-- a candidate that all of its name after it stand below has none of them above or beside it
first_not_later : (before after rest : List Candidate) (v w : Candidate) → v.sequence.name ≡ w.sequence.name → rest ≡ before ++ w ∷ after → AllBelow rest v → (SameName v w → v.rank ≤ w.rank) → ⊥
first_not_later before after rest v w same is below le =
    let later : w.rank < v.rank = among_below before after w v (subst (λ cs. AllBelow cs v) is below) (same_names w v (sym same)) in
    let earlier : v.rank ≤ w.rank = le (same_names v w same) in
    omega arith

head_same : (c d : Candidate) (cs ds : List Candidate) → c ∷ cs ≡ d ∷ ds → (c ≡ d) × (cs ≡ ds)
head_same c d cs ds e = (cc, cc)

-- two divisions of one list, each at a winner of one name
one_division : (before after before' after' : List Candidate) (v w : Candidate) → v.sequence.name ≡ w.sequence.name → before ++ v ∷ after ≡ before' ++ w ∷ after'
    → NoneAbove before v → AllBelow after v → NoneAbove before' w → AllBelow after' w → v ≡ w
one_division [] after [] after' v w same is above below above' below' = (head_same v w after after' is).0
one_division [] after (c ∷ before') after' v w same is above below above' below' =
    let both = head_same v c after (before' ++ w ∷ after') is in
    absurd (first_not_later before' after' after v w same both.1 below (subst (λ (d : Candidate). SameName d w → d.rank ≤ w.rank) (sym both.0) above'.0))
one_division (c ∷ before) after [] after' v w same is above below above' below' =
    let both = head_same c w (before ++ v ∷ after) after' is in
    absurd (first_not_later before after after' w v (sym same) (sym both.1) below' (subst (λ (d : Candidate). SameName d v → d.rank ≤ v.rank) both.0 above.0))
one_division (c ∷ before) after (d ∷ before') after' v w same is above below above' below' =
    one_division before after before' after' v w same (head_same c d (before ++ v ∷ after) (before' ++ w ∷ after') is).1 above.1 below above'.1 below'

pub one_winner : (cs : List Candidate) (v w : Candidate) → Wins cs v → Wins cs w → v.sequence.name ≡ w.sequence.name → v ≡ w
one_winner cs v w p q same = one_division p.before p.after q.before q.after v w same (sym p.candidate ∙ q.candidate) p.greatest p.last q.greatest q.last

each_same : (cs vs ws : List Candidate) → names_of vs ≡ names_of ws → AllByRecursion (Wins cs) vs → AllByRecursion (Wins cs) ws → vs ≡ ws
each_same cs [] [] is p q = refl
each_same cs [] (w ∷ ws) is p q = absurd cc
each_same cs (v ∷ vs) [] is p q = absurd cc
each_same cs (v ∷ vs) (w ∷ ws) is p q =
    let both = first_is v.sequence.name w.sequence.name (names_of vs) (names_of ws) is in
    let first : v ≡ w = one_winner cs v w p.0 q.0 both.0 in
    let rest : vs ≡ ws = each_same cs vs ws both.1 p.1 q.1 in
    cc

-- a list of candidates has one list of winners at most
pub one_winners : (cs vs ws : List Candidate) → AreWinners cs vs → AreWinners cs ws → vs ≡ ws
one_winners cs vs ws p q = each_same cs vs ws (p.names ∙ sym q.names) p.each q.each

-- ---- one set

one_place : (places : List DevicePlace) (x y : DevicePlace) → places ≡ x ∷ [] → places ≡ y ∷ [] → x ≡ y
one_place places x y p q = cc

one_variant : (found : Option (Option Variant)) (x y : Option Variant) → found ≡ Some x → found ≡ Some y → x ≡ y
one_variant found x y p q = cc

pub same_set : (x y : SeqSet) → x.entries ≡ y.entries → x.debugvars ≡ y.debugvars → x ≡ y
same_set x y p q =
    let first : x ≡ record y { debugvars = x.debugvars } = ap (λ es. record x { entries = es }) p in
    let second : record y { debugvars = x.debugvars } ≡ y = ap (λ text. record y { debugvars = text }) q in
    first ∙ second

set_of_path : (pname : Option (List ℕ)) (xs ys : List LevelAt) (x y : SeqSet) (vs ws : List Candidate) → xs ≡ ys
    → AreWinners (candidates pname 0 xs) vs → AreWinners (candidates pname 0 ys) ws
    → x.entries ≡ map entry_of vs → y.entries ≡ map entry_of ws → x.debugvars ≡ deepest [] xs → y.debugvars ≡ deepest [] ys → x ≡ y
set_of_path pname xs ys x y vs ws path p q x_entries y_entries x_text y_text =
    let winners : vs ≡ ws = one_winners (candidates pname 0 ys) vs ws (subst (λ ls. AreWinners (candidates pname 0 ls) vs) path p) q in
    same_set x y (x_entries ∙ ap (map entry_of) winners ∙ sym y_entries) (x_text ∙ ap (deepest []) path ∙ sym y_text)

pub one_set_along : (pack : Pack) (place : DevicePlace) (variant : Option Variant) (pname : Option (List ℕ)) (x y : SeqSet)
    → IsSetAlong pack place variant pname x → IsSetAlong pack place variant pname y → x ≡ y
one_set_along pack place variant pname x y p q =
    let path = path_of pack place variant in
    set_of_path pname path path x y p.winners q.winners refl p.greatest q.greatest p.entries q.entries p.debugvars q.debugvars

pub one_set : (pack : Pack) (device : List ℕ) (variant pname : Option (List ℕ)) (x y : SeqSet)
    → IsEffectiveSet pack device variant pname x → IsEffectiveSet pack device variant pname y → x ≡ y
one_set pack device variant pname x y p q =
    let place : p.place ≡ q.place = one_place (devices_named device pack) p.place q.place p.only q.only in
    let requested : requested_variant variant q.place.device ≡ Some p.variant = subst (λ (at : DevicePlace). requested_variant variant at.device ≡ Some p.variant) place p.requested in
    let same : p.variant ≡ q.variant = one_variant (requested_variant variant q.place.device) p.variant q.variant requested q.requested in
    let path : path_of pack p.place p.variant ≡ path_of pack q.place q.variant = ap (λ at. path_of pack at p.variant) place ∙ ap (path_of pack q.place) same in
    set_of_path pname (path_of pack p.place p.variant) (path_of pack q.place q.variant) x y p.winners q.winners path p.greatest q.greatest p.entries q.entries p.debugvars q.debugvars

-- ---- a set or one cause

none_named : (places : List DevicePlace) (x : DevicePlace) → places ≡ x ∷ [] → places ≡ [] → ⊥
none_named places x p q = cc

none_of_many : (places : List DevicePlace) → places ≡ [] → 1 < length places → ⊥
none_of_many places p many = let e : length places ≡ 0 = ap length p in omega arith

one_of_many : (places : List DevicePlace) (x : DevicePlace) → places ≡ x ∷ [] → 1 < length places → ⊥
one_of_many places x p many = let e : length places ≡ 1 = ap length p in omega arith

no_variant : (pack : Pack) (device : List ℕ) (variant : Option (List ℕ)) (x y : DevicePlace) (found : Option Variant) → devices_named device pack ≡ x ∷ [] → devices_named device pack ≡ y ∷ []
    → requested_variant variant x.device ≡ Some found → requested_variant variant y.device ≡ None → ⊥
no_variant pack device variant x y found p q is none =
    let place : x ≡ y = one_place (devices_named device pack) x y p q in
    let here : requested_variant variant y.device ≡ Some found = subst (λ (at : DevicePlace). requested_variant variant at.device ≡ Some found) place is in
    cc

-- where there is a set, memory is refused or there is no cause
pub set_or_refusal : (pack : Pack) (device : List ℕ) (variant pname : Option (List ℕ)) (set : SeqSet) (fault : ResolveFault)
    → IsEffectiveSet pack device variant pname set → HasNone pack device variant fault → fault ≡ faults.OutOfMemory
set_or_refusal pack device variant pname set faults.NoDevice p none = absurd (none_named (devices_named device pack) p.place p.only none)
set_or_refusal pack device variant pname set faults.AmbiguousDevice p many = absurd (one_of_many (devices_named device pack) p.place p.only many)
set_or_refusal pack device variant pname set faults.NoVariant p none = absurd (no_variant pack device variant p.place none.0 p.variant p.only none.1 p.requested none.2)
set_or_refusal pack device variant pname set faults.OutOfMemory p none = refl

-- there is at most one cause, except that memory is refused
pub one_refusal : (pack : Pack) (device : List ℕ) (variant : Option (List ℕ)) (x y : ResolveFault)
    → HasNone pack device variant x → HasNone pack device variant y → x ≢ faults.OutOfMemory → y ≢ faults.OutOfMemory → x ≡ y
one_refusal pack device variant faults.NoDevice faults.NoDevice p q a b = refl
one_refusal pack device variant faults.NoDevice faults.AmbiguousDevice p q a b = absurd (none_of_many (devices_named device pack) p q)
one_refusal pack device variant faults.NoDevice faults.NoVariant p q a b = absurd (none_named (devices_named device pack) q.0 q.1 p)
one_refusal pack device variant faults.AmbiguousDevice faults.NoDevice p q a b = absurd (none_of_many (devices_named device pack) q p)
one_refusal pack device variant faults.AmbiguousDevice faults.AmbiguousDevice p q a b = refl
one_refusal pack device variant faults.AmbiguousDevice faults.NoVariant p q a b = absurd (one_of_many (devices_named device pack) q.0 q.1 p)
one_refusal pack device variant faults.NoVariant faults.NoDevice p q a b = absurd (none_named (devices_named device pack) p.0 p.1 q)
one_refusal pack device variant faults.NoVariant faults.AmbiguousDevice p q a b = absurd (one_of_many (devices_named device pack) p.0 p.1 q)
one_refusal pack device variant faults.NoVariant faults.NoVariant p q a b = refl
one_refusal pack device variant faults.OutOfMemory y p q a b = absurd (a refl)
one_refusal pack device variant x faults.OutOfMemory p q a b = absurd (b refl)
