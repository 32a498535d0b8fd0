-- What is the same is equal.
use Rattle.std.proofs.Common.{◌≡◌, ◌∙◌, ℕ, ◌↔◌, ◌==◌, Bool, true, false, ◌&&◌, if◌then◌else◌, List, Option, Some, None, bytes_eq, refl, ap, sym, subst, true≢false, eq-eqb, eqb-true}
use Rattle.std.proofs.lemmas.Slice.Eq.{bytes_eq-Decides}
use Rattle.std.proofs.lemmas.Bool.{and_parts}
use Rattle.device_tree.specs.Same.{same_text}
use Rattle.sequence_trees.specs.declared.spot.Spot.{Spot}
use Rattle.code_check.specs.declared.fault.FaultKind.{FaultKind}
use Rattle.code_check.specs.declared.fault.FaultKind.TheVariants as k
use Rattle.code_check.specs.Order.{rank}
use Rattle.dap_base.specs.declared.text.Place.{Place}
use Rattle.set_lines.proofs.SameLemmas.{same_part, text_equal}
use Rattle.pack_faults.specs.declared.answer.Found.{Found}
use Rattle.pack_faults.specs.Merged.{same_spot, same_found}
use Rattle.sequence_trees.specs.Parts.{part_rank}

pub and_true : (a b : Bool) → a ≡ true → b ≡ true → a && b ≡ true
and_true a b p q = rw (p, q) refl

-- ---- kinds, by their numbers

abbrev kind_at : ℕ → FaultKind
kind_at n =
    if n == 0 then k.Syntax else if n == 1 then k.UndefinedName else if n == 2 then k.Redeclared else if n == 3 then k.UndefinedSequence
    else if n == 4 then k.UndefinedFunction else if n == 5 then k.ArgumentCount else if n == 6 then k.TextExpected else if n == 7 then k.NumberExpected
    else if n == 8 then k.FormatMismatch else if n == 9 then k.BadDebugvars else if n == 10 then k.UnboundedLoop else if n == 11 then k.TimeoutTooLong
    else if n == 12 then k.NestedTooDeep else if n == 13 then k.CallCycle else k.CallsTooDeep

kind_again : (kind : FaultKind) → kind_at (rank kind) ≡ kind
kind_again k.Syntax = refl
kind_again k.UndefinedName = refl
kind_again k.Redeclared = refl
kind_again k.UndefinedSequence = refl
kind_again k.UndefinedFunction = refl
kind_again k.ArgumentCount = refl
kind_again k.TextExpected = refl
kind_again k.NumberExpected = refl
kind_again k.FormatMismatch = refl
kind_again k.BadDebugvars = refl
kind_again k.UnboundedLoop = refl
kind_again k.TimeoutTooLong = refl
kind_again k.NestedTooDeep = refl
kind_again k.CallCycle = refl
kind_again k.CallsTooDeep = refl

same_kind : (x y : FaultKind) → rank x == rank y ≡ true → x ≡ y
same_kind x y e = sym (kind_again x) ∙ ap kind_at (eqb-true (rank x) (rank y) e) ∙ kind_again y

-- ---- texts, places, spots

pub text_itself : (x : Option (List ℕ)) → same_text x x ≡ true
text_itself None = refl
text_itself (Some x) = (bytes_eq-Decides x x).1 refl

place_equal : (x y : Place) → x.line ≡ y.line → x.column ≡ y.column → x ≡ y
place_equal x y p q =
    let first : x ≡ record y { column = x.column } = ap (λ n. record x { line = n }) p in
    let second : record y { column = x.column } ≡ y = ap (λ n. record y { column = n }) q in
    first ∙ second

spot_equal_at : (x y : Spot) → x.sequence ≡ y.sequence → x.path ≡ y.path → x.part ≡ y.part → x.place ≡ y.place → x ≡ y
spot_equal_at x y p q r s =
    let one : x ≡ record x { sequence = y.sequence } = ap (λ v. record x { sequence = v }) p in
    let two : record x { sequence = y.sequence } ≡ record x { sequence = y.sequence; path = y.path } = ap (λ v. record x { sequence = y.sequence; path = v }) q in
    let three : record x { sequence = y.sequence; path = y.path } ≡ record y { place = x.place } = ap (λ v. record x { sequence = y.sequence; path = y.path; part = v }) r in
    let four : record y { place = x.place } ≡ y = ap (λ v. record y { place = v }) s in
    one ∙ two ∙ three ∙ four

pub spot_equal : (x y : Spot) → same_spot x y ≡ true → x ≡ y
spot_equal x y e =
    let a = and_parts (same_text x.sequence y.sequence) _ e in
    let b = and_parts (bytes_eq x.path y.path) _ a.1 in
    let c = and_parts (part_rank x.part == part_rank y.part) _ b.1 in
    let d = and_parts (x.place.line == y.place.line) (x.place.column == y.place.column) c.1 in
    spot_equal_at x y (text_equal x.sequence y.sequence a.0) ((bytes_eq-Decides x.path y.path).0 b.0) (same_part x.part y.part c.0)
    (place_equal x.place y.place (eqb-true x.place.line y.place.line d.0) (eqb-true x.place.column y.place.column d.1))

pub number_itself : (n : ℕ) → n == n ≡ true
number_itself n = eq-eqb n n refl

pub spot_itself : (x : Spot) → same_spot x x ≡ true
spot_itself x =
    and_true (same_text x.sequence x.sequence) _ (text_itself x.sequence)
    (and_true (bytes_eq x.path x.path) _ ((bytes_eq-Decides x.path x.path).1 refl)
    (and_true (part_rank x.part == part_rank x.part) _ (number_itself (part_rank x.part))
    (and_true (x.place.line == x.place.line) (x.place.column == x.place.column) (number_itself x.place.line) (number_itself x.place.column))))

-- ---- what is found

found_equal_at : (x y : Found) → x.fault.kind ≡ y.fault.kind → x.fault.spot ≡ y.fault.spot → x.line ≡ y.line → x ≡ y
found_equal_at x y p q r =
    let fault : x.fault ≡ y.fault = (
    let one : x.fault ≡ record y.fault { spot = x.fault.spot } = ap (λ v. record x.fault { kind = v }) p in
    let two : record y.fault { spot = x.fault.spot } ≡ y.fault = ap (λ v. record y.fault { spot = v }) q in
    one ∙ two) in
    let first : x ≡ record y { line = x.line } = ap (λ v. record x { fault = v }) fault in
    let second : record y { line = x.line } ≡ y = ap (λ v. record y { line = v }) r in
    first ∙ second

pub same_equal : (x y : Found) → same_found x y ≡ true → x ≡ y
same_equal x y e =
    let a = and_parts (rank x.fault.kind == rank y.fault.kind) _ e in
    let b = and_parts (same_spot x.fault.spot y.fault.spot) (same_text x.line y.line) a.1 in
    found_equal_at x y (same_kind x.fault.kind y.fault.kind a.0) (spot_equal x.fault.spot y.fault.spot b.0) (text_equal x.line y.line b.1)

pub same_itself : (x : Found) → same_found x x ≡ true
same_itself x =
    and_true (rank x.fault.kind == rank x.fault.kind) _ (number_itself (rank x.fault.kind))
    (and_true (same_spot x.fault.spot x.fault.spot) (same_text x.line x.line) (spot_itself x.fault.spot) (text_itself x.line))

pub same_is_equal : (x y : Found) → (same_found x y ≡ true) ↔ (x ≡ y)
same_is_equal x y = (same_equal x y, λ e. subst (λ (z : Found). same_found x z ≡ true) e (same_itself x))
