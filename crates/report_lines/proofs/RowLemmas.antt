-- Lines that are put in a row, each of a part of a target.
use Rattle.std.proofs.Common.{◌≡◌, ◌∙◌, ◌+◌, ◌-◌, ◌<◌, ℕ, zero, suc, List, ◌++◌, Option, None, Some, Result, Ok, Err, IfSome, ap, take, slice_get, subst, refl, arith}
use Rattle.std.specs.Prelude.{IfErr, ◌≢◌}
use Rattle.std.proofs.KnownBytes.{Appends-trans}
use Rattle.std.specs.Io.KnownBytes.{Appends}
use Rattle.std.specs.List.{flat_map}
use Rattle.dap_base.specs.Streams.{AppendsPrefix, PutAppends}
use Rattle.target_machine.specs.State.{TargetState}
use Rattle.probe_core.specs.Bench.{BenchState, IsAsBefore, Seen}
use Rattle.probe_core.specs.Probe.{target_of}
use Rattle.report_lines.specs.Target.{lines_below}
use Rattle.report_lines.specs.Views.{IsViewedAsBefore, View, observed_target}
use Rattle.text_lines.specs.Causes.{NamesFault}
use Rattle.report_lines.specs.declared.put.TextEnd.{TextEnd}
use Rattle.report_lines.specs.declared.put.TextEnd.TheVariants as ends
use Rattle.text_lines.proofs.PutLemmas.{prefix_first, put_after}
use Rattle.text_lines.proofs.RowLemmas.{row_cut, row_more}

-- a bench that is twice as it was before
pub before-trans : (a b c : Seen) → IsAsBefore a b → IsAsBefore b c → IsAsBefore a c
before-trans a b c first second = record { reported = grind (arith, first.reported, second.reported); state = second.state ∙ first.state }

-- what shows a target that is twice as it was before
pub viewed-trans : (a b c : View) → IsViewedAsBefore a b → IsViewedAsBefore b c → IsViewedAsBefore a c
viewed-trans a b c first second = record {
  target = second.target ∙ first.target;
  bench = before-trans a.bench b.bench c.bench first.bench second.bench;
  identity = second.identity ∙ first.identity;
}

-- what is known of the target of a bench
pub of_bench : (s : Option BenchState) (P : TargetState → Type 0) → IfSome (observed_target s) P → IfSome s (λ m. P (target_of m.probe))
of_bench None P h = tt
of_bench (Some m) P h = h

-- where no fault is counted, none is named
pub never_fails : (r : Result (Unit {0}) TextEnd) → NamesFault ends.BenchFault 0 0 r → IfErr r (λ e. e ≢ ends.BenchFault)
never_fails (Ok u) h = tt
never_fails (Err e) h = λ is. (let rose = h.failed (ap Err is) in absurd (omega (arith, rose)))

-- a text of a target, and a part of it, where it is observable
abbrev pub Wrote : Option TargetState → (TargetState → List ℕ) → Option (List ℕ) → Option (List ℕ) → Type 0
Wrote target text old new = IfSome target (λ t. Appends old new (text t))

abbrev pub Began : Option TargetState → (TargetState → List ℕ) → Option (List ℕ) → Option (List ℕ) → Type 0
Began target text old new = IfSome target (λ t. AppendsPrefix old new (text t))

-- what is known of a target is known of one that is the same
pub wrote_same : (s t : Option TargetState) (text : TargetState → List ℕ) (a b : Option (List ℕ)) → s ≡ t → Wrote s text a b → Wrote t text a b
wrote_same s t text a b same wrote = subst (λ u. Wrote u text a b) same wrote

pub began_same : (s t : Option TargetState) (text : TargetState → List ℕ) (a b : Option (List ℕ)) → s ≡ t → Began s text a b → Began t text a b
began_same s t text a b same began = subst (λ u. Began u text a b) same began

pub put_same : {E : Type 0} (s t : Option TargetState) (a b : Option (List ℕ)) (r : Result (Unit {0}) E) (text : TargetState → List ℕ) → s ≡ t → IfSome s (λ t. PutAppends a b r (text t)) → IfSome t (λ t. PutAppends a b r (text t))
put_same s t a b r text same put = subst (λ u. IfSome u (λ t. PutAppends a b r (text t))) same put

-- ---- the lines of numbers

below-suc : (line : ℕ → List ℕ) (n : ℕ) → lines_below line (n + 1) ≡ lines_below line n ++ line n
below-suc line n = let more : n + 1 ≡ suc n = omega arith in rw more refl

-- those of more numbers begin with those of fewer
below_front : (line : ℕ → List ℕ) (n k : ℕ) (a b : Option (List ℕ)) → AppendsPrefix a b (lines_below line n) → AppendsPrefix a b (lines_below line (k + n))
below_front line n zero a b part = let none : 0 + n ≡ n = omega arith in rw none part
below_front line n (suc k) a b part =
    let more : suc k + n ≡ suc (k + n) = omega arith in
    rw more (prefix_first a b (lines_below line (k + n)) (line (k + n)) (below_front line n k a b part))

-- one number more
pub below_more : (s : Option TargetState) (a b c : Option (List ℕ)) (line : TargetState → ℕ → List ℕ) (n : ℕ) → Wrote s (λ t. lines_below (line t) n) a b → Wrote s (λ t. line t n) b c → Wrote s (λ t. lines_below (line t) (n + 1)) a c
below_more None a b c line n first second = tt
below_more (Some t) a b c line n first second =
    rw (below-suc (line t) n) (Appends-trans a b c (lines_below (line t) n) (line t n) first second)

-- the numbers before one, and a part of its line
pub below_cut : (s : Option TargetState) (a b c : Option (List ℕ)) (line : TargetState → ℕ → List ℕ) (i n : ℕ) → i < n → Wrote s (λ t. lines_below (line t) i) a b → Began s (λ t. line t i) b c → Began s (λ t. lines_below (line t) n) a c
below_cut None a b c line i n below first second = tt
below_cut (Some t) a b c line i n below first second =
    let g : ℕ → List ℕ = line t in
    let so_far : AppendsPrefix a c (lines_below g (i + 1)) = rw (below-suc g i) (put_after {E = Unit {0}} a b c (Err tt) (lines_below g i) (g i) first second) in
    let all : n - (i + 1) + (i + 1) ≡ n = omega arith in
    subst (λ k. AppendsPrefix a c (lines_below g k)) all (below_front g (i + 1) (n - (i + 1)) a c so_far)

-- ---- the lines of a list

pub rows_cut : {X : Type 0} (s : Option TargetState) (a b c : Option (List ℕ)) (g : TargetState → X → List ℕ) (xs : List X) (i : ℕ) (x : X) → slice_get xs i ≡ Some x → Wrote s (λ t. flat_map (g t) (take i xs)) a b → Began s (λ t. g t x) b c → Began s (λ t. flat_map (g t) xs) a c
rows_cut None a b c g xs i x at first second = tt
rows_cut (Some t) a b c g xs i x at first second = row_cut a b c (g t) xs i x at first second

pub rows_more : {X : Type 0} (s : Option TargetState) (a b c : Option (List ℕ)) (g : TargetState → X → List ℕ) (xs : List X) (i : ℕ) (x : X) → slice_get xs i ≡ Some x → Wrote s (λ t. flat_map (g t) (take i xs)) a b → Wrote s (λ t. g t x) b c → Wrote s (λ t. flat_map (g t) (take (i + 1) xs)) a c
rows_more None a b c g xs i x at first second = tt
rows_more (Some t) a b c g xs i x at first second = row_more a b c (g t) xs i x at first second

-- ---- two texts in a row

pub parts_after : {E : Type 0} (s : Option TargetState) (a b c : Option (List ℕ)) (r : Result (Unit {0}) E) (f g : TargetState → List ℕ) → Wrote s f a b → IfSome s (λ t. PutAppends b c r (g t)) → IfSome s (λ t. PutAppends a c r (f t ++ g t))
parts_after None a b c r f g first second = tt
parts_after (Some t) a b c r f g first second = put_after a b c r (f t) (g t) first second

pub part_first : (s : Option TargetState) (a b : Option (List ℕ)) (f g : TargetState → List ℕ) → Began s f a b → Began s (λ t. f t ++ g t) a b
part_first None a b f g first = tt
part_first (Some t) a b f g first = prefix_first a b (f t) (g t) first

pub piece_after : {E : Type 0} (s : Option BenchState) (a b c : Option (List ℕ)) (r : Result (Unit {0}) E) (piece : List ℕ) (g : TargetState → List ℕ) → Appends a b piece → IfSome s (λ m. PutAppends b c r (g (target_of m.probe))) → IfSome s (λ m. PutAppends a c r (piece ++ g (target_of m.probe)))
piece_after None a b c r piece g first second = tt
piece_after (Some m) a b c r piece g first second = put_after a b c r piece (g (target_of m.probe)) first second

pub piece_first : (s : Option BenchState) (a b : Option (List ℕ)) (piece : List ℕ) (g : TargetState → List ℕ) → AppendsPrefix a b piece → IfSome s (λ m. AppendsPrefix a b (piece ++ g (target_of m.probe)))
piece_first None a b piece g first = tt
piece_first (Some m) a b piece g first = prefix_first a b piece (g (target_of m.probe)) first
