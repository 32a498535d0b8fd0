-- Two traces side by side: the exchanges that are the same so far.
use Rattle.std.proofs.Common.{◌≡◌, ◌∙◌, ℕ, Bool, true, false, ◌&&◌, List, Option, None, Some, Result, Ok, Err, refl, sym, ap, subst, cond, length}
use Rattle.std.specs.Prelude.{IfOk, OnErr, OnOk}
use Rattle.std.specs.Io.KnownBytes.{Appends}
use Rattle.std.proofs.KnownBytes.{Appends-trans}
use Rattle.std.proofs.Math.Seq.{take-length}
use Rattle.dap_base.specs.Streams.{AppendsPrefix}
use Rattle.text_lines.proofs.PutLemmas.{no_part, prefix_first, put_after}
use Rattle.trace_compare.specs.declared.compare.CompareEnd.{CompareEnd}
use Rattle.trace_compare.specs.declared.compare.CompareEnd.TheVariants as end
use Rattle.trace_compare.specs.declared.exchange.Exchange.{Exchange}
use Rattle.trace_compare.specs.declared.traces.Traces.{Traces}
use Rattle.trace_compare.specs.declared.traces.Two.{Two}
use Rattle.trace_compare.specs.Coming.{Contents, PassesExchange, after_exchange, contents_left, over}
use Rattle.trace_compare.specs.Comparison.{are_both_absent, are_same, exchange_difference, is_right, same_exchange_number, summary}
use Rattle.trace_compare.specs.Counting.{Counting}
use Rattle.trace_compare.specs.Exchanges.{is_same}
use Rattle.trace_compare.specs.Pairs.{Compared, GivesTwo, PutsDifference, TakesBoth, alike_left, compared_traces, compared_left, comparison_left}
use Rattle.trace_compare.specs.Texts.{two_text}

-- ---- the first exchanges of both

-- two exchanges before others, by whether they are the same
abbrev split : Bool → ℕ → Exchange → Exchange → Contents → Contents → Compared
split b last x y a b' = record {
  text = cond b (exchange_difference x.number a.exchanges b'.exchanges) (two_text last (Some x) (Some y));
  same = b && are_same a.exchanges b'.exchanges;
  trace = a.counting;
  against = b'.counting;
}

abbrev number_if : Bool → Exchange → Option ℕ
number_if b x = cond b (Some x.number) None

split_same : (b : Bool) (last n : ℕ) (x y : Exchange) (a b' : Contents) → number_if b x ≡ Some n → split b last x y a b' ≡ compared_traces n a b'
split_same true last n x y a b' is = let k : x.number ≡ n = cc in ap (λ (m : ℕ). compared_traces m a b') k
split_same false last n x y a b' is = absurd (let k : ⊥ = cc in k)

-- what is compared where the first two exchanges are these
abbrev parted : ℕ → Option Exchange → Option Exchange → Counting → Counting → Compared
parted last x y c d = record { text = two_text last x y; same = are_both_absent x y; trace = c; against = d }

split_other : (b : Bool) (last : ℕ) (x y : Exchange) (a b' : Contents) → number_if b x ≡ None → split b last x y a b' ≡ parted last (Some x) (Some y) a.counting b'.counting
split_other true last x y a b' is = absurd (let k : ⊥ = cc in k)
split_other false last x y a b' is = refl

both : (last : ℕ) (a b c d : Contents) → a ≡ c → b ≡ d → compared_traces last a b ≡ compared_traces last c d
both last a b c d is other = ap (λ (k : Contents). compared_traces last k b) is ∙ ap (λ (k : Contents). compared_traces last c k) other

-- the same two are passed over
passes_same : (last n : ℕ) (a b c d : Contents) (x y : Option Exchange) (k l : Counting) → PassesExchange a x c k → PassesExchange b y d l → same_exchange_number x y ≡ Some n → compared_traces last a b ≡ compared_traces n c d
passes_same last n a b c d (Some x) (Some y) k l first second is =
    both last a b (after_exchange x c) (after_exchange y d) first second ∙ split_same (is_same x y) last n x y c d is
passes_same last n a b c d None y k l first second is = absurd (let no : ⊥ = cc in no)
passes_same last n a b c d (Some x) None k l first second is = absurd (let no : ⊥ = cc in no)

counting_of : (a : Contents) (k : Counting) → a ≡ over k → k ≡ a.counting
counting_of a k is = ap (λ (x : Contents). x.counting) (sym is)

-- any other two are the difference
passes_other : (last : ℕ) (a b c d : Contents) (x y : Option Exchange) (k l : Counting) → PassesExchange a x c k → PassesExchange b y d l → same_exchange_number x y ≡ None → compared_traces last a b ≡ parted last x y c.counting d.counting
passes_other last a b c d (Some x) (Some y) k l first second is =
    both last a b (after_exchange x c) (after_exchange y d) first second ∙ split_other (is_same x y) last x y c d is
passes_other last a b c d None None k l first second is =
    both last a b (over k) (over l) first.0 second.0
    ∙ ap (λ (m : Counting). parted last None None m l) (counting_of c k first.1) ∙ ap (λ (m : Counting). parted last None None c.counting m) (counting_of d l second.1)
passes_other last a b c d (Some x) None k l first second is =
    both last a b (after_exchange x c) (over l) first second.0 ∙ ap (λ (m : Counting). parted last (Some x) None c.counting m) (counting_of d l second.1)
passes_other last a b c d None (Some y) k l first second is =
    both last a b (over k) (after_exchange y d) first.0 second ∙ ap (λ (m : Counting). parted last None (Some y) m d.counting) (counting_of c k first.1)

-- ---- the loop

-- the same is compared as at first
pub record Alike (first now : Traces) (last : ℕ) (old new other_old other_new : Option (List ℕ)) : Type 0 where
  pub ahead : (a b : List ℕ) → old ≡ Some a → other_old ≡ Some b
      → (x : List ℕ) × (y : List ℕ) × (new ≡ Some x) × (other_new ≡ Some y) × (compared_left last now x y ≡ compared_left 0 first a b)

pub alike_start : (now : Traces) (left other : Option (List ℕ)) → Alike now now 0 left left other other
alike_start now left other = record { ahead = λ a b is other_is. (a, b, is, other_is, refl) }

pub alike_on : (first now later : Traces) (last n : ℕ) (old new next other_old other_new other_next : Option (List ℕ)) (two : Two) → Alike first now last old new other_old other_new
    → GivesTwo now later new next other_new other_next two → same_exchange_number two.trace two.against ≡ Some n → Alike first later n old next other_old other_next
alike_on first now later last n old new next other_old other_new other_next two h gives same = record {
  ahead = λ a b is other_is.
      let before = h.ahead a b is other_is in
      let came = gives.trace.given before.0 before.2 in
      let others = gives.against.given before.1 before.3 in (
        came.0,
        others.0,
        came.1,
        others.1,
        sym (passes_same last n (contents_left now.trace before.0) (contents_left now.against before.1) (contents_left later.trace came.0) (contents_left later.against others.0) two.trace two.against
            later.trace.counting later.against.counting came.2 others.2 same) ∙ before.4,
      );
}

-- the difference
difference_is : (first now later : Traces) (last : ℕ) (old new next other_old other_new other_next : Option (List ℕ)) (two : Two) → Alike first now last old new other_old other_new
    → GivesTwo now later new next other_new other_next two → same_exchange_number two.trace two.against ≡ None
    → (a b : List ℕ) → old ≡ Some a → other_old ≡ Some b
    → (x : List ℕ) × (y : List ℕ) × (next ≡ Some x) × (other_next ≡ Some y)
    × (parted last two.trace two.against (contents_left later.trace x).counting (contents_left later.against y).counting ≡ compared_left 0 first a b)
difference_is first now later last old new next other_old other_new other_next two h gives other a b is other_is =
    let before = h.ahead a b is other_is in
    let came = gives.trace.given before.0 before.2 in
    let others = gives.against.given before.1 before.3 in (
      came.0,
      others.0,
      came.1,
      others.1,
      sym (passes_other last (contents_left now.trace before.0) (contents_left now.against before.1) (contents_left later.trace came.0) (contents_left later.against others.0) two.trace two.against
          later.trace.counting later.against.counting came.2 others.2 other) ∙ before.4,
    )

-- it was put, of which the result says whether neither is there
module _ (first now later : Traces) (last : ℕ) (old new next other_old other_new other_next start written put : Option (List ℕ)) (two : Two) (r : Result Bool CompareEnd) (h : Alike first now last old new other_old other_new)
    (gives : GivesTwo now later new next other_new other_next two) (other : same_exchange_number two.trace two.against ≡ None) (unwritten : written ≡ start) where
  pub difference_put : OnOk r (Appends written put (two_text last two.trace two.against)) → IfOk r (λ ended. ended ≡ are_both_absent two.trace two.against) → IfOk r (PutsDifference first later old next other_old other_next start put)
  difference_put text end = go r text end
    where
      go : (q : Result Bool CompareEnd) → OnOk q (Appends written put (two_text last two.trace two.against)) → IfOk q (λ ended. ended ≡ are_both_absent two.trace two.against) → IfOk q (PutsDifference first later old next other_old other_next start put)
      go (Err e) text end = tt
      go (Ok same) text end = record {
        given = λ a b is other_is.
            let d = difference_is first now later last old new next other_old other_new other_next two h gives other a b is other_is in (
              d.0,
              d.1,
              d.2,
              d.3,
              record {
                text = subst (λ (w : Option (List ℕ)). Appends w put (compared_left 0 first a b).text) unwritten (subst (λ (t : List ℕ). Appends written put t) (ap (λ (c : Compared). c.text) d.4) text);
                same_is = end ∙ ap (λ (c : Compared). c.same) d.4;
                trace_is = ap (λ (c : Compared). c.trace) d.4;
                against_is = ap (λ (c : Compared). c.against) d.4;
              },
            );
      }

  pub difference_part : OnErr r (AppendsPrefix written put (two_text last two.trace two.against)) → (a b : List ℕ) → old ≡ Some a → other_old ≡ Some b → OnErr r (AppendsPrefix start put (compared_left 0 first a b).text)
  difference_part part a b is other_is = go r part
    where
      go : (q : Result Bool CompareEnd) → OnErr q (AppendsPrefix written put (two_text last two.trace two.against)) → OnErr q (AppendsPrefix start put (compared_left 0 first a b).text)
      go (Ok same) part = tt
      go (Err e) part =
          let d = difference_is first now later last old new next other_old other_new other_next two h gives other a b is other_is in
          subst (λ (w : Option (List ℕ)). AppendsPrefix w put (compared_left 0 first a b).text) unwritten (subst (λ (t : List ℕ). AppendsPrefix written put t) (ap (λ (c : Compared). c.text) d.4) part)

-- nothing was put
pub nothing_put : (r : Result Bool CompareEnd) (start written : Option (List ℕ)) (text : List ℕ) → written ≡ start → OnErr r (AppendsPrefix start written text)
nothing_put (Ok same) start written text is = tt
nothing_put (Err e) start written text is = subst (λ (w : Option (List ℕ)). AppendsPrefix start w text) (sym is) (no_part start text)

-- what is so in any case is so at an error
pub at_error : (r : Result Bool CompareEnd) (P : Type 0) → P → OnErr r P
at_error (Ok same) P p = tt
at_error (Err e) P p = p

-- ---- the whole comparison

abbrev cut : Result (Unit {0}) CompareEnd
cut = Err end.OutOfMemory

-- a part of the difference is a part of all
pub difference_first : (first : Traces) (written put : Option (List ℕ)) (a b : List ℕ) → AppendsPrefix written put (compared_left 0 first a b).text → AppendsPrefix written put (comparison_left first a b)
difference_first first written put a b part =
    prefix_first written put (compared_left 0 first a b).text (summary (contents_left first.trace a).counting (contents_left first.against b).counting) part

-- what is counted of the trace and of the other in the end
module _ (first mid after : Traces) (old new other_old other_new written put : Option (List ℕ)) (same : Bool) (puts : PutsDifference first mid old new other_old other_new written put same) (a b : List ℕ) (is : old ≡ Some a) (other_is : other_old ≡ Some b) where
  pub difference_whole : AppendsPrefix written put (comparison_left first a b)
  difference_whole =
      let d = puts.given a b is other_is in
      prefix_first written put (compared_left 0 first a b).text (summary (contents_left first.trace a).counting (contents_left first.against b).counting)
      (length (compared_left 0 first a b).text, subst (λ (l : List ℕ). Appends written put l) (sym (take-length (compared_left 0 first a b).text)) d.4.text)

  counts_trace : TakesBoth mid after new other_new → after.trace.counting ≡ (contents_left first.trace a).counting
  counts_trace takes = let d = puts.given a b is other_is in sym (takes.trace.taken d.0 d.2) ∙ d.4.trace_is

  counts_against : TakesBoth mid after new other_new → after.against.counting ≡ (contents_left first.against b).counting
  counts_against takes = let d = puts.given a b is other_is in sym (takes.against.taken d.1 d.3) ∙ d.4.against_is

  same_summary : TakesBoth mid after new other_new → summary after.trace.counting after.against.counting ≡ summary (contents_left first.trace a).counting (contents_left first.against b).counting
  same_summary takes =
      ap (λ (c : Counting). summary c after.against.counting) (counts_trace takes) ∙ ap (λ (c : Counting). summary (contents_left first.trace a).counting c) (counts_against takes)

  pub comparison_put : (now : Option (List ℕ)) (alike : Bool) → TakesBoth mid after new other_new → Appends put now (summary after.trace.counting after.against.counting)
      → alike ≡ (same && is_right after.trace.counting && is_right after.against.counting) → Appends written now (comparison_left first a b) × (alike ≡ alike_left first a b)
  comparison_put now alike takes text alike_is =
      let d = puts.given a b is other_is in (
        Appends-trans written put now (compared_left 0 first a b).text (summary (contents_left first.trace a).counting (contents_left first.against b).counting) d.4.text
            (subst (λ (l : List ℕ). Appends put now l) (same_summary takes) text),
        alike_is ∙ ap (λ (s : Bool). s && is_right after.trace.counting && is_right after.against.counting) d.4.same_is
            ∙ ap (λ (c : Counting). are_same (contents_left first.trace a).exchanges (contents_left first.against b).exchanges && is_right c && is_right after.against.counting) (counts_trace takes)
            ∙ ap (λ (c : Counting). are_same (contents_left first.trace a).exchanges (contents_left first.against b).exchanges && is_right (contents_left first.trace a).counting && is_right c) (counts_against takes),
      )

  pub summary_part : (now : Option (List ℕ)) → TakesBoth mid after new other_new → AppendsPrefix put now (summary after.trace.counting after.against.counting) → AppendsPrefix written now (comparison_left first a b)
  summary_part now takes part =
      let d = puts.given a b is other_is in
      put_after written put now cut (compared_left 0 first a b).text (summary (contents_left first.trace a).counting (contents_left first.against b).counting) d.4.text
      (subst (λ (l : List ℕ). AppendsPrefix put now l) (same_summary takes) part)
