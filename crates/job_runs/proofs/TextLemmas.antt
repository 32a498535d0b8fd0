-- A report and the trace after it.
use Rattle.std.proofs.Common.{◌≡◌, inr, ℕ, Bool, false, List, [], ◌++◌, append_assoc, Option, None, Some, Result, Ok, Err, refl, sym, subst}
use Rattle.std.specs.Prelude.{IfSome}
use Rattle.std.specs.Io.KnownBytes.{Appends}
use Rattle.std.proofs.KnownBytes.{Appends-nil}
use Rattle.dap_base.specs.Streams.{AppendsPrefix, PutAppends}
use Rattle.probe_core.specs.Bench.{BenchState}
use Rattle.access_calls.specs.declared.ended.Ended.{Ended}
use Rattle.access_calls.specs.declared.ended.Ending.{Ending}
use Rattle.access_calls.specs.declared.ended.Ending.TheVariants as e
use Rattle.report_lines.specs.Endings.{ending_lines}
use Rattle.report_lines.specs.Frame.{AppendsSome, PutsFirst}
use Rattle.report_lines.proofs.FrameLemmas.{first_rest}
use Rattle.report_lines.specs.declared.put.TextEnd.{TextEnd}
use Rattle.text_lines.specs.Causes.{NamesFault}
use Rattle.text_lines.proofs.PutLemmas.{prefix_first, put_after}
use Rattle.sequels.specs.declared.close.Close.{Close}
use Rattle.sequels.specs.declared.close.Close.TheVariants as close
use Rattle.job_text.specs.declared.job.Job.{Job}
use Rattle.probe_core.specs.Probe.{target_of}
use Rattle.report_lines.specs.Closes.{differs_lines}
use Rattle.job_runs.specs.Texts.{has_report, whole_text}

-- a text that was put whole, and then another one
pub then_put : {E : Type 0} (a b : Option BenchState) (old mid new : Option (List ℕ)) (r : Result (Unit {0}) E) (f g : BenchState → List ℕ) → b ≡ a
    → IfSome a (λ m. Appends old mid (f m)) → IfSome b (λ m. PutAppends mid new r (g m)) → IfSome a (λ m. PutAppends old new r (f m ++ g m))
then_put None b old mid new r f g same first second = tt
then_put (Some m) b old mid new r f g same first second =
    put_after old mid new r (f m) (g m) first (subst (λ (x : Option BenchState). IfSome x (λ n. PutAppends mid new r (g n))) same second)

-- a part of the first text
pub first_part : (a : Option BenchState) (old new : Option (List ℕ)) (f g : BenchState → List ℕ)
    → IfSome a (λ m. AppendsPrefix old new (f m)) → IfSome a (λ m. AppendsPrefix old new (f m ++ g m))
first_part None old new f g part = tt
first_part (Some m) old new f g part = prefix_first old new (f m) (g m) part

-- the lines that come first, and what is put after them
pub front_then : {E : Type 0} (a b c : Option (List ℕ)) (r : Result (Unit {0}) E) (lines : List ℕ) → PutsFirst {E = E} lines a b (Ok tt) → AppendsSome b c → PutsFirst lines a c r
front_then a b c r lines first more = first_rest a b c r lines first.rest first.puts more

-- a run that has no report has no lines of its ending
pub no_front : {E : Type 0} (ending : Ending) (ended : Ended) (sent got : List ℕ) (a : Option (List ℕ)) → has_report ending ≡ false → PutsFirst {E = E} (ending_lines ending ended sent got) a a (Ok tt)
no_front e.Done ended sent got a none = absurd cc
no_front (e.Halted cause) ended sent got a none = absurd cc
no_front (e.Cut report) ended sent got a none = absurd cc
no_front (e.BenchFault issued confirmed) ended sent got a none = absurd cc
no_front e.ReplyBad ended sent got a none = absurd cc
no_front e.WriteFault ended sent got a none = record { rest = []; puts = Appends-nil a }
no_front e.OutOfMemory ended sent got a none = record { rest = []; puts = Appends-nil a }

-- ---- a line that no bench is asked for, and then a text

pub line_then : {E : Type 0} (a : Option BenchState) (old mid new : Option (List ℕ)) (r : Result (Unit {0}) E) (line : List ℕ) (g : BenchState → List ℕ)
    → Appends old mid line → IfSome a (λ m. PutAppends mid new r (g m)) → IfSome a (λ m. PutAppends old new r (line ++ g m))
line_then None old mid new r line g first second = tt
line_then (Some m) old mid new r line g first second = put_after old mid new r line (g m) first second

pub line_part : (a : Option BenchState) (old new : Option (List ℕ)) (line : List ℕ) (g : BenchState → List ℕ) → AppendsPrefix old new line → IfSome a (λ m. AppendsPrefix old new (line ++ g m))
line_part None old new line g part = tt
line_part (Some m) old new line g part = prefix_first old new line (g m) part

pub front_line : {E : Type 0} (a b c : Option (List ℕ)) (r : Result (Unit {0}) E) (line lines : List ℕ) → Appends a b line → PutsFirst lines b c r → PutsFirst (line ++ lines) a c r
front_line a b c r line lines put h = record {
  rest = h.rest;
  puts = subst (λ (l : List ℕ). PutAppends a c r l) (sym (append_assoc line lines h.rest)) (put_after a b c r line (lines ++ h.rest) put h.puts);
}

pub front_part : {E : Type 0} (a b : Option (List ℕ)) (e : E) (line lines : List ℕ) → AppendsPrefix a b line → PutsFirst (line ++ lines) a b (Err e)
front_part a b e line lines part = record { rest = []; puts = subst (λ (l : List ℕ). AppendsPrefix a b l) (sym (append_assoc line lines [])) (prefix_first a b line (lines ++ []) part) }

-- ---- causes

pub named_never : {T : Type 0} (fault end : TextEnd) (n : ℕ) → (end ≡ fault → ⊥) → NamesFault {T = T} fault n n (Err end)
named_never fault end n never = record { failed = λ is. absurd (never (let this : end ≡ fault = cc in this)); else = inr refl }

-- ---- a byte of an image that differs

pub differs_whole : {E : Type 0} (a : Option BenchState) (old new : Option (List ℕ)) (r : Result (Unit {0}) E) (traced : Bool) (ended : Ended) (end : Close) (address wanted found : ℕ) (sent got : List ℕ) (job : Job)
    → end ≡ close.Differs address wanted found → IfSome a (λ m. PutAppends old new r (differs_lines address wanted found job (target_of m.probe)))
    → IfSome a (λ m. PutAppends old new r (whole_text traced ended end sent got job m))
differs_whole a old new r traced ended end address wanted found sent got job is h = subst (λ (k : Close). IfSome a (λ m. PutAppends old new r (whole_text traced ended k sent got job m))) (sym is) h
