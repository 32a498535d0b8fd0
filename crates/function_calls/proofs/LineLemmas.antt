-- Lines that are written, and what is confirmed before.
use Rattle.std.proofs.Common.{◌≡◌, ℕ, true, List, [], ◌++◌, take, drop, nat_lt, Option, None, Some, option_map, Ok, refl, sym, ap, ◌∙◌}
use Rattle.std.proofs.lemmas.List.{append_assoc, append-nil, take-append-drop}
use Rattle.target_calls.specs.declared.calls.Value.{Value}
use Rattle.target_calls.specs.declared.calls.Value.TheVariants.{Number}
use Rattle.target_calls.specs.NeedPoints.{Asks, Costs, asks_at_need}
use Rattle.target_calls.specs.World.{World, stop}
use Rattle.access_calls.specs.Reported.{AccessView}
use Rattle.sequence_rules.specs.Calls.{line_result}
use Rattle.sequence_rules.specs.Direct.{line_after}
use Rattle.sequence_rules.specs.Machine.{State, end_state, with_rest, line_more}
use Rattle.sequence_rules.specs.Late.{Late, late_of, late, line_unless, Later}
use Rattle.sequence_rules.proofs.Goes as g
use Rattle.sequence_rules.proofs.KnownLemmas.{known_more, knows_more, knows_part}
use Rattle.sequence_rules.proofs.LateLemmas.{steady_late}
use Rattle.function_calls.specs.declared.end.End.{End}
use Rattle.function_calls.specs.Ends.{EndsLate, IsStopAt}
use Rattle.function_calls.proofs.Leaves.{After, left_on, stops_before}
use Rattle.access_calls.proofs.KeepLemmas.{goes_same, goes_trans}

abbrev S : Type 0
S = State Value Late

-- ---- lines

whole_line : (w : World) (s : Late) (line : List ℕ) → stop w s.asks.calls ≡ None → option_map (line_unless (stop w s.asks.calls) line) s.written ≡ option_map (line_after line) s.written
whole_line w s line whole = ap (λ o. option_map (line_unless o line) s.written) whole ∙ same s.written
  where
    same : (o : Option (List ℕ)) → option_map (line_unless None line) o ≡ option_map (line_after line) o
    same None = refl
    same (Some xs) = refl

-- the line is written
pub line_on : (cost : Costs) (w : World) (line : List ℕ) (n : ℕ) (s : S) (b : Asks) (written : Option (List ℕ)) → nat_lt s.lines 100000 ≡ true → stop w s.rest.asks.calls ≡ None → b ≡ asks_at_need s.rest.asks
    → written ≡ option_map (line_after line) s.rest.written → line_result (late cost w) line n s ≡ Ok (Number n, line_more s (late_of b written))
unfolding line_result late
line_on cost w line n s b written some whole is grown = rw some (rw (whole_line w s.rest line whole) (rw (is, grown) refl))

line_rest : (cost : Costs) (w : World) (line : List ℕ) (n : ℕ) (s : S) → nat_lt s.lines 100000 ≡ true → stop w s.rest.asks.calls ≡ None
    → (end_state (line_result (late cost w) line n s)).rest ≡ late_of (asks_at_need s.rest.asks) (option_map (line_after line) s.rest.written)
unfolding line_result late
line_rest cost w line n s some whole = rw some (ap (λ x. late_of (asks_at_need s.rest.asks) x) (whole_line w s.rest line whole))

part_of : (k : ℕ) (line : List ℕ) (o : Option (List ℕ)) → option_map (line_after line) o ≡ option_map (line_after (drop k line)) (option_map (line_after (take k line)) o)
part_of k line None = refl
part_of k line (Some xs) = ap Some (ap (λ r. xs ++ r) (sym (take-append-drop k line)) ∙ sym (append_assoc xs (take k line) (drop k line)))

-- the sink failed in the line
pub line_fails : (cost : Costs) (w : World) (line : List ℕ) (n : ℕ) (s : S) (b : Asks) (written : Option (List ℕ)) (k : ℕ) → nat_lt s.lines 100000 ≡ true → stop w s.rest.asks.calls ≡ None → b.calls ≡ s.rest.asks.calls
    → written ≡ option_map (line_after (take k line)) s.rest.written → Later w (late_of b written) (end_state (line_result (late cost w) line n s)).rest
line_fails cost w line n s b written k some whole calls grown = rw (line_rest cost w line n s some whole) (record {
  more = [];
  calls = sym calls ∙ sym (append-nil b.calls);
  kept = λ i e. absurd (let z : Some i ≡ None = sym e ∙ ap (stop w) calls ∙ whole in cc);
  grows = record { part = drop k line; same = part_of k line s.rest.written ∙ ap (option_map (line_after (drop k line))) (sym grown) };
})

-- memory was refused for the line
pub line_refused : (cost : Costs) (w : World) (line : List ℕ) (n : ℕ) (s : S) → Later w s.rest (end_state (line_result (late cost w) line n s)).rest
line_refused cost w line n s = (g.goes_lined (late cost w) (Later w) (steady_late cost w) line n s).so

-- the access stopped before the line
pub line_stops : (cost : Costs) (w : World) (line : List ℕ) (n : ℕ) (s : S) (b : Asks) (reached : AccessView) (e : End) → b.calls ≡ s.rest.asks.calls → IsStopAt w s.rest.asks.calls reached e
    → EndsLate w reached e (with_rest s (late_of b s.rest.written)) (line_result (late cost w) line n s)
line_stops cost w line n s b reached e calls stops = stops_before w reached e s b _ (record { so = line_refused cost w line n s }) calls stops

pub ruleset lines = (known_more, knows_more, knows_part, line_refused, goes_trans, goes_same, left_on)
