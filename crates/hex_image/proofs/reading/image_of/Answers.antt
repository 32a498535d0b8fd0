use Rattle.std.proofs.Common.{◌≡◌, ◌∙◌, ◌+◌, ◌-◌, ◌≤◌, ℕ, suc, List, Err, length, take, drop, ap, subst, eq-eqb, ne_eqb, arith}
use Rattle.hex_image.specs.Image.{Reading, image, read_on}
use Rattle.hex_image.specs.Reads.{IsImage}
use Rattle.hex_image.specs.Records.{lines_of}
use Rattle.hex_image.proofs.SplitLemmas.{feed, fronted, other}
use Rattle.hex_image.proofs.FewLemmas.{ended_few}
use Rattle.hex_image.proofs.TextLemmas.{closed_err, closed_ok, last_none, last_open, no_more, open_err, open_ok}
use Rattle.hex_image.proofs.reading.image_of.Goals.{then-bytes-end-eq10+in-Ok, else-bytes-end-eq10, then-start-bytes+in-Ok-read_line, else-start-bytes}
use Rattle.hex_image.proofs.reading.image_of.Goals as goal

-- the text up to a place, and the rest of it
abbrev so_far : List ℕ → Reading → ℕ → ℕ → ℕ → Type 0
so_far t r lines s e = image t ≡ read_on r lines (fronted (take (e - s) (drop s t)) (lines_of (drop e t)))

pub returns-in-Err : goal.returns-in-Err
returns-in-Err c =
    let t : List ℕ = c.as_bytes-bytes.result.now in
    let inv = c.loop-end.invariant in
    let line = feed t c.loop-end.start c.loop-end.end inv.0 c.loop-end-test.true (eq-eqb _ 10 c.if-bytes-end-eq10.true) in
    subst (λ (x : List ℕ). IsImage (Err c.fault_at.result) (image x)) c.as_bytes-bytes.ensures.value
    (closed_err t c.loop-end.reader c.read_line.new.self c.loop-end.lines (take (c.loop-end.end - c.loop-end.start) (drop c.loop-end.start t)) (lines_of (drop (suc c.loop-end.end) t)) c.without_return.result.now c.in-Err.fault c.fault_at.result c.read_line.result
    (inv.2 ∙ ap (read_on c.loop-end.reader c.loop-end.lines) line) c.without_return.ensures c.read_line.ensures c.in-Err.is c.fault_at.ensures)

-- a line begins after a line feed
begins : (t : List ℕ) (new r : Reading) (lines n s e : ℕ) → image t ≡ read_on new (lines + 1) (lines_of (drop (suc e) t)) → r ≡ new → n ≡ lines + 1 → s ≡ e + 1 → so_far t r n s (e + 1)
begins t new r lines n s e h r_is n_is s_is =
    rw (r_is, n_is, s_is) (h
    ∙ (let next : suc e ≡ e + 1 = omega arith in ap (λ (k : ℕ). read_on new (lines + 1) (lines_of (drop k t))) next)
    ∙ (let none : 0 ≡ e + 1 - (e + 1) = omega arith in ap (λ (k : ℕ). read_on new (lines + 1) (fronted (take k (drop (e + 1) t)) (lines_of (drop (e + 1) t)))) none))

-- a byte of a line
goes : (t : List ℕ) (r q : Reading) (lines n s u e : ℕ) → so_far t r lines s (suc e) → q ≡ r → n ≡ lines → u ≡ s → so_far t q n u (e + 1)
goes t r q lines n s u e h q_is n_is u_is =
    rw (q_is, n_is, u_is) (h ∙ (let next : suc e ≡ e + 1 = omega arith in ap (λ (k : ℕ). read_on r lines (fronted (take (k - s) (drop s t)) (lines_of (drop k t)))) next))

pub loop-end-preserved : goal.loop-end-preserved
loop-end-preserved c =
    let t : List ℕ = c.as_bytes-bytes.result.now in
    let inv = c.loop-end.invariant in
    let low = inv.0 in
    let few = inv.1 in
    elim c.if-bytes-end-eq10.branch [
      | then-bytes-end-eq10+in-Ok w ↦
          let line = feed t c.loop-end.start c.loop-end.end inv.0 c.loop-end-test.true (eq-eqb _ 10 w.if-bytes-end-eq10.true) in
          let lines_is = w.lines-is in
          let start_is = w.start-is in (
            omega (arith, start_is),
            omega (arith, start_is, lines_is, low, few),
            begins t w.read_line.new.self c.if-bytes-end-eq10.reader c.loop-end.lines c.if-bytes-end-eq10.lines c.if-bytes-end-eq10.start c.loop-end.end
                (closed_ok t c.loop-end.reader w.read_line.new.self c.loop-end.lines (take (c.loop-end.end - c.loop-end.start) (drop c.loop-end.start t)) (lines_of (drop (suc c.loop-end.end) t)) w.without_return.result.now (inv.2 ∙ ap (read_on c.loop-end.reader c.loop-end.lines) line)
                w.without_return.ensures w.in-Ok.ensures)
                w.reader-is w.lines-is w.start-is,
          )
      | else-bytes-end-eq10 w ↦
          let lines_is = w.lines-is in
          let start_is = w.start-is in (
            omega (arith, start_is, low),
            omega (arith, start_is, lines_is, few),
            goes t c.loop-end.reader c.if-bytes-end-eq10.reader c.loop-end.lines c.if-bytes-end-eq10.lines c.loop-end.start c.if-bytes-end-eq10.start c.loop-end.end
                (inv.2 ∙ ap (read_on c.loop-end.reader c.loop-end.lines)
                (other t c.loop-end.start c.loop-end.end inv.0 c.loop-end-test.true (ne_eqb _ 10 w.if-bytes-end-eq10.false)))
                w.reader-is w.lines-is w.start-is,
          )
    ]

pub returns-in-Err-read_line : goal.returns-in-Err-read_line
returns-in-Err-read_line c =
    let t : List ℕ = c.as_bytes-bytes.result.now in
    let inv = c.loop-end.invariant in
    let line = last_open t c.loop-end.start c.loop-end.end c.loop-end-test.false c.loop-end.auto.end-end c.if-start-bytes.true in
    subst (λ (x : List ℕ). IsImage (Err c.fault_at-in-Err-read_line.result) (image x)) c.as_bytes-bytes.ensures.value
    (open_err t c.loop-end.reader c.read_line-then-start-bytes.new.self c.loop-end.lines (take (length t - c.loop-end.start) (drop c.loop-end.start t)) c.in-Err-read_line.fault c.fault_at-in-Err-read_line.result c.read_line-then-start-bytes.result
    (inv.2 ∙ ap (read_on c.loop-end.reader c.loop-end.lines) line) c.read_line-then-start-bytes.ensures c.in-Err-read_line.is c.fault_at-in-Err-read_line.ensures)

pub returns : goal.returns
returns c =
    let t : List ℕ = c.as_bytes-bytes.result.now in
    let inv = c.loop-end.invariant in
    let low = inv.0 in
    subst (λ (x : List ℕ). IsImage c.end_reading.result (image x)) c.as_bytes-bytes.ensures.value
    (elim c.if-start-bytes.branch [
      | then-start-bytes+in-Ok-read_line w ↦
          let line = last_open t c.loop-end.start c.loop-end.end c.loop-end-test.false c.loop-end.auto.end-end w.if-start-bytes.true in
          let all = open_ok t c.loop-end.reader w.read_line-then-start-bytes.new.self c.loop-end.lines (take (length t - c.loop-end.start) (drop c.loop-end.start t)) (inv.2 ∙ ap (read_on c.loop-end.reader c.loop-end.lines) line) w.in-Ok-read_line.ensures in
          no_more t c.if-start-bytes.reader c.if-start-bytes.lines c.end_reading.result (rw (w.reader-is, w.lines-is) all) c.end_reading.ensures
      | else-start-bytes w ↦
          let high = c.loop-end.auto.end-end in
          let past = w.if-start-bytes.false in
          let le : c.loop-end.end ≤ c.loop-end.start = omega (arith, high, past) in
          let none = last_none t c.loop-end.start c.loop-end.end c.loop-end-test.false le in
          no_more t c.if-start-bytes.reader c.if-start-bytes.lines c.end_reading.result (rw (w.reader-is, w.lines-is) (inv.2 ∙ ap (read_on c.loop-end.reader c.loop-end.lines) none)) c.end_reading.ensures
    ])

pub end_reading-requires : goal.end_reading-requires
end_reading-requires c = λ ended.
    let t : List ℕ = c.as_bytes-bytes.result.now in
    let inv = c.loop-end.invariant in
    elim c.if-start-bytes.branch [
      | then-start-bytes+in-Ok-read_line w ↦
          let line = last_open t c.loop-end.start c.loop-end.end c.loop-end-test.false c.loop-end.auto.end-end w.if-start-bytes.true in
          let all = open_ok t c.loop-end.reader w.read_line-then-start-bytes.new.self c.loop-end.lines (take (length t - c.loop-end.start) (drop c.loop-end.start t)) (inv.2 ∙ ap (read_on c.loop-end.reader c.loop-end.lines) line) w.in-Ok-read_line.ensures in
          ended_few t c.if-start-bytes.reader c.if-start-bytes.lines (rw (w.reader-is, w.lines-is) all) ended
      | else-start-bytes w ↦
          let high = c.loop-end.auto.end-end in
          let past = w.if-start-bytes.false in
          let le : c.loop-end.end ≤ c.loop-end.start = omega (arith, high, past) in
          let none = last_none t c.loop-end.start c.loop-end.end c.loop-end-test.false le in
          ended_few t c.if-start-bytes.reader c.if-start-bytes.lines (rw (w.reader-is, w.lines-is) (inv.2 ∙ ap (read_on c.loop-end.reader c.loop-end.lines) none)) ended
    ]
