-- The job of a number has few bytes.
use Rattle.std.proofs.Common.{◌≡◌, ℕ, zero, suc, ◌+◌, ◌*◌, ◌%◌, ◌<◌, ◌≤◌, ◌^◌, true, List, ◌++◌, length, nat_le, codes, decimal, refl, length-append, arith}
use Rattle.std.proofs.lemmas.Bool.{leb-true}
use Rattle.std.proofs.lemmas.Fmt.{length-decimal-le}
use Rattle.std.proofs.lemmas.Nat.{mod_below}
use Rattle.dapseq_tool.specs.Generated.{word_address, write_text, block_text, blocks_text, front_text, back_text, job_text}

-- a text that is written out, by counting it
at_most : (n : ℕ) (text : List ℕ) → nat_le (length text) n ≡ true → length text ≤ n
at_most n text few = leb-true (length text) n few

short_number : (n : ℕ) → n < 10 ^ 10 → length (decimal n) ≤ 10
short_number n small = length-decimal-le 10 n (omega arith) small (omega (arith, small))

address_below : (i : ℕ) → word_address i < 10 ^ 10
address_below i = omega (arith, mod_below i 256 (omega arith))

value_below : (i : ℕ) → 2654435761 * i % 2 ^ 32 < 10 ^ 10
value_below i = omega (arith, mod_below (2654435761 * i) (2 ^ 32) (omega arith))

joined : (n m : ℕ) (xs ys : List ℕ) → length xs ≤ n → length ys ≤ m → length (xs ++ ys) ≤ n + m
joined n m xs ys p q = omega (arith, length-append xs ys, p, q)

write_few : (i : ℕ) → length (write_text i) ≤ 100
write_few i =
    let address = decimal (word_address i) in
    let value = decimal (2654435761 * i % 2 ^ 32) in
    let front = codes "{\"block\":\"Write32(" in
    joined 80 20 (front ++ address ++ codes ", " ++ value) (codes "); ")
    (joined 70 10 (front ++ address ++ codes ", ") value
    (joined 50 20 (front ++ address) (codes ", ") (joined 40 10 front address (at_most 40 front refl) (short_number (word_address i) (address_below i))) (at_most 20 (codes ", ") refl))
    (short_number (2654435761 * i % 2 ^ 32) (value_below i)))
    (at_most 20 (codes "); ") refl)

block_few : (i : ℕ) → length (block_text i) ≤ 200
block_few i =
    let address = decimal (word_address (7 * i)) in
    joined 150 50 (write_text i ++ codes "s = s + Read32(" ++ address) (codes ");\"},")
    (joined 140 10 (write_text i ++ codes "s = s + Read32(") address (joined 100 40 (write_text i) (codes "s = s + Read32(") (write_few i) (at_most 40 (codes "s = s + Read32(") refl))
    (short_number (word_address (7 * i)) (address_below (7 * i))))
    (at_most 50 (codes ");\"},") refl)

blocks_few : (n : ℕ) → length (blocks_text n) ≤ 200 * n
blocks_few zero = omega arith
blocks_few (suc n) = omega (arith, joined (200 * n) 200 (blocks_text n) (block_text n) (blocks_few n) (block_few n))

pub job_few : (n : ℕ) → n < 2 ^ 16 → length (job_text n) < 2 ^ 63
job_few n small =
    omega (
      arith,
      small,
      joined (1000 + 200 * (n + 1)) 1000 (front_text ++ blocks_text (n + 1)) back_text
          (joined 1000 (200 * (n + 1)) front_text (blocks_text (n + 1)) (at_most 1000 front_text refl) (blocks_few (n + 1))) (at_most 1000 back_text refl),
    )
