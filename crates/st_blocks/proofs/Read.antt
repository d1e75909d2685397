-- What a read of a part of one block gives.
use Rattle.std.proofs.Common.{◌≡◌, ℕ, ◌+◌, ◌*◌, ◌/◌, ◌%◌, ◌<◌, ◌≤◌, Option, Some, None, List, length, get_or, ◌++◌, take, drop, replicate, sym, ◌∙◌, ap, subst, arith, length-take, length-drop}
use Rattle.std.proofs.lemmas.List.{get_or-take, get_or-drop, get_or-replicate, length-replicate}
use Rattle.st_rack.specs.Story.{Content}
use Rattle.st_rack.specs.Device.{cells}
use Rattle.st_rack.proofs.Cells.{cells_is}
use Rattle.st_blocks.specs.Kept.{byte_in, bytes_of}

abbrev zero_byte : ℕ
zero_byte = 0

is_part : (f : Content) (at n : ℕ) (xs : List ℕ) → length xs ≡ n → ((k : ℕ) → k < n → f (at + k) ≡ get_or xs k 0) → xs ≡ cells f at n
is_part f at n xs size each =
    sym (cells_is f at xs (λ k lt. each k (omega (arith, lt, size)))) ∙ ap (cells f at) size

-- what is put in is given
pub front_of : (done n : ℕ) (old new piece given : List ℕ) → length given ≡ n → piece ≡ given → take (done + length piece) new ≡ take done old ++ piece → take (done + n) new ≡ take done old ++ given
front_of done n old new piece given size same front =
    ap (λ (m : ℕ). take (done + m) new) (sym size) ∙ subst (λ (l : List ℕ). take (done + length l) new ≡ take done old ++ l) same front

module _ (places : List (Option ℕ)) (room : List ℕ) (at n : ℕ) (one : at % 65536 + n ≤ 65536) where
  same_block : (k : ℕ) → k < n → (o : Option ℕ) → get_or places (at / 65536) None ≡ o → bytes_of places room (at + k) ≡ byte_in o room (at % 65536 + k)
  same_block k lt o is =
      let block : (at + k) / 65536 ≡ at / 65536 = omega (arith, one, lt) in
      let offset : (at + k) % 65536 ≡ at % 65536 + k = omega (arith, one, lt) in
      ap (λ (j : ℕ). byte_in (get_or places j None) room ((at + k) % 65536)) block ∙ ap (λ (q : Option ℕ). byte_in q room ((at + k) % 65536)) is ∙ ap (byte_in o room) offset

  pub read_kept : (p : ℕ) → get_or places (at / 65536) None ≡ Some p → 65536 * (p + 1) ≤ length room
      → take n (drop (65536 * p + at % 65536) room) ≡ cells (bytes_of places room) at n
  read_kept p is there = is_part (bytes_of places room) at n (take n (drop (65536 * p + at % 65536) room)) size
      (λ k lt.
      let place : 65536 * p + at % 65536 + k ≡ 65536 * p + (at % 65536 + k) = omega arith in
      same_block k lt (Some p) is ∙ sym (get_or-take n (drop (65536 * p + at % 65536) room) k 0 lt ∙ get_or-drop (65536 * p + at % 65536) room k 0 ∙ ap (λ (j : ℕ). get_or room j 0) place))
    where
      size : length (take n (drop (65536 * p + at % 65536) room)) ≡ n
      size = omega (arith, length-take {A = ℕ}, length-drop {A = ℕ}, one, there)

  pub read_blank : get_or places (at / 65536) None ≡ None → replicate n zero_byte ≡ cells (bytes_of places room) at n
  read_blank is = is_part (bytes_of places room) at n (replicate n zero_byte) (length-replicate n zero_byte) (λ k lt. same_block k lt None is ∙ sym (get_or-replicate n k zero_byte zero_byte lt))
