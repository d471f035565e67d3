-- A part of a list written item by item, and a list of fixed length that begins with another.
use Rattle.std.proofs.Common.{◌≡◌, ℕ, zero, suc, ◌+◌, ◌-◌, ◌<◌, ◌≤◌, List, [], ◌∷◌, ◌++◌, map, length, get_or, take, drop, set, replicate, refl, sym, ap, ◌∙◌, arith}
use Rattle.std.proofs.lemmas.List.{append_assoc, drop_more, length-take-le, set-append_right, take-append-drop}
use Rattle.std.proofs.lemmas.List.FromFn.{length-map-range_with_len, map-range_with_len_more}
use Rattle.std.specs.List.{range_with_len}
use Rattle.docket.specs.Dockets.{with_part}

module _ {X : Type 0} (f : ℕ → X) (start : ℕ) (old : List X) where
  -- so many items are written from the start on
  abbrev pub Written : ℕ → List X → Type 0
  Written n now = now ≡ with_part start n (map f (range_with_len 0 n)) old

  pub none_written : Written 0 old
  none_written = let e : start + 0 ≡ start = omega arith in sym (ap (λ n. take start old ++ drop n old) e ∙ take-append-drop start old)

  one_more : (n : ℕ) (x : X) → start + n < length old → x ≡ f n → set (map f (range_with_len 0 n) ++ drop (start + n) old) n x ≡ map f (range_with_len 0 (n + 1)) ++ drop (start + (n + 1)) old
  one_more n x room is =
      let before = map f (range_with_len 0 n) in
      let none : n - n ≡ 0 = omega arith in
      let next : start + n + 1 ≡ start + (n + 1) = omega arith in
      let later = drop (start + n + 1) old in
      set-append_right before (drop (start + n) old) n n x (length-map-range_with_len f 0 n) (omega arith)
      ∙ ap (λ k. before ++ set (drop (start + n) old) k x) none
      ∙ ap (λ ys. before ++ set ys 0 x) (drop_more old (start + n) x room)
      ∙ ap (λ y. before ++ (y ∷ later)) is
      ∙ sym (append_assoc before (f n ∷ []) later)
      ∙ ap (λ xs. xs ++ later) (sym (map-range_with_len_more f 0 n n (omega arith)))
      ∙ ap (λ k. map f (range_with_len 0 (n + 1)) ++ drop k old) next

  pub one_written : (n : ℕ) (x : X) (now : List X) → start + n < length old → x ≡ f n → Written n now → Written (n + 1) (set now (start + n) x)
  one_written n x now room is so_far =
      let first = take start old in
      let rest = map f (range_with_len 0 n) ++ drop (start + n) old in
      let left : start + n - start ≡ n = omega arith in
      ap (λ xs. set xs (start + n) x) so_far
      ∙ set-append_right first rest start (start + n) x (length-take-le start old (omega (arith, room))) (omega arith)
      ∙ ap (λ k. first ++ set rest k x) left
      ∙ ap (λ xs. first ++ xs) (one_more n x room is)

  pub all_written : (n size : ℕ) (now : List X) → size ≤ n → n ≤ size → Written n now → Written size now
  all_written n size now low high h = let e : n ≡ size = omega (arith, low, high) in h ∙ ap (λ k. with_part start k (map f (range_with_len 0 k)) old) e

-- what is past the end of a list reads as 0
pub padded : (f : ℕ → ℕ) (xs : List ℕ) (a n : ℕ) → ((i : ℕ) → f (a + i) ≡ get_or xs i 0) → length xs ≤ n → map f (range_with_len a n) ≡ xs ++ replicate (n - length xs) 0
padded f [] a zero reads few = refl
padded f [] a (suc n) reads few =
    let here : a + 0 ≡ a = omega arith in
    let rest = padded f [] (a + 1) n (λ i. let e : a + 1 + i ≡ a + suc i = omega arith in ap f e ∙ reads (suc i)) (omega arith) in
    let e : n - 0 ≡ n = omega arith in
    let g : suc n - 0 ≡ suc n = omega arith in
    ap (λ y. y ∷ map f (range_with_len (a + 1) n)) (ap f (sym here) ∙ reads 0)
    ∙ ap (λ ys. 0 ∷ ys) (rest ∙ ap (λ k. replicate k 0) e)
    ∙ sym (ap (λ k. replicate k 0) g)
padded f (x ∷ xs) a zero reads few = absurd (omega (arith, few))
padded f (x ∷ xs) a (suc n) reads few =
    let here : a + 0 ≡ a = omega arith in
    let rest = padded f xs (a + 1) n (λ i. let e : a + 1 + i ≡ a + suc i = omega arith in ap f e ∙ reads (suc i)) (omega (arith, few)) in
    let e : n - length xs ≡ suc n - suc (length xs) = omega arith in
    ap (λ y. y ∷ map f (range_with_len (a + 1) n)) (ap f (sym here) ∙ reads 0)
    ∙ ap (λ ys. x ∷ ys) (rest ∙ ap (λ k. xs ++ replicate k 0) e)
