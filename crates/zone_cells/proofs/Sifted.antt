-- Sifted tokens, one more at a time.
use Rattle.std.proofs.Common.{◌≡◌, ℕ, zero, suc, ◌+◌, ◌-◌, ◌<◌, ◌≤◌, Bool, true, false, cond, ◌||◌, eqb, ◌⊎◌, List, [], ◌∷◌, ◌++◌, length, sym, refl, ap, ◌∙◌, inl, inr, ⊎_elim, arith}
use Rattle.std.proofs.lemmas.List.{append_assoc}
use Rattle.std.proofs.lemmas.Bool.{cond_both, eq-eqb, or_right, false≢true, cases_eq}
use Rattle.zone_walks.specs.Walks.{Inside}
use Rattle.zones.specs.Predecessors.{among, others}
use Rattle.zone_cells.specs.Sifted.{agrees, sifted}

-- a token is taken or passed over, and those after it follow
pub sifted_step : (matched : Bool) (ms taken : List ℕ) (token end : ℕ) → token < end → (hit : Bool) → agrees (among token ms) matched ≡ hit → cond hit (taken ++ token ∷ []) taken ++ sifted matched ms (token + 1) (end - (token + 1)) ≡ taken ++ sifted matched ms token (end - token)
sifted_step matched ms taken token end here hit is =
    let next : token + 1 ≡ suc token = omega arith in
    let left : end - token ≡ suc (end - (token + 1)) = omega (arith, here) in
    ap (λ t. cond hit (taken ++ token ∷ []) taken ++ sifted matched ms t (end - (token + 1))) next
    ∙ either hit
    ∙ ap (λ t. taken ++ cond t (token ∷ rest) rest) (sym is)
    ∙ ap (λ n. taken ++ sifted matched ms token n) (sym left)
  where
    rest : List ℕ
    rest = sifted matched ms (suc token) (end - (token + 1))

    either : (t : Bool) → cond t (taken ++ token ∷ []) taken ++ rest ≡ taken ++ cond t (token ∷ rest) rest
    either true = append_assoc taken (token ∷ []) rest
    either false = refl

pub sifted_few : (matched : Bool) (ms : List ℕ) (first n : ℕ) → length (sifted matched ms first n) ≤ n
sifted_few matched ms first zero = omega arith
sifted_few matched ms first (suc n) =
    let h = sifted_few matched ms (suc first) n in
    cond_both (agrees (among first ms) matched) (first ∷ sifted matched ms (suc first) n) (sifted matched ms (suc first) n) (λ l. length l ≤ suc n) (λ _. omega arith) (λ _. omega arith)

pub sifted-others : (ms : List ℕ) (first n : ℕ) → sifted false ms first n ≡ others ms first n
sifted-others ms first zero = refl
sifted-others ms first (suc n) = other (among first ms) first (sifted false ms (suc first) n) (others ms (suc first) n) (sifted-others ms (suc first) n)
  where
    other : (t : Bool) (x : ℕ) (xs ys : List ℕ) → xs ≡ ys → cond (agrees t false) (x ∷ xs) xs ≡ cond t ys (x ∷ ys)
    other true x xs ys e = e
    other false x xs ys e = ap (λ zs. x ∷ zs) e

sifted_found : (ms : List ℕ) (first n v : ℕ) → first ≤ v → v < first + n → among v ms ≡ true → among v (sifted true ms first n) ≡ true
sifted_found ms first zero v low high h = absurd (omega arith)
sifted_found ms first (suc n) v low high h =
    ⊎_elim
    (λ (e : v ≡ first).
    here (among first ms) v first (sifted true ms (suc first) n) e (ap (λ k. among k ms) (sym e) ∙ h))
    (λ (more : suc first ≤ v).
    later (among first ms) v first (sifted true ms (suc first) n) (sifted_found ms (suc first) n v more (omega arith) h))
    (from_or_past first v low)
  where
    here : (t : Bool) (v x : ℕ) (xs : List ℕ) → v ≡ x → t ≡ true → among v (cond (agrees t true) (x ∷ xs) xs) ≡ true
    here true v x xs e t = ap (λ b. b || among v xs) (eq-eqb v x e)
    here false v x xs e t = absurd (false≢true t)

    later : (t : Bool) (v x : ℕ) (xs : List ℕ) → among v xs ≡ true → among v (cond (agrees t true) (x ∷ xs) xs) ≡ true
    later true v x xs h = or_right (eqb v x) (among v xs) h
    later false v x xs h = h

    from_or_past : (a b : ℕ) → a ≤ b → (b ≡ a) ⊎ (suc a ≤ b)
    from_or_past a b le = ⊎_elim (λ e. inl (sym e)) (λ ne. inr (omega (arith, le, ne))) (cases_eq a b)

-- matched tokens are sifted out
pub sifted_among : (ms : List ℕ) (m v : ℕ) → 1 ≤ v → v < suc m → among v ms ≡ true → among v (0 ∷ sifted true ms 1 m) ≡ true
sifted_among ms m v some few h = or_right (eqb v 0) (among v (sifted true ms 1 m)) (sifted_found ms 1 m v some (omega arith) h)

sifted_below : (matched : Bool) (ms : List ℕ) (first n end : ℕ) → first + n ≤ end → Inside end (sifted matched ms first n)
sifted_below matched ms first zero end le = tt
sifted_below matched ms first (suc n) end le =
    cond_both (agrees (among first ms) matched) (first ∷ sifted matched ms (suc first) n) (sifted matched ms (suc first) n) (Inside end) (λ _. (omega arith, sifted_below matched ms (suc first) n end (omega arith))) (λ _. sifted_below matched ms (suc first) n end (omega arith))

pub sifted_inside : (ms : List ℕ) (m : ℕ) → Inside (suc m) (0 ∷ sifted true ms 1 m)
sifted_inside ms m = (omega arith, sifted_below true ms 1 m (suc m) (omega arith))
