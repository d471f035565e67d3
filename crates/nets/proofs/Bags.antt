-- Permuted lists: backwards, with other lists before or after, turned round, and under a map.
use Rattle.std.proofs.Common.{◌≡◌, List, [], ◌∷◌, ◌++◌, map, sym, subst}
use Rattle.std.proofs.lemmas.List.{append-nil}
use Rattle.nets.specs.Markings.{Permuted}
use Rattle.nets.specs.Markings.Permuted.{none, keep, swap, join}

pub permuted_same : {X : Type 0} (xs : List X) → Permuted xs xs
permuted_same [] = none
permuted_same (x ∷ xs) = keep x (permuted_same xs)

pub permuted_equal : {X : Type 0} {xs ys : List X} → xs ≡ ys → Permuted xs ys
permuted_equal {xs} e = subst (Permuted xs) e (permuted_same xs)

pub permuted_back : {X : Type 0} {xs ys : List X} → Permuted xs ys → Permuted ys xs
permuted_back none = none
permuted_back (keep x p) = keep x (permuted_back p)
permuted_back (swap x y xs) = swap y x xs
permuted_back (join p q) = join (permuted_back q) (permuted_back p)

pub permuted_after : {X : Type 0} (zs : List X) {xs ys : List X} → Permuted xs ys → Permuted (zs ++ xs) (zs ++ ys)
permuted_after [] p = p
permuted_after (z ∷ zs) p = keep z (permuted_after zs p)

pub permuted_before : {X : Type 0} (zs : List X) {xs ys : List X} → Permuted xs ys → Permuted (xs ++ zs) (ys ++ zs)
permuted_before zs none = permuted_same zs
permuted_before zs (keep x p) = keep x (permuted_before zs p)
permuted_before zs (swap x y xs) = swap x y (xs ++ zs)
permuted_before zs (join p q) = join (permuted_before zs p) (permuted_before zs q)

pub permuted_both : {X : Type 0} {xs ys vs ws : List X} → Permuted xs ys → Permuted vs ws → Permuted (xs ++ vs) (ys ++ ws)
permuted_both {ys} {vs} p q = join (permuted_before vs p) (permuted_after ys q)

-- one element moves past a list
pub permuted_past : {X : Type 0} (x : X) (xs ys : List X) → Permuted (x ∷ (xs ++ ys)) (xs ++ (x ∷ ys))
permuted_past x [] ys = permuted_same (x ∷ ys)
permuted_past x (y ∷ xs) ys = join (swap x y (xs ++ ys)) (keep y (permuted_past x xs ys))

pub permuted_turned : {X : Type 0} (xs ys : List X) → Permuted (xs ++ ys) (ys ++ xs)
permuted_turned [] ys = permuted_equal (sym (append-nil ys))
permuted_turned (x ∷ xs) ys = join (keep x (permuted_turned xs ys)) (permuted_past x ys xs)

pub permuted_map : {X Y : Type 0} (f : X → Y) {xs ys : List X} → Permuted xs ys → Permuted (map f xs) (map f ys)
permuted_map f none = none
permuted_map f (keep x p) = keep (f x) (permuted_map f p)
permuted_map f (swap x y xs) = swap (f x) (f y) (map f xs)
permuted_map f (join p q) = join (permuted_map f p) (permuted_map f q)
