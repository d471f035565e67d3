-- One element taken out of a list, and permuted lists that are images of others.
use Rattle.std.proofs.Common.{◌≡◌, ℕ, ◌⊎◌, List, [], ◌∷◌, ◌++◌, map, sym, refl, ap, inl, inr, arith}
use Rattle.nets.specs.Markings.{Permuted}
use Rattle.nets.specs.Markings.Permuted.{none, keep, swap, join}
use Rattle.nets.proofs.Bags.{permuted_same, permuted_equal}

-- ---- taking one element out
-- Taken t xs ys: xs without one t is ys
pub data Taken {X : Type 0} (t : X) : List X → List X → Type 0 where
  here : (x : X) (xs : List X) → x ≡ t → Taken t (x ∷ xs) xs
  there : (x : X) {xs ys : List X} → Taken t xs ys → Taken t (x ∷ xs) (x ∷ ys)

pub record Without {X : Type 0} (t : X) (xs ys : List X) : Type 0 where
  pub left : List X
  pub taken : Taken t xs left
  pub same : Permuted left ys

pub taken_first : {X : Type 0} (t : X) {xs ys : List X} → Taken t xs ys → Permuted xs (t ∷ ys)
taken_first t (here x xs e) = permuted_equal (ap (λ y. y ∷ xs) e)
taken_first t (there x {xs} {ys} h) = join (keep x (taken_first t h)) (swap x t ys)

-- what is taken out of one list can be taken out of every other order of it
pub taken_back : {X : Type 0} (t : X) {xs ys zs : List X} → Permuted xs ys → Taken t ys zs → Without t xs zs
taken_back t none h = elim h [ ]
taken_back t (keep x {xs} {ys} p) (here x' ys' e) = record { left = xs; taken = here x xs e; same = p }
taken_back t (keep x {xs} {ys} p) (there x' h) =
    let r = taken_back t p h in
    record { left = x ∷ r.left; taken = there x r.taken; same = keep x r.same }
taken_back t (swap x y xs) (here y' zs e) = record { left = x ∷ xs; taken = there x (here y xs e); same = permuted_same (x ∷ xs) }
taken_back t (swap x y xs) (there y' (here x' zs e)) = record { left = y ∷ xs; taken = here x (y ∷ xs) e; same = permuted_same (y ∷ xs) }
taken_back t (swap x y xs) (there y' (there x' {ys = zs} h)) = record { left = x ∷ (y ∷ zs); taken = there x (there y h); same = swap x y zs }
taken_back t (join p q) h =
    let r = taken_back t q h in
    let s = taken_back t p r.taken in
    record { left = s.left; taken = s.taken; same = join s.same r.same }

pub record InFront {X : Type 0} (t : X) (xs ys zs : List X) : Type 0 where
  pub left : List X
  pub taken : Taken t xs left
  pub is : zs ≡ left ++ ys

pub record Behind {X : Type 0} (t : X) (xs ys zs : List X) : Type 0 where
  pub left : List X
  pub taken : Taken t ys left
  pub is : zs ≡ xs ++ left

further : {X : Type 0} (t x : X) (xs ys zs : List X) → InFront t xs ys zs ⊎ Behind t xs ys zs → InFront t (x ∷ xs) ys (x ∷ zs) ⊎ Behind t (x ∷ xs) ys (x ∷ zs)
further t x xs ys zs (inl r) = inl (record { left = x ∷ r.left; taken = there x r.taken; is = ap (λ l. x ∷ l) r.is })
further t x xs ys zs (inr r) = inr (record { left = r.left; taken = r.taken; is = ap (λ l. x ∷ l) r.is })

pub taken_append : {X : Type 0} (t : X) (xs ys zs : List X) → Taken t (xs ++ ys) zs → InFront t xs ys zs ⊎ Behind t xs ys zs
taken_append t [] ys zs h = inr (record { left = zs; taken = h; is = refl })
taken_append t (x ∷ xs) ys zs (here x' zs' e) = inl (record { left = xs; taken = here x xs e; is = refl })
taken_append t (x ∷ xs) ys zs (there x' {ys = ls} h) = further t x xs ys ls (taken_append t xs ys ls h)

-- what is taken out of an image is the image of an element
pub record Origin {X Y : Type 0} (f : X → Y) (t : Y) (xs : List X) (ys : List Y) : Type 0 where
  pub element : X
  pub left : List X
  pub taken : Taken element xs left
  pub element_is : f element ≡ t
  pub left_is : ys ≡ map f left

pub taken_map : {X Y : Type 0} (f : X → Y) (t : Y) (xs : List X) (ys : List Y) → Taken t (map f xs) ys → Origin f t xs ys
taken_map f t [] ys h = elim h [ ]
taken_map f t (x ∷ xs) ys (here y ys' e) = record { element = x; left = xs; taken = here x xs refl; element_is = e; left_is = refl }
taken_map f t (x ∷ xs) ys (there y {ys = ls} h) =
    let r = taken_map f t xs ls h in
    record { element = r.element; left = x ∷ r.left; taken = there x r.taken; element_is = r.element_is; left_is = ap (λ l. f x ∷ l) r.left_is }

-- ---- images
pub record Unmapped {X Y : Type 0} (f : X → Y) (xs : List X) (ys : List Y) : Type 0 where
  pub list : List X
  pub same : Permuted xs list
  pub is : ys ≡ map f list

no_cons : {Y : Type 0} (y : Y) (ys : List Y) → y ∷ ys ≡ [] → ⊥
no_cons y ys e = let z : ◌≡◌ {A = ℕ} 0 1 = cc in absurd (omega arith)

cons_head : {Y : Type 0} (y z : Y) (ys zs : List Y) → y ∷ ys ≡ z ∷ zs → y ≡ z
cons_head y z ys zs e = cc

cons_tail : {Y : Type 0} (y z : Y) (ys zs : List Y) → y ∷ ys ≡ z ∷ zs → ys ≡ zs
cons_tail y z ys zs e = cc

-- another order of an image is the image of another order
pub permuted_unmap : {X Y : Type 0} (f : X → Y) {zs ys : List Y} → Permuted zs ys → (xs : List X) → zs ≡ map f xs → Unmapped f xs ys
permuted_unmap f none [] e = record { list = []; same = none; is = refl }
permuted_unmap f none (x ∷ xs) e = absurd (no_cons _ _ (sym e))
permuted_unmap f (keep y p) [] e = absurd (no_cons _ _ e)
permuted_unmap f (keep y {xs = zs} {ys} p) (x ∷ xs) e =
    let r = permuted_unmap f p xs (cons_tail _ _ _ _ e) in
    let first = cons_head y (f x) zs (map f xs) e in
    let others = r.is in
    record { list = x ∷ r.list; same = keep x r.same; is = cc }
permuted_unmap f (swap y z zs) [] e = absurd (no_cons _ _ e)
permuted_unmap f (swap y z zs) (x ∷ []) e = absurd (no_cons _ _ (cons_tail _ _ _ _ e))
permuted_unmap f (swap y z zs) (x ∷ (w ∷ xs)) e =
    let first = cons_head y (f x) (z ∷ zs) (map f (w ∷ xs)) e in
    let more = cons_tail y (f x) (z ∷ zs) (map f (w ∷ xs)) e in
    let second = cons_head z (f w) zs (map f xs) more in
    let last = cons_tail z (f w) zs (map f xs) more in
    record { list = w ∷ (x ∷ xs); same = swap x w xs; is = cc }
permuted_unmap f (join p q) xs e =
    let r = permuted_unmap f p xs e in
    let s = permuted_unmap f q r.list r.is in
    record { list = s.list; same = join r.same s.same; is = s.is }

pub record Parted {X Y : Type 0} (f : X → Y) (xs : List X) (ys : List Y) : Type 0 where
  pub front : List X
  pub back : List X
  pub is : xs ≡ front ++ back
  pub front_is : ys ≡ map f front

pub parted_map : {X Y : Type 0} (f : X → Y) (xs : List X) (ys zs : List Y) → ys ++ zs ≡ map f xs → Parted f xs ys
parted_map f xs [] zs e = record { front = []; back = xs; is = refl; front_is = refl }
parted_map f [] (y ∷ ys) zs e = absurd (no_cons _ _ e)
parted_map f (x ∷ xs) (y ∷ ys) zs e =
    let r = parted_map f xs ys zs (cons_tail _ _ _ _ e) in
    let first = cons_head y (f x) (ys ++ zs) (map f xs) e in
    let others = r.front_is in
    record { front = x ∷ r.front; back = r.back; is = ap (λ l. x ∷ l) r.is; front_is = cc }

-- the front of another order of an image
pub record Front {X Y : Type 0} (f : X → Y) (xs : List X) (ys : List Y) : Type 0 where
  pub front : List X
  pub back : List X
  pub same : Permuted xs (front ++ back)
  pub is : ys ≡ map f front

pub front_unmapped : {X Y : Type 0} (f : X → Y) (xs : List X) (ys zs : List Y) → Permuted (map f xs) (ys ++ zs) → Front f xs ys
front_unmapped f xs ys zs p =
    let r = permuted_unmap f p xs refl in
    let s = parted_map f r.list ys zs r.is in
    record { front = s.front; back = s.back; same = join r.same (permuted_equal s.is); is = s.front_is }
