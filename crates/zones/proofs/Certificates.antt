-- A certificate shows its target safe.
use Rattle.std.proofs.Common.{ℕ, ◌≤◌, List, [], ◌∷◌, length, subst, inl, inr, ⊎_elim}
use Rattle.bounds.specs.Kinds.{Kind}
use Rattle.nets.specs.Markings.{Marking}
use Rattle.nets.specs.Nets.{Net, Every, transition_of}
use Rattle.nets.specs.Runs.{Delayed, Fired, Run}
use Rattle.nets.specs.Runs.Run.{stay, delay, fire}
use Rattle.zones.specs.Safety.{Apart, Certificate, Safe, Some, StepsVouched, Vouched, starts_at}
use Rattle.zones.specs.Zones.{Zone, Satisfies}
use Rattle.zones.proofs.Delays.{delay_satisfies}
use Rattle.zones.proofs.Firings.{firing_came}
use Rattle.zones.proofs.Forms.{satisfied_from}
use Rattle.zones.proofs.Grids.{grids_satisfy}
use Rattle.zones.proofs.Vouched.{vouching_satisfies}

-- an element with one property, when all have another
pub record Both {X : Type 0} (P Q : X → Type 0) : Type 0 where
  pub element : X
  pub has : P element
  pub keeps : Q element

pub some_every : {X : Type 0} (P Q : X → Type 0) (xs : List X) → Some P xs → Every Q xs → Both P Q
some_every P Q [] some every = absurd some
some_every P Q (x ∷ xs) (inl h) every = record { element = x; has = h; keeps = every.0 }
some_every P Q (x ∷ xs) (inr h) every = some_every P Q xs h every.1

pub some_map : {X : Type 0} (P Q : X → Type 0) → ((x : X) → P x → Q x) → (xs : List X) → Some P xs → Some Q xs
some_map P Q f [] some = absurd some
some_map P Q f (x ∷ xs) (inl h) = inl (f x h)
some_map P Q f (x ∷ xs) (inr h) = inr (some_map P Q f xs h)

module _ {B : Type 0} (kind : Kind B) (k : ℕ) (grid : 1 ≤ k) (net : Net B) (listed : List (Zone B)) where
  -- a listed zone has the marking
  abbrev Listed : Marking → Type 0
  Listed m = Some (λ z. Satisfies kind k z m) listed

  vouched_listed : (w : Zone B) (m : Marking) → Vouched kind listed w → Satisfies kind k w m → Listed m
  vouched_listed w m vouched s = some_map _ (λ z. Satisfies kind k z m) (λ v h. vouching_satisfies kind k grid v w h.0 m h.1 s) listed vouched

  module _ (steps : Every (StepsVouched kind net listed) listed) where
    delay_listed : (d : ℕ) (m n : Marking) → Delayed d m n → Listed n → Listed m
    delay_listed d m n delayed some =
        let b = some_every (λ z. Satisfies kind k z n) (StepsVouched kind net listed) listed some steps in
        let v = b.keeps.delay in
        vouched_listed v.before m v.vouched (delay_satisfies kind k grid d b.element v.before m n b.keeps.small v.is delayed b.has)

    fire_listed : (t : ℕ) (m n : Marking) → 1 ≤ t → t ≤ length net.transitions → Fired kind k (transition_of net t) m n → Listed n → Listed m
    fire_listed t m n first last fired some =
        let b = some_every (λ z. Satisfies kind k z n) (StepsVouched kind net listed) listed some steps in
        let c = firing_came kind k grid (transition_of net t) b.element m n fired b.has in
        ⊎_elim (λ void. absurd (c.possible void)) (λ v. vouched_listed v.before m v.vouched (c.before v.before v.is)) (b.keeps.firings t c.matching first last c.is)

    run_listed : {m n : Marking} → Run kind k net m n → Listed n → Listed m
    run_listed (stay {m} {n} p) some = some_map (λ z. Satisfies kind k z n) (λ z. Satisfies kind k z m) (λ z. satisfied_from kind k grid z m n p) listed some
    run_listed (delay {m} {n} d p r) some = delay_listed d m n p (run_listed r some)
    run_listed (fire {m} {n} t first last f r) some = fire_listed t m n first last f (run_listed r some)

pub certificates_are_sound : {B : Type 0} (kind : Kind B) (net : Net B) (starts : ℕ → Marking → Type 0) (target : Zone B) (listed : List (Zone B)) → Certificate kind net starts target listed → Safe kind net starts target
certificates_are_sound kind net starts target listed c covering =
    let k = covering.grid in
    let end = vouched_listed kind k covering.some net listed target covering.last c.covered covering.satisfied in
    let start = run_listed kind k covering.some net listed c.steps covering.run end in
    let b = some_every (λ z. Satisfies kind k z covering.start) (Apart kind starts) listed start c.apart in
    b.keeps k covering.start covering.some covering.begins b.has

-- a zone without a marking of whole ages is without the same marking counted on each grid
pub apart_at : {B : Type 0} (kind : Kind B) (initial : Marking) (z : Zone B) → (Satisfies kind 1 z initial → ⊥) → Apart kind (starts_at initial) z
apart_at kind initial z apart k m grid begins s = apart (grids_satisfy kind k grid z initial (subst (Satisfies kind k z) begins s))

apart_all : {B : Type 0} (kind : Kind B) (initial : Marking) (listed : List (Zone B)) → Every (λ z. Satisfies kind 1 z initial → ⊥) listed → Every (Apart kind (starts_at initial)) listed
apart_all kind initial [] h = tt
apart_all kind initial (z ∷ zs) h = (apart_at kind initial z h.0, apart_all kind initial zs h.1)

pub sound_by_units : {B : Type 0} (kind : Kind B) (net : Net B) (initial : Marking) (target : Zone B) (listed : List (Zone B)) → Vouched kind listed target → Every (StepsVouched kind net listed) listed → Every (λ z. Satisfies kind 1 z initial → ⊥) listed → Safe kind net (starts_at initial) target
sound_by_units kind net initial target listed covered steps apart =
    certificates_are_sound kind net (starts_at initial) target listed (record {
      covered = covered;
      steps = steps;
      apart = apart_all kind initial listed apart;
    })
