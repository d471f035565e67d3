-- What the bounds of this crate mean: each value is a limit, and each limit is a value.
use Rattle.std.specs.Prelude.{◌≡◌, true, false, refl}
use Rattle.bounds.specs.Kinds.{Kind}
use Rattle.bounds.specs.Limits.{Limit}
use Rattle.bounds.specs.Limits.Limit.{number, unlimited}
use Rattle.bounds.specs.Codings.{Coding, Held, coded_kind}
use Rattle.bounds_own.specs.declared.OwnBound.{OwnBound}
use Rattle.bounds_own.specs.declared.OwnBound.TheVariants.{AtMost, Below, NoLimit}

abbrev pub own_limit : OwnBound → Limit
own_limit (AtMost c) = number c false
own_limit (Below c) = number c true
own_limit NoLimit = unlimited

abbrev pub own_of : Limit → OwnBound
own_of (number c false) = AtMost c
own_of (number c true) = Below c
own_of unlimited = NoLimit

pub own_back : (b : OwnBound) → own_of (own_limit b) ≡ b
own_back (AtMost c) = refl
own_back (Below c) = refl
own_back NoLimit = refl

pub own_reads : (l : Limit) → Held true l → own_limit (own_of l) ≡ l
own_reads (number c false) h = refl
own_reads (number c true) h = refl
own_reads unlimited h = refl

abbrev pub own_coding : Coding OwnBound
own_coding =
    record {
      marks = true;
      view = own_limit;
      of = own_of;
      back = own_back;
      reads = own_reads;
      marked = λ b e. refl;
    }

abbrev pub own_kind : Kind OwnBound
own_kind = coded_kind own_coding
