use Rattle.std.proofs.Common.{◌++◌, ◌+◌, ◌≡◌, take}
use Rattle.arrayvec.specs.ArrayVec.{array_vec_len}
use Rattle.zone_drafts.proofs.byte_list.ByteList.try_extend_from_slice.Given as goal

abbrev pub invariant-loop-byte : goal.invariant-loop-byte
invariant-loop-byte g l =
    (array_vec_len l.self ≡ array_vec_len l.initial.self + l.byte-index) × (l.self.items ≡ l.initial.self.items ++ take l.byte-index l.other)
