use Rattle.std.proofs.Common.{◌≡◌, ◌+◌, ◌-◌, ◌≤◌, map}
use Rattle.std.specs.List.{range_with_len}
use Rattle.arrayvec.specs.ArrayVec.{array_vec_len}
use Rattle.docket_records.specs.ZoneRecords.{place_at, tokens_of}
use Rattle.zone_reading.proofs.form.TestedRecord.places.Given as goal

abbrev pub invariant-loop-token : goal.invariant-loop-token
invariant-loop-token l =
    (l.token ≤ tokens_of l.self.record.bytes.now + 1) × (array_vec_len l.places ≡ l.token - 1) × (l.places.items ≡ map (place_at l.self.record.bytes.now) (range_with_len 1 (l.token - 1)))
