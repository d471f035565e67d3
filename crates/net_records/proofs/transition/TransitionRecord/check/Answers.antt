use Rattle.std.proofs.Common.{◌≡◌, true, false, not, ◌||◌, ltb, eqb, sym, ap, ◌∙◌, rules, tests}
use Rattle.std.proofs.lemmas.Bool.{cond-true, cond-false}
use Rattle.net_records.specs.NetRecords.{some_slot, not_zero, place_missing, mark_under_plain, empty_range, tested}
use Rattle.net_records.proofs.transition.TransitionRecord.check.Goals as goal

pub returns-then-some_slot-2 : goal.returns-then-some_slot-2
returns-then-some_slot-2 c =
    let h = c.args.header in
    let r = c.args.self.now in
    let clean : (not (eqb r.spare 0) || some_slot not_zero r) ≡ false = search (rules, tests) in
    let few : (ltb 4 r.inputs || ltb 4 r.outputs) ≡ false = search (rules, tests) in
    let places = c.some_slot-2.ensures (place_missing h) (λ side s b q. search (rules, q)) in
    let missing : some_slot (place_missing h) r ≡ true = search (rules, tests, places) in
    ap (tested tt) (sym (cond-false _ _ _ clean ∙ cond-false _ _ _ few ∙ cond-true _ _ _ missing))

pub returns-then-some_slot-3 : goal.returns-then-some_slot-3
returns-then-some_slot-3 c =
    let h = c.args.header in
    let r = c.args.self.now in
    let clean : (not (eqb r.spare 0) || some_slot not_zero r) ≡ false = search (rules, tests) in
    let few : (ltb 4 r.inputs || ltb 4 r.outputs) ≡ false = search (rules, tests) in
    let places = c.some_slot-2.ensures (place_missing h) (λ side s b q. search (rules, q)) in
    let there : some_slot (place_missing h) r ≡ false = search (rules, tests, places) in
    let marks = c.some_slot-3.ensures (mark_under_plain h) (λ side s b q. search (rules, q)) in
    let marked : some_slot (mark_under_plain h) r ≡ true = search (rules, tests, marks) in
    ap (tested tt) (sym (cond-false _ _ _ clean ∙ cond-false _ _ _ few ∙ cond-false _ _ _ there ∙ cond-true _ _ _ marked))

pub returns-then-some_slot-4 : goal.returns-then-some_slot-4
returns-then-some_slot-4 c =
    let h = c.args.header in
    let r = c.args.self.now in
    let clean : (not (eqb r.spare 0) || some_slot not_zero r) ≡ false = search (rules, tests) in
    let few : (ltb 4 r.inputs || ltb 4 r.outputs) ≡ false = search (rules, tests) in
    let places = c.some_slot-2.ensures (place_missing h) (λ side s b q. search (rules, q)) in
    let there : some_slot (place_missing h) r ≡ false = search (rules, tests, places) in
    let marks = c.some_slot-3.ensures (mark_under_plain h) (λ side s b q. search (rules, q)) in
    let plain : some_slot (mark_under_plain h) r ≡ false = search (rules, tests, marks) in
    let ranges = c.some_slot-4.ensures empty_range (λ side s b q. search (rules, q)) in
    let empty : some_slot empty_range r ≡ true = search (rules, tests, ranges) in
    ap (tested tt) (sym (cond-false _ _ _ clean ∙ cond-false _ _ _ few ∙ cond-false _ _ _ there ∙ cond-false _ _ _ plain ∙ cond-true _ _ _ empty))

pub returns : goal.returns
returns c =
    let h = c.args.header in
    let r = c.args.self.now in
    let clean : (not (eqb r.spare 0) || some_slot not_zero r) ≡ false = search (rules, tests) in
    let few : (ltb 4 r.inputs || ltb 4 r.outputs) ≡ false = search (rules, tests) in
    let places = c.some_slot-2.ensures (place_missing h) (λ side s b q. search (rules, q)) in
    let there : some_slot (place_missing h) r ≡ false = search (rules, tests, places) in
    let marks = c.some_slot-3.ensures (mark_under_plain h) (λ side s b q. search (rules, q)) in
    let plain : some_slot (mark_under_plain h) r ≡ false = search (rules, tests, marks) in
    let ranges = c.some_slot-4.ensures empty_range (λ side s b q. search (rules, q)) in
    let some : some_slot empty_range r ≡ false = search (rules, tests, ranges) in
    ap (tested tt) (sym (cond-false _ _ _ clean ∙ cond-false _ _ _ few ∙ cond-false _ _ _ there ∙ cond-false _ _ _ plain ∙ cond-false _ _ _ some))
