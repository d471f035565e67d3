use Rattle.std.proofs.Common.{◌≡◌}
use Rattle.docket_rules.specs.Worlds.{with_book}
use Rattle.docket_example.specs.Checking.{EntryStands, blank_page, line_net, listing, proving}
use Rattle.docket_example.proofs.checking.check.Given as goal

abbrev pub invariant-loop-number : goal.invariant-loop-number
invariant-loop-number l = record {
  stands : EntryStands (line_net l.line) (listing l.certificate l.number) (with_book l.docket l.cells l.book);
  lent : l.scratch ≡ blank_page;
}

abbrev pub invariant-loop-taken : goal.invariant-loop-taken
invariant-loop-taken l = record {
  stands : EntryStands (line_net l.line) (proving l.certificate l.taken) (with_book l.docket l.cells l.book);
  lent : l.scratch ≡ blank_page;
}
