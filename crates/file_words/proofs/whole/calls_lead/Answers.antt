use Rattle.file_words.proofs.whole.calls_lead.Goals as goal

pub returns-clause-pages : goal.returns-clause-pages
returns-clause-pages g c = c.calls_keep_pages.ensures (g.N.NetStore.net c.args.store.now) c.keeps_limits.ensures
