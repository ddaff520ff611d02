use Rattle.lrc_pages.proofs.PagesTallied.{no_page_fetch, no_page_words, tallied_fetch, tallied_other}
use Rattle.lrc_pages.proofs.page_tallies.PageTallies.note.Goals as goal

pub returns-in-Fetch : goal.returns-in-Fetch
returns-in-Fetch c = λ s h were.
    let f = c.in-Fetch in
    tallied_fetch s h c.args.event c.args.self.now c.count.new.self f.writers f.page f.records f.words f.is c.count.ensures.few c.count.ensures.tallied were

pub returns-in_default : goal.returns-in_default
returns-in_default c = λ s h were.
    let k = c.args.event.kind in
    tallied_other s h c.args.event c.args.self.now (λ n. no_page_fetch n k c.in_default.not-Fetch) (λ n. no_page_words n k c.in_default.not-Fetch) were
