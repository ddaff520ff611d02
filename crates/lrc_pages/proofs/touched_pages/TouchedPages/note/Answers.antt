use Rattle.lrc_pages.proofs.PagesTouched.{touched_access, touched_other}
use Rattle.lrc_pages.proofs.touched_pages.TouchedPages.note.Goals as goal

pub returns-in-Some : goal.returns-in-Some
returns-in-Some c = λ s h were is.
    let x = rw c.in-Some.is at is in
    touched_access s h c.args.event c.args.self.now c.mark.new.self c.in-Some.page x c.mark.ensures were

pub returns-in_default : goal.returns-in_default
returns-in_default c = λ s h were is.
    let x = rw c.in_default.is at is in
    touched_other s h c.args.event c.args.self.now x were
