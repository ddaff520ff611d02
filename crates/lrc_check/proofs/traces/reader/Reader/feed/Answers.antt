use Rattle.std.proofs.Common.{◌++◌, refl, subst, sym, ◌∙◌}
use Rattle.lrc_check.specs.Traces.FedText.{IsFedTextOf}
use Rattle.lrc_check.proofs.traces.Feeding.{feeding_fault_further, feeding_fault_never_begins, feeding_fed_text, feeding_further, feeding_line_number, feeding_line_refused, feeding_read_further}
use Rattle.lrc_check.proofs.traces.LabelLines.{label_lines_left}
use Rattle.lrc_check.proofs.traces.reader.Reader.feed.Goals as goal

pub returns-in-Ok-clause-fed : goal.returns-in-Ok-clause-fed
returns-in-Ok-clause-fed c = λ bytes front told h.
    let was = feeding_fed_text c.self.inside.gone c.self.inside.headed c.self.inside.begun c.self.inside.labels c.self.inside.unfinished.items c.self.inside.passed in
    let now = feeding_fed_text c.self.inside.gone c.self.inside.headed c.read_piece.new.begun c.read_piece.new.labels c.read_piece.new.unfinished.items c.read_piece.new.passed in
    feeding_further was now bytes c.args.piece.now front told (c.read_piece.ensures.on.begun front)
    (c.in-Ok.ensures.text front) c.in-Ok.ensures.labels
    (label_lines_left c.self.inside.headed c.self.inside.gone _ _ told c.self.inside.labels c.read_piece.new.labels
    c.in-Ok.ensures.lines)
    c.in-Ok.ensures.passed
    (subst (IsFedTextOf bytes front told) (sym c.self.view_is) h)

pub returns-in-Ok-clause-read : goal.returns-in-Ok-clause-read
returns-in-Ok-clause-read c = λ bytes front told h.
    let was = feeding_fed_text c.self.inside.gone c.self.inside.headed c.self.inside.begun c.self.inside.labels c.self.inside.unfinished.items c.self.inside.passed in
    let now = feeding_fed_text c.self.inside.gone c.self.inside.headed c.read_piece.new.begun c.read_piece.new.labels c.read_piece.new.unfinished.items c.read_piece.new.passed in
    feeding_read_further was now bytes c.args.piece.now front told (c.read_piece.ensures.on.begun front) (c.read_piece.ensures.read front)
    (subst (IsFedTextOf bytes front told) (sym c.self.view_is) h)

pub returns-in-Err-clause-read : goal.returns-in-Err-clause-read
returns-in-Err-clause-read c = λ bytes front told h.
    let was = feeding_fed_text c.self.inside.gone c.self.inside.headed c.self.inside.begun c.self.inside.labels c.self.inside.unfinished.items c.self.inside.passed in
    let now = feeding_fed_text c.self.inside.gone c.self.inside.headed c.read_piece.new.begun c.read_piece.new.labels c.keep_refused_line.new.unfinished.items c.read_piece.new.passed in
    feeding_read_further was now bytes c.args.piece.now front told (c.read_piece.ensures.on.begun front) (c.read_piece.ensures.read front)
    (subst (IsFedTextOf bytes front told) (sym c.self.view_is) h)

pub returns-in-Err-clause-number : goal.returns-in-Err-clause-number
returns-in-Err-clause-number c =
    c.in-Err.ensures.number
    ∙ feeding_line_number c.self.inside.gone c.self.inside.headed c.read_piece.new.begun c.read_piece.new.labels c.keep_refused_line.new.unfinished.items
    c.read_piece.ensures.on.left

pub returns-in-Err-clause-only : goal.returns-in-Err-clause-only
returns-in-Err-clause-only c = λ ne bytes front told h.
    let was = feeding_fed_text c.self.inside.gone c.self.inside.headed c.self.inside.begun c.self.inside.labels c.self.inside.unfinished.items c.self.inside.passed in
    let e = c.in-Err.fault in
    feeding_fault_never_begins (bytes ++ c.args.piece.now) e.0 e.1 ne
    (feeding_fault_further was bytes c.args.piece.now front told e.0 e.1 (c.in-Err.ensures.fault ne front)
    (subst (IsFedTextOf bytes front told) (sym c.self.view_is) h))

pub returns-in-Err-clause-fault : goal.returns-in-Err-clause-fault
returns-in-Err-clause-fault c = λ ne bytes front told h.
    let was = feeding_fed_text c.self.inside.gone c.self.inside.headed c.self.inside.begun c.self.inside.labels c.self.inside.unfinished.items c.self.inside.passed in
    let e = c.in-Err.fault in
    feeding_fault_further was bytes c.args.piece.now front told e.0 e.1 (c.in-Err.ensures.fault ne front)
    (subst (IsFedTextOf bytes front told) (sym c.self.view_is) h)

pub returns-in-Err-clause-refused : goal.returns-in-Err-clause-refused
returns-in-Err-clause-refused c = λ ne bytes front told h.
    let x = c.self.inside in
    let now = feeding_fed_text x.gone x.headed c.read_piece.new.begun c.read_piece.new.labels c.keep_refused_line.new.unfinished.items c.read_piece.new.passed in
    feeding_line_refused x.gone x.headed x.begun c.read_piece.new.begun x.labels x.unfinished.items x.passed bytes c.args.piece.now front told now refl refl
    (subst (IsFedTextOf bytes front told) (sym c.self.view_is) h) (c.in-Err.ensures.refused ne)
