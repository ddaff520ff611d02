use Rattle.std.proofs.Common.{ℕ, ◌/◌, ◌%◌, Option, length, slice_index, sym, refl, ap, ◌∙◌, arith}
use Rattle.std.specs.Global.{Vec}
use Rattle.std.proofs.lemmas.List.{get_or_past}
use Rattle.std.proofs.lemmas.Option.{slice_get_read}
use Rattle.judge.specs.SparseTables.{sparse_chunk}
use Rattle.judge.proofs.sparse_table.sparse_mark_of.Goals as goal

pub returns-else-place-len : goal.returns-else-place-len
returns-else-place-len c =
    let marks = c.args.marks.now in
    let row = c.args.row in
    let chunk = c.index-marks-number.result in
    let there = slice_get_read marks (length marks) (row / 1024) chunk refl c.if-number-marks.false c.index-marks-number.is in
    let over = c.if-place-len.false in
    sym (ap (λ (o : Option (Vec ℕ)). slice_index (sparse_chunk o) (row % 1024)) there
    ∙ get_or_past chunk.items (row % 1024) 0 (omega (arith, chunk.ok.0, c.len.ensures)))
