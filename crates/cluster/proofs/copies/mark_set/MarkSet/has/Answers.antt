use Rattle.std.proofs.Common.{ℕ, ◌<◌, ◌==◌, Some, false, Bool, length, sym, ap, ◌∙◌, arith}
use Rattle.std.proofs.lemmas.Option.{slice_get-get_or}
use Rattle.std.proofs.lemmas.Nat.Bits.{shr_and_one}
use Rattle.page.specs.PageMarks.{page_marks_of}
use Rattle.page.proofs.MarkBits.{mark_bits_length, mark_bit_at}
use Rattle.cluster.proofs.copies.mark_set.MarkSet.has.Goals as goal

pub returns : goal.returns
returns c =
    let bits = c.self.inside.bits in
    let n = c.args.number in
    let long = mark_bits_length 64 bits in
    let within : n < length (page_marks_of 64 bits) = omega arith in
    rw (← c.self.view_is) (slice_get-get_or (page_marks_of 64 bits) n false within ∙ ap (λ (b : Bool). Some b)
    (mark_bit_at 64 bits n false c.requires ∙ ap (λ (k : ℕ). k == 1) (sym (shr_and_one bits n))))
