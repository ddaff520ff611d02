use Rattle.std.proofs.Common.{length, drop, ap, arith}
use Rattle.std.specs.Fmt.{decimal}
use Rattle.std.proofs.lemmas.Fmt.{length-decimal-le}
use Rattle.std.proofs.lemmas.List.{length-append, length-drop}
use Rattle.lrc_report.proofs.report_line.ReportLine.put_digits.Goals as goal

pub write_digits-self-inside-requires : goal.write_digits-self-inside-requires
write_digits-self-inside-requires c =
    let few = length-decimal-le 20 c.args.number (omega arith) (omega (arith, c.ranges.number.fits))
    c.ranges.number.fits in
    let left = length-drop c.self.inside.start c.self.inside.bytes in
    let seen = ap length c.self.view_is in
    let many = c.self.invariant.0 in
    (omega (arith, few, left, seen, many, c.requires), omega (arith, many, c.self.invariant.1))

pub returns-clause-length : goal.returns-clause-length
returns-clause-length c =
    let few = length-decimal-le 20 c.args.number (omega arith) (omega (arith, c.ranges.number.fits))
    c.ranges.number.fits in
    let seen = ap length c.self.view_is in
    let made = ap length c.write_digits-self-inside.ensures.written in
    let whole = length-append (decimal c.args.number) (drop c.self.inside.start c.self.inside.bytes) in
    omega (arith, few, seen, made, whole)
