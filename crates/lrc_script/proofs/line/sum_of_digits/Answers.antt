use Rattle.std.proofs.Common.{sym, ◌∙◌, arith}
use Rattle.lrc_script.proofs.Reading.Digits.{digits_more, digits_sum_more, digits_sum_past_mul, digits_sum_past_add, digits_sum_all}
use Rattle.lrc_script.proofs.line.sum_of_digits.Goals as goal

pub returns-in_err-checked_mul : goal.returns-in_err-checked_mul
returns-in_err-checked_mul c =
    let digit = sym c.is_ascii_digit.ensures.value ∙ c.if-not-is_ascii_digit.false in
    c.from_residual.ensures
    ∙ sym (digits_sum_past_mul c.args.word.now c.loop-byte.byte-index c.loop-byte.sum (omega arith) digit
    c.loop-byte.invariant.sum c.in_err-checked_mul.ensures)

pub returns-in_err-sum : goal.returns-in_err-sum
returns-in_err-sum c =
    let digit = sym c.is_ascii_digit.ensures.value ∙ c.if-not-is_ascii_digit.false in
    c.from_residual-in_err-sum.ensures
    ∙ sym (digits_sum_past_add c.args.word.now c.loop-byte.byte-index c.loop-byte.sum (omega arith) digit
    c.loop-byte.invariant.sum
    (λ small. c.in_err-sum.ensures (omega (arith, c.in_ok-checked_mul.ensures.1, c.from.ensures, small))))

pub loop-byte-preserved : goal.loop-byte-preserved
loop-byte-preserved c =
    let digit = sym c.is_ascii_digit.ensures.value ∙ c.if-not-is_ascii_digit.false in
    record {
      digits = digits_more c.args.word.now c.loop-byte.byte-index (omega arith) c.loop-byte.invariant.digits digit;
      sum =
          omega (
            arith,
            c.in_ok-sum.ensures.1,
            c.in_ok-checked_mul.ensures.1,
            c.from.ensures,
            c.loop-byte.invariant.sum,
            digits_sum_more c.args.word.now c.loop-byte.byte-index (omega arith) digit,
          );
      small = omega (arith, c.in_ok-sum.ensures.0, c.in_ok-sum.ensures.1);
    }

pub returns : goal.returns
returns c =
    digits_sum_all c.args.word.now c.loop-byte.byte-index c.loop-byte.sum (omega arith) c.loop-byte.invariant.digits
    c.loop-byte.invariant.sum c.loop-byte.invariant.small
