use Rattle.std.proofs.Common.{sym, ◌∙◌, arith}
use Rattle.std.proofs.lemmas.List.{take_rest}
use Rattle.lrc_script.proofs.Reading.Digits.{digits_more, digits_sum_more}
use Rattle.lrc_script.proofs.Reading.FirstNumbers.{first_number_found, first_number_last, first_number_letter, first_number_great, first_number_great_mul, first_number_great_add}
use Rattle.lrc_script.proofs.line.first_number.Goals as goal

pub returns-then-byte-eq32 : goal.returns-then-byte-eq32
returns-then-byte-eq32 c =
    rw take_rest
    (first_number_found c.args.line.now c.loop-at.at c.loop-at.sum (record {
      begins = sym c.may_begin_number.ensures ∙ c.if-not-may_begin_number.false;
      digits = c.loop-at.invariant.digits;
      sum_is = c.loop-at.invariant.sum;
      small = c.loop-at.invariant.small;
    }) c.loop-at-test.true c.if-byte-eq32.true)

pub returns-then-not-is_ascii_digit : goal.returns-then-not-is_ascii_digit
returns-then-not-is_ascii_digit c =
    first_number_letter c.args.line.now c.loop-at.at c.loop-at-test.true c.loop-at.invariant.digits c.if-byte-eq32.false
    (sym c.is_ascii_digit.ensures.value ∙ c.if-not-is_ascii_digit.true)

pub returns-in_err-checked_mul : goal.returns-in_err-checked_mul
returns-in_err-checked_mul c =
    let digit = sym c.is_ascii_digit.ensures.value ∙ c.if-not-is_ascii_digit.false in
    rw c.from_residual.ensures
    (first_number_great c.args.line.now c.loop-at.at c.loop-at-test.true c.loop-at.invariant.digits digit (λ w at.
    first_number_great_mul c.args.line.now w c.loop-at.at c.loop-at.sum at c.loop-at.invariant.sum c.in_err-checked_mul.ensures))

pub returns-in_err-sum : goal.returns-in_err-sum
returns-in_err-sum c =
    let digit = sym c.is_ascii_digit.ensures.value ∙ c.if-not-is_ascii_digit.false in
    rw c.from_residual-in_err-sum.ensures
    (first_number_great c.args.line.now c.loop-at.at c.loop-at-test.true c.loop-at.invariant.digits digit (λ w at.
    first_number_great_add c.args.line.now w c.loop-at.at c.loop-at.sum at c.loop-at.invariant.sum (λ small.
    c.in_err-sum.ensures (omega (arith, c.in_ok-checked_mul.ensures.1, c.from.ensures, small)))))

pub loop-at-preserved : goal.loop-at-preserved
loop-at-preserved c =
    let digit = sym c.is_ascii_digit.ensures.value ∙ c.if-not-is_ascii_digit.false in
    record {
      digits = digits_more c.args.line.now c.loop-at.at (omega arith) c.loop-at.invariant.digits digit;
      sum =
          omega (
            arith,
            c.in_ok-sum.ensures.1,
            c.in_ok-checked_mul.ensures.1,
            c.from.ensures,
            c.loop-at.invariant.sum,
            digits_sum_more c.args.line.now c.loop-at.at (omega arith) digit,
          );
      small = omega (arith, c.in_ok-sum.ensures.0, c.in_ok-sum.ensures.1);
    }

pub returns : goal.returns
returns c =
    first_number_last c.args.line.now c.loop-at.at c.loop-at.sum (record {
      begins = sym c.may_begin_number.ensures ∙ c.if-not-may_begin_number.false;
      digits = c.loop-at.invariant.digits;
      sum_is = c.loop-at.invariant.sum;
      small = c.loop-at.invariant.small;
    }) (omega arith)
