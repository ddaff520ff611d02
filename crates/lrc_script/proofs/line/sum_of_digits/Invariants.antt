use Rattle.std.proofs.Common.{◌≡◌, ◌<◌, ◌^◌, true, take}
use Rattle.std.specs.Char.{is_ascii_digit}
use Rattle.std.specs.List.{list_all}
use Rattle.std.specs.Str.Parse.{digits_value}
use Rattle.lrc_script.proofs.line.sum_of_digits.Given as goal

-- the digits so far, and their sum
abbrev pub invariant-loop-byte : goal.invariant-loop-byte
invariant-loop-byte l = record {
  digits : list_all is_ascii_digit (take l.byte-index l.word) ≡ true;
  sum : l.sum ≡ digits_value 10 (take l.byte-index l.word);
  small : l.sum < 2 ^ 32;
}
