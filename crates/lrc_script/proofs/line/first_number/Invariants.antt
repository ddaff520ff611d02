use Rattle.std.proofs.Common.{◌≡◌, ◌<◌, ◌^◌, true, take}
use Rattle.std.specs.Char.{is_ascii_digit}
use Rattle.std.specs.List.{list_all}
use Rattle.std.specs.Str.Parse.{digits_value}
use Rattle.lrc_script.proofs.line.first_number.Given as goal

-- the digits so far, and their sum
abbrev pub invariant-loop-at : goal.invariant-loop-at
invariant-loop-at l = record {
  digits : list_all is_ascii_digit (take l.at l.line) ≡ true;
  sum : l.sum ≡ digits_value 10 (take l.at l.line);
  small : l.sum < 2 ^ 32;
}
