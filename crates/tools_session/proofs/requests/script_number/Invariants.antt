use Rattle.std.proofs.Common.{◌≡◌, ◌<◌, ◌^◌, take, drop, true}
use Rattle.std.specs.List.{list_all}
use Rattle.ti_text.specs.Digits.{decimal_value, decimal_from, is_decimal_digit}
use Rattle.tools_session.proofs.requests.script_number.Given as goal

-- the digits before the next are read
abbrev pub invariant-loop-byte : goal.invariant-loop-byte
invariant-loop-byte l = record {
  digits : list_all is_decimal_digit (take l.byte-index l.text) ≡ true;
  value : decimal_from l.value (drop l.byte-index l.text) ≡ decimal_value l.text;
  bound : l.value < 10 ^ l.byte-index;
}
