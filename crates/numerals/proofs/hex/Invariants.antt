use Rattle.std.proofs.Common.{◌≡◌, length}
use Rattle.numerals.proofs.HexDigits.{hex_from}
use Rattle.numerals.proofs.hex.Given as goal

abbrev pub invariant-loop-place : goal.invariant-loop-place
invariant-loop-place l = record {
  bytes : l.text.bytes ≡ hex_from l.value l.place;
  count : length l.text.bytes ≡ l.place;
}
