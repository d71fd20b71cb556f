use Rattle.std.proofs.Common.{arith}
use Rattle.std.proofs.lemmas.Grind.{common_steps}
use Rattle.numerals.proofs.HexDigits.{hex_more, hex_whole}
use Rattle.numerals.proofs.hex.Goals as goal

pub loop-place-preserved : goal.loop-place-preserved
loop-place-preserved c =
    let e = c.push.ensures.ascii (omega (arith, c.from.ensures, c.hex_digit.ensures.ascii)) in
    record {
      bytes = grind (arith, common_steps, e, hex_more c.args.value c.loop-place.place);
      count = grind (arith, common_steps, e);
    }

pub returns : goal.returns
returns c = grind (arith, common_steps, hex_whole c.args.value)
