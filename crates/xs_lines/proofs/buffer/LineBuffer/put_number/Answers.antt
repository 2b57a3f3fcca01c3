use Rattle.std.proofs.Common.{length, ap, arith, length-drop}
use Rattle.std.proofs.lemmas.Fmt.{length-decimal-le}
use Rattle.xs_lines.proofs.buffer.LineBuffer.put_number.Goals as goal

pub write_digits-self-inside-requires : goal.write_digits-self-inside-requires
write_digits-self-inside-requires c =
    let digits = length-decimal-le 10 c.args.n (omega arith) (omega arith) (omega arith) in
    let written = length-drop c.self.inside.start c.self.inside.bytes in
    (omega (arith, digits, written, ap length c.self.view_is), omega arith)

pub returns-clause-len : goal.returns-clause-len
returns-clause-len c =
    let digits = length-decimal-le 10 c.args.n (omega arith) (omega arith) (omega arith) in
    let before = length-drop c.self.inside.start c.self.inside.bytes in
    let now = length-drop c.write_digits-self-inside.result c.write_digits-self-inside.new.buf in
    omega (arith, digits, before, now, ap length c.self.view_is)
