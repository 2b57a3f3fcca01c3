use Rattle.std.proofs.Common.{◌≡◌, ◌+◌, ◌-◌, sym, arith}
use Rattle.std.specs.Simd.Lanes.{chunk}
use Rattle.std.proofs.lemmas.Simd.{put_chunk_is, length-chunk}
use Rattle.xs_bench.proofs.copying.copy_part.Goals as goal

pub returns : goal.returns
returns c =
    let size : c.args.at + c.args.len - c.args.at ≡ c.args.len = omega arith in
    let part : c.args.start + c.args.len - c.args.start ≡ c.args.len = omega arith in
    let long = length-chunk c.args.start c.args.len c.args.from.now c.requires.there in
    let copied = rw part at c.copy_from_slice.ensures.after in
    rw (size, copied)
    (rw long at (sym (put_chunk_is c.args.at c.args.to.now (chunk c.args.start c.args.len c.args.from.now) (omega (arith, long)))))
