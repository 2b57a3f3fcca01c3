use Rattle.std.proofs.Common.{◌≡◌, ◌-◌, ◌%◌, ◌^◌, map, cond, ltb, length, sym, ap, ◌∙◌, arith}
use Rattle.std.specs.Simd.Lanes.{zip2}
use Rattle.std.proofs.lemmas.Simd.{tops_compared, mask_l-mod, length-zip2}
use Rattle.std.proofs.lemmas.Bool.Decides.{nat_tests}
use lib.Lanes.{mask_l, top}
use mir.Syntax.{w8}
use Rattle.xs_rawfile.proofs.Blocks.{none_exceeds}
use Rattle.xs_rawfile.proofs.premultiplied.passes.Goals as goal

pub returns : goal.returns
returns c = λ none.
    let x = c.args.block in
    let m = c.mattes.result in
    let long : length m ≡ length x = c.mattes.ensures.long ∙ sym c.fits-block.0 in
    let lanes = zip2 ltb m x in
    let short : length lanes ≡ 16 = length-zip2 ltb m x long ∙ c.mattes.ensures.long in
    let bits = ap (λ ms. mask_l ms % 2 ^ 64) (tops_compared w8 ltb m x) ∙ mask_l-mod lanes 64 (omega (arith, short)) in
    let zero : mask_l (map (top 7) (zip2 (λ a b. cond (ltb a b) (2 ^ 8 - 1) 0) m x)) % 2 ^ 64 ≡ 0 = grind (arith, nat_tests) in
    none_exceeds x (rw c.mattes.ensures.value at (sym bits ∙ zero))
