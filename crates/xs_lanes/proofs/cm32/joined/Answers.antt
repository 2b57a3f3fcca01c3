use Rattle.std.proofs.Common.{◌≡◌, ℕ, List, ◌++◌, length, ap, ◌∙◌, arith, length-append}
use Rattle.std.specs.List.{range_with_len}
use Rattle.std.proofs.lemmas.Simd.{pick_l_whole}
use lib.Lanes.{pick_l}
use Rattle.xs_lanes.proofs.cm32.joined.Goals as goal

pub returns-clause-value : goal.returns-clause-value
returns-clause-value c =
    let first : List ℕ = c.args.a ++ c.args.b in
    let second : List ℕ = c.args.c ++ c.args.d in
    let first_long : length first ≡ 8 = omega (arith, length-append c.args.a c.args.b, c.fits-a.0, c.fits-b.0) in
    let second_long : length second ≡ 8 = omega (arith, length-append c.args.c c.args.d, c.fits-c.0, c.fits-d.0) in
    ap (λ xs. xs ++ pick_l 0 second (range_with_len 0 8)) (pick_l_whole 0 first 8 first_long) ∙ ap (λ ys. first ++ ys) (pick_l_whole 0 second 8 second_long)
