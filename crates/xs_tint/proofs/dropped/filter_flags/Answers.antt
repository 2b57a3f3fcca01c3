use Rattle.std.proofs.Common.{◌≡◌, arith, refl, not, ◌∙◌, get_or, replicate, ◌<◌, length, length-set, rules}
use Rattle.xs_tint.proofs.Marks.{flags_of_more, flags_of_none}
use Rattle.xs_tint.proofs.dropped.filter_flags.Goals as goal

pub loop-style-init : goal.loop-style-init
loop-style-init c =
    let all : c.in_ok-flags.flags.items ≡ replicate 4096 c.args.keep = search rules in
    flags_of_none c.args.keep c.in_ok-flags.flags.items all

pub loop-style-preserved : goal.loop-style-preserved
loop-style-preserved c =
    let flags = c.loop-style.flags.items in
    let styles = c.args.styles.now in
    let keep = c.args.keep in
    let i = c.loop-style.style-index in
    let within : i < length styles = omega arith in
    let small : get_or styles i 0 < length flags = omega (arith, c.requires i 0 within, c.loop-style.invariant.0) in (
      length-set flags (get_or styles i 0) (not keep) ∙ c.loop-style.invariant.0,
      flags_of_more keep styles flags i (get_or styles i 0) within refl small c.loop-style.invariant.1,
    )
