use Rattle.std.proofs.Common.{◌≡◌, ◌≤◌, ℕ, Bool, false, not, length, arith, ap, ◌∙◌}
use Rattle.std.proofs.lemmas.List.FromFn.{length-map-range_with_len}
use Rattle.xs_pixel.specs.Channels.{Channels}
use Rattle.xs_meaning.specs.Palettes.{is_clear_pixel}
use Rattle.xs_palette.specs.Styles.{style_of}
use Rattle.xs_stays.specs.Sets.{styles_in, up_to_last}
use Rattle.xs_stays.proofs.Sets.{set-of}
use Rattle.xs_stays.proofs.set.StyleSet.unclear.Goals as goal

pub of-requires : goal.of-requires
of-requires c =
    let f : ℕ → Bool = λ id. not (is_clear_pixel (style_of c.args.p.now id)) in
    omega (arith, ap length c.in_ok-flags.ensures, length-map-range_with_len f 0 (c.styles_before_last-count.result), c.styles_before_last-count.ensures.few)

pub returns : goal.returns
returns c =
    let f : ℕ → Bool = λ id. not (is_clear_pixel (style_of c.args.p.now id)) in
    let past : (i : ℕ) → c.styles_before_last-count.result ≤ i → f i ≡ false =
    λ i le. ap (λ (p : Channels). not (is_clear_pixel p)) (c.styles_before_last-count.ensures.past i le) in
    ap styles_in (c.of.ensures ∙ ap up_to_last c.in_ok-flags.ensures) ∙ set-of f (c.styles_before_last-count.result) past
