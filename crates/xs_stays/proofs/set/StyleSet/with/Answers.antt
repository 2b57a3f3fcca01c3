use Rattle.std.proofs.Common.{◌≡◌, ◌≤◌, ℕ, Bool, false, ◌||◌, length, arith, ap, ap₂, ◌∙◌}
use Rattle.std.proofs.lemmas.List.{get_or_past}
use Rattle.std.proofs.lemmas.List.FromFn.{length-map-range_with_len}
use Rattle.xs_stays.specs.Sets.{styles_in, up_to_last}
use Rattle.xs_stays.proofs.Sets.{set-of}
use Rattle.xs_stays.proofs.set.StyleSet.with.Goals as goal

pub of-requires : goal.of-requires
of-requires c =
    let f : ℕ → Bool = λ id. styles_in c.args.self.now id || styles_in c.args.other.now id in
    let most = c.max-count.ensures in
    let one = c.len.ensures.len in
    let two = c.len-2.ensures.len in
    omega (
      arith,
      ap length c.in_ok-flags.ensures,
      length-map-range_with_len f 0 (c.max-count.result),
      most,
      one,
      two,
      c.len.ensures.few,
      c.len-2.ensures.few,
    )

pub returns : goal.returns
returns c =
    let f : ℕ → Bool = λ id. styles_in c.args.self.now id || styles_in c.args.other.now id in
    let most = c.max-count.ensures in
    let one = c.len.ensures.len in
    let two = c.len-2.ensures.len in
    let past : (i : ℕ) → c.max-count.result ≤ i → f i ≡ false =
    λ i le. ap₂ (λ (x y : Bool). x || y)
    (get_or_past c.args.self.now i false (omega (arith, le, most, one, two)))
    (get_or_past c.args.other.now i false (omega (arith, le, most, one, two))) in
    ap styles_in (c.of.ensures ∙ ap up_to_last c.in_ok-flags.ensures) ∙ set-of f (c.max-count.result) past
