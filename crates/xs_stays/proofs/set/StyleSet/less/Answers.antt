use Rattle.std.proofs.Common.{◌≡◌, ◌≤◌, ℕ, Bool, false, ◌&&◌, not, length, arith, ap, ◌∙◌}
use Rattle.std.proofs.lemmas.List.{get_or_past}
use Rattle.std.proofs.lemmas.List.FromFn.{length-map-range_with_len}
use Rattle.xs_tint.specs.Filters.{dropped_by}
use Rattle.xs_stays.specs.Sets.{styles_in, up_to_last}
use Rattle.xs_stays.proofs.Sets.{set-of}
use Rattle.xs_stays.proofs.set.StyleSet.less.Goals as goal

pub of-requires : goal.of-requires
of-requires c =
    let f : ℕ → Bool = λ id. styles_in c.args.self.now id && not (dropped_by c.args.f.now id) in
    omega (arith, ap length c.in_ok-flags.ensures, length-map-range_with_len f 0 (c.len-count.result), c.len-count.ensures.len, c.len-count.ensures.few)

pub returns : goal.returns
returns c =
    let f : ℕ → Bool = λ id. styles_in c.args.self.now id && not (dropped_by c.args.f.now id) in
    let past : (i : ℕ) → c.len-count.result ≤ i → f i ≡ false =
    λ i le. ap (λ (b : Bool). b && not (dropped_by c.args.f.now i)) (get_or_past c.args.self.now i false (omega (arith, le, c.len-count.ensures.len))) in
    ap styles_in (c.of.ensures ∙ ap up_to_last c.in_ok-flags.ensures) ∙ set-of f (c.len-count.result) past
