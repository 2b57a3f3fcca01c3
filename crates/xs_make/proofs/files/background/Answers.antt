use Rattle.std.proofs.Common.{ℕ, List, pos, sym, ap, ◌∙◌, subst}
use Rattle.std.proofs.lemmas.Bool.{false≢true}
use Rattle.xs_rawfile.specs.declared.drawing.RawKind.TheVariants.{Colour}
use Rattle.xs_rawfile.specs.Raw.{IsRaw, raw}
use Rattle.xs_make.proofs.Raws.{background_is_raw}
use Rattle.xs_make.proofs.files.background.Goals as goal

pub unreachable-requires : goal.unreachable-requires
unreachable-requires c =
    let bytes = c.of.ensures ∙ c.in_ok-bytes.ensures.bytes in
    let valid = subst (λ (xs : List ℕ). IsRaw (raw (pos 0) (pos 0) 192 128 Colour xs)) (sym bytes) (background_is_raw c.args.draws.now) in
    false≢true (c.in-None.ensures.valid.1 valid)

pub returns-clause-drawing : goal.returns-clause-drawing
returns-clause-drawing c =
    c.in-Some.ensures.value ∙ ap (λ (xs : List ℕ). raw (pos 0) (pos 0) 192 128 Colour xs) (c.of.ensures ∙ c.in_ok-bytes.ensures.bytes)
