use Rattle.std.proofs.Common.{◌≡◌, ◌+ℤ◌, ◌∙◌, sym, subst, w32, to_z, of_z, arith}
use Rattle.std.proofs.lemmas.Int.{ints}
use Rattle.xs_scene.specs.Ranges.{IsOffset}
use Rattle.xs_meaning.specs.Places.{on_line}
use Rattle.xs_sheet.proofs.Lines.{line_is, between-offset}
use Rattle.xs_sheet.proofs.keys.coordinate.Goals as goal

-- the sum that the program makes is the place on the line, and an offset
line : (c : goal.After-div_euclid) →
    (c.args.from +ℤ c.div_euclid.result ≡ on_line c.args.from c.args.to c.args.done c.args.whole)
    × IsOffset (c.args.from +ℤ c.div_euclid.result)
line c =
    let is = line_is c.args.from c.args.to c.div_euclid.result c.args.done c.args.whole c.requires.start c.requires.end c.requires.rows
    c.requires.few c.div_euclid.ensures in (
      is,
      subst IsOffset (sym is)
          (between-offset c.args.from c.args.to _ c.requires.start c.requires.end
          (c.lines_stay_between_their_keys.ensures c.args.from c.args.to c.args.done c.args.whole (omega arith) (omega arith))),
    )

pub overflow_add-result : goal.overflow_add-result
overflow_add-result c = omega (arith, ints, (line c).1, c.requires.start)

pub returns-clause-value : goal.returns-clause-value
returns-clause-value c =
    let sum : to_z w32 (of_z w32 (to_z w32 (of_z w32 c.args.from) +ℤ to_z w32 (of_z w32 c.div_euclid.result))) ≡ c.args.from +ℤ c.div_euclid.result =
    omega (arith, ints, (line c).1, c.requires.start)
    in
    sum ∙ (line c).0

pub returns-clause-within : goal.returns-clause-within
returns-clause-within c =
    (omega (arith, ints, (line c).1, c.requires.start), omega (arith, ints, (line c).1, c.requires.start))
