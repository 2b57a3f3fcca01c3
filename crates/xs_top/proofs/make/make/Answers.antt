use Rattle.std.proofs.Common.{◌≡◌, ◌∙◌, Some, refl, ap, rules}
use Rattle.std.proofs.lemmas.Result.{err_from_is_err_and}
use Rattle.xs_outside.specs.Files.{file_in}
use Rattle.xs_top.proofs.Making.{making_wanted, ran_beside}
use Rattle.xs_top.proofs.make.make.Goals as goal

pub returns-in_err-generated-clause-ran : goal.returns-in_err-generated-clause-ran
returns-in_err-generated-clause-ran g c = λ files asked faults.
    let p = err_from_is_err_and c.from_residual.result c.from_residual.ensures.1 in
    rw (p.1, p.2) (making_wanted c.args.seed c.args.rows _)

pub make_rows-done-requires-clause-files : goal.make_rows-done-requires-clause-files
make_rows-done-requires-clause-files g c = ap (λ l. Some (file_in l)) (c.new-library.ensures ∙ c.in_ok-generated.ensures.files)

pub returns-clause-ran : goal.returns-clause-ran
returns-clause-ran g c = λ files asked faults.
    let done = c.make_rows-done.ensures in
    let same = done.same in
    let whole = c.generated_scenes_are_rendered_whole.ensures c.args.seed c.args.rows c.requires.least c.requires.most in
    let told = ap (λ l. Some (file_in l)) (c.new-library.ensures ∙ c.in_ok-generated.ensures.files) in
    let shelf : c.shelf-1.given.0 ≡ c.make_rows-done.new.outside.shelf.now = search rules in
    let notes : c.notes-1.given.0 ≡ c.make_rows-done.new.outside.notes.now = search rules in
    rw (shelf, notes)
    (ran_beside c.args.seed c.args.rows whole _ _ c.make_rows-done.result (done.did _ told) done.leaves done.quiet refl refl files asked faults)
